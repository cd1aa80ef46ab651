use Rattle.std.proofs.Common.{◌≡◌, ◌∙◌, ◌||◌, ap, map, sym, List, Option, Some}
use Rattle.std.specs.Option.{option_map}
use Rattle.mq_retained.specs.Deadlines.{Pair, names, has_pair}
use Rattle.mq_retained.specs.Due.{due_of}
use Rattle.mq_retained.proofs.DeadlineLemmas.{has-insert}
use Rattle.mq_retained.proofs.retained.deadlines.Deadlines.insert.Goals as goal

pub returns-clause-ok : goal.returns-clause-ok
returns-clause-ok c = λ d topic.
    let pair : Some (due_of c.in-Some.due) ≡ option_map (λ d. (d, c.args.topic.now.value)) c.args.deadline
    = ap (option_map due_of) (sym c.in-Some.is) ∙ c.in_ok-due.ensures in
    ap (λ l. has_pair d topic (map due_of l)) c.in_ok-insert.ensures.keys
    ∙ has-insert c.in-Some.due c.self.inside.pairs.keys d topic
    ∙ ap (λ (o : Option Pair). names o d topic
    || has_pair d topic (map due_of c.self.inside.pairs.keys)) pair
    ∙ ap (λ (old : List Pair). names (option_map (λ d. (d, c.args.topic.now.value)) c.args.deadline) d
    topic || has_pair d topic old) c.self.view_is
