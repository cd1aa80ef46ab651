use Rattle.std.proofs.Common.{◌≡◌, ◌∙◌, ◌≤◌, ap, map, sym, subst, List, arith}
use Rattle.std.specs.BTreeMap.Range.{IsLeBy, IsLtBy}
use Rattle.mq_retained.specs.Deadlines.{Pair, TakesDue, NoneDue}
use Rattle.mq_retained.specs.Due.{due_of}
use Rattle.mq_retained.proofs.DeadlineLemmas.{first-taken, none-due, due_cmp, head-is}
use Rattle.std.proofs.lemmas.List.Elements.{recursion_from_All}
use Rattle.mq_retained.proofs.retained.deadlines.Deadlines.take_due.Goals as goal

pub returns-then-not-is_due-clause-none : goal.returns-then-not-is_due-clause-none
returns-then-not-is_due-clause-none c =
    subst (λ (pairs : List Pair). NoneDue c.args.moment pairs) c.self.view_is
    (none-due c.args.moment c.in_ok-first.first.now c.self.inside.pairs.keys (omega arith)
    (recursion_from_All (IsLeBy due_cmp c.in_ok-first.first.now) c.self.inside.pairs.keys
    c.in_ok-first.ensures.all_from))

pub returns-clause-some : goal.returns-clause-some
returns-clause-some c =
    let first = c.in_ok-due.due in
    let rest = c.pop_first.new.self.keys in
    let whole = c.in_ok-due.ensures.removal in
    let is_first : c.in_ok-first.first.now ≡ first =
    head-is c.self.inside.pairs.keys first rest _ whole c.in_ok-first.ensures.first in
    let due : first.deadline ≤ c.args.moment =
    subst (λ due. due.deadline ≤ c.args.moment) is_first (omega arith) in
    subst (λ (pairs : List Pair). TakesDue c.args.moment first.topic.value pairs (map due_of rest))
    (ap (map due_of) (sym whole) ∙ c.self.view_is)
    (first-taken c.args.moment first rest due
    (recursion_from_All (IsLtBy due_cmp first) rest c.in_ok-due.ensures.all_above))
