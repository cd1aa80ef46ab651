use Rattle.std.proofs.Common.{ap, map, sym, subst, List, Option, Some}
use Rattle.std.specs.Option.{option_map}
use Rattle.mq_retained.specs.Deadlines.{Pair, Drops}
use Rattle.mq_retained.specs.Due.{due_of}
use Rattle.mq_retained.proofs.DeadlineLemmas.{has-remove}
use Rattle.mq_retained.proofs.retained.deadlines.Deadlines.remove.Goals as goal

pub returns : goal.returns
returns c =
    subst (λ (o : Option Pair). Drops o c.args.self.now (map due_of c.remove.new.self.keys))
    (ap (option_map due_of) (sym c.in-Some.is))
    (subst (λ (old : List Pair). Drops (Some (due_of c.in-Some.due)) old
    (map due_of c.remove.new.self.keys)) c.self.view_is
    (rw c.remove.ensures.keys
    (has-remove c.in-Some.due c.self.inside.pairs.keys c.len-count.ensures.ordered)))
