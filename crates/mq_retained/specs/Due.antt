-- What the index by deadline shows.
use Rattle.std.specs.Prelude.{List, map}
use Rattle.mq_retained.specs.Deadlines.{Pair}
use Rattle.mq_retained.specs.declared.retained.deadlines.Due.{Due}
use Rattle.mq_retained.specs.declared.retained.deadlines.Deadlines.TheInside as in_deadlines

abbrev pub due_of : Due → Pair
due_of due = (due.deadline, due.topic.value)

abbrev pub pairs_of : in_deadlines.Inside → List Pair
pairs_of inside = map due_of inside.pairs.keys
