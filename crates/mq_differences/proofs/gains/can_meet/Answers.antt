use Rattle.std.proofs.Common.{All, Contains, sym, subst}
use Rattle.mq_differences.specs.Questions.{asked_in}
use Rattle.mq_differences.proofs.ContainLemmas.{gain_asks}
use Rattle.mq_differences.proofs.gains.can_meet.Goals as goal

pub find_kind-requires-clause-must : goal.find_kind-requires-clause-must
find_kind-requires-clause-must c =
    subst (All (Contains (asked_in c.args.question.now).rows)) (sym c.requires.must)
    (gain_asks c.args.question.now c.args.gain.now c.requires.question c.requires.gain).0

pub find_kind-requires-2-clause-must : goal.find_kind-requires-2-clause-must
find_kind-requires-2-clause-must c =
    subst (All (Contains (asked_in c.args.question.now).rows)) (sym c.requires.must)
    (gain_asks c.args.question.now c.args.gain.now c.requires.question c.requires.gain).0
