use Rattle.std.proofs.Common.{All, Contains, sym, subst}
use Rattle.mq_differences.specs.Questions.{asked_in, rules_in}
use Rattle.mq_differences.proofs.ContainLemmas.{gain_asks}
use Rattle.mq_differences.proofs.ReportLemmas.{added_grows, added_shown}
use Rattle.mq_differences.proofs.gains.add_kind.Goals as goal

pub find_kind-requires-clause-must : goal.find_kind-requires-clause-must
find_kind-requires-clause-must c =
    subst (All (Contains (asked_in c.args.question.now).rows)) (sym c.requires.must)
    (gain_asks c.args.question.now c.args.gain.now c.requires.question c.requires.gain).0

pub find_kind-requires-clause-cover : goal.find_kind-requires-clause-cover
find_kind-requires-clause-cover c =
    subst (All (Contains (asked_in c.args.question.now).rows)) (sym c.requires.cover)
    (gain_asks c.args.question.now c.args.gain.now c.requires.question c.requires.gain).1

pub returns-clause-grows : goal.returns-clause-grows
returns-clause-grows c =
    added_grows c.args.question.now.lists.now.old.now c.args.question.now.lists.now.new.now
    (asked_in c.args.question.now) c.in_ok-difference.difference
    c.args.report.now.differences.items c.add.new.self.differences.items c.in_ok-add.ensures
    c.in_ok-difference.ensures.sound

pub returns-clause-shown : goal.returns-clause-shown
returns-clause-shown c = λ client topic user p kind e.
    added_shown (rules_in c.args.question.now) c.args.question.now.lists.now.old.now
    c.args.question.now.lists.now.new.now c.args.question.now.way c.args.question.now.direction
    client user topic c.in_ok-difference.difference c.args.report.now.differences.items
    c.add.new.self.differences.items c.in_ok-add.ensures
    (c.in_ok-difference.ensures.shown client topic user p kind e)
