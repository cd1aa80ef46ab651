use Rattle.std.proofs.Common.{◌≡◌}
use Rattle.std.proofs.lemmas.Result.{IfErr-weaker}
use Rattle.mq_acl_args.specs.CommandLine.{question_view}
use Rattle.mqroute_acl.proofs.ProgramLemmas.{unread_of}
use Rattle.mqroute_acl.proofs.program.answer.Goals as goal

pub returns-in-Compare-clause-ok : goal.returns-in-Compare-clause-ok
returns-in-Compare-clause-ok g c = rw c.in-Compare.is c.answer_compare.ensures.ok

pub returns-in-Compare-clause-unread : goal.returns-in-Compare-clause-unread
returns-in-Compare-clause-unread g c = rw c.in-Compare.is c.answer_compare.ensures.unread

pub returns-in-Through-clause-ok : goal.returns-in-Through-clause-ok
returns-in-Through-clause-ok g c = rw c.in-Through.is c.answer_through.ensures.ok

pub returns-in-Through-clause-unread : goal.returns-in-Through-clause-unread
returns-in-Through-clause-unread g c = rw c.in-Through.is c.answer_through.ensures.unread

pub returns-in-Why-clause-ok : goal.returns-in-Why-clause-ok
returns-in-Why-clause-ok g c = rw c.in-Why.is c.answer_why.ensures.ok

pub returns-in-Why-clause-unread : goal.returns-in-Why-clause-unread
returns-in-Why-clause-unread g c = rw c.in-Why.is c.answer_why.ensures.unread

pub returns-in-WhyEach-clause-ok : goal.returns-in-WhyEach-clause-ok
returns-in-WhyEach-clause-ok g c = rw c.in-WhyEach.is c.answer_each.ensures.ok

pub returns-in-WhyEach-clause-unread : goal.returns-in-WhyEach-clause-unread
returns-in-WhyEach-clause-unread g c = rw c.in-WhyEach.is c.answer_each.ensures.unread

pub returns-in-Lint-clause-ok : goal.returns-in-Lint-clause-ok
returns-in-Lint-clause-ok g c =
    rw c.in-Lint.is
    (rw (rw c.in-Lint.is at c.as_slice.ensures.value) at c.answer_lint.ensures.ok)

pub returns-in-Lint-clause-unread : goal.returns-in-Lint-clause-unread
returns-in-Lint-clause-unread g c =
    rw c.in-Lint.is
    (rw (rw c.in-Lint.is at c.as_slice.ensures.value) at c.answer_lint.ensures.unread)

pub returns-in-Reach-clause-ok : goal.returns-in-Reach-clause-ok
returns-in-Reach-clause-ok g c = rw c.in-Reach.is c.answer_reach.ensures.ok

pub returns-in-Reach-clause-unread : goal.returns-in-Reach-clause-unread
returns-in-Reach-clause-unread g c =
    IfErr-weaker c.answer_reach.result _ _
    (λ failure follows two. unread_of (g.I.Read.remaining c.args.input.now)
    (question_view c.args.request.question) (c.answer_reach.new.out ≡ c.args.out.now) (follows two))
    c.answer_reach.ensures.unread

pub returns-in-Who-clause-ok : goal.returns-in-Who-clause-ok
returns-in-Who-clause-ok g c = rw c.in-Who.is c.answer_who.ensures.ok

pub returns-in-Who-clause-unread : goal.returns-in-Who-clause-unread
returns-in-Who-clause-unread g c = rw c.in-Who.is c.answer_who.ensures.unread

pub returns-in-Test-clause-ok : goal.returns-in-Test-clause-ok
returns-in-Test-clause-ok g c =
    rw c.in-Test.is (rw c.in-Test.is at c.answer_test.ensures.ok)

pub returns-in-Test-clause-unread : goal.returns-in-Test-clause-unread
returns-in-Test-clause-unread g c = rw c.in-Test.is c.answer_test.ensures.unread
