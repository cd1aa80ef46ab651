use Rattle.std.proofs.Common.{◌+◌, ap, subst, sym, ◌∙◌}
use Rattle.mq_acl.specs.Views.{row_view}
use Rattle.mq_acl.specs.declared.rules.Rules.{Rules}
use Rattle.mq_differences.specs.Ranks.{rank}
use Rattle.mq_lint.specs.Cases.{NoneAt, Precedes}
use Rattle.mq_lint.specs.Left.{left_of}
use Rattle.mq_lint.proofs.LeftLemmas.{left_within}
use Rattle.mq_lint.proofs.CaseLemmas.{alone_needed, last_needed, needless_elsewhere, needless_in}
use Rattle.mq_lint.proofs.CaseLemmas.{next_needed}
use Rattle.mq_lint.proofs.case.Case.is_needed_in.Goals as goal

pub returns-then-not-is_judge-clause-needless : goal.returns-then-not-is_judge-clause-needless
returns-then-not-is_judge-clause-needless c = λ _.
    let q = c.args.self.now.question in
    needless_elsewhere q.asked.now (left_of q.asked.now c.args.self.now.called.now)
    (left_within q.asked.now c.args.self.now.called.now) q.clients (row_view q.row.now) c.args.direction c.args.self.now.inside
    (sym c.is_judge.ensures ∙ c.if-not-is_judge.true)

pub returns-then-branch-clause-needed : goal.returns-then-branch-clause-needed
returns-then-branch-clause-needed c = λ _.
    let q = c.args.self.now.question in
    alone_needed q.asked.now (left_of q.asked.now c.args.self.now.called.now)
    (left_within q.asked.now c.args.self.now.called.now) q.clients (row_view q.row.now) c.args.direction c.args.self.now.inside
    (sym c.is_judge.ensures ∙ c.if-not-is_judge.false)
    (c.in_ok-grants_alone.ensures.some c.if-branch.true)

pub returns-then-branch-2-clause-needed : goal.returns-then-branch-2-clause-needed
returns-then-branch-2-clause-needed c = λ _.
    let q = c.args.self.now.question in
    next_needed q.asked.now (left_of q.asked.now c.args.self.now.called.now)
    (left_within q.asked.now c.args.self.now.called.now) q.clients (row_view q.row.now) c.args.direction c.args.self.now.inside
    (sym c.is_judge.ensures ∙ c.if-not-is_judge.false)
    (subst (λ n. Precedes q.asked.now (left_of q.asked.now c.args.self.now.called.now) q.clients (row_view q.row.now) c.args.direction (n + 1))
    (c.rank-place.ensures.rank ∙ ap (λ (r : Rules). rank r (row_view q.row.now)) q.can_ask.rules_are)
    (c.in_ok-precedes.ensures.some c.if-branch-2.true))

pub returns-clause-needed : goal.returns-clause-needed
returns-clause-needed c = λ found.
    let q = c.args.self.now.question in
    last_needed q.asked.now (left_of q.asked.now c.args.self.now.called.now)
    (left_within q.asked.now c.args.self.now.called.now) q.clients (row_view q.row.now) c.args.direction c.args.self.now.inside
    (sym c.is_judge.ensures ∙ c.if-not-is_judge.false)
    (subst (λ n. Precedes q.asked.now (left_of q.asked.now c.args.self.now.called.now) q.clients (row_view q.row.now) c.args.direction (n + 3))
    (c.rank-place.ensures.rank ∙ ap (λ (r : Rules). rank r (row_view q.row.now)) q.can_ask.rules_are)
    (c.in_ok-before_last.ensures.some found))

pub returns-clause-needless : goal.returns-clause-needless
returns-clause-needless c = λ none.
    let q = c.args.self.now.question in
    needless_in q.asked.now (left_of q.asked.now c.args.self.now.called.now)
    (left_within q.asked.now c.args.self.now.called.now) q.clients (row_view q.row.now) c.args.direction c.args.self.now.inside
    (sym c.is_judge.ensures ∙ c.if-not-is_judge.false)
    (subst (λ n. NoneAt q.asked.now (left_of q.asked.now c.args.self.now.called.now) q.clients (row_view q.row.now) c.args.direction (n + 1))
    (c.rank-place.ensures.rank ∙ ap (λ (r : Rules). rank r (row_view q.row.now)) q.can_ask.rules_are)
    (c.in_ok-precedes.ensures.none c.if-branch-2.false))
    (subst (λ n. NoneAt q.asked.now (left_of q.asked.now c.args.self.now.called.now) q.clients (row_view q.row.now) c.args.direction (n + 3))
    (c.rank-place.ensures.rank ∙ ap (λ (r : Rules). rank r (row_view q.row.now)) q.can_ask.rules_are)
    (c.in_ok-before_last.ensures.none none))
    (c.in_ok-grants_alone.ensures.none c.if-branch.false)
