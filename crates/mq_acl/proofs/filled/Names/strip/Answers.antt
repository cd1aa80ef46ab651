use Rattle.std.proofs.Common.{◌≡◌, ◌∙◌, ◌++◌, ℕ, List, ap, sym, subst}
use Rattle.std.specs.Prelude.{IfNone}
use Rattle.mq_acl.specs.Filled.{filled}
use Rattle.mq_acl.proofs.FilledLemmas.{cut_on, front, no_start}
use Rattle.mq_acl.proofs.filled.Names.strip.Goals as goal

pub returns-in_err-left-clause-none : goal.returns-in_err-left-clause-none
returns-in_err-left-clause-none c =
    let client = c.args.self.client.now in
    let user = c.args.self.user.now in
    let none = no_start (filled client user c.args.level.now) c.loop-piece.invariant.0
    (filled client user c.loop-piece.rest.now) c.in-Some.piece.now
    (filled client user c.in-Some.after.now) c.args.name.now c.loop-piece.left.now
    c.loop-piece.invariant.1 c.loop-piece.invariant.2 c.in-Some.ensures.some
    c.in_err-left.ensures.cases in
    subst (λ r. IfNone r ((left : List ℕ) → c.args.name.now
    ≡ filled client user c.args.level.now ++ left → ⊥)) (sym c.from_residual.ensures) none

pub loop-piece-preserved : goal.loop-piece-preserved
loop-piece-preserved c =
    let client = c.args.self.client.now in
    let user = c.args.self.user.now in
    let cases = c.in_ok-left.ensures.cases in
    cut_on (filled client user c.args.level.now) c.loop-piece.invariant.0
    (filled client user c.loop-piece.rest.now) c.in-Some.piece.now
    (filled client user c.in-Some.after.now) c.args.name.now c.loop-piece.left.now
    c.in_ok-left.left.now c.loop-piece.invariant.1 c.loop-piece.invariant.2
    c.in-Some.ensures.some
    (front c.in-Some.piece.now c.loop-piece.left.now cases.0
    ∙ ap (λ t. c.in-Some.piece.now ++ t) (sym cases.1))
