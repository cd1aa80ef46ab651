use Rattle.std.proofs.Common.{◌≡◌, ◌==◌, ◌∙◌, ap, arith, refl, subst, sym}
use Rattle.std.specs.Rc.{rc_str_bytes}
use Rattle.mq_world.specs.Lists.{same_text}
use Rattle.mq_sessions.specs.Dues.{Due, Dues, IsFirst, is_in}
use Rattle.mq_sessions.proofs.HeapLemmas.{first-else, first-then}
use Rattle.mq_sessions.proofs.sessions.end_heap.Ends.has_first.Goals as goal

pub returns-then-end-first : goal.returns-then-end-first
returns-then-end-first c =
    let d : Due = (c.args.end, rc_str_bytes c.args.client.now) in
    c.eq.ensures
    ∙ ap (λ t. same_text t c.as_str-then-end-first.result.now) c.as_str.ensures.value
    ∙ ap (λ t. same_text d.1 t) c.as_str-then-end-first.ensures.value
    ∙ subst (λ (it : Dues). same_text d.1 (rc_str_bytes c.in-Some.first.now.1)
    ≡ is_in d it.entries) c.self.view_is
    (first-then d c.in-Some.first.now _ c.in-Some.ensures.lookup
    (omega (arith, c.in-Some.ensures.variant.0 refl, c.self.invariant.1))
    (c.in-Some.ensures.greatest c.self.invariant.0)
    (subst (λ (it : Dues). IsFirst d it.entries) (sym c.self.view_is) c.requires)
    c.if-end-first.true)

pub returns-else-end-first : goal.returns-else-end-first
returns-else-end-first c =
    let d : Due = (c.args.end, rc_str_bytes c.args.client.now) in
    subst (λ (it : Dues). (d.0 == c.in-Some.first.now.0.0) ≡ is_in d it.entries) c.self.view_is
    (first-else d c.in-Some.first.now _ c.in-Some.ensures.lookup
    (omega (arith, c.in-Some.ensures.variant.0 refl, c.self.invariant.1))
    (c.in-Some.ensures.greatest c.self.invariant.0)
    (subst (λ (it : Dues). IsFirst d it.entries) (sym c.self.view_is) c.requires)
    c.if-end-first.false)
