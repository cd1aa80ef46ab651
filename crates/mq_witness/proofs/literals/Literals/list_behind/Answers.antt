use Rattle.std.proofs.Common.{ℕ, List, [], ap, sym, ◌∙◌, ◌||◌, Bor}
use Rattle.mq_witness.specs.Literals.{is_among}
use Rattle.mq_witness.proofs.LiteralLemmas.{ids_push, ids_skip}
use Rattle.mq_witness.proofs.literals.Literals.list_behind.Goals as goal

abbrev none : Bor (List ℕ)
none = record { ref_ptr = (0, 0); now = [] }

pub loop-text-preserved-then-not-can_be_id : goal.loop-text-preserved-then-not-can_be_id
loop-text-preserved-then-not-can_be_id c = λ t.
    ap (λ b. is_among t c.loop-text.all.items || b)
    (ids_skip t c.deref-text-items.result.now c.loop-text.text-index none c.loop-text-test.true
    (sym c.can_be_id.ensures ∙ c.if-not-can_be_id.true)) ∙ c.loop-text.invariant t

pub loop-text-preserved : goal.loop-text-preserved
loop-text-preserved c = λ t.
    ids_push t c.deref-text-items.result.now c.loop-text.all.items c.push.new.self.items
    c.loop-text.text-index none c.loop-text-test.true
    (sym c.can_be_id.ensures ∙ c.if-not-can_be_id.false) c.in_ok-push.ensures.items
    ∙ c.loop-text.invariant t
