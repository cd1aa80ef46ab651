use Rattle.std.proofs.Common.{◌≡◌, ◌-◌, ◌∙◌, true, false, ◌+◌, drop, length, sym, ap, arith}
use Rattle.std.proofs.Common.{length-drop}
use Rattle.std.proofs.lemmas.List.{take_all}
use Rattle.mq_plan.specs.Lines.{arrow_place, is_arrow}
use Rattle.mq_plan.proofs.ArrowLemmas.{find-first, find-later}
use Rattle.mq_plan.proofs.line.arrow_place.Goals as goal

pub returns-then-is_arrow : goal.returns-then-is_arrow
returns-then-is_arrow c =
    let bytes = c.as_bytes-bytes.result.now in
    let place = c.loop-place.place in
    let here : is_arrow (drop place bytes) ≡ true =
    ap is_arrow (sym (take_all (length bytes - place) (drop place bytes)
    (omega (arith, length-drop place bytes)))) ∙ sym c.is_arrow.ensures ∙ c.if-is_arrow.true in
    sym (find-first (λ i. is_arrow (drop i bytes)) place (length bytes - place) (omega arith) here)
    ∙ c.loop-place.invariant ∙ ap arrow_place c.as_bytes-bytes.ensures.value

pub loop-place-preserved : goal.loop-place-preserved
loop-place-preserved c =
    let bytes = c.as_bytes-bytes.result.now in
    let place = c.loop-place.place in
    let none : is_arrow (drop place bytes) ≡ false =
    ap is_arrow (sym (take_all (length bytes - place) (drop place bytes)
    (omega (arith, length-drop place bytes)))) ∙ sym c.is_arrow.ensures ∙ c.if-is_arrow.false in
    find-later (λ i. is_arrow (drop i bytes)) place (length bytes - place)
    (length bytes - (place + 1)) (omega arith) none
    ∙ c.loop-place.invariant
