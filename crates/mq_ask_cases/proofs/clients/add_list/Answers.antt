use Rattle.std.proofs.Common.{◌∙◌, ◌++◌, ℕ, List, [], Bor, ap, arith, codes, get_or, string_bytes, sym, take}
use Rattle.std.specs.List.{join_by}
use Rattle.std.proofs.lemmas.List.{length-take-le, take_more}
use Rattle.mq_ask_cases.proofs.PartLemmas.{joined_more}
use Rattle.mq_print.specs.Lists.{lent_texts}
use Rattle.mq_ask_cases.proofs.clients.add_list.Goals as goal

pub loop-place-preserved : goal.loop-place-preserved
loop-place-preserved c =
    let names = c.args.names.now in
    let place = c.loop-place.place in
    let none : Bor (List ℕ) = record { ref_ptr = (0, 0); now = [] } in
    let more = joined_more (λ (name : List ℕ). name) (codes ", ")
    (λ (name : Bor (List ℕ)). name.now)
    (take place names) (get_or names place none) place (string_bytes c.args.text.now) _ _
    (sym (length-take-le place names (omega arith))) c.loop-place.invariant
    c.in_ok-add_name.ensures in
    more ∙ ap (λ (all : List (Bor (List ℕ))). string_bytes c.args.text.now
    ++ join_by (λ (name : List ℕ). name) (codes ", ") (lent_texts all))
    (sym (take_more names place none c.loop-place-test.true))
