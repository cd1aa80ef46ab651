-- The text of what changes through a plan.
use Rattle.std.proofs.Common.{◌≡◌, ◌++◌, ◌∙◌, ◌+◌, ◌<◌, ℕ, List, [], ◌∷◌, append-nil, ap, flat_map}
use Rattle.std.proofs.Common.{get_or, length, refl, sym, take}
use Rattle.std.proofs.lemmas.List.{take_more}
use Rattle.std.proofs.lemmas.List.Concat.{flat_map-append}
use Rattle.mq_ask_plan.specs.Objects.{renamed_text, renamed_texts}
use Rattle.mq_print.specs.Lists.{ListView}
use Rattle.mq_through.specs.declared.renamed.Renamed.{Renamed}

-- one more object
pub texts_more : (old new plan : ListView) (all : List Renamed) (i : ℕ) (r : Renamed)
    (before after : List ℕ) → i < length all → r ≡ get_or all i r
    → before ≡ renamed_texts old new plan (take i all)
    → after ≡ before ++ renamed_text old new plan r
    → after ≡ renamed_texts old new plan (take (i + 1) all)
texts_more old new plan all i r before after low here so_far more =
    let text = renamed_text old new plan in
    let front = renamed_texts old new plan (take i all) in
    more ∙ ap (λ (t : List ℕ). t ++ text r) so_far
    ∙ ap (λ (one : Renamed). front ++ text one) here
    ∙ sym (ap (flat_map text) (take_more all i r low)
    ∙ flat_map-append text (take i all) (get_or all i r ∷ [])
    ∙ ap (λ (t : List ℕ). front ++ t) (append-nil (text (get_or all i r))))

-- it is that of lists and a plan with the same lines
pub texts_same : (old new plan : ListView) (old_lines new_lines plan_lines : List (List ℕ))
    (all : List Renamed) → old_lines ≡ old.lines → new_lines ≡ new.lines
    → plan_lines ≡ plan.lines → renamed_texts (record { file = old.file; lines = old_lines })
    (record { file = new.file; lines = new_lines })
    (record { file = plan.file; lines = plan_lines }) all ≡ renamed_texts old new plan all
texts_same old new plan old_lines new_lines plan_lines all olds news plans =
    rw (olds, news, plans) refl
