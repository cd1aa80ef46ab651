-- The text of who may.
use Rattle.std.proofs.Common.{◌≡◌, ◌++◌, ◌∙◌, ◌+◌, ◌<◌, ℕ, List, [], ◌∷◌, append-nil, ap, flat_map}
use Rattle.std.proofs.Common.{get_or, if◌then◌else◌, length, map, refl, sym, take}
use Rattle.std.proofs.lemmas.List.{take_more}
use Rattle.std.proofs.lemmas.List.Concat.{flat_map-append}
use Rattle.std.proofs.lemmas.List.Elements.{filter-append}
use Rattle.mq_acl.specs.declared.access.Direction.{Direction}
use Rattle.mq_ask_who.specs.WhoShown.{beside, in_direction, permission_text, permission_texts}
use Rattle.mq_differences.specs.Differences.{same_direction}
use Rattle.mq_differences.specs.declared.difference.Difference.{Difference}
use Rattle.mq_print.specs.Lists.{ListView}

-- one more object
pub texts_more : (list : ListView) (broker : List Direction) (refused granted : List Difference)
    (i : ℕ) (d : Difference) (others : List Difference) (before after : List ℕ)
    → i < length granted → d ≡ get_or granted i d → others ≡ beside refused d
    → before ≡ permission_texts list broker refused (take i granted)
    → after ≡ before ++ permission_text list broker others d
    → after ≡ permission_texts list broker refused (take (i + 1) granted)
texts_more list broker refused granted i d others before after low here same so_far more =
    let text = λ (e : Difference). permission_text list broker (beside refused e) e in
    let front = flat_map text (take i granted) in
    more ∙ ap (λ (t : List ℕ). t ++ permission_text list broker others d) so_far
    ∙ ap (λ (o : List Difference). front ++ permission_text list broker o d) same
    ∙ ap (λ (e : Difference). front ++ text e) here
    ∙ sym (ap (flat_map text) (take_more granted i d low)
    ∙ flat_map-append text (take i granted) (get_or granted i d ∷ [])
    ∙ ap (λ (t : List ℕ). front ++ t) (append-nil (text (get_or granted i d))))

-- one more of its direction
pub direction_more : (direction : Direction) (before all after : List Difference) (d : Difference)
    → all ≡ in_direction direction before
    → after ≡ all ++ (if same_direction direction d.direction then d ∷ [] else [])
    → after ≡ in_direction direction (before ++ d ∷ [])
direction_more direction before all after d so_far more =
    more ∙ ap (λ (ds : List Difference).
    ds ++ (if same_direction direction d.direction then d ∷ [] else [])) so_far
    ∙ sym (filter-append (λ (e : Difference). same_direction direction e.direction) before
    (d ∷ []))

-- the text is that of a list with the same lines
pub permissions_same : (list : ListView) (lines : List (List ℕ)) (broker : List Direction)
    (refused ds es : List Difference) → lines ≡ list.lines → ds ≡ es
    → permission_texts (record { file = list.file; lines = lines }) broker refused ds
    ≡ permission_texts list broker refused es
permissions_same list lines broker refused ds es same these =
    ap (λ (all : List (List ℕ)). permission_texts (record { file = list.file; lines = all })
    broker refused ds) same
    ∙ ap (λ (all : List Difference). permission_texts list broker refused all) these

-- those that came are all of them
pub all_came : (came all : List Difference) → map (λ d. d) came ≡ all → came ≡ all
all_came came all is = sym (itself came) ∙ is
  where
    itself : (ds : List Difference) → map (λ d. d) ds ≡ ds
    itself [] = refl
    itself (d ∷ ds) = ap (λ (rest : List Difference). d ∷ rest) (itself ds)
