-- Rows of a table.
use Rattle.std.proofs.Common.{◌≡◌, ◌++◌, ◌∙◌, ◌+◌, ◌<◌, ℕ, List, [], ◌∷◌, ap, append_assoc}
use Rattle.std.proofs.Common.{arith, drop, get_or, length, map, max, refl, sym, take, codes, Bool, ◌&&◌}
use Rattle.std.proofs.Common.{if◌then◌else◌}
use Rattle.std.specs.List.{list_all}
use Rattle.std.proofs.lemmas.List.{at_drop_more, take_more}
use Rattle.mq_ask_cases.specs.ChangeRows.{ChangeView, change_view, rows_text, who_line, widest}
use Rattle.mq_ask_cases.specs.ChangeRows.{example_words, places_of, script_of}
use Rattle.mq_ask_cases.specs.Deciding.{SideView, may_have_several, side_view}
use Rattle.mq_ask_cases.specs.declared.deciding.Side.{Side}
use Rattle.mq_ask_cases.specs.declared.change_rows.ChangeRow.{ChangeRow}

widest-append : (xs ys : List (List ℕ)) → widest (xs ++ ys) ≡ max (widest xs) (widest ys)
widest-append [] ys = omega arith
widest-append (x ∷ xs) ys = omega (arith, widest-append xs ys)

-- a column widens by what comes in
pub widened_more : {A : Type 0} (texts : List A → List (List ℕ)) (all : List A) (i : ℕ) (one : A)
    (begun width more after : ℕ) → ((xs ys : List A) → texts (xs ++ ys) ≡ texts xs ++ texts ys)
    → i < length all → one ≡ get_or all i one → width ≡ max begun (widest (texts (take i all)))
    → more ≡ widest (texts (one ∷ [])) → after ≡ max width more
    → after ≡ max begun (widest (texts (take (i + 1) all)))
widened_more texts all i one begun width more after parts low here so_far of_one widened =
    let rest = take_more all i one low in
    let last = ap (λ o. take i all ++ o ∷ []) (sym here) in
    let split = ap (λ t. widest (texts t)) (rest ∙ last) ∙ ap widest (parts (take i all) (one ∷ []))
    ∙ widest-append (texts (take i all)) (texts (one ∷ [])) in
    omega arith

-- the next row
pub row_more : (text : ChangeView → List ℕ) (rows : List ChangeRow) (i : ℕ) (row : ChangeRow)
    (begun before after who last whole : List ℕ) → i < length rows → row ≡ get_or rows i row
    → begun ++ rows_text text who (map change_view (drop i rows)) ≡ whole
    → before ≡ begun ++ who_line who (change_view row).who
    → after ≡ before ++ text (change_view row) → last ≡ (change_view row).who
    → after ++ rows_text text last (map change_view (drop (i + 1) rows)) ≡ whole
row_more text rows i row begun before after who last whole low here so_far named added is =
    let view = change_view row in
    let rest = rows_text text view.who (map change_view (drop (i + 1) rows)) in
    let line = who_line who view.who in
    let left = λ (rs : List ChangeRow). rows_text text who (map change_view rs) in
    let next = at_drop_more left rows i row low
    ∙ ap (λ (r : ChangeRow). left (r ∷ drop (i + 1) rows)) (sym here) in
    ap (λ (w : List ℕ). after ++ rows_text text w (map change_view (drop (i + 1) rows))) is
    ∙ ap (λ (t : List ℕ). t ++ rest) (added ∙ ap (λ (t : List ℕ). t ++ text view) named
    ∙ append_assoc begun line (text view))
    ∙ append_assoc begun (line ++ text view) rest
    ∙ sym (ap (λ (t : List ℕ). begun ++ t) next) ∙ so_far

-- the places of a row: those of what decides, and the script
pub row_places : (row : ChangeRow) (script : List (List ℕ)) (begun width : ℕ)
    → width ≡ max begun (widest (map (λ (s : SideView). s.place) (map side_view row.sides.items)))
    → script_of (change_view row).publishes ≡ script
    → max width (widest script) ≡ max begun (widest (places_of (change_view row)))
row_places row script begun width widened is =
    let sides = map (λ (s : SideView). s.place) (map side_view row.sides.items) in
    let split = ap (λ (t : List (List ℕ)). widest (sides ++ t)) is ∙ widest-append sides script in
    omega arith

-- all of them may decide about several topics
pub all_views : (sides : List Side) → list_all may_have_several (map side_view sides)
    ≡ list_all (λ (side : Side). may_have_several (side_view side)) sides
all_views [] = refl
all_views (side ∷ sides) =
    ap (λ (b : Bool). may_have_several (side_view side) && b) (all_views sides)

-- a topic is one of several, or isn't
pub example_is : (sides : List Side) (several : Bool)
    → several ≡ list_all (λ (side : Side). may_have_several (side_view side)) sides
    → (if several then codes "for example " else []) ≡ example_words (map side_view sides)
example_is sides several is =
    ap (λ (b : Bool). if b then codes "for example " else []) (is ∙ sym (all_views sides))
