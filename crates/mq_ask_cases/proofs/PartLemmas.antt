-- Texts of parts with a text between them.
use Rattle.std.proofs.Common.{◌≡◌, ◌++◌, ◌∙◌, ◌==◌, ℕ, List, [], ◌∷◌, ap, append_assoc, append-nil, sym}
use Rattle.std.proofs.Common.{arith, codes, flat_map, if◌then◌else◌, length, map, false}
use Rattle.std.proofs.Common.{◌<◌, get_or, zero-add}
use Rattle.std.specs.List.{enumerate_from, join_by}
use Rattle.std.proofs.lemmas.List.{length-map, map-append}
use Rattle.std.proofs.lemmas.List.Concat.{flat_map-append}
use Rattle.std.proofs.lemmas.List.FromFn.{get_or-enumerate_from, length-enumerate_from}
use Rattle.mq_ask_cases.specs.Clients.{with_parts}

-- one more part, and before it the text between, unless it is the first
pub join_more : {X A : Type 0} (f : X → List A) (sep : List A) (parts : List X) (part : X)
    (place : ℕ) → place ≡ length parts → join_by f sep (parts ++ part ∷ [])
    ≡ join_by f sep parts ++ ((if place == 0 then [] else sep) ++ f part)
join_more f sep [] part place is =
    rw is (append-nil (f part))
join_more {X} {A} f sep (first ∷ parts) part place is =
    let piece = λ (p : X). sep ++ f p in
    let later : (place == 0) ≡ false = grind arith in
    rw later (ap (λ (t : List A). f first ++ t) (flat_map-append piece parts (part ∷ [])
    ∙ ap (λ (t : List A). flat_map piece parts ++ t) (append-nil (piece part)))
    ∙ sym (append_assoc (f first) (flat_map piece parts) (piece part)))

-- parts behind a text that isn't empty
pub parts_behind : (c : ℕ) (cs : List ℕ) (parts : List (List ℕ)) → with_parts (c ∷ cs) parts
    ≡ (c ∷ cs) ++ flat_map (λ part. codes "; " ++ part) parts
parts_behind c cs [] = sym (append-nil (c ∷ cs))
parts_behind c cs (part ∷ parts) =
    parts_behind c (cs ++ (codes "; " ++ part)) parts
    ∙ append_assoc (c ∷ cs) (codes "; " ++ part) (flat_map (λ p. codes "; " ++ p) parts)

-- one more part behind a text
pub joined_more : {W X A : Type 0} (f : X → List A) (sep : List A) (view : W → X) (all : List W)
    (one : W) (place : ℕ) (begun before after : List A) → place ≡ length all
    → before ≡ begun ++ join_by f sep (map view all)
    → after ≡ before ++ ((if place == 0 then [] else sep) ++ f (view one))
    → after ≡ begun ++ join_by f sep (map view (all ++ one ∷ []))
joined_more {W} {X} {A} f sep view all one place begun before after is so_far added =
    let piece = (if place == 0 then [] else sep) ++ f (view one) in
    added ∙ ap (λ (t : List A). t ++ piece) so_far
    ∙ append_assoc begun (join_by f sep (map view all)) piece
    ∙ ap (λ (t : List A). begun ++ t) (sym (ap (join_by f sep) (map-append view all (one ∷ []))
    ∙ join_more f sep (map view all) (view one) place (is ∙ sym (length-map all view))))

-- the place that stands with a level
pub place_is : (all : List (List ℕ)) (n : ℕ) (level : ℕ × List ℕ)
    → n < length (enumerate_from 0 all) → level ≡ get_or (enumerate_from 0 all) n level
    → level.0 ≡ n
place_is all n level low here =
    let within : n < length all = omega (arith, length-enumerate_from 0 all) in
    ap (λ (l : ℕ × List ℕ). l.0) (here ∙ get_or-enumerate_from 0 all n level within) ∙ zero-add n
