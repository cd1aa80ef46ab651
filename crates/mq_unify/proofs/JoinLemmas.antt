-- Levels that are joined, and taken apart.
use Rattle.std.proofs.Common.{◌≡◌, ◌+◌, ◌<◌, ◌&&◌, ℕ, Bool, zero, suc, true, false, not, List, [], ◌∷◌, ◌++◌}
use Rattle.std.proofs.Common.{length, refl, ap, sym, ◌∙◌, arith, append_assoc}
use Rattle.std.specs.List.{flat_map, list_all}
use Rattle.std.proofs.lemmas.Bool.{and_from, and_parts, not-true, or_parts}
use Rattle.std.proofs.lemmas.List.{append-nil}
use Rattle.std.proofs.lemmas.List.Folds.{list_all-append}
use Rattle.std.proofs.lemmas.Grind.{flat_map-append}
use Rattle.mq_topic.specs.Levels.{levels}
use Rattle.mq_topic.specs.Texts.{contains_byte}
use Rattle.mq_unify.specs.Clients.{values_from}
use Rattle.mq_unify.specs.Joined.{join_levels}
use Rattle.mq_unify.proofs.FilterLemmas.{all_lack, single}

values-snoc : (values : ℕ → List ℕ) (first count : ℕ)
    → values_from values first (count + 1)
    ≡ values_from values first count ++ values (first + count) ∷ []
values-snoc values first zero = ap (λ n. values n ∷ []) (omega arith)
values-snoc values first (suc count) =
    let e : suc count + 1 ≡ suc (count + 1) = omega arith in
    let f : suc first + count ≡ first + suc count = omega arith in
    ap (values_from values first) e ∙ ap (λ l. values first ∷ l)
    (values-snoc values (suc first) count
    ∙ ap (λ n. values_from values (suc first) count ++ values n ∷ []) f)

-- one more that passes the test
pub passed_more : (test : List ℕ → Bool) (values : ℕ → List ℕ) (first place : ℕ)
    → list_all test (values_from values first place) ≡ true → test (values (first + place)) ≡ true
    → list_all test (values_from values first (place + 1)) ≡ true
passed_more test values first place all one =
    ap (list_all test) (values-snoc values first place)
    ∙ list_all-append test (values_from values first place) (values (first + place) ∷ [])
    ∙ and_from (list_all test (values_from values first place))
    (test (values (first + place)) && true) all
    (and_from (test (values (first + place))) true one refl)

join-snoc : (ls : List (List ℕ)) (l : List ℕ) → 0 < length ls
    → join_levels (ls ++ l ∷ []) ≡ join_levels ls ++ 47 ∷ l
join-snoc [] l h = absurd (omega arith)
join-snoc (k ∷ ls) l h =
    ap (λ t. k ++ t) (flat_map-append (λ t. 47 ∷ t) ls (l ∷ [])
    ∙ ap (λ t. flat_map (λ m. 47 ∷ m) ls ++ t) (append-nil (47 ∷ l)))
    ∙ sym (append_assoc k (flat_map (λ m. 47 ∷ m) ls) (47 ∷ l))

pub length-values : (values : ℕ → List ℕ) (first count : ℕ)
    → length (values_from values first count) ≡ count
length-values values first zero = refl
length-values values first (suc count) = ap suc (length-values values (suc first) count)

-- one more level behind a slash
pub joined_more : (values : ℕ → List ℕ) (first place : ℕ) (text slashed more : List ℕ) → 0 < place
    → text ≡ join_levels (values_from values first place) → slashed ≡ text ++ 47 ∷ []
    → more ≡ slashed ++ values (first + place)
    → more ≡ join_levels (values_from values first (place + 1))
joined_more values first place text slashed more h e f g =
    let n = length-values values first place in
    g ∙ ap (λ t. t ++ values (first + place)) (f ∙ ap (λ t. t ++ 47 ∷ []) e)
    ∙ append_assoc (join_levels (values_from values first place)) (47 ∷ []) (values (first + place))
    ∙ sym (join-snoc (values_from values first place) (values (first + place)) (omega (arith, n)))
    ∙ ap join_levels (sym (values-snoc values first place))

-- ---- the levels of what is joined
levels_first : (l more : List ℕ) → contains_byte 47 l ≡ false
    → levels (l ++ (47 ∷ more)) ≡ l ∷ levels more
levels_first [] more h = refl
levels_first (x ∷ xs) more h = grind (arith, levels_first xs more, or_parts)

joined_levels : (l : List ℕ) (ls : List (List ℕ)) → all_lack (l ∷ ls) ≡ true
    → levels (join_levels (l ∷ ls)) ≡ l ∷ ls
joined_levels l [] h = ap levels (append-nil l)
    ∙ single l (and_parts (not (contains_byte 47 l)) true h).0
joined_levels l (m ∷ ms) h =
    let both = and_parts (not (contains_byte 47 l)) (all_lack (m ∷ ms)) h in
    levels_first l (join_levels (m ∷ ms)) (not-true _ both.0)
    ∙ ap (λ k. l ∷ k) (joined_levels m ms both.1)

pub levels_joined : (ls : List (List ℕ)) → 0 < length ls → all_lack ls ≡ true
    → levels (join_levels ls) ≡ ls
levels_joined [] n h = absurd (omega arith)
levels_joined (l ∷ ls) n h = joined_levels l ls h
