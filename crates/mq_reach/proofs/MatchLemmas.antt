-- A filter that is asked about, as a row for the client.
use Rattle.std.proofs.Common.{◌≡◌, ◌<◌, ℕ, ◌==◌, Bool, true, false, cond, ◌&&◌, ◌||◌, not}
use Rattle.std.proofs.Common.{List, [], ◌∷◌, length, codes, bytes_eq, Option, Some, None}
use Rattle.std.proofs.Common.{refl, sym, ◌∙◌, ap, arith, inl, inr}
use Rattle.std.specs.List.{onto_first}
use Rattle.std.proofs.Math.Bool.{and-false}
use Rattle.std.proofs.lemmas.Bool.{and_parts, or_cases}
use Rattle.std.proofs.lemmas.Bool.Decides.{nat_tests}
use Rattle.std.proofs.lemmas.Slice.Eq.{bytes_eq-Decides}
use Rattle.mq_topic.specs.Levels.{is_slash, levels}
use Rattle.mq_topic.specs.Matching.{is_hidden, is_wildcard, level_at, level_matches}
use Rattle.mq_topic.specs.Matching.{levels_match_by, matches}
use Rattle.mq_topic.proofs.Walk.{levels-nonempty}
use Rattle.mq_acl.specs.Access.{applies, begins_with_dollar, concerns, covers}
use Rattle.mq_acl.specs.Lines.{Access}
use Rattle.mq_acl.specs.Rows.{who_of}
use Rattle.mq_cover.proofs.RemainderLemmas.{covers_cons}
use Rattle.mq_world.proofs.BoolLemmas.{pick}

-- ## The first level

slash_no_dollar : (x : ℕ) → is_slash x ≡ true → (x == 36) ≡ false
slash_no_dollar x e = grind (arith, nat_tests)

first_onto : (x : ℕ) (parts : List (List ℕ))
    → begins_with_dollar (level_at (onto_first x parts) 0) ≡ (x == 36)
first_onto x [] = refl
first_onto x (p ∷ parts) = refl

-- a text begins with `$` where its first level does
first_level : (text : List ℕ)
    → begins_with_dollar (level_at (levels text) 0) ≡ begins_with_dollar text
first_level [] = refl
first_level (x ∷ xs) =
    let P : Bool → Type 0 = λ b. is_slash x ≡ b
    → begins_with_dollar (level_at (cond b ([] ∷ levels xs) (onto_first x (levels xs))) 0)
    ≡ (x == 36) in
    (elim (is_slash x) as P [
      | true ↦ λ e. sym (slash_no_dollar x e)
      | false ↦ λ e. first_onto x (levels xs)
    ]) refl

wildcard_no_dollar : (w : List ℕ) → is_wildcard w ≡ true → begins_with_dollar w ≡ false
wildcard_no_dollar w h =
    elim (or_cases (bytes_eq w (codes "+")) (bytes_eq w (codes "#")) h)
    as (λ _. begins_with_dollar w ≡ false) [
      | inl e ↦ ap begins_with_dollar ((bytes_eq-Decides w (codes "+")).0 e)
      | inr e ↦ ap begins_with_dollar ((bytes_eq-Decides w (codes "#")).0 e)
    ]

parts_false : (a b : Bool) → (a || b) ≡ false → (a ≡ false) × (b ≡ false)
parts_false true b h = cc
parts_false false b h = (refl, h)

-- a level that is no wildcard matches itself alone
first_same : (w l : List ℕ) (ws ls : List (List ℕ)) → is_wildcard w ≡ false
    → levels_match_by level_matches (w ∷ ws) (l ∷ ls) ≡ true → w ≡ l
first_same w l ws ls plain h =
    let no = parts_false (bytes_eq w (codes "+")) (bytes_eq w (codes "#")) plain in
    let first = and_parts (level_matches w l) (levels_match_by level_matches ws ls)
    (sym (covers_cons level_matches w l ws ls (ap (λ b. b && (length ws == 0)) no.1)) ∙ h) in
    (bytes_eq-Decides w l).0 (sym (ap (λ b. b || bytes_eq w l) no.0) ∙ first.0)

-- where the levels match, a `$` at the front of the name asks for the same of both
same_front : (fs ls : List (List ℕ)) → 0 < length fs → 0 < length ls
    → levels_match_by level_matches fs ls ≡ true
    → (not (begins_with_dollar (level_at ls 0)) || begins_with_dollar (level_at fs 0))
    ≡ not (begins_with_dollar (level_at ls 0) && is_wildcard (level_at fs 0))
same_front [] ls some more h = absurd (omega arith)
same_front (w ∷ ws) [] some more h = absurd (omega arith)
same_front (w ∷ ws) (l ∷ ls) some more h =
    pick (begins_with_dollar l)
    (λ d. ap (λ b. not b || begins_with_dollar w) d
    ∙ pick (is_wildcard w)
    (λ e. wildcard_no_dollar w e ∙ sym (λ i. not (d i && e i)))
    (λ e. ap begins_with_dollar (first_same w l ws ls e h) ∙ d
    ∙ sym (ap not (ap (λ b. begins_with_dollar l && b) e ∙ and-false (begins_with_dollar l)))))
    (λ d. ap (λ b. not b || begins_with_dollar w) d ∙ sym (ap (λ b. not (b && is_wildcard w)) d))

-- ## As a row

applies-who : (user : Option (List ℕ)) → applies user (who_of user) ≡ true
applies-who None = refl
applies-who (Some name) = (bytes_eq-Decides name name).1 refl

covers-who : (client : List ℕ) (user : Option (List ℕ)) (name filter : List ℕ) (access : Access)
    → covers client user name (record { who = who_of user; access = access; filter = filter })
    ≡ ((not (begins_with_dollar name) || begins_with_dollar filter)
    && levels_match_by level_matches (levels filter) (levels name))
covers-who client None name filter access = refl
covers-who client (Some user) name filter access = refl

some_levels : (n : ℕ) → 0 < n → (n == 0) ≡ false
some_levels n h = grind (arith, nat_tests)

-- the row concerns what the filter matches
pub concerns-matched : (client : List ℕ) (user : Option (List ℕ)) (name filter : List ℕ)
    (access : Access)
    → concerns client user name (record { who = who_of user; access = access; filter = filter })
    ≡ matches (levels filter) (levels name)
concerns-matched client user name filter access =
    let match : Bool = levels_match_by level_matches (levels filter) (levels name) in
    (λ i. applies-who user i && covers-who client user name filter access i)
    ∙ (λ i. (not (sym (first_level name) i) || sym (first_level filter) i) && match)
    ∙ pick match
    (λ e. ap (λ b. b && match) (same_front (levels filter) (levels name) (levels-nonempty filter)
    (levels-nonempty name) e))
    (λ e. (λ i. (not (begins_with_dollar (level_at (levels name) 0))
    || begins_with_dollar (level_at (levels filter) 0)) && e i)
    ∙ and-false (not (begins_with_dollar (level_at (levels name) 0))
    || begins_with_dollar (level_at (levels filter) 0))
    ∙ sym ((λ i. not (is_hidden (levels filter) (levels name)) && e i)
    ∙ and-false (not (is_hidden (levels filter) (levels name)))))
    ∙ ap (λ b. not b && not (is_hidden (levels filter) (levels name)) && match)
    (sym (some_levels (length (levels name)) (levels-nonempty name)))
