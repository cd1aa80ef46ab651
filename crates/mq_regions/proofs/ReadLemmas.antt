-- Tests of levels, one behind the other.
use Rattle.std.proofs.Common.{◌≡◌, ◌==◌, ℕ, Bool, true, false, ◌&&◌, ◌||◌, List, [], ◌∷◌, ◌++◌, map}
use Rattle.std.proofs.Common.{refl, ap, sym, ◌∙◌, arith}
use Rattle.std.specs.List.{list_any}
use Rattle.std.proofs.lemmas.Bool.{or_parts}
use Rattle.std.proofs.lemmas.List.{length-map, map-id}
use Rattle.std.proofs.lemmas.List.Folds.{list_any-append}
use Rattle.mq_topic.specs.Matching.{levels_match_by}
use Rattle.mq_topic.proofs.Walk.{levels_match_cons, levels_match_end, walk_hash}
use Rattle.mq_rename.specs.Lists.{is_hash, is_last_hash}

-- ---- lists in which no element passes a test
pub any_or : (p q : List ℕ → Bool) (ws : List (List ℕ)) → list_any p ws ≡ false
    → list_any q ws ≡ false → list_any (λ w. p w || q w) ws ≡ false
any_or p q [] h k = refl
any_or p q (w ∷ ws) h k = grind (arith, any_or p q ws)

-- nor in the parts of a list
pub any_parts : {X : Type 0} (p : X → Bool) (xs ys : List X) → list_any p (xs ++ ys) ≡ false
    → (list_any p xs ≡ false) × (list_any p ys ≡ false)
any_parts p xs ys h = or_parts _ _ (sym (list_any-append p xs ys) ∙ h)

-- a test that passes nowhere where another doesn't
pub any_under : (p q : List ℕ → Bool) → ((w : List ℕ) → p w ≡ false → q w ≡ false)
    → (ws : List (List ℕ)) → list_any p ws ≡ false → list_any q ws ≡ false
any_under p q f [] h = refl
any_under p q f (w ∷ ws) h = grind (arith, f, any_under p q f ws)

-- ---- one level on
-- a level is left for the first of the filter, and the others pass with those behind it
abbrev pub passes_on : (List ℕ → List ℕ → Bool) → List ℕ → List (List ℕ) → List (List ℕ) → Bool
passes_on test w ws [] = false
passes_on test w ws (l ∷ ls) = test w l && levels_match_by test ws ls

-- a last `#` passes with whatever is left
pub levels_step : (test : List ℕ → List ℕ → Bool) (w : List ℕ) (ws ls : List (List ℕ))
    → levels_match_by test (w ∷ ws) ls ≡ (is_last_hash w ws || passes_on test w ws ls)
levels_step test w ws ls = grind (arith, passes_on, walk_hash, levels_match_end, levels_match_cons)

-- ---- levels that stand for others, place by place
pub data Pairwise (R : List ℕ → List ℕ → Type 0) : List (List ℕ) → List (List ℕ) → Type 0 where
  ends : Pairwise R [] []
  pair : {k l : List ℕ} {ks ls : List (List ℕ)} → R k l → Pairwise R ks ls
      → Pairwise R (k ∷ ks) (l ∷ ls)

pub on : (h a b c d : Bool) → (a ≡ true → c ≡ true) → (b ≡ true → d ≡ true)
    → (h || (a && b)) ≡ true → (h || (c && d)) ≡ true
on h a b c d f g m = grind arith

-- what passes one test has at its place what passes the other
pub along : (s t : List ℕ → List ℕ → Bool) (bad : List ℕ → Bool) {R : List ℕ → List ℕ → Type 0}
    → ((w k l : List ℕ) → bad w ≡ false → R k l → s w k ≡ true → t w l ≡ true)
    → (ws : List (List ℕ)) {ks ls : List (List ℕ)} → list_any bad ws ≡ false → Pairwise R ks ls
    → levels_match_by s ws ks ≡ true → levels_match_by t ws ls ≡ true
along s t bad f [] n ends m = refl
along s t bad f [] n (pair r rs) m = absurd (let e : false ≡ true = m in cc)
along s t bad f (w ∷ ws) n ends m =
    levels_step t w ws [] ∙ sym (levels_step s w ws []) ∙ m
along s t bad f (w ∷ ws) n (pair {k} {l} {ks} {ls} r rs) m =
    let none = or_parts _ _ n in
    levels_step t w ws (l ∷ ls)
    ∙ on (is_last_hash w ws) _ _ _ _ (f w k l none.0 r) (along s t bad f ws none.1 rs)
    (sym (levels_step s w ws (k ∷ ks)) ∙ m)

-- levels that are put in the place of others pass as these do by another test
pub replaced : (s t : List ℕ → List ℕ → Bool) (bad : List ℕ → Bool) (f : List ℕ → List ℕ)
    → ((w l : List ℕ) → bad w ≡ false → s (f w) l ≡ t w l)
    → ((w : List ℕ) → bad w ≡ false → is_hash (f w) ≡ is_hash w)
    → (ws ls : List (List ℕ)) → list_any bad ws ≡ false
    → levels_match_by s (map f ws) ls ≡ levels_match_by t ws ls
replaced s t bad f same hash [] [] n = refl
replaced s t bad f same hash [] (l ∷ ls) n = refl
replaced s t bad f same hash (w ∷ ws) [] n =
    let none = or_parts _ _ n in
    levels_step s (f w) (map f ws) []
    ∙ (λ i. (hash w none.0 i && (length-map ws f i == 0)) || false)
    ∙ sym (levels_step t w ws [])
replaced s t bad f same hash (w ∷ ws) (l ∷ ls) n =
    let none = or_parts _ _ n in
    levels_step s (f w) (map f ws) (l ∷ ls)
    ∙ (λ i. (hash w none.0 i && (length-map ws f i == 0))
    || (same w l none.0 i && replaced s t bad f same hash ws ls none.1 i))
    ∙ sym (levels_step t w ws (l ∷ ls))

-- ---- tests that pass the same levels
pub alike : (s t : List ℕ → List ℕ → Bool) (bad : List ℕ → Bool)
    → ((w l : List ℕ) → bad w ≡ false → s w l ≡ t w l)
    → (ws ls : List (List ℕ)) → list_any bad ws ≡ false
    → levels_match_by s ws ls ≡ levels_match_by t ws ls
alike s t bad f ws ls n =
    ap (λ vs. levels_match_by s vs ls) (sym (map-id ws))
    ∙ replaced s t bad (λ w. w) f (λ w b. refl) ws ls n

-- a level in the place of a mark is one of the name's
pub some_passes : (test : List ℕ → List ℕ → Bool) (p q : List ℕ → Bool)
    → ((w l : List ℕ) → p w ≡ true → test w l ≡ true → q l ≡ true)
    → ((w : List ℕ) → is_hash w ≡ true → p w ≡ false)
    → (ws ls : List (List ℕ)) → list_any p ws ≡ true → levels_match_by test ws ls ≡ true
    → list_any q ls ≡ true
some_passes test p q f hash [] ls s m = absurd (let k : false ≡ true = s in cc)
some_passes test p q f hash (w ∷ []) ls s m = at ls (sym (levels_step test w [] ls) ∙ m)
  where
    at : (ls : List (List ℕ)) → (is_last_hash w [] || passes_on test w [] ls) ≡ true
        → list_any q ls ≡ true
    at [] m = grind (arith, hash w)
    at (l ∷ ls) m = grind (arith, hash w, f w l)
some_passes test p q f hash (w ∷ v ∷ ws) [] s m =
    absurd (grind (arith, sym (levels_step test w (v ∷ ws) []) ∙ m))
some_passes test p q f hash (w ∷ v ∷ ws) (l ∷ ls) s m =
    let k = sym (levels_step test w (v ∷ ws) (l ∷ ls)) ∙ m in
    grind (arith, k, f w l, some_passes test p q f hash (v ∷ ws) ls)
