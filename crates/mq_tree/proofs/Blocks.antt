-- The prefixes of a node's keys, child by child.
use Rattle.std.proofs.Common.{◌≡◌, ◌≢◌, ℕ, Bool, true, false, not, List, [], ◌∷◌, ◌++◌, map, length}
use Rattle.std.proofs.Common.{Option, Some, None, nat_cmp, refl, ap, arith, append_assoc}
use Rattle.std.proofs.Common.{length-append}
use Rattle.std.specs.Cmp.Lexicographic.{slice_cmp}
use Rattle.std.specs.Str.{bytes_eq}
use Rattle.std.specs.Map.{keys_of}
use Rattle.std.specs.List.{filter, flat_map, AllByRecursion}
use Rattle.std.proofs.lemmas.List.{map-append, length-map}
use Rattle.std.proofs.lemmas.Map.Keys.{sorted_head}
use Rattle.mq_topic.proofs.ByteLemmas.{text_itself}
use Rattle.mq_tree.specs.Below.{tally}
use Rattle.mq_tree.specs.Entries.{Entries}
use Rattle.mq_tree.specs.Nodes.{Children, under, below, own, AreChildren}
use Rattle.mq_topic.specs.Prefixes.{heads, is_prefix, prefixes, prefixes_after}
use Rattle.mq_tree.proofs.Children.{After, AreChildren-tail}
use Rattle.mq_tree.proofs.Levels.{apart_from_less}

-- l is not the first level of the key before
abbrev Apart : List ℕ → List (List ℕ) → Type 0
Apart l [] = Unit {0}
Apart l (m ∷ k) = bytes_eq l m ≡ false

filter_all : (l : List ℕ) (last : List (List ℕ)) (ps : List (List (List ℕ))) → Apart l last
    → filter (λ p. not (is_prefix p last)) (map (λ p. l ∷ p) ps) ≡ map (λ p. l ∷ p) ps
filter_all l last [] a = refl
filter_all l last (p ∷ ps) a = grind (arith, filter_all l last ps a)

filter_same : (l : List ℕ) (last : List (List ℕ)) (ps : List (List (List ℕ)))
    → filter (λ p. not (is_prefix p (l ∷ last))) (map (λ p. l ∷ p) ps)
    ≡ map (λ p. l ∷ p) (filter (λ p. not (is_prefix p last)) ps)
filter_same l last [] = refl
filter_same l last (p ∷ ps) = grind (arith, text_itself l, filter_same l last ps)

-- no prefix is left out after the empty key
pub heads_none : (k : List (List ℕ)) → filter (λ p. not (is_prefix p [])) (heads k) ≡ heads k
heads_none [] = refl
heads_none (l ∷ k) = ap (λ qs. (l ∷ []) ∷ qs) (filter_all l [] (heads k) tt)

new_same : (l : List ℕ) (last k : List (List ℕ))
    → filter (λ p. not (is_prefix p (l ∷ last))) (heads (l ∷ k))
    ≡ map (λ p. l ∷ p) (filter (λ p. not (is_prefix p last)) (heads k))
new_same l last k = rw (text_itself l) (filter_same l last (heads k))

new_apart : (l : List ℕ) (last k : List (List ℕ)) → Apart l last
    → filter (λ p. not (is_prefix p last)) (heads (l ∷ k)) ≡ (l ∷ []) ∷ map (λ p. l ∷ p) (heads k)
new_apart l [] k a = ap (λ ps. (l ∷ []) ∷ ps) (filter_all l [] (heads k) a)
new_apart l (m ∷ j) k a = rw a (ap (λ ps. (l ∷ []) ∷ ps) (filter_all l (m ∷ j) (heads k) a))

under_list : {V : Type 0} (l : List ℕ) (last : List (List ℕ)) (es rest : Entries V)
    (R : List (List (List ℕ)))
    → ((k : List (List ℕ)) → prefixes_after (l ∷ k) (keys_of rest) ≡ R)
    → prefixes_after (l ∷ last) (keys_of (under l es ++ rest))
    ≡ map (λ p. l ∷ p) (prefixes_after last (keys_of es)) ++ R
under_list l last [] rest R f = f last
under_list l last (e ∷ es) rest R f =
    let new = filter (λ p. not (is_prefix p last)) (heads e.0) in
    grind (
      arith,
      new_same l last e.0,
      under_list l e.0 es rest R f,
      append_assoc (map (λ p. l ∷ p) new) (map (λ p. l ∷ p) (prefixes_after e.0 (keys_of es))) R,
      map-append (λ p. l ∷ p) new (prefixes_after e.0 (keys_of es)),
    )

-- a child's own prefix, and those below it
abbrev pub block : {V : Type 0} → List ℕ × Entries V → List (List (List ℕ))
block child = (child.0 ∷ []) ∷ map (λ p. child.0 ∷ p) (prefixes (keys_of child.1))

block_list : {V : Type 0} (child : List ℕ × Entries V) (last : List (List ℕ)) (rest : Entries V)
    (R : List (List (List ℕ)))
    → Apart child.0 last → child.1 ≢ []
    → ((k : List (List ℕ)) → prefixes_after (child.0 ∷ k) (keys_of rest) ≡ R)
    → prefixes_after last (keys_of (under child.0 child.1 ++ rest)) ≡ block child ++ R
block_list (l, []) last rest R a h f = absurd (h refl)
block_list (l, e ∷ es) last rest R a h f =
    grind (
      arith,
      new_apart l last e.0 a,
      under_list l e.0 es rest R f,
      heads_none e.0,
      append_assoc (map (λ p. l ∷ p) (heads e.0)) (map (λ p. l ∷ p)
          (prefixes_after e.0 (keys_of es))) R,
      map-append (λ p. l ∷ p) (heads e.0) (prefixes_after e.0 (keys_of es)),
    )

blocks_after : {V : Type 0} (m : List ℕ) (k : List (List ℕ)) (children : Children V)
    → After m (keys_of children) → AreChildren children
    → prefixes_after (m ∷ k) (keys_of (below children)) ≡ flat_map block children
blocks_after m k [] a h = refl
blocks_after m k (child ∷ children) a h =
    block_list child (m ∷ k) (below children) (flat_map block children)
    (apart_from_less child.0 m a.0) h.live.0
    (λ j. blocks_after child.0 j children
    (sorted_head (slice_cmp nat_cmp) child.0 (keys_of children) h.ordered)
    (AreChildren-tail child children h))

blocks_below : {V : Type 0} (children : Children V) → AreChildren children
    → prefixes (keys_of (below children)) ≡ flat_map block children
blocks_below [] h = refl
blocks_below (child ∷ children) h =
    block_list child [] (below children) (flat_map block children) tt h.live.0
    (λ j. blocks_after child.0 j children
    (sorted_head (slice_cmp nat_cmp) child.0 (keys_of children) h.ordered)
    (AreChildren-tail child children h))

-- where a node's children are in order and each has entries, its prefixes are their blocks in turn
pub prefixes_own : {V : Type 0} (value : Option V) (children : Children V) → AreChildren children
    → prefixes (keys_of (own value ++ below children)) ≡ flat_map block children
prefixes_own None children h = blocks_below children h
prefixes_own (Some v) children h = blocks_below children h

-- the blocks hold one prefix for each child, and one for each prefix below it
pub length-blocks : {V : Type 0} (children : Children V)
    → length (flat_map block children) ≡ tally (λ child. length (prefixes (keys_of child.1)))
    children
length-blocks [] = refl
length-blocks (child ∷ children) =
    let a = length-append (block child) (flat_map block children) in
    let b = length-map (prefixes (keys_of child.1)) (λ p. child.0 ∷ p) in
    omega (arith, a, b, length-blocks children)

-- ---- prefixes have a level
abbrev pub is_here : List (List ℕ) → Bool
is_here [] = true
is_here (l ∷ k) = false

abbrev pub Long : List (List (List ℕ)) → Type 0
Long ps = AllByRecursion (λ p. is_here p ≡ false) ps

long_map : (l : List ℕ) (ps : List (List (List ℕ))) → Long (map (λ p. l ∷ p) ps)
long_map l [] = tt
long_map l (p ∷ ps) = (refl, long_map l ps)

long_heads : (k : List (List ℕ)) → Long (heads k)
long_heads [] = tt
long_heads (l ∷ k) = (refl, long_map l (heads k))

long_filter : (t : List (List ℕ) → Bool) (ps : List (List (List ℕ))) → Long ps → Long (filter t ps)
long_filter t [] h = tt
long_filter t (p ∷ ps) h = grind (arith, long_filter t ps h.1)

long_append : (ps qs : List (List (List ℕ))) → Long ps → Long qs → Long (ps ++ qs)
long_append [] qs h g = g
long_append (p ∷ ps) qs h g = (h.0, long_append ps qs h.1 g)

long_after : (last : List (List ℕ)) (ks : List (List (List ℕ))) → Long (prefixes_after last ks)
long_after last [] = tt
long_after last (k ∷ ks) =
    long_append _ _ (long_filter (λ p. not (is_prefix p last)) (heads k) (long_heads k))
    (long_after k ks)

-- each prefix that names a node has a level
pub long_prefixes : (ks : List (List (List ℕ))) → Long (prefixes ks)
long_prefixes ks = long_after [] ks

agree_long : (p q : List (List ℕ) → Bool)
    → ((m : List ℕ) (k : List (List ℕ)) → p (m ∷ k) ≡ q (m ∷ k)) → (ps : List (List (List ℕ)))
    → Long ps → filter p ps ≡ filter q ps
agree_long p q same [] l = refl
agree_long p q same ([] ∷ ps) l = grind arith
agree_long p q same ((m ∷ k) ∷ ps) l = grind (arith, same m k, agree_long p q same ps l.1)

-- tests that agree on what has a level let the same nodes through
pub met_agree : (p q : List (List ℕ) → Bool)
    → ((m : List ℕ) (k : List (List ℕ)) → p (m ∷ k) ≡ q (m ∷ k)) → (ks : List (List (List ℕ)))
    → length (filter p (prefixes ks)) ≡ length (filter q (prefixes ks))
met_agree p q same ks = ap length (agree_long p q same (prefixes ks) (long_prefixes ks))
