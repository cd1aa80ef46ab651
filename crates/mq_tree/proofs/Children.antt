-- The children of a node, and what is found below them.
use Rattle.std.proofs.Common.{arith, ◌≡◌, ℕ, Bool, true, false, cond, List, [], ◌∷◌, ◌++◌, Option}
use Rattle.std.proofs.Common.{Some, None, Less, Equal, Greater, nat_cmp, is_eq, refl, ap, ◌∙◌, ◌||◌}
use Rattle.std.proofs.Common.{sym}
use Rattle.std.specs.Cmp.Lexicographic.{slice_cmp}
use Rattle.std.specs.Ordering.{ordering_reverse}
use Rattle.std.specs.Map.{keys_of, lookup}
use Rattle.std.specs.Option.{option_and_then}
use Rattle.std.specs.List.{AllByRecursion, list_any, filter}
use Rattle.std.proofs.lemmas.Cmp.{nat_list_cmp_total}
use Rattle.std.proofs.lemmas.Map.Keys.{sorted_head, sorted_tail}
use Rattle.mq_tree.specs.Entries.{Entries, is_key}
use Rattle.mq_tree.specs.Nodes.{Children, is_level, under, below, own, AreChildren}
use Rattle.mq_topic.proofs.ByteLemmas.{text_is, text_itself}
use Rattle.std.specs.Str.{bytes_eq}
use Rattle.std.specs.List.Sorted.{IsStrictlySortedBy}
use Rattle.std.proofs.lemmas.Map.Lookups.{exact_bytes}
use Rattle.mq_tree.proofs.Levels.{apart_from_less, apart_from_greater}

-- each of these levels stands after l
abbrev pub After : List ℕ → List (List ℕ) → Type 0
After l ks = AllByRecursion (λ s. slice_cmp nat_cmp l s ≡ Less) ks

-- the children after the first are children too
pub AreChildren-tail : {V : Type 0} (child : List ℕ × Entries V) (children : Children V)
    → AreChildren (child ∷ children) → AreChildren children
AreChildren-tail child children h = record {
  ordered = sorted_tail (slice_cmp nat_cmp) child.0 (keys_of children) h.ordered;
  live = h.live.1;
}

After-same : (l m : List ℕ) (ks : List (List ℕ)) → slice_cmp nat_cmp l m ≡ Equal → After m ks
    → After l ks
After-same l m [] e h = tt
After-same l m (s ∷ ks) e h = (nat_list_cmp_total.congr l m s e ∙ h.0, After-same l m ks e h.1)

After-less : (l m : List ℕ) (ks : List (List ℕ)) → slice_cmp nat_cmp l m ≡ Less → After m ks
    → After l ks
After-less l m [] e h = tt
After-less l m (s ∷ ks) e h = (nat_list_cmp_total.trans l m s e h.0, After-less l m ks e h.1)

-- where the first child stands at l, all others stand after l
pub After-tail : {V : Type 0} (l : List ℕ) (child : List ℕ × Entries V) (children : Children V)
    → slice_cmp nat_cmp l child.0 ≡ Equal → AreChildren (child ∷ children)
    → After l (keys_of children)
After-tail l child children e h = After-same l child.0 (keys_of children) e
    (sorted_head (slice_cmp nat_cmp) child.0 (keys_of children) h.ordered)

-- where the first child stands after l, all others do too
pub After-tail-less : {V : Type 0} (l : List ℕ) (child : List ℕ × Entries V) (children : Children V)
    → slice_cmp nat_cmp l child.0 ≡ Less → AreChildren (child ∷ children)
    → After l (keys_of children)
After-tail-less l child children e h =
    After-less l child.0 (keys_of children) e
    (sorted_head (slice_cmp nat_cmp) child.0 (keys_of children) h.ordered)

-- ---- looking up
lookup-append-none : {K X : Type 0} (test : K → Bool) (xs ys : List (K × X)) → lookup test xs ≡ None
    → lookup test (xs ++ ys) ≡ lookup test ys
lookup-append-none test [] ys h = refl
lookup-append-none test (x ∷ xs) ys h = grind (arith, lookup-append-none test xs ys)

lookup-append-last : {K X : Type 0} (test : K → Bool) (xs ys : List (K × X)) → lookup test ys ≡ None
    → lookup test (xs ++ ys) ≡ lookup test xs
lookup-append-last test [] ys h = h
lookup-append-last test (x ∷ xs) ys h = grind (arith, lookup-append-last test xs ys)

lookup-under : {V : Type 0} (l m : List ℕ) (k : List (List ℕ)) (es : Entries V)
    → slice_cmp nat_cmp l m ≡ Equal → lookup (is_key (l ∷ k)) (under m es) ≡ lookup (is_key k) es
lookup-under l m k [] e = refl
lookup-under l m k (x ∷ es) e = grind (arith, lookup-under l m k es e)

lookup-under-other : {V : Type 0} (l m : List ℕ) (k : List (List ℕ)) (es : Entries V)
    → is_eq (slice_cmp nat_cmp l m) ≡ false → lookup (is_key (l ∷ k)) (under m es) ≡ None
lookup-under-other l m k [] e = refl
lookup-under-other l m k (x ∷ es) e = grind (arith, lookup-under-other l m k es e)

-- a key at a level before all children has no entry below them
pub lookup-below-after : {V : Type 0} (l : List ℕ) (k : List (List ℕ)) (children : Children V)
    → After l (keys_of children) → lookup (is_key (l ∷ k)) (below children) ≡ None
lookup-below-after l k [] h = refl
lookup-below-after l k (child ∷ children) h =
    grind (
      arith,
      lookup-append-none (is_key (l ∷ k)) (under child.0 child.1) (below children),
      lookup-under-other l child.0 k child.1,
      lookup-below-after l k children h.1,
    )

-- a level before all children has no child
pub lookup-level-after : {V : Type 0} (l : List ℕ) (children : Children V)
    → After l (keys_of children) → lookup (is_level l) children ≡ None
lookup-level-after l [] h = refl
lookup-level-after l (child ∷ children) h = rw h.0 (lookup-level-after l children h.1)

-- to look up a key is to find its child, and the rest of the key there
pub lookup-below : {V : Type 0} (l : List ℕ) (k : List (List ℕ)) (children : Children V)
    → AreChildren children
    → lookup (is_key (l ∷ k)) (below children)
    ≡ option_and_then (lookup (is_key k)) (lookup (is_level l) children)
lookup-below l k [] h = refl
lookup-below l k (child ∷ children) h =
    grind (
      arith,
      lookup-append-none (is_key (l ∷ k)) (under child.0 child.1) (below children),
      lookup-append-last (is_key (l ∷ k)) (under child.0 child.1) (below children),
      lookup-under-other l child.0 k child.1,
      lookup-under l child.0 k child.1,
      lookup-below-after l k children,
      After-tail l child children,
      lookup-below l k children (AreChildren-tail child children h),
      h,
    )

-- the node's own value
pub lookup-own : {V : Type 0} (l : List ℕ) (k : List (List ℕ)) (value : Option V) (es : Entries V)
    → lookup (is_key (l ∷ k)) (own value ++ es) ≡ lookup (is_key (l ∷ k)) es
lookup-own l k None es = refl
lookup-own l k (Some v) es = refl

lookup-under-nil : {V : Type 0} (m : List ℕ) (es : Entries V)
    → lookup (is_key []) (under m es) ≡ None
lookup-under-nil m [] = refl
lookup-under-nil m (e ∷ es) = lookup-under-nil m es

lookup-below-nil : {V : Type 0} (children : Children V) → lookup (is_key []) (below children) ≡ None
lookup-below-nil [] = refl
lookup-below-nil (child ∷ children) =
    lookup-append-none (is_key []) (under child.0 child.1) (below children)
    (lookup-under-nil child.0 child.1) ∙ lookup-below-nil children

-- the value at the empty key is the node's own
pub lookup-here : {V : Type 0} (value : Option V) (children : Children V)
    → lookup (is_key []) (own value ++ below children) ≡ value
lookup-here None children = lookup-below-nil children
lookup-here (Some v) children = refl

-- the value at a key that goes on
pub lookup-there : {V : Type 0} (l : List ℕ) (k : List (List ℕ)) (value : Option V)
    (children : Children V) → AreChildren children
    → lookup (is_key (l ∷ k)) (own value ++ below children)
    ≡ option_and_then (lookup (is_key k)) (lookup (is_level l) children)
lookup-there l k value children h = lookup-own l k value (below children)
    ∙ lookup-below l k children h

-- ---- The children at a few levels
abbrev pub given : {V X : Type 0} → (List ℕ → Entries V → List X) → List ℕ → Option (Entries V)
    → List X
given w t None = []
given w t (Some es) = w t es

-- what the children at these levels give
abbrev pub gather : {V X : Type 0} → (List ℕ → Entries V → List X) → Children V → List (List ℕ)
    → List X
gather w children [] = []
gather w children (t ∷ ts) = given w t (lookup (is_level t) children) ++ gather w children ts

-- the child at a level
abbrev pub one : {V : Type 0} → List ℕ → Entries V → Children V
one t es = (t, es) ∷ []

pub gather_none : {V : Type 0} (ts : List (List ℕ)) → gather (one {V = V}) [] ts ≡ []
gather_none [] = refl
gather_none (t ∷ ts) = gather_none ts

-- no level of ts is m, where m comes before all
none_before : (m : List ℕ) (ts : List (List ℕ))
    → AllByRecursion (λ t. slice_cmp nat_cmp m t ≡ Less) ts
    → list_any (λ t. bytes_eq t m) ts ≡ false
none_before m [] a = refl
none_before m (t ∷ ts) a = rw (apart_from_less t m a.0) (none_before m ts a.1)

before_all : (t m : List ℕ) (ts : List (List ℕ)) → slice_cmp nat_cmp m t ≡ Less
    → AllByRecursion (λ u. slice_cmp nat_cmp t u ≡ Less) ts
    → AllByRecursion (λ u. slice_cmp nat_cmp m u ≡ Less) ts
before_all t m [] e a = tt
before_all t m (u ∷ ts) e a = (nat_list_cmp_total.trans m t u e a.0, before_all t m ts e a.1)

-- what the first child gives, and then the others
gather_cons : {V : Type 0} (child : List ℕ × Entries V) (children : Children V)
    (ts : List (List ℕ)) → AreChildren (child ∷ children)
    → IsStrictlySortedBy (slice_cmp nat_cmp) ts → gather one (child ∷ children) ts
    ≡ cond (list_any (λ t. bytes_eq t child.0) ts) (child ∷ []) [] ++ gather one children ts
gather_cons child children [] h s = refl
gather_cons child children (t ∷ ts) h s =
    let m = child.0 in
    let a = sorted_head (slice_cmp nat_cmp) t ts s in
    let more = gather_cons child children ts h (sorted_tail (slice_cmp nat_cmp) t ts s) in
    (elim (slice_cmp nat_cmp t m) as (λ o. slice_cmp nat_cmp t m ≡ o
    → given one t (cond (is_eq o) (Some child.1) (lookup (is_level t) children))
    ++ gather one (child ∷ children) ts
    ≡ cond (bytes_eq t m || list_any (λ t. bytes_eq t m) ts) (child ∷ []) []
    ++ (given one t (lookup (is_level t) children) ++ gather one children ts)) [
      | Less ↦ λ e. rw (
        lookup-level-after t children (After-tail-less t child children e h),
        apart_from_greater t m e,
      ) more
      | Equal ↦ λ e. rw (lookup-level-after t children (After-tail t child children e h))
          (grind (arith, exact_bytes t m e, text_itself m, more, none_before t ts a))
      | Greater ↦ λ e.
          let before = nat_list_cmp_total.antisymm m t ∙ ap ordering_reverse e in
          rw (none_before m (t ∷ ts) (before, before_all t m ts before a))
          (ap (λ xs. given one t (lookup (is_level t) children) ++ xs)
          (rw (none_before m ts (before_all t m ts before a)) at more))
    ]) refl

any_passes : (c : List ℕ → Bool) (m : List ℕ) (ts : List (List ℕ))
    → AllByRecursion (λ t. c t ≡ true) ts → list_any (λ t. bytes_eq t m) ts ≡ true → c m ≡ true
any_passes c m [] a h = grind arith
any_passes c m (t ∷ ts) a h = grind (arith, a.0, text_is t m, any_passes c m ts a.1)

-- the children whose level passes a test that these levels alone pass
pub picked : {V : Type 0} (c : List ℕ → Bool) (ts : List (List ℕ)) (children : Children V)
    → AreChildren children → IsStrictlySortedBy (slice_cmp nat_cmp) ts
    → AllByRecursion (λ t. c t ≡ true) ts
    → ((m : List ℕ) → list_any (λ t. bytes_eq t m) ts ≡ false → c m ≡ false)
    → filter (λ child. c child.0) children ≡ gather one children ts
picked c ts [] are sorted passes others = sym (gather_none ts)
picked c ts (child ∷ children) are sorted passes others =
    grind (
      arith,
      gather_cons child children ts are sorted,
      any_passes c child.0 ts passes,
      others child.0,
      picked c ts children (AreChildren-tail child children are) sorted passes others,
    )
