-- A filter's levels, taken one by one at a node.
use Rattle.std.proofs.Common.{◌≡◌, ◌≢◌, ℕ, ◌<◌, ◌≤◌, ◌||◌, ◌&&◌, Bool, true, false, List, [], ◌∷◌}
use Rattle.std.proofs.Common.{◌++◌, length, refl, ap, ap₂, ◌∙◌, arith, append-nil}
use Rattle.std.specs.Str.{bytes_eq}
use Rattle.std.specs.Map.{keys_of, values_of}
use Rattle.std.specs.List.{filter, flat_map, list_any, AllByRecursion}
use Rattle.std.proofs.lemmas.List.{map-append}
use Rattle.std.proofs.lemmas.List.Elements.{filter_agree}
use Rattle.mq_topic.specs.Matching.{level_matches}
use Rattle.mq_tree.specs.Below.{hash, plus, is_last_hash, matches_below, fronts, meets_filter}
use Rattle.mq_tree.specs.Below.{values_at, tally, HashLast}
use Rattle.mq_tree.specs.Entries.{Entries}
use Rattle.mq_tree.specs.Falls.{weight-append, weight-under, some_length}
use Rattle.mq_tree.specs.Nodes.{NodeView, Children, under, below, own, entries_of, weight, NoneDead}
use Rattle.mq_tree.specs.Nodes.{AreChildren}
use Rattle.mq_topic.specs.Prefixes.{prefixes}
use Rattle.mq_tree.proofs.Blocks.{met_agree, prefixes_own, length-blocks}
use Rattle.mq_tree.proofs.Levels.{not_same}
use Rattle.mq_tree.proofs.Levelwise.{values_node, met_node, filter_each, filter_none}
use Rattle.mq_tree.proofs.Names.{any_map, not_last}

-- ---- everything
values_under : {V : Type 0} (l : List ℕ) (es : Entries V) → values_of (under l es) ≡ values_of es
values_under l [] = refl
values_under l (e ∷ es) = ap (λ vs. e.1 ∷ vs) (values_under l es)

values_below : {V : Type 0} (children : Children V)
    → values_of (below children) ≡ flat_map (λ child. values_of child.1) children
values_below [] = refl
values_below (child ∷ children) = map-append (λ e. e.1) (under child.0 child.1) (below children)
    ∙ ap₂ (λ a b. a ++ b) (values_under child.0 child.1) (values_below children)

-- all values of a node: its own, and then those of each child
pub all_values : {V : Type 0} (node : NodeView V)
    → values_of (entries_of node) ≡ values_of (own node.0)
    ++ flat_map (λ child. values_of child.1) node.1
all_values node = map-append (λ e. e.1) (own node.0) (below node.1)
    ∙ ap (λ vs. values_of (own node.0) ++ vs) (values_below node.1)

-- all nodes below a node: one for each child, and those below it
pub all_met : {V : Type 0} (node : NodeView V) → AreChildren node.1
    → length (prefixes (keys_of (entries_of node)))
    ≡ tally (λ child. length (prefixes (keys_of child.1))) node.1
all_met node are = ap length (prefixes_own node.0 node.1 are) ∙ length-blocks node.1

-- the first of some children weighs less than what they stand below, and so do the others
pub next_weighs_less : {V : Type 0} (child : List ℕ × Entries V) (rest all : Children V) (n : ℕ)
    → all ≡ child ∷ rest → NoneDead all → weight (below all) ≤ n → (weight child.1 < n)
    × (weight (below rest) ≤ n) × NoneDead rest
next_weighs_less child rest all n e live low =
    let a = weight-append (under child.0 child.1) (below rest) in
    let b = weight-under child.0 child.1 in
    let l = rw e at live in
    let w = rw e at low in
    let s = some_length child.1 l.0 in
    (omega (arith, a, b, s, w), omega (arith, a, b, s, w), l.1)

-- the children weigh no more than their node together, and each leads to an entry
pub all_weigh_less : {V : Type 0} (node : NodeView V) (children : Children V) → children ≡ node.1
    → AreChildren node.1 → (weight (below children) ≤ weight (entries_of node)) × NoneDead children
all_weigh_less node children e are = (
  omega (arith, weight-append (own node.0) (below node.1), ap (λ cs. weight (below cs)) e),
  rw e are.live,
)

-- ---- the filter's end
pub end_found : {V : Type 0} (node : NodeView V)
    → values_at (matches_below []) (entries_of node) ≡ values_of (own node.0)
end_found node =
    values_node (matches_below []) (λ m. false) (λ m k. false) (λ m k. refl) node.0 node.1 true refl
    ∙ ap (λ cs. values_of (own node.0) ++ flat_map (λ child. values_at (λ k. false) child.1) cs)
    (filter_none node.1) ∙ append-nil (values_of (own node.0))

-- a filter that has ended enters no node below
pub end_met : {V : Type 0} (es : Entries V)
    → length (filter (meets_filter []) (prefixes (keys_of es))) ≡ 0
end_met es = met_agree (meets_filter []) (λ p. false) (λ m k. refl) (keys_of es)
    ∙ ap length (filter_none (prefixes (keys_of es)))

-- ---- at `#`
-- a `#` stands last in the rest too
pub rest_hash_last : (ls : List (List ℕ)) (l : List ℕ) (rest : List (List ℕ)) → ls ≡ l ∷ rest
    → HashLast ls → HashLast rest
rest_hash_last ls l [] e h = tt
rest_hash_last ls l (m ∷ rest) e h = (rw e at h).1

pub hash_ends : (ls : List (List ℕ)) (l : List ℕ) (rest : List (List ℕ)) → ls ≡ l ∷ rest
    → HashLast ls → l ≡ hash → ls ≡ hash ∷ []
hash_ends ls l [] e h s = e ∙ ap (λ x. x ∷ []) s
hash_ends ls l (m ∷ rest) e h s = absurd ((rw e at h).0 s)

-- a last `#` matches all that is below
pub hash_matches : (k : List (List ℕ)) → matches_below (hash ∷ []) k ≡ true
hash_matches [] = refl
hash_matches (l ∷ k) = refl

-- a last `#` meets every prefix, even the empty one
pub hash_meets : (p : List (List ℕ)) → meets_filter (hash ∷ []) p ≡ true
hash_meets [] = refl
hash_meets (l ∷ p) = refl

-- a last `#` finds all values
pub hash_found : {V : Type 0} (es : Entries V)
    → values_at (matches_below (hash ∷ [])) es ≡ values_of es
hash_found es = ap values_of (filter_agree _ (λ e. true) (λ e. hash_matches e.0) es
    ∙ filter_each es)

-- a last `#` enters all nodes
pub hash_met : {V : Type 0} (es : Entries V)
    → length (filter (meets_filter (hash ∷ [])) (prefixes (keys_of es)))
    ≡ length (prefixes (keys_of es))
hash_met es = ap length (filter_agree _ (λ p. true) hash_meets (prefixes (keys_of es))
    ∙ filter_each (prefixes (keys_of es)))

-- ---- at another level
any_and : {A : Type 0} (b : Bool) (g h : A → Bool) (xs : List A)
    → AllByRecursion (λ x. h x ≡ false) xs → list_any (λ x. h x || (b && g x)) xs
    ≡ (b && list_any g xs)
any_and b g h [] a = grind arith
any_and b g h (x ∷ xs) a = grind (arith, a.0, any_and b g h xs a.1)

never_last : (f : List ℕ) (gs : List (List (List ℕ))) → bytes_eq f hash ≡ false
    → AllByRecursion (λ g. is_last_hash f g ≡ false) gs
never_last f [] h = tt
never_last f (g ∷ gs) h = (not_last f g h, never_last f gs h)

-- where the first level of a filter is no `#`, the filter matches just where that level matches
-- and the rest matches the rest
pub level_step : (f : List ℕ) (fs : List (List ℕ)) → bytes_eq f hash ≡ false
    → (m : List ℕ) (k : List (List ℕ)) → matches_below (f ∷ fs) (m ∷ k)
    ≡ (level_matches f m && matches_below fs k)
level_step f fs h m k = ap (λ b. b || (level_matches f m && matches_below fs k)) (not_last f fs h)

-- where the first level of a filter is no `#`, the filter meets a nonempty prefix just where that
-- level matches and the rest meets the rest
pub level_met_step : (f : List ℕ) (fs : List (List ℕ)) → bytes_eq f hash ≡ false
    → (m : List ℕ) (p : List (List ℕ)) → meets_filter (f ∷ fs) (m ∷ p)
    ≡ (level_matches f m && meets_filter fs p)
level_met_step f fs h m p =
    any_map (λ g. matches_below g (m ∷ p)) (λ g. f ∷ g) (fronts fs)
    ∙ any_and (level_matches f m) (λ g. matches_below g p) (λ g. is_last_hash f g) (fronts fs)
    (never_last f (fronts fs) h)

-- where the first level of a filter is no wildcard, the filter matches just where that level is
-- the same and the rest matches the rest
pub exact_step : (f : List ℕ) (fs : List (List ℕ)) → f ≢ hash → f ≢ plus
    → (m : List ℕ) (k : List (List ℕ)) → matches_below (f ∷ fs) (m ∷ k)
    ≡ (bytes_eq f m && matches_below fs k)
exact_step f fs h q m k = grind (arith, level_step f fs (not_same f hash h) m k, not_same f plus q)

-- where the first level of a filter is no wildcard, the filter meets a nonempty prefix just where
-- that level is the same and the rest meets the rest
pub exact_met_step : (f : List ℕ) (fs : List (List ℕ)) → f ≢ hash → f ≢ plus
    → (m : List ℕ) (p : List (List ℕ)) → meets_filter (f ∷ fs) (m ∷ p)
    ≡ (bytes_eq f m && meets_filter fs p)
exact_met_step f fs h q m p =
    grind (arith, level_met_step f fs (not_same f hash h) m p, not_same f plus q)

-- ---- at `+`
module _ {V : Type 0} (node : NodeView V) (fs : List (List ℕ)) where
  pub plus_found : values_at (matches_below (plus ∷ fs)) (entries_of node)
      ≡ flat_map (λ child. values_at (matches_below fs) child.1) node.1
  plus_found =
      values_node (matches_below (plus ∷ fs)) (λ m. true) (λ m. matches_below fs)
      (level_step plus fs refl) node.0 node.1 false (not_last plus fs refl)
      ∙ ap (flat_map (λ child. values_at (matches_below fs) child.1)) (filter_each node.1)

  pub plus_met : AreChildren node.1
      → length (filter (meets_filter (plus ∷ fs)) (prefixes (keys_of (entries_of node))))
      ≡ tally (λ child. length (filter (meets_filter fs) (prefixes (keys_of child.1)))) node.1
  plus_met are =
      met_node (meets_filter (plus ∷ fs)) (λ m. true) (λ m. meets_filter fs)
      (level_met_step plus fs refl) node.0 node.1 are (λ m h. refl)
      ∙ ap (tally (λ child. length (filter (meets_filter fs) (prefixes (keys_of child.1)))))
      (filter_each node.1)

-- a filter with one more level, not `#`, does not match where the name ends
pub not_key : (f : List ℕ) (fs : List (List ℕ)) → f ≢ hash → matches_below (f ∷ fs) [] ≡ false
not_key f fs h = not_last f fs (not_same f hash h)
