-- Private words of the look-ups below a tree's root, where the rule on `$` plays no part.
use Rattle.std.specs.Prelude.{◌≡◌, ◌≢◌, ℕ, ◌+◌, Bool, true, false, not, cond, ◌==◌, ◌&&◌, ◌||◌}
use Rattle.std.specs.Prelude.{slice_index, List, [], ◌∷◌, ◌++◌, length, map}
use denote.Ref.{Bor}
use Rattle.std.specs.List.{filter, flat_map, list_any, AllByRecursion}
use Rattle.std.specs.Map.{keys_of, values_of}
use Rattle.std.specs.Ordering.{nat_cmp, is_lt}
use Rattle.std.specs.Cmp.Lexicographic.{slice_cmp}
use Rattle.std.specs.Str.{bytes_eq}
use Rattle.mq_topic.specs.Matching.{level_matches}
use Rattle.mq_tree.specs.Entries.{Entries}
use Rattle.mq_tree.specs.Nodes.{Children}
use Rattle.mq_topic.specs.Prefixes.{heads, prefixes}

-- `#` and `+`
abbrev pub hash : List ℕ
hash = 35 ∷ []

abbrev pub plus : List ℕ
plus = 43 ∷ []

-- the level begins with `$`
abbrev pub begins_with_dollar : List ℕ → Bool
begins_with_dollar level = slice_index level 0 == 36

-- l is a `#`, and the last level
abbrev pub is_last_hash : List ℕ → List (List ℕ) → Bool
is_last_hash l [] = bytes_eq l hash
is_last_hash l (m ∷ k) = false

-- the filter matches the name, level by level
abbrev pub matches_below : List (List ℕ) → List (List ℕ) → Bool
matches_below [] [] = true
matches_below [] (n ∷ ns) = false
matches_below (f ∷ fs) [] = is_last_hash f fs
matches_below (f ∷ fs) (n ∷ ns) = is_last_hash f fs || (level_matches f n && matches_below fs ns)

-- k matches the name
abbrev pub suits_name : List (List ℕ) → List (List ℕ) → Bool
suits_name name k = matches_below k name

-- the prefixes of a list of levels, the empty one first
abbrev pub fronts : List (List ℕ) → List (List (List ℕ))
fronts ls = [] ∷ heads ls

-- p matches a prefix of the name
abbrev pub meets_name : List (List ℕ) → List (List ℕ) → Bool
meets_name name p = list_any (λ n. matches_below p n) (fronts name)

-- a prefix of the filter matches p
abbrev pub meets_filter : List (List ℕ) → List (List ℕ) → Bool
meets_filter topic_filter p = list_any (λ g. matches_below g p) (fronts topic_filter)

-- the values at the keys that pass
abbrev pub values_at : {V : Type 0} → (List (List ℕ) → Bool) → Entries V → List V
values_at passes es = values_of (filter (λ e. passes e.0) es)

-- how many of the nodes below pass
abbrev pub nodes_at : {V : Type 0} → (List (List ℕ) → Bool) → Entries V → ℕ
nodes_at passes es = length (filter passes (prefixes (keys_of es)))

-- one for each, and what f counts there
abbrev pub tally : {A : Type 0} → (A → ℕ) → List A → ℕ
tally f [] = 0
tally f (x ∷ xs) = (1 + f x) + tally f xs

-- the values below each of the children at the keys that pass
abbrev pub values_below : {V : Type 0} → (List (List ℕ) → Bool) → Children V → List V
values_below passes children = flat_map (λ child. values_at passes child.1) children

-- each of the children, and how many of the nodes below it pass
abbrev pub nodes_below : {V : Type 0} → (List (List ℕ) → Bool) → Children V → ℕ
nodes_below passes children = tally (λ child. nodes_at passes child.1) children

-- the children whose level does not begin with `$`
abbrev pub plain_children : {V : Type 0} → Children V → Children V
plain_children children = filter (λ child. not (begins_with_dollar child.0)) children

-- these values are added at the end
abbrev pub Adds : {V : Type 0} → List (Bor V) → List (Bor V) → List V → Type 0
Adds old new values = map (λ v. v.now) new ≡ map (λ v. v.now) old ++ values

-- no level is a wildcard
abbrev pub ArePlain : List (List ℕ) → Type 0
ArePlain ls = AllByRecursion (λ l. (l ≢ hash) × (l ≢ plus)) ls

-- no level but the last is a `#`
abbrev pub HashLast : List (List ℕ) → Type 0
HashLast [] = Unit {0}
HashLast (l ∷ []) = Unit {0}
HashLast (l ∷ m ∷ k) = (l ≢ hash) × HashLast (m ∷ k)

-- l comes before m
abbrev pub is_before : List ℕ → List ℕ → Bool
is_before l m = is_lt (slice_cmp nat_cmp l m)

-- the levels of children that may match n, in their order
abbrev pub in_order_of : List ℕ → List (List ℕ)
in_order_of n =
    cond (is_before n hash) (n ∷ hash ∷ plus ∷ [])
    (cond (is_before n plus) (hash ∷ n ∷ plus ∷ []) (hash ∷ plus ∷ n ∷ []))
