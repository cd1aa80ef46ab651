-- The prefixes of lists of levels, how many there are, and which of them match.
use Rattle.std.specs.Prelude.{ℕ, Bool, true, false, not, ◌&&◌, List, [], ◌∷◌, ◌++◌, map, min}
use Rattle.std.specs.List.{filter, list_any}
use Rattle.std.specs.Str.{bytes_eq}
use Rattle.mq_topic.specs.Matching.{matches}

-- the nonempty prefixes of a list of levels, shortest first
abbrev pub heads : List (List ℕ) → List (List (List ℕ))
heads [] = []
heads (l ∷ k) = (l ∷ []) ∷ map (λ p. l ∷ p) (heads k)

-- p is a prefix of k
abbrev pub is_prefix : List (List ℕ) → List (List ℕ) → Bool
is_prefix [] k = true
is_prefix (l ∷ p) [] = false
is_prefix (l ∷ p) (m ∷ k) = bytes_eq l m && is_prefix p k

-- the nonempty prefixes of each key, but those of the key before it
abbrev pub prefixes_after : List (List ℕ) → List (List (List ℕ)) → List (List (List ℕ))
prefixes_after last [] = []
prefixes_after last (k ∷ ks) = filter (λ p. not (is_prefix p last)) (heads k) ++ prefixes_after k ks

-- of keys in level order each nonempty prefix once, in level order
abbrev pub prefixes : List (List (List ℕ)) → List (List (List ℕ))
prefixes keys = prefixes_after [] keys

-- the prefixes that match a nonempty prefix of the name
abbrev pub met_by_name : List (List ℕ) → List (List (List ℕ)) → List (List (List ℕ))
met_by_name name ps = filter (λ p. list_any (λ n. matches p n) (heads name)) ps

-- the prefixes that a nonempty prefix of the filter matches
abbrev pub met_by_filter : List (List ℕ) → List (List (List ℕ)) → List (List (List ℕ))
met_by_filter topic_filter ps = filter (λ p. list_any (λ g. matches g p) (heads topic_filter)) ps

-- a number as a u64 gives it
abbrev pub capped : ℕ → ℕ
capped n = min n 18446744073709551615
