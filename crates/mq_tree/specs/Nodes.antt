-- A node seen as its own value and its children, each its level and the entries below it.
use Rattle.std.specs.Prelude.{◌≢◌, ℕ, ◌+◌, Bool, List, [], ◌∷◌, ◌++◌, length, map, Option, Some}
use Rattle.std.specs.Prelude.{None}
use Rattle.std.specs.declared.string.String.{String}
use Rattle.std.specs.String.{string_bytes}
use Rattle.std.specs.Global.{Box}
use Rattle.std.specs.Ordering.{nat_cmp}
use Rattle.std.specs.Cmp.Lexicographic.{slice_cmp}
use Rattle.std.specs.BTreeMap.{insert_entry, is_at}
use Rattle.std.specs.Map.{keys_of}
use Rattle.std.specs.List.Sorted.{IsStrictlySortedBy}
use Rattle.mq_tree.specs.Entries.{Entries}

-- the children of a node: each one's level, and the entries below it
abbrev pub Children : Type 0 → Type 0
Children V = List (List ℕ × Entries V)

-- a node: its own value, and its children
abbrev pub NodeView : Type 0 → Type 0
NodeView V = Option V × Children V

-- the entries es, each one level further down
abbrev pub under : {V : Type 0} → List ℕ → Entries V → Entries V
under level [] = []
under level (e ∷ es) = (level ∷ e.0, e.1) ∷ under level es

-- the entries of all children, in their order
abbrev pub below : {V : Type 0} → Children V → Entries V
below [] = []
below (child ∷ children) = under child.0 child.1 ++ below children

-- the entry of a node's own value
abbrev pub own : {V : Type 0} → Option V → Entries V
own None = []
own (Some v) = ([], v) ∷ []

-- the entries of a node: its own value, and those of its children
abbrev pub entries_of : {V : Type 0} → NodeView V → Entries V
entries_of node = own node.0 ++ below node.1

-- the entries of a node in a box
abbrev pub entries_in : {V : Type 0} → Box (NodeView V) → Entries V
entries_in node = entries_of node.value

-- what a map from levels to nodes holds, each node in a box of its own
abbrev pub Branches : Type 0 → Type 0 → Type 0
Branches Y V = List (String Y × Box (NodeView V))

-- the children that it holds
abbrev pub children_of : {Y V : Type 0} → Branches Y V → Children V
children_of nodes = map (λ node. (string_bytes node.0, entries_in node.1)) nodes

-- the children once a branch that leads to v alone is hung in at a level
abbrev pub with_branch : {V : Type 0} → Children V → List ℕ → List (List ℕ) → V → Children V
with_branch children level rest v = insert_entry (slice_cmp nat_cmp) children level ((rest, v) ∷ [])

-- the test for the child at a level
abbrev pub is_level : List ℕ → List ℕ → Bool
is_level l = is_at (slice_cmp nat_cmp l)

-- each child leads to an entry
abbrev pub NoneDead : {V : Type 0} → Children V → Type 0
NoneDead [] = Unit {0}
NoneDead (child ∷ children) = (child.1 ≢ []) × NoneDead children

-- the children stand in the order of their levels, and each leads to an entry
pub record AreChildren {V : Type 0} (children : Children V) : Type 0 where
  pub ordered : IsStrictlySortedBy (slice_cmp nat_cmp) (keys_of children)
  pub live : NoneDead children

-- how many levels and entries
abbrev pub weight : {V : Type 0} → Entries V → ℕ
weight [] = 0
weight (e ∷ es) = (length e.0 + 1) + weight es
