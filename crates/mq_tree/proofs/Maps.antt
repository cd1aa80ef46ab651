-- The children that a map from levels to nodes holds, under the map's calls.
use Rattle.std.proofs.Common.{arith, ◌≡◌, ℕ, Bool, List, [], ◌∷◌, map, Less, nat_cmp, refl, ap}
use Rattle.std.specs.Global.{Box}
use Rattle.std.specs.declared.string.String.{String}
use Rattle.std.specs.String.{string_bytes, string_cmp}
use Rattle.std.specs.Cmp.Lexicographic.{slice_cmp}
use Rattle.std.specs.BTreeMap.{is_at, insert_entry}
use Rattle.std.specs.Map.{keys_of, values_of, lookup, remove_entry, set_value}
use Rattle.std.specs.Option.{option_map}
use Rattle.std.specs.List.{AllByRecursion}
use Rattle.std.specs.List.Sorted.{IsStrictlySortedBy}
use Rattle.mq_tree.specs.Nodes.{NodeView, Branches, is_level, entries_in, children_of}

-- the map's test for the level
abbrev pub is_text : {Y : Type 0} → List ℕ → String Y → Bool
is_text l = is_at (λ s. slice_cmp nat_cmp l (string_bytes s))

-- to look up a child at a level is to look up its node in the map, and take that node's entries
pub lookup_children : {Y V : Type 0} (l : List ℕ) (nodes : Branches Y V)
    → lookup (is_level l) (children_of nodes) ≡ option_map entries_in (lookup (is_text l) nodes)
lookup_children l [] = refl
lookup_children l (node ∷ nodes) = grind (arith, lookup_children l nodes)

-- to set the node at a level in the map is to set the entries of the child there
pub set_children : {Y V : Type 0} (l : List ℕ) (nodes : Branches Y V) (new : Box (NodeView V))
    → children_of (set_value (is_text l) nodes new)
    ≡ set_value (is_level l) (children_of nodes) (entries_in new)
set_children l [] new = refl
set_children l (node ∷ nodes) new = grind (arith, set_children l nodes new)

-- to remove the node at a level from the map is to remove the child there
pub remove_children : {Y V : Type 0} (l : List ℕ) (nodes : Branches Y V)
    → children_of (remove_entry (is_text l) nodes) ≡ remove_entry (is_level l) (children_of nodes)
remove_children l [] = refl
remove_children l (node ∷ nodes) = grind (arith, remove_children l nodes)

-- to put a node into the map is to put its entries among the children, at the level of its text
pub insert_children : {Y V : Type 0} (text : String Y) (nodes : Branches Y V)
    (new : Box (NodeView V)) → children_of (insert_entry string_cmp nodes text new)
    ≡ insert_entry (slice_cmp nat_cmp) (children_of nodes) (string_bytes text) (entries_in new)
insert_children text [] new = refl
insert_children text (node ∷ nodes) new = grind (arith, insert_children text nodes new)

-- the entries of the children are those of the nodes in the map, in the same order
pub values_children : {Y V : Type 0} (nodes : Branches Y V)
    → values_of (children_of nodes) ≡ map entries_in (values_of nodes)
values_children [] = refl
values_children (node ∷ nodes) = ap (λ es. entries_in node.1 ∷ es) (values_children nodes)

after_levels : {Y V : Type 0} (s : String Y) (nodes : Branches Y V)
    → AllByRecursion (λ t. string_cmp s t ≡ Less) (keys_of nodes)
    → AllByRecursion (λ l. slice_cmp nat_cmp (string_bytes s) l ≡ Less)
    (keys_of (children_of nodes))
after_levels s [] h = tt
after_levels s (node ∷ nodes) h = (h.0, after_levels s nodes h.1)

-- a map's children stand in the order of their levels
pub ordered_levels : {Y V : Type 0} (nodes : Branches Y V)
    → IsStrictlySortedBy string_cmp (keys_of nodes)
    → IsStrictlySortedBy (slice_cmp nat_cmp) (keys_of (children_of nodes))
unfolding IsStrictlySortedBy
ordered_levels [] h = tt
ordered_levels (node ∷ nodes) h = (after_levels node.0 nodes h.0, ordered_levels nodes h.1)
