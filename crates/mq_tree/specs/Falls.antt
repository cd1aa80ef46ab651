-- Each child weighs less than its node.
use Rattle.std.specs.Prelude.{◌≡◌, ◌≢◌, ℕ, ◌+◌, ◌≤◌, max, List, [], ◌∷◌, ◌++◌, length, map, Option}
use Rattle.std.specs.Prelude.{refl}
use Rattle.std.proofs.Common.{arith}
use Rattle.std.specs.String.{string_bytes}
use denote.Param.Weighed.{most}
use Rattle.mq_tree.specs.Entries.{Entries}
use Rattle.mq_tree.specs.Nodes.{Branches, under, below, own, entries_in, children_of, NoneDead}
use Rattle.mq_tree.specs.Nodes.{AreChildren, weight}

pub weight-append : {V : Type 0} (xs ys : Entries V) → weight (xs ++ ys) ≡ weight xs + weight ys
weight-append [] ys = omega arith
weight-append (x ∷ xs) ys = omega (arith, weight-append xs ys)

pub weight-under : {V : Type 0} (level : List ℕ) (es : Entries V)
    → weight (under level es) ≡ weight es + length es
weight-under level [] = omega arith
weight-under level (e ∷ es) = omega (arith, weight-under level es)

pub some_length : {A : Type 0} (es : List A) → es ≢ [] → 1 ≤ length es
some_length [] h = absurd (h refl)
some_length (e ∷ es) h = omega arith

most_le-weight : {Y V : Type 0} (nodes : Branches Y V) → NoneDead (children_of nodes)
    → most (λ node. weight (entries_in node) + 1) (map (λ x. x.1) nodes)
    ≤ weight (below (children_of nodes))
most_le-weight [] h = omega arith
most_le-weight (node ∷ nodes) h =
    omega (
      arith,
      most_le-weight nodes h.1,
      some_length (entries_in node.1) h.0,
      weight-under (string_bytes node.0) (entries_in node.1),
      weight-append (under (string_bytes node.0) (entries_in node.1)) (below (children_of nodes)),
    )

pub children_weigh_less : {Y V : Type 0} (value : Option V) (nodes : Branches Y V)
    → AreChildren (children_of nodes)
    → max (most (λ node. weight (entries_in node) + 1) (map (λ x. x.1) nodes)) 0
    ≤ weight (own value ++ below (children_of nodes))
children_weigh_less value nodes h =
    omega (
      arith,
      most_le-weight nodes h.live,
      weight-append (own value) (below (children_of nodes)),
    )
