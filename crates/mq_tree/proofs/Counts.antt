-- How many keys and nodes a node has, and what its values hold together.
use Rattle.std.proofs.Common.{true≢false, ◌≡◌, ℕ, ◌+◌, ◌≤◌, Bool, true, false, ◌↔◌, eqb, List, []}
use Rattle.std.proofs.Common.{◌∷◌, ◌++◌, length, Option, Some, None, is_some, refl, ap, suc, arith}
use Rattle.std.proofs.Common.{length-append}
use mir.Val.{bool_byte}
use Rattle.std.specs.List.{sum_by}
use Rattle.std.specs.Map.{values_of}
use Rattle.std.proofs.lemmas.Bool.Decides.{nat_tests}
use Rattle.std.proofs.lemmas.List.Sums.{sum_by-cons, sum_by-append}
use Rattle.mq_tree.specs.Entries.{Entries}
use Rattle.mq_topic.specs.Prefixes.{capped}
use Rattle.mq_tree.specs.Nodes.{NodeView, Branches, Children, under, below, own, entries_of}
use Rattle.mq_tree.specs.Nodes.{children_of, AreChildren}
use Rattle.mq_tree.specs.Falls.{some_length}

-- one level further down there are as many entries
pub length-under : {V : Type 0} (l : List ℕ) (es : Entries V) → length (under l es) ≡ length es
length-under l [] = refl
length-under l (e ∷ es) = omega (arith, length-under l es)

-- there are as many entries below as the children have together
pub length-below : {V : Type 0} (children : Children V)
    → length (below children) ≡ sum_by length (values_of children)
length-below [] = refl
length-below (child ∷ children) =
    grind (
      arith,
      length-append (under child.0 child.1) (below children),
      length-under child.0 child.1,
      length-below children,
      sum_by-cons length child.1 (values_of children),
    )

-- a node with a child has an entry below it
pub some_below : {V : Type 0} (children : Children V) → AreChildren children → 1 ≤ length children
    → 1 ≤ length (below children)
some_below [] h p = absurd (omega arith)
some_below (child ∷ children) h p =
    let a = some_length child.1 h.live.0 in
    let b = length-append (under child.0 child.1) (below children) in
    omega (arith, a, b, length-under child.0 child.1)

is_childless : {V : Type 0} (b : Bool) (children : Children V) → AreChildren children
    → ((b ≡ true) ↔ (length children ≡ 0)) → b ≡ eqb (length (below children)) 0
is_childless b [] h f = f.1 refl
is_childless b (child ∷ children) h f =
    grind (arith, nat_tests, f.0, some_below (child ∷ children) h)

length-children : {Y V : Type 0} (nodes : Branches Y V) → length (children_of nodes) ≡ length nodes
length-children [] = refl
length-children (node ∷ nodes) = ap suc (length-children nodes)

-- where a node has no value of its own, the test that its map is empty is the test that it has no
-- entries: each child leads to one
pub empty_from_none : {Y V : Type 0} (b : Bool) (value : Option V) (nodes : Branches Y V)
    (now : NodeView V) → is_some value ≡ false → ◌≡◌ {A = NodeView V} (value, children_of nodes) now
    → AreChildren (children_of nodes) → ((b ≡ true) ↔ (length nodes ≡ 0))
    → b ≡ eqb (length (entries_of now)) 0
empty_from_none b None nodes now e is h f =
    rw (← is) (is_childless b (children_of nodes) h (rw (length-children nodes) f))
empty_from_none b (Some v) nodes now e is h f = absurd (true≢false e)

-- ---- keys
pub length-own : {V : Type 0} (value : Option V) (children : Children V) (n : ℕ)
    → n ≡ bool_byte (is_some value) → n + sum_by length (values_of children)
    ≡ length (own value ++ below children)
length-own None children n e = omega (arith, length-below children)
length-own (Some v) children n e = omega (arith, length-below children)

-- ---- values
-- what the values hold, f of each
abbrev pub held : {V : Type 0} → (V → ℕ) → Entries V → ℕ
held f es = sum_by (λ e. f e.1) es

held-under : {V : Type 0} (f : V → ℕ) (l : List ℕ) (es : Entries V)
    → held f (under l es) ≡ held f es
held-under f l [] = refl
held-under f l (e ∷ es) =
    let a = sum_by-cons (λ x. f x.1) (l ∷ e.0, e.1) (under l es) in
    let b = sum_by-cons (λ x. f x.1) e es in
    omega (arith, a, b, held-under f l es)

held-below : {V : Type 0} (f : V → ℕ) (children : Children V)
    → held f (below children) ≡ sum_by (held f) (values_of children)
held-below f [] = refl
held-below f (child ∷ children) =
    omega (
      arith,
      sum_by-append (λ e. f e.1) (under child.0 child.1) (below children),
      held-under f child.0 child.1,
      held-below f children,
      sum_by-cons (held f) child.1 (values_of children),
    )

-- a node's own value and its children's values hold together what all of its entries hold,
-- as a u64 gives it
pub held-node : {V : Type 0} (f : V → ℕ) (node : NodeView V) (n : ℕ)
    → n ≡ capped (held f (own node.0))
    → capped (n + sum_by (held f) (values_of node.1)) ≡ capped (held f (entries_of node))
held-node f node n e =
    omega (
      arith,
      e,
      held-below f node.1,
      sum_by-append (λ e. f e.1) (own node.0) (below node.1),
    )
