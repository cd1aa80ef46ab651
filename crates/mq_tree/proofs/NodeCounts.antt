-- What an edit makes of the number of nodes.
use Rattle.std.proofs.Common.{arith, ◌≡◌, ℕ, ◌+◌, ◌-◌, ◌<◌, Bool, List, [], ◌∷◌, ◌++◌, length}
use Rattle.std.proofs.Common.{Option, Some, None, min, nat_cmp, refl, sym, ap, ◌∙◌, append-nil}
use Rattle.std.specs.Cmp.Lexicographic.{slice_cmp}
use Rattle.std.specs.BTreeMap.{insert_entry}
use Rattle.std.specs.Global.{Box}
use Rattle.std.specs.Map.{lookup, remove_entry, set_value}
use Rattle.std.proofs.lemmas.List.{length-map}
use Rattle.std.proofs.lemmas.Map.{keys-set_value}
use Rattle.mq_topic.specs.Prefixes.{heads}
use Rattle.mq_tree.specs.Below.{tally}
use Rattle.mq_tree.specs.Entries.{Entries}
use Rattle.mq_tree.specs.NodeCounts.{nodes_of, Tells, CountsMore}
use Rattle.mq_tree.specs.Nodes.{NodeView, Branches, Children, is_level, own, below, entries_of}
use Rattle.mq_tree.specs.Nodes.{entries_in, children_of, with_branch, AreChildren}
use Rattle.mq_tree.proofs.Blocks.{heads_none}
use Rattle.mq_tree.proofs.Filters.{all_met}
use Rattle.mq_tree.proofs.Maps.{is_text, set_children}
use Rattle.mq_tree.proofs.Descents.{At, entries_is, child_is, cut_is}

-- a node's own value is at no node below it
pub nodes-own : {V : Type 0} (value : Option V) (es : Entries V)
    → nodes_of (own value ++ es) ≡ nodes_of es
nodes-own None es = refl
nodes-own (Some v) es = refl

length-heads : (k : List (List ℕ)) → length (heads k) ≡ length k
length-heads [] = refl
length-heads (l ∷ k) = omega (arith, length-map (heads k) (λ p. l ∷ p), length-heads k)

-- one key has a node for each of its levels
nodes-one : {V : Type 0} (k : List (List ℕ)) (v : V) → nodes_of {V = V} ((k, v) ∷ []) ≡ length k
nodes-one k v = ap length (append-nil _ ∙ heads_none k) ∙ length-heads k

-- the nodes of these children, and all below them
abbrev nodes_in : {V : Type 0} → Children V → ℕ
nodes_in children = tally (λ child. nodes_of child.1) children

nodes-set : {V : Type 0} (test : List ℕ → Bool) (children : Children V) (es new : Entries V)
    → lookup test children ≡ Some es
    → nodes_in (set_value test children new) + nodes_of es ≡ nodes_in children + nodes_of new
nodes-set test [] es new found = grind arith
nodes-set test (child ∷ children) es new found =
    grind (arith, nodes-set test children es new)

nodes-cut : {V : Type 0} (test : List ℕ → Bool) (children : Children V) (es new : Entries V)
    → lookup test children ≡ Some es
    → nodes_in children
    ≡ nodes_in (remove_entry test (set_value test children new)) + (1 + nodes_of es)
nodes-cut test [] es new found = grind arith
nodes-cut test (child ∷ children) es new found =
    grind (arith, nodes-cut test children es new)

nodes-hung : {V : Type 0} (l : List ℕ) (children : Children V) (new : Entries V)
    → lookup (is_level l) children ≡ None
    → nodes_in (insert_entry (slice_cmp nat_cmp) children l new)
    ≡ nodes_in children + (1 + nodes_of new)
nodes-hung l [] new none = omega arith
nodes-hung l (child ∷ children) new none = grind (arith, nodes-hung l children new)

-- ---- The number that is kept
-- a put brings the number up by what it built
pub tells_more : (kept built few many : ℕ) → Tells kept few → CountsMore 0 built few many
    → Tells (min (kept + built) 18446744073709551615) many
tells_more kept built few many tells (k, is, more) low =
    let told = tells (omega (arith, low)) in omega (arith, told, is, more, low)

-- a take brings the number down by what is gone
pub tells_fewer : (kept gone few many : ℕ) → Tells kept many → CountsMore 0 gone few many
    → kept < 18446744073709551615 → Tells (kept - gone) few
tells_fewer kept gone few many tells (k, is, more) known low =
    let told = tells known in omega (arith, told, is, more, known)

-- another value at a key leaves the number as it was
pub tells_set : {V : Type 0} (test : List (List ℕ) → Bool) (es new : Entries V) (w : V) (kept : ℕ)
    → new ≡ set_value test es w → Tells kept (nodes_of es) → Tells kept (nodes_of new)
tells_set test es new w kept e tells = rw (e, keys-set_value test es w) tells

-- ---- One level down a key, at a node
module _ {Y V : Type 0} {key : List (List ℕ)} {l : List ℕ} {rest : List (List ℕ)} {value : Option V}
    {nodes : Branches Y V} {now : NodeView V} (at : At key l rest value nodes now) where
  nodes-now : nodes_of (entries_of now) ≡ nodes_in (children_of nodes)
  nodes-now = ap nodes_of (sym (entries_is at)) ∙ all_met (value, children_of nodes) at.are

  -- where the child at the level changes, the node has more nodes by what the child has more
  pub count_kept : (node new : Box (NodeView V)) (fin : Branches Y V)
      → Some node ≡ lookup (is_text l) nodes → fin ≡ set_value (is_text l) nodes new
      → AreChildren (children_of fin)
      → nodes_of (own value ++ below (children_of fin)) + nodes_of (entries_in node)
      ≡ nodes_of (entries_of now) + nodes_of (entries_in new)
  count_kept node new fin f e are =
      omega (
        arith,
        nodes-now,
        all_met (value, children_of fin) are,
        ap nodes_in (ap children_of e ∙ set_children l nodes new),
        nodes-set (is_level l) (children_of nodes) (entries_in node) (entries_in new)
            (child_is at (Some node) f),
      )

  -- where the child at the level is taken out, it goes with its nodes
  pub count_cut : (node new : Box (NodeView V)) (fin : Branches Y V)
      → Some node ≡ lookup (is_text l) nodes
      → fin ≡ remove_entry (is_text l) (set_value (is_text l) nodes new)
      → AreChildren (children_of fin)
      → nodes_of (entries_of now)
      ≡ nodes_of (own value ++ below (children_of fin)) + (1 + nodes_of (entries_in node))
  count_cut node new fin f e are =
      omega (
        arith,
        nodes-now,
        all_met (value, children_of fin) are,
        ap nodes_in (cut_is at new fin e),
        nodes-cut (is_level l) (children_of nodes) (entries_in node) (entries_in new)
            (child_is at (Some node) f),
      )

  -- a branch that is hung in comes with a node for its level, and one for each of the rest
  pub count_hung : (v : V) (fin : Branches Y V) → None ≡ lookup (is_text l) nodes
      → children_of fin ≡ with_branch (children_of nodes) l rest v → AreChildren (children_of fin)
      → nodes_of (own value ++ below (children_of fin))
      ≡ nodes_of (entries_of now) + (1 + length rest)
  count_hung v fin f e are =
      omega (
        arith,
        nodes-now,
        all_met (value, children_of fin) are,
        ap nodes_in e,
        nodes-one rest v,
        nodes-hung l (children_of nodes) ((rest, v) ∷ []) (child_is at None f),
      )

  -- a count of what the child has more after a put is one of what the node has more
  pub count_put : (node new : Box (NodeView V)) (fin : Branches Y V) (old more : ℕ)
      → Some node ≡ lookup (is_text l) nodes → fin ≡ set_value (is_text l) nodes new
      → AreChildren (children_of fin)
      → CountsMore old more (nodes_of (entries_in node)) (nodes_of (entries_in new))
      → CountsMore old more (nodes_of (entries_of now))
      (nodes_of (own value ++ below (children_of fin)))
  count_put node new fin old more f e are (k, is, tells) =
      (k, omega (arith, is, count_kept node new fin f e are), tells)

  -- a count of what the child has less after a take is one of what the node has less
  pub count_take : (node new : Box (NodeView V)) (fin : Branches Y V) (old more : ℕ)
      → Some node ≡ lookup (is_text l) nodes → fin ≡ set_value (is_text l) nodes new
      → AreChildren (children_of fin)
      → CountsMore old more (nodes_of (entries_in new)) (nodes_of (entries_in node))
      → CountsMore old more (nodes_of (own value ++ below (children_of fin)))
      (nodes_of (entries_of now))
  count_take node new fin old more f e are (k, is, tells) =
      (k, omega (arith, is, count_kept node new fin f e are), tells)

  -- a child that is taken out after a take is one more that the node has less
  pub count_take_cut : (node new : Box (NodeView V)) (fin : Branches Y V) (old more most : ℕ)
      → Some node ≡ lookup (is_text l) nodes
      → fin ≡ remove_entry (is_text l) (set_value (is_text l) nodes new)
      → AreChildren (children_of fin) → entries_in new ≡ []
      → CountsMore old more (nodes_of (entries_in new)) (nodes_of (entries_in node))
      → most ≡ min (more + 1) 18446744073709551615 → CountsMore old most
      (nodes_of (own value ++ below (children_of fin))) (nodes_of (entries_of now))
  count_take_cut node new fin old more most f e are none (k, is, tells) m = (
    1 + k,
    omega (arith, is, ap nodes_of none, count_cut node new fin f e are),
    omega (arith, tells, m),
  )
