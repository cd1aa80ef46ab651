-- One level down a key, at a node.
use Rattle.mq_tree.specs.Entries.{Entries, is_key}
use Rattle.std.proofs.Common.{arith, ◌≡◌, ◌≢◌, ℕ, List, [], ◌∷◌, ◌++◌, Option, Some, None, refl}
use Rattle.std.proofs.Common.{sym, ap, ◌∙◌, Bool, OnSome, Equal, Greater, MutBor, inl, inr}
use Rattle.mq_tree.proofs.Changes.{set_same, below_cut}
use Rattle.mq_tree.proofs.Edits.{remove_none, IsEdit, edit_below, remove_edits, insert_edits}
use Rattle.mq_tree.proofs.Edits.{insert_branch, LaterKeys, later_lookup}
use Rattle.std.specs.Global.{Box}
use Rattle.std.specs.String.{string_cmp}
use Rattle.std.specs.BTreeMap.{insert_entry}
use Rattle.std.specs.Map.{keys_of, lookup, remove_entry, set_value}
use Rattle.std.specs.List.Sorted.{IsStrictlySortedBy}
use Rattle.std.specs.Option.{option_map, option_and_then, option_copied_mut}
use Rattle.mq_topic.specs.Levels.{level_order}
use Rattle.mq_tree.specs.Nodes.{NodeView, Branches, is_level, own, below, entries_of, entries_in}
use Rattle.mq_tree.specs.Nodes.{children_of, with_branch, AreChildren, Children, under, NoneDead}
use Rattle.mq_tree.proofs.Maps.{is_text, lookup_children, set_children, remove_children}
use Rattle.mq_tree.proofs.Maps.{ordered_levels}
use Rattle.mq_tree.proofs.Children.{lookup-there}
use Rattle.std.specs.Cmp.Lexicographic.{slice_cmp}
use Rattle.std.specs.Ordering.{nat_cmp}
use Rattle.mq_tree.specs.LendingNode.{PutsAtMost}
use Rattle.mq_tree.proofs.Changes as changes

-- a node with this value and these children, and a key that goes on with a level
pub record At {Y V : Type 0} (key : List (List ℕ)) (l : List ℕ) (rest : List (List ℕ))
    (value : Option V) (nodes : Branches Y V) (now : NodeView V) : Type 0 where
  pub key_is : key ≡ l ∷ rest
  pub are : AreChildren (children_of nodes)
  pub is : ◌≡◌ {A = NodeView V} (value, children_of nodes) now

through : {A B C : Type 0} (f : B → Option C) (g : A → B) (o : Option A)
    → option_and_then f (option_map g o) ≡ option_and_then (λ a. f (g a)) o
through f g None = refl
through f g (Some a) = refl

pub at_node : {Y V : Type 0} {key : List (List ℕ)} {l : List ℕ} {rest : List (List ℕ)}
    {value : Option V} {now : NodeView V} (nodes : Branches Y V) → key ≡ l ∷ rest
    → AreChildren (children_of nodes) → ◌≡◌ {A = NodeView V} (value, children_of nodes) now
    → At key l rest value nodes now
at_node nodes k a e = record { key_is = k; are = a; is = e }

module _ {Y V : Type 0} {key : List (List ℕ)} {l : List ℕ} {rest : List (List ℕ)} {value : Option V}
    {nodes : Branches Y V} {now : NodeView V} (at : At key l rest value nodes now) where
  pub entries_is : own value ++ below (children_of nodes) ≡ entries_of now
  entries_is = ap entries_of at.is

  pub child_is : (found : Option (Box (NodeView V))) → found ≡ lookup (is_text l) nodes
      → lookup (is_level l) (children_of nodes) ≡ option_map entries_in found
  child_is found f = lookup_children l nodes ∙ ap (option_map entries_in) (sym f)

  pub found_step : (found : Option (Box (NodeView V))) → found ≡ lookup (is_text l) nodes
      → lookup (is_key key) (entries_of now) ≡ option_and_then
      (λ node. lookup (is_key rest) (entries_in node)) found
  found_step found f =
      rw (at.key_is, ← entries_is) (lookup-there l rest value (children_of nodes) at.are
      ∙ ap (option_and_then (lookup (is_key rest))) (child_is found f)
      ∙ through (lookup (is_key rest)) entries_in found)

  -- an edit of the child at the level
  pub kept : {F G : Entries V → Entries V} → IsEdit l F G → (node new : Box (NodeView V))
      (fin : Branches Y V) → Some node ≡ lookup (is_text l) nodes
      → entries_in new ≡ F (entries_in node) → fin ≡ set_value (is_text l) nodes new
      → own value ++ below (children_of fin) ≡ G (entries_of now)
  kept {F} {G} i node new fin f n e =
      rw (← entries_is, e, set_children l nodes new, n) (ap (λ xs. own value ++ xs)
      (edit_below l F G (children_of nodes) (entries_in node) i at.are (child_is (Some node) f))
      ∙ sym (i.stays value (below (children_of nodes))))

  pub take_kept : (node new : Box (NodeView V)) (fin : Branches Y V)
      → Some node ≡ lookup (is_text l) nodes → entries_in new
      ≡ remove_entry (is_key rest) (entries_in node) → fin ≡ set_value (is_text l) nodes new
      → own value ++ below (children_of fin) ≡ remove_entry (is_key key) (entries_of now)
  take_kept node new fin f n e = rw at.key_is (kept (remove_edits l rest) node new fin f n e)

  -- the children once the one at the level has got a new node and is taken out
  pub cut_is : (new : Box (NodeView V)) (fin : Branches Y V)
      → fin ≡ remove_entry (is_text l) (set_value (is_text l) nodes new)
      → children_of fin
      ≡ remove_entry (is_level l) (set_value (is_level l) (children_of nodes) (entries_in new))
  cut_is new fin e =
      ap children_of e ∙ remove_children l (set_value (is_text l) nodes new)
      ∙ ap (remove_entry (is_level l)) (set_children l nodes new)

  -- a child that is left with no entries is taken out
  pub take_cut : (node new : Box (NodeView V)) (fin : Branches Y V)
      → Some node ≡ lookup (is_text l) nodes → entries_in new
      ≡ remove_entry (is_key rest) (entries_in node) → entries_in new ≡ []
      → fin ≡ remove_entry (is_text l) (set_value (is_text l) nodes new)
      → own value ++ below (children_of fin) ≡ remove_entry (is_key key) (entries_of now)
  take_cut node new fin f n b e =
      grind (
        arith,
        cut_is new fin e,
        below_cut (is_level l) (children_of nodes),
        set_children l nodes new,
        take_kept node new (set_value (is_text l) nodes new) f n refl,
      )

  pub take_none : (fin : Branches Y V) → None ≡ lookup (is_text l) nodes → fin ≡ nodes
      → own value ++ below (children_of fin) ≡ remove_entry (is_key key) (entries_of now)
  take_none fin f e =
      rw (at.key_is, ← entries_is, e) (sym (remove_none (is_key (l ∷ rest)) _
      (lookup-there l rest value (children_of nodes) at.are
      ∙ ap (option_and_then (lookup (is_key rest))) (child_is None f))))

  pub put_kept : (node new : Box (NodeView V)) (v : V) (fin : Branches Y V)
      → Some node ≡ lookup (is_text l) nodes → entries_in new
      ≡ insert_entry level_order (entries_in node) rest v → fin ≡ set_value (is_text l) nodes new
      → own value ++ below (children_of fin) ≡ insert_entry level_order (entries_of now) key v
  put_kept node new v fin f n e = rw at.key_is (kept (insert_edits l rest v) node new fin f n e)

  pub put_same : (node new : Box (NodeView V)) (fin : Branches Y V)
      → Some node ≡ lookup (is_text l) nodes → entries_in new ≡ entries_in node
      → fin ≡ set_value (is_text l) nodes new → own value ++ below (children_of fin)
      ≡ entries_of now
  put_same node new fin f n e =
      grind (
        arith,
        set_children l nodes new,
        set_same (is_level l) (children_of nodes) (entries_in node) (child_is (Some node) f),
        entries_is,
      )

  pub put_branch : (v : V) (fin : Branches Y V) → None ≡ lookup (is_text l) nodes
      → children_of fin ≡ with_branch (children_of nodes) l rest v
      → own value ++ below (children_of fin) ≡ insert_entry level_order (entries_of now) key v
  put_branch v fin f e =
      rw (at.key_is, ← entries_is, e) (ap (λ xs. own value ++ xs)
      (insert_branch l rest v (children_of nodes) at.are (child_is None f))
      ∙ sym ((insert_edits l rest v).stays value (below (children_of nodes))))

  -- ---- what becomes of the children
  pub some_child : (node : Box (NodeView V)) → Some node ≡ lookup (is_text l) nodes
      → entries_in node ≢ []
  some_child node f = changes.live_found (is_level l) (children_of nodes) (entries_in node)
      at.are.live (child_is (Some node) f)

  pub children_set : (new : Box (NodeView V)) (fin : Branches Y V) → entries_in new ≢ []
      → fin ≡ set_value (is_text l) nodes new → IsStrictlySortedBy string_cmp (keys_of fin)
      → AreChildren (children_of fin)
  children_set new fin n e o = record {
    ordered = ordered_levels fin o;
    live = rw (e, set_children l nodes new)
        (changes.live_set (is_level l) (children_of nodes) (entries_in new) at.are.live n);
  }

  pub children_cut : (new : Box (NodeView V)) (fin : Branches Y V)
      → fin ≡ remove_entry (is_text l) (set_value (is_text l) nodes new)
      → IsStrictlySortedBy string_cmp (keys_of fin) → AreChildren (children_of fin)
  children_cut new fin e o = record {
    ordered = ordered_levels fin o;
    live = rw (cut_is new fin e)
        (changes.live_cut (is_level l) (children_of nodes) (entries_in new) at.are.live);
  }

  pub children_hung : (v : V) (fin : Branches Y V)
      → children_of fin ≡ with_branch (children_of nodes) l rest v
      → IsStrictlySortedBy string_cmp (keys_of fin) → AreChildren (children_of fin)
  children_hung v fin e o = record {
    ordered = ordered_levels fin o;
    live = rw e
        (changes.live_insert l (children_of nodes) ((rest, v) ∷ []) at.are.live (λ none. cc));
  }

-- ---- What becomes of a node once a value that it lent comes back
set_none : {K X : Type 0} (test : K → Bool) (es : List (K × X)) (w : X) → lookup test es ≡ None
    → set_value test es w ≡ es
set_none test [] w h = refl
set_none test (x ∷ es) w h = grind (arith, set_none test es w)

set_inside : {V : Type 0} (l m : List ℕ) (k : List (List ℕ)) (w : V) (es rest : Entries V)
    → slice_cmp nat_cmp l m ≡ Equal → LaterKeys l rest
    → set_value (is_key (l ∷ k)) (under m es ++ rest) w ≡ under m (set_value (is_key k) es w)
    ++ rest
set_inside l m k w [] rest e h = set_none (is_key (l ∷ k)) rest w (later_lookup l k rest h)
set_inside l m k w (x ∷ es) rest e h = grind (arith, set_inside l m k w es rest e h)

set_past : {V : Type 0} (l m : List ℕ) (k : List (List ℕ)) (w : V) (es rest : Entries V)
    → slice_cmp nat_cmp l m ≡ Greater → set_value (is_key (l ∷ k)) (under m es ++ rest) w
    ≡ under m es ++ set_value (is_key (l ∷ k)) rest w
set_past l m k w [] rest e = refl
set_past l m k w (x ∷ es) rest e = grind (arith, set_past l m k w es rest e)

set-own : {V : Type 0} (l : List ℕ) (k : List (List ℕ)) (w : V) (value : Option V) (es : Entries V)
    → set_value (is_key (l ∷ k)) (own value ++ es) w ≡ own value ++ set_value (is_key (l ∷ k)) es w
set-own l k w None es = refl
set-own l k w (Some v) es = refl

set_edits : {V : Type 0} (l : List ℕ) (k : List (List ℕ)) (w : V)
    → IsEdit l (λ es. set_value (is_key k) es w) (λ es. set_value (is_key (l ∷ k)) es w)
set_edits l k w = record {
  inside = λ m. set_inside l m k w;
  past = λ m. set_past l m k w;
  stays = set-own l k w;
}

-- the node's own value
pub set-here : {V : Type 0} (w : V) (r : Option (MutBor V)) (value : Option V)
    (children : Children V) → option_copied_mut r ≡ value
    → OnSome r (own (Some w) ++ below children
    ≡ set_value (is_key []) (own value ++ below children) w)
set-here w None value children e = tt
set-here w (Some x) value children e = rw (sym e) refl

-- a list with a first element is not empty
pub some_cons : {A : Type 0} (x : A) (xs : List A) → x ∷ xs ≢ []
some_cons x xs = λ e. absurd (cc)

some_under : {V : Type 0} (m : List ℕ) (es rest : Entries V) → es ≢ [] → under m es ++ rest ≢ []
some_under m [] rest n = absurd (n refl)
some_under m (x ∷ es) rest n = λ e. absurd (cc)

some_own : {V : Type 0} (value : Option V) (es : Entries V) → es ≢ [] → own value ++ es ≢ []
some_own None es n = n
some_own (Some v) es n = λ e. absurd (cc)

some_set : {V : Type 0} (test : List ℕ → Bool) (children : Children V) (es new : Entries V)
    → NoneDead children → lookup test children ≡ Some es → new ≢ []
    → below (set_value test children new) ≢ []
some_set test [] es new h f n = λ e. cc
some_set test (child ∷ children) es new h f n =
    grind (
      arith,
      some_under child.0 new (below children) n,
      some_under child.0 child.1 (below (set_value test children new)) h.0,
    )

-- what is known where an option has a value may be replaced by what follows from it
pub on_some_weaker : {T P Q : Type 0} (r : Option T) → (P → Q) → OnSome r P → OnSome r Q
on_some_weaker None f p = tt
on_some_weaker (Some x) f p = f p

module _ {Y V : Type 0} {key : List (List ℕ)} {l : List ℕ} {rest : List (List ℕ)} {value : Option V}
    {nodes : Branches Y V} {now : NodeView V} (at : At key l rest value nodes now) where
  pub lent_kept : (node new : Box (NodeView V)) (w : V) (fin : Branches Y V)
      → Some node ≡ lookup (is_text l) nodes → entries_in new
      ≡ set_value (is_key rest) (entries_in node) w → fin ≡ set_value (is_text l) nodes new
      → own value ++ below (children_of fin) ≡ set_value (is_key key) (entries_of now) w
  lent_kept node new w fin f n e = rw at.key_is (kept at (set_edits l rest w) node new fin f n e)

  pub lent_some : (node new : Box (NodeView V)) (fin : Branches Y V)
      → Some node ≡ lookup (is_text l) nodes → entries_in new ≢ []
      → fin ≡ set_value (is_text l) nodes new → own value ++ below (children_of fin) ≢ []
  lent_some node new fin f n e =
      some_own value (below (children_of fin)) (rw (e, set_children l nodes new)
      (some_set (is_level l) (children_of nodes) (entries_in node) (entries_in new)
      at.are.live (child_is at (Some node) f) n))

  pub lent_put : (node new : Box (NodeView V)) (w : V) (fin : Branches Y V)
      → Some node ≡ lookup (is_text l) nodes → PutsAtMost rest w (entries_in node) (entries_in new)
      → fin ≡ set_value (is_text l) nodes new
      → PutsAtMost key w (entries_of now) (own value ++ below (children_of fin))
  lent_put node new w fin f (inl e) h =
      inl (put_kept at node new w fin f e h)
  lent_put node new w fin f (inr e) h =
      inr (put_same at node new fin f e h)
