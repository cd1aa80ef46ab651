-- What an edit of one child does to the entries below a node.
use Rattle.std.proofs.Common.{arith, ◌≡◌, ℕ, Bool, List, [], ◌∷◌, ◌++◌, Option, Some, None, Less}
use Rattle.std.proofs.Common.{Equal, Greater, nat_cmp, refl, ap, ◌∙◌}
use Rattle.std.specs.Cmp.Lexicographic.{slice_cmp}
use Rattle.std.specs.BTreeMap.{is_at, insert_entry}
use Rattle.std.specs.Map.{keys_of, lookup, remove_entry, set_value}
use Rattle.std.specs.List.{AllByRecursion}
use Rattle.std.proofs.lemmas.Map.Lookups.{exact_bytes}
use Rattle.mq_topic.specs.Levels.{level_order}
use Rattle.mq_tree.specs.Entries.{Entries, is_key}
use Rattle.mq_tree.specs.Nodes.{Children, is_level, under, below, own, AreChildren}
use Rattle.mq_tree.proofs.Children.{After, AreChildren-tail, After-tail, After-tail-less}
use Rattle.mq_tree.proofs.Children.{lookup-level-after, lookup-here}

-- each key of these entries comes after l ∷ k
abbrev pub LaterKeys : {V : Type 0} → List ℕ → Entries V → Type 0
LaterKeys l es = AllByRecursion (λ e. (k : List (List ℕ)) → level_order (l ∷ k) e.0 ≡ Less) es

-- G, an edit at the key l ∷ k, goes into the child at l as F does, and past those before
pub record IsEdit {V : Type 0} (l : List ℕ) (F G : Entries V → Entries V) : Type 0 where
  pub inside : (m : List ℕ) (es rest : Entries V) → slice_cmp nat_cmp l m ≡ Equal → LaterKeys l rest
      → G (under m es ++ rest) ≡ under m (F es) ++ rest
  pub past : (m : List ℕ) (es rest : Entries V) → slice_cmp nat_cmp l m ≡ Greater
      → G (under m es ++ rest) ≡ under m es ++ G rest
  pub stays : (value : Option V) (es : Entries V) → G (own value ++ es) ≡ own value ++ G es

later_under : {V : Type 0} (l m : List ℕ) (es rest : Entries V) → slice_cmp nat_cmp l m ≡ Less
    → LaterKeys l rest → LaterKeys l (under m es ++ rest)
later_under l m [] rest e h = h
later_under l m (x ∷ es) rest e h = (λ k. rw e refl, later_under l m es rest e h)

-- below children that all stand after l, each key comes after all keys that begin with l
pub later_below : {V : Type 0} (l : List ℕ) (children : Children V) → After l (keys_of children)
    → LaterKeys l (below children)
later_below l [] a = tt
later_below l (child ∷ children) a =
    later_under l child.0 child.1 (below children) a.0 (later_below l children a.1)

-- an edit of the child at l
pub edit_below : {V : Type 0} (l : List ℕ) (F G : Entries V → Entries V) (children : Children V)
    (es : Entries V) → IsEdit l F G → AreChildren children → lookup (is_level l) children ≡ Some es
    → below (set_value (is_level l) children (F es)) ≡ G (below children)
edit_below l F G [] es i h found = cc
edit_below l F G (child ∷ children) es i h found =
    grind (
      arith,
      lookup-level-after l children,
      After-tail-less l child children,
      After-tail l child children,
      later_below l children,
      i.inside child.0 child.1 (below children),
      i.past child.0 child.1 (below children),
      edit_below l F G children es i (AreChildren-tail child children h),
    )

-- ---- removing
pub remove_none : {K X : Type 0} (test : K → Bool) (es : List (K × X)) → lookup test es ≡ None
    → remove_entry test es ≡ es
remove_none test [] h = refl
remove_none test (x ∷ es) h = grind (arith, remove_none test es)

-- a key that begins with l is not found among entries that come after all such keys
pub later_lookup : {V : Type 0} (l : List ℕ) (k : List (List ℕ)) (es : Entries V) → LaterKeys l es
    → lookup (is_key (l ∷ k)) es ≡ None
later_lookup l k [] h = refl
later_lookup l k (x ∷ es) h = grind (arith, h.0 k, later_lookup l k es h.1)

remove_inside : {V : Type 0} (l m : List ℕ) (k : List (List ℕ)) (es rest : Entries V)
    → slice_cmp nat_cmp l m ≡ Equal → LaterKeys l rest
    → remove_entry (is_key (l ∷ k)) (under m es ++ rest) ≡ under m (remove_entry (is_key k) es)
    ++ rest
remove_inside l m k [] rest e h = remove_none (is_key (l ∷ k)) rest (later_lookup l k rest h)
remove_inside l m k (x ∷ es) rest e h = grind (arith, remove_inside l m k es rest e h)

remove_past : {V : Type 0} (l m : List ℕ) (k : List (List ℕ)) (es rest : Entries V)
    → slice_cmp nat_cmp l m ≡ Greater → remove_entry (is_key (l ∷ k)) (under m es ++ rest)
    ≡ under m es ++ remove_entry (is_key (l ∷ k)) rest
remove_past l m k [] rest e = refl
remove_past l m k (x ∷ es) rest e = grind (arith, remove_past l m k es rest e)

remove-own : {V : Type 0} (l : List ℕ) (k : List (List ℕ)) (value : Option V) (es : Entries V)
    → remove_entry (is_key (l ∷ k)) (own value ++ es) ≡ own value
    ++ remove_entry (is_key (l ∷ k)) es
remove-own l k None es = refl
remove-own l k (Some v) es = refl

-- to remove the key l ∷ k is an edit of the child at l, which removes k there
pub remove_edits : {V : Type 0} (l : List ℕ) (k : List (List ℕ))
    → IsEdit {V = V} l (remove_entry (is_key k)) (remove_entry (is_key (l ∷ k)))
remove_edits l k = record {
  inside = λ m. remove_inside l m k;
  past = λ m. remove_past l m k;
  stays = remove-own l k;
}

-- ---- putting
insert_later : {V : Type 0} (l : List ℕ) (k : List (List ℕ)) (v : V) (es : Entries V)
    → LaterKeys l es → insert_entry level_order es (l ∷ k) v ≡ (l ∷ k, v) ∷ es
insert_later l k v [] h = refl
insert_later l k v (x ∷ es) h = rw (h.0 k) refl

insert_past : {V : Type 0} (l m : List ℕ) (k : List (List ℕ)) (v : V) (es rest : Entries V)
    → slice_cmp nat_cmp l m ≡ Greater → insert_entry level_order (under m es ++ rest) (l ∷ k) v
    ≡ under m es ++ insert_entry level_order rest (l ∷ k) v
insert_past l m k v [] rest e = refl
insert_past l m k v (x ∷ es) rest e = grind (arith, insert_past l m k v es rest e)

insert_inside : {V : Type 0} (l m : List ℕ) (k : List (List ℕ)) (v : V) (es rest : Entries V)
    → slice_cmp nat_cmp l m ≡ Equal → LaterKeys l rest
    → insert_entry level_order (under m es ++ rest) (l ∷ k) v
    ≡ under m (insert_entry level_order es k v) ++ rest
insert_inside l m k v [] rest e h = insert_later l k v rest h
    ∙ ap (λ n. (n ∷ k, v) ∷ rest) (exact_bytes l m e)
insert_inside l m k v (x ∷ es) rest e h =
    grind (arith, exact_bytes l m e, insert_inside l m k v es rest e h)

-- a node's own value stays where an entry is put below it
insert-own : {V : Type 0} (l : List ℕ) (k : List (List ℕ)) (w : V) (value : Option V)
    (es : Entries V) → insert_entry level_order (own value ++ es) (l ∷ k) w ≡ own value
    ++ insert_entry level_order es (l ∷ k) w
insert-own l k w None es = refl
insert-own l k w (Some v) es = refl

-- to put a value at the key l ∷ k is an edit of the child at l, which puts it at k there
pub insert_edits : {V : Type 0} (l : List ℕ) (k : List (List ℕ)) (v : V)
    → IsEdit l (λ es. insert_entry level_order es k v) (λ es. insert_entry level_order es (l ∷ k) v)
insert_edits l k v = record {
  inside = λ m. insert_inside l m k v;
  past = λ m. insert_past l m k v;
  stays = insert-own l k v;
}

-- a new child, with one entry
pub insert_branch : {V : Type 0} (text : List ℕ) (k : List (List ℕ)) (v : V) (children : Children V)
    → AreChildren children → lookup (is_at ((slice_cmp nat_cmp) text)) children ≡ None
    → below (insert_entry (slice_cmp nat_cmp) children text ((k, v) ∷ []))
    ≡ insert_entry level_order (below children) (text ∷ k) v
insert_branch text k v [] h none = refl
insert_branch text k v (child ∷ children) h none =
    grind (
      arith,
      insert_later text k v (under child.0 child.1 ++ below children),
      later_under text child.0 child.1 (below children),
      later_below text children,
      After-tail-less text child children,
      insert_past text child.0 k v child.1 (below children),
      insert_branch text k v children (AreChildren-tail child children h),
    )

-- ---- the node's own value
insert_nil_below : {V : Type 0} (w : V) (children : Children V)
    → insert_entry level_order (below children) [] w ≡ ([], w) ∷ below children
insert_nil_below w [] = refl
insert_nil_below w ((m, []) ∷ children) = insert_nil_below w children
insert_nil_below w ((m, x ∷ es) ∷ children) = refl

-- a value put at the empty key is the node's own
pub insert-here : {V : Type 0} (w : V) (value : Option V) (children : Children V)
    → insert_entry level_order (own value ++ below children) [] w ≡ own (Some w) ++ below children
insert-here w None children = insert_nil_below w children
insert-here w (Some v) children = refl

-- what is left without the empty key is what is below
pub remove-here : {V : Type 0} (value : Option V) (children : Children V)
    → remove_entry (is_key []) (own value ++ below children) ≡ below children
remove-here None children = remove_none (is_key []) (below children) (lookup-here None children)
remove-here (Some v) children = refl
