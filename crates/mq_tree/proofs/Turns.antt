-- What a node gives to a look-up by a name, and one turn of the loop over the levels that may stand there.
use Rattle.std.proofs.Common.{arith, ◌≡◌, ◌≢◌, ℕ, ◌+◌, ◌<◌, ◌≤◌, Bool, true, false, not, cond, List}
use Rattle.std.proofs.Common.{[], ◌∷◌, ◌++◌, map, length, drop, get_or, Option, Some, None, Bor}
use Rattle.std.proofs.Common.{refl, sym, ap, ◌∙◌, append_assoc, append-nil, add-one, Result, OnOk}
use Rattle.std.proofs.Math.Seq.{drop-cons}
use Rattle.std.proofs.Math.ListN.{drop_of_length-le}
use Rattle.std.proofs.lemmas.Result.{on_ok_weaker}
use Rattle.std.proofs.lemmas.List.{length-map}
use Rattle.std.proofs.lemmas.Slice.Eq.{slice_eq-Decides}
use Rattle.std.proofs.lemmas.Bool.Decides.{Decides-eqb}
use Rattle.std.specs.Str.{bytes_eq}
use Rattle.std.specs.Map.{lookup, keys_of, values_of}
use Rattle.std.specs.List.{filter, flat_map}
use Rattle.mq_tree.specs.Below.{hash, plus, matches_below, meets_name, values_at, tally, ArePlain}
use Rattle.mq_tree.specs.Below.{in_order_of, is_before, nodes_at}
use Rattle.mq_tree.specs.Entries.{Entries}
use Rattle.mq_tree.specs.Nodes.{NodeView, Children, is_level, own, entries_of, AreChildren}
use Rattle.mq_topic.specs.Prefixes.{prefixes}
use Rattle.mq_tree.proofs.Blocks.{is_here, Long, long_prefixes}
use Rattle.mq_tree.proofs.Levels.{not_same, hash_first, plus_first, last_in_order}
use Rattle.mq_tree.proofs.Levelwise.{found_step, met_some, met_none, values_node, met_node}
use Rattle.mq_tree.proofs.Levelwise.{filter_none}
use Rattle.mq_tree.proofs.Children.{gather, given, one, picked, gather_none, After-tail-less}
use Rattle.mq_tree.proofs.Children.{lookup-level-after}
use Rattle.mq_tree.proofs.Names.{IsPlain, may_stand, goes_on, meets_on, goes_step, meets_step}
use Rattle.mq_tree.proofs.Names.{meets_here, end_step, end_meets_step, in_order_all}
use Rattle.std.specs.Prelude.{slice_get}
use Rattle.mq_topic.proofs.ByteLemmas.{text_is as same_text, text_itself}

-- ---- what a child gives
abbrev pub found_at : {V : Type 0} → List (List ℕ) → List ℕ × Entries V → List V
found_at rest child = values_at (goes_on rest child.0) child.1

abbrev pub met_at : {V : Type 0} → List (List ℕ) → List ℕ × Entries V → ℕ
met_at rest child = length (filter (meets_on rest child.0) (prefixes (keys_of child.1)))

-- at the empty key a node has just its own value
pub here_values : {V : Type 0} (node : NodeView V)
    → values_at is_here (entries_of node) ≡ values_of (own node.0)
here_values node =
    values_node is_here (λ m. false) (λ m k. false) (λ m k. refl) node.0 node.1 true refl
    ∙ ap (λ cs. values_of (own node.0) ++ flat_map (λ child. values_at (λ k. false) child.1) cs)
    (filter_none node.1) ∙ append-nil (values_of (own node.0))

none_here : (ps : List (List (List ℕ))) → Long ps → filter is_here ps ≡ []
none_here [] h = refl
none_here (p ∷ ps) h = rw h.0 (none_here ps h.1)

-- a child at `#` gives its own value alone
pub found_hash : {V : Type 0} (rest : List (List ℕ)) (t : List ℕ) (node : NodeView V) → t ≡ hash
    → found_at rest (t, entries_of node) ≡ values_of (own node.0)
found_hash rest t node e = ap (λ u. found_at rest (u, entries_of node)) e ∙ here_values node

-- a child at another level gives the values whose keys match the rest of the name
pub found_other : {V : Type 0} (rest : List (List ℕ)) (t : List ℕ) (es : Entries V) → t ≢ hash
    → found_at rest (t, es) ≡ values_at (λ k. matches_below k rest) es
found_other rest t es n = rw (not_same t hash n) refl

-- no node below a child at `#` is entered
pub met_hash : {V : Type 0} (rest : List (List ℕ)) (t : List ℕ) (es : Entries V) → t ≡ hash
    → met_at rest (t, es) ≡ 0
met_hash rest t es e = ap (λ u. met_at rest (u, es)) e
    ∙ ap length (none_here (prefixes (keys_of es)) (long_prefixes (keys_of es)))

-- below a child at another level the nodes are entered that meet the rest of the name
pub met_other : {V : Type 0} (rest : List (List ℕ)) (t : List ℕ) (es : Entries V) → t ≢ hash
    → met_at rest (t, es) ≡ length (filter (meets_name rest) (prefixes (keys_of es)))
met_other rest t es n =
    ap (λ b. length (filter (λ p. cond b (is_here p) (meets_name rest p)) (prefixes (keys_of es))))
    (not_same t hash n)

-- ---- what a node gives
module _ {V : Type 0} (node : NodeView V) (are : AreChildren node.1) where
  pub found_all : (n : List ℕ) (rest : List (List ℕ)) → IsPlain n
      → values_at (λ k. matches_below k (n ∷ rest)) (entries_of node)
      ≡ flat_map (found_at rest) (gather one node.1 (in_order_of n))
  found_all n rest plain =
      let all = in_order_all n plain in
      values_node (λ k. matches_below k (n ∷ rest)) (may_stand n) (goes_on rest)
      (goes_step n rest plain) node.0 node.1 false refl
      ∙ ap (flat_map (found_at rest))
      (picked (may_stand n) (in_order_of n) node.1 are all.sorted all.stand all.others)

  pub met_all : (n : List ℕ) (rest : List (List ℕ)) → IsPlain n
      → length (filter (meets_name (n ∷ rest)) (prefixes (keys_of (entries_of node))))
      ≡ tally (met_at rest) (gather one node.1 (in_order_of n))
  met_all n rest plain =
      let all = in_order_all n plain in
      met_node (meets_name (n ∷ rest)) (may_stand n) (meets_on rest) (meets_step n rest plain)
      node.0 node.1 are (λ m h. meets_here rest m)
      ∙ ap (tally (met_at rest))
      (picked (may_stand n) (in_order_of n) node.1 are all.sorted all.stand all.others)

  pub end_found_some : (child : NodeView V)
      → Some (entries_of child) ≡ lookup (is_level hash) node.1
      → values_at (λ k. matches_below k []) (entries_of node) ≡ values_of (own node.0)
      ++ values_of (own child.0)
  end_found_some child e =
      found_step (λ k. matches_below k []) hash is_here end_step node are (Some (entries_of child))
      true refl e
      ∙ ap (λ vs. values_of (own node.0) ++ vs)
      (append-nil (values_at is_here (entries_of child)) ∙ here_values child)

  pub end_found_none : None ≡ lookup (is_level hash) node.1
      → values_at (λ k. matches_below k []) (entries_of node) ≡ values_of (own node.0)
  end_found_none e = found_step (λ k. matches_below k []) hash is_here end_step node are None true
      refl e ∙ append-nil (values_of (own node.0))

  pub end_met_some : (es : Entries V) → Some es ≡ lookup (is_level hash) node.1
      → length (filter (meets_name []) (prefixes (keys_of (entries_of node)))) ≡ 1
  end_met_some es e = met_some (meets_name []) hash is_here end_meets_step node are es refl e
      ∙ ap (λ ps. (1 + length ps) + 0)
      (none_here (prefixes (keys_of es)) (long_prefixes (keys_of es)))

  pub end_met_none : None ≡ lookup (is_level hash) node.1
      → length (filter (meets_name []) (prefixes (keys_of (entries_of node)))) ≡ 0
  end_met_none e = met_none (meets_name []) hash is_here end_meets_step node are refl e

-- ---- one turn
drop_turn : {A : Type 0} (items : List A) (i : ℕ) (d : A) → i < length items
    → drop i items ≡ get_or items i d ∷ drop (i + 1) items
drop_turn items i d p = rw add-one (drop-cons items i d p)

-- the children at the levels from place i on: the one at the level of place i, if there is one,
-- and then those at the later levels
pub turn : {V : Type 0} (children : Children V) (items : List (Bor (List ℕ))) (i : ℕ)
    (d : Bor (List ℕ)) (o : Option (Entries V)) → i < length items
    → o ≡ lookup (is_level (get_or items i d).now) children
    → gather one children (map (λ x. x.now) (drop i items)) ≡ given one (get_or items i d).now o
    ++ gather one children (map (λ x. x.now) (drop (i + 1) items))
turn children items i d o p e =
    ap (λ xs. gather one children (map (λ x. x.now) xs)) (drop_turn items i d p)
    ∙ ap (λ q. given one (get_or items i d).now q
    ++ gather one children (map (λ x. x.now) (drop (i + 1) items))) (sym e)

-- past the last level there are no more children to give
pub all_given : {V : Type 0} (children : Children V) (items : List (Bor (List ℕ))) (i : ℕ)
    → length items ≤ i → gather one children (map (λ x. x.now) (drop i items)) ≡ []
all_given children items i h = ap (λ xs. gather one children (map (λ x. x.now) xs))
    (drop_of_length-le items h)

-- once a turn has added v, what is found so far and what is still to come make the same total
pub found_turn : {X : Type 0} (out new v h total : List X) → new ≡ out ++ v
    → out ++ (v ++ h) ≡ total → new ++ h ≡ total
found_turn out new v h total a e = ap (λ x. x ++ h) a ∙ append_assoc out v h ∙ e

-- what is found, and how many are met, may be said by another name
pub as_found : {A T E : Type 0} (r : Result T E) (new out xs ys : List A) → xs ≡ ys
    → OnOk r (new ≡ out ++ ys) → OnOk r (new ≡ out ++ xs)
as_found r new out xs ys e h = on_ok_weaker r (λ a. a ∙ ap (λ zs. out ++ zs) (sym e)) h

pub as_met : {T E : Type 0} (r : Result T E) (new old m n : ℕ) → m ≡ n → OnOk r (new ≡ old + n)
    → OnOk r (new ≡ old + m)
as_met r new old m n e h = on_ok_weaker r (λ a. omega (arith, a, e)) h

-- where nothing is found, nothing is added
pub none_found : {A : Type 0} (out xs : List A) → xs ≡ [] → out ≡ out ++ xs
none_found out xs e = sym (append-nil out) ∙ ap (λ zs. out ++ zs) (sym e)

-- where the test for a text of one byte holds, the text is that one
pub text_is : (b : Bool) (t : List ℕ) (c : ℕ) → b ≡ bytes_eq t (c ∷ []) → b ≡ true → t ≡ c ∷ []
text_is b t c e h = (slice_eq-Decides Decides-eqb t (c ∷ []) b e).0 h

-- where the test for a text of one byte fails, the text is another
pub text_is_not : (b : Bool) (t : List ℕ) (c : ℕ) → b ≡ bytes_eq t (c ∷ []) → b ≡ false → t ≢ c ∷ []
text_is_not b t c e h = λ same. grind (arith, (slice_eq-Decides Decides-eqb t (c ∷ []) b e).1 same)

-- where no level is a wildcard, the first is none, and neither is any of the rest
pub plain_cons : (ls : List (List ℕ)) (l : List ℕ) (rest : List (List ℕ)) → ls ≡ l ∷ rest
    → ArePlain ls → IsPlain l × ArePlain rest
plain_cons ls l rest e h = rw e at h

-- three levels of a tree can match a level of a name
pub three : (level : List ℕ) (items : List (Bor (List ℕ)))
    → map (λ x. x.now) items ≡ in_order_of level → length items ≡ 3
three level items e = grind (arith, length-map items (λ x. x.now), ap length e)

-- where `!=` with a text of one byte holds, the text is another
pub text_differs : (b : Bool) (t : List ℕ) (c : ℕ) → b ≡ not (bytes_eq t (c ∷ [])) → b ≡ true
    → t ≢ c ∷ []
text_differs b t c e h = text_is_not (bytes_eq t (c ∷ [])) t c refl (grind arith)

-- where `!=` with a text of one byte fails, the text is that one
pub text_is_same : (b : Bool) (t : List ℕ) (c : ℕ) → b ≡ not (bytes_eq t (c ∷ [])) → b ≡ false
    → t ≡ c ∷ []
text_is_same b t c e h = text_is (bytes_eq t (c ∷ [])) t c refl (grind arith)

-- ---- A look-up by a name at a node whose first child does not come before `+`: it has no `#`, and a `+` comes first
-- ---- no child
no_child : {V : Type 0} (children : Children V) → slice_get children 0 ≡ None → children ≡ []
no_child [] h = refl
no_child (child ∷ children) h = cc

module _ {V : Type 0} (node : NodeView V) (are : AreChildren node.1)
    (empty : slice_get node.1 0 ≡ None) (n : List ℕ) (rest : List (List ℕ)) (plain : IsPlain n)
  where
    nothing : gather one node.1 (in_order_of n) ≡ []
    nothing = ap (λ cs. gather one cs (in_order_of n)) (no_child node.1 empty)
        ∙ gather_none (in_order_of n)

    pub found_empty : values_at (λ k. matches_below k (n ∷ rest)) (entries_of node) ≡ []
    found_empty = found_all node are n rest plain ∙ ap (flat_map (found_at rest)) nothing

    pub met_empty : nodes_at (meets_name (n ∷ rest)) (entries_of node) ≡ 0
    met_empty = met_all node are n rest plain ∙ ap (tally (met_at rest)) nothing

-- ---- a first child
no_hash : {V : Type 0} (child : List ℕ × Entries V) (children : Children V)
    → slice_get children 0 ≡ Some child → AreChildren children → is_before child.0 plus ≡ false
    → lookup (is_level hash) children ≡ None
no_hash child [] e are h = refl
no_hash child (c ∷ cs) e are h =
    let before = hash_first c.0 (let same : c ≡ child = cc in rw same h) in
    lookup-level-after hash (c ∷ cs) (before, After-tail-less hash c cs before are)

-- the child at `+`, if there is one
abbrev pub plus_of : {V : Type 0} → List ℕ × Entries V → Option (Entries V)
plus_of child = cond (bytes_eq child.0 plus) (Some child.1) None

plus_at : {V : Type 0} (c : List ℕ × Entries V) (cs : Children V) → AreChildren (c ∷ cs)
    → is_before c.0 plus ≡ false → lookup (is_level plus) (c ∷ cs) ≡ plus_of c
plus_at c cs are h =
    grind (
      arith,
      same_text c.0 plus,
      text_itself plus,
      plus_first c.0 h,
      lookup-level-after plus (c ∷ cs),
      After-tail-less plus c cs,
      are,
    )

plus_is_first : {V : Type 0} (child : List ℕ × Entries V) (children : Children V)
    → slice_get children 0 ≡ Some child → AreChildren children → is_before child.0 plus ≡ false
    → lookup (is_level plus) children ≡ plus_of child
plus_is_first child [] e are h = cc
plus_is_first child (c ∷ cs) e are h = grind (arith, plus_at c cs are)

plus_not_hash : plus ≢ hash
plus_not_hash = λ e. cc

-- what the child at a level gives, if there is one
abbrev pub found_in : {V : Type 0} → List (List ℕ) → Option (Entries V) → List V
found_in rest None = []
found_in rest (Some es) = values_at (λ k. matches_below k rest) es

abbrev pub met_in : {V : Type 0} → List (List ℕ) → Option (Entries V) → ℕ
met_in rest None = 0
met_in rest (Some es) = 1 + nodes_at (meets_name rest) es

found_given : {V : Type 0} (rest : List (List ℕ)) (t : List ℕ) (o : Option (Entries V))
    (more : Children V) → t ≢ hash → flat_map (found_at rest) (given one t o ++ more)
    ≡ found_in rest o ++ flat_map (found_at rest) more
found_given rest t None more n = refl
found_given rest t (Some es) more n = grind (arith, found_other rest t es n)

met_given : {V : Type 0} (rest : List (List ℕ)) (t : List ℕ) (o : Option (Entries V))
    (more : Children V) → t ≢ hash → tally (met_at rest) (given one t o ++ more) ≡ met_in rest o
    + tally (met_at rest) more
met_given rest t None more n = omega arith
met_given rest t (Some es) more n = grind (arith, met_other rest t es n)

-- a node with this first child, and a name with this level and rest, where neither level comes before `+`
pub record IsLate {V : Type 0} (node : NodeView V) (first : List ℕ × Entries V)
    (name : List (List ℕ)) (level : List ℕ) (rest : List (List ℕ)) : Type 0 where
  pub are : AreChildren node.1
  pub is_first : slice_get node.1 0 ≡ Some first
  pub key : name ≡ level ∷ rest
  pub plain : IsPlain level
  pub low : is_before first.0 plus ≡ false
  pub last : is_before level plus ≡ false

-- what a `+` that comes first gives
pub plus_there : {V : Type 0} (rest : List (List ℕ)) (first : List ℕ × Entries V) (b : Bool)
    (es : Entries V) → b ≡ bytes_eq first.0 plus → b ≡ true → es ≡ first.1
    → (found_in rest (plus_of first) ≡ values_at (λ k. matches_below k rest) es)
    × (met_in rest (plus_of first) ≡ 1 + nodes_at (meets_name rest) es)
plus_there rest first b es e t s = rw (sym e ∙ t, s) (refl, refl)

pub plus_absent : {V : Type 0} (rest : List (List ℕ)) (first : List ℕ × Entries V) (b : Bool)
    → b ≡ bytes_eq first.0 plus → b ≡ false
    → (found_in rest (plus_of first) ≡ []) × (met_in rest (plus_of first) ≡ 0)
plus_absent rest first b e t = rw (sym e ∙ t) (refl, refl)

-- o is below the child at the level
module _ {V : Type 0} {node : NodeView V} {first : List ℕ × Entries V} {name : List (List ℕ)}
    {level : List ℕ} {rest : List (List ℕ)} (h : IsLate node first name level rest)
    (o : Option (Entries V)) (found : o ≡ lookup (is_level level) node.1) where
  turns : gather one node.1 (in_order_of level) ≡ given one plus (plus_of first)
      ++ (given one level o ++ [])
  turns =
      grind (
        arith,
        last_in_order level h.last,
        no_hash first node.1 h.is_first h.are h.low,
        plus_is_first first node.1 h.is_first h.are h.low,
        found,
      )

  pub found_late : values_at (λ k. matches_below k name) (entries_of node)
      ≡ found_in rest (plus_of first) ++ found_in rest o
  found_late =
      ap (λ ls. values_at (λ k. matches_below k ls) (entries_of node)) h.key
      ∙ found_all node h.are level rest h.plain ∙ ap (flat_map (found_at rest)) turns
      ∙ found_given rest plus (plus_of first) (given one level o ++ []) plus_not_hash
      ∙ ap (λ xs. found_in rest (plus_of first) ++ xs)
      (found_given rest level o [] h.plain.0 ∙ append-nil (found_in rest o))

  pub met_late : nodes_at (meets_name name) (entries_of node) ≡ met_in rest (plus_of first)
      + met_in rest o
  met_late =
      omega (
        arith,
        ap (λ ls. nodes_at (meets_name ls) (entries_of node)) h.key,
        met_all node h.are level rest h.plain,
        ap (tally (met_at rest)) turns,
        met_given rest plus (plus_of first) (given one level o ++ []) plus_not_hash,
        met_given rest level o [] h.plain.0,
      )
