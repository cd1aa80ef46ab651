-- What a test of keys lets through at a node, child by child.
use Rattle.std.proofs.Common.{◌≡◌, ℕ, ◌+◌, Bool, true, false, cond, ◌&&◌, List, [], ◌∷◌, ◌++◌, map}
use Rattle.std.proofs.Common.{length, Option, Some, None, refl, ap, ap₂, ◌∙◌, arith, length-append}
use Rattle.std.proofs.Common.{◌||◌, sym, append-nil}
use Rattle.std.specs.Map.{keys_of, values_of, lookup}
use Rattle.std.specs.List.{filter, flat_map}
use Rattle.std.proofs.lemmas.List.{map-append}
use Rattle.std.proofs.lemmas.List.Elements.{filter-append}
use Rattle.mq_tree.specs.Below.{values_at, tally}
use Rattle.mq_tree.specs.Entries.{Entries}
use Rattle.mq_tree.specs.Nodes.{Children, under, below, own, AreChildren, NodeView, is_level}
use Rattle.mq_tree.specs.Nodes.{entries_of}
use Rattle.mq_topic.specs.Prefixes.{prefixes}
use Rattle.mq_tree.proofs.Blocks.{block, prefixes_own}
use Rattle.std.specs.Str.{bytes_eq}
use Rattle.mq_topic.proofs.ByteLemmas.{text_itself}
use Rattle.mq_tree.proofs.Children.{given, one, picked}
use Rattle.mq_tree.proofs.Names.{one_sorted}

values_at-append : {V : Type 0} (p : List (List ℕ) → Bool) (xs ys : Entries V)
    → values_at p (xs ++ ys) ≡ values_at p xs ++ values_at p ys
values_at-append p xs ys = ap values_of (filter-append (λ e. p e.0) xs ys)
    ∙ map-append (λ e. e.1) (filter (λ e. p e.0) xs) (filter (λ e. p e.0) ys)

values_own : {V : Type 0} (p : List (List ℕ) → Bool) (value : Option V) (b : Bool) → p [] ≡ b
    → values_at p (own value) ≡ cond b (values_of (own value)) []
values_own p None b h = grind arith
values_own p (Some v) b h = grind arith

-- P holds of a key that goes on with the level m where c m holds, and Q m of the rest
module _ (P : List (List ℕ) → Bool) (c : List ℕ → Bool) (Q : List ℕ → List (List ℕ) → Bool)
    (step : (m : List ℕ) (k : List (List ℕ)) → P (m ∷ k) ≡ (c m && Q m k)) where
  values_under : {V : Type 0} (m : List ℕ) (es : Entries V) (b : Bool) → c m ≡ b
      → values_at P (under m es) ≡ cond b (values_at (Q m) es) []
  values_under m [] b h = grind arith
  values_under m (e ∷ es) b h = grind (arith, step m e.0, values_under m es b h)

  values_below : {V : Type 0} (children : Children V)
      → values_at P (below children) ≡ flat_map (λ child. values_at (Q child.0) child.1)
      (filter (λ child. c child.0) children)
  values_below [] = refl
  values_below (child ∷ children) =
      grind (
        arith,
        values_at-append P (under child.0 child.1) (below children),
        values_under child.0 child.1 true,
        values_under child.0 child.1 false,
        values_below children,
      )

  -- the values at a node
  pub values_node : {V : Type 0} (value : Option V) (children : Children V) (b : Bool) → P [] ≡ b
      → values_at P (own value ++ below children) ≡ cond b (values_of (own value)) []
      ++ flat_map (λ child. values_at (Q child.0) child.1)
      (filter (λ child. c child.0) children)
  values_node value children b h = values_at-append P (own value) (below children)
      ∙ ap₂ (λ x y. x ++ y) (values_own P value b h) (values_below children)

  met_map : (m : List ℕ) (ps : List (List (List ℕ))) (b : Bool) → c m ≡ b
      → length (filter P (map (λ p. m ∷ p) ps)) ≡ cond b (length (filter (Q m) ps)) 0
  met_map m [] b h = grind arith
  met_map m (p ∷ ps) b h = grind (arith, step m p, met_map m ps b h)

  met_block : {V : Type 0} (child : List ℕ × Entries V) (b : Bool) → c child.0 ≡ b
      → (b ≡ true → Q child.0 [] ≡ true) → length (filter P (block child))
      ≡ cond b (1 + length (filter (Q child.0) (prefixes (keys_of child.1)))) 0
  met_block child b h here =
      grind (arith, step child.0 [], here, met_map child.0 (prefixes (keys_of child.1)) b h)

  met_blocks : {V : Type 0} (children : Children V) → ((m : List ℕ) → c m ≡ true → Q m [] ≡ true)
      → length (filter P (flat_map block children))
      ≡ tally (λ child. length (filter (Q child.0) (prefixes (keys_of child.1))))
      (filter (λ child. c child.0) children)
  met_blocks [] here = refl
  met_blocks (child ∷ children) here =
      grind (
        arith,
        filter-append P (block child) (flat_map block children),
        length-append (filter P (block child)) (filter P (flat_map block children)),
        met_block child true,
        met_block child false,
        here child.0,
        met_blocks children here,
      )

  -- the prefixes that are met at a node
  pub met_node : {V : Type 0} (value : Option V) (children : Children V) → AreChildren children
      → ((m : List ℕ) → c m ≡ true → Q m [] ≡ true)
      → length (filter P (prefixes (keys_of (own value ++ below children))))
      ≡ tally (λ child. length (filter (Q child.0) (prefixes (keys_of child.1))))
      (filter (λ child. c child.0) children)
  met_node value children are here =
      ap (λ ps. length (filter P ps)) (prefixes_own value children are) ∙ met_blocks children here

-- a filter that passes all keeps all
pub filter_each : {A : Type 0} (xs : List A) → filter (λ x. true) xs ≡ xs
filter_each [] = refl
filter_each (x ∷ xs) = ap (λ ys. x ∷ ys) (filter_each xs)

-- a filter that passes nothing keeps nothing
pub filter_none : {A : Type 0} (xs : List A) → filter (λ x. false) xs ≡ []
filter_none [] = refl
filter_none (x ∷ xs) = filter_none xs

-- ---- What a node gives to a look-up that goes on below one level alone
or_none : (b : Bool) → (b || false) ≡ false → b ≡ false
or_none b h = grind arith

-- P holds of a key that goes on with the level f where Q holds of the rest
module _ (P : List (List ℕ) → Bool) (f : List ℕ) (Q : List (List ℕ) → Bool)
    (step : (m : List ℕ) (k : List (List ℕ)) → P (m ∷ k) ≡ (bytes_eq f m && Q k)) {V : Type 0}
    (node : NodeView V) (are : AreChildren node.1) where
  alone : (o : Option (Entries V)) → o ≡ lookup (is_level f) node.1
      → filter (λ child. bytes_eq f child.0) node.1 ≡ given one f o ++ []
  alone o e = picked (bytes_eq f) (f ∷ []) node.1 are (one_sorted f) (text_itself f, tt)
      (λ m none. or_none (bytes_eq f m) none) ∙ ap (λ x. given one f x ++ []) (sym e)

  pub found_step : (o : Option (Entries V)) (b : Bool) → P [] ≡ b → o ≡ lookup (is_level f) node.1
      → values_at P (entries_of node) ≡ cond b (values_of (own node.0)) []
      ++ flat_map (λ child. values_at Q child.1) (given one f o ++ [])
  found_step o b h e = values_node P (bytes_eq f) (λ m. Q) step node.0 node.1 b h
      ∙ ap (λ cs. cond b (values_of (own node.0)) [] ++ flat_map (λ child. values_at Q child.1) cs)
      (alone o e)

  met_step : (o : Option (Entries V)) → Q [] ≡ true → o ≡ lookup (is_level f) node.1
      → length (filter P (prefixes (keys_of (entries_of node))))
      ≡ tally (λ child. length (filter Q (prefixes (keys_of child.1)))) (given one f o ++ [])
  met_step o h e = met_node P (bytes_eq f) (λ m. Q) step node.0 node.1 are (λ m p. h)
      ∙ ap (tally (λ child. length (filter Q (prefixes (keys_of child.1))))) (alone o e)

  pub found_some : (es : Entries V) → P [] ≡ false → Some es ≡ lookup (is_level f) node.1
      → values_at P (entries_of node) ≡ values_at Q es
  found_some es h e = found_step (Some es) false h e ∙ append-nil (values_at Q es)

  pub found_none : P [] ≡ false → None ≡ lookup (is_level f) node.1
      → values_at P (entries_of node) ≡ []
  found_none h e = found_step None false h e

  pub met_some : (es : Entries V) → Q [] ≡ true → Some es ≡ lookup (is_level f) node.1
      → length (filter P (prefixes (keys_of (entries_of node))))
      ≡ (1 + length (filter Q (prefixes (keys_of es)))) + 0
  met_some es h e = met_step (Some es) h e

  pub met_none : Q [] ≡ true → None ≡ lookup (is_level f) node.1
      → length (filter P (prefixes (keys_of (entries_of node)))) ≡ 0
  met_none h e = met_step None h e
