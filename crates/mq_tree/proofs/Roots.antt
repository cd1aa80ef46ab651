-- The look-ups at a root, where a level that begins with `$` is matched by no wildcard.
use Rattle.std.proofs.Common.{◌≡◌, ◌==◌, ℕ, ◌||◌, ◌&&◌, Bool, true, false, not, cond, List, [], ◌∷◌}
use Rattle.std.proofs.Common.{length, refl, sym, ap, ap₂, ◌∙◌, arith, ◌≢◌}
use Rattle.std.specs.Prelude.{codes}
use Rattle.std.specs.Str.{bytes_eq}
use Rattle.std.specs.Cmp.Lexicographic.{pointwise}
use Rattle.std.specs.Map.{values_of, keys_of}
use Rattle.std.specs.List.{filter, list_any, flat_map}
use Rattle.std.proofs.lemmas.Bool.Decides.{nat_tests}
use Rattle.std.proofs.lemmas.List.Elements.{filter_agree}
use Rattle.mq_topic.proofs.ByteLemmas.{text_is, text_flip}
use Rattle.mq_topic.specs.Matching.{matches, levels_match_by, level_matches, is_wildcard, level_at}
use Rattle.mq_topic.proofs.Walk.{levels_match_cons, levels_match_end}
use Rattle.mq_tree.specs.Below.{hash, plus, begins_with_dollar, matches_below, fronts, meets_name}
use Rattle.mq_tree.specs.Below.{values_at, values_below, nodes_below, plain_children, meets_filter}
use Rattle.mq_tree.specs.Below.{tally}
use Rattle.mq_tree.specs.Entries.{Entries}
use Rattle.mq_topic.specs.Prefixes.{heads, prefixes, met_by_name, met_by_filter}
use Rattle.mq_tree.proofs.Blocks.{met_agree}
use Rattle.mq_tree.proofs.Levels.{not_same}
use Rattle.mq_tree.proofs.Names.{any_agree, any_map, not_last}
use Rattle.mq_tree.specs.Nodes.{NodeView, entries_of, AreChildren}
use Rattle.mq_tree.proofs.Levelwise.{values_node, met_node}
use Rattle.mq_tree.proofs.Filters.{hash_matches, hash_meets}

-- ---- the level by level test, and the one of the library
cond_same : (b : Bool) → cond b true false ≡ b
cond_same b = grind arith

never_only : (f g : List ℕ) (fs : List (List ℕ))
    → (bytes_eq f (codes "#") && (length (g ∷ fs) == 0)) ≡ false
never_only f g fs = grind (arith, nat_tests)

rest_is_nil : (ns : List (List ℕ)) → pointwise level_matches [] ns ≡ matches_below [] ns
rest_is_nil [] = refl
rest_is_nil (n ∷ ns) = refl

or_cond : (b m p : Bool) → cond b true (m && p) ≡ (b || (m && p))
or_cond b m p = grind arith

-- the library's test of all levels says the same as the test level by level
pub matches_same : (f n : List (List ℕ)) → levels_match_by level_matches f n ≡ matches_below f n
matches_same [] [] = refl
matches_same [] (n ∷ ns) = refl
matches_same (f ∷ []) [] = cond_same (bytes_eq f hash)
matches_same (f ∷ []) (n ∷ ns) = or_cond (bytes_eq f hash) (level_matches f n)
    (pointwise level_matches [] ns) ∙ ap (λ b. bytes_eq f hash || (level_matches f n && b))
    (rest_is_nil ns)
matches_same (f ∷ g ∷ fs) [] = levels_match_end level_matches f (g ∷ fs) (never_only f g fs)
matches_same (f ∷ g ∷ fs) (n ∷ ns) =
    levels_match_cons level_matches f n (g ∷ fs) ns (never_only f g fs)
    ∙ ap (λ b. level_matches f n && b) (matches_same (g ∷ fs) ns)

some_levels : (n : List ℕ) (ns : List (List ℕ)) → not (length (n ∷ ns) == 0) ≡ true
some_levels n ns = grind (arith, nat_tests)

-- a filter matches a name that has a level just where the rule on `$` does not hide the name and
-- the levels match
pub matches_cons : (f : List (List ℕ)) (n : List ℕ) (ns : List (List ℕ))
    → matches f (n ∷ ns) ≡ (not (begins_with_dollar n && is_wildcard (level_at f 0))
    && matches_below f (n ∷ ns))
matches_cons f n ns =
    ap₂ (λ a b. a && not (begins_with_dollar n && is_wildcard (level_at f 0)) && b)
    (some_levels n ns) (matches_same f (n ∷ ns))

-- ---- names that do not begin with `$`
module _ (n : List ℕ) (ns : List (List ℕ)) (shown : begins_with_dollar n ≡ false) where
  shown_matches : (f : List (List ℕ)) (k : List (List ℕ))
      → matches f (n ∷ k) ≡ matches_below f (n ∷ k)
  shown_matches f k = matches_cons f n k
      ∙ ap (λ b. not (b && is_wildcard (level_at f 0)) && matches_below f (n ∷ k)) shown

  pub shown_found : {V : Type 0} (es : Entries V)
      → values_of (filter (λ e. matches e.0 (n ∷ ns)) es)
      ≡ values_at (λ k. matches_below k (n ∷ ns)) es
  shown_found es =
      ap values_of (filter_agree (λ e. matches e.0 (n ∷ ns)) (λ e. matches_below e.0 (n ∷ ns))
      (λ e. shown_matches e.0 ns) es)

  shown_meets : (m : List ℕ) (p : List (List ℕ))
      → list_any (λ h. matches (m ∷ p) h) (heads (n ∷ ns)) ≡ meets_name (n ∷ ns) (m ∷ p)
  shown_meets m p =
      grind (
        arith,
        any_map (λ h. matches (m ∷ p) h) (λ h. n ∷ h) (fronts ns),
        any_agree (λ h. matches (m ∷ p) (n ∷ h)) _ (shown_matches (m ∷ p)) (fronts ns),
        any_map (matches_below (m ∷ p)) (λ h. n ∷ h) (fronts ns),
      )

  pub shown_met : (ks : List (List (List ℕ)))
      → length (met_by_name (n ∷ ns) (prefixes ks))
      ≡ length (filter (meets_name (n ∷ ns)) (prefixes ks))
  shown_met ks = met_agree (λ p. list_any (λ h. matches p h) (heads (n ∷ ns)))
      (meets_name (n ∷ ns)) shown_meets ks

module _ (n : List ℕ) (hidden : begins_with_dollar n ≡ true) where
  pub hidden_step : (ns : List (List ℕ)) (m : List ℕ) (k : List (List ℕ))
      → matches (m ∷ k) (n ∷ ns) ≡ (bytes_eq n m && matches_below k ns)
  hidden_step ns m k =
      grind (
        arith,
        hidden,
        matches_cons (m ∷ k) n ns,
        text_is m plus,
        text_is m hash,
        text_is n m,
        text_flip m n,
        not_last m k,
      )

  any_hidden : (m : List ℕ) (p : List (List ℕ)) (hs : List (List (List ℕ)))
      → list_any (λ h. matches (m ∷ p) (n ∷ h)) hs ≡ (bytes_eq n m && list_any (matches_below p) hs)
  any_hidden m p [] = grind arith
  any_hidden m p (h ∷ hs) = grind (arith, hidden_step h m p, any_hidden m p hs)

  pub hidden_met_step : (ns : List (List ℕ)) (m : List ℕ) (p : List (List ℕ))
      → list_any (λ h. matches (m ∷ p) h) (heads (n ∷ ns)) ≡ (bytes_eq n m && meets_name ns p)
  hidden_met_step ns m p = any_map (λ h. matches (m ∷ p) h) (λ h. n ∷ h) (fronts ns)
      ∙ any_hidden m p (fronts ns)

-- the empty filter matches no name
pub no_key_matches : (n : List ℕ) (ns : List (List ℕ)) → matches [] (n ∷ ns) ≡ false
no_key_matches n ns = grind (arith, matches_cons [] n ns)

-- `#` matches just where the first level does not begin with `$` and `#` matches the rest
pub hash_step : (m : List ℕ) (k : List (List ℕ))
    → matches (hash ∷ []) (m ∷ k) ≡ (not (begins_with_dollar m) && matches_below (hash ∷ []) k)
hash_step m k = grind (arith, matches_cons (hash ∷ []) m k, hash_matches k)

-- a look-up by `#` enters a node just where its first level does not begin with `$` and `#` meets
-- the rest
pub hash_met_step : (m : List ℕ) (p : List (List ℕ))
    → list_any (λ g. matches g (m ∷ p)) (heads (hash ∷ []))
    ≡ (not (begins_with_dollar m) && meets_filter (hash ∷ []) p)
hash_met_step m p = grind (arith, hash_step m p, hash_matches p, hash_meets p)

-- a filter that begins with `+` matches just where the first level does not begin with `$` and the
-- rest of the filter matches the rest
pub plus_step : (fs : List (List ℕ)) (m : List ℕ) (k : List (List ℕ))
    → matches (plus ∷ fs) (m ∷ k) ≡ (not (begins_with_dollar m) && matches_below fs k)
plus_step fs m k = grind (arith, matches_cons (plus ∷ fs) m k, not_last plus fs)

any_shown : (m : List ℕ) (p : List (List ℕ)) (gs : List (List (List ℕ)))
    → list_any (λ g. matches (plus ∷ g) (m ∷ p)) gs
    ≡ (not (begins_with_dollar m) && list_any (λ g. matches_below g p) gs)
any_shown m p [] = grind arith
any_shown m p (g ∷ gs) = grind (arith, plus_step g m p, any_shown m p gs)

-- a look-up by a filter that begins with `+` enters a node just where its first level does not
-- begin with `$` and the rest of the filter meets the rest
pub plus_met_step : (fs : List (List ℕ)) (m : List ℕ) (p : List (List ℕ))
    → list_any (λ g. matches g (m ∷ p)) (heads (plus ∷ fs))
    ≡ (not (begins_with_dollar m) && meets_filter fs p)
plus_met_step fs m p = any_map (λ g. matches g (m ∷ p)) (λ g. plus ∷ g) (fronts fs)
    ∙ any_shown m p (fronts fs)

-- what the children give whose level does not begin with `$`
module _ (P : List (List ℕ) → Bool) (Q : List (List ℕ) → Bool)
    (step : (m : List ℕ) (k : List (List ℕ)) → P (m ∷ k) ≡ (not (begins_with_dollar m) && Q k))
    {V : Type 0} (node : NodeView V) where
  pub under_found : P [] ≡ false → values_at P (entries_of node)
      ≡ flat_map (λ child. values_at Q child.1)
      (filter (λ child. not (begins_with_dollar child.0)) node.1)
  under_found h = values_node P (λ m. not (begins_with_dollar m)) (λ m. Q) step node.0 node.1 false
      h

  pub under_met : AreChildren node.1 → Q [] ≡ true
      → length (filter P (prefixes (keys_of (entries_of node))))
      ≡ tally (λ child. length (filter Q (prefixes (keys_of child.1))))
      (filter (λ child. not (begins_with_dollar child.0)) node.1)
  under_met are h = met_node P (λ m. not (begins_with_dollar m)) (λ m. Q) step node.0 node.1 are
      (λ m p. h)

-- ---- another first level
module _ (f : List ℕ) (fs : List (List ℕ)) (not_hash : f ≢ hash) (not_plus : f ≢ plus) where
  plain_matches : (gs k : List (List ℕ)) → matches (f ∷ gs) k ≡ matches_below (f ∷ gs) k
  plain_matches gs [] = sym (not_last f gs (not_same f hash not_hash))
  plain_matches gs (m ∷ k) =
      grind (
        arith,
        matches_cons (f ∷ gs) m k,
        not_same f plus not_plus,
        not_same f hash not_hash,
      )

  pub plain_found : {V : Type 0} (es : Entries V)
      → values_of (filter (λ e. matches (f ∷ fs) e.0) es) ≡ values_at (matches_below (f ∷ fs)) es
  plain_found es =
      ap values_of (filter_agree (λ e. matches (f ∷ fs) e.0) (λ e. matches_below (f ∷ fs) e.0)
      (λ e. plain_matches fs e.0) es)

  plain_meets : (m : List ℕ) (p : List (List ℕ))
      → list_any (λ g. matches g (m ∷ p)) (heads (f ∷ fs)) ≡ meets_filter (f ∷ fs) (m ∷ p)
  plain_meets m p =
      any_map (λ g. matches g (m ∷ p)) (λ g. f ∷ g) (fronts fs)
      ∙ any_agree (λ g. matches (f ∷ g) (m ∷ p)) _ (λ g. plain_matches g (m ∷ p)) (fronts fs)
      ∙ sym (any_map (λ g. matches_below g (m ∷ p)) (λ g. f ∷ g) (fronts fs))

  pub plain_met : (ks : List (List (List ℕ)))
      → length (met_by_filter (f ∷ fs) (prefixes ks))
      ≡ length (filter (meets_filter (f ∷ fs)) (prefixes ks))
  plain_met ks = met_agree (λ p. list_any (λ g. matches g p) (heads (f ∷ fs)))
      (meets_filter (f ∷ fs)) plain_meets ks

-- what `shown_by_filter` adds and counts
abbrev pub found_under : {V : Type 0} → NodeView V → List (List ℕ) → List V
found_under root fs = values_below (matches_below fs) (plain_children root.1)

abbrev pub met_under : {V : Type 0} → NodeView V → List (List ℕ) → ℕ
met_under root fs = nodes_below (meets_filter fs) (plain_children root.1)
