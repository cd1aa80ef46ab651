-- The levels that filters name.
use Rattle.std.proofs.Common.{◌≡◌, ℕ, ◌==◌, Bool, true, false, ◌&&◌, ◌||◌, List, [], ◌∷◌, length}
use Rattle.std.proofs.Common.{codes, bytes_eq, refl, ap, sym, ◌∙◌, Bor, drop, get_or, arith, ◌+◌}
use Rattle.std.proofs.Common.{◌<◌, ◌++◌, map}
use Rattle.std.specs.List.{list_any, AllByRecursion}
use Rattle.std.specs.Ordering.{nat_cmp}
use Rattle.std.specs.BTreeMap.{is_at}
use Rattle.std.specs.Cmp.Lexicographic.{slice_cmp}
use Rattle.std.proofs.lemmas.Map.Text.{is_eq-slice_cmp}
use Rattle.std.proofs.lemmas.Bool.{and_parts, false_from_ne_true}
use Rattle.std.proofs.lemmas.List.{drop_more}
use Rattle.std.proofs.lemmas.List.Folds.{list_any-append}
use Rattle.std.proofs.Math.Bool.{or-true}
use Rattle.mq_topic.proofs.ByteLemmas.{text_is, text_itself}
use Rattle.mq_topic.specs.Levels.{levels_left}
use Rattle.mq_topic.specs.Matching.{is_wildcard}
use Rattle.mq_topic.specs.Texts.{is_plain}
use Rattle.mq_acl.specs.Rows.{AclRow}
use Rattle.mq_cover.specs.Names.{is_name_level}
use Rattle.mq_cover.specs.Remainders.{fits, remainder_fits, remainders_fit}
use Rattle.mq_cover.specs.declared.remainder.Remainder.{Remainder}
use Rattle.mq_cover.proofs.TextLemmas.{or_cases}
use Rattle.mq_witness.specs.Clients.{can_be_id}
use Rattle.mq_witness.specs.Literals.{is_among, is_named, is_literal_in, is_literal_of}
use Rattle.mq_witness.specs.Roots.{rows_fit}
use Rattle.mq_witness.specs.Rows.{rows_name}
use Rattle.mq_witness.specs.declared.literals.Literals.{Literals}
use Rattle.mq_witness.proofs.TestLemmas.{all_by}
use Rattle.std.specs.List.Sorted.{IsStrictlySortedBy}
use Rattle.std.specs.declared.cmp.Ordering.{Ordering}
use Rattle.std.specs.declared.cmp.Ordering.TheVariants.{Less}

-- a text is found just where it is one of the keys
keys_found : (l : List ℕ) (ks : List (Bor (List ℕ)))
    → list_any (is_at (λ k. slice_cmp nat_cmp l k.now)) ks ≡ is_among l ks
keys_found l [] = refl
keys_found l (k ∷ ks) = (λ i. is_eq-slice_cmp l k.now i || keys_found l ks i)

-- so a text is named just where it is one of the literals
pub named_is : (l : List ℕ) (literals : Literals)
    → is_named l literals ≡ is_among l literals.texts.keys
named_is l literals = keys_found l literals.texts.keys

-- ---- texts in the order of their bytes
abbrev lent_cmp : Bor (List ℕ) → Bor (List ℕ) → Ordering
lent_cmp a b = slice_cmp nat_cmp a.now b.now

behind_is : (x : Bor (List ℕ)) (xs : List (Bor (List ℕ)))
    → AllByRecursion (λ y. lent_cmp x y ≡ Less) xs
    → AllByRecursion (λ y. slice_cmp nat_cmp x.now y ≡ Less) (map (λ t. t.now) xs)
behind_is x [] h = h
behind_is x (y ∷ xs) h = (h.0, behind_is x xs h.1)

-- where texts that are lent are in order, the texts are
pub texts_sorted : (xs : List (Bor (List ℕ))) → IsStrictlySortedBy lent_cmp xs
    → IsStrictlySortedBy (slice_cmp nat_cmp) (map (λ t. t.now) xs)
unfolding IsStrictlySortedBy
texts_sorted [] h = h
texts_sorted (x ∷ xs) h = (behind_is x xs h.0, texts_sorted xs h.1)

-- ---- texts behind the first that can be an id
abbrev ids_left : List ℕ → List (Bor (List ℕ)) → ℕ → Bool
ids_left t items i = is_among t (drop i items) && can_be_id t

-- one that can't be an id is passed over
pub ids_skip : (t : List ℕ) (items : List (Bor (List ℕ))) (i : ℕ) (d : Bor (List ℕ))
    → i < length items → can_be_id (get_or items i d).now ≡ false
    → ids_left t items (i + 1) ≡ ids_left t items i
ids_skip t items i d p h =
    skipped (bytes_eq t (get_or items i d).now) (is_among t (drop (i + 1) items)) (can_be_id t)
    (λ e. ap can_be_id (text_is t _ e) ∙ h)
    ∙ sym (ap (λ k. is_among t k && can_be_id t) (drop_more items i d p))
  where
    skipped : (a r b : Bool) → (a ≡ true → b ≡ false) → (r && b) ≡ ((a || r) && b)
    skipped a r b f = grind arith

-- one that can be one is added
pub ids_push : (t : List ℕ) (items all next : List (Bor (List ℕ))) (i : ℕ) (d : Bor (List ℕ))
    → i < length items → can_be_id (get_or items i d).now ≡ true
    → next ≡ all ++ get_or items i d ∷ []
    → (is_among t next || ids_left t items (i + 1)) ≡ (is_among t all || ids_left t items i)
ids_push t items all next i d p h g =
    ap (λ k. is_among t k || ids_left t items (i + 1)) g
    ∙ ap (λ k. k || ids_left t items (i + 1))
    (list_any-append (λ other. bytes_eq t other.now) all (get_or items i d ∷ []))
    ∙ pushed (is_among t all) (bytes_eq t (get_or items i d).now) (is_among t (drop (i + 1) items))
    (can_be_id t) (λ e. ap can_be_id (text_is t _ e) ∙ h)
    ∙ sym (ap (λ k. is_among t all || (is_among t k && can_be_id t)) (drop_more items i d p))
  where
    pushed : (m a r b : Bool) → (a ≡ true → b ≡ true)
        → ((m || (a || false)) || (r && b)) ≡ (m || ((a || r) && b))
    pushed m a r b f = grind arith

-- ---- levels that fit
-- a level that is wild or passes, with others behind it that fit, still fits by what follows
pub fits_step : (wild a b c d : Bool) → (a ≡ true → b ≡ true) → (c ≡ true → d ≡ true)
    → ((wild || a) && c) ≡ true → ((wild || b) && d) ≡ true
fits_step wild a b c d f g k = grind arith

-- levels that fit a test fit what follows from it
pub fits_mono : (p q : List ℕ → Bool) (ws : List (List ℕ))
    → ((w : List ℕ) → p w ≡ true → q w ≡ true) → fits p ws ≡ true → fits q ws ≡ true
fits_mono p q [] h e = refl
fits_mono p q (w ∷ ws) h e =
    fits_step (bytes_eq w (codes "+") || (bytes_eq w (codes "#") && (length ws == 0))) (p w) (q w)
    (fits p ws) (fits q ws) (h w) (fits_mono p q ws h) e

-- remainders that fit a test fit a weaker one
pub all_fit_mono : (p q : List ℕ → Bool) (rs : List Remainder)
    → ((w : List ℕ) → p w ≡ true → q w ≡ true) → remainders_fit p rs ≡ true
    → remainders_fit q rs ≡ true
all_fit_mono p q rs h =
    all_by (remainder_fits p) (remainder_fits q) (λ r. fits_mono p q (levels_left r.rest) h) rs

-- a literal among levels that fit passes their test
pub literal_passes : (p : List ℕ → Bool) (ws : List (List ℕ)) → fits p ws ≡ true → (l : List ℕ)
    → is_literal_in l ws ≡ true → p l ≡ true
literal_passes p [] e l h = absurd (let n : false ≡ true = h in cc)
literal_passes p (w ∷ ws) e l h = grind (arith, literal_passes p ws, text_is)

-- a literal of remainders that fit passes their test
pub literals_pass : (p : List ℕ → Bool) (rs : List Remainder) → remainders_fit p rs ≡ true
    → (l : List ℕ) → is_literal_of l rs ≡ true → p l ≡ true
literals_pass p [] e l h = absurd (let n : false ≡ true = h in cc)
literals_pass p (r ∷ rs) e l h = grind (arith, literals_pass p rs, literal_passes)

-- levels that fit a test that no wildcard passes fit another that each literal among them passes
pub fits_named : (p q : List ℕ → Bool) → ((w : List ℕ) → p w ≡ true → is_wildcard w ≡ false)
    → (ws : List (List ℕ)) → fits p ws ≡ true
    → ((l : List ℕ) → p l ≡ true → is_literal_in l ws ≡ true → q l ≡ true) → fits q ws ≡ true
fits_named p q plain [] e h = refl
fits_named p q plain (w ∷ ws) e h =
    grind (arith, fits_named p q plain ws, fits_step, text_itself, or-true)

-- the same of rows
pub rows_named : (p q : List ℕ → Bool) → ((w : List ℕ) → p w ≡ true → is_wildcard w ≡ false)
    → (all : List AclRow) → rows_fit p all ≡ true
    → ((l : List ℕ) → p l ≡ true → rows_name l all ≡ true → q l ≡ true) → rows_fit q all ≡ true
rows_named p q plain [] fit h = refl
rows_named p q plain (row ∷ all) fit h = grind (arith, rows_named p q plain all, fits_named)

-- ---- wildcards
pub plain_is_no_wildcard : (w : List ℕ) → is_plain w ≡ true → is_wildcard w ≡ false
plain_is_no_wildcard w h = false_from_ne_true _ (λ k. or_cases (bytes_eq w (codes "+")) _ k
    (λ e. let n : false ≡ true = sym (ap is_plain (text_is w (codes "+") e)) ∙ h in cc)
    (λ e. let n : false ≡ true = sym (ap is_plain (text_is w (codes "#") e)) ∙ h in cc))

-- a level of a name is no wildcard
pub level_is_no_wildcard : (w : List ℕ) → is_name_level w ≡ true → is_wildcard w ≡ false
level_is_no_wildcard w h =
    plain_is_no_wildcard w (and_parts _ _ (and_parts _ _ (and_parts _ _ h).0).0).0
