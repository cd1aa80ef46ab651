-- Maps by text, seen through the bytes of their keys.
use Rattle.std.proofs.Common.{◌≡◌, Bool, true, false, cond, List, [], ◌∷◌, Some, refl, sym, ap, ◌∙◌}
use Rattle.std.proofs.Common.{Less, is_eq}
use Rattle.std.specs.Rc.{rc_str_bytes}
use Rattle.std.specs.Cmp.Lexicographic.{nat_list_cmp_total}
use Rattle.std.specs.List.{AllByRecursion}
use Rattle.std.specs.List.Sorted.{IsStrictlySortedBy}
use Rattle.std.specs.Map.{lookup, set_value, remove_entry, keys_of}
use Rattle.std.specs.BTreeMap.{insert_entry}
use Rattle.std.proofs.lemmas.Map.Text.{is_eq-slice_cmp}
use Rattle.std.proofs.lemmas.Slice.Eq.{bytes_eq-Decides}
use Rattle.mq_world.specs.Keys.{Key, key_cmp}
use Rattle.mq_world.specs.Lists.{Text, same_text, text_cmp}
use Rattle.mq_subscriptions.specs.Filters.{is_text, is_empty, NoneEmpty}
use Rattle.mq_subscriptions.specs.Views.{texts}
use Rattle.mq_world.proofs.BoolLemmas.{pick}
use Rattle.mq_subscriptions.proofs.Outcomes.{pick_order}
use Rattle.mq_world.proofs.OrderLemmas.{equal_from}
use Rattle.mq_world.proofs.TextKeys.{finds}

-- the two ways to test whether texts are the same agree
pub is_text-is : (bs k : Text) → is_text bs k ≡ same_text bs k
is_text-is bs k = is_eq-slice_cmp bs k

-- a key that is found to be a text equals it
pub key_text : (bs k : Text) → is_text bs k ≡ true → bs ≡ k
key_text bs k h = (bytes_eq-Decides bs k).0 (sym (is_text-is bs k) ∙ h)

-- where one key is a text's, a greater one isn't
pub text-apart : (bs x y : Text) → is_text bs x ≡ true → text_cmp x y ≡ Less → is_text bs y ≡ false
text-apart bs x y h less = ap is_eq (nat_list_cmp_total.congr bs x y (equal_from _ h) ∙ less)

module _ {X : Type 0} where
  pub lookup-texts : (bs : Text) (es : List (Key × X))
      → lookup (is_text bs) (texts es) ≡ lookup (finds bs) es
  lookup-texts bs [] = refl
  lookup-texts bs (e ∷ es) = ap (cond (finds bs e.0) (Some e.1)) (lookup-texts bs es)

  pub set_value-texts : (bs : Text) (es : List (Key × X)) (w : X)
      → texts (set_value (finds bs) es w) ≡ set_value (is_text bs) (texts es) w
  set_value-texts bs [] w = refl
  set_value-texts bs (e ∷ es) w =
      pick (finds bs e.0) (λ t. rw t) (λ n. rw (n, set_value-texts bs es w))

  pub remove_entry-texts : (bs : Text) (es : List (Key × X))
      → texts (remove_entry (finds bs) es) ≡ remove_entry (is_text bs) (texts es)
  remove_entry-texts bs [] = refl
  remove_entry-texts bs (e ∷ es) =
      pick (finds bs e.0) (λ t. rw t) (λ n. rw (n, remove_entry-texts bs es))

  below-texts : (k : Key) (es : List (Key × X))
      → AllByRecursion (λ y. key_cmp k y ≡ Less) (keys_of es)
      → AllByRecursion (λ y. text_cmp (rc_str_bytes k) y ≡ Less) (keys_of (texts es))
  below-texts k [] s = tt
  below-texts k (e ∷ es) s = (s.0, below-texts k es s.1)

  pub ordered-texts : (es : List (Key × X)) → IsStrictlySortedBy key_cmp (keys_of es)
      → IsStrictlySortedBy text_cmp (keys_of (texts es))
  unfolding IsStrictlySortedBy
  ordered-texts [] s = tt
  ordered-texts (e ∷ es) s = (below-texts e.0 es s.0, ordered-texts es s.1)

-- to remove an entry with another value is to remove it as it was
pub removed-set : {X : Type 0} (test : Key → Bool) (es : List (Key × X)) (w : X)
    → remove_entry test (set_value test es w) ≡ remove_entry test es
removed-set test [] w = refl
removed-set test (e ∷ es) w =
    pick (test e.0) (λ t. rw (t, t)) (λ n. rw (n, n, removed-set test es w))

-- ## No list is empty

module _ {X : Type 0} where
  -- no list is empty after one became another that isn't
  pub live-set : (test : Key → Bool) (es : List (Key × List X)) (w : List X) → is_empty w ≡ false
      → NoneEmpty (texts es) → NoneEmpty (texts (set_value test es w))
  live-set test [] w h live = tt
  live-set test (e ∷ es) w h live =
      pick (test e.0) (λ t. rw t (h, live.1)) (λ n. rw n (live.0, live-set test es w h live.1))

  -- nor after one was removed
  pub live-out : (test : Key → Bool) (es : List (Key × List X)) → NoneEmpty (texts es)
      → NoneEmpty (texts (remove_entry test es))
  live-out test [] live = tt
  live-out test (e ∷ es) live =
      pick (test e.0) (λ t. rw t live.1) (λ n. rw n (live.0, live-out test es live.1))

  -- nor after one that isn't was inserted
  pub live-put : (es : List (Key × List X)) (k : Key) (w : List X) → is_empty w ≡ false
      → NoneEmpty (texts es) → NoneEmpty (texts (insert_entry key_cmp es k w))
  live-put [] k w h live = (h, tt)
  live-put (e ∷ es) k w h live =
      pick_order (key_cmp k e.0) (λ o. rw o (h, live)) (λ o. rw o (h, live.1))
      (λ o. rw o (live.0, live-put es k w h live.1))
