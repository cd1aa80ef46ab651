-- The keys of the tree are the filters of the subscriptions.
use Rattle.std.proofs.Common.{◌≡◌, ℕ, Bool, true, false, List, [], ◌∷◌, map, refl, sym, ◌∙◌, ap}
use Rattle.std.proofs.Common.{is_eq}
use Rattle.std.specs.FinMap.{nat_cmp-IsAntisymmetric, slice_cmp-IsAntisymmetric}
use Rattle.std.specs.Map.{keys_of}
use Rattle.std.specs.List.{list_any, AllByRecursion}
use Rattle.std.proofs.Math.Bool.{or-false, or_self}
use Rattle.mq_topic.specs.Levels.{levels, level_order}
use Rattle.mq_world.specs.Lists.{Text, in_order, SameElements}
use Rattle.mq_world.specs.World.{Subscription}
use Rattle.mq_world.specs.Counts.{filters_among}
use Rattle.mq_subscriptions.specs.Filters.{Entry, Entries, IsEntry, AllEntries, AreEntries, AreKeys}
use Rattle.mq_subscriptions.specs.Filters.{all_rows, entries_view, is_empty}
use Rattle.mq_world.proofs.ListLemmas.{list_any-map, any-append}
use Rattle.mq_world.proofs.SameLemmas.{list_any-SameElements}
use Rattle.mq_world.proofs.OrderLemmas.{levels_total, equal_from}
use Rattle.mq_world.proofs.SortedLemmas.{ties, same_sorted, sorted-in_order, any-in_order}
use Rattle.mq_world.proofs.SortedLemmas.{same_in_order}

-- levels that tie in level order are equal
pub levels_tied : (x y : List (List ℕ)) → is_eq (level_order x y) ≡ true → x ≡ y
levels_tied x y h = slice_cmp-IsAntisymmetric (slice_cmp-IsAntisymmetric nat_cmp-IsAntisymmetric) x
    y (equal_from _ h)

abbrev tie : List (List ℕ) → List (List ℕ) → Bool
tie z x = ties level_order levels_total z x

abbrev place : Subscription → List (List ℕ)
place s = levels s.filter

abbrev to : List (List ℕ) → Subscription → Bool
to z s = tie z (place s)

-- the filters of the same subscriptions are the same
pub filters-same : (xs ys : List Subscription) → SameElements xs ys
    → filters_among xs ≡ filters_among ys
filters-same xs ys same =
    same_in_order level_order levels_total levels_tied (map place xs) (map place ys)
    (λ z. rw (list_any-map place (tie z) xs, list_any-map place (tie z) ys)
    (list_any-SameElements (to z) xs ys same))

-- rows that are all to one filter, and at least one
any_here : (z : List (List ℕ)) (f : Text) (s : Subscription) (rows : List Subscription)
    → s.filter ≡ f → AllByRecursion (λ x. x.filter ≡ f) rows
    → list_any (to z) (s ∷ rows) ≡ tie z (levels f)
any_here z f s [] e h = rw e (or-false (tie z (levels f)))
any_here z f s (x ∷ rows) e h = rw (any_here z f x rows h.0 h.1, e) (or_self (tie z (levels f)))

any_rows : (z key : List (List ℕ)) (a : Entry) → IsEntry key a → list_any (to z) a.rows ≡ tie z key
any_rows z key a k = go a.rows k.here k.live ∙ ap (tie z) (sym k.key_is)
  where
    go : (rows : List Subscription) → AllByRecursion (λ x. x.filter ≡ a.filter) rows
        → is_empty rows ≡ false → list_any (to z) rows ≡ tie z (levels a.filter)
    go [] h live = absurd (let no : true ≡ false = live in cc)
    go (s ∷ rows) h live = any_here z a.filter s rows h.0 h.1

any_keys : (z : List (List ℕ)) (es : Entries) → AllEntries es
    → list_any (tie z) (keys_of es) ≡ list_any (to z) (all_rows es)
any_keys z [] h = refl
any_keys z (e ∷ es) h =
    rw (any-append (to z) e.1.rows (all_rows es), any_rows z e.0 e.1 h.0, any_keys z es h.1)

-- the keys of a well-formed tree are the filters of its subscriptions
pub kept-keys : (es : Entries) → AreEntries es → AreKeys (entries_view es)
kept-keys es kept =
    let filters : List (List (List ℕ)) = map place (all_rows es) in
    same_sorted level_order levels_total levels_tied (keys_of es) (in_order level_order filters)
    kept.ordered (sorted-in_order level_order levels_total filters)
    (λ z. rw (any-in_order level_order levels_total levels_tied z filters)
    (rw (list_any-map place (tie z) (all_rows es)) (any_keys z es kept.each)))
