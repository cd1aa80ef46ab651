-- The subscriptions of all filters, where those at one filter change.
use Rattle.std.proofs.Common.{◌≡◌, true, false, suc, length, not, List, [], ◌∷◌, Option, Some, None}
use Rattle.std.proofs.Common.{refl, sym, ◌∙◌, ap, Less, is_eq, filter}
use Rattle.std.specs.List.{list_any, AllByRecursion}
use Rattle.std.specs.Map.{lookup, set_value, remove_entry, keys_of}
use Rattle.std.specs.BTreeMap.{insert_entry}
use Rattle.std.proofs.lemmas.Map.{keys-set_value}
use Rattle.std.proofs.lemmas.Map.Steps.{set_value_same}
use Rattle.std.proofs.lemmas.List.Kept.{IsStrictlySortedBy-filter}
use Rattle.mq_topic.specs.Levels.{levels, level_order}
use Rattle.mq_tree.specs.Entries.{is_key, AreInOrder}
use Rattle.mq_world.specs.Lists.{Text, same_text}
use Rattle.mq_world.specs.World.{Subscription, same_key, has_key}
use Rattle.mq_world.specs.Turns.{SameInTurn}
use Rattle.mq_subscriptions.specs.Turns.{put_last, upsert}
use Rattle.mq_subscriptions.specs.Filters.{Entry, Entries, AreHere, IsEntry, AreEntries, Member}
use Rattle.mq_subscriptions.specs.Filters.{row}
use Rattle.mq_subscriptions.specs.Filters.{all_rows, is_empty}
use Rattle.mq_world.proofs.ListLemmas.{map-filter, map-insert_entry, remove_entry-filter}
use Rattle.mq_world.proofs.OrderLemmas.{equal_from, same_levels, sorted-with_row, levels_total}
use Rattle.mq_world.proofs.OrderLemmas.{all_weaker, level_equal, text_flip}
use Rattle.mq_world.proofs.Splits.{Split, split, Put, put_gap, none_passes}
use Rattle.mq_subscriptions.proofs.InTurn.{Unlike, unlike-filter, joining, turning, leaving}
use Rattle.mq_subscriptions.proofs.InTurn.{LocalEdit}
use Rattle.mq_subscriptions.proofs.Cuts.{Away, cut-edited, cut-out, cut-any, absent-any, put-edited}
use Rattle.mq_subscriptions.proofs.Cuts.{absent-edited, live-set, live-out, live-put, live_at}
use Rattle.mq_subscriptions.proofs.EntryLemmas.{keyed, put_last-live, with_one-live, empty_is}
use Rattle.mq_subscriptions.proofs.KeyLemmas.{levels_tied}

key-apart : (k x y : List Text) → is_key k x ≡ true → level_order x y ≡ Less → is_key k y ≡ false
key-apart k x y h less = ap is_eq (levels_total.congr k x y (equal_from _ h) ∙ less)

-- ## The keys stay in order

set_order : (k : List Text) (es : Entries) (w : Entry) → AreInOrder es
    → AreInOrder (set_value (is_key k) es w)
set_order k es w s = rw (keys-set_value (is_key k) es w) s

remove_order : (k : List Text) (es : Entries) → AreInOrder es
    → AreInOrder (remove_entry (is_key k) es)
remove_order k es s =
    rw (remove_entry-filter level_order (is_key k) (key-apart k) es s)
    (rw (map-filter (λ (e : List Text × Entry). e.0) (λ j. not (is_key k j)) es)
    (IsStrictlySortedBy-filter level_order (λ j. not (is_key k j)) (keys_of es) s))

insert_order : (k : List Text) (es : Entries) (v : Entry) → AreInOrder es
    → AreInOrder (insert_entry level_order es k v)
insert_order k es v s =
    rw (map-insert_entry level_order levels_total (λ (e : List Text × Entry). e.0) level_order
    (λ _ _. refl) (λ j e _ h. sym (levels_tied j e (ap is_eq h))) k v es s)
    (sorted-with_row level_order levels_total k (keys_of es) s)

-- to set what is at a key already leaves all as it was
pub tree-same : (f : Text) (es : Entries) (v w : Entry) (new : Entries)
    → lookup (is_key (levels f)) es ≡ Some v → new ≡ set_value (is_key (levels f)) es w → w ≡ v
    → new ≡ es
tree-same f es v w new found set same =
    set ∙ ap (set_value (is_key (levels f)) es) same ∙ set_value_same (is_key (levels f)) es v found

-- ## Rows at one key

abbrev rows_of : List Text × Entry → List Subscription
rows_of e = e.1.rows

abbrev Fits : List Text × Entry → Type 0
Fits e = IsEntry e.0 e.1

-- what is the same in turn as a list with an element has one
live-same : (xs ys : List Subscription) → SameInTurn xs ys → is_empty ys ≡ false
    → is_empty xs ≡ false
live-same [] [] h live = live
live-same [] (y ∷ ys) h live =
    (let no : 0 ≡ suc (length (filter (λ _. true) ys)) = h.elements (λ _. true) in cc)
live-same (x ∷ xs) ys h live = refl

module _ (f : Text) (es : Entries) (kept : AreEntries es) where
  abbrev k : List Text
  k = levels f

  -- what stands at another key is to another filter
  away : (s : Subscription) → s.filter ≡ f → Away rows_of (is_key k) s es
  away s own =
      all_weaker Fits (λ e. is_key k e.0 ≡ false → AllByRecursion (Unlike s) (rows_of e))
      (λ e h n. (let other : same_text e.1.filter f ≡ false = text_flip e.1.filter f
      ∙ sym (level_equal f e.1.filter) ∙ (rw h.key_is at n) in
      all_weaker (λ x. x.filter ≡ e.1.filter) (Unlike s)
      (λ x is. unlike-filter s x (rw (is, own) other)) e.1.rows h.here)) es kept.each

  module _ (v : Entry) (found : lookup (is_key k) es ≡ Some v) where
    cut : Split (is_key k) es v
    cut = split level_order (is_key k) (key-apart k) es v kept.ordered found

    key : cut.key ≡ k
    key = sym (levels_tied k cut.key cut.passes)

    here : Fits (cut.key, v)
    here = live_at Fits (is_key k) es kept.each v cut

    -- it is to the filter
    found_filter : v.filter ≡ f
    found_filter = same_levels v.filter f (sym here.key_is ∙ key)

    module _ (w : Entry) (same : w.filter ≡ v.filter) (w_here : AreHere w) (new : Entries)
        (set : new ≡ set_value (is_key k) es w) where
      pub set-kept : is_empty w.rows ≡ false → AreEntries new
      set-kept live = rw set (record {
        each = live-set Fits (is_key k) es kept.each v cut w (record {
          key_is = key ∙ ap levels (sym (same ∙ found_filter));
          here = w_here;
          live = live;
        });
        ordered = set_order k es w kept.ordered;
      })

      pub out-kept : (out : Entries) → out ≡ remove_entry (is_key k) new → AreEntries out
      out-kept out o = rw (o, set) (record {
        each = live-out Fits (is_key k) es kept.each v cut w;
        ordered = remove_order k (set_value (is_key k) es w) (set_order k es w kept.ordered);
      })

      edited : (s : Subscription) → s.filter ≡ f → (e : LocalEdit s)
          → e.same w.rows (e.edit v.rows) → e.same (all_rows new) (e.edit (all_rows es))
      edited s own e h = rw set (cut-edited rows_of (is_key k) s es (away s own) v cut e w h)

      pub tree-joined : (share : Option Text) (m : Member)
          → SameInTurn w.rows (upsert (row share v.filter m) v.rows)
          → AreEntries new × SameInTurn (all_rows new) (upsert (row share f m) (all_rows es))
      tree-joined share m h = (
        set-kept (live-same w.rows _ h (with_one-live (same_key (row share v.filter m)) _ v.rows)),
        edited (row share f m) refl (joining (row share f m)) (rw found_filter at h),
      )

      module _ (c : Text) (share : Option Text) where
        abbrev s : Subscription
        s = keyed c share f

        pub tree-turned : SameInTurn w.rows (put_last (has_key c share v.filter) v.rows)
            → AreEntries new
            × SameInTurn (all_rows new) (put_last (has_key c share f) (all_rows es))
        tree-turned h = (
          set-kept (live-same w.rows _ h (put_last-live (has_key c share v.filter) v.rows
              here.live)),
          edited s refl (turning s) (rw found_filter at h),
        )

        pub tree-left : w.rows ≡ filter (λ x. not (has_key c share v.filter x)) v.rows
            → all_rows new ≡ filter (λ x. not (has_key c share f x)) (all_rows es)
        tree-left h = edited s refl (leaving s) (rw found_filter at h)

        pub tree-gone : (out : Entries) → out ≡ remove_entry (is_key k) new
            → is_empty w.rows ≡ true
            → w.rows ≡ filter (λ x. not (has_key c share v.filter x)) v.rows
            → all_rows out ≡ filter (λ x. not (has_key c share f x)) (all_rows es)
        tree-gone out o e h = rw (o, set) (cut-out rows_of (is_key k) s es (away s refl) v cut
            (leaving s) w (sym (empty_is w.rows e) ∙ (rw found_filter at h)))

    pub tree-any : (c : Text) (share : Option Text)
        → list_any (has_key c share v.filter) v.rows ≡ list_any (has_key c share f) (all_rows es)
    tree-any c share = rw found_filter (sym (cut-any rows_of (is_key k) (keyed c share f) es
        (away (keyed c share f) refl) v cut))

  module _ (none : lookup (is_key k) es ≡ None) where
    module _ (c : Text) (share : Option Text) where
      pub tree-absent : (e : LocalEdit (keyed c share f)) → e.same [] (e.edit [])
          → e.same (all_rows es) (e.edit (all_rows es))
      tree-absent e h = absent-edited rows_of (is_key k) (keyed c share f) es
          (away (keyed c share f) refl) (none_passes (is_key k) es none) e h

      pub tree-absent_any : false ≡ list_any (has_key c share f) (all_rows es)
      tree-absent_any = sym (absent-any rows_of (is_key k) (keyed c share f) es
          (away (keyed c share f) refl) (none_passes (is_key k) es none))

    pub tree-added : (s : Subscription) → s.filter ≡ f → (one : Entry) → one.filter ≡ f
        → AreHere one
        → (new : Entries) → new ≡ insert_entry level_order es k one
        → SameInTurn one.rows (upsert s [])
        → AreEntries new × SameInTurn (all_rows new) (upsert s (all_rows es))
    tree-added s own one own_filter one_here new put h =
        let gap : Put level_order k es = put_gap level_order k es none in
        let fits : Fits (k, one) = record {
          key_is = ap levels (sym own_filter);
          here = one_here;
          live = live-same one.rows (s ∷ []) h refl;
        } in
        let each = live-put Fits level_order k es kept.each gap one fits in
        let rows = put-edited rows_of level_order k s es (away s own) gap (joining s) one h in
        rw put (record { each = each; ordered = insert_order k es one kept.ordered }, rows)
