use Rattle.std.proofs.Common.{◌≡◌, ◌∙◌, [], ℕ, List, Some, map, ap, sym, subst, arith, false}
use Rattle.std.specs.BTreeMap.{get_by_text}
use Rattle.std.specs.Vec.{with_items}
use Rattle.std.specs.List.{AllZip, filter}
use Rattle.std.specs.Option.{option_map_or}
use Rattle.std.proofs.lemmas.List.{with_items_is}
use Rattle.std.proofs.lemmas.Map.Text.{text_keys}
use Rattle.mq_world.specs.Lists.{Text, same_text}
use Rattle.mq_reach.specs.Tracked.{Where, closed_one, entry_view, is_open_at, is_open_of}
use Rattle.mq_reach.specs.Tracked.{places_from, tracked_in}
use Rattle.mq_reach.proofs.OpenLemmas.{Closes, Closes-keeps, closes-map}
use Rattle.mq_reach.proofs.PlaceLemmas.{none-places, places_in}
use Rattle.mq_reach.proofs.OpenLemmas.{reindexed}
use Rattle.mq_reach.proofs.tracked.Tracked.close.Goals as goal

pub returns-in_default : goal.returns-in_default
returns-in_default c =
    let client = c.args.client.now in
    let ts = tracked_in c.self.inside in
    let R = Closes (Some c.args.filter.now) in
    let none : places_from 0 (is_open_of client) ts ≡ [] =
    sym (c.self.invariant client)
    ∙ sym (ap (λ o. option_map_or (λ places. places.items) o []) c.in_default.ensures.value) in
    closes-map (is_open_of client) (Some c.args.filter.now) ts ts
    (none-places (is_open_of client) R ts 0 none)
    ∙ ap (map (closed_one client c.args.filter.now)) c.self.view_is

pub close_at-requires : goal.close_at-requires
close_at-requires c =
    let client = c.args.client.now in
    places_in (is_open_of client) c.deref_mut.result.now c.deref.result.now
    (c.deref.ensures.value
    ∙ ap (λ o. option_map_or (λ places. places.items) o []) c.in-Some.ensures.value
    ∙ c.self.invariant client
    ∙ ap (λ es. places_from 0 (is_open_of client) (map entry_view es))
    (sym c.deref_mut.ensures.value))

pub invariant_of-self-2 : goal.invariant_of-self-2
invariant_of-self-2 c = λ other.
    let client = c.args.client.now in
    let R = Closes (Some c.args.filter.now) in
    let ts = tracked_in c.self.inside in
    let us = map entry_view c.close_at.new.entries in
    let back : (with_items c.self.inside.entries c.close_at.new.entries).items
    ≡ c.close_at.new.entries = with_items_is c.self.inside.entries c.close_at.new.entries
    (omega (arith, c.close_at.auto.entries, c.deref_mut.ensures.len)) in
    let its : c.deref.result.now ≡ places_from 0 (is_open_of client) ts =
    c.deref.ensures.value
    ∙ ap (λ o. option_map_or (λ places. places.items) o []) c.in-Some.ensures.value
    ∙ c.self.invariant client in
    let old : Text → List ℕ =
    λ d. option_map_or (λ places. places.items) (get_by_text c.self.inside.open d) [] in
    let new : Text → List ℕ = λ d. option_map_or (λ places. places.items)
    (get_by_text (c.get_mut.follows.lender c.keep_open.new.places) d) [] in
    let zip : AllZip (Where (is_open_of client) R) ts us =
    subst (λ es. AllZip (Where (is_open_of client) R) (map entry_view es) us)
    c.deref_mut.ensures.value
    (c.close_at.ensures (is_open_of client) (its
    ∙ ap (λ es. places_from 0 (is_open_of client) (map entry_view es))
    (sym c.deref_mut.ensures.value))) in
    let put : get_by_text (c.get_mut.follows.lender c.keep_open.new.places) client
    ≡ Some c.keep_open.new.places = grind (arith, text_keys) in
    let left : (d : Text) → same_text client d ≡ false
    → get_by_text (c.get_mut.follows.lender c.keep_open.new.places) d
    ≡ get_by_text c.self.inside.open d = λ d apart. grind (arith, text_keys) in
    reindexed client R (Closes-keeps (Some c.args.filter.now)) ts us zip old new c.self.invariant
    (ap (λ o. option_map_or (λ places. places.items) o []) put ∙ c.keep_open.ensures
    ∙ ap (λ es. filter (is_open_at (map entry_view es)) c.in-Some.places.now.items)
    (c.deref-2.ensures.value ∙ back)
    ∙ ap (filter (is_open_at us))
    (ap (λ o. option_map_or (λ places. places.items) o []) c.in-Some.ensures.value))
    (λ d apart. ap (λ o. option_map_or (λ places. places.items) o []) (left d apart)) other
    ∙ ap (λ es. places_from 0 (is_open_of other) (map entry_view es)) (sym back)

pub returns : goal.returns
returns c =
    let client = c.args.client.now in
    let R = Closes (Some c.args.filter.now) in
    let ts = tracked_in c.self.inside in
    let us = map entry_view c.close_at.new.entries in
    let back : (with_items c.self.inside.entries c.close_at.new.entries).items
    ≡ c.close_at.new.entries = with_items_is c.self.inside.entries c.close_at.new.entries
    (omega (arith, c.close_at.auto.entries, c.deref_mut.ensures.len)) in
    let zip : AllZip (Where (is_open_of client) R) ts us =
    subst (λ es. AllZip (Where (is_open_of client) R) (map entry_view es) us)
    c.deref_mut.ensures.value
    (c.close_at.ensures (is_open_of client) (c.deref.ensures.value
    ∙ ap (λ o. option_map_or (λ places. places.items) o []) c.in-Some.ensures.value
    ∙ c.self.invariant client
    ∙ ap (λ es. places_from 0 (is_open_of client) (map entry_view es))
    (sym c.deref_mut.ensures.value))) in
    ap (map entry_view) back ∙ closes-map (is_open_of client) (Some c.args.filter.now) ts us zip
    ∙ ap (map (closed_one client c.args.filter.now)) c.self.view_is
