use Rattle.std.proofs.Common.{◌≡◌, ◌∙◌, [], ℕ, List, Some, map, ap, sym, subst, arith, false}
use Rattle.std.specs.BTreeMap.{get_by_text}
use Rattle.std.specs.Vec.{with_items}
use Rattle.std.specs.List.{AllZip, filter}
use Rattle.std.specs.Option.{option_copied, option_map_or}
use Rattle.std.proofs.lemmas.List.{with_items_is}
use Rattle.std.proofs.lemmas.Map.Text.{text_keys}
use Rattle.mq_world.specs.Lists.{Text, same_text}
use Rattle.mq_reach.specs.Tracked.{IsAsked, IsOf, Where, entry_view, is_open_at, is_open_of}
use Rattle.mq_reach.specs.Tracked.{places_from, tracked_in}
use Rattle.mq_reach.proofs.PlaceLemmas.{none-places, places_in}
use Rattle.mq_reach.proofs.OpenLemmas.{reindexed}
use Rattle.mq_reach.proofs.WalkLemmas.{then_ok}
use Rattle.mq_reach.proofs.tracked.Tracked.ask.Goals as goal

pub returns-in_default-clause-ok : goal.returns-in_default-clause-ok
returns-in_default-clause-ok c =
    let client = c.args.client.now in
    let ts = tracked_in c.self.inside in
    let R = IsAsked c.args.list.now (option_copied c.args.user) in
    let none : places_from 0 (is_open_of client) ts ≡ [] =
    sym (c.self.invariant client)
    ∙ sym (ap (λ o. option_map_or (λ places. places.items) o []) c.in_default.ensures.value) in
    subst (λ l. AllZip (Where (is_open_of client) R) l ts) c.self.view_is
    (none-places (is_open_of client) R ts 0 none)

pub ask_at-asked-requires : goal.ask_at-asked-requires
ask_at-asked-requires c =
    let client = c.args.client.now in
    places_in (is_open_of client) c.deref_mut.result.now c.deref.result.now
    (c.deref.ensures.value
    ∙ ap (λ o. option_map_or (λ places. places.items) o []) c.in-Some.ensures.value
    ∙ c.self.invariant client
    ∙ ap (λ es. places_from 0 (is_open_of client) (map entry_view es))
    (sym c.deref_mut.ensures.value))

pub invariant_of-self-2 : goal.invariant_of-self-2
invariant_of-self-2 c = λ other.
    let client = c.args.client.now in
    let ts = tracked_in c.self.inside in
    let us = map entry_view c.ask_at-asked.new.entries in
    let back : (with_items c.self.inside.entries c.ask_at-asked.new.entries).items
    ≡ c.ask_at-asked.new.entries = with_items_is c.self.inside.entries c.ask_at-asked.new.entries
    (omega (arith, c.ask_at-asked.auto.entries, c.deref_mut.ensures.len)) in
    let its : c.deref.result.now ≡ places_from 0 (is_open_of client) ts =
    c.deref.ensures.value
    ∙ ap (λ o. option_map_or (λ places. places.items) o []) c.in-Some.ensures.value
    ∙ c.self.invariant client in
    let old : Text → List ℕ =
    λ d. option_map_or (λ places. places.items) (get_by_text c.self.inside.open d) [] in
    let new : Text → List ℕ = λ d. option_map_or (λ places. places.items)
    (get_by_text (c.get_mut.follows.lender c.keep_open.new.places) d) [] in
    let zip : AllZip (Where (is_open_of client) IsOf) ts us =
    subst (λ es. AllZip (Where (is_open_of client) IsOf) (map entry_view es) us)
    c.deref_mut.ensures.value
    (c.ask_at-asked.ensures.kept (is_open_of client) (its
    ∙ ap (λ es. places_from 0 (is_open_of client) (map entry_view es))
    (sym c.deref_mut.ensures.value))) in
    let put : get_by_text (c.get_mut.follows.lender c.keep_open.new.places) client
    ≡ Some c.keep_open.new.places = grind (arith, text_keys) in
    let left : (d : Text) → same_text client d ≡ false
    → get_by_text (c.get_mut.follows.lender c.keep_open.new.places) d
    ≡ get_by_text c.self.inside.open d = λ d apart. grind (arith, text_keys) in
    reindexed client IsOf (λ t u h. h) ts us zip old new c.self.invariant
    (ap (λ o. option_map_or (λ places. places.items) o []) put ∙ c.keep_open.ensures
    ∙ ap (λ es. filter (is_open_at (map entry_view es)) c.in-Some.places.now.items)
    (c.deref-2.ensures.value ∙ back)
    ∙ ap (filter (is_open_at us))
    (ap (λ o. option_map_or (λ places. places.items) o []) c.in-Some.ensures.value))
    (λ d apart. ap (λ o. option_map_or (λ places. places.items) o []) (left d apart)) other
    ∙ ap (λ es. places_from 0 (is_open_of other) (map entry_view es)) (sym back)

pub returns-clause-ok : goal.returns-clause-ok
returns-clause-ok c =
    let client = c.args.client.now in
    let R = IsAsked c.args.list.now (option_copied c.args.user) in
    let ts = tracked_in c.self.inside in
    let us = map entry_view c.ask_at-asked.new.entries in
    let back : (with_items c.self.inside.entries c.ask_at-asked.new.entries).items
    ≡ c.ask_at-asked.new.entries = with_items_is c.self.inside.entries c.ask_at-asked.new.entries
    (omega (arith, c.ask_at-asked.auto.entries, c.deref_mut.ensures.len)) in
    then_ok c.ask_at-asked.result
    (λ asks. subst (λ es. AllZip (Where (is_open_of client) R) c.args.self.now (map entry_view es))
    (sym back) (subst (λ l. AllZip (Where (is_open_of client) R) l us) c.self.view_is
    (subst (λ es. AllZip (Where (is_open_of client) R) (map entry_view es) us)
    c.deref_mut.ensures.value
    (asks (is_open_of client) (c.deref.ensures.value
    ∙ ap (λ o. option_map_or (λ places. places.items) o []) c.in-Some.ensures.value
    ∙ c.self.invariant client
    ∙ ap (λ es. places_from 0 (is_open_of client) (map entry_view es))
    (sym c.deref_mut.ensures.value)))))) c.ask_at-asked.ensures.ok
