use Rattle.std.proofs.Common.{◌≡◌, ◌∙◌, ◌++◌, ◌∷◌, [], cond, length, map, ap, sym, refl, arith}
use Rattle.std.proofs.Common.{rules, string_bytes}
use Rattle.std.specs.BTreeMap.{get_by_text}
use Rattle.std.specs.Option.{option_map_or}
use Rattle.std.proofs.lemmas.List.{map-append}
use Rattle.mq_world.specs.Lists.{same_text}
use Rattle.mq_world.proofs.OrderLemmas.{text_flip}
use Rattle.mq_reach.specs.Tracked.{entry_view, is_open_of, places_from}
use Rattle.mq_reach.specs.declared.tracked.Entry.{Entry}
use Rattle.mq_reach.specs.declared.tracked.State.TheVariants.{Open}
use Rattle.mq_reach.proofs.OpenLemmas.{indexed-push}
use Rattle.mq_reach.proofs.WalkLemmas.{mapped-long}
use Rattle.mq_reach.proofs.tracked.Tracked.add.Goals as goal

pub invariant_of-self-in_default : goal.invariant_of-self-in_default
invariant_of-self-in_default c = λ client.
    let es = c.self.inside.entries.items in
    let e : Entry = record { subscription = c.args.subscription; state = Open } in
    let count : c.len-place.result ≡ length (map entry_view es) =
    (let same : length (map entry_view es) ≡ length es = mapped-long es in
    let own = c.self.inside.entries.ok.0 in omega (arith, c.len-place.ensures)) in
    let copied : string_bytes c.in_ok-client.client ≡ string_bytes c.args.subscription.client =
    search rules in
    indexed-push (map entry_view es) (entry_view e) c.len-place.result
    (λ d. option_map_or (λ places. places.items) (get_by_text c.self.inside.open d) [])
    (λ d. option_map_or (λ places. places.items) (get_by_text c.add_place.new.index d) [])
    count refl c.self.invariant
    (λ d. c.in_default.ensures.ok d
    ∙ ap (λ b. option_map_or (λ places. places.items) (get_by_text c.self.inside.open d) []
    ++ cond b (c.len-place.result ∷ []) [])
    (ap (same_text d) copied ∙ text_flip d (string_bytes c.args.subscription.client))) client
    ∙ ap (places_from 0 (is_open_of client))
    (sym (ap (map entry_view) c.in_ok-push.ensures.items ∙ map-append entry_view es (e ∷ [])))
