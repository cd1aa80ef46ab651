-- The copies for clients in their own name that are sent or begin to wait, as they are gathered.
use Rattle.std.proofs.Common.{◌≡◌, ◌==◌, ℕ, Bool, true, false, true≢false, cond, not, is_none, ◌&&◌}
use Rattle.std.proofs.Common.{◌||◌, List, [], ◌∷◌, map, length, Option, Some, None, is_some, refl}
use Rattle.std.proofs.Common.{if◌then◌else◌, sym, ◌∙◌, ap, arith}
use Rattle.std.specs.declared.cmp.Ordering.TheVariants.{Less}
use Rattle.std.specs.Cmp.Lexicographic.{nat_list_cmp_total}
use Rattle.std.specs.Option.{option_map, option_map_or, option_and_then}
use Rattle.std.specs.List.{filter, filter_map, find, list_any, AllByRecursion}
use Rattle.std.specs.List.Sorted.{IsStrictlySortedBy}
use Rattle.std.specs.Map.{lookup, keys_of}
use Rattle.std.proofs.lemmas.Bool.{and_parts}
use Rattle.std.proofs.Math.Bool.{and-true, or-true}
use Rattle.mq_acl.specs.AccessLists.{AccessList, allowed}
use Rattle.mq_acl.specs.declared.access.Direction.TheVariants.{Reading}
use Rattle.mq_world.specs.Lists.{Text, same_text, text_cmp}
use Rattle.mq_world.specs.World.{Session, Subscription, Message, Copy, session_cmp, has_id}
use Rattle.mq_world.specs.Sessions.{session_of, is_present, connected, user_of}
use Rattle.mq_world.specs.Waiting.{has_room, with_qos}
use Rattle.mq_sessions.specs.Queue.{QueueItem, queue_item}
use Rattle.mq_router.specs.delivery.Copies.{begins, queued_by, gives, gives_options, copies_by}
use Rattle.mq_router.specs.delivery.Copies.{queue_items_by}
use Rattle.mq_world.specs.Copies.{filter_matches, takes_part, options_for, unshared_copy}
use Rattle.mq_world.specs.Copies.{unshared_copies}
use Rattle.mq_subscriptions.specs.Filters.{is_text}
use Rattle.mq_router.specs.delivery.Summaries.{Summary, summary_of, summary_for, copy_from}
use Rattle.mq_world.proofs.ListLemmas.{filter-same, filter_map-same, filter_map-filter}
use Rattle.mq_world.proofs.ListLemmas.{list_any-map, list_any-same, is_some-find}
use Rattle.mq_world.proofs.SameLemmas.{filter-filter}
use Rattle.mq_world.proofs.SortedLemmas.{same_gathered}
use Rattle.mq_world.proofs.BoolLemmas.{pick}
use Rattle.mq_world.proofs.OrderLemmas.{same_text-itself, text_flip}
use Rattle.mq_subscriptions.proofs.TextMaps.{is_text-is, text-apart, key_text}
use Rattle.mq_router.proofs.SummaryLemmas.{summarized, unsummarized}
use Rattle.mq_world.specs.World as world

-- ## Sessions in order

abbrev ids : List Session → List Text
ids ss = map (λ (s : Session). s.id) ss

ids_below : (s : Session) (ss : List Session) → AllByRecursion (λ t. session_cmp s t ≡ Less) ss
    → AllByRecursion (λ y. text_cmp s.id y ≡ Less) (ids ss)
ids_below s [] h = tt
ids_below s (t ∷ ss) h = (h.0, ids_below s ss h.1)

sorted_ids : (ss : List Session) → IsStrictlySortedBy session_cmp ss
    → IsStrictlySortedBy text_cmp (ids ss)
unfolding IsStrictlySortedBy
sorted_ids [] s = tt
sorted_ids (t ∷ ss) s = (ids_below t ss s.0, sorted_ids ss s.1)

-- each session is the one with its id
found_itself : (ss : List Session) → IsStrictlySortedBy session_cmp ss
    → AllByRecursion (λ s. find (has_id s.id) ss ≡ Some s) ss
unfolding IsStrictlySortedBy
found_itself [] s = tt
found_itself (x ∷ ss) s = (
  ap (λ b. cond b (Some x) (find (has_id x.id) ss)) (same_text-itself x.id),
  others ss s.0 (found_itself ss s.1),
)
  where
    others : (ts : List Session) → AllByRecursion (λ t. session_cmp x t ≡ Less) ts
        → AllByRecursion (λ t. find (has_id t.id) ss ≡ Some t) ts
        → AllByRecursion (λ t. find (has_id t.id) (x ∷ ss) ≡ Some t) ts
    others [] h k = tt
    others (t ∷ ts) h k = (
      ap (λ b. cond b (Some x) (find (has_id t.id) ss))
          (sym (is_text-is x.id t.id) ∙ text-apart x.id x.id t.id
          (is_text-is x.id x.id ∙ same_text-itself x.id) h.0) ∙ k.0,
      others ts h.1 k.1,
    )

-- ## What is found by a text

-- what is shown of what is found for each key
each_shown : {V W : Type 0} (show : Option V → W) (L : List (Text × V)) (T : Text → W)
    → IsStrictlySortedBy text_cmp (keys_of L)
    → ((key : Text) → list_any (is_text key) (keys_of L) ≡ true
    → show (lookup (is_text key) L) ≡ T key)
    → AllByRecursion (λ (l : Text × V). show (Some l.1) ≡ T l.0) L
unfolding IsStrictlySortedBy
each_shown show [] T s h = tt
each_shown {V} {W} show (l ∷ L) T s h =
    let own : is_text l.0 l.0 ≡ true = is_text-is l.0 l.0 ∙ same_text-itself l.0 in (
      sym (ap (λ b. show (cond b (Some l.1) (lookup (is_text l.0) L))) own)
          ∙ h l.0 (ap (λ b. b || list_any (is_text l.0) (keys_of L)) own),
      each_shown show L T s.1 (λ key t.
          sym (ap (λ b. show (cond b (Some l.1) (lookup (is_text key) L))) (away key t))
          ∙ h key (ap (λ b. is_text key l.0 || b) t ∙ or-true (is_text key l.0))),
    )
  where
    none_of : (ks : List Text) → AllByRecursion (λ y. text_cmp l.0 y ≡ Less) ks
        → list_any (is_text l.0) ks ≡ false
    none_of [] k = refl
    none_of (x ∷ ks) k = ap (λ b. b || list_any (is_text l.0) ks)
        (text-apart l.0 l.0 x (is_text-is l.0 l.0 ∙ same_text-itself l.0) k.0) ∙ none_of ks k.1

    away : (key : Text) → list_any (is_text key) (keys_of L) ≡ true → is_text key l.0 ≡ false
    away key t =
        pick (is_text key l.0)
        (λ e. absurd (true≢false
        (sym t ∙ ap (λ (k : Text). list_any (is_text k) (keys_of L)) (key_text key l.0 e)
        ∙ none_of (keys_of L) s.0)))
        (λ f. f)

unfound : {V : Type 0} (key : Text) (L : List (Text × V))
    → list_any (is_text key) (keys_of L) ≡ false → lookup (is_text key) L ≡ None
unfound key [] h = refl
unfound key (l ∷ L) h = grind (arith, unfound key L, pick)

-- ## By client

-- what is made for the clients of sessions that pass a test, by the options of their subscriptions
module _ {X : Type 0} (test : Session → Bool) (make : Text → Summary → Option X)
    (access : Option AccessList) (sessions : List Session) (subscriptions : List Subscription)
    (m : Message) where
  abbrev O : Text → List world.SubscriptionOptions
  O id = options_for subscriptions m id

  abbrev may : Text → Option Text → Bool
  may id user = allowed access id user m.topic Reading

  abbrev passes : Text → Bool
  passes id = option_map_or test (session_of sessions id) false

  abbrev deliveries_for : Session → Option X
  deliveries_for s = cond (test s) (if not (length (O s.id) == 0) && may s.id s.user then
      make s.id (summary_of (O s.id)) else None) None

  abbrev made_by : Text × Summary → Option X
  made_by l = if passes l.0 && may l.0 (user_of sessions l.0) then make l.0 l.1 else None

  -- by the id alone
  abbrev H : Text → Option X
  H id = if passes id && not (length (O id) == 0) && may id (user_of sessions id) then
      make id (summary_of (O id)) else None

  nested : (t n y : Bool) (o : Option X) → cond t (if n && y then o else None) None
      ≡ (if t && n && y then o else None)
  nested true n y o = refl
  nested false n y o = refl

  by_ids : (ss : List Session) → AllByRecursion (λ s. session_of sessions s.id ≡ Some s) ss
      → filter_map deliveries_for ss ≡ filter_map H (ids ss)
  by_ids [] h = refl
  by_ids (s ∷ ss) h = grind (arith, by_ids ss h.1, nested)

  and_third : (a b c : Bool) → b ≡ true → (a && c) ≡ (a && b && c)
  and_third a b c e = ap (λ v. v && c) (sym (and-true a)) ∙ ap (λ v. a && v && c) (sym e)

  by_keys : (L : List (Text × Summary))
      → AllByRecursion (λ (l : Text × Summary). Some l.1 ≡ summary_for (O l.0)) L
      → filter_map made_by L ≡ filter_map H (keys_of L)
  by_keys [] h = refl
  by_keys (l ∷ L) h = grind (arith, by_keys L h.1, summarized, and_third)

  given : (b : Bool) (o : Option X) → is_some (if b then o else None) ≡ true → b ≡ true
  given true o h = refl
  given false o h = h

  passes-there : (o : Option Session) → option_map_or test o false ≡ true → is_some o ≡ true
  passes-there None h = h
  passes-there (Some s) h = refl

  pub unshared-made : (L : List (Text × Summary)) → IsStrictlySortedBy session_cmp sessions
      → IsStrictlySortedBy text_cmp (keys_of L)
      → ((id : Text) → lookup (is_text id) L ≡ summary_for (O id))
      → filter_map made_by L ≡ filter_map deliveries_for sessions
  unshared-made L s t found =
      by_keys L (each_shown (λ (o : Option Summary). o) L (λ id. summary_for (O id)) t
      (λ id k. found id))
      ∙ same_gathered text_cmp nat_list_cmp_total key_text H (keys_of L) (ids sessions) t
      (sorted_ids sessions s)
      (λ id e.
      let b : (passes id && not (length (O id) == 0) && may id (user_of sessions id)) ≡ true =
      given _ (make id (summary_of (O id))) e in
      let both : (passes id && not (length (O id) == 0)) ≡ true =
      (and_parts (passes id && not (length (O id) == 0)) (may id (user_of sessions id)) b).0 in
      let some : not (length (O id) == 0) ≡ true =
      (and_parts (passes id) (not (length (O id) == 0)) both).1 in
      pick (list_any (is_text id) (keys_of L)) (λ k. k)
      (λ f. absurd (true≢false (sym some ∙ unsummarized (O id) (sym (found id) ∙ unfound id L f))))
      ∙ sym (list_any-map (λ (x : Session). x.id) (is_text id) sessions
      ∙ list_any-same (λ (x : Session). is_text id x.id) (has_id id)
      (λ x. is_text-is id x.id ∙ text_flip id x.id) sessions
      ∙ sym (is_some-find (has_id id) sessions)
      ∙ passes-there (session_of sessions id)
      (and_parts (passes id) (not (length (O id) == 0)) both).0))
      ∙ sym (by_ids sessions (found_itself sessions s))

-- the copies that are sent
pub unshared-gathered : (access : Option AccessList) (sessions : List Session)
    (subscriptions : List Subscription) (m : Message) (L : List (Text × Summary))
    → IsStrictlySortedBy session_cmp sessions → IsStrictlySortedBy text_cmp (keys_of L)
    → ((id : Text) → lookup (is_text id) L ≡ summary_for (options_for subscriptions m id))
    → copies_by access sessions m L ≡ unshared_copies access (connected sessions) subscriptions m
unfolding unshared_copies
unshared-gathered access sessions subscriptions m L s t found =
    unshared-made is_present (λ id summary. Some (copy_from id None m summary)) access sessions
    subscriptions m L s t found
    ∙ filter_map-filter (λ (x : Session). unshared_copy access subscriptions m x.id x.user)
    is_present
    sessions

-- those that begin to wait
pub unshared-queued : (limit : ℕ) (access : Option AccessList) (sessions : List Session)
    (subscriptions : List Subscription) (m : Message) (deadline : Option ℕ)
    (L : List (Text × Summary)) → IsStrictlySortedBy session_cmp sessions
    → IsStrictlySortedBy text_cmp (keys_of L)
    → ((id : Text) → lookup (is_text id) L ≡ summary_for (options_for subscriptions m id))
    → queue_items_by limit access sessions m deadline L
    ≡ queued_by limit access sessions subscriptions m deadline
unshared-queued limit access sessions subscriptions m deadline L s t found =
    unshared-made (has_room limit) begin access sessions subscriptions m L s t found
    ∙ filter_map-same (deliveries_for (has_room limit) begin access sessions subscriptions m)
    (begins limit access subscriptions m deadline) each sessions
  where
    begin : Text → Summary → Option QueueItem
    begin id summary = option_map (queue_item id deadline) (with_qos (copy_from id None m summary))

    onto : (t b : Bool) (id : Text) (copy : Copy)
        → cond t (if b then option_map (queue_item id deadline) (with_qos copy) else None) None
        ≡ option_map (queue_item id deadline) (if t then
        option_and_then with_qos (if b then Some copy else None) else None)
    onto false b id copy = refl
    onto true false id copy = refl
    onto true true id copy = refl

    each : (x : Session) → deliveries_for (has_room limit) begin access sessions subscriptions m x
        ≡ begins limit access subscriptions m deadline x
    each x = grind (arith, onto)

-- ## What takes part among those that match

part : (a b c d : Bool) → (c && (a && b && d)) ≡ (a && b && c && d)
part true true true d = refl
part true true false d = refl
part true false true d = refl
part true false false d = refl
part false b true d = refl
part false b false d = refl

-- to find a client's options that take part, the subscriptions that match are enough
pub options-matching : (m : Message) (id : Text) (xs : List Subscription)
    → gives_options m id (filter (λ s. filter_matches s.filter m.topic) xs) ≡ options_for xs m id
options-matching m id xs =
    ap (map (λ (s : Subscription). s.options))
    (filter-filter (gives m id) (λ s. filter_matches s.filter m.topic) xs
    ∙ filter-same (λ s. filter_matches s.filter m.topic && gives m id s) (takes_part m id)
    (λ s. part (is_none s.share) (same_text s.client id) (filter_matches s.filter m.topic)
    (not (s.options.no_local && same_text id m.publisher))) xs)
