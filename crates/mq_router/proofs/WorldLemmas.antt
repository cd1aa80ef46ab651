-- What the router does by its own state, it does for each world that it stands for.
use Rattle.std.proofs.Common.{◌≡◌, ℕ, ◌+◌, ◌==◌, Bool, true, false, ◌&&◌, ◌||◌, not, List, [], ◌∷◌}
use Rattle.std.proofs.Common.{map, Option, is_none, Result, Ok, Err, length, if◌then◌else◌, refl}
use Rattle.std.proofs.Common.{sym, ◌∙◌, ap, subst, inr, arith}
use Rattle.std.specs.Option.{option_map}
use Rattle.std.specs.List.{filter, filter_map, find, list_any}
use Rattle.std.proofs.lemmas.List.{length-map}
use Rattle.std.proofs.lemmas.Simd.{map-map}
use Rattle.mq_topic.specs.Levels.{levels}
use Rattle.mq_topic.specs.Texts.{share_of, filter_part}
use Rattle.mq_acl.specs.AccessLists.{AccessList}
use Rattle.mq_world.specs.Lists.{SameElements, Text, same_text}
use Rattle.mq_world.specs.World.{World, IsWorld, Group, Session, Subscription, Row, Message, Copy}
use Rattle.mq_world.specs.World.{Retained, Reply, Request, Connect, Disconnect, Subscribe, Publish}
use Rattle.mq_world.specs.World.{Unsubscribe, SetAcl, Advance, Stat, subscription_of, has_id}
use Rattle.mq_world.specs.World.{has_key, same_key, is_in_group, rows_in, subscriptions_of}
use Rattle.mq_world.specs.Sessions.{user_of, is_reader, can_be_served, outlives, resumes, left_by}
use Rattle.mq_world.specs.Waiting.{begins_to_wait}
use Rattle.mq_world.specs.Refusals.{acl_refusal, first_refusal, client_conditions, refusal}
use Rattle.mq_world.specs.Copies.{filter_matches}
use Rattle.mq_world.specs.Groups.{groups_of, turn_of, served_rows, served_by}
use Rattle.mq_world.specs.Retained.{retained_copies}
use Rattle.mq_world.specs.Counts.{filters_of, topics_of, counts, steps}
use Rattle.mq_world.specs.Answers.{answer}
use Rattle.mq_world.specs.After.{after, without_client}
use Rattle.mq_world.specs.Turns.{by_turn, in_turn, SameInTurn}
use Rattle.mq_router.specs.StandsFor.{State, Holds, StandsFor, Answers, AnswersFor, CountsFor}
use Rattle.mq_router.specs.StandsFor.{Refuses}
use Rattle.mq_router.specs.router.Effects.{Applied, CountsSteps, Does, IsFiled, world_of, reply_to}
use Rattle.mq_router.specs.router.Effects.{counts_now, steps_to, change_state, without, lasts}
use Rattle.mq_subscriptions.specs.Turns.{next_in, next_members, all_turned}
use Rattle.mq_world.specs.Views.{reply_of}
use Rattle.mq_topic.specs.Prefixes.{capped, prefixes, met_by_name}
use Rattle.mq_world.proofs.ListLemmas.{map-filter}
use Rattle.mq_world.proofs.SameLemmas.{SameElements-map, length-SameElements, list_any-SameElements}
use Rattle.mq_subscriptions.proofs.InTurn.{same-is, same-then, same-filter, joined-same}
use Rattle.mq_subscriptions.proofs.InTurn.{all_turned-same}
use Rattle.mq_subscriptions.proofs.TurnLemmas.{by_turn-filter, least-is}
use Rattle.mq_subscriptions.proofs.JoinTurn.{turn-elements, joins}
use Rattle.mq_subscriptions.proofs.OneServed.{shown}
use Rattle.mq_router.proofs.ServeTurn.{serves}
use Rattle.mq_router.proofs.GroupLemmas.{groups-same, groups-shown}
use Rattle.mq_subscriptions.proofs.KeyLemmas.{filters-same}
use Rattle.mq_router.proofs.SameCopies.{unshared_copies-same, begins_to_wait-same}
use Rattle.mq_router.proofs.SameCopies.{waiting_after-same}
use Rattle.mq_router.proofs.NextLemmas.{gone, after-is_world}
use Rattle.mq_world.specs.declared.answer.Answer.{Answer}
use Rattle.mq_world.specs.declared.answer.Outcome.{Outcome}
use Rattle.mq_world.specs.declared.answer.Outcome.TheVariants.{Counts}
use Rattle.mq_world.specs.declared.refusal.Refusal.{Refusal}

-- the subscriptions in turn are those of the rows
turn_shown : (w : World) → SameElements (in_turn w) (subscriptions_of w)
turn_shown w = SameElements-map (λ (r : Row). r.subscription) (by_turn w.rows) w.rows
    (turn-elements w.rows)

-- the state has the limits, moment, access rows, sessions and retained messages of the world, and its subscriptions in turn
pub record HasRows (s : State) (w : World) : Type 0 where
  pub limits : s.limits ≡ w.limits
  pub rules : s.rules ≡ w.rules
  pub moment : s.moment ≡ w.moment
  pub access : s.access ≡ w.access
  pub sessions : s.sessions ≡ w.sessions
  pub subscriptions : SameInTurn s.subscriptions (in_turn w)
  pub retained : s.retained ≡ w.retained

module _ (s : State) (w : World) (h : HasRows s w) where
  all_shown : SameElements s.subscriptions (subscriptions_of w)
  all_shown = λ p. h.subscriptions.elements p ∙ turn_shown w p

  -- ## Refusals

  pub refusal-held : (request : Request) → refusal (world_of s) request ≡ refusal w request
  unfolding refusal
  refusal-held (Connect id user clean interval) = refl
  refusal-held (Disconnect id) = ap (λ ss. first_refusal (client_conditions ss id)) h.sessions
  refusal-held (Subscribe id text options) = grind arith
  refusal-held (Unsubscribe id text) = grind arith
  refusal-held (Publish m) = grind arith
  refusal-held (SetAcl text) = ap (λ rules. acl_refusal rules text) h.rules
  refusal-held (Advance seconds) = grind arith
  refusal-held Stat = refl

  -- ## Who is served

  shown_find : (p : Subscription → Bool) (rows : List Row)
      → option_map (λ (r : Row). r.subscription) (find (λ (r : Row). p r.subscription) rows)
      ≡ find p (shown rows)
  shown_find p [] = refl
  shown_find p (r ∷ rows) = grind (arith, shown_find p rows, shown)

  turn-held : (topic : Text) (g : Group) → next_in s.access s.sessions s.subscriptions topic g
      ≡ option_map (λ (r : Row). r.subscription) (turn_of (can_be_served w topic) w.rows g)
  turn-held topic g =
      let able : Subscription → Bool = λ x. can_be_served w topic x.client in
      ap (λ access. find (λ (x : Subscription). is_reader access s.sessions topic x.client)
      (filter (is_in_group g) s.subscriptions)) h.access
      ∙ ap (λ ss. find (λ (x : Subscription). is_reader w.access ss topic x.client)
      (filter (is_in_group g) s.subscriptions)) h.sessions
      ∙ ap (find able) (h.subscriptions.members g
      ∙ sym (map-filter (λ (r : Row). r.subscription) (is_in_group g) (by_turn w.rows))
      ∙ ap shown (sym (by_turn-filter (λ r. is_in_group g r.subscription) w.rows)))
      ∙ sym (shown_find able (by_turn (rows_in g w.rows)))
      ∙ ap (option_map (λ (r : Row). r.subscription))
      (sym (least-is (λ r. able r.subscription) (rows_in g w.rows)))

  each_turn : (topic : Text) (gs : List Group)
      → filter_map (next_in s.access s.sessions s.subscriptions topic) gs
      ≡ shown (filter_map (turn_of (can_be_served w topic) w.rows) gs)
  each_turn topic [] = refl
  each_turn topic (g ∷ gs) = grind (arith, each_turn topic gs, turn-held, shown)

  pub served-held : (m : Message) → next_members s.access s.sessions s.subscriptions m
      ≡ shown (served_by w m)
  unfolding next_members served_rows
  served-held m =
      let q : Group → Bool = λ group. filter_matches group.filter m.topic in
      ap (filter_map (next_in s.access s.sessions s.subscriptions m.topic))
      (groups-same q s.subscriptions (subscriptions_of w)
      (λ g t. list_any-SameElements (is_in_group g) s.subscriptions (subscriptions_of w)
      all_shown) ∙ ap (filter q) (groups-shown w.rows))
      ∙ each_turn m.topic (filter q (groups_of w.rows))

  -- ## Answers

  -- what a subscribe is sent, by what it depends on
  abbrev sent_by : ℕ → Option AccessList → List Session → List Retained → Subscription → Bool
      → List Copy
  sent_by moment access sessions retained new exists =
      if is_none new.share && (new.options.handling == 0
      || (new.options.handling == 1 && not exists))
      then retained_copies moment access (user_of sessions new.client) retained new
      else []

  sent-held : (new : Subscription) → sent_by s.moment s.access s.sessions s.retained new
      (list_any (same_key new) s.subscriptions)
      ≡ sent_by w.moment w.access w.sessions w.retained new
      (list_any (same_key new) (subscriptions_of w))
  sent-held new = grind (arith, list_any-SameElements, all_shown)

  waits-held : (m : Message) → begins_to_wait s.limits.queued s.access s.sessions s.subscriptions m
      ≡ begins_to_wait w.limits.queued w.access w.sessions (subscriptions_of w) m
  waits-held m = grind (arith, begins_to_wait-same, all_shown)

  pub answer-held : counts_now s ≡ counts w → (request : Request)
      → reply_to s request ≡ answer w request
  unfolding answer
  answer-held shown (Connect id user clean interval) = grind arith
  answer-held shown (Disconnect id) = refl
  answer-held shown (Subscribe id text options) =
      grind (arith, sent-held (subscription_of id text options))
  answer-held shown (Unsubscribe id text) = grind (arith, list_any-SameElements, all_shown)
  answer-held shown (Publish m) =
      grind (arith, unshared_copies-same, all_shown, served-held, map-map, waits-held)
  answer-held shown (SetAcl text) = refl
  answer-held shown (Advance seconds) = refl
  answer-held shown Stat = ap (λ outcome. record { copies = []; outcome = outcome }) shown

  -- ## The next world

  kept_rows : (q : Subscription → Bool)
      → SameInTurn (filter q s.subscriptions)
      (shown (by_turn (filter (λ r. q r.subscription) w.rows)))
  kept_rows q =
      same-then _ _ _ (same-filter q s.subscriptions (in_turn w) h.subscriptions)
      (same-is _ _ (sym (map-filter (λ (r : Row). r.subscription) q (by_turn w.rows))
      ∙ ap shown (sym (by_turn-filter (λ r. q r.subscription) w.rows))))

  -- the rows after a connect, by whether it resumes
  left_rows : (id : Text) (a b : Bool) → a ≡ b
      → SameInTurn (if a then s.subscriptions else without id s.subscriptions)
      (shown (by_turn (if b then w.rows else without_client id w.rows)))
  left_rows id a b e =
      let P : Bool → Bool → Type 0 = λ a b. SameInTurn
      (if a then s.subscriptions else without id s.subscriptions)
      (shown (by_turn (if b then w.rows else without_client id w.rows))) in
      subst (P a) e (elim a as (λ a. P a a)
      [ true ↦ h.subscriptions | false ↦ kept_rows (λ x. not (same_text x.client id)) ])

  -- the state after a disconnect, by whether the session stays
  abbrev left_state : Text → Bool → State
  left_state id stays =
      if stays
      then record s { sessions = map (left_by s.moment id) s.sessions }
      else record s {
        sessions = filter (λ session. not (has_id id session)) s.sessions;
        subscriptions = without id s.subscriptions;
      }

  pub moved-held : IsWorld w → (request : Request)
      → HasRows (change_state s request) (after w request)
  unfolding after
  moved-held is (Connect id user clean interval) =
      let rows = left_rows id (resumes s.sessions id clean) (resumes w.sessions id clean)
      (ap (λ ss. resumes ss id clean) h.sessions) in
      grind (arith, rows)
  moved-held is (Disconnect id) =
      let P : Bool → Bool → Type 0 = λ a b. HasRows (left_state id a) (gone w id b) in
      let rows = kept_rows (λ x. not (same_text x.client id)) in
      subst (P (outlives s.sessions id)) (ap (λ ss. outlives ss id) h.sessions)
      (elim (outlives s.sessions id) as (λ b. P b b)
      [ true ↦ grind arith | false ↦ grind (arith, rows) ])
  moved-held is (Subscribe id text options) =
      let x : Subscription = subscription_of id text options in
      let rows = same-then _ _ _ (joined-same x s.subscriptions (in_turn w) h.subscriptions)
      (same-is _ _ (joins x w is)) in
      grind (arith, rows)
  moved-held is (Unsubscribe id text) =
      let rows = kept_rows (λ x. not (has_key id (share_of text) (filter_part text) x)) in
      grind (arith, rows)
  moved-held is (Publish m) =
      let rows = same-then _ _ _
      (all_turned-same (next_members s.access s.sessions s.subscriptions m) s.subscriptions
      (in_turn w) h.subscriptions)
      (same-then _ _ _ (same-is _ _ (ap (λ l. all_turned l (in_turn w)) (served-held m)))
      (serves w is m)) in
      let waiting = waiting_after-same w.limits.queued w.access w.sessions s.subscriptions
      (subscriptions_of w) w.moment m all_shown in
      grind (arith, rows, waiting)
  moved-held is (SetAcl text) = grind arith
  moved-held is (Advance seconds) =
      let rows = same-then _ _ _
      (same-is _ _ (ap (λ moment. filter (lasts (moment + seconds) s.sessions) s.subscriptions)
      h.moment
      ∙ ap (λ ss. filter (lasts (w.moment + seconds) ss) s.subscriptions) h.sessions))
      (kept_rows (lasts (w.moment + seconds) w.sessions)) in
      grind (arith, rows)
  moved-held is Stat = grind arith

-- ## Trees and index

-- a state that holds the rows of the world, and whose trees and index are those of its rows, holds the world
filed-holds : (s : State) (w : World) → HasRows s w → IsFiled s → Holds s w
unfolding filters_of
filed-holds s w h filed = grind (arith, filters-same, turn_shown)

holds-rows : (s : State) (w : World) → Holds s w → HasRows s w
holds-rows s w h = grind arith

holds-filed : (s : State) (w : World) → Holds s w → IsFiled s
unfolding filters_of
holds-filed s w h = grind (arith, filters-same, turn_shown)

-- ## Counts

counts-held : (s : State) (w : World) → Holds s w → counts_now s ≡ counts w
unfolding counts
counts-held s w h =
    let many : length s.subscriptions ≡ length w.rows =
    length-SameElements s.subscriptions (subscriptions_of w) (all_shown s w (holds-rows s w h))
    ∙ length-map w.rows (λ (r : Row). r.subscription) in
    let by : List (List Text) → List (List Text) → ℕ → ℕ → Outcome = λ filters topics kept rows.
    Counts (capped (length (prefixes filters) + length (prefixes topics))) (capped kept)
    (capped rows) in
    ap (λ keys. by keys s.topic_keys (length s.retained) (length s.subscriptions)) h.filter_keys
    ∙ ap (λ keys. by (filters_of w) keys (length s.retained) (length s.subscriptions)) h.topic_keys
    ∙ ap (λ (kept : List Retained). by (filters_of w) (topics_of w.retained) (length kept)
    (length s.subscriptions)) h.retained
    ∙ ap (by (filters_of w) (topics_of w.retained) (length w.retained)) many

steps-held : (s : State) (w : World) → Holds s w → (request : Request)
    → steps_to s request ≡ steps w request
unfolding steps
steps-held s w h (Connect id user clean interval) = refl
steps-held s w h (Disconnect id) = refl
steps-held s w h (Subscribe id text options) =
    grind (arith, list_any-SameElements, all_shown, holds-rows)
steps-held s w h (Unsubscribe id text) = refl
steps-held s w h (Publish m) = ap (λ keys. length (met_by_name (levels m.topic) (prefixes keys)))
    h.filter_keys
steps-held s w h (SetAcl text) = refl
steps-held s w h (Advance seconds) = grind arith
steps-held s w h Stat = refl

-- ## Each world that the router stands for

done-answers : (old : State) (request : Request) (reply : Reply) (new : State)
    → Does old request reply new → (w : World) → StandsFor old w → Answers w request reply new
unfolding StandsFor
done-answers old request reply new d w h =
    let rows : HasRows old w = holds-rows old w h.0 in
    let held : HasRows (change_state old request) (after w request) =
    moved-held old w rows h.1 request in
    let has : HasRows new (after w request) = record {
      limits = d.rows.limits ∙ held.limits;
      rules = d.rows.rules ∙ held.rules;
      moment = d.rows.moment ∙ held.moment;
      access = d.rows.access ∙ held.access;
      sessions = d.rows.sessions ∙ held.sessions;
      subscriptions = same-then _ _ _ d.rows.subscriptions held.subscriptions;
      retained = d.rows.retained ∙ held.retained;
    } in
    record {
      accepted = sym (refusal-held old w rows request) ∙ d.accepted;
      reply_is = d.reply_is ∙ answer-held old w rows (counts-held old w h.0) request;
      stands = (
        filed-holds new (after w request) has (d.filed (holds-filed old w h.0)),
        after-is_world w h.1 request,
      );
    }

refused-refuses : (old : State) (request : Request) (r : Refusal) → Refuses (world_of old) request r
    → (w : World) → StandsFor old w → Refuses w request r
unfolding StandsFor
refused-refuses old request r why w h = grind (arith, refusal-held, holds-rows)

-- a request that is applied to the state is answered for each world it stands for
pub applied_answers : (old : State) (shown request : Request) (result : Result Answer Refusal)
    (new : State) → shown ≡ request → Applied old shown result new
    → AnswersFor old request result new
applied_answers old shown request result new is done =
    subst (λ r. AnswersFor old r result new) is (each result done)
  where
    each : (result : Result Answer Refusal) → Applied old shown result new
        → AnswersFor old shown result new
    each (Ok a) d = λ w h. done-answers old shown (reply_of a) new d w h
    each (Err r) why = λ w h. refused-refuses old shown r why w h

-- steps that are counted by the state are those of each world it stands for
pub applied_counts : (old : State) (shown request : Request) (result : Result Answer Refusal)
    (before now : ℕ) → shown ≡ request → CountsSteps old shown result before now
    → CountsFor old request result before now
unfolding StandsFor
applied_counts old shown request result before now is done = grind (arith, shown, steps-held)

-- a request that takes no steps leaves their number as it was
pub none_counted : (old : State) (shown request : Request) (result : Result Answer Refusal) (n : ℕ)
    → shown ≡ request → steps_to old shown ≡ 0 → CountsFor old request result n n
none_counted old shown request result n is none =
    applied_counts old shown request result n n is (each result)
  where
    each : (result : Result Answer Refusal) → CountsSteps old shown result n n
    each (Ok a) = omega (arith, none)
    each (Err r) = inr refl
