-- What each command does with what the router holds.
use Rattle.std.proofs.Common.{◌≡◌, ◌⊎◌, ◌<◌, ◌≤◌, ◌+◌, nat_lt, arith, ℕ, Bool, true, false, not, []}
use Rattle.std.proofs.Common.{List, ◌∷◌, ◌++◌, map, Option, Some, None, Result, Err, IfErr, is_some}
use Rattle.std.proofs.Common.{◌&&◌, if◌then◌else◌, refl, sym, ◌∙◌, ap, subst, inl, inr}
use Rattle.std.proofs.Common.{append_assoc}
use Rattle.std.specs.Option.{option_map}
use Rattle.std.specs.List.{filter}
use Rattle.std.proofs.lemmas.Bool.Decides.{nat_tests}
use Rattle.mq_topic.specs.Texts.{is_name, is_shared, is_subscription, share_of, filter_part}
use Rattle.mq_acl.specs.AccessLists.{allowed}
use Rattle.mq_acl.specs.declared.access.Direction.TheVariants.{Writing}
use Rattle.mq_world.specs.Lists.{Text, with_row}
use Rattle.mq_world.specs.World.{Session, Subscription, SubscriptionOptions, Message, Retained}
use Rattle.mq_world.specs.World.{Request, Reply, Connect, Disconnect, Subscribe, Unsubscribe, Stat}
use Rattle.mq_world.specs.World.{Publish, SetAcl, Advance, subscription_of, session_cmp, has_id}
use Rattle.mq_world.specs.World.{has_key}
use Rattle.mq_world.specs.Clock.{last_moment}
use Rattle.mq_world.specs.Sessions.{new_session, user_of, outlives, resumes, left_by, has_ended}
use Rattle.mq_world.specs.Waiting.{waiting_after}
use Rattle.mq_world.specs.Refusals.{Conditions, first_refusal, client_conditions, is_client_id}
use Rattle.mq_world.specs.Refusals.{is_user_name, faulty_line, refusal}
use Rattle.mq_world.specs.Retained.{asks_for_retained, retained_copies, retained_after, is_full}
use Rattle.mq_world.specs.Retained.{without_expired}
use Rattle.mq_world.specs.Counts.{filters_among, topics_of}
use Rattle.mq_retained.specs.Deadlines.{Indexes}
use Rattle.mq_world.specs.Turns.{SameInTurn}
use Rattle.mq_world.specs.Answers.{reason}
use Rattle.mq_world.specs.After.{access_of}
use Rattle.mq_router.specs.StandsFor.{State, Refuses}
use Rattle.mq_router.specs.router.Effects.{Applied, Does, world_of, reply_to, members_now, without}
use Rattle.mq_router.specs.router.Effects.{copies_sent, counts_now, lasts, sender_conditions}
use Rattle.mq_subscriptions.specs.Turns.{upsert, all_turned}
use Rattle.mq_subscriptions.specs.Filters.{SubscriptionsView, AreKeys}
use Rattle.mq_retained.specs.Stored.{RetainedView, AreFiled}
use Rattle.mq_subscriptions.proofs.InTurn.{same-is, same-itself, same-then}
use Rattle.mq_world.specs.declared.answer.Answer.{Answer}
use Rattle.mq_world.specs.declared.refusal.Refusal.{Refusal}
use Rattle.mq_world.specs.declared.refusal.Refusal.TheVariants.{ClientId, UserName, TopicName}
use Rattle.mq_world.specs.declared.refusal.Refusal.TheVariants.{TopicFilter, SharedNoLocal, AclLine}
use Rattle.mq_world.specs.declared.refusal.Refusal.TheVariants.{NotAuthorized, RetainedFull, Memory}
use Rattle.mq_world.specs.declared.refusal.Refusal.TheVariants.{ClockTooFar}

-- ## Refusals

-- a refusal is right if it is that of the world, or lack of memory
pub refused-applied : (s : State) (request : Request) (result : Result Answer Refusal) (r : Refusal)
    (new : State) → result ≡ Err r → Refuses (world_of s) request r → Applied s request result new
refused-applied s request result r new is why = subst (λ v. Applied s request v new) (sym is) why

pub refused-as : {X : Type 0} (P : Refusal → Type 0) (result : Result X Refusal) (r : Refusal)
    → result ≡ Err r → P r → IfErr result P
refused-as P result r is why = subst (λ v. IfErr v P) (sym is) why

hit : (b : Bool) (r : Refusal) (rest : Conditions) → b ≡ false
    → first_refusal ((not b, r) ∷ rest) ≡ Some r
hit b r rest e = grind arith

skip : (b : Bool) (r : Refusal) (rest : Conditions) → b ≡ true
    → first_refusal ((not b, r) ∷ rest) ≡ first_refusal rest
skip b r rest e = grind arith

first-refused : (xs ys : Conditions) (r : Refusal) → Some r ≡ first_refusal xs
    → first_refusal (xs ++ ys) ≡ Some r
first-refused [] ys r h = cc
first-refused ((b, x) ∷ xs) ys r h = grind (arith, first-refused xs ys)

first-passed : (xs ys : Conditions) → None ≡ first_refusal xs
    → first_refusal (xs ++ ys) ≡ first_refusal ys
first-passed [] ys h = refl
first-passed ((b, x) ∷ xs) ys h = grind (arith, first-passed xs ys)

-- a refusal by a condition behind those on the client
refused-behind : (xs ys : Conditions) (r wanted : Refusal) (b : Bool) → None ≡ first_refusal xs
    → (r ≡ Memory) ⊎ ((r ≡ wanted) × (b ≡ false)) → (r ≡ Memory)
    ⊎ (first_refusal (xs ++ (not b, wanted) ∷ ys) ≡ Some r)
refused-behind xs ys r wanted b h why = grind (arith, first-passed, hit)

passed-behind : (xs ys : Conditions) (wanted : Refusal) (b : Bool) → None ≡ first_refusal xs
    → b ≡ true → first_refusal (xs ++ (not b, wanted) ∷ ys) ≡ first_refusal ys
passed-behind xs ys wanted b h e = grind (arith, first-passed, skip)

-- ## What comes next

-- the request is accepted, and this is the reply to it
pub record IsAccepted (s : State) (request : Request) (reply : Reply) : Type 0 where
  pub accepted : refusal (world_of s) request ≡ None
  pub reply_is : reply ≡ reply_to s request

-- the subscriptions that come next are such rows in turn, filed if those before were
pub record AreNext (s : State) (subs : SubscriptionsView) (rows : List Subscription) : Type 0 where
  pub same : SameInTurn subs.rows rows
  pub keys : s.filter_keys ≡ filters_among s.subscriptions → AreKeys subs

-- the retained messages that come next are these, and filed if those before were
pub record AreKept (s : State) (kept : RetainedView) (messages : List Retained) : Type 0 where
  pub same : kept.messages ≡ messages
  pub filed : s.topic_keys ≡ topics_of s.retained → Indexes s.deadlines s.retained → AreFiled kept

-- ## Connect and disconnect

-- a connect is refused for its client id if that can't be one
pub connect-client : (s : State) (id : Text) (user : Option Text) (clean : Bool) (interval : ℕ)
    → is_client_id id ≡ false → Refuses (world_of s) (Connect id user clean interval) ClientId
unfolding refusal
connect-client s id user clean interval e =
    inr (hit (is_client_id id) ClientId ((not (is_user_name user), UserName) ∷ []) e)

-- a connect is refused for its user name if that can't be one, but the client id can
pub connect-user : (s : State) (id : Text) (user : Option Text) (clean : Bool) (interval : ℕ)
    → is_client_id id ≡ true → is_user_name user ≡ false
    → Refuses (world_of s) (Connect id user clean interval) UserName
unfolding refusal
connect-user s id user clean interval e u =
    inr (skip (is_client_id id) ClientId ((not (is_user_name user), UserName) ∷ []) e
    ∙ hit (is_user_name user) UserName [] u)

-- the subscriptions after a connect, by whether it resumes
abbrev pub connect_rows : State → Text → Bool → List Subscription
connect_rows s id resumed = if resumed then s.subscriptions else without id s.subscriptions

-- a connect is accepted if its client id and its user name can be ones
pub connect-accepted : (s : State) (id : Text) (user : Option Text) (clean : Bool) (interval : ℕ)
    → is_client_id id ≡ true → is_user_name user ≡ true
    → refusal (world_of s) (Connect id user clean interval) ≡ None
unfolding refusal
connect-accepted s id user clean interval e u =
    skip (is_client_id id) ClientId ((not (is_user_name user), UserName) ∷ []) e
    ∙ skip (is_user_name user) UserName [] u

-- an accepted connect is done: its session is there, it is sent what waited, and the
-- client's subscriptions stay only if the session resumes
pub connect-does : (s : State) (id : Text) (user : Option Text) (clean : Bool) (interval : ℕ)
    (sessions : List Session) (subs : SubscriptionsView) (reply : Reply)
    → IsAccepted s (Connect id user clean interval) reply
    → sessions ≡ with_row session_cmp (new_session id user interval) s.sessions
    → AreNext s subs (connect_rows s id (resumes s.sessions id clean))
    → Does s (Connect id user clean interval) reply
    (record s { sessions = sessions; subscriptions = subs.rows; filter_keys = subs.keys })
connect-does s id user clean interval sessions subs reply is ss next = grind (arith, same-itself)

-- a disconnect is refused as the conditions on its client say
pub disconnect-client : (s : State) (id : Text) (r : Refusal)
    → Some r ≡ first_refusal (client_conditions s.sessions id)
    → Refuses (world_of s) (Disconnect id) r
unfolding refusal
disconnect-client s id r h = inr (sym h)

-- a disconnect is accepted if its client passes
pub disconnect-accepted : (s : State) (id : Text)
    → None ≡ first_refusal (client_conditions s.sessions id)
    → refusal (world_of s) (Disconnect id) ≡ None
unfolding refusal
disconnect-accepted s id h = sym h

-- a disconnect is done where the session outlives it: the client is away from now on
pub disconnect-leaves : (s : State) (id : Text) (sessions : List Session) (reply : Reply)
    → None ≡ first_refusal (client_conditions s.sessions id) → outlives s.sessions id ≡ true
    → reply ≡ reason 0 → sessions ≡ map (left_by s.moment id) s.sessions
    → Does s (Disconnect id) reply (record s { sessions = sessions })
unfolding refusal
disconnect-leaves s id sessions reply h stays r ss = grind (arith, same-itself)

-- a disconnect is done where the session ends with it: the session and the
-- client's subscriptions go
pub disconnect-does : (s : State) (id : Text) (sessions : List Session) (subs : SubscriptionsView)
    (reply : Reply) → IsAccepted s (Disconnect id) reply → outlives s.sessions id ≡ false
    → sessions ≡ filter (λ session. not (has_id id session)) s.sessions
    → AreNext s subs (without id s.subscriptions)
    → Does s (Disconnect id) reply
    (record s { sessions = sessions; subscriptions = subs.rows; filter_keys = subs.keys })
disconnect-does s id sessions subs reply is ends ss next = grind (arith, same-itself)

-- ## Subscribe and unsubscribe

shared-is : (text : Text) → is_some (share_of text) ≡ is_shared text
shared-is text = grind arith

abbrev shared_condition : Text → SubscriptionOptions → Conditions
shared_condition text options = (is_shared text && options.no_local, SharedNoLocal) ∷ []

-- a subscribe is refused as the conditions on its client say
pub subscribe-client : (s : State) (id text : Text) (options : SubscriptionOptions) (r : Refusal)
    → Some r ≡ first_refusal (client_conditions s.sessions id)
    → Refuses (world_of s) (Subscribe id text options) r
unfolding refusal
subscribe-client s id text options r h =
    inr (first-refused (client_conditions s.sessions id)
    ((not (is_subscription text), TopicFilter) ∷ shared_condition text options) r h)

-- where its client passes, a subscribe is refused for a bad filter, or for lack of memory
pub subscribe-filter : (s : State) (id text : Text) (options : SubscriptionOptions) (r : Refusal)
    → None ≡ first_refusal (client_conditions s.sessions id) → (r ≡ Memory)
    ⊎ ((r ≡ TopicFilter) × (is_subscription text ≡ false))
    → Refuses (world_of s) (Subscribe id text options) r
unfolding refusal
subscribe-filter s id text options r h why =
    refused-behind (client_conditions s.sessions id) (shared_condition text options) r TopicFilter
    (is_subscription text) h why

-- a shared subscription with No Local is refused, where client and filter pass
pub subscribe-shared : (s : State) (id text : Text) (options : SubscriptionOptions)
    → None ≡ first_refusal (client_conditions s.sessions id) → is_subscription text ≡ true
    → (is_some (share_of text) && options.no_local) ≡ true
    → Refuses (world_of s) (Subscribe id text options) SharedNoLocal
unfolding refusal
subscribe-shared s id text options h f e =
    inr (passed-behind (client_conditions s.sessions id) (shared_condition text options) TopicFilter
    (is_subscription text) h f
    ∙ ap (λ v. first_refusal ((v, SharedNoLocal) ∷ []))
    (sym (ap (λ b. b && options.no_local) (shared-is text)) ∙ e))

-- a subscribe is accepted if its client and its filter pass, and it isn't shared with No Local
pub subscribe-accepted : (s : State) (id text : Text) (options : SubscriptionOptions)
    → None ≡ first_refusal (client_conditions s.sessions id) → is_subscription text ≡ true
    → (is_some (share_of text) && options.no_local) ≡ false
    → refusal (world_of s) (Subscribe id text options) ≡ None
unfolding refusal
subscribe-accepted s id text options h f e =
    passed-behind (client_conditions s.sessions id) (shared_condition text options) TopicFilter
    (is_subscription text) h f
    ∙ ap (λ v. first_refusal ((v, SharedNoLocal) ∷ []))
    (sym (ap (λ b. b && options.no_local) (shared-is text)) ∙ e)

-- an accepted subscribe is done: it is sent its retained copies, granted its QoS, and
-- stands among the subscriptions
pub subscribe-does : (s : State) (id text : Text) (options : SubscriptionOptions)
    (subs : SubscriptionsView) (reply : Reply) → IsAccepted s (Subscribe id text options) reply
    → AreNext s subs (upsert (subscription_of id text options) s.subscriptions)
    → Does s (Subscribe id text options) reply
    (record s { subscriptions = subs.rows; filter_keys = subs.keys })
subscribe-does s id text options subs reply is next = grind (arith, same-itself)

-- a subscribe that doesn't ask for retained messages is sent none
pub sent-none : (s : State) (new : Subscription) → asks_for_retained s.subscriptions new ≡ false
    → copies_sent s new ≡ []
sent-none s new e = grind arith

-- a share name makes no difference to the copies
pub sent-some : (s : State) (new alone : Subscription) → alone ≡ record new { share = None }
    → asks_for_retained s.subscriptions new ≡ true
    → copies_sent s new ≡ retained_copies s.moment s.access (user_of s.sessions new.client)
    s.retained alone
unfolding retained_copies
sent-some s new alone is e = grind arith

-- an unsubscribe is refused as the conditions on its client say
pub unsubscribe-client : (s : State) (id text : Text) (r : Refusal)
    → Some r ≡ first_refusal (client_conditions s.sessions id)
    → Refuses (world_of s) (Unsubscribe id text) r
unfolding refusal
unsubscribe-client s id text r h =
    inr (first-refused (client_conditions s.sessions id)
    ((not (is_subscription text), TopicFilter) ∷ []) r h)

-- where its client passes, an unsubscribe is refused for a bad filter, or for lack of memory
pub unsubscribe-filter : (s : State) (id text : Text) (r : Refusal)
    → None ≡ first_refusal (client_conditions s.sessions id) → (r ≡ Memory)
    ⊎ ((r ≡ TopicFilter) × (is_subscription text ≡ false))
    → Refuses (world_of s) (Unsubscribe id text) r
unfolding refusal
unsubscribe-filter s id text r h why =
    refused-behind (client_conditions s.sessions id) [] r TopicFilter (is_subscription text) h why

-- an unsubscribe is accepted if its client and its filter pass
pub unsubscribe-accepted : (s : State) (id text : Text)
    → None ≡ first_refusal (client_conditions s.sessions id) → is_subscription text ≡ true
    → refusal (world_of s) (Unsubscribe id text) ≡ None
unfolding refusal
unsubscribe-accepted s id text h f =
    passed-behind (client_conditions s.sessions id) [] TopicFilter (is_subscription text) h f

-- an accepted unsubscribe is done: the subscription goes, and it says if there was one
pub unsubscribe-does : (s : State) (id text : Text) (subs : SubscriptionsView) (reply : Reply)
    → IsAccepted s (Unsubscribe id text) reply
    → AreNext s subs
    (filter (λ x. not (has_key id (share_of text) (filter_part text) x)) s.subscriptions)
    → Does s (Unsubscribe id text) reply
    (record s { subscriptions = subs.rows; filter_keys = subs.keys })
unsubscribe-does s id text subs reply is next = grind (arith, same-itself)

-- ## Publish

abbrev full_condition : State → Message → Conditions
full_condition s m = (is_full s.limits.retained s.retained m, RetainedFull) ∷ []

abbrev write_condition : State → Text → Text → Conditions
write_condition s client topic =
    (not (allowed s.access client (user_of s.sessions client) topic Writing), NotAuthorized) ∷ []

-- a publish is refused as the conditions on its publisher say
pub sender-client : (s : State) (client topic : Text) (r : Refusal)
    → Some r ≡ first_refusal (client_conditions s.sessions client)
    → first_refusal (sender_conditions s client topic) ≡ Some r
sender-client s client topic r h =
    first-refused (client_conditions s.sessions client)
    ((not (is_name topic), TopicName) ∷ write_condition s client topic) r h

-- where its publisher passes, a publish is refused for a bad topic, or for lack of memory
pub sender-name : (s : State) (client topic : Text) (r : Refusal)
    → None ≡ first_refusal (client_conditions s.sessions client)
    → (r ≡ Memory) ⊎ ((r ≡ TopicName) × (is_name topic ≡ false))
    → (r ≡ Memory) ⊎ (first_refusal (sender_conditions s client topic) ≡ Some r)
sender-name s client topic r h why = refused-behind (client_conditions s.sessions client)
    (write_condition s client topic) r TopicName (is_name topic) h why

-- where publisher and topic pass, a publish is refused if the publisher may not write there
pub sender-write : (s : State) (client topic : Text)
    → None ≡ first_refusal (client_conditions s.sessions client) → is_name topic ≡ true
    → allowed s.access client (user_of s.sessions client) topic Writing ≡ false
    → first_refusal (sender_conditions s client topic) ≡ Some NotAuthorized
sender-write s client topic h n e =
    passed-behind (client_conditions s.sessions client) (write_condition s client topic) TopicName
    (is_name topic) h n
    ∙ hit (allowed s.access client (user_of s.sessions client) topic Writing) NotAuthorized [] e

-- a publisher passes that is connected and may write there, if the topic passes
pub sender-passes : (s : State) (client topic : Text)
    → None ≡ first_refusal (client_conditions s.sessions client) → is_name topic ≡ true
    → allowed s.access client (user_of s.sessions client) topic Writing ≡ true
    → first_refusal (sender_conditions s client topic) ≡ None
sender-passes s client topic h n e =
    passed-behind (client_conditions s.sessions client) (write_condition s client topic) TopicName
    (is_name topic) h n
    ∙ skip (allowed s.access client (user_of s.sessions client) topic Writing) NotAuthorized [] e

-- the condition on room is the last one
full_last : (s : State) (m : Message) → refusal (world_of s) (Publish m)
    ≡ first_refusal (sender_conditions s m.publisher m.topic ++ full_condition s m)
unfolding refusal
full_last s m = ap first_refusal (sym (append_assoc (client_conditions s.sessions m.publisher)
    ((not (is_name m.topic), TopicName) ∷ write_condition s m.publisher m.topic)
    (full_condition s m)))

-- a publish is refused as the conditions on its publisher and its topic say
pub publish-refused : (s : State) (m : Message) (r : Refusal) → (r ≡ Memory)
    ⊎ (first_refusal (sender_conditions s m.publisher m.topic) ≡ Some r)
    → Refuses (world_of s) (Publish m) r
publish-refused s m r why = elim why as (λ _. Refuses (world_of s) (Publish m) r) [
  | inl memory ↦ inl memory
  | inr refused ↦ inr (full_last s m ∙ first-refused (sender_conditions s m.publisher m.topic)
      (full_condition s m) r (sym refused))
]

-- where it may be written, a publish is refused if there is no room to retain its message
pub publish-full : (s : State) (m : Message)
    → first_refusal (sender_conditions s m.publisher m.topic) ≡ None
    → is_full s.limits.retained s.retained m ≡ true → Refuses (world_of s) (Publish m) RetainedFull
publish-full s m h full =
    inr (full_last s m
    ∙ first-passed (sender_conditions s m.publisher m.topic) (full_condition s m) (sym h)
    ∙ ap (λ b. first_refusal ((b, RetainedFull) ∷ [])) full)

-- a publish is accepted if its publisher and its topic pass, and there is room
pub publish-accepted : (s : State) (m : Message)
    → first_refusal (sender_conditions s m.publisher m.topic) ≡ None
    → is_full s.limits.retained s.retained m ≡ false → refusal (world_of s) (Publish m) ≡ None
publish-accepted s m h room =
    full_last s m
    ∙ first-passed (sender_conditions s m.publisher m.topic) (full_condition s m) (sym h)
    ∙ ap (λ b. first_refusal ((b, RetainedFull) ∷ [])) room

-- an accepted publish is done: copies are sent, others wait, members served go last in
-- their groups, and retained messages change as it says
pub publish-does : (s : State) (m : Message) (sessions : List Session) (subs : SubscriptionsView)
    (kept : RetainedView) (reply : Reply) → IsAccepted s (Publish m) reply
    → sessions ≡ map (waiting_after s.limits.queued s.access s.subscriptions s.moment m) s.sessions
    → AreNext s subs (all_turned (members_now s m) s.subscriptions)
    → AreKept s kept (retained_after s.moment s.retained m)
    → Does s (Publish m) reply
    (record s {
      sessions = sessions;
      subscriptions = subs.rows;
      filter_keys = subs.keys;
      retained =
          kept.messages;
      topic_keys = kept.keys;
      deadlines = kept.pairs;
    })
publish-does s m sessions subs kept reply is ss next messages = grind (arith, same-itself)

-- ## Access lists

-- an access list is refused for its faulty line, or for lack of memory
pub set_acl-refused : (s : State) (text : Option Text) (r : Refusal) → (r ≡ Memory)
    ⊎ (option_map (λ line. AclLine line) (faulty_line s.rules text) ≡ Some r)
    → Refuses (world_of s) (SetAcl text) r
unfolding refusal
set_acl-refused s text r why = why

-- an access list without a faulty line, or none, is set; nothing else changes
pub set_acl-does : (s : State) (text : Option Text) (reply : Reply) → faulty_line s.rules text ≡ None
    → reply ≡ reason 0 → Does s (SetAcl text) reply (record s { access = access_of s.rules text })
unfolding refusal
set_acl-does s text reply h r = grind (arith, same-itself)

-- ## The clock

is_above : (a b : ℕ) → a < b → nat_lt a b ≡ true
is_above a b h = grind (arith, nat_tests)

not_above : (a b : ℕ) → b ≤ a → nat_lt a b ≡ false
not_above a b h = grind (arith, nat_tests)

-- the clock can't go beyond the last moment
pub advance-refused : (s : State) (seconds : ℕ) → last_moment < s.moment + seconds
    → Refuses (world_of s) (Advance seconds) ClockTooFar
unfolding refusal
advance-refused s seconds h =
    inr (ap (λ b. first_refusal ((b, ClockTooFar) ∷ []))
    (is_above last_moment (s.moment + seconds) h))

-- the clock can go on to no later than the last moment
pub advance-accepted : (s : State) (seconds : ℕ) → s.moment + seconds ≤ last_moment
    → refusal (world_of s) (Advance seconds) ≡ None
unfolding refusal
advance-accepted s seconds h = ap (λ b. first_refusal ((b, ClockTooFar) ∷ []))
    (not_above last_moment (s.moment + seconds) h)

-- the clock has gone on to a moment, and the sessions that have ended are gone
pub record IsLater (s : State) (seconds moment : ℕ) (sessions : List Session) : Type 0 where
  pub reached : moment ≡ s.moment + seconds
  pub sessions_are : sessions ≡ filter (λ session. not (has_ended moment session)) s.sessions

-- an accepted advance is done: sessions that have ended go, with their subscriptions, and so do
-- retained messages that have expired
pub advance-does : (s : State) (seconds moment : ℕ) (sessions : List Session)
    (subs : SubscriptionsView) (kept : RetainedView) (reply : Reply)
    → IsAccepted s (Advance seconds) reply → IsLater s seconds moment sessions
    → AreNext s subs (filter (lasts moment s.sessions) s.subscriptions)
    → AreKept s kept (without_expired moment s.retained)
    → Does s (Advance seconds) reply
    (record s {
      moment = moment;
      sessions = sessions;
      subscriptions = subs.rows;
      filter_keys =
          subs.keys;
      retained = kept.messages;
      topic_keys = kept.keys;
      deadlines = kept.pairs;
    })
advance-does s seconds moment sessions subs kept reply is later next messages =
    grind (arith, same-then, same-is)

-- ## Counts

-- a stat is done if it shows the counts; it changes nothing
pub stat-does : (s : State) (reply : Reply)
    → reply ≡ record { copies = []; outcome = counts_now s } → Does s Stat reply s
unfolding refusal
stat-does s reply r = grind (arith, same-itself)
