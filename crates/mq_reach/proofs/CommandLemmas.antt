-- What a search does with each command.
use Rattle.std.proofs.Common.{◌≡◌, ℕ, Bool, true, false, ◌&&◌, not}
use Rattle.std.proofs.Common.{List, [], ◌∷◌, map, Option, Some, None}
use Rattle.std.proofs.Common.{refl, sym, ◌∙◌, ap, subst}
use Rattle.std.specs.Prelude.{if◌then◌else◌}
use Rattle.std.specs.List.{filter}
use Rattle.std.proofs.Math.Bool.{and_assoc, and-false}
use Rattle.mq_topic.specs.Texts.{is_subscription}
use Rattle.mq_acl.specs.AccessLists.{AccessList}
use Rattle.mq_world.specs.After.{after, next, without_client}
use Rattle.mq_world.specs.Lists.{Text, same_text}
use Rattle.mq_world.specs.Refusals.{is_client_id}
use Rattle.mq_world.specs.Sessions.{is_connected, left_by}
use Rattle.mq_world.specs.Sessions.{outlives}
use Rattle.mq_world.specs.World.{Disconnect, Publish, Request, Session, SetAcl}
use Rattle.mq_world.specs.World.{Stat, Unsubscribe, World, has_id}
use Rattle.mq_world.specs.World.{Message}
use Rattle.mq_world.specs.declared.clock.Clock.{Clock}
use Rattle.mq_world.proofs.BoolLemmas.{pick}
use Rattle.mq_reach.specs.Search.{Applies, AreTracked, IsWorldOf}
use Rattle.mq_reach.specs.Subscriptions.{Kept, is_taken}
use Rattle.mq_reach.specs.Subscriptions.{subscriptions, world_of}
use Rattle.mq_reach.specs.Tracked.{TrackedSubscription, closed_all, closed_if}
use Rattle.mq_reach.specs.Tracked.{closed_one, is_open}
use Rattle.mq_reach.specs.Unqueued.{unqueued}
use Rattle.mq_reach.specs.declared.search.Search.{Search}
use Rattle.mq_reach.proofs.GrownLemmas.{all_sound, grown}
use Rattle.mq_reach.proofs.SessionLemmas.{connected-unqueued, disconnected-sessions, left_sessions}
use Rattle.mq_reach.proofs.SessionLemmas.{left-unqueued}
use Rattle.mq_reach.proofs.SessionLemmas.{outlives-unqueued, published-unqueued, reconnects}
use Rattle.mq_reach.proofs.SessionLemmas.{removed-unqueued, user-kept}
use Rattle.mq_reach.proofs.StayLemmas.{ends}
use Rattle.mq_reach.proofs.StayLemmas.{taken-disconnect, taken-unsubscribe}
use Rattle.mq_reach.proofs.StayLemmas.{next-refused}
use Rattle.mq_reach.proofs.StepLemmas.{Applies-ends, Applies-refused, Takes}
use Rattle.mq_reach.proofs.StepLemmas.{kept-all, makes_at, none_made}
use Rattle.mq_reach.proofs.StepLemmas.{refused-all, taken-world}

-- ## What the search has of the world

abbrev pub can_act : Search → Text → Bool
can_act s id = is_client_id id && is_connected s.sessions id

pub can_act-is : (s : Search) (id : Text) (w : World) → IsWorldOf w s
    → can_act s id ≡ (is_client_id id && is_connected w.sessions id)
can_act-is s id w is =
    ap (λ (ss : List Session). is_client_id id && is_connected ss id) is.sessions
    ∙ ap (λ b. is_client_id id && b) (connected-unqueued w.sessions id)

pub outlives-is : (s : Search) (id : Text) (w : World) → IsWorldOf w s
    → outlives s.sessions id ≡ outlives w.sessions id
outlives-is s id w is =
    ap (λ (ss : List Session). outlives ss id) is.sessions ∙ outlives-unqueued w.sessions id

and_true : (b : Bool) → (b && true) ≡ b
and_true true = refl
and_true false = refl

pub map-same : (ts : List TrackedSubscription) → map (λ t. t) ts ≡ ts
map-same [] = refl
map-same (t ∷ ts) = ap (λ l. t ∷ l) (map-same ts)

disconnected-moment : (w : World) (id : Text) → (after w (Disconnect id)).moment ≡ w.moment
unfolding after
disconnected-moment w id =
    elim (outlives w.sessions id) as (λ b. (if b
    then record w { sessions = map (left_by w.moment id) w.sessions }
    else record w {
      sessions = filter (λ session. not (has_id id session)) w.sessions;
      rows = without_client id w.rows;
    }).moment ≡ w.moment) [ true ↦ refl | false ↦ refl ]

-- ## Commands that take no part

-- a publish, another access list and a question for numbers leave the search
passed : (list : AccessList) (request : Request) (s : Search)
    → ((w : World) → unqueued w.sessions ≡ unqueued (after w request).sessions)
    → ((w : World) → w.moment ≡ (after w request).moment)
    → ((w : World) (client own : Text) → ends w request client own ≡ false)
    → ((client : Text) → reconnects request client ≡ false)
    → ((lines : List (List ℕ)) → makes_at lines (Some request) ≡ [])
    → Applies list (Some request) s s
passed list request s sessions moment lasts apart none = record {
  follows = λ w is. pick (is_taken w request)
      (λ e. taken-world w request s e (record {
        sessions = is.sessions ∙ sessions w;
        moment = is.moment ∙ moment w;
      }))
      (λ e. refused w e is);
  tracked = λ lines line says is are count.
      none_made list lines line (Some request) s.tracked says (none lines)
      (pick (is_taken (world_of lines) request)
      (λ e. kept lines e are) (λ e. left lines e are));
  counts = refl;
}
  where
    refused : (w : World) → is_taken w request ≡ false → IsWorldOf w s
        → IsWorldOf (next w request) s
    refused w e is = subst (λ v. IsWorldOf v s) (sym (next-refused w request e)) is

    kept : (lines : List (List ℕ)) → is_taken (world_of lines) request ≡ true
        → AreTracked list (subscriptions lines) s.tracked
        → AreTracked list (map (grown (world_of lines) (Some request)) (subscriptions lines))
        s.tracked
    kept lines e are =
        let w : World = world_of lines in
        subst (AreTracked list (map (grown w (Some request)) (subscriptions lines)))
        (map-same s.tracked)
        (kept-all list w request (subscriptions lines) s.tracked (λ t. t) e
        (λ client own k. user-kept w request client own e k (apart client))
        (λ t. sym (ap (λ b. closed_if b t)
        (ap (λ b. is_open t.state && b) (lasts w t.shown.client t.shown.filter)
        ∙ and-false (is_open t.state))))
        (all_sound lines) are)

    left : (lines : List (List ℕ)) → is_taken (world_of lines) request ≡ false
        → AreTracked list (subscriptions lines) s.tracked
        → AreTracked list (map (grown (world_of lines) (Some request)) (subscriptions lines))
        s.tracked
    left lines e are =
        refused-all list (world_of lines) request (subscriptions lines) s.tracked e
        (all_sound lines) are

pub Applies-publish : (list : AccessList) (m : Message) (s : Search)
    → Applies list (Some (Publish m)) s s
unfolding after
Applies-publish list m s =
    passed list (Publish m) s (λ w. published-unqueued w m w.sessions) (λ w. refl)
    (λ w client own. refl) (λ client. refl) (λ lines. refl)

pub Applies-acl : (list : AccessList) (text : Option Text) (s : Search)
    → Applies list (Some (SetAcl text)) s s
unfolding after
Applies-acl list text s =
    passed list (SetAcl text) s (λ w. refl) (λ w. refl) (λ w client own. refl) (λ client. refl)
    (λ lines. refl)

pub Applies-stat : (list : AccessList) (s : Search) → Applies list (Some Stat) s s
unfolding after
Applies-stat list s =
    passed list Stat s (λ w. refl) (λ w. refl) (λ w client own. refl) (λ client. refl)
    (λ lines. refl)

-- a line that says no command
pub Applies-none : (list : AccessList) (s : Search) → Applies list None s s
Applies-none list s = record {
  follows = λ w is. is;
  tracked = λ lines line says is are count.
      none_made list lines line None s.tracked says refl
      (subst (λ all. AreTracked list all s.tracked) (sym (map-itself (subscriptions lines))) are);
  counts = refl;
}
  where
    map-itself : (all : List Kept) → map (λ kept. kept) all ≡ all
    map-itself [] = refl
    map-itself (kept ∷ all) = ap (λ l. kept ∷ l) (map-itself all)

-- ## A disconnect

pub disconnect-refused : (list : AccessList) (id : Text) (s : Search) → can_act s id ≡ false
    → Applies list (Some (Disconnect id)) s s
disconnect-refused list id s e =
    Applies-refused list (Disconnect id) s
    (λ w is. taken-disconnect w id ∙ sym (can_act-is s id w is) ∙ e)

disconnect-taken : (id : Text) (s : Search) → can_act s id ≡ true → Takes (Disconnect id) s
disconnect-taken id s e =
    λ w is. taken-disconnect w id ∙ sym (can_act-is s id w is) ∙ e

-- the session stays, and its subscriptions with it
pub disconnect-stays : (list : AccessList) (id : Text) (old new : Search)
    → can_act old id ≡ true → outlives old.sessions id ≡ true
    → new.sessions ≡ map (left_by old.clock.moment id) old.sessions → new.clock ≡ old.clock
    → new.tracked ≡ old.tracked → new.counts ≡ old.counts
    → Applies list (Some (Disconnect id)) old new
disconnect-stays list id old new act lasts sessions clock tracked counts =
    Applies-ends list (Disconnect id) old new (λ t. t) refl (disconnect-taken id old act)
    (λ w is. record {
      sessions = sessions ∙ (λ i. map (left_by (is.moment i) id) (is.sessions i))
          ∙ left-unqueued w.moment id w.sessions
          ∙ sym (ap unqueued (disconnected-sessions w id
          ∙ ap (left_sessions w id) (sym (outlives-is old id w is) ∙ lasts)));
      moment = ap (λ (c : Clock). c.moment) clock ∙ is.moment ∙ sym (disconnected-moment w id);
    })
    (tracked ∙ sym (map-same old.tracked))
    (λ w is t. sym (ap (λ b. closed_if b t)
    (ap (λ b. is_open t.state && (same_text t.shown.client id && not b))
    (sym (outlives-is old id w is) ∙ lasts)
    ∙ ap (λ b. is_open t.state && b) (and-false (same_text t.shown.client id))
    ∙ and-false (is_open t.state))))
    (λ w is client own e. user-kept w (Disconnect id) client own (disconnect-taken id old act w is)
    e refl) counts

-- the session ends, and no subscription of the client stays
pub disconnect-ends : (list : AccessList) (id : Text) (old new : Search)
    → can_act old id ≡ true → outlives old.sessions id ≡ false
    → new.sessions ≡ filter (λ session. not (has_id id session)) old.sessions
    → new.clock ≡ old.clock
    → new.tracked ≡ map (closed_all id) old.tracked → new.counts ≡ old.counts
    → Applies list (Some (Disconnect id)) old new
disconnect-ends list id old new act ends sessions clock tracked counts =
    Applies-ends list (Disconnect id) old new (closed_all id) refl (disconnect-taken id old act)
    (λ w is. record {
      sessions = sessions ∙ ap (filter (λ session. not (has_id id session))) is.sessions
          ∙ removed-unqueued id w.sessions
          ∙ sym (ap unqueued (disconnected-sessions w id
          ∙ ap (left_sessions w id) (sym (outlives-is old id w is) ∙ ends)));
      moment = ap (λ (c : Clock). c.moment) clock ∙ is.moment ∙ sym (disconnected-moment w id);
    })
    tracked
    (λ w is t. sym (ap (λ b. closed_if b t)
    (ap (λ b. is_open t.state && (same_text t.shown.client id && not b))
    (sym (outlives-is old id w is) ∙ ends)
    ∙ ap (λ b. is_open t.state && b) (and_true (same_text t.shown.client id)))))
    (λ w is client own e. user-kept w (Disconnect id) client own (disconnect-taken id old act w is)
    e refl) counts

-- ## An unsubscribe

pub unsubscribe-refused : (list : AccessList) (id text : Text) (s : Search)
    → (can_act s id && is_subscription text) ≡ false
    → Applies list (Some (Unsubscribe id text)) s s
unsubscribe-refused list id text s e =
    Applies-refused list (Unsubscribe id text) s
    (λ w is. taken-unsubscribe w id text
    ∙ ap (λ b. b && is_subscription text) (sym (can_act-is s id w is)) ∙ e)

pub unsubscribe-taken : (list : AccessList) (id text : Text) (old new : Search)
    → (can_act old id && is_subscription text) ≡ true
    → new.sessions ≡ old.sessions → new.clock ≡ old.clock
    → new.tracked ≡ map (closed_one id text) old.tracked → new.counts ≡ old.counts
    → Applies list (Some (Unsubscribe id text)) old new
unfolding after
unsubscribe-taken list id text old new act sessions clock tracked counts =
    Applies-ends list (Unsubscribe id text) old new (closed_one id text) refl takes
    (λ w is. record {
      sessions = sessions ∙ is.sessions;
      moment = ap (λ (c : Clock). c.moment) clock ∙ is.moment;
    })
    tracked
    (λ w is t. ap (λ b. closed_if b t)
    (and_assoc (is_open t.state) (same_text t.shown.client id) (same_text t.shown.filter text)))
    (λ w is client own e. user-kept w (Unsubscribe id text) client own (takes w is) e refl) counts
  where
    takes : Takes (Unsubscribe id text) old
    takes w is = taken-unsubscribe w id text
        ∙ ap (λ b. b && is_subscription text) (sym (can_act-is old id w is)) ∙ act
