-- The sessions behind a command, and the user name of a client.
use Rattle.std.proofs.Common.{◌≡◌, ℕ, ◌+◌, Bool, true, false, cond, ◌&&◌, ◌||◌, not, List, [], ◌∷◌}
use Rattle.std.proofs.Common.{◌++◌, map, Option, Some, None, if◌then◌else◌, refl, sym, ◌∙◌, ap}
use Rattle.std.specs.declared.cmp.Ordering.{Ordering}
use Rattle.std.specs.declared.cmp.Ordering.TheVariants.{Less, Equal, Greater}
use Rattle.std.specs.Cmp.{tied_itself}
use Rattle.std.specs.Cmp.Lexicographic.{nat_list_cmp_total}
use Rattle.std.specs.List.{filter, find, list_any}
use Rattle.std.specs.Option.{option_and_then, option_map, option_map_or, option_or}
use Rattle.std.specs.Ordering.{is_eq, is_lt, ordering_reverse}
use Rattle.std.proofs.Math.Bool.{and-false}
use Rattle.std.proofs.lemmas.List.{map-append}
use Rattle.std.proofs.lemmas.List.Folds.{find-append}
use Rattle.std.proofs.lemmas.Map.Text.{is_eq-slice_cmp}
use Rattle.mq_world.specs.After.{after, next, without_client}
use Rattle.mq_world.specs.Clock.{deadline_of}
use Rattle.mq_world.specs.Lists.{Text, same_text, text_cmp, with_row}
use Rattle.mq_world.specs.Sessions.{has_ended, is_connected, is_present, left_by, new_session}
use Rattle.mq_world.specs.Sessions.{outlives, outlives_connection, session_end, session_of, user_of}
use Rattle.mq_world.specs.Waiting.{waiting_after, waiting_copy, with_waiting}
use Rattle.mq_world.specs.World.{Advance, Away, Connect, Copy, Disconnect, Message, Publish, Request}
use Rattle.mq_world.specs.World.{Session, SetAcl, Stat, Subscribe, Unsubscribe, World, has_id}
use Rattle.mq_world.specs.World.{session_cmp, subscriptions_of}
use Rattle.mq_world.proofs.BoolLemmas.{pick}
use Rattle.mq_world.proofs.ListLemmas.{map-filter}
use Rattle.mq_world.proofs.OrderLemmas.{same_text-is, same_text-itself, text_flip}
use Rattle.mq_reach.specs.Subscriptions.{is_taken}
use Rattle.mq_reach.specs.Unqueued.{unqueued}
use Rattle.mq_reach.proofs.KeyLemmas.{any-kept}
use Rattle.mq_reach.proofs.StayLemmas.{ends, next-taken}

-- ## Searches through sessions

find-map : {X : Type 0} (p : X → Bool) (f : X → X) → ((x : X) → p (f x) ≡ p x) → (xs : List X)
    → find p (map f xs) ≡ option_map f (find p xs)
find-map p f same [] = refl
find-map p f same (x ∷ xs) =
    ap (λ b. cond b (Some (f x)) (find p (map f xs))) (same x)
    ∙ (elim (p x) as (λ b. cond b (Some (f x)) (find p (map f xs))
    ≡ option_map f (cond b (Some x) (find p xs)))
    [ true ↦ refl | false ↦ find-map p f same xs ])

find-kept : {X : Type 0} (p q : X → Bool) (b : Bool) → ((x : X) → p x ≡ true → q x ≡ b)
    → (xs : List X) → find p (filter q xs) ≡ cond b (find p xs) None
find-kept p q true agree [] = refl
find-kept p q false agree [] = refl
find-kept {X} p q b agree (x ∷ xs) =
    pick (p x)
    (λ t. ap (λ c. find p (cond c (x ∷ filter q xs) (filter q xs))) (agree x t) ∙ here b t
    (find-kept p q b agree xs))
    (λ f. away (q x) f (find-kept p q b agree xs)
    ∙ ap (λ c. cond b (cond c (Some x) (find p xs)) None) (sym f))
  where
    here : (c : Bool) → p x ≡ true → find p (filter q xs) ≡ cond c (find p xs) None
        → find p (cond c (x ∷ filter q xs) (filter q xs))
        ≡ cond c (cond (p x) (Some x) (find p xs)) None
    here true t ih = ap (λ d. cond d (Some x) (find p (filter q xs))) t
        ∙ sym (ap (λ d. cond d (Some x) (find p xs)) t)
    here false t ih = ih

    away : (c : Bool) → p x ≡ false → find p (filter q xs) ≡ cond b (find p xs) None
        → find p (cond c (x ∷ filter q xs) (filter q xs)) ≡ cond b (find p xs) None
    away true f ih = ap (λ d. cond d (Some x) (find p (filter q xs))) f ∙ ih
    away false f ih = ih

find-without : {X : Type 0} (p e : X → Bool) (xs : List X) → list_any p (filter e xs) ≡ false
    → find p (filter (λ x. not (e x)) xs) ≡ find p xs
find-without p e [] h = refl
find-without {X} p e (x ∷ xs) h =
    let left : List X = filter (λ y. not (e y)) xs in
    let P : Bool → Type 0 = λ b. list_any p (cond b (x ∷ filter e xs) (filter e xs)) ≡ false
    → find p (cond (not b) (x ∷ left) left) ≡ cond (p x) (Some x) (find p xs) in
    (elim (e x) as P [
      | true ↦ λ k. dropped (p x) k (find-without p e xs)
      | false ↦ λ k. ap (λ o. cond (p x) (Some x) o) (find-without p e xs k)
    ]) h
  where
    dropped : (b : Bool) → (b || list_any p (filter e xs)) ≡ false
        → (list_any p (filter e xs) ≡ false → find p (filter (λ y. not (e y)) xs) ≡ find p xs)
        → find p (filter (λ y. not (e y)) xs) ≡ cond b (Some x) (find p xs)
    dropped true k rest = cc
    dropped false k rest = rest k

-- ## The sessions without the copies that wait in them

abbrev bare : Session → Session
bare session = record session { waiting = [] }

find-unqueued : (id : Text) (sessions : List Session)
    → session_of (unqueued sessions) id ≡ option_map bare (session_of sessions id)
find-unqueued id sessions = find-map (has_id id) bare (λ session. refl) sessions

pub connected-unqueued : (sessions : List Session) (id : Text)
    → is_connected (unqueued sessions) id ≡ is_connected sessions id
connected-unqueued sessions id =
    ap (λ o. option_map_or is_present o false) (find-unqueued id sessions)
    ∙ same (session_of sessions id)
  where
    same : (o : Option Session)
        → option_map_or is_present (option_map bare o) false ≡ option_map_or is_present o false
    same None = refl
    same (Some session) = refl

pub user-unqueued : (sessions : List Session) (id : Text)
    → user_of (unqueued sessions) id ≡ user_of sessions id
user-unqueued sessions id =
    ap (option_and_then (λ (session : Session). session.user)) (find-unqueued id sessions)
    ∙ same (session_of sessions id)
  where
    same : (o : Option Session) → option_and_then (λ session. session.user) (option_map bare o)
        ≡ option_and_then (λ session. session.user) o
    same None = refl
    same (Some session) = refl

pub outlives-unqueued : (sessions : List Session) (id : Text)
    → outlives (unqueued sessions) id ≡ outlives sessions id
outlives-unqueued sessions id =
    ap (λ o. option_map_or outlives_connection o false) (find-unqueued id sessions)
    ∙ same (session_of sessions id)
  where
    same : (o : Option Session) → option_map_or outlives_connection (option_map bare o) false
        ≡ option_map_or outlives_connection o false
    same None = refl
    same (Some session) = refl

pub inserted-unqueued : (id : Text) (user : Option Text) (interval : ℕ) (sessions : List Session)
    → with_row session_cmp (new_session id user interval) (unqueued sessions)
    ≡ unqueued (with_row session_cmp (new_session id user interval) sessions)
unfolding with_row
inserted-unqueued id user interval sessions =
    let new : Session = new_session id user interval in
    (λ i. sym (map-filter bare (λ other. is_lt (session_cmp other new)) sessions) i
    ++ new ∷ sym (map-filter bare (λ other. is_lt (session_cmp new other)) sessions) i)
    ∙ sym (map-append bare (filter (λ other. is_lt (session_cmp other new)) sessions)
    (new ∷ filter (λ other. is_lt (session_cmp new other)) sessions))

pub removed-unqueued : (id : Text) (sessions : List Session)
    → filter (λ session. not (has_id id session)) (unqueued sessions)
    ≡ unqueued (filter (λ session. not (has_id id session)) sessions)
removed-unqueued id sessions = sym (map-filter bare (λ session. not (has_id id session)) sessions)

pub ended-unqueued : (moment : ℕ) (sessions : List Session)
    → filter (λ session. not (has_ended moment session)) (unqueued sessions)
    ≡ unqueued (filter (λ session. not (has_ended moment session)) sessions)
ended-unqueued moment sessions =
    sym (map-filter bare (λ session. not (has_ended moment session)) sessions)

-- those that have ended
pub all_ended-unqueued : (moment : ℕ) (sessions : List Session)
    → filter (has_ended moment) (unqueued sessions) ≡ unqueued (filter (has_ended moment) sessions)
all_ended-unqueued moment sessions = sym (map-filter bare (has_ended moment) sessions)

pub left-unqueued : (moment : ℕ) (id : Text) (sessions : List Session)
    → map (left_by moment id) (unqueued sessions) ≡ unqueued (map (left_by moment id) sessions)
left-unqueued moment id [] = refl
left-unqueued moment id (session ∷ sessions) =
    (λ i. one (has_id id session) i ∷ left-unqueued moment id sessions i)
  where
    one : (b : Bool) → cond b
        (record (bare session) { presence = Away (session_end moment session.interval) })
        (bare session)
        ≡ bare (cond b (record session { presence = Away (session_end moment session.interval) })
        session)
    one true = refl
    one false = refl

abbrev published : World → Message → Session → Session
published w m = waiting_after w.limits.queued w.access (subscriptions_of w) w.moment m

pub published-unqueued : (w : World) (m : Message) (sessions : List Session)
    → unqueued sessions ≡ unqueued (map (published w m) sessions)
published-unqueued w m [] = refl
published-unqueued w m (session ∷ sessions) =
    (λ i. one (waiting_copy w.limits.queued w.access (subscriptions_of w) m session) i
    ∷ published-unqueued w m sessions i)
  where
    one : (o : Option Copy) → bare session ≡ bare (option_map_or (λ copy. with_waiting session
        (record { copy = copy; deadline = deadline_of w.moment m.expiry } ∷ [])) o session)
    one None = refl
    one (Some copy) = refl

-- ## The user name of a client

abbrev name_in : Option Session → Option Text
name_in = option_and_then (λ session. session.user)

abbrev with_new : Text → Option Text → ℕ → List Session → List Session
with_new id user interval = with_row session_cmp (new_session id user interval)

found-new : (client id : Text) (user : Option Text) (interval : ℕ) (sessions : List Session)
    → session_of (with_new id user interval sessions) client
    ≡ option_or (cond (is_lt (text_cmp client id)) (session_of sessions client) None)
    (cond (same_text id client) (Some (new_session id user interval))
    (cond (is_lt (text_cmp id client)) (session_of sessions client) None))
unfolding with_row
found-new client id user interval sessions =
    let new : Session = new_session id user interval in
    find-append (has_id client) (filter (λ other. is_lt (session_cmp other new)) sessions)
    (new ∷ filter (λ other. is_lt (session_cmp new other)) sessions)
    ∙ (λ i. option_or
    (find-kept (has_id client) (λ other. is_lt (session_cmp other new))
    (is_lt (text_cmp client id))
    (λ other h. ap (λ t. is_lt (text_cmp t id)) (same_text-is other.id client h)) sessions i)
    (cond (same_text id client) (Some new)
    (find-kept (has_id client) (λ other. is_lt (session_cmp new other))
    (is_lt (text_cmp id client))
    (λ other h. ap (λ t. is_lt (text_cmp id t)) (same_text-is other.id client h)) sessions i)))

-- that of the last connect
pub user-connected : (w : World) (id : Text) (user : Option Text) (clean : Bool) (interval : ℕ)
    → is_taken w (Connect id user clean interval) ≡ true
    → user_of (next w (Connect id user clean interval)).sessions id ≡ user
unfolding after
user-connected w id user clean interval h =
    ap (λ (v : World). user_of v.sessions id) (next-taken w (Connect id user clean interval) h)
    ∙ ap name_in (found-new id id user interval w.sessions
    ∙ (λ i. option_or (cond (is_lt (tied_itself nat_list_cmp_total id i))
    (session_of w.sessions id) None)
    (cond (same_text-itself id i) (Some (new_session id user interval))
    (cond (is_lt (text_cmp id id)) (session_of w.sessions id) None))))

-- another client keeps its own
user-other : (client id : Text) (user : Option Text) (interval : ℕ) (sessions : List Session)
    → same_text client id ≡ false
    → user_of (with_new id user interval sessions) client ≡ user_of sessions client
user-other client id user interval sessions other =
    ap name_in (found-new client id user interval sessions
    ∙ (λ i. option_or (cond (is_lt (text_cmp client id)) (session_of sessions client) None)
    (cond ((text_flip id client ∙ other) i) (Some (new_session id user interval))
    (cond (is_lt (nat_list_cmp_total.antisymm id client i)) (session_of sessions client) None)))
    ∙ cases (text_cmp client id) (session_of sessions client) (is_eq-slice_cmp client id ∙ other))
  where
    none : (o : Option Session) → option_or o None ≡ o
    none None = refl
    none (Some session) = refl

    cases : (r : Ordering) (o : Option Session) → is_eq r ≡ false
        → option_or (cond (is_lt r) o None) (cond (is_lt (ordering_reverse r)) o None) ≡ o
    cases Less o h = none o
    cases Equal o h = cc
    cases Greater o h = refl

-- the client connects
abbrev pub reconnects : Request → Text → Bool
reconnects (Connect id user clean interval) client = same_text client id
reconnects request client = false

user-map : (f : Session → Session) (client : Text) (sessions : List Session)
    → ((session : Session) → (f session).id ≡ session.id)
    → ((session : Session) → (f session).user ≡ session.user)
    → user_of (map f sessions) client ≡ user_of sessions client
user-map f client sessions ids users =
    ap name_in (find-map (has_id client) f (λ session. ap (λ id. same_text id client) (ids session))
    sessions)
    ∙ same (session_of sessions client)
  where
    same : (o : Option Session) → name_in (option_map f o) ≡ name_in o
    same None = refl
    same (Some session) = users session

-- the sessions behind a disconnect
abbrev pub left_sessions : World → Text → Bool → List Session
left_sessions w id lasts =
    if lasts then map (left_by w.moment id) w.sessions
    else filter (λ session. not (has_id id session)) w.sessions

pub disconnected-sessions : (w : World) (id : Text)
    → (after w (Disconnect id)).sessions ≡ left_sessions w id (outlives w.sessions id)
unfolding after
disconnected-sessions w id =
    elim (outlives w.sessions id) as (λ b. (if b
    then record w { sessions = map (left_by w.moment id) w.sessions }
    else record w {
      sessions = filter (λ session. not (has_id id session)) w.sessions;
      rows = without_client id w.rows;
    }).sessions ≡ left_sessions w id b) [ true ↦ refl | false ↦ refl ]

left-id : (moment : ℕ) (id : Text) (session : Session) → (left_by moment id session).id ≡ session.id
left-id moment id session =
    elim (has_id id session) as (λ b. (cond b
    (record session { presence = Away (session_end moment session.interval) }) session).id
    ≡ session.id) [ true ↦ refl | false ↦ refl ]

left-user : (moment : ℕ) (id : Text) (session : Session)
    → (left_by moment id session).user ≡ session.user
left-user moment id session =
    elim (has_id id session) as (λ b. (cond b
    (record session { presence = Away (session_end moment session.interval) }) session).user
    ≡ session.user) [ true ↦ refl | false ↦ refl ]

user-left : (w : World) (id client : Text) (lasts : Bool)
    → (same_text client id && not lasts) ≡ false
    → user_of (left_sessions w id lasts) client ≡ user_of w.sessions client
user-left w id client true h =
    user-map (left_by w.moment id) client w.sessions (left-id w.moment id) (left-user w.moment id)
user-left w id client false h =
    ap name_in (find-without (has_id client) (has_id id) w.sessions
    (any-kept (has_id client) (has_id id) (same_text client id)
    (λ session k. ap (λ t. same_text t id) (same_text-is session.id client k)) w.sessions
    ∙ ap (λ b. list_any (has_id client) w.sessions && b) (sym (and_true (same_text client id)) ∙ h)
    ∙ and-false (list_any (has_id client) w.sessions)))
  where
    and_true : (b : Bool) → (b && true) ≡ b
    and_true true = refl
    and_true false = refl

-- a client whose subscription a command doesn't end keeps its user name, unless it connects
pub user-kept : (w : World) (request : Request) (client own : Text)
    → is_taken w request ≡ true → ends w request client own ≡ false
    → reconnects request client ≡ false
    → user_of (next w request).sessions client ≡ user_of w.sessions client
unfolding after
user-kept w request client own taken stays apart =
    ap (λ (v : World). user_of v.sessions client) (next-taken w request taken)
    ∙ kept request stays apart
  where
    kept : (request : Request) → ends w request client own ≡ false
        → reconnects request client ≡ false
        → user_of (after w request).sessions client ≡ user_of w.sessions client
    kept (Connect id user clean interval) e other =
        user-other client id user interval w.sessions other
    kept (Disconnect id) e other =
        ap (λ l. user_of l client) (disconnected-sessions w id)
        ∙ user-left w id client (outlives w.sessions id) e
    kept (Subscribe id text options) e other = refl
    kept (Unsubscribe id text) e other = refl
    kept (Publish m) e other =
        user-map (published w m) client w.sessions
        (λ session. id_of session (waiting_copy w.limits.queued w.access (subscriptions_of w) m
        session))
        (λ session. user_in session (waiting_copy w.limits.queued w.access (subscriptions_of w) m
        session))
      where
        id_of : (session : Session) (o : Option Copy) → (option_map_or (λ copy. with_waiting session
            (record { copy = copy; deadline = deadline_of w.moment m.expiry } ∷ [])) o session).id
            ≡ session.id
        id_of session None = refl
        id_of session (Some copy) = refl

        user_in : (session : Session) (o : Option Copy)
            → (option_map_or (λ copy. with_waiting session
            (record { copy = copy; deadline = deadline_of w.moment m.expiry } ∷ [])) o session).user
            ≡ session.user
        user_in session None = refl
        user_in session (Some copy) = refl
    kept (SetAcl text) e other = refl
    kept (Advance seconds) e other =
        ap name_in (find-without (has_id client) (has_ended (w.moment + seconds)) w.sessions e)
    kept Stat e other = refl
