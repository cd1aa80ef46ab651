-- What is known of each subscription, and of those that are tracked, as one more command is taken in.
use Rattle.std.proofs.Common.{◌≡◌, Bool, true, false, cond, ◌&&◌, not, List, [], ◌∷◌, ◌++◌, map}
use Rattle.std.proofs.Common.{Option, Some, None, Contains, refl, sym, ◌∙◌, ap, subst, ◌⊎◌, inl, inr}
use Rattle.std.specs.Prelude.{if◌then◌else◌}
use Rattle.std.specs.Bool.{MatchBool}
use Rattle.std.specs.List.{AllByRecursion, AllZip, cons_option}
use Rattle.std.proofs.lemmas.List.Elements.{Contains-append_left, Contains-push}
use Rattle.std.proofs.lemmas.List.Elements.{Contains-push_cases}
use Rattle.mq_topic.specs.Texts.{filter_part}
use Rattle.mq_acl.specs.AccessLists.{AccessList}
use Rattle.mq_world.specs.After.{next}
use Rattle.mq_world.specs.Lists.{Text, same_text}
use Rattle.mq_world.specs.Sessions.{user_of}
use Rattle.mq_world.specs.World.{Request, World}
use Rattle.mq_world.proofs.BoolLemmas.{pick}
use Rattle.mq_reach.specs.Reach.{Reads, ReadsNone}
use Rattle.mq_reach.specs.Search.{AreTracked, IsTracked}
use Rattle.mq_reach.specs.Subscriptions.{Kept, is_taken, stays}
use Rattle.mq_reach.specs.Subscriptions as spec
use Rattle.mq_reach.specs.Tracked.{IsAsked, TrackedSubscription, Where, closed_if, is_open}
use Rattle.mq_reach.specs.Tracked.{is_open_of, shown_of, unreached_of}
use Rattle.mq_reach.specs.Unreached.{AreUnreached, IsReached, IsUnreached}
use Rattle.mq_reach.specs.declared.tracked.State.{State}
use Rattle.mq_reach.specs.declared.tracked.State.TheVariants.{Open, Closed, Reached}
use Rattle.mq_reach.proofs.GrownLemmas.{IsSound, grown}
use Rattle.mq_reach.proofs.StayLemmas.{ends, next-refused, stays-refused, stays-taken}
use Rattle.mq_reach.proofs.KeyLemmas.{key_of}

-- ## What more commands say of one

reached-more : (list : AccessList) (kept : Kept) (user : Option Text) → IsReached list kept
    → IsReached list (record kept { users = kept.users ++ user ∷ [] })
reached-more list kept user r = record {
  user = r.user;
  had = Contains-append_left kept.users (user ∷ []) r.user r.had;
  topic = r.topic;
  valid = r.valid;
  reads = r.reads;
}

reached-closed : (list : AccessList) (kept : Kept) → IsReached list kept
    → IsReached list (record kept { is_open = false })
reached-closed list kept r = record {
  user = r.user;
  had = r.had;
  topic = r.topic;
  valid = r.valid;
  reads = r.reads;
}

-- one that is reached stays so
pub reached-grown : (list : AccessList) (w : World) (command : Option Request) (kept : Kept)
    → IsReached list kept → IsReached list (grown w command kept)
reached-grown list w None kept r = r
reached-grown list w (Some request) kept r =
    let user : Option Text = user_of (next w request).sessions kept.shown.client in
    elim (kept.is_open && stays (key_of kept.shown) w request) as (λ b. IsReached list
    (cond b (record kept { users = kept.users ++ user ∷ [] })
    (record kept { is_open = false })))
    [ true ↦ reached-more list kept user r | false ↦ reached-closed list kept r ]

-- one that is unreached stays so under one more user name that doesn't let it read
unreached-more : (list : AccessList) (kept : Kept) (user : Option Text) → IsUnreached list kept
    → ReadsNone list kept.shown.client user (filter_part kept.shown.filter)
    → IsUnreached list (record kept { users = kept.users ++ user ∷ [] })
unreached-more list kept user unreached none = λ other has.
    elim (Contains-push_cases kept.users user other has)
    as (λ _. ReadsNone list kept.shown.client other (filter_part kept.shown.filter)) [
      | inl h ↦ unreached other h
      | inr e ↦ subst (λ (u : Option Text). ReadsNone list kept.shown.client u
          (filter_part kept.shown.filter)) e none
    ]

-- ## One step

-- how it is with a subscription in this state
abbrev IsState : AccessList → Kept → State → Type 0
IsState list kept state = ((state ≡ Reached) × IsReached list kept)
    ⊎ ((state ≡ (if kept.is_open then Open else Closed)) × IsUnreached list kept)

abbrev tracked_at : Kept → State → TrackedSubscription
tracked_at kept state = record { shown = kept.shown; state = state }

grown-closed : (w : World) (request : Request) (kept : Kept)
    → (kept.is_open && stays (key_of kept.shown) w request) ≡ false
    → grown w (Some request) kept ≡ record kept { is_open = false }
grown-closed w request kept e =
    ap (λ b. cond b (record kept {
      users = kept.users ++ user_of (next w request).sessions kept.shown.client ∷ [];
    }) (record kept { is_open = false })) e

pub grown-open : (w : World) (request : Request) (kept : Kept)
    → (kept.is_open && stays (key_of kept.shown) w request) ≡ true
    → grown w (Some request) kept ≡ record kept {
      users = kept.users ++ user_of (next w request).sessions kept.shown.client ∷ [];
    }
grown-open w request kept e =
    ap (λ b. cond b (record kept {
      users = kept.users ++ user_of (next w request).sessions kept.shown.client ∷ [];
    }) (record kept { is_open = false })) e

-- a subscription that its session doesn't keep any more stays as it is
stays-closed : (list : AccessList) (w : World) (request : Request) (kept : Kept) (state : State)
    → kept.is_open ≡ false → state ≡ (if kept.is_open then Open else Closed) → IsUnreached list kept
    → IsTracked list (grown w (Some request) kept) (tracked_at kept state)
stays-closed list w request kept state shut e unreached =
    let closed : state ≡ Closed = e ∙ ap (λ b. cond b Open Closed) shut in
    subst (λ (k : Kept). IsTracked list k (tracked_at kept state))
    (sym (grown-closed w request kept
    (ap (λ b. b && stays (key_of kept.shown) w request) shut)))
    (refl, inr (closed, unreached))

-- one that its session keeps is open, and unreached under one more user name
stays-open : (list : AccessList) (w : World) (request : Request) (kept : Kept) (state : State)
    → (kept.is_open && stays (key_of kept.shown) w request) ≡ true
    → state ≡ (if kept.is_open then Open else Closed) → IsUnreached list kept
    → ReadsNone list kept.shown.client (user_of (next w request).sessions kept.shown.client)
    (filter_part kept.shown.filter)
    → IsTracked list (grown w (Some request) kept) (tracked_at kept state)
stays-open list w request kept state still e unreached none =
    subst (λ (k : Kept). IsTracked list k (tracked_at kept state))
    (sym (grown-open w request kept still)) (
      refl,
      inr (
        e,
        unreached-more list kept
            (user_of (next w request).sessions kept.shown.client) unreached none,
      ),
    )

-- one that its session keeps no longer is closed
is_closed : (list : AccessList) (w : World) (request : Request) (kept : Kept)
    → (kept.is_open && stays (key_of kept.shown) w request) ≡ false → IsUnreached list kept
    → IsTracked list (grown w (Some request) kept) (tracked_at kept Closed)
is_closed list w request kept shut unreached =
    subst (λ (k : Kept). IsTracked list k (tracked_at kept Closed))
    (sym (grown-closed w request kept shut))
    (refl, inr (refl, unreached))

pub grown-shown : (w : World) (command : Option Request) (kept : Kept)
    → (grown w command kept).shown ≡ kept.shown
grown-shown w None kept = refl
grown-shown w (Some request) kept =
    elim (kept.is_open && stays (key_of kept.shown) w request) as (λ b. (cond b (record kept {
      users = kept.users ++ user_of (next w request).sessions kept.shown.client ∷ [];
    }) (record kept { is_open = false })).shown ≡ kept.shown) [ true ↦ refl | false ↦ refl ]

-- one that is reached stays as it is
stays-reached : (list : AccessList) (w : World) (request : Request) (kept : Kept) (state : State)
    → state ≡ Reached → IsReached list kept
    → IsTracked list (grown w (Some request) kept) (tracked_at kept state)
stays-reached list w request kept state e r =
    (sym (grown-shown w (Some request) kept), inl (e, reached-grown list w (Some request) kept r))

-- its client's user name is one that its session had
same_user : (list : AccessList) (w : World) (request : Request) (kept : Kept) → IsSound w kept
    → kept.is_open ≡ true → IsUnreached list kept
    → user_of (next w request).sessions kept.shown.client ≡ user_of w.sessions kept.shown.client
    → ReadsNone list kept.shown.client (user_of (next w request).sessions kept.shown.client)
    (filter_part kept.shown.filter)
same_user list w request kept sound still unreached same =
    unreached (user_of (next w request).sessions kept.shown.client)
    (subst (λ (u : Option Text). Contains kept.users u) (sym same) (sound.current still))

-- a command that isn't taken leaves it
pub refused-state : (list : AccessList) (w : World) (request : Request) (kept : Kept)
    (state : State) → IsSound w kept → is_taken w request ≡ false → IsState list kept state
    → IsTracked list (grown w (Some request) kept) (tracked_at kept state)
refused-state list w request kept state sound refused (inl h) =
    stays-reached list w request kept state h.0 h.1
refused-state list w request kept state sound refused (inr h) =
    pick kept.is_open
    (λ still. stays-open list w request kept state
    (ap (λ b. b && stays (key_of kept.shown) w request) still
    ∙ stays-refused (key_of kept.shown) w request refused (sound.there still)) h.0 h.1
    (same_user list w request kept sound still h.1
    (ap (λ (v : World). user_of v.sessions kept.shown.client) (next-refused w request refused))))
    (λ shut. stays-closed list w request kept state shut h.0 h.1)

-- one that is taken, under which the client has the user name that it had, closes it where it ends it
pub kept-state : (list : AccessList) (w : World) (request : Request) (kept : Kept) (state : State)
    → IsSound w kept → is_taken w request ≡ true
    → (ends w request kept.shown.client kept.shown.filter ≡ false
    → user_of (next w request).sessions kept.shown.client ≡ user_of w.sessions kept.shown.client)
    → IsState list kept state
    → IsTracked list (grown w (Some request) kept)
    (closed_if (is_open state && ends w request kept.shown.client kept.shown.filter)
    (tracked_at kept state))
kept-state list w request kept state sound taken same (inl h) =
    let over : Bool = ends w request kept.shown.client kept.shown.filter in
    subst (λ (s : State). IsTracked list (grown w (Some request) kept)
    (closed_if (is_open s && over) (tracked_at kept s))) (sym h.0)
    (stays-reached list w request kept Reached refl h.1)
kept-state list w request kept state sound taken same (inr h) =
    let over : Bool = ends w request kept.shown.client kept.shown.filter in
    let G : State → Type 0 = λ s. IsTracked list (grown w (Some request) kept)
    (closed_if (is_open s && over) (tracked_at kept s)) in
    pick kept.is_open
    (λ still. (let lasts : (kept.is_open && stays (key_of kept.shown) w request) ≡ not over =
    ap (λ b. b && stays (key_of kept.shown) w request) still
    ∙ stays-taken kept.shown w request taken sound.valid (sound.there still) in
    subst G (sym (h.0 ∙ ap (λ b. cond b Open Closed) still))
    (pick over
    (λ e. subst (λ b. IsTracked list (grown w (Some request) kept)
    (closed_if b (tracked_at kept Open))) (sym e)
    (is_closed list w request kept (lasts ∙ ap not e) h.1))
    (λ e. subst (λ b. IsTracked list (grown w (Some request) kept)
    (closed_if b (tracked_at kept Open))) (sym e)
    (stays-open list w request kept Open (lasts ∙ ap not e)
    (sym (ap (λ b. cond b Open Closed) still)) h.1
    (same_user list w request kept sound still h.1 (same e)))))))
    (λ shut. (let closed : state ≡ Closed = h.0 ∙ ap (λ b. cond b Open Closed) shut in
    subst G (sym closed)
    (stays-closed list w request kept Closed shut
    (sym (ap (λ b. cond b Open Closed) shut)) h.1)))

-- one that is taken, and under which the client has this user name, leaves it, or it is reached under it
pub asked-state : (list : AccessList) (w : World) (request : Request) (client : Text)
    (user : Option Text) (kept : Kept) (state : State) (new : TrackedSubscription)
    → IsSound w kept → is_taken w request ≡ true
    → ends w request kept.shown.client kept.shown.filter ≡ false
    → (same_text kept.shown.client client ≡ true
    → user_of (next w request).sessions kept.shown.client ≡ user)
    → (same_text kept.shown.client client ≡ false
    → user_of (next w request).sessions kept.shown.client ≡ user_of w.sessions kept.shown.client)
    → Where (is_open_of client) (IsAsked list user) (tracked_at kept state) new
    → IsState list kept state → IsTracked list (grown w (Some request) kept) new
asked-state list w request client user kept state new sound taken lasts its other asked (inl h) =
    let none : is_open_of client (tracked_at kept state) ≡ false =
    ap (λ s. is_open s && same_text kept.shown.client client) h.0 in
    subst (λ (t : TrackedSubscription). IsTracked list (grown w (Some request) kept) t)
    (sym (subst (λ b. MatchBool b (IsAsked list user (tracked_at kept state) new)
    (new ≡ tracked_at kept state)) none asked))
    (stays-reached list w request kept state h.0 h.1)
asked-state list w request client user kept state new sound taken lasts its other asked (inr h) =
    pick kept.is_open
    (λ still. (let stands : (kept.is_open && stays (key_of kept.shown) w request) ≡ true =
    ap (λ b. b && stays (key_of kept.shown) w request) still
    ∙ stays-taken kept.shown w request taken sound.valid (sound.there still) ∙ ap not lasts in
    let is : state ≡ Open = h.0 ∙ ap (λ b. cond b Open Closed) still in
    let same : is_open_of client (tracked_at kept state) ≡ same_text kept.shown.client client =
    ap (λ s. is_open s && same_text kept.shown.client client) is in
    pick (same_text kept.shown.client client)
    (λ e. open_asked stands (its e)
    (subst (λ b. MatchBool b (IsAsked list user (tracked_at kept state) new)
    (new ≡ tracked_at kept state)) (same ∙ e) asked))
    (λ e. left (subst (λ b. MatchBool b (IsAsked list user (tracked_at kept state) new)
    (new ≡ tracked_at kept state)) (same ∙ e) asked)
    (stays-open list w request kept state stands h.0 h.1
    (same_user list w request kept sound still h.1 (other e))))))
    (λ shut. (let none : is_open_of client (tracked_at kept state) ≡ false =
    ap (λ s. is_open s && same_text kept.shown.client client)
    (h.0 ∙ ap (λ b. cond b Open Closed) shut) in
    left (subst (λ b. MatchBool b (IsAsked list user (tracked_at kept state) new)
    (new ≡ tracked_at kept state)) none asked)
    (stays-closed list w request kept state shut h.0 h.1)))
  where
    left : new ≡ tracked_at kept state
        → IsTracked list (grown w (Some request) kept) (tracked_at kept state)
        → IsTracked list (grown w (Some request) kept) new
    left e t = subst (λ (u : TrackedSubscription). IsTracked list (grown w (Some request) kept) u)
        (sym e) t

    open_asked : (kept.is_open && stays (key_of kept.shown) w request) ≡ true
        → user_of (next w request).sessions kept.shown.client ≡ user
        → IsAsked list user (tracked_at kept state) new
        → IsTracked list (grown w (Some request) kept) new
    open_asked stands now (inl none) = left none.0
        (stays-open list w request kept state stands h.0 h.1
        (subst (λ (u : Option Text). ReadsNone list kept.shown.client u
        (filter_part kept.shown.filter)) (sym now) none.1))
    open_asked stands now (inr some) =
        let has : Option Text = user_of (next w request).sessions kept.shown.client in
        subst (λ (k : Kept). IsTracked list k new) (sym (grown-open w request kept stands)) (
          ap (λ (t : TrackedSubscription). t.shown) some.0,
          inl (
            ap (λ (t : TrackedSubscription). t.state) some.0,
            record {
              user = has;
              had = Contains-push kept.users has;
              topic = some.1.0;
              valid = some.1.1;
              reads = subst (λ (u : Option Text). Reads list kept.shown.client u
                  (filter_part kept.shown.filter) some.1.0) (sym now) some.1.2;
            },
          ),
        )

-- ## Of all of them

-- where each step leaves one tracked, all are
pub AreTracked-zip : (list : AccessList) (g : Kept → Kept) (P : Kept → Type 0)
    (R : TrackedSubscription → TrackedSubscription → Type 0)
    → ((kept : Kept) → IsReached list kept → IsReached list (g kept))
    → ((kept : Kept) (t u : TrackedSubscription) → P kept → R t u → IsTracked list kept t
    → IsTracked list (g kept) u)
    → (all : List Kept) (ts us : List TrackedSubscription) → AllByRecursion P all
    → AllZip R ts us → AreTracked list all ts → AreTracked list (map g all) us
AreTracked-zip list g P R reached step [] ts us ps z are =
    none us (subst (λ l. AllZip R l us) are z)
  where
    none : (us : List TrackedSubscription) → AllZip R [] us → us ≡ []
    none [] z = refl
    none (u ∷ us) z = absurd z
AreTracked-zip list g P R reached step (kept ∷ all) ts us ps z (inl h) =
    inl (reached kept h.0, AreTracked-zip list g P R reached step all ts us ps.1 z h.1)
AreTracked-zip list g P R reached step (kept ∷ all) ts us ps z (inr h) =
    some us (subst (λ l. AllZip R l us) h.2 z)
    (λ vs w. AreTracked-zip list g P R reached step all h.1 vs ps.1 w h.4)
  where
    some : (us : List TrackedSubscription) → AllZip R (h.0 ∷ h.1) us
        → ((vs : List TrackedSubscription) → AllZip R h.1 vs → AreTracked list (map g all) vs)
        → AreTracked list (map g (kept ∷ all)) us
    some [] z rest = absurd z
    some (u ∷ us) z rest = inr (u, us, refl, step kept h.0 u ps.0 z.0 h.3, rest us z.1)

-- those of two lists are tracked where those of each are
pub AreTracked-append : (list : AccessList) (all more : List Kept)
    (ts us : List TrackedSubscription) → AreTracked list all ts → AreTracked list more us
    → AreTracked list (all ++ more) (ts ++ us)
AreTracked-append list [] more ts us are others =
    subst (λ l. AreTracked list more (l ++ us)) (sym are) others
AreTracked-append list (kept ∷ all) more ts us (inl h) others =
    inl (h.0, AreTracked-append list all more ts us h.1 others)
AreTracked-append list (kept ∷ all) more ts us (inr h) others =
    inr (
      h.0,
      h.1 ++ us,
      ap (λ l. l ++ us) h.2,
      h.3,
      AreTracked-append list all more h.1 us h.4 others,
    )

open_shown : (shown : spec.Subscription) (b : Bool)
    → shown_of (record { shown = shown; state = cond b Open Closed }) ≡ Some shown
open_shown shown true = refl
open_shown shown false = refl

-- those that are shown are the ones unreached
pub AreUnreached-shown : (list : AccessList) (all : List Kept) (ts : List TrackedSubscription)
    → AreTracked list all ts → AreUnreached list all (unreached_of ts)
AreUnreached-shown list [] ts are = ap unreached_of are
AreUnreached-shown list (kept ∷ all) ts (inl h) = inl (h.0, AreUnreached-shown list all ts h.1)
AreUnreached-shown list (kept ∷ all) ts (inr h) =
    let rest : AreUnreached list all (unreached_of h.1) = AreUnreached-shown list all h.1 h.4 in
    subst (λ l. AreUnreached list (kept ∷ all) (unreached_of l)) (sym h.2) (shown h.3.1 rest)
  where
    shown : IsState list kept h.0.state → AreUnreached list all (unreached_of h.1)
        → AreUnreached list (kept ∷ all) (cons_option (shown_of h.0) (unreached_of h.1))
    shown (inl r) rest =
        subst (λ o. AreUnreached list (kept ∷ all) (cons_option o (unreached_of h.1)))
        (sym (ap (λ s. shown_of (record { shown = h.0.shown; state = s })) r.0)) (inl (r.1, rest))
    shown (inr v) rest =
        subst (λ o. AreUnreached list (kept ∷ all) (cons_option o (unreached_of h.1)))
        (sym (ap (λ s. shown_of (record { shown = h.0.shown; state = s })) v.0
        ∙ open_shown h.0.shown kept.is_open ∙ ap (λ t. Some t) h.3.0))
        (inr (v.1, (unreached_of h.1, refl, rest)))
