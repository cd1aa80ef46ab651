-- The sessions that end, one by one, and their subscriptions.
use Rattle.std.proofs.Common.{◌≡◌, ℕ, ◌+◌, ◌<◌, Bool, true, false, true≢false, ◌&&◌, ◌||◌, cond, not}
use Rattle.std.proofs.Common.{List, [], ◌∷◌, map, Some, length, refl, sym, ◌∙◌, ap, arith}
use Rattle.std.specs.List.{filter, list_any}
use Rattle.std.specs.Prelude.{is_some, nat_lt}
use Rattle.std.proofs.Math.Bool.{and-false, or-true}
use Rattle.mq_acl.specs.AccessLists.{AccessList}
use Rattle.mq_world.specs.After.{after}
use Rattle.mq_world.specs.Clock.{last_moment}
use Rattle.mq_world.specs.Lists.{Text, same_text}
use Rattle.mq_world.specs.Refusals.{first_refusal, refusal}
use Rattle.mq_world.specs.Sessions.{has_ended, is_among}
use Rattle.mq_world.specs.World.{Advance, Session, World, has_id}
use Rattle.mq_world.specs.declared.refusal.Refusal.{Refusal}
use Rattle.mq_world.proofs.BoolLemmas.{pick}
use Rattle.mq_world.proofs.ListLemmas.{filter-kept, filter-none, length-filter-most, list_any-map}
use Rattle.mq_world.proofs.ListLemmas.{none-any}
use Rattle.mq_world.proofs.OrderLemmas.{same_text-is, text_flip}
use Rattle.mq_world.proofs.SameLemmas.{filter-swap}
use Rattle.mq_reach.specs.Connects.{closed_ended}
use Rattle.mq_reach.specs.Search.{Applies, IsWorldOf}
use Rattle.mq_reach.specs.Subscriptions.{is_taken}
use Rattle.mq_reach.specs.Tracked.{TrackedSubscription, closed_all, closed_if, is_open}
use Rattle.mq_reach.specs.Unqueued.{unqueued}
use Rattle.mq_reach.specs.declared.search.Search.{Search}
use Rattle.mq_reach.proofs.SessionLemmas.{all_ended-unqueued, ended-unqueued, user-kept}
use Rattle.mq_reach.proofs.StepLemmas.{Applies-ends, Applies-refused, Takes}

-- ## One is taken out

-- those that have not ended stay
pub stay-more : (moment : ℕ) (id : Text) (sessions : List Session)
    → is_among (filter (λ s. not (has_ended moment s)) sessions) id ≡ false
    → filter (λ s. not (has_ended moment s)) (filter (λ s. not (has_id id s)) sessions)
    ≡ filter (λ s. not (has_ended moment s)) sessions
stay-more moment id sessions only =
    let stay : List Session = filter (λ s. not (has_ended moment s)) sessions in
    filter-swap (λ s. not (has_ended moment s)) (λ s. not (has_id id s)) sessions
    ∙ filter-kept (has_id id) stay (none-any (has_id id) stay only)

any-without : (p q : Session → Bool) → ((s : Session) → q s ≡ true → p s ≡ false)
    → (ss : List Session) → list_any p (filter (λ s. not (q s)) ss) ≡ list_any p ss
any-without p q apart [] = refl
any-without p q apart (s ∷ ss) =
    let left : List Session = filter (λ s. not (q s)) ss in
    let P : Bool → Type 0 = λ b. q s ≡ b
    → list_any p (cond (not b) (s ∷ left) left) ≡ (p s || list_any p ss) in
    (elim (q s) as P [
      | true ↦ λ e. any-without p q apart ss ∙ sym (ap (λ b. b || list_any p ss) (apart s e))
      | false ↦ λ e. ap (λ b. p s || b) (any-without p q apart ss)
    ]) refl

-- a client other than that one has the same sessions that have ended
among-without : (moment : ℕ) (id client : Text) (sessions : List Session)
    → same_text client id ≡ false
    → is_among (filter (has_ended moment) (filter (λ s. not (has_id id s)) sessions)) client
    ≡ is_among (filter (has_ended moment) sessions) client
among-without moment id client sessions other =
    ap (list_any (has_id client))
    (filter-swap (has_ended moment) (λ s. not (has_id id s)) sessions)
    ∙ any-without (has_id client) (has_id id)
    (λ s e. ap (λ t. same_text t client) (same_text-is s.id id e) ∙ text_flip id client ∙ other)
    (filter (has_ended moment) sessions)

twice : (t : TrackedSubscription) (b : Bool)
    → closed_if (is_open (closed_if (is_open t.state && true) t).state && b)
    (closed_if (is_open t.state && true) t) ≡ closed_if (is_open t.state && true) t
twice t b = again (is_open t.state) refl
  where
    again : (o : Bool) → is_open t.state ≡ o
        → closed_if (is_open (closed_if (o && true) t).state && b) (closed_if (o && true) t)
        ≡ closed_if (o && true) t
    again true e = refl
    again false e = ap (λ o. closed_if (o && b) t) e

-- with a client taken out whose session has ended, the same subscriptions are closed
pub closed-more : (moment : ℕ) (id : Text) (sessions : List Session)
    (ts : List TrackedSubscription)
    → is_among (filter (has_ended moment) sessions) id ≡ true
    → map (closed_ended moment (filter (λ s. not (has_id id s)) sessions)) (map (closed_all id) ts)
    ≡ map (closed_ended moment sessions) ts
closed-more moment id sessions [] ended = refl
closed-more moment id sessions (t ∷ ts) ended =
    (λ i. each i ∷ closed-more moment id sessions ts ended i)
  where
    each : closed_ended moment (filter (λ s. not (has_id id s)) sessions) (closed_all id t)
        ≡ closed_ended moment sessions t
    each =
        let left : List Session = filter (λ s. not (has_id id s)) sessions in
        let among : List Session → Text → Bool = λ ss client.
        is_among (filter (has_ended moment) ss) client in
        pick (same_text t.shown.client id)
        (λ e. ap (λ b. closed_ended moment left (closed_if (is_open t.state && b) t)) e
        ∙ twice t (among left (closed_if (is_open t.state && true) t).shown.client)
        ∙ ap (λ b. closed_if (is_open t.state && b) t)
        (sym (ap (among sessions) (same_text-is t.shown.client id e) ∙ ended)))
        (λ e. ap (λ b. closed_ended moment left (closed_if b t))
        (ap (λ b. is_open t.state && b) e ∙ and-false (is_open t.state))
        ∙ ap (λ b. closed_if (is_open t.state && b) t)
        (among-without moment id t.shown.client sessions e))

among-all : (moment : ℕ) (id : Text) (sessions : List Session)
    → is_among (filter (has_ended moment) sessions) id ≡ true → is_among sessions id ≡ true
among-all moment id [] h = h
among-all moment id (s ∷ ss) h =
    pick (has_id id s) (λ t. ap (λ b. b || is_among ss id) t)
    (λ f. ap (λ b. has_id id s || b) (among-all moment id ss (rest (has_ended moment s) f h))
    ∙ or-true (has_id id s))
  where
    rest : (b : Bool) → has_id id s ≡ false
        → is_among (cond b (s ∷ filter (has_ended moment) ss) (filter (has_ended moment) ss)) id
        ≡ true → is_among (filter (has_ended moment) ss) id ≡ true
    rest true f k = sym (ap (λ b. b || is_among (filter (has_ended moment) ss) id) f) ∙ k
    rest false f k = k

some-less : (p : Session → Bool) (ss : List Session) → list_any p ss ≡ true
    → length (filter (λ s. not (p s)) ss) < length ss
some-less p [] h = absurd (true≢false (sym h))
some-less p (s ∷ ss) h =
    let left : List Session = filter (λ s. not (p s)) ss in
    let most = length-filter-most (λ s. not (p s)) ss in
    let P : Bool → Type 0 = λ b. (b || list_any p ss) ≡ true
    → length (cond (not b) (s ∷ left) left) < length (s ∷ ss) in
    (elim (p s) as P [
      | true ↦ λ k. omega arith
      | false ↦ λ k. (let less = some-less p ss k in omega arith)
    ]) h

-- without a client whose session has ended there are fewer sessions
pub fewer : (moment : ℕ) (id : Text) (sessions : List Session)
    → is_among (filter (has_ended moment) sessions) id ≡ true
    → length (filter (λ s. not (has_id id s)) sessions) < length sessions
fewer moment id sessions ended =
    some-less (has_id id) sessions (among-all moment id sessions ended)

-- ## None is left

-- where no session has ended, all stay
pub all-stay : (moment : ℕ) (sessions : List Session)
    → list_any (has_ended moment) sessions ≡ false
    → filter (λ s. not (has_ended moment s)) sessions ≡ sessions
all-stay moment sessions none =
    filter-kept (has_ended moment) sessions (none-any (has_ended moment) sessions none)

-- and no subscription is closed
pub none-closed : (moment : ℕ) (sessions : List Session) (ts : List TrackedSubscription)
    → list_any (has_ended moment) sessions ≡ false
    → map (closed_ended moment sessions) ts ≡ ts
none-closed moment sessions [] none = refl
none-closed moment sessions (t ∷ ts) none =
    (λ i. (ap (λ (l : List Session). closed_if (is_open t.state && is_among l t.shown.client) t)
    (filter-none (has_ended moment) sessions (none-any (has_ended moment) sessions none))
    ∙ ap (λ b. closed_if b t) (and-false (is_open t.state))) i
    ∷ none-closed moment sessions ts none i)

-- ## The clock moves

taken-advance : (w : World) (seconds : ℕ)
    → is_taken w (Advance seconds) ≡ not (nat_lt last_moment (w.moment + seconds))
unfolding refusal
taken-advance w seconds = one (nat_lt last_moment (w.moment + seconds)) _
  where
    one : (a : Bool) (r : Refusal) → not (is_some (first_refusal ((a, r) ∷ []))) ≡ not a
    one true r = refl
    one false r = refl

pub advance-refused : (list : AccessList) (seconds : ℕ) (s : Search)
    → nat_lt last_moment (s.clock.moment + seconds) ≡ true
    → Applies list (Some (Advance seconds)) s s
advance-refused list seconds s far =
    Applies-refused list (Advance seconds) s
    (λ w is. taken-advance w seconds
    ∙ ap (λ (m : ℕ). not (nat_lt last_moment (m + seconds))) (sym is.moment) ∙ ap not far)

pub advance-taken : (list : AccessList) (seconds : ℕ) (old new : Search)
    → nat_lt last_moment (old.clock.moment + seconds) ≡ false
    → new.clock.moment ≡ old.clock.moment + seconds
    → new.sessions ≡ filter (λ session. not (has_ended new.clock.moment session)) old.sessions
    → new.tracked ≡ map (closed_ended new.clock.moment old.sessions) old.tracked
    → new.counts ≡ old.counts
    → Applies list (Some (Advance seconds)) old new
unfolding after
advance-taken list seconds old new near moment sessions tracked counts =
    Applies-ends list (Advance seconds) old new (closed_ended new.clock.moment old.sessions) refl
    takes
    (λ w is. record {
      sessions = sessions
          ∙ ap (filter (λ session. not (has_ended new.clock.moment session))) is.sessions
          ∙ ended-unqueued new.clock.moment w.sessions
          ∙ ap (λ (m : ℕ). unqueued (filter (λ session. not (has_ended m session)) w.sessions))
          (now w is);
      moment = now w is;
    })
    tracked
    (λ w is t. ap (λ b. closed_if (is_open t.state && b) t)
    (ap (λ (ss : List Session). is_among (filter (has_ended new.clock.moment) ss) t.shown.client)
    is.sessions
    ∙ ap (λ (ss : List Session). is_among ss t.shown.client)
    (all_ended-unqueued new.clock.moment w.sessions)
    ∙ list_any-map (λ (session : Session). record session { waiting = [] })
    (has_id t.shown.client) (filter (has_ended new.clock.moment) w.sessions)
    ∙ ap (λ (m : ℕ). is_among (filter (has_ended m) w.sessions) t.shown.client) (now w is)))
    (λ w is client own e. user-kept w (Advance seconds) client own (takes w is) e refl) counts
  where
    now : (w : World) → IsWorldOf w old → new.clock.moment ≡ w.moment + seconds
    now w is = moment ∙ ap (λ (m : ℕ). m + seconds) is.moment

    takes : Takes (Advance seconds) old
    takes w is = taken-advance w seconds
        ∙ ap (λ (m : ℕ). not (nat_lt last_moment (m + seconds))) (sym is.moment) ∙ ap not near
