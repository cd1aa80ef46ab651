-- A client connects.
use Rattle.std.proofs.Common.{◌≡◌, ℕ, Bool, true, false, true≢false, ◌&&◌, ◌||◌, not, List, []}
use Rattle.std.proofs.Common.{◌∷◌, ◌++◌, map, Option, Some, refl, sym, ◌∙◌, ap, subst, inl, inr}
use Rattle.std.proofs.Common.{◌==◌, ◌⊎◌}
use Rattle.std.specs.Prelude.{if◌then◌else◌}
use Rattle.std.specs.Bool.{MatchBool}
use Rattle.std.specs.List.{AllByRecursion, list_all, list_any}
use Rattle.std.proofs.Math.Bool.{and-false, or-true}
use Rattle.std.proofs.lemmas.Bool.{and_from, and_parts, not-true, or_cases}
use Rattle.std.proofs.lemmas.List.Folds.{list_all-append}
use Rattle.mq_acl.specs.AccessLists.{AccessList}
use Rattle.mq_world.specs.After.{after, next}
use Rattle.mq_world.specs.Lists.{Text, same_text, with_row}
use Rattle.mq_world.specs.Refusals.{is_client_id, is_user_name}
use Rattle.mq_world.specs.Sessions.{new_session, resumes, user_of}
use Rattle.mq_world.specs.World.{Connect, Request, Session, World, session_cmp}
use Rattle.mq_world.specs.declared.clock.Clock.{Clock}
use Rattle.mq_world.proofs.BoolLemmas.{pick}
use Rattle.mq_world.proofs.OrderLemmas.{same_text-is}
use Rattle.mq_reach.specs.Connects.{Connects}
use Rattle.mq_reach.specs.Faults.{FailsBy, IsFaultAmong, IsFaultOpen, has_long_at, is_long_at}
use Rattle.mq_reach.specs.Faults.{is_long_now, is_short_question}
use Rattle.mq_reach.specs.Search.{Applies, AreTracked, IsTracked, IsWorldOf}
use Rattle.mq_reach.specs.Subscriptions.{Kept, commands_of, is_taken, stays, subscriptions}
use Rattle.mq_reach.specs.Subscriptions.{world_of}
use Rattle.mq_reach.specs.Subscriptions as spec
use Rattle.mq_reach.specs.Unreached.{IsReached, IsUnreached}
use Rattle.mq_reach.specs.Tracked.{Asks, TrackedSubscription, closed_all, closed_if, is_open}
use Rattle.mq_reach.specs.Tracked.{is_open_of}
use Rattle.mq_reach.specs.declared.question.SearchFault.{SearchFault}
use Rattle.mq_reach.specs.declared.question.SearchFault.TheVariants as search
use Rattle.mq_reach.specs.declared.search.Search.{Search}
use Rattle.mq_reach.specs.declared.tracked.State.TheVariants.{Open, Closed, Reached}
use Rattle.mq_reach.proofs.GrownLemmas.{IsSound, all_sound, grown}
use Rattle.mq_reach.proofs.SessionLemmas.{inserted-unqueued, user-connected, user-kept}
use Rattle.mq_reach.proofs.SessionLemmas.{user-unqueued}
use Rattle.mq_reach.proofs.StayLemmas.{ends, stays-taken, taken-connect}
use Rattle.mq_reach.proofs.KeyLemmas.{key_of}
use Rattle.mq_reach.proofs.StepLemmas.{Applies-ends, Applies-refused, Takes, asked-all}
use Rattle.mq_reach.proofs.StepLemmas.{none_made, taken-world}
use Rattle.mq_reach.proofs.AmongLemmas.{grown_fault}
use Rattle.mq_reach.proofs.CommandLemmas.{map-same, outlives-is}
use Rattle.mq_reach.proofs.TrackLemmas.{grown-open}

-- ## What the search does

pub connect-refused : (list : AccessList) (id : Text) (user : Option Text) (clean : Bool)
    (interval : ℕ) (s : Search) → (is_client_id id && is_user_name user) ≡ false
    → Applies list (Some (Connect id user clean interval)) s s
connect-refused list id user clean interval s e =
    Applies-refused list (Connect id user clean interval) s
    (λ w is. taken-connect w id user clean interval ∙ e)

module _ (list : AccessList) (id : Text) (user : Option Text) (clean : Bool) (interval : ℕ)
    (old : Search) (valid : (is_client_id id && is_user_name user) ≡ true) where
  abbrev request : Request
  request = Connect id user clean interval

  takes : Takes request old
  takes w is = taken-connect w id user clean interval ∙ valid

  resumes-is : (w : World) → IsWorldOf w old → resumes old.sessions id clean
      ≡ resumes w.sessions id clean
  resumes-is w is = ap (λ b. not clean && b) (outlives-is old id w is)

  connected-world : (new : Search)
      → new.sessions ≡ with_row session_cmp (new_session id user interval) old.sessions
      → new.clock ≡ old.clock → (w : World) → IsWorldOf w old → IsWorldOf (after w request) new
  unfolding after
  connected-world new sessions clock w is = record {
    sessions = sessions ∙ ap (with_row session_cmp (new_session id user interval)) is.sessions
        ∙ inserted-unqueued id user interval w.sessions;
    moment = ap (λ (c : Clock). c.moment) clock ∙ is.moment;
  }

  lasts : (w : World) → IsWorldOf w old → resumes old.sessions id clean ≡ true
      → (client own : Text) → ends w request client own ≡ false
  lasts w is e client own =
      ap (λ b. same_text client id && not b) (sym (resumes-is w is) ∙ e)
      ∙ and-false (same_text client id)

  its_user : (w : World) → IsWorldOf w old
      → user_of (next w request).sessions id ≡ user
  its_user w is = user-connected w id user clean interval (takes w is)

  -- the session ends, and no subscription of the client stays
  connect-ends : (new : Search) → resumes old.sessions id clean ≡ false
      → new.sessions ≡ with_row session_cmp (new_session id user interval) old.sessions
      → new.clock ≡ old.clock → new.tracked ≡ map (closed_all id) old.tracked
      → new.counts ≡ old.counts → Applies list (Some request) old new
  connect-ends new e sessions clock tracked counts =
      Applies-ends list request old new (closed_all id) refl takes
      (connected-world new sessions clock) tracked
      (λ w is t. sym (ap (λ b. closed_if (is_open t.state && (same_text t.shown.client id && not b))
      t) (sym (resumes-is w is) ∙ e)
      ∙ ap (λ b. closed_if (is_open t.state && b) t) (and_true (same_text t.shown.client id))))
      (λ w is client own k. user-kept w request client own (takes w is) k
      (sym (ap (λ b. same_text client id && not b) (sym (resumes-is w is) ∙ e)
      ∙ and_true (same_text client id)) ∙ k)) counts
    where
      and_true : (b : Bool) → (b && true) ≡ b
      and_true true = refl
      and_true false = refl

  -- the client comes back under the user name that it had
  connect-same : (new : Search) → resumes old.sessions id clean ≡ true
      → user_of old.sessions id ≡ user
      → new.sessions ≡ with_row session_cmp (new_session id user interval) old.sessions
      → new.clock ≡ old.clock → new.tracked ≡ old.tracked
      → new.counts ≡ old.counts → Applies list (Some request) old new
  connect-same new e had sessions clock tracked counts =
      Applies-ends list request old new (λ t. t) refl takes (connected-world new sessions clock)
      (tracked ∙ sym (map-same old.tracked))
      (λ w is t. sym (ap (λ b. closed_if (is_open t.state && b) t)
      (lasts w is e t.shown.client t.shown.filter)
      ∙ ap (λ b. closed_if b t) (and-false (is_open t.state))))
      (λ w is client own k. pick (same_text client id)
      (λ t. (let same : client ≡ id = same_text-is client id t in
      ap (λ (c : Text). user_of (next w request).sessions c) same ∙ its_user w is
      ∙ sym (ap (λ (c : Text). user_of w.sessions c) same
      ∙ sym (ap (λ (ss : List Session). user_of ss id) is.sessions
      ∙ user-unqueued w.sessions id) ∙ had)))
      (λ f. user-kept w request client own (takes w is) k f)) counts

  -- the client comes back, and is asked about
  connect-asks : (new : Search) → resumes old.sessions id clean ≡ true
      → Asks list id user old.tracked new.tracked
      → new.sessions ≡ with_row session_cmp (new_session id user interval) old.sessions
      → new.clock ≡ old.clock
      → new.counts ≡ old.counts → Applies list (Some request) old new
  connect-asks new e asks sessions clock counts = record {
    follows = λ w is. taken-world w request new (takes w is) (connected-world new sessions clock w is);
    tracked = λ lines line says is are count.
        (let w : World = world_of lines in
        none_made list lines line (Some request) new.tracked says refl
        (asked-all list w request id user (subscriptions lines) old.tracked new.tracked
        (takes w is) (lasts w is e) (its_user w is)
        (λ its f. user-kept w request its [] (takes w is) (lasts w is e its []) f)
        asks (all_sound lines) are));
    counts = counts;
  }

  connect-any : (new : Search) (b : Bool) → resumes old.sessions id clean ≡ b
      → MatchBool b (((user_of old.sessions id ≡ user) × (new.tracked ≡ old.tracked))
      ⊎ Asks list id user old.tracked new.tracked)
      (new.tracked ≡ map (closed_all id) old.tracked)
      → new.sessions ≡ with_row session_cmp (new_session id user interval) old.sessions
      → new.clock ≡ old.clock
      → new.counts ≡ old.counts → Applies list (Some request) old new
  connect-any new true e (inl h) sessions clock counts =
      connect-same new e h.0 sessions clock h.1 counts
  connect-any new true e (inr h) sessions clock counts =
      connect-asks new e h sessions clock counts
  connect-any new false e h sessions clock counts =
      connect-ends new e sessions clock h counts

-- a connect that is taken
pub connect-taken : (list : AccessList) (id : Text) (user : Option Text) (clean : Bool)
    (interval : ℕ) (old new : Search) → (is_client_id id && is_user_name user) ≡ true
    → Connects list id user clean old.sessions old.tracked new.tracked
    → new.sessions ≡ with_row session_cmp (new_session id user interval) old.sessions
    → new.clock ≡ old.clock
    → new.counts ≡ old.counts → Applies list (Some (Connect id user clean interval)) old new
connect-taken list id user clean interval old new valid connects sessions clock counts =
    connect-any list id user clean interval old valid new (resumes old.sessions id clean) refl
    connects sessions clock counts

-- ## What is shown where a question is too long

-- a subscription that is asked about is too long with one more user name
long_more : (list : AccessList) (line : ℕ) (kept : Kept) (user : Option Text)
    → (kept.shown.line == line) ≡ true
    → is_short_question list kept.shown user ≡ false
    → is_long_at list line (record kept { users = kept.users ++ user ∷ [] }) ≡ true
long_more list line kept user same long =
    and_from (kept.shown.line == line)
    (not (list_all (is_short_question list kept.shown) (kept.users ++ user ∷ []))) same
    (ap not (list_all-append (is_short_question list kept.shown) kept.users (user ∷ [])
    ∙ ap (λ b. list_all (is_short_question list kept.shown) kept.users && (b && true)) long
    ∙ and-false (list_all (is_short_question list kept.shown) kept.users)))

module _ (list : AccessList) (w : World) (request : Request) (client : Text) (user : Option Text)
    (taken : is_taken w request ≡ true)
    (lasts : (its own : Text) → ends w request its own ≡ false)
    (its_user : user_of (next w request).sessions client ≡ user) where
  one_long : (line : ℕ) (kept : Kept) (t : TrackedSubscription) → IsSound w kept
      → IsTracked list kept t
      → is_long_now list line client user t ≡ true
      → is_long_at list line (grown w (Some request) kept) ≡ true
  one_long line kept t sound is long =
      let front = and_parts (is_open_of client t)
      ((t.shown.line == line) && not (is_short_question list t.shown user)) long in
      let back = and_parts (t.shown.line == line) (not (is_short_question list t.shown user))
      front.1 in
      let both = and_parts (is_open t.state) (same_text t.shown.client client) front.0 in
      let its : kept.shown.client ≡ client =
      sym (ap (λ (s : spec.Subscription). s.client) is.0)
      ∙ same_text-is t.shown.client client both.1 in
      let still : kept.is_open ≡ true = opened kept.is_open is.1 both.0 in
      subst (λ (k : Kept). is_long_at list line k ≡ true)
      (sym (grown-open w request kept
      (ap (λ b. b && stays (key_of kept.shown) w request) still
      ∙ stays-taken kept.shown w request taken sound.valid (sound.there still)
      ∙ ap not (lasts kept.shown.client kept.shown.filter))))
      (long_more list line kept (user_of (next w request).sessions kept.shown.client)
      (ap (λ (s : spec.Subscription). s.line == line) (sym is.0) ∙ back.0)
      (ap (is_short_question list kept.shown)
      (ap (λ (c : Text). user_of (next w request).sessions c) its ∙ its_user)
      ∙ ap (λ (s : spec.Subscription). is_short_question list s user) (sym is.0)
      ∙ not-true (is_short_question list t.shown user) back.1))
    where
      opened : (b : Bool) → (((t.state ≡ Reached) × IsReached list kept)
          ⊎ ((t.state ≡ (if b then Open else Closed)) × IsUnreached list kept))
          → is_open t.state ≡ true → b ≡ true
      opened true how still = refl
      opened false (inl h) still = absurd (true≢false (sym still ∙ ap is_open h.0))
      opened false (inr h) still = absurd (true≢false (sym still ∙ ap is_open h.0))

  some_long : (line : ℕ) (all : List Kept) (ts : List TrackedSubscription) → AllByRecursion (IsSound w) all
      → AreTracked list all ts → list_any (is_long_now list line client user) ts ≡ true
      → has_long_at list line (map (grown w (Some request)) all) ≡ true
  some_long line [] ts sound are long =
      absurd (true≢false (sym long ∙ ap (list_any (is_long_now list line client user)) are))
  some_long line (kept ∷ all) ts sound (inl h) long =
      ap (λ b. is_long_at list line (grown w (Some request) kept) || b)
      (some_long line all ts sound.1 h.1 long)
      ∙ or-true (is_long_at list line (grown w (Some request) kept))
  some_long line (kept ∷ all) ts sound (inr h) long =
      elim (or_cases (is_long_now list line client user h.0)
      (list_any (is_long_now list line client user) h.1)
      (sym (ap (list_any (is_long_now list line client user)) h.2) ∙ long))
      as (λ _. has_long_at list line (map (grown w (Some request)) (kept ∷ all)) ≡ true) [
        | inl e ↦ ap (λ b. b || has_long_at list line (map (grown w (Some request)) all))
            (one_long line kept h.0 sound.0 h.3 e)
        | inr e ↦ ap (λ b. is_long_at list line (grown w (Some request) kept) || b)
            (some_long line all h.1 sound.1 h.4 e)
            ∙ or-true (is_long_at list line (grown w (Some request) kept))
      ]

  fault_open : (all : List Kept) (ts : List TrackedSubscription) (fault : SearchFault)
      → AllByRecursion (IsSound w) all → AreTracked list all ts
      → IsFaultOpen list client user ts fault
      → IsFaultAmong list (map (grown w (Some request)) all) fault
  fault_open all ts search.Memory sound are is = tt
  fault_open all ts (search.Row line) sound are is = absurd is
  fault_open all ts (search.Subscription line) sound are is = some_long line all ts sound are is

-- what is shown of a client that comes back is so
pub connect-fails : (list : AccessList) (id : Text) (user : Option Text) (clean : Bool)
    (interval : ℕ) (old : Search) (fault : SearchFault)
    → (is_client_id id && is_user_name user) ≡ true → resumes old.sessions id clean ≡ true
    → IsFaultOpen list id user old.tracked fault
    → FailsBy list (Some (Connect id user clean interval)) old fault
connect-fails list id user clean interval old fault valid e is = λ lines line says searched.
    let w : World = world_of lines in
    let r : Request = Connect id user clean interval in
    grown_fault list lines line (Some r) fault says
    (fault_open list w r id user
    (takes list id user clean interval old valid w searched.is_world)
    (λ its own. lasts list id user clean interval old valid w searched.is_world e its own)
    (its_user list id user clean interval old valid w searched.is_world)
    (subscriptions lines) old.tracked fault (all_sound lines) searched.tracked is)
