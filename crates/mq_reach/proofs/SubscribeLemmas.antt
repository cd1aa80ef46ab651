-- A client subscribes.
use Rattle.std.proofs.Common.{◌≡◌, ℕ, ◌+◌, ◌<◌, Bool, true, false, cond, ◌&&◌, ◌||◌, not, List, [], ◌∷◌}
use Rattle.std.proofs.Common.{◌++◌, length, map, Option, Some, None, Contains, refl, sym, ◌∙◌, ap, subst}
use Rattle.std.proofs.Common.{inl, inr, arith, append-nil, ◌==◌}
use Rattle.std.specs.Prelude.{IsTrue}
use Rattle.std.specs.Option.{option_to_list}
use Rattle.std.proofs.Math.Bool.{and_assoc}
use Rattle.std.proofs.lemmas.Bool.Decides.{Decides-eqb}
use Rattle.std.proofs.lemmas.List.Elements.{Contains-push, Contains-push_cases}
use Rattle.mq_topic.specs.Texts.{filter_part, is_name, is_shared, is_subscription}
use Rattle.mq_acl.specs.AccessLists.{AccessList}
use Rattle.mq_world.specs.After.{after, next}
use Rattle.mq_world.specs.Lists.{Text, same_text}
use Rattle.mq_world.specs.Refusals.{is_client_id}
use Rattle.mq_world.specs.Sessions.{is_connected, user_of}
use Rattle.mq_world.specs.World.{Session, Subscribe, SubscriptionOptions, World}
use Rattle.mq_world.specs.declared.clock.Clock.{Clock}
use Rattle.mq_reach.specs.Faults.{FailsBy, IsAskFault, IsFaultAmong, is_short_question}
use Rattle.mq_reach.specs.Reach.{Reads, ReadsNone}
use Rattle.mq_reach.specs.Search.{Applies, AreTracked, IsWorldOf, shown_by}
use Rattle.mq_reach.specs.Subscriptions.{Kept, commands_of, is_taken, made_by, subscriptions}
use Rattle.mq_reach.specs.Subscriptions.{world_of}
use Rattle.mq_reach.specs.Subscriptions as spec
use Rattle.mq_reach.specs.Tracked.{TrackedSubscription, closed_if, closed_one, is_open}
use Rattle.mq_reach.specs.Unreached.{IsReached, IsUnreached}
use Rattle.mq_reach.specs.declared.question.SearchFault.{SearchFault}
use Rattle.mq_reach.specs.declared.question.SearchFault.TheVariants as search
use Rattle.mq_reach.specs.declared.search.Search.{Search}
use Rattle.mq_reach.specs.declared.tracked.State.TheVariants.{Open}
use Rattle.mq_reach.proofs.AmongLemmas.{made_fault}
use Rattle.mq_reach.proofs.CommandLemmas.{can_act-is}
use Rattle.mq_reach.proofs.GrownLemmas.{all_sound}
use Rattle.mq_reach.proofs.SessionLemmas.{user-kept, user-unqueued}
use Rattle.mq_reach.proofs.StayLemmas.{next-taken, taken-subscribe}
use Rattle.mq_reach.proofs.StepLemmas.{Applies-refused, kept-all, makes_at, taken-world, tracked-push}

-- ## What is made

-- a broker takes it
abbrev pub takes_it : Search → Text → Text → SubscriptionOptions → Bool
takes_it s id text options =
    is_client_id id && is_connected s.sessions id && is_subscription text
    && not (is_shared text && options.no_local)

abbrev pub shown_now : Search → Text → Text → spec.Subscription
shown_now s id text =
    record { line = s.counts.lines + 1; client = id; user = user_of s.sessions id; filter = text }

takes-is : (s : Search) (id text : Text) (options : SubscriptionOptions) (w : World)
    → IsWorldOf w s → is_taken w (Subscribe id text options) ≡ takes_it s id text options
takes-is s id text options w is =
    taken-subscribe w id text options
    ∙ ap (λ b. b && is_subscription text && not (is_shared text && options.no_local))
    (sym (can_act-is s id w is))

-- nothing is shown where it isn't taken
none_taken : (b : Bool) (shown : spec.Subscription) → None ≡ cond b (Some shown) None → b ≡ false
none_taken true shown e = cc
none_taken false shown e = refl

some_taken : (b : Bool) (shown s : spec.Subscription) → Some s ≡ cond b (Some shown) None
    → (b ≡ true) × (s ≡ shown)
some_taken true shown s e = (refl, cc)
some_taken false shown s e = cc

pub subscribe-refused : (list : AccessList) (id text : Text) (options : SubscriptionOptions)
    (s : Search) → None ≡ shown_by (s.counts.lines + 1) s.sessions (Subscribe id text options)
    → Applies list (Some (Subscribe id text options)) s s
subscribe-refused list id text options s e =
    Applies-refused list (Subscribe id text options) s
    (λ w is. takes-is s id text options w is
    ∙ none_taken (takes_it s id text options) (shown_now s id text) e)

-- what it makes, as it stands behind these lines
abbrev made : List (List ℕ) → Text → Text → SubscriptionOptions → Kept
made lines id text options = record {
  shown = record {
    line = length lines + 1;
    client = id;
    user = user_of (world_of lines).sessions id;
    filter = text;
  };
  users = user_of (next (world_of lines) (Subscribe id text options)).sessions id ∷ [];
  is_open = true;
}

-- as much as it takes to prove what follows of a subscribe that is taken
module _ (id text : Text) (options : SubscriptionOptions) (s : Search)
    (takes : takes_it s id text options ≡ true) where
  taken : (w : World) → IsWorldOf w s → is_taken w (Subscribe id text options) ≡ true
  taken w is = takes-is s id text options w is ∙ takes

  makes-it : (lines : List (List ℕ)) → IsWorldOf (world_of lines) s
      → makes_at lines (Some (Subscribe id text options)) ≡ made lines id text options ∷ []
  makes-it lines is = ap (λ b. option_to_list (cond b (Some (made lines id text options)) None))
      (taken (world_of lines) is)

  shown-is : (lines : List (List ℕ)) → IsWorldOf (world_of lines) s
      → length lines ≡ s.counts.lines → (made lines id text options).shown ≡ shown_now s id text
  shown-is lines is count =
      (λ i. record {
        line = ap (λ (n : ℕ). n + 1) count i;
        client = id;
        user = user-is (world_of lines) is i;
        filter = text;
      })
    where
      user-is : (w : World) → IsWorldOf w s → user_of w.sessions id ≡ user_of s.sessions id
      user-is w is = sym (ap (λ (ss : List Session). user_of ss id) is.sessions
          ∙ user-unqueued w.sessions id)

  -- the client has the same user name behind it
  user-now : (w : World) → IsWorldOf w s
      → user_of (next w (Subscribe id text options)).sessions id ≡ user_of s.sessions id
  unfolding after
  user-now w is =
      ap (λ (v : World). user_of v.sessions id)
      (next-taken w (Subscribe id text options) (taken w is))
      ∙ sym (ap (λ (ss : List Session). user_of ss id) is.sessions ∙ user-unqueued w.sessions id)

  unreached-now : (list : AccessList) (lines : List (List ℕ)) → IsWorldOf (world_of lines) s
      → ReadsNone list id (user_of s.sessions id) (filter_part text)
      → IsUnreached list (made lines id text options)
  unreached-now list lines is none = λ user has.
      let user-is : user_of (next (world_of lines) (Subscribe id text options)).sessions id ≡ user =
      only _ user has in
      subst (λ (u : Option Text). ReadsNone list id u (filter_part text))
      (sym (user-now (world_of lines) is) ∙ user-is) none
    where
      only : (u user : Option Text) → Contains (u ∷ []) user → u ≡ user
      only u user has = elim (Contains-push_cases [] u user has) as (λ _. u ≡ user)
          [ inl h ↦ absurd (let none : h.0 < 0 = h.1 in omega arith) | inr e ↦ e ]

  reached-now : (list : AccessList) (lines : List (List ℕ)) → IsWorldOf (world_of lines) s
      → (topic : List ℕ) → IsTrue (is_name topic)
      → Reads list id (user_of s.sessions id) (filter_part text) topic
      → IsReached list (made lines id text options)
  reached-now list lines is topic valid reads = record {
    user = user_of (next (world_of lines) (Subscribe id text options)).sessions id;
    had = Contains-push [] (user_of (next (world_of lines) (Subscribe id text options)).sessions id);
    topic = topic;
    valid = valid;
    reads = subst (λ (u : Option Text). Reads list id u (filter_part text) topic)
        (sym (user-now (world_of lines) is)) reads;
  }

  applies : (list : AccessList) (new : Search) (us : List TrackedSubscription)
      → ((lines : List (List ℕ)) → IsWorldOf (world_of lines) s → length lines ≡ s.counts.lines
      → AreTracked list (made lines id text options ∷ []) us)
      → new.sessions ≡ s.sessions → new.clock ≡ s.clock
      → new.tracked ≡ map (closed_one id text) s.tracked ++ us → new.counts ≡ s.counts
      → Applies list (Some (Subscribe id text options)) s new
  unfolding after
  applies list new us one sessions clock tracked counts = record {
    follows = λ w is. taken-world w (Subscribe id text options) new (taken w is) (record {
      sessions = sessions ∙ is.sessions;
      moment = ap (λ (c : Clock). c.moment) clock ∙ is.moment;
    });
    tracked = λ lines line says is are count.
        (let w : World = world_of lines in
        subst (AreTracked list (subscriptions (lines ++ line ∷ []))) (sym tracked)
        (tracked-push list lines line (Some (Subscribe id text options))
        (map (closed_one id text) s.tracked) us says
        (kept-all list w (Subscribe id text options) (subscriptions lines) s.tracked
        (closed_one id text) (taken w is)
        (λ client own e. user-kept w (Subscribe id text options) client own (taken w is) e refl)
        (λ t. ap (λ b. closed_if b t)
        (and_assoc (is_open t.state) (same_text t.shown.client id) (same_text t.shown.filter text)))
        (all_sound lines) are)
        (subst (λ all. AreTracked list all us) (sym (makes-it lines is)) (one lines is count))));
    counts = counts;
  }

-- what it makes is reached
pub subscribe-reached : (list : AccessList) (id text : Text) (options : SubscriptionOptions)
    (old new : Search) (shown : spec.Subscription)
    → Some shown ≡ shown_by (old.counts.lines + 1) old.sessions (Subscribe id text options)
    → (topic : List ℕ) → IsTrue (is_name topic)
    → Reads list shown.client shown.user (filter_part shown.filter) topic
    → new.sessions ≡ old.sessions → new.clock ≡ old.clock
    → new.tracked ≡ map (closed_one shown.client shown.filter) old.tracked
    → new.counts ≡ old.counts
    → Applies list (Some (Subscribe id text options)) old new
subscribe-reached list id text options old new shown e topic valid reads sessions clock tracked
    counts =
    let some = some_taken (takes_it old id text options) (shown_now old id text) shown e in
    let here : Reads list id (user_of old.sessions id) (filter_part text) topic =
    subst (λ (t : spec.Subscription). Reads list t.client t.user (filter_part t.filter) topic)
    some.1 reads in
    applies id text options old some.0 list new []
    (λ lines is count. inl (
      reached-now id text options old some.0 list lines is topic valid here,
      refl,
    )) sessions clock
    (tracked ∙ ap (λ (t : spec.Subscription). map (closed_one t.client t.filter) old.tracked) some.1
    ∙ sym (append-nil (map (closed_one id text) old.tracked)))
    counts

-- what it makes is unreached
pub subscribe-unreached : (list : AccessList) (id text : Text) (options : SubscriptionOptions)
    (old new : Search) (shown : spec.Subscription)
    → Some shown ≡ shown_by (old.counts.lines + 1) old.sessions (Subscribe id text options)
    → ReadsNone list shown.client shown.user (filter_part shown.filter)
    → new.sessions ≡ old.sessions → new.clock ≡ old.clock
    → new.tracked ≡ map (closed_one shown.client shown.filter) old.tracked
    ++ record { shown = shown; state = Open } ∷ []
    → new.counts ≡ old.counts
    → Applies list (Some (Subscribe id text options)) old new
subscribe-unreached list id text options old new shown e none sessions clock tracked counts =
    let some = some_taken (takes_it old id text options) (shown_now old id text) shown e in
    let here : ReadsNone list id (user_of old.sessions id) (filter_part text) =
    subst (λ (t : spec.Subscription). ReadsNone list t.client t.user (filter_part t.filter))
    some.1 none in
    applies id text options old some.0 list new (record { shown = shown; state = Open } ∷ [])
    (λ lines is count. inr (
      record { shown = shown; state = Open },
      [],
      refl,
      (
        some.1 ∙ sym (shown-is id text options old some.0 lines is count),
        inr (refl, unreached-now id text options old some.0 list lines is here),
      ),
      refl,
    )) sessions clock
    (tracked ∙ ap (λ (t : spec.Subscription). map (closed_one t.client t.filter) old.tracked
    ++ record { shown = shown; state = Open } ∷ []) some.1)
    counts

long_now : (list : AccessList) (lines : List (List ℕ)) (id text : Text)
    (options : SubscriptionOptions) (shown : spec.Subscription) (fault : SearchFault)
    → shown ≡ (made lines id text options).shown
    → shown.user ≡ user_of (next (world_of lines) (Subscribe id text options)).sessions id
    → IsAskFault list shown shown.user fault
    → IsFaultAmong list (made lines id text options ∷ []) fault
long_now list lines id text options shown search.Memory same user is = tt
long_now list lines id text options shown (search.Row line) same user is = absurd is
long_now list lines id text options shown (search.Subscription line) same user is =
    let kept : Kept = made lines id text options in
    let now : Option Text =
    user_of (next (world_of lines) (Subscribe id text options)).sessions id in
    let here : (kept.shown.line == line) ≡ true =
    (Decides-eqb kept.shown.line line).1
    (ap (λ (t : spec.Subscription). t.line) (sym same) ∙ is.0) in
    let long : is_short_question list kept.shown now ≡ false =
    ap (is_short_question list kept.shown) (sym user)
    ∙ ap (λ (t : spec.Subscription). is_short_question list t shown.user) (sym same) ∙ is.1 in
    ap (λ b. (b && not (is_short_question list kept.shown now && true)) || false) here
    ∙ ap (λ b. not (b && true) || false) long

-- what is shown of what it makes is so
pub subscribe-fails : (list : AccessList) (id text : Text) (options : SubscriptionOptions)
    (old : Search) (shown : spec.Subscription) (fault : SearchFault)
    → Some shown ≡ shown_by (old.counts.lines + 1) old.sessions (Subscribe id text options)
    → IsAskFault list shown shown.user fault
    → FailsBy list (Some (Subscribe id text options)) old fault
subscribe-fails list id text options old shown fault e is = λ lines line says searched.
    let some = some_taken (takes_it old id text options) (shown_now old id text) shown e in
    let w-is : IsWorldOf (world_of lines) old = searched.is_world in
    let same : shown ≡ (made lines id text options).shown =
    some.1 ∙ sym (shown-is id text options old some.0 lines w-is (sym searched.counts.lines)) in
    made_fault list lines line (Some (Subscribe id text options)) fault says
    (subst (λ all. IsFaultAmong list all fault)
    (sym (makes-it id text options old some.0 lines w-is))
    (long_now list lines id text options shown fault same
    (ap (λ (t : spec.Subscription). t.user) some.1
    ∙ sym (user-now id text options old some.0 (world_of lines) w-is)) is))
