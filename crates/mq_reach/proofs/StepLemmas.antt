-- What a search does with a command.
use Rattle.std.proofs.Common.{◌≡◌, ℕ, ◌+◌, Bool, true, false, cond, ◌&&◌, not, List, [], ◌∷◌, ◌++◌}
use Rattle.std.proofs.Common.{length, map, Option, Some, None, refl, sym, ◌∙◌, ap, subst}
use Rattle.std.proofs.Common.{append-nil}
use Rattle.std.specs.List.{AllByRecursion, AllZip, cons_option}
use Rattle.std.specs.Option.{option_and_then, option_map, option_to_list}
use Rattle.mq_topic.specs.Texts.{is_shared, is_subscription}
use Rattle.mq_acl.specs.AccessLists.{AccessList}
use Rattle.mq_world.specs.After.{after, next}
use Rattle.mq_world.specs.Lists.{Text, same_text}
use Rattle.mq_world.specs.Refusals.{is_client_id}
use Rattle.mq_world.specs.Sessions.{is_connected, user_of}
use Rattle.mq_world.specs.World.{Advance, Connect, Disconnect, Publish, Request, Session, SetAcl}
use Rattle.mq_world.specs.World.{Stat, Subscribe, Unsubscribe, World}
use Rattle.mq_world.proofs.OrderLemmas.{same_text-is}
use Rattle.mq_jsonl.specs.Lines.{command_in}
use Rattle.mq_jsonl.specs.Reading.{reading}
use Rattle.mq_reach.specs.Search.{Applies, AreTracked, IsTracked, IsWorldOf, shown_by}
use Rattle.mq_reach.specs.Subscriptions.{Kept, commands_of, is_taken, made_by, subscriptions}
use Rattle.mq_reach.specs.Subscriptions.{users_from, world_of, world_then}
use Rattle.mq_reach.specs.Subscriptions as spec
use Rattle.mq_reach.specs.Tracked.{IsAsked, TrackedSubscription, Where, closed_if, is_open}
use Rattle.mq_reach.specs.Tracked.{is_open_of}
use Rattle.mq_reach.specs.Unqueued.{unqueued}
use Rattle.mq_reach.specs.declared.search.Search.{Search}
use Rattle.mq_reach.proofs.GrownLemmas.{IsSound, all_sound, grown, subscriptions-push}
use Rattle.mq_reach.proofs.SessionLemmas.{connected-unqueued, user-unqueued}
use Rattle.mq_reach.proofs.StayLemmas.{ends, next-refused, next-taken, taken-subscribe}
use Rattle.mq_reach.proofs.TrackLemmas.{AreTracked-append, AreTracked-zip, asked-state, kept-state}
use Rattle.mq_reach.proofs.TrackLemmas.{reached-grown, refused-state}

-- ## What becomes of those that are tracked

abbrev Ts : Type 0
Ts = List TrackedSubscription

-- a line that says a command says that one
pub said : (a b : Option Request) → cons_option a [] ≡ option_to_list b → a ≡ b
said None None e = refl
said None (Some y) e = cc
said (Some x) None e = cc
said (Some x) (Some y) e = cc

-- what the command makes, behind these lines
abbrev pub makes_at : List (List ℕ) → Option Request → List Kept
makes_at lines command = option_to_list (option_and_then
    (λ r. made_by (length lines + 1) (world_of lines) r []) command)

-- behind a line that says the command, the subscriptions have grown by it, and it makes one
pub tracked-push : (list : AccessList) (lines : List (List ℕ)) (line : List ℕ)
    (command : Option Request) (ts us : Ts) → commands_of (line ∷ []) ≡ option_to_list command
    → AreTracked list (map (grown (world_of lines) command) (subscriptions lines)) ts
    → AreTracked list (makes_at lines command) us
    → AreTracked list (subscriptions (lines ++ line ∷ [])) (ts ++ us)
tracked-push list lines line command ts us says old new =
    let is : command_in (reading line) ≡ command =
    said (command_in (reading line)) command says in
    subst (λ all. AreTracked list all (ts ++ us))
    (sym (subscriptions-push lines line
    ∙ ap (λ c. map (grown (world_of lines) c) (subscriptions lines) ++ makes_at lines c) is))
    (AreTracked-append list (map (grown (world_of lines) command) (subscriptions lines))
    (makes_at lines command) ts us old new)

pub none_made : (list : AccessList) (lines : List (List ℕ)) (line : List ℕ)
    (command : Option Request) (ts : Ts) → commands_of (line ∷ []) ≡ option_to_list command
    → makes_at lines command ≡ []
    → AreTracked list (map (grown (world_of lines) command) (subscriptions lines)) ts
    → AreTracked list (subscriptions (lines ++ line ∷ [])) ts
none_made list lines line command ts says none are =
    subst (AreTracked list (subscriptions (lines ++ line ∷ []))) (append-nil ts)
    (tracked-push list lines line command ts [] says are
    (subst (λ all. AreTracked list all []) (sym none) refl))

-- ## Steps

map-zip : (f : TrackedSubscription → TrackedSubscription) (ts : Ts)
    → AllZip (λ t u. u ≡ f t) ts (map f ts)
map-zip f [] = tt
map-zip f (t ∷ ts) = (refl, map-zip f ts)

same-zip : (ts : Ts) → AllZip (λ t u. u ≡ t) ts ts
same-zip [] = tt
same-zip (t ∷ ts) = (refl, same-zip ts)

pub refused-all : (list : AccessList) (w : World) (request : Request) (all : List Kept) (ts : Ts)
    → is_taken w request ≡ false → AllByRecursion (IsSound w) all → AreTracked list all ts
    → AreTracked list (map (grown w (Some request)) all) ts
refused-all list w request all ts refused sound are =
    AreTracked-zip list (grown w (Some request)) (IsSound w) (λ t u. u ≡ t)
    (reached-grown list w (Some request))
    (λ kept t u s e is. subst (IsTracked list (grown w (Some request) kept)) (sym e)
    (subst (λ shown. IsTracked list (grown w (Some request) kept)
    (record { shown = shown; state = t.state })) (sym is.0)
    (refused-state list w request kept t.state s refused is.1)))
    all ts ts sound (same-zip ts) are

-- one that is taken closes those that it ends
abbrev pub ended_by : World → Request → TrackedSubscription → TrackedSubscription
ended_by w request t =
    closed_if (is_open t.state && ends w request t.shown.client t.shown.filter) t

pub kept-all : (list : AccessList) (w : World) (request : Request) (all : List Kept) (ts : Ts)
    (f : TrackedSubscription → TrackedSubscription) → is_taken w request ≡ true
    → ((client own : Text) → ends w request client own ≡ false
    → user_of (next w request).sessions client ≡ user_of w.sessions client)
    → ((t : TrackedSubscription) → f t ≡ ended_by w request t)
    → AllByRecursion (IsSound w) all → AreTracked list all ts
    → AreTracked list (map (grown w (Some request)) all) (map f ts)
kept-all list w request all ts f taken same ended sound are =
    AreTracked-zip list (grown w (Some request)) (IsSound w) (λ t u. u ≡ f t)
    (reached-grown list w (Some request))
    (λ kept t u s e is. subst (IsTracked list (grown w (Some request) kept))
    (sym (e ∙ ended t))
    (subst (λ shown. IsTracked list (grown w (Some request) kept)
    (ended_by w request (record { shown = shown; state = t.state }))) (sym is.0)
    (kept-state list w request kept t.state s taken
    (same kept.shown.client kept.shown.filter) is.1)))
    all ts (map f ts) sound (map-zip f ts) are

pub asked-all : (list : AccessList) (w : World) (request : Request) (client : Text)
    (user : Option Text) (all : List Kept) (ts us : Ts) → is_taken w request ≡ true
    → ((its own : Text) → ends w request its own ≡ false)
    → user_of (next w request).sessions client ≡ user
    → ((its : Text) → same_text its client ≡ false
    → user_of (next w request).sessions its ≡ user_of w.sessions its)
    → AllZip (Where (is_open_of client) (IsAsked list user)) ts us
    → AllByRecursion (IsSound w) all → AreTracked list all ts
    → AreTracked list (map (grown w (Some request)) all) us
asked-all list w request client user all ts us taken lasts its others zip sound are =
    AreTracked-zip list (grown w (Some request)) (IsSound w)
    (Where (is_open_of client) (IsAsked list user))
    (reached-grown list w (Some request))
    (λ kept t u s asked is. asked-state list w request client user kept t.state u s taken
    (lasts kept.shown.client kept.shown.filter)
    (λ e. ap (λ (c : Text). user_of (next w request).sessions c)
    (same_text-is kept.shown.client client e) ∙ its)
    (others kept.shown.client)
    (subst (λ shown. Where (is_open_of client) (IsAsked list user)
    (record { shown = shown; state = t.state }) u) is.0 asked) is.1)
    all ts us sound zip are

-- ## Commands that make no subscription

-- the command isn't taken by the world that the search has
abbrev pub Refuses : Request → Search → Type 0
Refuses request s = (w : World) → IsWorldOf w s → is_taken w request ≡ false

abbrev pub Takes : Request → Search → Type 0
Takes request s = (w : World) → IsWorldOf w s → is_taken w request ≡ true

-- no subscribe
abbrev pub makes_none : Request → Bool
makes_none (Subscribe id text options) = false
makes_none request = true

makes-none : (lines : List (List ℕ)) (request : Request) → makes_none request ≡ true
    → makes_at lines (Some request) ≡ []
makes-none lines (Connect id user clean interval) e = refl
makes-none lines (Disconnect id) e = refl
makes-none lines (Subscribe id text options) e = cc
makes-none lines (Unsubscribe id text) e = refl
makes-none lines (Publish m) e = refl
makes-none lines (SetAcl text) e = refl
makes-none lines (Advance seconds) e = refl
makes-none lines Stat e = refl

refused-none : (lines : List (List ℕ)) (request : Request)
    → is_taken (world_of lines) request ≡ false → makes_at lines (Some request) ≡ []
refused-none lines (Connect id user clean interval) e = refl
refused-none lines (Disconnect id) e = refl
refused-none lines (Subscribe id text options) e =
    ap (λ b. option_to_list (cond b (Some (record {
      shown = record {
        line = length lines + 1;
        client = id;
        user = user_of (world_of lines).sessions id;
        filter = text;
      };
      users = user_of (next (world_of lines) (Subscribe id text options)).sessions id ∷ [];
      is_open = true;
    })) None)) e
refused-none lines (Unsubscribe id text) e = refl
refused-none lines (Publish m) e = refl
refused-none lines (SetAcl text) e = refl
refused-none lines (Advance seconds) e = refl
refused-none lines Stat e = refl

-- one that isn't taken leaves the search
pub Applies-refused : (list : AccessList) (request : Request) (old : Search)
    → Refuses request old → Applies list (Some request) old old
Applies-refused list request old refuses = record {
  follows = λ w is. subst (λ v. IsWorldOf v old) (sym (next-refused w request (refuses w is))) is;
  tracked = λ lines line says is are count.
      none_made list lines line (Some request) old.tracked says
      (refused-none lines request (refuses (world_of lines) is))
      (refused-all list (world_of lines) request (subscriptions lines) old.tracked
      (refuses (world_of lines) is) (all_sound lines) are);
  counts = refl;
}

-- what is behind one that is taken
pub taken-world : (w : World) (request : Request) (s : Search) → is_taken w request ≡ true
    → IsWorldOf (after w request) s → IsWorldOf (next w request) s
taken-world w request s taken is =
    subst (λ v. IsWorldOf v s) (sym (next-taken w request taken)) is

-- one that is taken, makes no subscription, and closes those that it ends
pub Applies-ends : (list : AccessList) (request : Request) (old new : Search)
    (f : TrackedSubscription → TrackedSubscription) → makes_none request ≡ true
    → Takes request old
    → ((w : World) → IsWorldOf w old → IsWorldOf (after w request) new)
    → new.tracked ≡ map f old.tracked
    → ((w : World) → IsWorldOf w old → (t : TrackedSubscription) → f t ≡ ended_by w request t)
    → ((w : World) → IsWorldOf w old → (client own : Text) → ends w request client own ≡ false
    → user_of (next w request).sessions client ≡ user_of w.sessions client)
    → new.counts ≡ old.counts → Applies list (Some request) old new
Applies-ends list request old new f none takes follows tracked ended same counts = record {
  follows = λ w is. taken-world w request new (takes w is) (follows w is);
  tracked = λ lines line says is are count.
      (let w : World = world_of lines in
      subst (AreTracked list (subscriptions (lines ++ line ∷ []))) (sym tracked)
      (none_made list lines line (Some request) (map f old.tracked) says
      (makes-none lines request none)
      (kept-all list w request (subscriptions lines) old.tracked f (takes w is) (same w is)
      (ended w is) (all_sound lines) are)));
  counts = counts;
}

-- ## A subscribe

-- what it makes is shown with the client's user name
pub made-shown : (line : ℕ) (w : World) (sessions : List Session) (request : Request)
    → sessions ≡ unqueued w.sessions
    → option_map (λ (k : Kept). k.shown) (made_by line w request [])
    ≡ shown_by line sessions request
made-shown line w sessions (Connect id user clean interval) e = refl
made-shown line w sessions (Disconnect id) e = refl
made-shown line w sessions (Subscribe id text options) e =
    let shown : Option Text → spec.Subscription = λ user.
    record { line = line; client = id; user = user; filter = text } in
    let by : Bool → Option Text → Option spec.Subscription = λ connected user.
    cond (is_client_id id && connected && is_subscription text
    && not (is_shared text && options.no_local)) (Some (shown user)) None in
    taken_shown (is_taken w (Subscribe id text options))
    ∙ ap (λ b. cond b (Some (shown (user_of w.sessions id))) None)
    (taken-subscribe w id text options)
    ∙ (λ i. by (sym (connected-unqueued w.sessions id) i) (sym (user-unqueued w.sessions id) i))
    ∙ ap (λ (ss : List Session). by (is_connected ss id) (user_of ss id)) (sym e)
  where
    taken_shown : (b : Bool) → option_map (λ (k : Kept). k.shown) (cond b (Some (record {
      shown = record { line = line; client = id; user = user_of w.sessions id; filter = text };
      users = user_of (next w (Subscribe id text options)).sessions id ∷ [];
      is_open = true;
    })) None) ≡ cond b (Some (record {
      line = line;
      client = id;
      user = user_of w.sessions id;
      filter = text;
    })) None
    taken_shown true = refl
    taken_shown false = refl
made-shown line w sessions (Unsubscribe id text) e = refl
made-shown line w sessions (Publish m) e = refl
made-shown line w sessions (SetAcl text) e = refl
made-shown line w sessions (Advance seconds) e = refl
made-shown line w sessions Stat e = refl
