-- The sessions that end, one by one, and their subscriptions.
use Rattle.std.proofs.Common.{◌≡◌, ℕ, ◌<◌, Bool, true, false, true≢false, ◌&&◌, not, [], List, ◌∷◌}
use Rattle.std.proofs.Common.{None, Some, length, refl, sym, ◌∙◌, ap, arith, ◌≢◌}
use Rattle.std.specs.List.{filter, list_any}
use Rattle.std.proofs.Math.Bool.{or-true}
use Rattle.mq_world.specs.Lists.{Text, same_text}
use Rattle.mq_world.specs.World.{Session, Subscription, has_id}
use Rattle.mq_world.specs.Sessions.{has_ended, is_among, is_connected}
use Rattle.mq_world.specs.Refusals.{client_conditions, first_refusal}
use Rattle.mq_world.specs.declared.refusal.Refusal.{Refusal}
use Rattle.mq_world.specs.declared.refusal.Refusal.TheVariants.{Memory}
use Rattle.mq_router.specs.router.Effects.{lasts, without}
use Rattle.mq_world.proofs.BoolLemmas.{pick}
use Rattle.mq_world.proofs.ListLemmas.{filter-kept, filter-none, filter-same, length-filter-most}
use Rattle.mq_world.proofs.ListLemmas.{none-any}
use Rattle.mq_world.proofs.SameLemmas.{filter-filter, filter-swap}
use Rattle.mq_world.proofs.OrderLemmas.{same_text-is, text_flip}

-- ## A connection ends

-- a client that passes the test is connected
pub connected-tested : (sessions : List Session) (id : Text)
    → None ≡ first_refusal (client_conditions sessions id) → is_connected sessions id ≡ true
connected-tested sessions id = grind arith

-- no client is refused for lack of memory
pub client-memory : (sessions : List Session) (id : Text) (r : Refusal)
    → Some r ≡ first_refusal (client_conditions sessions id) → r ≢ Memory
client-memory sessions id r = grind arith

-- ## One is taken

-- those that have not ended stay
pub stay-more : (moment : ℕ) (id : Text) (sessions : List Session)
    → is_among (filter (λ s. not (has_ended moment s)) sessions) id ≡ false
    → filter (λ s. not (has_ended moment s)) (filter (λ s. not (has_id id s)) sessions)
    ≡ filter (λ s. not (has_ended moment s)) sessions
stay-more moment id sessions only =
    let stay : List Session = filter (λ s. not (has_ended moment s)) sessions in
    filter-swap (λ s. not (has_ended moment s)) (λ s. not (has_id id s)) sessions
    ∙ filter-kept (has_id id) stay (none-any (has_id id) stay only)

any-without : (p q : Session → Bool) → ((s : Session) → q s ≡ true → p s ≡ false)
    → (ss : List Session) → list_any p (filter (λ s. not (q s)) ss) ≡ list_any p ss
any-without p q apart [] = refl
any-without p q apart (s ∷ ss) = grind (arith, any-without p q apart ss)

-- a client other than that one has the same sessions that have ended
among-without : (moment : ℕ) (id client : Text) (sessions : List Session)
    → same_text client id ≡ false
    → is_among (filter (has_ended moment) (filter (λ s. not (has_id id s)) sessions)) client
    ≡ is_among (filter (has_ended moment) sessions) client
among-without moment id client sessions other =
    ap (list_any (has_id client))
    (filter-swap (has_ended moment) (λ s. not (has_id id s)) sessions)
    ∙ any-without (has_id client) (has_id id)
    (λ s e. ap (λ t. same_text t client) (same_text-is s.id id e) ∙ text_flip id client ∙ other)
    (filter (has_ended moment) sessions)

-- with a client taken out whose session has ended, the same subscriptions last
pub last-more : (moment : ℕ) (id : Text) (sessions : List Session) (rows : List Subscription)
    → is_among (filter (has_ended moment) sessions) id ≡ true
    → filter (lasts moment (filter (λ s. not (has_id id s)) sessions)) (without id rows)
    ≡ filter (lasts moment sessions) rows
last-more moment id sessions rows ended =
    let left : List Session = filter (λ s. not (has_id id s)) sessions in
    filter-filter (lasts moment left) (λ s. not (same_text s.client id)) rows
    ∙ filter-same (λ s. not (same_text s.client id) && lasts moment left s)
    (lasts moment sessions) each rows
  where
    each : (s : Subscription) → (not (same_text s.client id)
        && lasts moment (filter (λ s. not (has_id id s)) sessions) s) ≡ lasts moment sessions s
    each s = grind (arith, pick, same_text-is, among-without)

among-all : (moment : ℕ) (id : Text) (sessions : List Session)
    → is_among (filter (has_ended moment) sessions) id ≡ true → is_among sessions id ≡ true
among-all moment id [] h = h
among-all moment id (s ∷ ss) h = grind (arith, among-all moment id ss, pick, or-true)

some-less : (p : Session → Bool) (ss : List Session) → list_any p ss ≡ true
    → length (filter (λ s. not (p s)) ss) < length ss
some-less p [] h = absurd (true≢false (sym h))
some-less p (s ∷ ss) h = grind (arith, some-less p ss, length-filter-most)

-- without a client whose session has ended there are fewer sessions
pub fewer : (moment : ℕ) (id : Text) (sessions : List Session)
    → is_among (filter (has_ended moment) sessions) id ≡ true
    → length (filter (λ s. not (has_id id s)) sessions) < length sessions
fewer moment id sessions ended =
    some-less (has_id id) sessions (among-all moment id sessions ended)

-- ## None is left

-- where no session has ended, all stay
pub all-stay : (moment : ℕ) (sessions : List Session)
    → list_any (has_ended moment) sessions ≡ false
    → filter (λ s. not (has_ended moment s)) sessions ≡ sessions
all-stay moment sessions none =
    filter-kept (has_ended moment) sessions (none-any (has_ended moment) sessions none)

last-none : (moment : ℕ) (rows : List Subscription) → filter (lasts moment []) rows ≡ rows
last-none moment [] = refl
last-none moment (s ∷ rows) = ap (λ l. s ∷ l) (last-none moment rows)

-- where no session has ended, all subscriptions last
pub all-last : (moment : ℕ) (sessions : List Session) (rows : List Subscription)
    → list_any (has_ended moment) sessions ≡ false → filter (lasts moment sessions) rows ≡ rows
all-last moment sessions rows none =
    ap (λ (l : List Session). filter (λ (s : Subscription). not (is_among l s.client)) rows)
    (filter-none (has_ended moment) sessions (none-any (has_ended moment) sessions none))
    ∙ last-none moment rows
