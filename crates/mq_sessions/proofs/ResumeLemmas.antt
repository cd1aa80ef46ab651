-- A client that comes back: whether it resumes its session, and what it is sent.
use Rattle.std.proofs.Common.{◌≡◌, ℕ, Bool, true, false, true≢false, List, [], Option, Some, None}
use Rattle.std.proofs.Common.{if◌then◌else◌, is_some, refl, sym, ap, ◌∙◌}
use Rattle.std.specs.Option.{option_map_or}
use Rattle.std.specs.List.{filter_map}
use Rattle.mq_world.specs.Lists.{Text}
use Rattle.mq_world.specs.World.{Session, Copy, Waiting}
use Rattle.mq_world.specs.Sessions.{resumes}
use Rattle.mq_world.specs.Waiting.{resumed_copy, waiting_for, resumed_copies}
use Rattle.mq_sessions.specs.Resumed.{copies_if_resumed}

-- a client that does not resume a session has no copies of an earlier one
pub resumed-none : (moment : ℕ) (sessions : List Session) (id : Text) (clean : Bool)
    → resumes sessions id clean ≡ false → None ≡ copies_if_resumed moment sessions id clean
resumed-none moment sessions id clean e =
    ap (λ b. if b then Some (resumed_copies moment sessions id clean) else None) (sym e)

-- a client that resumes its session gets the copies that waited, without those that expired
pub resumed-some : (moment : ℕ) (sessions : List Session) (id : Text) (clean : Bool)
    → resumes sessions id clean ≡ true
    → Some (filter_map (resumed_copy moment) (waiting_for sessions id))
    ≡ copies_if_resumed moment sessions id clean
unfolding resumed_copies
resumed-some moment sessions id clean e =
    let xs : List Copy = filter_map (resumed_copy moment) (waiting_for sessions id) in
    ap (λ b. if b then Some (if b then xs else []) else None) (sym e)

-- the same by whether the session that was found is resumed, and by what waited there
pub resumed-if : (moment : ℕ) (sessions : List Session) (id : Text) (clean b : Bool)
    (waiting : List Waiting) → resumes sessions id clean ≡ b → waiting ≡ waiting_for sessions id
    → (if b then Some (filter_map (resumed_copy moment) waiting) else None)
    ≡ copies_if_resumed moment sessions id clean
resumed-if moment sessions id clean true waiting e is =
    ap (λ ws. Some (filter_map (resumed_copy moment) ws)) is
    ∙ resumed-some moment sessions id clean e
resumed-if moment sessions id clean false waiting e is = resumed-none moment sessions id clean e

-- a client that does not resume a session is sent nothing
pub resumed-empty : (moment : ℕ) (sessions : List Session) (id : Text) (clean : Bool)
    → resumes sessions id clean ≡ false → [] ≡ resumed_copies moment sessions id clean
unfolding resumed_copies
resumed-empty moment sessions id clean e =
    let xs : List Copy = filter_map (resumed_copy moment) (waiting_for sessions id) in
    ap (λ b. if b then xs else []) (sym e)

was-some : (b : Bool) (x y : List Copy) → Some x ≡ (if b then Some y else None) → (b ≡ true)
    × (x ≡ y)
was-some true x y e = (refl, ap (λ (o : Option (List Copy)). option_map_or (λ l. l) o []) e)
was-some false x y e = absurd (true≢false (ap (λ (o : Option (List Copy)). is_some o) e))

was-none : (b : Bool) (y : List Copy) → None ≡ (if b then Some y else None) → b ≡ false
was-none true y e = absurd (true≢false (sym (ap (λ (o : Option (List Copy)). is_some o) e)))
was-none false y e = refl

-- if there are copies of an earlier session, it is resumed, and they are what the client is sent
pub resumes-some : (moment : ℕ) (sessions : List Session) (id : Text) (clean : Bool)
    (copies : List Copy) → Some copies ≡ copies_if_resumed moment sessions id clean
    → (resumes sessions id clean ≡ true) × (copies ≡ resumed_copies moment sessions id clean)
resumes-some moment sessions id clean copies e =
    was-some (resumes sessions id clean) copies (resumed_copies moment sessions id clean) e

-- if there are no copies of an earlier session, not even an empty list, none is resumed
pub resumes-none : (moment : ℕ) (sessions : List Session) (id : Text) (clean : Bool)
    → None ≡ copies_if_resumed moment sessions id clean → resumes sessions id clean ≡ false
resumes-none moment sessions id clean e =
    was-none (resumes sessions id clean) (resumed_copies moment sessions id clean) e
