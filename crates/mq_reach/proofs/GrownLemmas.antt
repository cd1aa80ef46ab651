-- What one more line does to the subscriptions of a script.
use Rattle.std.proofs.Common.{◌≡◌, ℕ, ◌+◌, Bool, true, false, cond, ◌&&◌, ◌||◌, not, List, [], ◌∷◌}
use Rattle.std.proofs.Common.{◌++◌, length, map, Option, Some, None, if◌then◌else◌, refl, sym, ◌∙◌}
use Rattle.std.proofs.Common.{ap, subst, Contains, append_assoc, append-nil, arith}
use Rattle.std.specs.List.{AllByRecursion, cons_option}
use Rattle.std.specs.Option.{option_and_then, option_map, option_to_list}
use Rattle.std.proofs.Math.Bool.{and_assoc, or-true}
use Rattle.std.proofs.lemmas.Bool.{and_parts}
use Rattle.std.proofs.lemmas.List.{map-append}
use Rattle.std.proofs.lemmas.List.Elements.{Contains-append_right, Contains-push, filter_map-append}
use Rattle.mq_topic.specs.Texts.{is_subscription}
use Rattle.mq_world.specs.After.{after, kept_stamp, next, replay}
use Rattle.mq_world.specs.Lists.{Text}
use Rattle.mq_world.specs.Sessions.{user_of}
use Rattle.mq_world.specs.World.{Advance, Connect, Disconnect, Publish, Request, Row, SetAcl, Stat}
use Rattle.mq_world.specs.World.{Subscribe, Subscription, SubscriptionOptions, Unsubscribe, World}
use Rattle.mq_world.specs.World.{empty_world, subscription_of}
use Rattle.mq_world.proofs.OrderLemmas.{all_append}
use Rattle.mq_jsonl.specs.Lines.{command_in}
use Rattle.mq_jsonl.specs.Reading.{reading}
use Rattle.mq_reach.specs.Subscriptions.{Kept, commands_of, is_taken, made_by, makes, stays}
use Rattle.mq_reach.specs.Subscriptions.{stays_through, subscriptions, subscriptions_from}
use Rattle.mq_reach.specs.Subscriptions.{users_from, world_of, world_then}
use Rattle.mq_reach.specs.Subscriptions as spec
use Rattle.mq_reach.proofs.KeyLemmas.{any_options, has_row, has_row-with, is_there, key_of}
use Rattle.mq_reach.proofs.StayLemmas.{next-taken, subscribe-valid}
use Rattle.mq_reach.proofs.KeyLemmas.{same_key-itself, there-is}

-- ## One more command

stays_through-push : (s : Subscription) (w : World) (rs : List Request) (r : Request)
    → stays_through s w (rs ++ r ∷ []) ≡ (stays_through s w rs && stays s (replay w rs) r)
stays_through-push s w [] r = and_true (stays s w r)
  where
    and_true : (b : Bool) → (b && true) ≡ b
    and_true true = refl
    and_true false = refl
stays_through-push s w (q ∷ rs) r =
    ap (λ b. stays s w q && b) (stays_through-push s (next w q) rs r)
    ∙ sym (and_assoc (stays s w q) (stays_through s (next w q) rs)
    (stays s (replay (next w q) rs) r))

users_from-push : (s : Subscription) (w : World) (rs : List Request) (r : Request)
    → users_from s w (rs ++ r ∷ []) ≡ users_from s w rs
    ++ cond (stays_through s w rs && stays s (replay w rs) r)
    (user_of (next (replay w rs) r).sessions s.client ∷ []) []
users_from-push s w [] r = refl
users_from-push s w (q ∷ rs) r =
    let user : Option Text = user_of w.sessions s.client in
    let last : Bool = stays s (replay (next w q) rs) r in
    let more : List (Option Text) =
    user_of (next (replay (next w q) rs) r).sessions s.client ∷ [] in
    elim (stays s w q) as (λ b. user ∷ cond b (users_from s (next w q) (rs ++ r ∷ [])) []
    ≡ (user ∷ cond b (users_from s (next w q) rs) [])
    ++ cond ((b && stays_through s (next w q) rs) && last) more []) [
      | true ↦ ap (λ l. user ∷ l) (users_from-push s (next w q) rs r)
      | false ↦ refl
    ]

-- what a subscription asks for beside its filter takes no part
stays-options : (client text : Text) (options : SubscriptionOptions) (w : World) (r : Request)
    → stays (subscription_of client text options) w r
    ≡ stays (subscription_of client text any_options) w r
stays-options client text options w (Connect id user clean interval) = refl
stays-options client text options w (Disconnect id) = refl
stays-options client text options w (Subscribe id own asked) = refl
stays-options client text options w (Unsubscribe id own) = refl
stays-options client text options w (Publish m) = refl
stays-options client text options w (SetAcl list) = refl
stays-options client text options w (Advance seconds) = refl
stays-options client text options w Stat = refl

-- a subscription after one more command, in the world before it
abbrev pub grown : World → Option Request → Kept → Kept
grown w None kept = kept
grown w (Some request) kept =
    if kept.is_open && stays (key_of kept.shown) w request
    then record kept {
      users = kept.users ++ user_of (next w request).sessions kept.shown.client ∷ [];
    }
    else record kept { is_open = false }

abbrev kept_of : spec.Subscription → List (Option Text) → Bool → Kept
kept_of shown users is_open = record { shown = shown; users = users; is_open = is_open }

shape : (shown : spec.Subscription) (users : List (Option Text)) (user : Option Text) (a b : Bool)
    → kept_of shown (users ++ cond (a && b) (user ∷ []) []) (a && b)
    ≡ cond (a && b) (kept_of shown (users ++ user ∷ []) a) (kept_of shown users false)
shape shown users user true true = refl
shape shown users user true false =
    ap (λ (l : List (Option Text)). kept_of shown l false) (append-nil users)
shape shown users user false b =
    ap (λ (l : List (Option Text)). kept_of shown l false) (append-nil users)

-- what the subscribe makes, with the commands behind it
abbrev made : ℕ → World → Text → Text → SubscriptionOptions → List Request → Kept
made line w client text options later = record {
  shown = record { line = line; client = client; user = user_of w.sessions client; filter = text };
  users = users_from (subscription_of client text options)
      (next w (Subscribe client text options)) later;
  is_open = stays_through (subscription_of client text options)
      (next w (Subscribe client text options)) later;
}

made-push : (line : ℕ) (w : World) (client text : Text) (options : SubscriptionOptions)
    (later : List Request) (r : Request)
    → made line w client text options (later ++ r ∷ [])
    ≡ grown (replay (next w (Subscribe client text options)) later) (Some r)
    (made line w client text options later)
made-push line w client text options later r =
    let s : Subscription = subscription_of client text options in
    let first : World = next w (Subscribe client text options) in
    let last : World = replay first later in
    let shown : spec.Subscription = record {
      line = line;
      client = client;
      user = user_of w.sessions client;
      filter = text;
    } in
    let user : Option Text = user_of (next last r).sessions client in
    let a : Bool = stays_through s first later in
    (λ i. kept_of shown (users_from-push s first later r i) (stays_through-push s first later r i))
    ∙ shape shown (users_from s first later) user a (stays s last r)
    ∙ ap (λ b. cond (a && b) (kept_of shown (users_from s first later ++ user ∷ []) a)
    (kept_of shown (users_from s first later) false))
    (stays-options client text options last r)

made_by-push : (line : ℕ) (w : World) (q : Request) (later : List Request) (r : Request)
    → made_by line w q (later ++ r ∷ [])
    ≡ option_map (grown (replay (next w q) later) (Some r)) (made_by line w q later)
made_by-push line w (Subscribe client text options) later r =
    elim (is_taken w (Subscribe client text options))
    as (λ b. cond b (Some (made line w client text options (later ++ r ∷ []))) None
    ≡ option_map (grown (replay (next w (Subscribe client text options)) later) (Some r))
    (cond b (Some (made line w client text options later)) None)) [
      | true ↦ ap (λ k. Some k) (made-push line w client text options later r)
      | false ↦ refl
    ]
made_by-push line w (Connect id user clean interval) later r = refl
made_by-push line w (Disconnect id) later r = refl
made_by-push line w (Unsubscribe id own) later r = refl
made_by-push line w (Publish m) later r = refl
made_by-push line w (SetAcl list) later r = refl
made_by-push line w (Advance seconds) later r = refl
made_by-push line w Stat later r = refl

map-itself : {X : Type 0} (o : Option X) → o ≡ option_map (λ x. x) o
map-itself None = refl
map-itself (Some x) = refl

made_by-more : (line : ℕ) (w : World) (q : Request) (later : List Request) (c : Option Request)
    → made_by line w q (later ++ cons_option c [])
    ≡ option_map (grown (replay (next w q) later) c) (made_by line w q later)
made_by-more line w q later None =
    ap (made_by line w q) (append-nil later) ∙ map-itself (made_by line w q later)
made_by-more line w q later (Some r) = made_by-push line w q later r

said_by-more : (line : ℕ) (w : World) (said : Option Request) (later : List Request)
    (c : Option Request)
    → option_to_list (option_and_then (λ q. made_by line w q (later ++ cons_option c [])) said)
    ≡ map (grown (replay (world_then w said) later) c)
    (option_to_list (option_and_then (λ q. made_by line w q later) said))
said_by-more line w None later c = refl
said_by-more line w (Some q) later c =
    ap option_to_list (made_by-more line w q later c)
    ∙ listed (grown (replay (next w q) later) c) (made_by line w q later)
  where
    listed : {X Y : Type 0} (f : X → Y) (o : Option X)
        → option_to_list (option_map f o) ≡ map f (option_to_list o)
    listed f None = refl
    listed f (Some x) = refl

pub replay-cons : (w : World) (said : Option Request) (rs : List Request)
    → replay w (cons_option said rs) ≡ replay (world_then w said) rs
replay-cons w None rs = refl
replay-cons w (Some q) rs = refl

pub replay-append : (w : World) (rs qs : List Request)
    → replay w (rs ++ qs) ≡ replay (replay w rs) qs
replay-append w [] qs = refl
replay-append w (r ∷ rs) qs = replay-append (next w r) rs qs

-- one more line adds its command, if it has one
pub commands_of-push : (lines : List (List ℕ)) (line : List ℕ)
    → commands_of (lines ++ line ∷ [])
    ≡ commands_of lines ++ cons_option (command_in (reading line)) []
commands_of-push lines line =
    filter_map-append (λ l. command_in (reading l)) lines (line ∷ [])

-- the world behind one more line
pub world_of-push : (lines : List (List ℕ)) (line : List ℕ)
    → world_of (lines ++ line ∷ [])
    ≡ world_then (world_of lines) (command_in (reading line))
world_of-push lines line =
    ap (replay empty_world) (commands_of-push lines line)
    ∙ replay-append empty_world (commands_of lines) (cons_option (command_in (reading line)) [])
    ∙ replay-cons (world_of lines) (command_in (reading line)) []

-- ## One more line

from-push : (count n : ℕ) (w : World) (lines : List (List ℕ)) (line : List ℕ)
    → n ≡ count + length lines + 1
    → subscriptions_from count w (lines ++ line ∷ [])
    ≡ map (grown (replay w (commands_of lines)) (command_in (reading line)))
    (subscriptions_from count w lines)
    ++ option_to_list (option_and_then (λ r. made_by n (replay w (commands_of lines)) r [])
    (command_in (reading line)))
from-push count n w [] line e =
    let c : Option Request = command_in (reading line) in
    let same : count + 1 ≡ n = omega arith in
    append-nil (option_to_list (option_and_then (λ r. made_by (count + 1) w r []) c))
    ∙ ap (λ k. option_to_list (option_and_then (λ r. made_by k w r []) c)) same
from-push count n w (x ∷ lines) line e =
    let c : Option Request = command_in (reading line) in
    let said : Option Request = command_in (reading x) in
    let first : World = world_then w said in
    let last : World = replay first (commands_of lines) in
    let here : List Kept = option_to_list (option_and_then
    (λ q. made_by (count + 1) w q (commands_of lines)) said) in
    let rest : List Kept = subscriptions_from (count + 1) first lines in
    let new : World → List Kept = λ v. option_to_list (option_and_then
    (λ r. made_by n v r []) c) in
    ap (λ later. option_to_list (option_and_then (λ q. made_by (count + 1) w q later) said)
    ++ subscriptions_from (count + 1) first (lines ++ line ∷ [])) (commands_of-push lines line)
    ∙ ap (λ l. l ++ subscriptions_from (count + 1) first (lines ++ line ∷ []))
    (said_by-more (count + 1) w said (commands_of lines) c)
    ∙ ap (λ l. map (grown last c) here ++ l)
    (from-push (count + 1) n first lines line (omega arith))
    ∙ sym (append_assoc (map (grown last c) here) (map (grown last c) rest) (new last))
    ∙ ap (λ l. l ++ new last) (sym (map-append (grown last c) here rest))
    ∙ ap (λ v. map (grown v c) (here ++ rest) ++ new v)
    (sym (replay-cons w said (commands_of lines)))

-- one more line lets the subscriptions grow, and adds what it makes behind them
pub subscriptions-push : (lines : List (List ℕ)) (line : List ℕ)
    → subscriptions (lines ++ line ∷ [])
    ≡ map (grown (world_of lines) (command_in (reading line))) (subscriptions lines)
    ++ option_to_list (option_and_then (λ r. made_by (length lines + 1) (world_of lines) r [])
    (command_in (reading line)))
subscriptions-push lines line = from-push 0 (length lines + 1) empty_world lines line (omega arith)

-- ## What holds of each subscription

-- the text is a subscription; and while its session keeps it, it is among the world's rows, and the client's user name is
-- among those that it had
pub record IsSound (w : World) (kept : Kept) : Type 0 where
  pub valid : is_subscription kept.shown.filter ≡ true
  pub there : kept.is_open ≡ true → is_there (key_of kept.shown) w ≡ true
  pub current : kept.is_open ≡ true → Contains kept.users (user_of w.sessions kept.shown.client)

through-there : (s : Subscription) (w : World) (rs : List Request) → is_there s w ≡ true
    → stays_through s w rs ≡ true → is_there s (replay w rs) ≡ true
through-there s w [] there h = there
through-there s w (r ∷ rs) there h =
    let both = and_parts (stays s w r) (stays_through s (next w r) rs) h in
    through-there s (next w r) rs
    (and_parts (not (makes s w r)) (is_there s (next w r)) both.0).1 both.1

through-current : (s : Subscription) (w : World) (rs : List Request)
    → stays_through s w rs ≡ true
    → Contains (users_from s w rs) (user_of (replay w rs).sessions s.client)
through-current s w [] h = Contains-push [] (user_of w.sessions s.client)
through-current s w (r ∷ rs) h =
    let both = and_parts (stays s w r) (stays_through s (next w r) rs) h in
    let user : Option Text = user_of (replay (next w r) rs).sessions s.client in
    subst (λ b. Contains (user_of w.sessions s.client ∷ cond b (users_from s (next w r) rs) [])
    user) (sym both.0)
    (Contains-append_right (user_of w.sessions s.client ∷ []) (users_from s (next w r) rs) user
    (through-current s (next w r) rs both.1))

made-there : (w : World) (client text : Text) (options : SubscriptionOptions)
    → is_taken w (Subscribe client text options) ≡ true
    → is_there (subscription_of client text options) (next w (Subscribe client text options))
    ≡ true
unfolding after
made-there w client text options h =
    let s : Subscription = subscription_of client text options in
    let row : Row = record { subscription = s; stamp = kept_stamp w s } in
    there-is s (next w (Subscribe client text options))
    ∙ ap (λ (v : World). has_row s v.rows) (next-taken w (Subscribe client text options) h)
    ∙ has_row-with s row w.rows
    ∙ ap (λ b. has_row s w.rows || b) (same_key-itself s)
    ∙ or-true (has_row s w.rows)

made-sound : (line : ℕ) (w : World) (q : Request) (rs : List Request)
    → AllByRecursion (IsSound (replay (next w q) rs)) (option_to_list (made_by line w q rs))
made-sound line w (Subscribe client text options) rs =
    let q : Request = Subscribe client text options in
    let s : Subscription = subscription_of client text options in
    let P : Bool → Type 0 = λ b. is_taken w q ≡ b → AllByRecursion
    (IsSound (replay (next w q) rs))
    (option_to_list (cond b (Some (made line w client text options rs)) None)) in
    (elim (is_taken w q) as P [
      | true ↦ λ h. (
        record {
          valid = subscribe-valid w client text options h;
          there = λ kept. through-there s (next w q) rs (made-there w client text options h)
              kept;
          current = λ kept. through-current s (next w q) rs kept;
        },
        tt,
      )
      | false ↦ λ h. tt
    ]) refl
made-sound line w (Connect id user clean interval) rs = tt
made-sound line w (Disconnect id) rs = tt
made-sound line w (Unsubscribe id own) rs = tt
made-sound line w (Publish m) rs = tt
made-sound line w (SetAcl list) rs = tt
made-sound line w (Advance seconds) rs = tt
made-sound line w Stat rs = tt

from-sound : (count : ℕ) (w : World) (lines : List (List ℕ))
    → AllByRecursion (IsSound (replay w (commands_of lines))) (subscriptions_from count w lines)
from-sound count w [] = tt
from-sound count w (x ∷ lines) =
    let said : Option Request = command_in (reading x) in
    let rs : List Request = commands_of lines in
    subst (λ v. AllByRecursion (IsSound v) (subscriptions_from count w (x ∷ lines)))
    (sym (replay-cons w said rs))
    (all_append (IsSound (replay (world_then w said) rs))
    (option_to_list (option_and_then (λ q. made_by (count + 1) w q rs) said))
    (subscriptions_from (count + 1) (world_then w said) lines)
    (here said) (from-sound (count + 1) (world_then w said) lines))
  where
    here : (said : Option Request)
        → AllByRecursion (IsSound (replay (world_then w said) (commands_of lines)))
        (option_to_list (option_and_then (λ q. made_by (count + 1) w q (commands_of lines)) said))
    here None = tt
    here (Some q) = made-sound (count + 1) w q (commands_of lines)

-- so it is of each subscription of a script
pub all_sound : (lines : List (List ℕ))
    → AllByRecursion (IsSound (world_of lines)) (subscriptions lines)
all_sound lines = from-sound 0 empty_world lines
