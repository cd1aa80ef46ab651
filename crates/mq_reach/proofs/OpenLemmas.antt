-- Which tracked subscriptions are open, and their places.
use Rattle.std.proofs.Common.{◌≡◌, ℕ, ◌+◌, Bool, true, false, cond, ◌&&◌}
use Rattle.std.proofs.Common.{List, [], ◌∷◌, ◌++◌, length, map, Option}
use Rattle.std.proofs.Common.{None, refl, sym, ◌∙◌, ap, subst, arith}
use Rattle.std.proofs.Common.{inl, inr}
use Rattle.std.specs.Bool.{MatchBool}
use Rattle.std.specs.List.{AllZip, filter}
use Rattle.std.proofs.Math.Bool.{and-false}
use Rattle.std.proofs.lemmas.Bool.{and_parts}
use Rattle.mq_acl.specs.AccessLists.{AccessList}
use Rattle.mq_world.specs.Lists.{Text, same_text}
use Rattle.mq_world.proofs.BoolLemmas.{pick}
use Rattle.mq_world.proofs.OrderLemmas.{same_text-is}
use Rattle.mq_reach.specs.Subscriptions as spec
use Rattle.mq_reach.specs.Tracked.{IsAsked, TrackedSubscription, Where, closed_if}
use Rattle.mq_reach.specs.Tracked.{is_open}
use Rattle.mq_reach.specs.Tracked.{is_open_at, is_open_of, is_to, places_from}
use Rattle.mq_reach.proofs.PlaceLemmas.{Relation, Test, Ts, kept-places, places-zip}

-- ## Those that are closed

abbrev pub Closes : Option Text → Relation
Closes filter old new = new ≡ closed_if (is_to filter old) old

-- to close those at the places of a test is to close those that pass
pub closes-map : (p : Test) (filter : Option Text) (ts us : Ts)
    → AllZip (Where p (Closes filter)) ts us
    → us ≡ map (λ t. closed_if (p t && is_to filter t) t) ts
closes-map p filter [] [] z = refl
closes-map p filter [] (u ∷ us) z = absurd z
closes-map p filter (t ∷ ts) [] z = absurd z
closes-map p filter (t ∷ ts) (u ∷ us) z =
    (λ i. one (p t) z.0 i ∷ closes-map p filter ts us z.1 i)
  where
    one : (b : Bool) → MatchBool b (u ≡ closed_if (is_to filter t) t) (u ≡ t)
        → u ≡ closed_if (b && is_to filter t) t
    one true e = e
    one false e = e

-- so it is if all of them are closed
pub closes_all-map : (p : Test) (ts us : Ts) → AllZip (Where p (Closes None)) ts us
    → us ≡ map (λ t. closed_if (p t) t) ts
closes_all-map p [] [] z = refl
closes_all-map p [] (u ∷ us) z = absurd z
closes_all-map p (t ∷ ts) [] z = absurd z
closes_all-map p (t ∷ ts) (u ∷ us) z = (λ i. one (p t) z.0 i ∷ closes_all-map p ts us z.1 i)
  where
    one : (b : Bool) → MatchBool b (u ≡ closed_if true t) (u ≡ t) → u ≡ closed_if b t
    one true e = e
    one false e = e

-- ## Which are open then

-- what becomes of one is of the same subscription
abbrev pub Keeps : Relation → Type 0
Keeps R = (t u : TrackedSubscription) → R t u → u.shown ≡ t.shown

pub Closes-keeps : (filter : Option Text) → Keeps (Closes filter)
Closes-keeps filter t u e =
    ap (λ (v : TrackedSubscription). v.shown) e ∙ closed (is_to filter t)
  where
    closed : (b : Bool) → (closed_if b t).shown ≡ t.shown
    closed true = refl
    closed false = refl

pub IsAsked-keeps : (list : AccessList) (user : Option Text) → Keeps (IsAsked list user)
IsAsked-keeps list user t u (inl h) = ap (λ (v : TrackedSubscription). v.shown) h.0
IsAsked-keeps list user t u (inr h) = ap (λ (v : TrackedSubscription). v.shown) h.0

its_client : (client : Text) (t : TrackedSubscription) → is_open_of client t ≡ true
    → same_text t.shown.client client ≡ true
its_client client t h = (and_parts (is_open t.state) (same_text t.shown.client client) h).1

-- of this client those are open that were, and still are
open-its : (client : Text) (R : Relation) → Keeps R → (t u : TrackedSubscription)
    → Where (is_open_of client) R t u
    → is_open_of client u ≡ (is_open_of client t && is_open u.state)
open-its client R keeps t u w =
    pick (is_open_of client t)
    (λ e. ap (λ (s : spec.Subscription). is_open u.state && same_text s.client client)
    (keeps t u (subst (λ b. MatchBool b (R t u) (u ≡ t)) e w))
    ∙ ap (λ b. is_open u.state && b) (its_client client t e) ∙ and_true (is_open u.state)
    ∙ sym (ap (λ b. b && is_open u.state) e))
    (λ e. ap (is_open_of client) (subst (λ b. MatchBool b (R t u) (u ≡ t)) e w) ∙ e
    ∙ sym (ap (λ b. b && is_open u.state) e))
  where
    and_true : (b : Bool) → (b && true) ≡ b
    and_true true = refl
    and_true false = refl

-- of another client, those that were
open-other : (client other : Text) (R : Relation) → Keeps R → same_text client other ≡ false
    → (t u : TrackedSubscription) → Where (is_open_of client) R t u
    → is_open_of other u ≡ is_open_of other t
open-other client other R keeps apart t u w =
    pick (is_open_of client t)
    (λ e. (let its : t.shown.client ≡ client =
    same_text-is t.shown.client client (its_client client t e) in
    let none : same_text t.shown.client other ≡ false =
    ap (λ c. same_text c other) its ∙ apart in
    ap (λ (s : spec.Subscription). is_open u.state && same_text s.client other)
    (keeps t u (subst (λ b. MatchBool b (R t u) (u ≡ t)) e w))
    ∙ ap (λ b. is_open u.state && b) none ∙ and-false (is_open u.state)
    ∙ sym (ap (λ b. is_open t.state && b) none ∙ and-false (is_open t.state))))
    (λ e. ap (is_open_of other) (subst (λ b. MatchBool b (R t u) (u ≡ t)) e w))

-- the places of each client, where those of this one that aren't open any more are dropped
pub reindexed : (client : Text) (R : Relation) → Keeps R → (ts us : Ts)
    → AllZip (Where (is_open_of client) R) ts us → (old new : Text → List ℕ)
    → ((other : Text) → old other ≡ places_from 0 (is_open_of other) ts)
    → new client ≡ filter (is_open_at us) (old client)
    → ((other : Text) → same_text client other ≡ false → new other ≡ old other)
    → (other : Text) → new other ≡ places_from 0 (is_open_of other) us
reindexed client R keeps ts us z old new was its others other =
    pick (same_text client other)
    (λ e. subst (λ d. new d ≡ places_from 0 (is_open_of d) us) (same_text-is client other e)
    (its ∙ ap (filter (is_open_at us)) (was client)
    ∙ kept-places (is_open_of client) (is_open_of client) R (open-its client R keeps) ts us [] 0
    refl z))
    (λ e. others other e ∙ was other
    ∙ sym (places-zip (is_open_of client) (is_open_of other) (is_open_of other) R
    (open-other client other R keeps e) ts us 0 z))

none-left : (client : Text) (ts us : Ts) (n : ℕ)
    → AllZip (Where (is_open_of client) (Closes None)) ts us
    → places_from n (is_open_of client) us ≡ []
none-left client [] [] n z = refl
none-left client [] (u ∷ us) n z = absurd z
none-left client (t ∷ ts) [] n z = absurd z
none-left client (t ∷ ts) (u ∷ us) n z =
    ap (λ b. cond b (n ∷ places_from (n + 1) (is_open_of client) us)
    (places_from (n + 1) (is_open_of client) us))
    (pick (is_open_of client t)
    (λ e. ap (is_open_of client)
    (subst (λ b. MatchBool b (u ≡ closed_if true t) (u ≡ t)) e z.0))
    (λ e. ap (is_open_of client)
    (subst (λ b. MatchBool b (u ≡ closed_if true t) (u ≡ t)) e z.0) ∙ e))
    ∙ none-left client ts us (n + 1) z.1

-- the places of each client, where this one has none any more
pub unindexed : (client : Text) (ts us : Ts)
    → AllZip (Where (is_open_of client) (Closes None)) ts us → (old new : Text → List ℕ)
    → ((other : Text) → old other ≡ places_from 0 (is_open_of other) ts)
    → new client ≡ []
    → ((other : Text) → same_text client other ≡ false → new other ≡ old other)
    → (other : Text) → new other ≡ places_from 0 (is_open_of other) us
unindexed client ts us z old new was its others other =
    pick (same_text client other)
    (λ e. subst (λ d. new d ≡ places_from 0 (is_open_of d) us) (same_text-is client other e)
    (its ∙ sym (none-left client ts us 0 z)))
    (λ e. others other e ∙ was other
    ∙ sym (places-zip (is_open_of client) (is_open_of other) (is_open_of other) (Closes None)
    (open-other client other (Closes None) (Closes-keeps None) e) ts us 0 z))

-- ## One more

places-push : (n m : ℕ) (p : Test) (ts : Ts) (t : TrackedSubscription) → m ≡ n + length ts
    → places_from n p (ts ++ t ∷ []) ≡ places_from n p ts ++ cond (p t) (m ∷ []) []
places-push n m p [] t e = ap (λ k. cond (p t) (k ∷ []) []) (let same : n ≡ m = omega arith in same)
places-push n m p (x ∷ ts) t e =
    let rest = places-push (n + 1) m p ts t (omega arith) in
    elim (p x) as (λ b. cond b (n ∷ places_from (n + 1) p (ts ++ t ∷ []))
    (places_from (n + 1) p (ts ++ t ∷ []))
    ≡ cond b (n ∷ places_from (n + 1) p ts) (places_from (n + 1) p ts)
    ++ cond (p t) (m ∷ []) []) [
      | true ↦ ap (λ l. n ∷ l) rest
      | false ↦ rest
    ]

-- the places of each client, with that of one more behind those of its client
pub indexed-push : (ts : Ts) (t : TrackedSubscription) (place : ℕ) (old new : Text → List ℕ)
    → place ≡ length ts → is_open t.state ≡ true
    → ((other : Text) → old other ≡ places_from 0 (is_open_of other) ts)
    → ((other : Text) → new other ≡ old other ++ cond (same_text t.shown.client other) (place ∷ []) [])
    → (other : Text) → new other ≡ places_from 0 (is_open_of other) (ts ++ t ∷ [])
indexed-push ts t place old new e still was now other =
    now other ∙ ap (λ l. l ++ cond (same_text t.shown.client other) (place ∷ []) []) (was other)
    ∙ sym (places-push 0 place (is_open_of other) ts t (omega arith)
    ∙ ap (λ b. places_from 0 (is_open_of other) ts
    ++ cond (b && same_text t.shown.client other) (place ∷ []) []) still)
