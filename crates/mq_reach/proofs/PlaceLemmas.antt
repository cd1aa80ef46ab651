-- Tracked subscriptions at places, which are walked one by one.
use Rattle.std.proofs.Common.{◌≡◌, ◌<◌, ℕ, suc, ◌+◌, Bool, true, false, cond, ◌&&◌}
use Rattle.std.proofs.Common.{List, [], ◌∷◌, ◌++◌, length, map}
use Rattle.std.proofs.Common.{All, refl, sym, ◌∙◌, ap, subst, append_assoc, arith}
use Rattle.std.proofs.Common.{length-append}
use Rattle.std.specs.Bool.{MatchBool}
use Rattle.std.specs.List.{AllZip, filter}
use Rattle.std.proofs.lemmas.List.Elements.{All-cons, All-nil}
use Rattle.std.proofs.lemmas.List.Elements.{All-weaker}
use Rattle.mq_reach.specs.Tracked.{TrackedSubscription, Where, entry_view}
use Rattle.mq_reach.specs.Tracked.{is_open}
use Rattle.mq_reach.specs.Tracked.{is_open_at, places_from}
use Rattle.mq_reach.specs.declared.tracked.Entry.{Entry}

abbrev pub Ts : Type 0
Ts = List TrackedSubscription

abbrev pub Test : Type 0
Test = TrackedSubscription → Bool

abbrev pub Relation : Type 1
Relation = TrackedSubscription → TrackedSubscription → Type 0

-- ## Places one by one

-- at this place it becomes so, and the others stay
abbrev pub At : Relation → ℕ → Ts → Ts → Type 0
At R n ts us = (front : Ts) × (t : TrackedSubscription) × (u : TrackedSubscription) × (back : Ts)
    × (length front ≡ n) × (ts ≡ front ++ t ∷ back) × (us ≡ front ++ u ∷ back) × R t u

-- so at all these places, in turn
abbrev pub Steps : Relation → List ℕ → Ts → Ts → Type 0
Steps R [] ts us = us ≡ ts
Steps R (n ∷ ns) ts us = (mid : Ts) × At R n ts mid × Steps R ns mid us

cons_same : {X : Type 0} (x y : X) (xs ys : List X) → x ∷ xs ≡ y ∷ ys → (x ≡ y) × (xs ≡ ys)
cons_same x y xs ys e = (cc, cc)

-- what follows a front of the same length is the same
parted : {X : Type 0} (front pre : List X) (t x : X) (back xs : List X)
    → length front ≡ length pre → pre ++ x ∷ xs ≡ front ++ t ∷ back
    → (front ≡ pre) × (t ≡ x) × (back ≡ xs)
parted [] [] t x back xs l e = (refl, cc, cc)
parted [] (p ∷ pre) t x back xs l e = absurd (omega arith)
parted (f ∷ front) [] t x back xs l e = absurd (omega arith)
parted (f ∷ front) (p ∷ pre) t x back xs l e =
    let both = cons_same p f (pre ++ x ∷ xs) (front ++ t ∷ back) e in
    let rest = parted front pre t x back xs (omega arith) both.1 in
    ((λ i. sym both.0 i ∷ rest.0 i), rest.1, rest.2)

at-place : (R : Relation) (pre : Ts) (x : TrackedSubscription) (xs us : Ts) (n : ℕ)
    → length pre ≡ n → At R n (pre ++ x ∷ xs) us
    → (u : TrackedSubscription) × (us ≡ pre ++ u ∷ xs) × R x u
at-place R pre x xs us n l at =
    let same = parted at.0 pre at.1 x at.3 xs (at.4 ∙ sym l) at.5 in (
      at.2,
      at.6 ∙ (λ i. same.0 i ++ at.2 ∷ same.2 i),
      subst (λ t. R t at.2) same.1 at.7,
    )

pub longer : (pre : Ts) (t : TrackedSubscription) (n : ℕ) → length pre ≡ n
    → length (pre ++ t ∷ []) ≡ n + 1
longer pre t n l = rw (length-append pre (t ∷ [])) (omega arith)

-- the places of those that pass are walked: each of those becomes so
pub steps-zip : (R : Relation) (p : Test) (ts pre us : Ts) (n : ℕ) → length pre ≡ n
    → Steps R (places_from n p ts) (pre ++ ts) us
    → (vs : Ts) × (us ≡ pre ++ vs) × AllZip (Where p R) ts vs
steps-zip R p [] pre us n l steps = ([], steps, tt)
steps-zip R p (t ∷ ts) pre us n l steps =
    let P : Bool → Type 0 = λ b. p t ≡ b
    → Steps R (cond b (n ∷ places_from (n + 1) p ts) (places_from (n + 1) p ts)) (pre ++ t ∷ ts) us
    → (vs : Ts) × (us ≡ pre ++ vs) × AllZip (Where p R) (t ∷ ts) vs in
    (elim (p t) as P [
      | true ↦ λ e s. (let at = at-place R pre t ts s.0 n l s.1 in
          let rest = steps-zip R p ts (pre ++ at.0 ∷ []) us (n + 1) (longer pre at.0 n l)
          (subst (λ (m : Ts). Steps R (places_from (n + 1) p ts) m us)
          (at.1 ∙ sym (append_assoc pre (at.0 ∷ []) ts)) s.2) in (
            at.0 ∷ rest.0,
            rest.1 ∙ append_assoc pre (at.0 ∷ []) rest.0,
            (subst (λ b. MatchBool b (R t at.0) (at.0 ≡ t)) (sym e) at.2, rest.2),
          ))
      | false ↦ λ e s. (let rest = steps-zip R p ts (pre ++ t ∷ []) us (n + 1) (longer pre t n l)
          (subst (λ (m : Ts). Steps R (places_from (n + 1) p ts) m us)
          (sym (append_assoc pre (t ∷ []) ts)) s) in (
            t ∷ rest.0,
            rest.1 ∙ append_assoc pre (t ∷ []) rest.0,
            (subst (λ b. MatchBool b (R t t) (t ≡ t)) (sym e) refl, rest.2),
          ))
    ]) refl steps

-- ## Which places those are

places-within : (n : ℕ) (p : Test) (ts : Ts)
    → All (λ place. place < n + length ts) (places_from n p ts)
places-within n p [] = All-nil (λ place. place < n + 0)
places-within n p (t ∷ ts) =
    let rest : All (λ place. place < n + suc (length ts)) (places_from (n + 1) p ts) =
    All-weaker (λ place. place < (n + 1) + length ts) (λ place. place < n + suc (length ts))
    (λ place h. omega arith) (places_from (n + 1) p ts) (places-within (n + 1) p ts) in
    elim (p t) as (λ b. All (λ place. place < n + suc (length ts))
    (cond b (n ∷ places_from (n + 1) p ts) (places_from (n + 1) p ts))) [
      | true ↦ All-cons (λ place. place < n + suc (length ts)) n (places_from (n + 1) p ts)
          (omega arith) rest
      | false ↦ rest
    ]

-- they are places of the list
pub places_in : (p : Test) (entries : List Entry) (places : List ℕ)
    → places ≡ places_from 0 p (map entry_view entries)
    → All (λ place. place < length entries) places
places_in p entries places e =
    subst (λ (l : List ℕ). All (λ place. place < length entries) l) (sym e)
    (All-weaker (λ place. place < 0 + length (map entry_view entries))
    (λ place. place < length entries)
    (λ place h. (let same : length (map entry_view entries) ≡ length entries =
    mapped entries in omega arith)) (places_from 0 p (map entry_view entries))
    (places-within 0 p (map entry_view entries)))
  where
    mapped : (es : List Entry) → length (map entry_view es) ≡ length es
    mapped [] = refl
    mapped (e ∷ es) = ap (λ n. suc n) (mapped es)

-- another test of the second ones that says the same as a test of the first ones has the same places
pub places-zip : (p q r : Test) (R : Relation)
    → ((t u : TrackedSubscription) → Where p R t u → r u ≡ q t) → (ts us : Ts) (n : ℕ)
    → AllZip (Where p R) ts us → places_from n r us ≡ places_from n q ts
places-zip p q r R same [] [] n z = refl
places-zip p q r R same [] (u ∷ us) n z = absurd z
places-zip p q r R same (t ∷ ts) [] n z = absurd z
places-zip p q r R same (t ∷ ts) (u ∷ us) n z =
    (λ i. cond (same t u z.0 i) (n ∷ places-zip p q r R same ts us (n + 1) z.1 i)
    (places-zip p q r R same ts us (n + 1) z.1 i))

got : (pre : Ts) (u : TrackedSubscription) (us : Ts) (n : ℕ) → length pre ≡ n
    → is_open_at (pre ++ u ∷ us) n ≡ is_open u.state
got pre u us n l =
    subst (λ (k : ℕ). is_open_at (pre ++ u ∷ us) k ≡ is_open u.state) l (there pre)
  where
    there : (pre : Ts) → is_open_at (pre ++ u ∷ us) (length pre) ≡ is_open u.state
    there [] = refl
    there (p ∷ pre) = there pre

-- the places of those that passed, without those that aren't open any more
pub kept-places : (p q : Test) (R : Relation)
    → ((t u : TrackedSubscription) → Where p R t u → q u ≡ (p t && is_open u.state))
    → (ts us pre : Ts) (n : ℕ) → length pre ≡ n → AllZip (Where p R) ts us
    → filter (is_open_at (pre ++ us)) (places_from n p ts) ≡ places_from n q us
kept-places p q R same [] [] pre n l z = refl
kept-places p q R same [] (u ∷ us) pre n l z = absurd z
kept-places p q R same (t ∷ ts) [] pre n l z = absurd z
kept-places p q R same (t ∷ ts) (u ∷ us) pre n l z =
    let still : ℕ → Bool = is_open_at (pre ++ u ∷ us) in
    let left : List ℕ = filter still (places_from (n + 1) p ts) in
    let rest : left ≡ places_from (n + 1) q us =
    subst (λ (m : Ts). filter (is_open_at m) (places_from (n + 1) p ts) ≡ places_from (n + 1) q us)
    (append_assoc pre (u ∷ []) us)
    (kept-places p q R same ts us (pre ++ u ∷ []) (n + 1) (longer pre u n l) z.1) in
    (elim (p t) as (λ b. filter still (cond b (n ∷ places_from (n + 1) p ts)
    (places_from (n + 1) p ts)) ≡ cond (b && is_open u.state) (n ∷ left) left) [
      | true ↦ ap (λ b. cond b (n ∷ left) left) (got pre u us n l)
      | false ↦ refl
    ])
    ∙ (λ i. cond (sym (same t u z.0) i) (n ∷ rest i) (rest i))

-- ## Those that no place names

-- where none passes, each may become what it likes
pub none-places : (p : Test) (R : Relation) (ts : Ts) (n : ℕ) → places_from n p ts ≡ []
    → AllZip (Where p R) ts ts
none-places p R [] n e = tt
none-places p R (t ∷ ts) n e =
    let P : Bool → Type 0 = λ b. p t ≡ b
    → cond b (n ∷ places_from (n + 1) p ts) (places_from (n + 1) p ts) ≡ []
    → AllZip (Where p R) (t ∷ ts) (t ∷ ts) in
    (elim (p t) as P [
      | true ↦ λ h k. cc
      | false ↦ λ h k. (
        subst (λ b. MatchBool b (R t t) (t ≡ t)) (sym h) refl,
        none-places p R ts (n + 1) k,
      )
    ]) refl e
