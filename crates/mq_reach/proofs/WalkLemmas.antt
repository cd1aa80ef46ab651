-- A walk over entries, place by place.
use Rattle.std.proofs.Common.{◌≡◌, ◌<◌, ◌≤◌, ◌==◌, ℕ, zero, suc, ◌+◌, Bool, true, false, cond, ◌&&◌}
use Rattle.std.proofs.Common.{not, List, [], ◌∷◌, ◌++◌, length, map, drop, set, get_or, Option, Some}
use Rattle.std.proofs.Common.{None, All, refl, sym, ◌∙◌, ap, subst, append_assoc, arith}
use Rattle.std.proofs.Common.{add-one, drop-cons, Result, Ok, Err}
use Rattle.std.specs.Result.{OnOk}
use Rattle.std.specs.List.{AllZip, cons_option}
use Rattle.std.specs.Option.{option_map, option_to_list}
use Rattle.std.proofs.lemmas.Bool.{and_from}
use Rattle.std.proofs.lemmas.Bool.Decides.{Decides-eqb}
use Rattle.std.proofs.lemmas.List.Elements.{All-cons, All-drop, All-get_or, All-head, All-nil}
use Rattle.std.proofs.lemmas.List.{map-append}
use Rattle.std.proofs.lemmas.List.Elements.{All-tail, All-weaker, filter_map-append}
use Rattle.std.proofs.lemmas.List.Folds.{list_any_at}
use Rattle.mq_acl.specs.AccessLists.{AccessList}
use Rattle.mq_world.specs.Lists.{Text}
use Rattle.mq_reach.specs.Faults.{IsAskFault, IsFaultOpen, is_long_now, is_short_question}
use Rattle.mq_reach.specs.Subscriptions as spec
use Rattle.mq_reach.specs.Tracked.{TrackedSubscription, Where, entry_view}
use Rattle.mq_reach.specs.Tracked.{is_open_of, places_from, subscription_view}
use Rattle.mq_reach.specs.declared.question.SearchFault.{SearchFault}
use Rattle.mq_reach.specs.declared.question.SearchFault.TheVariants as search
use Rattle.mq_reach.specs.Tracked.{subscription_views, shown_of, unreached_of}
use Rattle.mq_reach.specs.declared.subscription.Subscription.{Subscription}
use Rattle.mq_reach.specs.declared.tracked.Entry.{Entry}
use Rattle.mq_reach.proofs.PlaceLemmas.{At, Relation, Steps, Test, Ts, longer, steps-zip}

-- ## A walk

-- an entry that is set becomes so at its place
pub at-set : (R : Relation) (es : List Entry) (n : ℕ) (e d : Entry) → n < length es
    → R (entry_view (get_or es n d)) (entry_view e)
    → At R n (map entry_view es) (map entry_view (set es n e))
at-set R [] n e d low r = absurd (omega arith)
at-set R (x ∷ es) zero e d low r = (
  [],
  entry_view x,
  entry_view e,
  map entry_view es,
  refl,
  refl,
  refl,
  r,
)
at-set R (x ∷ es) (suc n) e d low r =
    let at = at-set R es n e d (omega arith) r in (
      entry_view x ∷ at.0,
      at.1,
      at.2,
      at.3,
      ap (λ k. suc k) at.4,
      ap (λ l. entry_view x ∷ l) at.5,
      ap (λ l. entry_view x ∷ l) at.6,
      at.7,
    )

-- what is left of a walk, behind one more place
pub steps-more : (R : Relation) (places : List ℕ) (i : ℕ) (es fs : List Entry) (us : Ts)
    → i < length places
    → At R (get_or places i 0) (map entry_view es) (map entry_view fs)
    → Steps R (drop (i + 1) places) (map entry_view fs) us
    → Steps R (drop i places) (map entry_view es) us
steps-more R places i es fs us low at steps =
    subst (λ ns. Steps R ns (map entry_view es) us) (sym (drop-one places i low))
    (map entry_view fs, at, steps)
  where
    drop-one : (ns : List ℕ) (i : ℕ) → i < length ns
        → drop i ns ≡ get_or ns i 0 ∷ drop (i + 1) ns
    drop-one ns i low = rw (add-one, drop-cons ns i 0) refl

-- a walk that is over
pub steps-done : (R : Relation) (places : List ℕ) (i : ℕ) (ts : Ts) → length places ≤ i
    → Steps R (drop i places) ts ts
steps-done R places i ts over =
    subst (λ ns. Steps R ns ts ts) (sym (drop-all places i over)) refl
  where
    drop-all : (ns : List ℕ) (i : ℕ) → length ns ≤ i → drop i ns ≡ []
    drop-all [] zero over = refl
    drop-all [] (suc i) over = refl
    drop-all (n ∷ ns) zero over = absurd (omega arith)
    drop-all (n ∷ ns) (suc i) over = drop-all ns i (omega arith)

-- what is shown of each entry
abbrev pub shown_all : List Entry → List spec.Subscription
shown_all es = map (λ e. subscription_view e.subscription) es

-- an entry that is set with the same subscription
pub shown-set : (es : List Entry) (n : ℕ) (e d : Entry) → n < length es
    → subscription_view e.subscription ≡ subscription_view (get_or es n d).subscription
    → shown_all (set es n e) ≡ shown_all es
shown-set [] n e d low same = refl
shown-set (x ∷ es) zero e d low same = ap (λ s. s ∷ shown_all es) same
shown-set (x ∷ es) (suc n) e d low same =
    ap (λ l. subscription_view x.subscription ∷ l) (shown-set es n e d (omega arith) same)

passing : (p : Test) (ts pre : Ts) (n : ℕ) → length pre ≡ n
    → All (λ k. (d : TrackedSubscription) → p (get_or (pre ++ ts) k d) ≡ true) (places_from n p ts)
passing p [] pre n l = All-nil (λ k. (d : TrackedSubscription) → p (get_or (pre ++ []) k d) ≡ true)
passing p (t ∷ ts) pre n l =
    let G : ℕ → Type 0 = λ k. (d : TrackedSubscription) → p (get_or (pre ++ t ∷ ts) k d) ≡ true in
    let rest : All G (places_from (n + 1) p ts) =
    subst (λ (m : Ts). All (λ k. (d : TrackedSubscription) → p (get_or m k d) ≡ true)
    (places_from (n + 1) p ts)) (append_assoc pre (t ∷ []) ts)
    (passing p ts (pre ++ t ∷ []) (n + 1) (longer pre t n l)) in
    let P : Bool → Type 0 = λ b. p t ≡ b
    → All G (cond b (n ∷ places_from (n + 1) p ts) (places_from (n + 1) p ts)) in
    (elim (p t) as P [
      | true ↦ λ e. All-cons G n (places_from (n + 1) p ts) (λ d. ap p (here pre n l d) ∙ e) rest
      | false ↦ λ e. rest
    ]) refl
  where
    here : (pre : Ts) (n : ℕ) → length pre ≡ n → (d : TrackedSubscription)
        → get_or (pre ++ t ∷ ts) n d ≡ t
    here [] zero l d = refl
    here [] (suc n) l d = absurd (omega arith)
    here (x ∷ pre) zero l d = absurd (omega arith)
    here (x ∷ pre) (suc n) l d = here pre n (omega arith) d

shown-at : (es fs : List Entry) (n : ℕ) (d : Entry) → shown_all es ≡ shown_all fs
    → n < length es → n < length fs
    → subscription_view (get_or es n d).subscription
    ≡ subscription_view (get_or fs n d).subscription
shown-at [] fs n d same low high = absurd (omega arith)
shown-at (e ∷ es) [] n d same low high = absurd (omega arith)
shown-at (e ∷ es) (f ∷ fs) zero d same low high = cc
shown-at (e ∷ es) (f ∷ fs) (suc n) d same low high =
    let rest : shown_all es ≡ shown_all fs = cc in
    shown-at es fs n d rest (omega arith) (omega arith)

mapped-at : (es : List Entry) (n : ℕ) (d : Entry) → n < length es
    → get_or (map entry_view es) n (entry_view d) ≡ entry_view (get_or es n d)
mapped-at [] n d low = absurd (omega arith)
mapped-at (e ∷ es) zero d low = refl
mapped-at (e ∷ es) (suc n) d low = mapped-at es n d (omega arith)

pub mapped-long : (es : List Entry) → length (map entry_view es) ≡ length es
mapped-long [] = refl
mapped-long (e ∷ es) = ap (λ n. suc n) (mapped-long es)

-- what is shown of the entry at a place of a walk over this client's is shown of one of them
pub fault-at : (list : AccessList) (client : Text) (user : Option Text) (es fs : List Entry)
    (places : List ℕ) (i : ℕ) (d : Entry) (fault : SearchFault) → shown_all es ≡ shown_all fs
    → length es ≡ length fs
    → i < length places → get_or places i 0 < length es
    → places ≡ places_from 0 (is_open_of client) (map entry_view fs)
    → IsAskFault list (subscription_view (get_or es (get_or places i 0) d).subscription) user fault
    → IsFaultOpen list client user (map entry_view fs) fault
fault-at list client user es fs places i d search.Memory same long low within are is = tt
fault-at list client user es fs places i d (search.Row line) same long low within are is = absurd is
fault-at list client user es fs places i d (search.Subscription line) same long low within are is =
    let n : ℕ = get_or places i 0 in
    let ts : Ts = map entry_view fs in
    let t : TrackedSubscription = get_or ts n (entry_view d) in
    let high : n < length fs = omega arith in
    let shown : subscription_view (get_or es n d).subscription ≡ t.shown =
    shown-at es fs n d same within high
    ∙ sym (ap (λ (v : TrackedSubscription). v.shown) (mapped-at fs n d high)) in
    let pass : is_open_of client t ≡ true =
    All-get_or (λ k. (e : TrackedSubscription) → is_open_of client (get_or ts k e) ≡ true) places i
    0 low (subst (λ (ns : List ℕ). All (λ k. (e : TrackedSubscription)
    → is_open_of client (get_or ts k e) ≡ true) ns) (sym are) (passing (is_open_of client) ts [] 0
    refl)) (entry_view d) in
    list_any_at (is_long_now list line client user) ts n (entry_view d)
    (let count : length ts ≡ length fs = mapped-long fs in omega arith)
    (and_from (is_open_of client t)
    ((t.shown.line == line) && not (is_short_question list t.shown user))
    pass (and_from (t.shown.line == line) (not (is_short_question list t.shown user))
    ((Decides-eqb t.shown.line line).1
    (sym (ap (λ (s : spec.Subscription). s.line) shown) ∙ is.0))
    (ap not (sym (ap (λ (s : spec.Subscription). is_short_question list s user) shown) ∙ is.1))))

-- ## A walk from its start to its end

-- where the places are those that pass, each of those becomes so
pub walked : (R : Relation) (p : Test) (ts us : Ts) (places : List ℕ) → places ≡ places_from 0 p ts
    → Steps R places ts us → AllZip (Where p R) ts us
walked R p ts us places is steps =
    let zip = steps-zip R p ts [] us 0 refl (subst (λ ns. Steps R ns ts us) is steps) in
    subst (AllZip (Where p R) ts) (sym zip.1) zip.2

at-itself : (R : Relation) → ((t : TrackedSubscription) → R t t) → (ts : Ts) (n : ℕ)
    → n < length ts → At R n ts ts
at-itself R same [] n low = absurd (omega arith)
at-itself R same (t ∷ ts) zero low = ([], t, t, ts, refl, refl, refl, same t)
at-itself R same (t ∷ ts) (suc n) low =
    let at = at-itself R same ts n (omega arith) in (
      t ∷ at.0,
      at.1,
      at.2,
      at.3,
      ap (λ k. suc k) at.4,
      ap (λ l. t ∷ l) at.5,
      ap (λ l. t ∷ l) at.6,
      at.7,
    )

-- a walk may leave all as they are
pub steps-itself : (R : Relation) → ((t : TrackedSubscription) → R t t) → (places : List ℕ)
    (ts : Ts) → All (λ n. n < length ts) places → Steps R places ts ts
steps-itself R same [] ts low = refl
steps-itself R same (n ∷ places) ts low = (
  ts,
  at-itself R same ts n (All-head (λ k. k < length ts) n places low),
  steps-itself R same places ts (All-tail (λ k. k < length ts) n places low),
)

-- the places that are left are within
pub left-within : (es fs : List Entry) (places : List ℕ) (i : ℕ) → length es ≡ length fs
    → All (λ place. place < length es) places
    → All (λ n. n < length (map entry_view fs)) (drop i places)
left-within es fs places i same within =
    All-weaker (λ n. n < length es) (λ n. n < length (map entry_view fs))
    (λ n h. (let count : length (map entry_view fs) ≡ length fs = mapped-long fs in omega arith))
    (drop i places) (All-drop (λ n. n < length es) i places within)

-- ## What is shown

-- one more entry, and what is shown of it
pub shown-more : (shown : List Subscription) (es : List Entry) (e : Entry) (o : Option Subscription)
    → subscription_views shown ≡ unreached_of (map entry_view es)
    → option_map subscription_view o ≡ shown_of (entry_view e)
    → subscription_views (shown ++ option_to_list o) ≡ unreached_of (map entry_view (es ++ e ∷ []))
shown-more shown es e o are is =
    map-append subscription_view shown (option_to_list o)
    ∙ (λ i. are i ++ listed o i)
    ∙ ap (λ l. unreached_of (map entry_view es) ++ cons_option l []) is
    ∙ sym (filter_map-append shown_of (map entry_view es) (entry_view e ∷ []))
    ∙ sym (ap unreached_of (map-append entry_view es (e ∷ [])))
  where
    listed : (o : Option Subscription) → map subscription_view (option_to_list o)
        ≡ cons_option (option_map subscription_view o) []
    listed None = refl
    listed (Some s) = refl

-- what follows from what holds at success holds then
pub then_ok : {X E : Type 0} {P Q : Type 0} (r : Result X E) → (P → Q) → OnOk r P → OnOk r Q
then_ok (Ok x) f h = f h
then_ok (Err e) f h = h
