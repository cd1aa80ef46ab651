-- The sessions that have ended, and the one that is taken first.
use Rattle.std.proofs.Common.{◌≡◌, ℕ, ◌+◌, ◌==◌, nat_le, Bool, true, false, true≢false}
use Rattle.std.proofs.Common.{cond, ◌||◌, not, List, [], ◌∷◌, length, Option, Some, None}
use Rattle.std.proofs.Common.{refl, sym, ◌∙◌, ap, subst}
use Rattle.std.specs.Option.{option_map, option_map_or, IfSome}
use Rattle.std.specs.List.{filter, list_any, AllByRecursion}
use Rattle.std.specs.List.Sorted.{IsStrictlySortedBy}
use Rattle.std.specs.declared.cmp.Ordering.TheVariants.{Less}
use Rattle.std.specs.Ordering.{is_eq}
use Rattle.std.proofs.lemmas.Map.Text.{is_eq-slice_cmp}
use Rattle.std.proofs.lemmas.Bool.{or_parts, and_parts}
use Rattle.std.proofs.Math.Bool.{or-true}
use borrow.Author.Tests.{eqb-true}
use Rattle.mq_sessions.specs.Dues.{Due, first_of, same_due, is_in, AreRest}
use Rattle.mq_world.specs.World.{Session, Connected, Away, has_id, session_cmp}
use Rattle.mq_world.specs.Lists.{Text, same_text}
use Rattle.mq_world.specs.Clock.{is_over}
use Rattle.mq_world.specs.Sessions.{has_ended, is_among}
use Rattle.mq_world.proofs.BoolLemmas.{pick}
use Rattle.mq_world.proofs.ListLemmas.{any-none}
use Rattle.mq_world.proofs.OrderLemmas.{all_weaker, all_filtered, text_flip, same_text-is}
use Rattle.mq_sessions.specs.Ends.{has_end, IsListed, AreListed, IsFirstLive}
use Rattle.mq_sessions.proofs.EndLemmas.{ends-id, ends-moment, ends-other, listed-taken, or_right}

-- ## Whether a session has ended

any_weaker : (p q : Session → Bool) → ((s : Session) → p s ≡ true → q s ≡ true)
    → (ss : List Session) → list_any p ss ≡ true → list_any q ss ≡ true
any_weaker p q step [] h = h
any_weaker p q step (s ∷ ss) h =
    pick (p s) (λ t. ap (λ b. b || list_any q ss) (step s t))
    (λ f. ap (λ b. q s || b) (any_weaker p q step ss (or_right (p s) (list_any p ss) f h))
    ∙ or-true (q s))

-- the first end in the index has come
pub any-first : (moment : ℕ) (dues : List Due) (ss : List Session) → IsFirstLive moment dues ss
    → option_map_or (λ due. nat_le due.0 moment) (first_of dues) false ≡ true
    → list_any (has_ended moment) ss ≡ true
any-first moment [] ss live h = absurd (true≢false (sym h))
any-first moment (d ∷ ds) ss live h =
    any_weaker (has_end d) (has_ended moment) (λ s. ends-moment moment d s h) ss (live h)

in-late : (moment : ℕ) (d : Due) (dues : List Due) → is_in d dues ≡ true
    → list_any (λ due. nat_le due.0 moment) dues ≡ false → nat_le d.0 moment ≡ false
in-late moment d [] h none = absurd (true≢false (sym h))
in-late moment d (x ∷ xs) h none =
    let apart : (nat_le x.0 moment ≡ false)
    × (list_any (λ due. nat_le due.0 moment) xs ≡ false) = or_parts (nat_le x.0 moment) _ none in
    pick (same_due d x)
    (λ t. ap (λ n. nat_le n moment) (eqb-true d.0 x.0 (and_parts (d.0 == x.0) _ t).0) ∙ apart.0)
    (λ f. in-late moment d xs (or_right (same_due d x) (is_in d xs) f h) apart.1)

-- no end in the index has come
pub none-until : (moment : ℕ) (dues : List Due) (ss : List Session) → AreListed dues ss
    → list_any (λ due. nat_le due.0 moment) dues ≡ false
    → list_any (has_ended moment) ss ≡ false
none-until moment dues ss listed none =
    any-none (has_ended moment) ss
    (all_weaker (IsListed dues) (λ s. has_ended moment s ≡ false) step ss listed)
  where
    step : (s : Session) → IsListed dues s → has_ended moment s ≡ false
    step s = elim s.presence as (λ p. IfSome (elim p [ Connected ↦ None | Away end ↦ end ])
        (λ end. is_in (end, s.id) dues ≡ true)
        → elim p [ Connected ↦ false | Away end ↦ is_over moment end ] ≡ false) [
          | Connected ↦ λ k. refl
          | Away end ↦ elim end as (λ o. IfSome o (λ end. is_in (end, s.id) dues ≡ true)
              → is_over moment o ≡ false) [
                | None ↦ λ k. refl
                | Some e ↦ λ k. in-late moment (e, s.id) dues k none
              ]
        ]

-- a test that agrees with all ends and with the first one shows whether a session has ended
pub any-is : (moment : ℕ) (dues : List Due) (ss : List Session) → AreListed dues ss
    → IsFirstLive moment dues ss → (b : Bool) → b ≡ list_any (λ due. nat_le due.0 moment) dues
    → b ≡ option_map_or (λ due. nat_le due.0 moment) (first_of dues) false
    → b ≡ list_any (has_ended moment) ss
any-is moment dues ss listed live true all first =
    sym (any-first moment dues ss live (sym first))
any-is moment dues ss listed live false all first =
    sym (none-until moment dues ss listed (sym all))

-- ## A session that has ended

other_id : (id : Text) (x y : Session) → has_id id x ≡ true → session_cmp x y ≡ Less
    → has_id id y ≡ false
other_id id x y h less =
    ap (λ t. same_text y.id t) (sym (same_text-is x.id id h)) ∙ text_flip y.id x.id
    ∙ sym (is_eq-slice_cmp x.id y.id) ∙ ap is_eq less

-- the client of an end in the index that has come is among those whose sessions have ended
pub among-ended : (moment : ℕ) (f : Due) (ss : List Session) → nat_le f.0 moment ≡ true
    → list_any (has_end f) ss ≡ true → is_among (filter (has_ended moment) ss) f.1 ≡ true
among-ended moment f [] h any = any
among-ended moment f (x ∷ xs) h any =
    let ended : List Session = filter (has_ended moment) xs in
    let P : Bool → Type 0 = λ b. has_ended moment x ≡ b
    → list_any (has_id f.1) (cond b (x ∷ ended) ended) ≡ true in
    (elim (has_ended moment x) as P [
      | true ↦ λ e. pick (has_end f x)
          (λ t. ap (λ b. b || list_any (has_id f.1) ended) (ends-id f x t))
          (λ fails. ap (λ b. has_id f.1 x || b)
          (among-ended moment f xs h (or_right (has_end f x) (list_any (has_end f) xs) fails any))
          ∙ or-true (has_id f.1 x))
      | false ↦ λ e. pick (has_end f x)
          (λ t. absurd (true≢false (sym (ends-moment moment f x h t) ∙ e)))
          (λ fails. among-ended moment f xs h
          (or_right (has_end f x) (list_any (has_end f) xs) fails any))
    ]) refl

none-other : (q : Session → Bool) (id : Text) (x : Session) (ys : List Session)
    → has_id id x ≡ true → AllByRecursion (λ y. session_cmp x y ≡ Less) ys
    → list_any (has_id id) (filter q ys) ≡ false
none-other q id x ys h less =
    any-none (has_id id) (filter q ys)
    (all_filtered (λ y. has_id id y ≡ false) q ys
    (all_weaker (λ y. session_cmp x y ≡ Less) (λ y. has_id id y ≡ false) (λ y. other_id id x y h)
    ys less))

none-ends : (f : Due) (x : Session) (ys : List Session) → has_id f.1 x ≡ true
    → AllByRecursion (λ y. session_cmp x y ≡ Less) ys → list_any (has_end f) ys ≡ false
none-ends f x ys h less =
    any-none (has_end f) ys
    (all_weaker (λ y. session_cmp x y ≡ Less) (λ y. has_end f y ≡ false)
    (λ y l. ends-other f y (other_id f.1 x y h l)) ys less)

-- none of the sessions that stay is of the client of an end in the index that has come
pub only-ended : (moment : ℕ) (f : Due) (ss : List Session) → nat_le f.0 moment ≡ true
    → IsStrictlySortedBy session_cmp ss → list_any (has_end f) ss ≡ true
    → is_among (filter (λ s. not (has_ended moment s)) ss) f.1 ≡ false
unfolding IsStrictlySortedBy
only-ended moment f [] h s any = refl
only-ended moment f (x ∷ xs) h s any =
    let stay : List Session = filter (λ s. not (has_ended moment s)) xs in
    pick (has_end f x)
    (λ t. ap (λ b. list_any (has_id f.1) (cond (not b) (x ∷ stay) stay))
    (ends-moment moment f x h t)
    ∙ none-other (λ s. not (has_ended moment s)) f.1 x xs (ends-id f x t) s.0)
    (λ fails. (
    let rest : list_any (has_end f) xs ≡ true =
    or_right (has_end f x) (list_any (has_end f) xs) fails any in
    let other : has_id f.1 x ≡ false = pick (has_id f.1 x)
    (λ t. absurd (true≢false (sym rest ∙ none-ends f x xs t s.0))) (λ e. e) in
    let left : list_any (has_id f.1) stay ≡ false = only-ended moment f xs h s.1 rest in
    elim (has_ended moment x)
    as (λ b. list_any (has_id f.1) (cond (not b) (x ∷ stay) stay) ≡ false) [
      | true ↦ left
      | false ↦ ap (λ b. b || list_any (has_id f.1) stay) other ∙ left
    ]))

-- ## The first is taken

abbrev IsFirstId : Text → List Due → Type 0
IsFirstId id dues = Some id ≡ option_map (λ due. due.1) (first_of dues)

text_same : (x y : Text) → ◌≡◌ {A = Option Text} (Some x) (Some y) → x ≡ y
text_same x y h = cc

-- the ends of the others are listed once the first end and its client's sessions are gone
pub taken-listed : (id : Text) (dues rest : List Due) (ss : List Session) → IsFirstId id dues
    → AreRest dues rest → AreListed dues ss
    → AreListed rest (filter (λ s. not (has_id id s)) ss)
taken-listed id [] rest ss is left listed = cc
taken-listed id (d ∷ ds) rest ss is left listed =
    subst (λ t. AreListed rest (filter (λ s. not (has_id t s)) ss)) (sym (text_same id d.1 is))
    (listed-taken d (d ∷ ds) rest ss refl left listed)

-- an index is shorter by one without the end whose id was taken
pub taken-shorter : (id : Text) (dues rest : List Due) → IsFirstId id dues → AreRest dues rest
    → length rest + 1 ≡ length dues
taken-shorter id [] rest is left = cc
taken-shorter id (d ∷ ds) rest is left = sym left.count

-- the client that the first end names, if that has come, is among those whose sessions ended
pub taken-ended : (moment : ℕ) (id : Text) (dues : List Due) (ss : List Session)
    → IsFirstId id dues → IsFirstLive moment dues ss
    → option_map_or (λ due. nat_le due.0 moment) (first_of dues) false ≡ true
    → is_among (filter (has_ended moment) ss) id ≡ true
taken-ended moment id [] ss is live come = cc
taken-ended moment id (d ∷ ds) ss is live come =
    subst (λ t. is_among (filter (has_ended moment) ss) t ≡ true) (sym (text_same id d.1 is))
    (among-ended moment d ss come (live come))

-- none of the sessions that stay is of the client that the first end names, if that has come
pub taken-only : (moment : ℕ) (id : Text) (dues : List Due) (ss : List Session)
    → IsFirstId id dues → IsFirstLive moment dues ss
    → option_map_or (λ due. nat_le due.0 moment) (first_of dues) false ≡ true
    → IsStrictlySortedBy session_cmp ss
    → is_among (filter (λ s. not (has_ended moment s)) ss) id ≡ false
taken-only moment id [] ss is live come sorted = cc
taken-only moment id (d ∷ ds) ss is live come sorted =
    subst (λ t. is_among (filter (λ s. not (has_ended moment s)) ss) t ≡ false)
    (sym (text_same id d.1 is)) (only-ended moment d ss come sorted (live come))
