-- The row that decides, and what a list allows.
use Rattle.std.proofs.Common.{◌≡◌, ℕ, ◌==◌, Bool, true, false, cond, not, ◌&&◌, ◌||◌, List, []}
use Rattle.std.proofs.Common.{◌∷◌, ◌++◌, bytes_eq, Bor, Option, Some, None, refl, ap, sym, ◌∙◌, if◌then◌else◌}
use Rattle.std.specs.Prelude.{find, is_some}
use Rattle.std.specs.List.{filter, list_any}
use Rattle.std.specs.Option.{option_copied, option_or, unwrap_or}
use Rattle.std.proofs.lemmas.Bool.{and_parts, not-true}
use Rattle.std.proofs.Math.Bool.{and-true, and-false}
use Rattle.mq_acl.specs.Access.{applies, concerns, grants, is_deny}
use Rattle.mq_acl.specs.AccessLists.{allow_by, concerns_by, grant_by, user_by}
use Rattle.mq_acl.specs.Lines.{Access, Read, Write, ReadWrite, Deny}
use Rattle.mq_acl.specs.Mosquitto.{decided, decision, known_user, row_covers}
use Rattle.mq_acl.specs.Refused.{refuses}
use Rattle.mq_acl.specs.Rows.{AclRow, Who}
use Rattle.mq_acl.specs.Rows as rows
use Rattle.mq_acl.specs.RowsByOwner.{is_everyones, is_own}
use Rattle.mq_acl.specs.Views.{row_view, row_views}
use Rattle.mq_acl.specs.declared.access.Direction.{Direction}
use Rattle.mq_acl.specs.declared.access.Direction.TheVariants.{Reading, Writing}
use Rattle.mq_acl.specs.declared.row.Row.{Row}
use Rattle.mq_acl.specs.declared.rules.Rules.{Rules}
use Rattle.mq_acl.specs.declared.rules.Rules.TheVariants.{Own, Mosquitto}
use Rattle.mq_differences.specs.Ranks.{is_judge, judges, rank, rank_of, ranked}
use Rattle.mq_differences.specs.Reasons.{decider, decides_at, first_grant, is_grant, reason_by}
use Rattle.mq_differences.specs.Reasons.{reason_of}
use Rattle.mq_differences.specs.declared.reason.Reason.TheVariants as reasons

-- ---- the first of several lists
pub find_append : {A : Type 0} (p : A → Bool) (xs ys : List A)
    → find p (xs ++ ys) ≡ option_or (find p xs) (find p ys)
find_append p [] ys = refl
find_append p (x ∷ xs) ys = at (p x) (find_append p xs ys)
  where
    at : (b : Bool) → find p (xs ++ ys) ≡ option_or (find p xs) (find p ys)
        → cond b (Some x) (find p (xs ++ ys)) ≡ option_or (cond b (Some x) (find p xs)) (find p ys)
    at true h = refl
    at false h = h

pub find_filter : {A : Type 0} (p q : A → Bool) (xs : List A)
    → find p (filter q xs) ≡ find (λ x. q x && p x) xs
find_filter p q [] = refl
find_filter p q (x ∷ xs) = at (q x) (find_filter p q xs)
  where
    at : (b : Bool) → find p (filter q xs) ≡ find (λ x. q x && p x) xs
        → find p (cond b (x ∷ filter q xs) (filter q xs))
        ≡ cond (b && p x) (Some x) (find (λ x. q x && p x) xs)
    at true h = ap (cond (p x) (Some x)) h
    at false h = h

pub found_passes : {A : Type 0} (p : A → Bool) (xs : List A) (x : A) → find p xs ≡ Some x
    → p x ≡ true
found_passes p [] x h = absurd (cc)
found_passes p (y ∷ xs) x h = at (p y) refl (found_passes p xs x) h
  where
    at : (b : Bool) → p y ≡ b → (find p xs ≡ Some x → p x ≡ true)
        → cond b (Some y) (find p xs) ≡ Some x → p x ≡ true
    at true e later k = let same : y ≡ x = cc in ap p (sym same) ∙ e
    at false e later k = later k

any_filter : {A : Type 0} (p q : A → Bool) (xs : List A)
    → list_any p (filter q xs) ≡ list_any (λ x. q x && p x) xs
any_filter p q [] = refl
any_filter p q (x ∷ xs) = at (q x) (any_filter p q xs)
  where
    at : (b : Bool) → list_any p (filter q xs) ≡ list_any (λ x. q x && p x) xs
        → list_any p (cond b (x ∷ filter q xs) (filter q xs))
        ≡ ((b && p x) || list_any (λ x. q x && p x) xs)
    at true h = ap (λ k. p x || k) h
    at false h = h

pub any_same : (p q : AclRow → Bool) → ((x : AclRow) → p x ≡ q x) → (xs : List AclRow)
    → list_any p xs ≡ list_any q xs
any_same p q h [] = refl
any_same p q h (x ∷ xs) = (λ i. h x i || any_same p q h xs i)

any_none : (xs : List AclRow) → list_any (λ x. false) xs ≡ false
any_none [] = refl
any_none (x ∷ xs) = any_none xs

-- a row of the list passes just where one is found
pub any_found : (p : AclRow → Bool) (rows : List Row)
    → list_any p (row_views rows) ≡ is_some (find (λ row. p (row_view row)) rows)
any_found p [] = refl
any_found p (row ∷ rows) = at (p (row_view row)) (any_found p rows)
  where
    at : (b : Bool) → list_any p (row_views rows) ≡ is_some (find (λ row. p (row_view row)) rows)
        → (b || list_any p (row_views rows)) ≡ is_some
        (cond b (Some row) (find (λ row. p (row_view row)) rows))
    at true h = refl
    at false h = h

-- ---- ranks
-- which rows are of which rank
pub ranks : (e : Bool) (d : Direction) (a : Access)
    → ((is_deny a || grants d a) && (rank_of e (is_deny a) == 0)) ≡ (not e && is_deny a)
    × ((is_deny a || grants d a) && (rank_of e (is_deny a) == 1)) ≡ (not e && grants d a)
    × ((is_deny a || grants d a) && (rank_of e (is_deny a) == 2)) ≡ (e && is_deny a)
    × ((is_deny a || grants d a) && (rank_of e (is_deny a) == 3)) ≡ (e && grants d a)
ranks true Reading Read = (refl, refl, refl, refl)
ranks true Reading Write = (refl, refl, refl, refl)
ranks true Reading ReadWrite = (refl, refl, refl, refl)
ranks true Reading Deny = (refl, refl, refl, refl)
ranks true Writing Read = (refl, refl, refl, refl)
ranks true Writing Write = (refl, refl, refl, refl)
ranks true Writing ReadWrite = (refl, refl, refl, refl)
ranks true Writing Deny = (refl, refl, refl, refl)
ranks false Reading Read = (refl, refl, refl, refl)
ranks false Reading Write = (refl, refl, refl, refl)
ranks false Reading ReadWrite = (refl, refl, refl, refl)
ranks false Reading Deny = (refl, refl, refl, refl)
ranks false Writing Read = (refl, refl, refl, refl)
ranks false Writing Write = (refl, refl, refl, refl)
ranks false Writing ReadWrite = (refl, refl, refl, refl)
ranks false Writing Deny = (refl, refl, refl, refl)

-- all rows of a rank deny, or all of them grant
abbrev pub IsAt : Bool → ℕ → Type 0
IsAt deny place = (pattern d : Bool) → (rank_of pattern d == place) ≡ true → d ≡ deny

at_0 : IsAt true 0
at_0 true true e = absurd (let n : false ≡ true = e in cc)
at_0 true false e = absurd (let n : false ≡ true = e in cc)
at_0 false true e = refl
at_0 false false e = absurd (let n : false ≡ true = e in cc)

at_1 : IsAt false 1
at_1 true true e = absurd (let n : false ≡ true = e in cc)
at_1 true false e = absurd (let n : false ≡ true = e in cc)
at_1 false true e = absurd (let n : false ≡ true = e in cc)
at_1 false false e = refl

at_2 : IsAt true 2
at_2 true true e = refl
at_2 true false e = absurd (let n : false ≡ true = e in cc)
at_2 false true e = absurd (let n : false ≡ true = e in cc)
at_2 false false e = absurd (let n : false ≡ true = e in cc)

at_3 : IsAt false 3
at_3 true true e = absurd (let n : false ≡ true = e in cc)
at_3 true false e = refl
at_3 false true e = absurd (let n : false ≡ true = e in cc)
at_3 false false e = absurd (let n : false ≡ true = e in cc)

rank_denies : (rules : Rules) (deny : Bool) (place : ℕ) → IsAt deny place → (row : AclRow)
    → (rank rules row == place) ≡ true → is_deny row.access ≡ deny
rank_denies Own deny place at row h = at false (is_deny row.access) h
rank_denies Mosquitto deny place at row h = at (is_everyones row.who) (is_deny row.access) h

module _ (rules : Rules) (direction : Direction) (c : AclRow → Bool) where
  -- some row of this rank passes
  abbrev pub some_at : ℕ → List AclRow → Bool
  some_at place all = list_any (λ row. (is_judge direction row
      && (rank rules row == place)) && c row) all

  -- the first of the rows of a rank decides, or what stands behind them
  grants_first : (deny : Bool) (place : ℕ) → IsAt deny place → (xs : List Row) (later : Option Row)
      → is_grant (reason_by (option_or (find (λ row. c (row_view row))
      (ranked rules direction place xs)) later))
      ≡ (if some_at place (row_views xs) then not deny else is_grant (reason_by later))
  grants_first deny place even xs later =
      at (find (λ row. c (row_view row)) (ranked rules direction place xs)) refl
    where
      test : Row → Bool
      test row = (is_judge direction (row_view row) && (rank rules (row_view row) == place))
          && c (row_view row)

      some_is : some_at place (row_views xs)
          ≡ is_some (find (λ row. c (row_view row)) (ranked rules direction place xs))
      some_is = any_found (λ row. (is_judge direction row && (rank rules row == place)) && c row) xs
          ∙ ap is_some (sym (find_filter (λ row. c (row_view row))
          (λ row. is_judge direction (row_view row) && (rank rules (row_view row) == place)) xs))

      says : (d : Bool) (line : ℕ)
          → is_grant (if d then reasons.Deny line else reasons.Grant line) ≡ not d
      says true line = refl
      says false line = refl

      at : (found : Option Row)
          → find (λ row. c (row_view row)) (ranked rules direction place xs) ≡ found
          → is_grant (reason_by (option_or found later))
          ≡ (if some_at place (row_views xs) then not deny else is_grant (reason_by later))
      at None e = sym (ap (λ b. cond b (not deny) (is_grant (reason_by later)))
          (some_is ∙ ap is_some e))
      at (Some row) e =
          let passed = found_passes (λ row. (is_judge direction (row_view row)
          && (rank rules (row_view row) == place)) && c (row_view row)) xs row
          (sym (find_filter (λ row. c (row_view row))
          (λ row. is_judge direction (row_view row) && (rank rules (row_view row) == place)) xs)
          ∙ e) in
          let here = (and_parts (is_judge direction (row_view row)) (rank rules (row_view row) == place)
          (and_parts (is_judge direction (row_view row) && (rank rules (row_view row) == place))
          (c (row_view row)) passed).0).1 in
          says (is_deny (row_view row).access) row.line
          ∙ ap not (rank_denies rules deny place even (row_view row) here)
          ∙ sym (ap (λ b. cond b (not deny) (is_grant (reason_by later)))
          (some_is ∙ ap is_some e))

  -- whether the row that decides grants, by the ranks
  decides_is : (xs : List Row)
      → is_grant (reason_by (find (λ row. c (row_view row)) (judges rules direction xs)))
      ≡ (if some_at 0 (row_views xs) then false else (if some_at 1 (row_views xs) then true
      else (if some_at 2 (row_views xs) then false else some_at 3 (row_views xs))))
  decides_is xs =
      ap (λ k. is_grant (reason_by k))
      (find_append (λ row. c (row_view row)) (ranked rules direction 0 xs)
      (ranked rules direction 1 xs ++ (ranked rules direction 2 xs ++ ranked rules direction 3 xs)))
      ∙ grants_first true 0 at_0 xs _
      ∙ ap (λ b. if some_at 0 (row_views xs) then false else b)
      (ap (λ k. is_grant (reason_by k))
      (find_append (λ row. c (row_view row)) (ranked rules direction 1 xs)
      (ranked rules direction 2 xs ++ ranked rules direction 3 xs))
      ∙ grants_first false 1 at_1 xs _
      ∙ ap (λ b. if some_at 1 (row_views xs) then true else b)
      (ap (λ k. is_grant (reason_by k))
      (find_append (λ row. c (row_view row)) (ranked rules direction 2 xs)
      (ranked rules direction 3 xs))
      ∙ grants_first true 2 at_2 xs _
      ∙ ap (λ b. if some_at 2 (row_views xs) then false else b)
      (ap (λ k. is_grant (reason_by k))
      (sym (or_none (find (λ row. c (row_view row)) (ranked rules direction 3 xs))))
      ∙ grants_first false 3 at_3 xs None
      ∙ itself (some_at 3 (row_views xs)))))
    where
      or_none : (o : Option Row) → option_or o None ≡ o
      or_none None = refl
      or_none (Some x) = refl

      itself : (b : Bool) → (if b then true else false) ≡ b
      itself true = refl
      itself false = refl

-- ---- what a list allows
flip : (c : Bool) {k b : Bool} → k ≡ b → (k && c) ≡ (c && b)
flip true {k} {b} h = and-true k ∙ h
flip false {k} {b} h = and-false k

module _ (client : List ℕ) (user : Option (List ℕ)) (name : List ℕ) (direction : Direction) where
  own_allows : (all : List AclRow) → (if some_at Own direction (concerns client user name) 0 all
      then false else (if some_at Own direction (concerns client user name) 1 all then true
      else (if some_at Own direction (concerns client user name) 2 all then false
      else some_at Own direction (concerns client user name) 3 all)))
      ≡ grant_by Own all client user name direction
  own_allows all =
      (λ i. if any_same _ _ (λ row. flip (concerns client user name row)
      (ranks false direction row.access).0) all i then false
      else (if any_same _ _ (λ row. flip (concerns client user name row)
      (ranks false direction row.access).1) all i then true
      else (if (any_same _ _ (λ row. ap (λ b. b && concerns client user name row)
      (ranks false direction row.access).2) all ∙ any_none all) i then false
      else (any_same _ _ (λ row. ap (λ b. b && concerns client user name row)
      (ranks false direction row.access).3) all ∙ any_none all) i)))
      ∙ at (list_any (λ row. concerns client user name row && is_deny row.access) all)
      (list_any (λ row. concerns client user name row && grants direction row.access) all)
    where
      at : (d g : Bool) → (if d then false else (if g then true else (if false then false else false)))
          ≡ (not d && g)
      at true g = refl
      at false true = refl
      at false false = refl

-- the rows of one kind, in the place of those that are passed over
own_is : (user : Option (List ℕ)) (who : Who)
    → is_own user who ≡ (applies user who && not (is_everyones who))
own_is None rows.Anonymous = refl
own_is (Some u) rows.Anonymous = refl
own_is None (rows.Named n) = refl
own_is (Some u) (rows.Named n) = at (bytes_eq u n)
  where
    at : (b : Bool) → b ≡ (b && true)
    at true = refl
    at false = refl
own_is None rows.Everyone = refl
own_is (Some u) rows.Everyone = refl

every_applies : (user : Option (List ℕ)) (who : Who)
    → is_everyones who ≡ (applies user who && is_everyones who)
every_applies None rows.Anonymous = refl
every_applies (Some u) rows.Anonymous = refl
every_applies None (rows.Named n) = refl
every_applies (Some u) (rows.Named n) = at (bytes_eq u n)
  where
    at : (b : Bool) → false ≡ (b && false)
    at true = refl
    at false = refl
every_applies None rows.Everyone = refl
every_applies (Some u) rows.Everyone = refl

module _ (client : List ℕ) (user : Option (List ℕ)) (name : List ℕ) (direction : Direction) where
  covered : AclRow → Bool
  covered row = row_covers client user name row

  -- rows of one kind that cover the name
  moved : (k e t a r x : Bool) → k ≡ (e && t) → x ≡ (a && e) → (k && (a && r)) ≡ (x && (r && t))
  moved k e t a r x h g = (λ i. h i && (a && r)) ∙ by e t a r ∙ (λ i. sym g i && (r && t))
    where
      by : (e t a r : Bool) → ((e && t) && (a && r)) ≡ ((a && e) && (r && t))
      by true true true r = one r
        where
          one : (r : Bool) → r ≡ (r && true)
          one true = refl
          one false = refl
      by true true false r = refl
      by true false true r = one r
        where
          one : (r : Bool) → false ≡ (r && false)
          one true = refl
          one false = refl
      by true false false r = refl
      by false t true r = refl
      by false t false r = refl

  mosquitto_is : (all : List AclRow)
      → (if some_at Mosquitto direction (concerns_by Mosquitto client user name) 0 all then false
      else (if some_at Mosquitto direction (concerns_by Mosquitto client user name) 1 all then true
      else (if some_at Mosquitto direction (concerns_by Mosquitto client user name) 2 all then false
      else some_at Mosquitto direction (concerns_by Mosquitto client user name) 3 all)))
      ≡ unwrap_or (decided all client user name direction) false
  mosquitto_is all =
      (λ i. if own (λ row. is_deny row.access) 0 (λ row. (ranks (is_everyones row.who) direction
      row.access).0) i then false
      else (if own (λ row. grants direction row.access) 1 (λ row. (ranks (is_everyones row.who)
      direction row.access).1) i then true
      else (if every (λ row. is_deny row.access) 2 (λ row. (ranks (is_everyones row.who) direction
      row.access).2) i then false
      else every (λ row. grants direction row.access) 3 (λ row. (ranks (is_everyones row.who)
      direction row.access).3) i)))
      ∙ at _ _ _ _
    where
      own : (t : AclRow → Bool) (place : ℕ)
          → ((row : AclRow) → (is_judge direction row && (rank Mosquitto row == place))
          ≡ (not (is_everyones row.who) && t row))
          → some_at Mosquitto direction (concerns_by Mosquitto client user name) place all
          ≡ list_any (λ row. row_covers client user name row && t row)
          (filter (λ row. is_own user row.who) all)
      own t place h = any_same _ _ (λ row. moved
          (is_judge direction row && (rank Mosquitto row == place)) (not (is_everyones row.who))
          (t row) (applies user row.who) (row_covers client user name row) (is_own user row.who)
          (h row) (own_is user row.who)) all
          ∙ sym (any_filter (λ row. row_covers client user name row && t row)
          (λ row. is_own user row.who) all)

      every : (t : AclRow → Bool) (place : ℕ)
          → ((row : AclRow) → (is_judge direction row && (rank Mosquitto row == place))
          ≡ (is_everyones row.who && t row))
          → some_at Mosquitto direction (concerns_by Mosquitto client user name) place all
          ≡ list_any (λ row. row_covers client user name row && t row)
          (filter (λ row. is_everyones row.who) all)
      every t place h = any_same _ _ (λ row. moved
          (is_judge direction row && (rank Mosquitto row == place)) (is_everyones row.who)
          (t row) (applies user row.who) (row_covers client user name row) (is_everyones row.who)
          (h row) (every_applies user row.who)) all
          ∙ sym (any_filter (λ row. row_covers client user name row && t row)
          (λ row. is_everyones row.who) all)

      at : (a b c d : Bool)
          → (if a then false else (if b then true else (if c then false else d)))
          ≡ unwrap_or (option_or (decision a b) (decision c d)) false
      at true b c d = refl
      at false true c d = refl
      at false false true d = refl
      at false false false true = refl
      at false false false false = refl

-- what rows grant, by the ranks of those that concern it
pub granted_at : (rules : Rules) (all : List AclRow) (client : List ℕ) (user : Option (List ℕ))
    (name : List ℕ) (direction : Direction)
    → grant_by rules all client user name direction
    ≡ (let c : AclRow → Bool = concerns_by rules client (user_by rules user) name in
    if some_at rules direction c 0 all then false
    else (if some_at rules direction c 1 all then true
    else (if some_at rules direction c 2 all then false else some_at rules direction c 3 all)))
granted_at Own all client user name direction = sym (own_allows client user name direction all)
granted_at Mosquitto all client user name direction =
    sym (mosquitto_is client (known_user user) name direction all)

-- what the broker doesn't refuse by itself the rows decide
pub open_allows : (rules : Rules) (all : List AclRow) (client : List ℕ) (user : Option (List ℕ))
    (name : List ℕ) (direction : Direction) → refuses rules direction name ≡ false
    → allow_by rules all client user name direction ≡ grant_by rules all client user name direction
open_allows rules all client user name direction h =
    ap (λ b. not b && grant_by rules all client user name direction) h

-- what is allowed it doesn't refuse
pub allowed_open : (rules : Rules) (all : List AclRow) (client : List ℕ) (user : Option (List ℕ))
    (name : List ℕ) (direction : Direction)
    → allow_by rules all client user name direction ≡ true → refuses rules direction name ≡ false
allowed_open rules all client user name direction h =
    not-true (refuses rules direction name) (and_parts _ _ h).0

-- what a list allows, by the ranks of the rows that concern it
pub allowed_at : (rules : Rules) (all : List AclRow) (client : List ℕ) (user : Option (List ℕ))
    (name : List ℕ) (direction : Direction) → refuses rules direction name ≡ false
    → allow_by rules all client user name direction
    ≡ (let c : AclRow → Bool = concerns_by rules client (user_by rules user) name in
    if some_at rules direction c 0 all then false
    else (if some_at rules direction c 1 all then true
    else (if some_at rules direction c 2 all then false else some_at rules direction c 3 all)))
allowed_at rules all client user name direction h =
    open_allows rules all client user name direction h
    ∙ granted_at rules all client user name direction

-- the rows decide as they grant
pub granted_is : (rules : Rules) (all : List Row) (client : List ℕ) (user : Option (List ℕ))
    (name : List ℕ) (direction : Direction)
    → grant_by rules (row_views all) client user name direction
    ≡ is_grant (reason_by (decider rules all client user name direction))
granted_is rules all client user name direction =
    granted_at rules (row_views all) client user name direction
    ∙ sym (decides_is rules direction (concerns_by rules client (user_by rules user) name) all)

-- and the reason is as the list allows
pub allowed_is : (rules : Rules) (all : List Row) (client : List ℕ) (user : Option (List ℕ))
    (name : List ℕ) (direction : Direction)
    → allow_by rules (row_views all) client user name direction
    ≡ is_grant (reason_of rules all client user name direction)
allowed_is rules all client user name direction =
    at (refuses rules direction name) (granted_is rules all client user name direction)
  where
    at : (b : Bool) {g : Bool} → g ≡ is_grant (reason_by (decider rules all client user name direction))
        → (not b && g) ≡ is_grant (if b then reasons.Broker
        else reason_by (decider rules all client user name direction))
    at true e = refl
    at false e = e

-- it is the row's, where the broker doesn't refuse it by itself
pub open_reason : (rules : Rules) (all : List Row) (client : List ℕ) (user : Option (List ℕ))
    (name : List ℕ) (direction : Direction) → refuses rules direction name ≡ false
    → reason_of rules all client user name direction
    ≡ reason_by (decider rules all client user name direction)
open_reason rules all client user name direction h =
    ap (λ b. if b then reasons.Broker else reason_by (decider rules all client user name direction)) h

-- ---- rank by rank
find_same : (p q : Row → Bool) → ((x : Row) → p x ≡ q x) → (xs : List Row)
    → find p xs ≡ find q xs
find_same p q h [] = refl
find_same p q h (x ∷ xs) = (λ i. cond (h x i) (Some x) (find_same p q h xs i))

find_never : (xs : List Row) → find (λ (x : Row). false) xs ≡ None
find_never [] = refl
find_never (x ∷ xs) = find_never xs

no_both : (d : Direction) (a : Access) → (is_deny a && grants d a) ≡ false
no_both d Read = refl
no_both d Write = refl
no_both d ReadWrite = refl
no_both Reading Deny = refl
no_both Writing Deny = refl

module _ (rules : Rules) (direction : Direction) (client : List ℕ) (user : Option (List ℕ))
    (topic : List ℕ) (xs : List Row) where
  abbrev found_at : ℕ → Option Row
  found_at place =
      find (λ (r : Row). decides_at rules direction place client user topic (row_view r)) xs

  of_rank : (place : ℕ) → find (λ (r : Row). concerns_by rules client (user_by rules user) topic
      (row_view r)) (ranked rules direction place xs) ≡ found_at place
  of_rank place = find_filter (λ (r : Row). concerns_by rules client (user_by rules user) topic
      (row_view r)) (λ (r : Row). is_judge direction (row_view r)
      && (rank rules (row_view r) == place)) xs

  -- the row that decides, of the first rank where one concerns the topic
  pub decider_ranks : decider rules xs client user topic direction
      ≡ option_or (option_or (found_at 0) (found_at 1)) (option_or (found_at 2) (found_at 3))
  decider_ranks =
      let p : Row → Bool = (λ (r : Row). concerns_by rules client (user_by rules user) topic
      (row_view r)) in
      find_append p (ranked rules direction 0 xs) _
      ∙ (λ i. option_or (of_rank 0 i) ((find_append p (ranked rules direction 1 xs) _
      ∙ (λ i. option_or (of_rank 1 i) ((find_append p (ranked rules direction 2 xs)
      (ranked rules direction 3 xs)
      ∙ (λ i. option_or (of_rank 2 i) (of_rank 3 i))) i))) i))
      ∙ by (found_at 0) (found_at 1) (found_at 2) (found_at 3)
    where
      by : (a b d e : Option Row) → option_or a (option_or b (option_or d e))
          ≡ option_or (option_or a b) (option_or d e)
      by (Some x) b d e = refl
      by None b d e = refl

  -- rows of an even rank deny, and grant nothing
  grants_even : (place : ℕ)
      → ((row : AclRow) → ((is_judge direction row && (rank rules row == place))
      && grants direction row.access) ≡ false)
      → find (λ (r : Row). concerns_by rules client (user_by rules user) topic (row_view r)
      && grants direction (row_view r).access) (ranked rules direction place xs) ≡ None
  grants_even place h =
      find_filter (λ (r : Row). concerns_by rules client (user_by rules user) topic (row_view r)
      && grants direction (row_view r).access) (λ (r : Row). is_judge direction (row_view r)
      && (rank rules (row_view r) == place)) xs
      ∙ find_same _ (λ (r : Row). false) (λ r. by
      (is_judge direction (row_view r) && (rank rules (row_view r) == place))
      (concerns_by rules client (user_by rules user) topic (row_view r))
      (grants direction (row_view r).access) (h (row_view r))) xs
      ∙ find_never xs
    where
      by : (j k g : Bool) → (j && g) ≡ false → (j && (k && g)) ≡ false
      by true true g e = e
      by true false g e = refl
      by false k g e = refl

  -- those of an odd one grant
  grants_odd : (place : ℕ)
      → ((row : AclRow) → ((is_judge direction row && (rank rules row == place))
      && not (grants direction row.access)) ≡ false)
      → find (λ (r : Row). concerns_by rules client (user_by rules user) topic (row_view r)
      && grants direction (row_view r).access) (ranked rules direction place xs) ≡ found_at place
  grants_odd place h =
      find_filter (λ (r : Row). concerns_by rules client (user_by rules user) topic (row_view r)
      && grants direction (row_view r).access) (λ (r : Row). is_judge direction (row_view r)
      && (rank rules (row_view r) == place)) xs
      ∙ find_same _ (λ (r : Row). decides_at rules direction place client user topic (row_view r))
      (λ r. by (is_judge direction (row_view r) && (rank rules (row_view r) == place))
      (concerns_by rules client (user_by rules user) topic (row_view r))
      (grants direction (row_view r).access) (h (row_view r))) xs
    where
      by : (j k g : Bool) → (j && not g) ≡ false → (j && (k && g)) ≡ (j && k)
      by true true true e = refl
      by true true false e = absurd (let n : true ≡ false = e in cc)
      by true false g e = refl
      by false k g e = refl

-- what rows of a rank do
even_grants : (rules : Rules) (direction : Direction) (place : ℕ) (row : AclRow)
    → ((e : Bool) → ((is_deny row.access || grants direction row.access)
    && (rank_of e (is_deny row.access) == place)) && grants direction row.access ≡ false)
    → ((is_judge direction row && (rank rules row == place)) && grants direction row.access) ≡ false
even_grants Own direction place row h = h false
even_grants Mosquitto direction place row h = h (is_everyones row.who)

odd_grants : (rules : Rules) (direction : Direction) (place : ℕ) (row : AclRow)
    → ((e : Bool) → ((is_deny row.access || grants direction row.access)
    && (rank_of e (is_deny row.access) == place)) && not (grants direction row.access) ≡ false)
    → ((is_judge direction row && (rank rules row == place)) && not (grants direction row.access))
    ≡ false
odd_grants Own direction place row h = h false
odd_grants Mosquitto direction place row h = h (is_everyones row.who)

-- a rank's test, then what rows of that rank don't do
none_by : (k a b g : Bool) → k ≡ (a && b) → (b && g) ≡ false → (k && g) ≡ false
none_by k a b g h e = ap (λ t. t && g) h ∙ at a b g e
  where
    at : (a b g : Bool) → (b && g) ≡ false → ((a && b) && g) ≡ false
    at true b g e = e
    at false b g e = refl

self_not : (g : Bool) → (g && not g) ≡ false
self_not true = refl
self_not false = refl

-- the first row that grants, of the first such rank where one concerns the topic
pub grant_ranks : (rules : Rules) (direction : Direction) (client : List ℕ)
    (user : Option (List ℕ)) (topic : List ℕ) (xs : List Row)
    → first_grant rules xs client user topic direction
    ≡ option_or (found_at rules direction client user topic xs 1)
    (found_at rules direction client user topic xs 3)
grant_ranks rules direction client user topic xs =
    let p : Row → Bool = (λ (r : Row). concerns_by rules client (user_by rules user) topic
    (row_view r) && grants direction (row_view r).access) in
    let g : AclRow → Bool = (λ (row : AclRow). grants direction row.access) in
    find_append p (ranked rules direction 0 xs) _
    ∙ (λ i. option_or (grants_even rules direction client user topic xs 0 (λ row. even_grants rules
    direction 0 row (λ e. none_by _ (not e) (is_deny row.access) (g row)
    (ranks e direction row.access).0 (no_both direction row.access))) i)
    ((find_append p (ranked rules direction 1 xs) _
    ∙ (λ i. option_or (grants_odd rules direction client user topic xs 1 (λ row. odd_grants rules
    direction 1 row (λ e. none_by _ (not e) (g row) (not (g row)) (ranks e direction row.access).1
    (self_not (g row)))) i)
    ((find_append p (ranked rules direction 2 xs) (ranked rules direction 3 xs)
    ∙ (λ i. option_or (grants_even rules direction client user topic xs 2 (λ row. even_grants rules
    direction 2 row (λ e. none_by _ e (is_deny row.access) (g row)
    (ranks e direction row.access).2 (no_both direction row.access))) i)
    (grants_odd rules direction client user topic xs 3 (λ row. odd_grants rules
    direction 3 row (λ e. none_by _ e (g row) (not (g row)) (ranks e direction row.access).3
    (self_not (g row)))) i))) i))) i))

-- what is lent
pub copied_or : (a b : Option (Bor Row)) → option_copied (option_or a b)
    ≡ option_or (option_copied a) (option_copied b)
copied_or (Some x) b = refl
copied_or None b = refl
