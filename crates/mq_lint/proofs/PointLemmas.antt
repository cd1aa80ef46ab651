-- What a list, and the list without a row, allow a client.
use Rattle.std.proofs.Common.{◌≡◌, ◌≢◌, ℕ, ◌==◌, Bool, true, false, not, ◌&&◌, ◌||◌, List, []}
use Rattle.std.proofs.Common.{◌∷◌, Option, All, get_or, refl, sym, ap, ◌∙◌, inl, inr}
use Rattle.std.proofs.Common.{if◌then◌else◌}
use Rattle.std.specs.Prelude.{nat_lt}
use Rattle.std.specs.List.{filter, list_any}
use Rattle.std.proofs.lemmas.Bool.{and_parts, cases_Bool}
use Rattle.std.proofs.lemmas.List.Elements.{All-head, All-tail}
use Rattle.std.proofs.lemmas.List.Folds.{list_any-append}
use Rattle.std.proofs.Math.Bool.{and-false}
use Rattle.mq_acl.specs.AccessLists.{allow_by, concerns_by, grant_by}
use Rattle.mq_acl.specs.Access.{is_deny}
use Rattle.mq_acl.specs.Refused.{refuses}
use Rattle.mq_acl.specs.Rows.{AclRow}
use Rattle.mq_acl.specs.RowsByOwner.{is_everyones}
use Rattle.mq_acl.specs.declared.access.Direction.{Direction}
use Rattle.mq_acl.specs.declared.rules.Rules.{Rules}
use Rattle.mq_acl.specs.declared.rules.Rules.TheVariants.{Own, Mosquitto}
use Rattle.mq_witness.specs.Asked.{AskedRows, is_client_of}
use Rattle.mq_witness.specs.Rows.{is_name_of}
use Rattle.mq_shapes.specs.declared.clients.Clients.{Clients}
use Rattle.mq_differences.specs.ByOwner.{is_for, is_own}
use Rattle.mq_differences.specs.Classes.{can_be_user}
use Rattle.mq_differences.specs.Ranks.{is_judge, rank, rank_of}
use Rattle.mq_differences.proofs.DeciderLemmas.{any_same, granted_at, open_allows, some_at}
use Rattle.mq_differences.proofs.FirstLemmas.{none_at}
use Rattle.mq_differences.proofs.PointLemmas.{applies_for, concerned_applies, user_as_it_is}
use Rattle.mq_lint.specs.Needless.{same_row, without}
use Rattle.mq_lint.specs.Cases.{has_row, is_at, is_before, others_of}
use Rattle.mq_lint.proofs.SameLemmas.{any_kept, any_with}

-- ---- rows for clients of a class
-- a row that passes is for these clients
abbrev pub AreFor : (AclRow → Bool) → Clients → List AclRow → Type 0
AreFor q c rows = All (λ r. q r ≡ true → is_for c r.who ≡ true) rows

-- each row that concerns a topic, for a client that is asked about, is for the clients
pub for_clients : (asked : AskedRows) (c : Clients) (client name : List ℕ)
    (user : Option (List ℕ)) → is_client_of asked c user ≡ true
    → AreFor (concerns_by asked.rules client user name) c asked.rows
for_clients asked c client name user fits = λ k d low e.
    let r = get_or asked.rows k d in
    applies_for asked c user r fits
    (λ u f. none_at (λ row. is_name_of u row.who) asked.rows f k d low)
    (concerned_applies asked.rules client name user r e)

split : (e o s : AclRow → Bool) (rows : List AclRow)
    → All (λ r. s r ≡ true → (e r || o r) ≡ true) rows
    → (list_any (λ r. e r && s r) rows || list_any (λ r. o r && s r) rows) ≡ list_any s rows
split e o s [] h = refl
split e o s (r ∷ rs) h =
    at (e r) (o r) (s r) (list_any (λ r. e r && s r) rs) (list_any (λ r. o r && s r) rs)
    (list_any s rs) (All-head (λ r. s r ≡ true → (e r || o r) ≡ true) r rs h)
    (split e o s rs (All-tail (λ r. s r ≡ true → (e r || o r) ≡ true) r rs h))
  where
    at : (e o s a b c : Bool) → (s ≡ true → (e || o) ≡ true) → (a || b) ≡ c
        → (((e && s) || a) || ((o && s) || b)) ≡ (s || c)
    at true o true a b c f h = refl
    at true true false a b c f h = h
    at true false false a b c f h = h
    at false true true true b c f h = refl
    at false true true false b c f h = refl
    at false true false a b c f h = h
    at false false true a b c f h = absurd (let q : false ≡ true = f refl in cc)
    at false false false a b c f h = h

kept_twice : (q n e : AclRow → Bool) (rows : List AclRow)
    → list_any q (filter n (filter e rows)) ≡ list_any (λ r. e r && (n r && q r)) rows
kept_twice q n e rows = any_kept q n (filter e rows) ∙ any_kept (λ r. n r && q r) e rows

also : (p t : AclRow → Bool) (c : Clients) (rows : List AclRow) → AreFor p c rows
    → AreFor (λ r. t r && p r) c rows
also p t c rows h = λ k d low e.
    h k d low (and_parts (t (get_or rows k d)) (p (get_or rows k d)) e).1

-- of the other rows for these clients one passes where one of all other rows does
pub any_others : (q : AclRow → Bool) (c : Clients) (row : AclRow) (rows : List AclRow)
    → AreFor q c rows → list_any q (others_of c row rows) ≡ list_any q (without row rows)
any_others q c row rows h =
    let n : AclRow → Bool = (λ r. not (same_row r row)) in
    list_any-append q (without row (filter (λ r. is_everyones r.who) rows))
    (without row (filter (λ r. is_own c r.who) rows))
    ∙ (λ i. kept_twice q n (λ r. is_everyones r.who) rows i
    || kept_twice q n (λ r. is_own c r.who) rows i)
    ∙ split (λ r. is_everyones r.who) (λ r. is_own c r.who) (λ r. n r && q r) rows
    (also q n c rows h)
    ∙ sym (any_kept q n rows)

swapped : (p t : AclRow → Bool) (rows : List AclRow)
    → list_any (λ r. t r && p r) rows ≡ list_any (λ r. p r && t r) rows
swapped p t [] = refl
swapped p t (r ∷ rs) = (λ i. both (t r) (p r) i || swapped p t rs i)
  where
    both : (a b : Bool) → (a && b) ≡ (b && a)
    both true true = refl
    both true false = refl
    both false true = refl
    both false false = refl

-- so it is of those of them that pass a test
pub any_tested : (p t : AclRow → Bool) (c : Clients) (row : AclRow) (rows : List AclRow)
    → AreFor p c rows
    → list_any p (filter t (others_of c row rows)) ≡ list_any (λ r. p r && t r) (without row rows)
any_tested p t c row rows h =
    any_kept p t (others_of c row rows)
    ∙ any_others (λ r. t r && p r) c row rows (also p t c rows h)
    ∙ swapped p t (without row rows)

-- ---- by ranks
rank_cases : (P : ℕ → Type 0) → P 0 → P 1 → P 2 → P 3 → (rules : Rules) (row : AclRow)
    → P (rank rules row)
rank_cases P a b c d Own row = at (is_deny row.access)
  where
    at : (deny : Bool) → P (rank_of false deny)
    at true = a
    at false = b
rank_cases P a b c d Mosquitto row = at (is_everyones row.who) (is_deny row.access)
  where
    at : (pattern deny : Bool) → P (rank_of pattern deny)
    at false true = a
    at false false = b
    at true true = c
    at true false = d

-- there are four
pub no_4 : (rules : Rules) (row : AclRow) → (rank rules row == 4) ≡ false
no_4 = rank_cases (λ v. (v == 4) ≡ false) refl refl refl refl

pub no_5 : (rules : Rules) (row : AclRow) → (rank rules row == 5) ≡ false
no_5 = rank_cases (λ v. (v == 5) ≡ false) refl refl refl refl

pub no_6 : (rules : Rules) (row : AclRow) → (rank rules row == 6) ≡ false
no_6 = rank_cases (λ v. (v == 6) ≡ false) refl refl refl refl

-- one of two tests passes
parts : (j s t c x y : Bool)
    → ((((j && s) && c) || x) || (((j && t) && c) || y)) ≡ (((j && (s || t)) && c) || (x || y))
parts false s t c x y = refl
parts true true t true x y = refl
parts true false true true true y = refl
parts true false true true false y = refl
parts true false false true x y = refl
parts true true true false x y = refl
parts true true false false x y = refl
parts true false true false x y = refl
parts true false false false x y = refl

any_two : (j s t c : AclRow → Bool) (rows : List AclRow)
    → (list_any (λ r. (j r && s r) && c r) rows || list_any (λ r. (j r && t r) && c r) rows)
    ≡ list_any (λ r. (j r && (s r || t r)) && c r) rows
any_two j s t c [] = refl
any_two j s t c (r ∷ rs) =
    parts (j r) (s r) (t r) (c r) (list_any (λ r. (j r && s r) && c r) rs)
    (list_any (λ r. (j r && t r) && c r) rs)
    ∙ (λ i. ((j r && (s r || t r)) && c r) || any_two j s t c rs i)

turned : (c j t : Bool) → (c && (j && t)) ≡ ((j && t) && c)
turned true true true = refl
turned true true false = refl
turned true false t = refl
turned false true true = refl
turned false true false = refl
turned false false t = refl

module _ (rules : Rules) (direction : Direction) (c : AclRow → Bool) where
  abbrev some : ℕ → List AclRow → Bool
  some place rows = some_at rules direction c place rows

  abbrev below : ℕ → List AclRow → Bool
  below place rows = list_any (λ r. c r && is_before rules direction place r) rows

  below_by : (place : ℕ) (t : AclRow → Bool) (rows : List AclRow)
      → ((r : AclRow) → nat_lt (rank rules r) place ≡ t r)
      → below place rows ≡ list_any (λ r. (is_judge direction r && t r) && c r) rows
  below_by place t rows h =
      any_same (λ r. c r && is_before rules direction place r)
      (λ r. (is_judge direction r && t r) && c r)
      (λ r. turned (c r) (is_judge direction r) (nat_lt (rank rules r) place)
      ∙ (λ i. (is_judge direction r && h r i) && c r)) rows

  pub below_1 : (rows : List AclRow) → below 1 rows ≡ some 0 rows
  below_1 rows = below_by 1 (λ r. rank rules r == 0) rows
      (rank_cases (λ v. nat_lt v 1 ≡ (v == 0)) refl refl refl refl rules)

  pub below_2 : (rows : List AclRow) → below 2 rows ≡ (some 0 rows || some 1 rows)
  below_2 rows = below_by 2 (λ r. (rank rules r == 0) || (rank rules r == 1)) rows
      (rank_cases (λ v. nat_lt v 2 ≡ ((v == 0) || (v == 1))) refl refl refl refl rules)
      ∙ sym (any_two (is_judge direction) (λ r. rank rules r == 0) (λ r. rank rules r == 1) c rows)

  pub below_3 : (rows : List AclRow) → below 3 rows ≡ (some 0 rows || (some 1 rows || some 2 rows))
  below_3 rows =
      below_by 3 (λ r. (rank rules r == 0) || ((rank rules r == 1) || (rank rules r == 2))) rows
      (rank_cases (λ v. nat_lt v 3 ≡ ((v == 0) || ((v == 1) || (v == 2)))) refl refl refl refl
      rules)
      ∙ sym ((λ i. some 0 rows || any_two (is_judge direction) (λ r. rank rules r == 1)
      (λ r. rank rules r == 2) c rows i)
      ∙ any_two (is_judge direction) (λ r. rank rules r == 0)
      (λ r. (rank rules r == 1) || (rank rules r == 2)) c rows)

  pub below_4 : (rows : List AclRow)
      → below 4 rows ≡ (some 0 rows || (some 1 rows || (some 2 rows || some 3 rows)))
  below_4 rows =
      below_by 4 (λ r. (rank rules r == 0)
      || ((rank rules r == 1) || ((rank rules r == 2) || (rank rules r == 3)))) rows
      (rank_cases (λ v. nat_lt v 4 ≡ ((v == 0) || ((v == 1) || ((v == 2) || (v == 3)))))
      refl refl refl refl rules)
      ∙ sym ((λ i. some 0 rows || (some 1 rows || any_two (is_judge direction)
      (λ r. rank rules r == 2) (λ r. rank rules r == 3) c rows i))
      ∙ ((λ i. some 0 rows || any_two (is_judge direction) (λ r. rank rules r == 1)
      (λ r. (rank rules r == 2) || (rank rules r == 3)) c rows i)
      ∙ any_two (is_judge direction) (λ r. rank rules r == 0)
      (λ r. (rank rules r == 1) || ((rank rules r == 2) || (rank rules r == 3))) c rows))

-- ---- with one row more
-- what the first of four ranks decides
abbrev pub decided : (a b c d : Bool) → Bool
decided a b c d =
    if a then false else (if b then true else (if c then false else d))

-- so with a row that may decide, is of a rank, and concerns the topic, or doesn't
abbrev pub with_one : (judge : Bool) (place : ℕ) (here : Bool) (a b c d : Bool) → Bool
with_one judge place here a b c d =
    decided (a || ((judge && (place == 0)) && here)) (b || ((judge && (place == 1)) && here))
    (c || ((judge && (place == 2)) && here)) (d || ((judge && (place == 3)) && here))

or_false : (a : Bool) → (a || false) ≡ a
or_false true = refl
or_false false = refl

no_judge : (v : ℕ) (p a b c d : Bool) → with_one false v p a b c d ≡ decided a b c d
no_judge v p a b c d = (λ i. decided (or_false a i) (or_false b i) (or_false c i) (or_false d i))

not_here : (j : Bool) (v : ℕ) (a b c d : Bool) → with_one j v false a b c d ≡ decided a b c d
not_here j v a b c d =
    (λ i. decided (a || and-false (j && (v == 0)) i) (b || and-false (j && (v == 1)) i)
    (c || and-false (j && (v == 2)) i) (d || and-false (j && (v == 3)) i))
    ∙ (λ i. decided (or_false a i) (or_false b i) (or_false c i) (or_false d i))

-- it changes nothing where what would decide behind it says the same, or isn't reached
pub same_0 : (a b c d : Bool) → (b ≡ true → a ≡ true) → (d ≡ true → (a || (b || c)) ≡ true)
    → with_one true 0 true a b c d ≡ decided a b c d
same_0 true b c d f g = refl
same_0 false true c d f g = absurd (let q : false ≡ true = f refl in cc)
same_0 false false true d f g = refl
same_0 false false false true f g = absurd (let q : false ≡ true = g refl in cc)
same_0 false false false false f g = refl

pub same_1 : (a b c d : Bool) → (c ≡ true → (a || b) ≡ true) → (a || (b || (c || d))) ≡ true
    → with_one true 1 true a b c d ≡ decided a b c d
same_1 true b c d f g = refl
same_1 false true c d f g = refl
same_1 false false true d f g = absurd (let q : false ≡ true = f refl in cc)
same_1 false false false true f g = refl
same_1 false false false false f g = absurd (let q : false ≡ true = g in cc)

pub same_2 : (a b c d : Bool) → (d ≡ true → (a || (b || c)) ≡ true)
    → with_one true 2 true a b c d ≡ decided a b c d
same_2 true b c d g = refl
same_2 false true c d g = refl
same_2 false false true d g = refl
same_2 false false false true g = absurd (let q : false ≡ true = g refl in cc)
same_2 false false false false g = refl

pub same_3 : (a b c d : Bool) → (a || (b || (c || d))) ≡ true
    → with_one true 3 true a b c d ≡ decided a b c d
same_3 true b c d g = refl
same_3 false true c d g = refl
same_3 false false true d g = refl
same_3 false false false true g = refl
same_3 false false false false g = absurd (let q : false ≡ true = g in cc)

-- it changes something where one behind it would say the opposite
pub other_01 : (a b c d : Bool) → a ≡ false → b ≡ true
    → with_one true 0 true a b c d ≢ decided a b c d
other_01 true b c d f g = absurd (let q : true ≡ false = f in cc)
other_01 false true c d f g = λ q. let x : false ≡ true = q in cc
other_01 false false c d f g = absurd (let q : false ≡ true = g in cc)

pub other_03 : (a b c d : Bool) → (a || (b || c)) ≡ false → d ≡ true
    → with_one true 0 true a b c d ≢ decided a b c d
other_03 true b c d f g = absurd (let q : true ≡ false = f in cc)
other_03 false true c d f g = absurd (let q : true ≡ false = f in cc)
other_03 false false true d f g = absurd (let q : true ≡ false = f in cc)
other_03 false false false true f g = λ q. let x : false ≡ true = q in cc
other_03 false false false false f g = absurd (let q : false ≡ true = g in cc)

pub other_12 : (a b c d : Bool) → (a || b) ≡ false → c ≡ true
    → with_one true 1 true a b c d ≢ decided a b c d
other_12 true b c d f g = absurd (let q : true ≡ false = f in cc)
other_12 false true c d f g = absurd (let q : true ≡ false = f in cc)
other_12 false false true d f g = λ q. let x : true ≡ false = q in cc
other_12 false false false d f g = absurd (let q : false ≡ true = g in cc)

pub other_23 : (a b c d : Bool) → (a || (b || c)) ≡ false → d ≡ true
    → with_one true 2 true a b c d ≢ decided a b c d
other_23 true b c d f g = absurd (let q : true ≡ false = f in cc)
other_23 false true c d f g = absurd (let q : true ≡ false = f in cc)
other_23 false false true d f g = absurd (let q : true ≡ false = f in cc)
other_23 false false false true f g = λ q. let x : false ≡ true = q in cc
other_23 false false false false f g = absurd (let q : false ≡ true = g in cc)

-- or none would decide, and it grants
pub other_1 : (a b c d : Bool) → (a || (b || (c || d))) ≡ false
    → with_one true 1 true a b c d ≢ decided a b c d
other_1 true b c d f = absurd (let q : true ≡ false = f in cc)
other_1 false true c d f = absurd (let q : true ≡ false = f in cc)
other_1 false false true d f = absurd (let q : true ≡ false = f in cc)
other_1 false false false true f = absurd (let q : true ≡ false = f in cc)
other_1 false false false false f = λ q. let x : true ≡ false = q in cc

pub other_3 : (a b c d : Bool) → (a || (b || (c || d))) ≡ false
    → with_one true 3 true a b c d ≢ decided a b c d
other_3 true b c d f = absurd (let q : true ≡ false = f in cc)
other_3 false true c d f = absurd (let q : true ≡ false = f in cc)
other_3 false false true d f = absurd (let q : true ≡ false = f in cc)
other_3 false false false true f = absurd (let q : true ≡ false = f in cc)
other_3 false false false false f = λ q. let x : true ≡ false = q in cc

-- ---- what rows grant
module _ (rules : Rules) (client : List ℕ) (user : Option (List ℕ)) (name : List ℕ)
    (direction : Direction) where
  abbrev here : AclRow → Bool
  here row = concerns_by rules client user name row

  abbrev at : ℕ → List AclRow → Bool
  at place rows = some_at rules direction here place rows

  pub allows : (rows : List AclRow) → can_be_user user ≡ true
      → grant_by rules rows client user name direction
      ≡ decided (at 0 rows) (at 1 rows) (at 2 rows) (at 3 rows)
  allows rows fits =
      granted_at rules rows client user name direction
      ∙ ap (λ (u : Option (List ℕ)).
      decided (some_at rules direction (concerns_by rules client u name) 0 rows)
      (some_at rules direction (concerns_by rules client u name) 1 rows)
      (some_at rules direction (concerns_by rules client u name) 2 rows)
      (some_at rules direction (concerns_by rules client u name) 3 rows))
      (user_as_it_is rules user fits)

  allows_with : (row : AclRow) (rows : List AclRow) → can_be_user user ≡ true
      → has_row row rows ≡ true → grant_by rules rows client user name direction
      ≡ with_one (is_judge direction row) (rank rules row) (here row) (at 0 (without row rows))
      (at 1 (without row rows)) (at 2 (without row rows)) (at 3 (without row rows))
  allows_with row rows fits h =
      allows rows fits
      ∙ (λ i. decided
      (any_with (λ r. is_at rules direction 0 r && here r) row rows h i)
      (any_with (λ r. is_at rules direction 1 r && here r) row rows h i)
      (any_with (λ r. is_at rules direction 2 r && here r) row rows h i)
      (any_with (λ r. is_at rules direction 3 r && here r) row rows h i))

  -- a row that doesn't concern it, or may not decide, changes nothing
  pub unconcerned : (row : AclRow) (rows : List AclRow) → can_be_user user ≡ true
      → has_row row rows ≡ true → here row ≡ false
      → grant_by rules rows client user name direction
      ≡ grant_by rules (without row rows) client user name direction
  unconcerned row rows fits h e =
      let w = without row rows in
      allows_with row rows fits h
      ∙ ap (λ p. with_one (is_judge direction row) (rank rules row) p (at 0 w) (at 1 w) (at 2 w)
      (at 3 w)) e
      ∙ not_here (is_judge direction row) (rank rules row) (at 0 w) (at 1 w) (at 2 w) (at 3 w)
      ∙ sym (allows w fits)

  pub undecided : (row : AclRow) (rows : List AclRow) → can_be_user user ≡ true
      → has_row row rows ≡ true → is_judge direction row ≡ false
      → grant_by rules rows client user name direction
      ≡ grant_by rules (without row rows) client user name direction
  undecided row rows fits h e =
      let w = without row rows in
      allows_with row rows fits h
      ∙ ap (λ j. with_one j (rank rules row) (here row) (at 0 w) (at 1 w) (at 2 w) (at 3 w)) e
      ∙ no_judge (rank rules row) (here row) (at 0 w) (at 1 w) (at 2 w) (at 3 w)
      ∙ sym (allows w fits)

  -- one that does is seen by its rank
  abbrev seen_as : ℕ → List AclRow → Bool
  seen_as place w = with_one true place true (at 0 w) (at 1 w) (at 2 w) (at 3 w)

  abbrev seen_without : List AclRow → Bool
  seen_without w = decided (at 0 w) (at 1 w) (at 2 w) (at 3 w)

  with_seen : (row : AclRow) (rows : List AclRow) (place : ℕ) → can_be_user user ≡ true
      → has_row row rows ≡ true → is_judge direction row ≡ true → here row ≡ true
      → rank rules row ≡ place
      → grant_by rules rows client user name direction ≡ seen_as place (without row rows)
  with_seen row rows place fits h j e v =
      let w = without row rows in
      allows_with row rows fits h
      ∙ (λ i. with_one (j i) (v i) (e i) (at 0 w) (at 1 w) (at 2 w) (at 3 w))

  pub seen_same : (row : AclRow) (rows : List AclRow) (place : ℕ) → can_be_user user ≡ true
      → has_row row rows ≡ true → is_judge direction row ≡ true → here row ≡ true
      → rank rules row ≡ place
      → seen_as place (without row rows) ≡ seen_without (without row rows)
      → grant_by rules rows client user name direction
      ≡ grant_by rules (without row rows) client user name direction
  seen_same row rows place fits h j e v same =
      with_seen row rows place fits h j e v ∙ same ∙ sym (allows (without row rows) fits)

  pub seen_other : (row : AclRow) (rows : List AclRow) (place : ℕ) → can_be_user user ≡ true
      → has_row row rows ≡ true → is_judge direction row ≡ true → here row ≡ true
      → rank rules row ≡ place
      → seen_as place (without row rows) ≢ seen_without (without row rows)
      → grant_by rules rows client user name direction
      ≢ grant_by rules (without row rows) client user name direction
  seen_other row rows place fits h j e v other same =
      other (sym (with_seen row rows place fits h j e v) ∙ same ∙ allows (without row rows) fits)

-- ---- what lists allow
module _ (rules : Rules) (client : List ℕ) (user : Option (List ℕ)) (name : List ℕ)
    (direction : Direction) (one other : List AclRow) where
  -- lists whose rows grant the same allow the same
  pub same_allowed : grant_by rules one client user name direction
      ≡ grant_by rules other client user name direction
      → allow_by rules one client user name direction
      ≡ allow_by rules other client user name direction
  same_allowed e = ap (λ g. not (refuses rules direction name) && g) e

  -- and those whose rows don't differ, but for what the broker refuses by itself
  pub other_allowed : refuses rules direction name ≡ false
      → grant_by rules one client user name direction
      ≢ grant_by rules other client user name direction
      → allow_by rules one client user name direction
      ≢ allow_by rules other client user name direction
  other_allowed taken n e = n (sym (open_allows rules one client user name direction taken)
      ∙ e ∙ open_allows rules other client user name direction taken)

  -- of that all lists allow the same
  pub unless_refused : (refuses rules direction name ≡ false
      → allow_by rules one client user name direction
      ≡ allow_by rules other client user name direction)
      → allow_by rules one client user name direction
      ≡ allow_by rules other client user name direction
  unless_refused f = elim (cases_Bool (refuses rules direction name)) [
    | inl e ↦ ap (λ r. not r && grant_by rules one client user name direction) e
        ∙ sym (ap (λ r. not r && grant_by rules other client user name direction) e)
    | inr e ↦ f e
  ]
