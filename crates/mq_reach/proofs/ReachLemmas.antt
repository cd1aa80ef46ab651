-- What rows say of a topic.
use Rattle.std.proofs.Common.{◌≡◌, ◌<◌, ℕ, zero, suc, ◌+◌, Bool, true, false, cond, ◌&&◌, ◌||◌, not}
use Rattle.std.proofs.Common.{List, [], ◌∷◌, ◌++◌, length, drop, get_or, Option, Some, None}
use Rattle.std.proofs.Common.{All, Contains, Bor, refl, sym, ◌∙◌, ap, subst, true≢false, ◌⊎◌, inl, inr}
use Rattle.std.proofs.Common.{add-one, drop-cons, arith, eqb}
use Rattle.std.specs.Prelude.{IfNone, IfSome}
use Rattle.std.specs.List.{filter, find, list_all, list_any}
use Rattle.std.specs.Option.{option_map}
use Rattle.std.proofs.Math.Bool.{and-false, and_comm, or_comm}
use Rattle.std.proofs.lemmas.Bool.{and_from, and_parts}
use Rattle.std.proofs.lemmas.Bool.Decides.{Decides-eqb}
use Rattle.std.proofs.lemmas.List.{length-map, map-append}
use Rattle.std.proofs.lemmas.List.Elements.{All-contains, All-contains_itself, All-filter}
use Rattle.std.proofs.lemmas.List.Elements.{All-get_or, All-push}
use Rattle.std.proofs.lemmas.List.Folds.{Any-from_list_any, list_all_at, list_any-append}
use Rattle.std.proofs.lemmas.List.Folds.{list_any_at}
use Rattle.mq_acl.specs.AccessLists.{AccessList, allow_by}
use Rattle.mq_acl.specs.declared.rules.Rules.TheVariants.{Own}
use Rattle.mq_acl.specs.Access.{applies, concerns, covers, grants, is_deny}
use Rattle.mq_acl.specs.Rows.{AclRow}
use Rattle.mq_acl.specs.RowsByOwner.{is_everyones, is_own}
use Rattle.mq_acl.specs.declared.access.Direction.TheVariants.{Reading}
use Rattle.mq_acl.specs.declared.rules.Rules.{Rules}
use Rattle.mq_acl.proofs.ByOwnerLemmas.{any_kept, any_of_groups}
use Rattle.mq_witness.specs.Decided.{decides}
use Rattle.mq_witness.specs.Limits.{has_short_levels, is_short_row, long_line, short_who}
use Rattle.mq_witness.specs.Rows.{lent_rows}
use Rattle.mq_witness.specs.Topics.{FindsNoTopic, IsLimitFault, IsTopic}
use Rattle.mq_witness.specs.declared.fault.LimitFault.{LimitFault}
use Rattle.mq_witness.specs.declared.fault.LimitFault.TheVariants as limit
use Rattle.mq_reach.specs.Filled.{IsPassed, PassesNone, passes}
use Rattle.mq_reach.specs.Reach.{IsReachFault, reach_fault}
use Rattle.mq_acl.specs.Views.{row_view, row_views}
use Rattle.mq_acl.specs.declared.row.Row.{Row}
use Rattle.mq_world.proofs.BoolLemmas.{pick}

-- ## Which rows concern a topic

-- those that pass a test and concern it are those that concern it, of those that pass
pub any-tested : (p q : AclRow → Bool) (rows : List AclRow)
    → list_any (λ row. p row && q row) rows ≡ list_any p (filter q rows)
any-tested p q rows =
    (λ i. list_any (λ row. and_comm (p row) (q row) i) rows) ∙ sym (any_kept p q rows)

-- whether the client may read it, by the rows that concern it
pub allowed-is : (rows : List AclRow) (client : List ℕ) (user : Option (List ℕ)) (name : List ℕ)
    → allow_by Own rows client user name Reading
    ≡ (not (list_any (concerns client user name) (filter (λ row. is_deny row.access) rows))
    && list_any (concerns client user name) (filter (λ row. grants Reading row.access) rows))
allowed-is rows client user name =
    (λ i. not (any-tested (concerns client user name) (λ row. is_deny row.access) rows i)
    && any-tested (concerns client user name) (λ row. grants Reading row.access) rows i)

-- the rows of a user and those for all are all that can concern it
pub any-grouped : (client : List ℕ) (user : Option (List ℕ)) (name : List ℕ)
    (rows everyone own : List AclRow)
    → everyone ≡ filter (λ row. is_everyones row.who) rows
    → own ≡ filter (λ row. is_own user row.who) rows
    → (list_any (concerns client user name) own || list_any (concerns client user name) everyone)
    ≡ list_any (concerns client user name) rows
any-grouped client user name rows everyone own all its =
    (λ i. list_any (concerns client user name) (its i)
    || list_any (concerns client user name) (all i))
    ∙ or_comm (list_any (concerns client user name) (filter (λ row. is_own user row.who) rows))
    (list_any (concerns client user name) (filter (λ row. is_everyones row.who) rows))
    ∙ any_of_groups (λ row. row.who) user (concerns client user name) rows
    ∙ (λ i. list_any (λ row. twice (applies user row.who) (covers client user name row) i) rows)
  where
    twice : (a c : Bool) → (a && (a && c)) ≡ (a && c)
    twice true c = refl
    twice false c = refl

some-at : {X : Type 0} (p : X → Bool) (xs : List X) (x : X) → Contains xs x → p x ≡ true
    → list_any p xs ≡ true
some-at p xs x has e =
    list_any_at p xs has.0 x has.1 (ap p has.2 ∙ e)

-- ## What is found

-- what tests that say the same of the rows pass is the same
pub same-passes : (p q : AclRow → Bool) (denies grants_of others more : List AclRow)
    → list_any p denies ≡ list_any q others → list_any p grants_of ≡ list_any q more
    → passes p denies grants_of ≡ passes q others more
same-passes p q denies grants_of others more d g = λ i. not (d i) && g i

module _ (rules : Rules) (client : List ℕ) (user : Option (List ℕ)) (row : AclRow)
    (denies grants_of : List AclRow) where
  -- where no row that grants shows a topic, there is none
  pub none-passes : ((grant : AclRow) → Contains grants_of grant
      → FindsNoTopic rules client user (row ∷ grant ∷ []) denies)
      → PassesNone rules client user row (concerns client user) denies grants_of
  none-passes none name valid open_to here =
      pick (list_any (concerns client user name) grants_of)
      (λ e. (let some = Any-from_list_any (concerns client user name) grants_of e in
      let grant : AclRow = some.1 in
      let decided : decides client user name (row ∷ grant ∷ []) denies ≡ false =
      none grant (some.0, some.2, some.3) name valid open_to in
      (λ i. not (list_any (concerns client user name) denies) && e i)
      ∙ and_true (not (list_any (concerns client user name) denies))
      ∙ sym (λ i. (here i && (some.4 i && true))
      && not (list_any (concerns client user name) denies))
      ∙ decided))
      (λ e. (λ i. not (list_any (concerns client user name) denies) && e i)
      ∙ and-false (not (list_any (concerns client user name) denies)))
    where
      and_true : (b : Bool) → (b && true) ≡ b
      and_true true = refl
      and_true false = refl

  -- a topic that one of them shows is one
  pub one-passes : (grant : AclRow) (name : List ℕ) → Contains grants_of grant
      → IsTopic rules client user (row ∷ grant ∷ []) denies name
      → IsPassed rules client user row (concerns client user) denies grants_of name
  one-passes grant name has is =
      let both = and_parts (concerns client user name row
      && (concerns client user name grant && true))
      (not (list_any (concerns client user name) denies)) is.decided in
      let must = and_parts (concerns client user name row)
      (concerns client user name grant && true) both.0 in
      let its = and_parts (concerns client user name grant) true must.1 in
      record {
        valid = is.valid;
        taken = is.taken;
        concerned = must.0;
        passed = λ i. both.1 i && some-at (concerns client user name) grants_of grant has its.0 i;
      }

-- ## The limit

pub all-at : {X : Type 0} (p : X → Bool) (xs : List X) (x : X) → list_all p xs ≡ true
    → Contains xs x → p x ≡ true
all-at p xs x all has =
    pick (p x) (λ e. e)
    (λ e. absurd (true≢false (sym all
    ∙ list_all_at p xs has.0 x has.1 (ap p has.2 ∙ e))))

pub among-filtered : {X : Type 0} (q : X → Bool) (xs : List X) (x : X)
    → Contains (filter q xs) x → Contains xs x
among-filtered q xs x has =
    All-contains (Contains xs) (filter q xs) x (All-filter q (Contains xs) xs
    (All-contains_itself xs)) has

-- the filter is too long, where it and a row of the list are asked about
pub filter-long : (rows : List AclRow) (row grant : AclRow)
    → list_all (λ r. has_short_levels r.filter) rows ≡ true → Contains rows grant
    → list_all (λ r. has_short_levels r.filter) (row ∷ grant ∷ []) ≡ false
    → has_short_levels row.filter ≡ false
filter-long rows row grant short has long =
    sym (ap (λ b. has_short_levels row.filter && (b && true))
    (all-at (λ r. has_short_levels r.filter) rows grant short has)
    ∙ and_true (has_short_levels row.filter)) ∙ long
  where
    and_true : (b : Bool) → (b && true) ≡ b
    and_true true = refl
    and_true false = refl

-- a list with no line that is too long has no level that is
pub all-short : (rows : List Row) → long_line rows ≡ None
    → list_all (λ row. has_short_levels row.filter) (row_views rows) ≡ true
all-short [] none = refl
all-short (row ∷ rows) none =
    let P : Bool → Type 0 = λ b. is_short_row (row_view row) ≡ b
    → option_map (λ (r : Row). r.line)
    (cond (not b) (Some row) (find (λ r. not (is_short_row (row_view r))) rows)) ≡ None
    → (has_short_levels (row_view row).filter
    && list_all (λ r. has_short_levels r.filter) (row_views rows)) ≡ true in
    (elim (is_short_row (row_view row)) as P [
      | true ↦ λ e k. and_from (has_short_levels (row_view row).filter)
          (list_all (λ r. has_short_levels r.filter) (row_views rows))
          (and_parts (has_short_levels (row_view row).filter) (short_who (row_view row).who) e).0
          (all-short rows k)
      | false ↦ λ e k. cc
    ]) refl none

-- where the list of rows is one of lists, and none has a long line, it has none
pub one_list : (rows : Bor (List Row)) (lists : List (Bor (List Row))) → lists ≡ rows ∷ []
    → All (λ (list : Bor (List Row)). long_line list.now ≡ None) lists → long_line rows.now ≡ None
one_list rows lists is short =
    subst (All (λ (list : Bor (List Row)). long_line list.now ≡ None)) is short 0 rows (omega arith)

-- ## Rows that are chosen one by one

pub drop-at : {X : Type 0} (xs : List X) (i : ℕ) (x : X) → i < length xs → x ≡ get_or xs i x
    → drop i xs ≡ x ∷ drop (i + 1) xs
drop-at xs i x low is = rw (add-one, drop-cons xs i x) (ap (λ y. y ∷ drop (suc i) xs) (sym is))

-- a row that is left out doesn't pass
pub overlap-more : (p : AclRow → Bool) (old new rows : List (Bor Row)) (i : ℕ) (x : Bor Row)
    → i < length rows → x ≡ get_or rows i x
    → (new ≡ old ++ x ∷ []) ⊎ ((new ≡ old) × (p (row_view x.now) ≡ false))
    → (list_any p (lent_rows new) || list_any p (lent_rows (drop (i + 1) rows)))
    ≡ (list_any p (lent_rows old) || list_any p (lent_rows (drop i rows)))
overlap-more p old new rows i x low is (inl e) =
    let rest : Bool = list_any p (lent_rows (drop (i + 1) rows)) in
    ap (λ l. list_any p (lent_rows l) || rest) e
    ∙ ap (λ l. list_any p l || rest) (map-append (λ (r : Bor Row). row_view r.now) old (x ∷ []))
    ∙ ap (λ b. b || rest) (list_any-append p (lent_rows old) (row_view x.now ∷ []))
    ∙ moved (list_any p (lent_rows old)) (p (row_view x.now)) rest
    ∙ sym (ap (λ l. list_any p (lent_rows old) || list_any p (lent_rows l))
    (drop-at rows i x low is))
  where
    moved : (a b c : Bool) → ((a || (b || false)) || c) ≡ (a || (b || c))
    moved true b c = refl
    moved false true c = refl
    moved false false c = refl
overlap-more p old new rows i x low is (inr e) =
    let rest : Bool = list_any p (lent_rows (drop (i + 1) rows)) in
    ap (λ l. list_any p (lent_rows l) || rest) e.0
    ∙ sym (ap (λ l. list_any p (lent_rows old) || list_any p (lent_rows l))
    (drop-at rows i x low is)
    ∙ ap (λ b. list_any p (lent_rows old) || (b || rest)) e.1)

pub among-more : (listed : List AclRow) (old new rows : List (Bor Row)) (i : ℕ) (x : Bor Row)
    → i < length rows → x ≡ get_or rows i x → (new ≡ old ++ x ∷ []) ⊎ (new ≡ old)
    → All (Contains listed) (lent_rows rows) → All (Contains listed) (lent_rows old)
    → All (Contains listed) (lent_rows new)
among-more listed old new rows i x low is (inr e) all before =
    subst (λ l. All (Contains listed) (lent_rows l)) (sym e) before
among-more listed old new rows i x low is (inl e) all before =
    subst (λ l. All (Contains listed) (lent_rows l)) (sym e)
    (subst (All (Contains listed))
    (sym (map-append (λ (r : Bor Row). row_view r.now) old (x ∷ [])))
    (All-push (Contains listed) (lent_rows old) (row_view x.now) before
    (subst (Contains listed) (mapped rows i low ∙ sym (ap (λ (r : Bor Row). row_view r.now) is))
    (All-get_or (Contains listed) (lent_rows rows) i (row_view x.now)
    (let count : length (lent_rows rows) ≡ length rows =
    length-map rows (λ (r : Bor Row). row_view r.now) in omega arith) all))))
  where
    mapped : (rs : List (Bor Row)) (k : ℕ) → k < length rs
        → get_or (lent_rows rs) k (row_view x.now) ≡ row_view (get_or rs k x).now
    mapped [] k h = absurd (omega arith)
    mapped (r ∷ rs) zero h = refl
    mapped (r ∷ rs) (suc k) h = mapped rs k (omega arith)

-- those of a group are among all
pub all-grouped : (test : AclRow → Bool) (rows : List AclRow)
    → All (Contains rows) (filter test rows)
all-grouped test rows = All-filter test (Contains rows) rows (All-contains_itself rows)

pub swapped : (a b : Bool) → ((false || a) || b) ≡ (b || a)
swapped a b = or_comm a b

-- ## What is shown

pub no_items : {X : Type 0} (n : ℕ) (xs : List X) → n ≡ length xs → eqb n 0 ≡ true → xs ≡ []
no_items n [] count none = refl
no_items n (x ∷ xs) count none =
    absurd (let zero : n ≡ 0 = (Decides-eqb n 0).0 none in omega arith)

pub none_then : {X : Type 0} {P Q : Type 0} (o : Option X) → (P → Q) → IfNone o P → IfNone o Q
none_then None f h = f h
none_then (Some x) f h = h

pub some_then : {X : Type 0} {P Q : X → Type 0} (o : Option X) → ((x : X) → P x → Q x) → IfSome o P
    → IfSome o Q
some_then None f h = h
some_then (Some x) f h = f x h

-- what is shown of the limits is shown of the question
pub fault-shown : (list : AccessList) (rows : List AclRow) (client : List ℕ)
    (user : Option (List ℕ)) (own : List ℕ) (row grant : AclRow) (fault : LimitFault)
    → row.filter ≡ own → list_all (λ r. has_short_levels r.filter) rows ≡ true
    → Contains rows grant → IsLimitFault client user (row ∷ grant ∷ []) fault
    → IsReachFault list client user own (reach_fault fault)
fault-shown list rows client user own row grant limit.Memory same short has is = tt
fault-shown list rows client user own row grant limit.Client same short has is = is
fault-shown list rows client user own row grant limit.User same short has is = is
fault-shown list rows client user own row grant limit.Row same short has is =
    ap has_short_levels (sym same) ∙ filter-long rows row grant short has is
