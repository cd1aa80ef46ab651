-- Rows as they are for one client.
use Rattle.std.proofs.Common.{◌≡◌, ◌<◌, ◌≤◌, ℕ, zero, suc, ◌+◌, Bool, true, false, cond, ◌&&◌}
use Rattle.std.proofs.Common.{◌||◌, not}
use Rattle.std.proofs.Common.{List, [], ◌∷◌, ◌++◌, length, drop, get_or, Option, Some, None}
use Rattle.std.proofs.Common.{All, Contains, Bor, refl, sym, ◌∙◌, ap, subst, true≢false}
use Rattle.std.proofs.Common.{arith}
use Rattle.std.specs.List.{filter, find, list_all, list_any}
use Rattle.std.specs.Option.{option_map}
use Rattle.std.proofs.lemmas.Bool.{and_from}
use Rattle.std.proofs.lemmas.List.{drop_all, length-map, map-append}
use Rattle.std.proofs.lemmas.List.Elements.{All-cons, All-contains, All-head, All-nil, All-push}
use Rattle.std.proofs.lemmas.List.Elements.{All-tail, All-weaker}
use Rattle.std.proofs.lemmas.List.Folds.{list_all_at, list_any-append}
use Rattle.mq_topic.specs.Levels.{levels}
use Rattle.mq_topic.specs.Matching.{matches}
use Rattle.mq_topic.proofs.ByteLemmas.{text_is}
use Rattle.mq_acl.specs.Access.{concerns}
use Rattle.mq_acl.specs.Lines.{Access}
use Rattle.mq_acl.specs.Mosquitto.{filter_for, is_asked, row_covers}
use Rattle.mq_acl.specs.Rows.{AclRow, Who, Anonymous, Named, Everyone, who_of}
use Rattle.mq_acl.specs.RowsByOwner.{is_everyones, is_own}
use Rattle.mq_acl.specs.Views.{row_view, row_views}
use Rattle.mq_acl.specs.declared.row.Row.{Row}
use Rattle.mq_cover.specs.Remainders.{mark_passes}
use Rattle.mq_witness.specs.Limits.{has_short_levels, is_short, is_short_row, long_line, short_who}
use Rattle.mq_witness.specs.Rows.{lent_rows}
use Rattle.mq_witness.specs.Topics.{IsLimitFault}
use Rattle.mq_witness.specs.declared.fault.LimitFault.{LimitFault}
use Rattle.mq_witness.specs.declared.fault.LimitFault.TheVariants as limit
use Rattle.mq_world.proofs.BoolLemmas.{pick}
use Rattle.mq_reach.specs.Filled.{IsFillFault, IsFilled, IsPatternFault, filled_row, is_passed_over}
use Rattle.mq_reach.specs.Filled.{passes}
use Rattle.mq_reach.specs.Reach.{is_fit, reach_fault}
use Rattle.mq_reach.specs.declared.fault.ReachFault.{ReachFault}
use Rattle.mq_reach.specs.declared.fault.ReachFault.TheVariants as reach
use Rattle.mq_reach.proofs.MatchLemmas.{concerns-matched}
use Rattle.mq_reach.proofs.ReachLemmas.{drop-at, filter-long, same-passes}

-- ## What they cover

asked-of : (everyone asked : Bool) → (everyone && not asked) ≡ false
    → (not everyone || asked) ≡ true
asked-of true true e = refl
asked-of true false e = absurd (true≢false e)
asked-of false asked e = refl

not-asked-of : (everyone asked : Bool) → (everyone && not asked) ≡ true
    → (not everyone || asked) ≡ false
not-asked-of true false e = refl
not-asked-of true true e = absurd (true≢false (sym e))
not-asked-of false asked e = absurd (true≢false (sym e))

-- the row as it is for the client concerns what the row covers
pub filled-covers : (client : List ℕ) (user : Option (List ℕ)) (name : List ℕ) (row : AclRow)
    → is_passed_over client user row ≡ false
    → concerns client user name (filled_row client user row) ≡ row_covers client user name row
filled-covers client user name row asked =
    concerns-matched client user name (filter_for client user row) row.access
    ∙ sym (ap (λ b. b && matches (levels (filter_for client user row)) (levels name))
    (asked-of (is_everyones row.who) (is_asked client user row.filter) asked))

-- one that isn't asked about it covers nothing
pub passed-covers : (client : List ℕ) (user : Option (List ℕ)) (name : List ℕ) (row : AclRow)
    → is_passed_over client user row ≡ true → row_covers client user name row ≡ false
passed-covers client user name row over =
    ap (λ b. b && matches (levels (filter_for client user row)) (levels name))
    (not-asked-of (is_everyones row.who) (is_asked client user row.filter) over)

who-covers : (client : List ℕ) (user : Option (List ℕ)) (name filter : List ℕ) (who : Who)
    (access : Access) → is_own user who ≡ true
    → concerns client user name (record { who = who; access = access; filter = filter })
    ≡ row_covers client user name (record { who = who; access = access; filter = filter })
who-covers client None name filter Anonymous access is =
    concerns-matched client None name filter access
who-covers client (Some user) name filter Anonymous access is = absurd (true≢false (sym is))
who-covers client None name filter (Named other) access is = absurd (true≢false (sym is))
who-covers client (Some user) name filter (Named other) access is =
    subst (λ (n : List ℕ). concerns client (Some user) name
    (record { who = Named n; access = access; filter = filter })
    ≡ matches (levels filter) (levels name)) (text_is user other is)
    (concerns-matched client (Some user) name filter access)
who-covers client None name filter Everyone access is = absurd (true≢false (sym is))
who-covers client (Some user) name filter Everyone access is = absurd (true≢false (sym is))

-- a row for the client alone concerns what it covers
pub own-covers : (client : List ℕ) (user : Option (List ℕ)) (name : List ℕ) (row : AclRow)
    → is_own user row.who ≡ true → concerns client user name row ≡ row_covers client user name row
own-covers client user name row is = who-covers client user name row.filter row.who row.access is

same-any : (p q : AclRow → Bool) (rows : List AclRow) → All (λ row. p row ≡ q row) rows
    → list_any p rows ≡ list_any q rows
same-any p q [] same = refl
same-any p q (row ∷ rows) same =
    λ i. All-head (λ r. p r ≡ q r) row rows same i
    || same-any p q rows (All-tail (λ r. p r ≡ q r) row rows same) i

-- rows for the client alone concern what they cover
pub any-own : (client : List ℕ) (user : Option (List ℕ)) (name : List ℕ) (rows : List AclRow)
    → All (λ row. is_own user row.who ≡ true) rows
    → list_any (concerns client user name) rows ≡ list_any (row_covers client user name) rows
any-own client user name rows own =
    same-any (concerns client user name) (row_covers client user name) rows
    (All-weaker (λ (r : AclRow). is_own user r.who ≡ true)
    (λ r. concerns client user name r ≡ row_covers client user name r)
    (λ r is. own-covers client user name r is) rows own)

pub all-pass : {X : Type 0} (p : X → Bool) (xs : List X) → All (λ x. p x ≡ true) (filter p xs)
all-pass p [] = All-nil (λ x. p x ≡ true)
all-pass {X} p (x ∷ xs) =
    pick (p x)
    (λ e. subst (λ (l : List X). All (λ y. p y ≡ true) l)
    (sym (ap (λ b. cond b (x ∷ filter p xs) (filter p xs)) e))
    (All-cons (λ y. p y ≡ true) x (filter p xs) e (all-pass p xs)))
    (λ e. subst (λ (l : List X). All (λ y. p y ≡ true) l)
    (sym (ap (λ b. cond b (x ∷ filter p xs) (filter p xs)) e)) (all-pass p xs))

-- those among rows that pass a test pass it
pub among-pass : {X : Type 0} (p : X → Bool) (xs ys : List X) → All (Contains (filter p xs)) ys
    → All (λ y. p y ≡ true) ys
among-pass p xs ys among =
    All-weaker (Contains (filter p xs)) (λ y. p y ≡ true)
    (λ y has. All-contains (λ x. p x ≡ true) (filter p xs) y (all-pass p xs) has) ys among

-- ## Rows that are filled one by one

pub lent-at : (rows : List (Bor Row)) (i : ℕ) (x : Bor Row) → i < length rows
    → x ≡ get_or rows i x → Contains (lent_rows rows) (row_view x.now)
lent-at rows i x low is = (
  i,
  (let count : length (lent_rows rows) ≡ length rows =
      length-map rows (λ (r : Bor Row). row_view r.now) in omega arith),
  mapped rows i low ∙ sym (ap (λ (r : Bor Row). row_view r.now) is),
)
  where
    mapped : (rs : List (Bor Row)) (k : ℕ) → k < length rs
        → get_or (lent_rows rs) k (row_view x.now) ≡ row_view (get_or rs k x).now
    mapped [] k h = absurd (omega arith)
    mapped (r ∷ rs) zero h = refl
    mapped (r ∷ rs) (suc k) h = mapped rs k (omega arith)

moved : (a b c : Bool) → ((a || b) || c) ≡ (a || (b || c))
moved true b c = refl
moved false b c = refl

-- the rows that are left cover what they did, less what the next one does
pub filled-more : (p r : AclRow → Bool) (old new : List Row) (rows : List (Bor Row)) (i : ℕ)
    (x : Bor Row) → i < length rows → x ≡ get_or rows i x
    → list_any p (row_views new) ≡ (list_any p (row_views old) || r (row_view x.now))
    → (list_any p (row_views new) || list_any r (lent_rows (drop (i + 1) rows)))
    ≡ (list_any p (row_views old) || list_any r (lent_rows (drop i rows)))
filled-more p r old new rows i x low is e =
    let rest : Bool = list_any r (lent_rows (drop (i + 1) rows)) in
    ap (λ b. b || rest) e
    ∙ moved (list_any p (row_views old)) (r (row_view x.now)) rest
    ∙ sym (ap (λ l. list_any p (row_views old) || list_any r (lent_rows l))
    (drop-at rows i x low is))

-- at the end none is left
pub nothing-left : (p r : AclRow → Bool) (all : List Row) (rows : List (Bor Row)) (i : ℕ)
    → length rows ≤ i
    → (list_any p (row_views all) || list_any r (lent_rows (drop i rows)))
    ≡ list_any p (row_views all)
nothing-left p r all rows i high =
    ap (λ l. list_any p (row_views all) || list_any r (lent_rows l)) (drop_all i rows high)
    ∙ or_false (list_any p (row_views all))
  where
    or_false : (b : Bool) → (b || false) ≡ b
    or_false true = refl
    or_false false = refl

-- one that is passed over adds nothing
pub passed-adds : (client : List ℕ) (user : Option (List ℕ)) (name : List ℕ) (old new : List Row)
    (row : AclRow) → new ≡ old → is_passed_over client user row ≡ true
    → list_any (concerns client user name) (row_views new)
    ≡ (list_any (concerns client user name) (row_views old) || row_covers client user name row)
passed-adds client user name old new row same over =
    ap (λ l. list_any (concerns client user name) (row_views l)) same
    ∙ sym (or_false (list_any (concerns client user name) (row_views old)))
    ∙ sym (ap (λ b. list_any (concerns client user name) (row_views old) || b)
    (passed-covers client user name row over))
  where
    or_false : (b : Bool) → (b || false) ≡ b
    or_false true = refl
    or_false false = refl

-- another adds what it covers
pub filled-adds : (client : List ℕ) (user : Option (List ℕ)) (name : List ℕ) (old new : List Row)
    (own : Row) (row : AclRow) → new ≡ old ++ own ∷ []
    → is_passed_over client user row ≡ false → row_view own ≡ filled_row client user row
    → list_any (concerns client user name) (row_views new)
    ≡ (list_any (concerns client user name) (row_views old) || row_covers client user name row)
filled-adds client user name old new own row grown asked is =
    let C : AclRow → Bool = concerns client user name in
    ap (λ l. list_any C (row_views l)) grown
    ∙ ap (list_any C) (map-append row_view old (own ∷ []))
    ∙ list_any-append C (row_views old) (row_view own ∷ [])
    ∙ ap (λ b. list_any C (row_views old) || b) (one (C (row_view own)) ∙ ap C is
    ∙ filled-covers client user name row asked)
  where
    one : (b : Bool) → (b || false) ≡ b
    one true = refl
    one false = refl

pub all-filled : (user : Option (List ℕ)) (old new : List Row) (own : Row) → new ≡ old ++ own ∷ []
    → IsFilled user (row_view own) → All (IsFilled user) (row_views old)
    → All (IsFilled user) (row_views new)
all-filled user old new own grown is before =
    subst (λ l. All (IsFilled user) (row_views l)) (sym grown)
    (subst (All (IsFilled user)) (sym (map-append row_view old (own ∷ [])))
    (All-push (IsFilled user) (row_views old) (row_view own) before is))

-- rows that are filled pass what the rows that they are of do
pub filled-same : (p r : AclRow → Bool) (no_grants no_denies grants_of first denies : List Row)
    (granting own denying lent_grants lent_denies : List AclRow)
    → no_grants ≡ [] → no_denies ≡ []
    → list_any p (row_views grants_of)
    ≡ (list_any p (row_views no_grants) || list_any r granting)
    → list_any p (row_views first) ≡ (list_any p (row_views no_denies) || list_any r own)
    → list_any p (row_views denies) ≡ (list_any p (row_views first) || list_any r denying)
    → lent_grants ≡ row_views grants_of → lent_denies ≡ row_views denies
    → passes p lent_denies lent_grants ≡ passes r (own ++ denying) granting
filled-same p r no_grants no_denies grants_of first denies granting own denying lent_grants
    lent_denies empty none grant one two lent more =
    same-passes p r lent_denies lent_grants (own ++ denying) granting
    (ap (list_any p) more ∙ two
    ∙ ap (λ b. b || list_any r denying)
    (one ∙ ap (λ l. list_any p (row_views l) || list_any r own) none)
    ∙ sym (list_any-append r own denying))
    (ap (list_any p) lent ∙ grant
    ∙ ap (λ l. list_any p (row_views l) || list_any r granting) empty)

-- ## The limit

-- what is shown of one of some rows is shown of them
pub one-fault : (client : List ℕ) (user : Option (List ℕ)) (row : AclRow) (rows : List AclRow)
    (fault : ReachFault) → Contains rows row → IsFillFault client user (row ∷ []) fault
    → IsFillFault client user rows fault
one-fault client user row rows reach.Memory has is = tt
one-fault client user row rows reach.Client has is = is
one-fault client user row rows reach.User has is = is
one-fault client user row rows reach.Filter has is = is
one-fault client user row rows reach.Pattern has is =
    list_all_at (is_fit client user) rows has.0 row has.1
    (ap (is_fit client user) has.2 ∙ one (is_fit client user row) is)
  where
    one : (b : Bool) → (b && true) ≡ false → b ≡ false
    one true e = e
    one false e = refl

-- and of what is asked of them
pub fill-shown : (client : List ℕ) (user : Option (List ℕ)) (filter : List ℕ) (rows : List AclRow)
    (fault : ReachFault) → IsFillFault client user rows fault
    → IsPatternFault client user filter rows fault
fill-shown client user filter rows reach.Memory is = tt
fill-shown client user filter rows reach.Client is = absurd is
fill-shown client user filter rows reach.User is = absurd is
fill-shown client user filter rows reach.Filter is = absurd is
fill-shown client user filter rows reach.Pattern is = is

-- filled rows keep to the limit, unless the user name is too long
pub user-long : (user : Option (List ℕ)) (rows : List Row) (line : ℕ)
    → All (IsFilled user) (row_views rows) → long_line rows ≡ Some line
    → mark_passes is_short user ≡ false
user-long user [] line filled long = absurd (let e : None ≡ Some line = long in cc)
user-long user (row ∷ rows) line filled long =
    let first : IsFilled user (row_view row) =
    All-head (IsFilled user) (row_view row) (row_views rows) filled in
    let P : Bool → Type 0 = λ b. is_short_row (row_view row) ≡ b
    → option_map (λ (r : Row). r.line)
    (cond (not b) (Some row) (find (λ r. not (is_short_row (row_view r))) rows)) ≡ Some line
    → mark_passes is_short user ≡ false in
    (elim (is_short_row (row_view row)) as P [
      | true ↦ λ e k. user-long user rows line
          (All-tail (IsFilled user) (row_view row) (row_views rows) filled) k
      | false ↦ λ e k. who-long user
          (ap short_who (sym first.who)
          ∙ sym (ap (λ b. b && short_who (row_view row).who) first.short) ∙ e)
    ]) refl long
  where
    who-long : (u : Option (List ℕ)) → short_who (who_of u) ≡ false → mark_passes is_short u ≡ false
    who-long None e = absurd (true≢false e)
    who-long (Some name) e = e

pub filled-short : (user : Option (List ℕ)) (rows : List AclRow) → All (IsFilled user) rows
    → list_all (λ row. has_short_levels row.filter) rows ≡ true
filled-short user [] filled = refl
filled-short user (row ∷ rows) filled =
    and_from (has_short_levels row.filter) (list_all (λ r. has_short_levels r.filter) rows)
    (let first : IsFilled user row = All-head (IsFilled user) row rows filled in first.short)
    (filled-short user rows (All-tail (IsFilled user) row rows filled))

-- what is shown of the limits is shown of what is asked of filled rows
pub limit-shown : (client : List ℕ) (user : Option (List ℕ)) (own : List ℕ)
    (rows grants_of : List AclRow) (row grant : AclRow) (fault : LimitFault) → row.filter ≡ own
    → All (IsFilled user) grants_of → Contains grants_of grant
    → IsLimitFault client user (row ∷ grant ∷ []) fault
    → IsPatternFault client user own rows (reach_fault fault)
limit-shown client user own rows grants_of row grant limit.Memory same filled has is = tt
limit-shown client user own rows grants_of row grant limit.Client same filled has is = is
limit-shown client user own rows grants_of row grant limit.User same filled has is = is
limit-shown client user own rows grants_of row grant limit.Row same filled has is =
    ap has_short_levels (sym same)
    ∙ filter-long grants_of row grant (filled-short user grants_of filled) has is
