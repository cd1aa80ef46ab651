-- What a client may read by mosquitto's rules.
use Rattle.std.proofs.Common.{◌≡◌, ℕ, Bool, true, false, ◌==◌, ◌&&◌, ◌||◌, not, List, [], ◌∷◌}
use Rattle.std.proofs.Common.{◌++◌, length, Option, Some, None, All, Contains, refl, sym, ◌∙◌, ap}
use Rattle.std.proofs.Common.{subst, true≢false, if◌then◌else◌, inl, inr}
use Rattle.std.specs.List.{filter, list_all, list_any}
use Rattle.std.specs.Option.{option_or, unwrap_or}
use Rattle.std.proofs.Math.Bool.{or-true}
use Rattle.std.proofs.lemmas.Bool.{and_from, cases_Bool}
use Rattle.std.proofs.lemmas.List.Elements.{All-head, All-tail, All-weaker}
use Rattle.std.proofs.lemmas.List.Folds.{list_any-append}
use Rattle.mq_topic.specs.Levels.{levels}
use Rattle.mq_topic.specs.Matching.{matches}
use Rattle.mq_acl.specs.AccessLists.{AccessList, grant_by}
use Rattle.mq_acl.specs.Access.{concerns, grants, is_deny}
use Rattle.mq_acl.specs.Lines.{Read}
use Rattle.mq_acl.specs.Mosquitto.{decision, known_user, row_covers}
use Rattle.mq_acl.specs.Refused.{is_refused}
use Rattle.mq_acl.specs.Rows.{AclRow, who_of}
use Rattle.mq_acl.specs.RowsByOwner.{is_everyones, is_own}
use Rattle.mq_acl.specs.declared.access.Direction.TheVariants.{Reading}
use Rattle.mq_acl.specs.declared.rules.Rules.{Rules}
use Rattle.mq_acl.specs.declared.rules.Rules.TheVariants.{Mosquitto}
use Rattle.mq_witness.specs.Limits.{is_short}
use Rattle.mq_witness.specs.declared.fault.LimitFault.{LimitFault}
use Rattle.mq_witness.specs.declared.fault.LimitFault.TheVariants as limit
use Rattle.mq_world.proofs.SameLemmas.{filter-swap}
use Rattle.mq_reach.specs.Filled.{IsPassed, IsPatternFault, PassesNone, passes}
use Rattle.mq_reach.specs.Reach.{IsReachFault, Reads, ReadsNone, is_fit, is_short_user, list_by}
use Rattle.mq_reach.specs.Reach.{reach_fault}
use Rattle.mq_reach.specs.declared.fault.ReachFault.{ReachFault}
use Rattle.mq_reach.specs.declared.fault.ReachFault.TheVariants as reach
use Rattle.mq_reach.proofs.FilledLemmas.{all-pass, any-own}
use Rattle.mq_reach.proofs.MatchLemmas.{concerns-matched}
use Rattle.mq_reach.proofs.ReachLemmas.{all-at, all-grouped, among-filtered, any-tested, same-passes}

-- ## Rows of a list

pub twice-among : (p q : AclRow → Bool) (rows : List AclRow)
    → All (Contains rows) (filter p (filter q rows))
twice-among p q rows =
    All-weaker (Contains (filter q rows)) (Contains rows)
    (λ row has. among-filtered q rows row has) (filter p (filter q rows))
    (all-grouped p (filter q rows))

-- those of the client alone are of the list
pub own-among : (p q : AclRow → Bool) (rows some : List AclRow)
    → All (Contains (filter p (filter q rows))) some → All (Contains rows) some
own-among p q rows some among =
    All-weaker (Contains (filter p (filter q rows))) (Contains rows)
    (λ row has. among-filtered q rows row (among-filtered p (filter q rows) row has)) some among

-- what all rows pass those among them do
pub all-among : {X : Type 0} (p : X → Bool) (xs ys : List X) → list_all p xs ≡ true
    → All (Contains xs) ys → list_all p ys ≡ true
all-among p xs [] all among = refl
all-among p xs (y ∷ ys) all among =
    and_from (p y) (list_all p ys)
    (all-at p xs y all (All-head (Contains xs) y ys among))
    (all-among p xs ys all (All-tail (Contains xs) y ys among))

pub none-moved : (rules : Rules) (client : List ℕ) (user : Option (List ℕ)) (row : AclRow)
    (test : List ℕ → AclRow → Bool) (denies others grants_of more : List AclRow)
    → denies ≡ others → grants_of ≡ more → PassesNone rules client user row test denies grants_of
    → PassesNone rules client user row test others more
none-moved rules client user row test denies others grants_of more d g h =
    subst (PassesNone rules client user row test others) g
    (subst (λ l. PassesNone rules client user row test l grants_of) d h)

pub passed-moved : (rules : Rules) (client : List ℕ) (user : Option (List ℕ)) (row : AclRow)
    (test : List ℕ → AclRow → Bool) (denies others grants_of more : List AclRow) (name : List ℕ)
    → denies ≡ others → grants_of ≡ more → IsPassed rules client user row test denies grants_of name
    → IsPassed rules client user row test others more name
passed-moved rules client user row test denies others grants_of more name d g h =
    subst (λ l. IsPassed rules client user row test others l name) g
    (subst (λ l. IsPassed rules client user row test l grants_of name) d h)

-- ## What decides

abbrev pub denies_in : List AclRow → List AclRow
denies_in rows = filter (λ row. is_deny row.access) rows

abbrev pub grants_in : List AclRow → List AclRow
grants_in rows = filter (λ row. grants Reading row.access) rows

abbrev pub its_own : Option (List ℕ) → List AclRow → List AclRow
its_own user rows = filter (λ row. is_own user row.who) rows

abbrev pub patterns_in : List AclRow → List AclRow
patterns_in rows = filter (λ row. is_everyones row.who) rows

judged : (a b c d : Bool)
    → unwrap_or (option_or (decision a b) (decision c d)) false
    ≡ ((not a && b) || (not (a || c) && d))
judged true b c d = refl
judged false true c d = refl
judged false false true d = refl
judged false false false true = refl
judged false false false false = refl

-- those of a kind that pass a test and another
tested : (p q kind : AclRow → Bool) (rows : List AclRow)
    → list_any (λ row. p row && q row) (filter kind rows)
    ≡ list_any p (filter kind (filter q rows))
tested p q kind rows =
    any-tested p q (filter kind rows) ∙ ap (list_any p) (filter-swap q kind rows)

-- the client may read it by its own rows, or by `pattern` rows where none of its own denies it
pub mosquitto-is : (rows : List AclRow) (client : List ℕ) (user : Option (List ℕ)) (name : List ℕ)
    → let own = known_user user in let test = row_covers client own name in
    grant_by Mosquitto rows client user name Reading
    ≡ (passes test (its_own own (denies_in rows)) (its_own own (grants_in rows))
    || passes test (its_own own (denies_in rows) ++ patterns_in (denies_in rows))
    (patterns_in (grants_in rows)))
mosquitto-is rows client user name =
    let own : Option (List ℕ) = known_user user in
    let test : AclRow → Bool = row_covers client own name in
    let mine : AclRow → Bool = λ row. is_own own row.who in
    let all : AclRow → Bool = λ row. is_everyones row.who in
    let deny : AclRow → Bool = λ row. is_deny row.access in
    let grant : AclRow → Bool = λ row. grants Reading row.access in
    (λ i. unwrap_or (option_or (decision (tested test deny mine rows i)
    (tested test grant mine rows i)) (decision (tested test deny all rows i)
    (tested test grant all rows i))) false)
    ∙ judged (list_any test (its_own own (denies_in rows)))
    (list_any test (its_own own (grants_in rows)))
    (list_any test (patterns_in (denies_in rows)))
    (list_any test (patterns_in (grants_in rows)))
    ∙ sym (ap (λ b. passes test (its_own own (denies_in rows)) (its_own own (grants_in rows))
    || (not b && list_any test (patterns_in (grants_in rows))))
    (list_any-append test (its_own own (denies_in rows)) (patterns_in (denies_in rows))))

module _ (rows : List AclRow) (client : List ℕ) (user : Option (List ℕ)) (own : Option (List ℕ))
    (known : own ≡ known_user user) (filter_text : List ℕ) (row : AclRow)
    (as_row : row ≡ record { who = who_of own; access = Read; filter = filter_text })
    (denying granting : List AclRow) (mine : All (λ r. is_own own r.who ≡ true) denying)
    (denies : (name : List ℕ) → concerns client own name row ≡ true
    → list_any (concerns client own name) denying
    ≡ list_any (concerns client own name) (its_own own (denies_in rows)))
    (grants_of : (name : List ℕ) → concerns client own name row ≡ true
    → list_any (concerns client own name) granting
    ≡ list_any (concerns client own name) (its_own own (grants_in rows))) where
  matched : (name : List ℕ)
      → concerns client own name row ≡ matches (levels filter_text) (levels name)
  matched name = ap (concerns client own name) as_row
      ∙ concerns-matched client own name filter_text Read

  by_own : (name : List ℕ) → concerns client own name row ≡ true
      → passes (concerns client own name) denying granting
      ≡ passes (row_covers client own name) (its_own own (denies_in rows))
      (its_own own (grants_in rows))
  by_own name here = same-passes (concerns client own name) (row_covers client own name) denying
      granting (its_own own (denies_in rows)) (its_own own (grants_in rows))
      (denies name here
      ∙ any-own client own name (its_own own (denies_in rows))
      (all-pass (λ r. is_own own r.who) (denies_in rows)))
      (grants_of name here
      ∙ any-own client own name (its_own own (grants_in rows))
      (all-pass (λ r. is_own own r.who) (grants_in rows)))

  by_patterns : (name : List ℕ) → concerns client own name row ≡ true
      → passes (row_covers client own name) (denying ++ patterns_in (denies_in rows))
      (patterns_in (grants_in rows))
      ≡ passes (row_covers client own name) (its_own own (denies_in rows)
      ++ patterns_in (denies_in rows)) (patterns_in (grants_in rows))
  by_patterns name here =
      let test : AclRow → Bool = row_covers client own name in
      let more : List AclRow = patterns_in (denies_in rows) in
      ap (λ b. not b && list_any test (patterns_in (grants_in rows)))
      (list_any-append test denying more
      ∙ ap (λ b. b || list_any test more)
      (sym (any-own client own name denying mine) ∙ denies name here
      ∙ any-own client own name (its_own own (denies_in rows))
      (all-pass (λ r. is_own own r.who) (denies_in rows)))
      ∙ sym (list_any-append test (its_own own (denies_in rows)) more))

  allowed-is : (name : List ℕ) → concerns client own name row ≡ true
      → grant_by Mosquitto rows client user name Reading
      ≡ (passes (concerns client own name) denying granting
      || passes (row_covers client own name) (denying ++ patterns_in (denies_in rows))
      (patterns_in (grants_in rows)))
  allowed-is name here =
      mosquitto-is rows client user name
      ∙ (λ i. passes (row_covers client (sym known i) name)
      (its_own (sym known i) (denies_in rows)) (its_own (sym known i) (grants_in rows))
      || passes (row_covers client (sym known i) name)
      (its_own (sym known i) (denies_in rows) ++ patterns_in (denies_in rows))
      (patterns_in (grants_in rows)))
      ∙ (λ i. sym (by_own name here) i || sym (by_patterns name here) i)

  -- where neither lets the client read a topic, there is none
  pub reads-none : PassesNone Mosquitto client own row (concerns client own) denying granting
      → PassesNone Mosquitto client own row (row_covers client own)
      (denying ++ patterns_in (denies_in rows)) (patterns_in (grants_in rows))
      → ReadsNone (list_by Mosquitto rows) client user filter_text
  reads-none first second = λ name valid match.
      let here : concerns client own name row ≡ true = matched name ∙ match in
      (elim (cases_Bool (is_refused Reading name)) [
        | inl refused ↦ ap (λ b. not b && grant_by Mosquitto rows client user name Reading) refused
        | inr taken ↦ ap (λ b. not b && grant_by Mosquitto rows client user name Reading) taken
            ∙ allowed-is name here
            ∙ (λ i. first name valid taken here i || second name valid taken here i)
      ])

  -- a topic by its own rows
  pub reads-own : (name : List ℕ)
      → IsPassed Mosquitto client own row (concerns client own) denying granting name
      → Reads (list_by Mosquitto rows) client user filter_text name
  reads-own name is = record {
    matched = sym (matched name) ∙ is.concerned;
    may_read = ap (λ b. not b && grant_by Mosquitto rows client user name Reading) is.taken
        ∙ allowed-is name is.concerned
        ∙ ap (λ b. b || passes (row_covers client own name)
        (denying ++ patterns_in (denies_in rows)) (patterns_in (grants_in rows))) is.passed;
  }

  -- and one by `pattern` rows
  pub reads-pattern : (name : List ℕ)
      → IsPassed Mosquitto client own row (row_covers client own)
      (denying ++ patterns_in (denies_in rows)) (patterns_in (grants_in rows)) name
      → Reads (list_by Mosquitto rows) client user filter_text name
  reads-pattern name is = record {
    matched = sym (matched name) ∙ is.concerned;
    may_read = ap (λ b. not b && grant_by Mosquitto rows client user name Reading) is.taken
        ∙ allowed-is name is.concerned
        ∙ ap (λ b. passes (concerns client own name) denying granting || b) is.passed
        ∙ or-true (passes (concerns client own name) denying granting);
  }

-- ## What is shown

short-known : (user own : Option (List ℕ)) → own ≡ known_user user → is_short_user own ≡ false
    → is_short_user user ≡ false
short-known None own known long = sym (ap is_short_user known) ∙ long
short-known (Some name) own known long = at (length name == 0) (sym (ap is_short_user known) ∙ long)
  where
    at : (b : Bool) → is_short_user (if b then None else Some name) ≡ false
        → is_short name ≡ false
    at true e = absurd (true≢false e)
    at false e = e

-- what is shown of the limits of a client whose user name isn't empty
pub limit-reach : (list : AccessList) (client : List ℕ) (user own : Option (List ℕ))
    (filter_text : List ℕ) (fault : LimitFault) → own ≡ known_user user
    → IsReachFault list client own filter_text (reach_fault fault)
    → IsReachFault list client user filter_text (reach_fault fault)
limit-reach list client user own filter_text limit.Memory known is = tt
limit-reach list client user own filter_text limit.Client known is = is
limit-reach list client user own filter_text limit.User known is = short-known user own known is
limit-reach list client user own filter_text limit.Row known is = is

-- and of what is asked of `pattern` rows
pub pattern-reach : (rows : List AclRow) (client : List ℕ) (user own : Option (List ℕ))
    (filter_text : List ℕ) (fault : ReachFault) → own ≡ known_user user
    → IsPatternFault client own filter_text rows fault
    → IsReachFault (list_by Mosquitto rows) client user filter_text fault
pattern-reach rows client user own filter_text reach.Memory known is = tt
pattern-reach rows client user own filter_text reach.Client known is = is
pattern-reach rows client user own filter_text reach.User known is = short-known user own known is
pattern-reach rows client user own filter_text reach.Filter known is = is
pattern-reach rows client user own filter_text reach.Pattern known is =
    sym (ap (λ (u : Option (List ℕ)). list_all (is_fit client u) rows) known) ∙ is
