use Rattle.std.proofs.Common.{◌≡◌, ◌∙◌, ◌&&◌, not, true, [], List, ap, refl, sym, subst}
use Rattle.std.proofs.Common.{arith, All, Contains}
use Rattle.std.specs.List.{filter, list_any}
use Rattle.std.specs.Option.{option_copied}
use Rattle.std.proofs.Math.Bool.{and-false}
use Rattle.std.proofs.lemmas.List.Elements.{All-contains, All-weaker}
use Rattle.std.proofs.lemmas.Result.{err_from_is_err_and}
use Rattle.mq_acl.specs.AccessLists.{AccessList, allow_by}
use Rattle.mq_acl.specs.declared.rules.Rules.TheVariants.{Own}
use Rattle.mq_acl.specs.Access.{concerns, grants, is_deny}
use Rattle.mq_acl.specs.Lines.{Read}
use Rattle.mq_acl.specs.Rows.{AclRow}
use Rattle.mq_acl.specs.Views.{row_view}
use Rattle.mq_acl.specs.declared.access.Direction.TheVariants.{Reading}
use Rattle.mq_witness.specs.Rows.{lent_rows}
use Rattle.mq_reach.specs.Reach.{list_by}
use Rattle.mq_reach.proofs.MatchLemmas.{concerns-matched}
use Rattle.mq_reach.proofs.ReachLemmas.{allowed-is, among-filtered}
use Rattle.mq_reach.proofs.ReachLemmas.{fault-shown, no_items, none_then}
use Rattle.mq_reach.proofs.ReachLemmas.{same-passes, some_then}
use Rattle.mq_reach.proofs.reach.Reach.topic_by_own.Goals as goal

pub returns-then-is_empty-clause-none : goal.returns-then-is_empty-clause-none
returns-then-is_empty-clause-none c = λ name valid matched.
    let rows = c.self.inside.asked.rows in
    let client = c.args.client.now in
    let user = option_copied c.args.user in
    let C : AclRow → _ = concerns client user name in
    let granted : List AclRow = filter (λ r. grants Reading r.access) rows in
    let denied : List AclRow = filter (λ r. is_deny r.access) rows in
    let items = c.in_ok-granting.granting.items in
    let none : items ≡ [] = no_items c.in_ok-granting.granting.len items
    (let v = c.in_ok-granting.granting.ok.0 in omega arith)
    (sym c.is_empty.ensures ∙ c.if-is_empty.true) in
    ap (λ (l : AccessList). allow_by Own l.rows client user name Reading) (sym c.self.view_is)
    ∙ allowed-is rows client user name
    ∙ ap (λ b. not (list_any C denied) && b)
    (sym (c.in_ok-granting.ensures.concerns granted c.self.invariant.grants_grouped client name
    (ap C c.in_ok-row.ensures ∙ concerns-matched client user name c.args.filter.now Read
    ∙ matched))
    ∙ ap (λ l. list_any C (lent_rows l)) none)
    ∙ and-false (not (list_any C denied))

pub granted_topic-requires : goal.granted_topic-requires
granted_topic-requires c =
    let rows = c.self.inside.asked.rows in
    let denied : List AclRow = filter (λ r. is_deny r.access) rows in
    record {
      denying = subst (λ l. All (Contains rows) (lent_rows l)) (sym c.deref-2.ensures.value)
          (All-weaker (Contains denied) (Contains rows)
          (λ row has. among-filtered (λ r. is_deny r.access) rows row has)
          (lent_rows c.in_ok-denying.denying.items)
          (c.in_ok-denying.ensures.among denied c.self.invariant.denies_grouped));
    }

pub returns-in_err-found-clause-fault : goal.returns-in_err-found-clause-fault
returns-in_err-found-clause-fault c =
    let rows = c.self.inside.asked.rows in
    let granted : List AclRow = filter (λ r. grants Reading r.access) rows in
    let fault = err_from_is_err_and c.from_residual-in_err-found.result
    c.from_residual-in_err-found.ensures.1 in
    let is = c.in_err-found.ensures.fault in
    let has : Contains granted is.0 = All-contains (Contains granted)
    (lent_rows c.in_ok-granting.granting.items) is.0
    (c.in_ok-granting.ensures.among granted c.self.invariant.grants_grouped)
    (subst (λ l. Contains (lent_rows l) is.0) c.deref.ensures.value is.1) in
    rw (fault.1, fault.2) (fault-shown (list_by Own c.args.self.now.rows) rows c.args.client.now
    (option_copied c.args.user)
    c.args.filter.now (row_view c.in_ok-row.row) is.0 c.in_err-found.field-0.0
    (ap (λ (r : AclRow). r.filter) c.in_ok-row.ensures) c.self.invariant.all_short
    (among-filtered (λ r. grants Reading r.access) rows is.0 has) is.2)

pub returns-clause-none : goal.returns-clause-none
returns-clause-none c =
    let rows = c.self.inside.asked.rows in
    let client = c.args.client.now in
    let user = option_copied c.args.user in
    let granted : List AclRow = filter (λ r. grants Reading r.access) rows in
    let denied : List AclRow = filter (λ r. is_deny r.access) rows in
    none_then c.in_ok-found.found
    (λ none name valid matched.
    (let C : AclRow → _ = concerns client user name in
    let here : C (row_view c.in_ok-row.row) ≡ true = ap C c.in_ok-row.ensures
    ∙ concerns-matched client user name c.args.filter.now Read ∙ matched in
    ap (λ (l : AccessList). allow_by Own l.rows client user name Reading) (sym c.self.view_is)
    ∙ allowed-is rows client user name
    ∙ sym (same-passes C C (lent_rows c.deref-2.result.now) (lent_rows c.deref.result.now) denied
    granted
    (ap (λ l. list_any C (lent_rows l)) c.deref-2.ensures.value
    ∙ c.in_ok-denying.ensures.concerns denied c.self.invariant.denies_grouped client name here)
    (ap (λ l. list_any C (lent_rows l)) c.deref.ensures.value
    ∙ c.in_ok-granting.ensures.concerns granted c.self.invariant.grants_grouped client name here))
    ∙ none name valid refl here))
    c.in_ok-found.ensures.none

pub returns-clause-some : goal.returns-clause-some
returns-clause-some c =
    let rows = c.self.inside.asked.rows in
    let client = c.args.client.now in
    let user = option_copied c.args.user in
    let granted : List AclRow = filter (λ r. grants Reading r.access) rows in
    let denied : List AclRow = filter (λ r. is_deny r.access) rows in
    some_then c.in_ok-found.found
    (λ name is.
    (let C : AclRow → _ = concerns client user name in
    let here : C (row_view c.in_ok-row.row) ≡ true = is.concerned in
    record {
      matched = sym (ap C c.in_ok-row.ensures
          ∙ concerns-matched client user name c.args.filter.now Read) ∙ here;
      may_read =
          ap (λ (l : AccessList). allow_by Own l.rows client user name Reading)
          (sym c.self.view_is)
          ∙ allowed-is rows client user name
          ∙ sym (same-passes C C (lent_rows c.deref-2.result.now) (lent_rows c.deref.result.now)
          denied granted
          (ap (λ l. list_any C (lent_rows l)) c.deref-2.ensures.value
          ∙ c.in_ok-denying.ensures.concerns denied c.self.invariant.denies_grouped client name
          here)
          (ap (λ l. list_any C (lent_rows l)) c.deref.ensures.value
          ∙ c.in_ok-granting.ensures.concerns granted c.self.invariant.grants_grouped client name
          here))
          ∙ is.passed;
    }))
    c.in_ok-found.ensures.some
