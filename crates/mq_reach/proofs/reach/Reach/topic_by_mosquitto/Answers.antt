use Rattle.std.proofs.Common.{◌∙◌, ◌++◌, ℕ, List, All, Contains, ap, sym, subst}
use Rattle.std.specs.Option.{option_copied}
use Rattle.std.proofs.lemmas.List.Elements.{All-contains}
use Rattle.std.proofs.lemmas.Result.{err_from_is_err_and}
use Rattle.mq_acl.specs.AccessLists.{AccessList}
use Rattle.mq_acl.specs.Access.{concerns, grants, is_deny}
use Rattle.mq_acl.specs.Mosquitto.{row_covers}
use Rattle.mq_acl.specs.Rows.{AclRow}
use Rattle.mq_acl.specs.RowsByOwner.{is_everyones, is_own}
use Rattle.mq_acl.specs.Views.{row_view}
use Rattle.mq_acl.specs.declared.access.Direction.TheVariants.{Reading}
use Rattle.mq_acl.specs.declared.rules.Rules.TheVariants.{Mosquitto}
use Rattle.mq_witness.specs.Limits.{has_short_levels}
use Rattle.mq_witness.specs.Rows.{lent_rows}
use Rattle.mq_witness.proofs.TryLemmas.{none_at, some_at}
use Rattle.mq_reach.specs.Filled.{IsPassed, IsPatternFault, PassesNone}
use Rattle.mq_reach.specs.Reach.{IsReachFault, Reads, ReadsNone, list_by}
use Rattle.mq_reach.proofs.FilledLemmas.{among-pass}
use Rattle.mq_reach.proofs.OwnerLemmas.{everyones-are}
use Rattle.mq_reach.proofs.ReachLemmas.{fault-shown, none_then, some_then}
use Rattle.mq_reach.proofs.RulesLemmas.{all-among, denies_in, grants_in, limit-reach, none-moved}
use Rattle.mq_reach.proofs.RulesLemmas.{own-among, passed-moved, pattern-reach, patterns_in}
use Rattle.mq_reach.proofs.RulesLemmas.{reads-none, reads-own, reads-pattern, twice-among}
use Rattle.mq_reach.proofs.SearchLemmas.{if_err_then, if_ok_then}
use Rattle.mq_reach.proofs.reach.Reach.topic_by_mosquitto.Goals as goal

pub granted_topic-requires : goal.granted_topic-requires
granted_topic-requires c =
    let rows = c.self.inside.asked.rows in
    let own = option_copied c.user_by-user.result in
    record {
      denying = subst (λ l. All (Contains rows) (lent_rows l)) (sym c.deref-2.ensures.value)
          (own-among (λ r. is_own own r.who) (λ r. is_deny r.access) rows
          (lent_rows c.in_ok-denying.denying.items)
          (c.in_ok-denying.ensures.among (denies_in rows) c.self.invariant.denies_grouped));
    }

pub returns-in_err-own-clause-fault : goal.returns-in_err-own-clause-fault
returns-in_err-own-clause-fault c =
    let rows = c.self.inside.asked.rows in
    let client = c.args.client.now in
    let own = option_copied c.user_by-user.result in
    let list : AccessList = list_by Mosquitto c.args.self.now.rows in
    let fault = err_from_is_err_and c.from_residual-in_err-own.result
    c.from_residual-in_err-own.ensures.1 in
    let is = c.in_err-own.ensures.fault in
    let among : All (Contains rows) (lent_rows c.in_ok-granting.granting.items) =
    own-among (λ r. is_own own r.who) (λ r. grants Reading r.access) rows
    (lent_rows c.in_ok-granting.granting.items)
    (c.in_ok-granting.ensures.among (grants_in rows) c.self.invariant.grants_grouped) in
    rw (fault.1, fault.2) (limit-reach list client (option_copied c.args.user) own
    c.args.filter.now c.in_err-own.field-0.0 c.user_by-user.ensures
    (fault-shown list rows client own c.args.filter.now (row_view c.in_ok-row.row) is.0
    c.in_err-own.field-0.0 (ap (λ (r : AclRow). r.filter) c.in_ok-row.ensures)
    c.self.invariant.all_short
    (All-contains (Contains rows) (lent_rows c.in_ok-granting.granting.items) is.0 among
    (subst (λ l. Contains (lent_rows l) is.0) c.deref.ensures.value is.1)) is.2))

pub returns-in-Some-clause-some : goal.returns-in-Some-clause-some
returns-in-Some-clause-some c =
    let rows = c.self.inside.asked.rows in
    let client = c.args.client.now in
    let user = option_copied c.args.user in
    let own = option_copied c.user_by-user.result in
    let row = row_view c.in_ok-row.row in
    let topic = c.in-Some.topic in
    let denying = lent_rows c.in_ok-denying.denying.items in
    let granting = lent_rows c.in_ok-granting.granting.items in
    subst (λ (l : AccessList). Reads (list_by Mosquitto l.rows) client user c.args.filter.now topic)
    c.self.view_is
    (reads-own rows client user own c.user_by-user.ensures c.args.filter.now row
    c.in_ok-row.ensures denying granting
    (among-pass (λ r. is_own own r.who) (denies_in rows) denying
    (c.in_ok-denying.ensures.among (denies_in rows) c.self.invariant.denies_grouped))
    (λ name here. c.in_ok-denying.ensures.concerns (denies_in rows)
    c.self.invariant.denies_grouped client name here)
    (λ name here. c.in_ok-granting.ensures.concerns (grants_in rows)
    c.self.invariant.grants_grouped client name here) topic
    (passed-moved Mosquitto client own row (concerns client own) (lent_rows c.deref-2.result.now) denying
    (lent_rows c.deref.result.now) granting topic
    (ap lent_rows c.deref-2.ensures.value) (ap lent_rows c.deref.ensures.value)
    (some_at c.in_ok-own.own topic (IsPassed Mosquitto client own row (concerns client own)
    (lent_rows c.deref-2.result.now) (lent_rows c.deref.result.now)) c.in-Some.is
    c.in_ok-own.ensures.some)))

pub pattern_topic-requires-clause-own : goal.pattern_topic-requires-clause-own
pattern_topic-requires-clause-own c =
    let rows = c.self.inside.asked.rows in
    let own = option_copied c.user_by-user.result in
    all-among (λ r. has_short_levels r.filter) rows (lent_rows c.deref-3.result.now)
    c.self.invariant.all_short
    (subst (λ l. All (Contains rows) (lent_rows l)) (sym c.deref-3.ensures.value)
    (own-among (λ r. is_own own r.who) (λ r. is_deny r.access) rows
    (lent_rows c.in_ok-denying.denying.items)
    (c.in_ok-denying.ensures.among (denies_in rows) c.self.invariant.denies_grouped)))

pub pattern_topic-requires-clause-denying : goal.pattern_topic-requires-clause-denying
pattern_topic-requires-clause-denying c =
    let rows = c.self.inside.asked.rows in
    all-among (λ r. has_short_levels r.filter) rows (lent_rows c.everyone-deny.result.now)
    c.self.invariant.all_short
    (subst (All (Contains rows))
    (sym (ap lent_rows c.everyone-deny.ensures ∙ everyones-are c.self.invariant.denies_grouped))
    (twice-among (λ r. is_everyones r.who) (λ r. is_deny r.access) rows))

pub pattern_topic-requires-clause-granting : goal.pattern_topic-requires-clause-granting
pattern_topic-requires-clause-granting c =
    let rows = c.self.inside.asked.rows in
    all-among (λ r. has_short_levels r.filter) rows (lent_rows c.everyone-grant.result.now)
    c.self.invariant.all_short
    (subst (All (Contains rows))
    (sym (ap lent_rows c.everyone-grant.ensures ∙ everyones-are c.self.invariant.grants_grouped))
    (twice-among (λ r. is_everyones r.who) (λ r. grants Reading r.access) rows))

pub returns-clause-none : goal.returns-clause-none
returns-clause-none c =
    let rows = c.self.inside.asked.rows in
    let client = c.args.client.now in
    let user = option_copied c.args.user in
    let own = option_copied c.user_by-user.result in
    let row = row_view c.in_ok-row.row in
    let denying = lent_rows c.in_ok-denying.denying.items in
    let granting = lent_rows c.in_ok-granting.granting.items in
    if_ok_then c.pattern_topic.result
    (λ found h. none_then found
    (λ second. subst (λ (l : AccessList). ReadsNone (list_by Mosquitto l.rows) client user
    c.args.filter.now) c.self.view_is
    (reads-none rows client user own c.user_by-user.ensures c.args.filter.now row
    c.in_ok-row.ensures denying granting
    (among-pass (λ r. is_own own r.who) (denies_in rows) denying
    (c.in_ok-denying.ensures.among (denies_in rows) c.self.invariant.denies_grouped))
    (λ name here. c.in_ok-denying.ensures.concerns (denies_in rows)
    c.self.invariant.denies_grouped client name here)
    (λ name here. c.in_ok-granting.ensures.concerns (grants_in rows)
    c.self.invariant.grants_grouped client name here)
    (none-moved Mosquitto client own row (concerns client own) (lent_rows c.deref-2.result.now) denying
    (lent_rows c.deref.result.now) granting
    (ap lent_rows c.deref-2.ensures.value) (ap lent_rows c.deref.ensures.value)
    (none_at c.in_ok-own.own (PassesNone Mosquitto client own row (concerns client own)
    (lent_rows c.deref-2.result.now) (lent_rows c.deref.result.now)) c.in_default.is
    c.in_ok-own.ensures.none))
    (none-moved Mosquitto client own row (row_covers client own)
    (lent_rows c.deref-3.result.now ++ lent_rows c.everyone-deny.result.now)
    (denying ++ patterns_in (denies_in rows)) (lent_rows c.everyone-grant.result.now)
    (patterns_in (grants_in rows))
    (λ i. lent_rows (c.deref-3.ensures.value i)
    ++ (ap lent_rows c.everyone-deny.ensures ∙ everyones-are c.self.invariant.denies_grouped) i)
    (ap lent_rows c.everyone-grant.ensures ∙ everyones-are c.self.invariant.grants_grouped) second))) h)
    c.pattern_topic.ensures.none

pub returns-clause-some : goal.returns-clause-some
returns-clause-some c =
    let rows = c.self.inside.asked.rows in
    let client = c.args.client.now in
    let user = option_copied c.args.user in
    let own = option_copied c.user_by-user.result in
    let row = row_view c.in_ok-row.row in
    let denying = lent_rows c.in_ok-denying.denying.items in
    let granting = lent_rows c.in_ok-granting.granting.items in
    if_ok_then c.pattern_topic.result
    (λ found h. some_then found
    (λ topic is. subst (λ (l : AccessList). Reads (list_by Mosquitto l.rows) client user
    c.args.filter.now topic) c.self.view_is
    (reads-pattern rows client user own c.user_by-user.ensures c.args.filter.now row
    c.in_ok-row.ensures denying granting
    (among-pass (λ r. is_own own r.who) (denies_in rows) denying
    (c.in_ok-denying.ensures.among (denies_in rows) c.self.invariant.denies_grouped))
    (λ name here. c.in_ok-denying.ensures.concerns (denies_in rows)
    c.self.invariant.denies_grouped client name here)
    (λ name here. c.in_ok-granting.ensures.concerns (grants_in rows)
    c.self.invariant.grants_grouped client name here) topic
    (passed-moved Mosquitto client own row (row_covers client own)
    (lent_rows c.deref-3.result.now ++ lent_rows c.everyone-deny.result.now)
    (denying ++ patterns_in (denies_in rows)) (lent_rows c.everyone-grant.result.now)
    (patterns_in (grants_in rows)) topic
    (λ i. lent_rows (c.deref-3.ensures.value i)
    ++ (ap lent_rows c.everyone-deny.ensures ∙ everyones-are c.self.invariant.denies_grouped) i)
    (ap lent_rows c.everyone-grant.ensures ∙ everyones-are c.self.invariant.grants_grouped) is))) h)
    c.pattern_topic.ensures.some

pub returns-clause-fault : goal.returns-clause-fault
returns-clause-fault c =
    let rows = c.self.inside.asked.rows in
    let client = c.args.client.now in
    let user = option_copied c.args.user in
    let own = option_copied c.user_by-user.result in
    if_err_then c.pattern_topic.result
    (λ fault h. subst (λ (l : AccessList). IsReachFault (list_by Mosquitto l.rows) client user
    c.args.filter.now fault) c.self.view_is
    (pattern-reach rows client user own c.args.filter.now fault c.user_by-user.ensures
    (subst (λ (f : List ℕ). IsPatternFault client own f rows fault)
    (ap (λ (r : AclRow). r.filter) c.in_ok-row.ensures) h)))
    (c.pattern_topic.ensures.fault rows
    (subst (λ l. All (Contains rows) (lent_rows l)) (sym c.deref-3.ensures.value)
    (own-among (λ r. is_own own r.who) (λ r. is_deny r.access) rows
    (lent_rows c.in_ok-denying.denying.items)
    (c.in_ok-denying.ensures.among (denies_in rows) c.self.invariant.denies_grouped)))
    (subst (All (Contains rows))
    (sym (ap lent_rows c.everyone-deny.ensures ∙ everyones-are c.self.invariant.denies_grouped))
    (twice-among (λ r. is_everyones r.who) (λ r. is_deny r.access) rows))
    (subst (All (Contains rows))
    (sym (ap lent_rows c.everyone-grant.ensures ∙ everyones-are c.self.invariant.grants_grouped))
    (twice-among (λ r. is_everyones r.who) (λ r. grants Reading r.access) rows)))
