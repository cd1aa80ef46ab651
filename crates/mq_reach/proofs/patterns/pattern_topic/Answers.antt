use Rattle.std.proofs.Common.{◌∙◌, List, All, Contains, refl, ap, sym, subst}
use Rattle.std.specs.Option.{option_copied}
use Rattle.std.proofs.lemmas.List.Elements.{All-contains_itself, All-nil}
use Rattle.std.proofs.lemmas.Result.{err_from_is_err_and}
use Rattle.mq_acl.specs.Access.{concerns}
use Rattle.mq_acl.specs.Mosquitto.{row_covers}
use Rattle.mq_acl.specs.Rows.{AclRow}
use Rattle.mq_acl.specs.Views.{row_view, row_views}
use Rattle.mq_witness.specs.Rows.{lent_rows}
use Rattle.mq_reach.specs.Filled.{IsFilled}
use Rattle.mq_reach.proofs.FilledLemmas.{filled-same, limit-shown}
use Rattle.mq_reach.proofs.ReachLemmas.{none_then, some_then}
use Rattle.mq_reach.proofs.patterns.pattern_topic.Goals as goal

pub granted_topic-requires : goal.granted_topic-requires
granted_topic-requires c =
    let denies : List AclRow = row_views c.add_filled-3.new.all.items in
    record {
      denying = subst (λ l. All (Contains l) (lent_rows c.deref-5.result.now))
          (sym (c.in_ok-asked.ensures.rows ∙ ap row_views c.deref.ensures.value))
          (subst (All (Contains denies))
          (sym (ap lent_rows c.deref-5.ensures.value ∙ c.in_ok-denying.ensures
          ∙ ap row_views c.deref-3.ensures.value))
          (All-contains_itself denies));
    }

pub returns-in_err-found-clause-fault : goal.returns-in_err-found-clause-fault
returns-in_err-found-clause-fault c = λ listed own denying granting.
    let fault = err_from_is_err_and c.from_residual-in_err-found.result
    c.from_residual-in_err-found.ensures.1 in
    let user = option_copied c.args.client.user in
    let grants_of : List AclRow = row_views c.add_filled.new.all.items in
    let is = c.in_err-found.ensures.fault in
    rw (fault.1, fault.2) (limit-shown c.args.client.id.now user c.args.row.filter listed grants_of
    (row_view c.args.row) is.0 c.in_err-found.field-0.0 refl
    (c.in_ok-add_filled.ensures.filled (subst (λ l. All (IsFilled user) (row_views l))
    (sym c.new-grants.ensures.items) (All-nil (IsFilled user))))
    (subst (λ l. Contains l is.0) (ap lent_rows c.deref-4.ensures.value ∙ c.in_ok-granting.ensures
    ∙ ap row_views c.deref-2.ensures.value) is.1)
    is.2)

pub returns-clause-none : goal.returns-clause-none
returns-clause-none c =
    let client = c.args.client.id.now in
    let user = option_copied c.args.client.user in
    none_then c.in_ok-found.found
    (λ none name valid taken here.
    sym (filled-same (concerns client user name) (row_covers client user name)
    c.new-grants.result.items c.new-denies.result.items c.add_filled.new.all.items
    c.add_filled-2.new.all.items c.add_filled-3.new.all.items (lent_rows c.args.granting.now)
    (lent_rows c.args.own_denying.now) (lent_rows c.args.denying.now)
    (lent_rows c.deref-4.result.now) (lent_rows c.deref-5.result.now)
    c.new-grants.ensures.items c.new-denies.ensures.items
    (c.in_ok-add_filled.ensures.covers name) (c.in_ok-add_filled-2.ensures.covers name)
    (c.in_ok-add_filled-3.ensures.covers name)
    (ap lent_rows c.deref-4.ensures.value ∙ c.in_ok-granting.ensures
    ∙ ap row_views c.deref-2.ensures.value)
    (ap lent_rows c.deref-5.ensures.value ∙ c.in_ok-denying.ensures
    ∙ ap row_views c.deref-3.ensures.value))
    ∙ none name valid taken here)
    c.in_ok-found.ensures.none

pub returns-clause-some : goal.returns-clause-some
returns-clause-some c =
    let client = c.args.client.id.now in
    let user = option_copied c.args.client.user in
    some_then c.in_ok-found.found
    (λ name is. record {
      valid = is.valid;
      taken = is.taken;
      concerned = is.concerned;
      passed = sym (filled-same (concerns client user name) (row_covers client user name)
          c.new-grants.result.items c.new-denies.result.items c.add_filled.new.all.items
          c.add_filled-2.new.all.items c.add_filled-3.new.all.items
          (lent_rows c.args.granting.now) (lent_rows c.args.own_denying.now)
          (lent_rows c.args.denying.now) (lent_rows c.deref-4.result.now)
          (lent_rows c.deref-5.result.now) c.new-grants.ensures.items
          c.new-denies.ensures.items (c.in_ok-add_filled.ensures.covers name)
          (c.in_ok-add_filled-2.ensures.covers name)
          (c.in_ok-add_filled-3.ensures.covers name)
          (ap lent_rows c.deref-4.ensures.value ∙ c.in_ok-granting.ensures
          ∙ ap row_views c.deref-2.ensures.value)
          (ap lent_rows c.deref-5.ensures.value ∙ c.in_ok-denying.ensures
          ∙ ap row_views c.deref-3.ensures.value))
          ∙ is.passed;
    })
    c.in_ok-found.ensures.some
