use Rattle.std.proofs.Common.{◌≡◌, ◌∙◌, true, false, Contains, sym}
use Rattle.std.specs.Option.{option_copied}
use Rattle.std.proofs.lemmas.List.Elements.{All-contains}
use Rattle.std.proofs.lemmas.Result.{err_from_is_err_and}
use Rattle.mq_acl.specs.Access.{concerns}
use Rattle.mq_acl.specs.Mosquitto.{row_covers}
use Rattle.mq_acl.specs.Rows.{AclRow}
use Rattle.mq_acl.specs.Views.{row_view}
use Rattle.mq_acl.specs.declared.row.Row.{Row}
use Rattle.mq_witness.specs.Limits.{has_short_levels}
use Rattle.mq_witness.specs.Rows.{lent_rows}
use Rattle.mq_witness.proofs.TryLemmas.{some_at}
use Rattle.mq_reach.specs.Filled.{IsFilled, filled_row, is_passed_over}
use Rattle.mq_reach.proofs.FilledLemmas.{all-filled, filled-adds, filled-more, lent-at, nothing-left}
use Rattle.mq_reach.proofs.FilledLemmas.{one-fault}
use Rattle.mq_reach.proofs.ReachLemmas.{all-at}
use Rattle.mq_reach.proofs.filled.add_filled.Goals as goal

pub returns-in_err-own-clause-fault : goal.returns-in_err-own-clause-fault
returns-in_err-own-clause-fault c = λ listed among.
    let fault = err_from_is_err_and c.from_residual.result c.from_residual.ensures.1 in
    let rows = c.args.rows.now in
    let x = c.row-item.result in
    rw (fault.1, fault.2) (one-fault c.args.client.id.now (option_copied c.args.client.user)
    (row_view x.now) listed c.in_err-own.field-0.0
    (All-contains (Contains listed) (lent_rows rows) (row_view x.now) among
    (lent-at rows c.loop-row.row-index x c.loop-row-test.true c.row-item.is))
    c.in_err-own.ensures.fault)

pub loop-row-preserved : goal.loop-row-preserved
loop-row-preserved c =
    let client = c.args.client.id.now in
    let user = option_copied c.args.client.user in
    let rows = c.args.rows.now in
    let i = c.loop-row.row-index in
    let x = c.row-item.result in
    let row : AclRow = row_view x.now in
    let old = c.loop-row.all.items in
    let new = c.push.new.all.items in
    let own = c.in-Some.own in
    let is = some_at c.in_ok-own.field-0 own (λ (o : Row). (is_passed_over client user row ≡ false)
    × (row_view o ≡ filled_row client user row)) c.in-Some.is c.in_ok-own.ensures.some in
    let short : has_short_levels row.filter ≡ true =
    all-at (λ (r : AclRow). has_short_levels r.filter) (lent_rows rows) row c.requires.short
    (lent-at rows i x c.loop-row-test.true c.row-item.is) in
    let filled : IsFilled user (row_view own) =
    some_at c.in_ok-own.field-0 own (λ (o : Row). IsFilled user (row_view o)) c.in-Some.is
    (c.in_ok-own.ensures.short short) in
    record {
      covers = λ name.
          filled-more (concerns client user name) (row_covers client user name) old new rows i x
          c.loop-row-test.true c.row-item.is
          (filled-adds client user name old new own row c.in_ok-push.ensures is.0 is.1)
          ∙ c.loop-row.invariant.covers name;
      filled = λ before.
          all-filled user old new own c.in_ok-push.ensures filled
          (c.loop-row.invariant.filled before);
    }

pub returns-clause-covers : goal.returns-clause-covers
returns-clause-covers c = λ name.
    let client = c.args.client.id.now in
    let user = option_copied c.args.client.user in
    sym (nothing-left (concerns client user name) (row_covers client user name)
    c.loop-row.all.items c.args.rows.now c.loop-row.row-index c.loop-row-test.false)
    ∙ c.loop-row.invariant.covers name
