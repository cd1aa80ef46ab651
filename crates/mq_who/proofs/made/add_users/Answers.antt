use Rattle.std.proofs.Common.{ℕ, List, [], Bor, ◌+◌, ◌||◌, arith, string_bytes, sym, take}
use Rattle.mq_acl.specs.Rows.{Named}
use Rattle.mq_differences.specs.Marks.{same_who}
use Rattle.mq_who.specs.Made.{is_named_in}
use Rattle.mq_who.proofs.RowLemmas.{made_same, users_all, users_more}
use Rattle.mq_who.proofs.made.add_users.Goals as goal

abbrev none : Bor (List ℕ)
none = record { ref_ptr = (0, 0); now = [] }

pub loop-user-preserved : goal.loop-user-preserved
loop-user-preserved c whom most m =
    let users = c.args.users.now in
    let i = c.loop-user.user-index in
    let name = string_bytes c.in_ok-from_str.field-0 in
    made_same c.args.allows c.args.wanted.now
    (λ who. (whom who || is_named_in (take i users) who) || same_who who (Named name))
    (λ who. whom who || is_named_in (take (i + 1) users) who) ((most + i) + 1) (most + (i + 1))
    c.add_row.new.made.items
    (users_more whom users i none name c.loop-user-test.true (sym c.in_ok-from_str.ensures.ok))
    (omega arith)
    (c.in_ok-add_row.ensures (λ who. whom who || is_named_in (take i users) who) (most + i)
    (c.loop-user.invariant whom most m))

pub returns : goal.returns
returns c whom most m =
    users_all c.args.allows c.args.wanted.now whom most c.args.users.now c.loop-user.user-index
    c.loop-user.made.items c.loop-user.auto.user-index-end c.loop-user-test.false
    (c.loop-user.invariant whom most m)
