use Rattle.std.proofs.Common.{ℕ, List, [], Bor, ap, ◌∙◌, get_or}
use Rattle.mq_witness.specs.Literals.{is_among}
use Rattle.mq_differences.proofs.ChangeLemmas.{name_listed, same_name, shows_user, users_all}
use Rattle.mq_differences.proofs.ChangeLemmas.{users_one}
use Rattle.mq_differences.proofs.changes.add_users.Goals as goal

abbrev none : Bor (List ℕ)
none = record { ref_ptr = (0, 0); now = [] }

pub add_clients-requires-clause-listed : goal.add_clients-requires-clause-listed
add_clients-requires-clause-listed c =
    let items = c.deref-user-items.result.now in
    let name = get_or items c.loop-user.user-index none in
    name_listed c.args.lists.now.asked items c.loop-user.user-index name c.loop-user-test.true
    (same_name items c.loop-user.user-index none name c.loop-user-test.true)
    (λ user. ap (is_among user) c.deref-user-items.ensures.value ∙ c.in_ok-users.ensures.users user)

pub loop-user-preserved : goal.loop-user-preserved
loop-user-preserved c =
    let items = c.deref-user-items.result.now in
    let name = get_or items c.loop-user.user-index none in
    users_one c.args.lists.now items c.loop-user.user-index name
    c.args.report.now.differences.items c.loop-user.report.differences.items
    c.add_clients.new.report.differences.items c.loop-user-test.true
    (same_name items c.loop-user.user-index none name c.loop-user-test.true)
    c.in_ok-add_clients.ensures.grows
    (shows_user c.args.lists.now name c.add_clients.new.report.differences.items
    c.requires.asked c.in_ok-add_clients.ensures.shown)
    c.loop-user.invariant

pub returns-clause-shown : goal.returns-clause-shown
returns-clause-shown c =
    users_all c.args.lists.now c.deref-user-items.result.now c.loop-user.user-index
    c.args.report.now.differences.items c.loop-user.report.differences.items
    c.loop-user-test.false
    (λ user. ap (is_among user) c.deref-user-items.ensures.value ∙ c.in_ok-users.ensures.users user)
    c.loop-user.invariant
