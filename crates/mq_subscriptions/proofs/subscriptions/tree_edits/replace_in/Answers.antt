use Rattle.std.proofs.Common.{◌∙◌, refl, sym, option_copied, option_map, string_bytes}
use Rattle.std.specs.Rc.{rc_str_bytes}
use Rattle.mq_world.proofs.ListLemmas.{on_err}
use Rattle.mq_subscriptions.proofs.TreeLemmas.{tree-any, tree-absent_any, tree-joined, tree-same}
use Rattle.mq_subscriptions.proofs.subscriptions.tree_edits.replace_in.Goals as goal

-- ## The filter or the subscription is absent

pub returns-in_default-clause-existed : goal.returns-in_default-clause-existed
returns-in_default-clause-existed c =
    tree-absent_any c.args.sub_filter.now.filter c.args.tree.now c.requires
    (rw c.in_default.is at (sym c.get_mut.ensures.value)) (rc_str_bytes c.args.client.now)
    (option_map string_bytes c.args.sub_filter.now.share)

pub returns-then-not-contains-clause-existed : goal.returns-then-not-contains-clause-existed
returns-then-not-contains-clause-existed c =
    let found = rw c.in-Some.is at (sym c.get_mut.ensures.value) in
    sym c.if-not-contains.true ∙ c.contains.ensures
    ∙ rw (c.as_deref-share.ensures.value, c.as_str.ensures.value)
    (tree-any c.args.sub_filter.now.filter c.args.tree.now c.requires c.in-Some.at.now found
    (rc_str_bytes c.args.client.now) (option_map string_bytes c.args.sub_filter.now.share))

pub returns-then-not-contains-clause-absent : goal.returns-then-not-contains-clause-absent
returns-then-not-contains-clause-absent c = λ _.
    let found = rw c.in-Some.is at (sym c.get_mut.ensures.value) in
    tree-same c.args.sub_filter.now.filter c.args.tree.now c.in-Some.at.now _ _ found
    (rw c.in-Some.is at (c.get_mut.follows.holds c.in-Some.at.now)) refl

pub returns-then-not-contains-clause-kept : goal.returns-then-not-contains-clause-kept
returns-then-not-contains-clause-kept c =
    let found = rw c.in-Some.is at (sym c.get_mut.ensures.value) in
    rw (tree-same c.args.sub_filter.now.filter c.args.tree.now c.in-Some.at.now _ _ found
    (rw c.in-Some.is at (c.get_mut.follows.holds c.in-Some.at.now)) refl) c.requires

-- ## What is refused changes nothing

pub returns-in_err-clone-clause-err : goal.returns-in_err-clone-clause-err
returns-in_err-clone-clause-err c =
    let found = rw c.in-Some.is at (sym c.get_mut.ensures.value) in
    on_err c.from_residual.result
    (tree-same c.args.sub_filter.now.filter c.args.tree.now c.in-Some.at.now _ _ found
    (rw c.in-Some.is at (c.get_mut.follows.holds c.in-Some.at.now)) refl)

pub returns-in_err-clone-clause-kept : goal.returns-in_err-clone-clause-kept
returns-in_err-clone-clause-kept c =
    let found = rw c.in-Some.is at (sym c.get_mut.ensures.value) in
    rw (tree-same c.args.sub_filter.now.filter c.args.tree.now c.in-Some.at.now _ _ found
    (rw c.in-Some.is at (c.get_mut.follows.holds c.in-Some.at.now)) refl) c.requires

pub returns-in_err-insert-clause-err : goal.returns-in_err-insert-clause-err
returns-in_err-insert-clause-err c =
    let found = rw c.in-Some.is at (sym c.get_mut.ensures.value) in
    on_err c.from_residual-in_err-insert.result
    (tree-same c.args.sub_filter.now.filter c.args.tree.now c.in-Some.at.now _ _ found
    (rw c.in-Some.is at (c.get_mut.follows.holds c.insert.new.self)) c.in_err-insert.ensures.err)

pub returns-in_err-insert-clause-kept : goal.returns-in_err-insert-clause-kept
returns-in_err-insert-clause-kept c =
    let found = rw c.in-Some.is at (sym c.get_mut.ensures.value) in
    rw (tree-same c.args.sub_filter.now.filter c.args.tree.now c.in-Some.at.now _ _ found
    (rw c.in-Some.is at (c.get_mut.follows.holds c.insert.new.self)) c.in_err-insert.ensures.err)
    c.requires

-- ## The subscription is put in the place of the one with its key

pub returns-clause-existed : goal.returns-clause-existed
returns-clause-existed c =
    let found = rw c.in-Some.is at (sym c.get_mut.ensures.value) in
    sym c.if-not-contains.false ∙ c.contains.ensures
    ∙ rw (c.as_deref-share.ensures.value, c.as_str.ensures.value)
    (tree-any c.args.sub_filter.now.filter c.args.tree.now c.requires c.in-Some.at.now found
    (rc_str_bytes c.args.client.now) (option_map string_bytes c.args.sub_filter.now.share))

pub returns-clause-replaced : goal.returns-clause-replaced
returns-clause-replaced c = λ _.
    let found = rw c.in-Some.is at (sym c.get_mut.ensures.value) in
    let set = rw c.in-Some.is at (c.get_mut.follows.holds c.insert.new.self) in
    rw (c.as_deref-share.ensures.value, c.in_ok-clone.ensures.cases)
    at (tree-joined c.args.sub_filter.now.filter c.args.tree.now c.requires c.in-Some.at.now found
    c.insert.new.self c.insert.ensures.filter c.insert.ensures.here
    (c.get_mut.follows.lender c.insert.new.self) set (option_copied c.as_deref-share.result)
    (rc_str_bytes c.in_ok-clone.field-0, c.args.options) c.in_ok-insert.ensures.ok).1

pub returns-clause-kept : goal.returns-clause-kept
returns-clause-kept c =
    let found = rw c.in-Some.is at (sym c.get_mut.ensures.value) in
    let set = rw c.in-Some.is at (c.get_mut.follows.holds c.insert.new.self) in
    (tree-joined c.args.sub_filter.now.filter c.args.tree.now c.requires c.in-Some.at.now found
    c.insert.new.self c.insert.ensures.filter c.insert.ensures.here
    (c.get_mut.follows.lender c.insert.new.self) set (option_copied c.as_deref-share.result)
    (rc_str_bytes c.in_ok-clone.field-0, c.args.options) c.in_ok-insert.ensures.ok).0
