use Rattle.std.proofs.Common.{◌≡◌, ◌∙◌, ap, refl, sym, subst, string_bytes, option_map}
use Rattle.std.specs.Rc.{rc_str_bytes}
use Rattle.mq_subscriptions.specs.Filters.{Entry, AreEntries, row}
use Rattle.mq_subscriptions.proofs.TreeLemmas.{tree-added}
use Rattle.mq_subscriptions.proofs.subscriptions.tree_edits.add_in.Goals as goal

pub returns-clause-ok : goal.returns-clause-ok
returns-clause-ok c =
    let f = c.args.sub_filter.now.filter in
    let share = option_map string_bytes c.args.sub_filter.now.share in
    let start : Entry = c.new-at.result in
    let one : Entry = c.insert.new.self in
    let is : start.filter ≡ f = ap (λ (a : Entry). a.filter) c.new-at.ensures
    ∙ c.in_ok-filter.ensures.ok ∙ c.in_ok-clone.ensures in
    (tree-added f c.args.tree.now c.requires.kept c.requires.absent
    (row share f (rc_str_bytes c.args.client, c.args.options)) refl one
    (c.insert.ensures.filter ∙ is) c.insert.ensures.here c.put.new.self c.in_ok-put.ensures.ok
    (rw (c.as_deref.ensures.value, is, ap (λ (a : Entry). a.rows) c.new-at.ensures) at
    c.in_ok-insert.ensures.ok)).1

pub returns-clause-kept : goal.returns-clause-kept
returns-clause-kept c =
    let f = c.args.sub_filter.now.filter in
    let share = option_map string_bytes c.args.sub_filter.now.share in
    let start : Entry = c.new-at.result in
    let one : Entry = c.insert.new.self in
    let is : start.filter ≡ f = ap (λ (a : Entry). a.filter) c.new-at.ensures
    ∙ c.in_ok-filter.ensures.ok ∙ c.in_ok-clone.ensures in
    (tree-added f c.args.tree.now c.requires.kept c.requires.absent
    (row share f (rc_str_bytes c.args.client, c.args.options)) refl one
    (c.insert.ensures.filter ∙ is) c.insert.ensures.here c.put.new.self c.in_ok-put.ensures.ok
    (rw (c.as_deref.ensures.value, is, ap (λ (a : Entry). a.rows) c.new-at.ensures) at
    c.in_ok-insert.ensures.ok)).0

pub returns-in_err-put-clause-kept : goal.returns-in_err-put-clause-kept
returns-in_err-put-clause-kept c = subst AreEntries (sym c.in_err-put.ensures.err) c.requires.kept
