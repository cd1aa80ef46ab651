use Rattle.std.proofs.Common.{◌≡◌, ◌∙◌, ℕ, true, false, ap, sym, subst, rules}
use Rattle.std.specs.Prelude.{is_some}
use Rattle.std.specs.BTreeMap.{insert_entry}
use Rattle.std.specs.Map.{lookup}
use Rattle.mq_topic.specs.Levels.{levels, level_order}
use Rattle.mq_tree.specs.Entries.{Entries, is_key}
use Rattle.mq_retained.specs.Stored.{AreCounted}
use Rattle.mq_retained.proofs.MessageCounts.{put-new, put-again}
use Rattle.mq_retained.specs.declared.retained.stored.Stored.{Stored}
use Rattle.mq_retained.proofs.retained.messages.Messages.put.Goals as goal

pub invariant_of-self-then-is_none : goal.invariant_of-self-then-is_none
invariant_of-self-then-is_none c =
    let k = levels c.args.topic.now in
    let tree = c.self.inside.by_topic in
    let none : is_some (lookup (is_key k) tree) ≡ false =
    ap is_some (sym c.in_ok-older.ensures.older) ∙ c.if-is_none.ensures in
    subst (λ (rest : Entries Stored). AreCounted c.saturating_add-self-inside.result rest)
    (sym c.in_ok-older.ensures.ok)
    (subst (λ (n : ℕ). AreCounted n (insert_entry level_order tree k c.args.stored))
    (sym c.saturating_add-self-inside.ensures)
    (put-new c.self.inside.count k c.args.stored tree none c.self.invariant))

pub invariant_of-self-else-is_none : goal.invariant_of-self-else-is_none
invariant_of-self-else-is_none c =
    let k = levels c.args.topic.now in
    let tree = c.self.inside.by_topic in
    let some : is_some (lookup (is_key k) tree) ≡ true =
    ap is_some (sym c.in_ok-older.ensures.older) ∙ c.if-is_none.ensures in
    subst (λ (rest : Entries Stored). AreCounted c.self.inside.count rest)
    (sym c.in_ok-older.ensures.ok)
    (put-again c.self.inside.count k c.args.stored tree some c.self.invariant)

pub returns-in_err-older-clause-err : goal.returns-in_err-older-clause-err
returns-in_err-older-clause-err c = search rules

pub returns-in_err-older-clause-absent : goal.returns-in_err-older-clause-absent
returns-in_err-older-clause-absent c = search rules

pub returns-clause-ok : goal.returns-clause-ok
returns-clause-ok c = search rules
