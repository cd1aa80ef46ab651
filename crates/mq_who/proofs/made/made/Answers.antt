use Rattle.std.proofs.Common.{false, sym, ◌∙◌, ◌+◌, ◌||◌}
use Rattle.mq_acl.specs.Rows.{Everyone}
use Rattle.mq_differences.specs.Marks.{same_who}
use Rattle.mq_who.proofs.RowLemmas.{all_made, alone_made, none_made}
use Rattle.mq_who.proofs.made.made.Goals as goal

pub returns-then-not-wants_own : goal.returns-then-not-wants_own
returns-then-not-wants_own c =
    alone_made c.args.rules c.args.allows c.args.rows.now c.args.wanted.now c.add_row.new.made.items
    (sym c.wants_own.ensures ∙ c.if-not-wants_own.true)
    (c.in_ok-add_row.ensures (λ who. false) 0
    (none_made c.args.allows c.args.wanted.now c.new-made.result.items c.new-made.ensures.items))

pub returns : goal.returns
returns c =
    all_made c.args.rules c.args.allows c.args.rows.now c.args.wanted.now c.add_own.new.made.items
    (sym c.wants_own.ensures ∙ c.if-not-wants_own.false)
    (c.in_ok-add_own.ensures (λ who. false || same_who who Everyone) (0 + 1)
    (c.in_ok-add_row.ensures (λ who. false) 0
    (none_made c.args.allows c.args.wanted.now c.new-made.result.items c.new-made.ensures.items)))
