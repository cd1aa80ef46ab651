use Rattle.std.proofs.Common.{string_bytes}
use Rattle.mq_lint.proofs.RepeatLemmas.{none_same, seen_more}
use Rattle.mq_lint.proofs.repeats.Seen.repeated.Goals as goal

pub returns-then-new-clause-line : goal.returns-then-new-clause-line
returns-then-new-clause-line c =
    none_same c.args.before.now c.args.row.now c.args.self.now (string_bytes c.in_ok-key.key)
    c.in_ok-key.ensures (c.in_ok-new.ensures.new c.if-new.true)

pub returns-then-new-clause-seen : goal.returns-then-new-clause-seen
returns-then-new-clause-seen c =
    seen_more c.args.before.now c.args.row.now c.args.self.now
    (record { keys = c.add_key.new.keys }) (string_bytes c.in_ok-key.key) c.in_ok-key.ensures
    c.in_ok-new.ensures.there c.in_ok-new.ensures.kept

pub returns-clause-seen : goal.returns-clause-seen
returns-clause-seen c =
    seen_more c.args.before.now c.args.row.now c.args.self.now
    (record { keys = c.add_key.new.keys }) (string_bytes c.in_ok-key.key) c.in_ok-key.ensures
    c.in_ok-new.ensures.there c.in_ok-new.ensures.kept
