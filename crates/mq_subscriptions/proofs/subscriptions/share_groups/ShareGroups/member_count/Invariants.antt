use Rattle.std.proofs.Common.{◌≡◌, ◌+◌, ◌≤◌, length, sum_by}
use Rattle.mq_topic.specs.Prefixes.{capped}
use Rattle.mq_world.specs.Lists.{Text}
use Rattle.mq_subscriptions.specs.Filters.{group_rows}
use Rattle.mq_subscriptions.proofs.subscriptions.share_groups.ShareGroups.member_count.Given as goal

abbrev pub invariant-loop-group : goal.invariant-loop-group
invariant-loop-group l =
    ((f : Text) → capped (l.total + sum_by length l.group-iterator)
    ≡ capped (length (group_rows f l.self))) × (l.total ≤ 18446744073709551615)
