use Rattle.std.proofs.Common.{◌≤◌, ◌-◌, length, drop}
use Rattle.mq_acl.specs.Starts.{StartsApart}
use Rattle.mq_acl.proofs.starts.starts_apart.Given as goal

-- what is found behind the bytes that are passed is found of the whole texts
abbrev pub invariant-same : goal.invariant-same
invariant-same l = record {
  passed : l.at ≤ l.most;
  filter_room : l.most ≤ length l.filter;
  name_room : l.most ≤ length l.name;
  behind : StartsApart (drop l.at l.filter) (drop l.at l.name) → StartsApart l.filter l.name;
}

abbrev pub decreases-same : goal.decreases-same
decreases-same l = l.most - l.at
