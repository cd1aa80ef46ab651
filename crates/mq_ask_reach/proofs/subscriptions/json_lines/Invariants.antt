use Rattle.std.proofs.Common.{◌≡◌, string_bytes, take}
use Rattle.std.specs.List.{flat_map}
use Rattle.mq_ask_reach.specs.Objects.{subscription_object}
use Rattle.mq_reach.specs.Tracked.{subscription_views}
use Rattle.mq_ask_reach.proofs.subscriptions.json_lines.Given as goal

abbrev pub invariant-loop-subscription : goal.invariant-loop-subscription
invariant-loop-subscription l = string_bytes l.text ≡ flat_map (subscription_object l.script)
    (subscription_views (take l.subscription-index l.fn.findings.unreached.items))
