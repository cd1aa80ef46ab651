use Rattle.std.proofs.Common.{◌≡◌, take}
use Rattle.serde_json.specs.Data.{no_members}
use Rattle.serde_json.specs.View.{members_view}
use Rattle.mq_print.specs.Objects.{with_data}
use Rattle.mq_print.proofs.json.members_of.Given as goal

abbrev pub invariant-loop-name : goal.invariant-loop-name
invariant-loop-name l =
    members_view l.members.entries ≡ with_data no_members (take l.name-index l.fields)
