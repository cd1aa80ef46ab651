use Rattle.std.proofs.Common.{◌≡◌, map, take}
use Rattle.mq_ask_who.specs.WhoShown.{refusal_data}
use Rattle.mq_print.specs.Lists.{lines_view}
use Rattle.mq_print.specs.Objects.{exception_data}
use Rattle.mq_ask_who.proofs.permissions.exceptions.Given as goal

abbrev pub invariant-loop-other : goal.invariant-loop-other
invariant-loop-other l = map exception_data l.all.items
    ≡ map (refusal_data (lines_view l.list)) (take l.other-index l.refused)
