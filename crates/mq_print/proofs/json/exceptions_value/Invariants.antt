use Rattle.std.proofs.Common.{◌≡◌, map, take}
use Rattle.serde_json.specs.View.{view}
use Rattle.mq_print.specs.Objects.{exception_data}
use Rattle.mq_print.proofs.json.exceptions_value.Given as goal

abbrev pub invariant-loop-exception : goal.invariant-loop-exception
invariant-loop-exception l = map view l.values.items
    ≡ map exception_data (take l.exception-index l.all)
