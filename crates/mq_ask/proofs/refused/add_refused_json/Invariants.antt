use Rattle.std.proofs.Common.{◌≡◌, ◌++◌, string_bytes, take}
use Rattle.mq_ask.specs.Objects.{refused_texts}
use Rattle.mq_ask.proofs.refused.add_refused_json.Given as goal

abbrev pub invariant-loop-direction : goal.invariant-loop-direction
invariant-loop-direction l = string_bytes l.text ≡ string_bytes l.fn.text
    ++ refused_texts (take l.direction-index l.directions)
