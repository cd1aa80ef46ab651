use Rattle.std.proofs.Common.{◌≡◌, ◌++◌, string_bytes}
use Rattle.std.specs.List.{flat_map}
use Rattle.mq_ask_test.specs.Junit.{escaped_char}
use Rattle.mq_ask_test.proofs.xml.add_escaped.Given as goal

abbrev pub invariant-loop-c : goal.invariant-loop-c
invariant-loop-c l = string_bytes l.text
    ≡ string_bytes l.fn.text ++ flat_map (escaped_char l.in_attribute) l.yielded
