use Rattle.std.proofs.Common.{◌≡◌, string_bytes}
use Rattle.std.specs.List.{flat_map}
use Rattle.mq_print.specs.Shown.{shown_char}
use Rattle.mq_print.proofs.escape.escaped.Given as goal

abbrev pub invariant-loop-c : goal.invariant-loop-c
invariant-loop-c l = string_bytes l.shown ≡ flat_map (shown_char l.line_feeds l.escape) l.yielded
