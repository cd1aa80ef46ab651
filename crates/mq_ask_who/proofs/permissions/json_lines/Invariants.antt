use Rattle.std.proofs.Common.{◌≡◌, List, None, string_bytes, take}
use Rattle.mq_ask_who.specs.Refusals.{AreKept}
use Rattle.mq_ask_who.specs.WhoShown.{permission_texts}
use Rattle.mq_differences.specs.declared.difference.Difference.{Difference}
use Rattle.mq_print.specs.Lists.{lines_view}
use Rattle.mq_ask_who.proofs.permissions.json_lines.Given as goal

abbrev pub invariant-loop-one : goal.invariant-loop-one
invariant-loop-one l = (refused : List Difference) → AreKept refused l.refusals
    → l.asked.traffic ≡ None → string_bytes l.text
    ≡ permission_texts (lines_view l.list) l.asked.refused.now refused
    (take l.one-index l.granted)
