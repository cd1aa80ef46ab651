use Rattle.std.proofs.Common.{◌≡◌, ◌++◌, codes, string_bytes, take}
use Rattle.std.specs.List.{join_by}
use Rattle.mq_print.specs.Lists.{lent_texts}
use Rattle.mq_ask_cases.proofs.clients.add_list.Given as goal

abbrev pub invariant-loop-place : goal.invariant-loop-place
invariant-loop-place l = string_bytes l.text ≡ string_bytes l.fn.text
    ++ join_by (λ name. name) (codes ", ") (lent_texts (take l.place l.names))
