use Rattle.std.proofs.Common.{◌≡◌, map, take}
use Rattle.mq_ask_cases.specs.Clients.{user_names}
use Rattle.mq_print.specs.Lists.{lent_texts}
use Rattle.mq_ask_cases.proofs.clients.names.Given as goal

abbrev pub invariant-loop-one : goal.invariant-loop-one
invariant-loop-one l = lent_texts l.names.items
    ≡ user_names (map (λ d. d.now) (take l.one-index l.all))
