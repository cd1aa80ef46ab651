use Rattle.std.proofs.Common.{◌≡◌, ◌∷◌, map, take}
use Rattle.mq_ask_cases.proofs.clients.group_text.Given as goal

abbrev pub invariant-loop-other : goal.invariant-loop-other
invariant-loop-other l = map (λ d. d.now) l.all.items
    ≡ l.group.first ∷ take l.other-index l.group.others.items
