use Rattle.std.proofs.Common.{◌≡◌, ℕ, List, [], bytes_eq, filter}
use Rattle.std.specs.BTreeMap.{get_by_text}
use Rattle.std.specs.Option.{option_map_or}
use Rattle.mq_ask_who.specs.Refusals.{key}
use Rattle.mq_ask_who.proofs.refusals.Refusals.new.Given as goal

-- those so far are kept
abbrev pub invariant-loop-difference : goal.invariant-loop-difference
invariant-loop-difference l = (text : List ℕ)
    → option_map_or (λ all. all.items) (get_by_text l.by_key text) []
    ≡ filter (λ d. bytes_eq text (key d)) l.yielded
