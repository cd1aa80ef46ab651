use Rattle.std.proofs.Common.{◌≡◌, ◌++◌, ℕ, List, Bor, codes, map, string_bytes}
use Rattle.std.specs.List.{join_by}
use Rattle.mq_ask_cases.specs.Placeholders.{level_words}
use Rattle.mq_ask_cases.proofs.placeholders.add_levels.Given as goal

abbrev pub invariant-loop-place : goal.invariant-loop-place
invariant-loop-place l = string_bytes l.text ≡ string_bytes l.fn.text
    ++ join_by (λ (level : ℕ × List ℕ). level_words l.difference level.0 level.1) (codes "/")
    (map (λ (level : ℕ × Bor (List ℕ)). (level.0, level.1.now)) l.yielded)
