use Rattle.std.proofs.Common.{◌≡◌, ◌&&◌, ◌||◌, ℕ, List, length, not, take}
use Rattle.std.specs.List.{list_any}
use Rattle.std.specs.Str.{bytes_eq}
use Rattle.mq_topic.specs.Levels.{levels}
use Rattle.mq_differences.specs.Differences.{has_text}
use Rattle.mq_through.specs.Clients.{is_named}
use Rattle.mq_through.proofs.placeholders.add_levels.Given as goal

-- those of the first levels
abbrev pub invariant-loop-level : goal.invariant-loop-level
invariant-loop-level l = record {
  can_next : (goal.iterator-loop-level).can_next l.level-iterator;
  is_finite : (goal.iterator-loop-level).is_finite l.level-iterator;
  shown : (text : List ℕ) → has_text l.placeholders.items text
      ≡ (has_text l.fn.placeholders.items text
      || (list_any (bytes_eq text) (take (length l.yielded) (levels l.text))
      && not (is_named l.comparison text)));
}
