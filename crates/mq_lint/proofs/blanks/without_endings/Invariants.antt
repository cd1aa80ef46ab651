use Rattle.std.proofs.Common.{◌≡◌, ◌+◌, ◌≤◌, length, take}
use Rattle.std.specs.List.{suffix_len}
use Rattle.mq_acl.specs.Words.{is_ending}
use Rattle.mq_lint.proofs.blanks.without_endings.Given as goal

-- what is passed at the end is all endings
abbrev pub invariant-loop-end : goal.invariant-loop-end
invariant-loop-end l = record {
  in_range : l.end ≤ length l.text;
  count : l.end + suffix_len is_ending l.text ≡ length l.text
      + suffix_len is_ending (take l.end l.text);
}

abbrev pub decreases-loop-end : goal.decreases-loop-end
decreases-loop-end l = l.end
