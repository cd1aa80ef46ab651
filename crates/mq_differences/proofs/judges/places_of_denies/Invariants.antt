use Rattle.std.proofs.Common.{◌≡◌, ◌<◌, ℕ, true, Contains, length, get_or}
use Rattle.mq_acl.specs.Access.{is_deny}
use Rattle.mq_acl.specs.Views.{row_view}
use Rattle.mq_differences.specs.declared.marks.Marked.{Marked}
use Rattle.mq_differences.proofs.judges.places_of_denies.Given as goal

-- each of the first rows that denies has its place among them
abbrev pub invariant-loop-place : goal.invariant-loop-place
invariant-loop-place l = (k : ℕ) (m : Marked) → k < l.place → k < length l.rows
    → is_deny (row_view (get_or l.rows k m).row.now).access ≡ true → Contains l.places.items k
