-- Deadlines that an expiry interval reaches from the moment.
use Rattle.std.proofs.Common.{ℕ, ◌+◌, ◌<◌, ◌≤◌, ◌^◌, Bool, List, Option, Some, None, arith}
use Rattle.std.specs.Option.{IfSome}
use Rattle.std.specs.List.{filter}
use Rattle.mq_world.specs.Lists.{with_row}
use Rattle.mq_world.specs.World.{Retained, retained_cmp}
use Rattle.mq_retained.specs.Stored.{AreNear}
use Rattle.mq_world.proofs.OrderLemmas.{retained_total, all_weaker, all_filtered, all-with_row}

abbrev pub IsNear : ℕ → Retained → Type 0
IsNear moment kept = IfSome kept.deadline (λ deadline. deadline < moment + 2 ^ 32)

-- the messages that stay are near a later moment too
pub near-later : (moment later : ℕ) (q : Retained → Bool) (retained : List Retained)
    → moment ≤ later → AreNear moment retained → AreNear later (filter q retained)
near-later moment later q retained h near =
    all_filtered (IsNear later) q retained
    (all_weaker (IsNear moment) (IsNear later) (λ kept n. nearer kept.deadline n) retained near)
  where
    nearer : (deadline : Option ℕ) → IfSome deadline (λ d. d < moment + 2 ^ 32)
        → IfSome deadline (λ d. d < later + 2 ^ 32)
    nearer None n = tt
    nearer (Some d) n = omega arith

-- a near message joins others that are near
pub near-with_row : (moment : ℕ) (kept : Retained) (retained : List Retained) → IsNear moment kept
    → AreNear moment retained → AreNear moment (with_row retained_cmp kept retained)
near-with_row moment kept retained here near =
    all-with_row retained_cmp retained_total (IsNear moment) kept retained here near

-- the messages that stay are near as before
pub near-filter : (moment : ℕ) (q : Retained → Bool) (retained : List Retained)
    → AreNear moment retained → AreNear moment (filter q retained)
near-filter moment q retained near = all_filtered (IsNear moment) q retained near
