-- What is written where nothing was.
use Rattle.std.proofs.Common.{ℕ, List, Option, Some, None, inl}
use Rattle.mq_acl_args.specs.CommandLine.{Asked, Compare, Why, Lint, Reach, ReachAny}
use Rattle.mq_acl_args.specs.CommandLine.{ReachAll, Through, Who, Test, WhyEach}
use Rattle.mqroute_acl.specs.Program.{IsUnread, IsUnreadBy}

-- where nothing was written, it is so whatever is asked
pub unread_of : (input : Option (List ℕ)) (question : Asked) (same : Type 0) → same
    → IsUnread input question same
unread_of input (Compare old new only script) same is = is
unread_of input (Through old new plan only) same is = is
unread_of input (Why file client topic may) same is = is
unread_of input (WhyEach file questions) same is = is
unread_of input (Lint files) same is = inl is
unread_of input (Reach file client filter) same is = is
unread_of input (ReachAny file user wanted) same is = is
unread_of input (ReachAll file script) same is = is
unread_of input (Who file wanted access only script) same is = is
unread_of input (Test expected lists junit) same is = is

-- and also where nothing is
pub unread_at : (input : Option (List ℕ)) (asked : Option Asked) (same : Type 0) → same
    → IsUnreadBy input asked same
unread_at input None same is = is
unread_at input (Some question) same is = unread_of input question same is
