use Rattle.std.proofs.Common.{◌≡◌, take, true}
use Rattle.std.specs.List.{list_all}
use Rattle.mq_acl.specs.Views.{row_views}
use Rattle.mq_expect.specs.Views.{whom_view}
use Rattle.mq_who.specs.Claims.{is_known}
use Rattle.mq_who.proofs.judge.first_unnamed.Given as goal

-- the first are known
abbrev pub invariant-loop-whom : goal.invariant-loop-whom
invariant-loop-whom l =
    list_all (λ w. is_known (row_views l.rows) (whom_view w)) (take l.whom-index l.all) ≡ true
