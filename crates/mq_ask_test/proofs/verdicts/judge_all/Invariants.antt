use Rattle.std.proofs.Common.{◌≡◌, All, map, take}
use Rattle.mq_ask_test.specs.Findings.{IsVerdict}
use Rattle.mq_ask_test.specs.Questions.{asked_view, asked_views}
use Rattle.mq_ask_test.proofs.verdicts.judge_all.Given as goal

-- the first lines are judged
abbrev pub invariant-loop-one : goal.invariant-loop-one
invariant-loop-one l = record {
  asked : map (λ v. asked_view v.asked) l.all.items ≡ asked_views (take l.one-index l.one-items);
  verdicts : All (IsVerdict l.rules l.lists) l.all.items;
}
