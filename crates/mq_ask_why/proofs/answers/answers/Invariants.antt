use Rattle.std.proofs.Common.{◌≡◌, All, take}
use Rattle.mq_ask_why.specs.Answers.{IsAnswered, asked_views, asking_views}
use Rattle.mq_ask_why.proofs.answers.answers.Given as goal

-- the first lines are answered
abbrev pub invariant-loop-line : goal.invariant-loop-line
invariant-loop-line l = record {
  asked : asked_views l.all.items ≡ asking_views (take l.line-index l.lines);
  answered : All (IsAnswered l.rules l.rows) l.all.items;
}
