use Rattle.std.proofs.Common.{refl}
use Rattle.mq_jsonl.specs.Feeding.{script_limit}
use Rattle.mq_run.proofs.runner.RunOptions.new.Goals as goal

pub returns : goal.returns
unfolding script_limit
returns c = refl
