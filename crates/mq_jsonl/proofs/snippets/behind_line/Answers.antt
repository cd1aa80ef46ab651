use Rattle.std.proofs.Common.{◌∙◌}
use Rattle.mq_world.specs.Views.{copy_of}
use Rattle.mq_jsonl.proofs.ObjectLemmas.{behind_fits}
use Rattle.mq_jsonl.proofs.snippets.behind_line.Goals as goal

pub returns-clause-kept : goal.returns-clause-kept
returns-clause-kept c =
    behind_fits (copy_of c.args.copy.now) _ (c.line.ensures.same ∙ c.in-Ok.ensures)
