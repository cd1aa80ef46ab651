use Rattle.std.proofs.Common.{◌∙◌}
use Rattle.mq_world.specs.Views.{copy_of}
use Rattle.mq_jsonl.proofs.ObjectLemmas.{copy_fits}
use Rattle.mq_jsonl.proofs.copies.copy_line.Goals as goal

pub returns-clause-fits : goal.returns-clause-fits
returns-clause-fits c = copy_fits c.args.line (copy_of c.args.delivery.now) _
    (c.line.ensures.same ∙ c.in-Ok.ensures)
