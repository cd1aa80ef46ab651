use Rattle.std.proofs.Common.{sym, ◌∙◌}
use Rattle.std.specs.Option.{option_copied}
use Rattle.mq_jsonl.proofs.TakenLemmas.{seen, found}
use Rattle.mq_jsonl.proofs.fields.field.Goals as goal

pub returns : goal.returns
returns c = seen c.get.result
    ∙ sym (found c.args.name.now c.args.members.now.entries (option_copied c.get.result)
    c.get.ensures.value)
