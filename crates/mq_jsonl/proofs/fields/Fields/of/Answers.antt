use Rattle.std.proofs.Common.{refl, rules}
use Rattle.mq_jsonl.proofs.AheadLemmas.{ascends_keys}
use Rattle.mq_jsonl.proofs.fields.Fields.of.Goals as goal

pub returns : goal.returns
returns c =
    let sorted = ascends_keys c.args.members.now.entries c.iter_mut-rest.ensures.ordered in
    record { all = search rules; ordered = sorted; sound = refl }
