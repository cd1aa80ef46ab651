use Rattle.std.proofs.Common.{◌≡◌, ap, ◌∙◌}
use Rattle.serde_json.specs.Data.{object}
use Rattle.serde_json.specs.View.{view, members_view}
use Rattle.mq_jsonl.specs.Reading.{command_of}
use Rattle.mq_jsonl.proofs.TakenLemmas.{command_of-members}
use Rattle.mq_jsonl.proofs.read.command.Goals as goal

pub returns-clause-value : goal.returns-clause-value
returns-clause-value c =
    let same : command_of (object (members_view c.members_of-members.result.entries))
    ≡ command_of (view c.args.value) =
    ap (λ ms. command_of (object ms)) c.members_of-members.ensures
    ∙ command_of-members (view c.args.value) in
    rw same at c.command_in.ensures.value
