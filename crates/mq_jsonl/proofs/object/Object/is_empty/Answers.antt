use Rattle.std.proofs.Common.{length, sym, ap, ◌∙◌}
use Rattle.mq_jsonl.proofs.RefillLemmas.{length_names, no_names}
use Rattle.mq_jsonl.proofs.object.Object.is_empty.Goals as goal

pub returns : goal.returns
returns c =
    let entries = c.args.self.now.members.entries in (
      λ none. no_names entries (c.is_empty.ensures.0 none),
      λ none. c.is_empty.ensures.1 (sym (length_names entries) ∙ ap length none),
    )
