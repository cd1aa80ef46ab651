use Rattle.std.proofs.Common.{string_bytes}
use Rattle.serde_json.specs.View.{view}
use Rattle.serde_json.proofs.Views.{members_view-insert_entry}
use Rattle.mq_jsonl.proofs.FloatLemmas.{on_either, put_none}
use Rattle.mq_jsonl.proofs.object.Object.put.Goals as goal

pub invariant_of-self : goal.invariant_of-self
invariant_of-self c =
    record {
      no_float = on_either c.insert.result c.insert.ensures.entries c.insert.ensures.err
          (λ e. rw (e, members_view-insert_entry)
          (put_none (string_bytes c.in_ok-name.name) (view c.args.value) _ c.requires
          c.args.self.now.no_float))
          (λ e. rw e c.args.self.now.no_float);
    }

pub returns : goal.returns
returns c = rw (c.in_ok-insert.ensures.entries, members_view-insert_entry, c.in_ok-name.ensures.ok)
