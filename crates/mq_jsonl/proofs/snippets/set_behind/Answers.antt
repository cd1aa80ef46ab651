use Rattle.std.proofs.Common.{◌∙◌}
use Rattle.std.proofs.lemmas.Result.{on_ok_weaker}
use Rattle.serde_json.specs.View.{members_view}
use Rattle.mq_world.specs.Views.{copy_of}
use Rattle.mq_jsonl.proofs.ObjectLemmas.{behind_again, behind_refilled}
use Rattle.mq_jsonl.proofs.snippets.set_behind.Goals as goal

pub returns-then-is_empty : goal.returns-then-is_empty
returns-then-is_empty c =
    let old = members_view c.args.object.now.members.entries in
    let again = behind_again (copy_of c.args.copy.now) old c.requires in
    let set = rw (
      c.topic_of-topic.ensures,
      c.in_ok-flag.ensures,
      c.in_ok-number.ensures,
      c.from-qos.ensures,
    ) at c.text.ensures in
    on_ok_weaker c.text.result (λ e. e ∙ again) set

pub returns : goal.returns
returns c =
    behind_refilled c.refill.result (copy_of c.args.copy.now) _ _ _
    (record {
      fits = c.requires;
      empty = c.is_empty.ensures;
      some = c.if-is_empty.false;
      same_names = c.refill.ensures.names;
      values = rw (c.from-qos.ensures, c.topic_of-topic.ensures) at c.refill.ensures.values;
    })
