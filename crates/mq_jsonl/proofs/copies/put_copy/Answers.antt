use Rattle.std.proofs.Common.{◌∙◌}
use Rattle.std.proofs.lemmas.Result.{on_ok_weaker}
use Rattle.serde_json.specs.View.{members_view}
use Rattle.mq_world.specs.Views.{copy_of}
use Rattle.mq_jsonl.proofs.ObjectLemmas.{copy_again}
use Rattle.mq_jsonl.proofs.copies.put_copy.Goals as goal

pub returns : goal.returns
returns c =
    let old = members_view c.args.object.now.members.entries in
    let again = copy_again c.args.line (copy_of c.args.delivery.now) old c.requires in
    let set = rw (
      c.share_of.ensures,
      c.in_ok-text_if.ensures,
      c.filter_of.ensures,
      c.in_ok-short_if.ensures,
      c.in_ok-numbers_if.ensures,
      c.as_slice.ensures.value,
      c.in_ok-text-3.ensures,
      c.topic_of.ensures,
      c.in_ok-flag.ensures,
      c.in_ok-number-2.ensures,
      c.from.ensures,
      c.in_ok-text-2.ensures,
      c.as_str-2.ensures.value,
      c.in_ok-number.ensures,
      c.in_ok-text.ensures,
      c.as_str.ensures.value,
    ) at c.text_if-2.ensures in
    on_ok_weaker c.text_if-2.result (λ e. e ∙ again) set
