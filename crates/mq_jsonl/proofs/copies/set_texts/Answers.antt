use Rattle.std.proofs.Common.{◌∙◌, sym}
use Rattle.std.proofs.lemmas.Result.{on_ok_weaker}
use Rattle.std.proofs.lemmas.Slice.Eq.{bytes_eq-Decides}
use Rattle.mq_world.specs.Views.{copy_of}
use Rattle.mq_jsonl.proofs.BehindLemmas.{has_texts, topic_written, message_same, payload_written}
use Rattle.mq_jsonl.proofs.BehindLemmas.{same_client, same_payload, other_payload}
use Rattle.mq_jsonl.proofs.copies.set_texts.Goals as goal

pub returns-then-eq : goal.returns-then-eq
returns-then-eq c =
    let topic = (bytes_eq-Decides _ _).0 (sym c.eq-same_topic.ensures ∙ c.if-same_topic.true) in
    let payload = (bytes_eq-Decides _ _).0 (sym c.eq.ensures ∙ c.if-eq.true) in
    on_ok_weaker c.text.result
    (λ e. message_same c.args.line (copy_of c.args.before.now) (copy_of c.args.delivery.now) _ _
    c.requires topic payload e)
    (rw c.as_str-client.ensures.value at c.text.ensures)

pub change_text-requires : goal.change_text-requires
change_text-requires c =
    let after = copy_of c.args.delivery.now in
    rw c.as_str.ensures.value (same_client c.args.line after _ _ _ _
    (has_texts c.args.line (copy_of c.args.before.now) after _ c.requires))

pub returns-then-same_topic-2 : goal.returns-then-same_topic-2
returns-then-same_topic-2 c =
    let topic = (bytes_eq-Decides _ _).0 (sym c.eq-same_topic.ensures ∙ c.if-same_topic-2.true) in
    let written = rw c.as_str-client.ensures.value at c.in_ok-change_text.ensures in
    on_ok_weaker c.text-then-same_topic-2.result
    (λ e. payload_written c.args.line (copy_of c.args.before.now) (copy_of c.args.delivery.now)
    _ _ _ c.requires topic written e)
    (rw c.as_str-payload.ensures.value at c.text-then-same_topic-2.ensures)

pub change_text-requires-2 : goal.change_text-requires-2
change_text-requires-2 c =
    let after = copy_of c.args.delivery.now in
    rw c.as_str-2.ensures.value (same_payload c.args.line after _ _ _ _
    (topic_written c.args.line (copy_of c.args.before.now) after _ _ _ c.requires
    (rw c.as_str-client.ensures.value at c.in_ok-change_text.ensures)
    (rw c.topic_of-topic.ensures at c.in_ok-text.ensures)))

pub returns : goal.returns
returns c =
    let after = copy_of c.args.delivery.now in
    let written = topic_written c.args.line (copy_of c.args.before.now) after _ _ _ c.requires
    (rw c.as_str-client.ensures.value at c.in_ok-change_text.ensures)
    (rw c.topic_of-topic.ensures at c.in_ok-text.ensures) in
    on_ok_weaker c.change_text-2.result
    (λ e. e ∙ other_payload c.args.line after _ _ _ _ _ written)
    (rw c.as_str-payload.ensures.value at c.change_text-2.ensures)
