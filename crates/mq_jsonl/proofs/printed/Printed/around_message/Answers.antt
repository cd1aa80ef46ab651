use Rattle.std.proofs.Common.{◌∙◌}
use Rattle.mq_world.specs.Views.{copy_of}
use Rattle.mq_jsonl.proofs.SharedLemmas.{other_message, payload_ended, topic_ended, ended_room}
use Rattle.mq_jsonl.proofs.SharedLemmas.{ended_parted, around_front, around_behind}
use Rattle.mq_jsonl.proofs.printed.Printed.around_message.Goals as goal

pub around_before-requires : goal.around_before-requires
around_before-requires c =
    ended_room _ _ _ _ _ _ (payload_ended c.args.self.now.line (copy_of c.args.self.now.copy.now) _
    _ _ (c.as_slice.ensures.value ∙ c.args.self.now.is_line) c.requires.group c.requires.payload
    c.requires.rest)

pub around_before-requires-2 : goal.around_before-requires-2
around_before-requires-2 c =
    let copy = copy_of c.args.self.now.copy.now in
    let parted = ended_parted _ _ _ _ _ _ (payload_ended c.args.self.now.line copy _ _ _
    (c.as_slice.ensures.value ∙ c.args.self.now.is_line) c.requires.group c.requires.payload
    c.requires.rest) in
    let behind = around_behind _ _ _ _ _ _ _ parted c.around_before.ensures.behind in
    ended_room _ _ _ _ _ _ (topic_ended copy _ _ behind c.requires.topic)

pub returns : goal.returns
returns c =
    let k = c.args.self.now.line in
    let copy = copy_of c.args.self.now.copy.now in
    let parted = ended_parted _ _ _ _ _ _ (payload_ended k copy _ _ _
    (c.as_slice.ensures.value ∙ c.args.self.now.is_line) c.requires.group c.requires.payload
    c.requires.rest) in
    let front = around_front _ _ _ _ _ _ _ parted c.around_before.ensures.front in
    let behind = around_behind _ _ _ _ _ _ _ parted c.around_before.ensures.behind in
    let then = ended_parted _ _ _ _ _ _ (topic_ended copy _ _ behind c.requires.topic) in
    let between = around_front _ _ _ _ _ _ _ then c.around_before-2.ensures.front in
    let end = around_behind _ _ _ _ _ _ _ then c.around_before-2.ensures.behind in
    λ t p. rw (front, between, end) (other_message k copy t p)
