use Rattle.std.proofs.Common.{◌∙◌}
use Rattle.mq_world.specs.Views.{copy_of}
use Rattle.mq_jsonl.proofs.SharedLemmas.{other_topic, line_ended, ended_room, ended_parted}
use Rattle.mq_jsonl.proofs.SharedLemmas.{around_front, around_behind}
use Rattle.mq_jsonl.proofs.printed.Printed.around_topic.Goals as goal

pub around_before-requires : goal.around_before-requires
around_before-requires c =
    ended_room _ _ _ _ _ _ (line_ended c.args.self.now.line (copy_of c.args.self.now.copy.now) _ _
    (c.as_slice.ensures.value ∙ c.args.self.now.is_line) c.requires)

pub returns : goal.returns
returns c =
    let k = c.args.self.now.line in
    let copy = copy_of c.args.self.now.copy.now in
    let parted = ended_parted _ _ _ _ _ _ (line_ended k copy _ _
    (c.as_slice.ensures.value ∙ c.args.self.now.is_line) c.requires) in
    let front = around_front _ _ _ _ _ _ _ parted c.around_before.ensures.front in
    let behind = around_behind _ _ _ _ _ _ _ parted c.around_before.ensures.behind in
    λ t. rw (front, behind) (other_topic k copy t)
