use Rattle.std.proofs.Common.{◌∙◌}
use Rattle.mq_world.specs.Views.{copy_of}
use Rattle.mq_jsonl.proofs.SharedLemmas.{other_client, client_parted, parted_room, around_front}
use Rattle.mq_jsonl.proofs.SharedLemmas.{around_behind}
use Rattle.mq_jsonl.proofs.printed.Printed.around_client.Goals as goal

pub around-requires : goal.around-requires
around-requires c =
    parted_room _ _ _ _ _ _ (client_parted c.args.self.now.line (copy_of c.args.self.now.copy.now) _
    _ _ (c.as_slice.ensures.value ∙ c.args.self.now.is_line) c.requires.start c.requires.client)

pub returns : goal.returns
returns c =
    let k = c.args.self.now.line in
    let copy = copy_of c.args.self.now.copy.now in
    let parted = client_parted k copy _ _ _ (c.as_slice.ensures.value ∙ c.args.self.now.is_line)
    c.requires.start c.requires.client in
    let front = around_front _ _ _ _ _ _ _ parted c.around.ensures.front in
    let behind = around_behind _ _ _ _ _ _ _ parted c.around.ensures.behind in
    λ x. rw (front, behind) (other_client k copy x)
