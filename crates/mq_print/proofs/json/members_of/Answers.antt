use Rattle.std.proofs.Common.{ap, take}
use Rattle.std.proofs.lemmas.List.{take_more}
use Rattle.serde_json.specs.Data.{no_members, put}
use Rattle.mq_print.specs.Objects.{datum_data, with_data}
use Rattle.mq_print.proofs.MemberLemmas.{with_data-last}
use Rattle.mq_print.proofs.json.members_of.Goals as goal

pub loop-name-preserved : goal.loop-name-preserved
loop-name-preserved c =
    let before = take c.loop-name.name-index c.args.fields.now in
    let more = take_more c.args.fields.now c.loop-name.name-index c.loop-name-item.result
    c.loop-name-test.true in
    rw (
      c.in_ok-put.ensures,
      more,
      with_data-last,
      c.loop-name.invariant,
      c.in_ok-value.ensures,
    ) (ap (λ d. put d.0.now (datum_data d.1) (with_data no_members before)) c.loop-name-item.is)
