use Rattle.std.proofs.Common.{append_assoc}
use Rattle.std.proofs.lemmas.List.{map_more, map-append, take_all}
use Rattle.mq_jsonl.specs.Printed.{whole_data}
use Rattle.mq_jsonl.proofs.object.push_numbers.Goals as goal

pub loop-n-preserved : goal.loop-n-preserved
loop-n-preserved c =
    let more = map_more whole_data c.args.numbers.now c.loop-n.n-index 0 c.loop-n-test.true in
    rw (
      c.in_ok-push.ensures.items,
      map-append,
      c.loop-n.invariant,
      more,
      append_assoc,
      c.from-in-loop-n.ensures,
      c.from.ensures,
    )

pub returns : goal.returns
returns c = rw (take_all c.loop-n.n-index c.args.numbers.now c.loop-n-test.false)
    at c.loop-n.invariant
