use Rattle.std.proofs.Common.{get_or, false, None}
use Rattle.mq_cover.specs.Remainders.{marks_view}
use Rattle.mq_cover.specs.declared.remainder.Remainder.{Remainder}
use Rattle.mq_cover.proofs.ChoiceLemmas.{alike, alike_more, alike_all}
use Rattle.mq_cover.proofs.choice.demanded.Goals as goal

pub loop-remainder-preserved : goal.loop-remainder-preserved
loop-remainder-preserved c =
    let marks = marks_view c.args.marks in
    let rs = c.args.must.now in
    let i = c.loop-remainder.remainder-index in
    let none : Remainder = record { pattern = false; rest = None } in
    alike_more marks rs i none c.loop-remainder-test.true
    (alike marks (get_or rs i none) c.next.result c.next.ensures.goes_on c.in_default.not-At)
    c.loop-remainder.invariant

pub returns-clause-none : goal.returns-clause-none
returns-clause-none c =
    alike_all (marks_view c.args.marks) c.args.must.now c.loop-remainder.remainder-index
    c.loop-remainder-test.false c.loop-remainder.invariant
