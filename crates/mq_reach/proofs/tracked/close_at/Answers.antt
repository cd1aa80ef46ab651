use Rattle.std.proofs.Common.{◌<◌, get_or, length, map, arith}
use Rattle.std.specs.Option.{option_copied}
use Rattle.mq_reach.specs.Tracked.{entry_view}
use Rattle.mq_reach.proofs.OpenLemmas.{Closes}
use Rattle.mq_reach.proofs.WalkLemmas.{at-set, steps-done, steps-more, walked}
use Rattle.mq_reach.proofs.tracked.close_at.Goals as goal

pub loop-place-preserved : goal.loop-place-preserved
loop-place-preserved c = λ us steps.
    let R = Closes (option_copied c.args.filter) in
    let places = c.args.places.now in
    let i = c.loop-place.place-index in
    let entries = c.loop-place.entries in
    let entry = c.index-entries-place.result in
    let within : get_or places i 0 < length entries =
    (let bound = c.requires i 0 c.loop-place-test.true in omega (arith, c.loop-place.auto.entries))
    in
    c.loop-place.invariant us (steps-more R places i entries _ us c.loop-place-test.true
    (at-set R entries (get_or places i 0) c.close.new.self entry within c.close.ensures) steps)

pub returns : goal.returns
returns c = λ test is.
    let R = Closes (option_copied c.args.filter) in
    let us = map entry_view c.loop-place.entries in
    walked R test (map entry_view c.args.entries.now) us c.args.places.now is
    (c.loop-place.invariant us (steps-done R c.args.places.now c.loop-place.place-index us
    c.loop-place-test.false))
