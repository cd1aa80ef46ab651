use Rattle.std.proofs.Common.{◌<◌, ◌+◌, ◌∙◌, get_or, length, map, set, refl, arith}
use Rattle.std.proofs.Math.ListN.{length-set}
use Rattle.std.specs.Option.{option_copied}
use Rattle.std.proofs.lemmas.Result.{err_from_is_err_and}
use Rattle.mq_reach.specs.Tracked.{IsAsked, IsOf, entry_view}
use Rattle.mq_reach.specs.declared.tracked.Entry.{Entry}
use Rattle.mq_reach.proofs.WalkLemmas.{at-set, fault-at, left-within, steps-done, steps-itself}
use Rattle.mq_reach.proofs.WalkLemmas.{steps-more, shown-set, walked}
use Rattle.mq_reach.proofs.tracked.ask_at.Goals as goal

pub returns-in_err-ask-clause-kept : goal.returns-in_err-ask-clause-kept
returns-in_err-ask-clause-kept c = λ test is.
    let places = c.args.places.now in
    let i = c.loop-place.place-index in
    let entries = c.loop-place.entries in
    let entry = c.index-entries-place.result in
    let within : get_or places i 0 < length entries =
    (let bound = c.requires i 0 c.loop-place-test.true in omega (arith, c.loop-place.auto.entries))
    in
    let new = set entries (get_or places i 0) c.ask.new.self in
    let us = map entry_view new in
    walked IsOf test (map entry_view c.args.entries.now) us places is
    (c.loop-place.invariant.kept us
    (steps-more IsOf places i entries new us c.loop-place-test.true
    (at-set IsOf entries (get_or places i 0) c.ask.new.self entry within c.ask.ensures.kept)
    (steps-itself IsOf (λ t. refl) _ us (left-within c.args.entries.now new places (i + 1)
    (omega (arith, length-set {A = Entry}, c.loop-place.auto.entries)) c.requires))))

pub returns-in_err-ask-clause-err : goal.returns-in_err-ask-clause-err
returns-in_err-ask-clause-err c =
    let places = c.args.places.now in
    let i = c.loop-place.place-index in
    let entries = c.loop-place.entries in
    let entry = c.index-entries-place.result in
    let within : get_or places i 0 < length entries =
    (let bound = c.requires i 0 c.loop-place-test.true in omega (arith, c.loop-place.auto.entries))
    in
    let fault = err_from_is_err_and c.from_residual.result c.from_residual.ensures.1 in
    rw (fault.1, fault.2) (λ client is. fault-at c.args.list.now client
    (option_copied c.args.user) entries
    c.args.entries.now places i entry _ c.loop-place.invariant.shown c.loop-place.invariant.count
    c.loop-place-test.true within is c.in_err-ask.ensures.err)

pub loop-place-preserved : goal.loop-place-preserved
loop-place-preserved c =
    let R = IsAsked c.args.list.now (option_copied c.args.user) in
    let places = c.args.places.now in
    let i = c.loop-place.place-index in
    let entries = c.loop-place.entries in
    let entry = c.index-entries-place.result in
    let within : get_or places i 0 < length entries =
    (let bound = c.requires i 0 c.loop-place-test.true in omega (arith, c.loop-place.auto.entries))
    in
    record {
      asked = λ us steps. c.loop-place.invariant.asked us (steps-more R places i entries _ us
          c.loop-place-test.true
          (at-set R entries (get_or places i 0) c.ask.new.self entry within c.in_ok-ask.ensures.ok)
          steps);
      kept = λ us steps. c.loop-place.invariant.kept us (steps-more IsOf places i entries _ us
          c.loop-place-test.true
          (at-set IsOf entries (get_or places i 0) c.ask.new.self entry within c.ask.ensures.kept)
          steps);
      shown = shown-set entries (get_or places i 0) c.ask.new.self entry within c.ask.ensures.kept
          ∙ c.loop-place.invariant.shown;
      count = omega (arith, length-set {A = Entry}, c.loop-place.invariant.count);
    }

pub returns-clause-ok : goal.returns-clause-ok
returns-clause-ok c = λ test is.
    let R = IsAsked c.args.list.now (option_copied c.args.user) in
    let us = map entry_view c.loop-place.entries in
    walked R test (map entry_view c.args.entries.now) us c.args.places.now is
    (c.loop-place.invariant.asked us (steps-done R c.args.places.now c.loop-place.place-index us
    c.loop-place-test.false))

pub returns-clause-kept : goal.returns-clause-kept
returns-clause-kept c = λ test is.
    let us = map entry_view c.loop-place.entries in
    walked IsOf test (map entry_view c.args.entries.now) us c.args.places.now is
    (c.loop-place.invariant.kept us (steps-done IsOf c.args.places.now c.loop-place.place-index us
    c.loop-place-test.false))
