use Rattle.std.proofs.Common.{ap, sym, ◌∙◌, bytes_eq, ◌||◌}
use Rattle.std.proofs.lemmas.Bool.{or_parts}
use Rattle.mq_topic.specs.Levels.{levels_left}
use Rattle.mq_witness.specs.Overlaps.{is_loose}
use Rattle.mq_witness.proofs.OverlapLemmas.{apart_at, apart_behind, apart_here}
use Rattle.mq_witness.proofs.overlap.may_meet.Goals as goal

pub returns-then-not-may_share : goal.returns-then-not-may_share
returns-then-not-may_share c =
    let p = c.args.one.now.pattern in
    let q = c.args.other.now.pattern in
    let w = c.split_first.result.0.now in
    let v = c.split_first-in-Some.result.0.now in
    let ws = levels_left c.split_first.result.1 in
    let vs = levels_left c.split_first-in-Some.result.1 in
    let differ = or_parts (is_loose p w || is_loose q v) (bytes_eq w v)
    (sym c.may_share.ensures ∙ c.if-not-may_share.true) in
    let strict = or_parts (is_loose p w) (is_loose q v) differ.0 in
    λ e marks. c.loop-one_rest.invariant marks
    (apart_at p q marks _ _ _ _ (ap levels_left c.in-Some.is ∙ c.split_first.ensures)
    (ap levels_left c.in-Some-other_rest.is ∙ c.split_first-in-Some.ensures)
    (apart_here p q marks w v ws vs (sym c.is_last_hash.ensures ∙ c.if-is_last_hash.false)
    (sym c.is_last_hash-in-Some.ensures ∙ c.if-is_last_hash-2.false) strict.0 strict.1 differ.1))

pub loop-one_rest-preserved : goal.loop-one_rest-preserved
loop-one_rest-preserved c =
    let p = c.args.one.now.pattern in
    let q = c.args.other.now.pattern in
    let w = c.split_first.result.0.now in
    let v = c.split_first-in-Some.result.0.now in
    let ws = levels_left c.split_first.result.1 in
    let vs = levels_left c.split_first-in-Some.result.1 in
    λ marks apart. c.loop-one_rest.invariant marks
    (apart_at p q marks _ _ _ _ (ap levels_left c.in-Some.is ∙ c.split_first.ensures)
    (ap levels_left c.in-Some-other_rest.is ∙ c.split_first-in-Some.ensures)
    (apart_behind p q marks w v ws vs (sym c.is_last_hash.ensures ∙ c.if-is_last_hash.false)
    (sym c.is_last_hash-in-Some.ensures ∙ c.if-is_last_hash-2.false) apart))
