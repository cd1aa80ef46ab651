use Rattle.std.proofs.Common.{◌≡◌, true, false, sym}
use Rattle.mq_world.specs.Views.{copy_of}
use Rattle.mq_jsonl.specs.Objects.{parts, parts_of, copy_names}
use Rattle.mq_jsonl.proofs.ObjectLemmas.{copy_count, copy_refilled, no_numbers}
use Rattle.mq_jsonl.proofs.ObjectLemmas.{some_numbers}
use Rattle.mq_jsonl.proofs.copies.set_copy.Goals as goal

pub returns-in-true-None-None : goal.returns-in-true-None-None
returns-in-true-None-None c =
    let copy = copy_of c.args.delivery.now in
    let arm = c.in-true-None-None in
    let done = c.refill in
    let ids = no_numbers copy.identifiers (rw (← c.as_slice-ids.ensures.value) (sym arm.ensures)) in
    copy_refilled done.result c.args.line copy _ _ _ _
    (record {
      fits = c.requires;
      empty = c.is_empty.ensures;
      some = c.if-is_empty.false;
      same_names = done.ensures.names;
      values = done.ensures.values;
    })
    (rw (
      c.as_str.ensures.value,
      c.as_str-2.ensures.value,
      c.from.ensures,
      c.topic_of.ensures,
      arm.is-1,
      arm.is-2,
      ids,
    ))

pub returns-in-false-None-None : goal.returns-in-false-None-None
returns-in-false-None-None c =
    let copy = copy_of c.args.delivery.now in
    let arm = c.in-false-None-None in
    let done = c.refill-in-false-None-None in
    let ids = some_numbers copy.identifiers (rw (← c.as_slice-ids.ensures.value) (sym arm.ensures))
    in
    copy_refilled done.result c.args.line copy _ _ _ _
    (record {
      fits = c.requires;
      empty = c.is_empty.ensures;
      some = c.if-is_empty.false;
      same_names = done.ensures.names;
      values = done.ensures.values;
    })
    (rw (
      c.as_str.ensures.value,
      c.as_str-2.ensures.value,
      c.from.ensures,
      c.topic_of.ensures,
      c.as_slice-ids.ensures.value,
      arm.is-1,
      arm.is-2,
      ids,
    ))

pub returns-in-true-Some-None : goal.returns-in-true-Some-None
returns-in-true-Some-None c =
    let copy = copy_of c.args.delivery.now in
    let arm = c.in-true-Some-None in
    let done = c.refill-in-true-Some-None in
    let ids = no_numbers copy.identifiers (rw (← c.as_slice-ids.ensures.value) (sym arm.ensures)) in
    copy_refilled done.result c.args.line copy _ _ _ _
    (record {
      fits = c.requires;
      empty = c.is_empty.ensures;
      some = c.if-is_empty.false;
      same_names = done.ensures.names;
      values = done.ensures.values;
    })
    (rw (
      c.as_str.ensures.value,
      c.as_str-2.ensures.value,
      c.from.ensures,
      c.topic_of.ensures,
      c.from-in-true-Some-None.ensures,
      arm.is-1,
      arm.is-2,
      ids,
    ))

pub returns-in-true-None-Some : goal.returns-in-true-None-Some
returns-in-true-None-Some c =
    let copy = copy_of c.args.delivery.now in
    let arm = c.in-true-None-Some in
    let done = c.refill-in-true-None-Some in
    let ids = no_numbers copy.identifiers (rw (← c.as_slice-ids.ensures.value) (sym arm.ensures)) in
    copy_refilled done.result c.args.line copy _ _ _ _
    (record {
      fits = c.requires;
      empty = c.is_empty.ensures;
      some = c.if-is_empty.false;
      same_names = done.ensures.names;
      values = done.ensures.values;
    })
    (rw (
      c.as_str.ensures.value,
      c.as_str-2.ensures.value,
      c.from.ensures,
      c.topic_of.ensures,
      c.as_str-in-true-None-Some.ensures.value,
      c.text.ensures.text,
      c.deref.ensures,
      arm.is-1,
      arm.is-2,
      ids,
    ))

pub refill-requires : goal.refill-requires
unfolding copy_names
refill-requires c =
    let copy = copy_of c.args.delivery.now in
    let arm = c.in-true-None-None in
    let ids = no_numbers copy.identifiers
    (rw (← c.as_slice-ids.ensures.value) (sym arm.ensures)) in
    let same : parts_of copy ≡ parts false false false = rw (arm.is-1, arm.is-2, ids) in
    copy_count copy (parts false false false) _ _ c.requires c.is_empty.ensures
    c.if-is_empty.false same

pub refill-requires-in-false-None-None : goal.refill-requires-in-false-None-None
unfolding copy_names
refill-requires-in-false-None-None c =
    let copy = copy_of c.args.delivery.now in
    let arm = c.in-false-None-None in
    let ids = some_numbers copy.identifiers
    (rw (← c.as_slice-ids.ensures.value) (sym arm.ensures)) in
    let same : parts_of copy ≡ parts true false false = rw (arm.is-1, arm.is-2, ids) in
    copy_count copy (parts true false false) _ _ c.requires c.is_empty.ensures
    c.if-is_empty.false same

pub refill-requires-in-true-Some-None : goal.refill-requires-in-true-Some-None
unfolding copy_names
refill-requires-in-true-Some-None c =
    let copy = copy_of c.args.delivery.now in
    let arm = c.in-true-Some-None in
    let ids = no_numbers copy.identifiers
    (rw (← c.as_slice-ids.ensures.value) (sym arm.ensures)) in
    let same : parts_of copy ≡ parts false true false = rw (arm.is-1, arm.is-2, ids) in
    copy_count copy (parts false true false) _ _ c.requires c.is_empty.ensures
    c.if-is_empty.false same

pub refill-requires-in-true-None-Some : goal.refill-requires-in-true-None-Some
unfolding copy_names
refill-requires-in-true-None-Some c =
    let copy = copy_of c.args.delivery.now in
    let arm = c.in-true-None-Some in
    let ids = no_numbers copy.identifiers
    (rw (← c.as_slice-ids.ensures.value) (sym arm.ensures)) in
    let same : parts_of copy ≡ parts false false true = rw (arm.is-1, arm.is-2, ids) in
    copy_count copy (parts false false true) _ _ c.requires c.is_empty.ensures
    c.if-is_empty.false same
