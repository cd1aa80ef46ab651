use Rattle.std.proofs.Common.{◌≡◌, ◌<◌, ◌+◌, ◌∙◌, ◌==◌, sym, false, drop, get_or, arith}
use Rattle.std.proofs.lemmas.Bool.{not-true}
use Rattle.std.proofs.lemmas.Bool.Decides.{nat_tests}
use Rattle.mq_acl.proofs.StartLemmas.{apart_at_once, apart_behind, from_place}
use Rattle.mq_acl.proofs.starts.starts_apart.Goals as goal

pub same-preserved : goal.same-preserved
same-preserved c =
    let filter = c.args.filter.now in
    let name = c.args.name.now in
    let at = c.same.at in
    let held = c.same.invariant in
    let within : at < c.min-most.result = c.same-test.true in
    let filter_rest = from_place filter at
    (let room = held.filter_room in omega arith) in
    let name_rest = from_place name at (let room = held.name_room in omega arith) in
    let unmarked : (get_or filter at 0 == 37) ≡ false =
    (let other = c.if-filter-at-ne37.true in grind (arith, nat_tests)) in
    record {
      passed = omega arith;
      filter_room = held.filter_room;
      name_room = held.name_room;
      behind = λ rest. held.behind (apart_behind (get_or filter at 0) (get_or name at 0)
          (drop (at + 1) filter) (drop (at + 1) name) (drop at filter) (drop at name)
          filter_rest name_rest c.if-filter-at.true unmarked rest);
    }

pub returns-then-filter-at-2 : goal.returns-then-filter-at-2
returns-then-filter-at-2 c = λ e.
    let filter = c.args.filter.now in
    let name = c.args.name.now in
    let at = c.same.at in
    let held = c.same.invariant in
    let within : at < c.min-most.result =
    (let passed = held.passed in let inside = c.if-at-most.false in omega arith) in
    let filter_rest = from_place filter at
    (let room = held.filter_room in omega arith) in
    let name_rest = from_place name at (let room = held.name_room in omega arith) in
    let differ : (get_or filter at 0 == get_or name at 0) ≡ false =
    (let other = c.if-filter-at-2.true in grind (arith, nat_tests)) in
    held.behind (apart_at_once (get_or filter at 0) (get_or name at 0)
    (drop (at + 1) filter) (drop (at + 1) name) (drop at filter) (drop at name)
    filter_rest name_rest (sym c.is_special.ensures ∙ not-true c.is_special.result e) differ)
