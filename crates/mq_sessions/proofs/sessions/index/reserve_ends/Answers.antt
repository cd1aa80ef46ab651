use Rattle.std.proofs.Common.{◌≡◌, ◌+◌, ◌*◌, ◌≤◌, length, rules, arith}
use Rattle.std.proofs.lemmas.List.{length-map}
use Rattle.mq_world.proofs.ListLemmas.{length-filter-most}
use Rattle.mq_sessions.specs.Ends.{is_ending, views_of}
use Rattle.mq_sessions.specs.Views.{session_in}
use Rattle.mq_sessions.proofs.sessions.index.reserve_ends.Goals as goal

pub returns-clause-indexed : goal.returns-clause-indexed
returns-clause-indexed c =
    let es = c.args.sessions.now.entries in
    let long : length (views_of es) ≡ length es = length-map es session_in in
    let most = length-filter-most is_ending (views_of es) in
    let twice : (length es + 1) * 2 ≤ c.in_ok-wanted.wanted = search rules in
    let more : c.in_ok-wanted.wanted ≤ c.in_ok-room.room = search rules in
    let ends = c.in_ok-ends.ensures in
    let spare = c.in_ok-spare.ensures in
    record {
      kept = record {
        listed = ends.listed;
        empty = spare.entries;
        fits = omega (arith, long, most, twice, more, ends.count, spare.room);
        room = (
          omega (arith, long, twice, more, ends.room),
          omega (arith, long, twice, more, spare.room),
        );
      };
      count = c.requires.count;
      few = omega (arith, ends.count);
    }
