use Rattle.std.proofs.Common.{◌∙◌, ap, arith, is_some, length}
use Rattle.std.proofs.lemmas.List.{length-map}
use Rattle.mq_world.specs.Sessions.{left_by}
use Rattle.mq_sessions.specs.Views.{sessions_of}
use Rattle.mq_sessions.proofs.CountLemmas.{ending-others, one-most}
use Rattle.mq_sessions.proofs.EndLemmas.{listed-more}
use Rattle.mq_sessions.proofs.sessions.Sessions.disconnect.Goals as goal

pub push_end-requires-clause-room : goal.push_end-requires-clause-room
push_end-requires-clause-room c =
    let invariant = c.self.invariant.0 in
    omega (
      arith,
      invariant.few,
      invariant.kept.room.0,
      c.in-Some.ensures.fewer,
      ending-others (sessions_of c.self.inside),
    )

pub push_end-requires-clause-count : goal.push_end-requires-clause-count
push_end-requires-clause-count c =
    let invariant = c.self.invariant.0 in
    omega (
      arith,
      invariant.count,
      invariant.kept.room.0,
      c.in-Some.ensures.fewer,
      ending-others (sessions_of c.self.inside),
    )

pub invariant_of-self-2 : goal.invariant_of-self-2
invariant_of-self-2 c =
    let invariant = c.self.invariant.0 in
    let before = sessions_of c.self.inside in
    let one = one-most (is_some c.in-Some.disconnection.end) in
    let long = ap length c.in-Some.ensures.left in
    let same = length-map before (left_by c.args.clock.moment c.args.id.now) in
    let spare = ap (λ dues. dues.room) c.push_end.ensures.spare in (
      record {
        kept = record {
          listed = c.in-Some.ensures.listed c.push_end.new.index.ends.entries
              (listed-more c.self.inside.index.ends.entries c.push_end.new.index.ends.entries
              c.push_end.ensures.others before invariant.kept.listed)
              c.push_end.ensures.listed;
          empty = ap (λ dues. dues.entries) c.push_end.ensures.spare ∙ invariant.kept.empty;
          fits = omega (
            arith,
            one,
            spare,
            invariant.few,
            invariant.kept.room.1,
            c.in-Some.ensures.fewer,
            c.push_end.ensures.length,
            ending-others before,
          );
          room = (
            omega (arith, long, same, invariant.kept.room.0, c.push_end.ensures.room),
            omega (arith, long, same, invariant.kept.room.1, spare),
          );
        };
        count = omega (arith, invariant.count, c.in-Some.ensures.ending, c.push_end.ensures.count);
        few = omega (arith, invariant.few, c.in-Some.ensures.ending, c.push_end.ensures.length);
      },
      c.in-Some.ensures.ids,
    )
