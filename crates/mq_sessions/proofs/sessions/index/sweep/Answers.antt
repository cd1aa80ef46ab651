use Rattle.std.proofs.Common.{◌≡◌, Bool, true, false, List, refl, arith}
use mir.Val.{bool_byte}
use Rattle.mq_world.specs.World.{Session}
use Rattle.mq_world.proofs.ListLemmas.{length-filter-most}
use Rattle.mq_sessions.specs.Ends.{is_ending, one_if, views_of}
use Rattle.mq_sessions.proofs.sessions.index.sweep.Goals as goal

as_one : (b : Bool) → bool_byte b ≡ one_if b
as_one true = refl
as_one false = refl

pub returns : goal.returns
returns c =
    let ss : List Session = views_of c.args.sessions.now.entries in
    let most = length-filter-most is_ending ss in
    let before = c.requires.kept.room in
    let moved = c.move_live.ensures in
    rw (c.swap.ensures.x_after, c.swap.ensures.y_after) (record {
      kept = record {
        listed = moved.listed;
        empty = moved.empty;
        fits = omega (arith, most, moved.few, moved.room, before.0);
        room = (omega (arith, moved.live_room, before.1), omega (arith, moved.room, before.0));
      };
      count = omega (arith, c.requires.count, as_one c.args.gone);
      few = omega (arith, moved.few);
    })
