use Rattle.std.proofs.Common.{◌∙◌, length, List, sym, ap, refl, arith}
use Rattle.std.specs.Rc.{rc_str_bytes}
use Rattle.mq_world.specs.World.{Session}
use Rattle.mq_sessions.specs.Dues.{Due}
use Rattle.mq_sessions.specs.Ends.{views_of}
use Rattle.mq_sessions.proofs.EndLemmas.{shorter}
use Rattle.mq_sessions.proofs.SweepLemmas.{swept-dead, swept-few, swept-listed, swept-live, swept-none}
use Rattle.mq_sessions.proofs.SweepLemmas.{swept-twice, with-rest}
use Rattle.mq_sessions.proofs.sessions.index.move_live.Goals as goal
use Rattle.mq_sessions.proofs.sessions.index.move_live.Goals.{else-not-has_first-via-then-not-has_first+else-has_end, else-not-has_first-via-else-not-has_first}

pub loop-end-init : goal.loop-end-init
loop-end-init c = record {
  swept = swept-none c.args.ends.now.entries c.args.live.now.entries
      (views_of c.args.sessions.now.entries) c.requires.empty c.requires.listed;
  fits =
      let none = ap length c.requires.empty in
      omega (arith, none, c.requires.fits);
  room = refl;
  live_room = omega arith;
}

pub loop-end-preserved-then-has_end : goal.loop-end-preserved-then-has_end
loop-end-preserved-then-has_end c =
    let f : Due = (c.in-Some.end, rc_str_bytes c.in-Some.client) in
    let dues = c.loop-end.ends.entries in
    let rest = c.pop.new.self.entries in
    let less = shorter f dues rest c.in-Some.ensures.first c.pop.ensures.entries in
    record {
      swept = swept-live f rest dues c.loop-end.live.entries c.add.new.self.entries
          (views_of c.args.sessions.now.entries)
          (with-rest f dues rest c.in-Some.ensures.first c.pop.ensures.entries)
          (sym c.if-not-has_first.true ∙ c.has_first.ensures)
          (sym c.if-has_end.true ∙ c.has_end.ensures)
          c.add.ensures.entries c.loop-end.invariant.swept;
      fits = omega (
        arith,
        less,
        c.loop-end.invariant.fits,
        c.add.ensures.entries.count,
        c.add.ensures.room,
      );
      room = c.pop.ensures.room ∙ c.loop-end.invariant.room;
      live_room = omega (arith, c.loop-end.invariant.live_room, c.add.ensures.room);
    }

pub loop-end-preserved : goal.loop-end-preserved
loop-end-preserved c =
    let f : Due = (c.in-Some.end, rc_str_bytes c.in-Some.client) in
    let dues = c.loop-end.ends.entries in
    let rest = c.pop.new.self.entries in
    let ss : List Session = views_of c.args.sessions.now.entries in
    let less = shorter f dues rest c.in-Some.ensures.first c.pop.ensures.entries in
    let left = with-rest f dues rest c.in-Some.ensures.first c.pop.ensures.entries in
    record {
      swept = elim c.else-not-has_first.branch [
        | else-not-has_first-via-then-not-has_first+else-has_end w ↦
            swept-dead f rest dues c.loop-end.live.entries ss left
            (sym w.if-has_end.false ∙ w.has_end.ensures) c.loop-end.invariant.swept
        | else-not-has_first-via-else-not-has_first w ↦
            swept-twice f rest dues c.loop-end.live.entries ss left
            (sym w.if-not-has_first.false ∙ c.has_first.ensures) c.loop-end.invariant.swept
      ];
      fits = omega (arith, less, c.loop-end.invariant.fits);
      room = c.pop.ensures.room ∙ c.loop-end.invariant.room;
      live_room = c.loop-end.invariant.live_room;
    }

pub returns-clause-listed : goal.returns-clause-listed
returns-clause-listed c =
    swept-listed c.loop-end.ends.entries c.loop-end.live.entries
    (views_of c.args.sessions.now.entries) c.in_default.ensures.first c.loop-end.invariant.swept

pub returns-clause-few : goal.returns-clause-few
returns-clause-few c =
    swept-few c.loop-end.ends.entries c.loop-end.live.entries
    (views_of c.args.sessions.now.entries) c.loop-end.invariant.swept
