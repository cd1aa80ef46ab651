-- The index of the ends of sessions, once these have changed and before it is swept.
use Rattle.std.proofs.Common.{◌≡◌, ◌+◌, ◌*◌, ◌≤◌, Bool, List, length, None, sym, subst, arith}
use Rattle.std.specs.List.{filter}
use Rattle.mq_world.specs.Lists.{with_row}
use Rattle.mq_world.specs.World.{Session, session_cmp}
use Rattle.mq_world.proofs.ListLemmas.{length-filter-most}
use Rattle.mq_world.proofs.OrderLemmas.{all_filtered}
use Rattle.mq_sessions.specs.Ends.{AreKept, AreListed, HasRoom, IsListed, end_of}
use Rattle.mq_sessions.specs.declared.sessions.index.Index.{Index}
use Rattle.mq_sessions.proofs.EndLemmas.{listed-put}

-- some sessions are removed
pub kept-fewer : (index : Index) (test : Session → Bool) (ss after : List Session)
    → after ≡ filter test ss → AreKept index ss → AreKept index after
kept-fewer index test ss after is h = subst (AreKept index) (sym is) (record {
  listed = all_filtered (IsListed index.ends.entries) test ss h.listed;
  empty = h.empty;
  fits = h.fits;
  room = (
    omega (arith, h.room.0, length-filter-most test ss),
    omega (arith, h.room.1, length-filter-most test ss),
  );
})

-- a session whose client is connected is put, for which there is room
pub kept-put : (index : Index) (s : Session) (ss after : List Session)
    → after ≡ with_row session_cmp s ss → None ≡ end_of s → length after ≤ length ss + 1
    → HasRoom (2 * (length ss + 1)) index → AreKept index ss → AreKept index after
kept-put index s ss after is none more room h = record {
  listed = subst (AreListed index.ends.entries) (sym is)
      (listed-put index.ends.entries s ss none h.listed);
  empty = h.empty;
  fits = h.fits;
  room = (omega (arith, more, room.0), omega (arith, more, room.1));
}
