use Rattle.std.proofs.Common.{◌≡◌, ◌+◌, ◌≤◌, ◌++◌, length, map}
use Rattle.std.specs.List.{filter_map}
use Rattle.std.specs.Vec.{vec_capacity, vec_len}
use Rattle.mq_world.specs.Waiting.{resumed_copy}
use Rattle.mq_world.specs.Views.{copy_of}
use Rattle.mq_sessions.specs.Near.{AreReached}
use Rattle.mq_sessions.specs.Views.{waiting_of}
use Rattle.mq_sessions.proofs.sessions.resume.move_copies.Given as goal

abbrev pub invariant-loop-first : goal.invariant-loop-first
invariant-loop-first l = record {
  reached : AreReached l.clock.moment (map waiting_of l.waiting);
  room : vec_len l.copies + length l.waiting ≤ vec_capacity l.copies;
  so_far : map copy_of l.copies.items
      ++ filter_map (resumed_copy l.clock.moment) (map waiting_of l.waiting)
      ≡ map copy_of l.fn.copies.items
      ++ filter_map (resumed_copy l.clock.moment) (map waiting_of l.fn.waiting);
}

abbrev pub decreases-loop-first : goal.decreases-loop-first
decreases-loop-first l = length l.waiting
