use Rattle.std.proofs.Common.{sym, ◌∙◌, arith}
use Rattle.std.specs.Rc.{rc_str_bytes}
use Rattle.mq_sessions.specs.Dues.{Due}
use Rattle.mq_sessions.proofs.EndLemmas.{listed-rest, shorter}
use Rattle.mq_sessions.proofs.sessions.index.drop_stale_ends.Goals as goal

pub loop-end-preserved-else-has_end : goal.loop-end-preserved-else-has_end
loop-end-preserved-else-has_end c =
    let f : Due = (c.in-Some.end, rc_str_bytes c.in-Some.client.now) in
    record {
      listed = listed-rest f c.loop-end.ends.entries c.pop.new.self.entries _ c.in-Some.ensures
          c.pop.ensures.entries (sym c.has_end.ensures ∙ c.if-has_end.false)
          c.loop-end.invariant.listed;
      count =
          let less = shorter f c.loop-end.ends.entries c.pop.new.self.entries c.in-Some.ensures
          c.pop.ensures.entries in
          omega (arith, c.loop-end.invariant.count);
      room = c.pop.ensures.room ∙ c.loop-end.invariant.room;
    }
