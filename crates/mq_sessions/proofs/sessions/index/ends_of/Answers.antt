use Rattle.std.proofs.Common.{◌≡◌, ap, sym, is_some, length, arith}
use Rattle.std.specs.Map.Iter.{deref_pair}
use Rattle.std.proofs.lemmas.Map.Iter.{rest_more, rest_all}
use Rattle.mq_sessions.specs.Ends.{Entry, ending, is_ending, one_if, views_of}
use Rattle.mq_sessions.specs.Views.{session_in}
use Rattle.mq_sessions.proofs.CountLemmas.{ending-more}
use Rattle.mq_sessions.proofs.EndLemmas.{lists-all, lists-more, no-end, one-end, with-new, with-old}
use Rattle.mq_sessions.proofs.sessions.index.ends_of.Goals as goal

pub loop-id-preserved-in-Some-end : goal.loop-id-preserved-in-Some-end
loop-id-preserved-in-Some-end c =
    let x : Entry = (c.in-Some.id.now, c.in-Some.session.now) in
    let new = c.add.new.self.entries in
    let left = rest_more deref_pair _ _ _ (c.in-Some.id, c.in-Some.session) c.in-Some.is
    c.next.ensures.steps in
    record {
      listed = lists-more x c.next.new.self c.loop-id.id-iterator _ c.loop-id.ends.entries new left
          (with-old _ c.loop-id.ends.entries new c.add.ensures.entries)
          (one-end c.in-Some-end.end _ new (session_in x) c.in-Some-end.ensures
          c.in_ok-clone.ensures.cases
          (with-new _ c.loop-id.ends.entries new c.add.ensures.entries))
          c.loop-id.invariant.listed;
      count =
          let before = ap (λ es. length (ending (views_of es))) left in
          let more = ending-more (session_in x) (views_of c.next.new.self) in
          let one : one_if (is_ending (session_in x)) ≡ 1 =
          ap (λ o. one_if (is_some o)) (sym c.in-Some-end.ensures) in
          omega (arith, c.loop-id.invariant.count, c.add.ensures.entries.count, before, more, one);
      fits =
          let longer = ap length left in
          omega (arith, c.loop-id.invariant.fits, c.add.ensures.entries.count);
      room = omega (arith, c.loop-id.invariant.room, c.add.ensures.room);
    }

pub loop-id-preserved : goal.loop-id-preserved
loop-id-preserved c =
    let x : Entry = (c.in-Some.id.now, c.in-Some.session.now) in
    let left = rest_more deref_pair _ _ _ (c.in-Some.id, c.in-Some.session) c.in-Some.is
    c.next.ensures.steps in
    record {
      listed = lists-more x c.next.new.self c.loop-id.id-iterator _ c.loop-id.ends.entries
          c.loop-id.ends.entries left (λ d k. k)
          (no-end c.loop-id.ends.entries (session_in x) c.in_default.ensures)
          c.loop-id.invariant.listed;
      count =
          let before = ap (λ es. length (ending (views_of es))) left in
          let more = ending-more (session_in x) (views_of c.next.new.self) in
          omega (arith, c.loop-id.invariant.count, before, more);
      fits =
          let longer = ap length left in
          omega (arith, c.loop-id.invariant.fits);
      room = c.loop-id.invariant.room;
    }

pub returns-clause-listed : goal.returns-clause-listed
returns-clause-listed c =
    lists-all c.loop-id.id-iterator _ c.loop-id.ends.entries
    (rest_all deref_pair _ _ _ c.in-None.is c.next.ensures.steps) c.loop-id.invariant.listed
