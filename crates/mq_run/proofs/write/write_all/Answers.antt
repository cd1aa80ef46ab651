use Rattle.std.proofs.Common.{◌+◌, take, rules}
use Rattle.std.proofs.KnownBytes.{Appends-kept}
use Rattle.mq_run.proofs.WrittenLemmas.{Appends-more, AppendsSome-take}
use Rattle.mq_run.proofs.write.write_all.Goals as goal

pub returns-then-n-eq0-clause-err : goal.returns-then-n-eq0-clause-err
returns-then-n-eq0-clause-err g c =
    let taken = g.W.Sink.taken in
    AppendsSome-take (taken c.args.writer.now) (taken c.write.new.self) (c.loop-at.at + c.in-Ok.n)
    c.args.text.now
    (Appends-more _ (taken c.loop-at.writer) _ c.loop-at.at c.in-Ok.n c.args.text.now
    c.loop-at.invariant.written c.in-Ok.ensures.bytes)

pub loop-at-preserved : goal.loop-at-preserved
loop-at-preserved g c =
    let taken = g.W.Sink.taken in
    record {
      within = search rules;
      written = Appends-more (taken c.args.writer.now) (taken c.loop-at.writer)
          (taken c.write.new.self) c.loop-at.at c.in-Ok.n c.args.text.now
          c.loop-at.invariant.written c.in-Ok.ensures.bytes;
      count = search (rules, c.in-Ok.ensures.counted, c.loop-at.invariant.count);
    }

pub returns-in-Err-clause-err : goal.returns-in-Err-clause-err
returns-in-Err-clause-err g c =
    let taken = g.W.Sink.taken in
    AppendsSome-take (taken c.args.writer.now) (taken c.write.new.self) c.loop-at.at c.args.text.now
    (Appends-kept _ (taken c.loop-at.writer) _ (take c.loop-at.at c.args.text.now)
    c.loop-at.invariant.written c.in-Err.ensures.bytes)
