use Rattle.std.proofs.Common.{ap, ◌∙◌, ◌+◌, ◌++◌, lit<, arith, length, replicate, length-append}
use Rattle.std.proofs.lemmas.List.{length-replicate}
use Rattle.std.proofs.lemmas.Str.{encode_ascii}
use Rattle.mq_witness.proofs.FreshLemmas.{padded_more}
use Rattle.mq_witness.proofs.fresh.longest_text.Goals as goal

pub loop-count-preserved : goal.loop-count-preserved
loop-count-preserved c = c.in_ok-push.ensures.bytes
    ∙ (λ i. c.loop-count.invariant i ++ encode_ascii 120 (lit< tt) i)
    ∙ padded_more c.args.base.now c.loop-count._count

pub returns : goal.returns
returns c =
    let size = ap length c.loop-count.invariant
    ∙ length-append c.args.base.now (replicate c.loop-count._count 120)
    ∙ ap (λ n. length c.args.base.now + n) (length-replicate c.loop-count._count 120) in
    record {
      made = record { count = c.loop-count._count; few = omega arith; is = c.loop-count.invariant };
      long = omega (arith, size);
    }
