use Rattle.std.proofs.Common.{◌≡◌, ◌++◌, ap, arith, replicate, sym, true, ◌∙◌}
use borrow.Author.Count.{below_more}
use Rattle.std.proofs.lemmas.Grind.{common_steps}
use Rattle.mq_through.specs.Clients.{is_named}
use Rattle.mq_through.proofs.fresh.fresh_text.Goals as goal

pub returns-then-not-is_named-clause-unused : goal.returns-then-not-is_named-clause-unused
returns-then-not-is_named-clause-unused c = record {
  count = c.loop-count._count;
  few = omega arith;
  is = c.loop-count.invariant.is;
  unnamed = ap (is_named c.args.comparison.now) (sym c.as_str.ensures.value)
      ∙ sym c.is_named.ensures ∙ c.if-not-is_named.true;
}

pub loop-count-preserved : goal.loop-count-preserved
loop-count-preserved c = record {
  is = grind (arith, common_steps);
  named =
      below_more (λ k. is_named c.args.comparison.now (c.args.base.now ++ replicate k 120) ≡ true)
      c.loop-count._count c.loop-count.invariant.named
      (ap (is_named c.args.comparison.now)
      (sym (c.as_str.ensures.value ∙ c.loop-count.invariant.is))
      ∙ sym c.is_named.ensures ∙ c.if-not-is_named.false);
}

pub returns-clause-fault : goal.returns-clause-fault
returns-clause-fault c = λ count h. c.loop-count.invariant.named count (omega arith)
