use Rattle.std.proofs.Common.{ap, sym, ◌∙◌, arith, length, string_bytes, replicate, length-append}
use Rattle.std.proofs.Common.{◌+◌}
use Rattle.std.proofs.lemmas.List.{length-replicate}
use Rattle.std.specs.List.{list_any}
use Rattle.mq_shapes.specs.Prefix.{list_begins}
use Rattle.mq_shapes.proofs.PrefixLemmas.{begun}
use Rattle.mq_shapes.proofs.prefix.prefix_of.Goals as goal

pub returns-then-not-some_begins : goal.returns-then-not-some_begins
returns-then-not-some_begins c = record {
  made = record { count = c.loop-count._count; few = omega arith; is = c.loop-count.invariant };
  unlike = λ short. sym (begun (string_bytes c.loop-count.text) c.args.lists.now)
      ∙ ap (λ t. list_any (λ rows. list_begins t rows.now) c.args.lists.now)
      (sym c.as_str.ensures.value)
      ∙ sym c.some_begins.ensures ∙ c.if-not-some_begins.true;
}

pub returns : goal.returns
returns c =
    let size = ap length c.loop-count.invariant
    ∙ length-append c.args.base.now (replicate c.loop-count._count 120)
    ∙ ap (λ n. length c.args.base.now + n) (length-replicate c.loop-count._count 120) in
    record {
      made = record { count = c.loop-count._count; few = omega arith; is = c.loop-count.invariant };
      unlike = λ short. short (string_bytes c.loop-count.text) (omega (arith, size));
    }
