use Rattle.std.proofs.Common.{ap, sym, ◌∙◌, arith, length, string_bytes, replicate, length-append}
use Rattle.std.proofs.Common.{◌+◌}
use Rattle.std.proofs.lemmas.List.{length-replicate}
use Rattle.mq_witness.specs.Literals.{is_among, is_named}
use Rattle.mq_witness.proofs.FreshLemmas.{too_long}
use Rattle.mq_witness.proofs.LiteralLemmas.{named_is}
use Rattle.mq_witness.proofs.fresh.fresh_text.Goals as goal

pub returns-then-not-names : goal.returns-then-not-names
returns-then-not-names c = record {
  made = record { count = c.loop-count._count; few = omega arith; is = c.loop-count.invariant };
  unnamed = λ short. named_is (string_bytes c.loop-count.text) c.args.literals.now
      ∙ ap (λ t. is_among t c.args.literals.now.texts.keys) (sym c.as_str.ensures.value)
      ∙ sym c.names.ensures ∙ c.if-not-names.true;
}

pub returns : goal.returns
returns c =
    let size = ap length c.loop-count.invariant
    ∙ length-append c.args.base.now (replicate c.loop-count._count 120)
    ∙ ap (λ n. length c.args.base.now + n) (length-replicate c.loop-count._count 120) in
    record {
      made = record { count = c.loop-count._count; few = omega arith; is = c.loop-count.invariant };
      unnamed = λ short. too_long (is_named (string_bytes c.loop-count.text) c.args.literals.now)
          (length (string_bytes c.loop-count.text))
          (λ h. short (string_bytes c.loop-count.text) h) (omega (arith, size));
    }
