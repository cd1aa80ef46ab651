use Rattle.std.proofs.Common.{◌≡◌, rules, ap, sym, ◌∙◌, subst, map}
use Rattle.std.specs.Cmp.Lexicographic.{slice_cmp}
use Rattle.std.specs.List.Sorted.{IsStrictlySortedBy}
use Rattle.std.specs.Ordering.{nat_cmp}
use Rattle.std.proofs.lemmas.Result.{IfOk-weaker}
use Rattle.mq_witness.specs.Literals.{is_among}
use Rattle.mq_witness.proofs.LiteralLemmas.{named_is, texts_sorted}
use Rattle.mq_witness.proofs.literals.Literals.list.Goals as goal

pub returns-clause-texts : goal.returns-clause-texts
returns-clause-texts c =
    IfOk-weaker c.collect.result (λ all. all.items ≡ c.args.self.now.texts.keys) _
    (λ all is l. ap (is_among l) is ∙ sym (named_is l c.args.self.now)) (search rules)

pub returns-clause-order : goal.returns-clause-order
returns-clause-order c =
    IfOk-weaker c.collect.result (λ all. all.items ≡ c.args.self.now.texts.keys) _
    (λ all is. subst (λ k. IsStrictlySortedBy (slice_cmp nat_cmp) (map (λ t. t.now) k)) (sym is)
    (texts_sorted c.args.self.now.texts.keys c.iter.ensures.ordered)) (search rules)
