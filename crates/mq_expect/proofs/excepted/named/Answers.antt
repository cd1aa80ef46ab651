use Rattle.std.proofs.Common.{◌++◌, ◌∷◌, [], Bor, List, ℕ, lit<, ap, sym, ◌∙◌, map}
use Rattle.std.proofs.lemmas.Iterator.Splits.{YieldsList-from_str_split}
use Rattle.std.proofs.lemmas.Iterator.Consumers.{YieldsList-end}
use Rattle.std.proofs.lemmas.List.{map-append}
use Rattle.std.specs.Str.Iter.{split_text, split_has_more, split_pattern}
use Rattle.mq_expect.specs.Expectations.{named, whom_of}
use Rattle.mq_expect.specs.Views.{whom_view}
use Rattle.mq_expect.proofs.excepted.named.Goals as goal

pub loop-name-preserved : goal.loop-name-preserved
loop-name-preserved c = record {
  can_next = tt;
  is_finite = tt;
  all = ap (map whom_view) c.in_ok-push.ensures.items
      ∙ map-append whom_view c.loop-name.all.items (c.whom_of.result ∷ [])
      ∙ (λ i. c.loop-name.invariant.all i
      ++ ((c.whom_of.ensures ∙ ap whom_of c.trimmed.ensures) i ∷ []))
      ∙ sym (map-append named (map (λ (n : Bor (List ℕ)). n.now) c.loop-name.yielded)
      (c.in-Some.name.now ∷ []))
      ∙ ap (map named) (sym (map-append (λ (n : Bor (List ℕ)). n.now) c.loop-name.yielded
      (c.in-Some.name ∷ [])));
}

pub returns : goal.returns
returns c =
    let same = c.into_iter-name-iterator.ensures.into_iter_gives in
    let end = YieldsList-end (YieldsList-from_str_split 44 c.args.names.now (lit< tt)
    (ap split_text same ∙ c.split-name-items.ensures.text)
    (ap split_has_more same ∙ c.split-name-items.ensures.has_more)
    (ap split_pattern same ∙ c.split-name-items.ensures.pattern)) c.loop-name.yielded _
    c.loop-name.yielded_by _ _ c.in-None.is c.next.ensures.steps in
    c.loop-name.invariant.all ∙ ap (map named) end.0
