use Rattle.std.proofs.Common.{◌≡◌, List, ℕ, Bool, Option, Some, None, inl, inr, ap, sym, ◌∙◌, ◌||◌}
use Rattle.std.proofs.Common.{true, false}
use Rattle.std.specs.Option.{option_map}
use Rattle.std.proofs.lemmas.Option.{IfSome_then}
use Rattle.std.proofs.lemmas.Result.{IfOk-weaker, MatchResult-weaker}
use Rattle.mq_topic.specs.Levels.{levels}
use Rattle.mq_topic.specs.Matching.{is_hidden}
use Rattle.mq_topic.specs.Texts.{is_filter}
use Rattle.mq_rename.specs.Lists.{has_long, texts}
use Rattle.mq_rename.specs.Meets.{met_levels}
use Rattle.mq_rename.proofs.MetLemmas.{IsMet, fault_by, met_is_fit, met_is_hidden, met_is_long}
use Rattle.mq_rename.proofs.MetLemmas.{met_is_same}
use Rattle.mq_rename.proofs.meeting.meet.Goals as goal
use Rattle.mq_rename.proofs.meeting.meet.Goals.{After-deref, then-is_hidden-via-then-is_hidden}
use Rattle.mq_rename.proofs.meeting.meet.Goals.{then-is_hidden-via-else-is_hidden+then-is_hidden-2}

-- what the tests and `met_levels` say of the two texts
are_met : (a b x y : List ℕ) (o : Option (List (List ℕ))) (p q : Bool) → x ≡ a → y ≡ b
    → is_filter a ≡ true → is_filter b ≡ true → p ≡ is_hidden (levels x) (levels y) → p ≡ false
    → q ≡ is_hidden (levels y) (levels x) → q ≡ false → o ≡ met_levels (levels x) (levels y)
    → IsMet a b o
are_met a b x y o p q e f left right hp np hq nq are = record {
  left = left;
  right = right;
  shown = sym (λ i. is_hidden (levels (e i)) (levels (f i))) ∙ sym hp ∙ np;
  seen = sym (λ i. is_hidden (levels (f i)) (levels (e i))) ∙ sym hq ∙ nq;
  are = are ∙ (λ i. met_levels (levels (e i)) (levels (f i)));
}

met : (c : After-deref)
    → IsMet c.args.a.now c.args.b.now (Some (texts c.deref.result.now))
met c =
    are_met c.args.a.now c.args.b.now c.text-a.result.now c.text-b.result.now
    (Some (texts c.deref.result.now)) c.is_hidden.result c.is_hidden-else-is_hidden.result
    c.text-a.ensures.text c.text-b.ensures.text c.text-a.ensures.valid c.text-b.ensures.valid
    c.is_hidden.ensures c.if-is_hidden.false c.is_hidden-else-is_hidden.ensures
    c.if-is_hidden-2.false
    (ap (λ parts. Some (texts parts)) c.deref.ensures.value
    ∙ sym (ap (λ o. option_map (λ all. texts all.items) o) c.in-Some.is) ∙ c.in_ok-levels.ensures)

pub returns-then-is_hidden-clause-same : goal.returns-then-is_hidden-clause-same
returns-then-is_hidden-clause-same c = λ n h.
    let e = c.text-a.ensures.text in
    let f = c.text-b.ensures.text in
    elim c.then-is_hidden.branch [
      | then-is_hidden-via-then-is_hidden w ↦ met_is_hidden c.args.a.now c.args.b.now
          (inl (sym (λ i. is_hidden (levels (e i)) (levels (f i))) ∙ sym c.is_hidden.ensures
          ∙ w.if-is_hidden.true)) (levels n)
      | then-is_hidden-via-else-is_hidden+then-is_hidden-2 w ↦ met_is_hidden c.args.a.now
          c.args.b.now
          (inr (sym (λ i. is_hidden (levels (f i)) (levels (e i)))
          ∙ sym w.is_hidden-else-is_hidden.ensures ∙ w.if-is_hidden-2.true)) (levels n)
    ]

pub returns-in_default-clause-same : goal.returns-in_default-clause-same
returns-in_default-clause-same c = λ n h.
    met_is_same c.args.a.now c.args.b.now None
    (are_met c.args.a.now c.args.b.now c.text-a.result.now c.text-b.result.now None
    c.is_hidden.result c.is_hidden-else-is_hidden.result c.text-a.ensures.text
    c.text-b.ensures.text c.text-a.ensures.valid c.text-b.ensures.valid c.is_hidden.ensures
    c.if-is_hidden.false c.is_hidden-else-is_hidden.ensures c.if-is_hidden-2.false
    (sym (ap (λ o. option_map (λ all. texts all.items) o) c.in_default.is)
    ∙ c.in_ok-levels.ensures)) (levels n)

pub filter_of-requires : goal.filter_of-requires
filter_of-requires c = met_is_fit c.args.a.now c.args.b.now _ (met c)

pub returns-clause-same : goal.returns-clause-same
returns-clause-same c =
    let is = met (goal.at.returns-clause-same c).After-deref in
    IfOk-weaker c.filter_of.result _ _
    (λ found same n h. same n h ∙ met_is_same c.args.a.now c.args.b.now _ is (levels n))
    c.filter_of.ensures.same

pub returns-clause-fault : goal.returns-clause-fault
returns-clause-fault c =
    let is = met (goal.at.returns-clause-fault c).After-deref in
    MatchResult-weaker c.filter_of.result c.filter_of.ensures.fault (λ found t. tt)
    (λ fault said. fault_by fault (has_long (texts c.deref.result.now))
    (has_long (levels c.args.a.now) || has_long (levels c.args.b.now))
    (met_is_long c.args.a.now c.args.b.now _ is) said)

pub returns-clause-long : goal.returns-clause-long
returns-clause-long c =
    let is = met (goal.at.returns-clause-long c).After-deref in
    IfOk-weaker c.filter_of.result _ _
    (λ found long. IfSome_then found long
    (λ f more h. met_is_long c.args.a.now c.args.b.now _ is (more h)))
    c.filter_of.ensures.long
