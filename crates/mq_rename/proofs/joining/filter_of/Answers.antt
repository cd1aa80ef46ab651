use Rattle.std.proofs.Common.{◌≡◌, ◌==◌, ◌<◌, List, ℕ, Bor, length, ap, sym, ◌∙◌, subst, arith, not}
use Rattle.std.proofs.Common.{true, false}
use Rattle.std.proofs.lemmas.Bool.{eqb-true, eqb-false, not-true}
use Rattle.std.proofs.lemmas.List.{length-map}
use Rattle.mq_topic.specs.Levels.{levels}
use Rattle.mq_topic.specs.Matching.{matches}
use Rattle.mq_topic.specs.Texts.{is_filter, is_memory}
use Rattle.mq_rename.specs.Lists.{are_fit, has_long, texts}
use Rattle.mq_rename.specs.Joins.{within_reach}
use Rattle.mq_rename.proofs.JoinLemmas.{joined, joined_is}
use Rattle.mq_rename.proofs.MetLemmas.{fault_by}
use Rattle.mq_rename.proofs.ReachLemmas.{IsKept, within_reach_kept, none_that_deep}
use Rattle.mq_rename.proofs.ReachLemmas.{none_without_text, levels_of_text, kept_long, name_few}
use Rattle.mq_rename.proofs.ReachLemmas.{no_filter_is_long}
use Rattle.mq_rename.proofs.joining.filter_of.Goals as goal

-- what is kept of the levels
kept_is : (all kept : List (Bor (List ℕ))) → texts kept ≡ within_reach (texts all)
    → are_fit (texts all) ≡ true → IsKept (texts all) (texts kept)
kept_is all kept e fit = subst (IsKept (texts all)) (sym e) (within_reach_kept (texts all) fit)

-- a text that isn't empty
some_text : (text : List ℕ) (kept : List (List ℕ)) → text ≡ joined kept
    → (length text == 0) ≡ false → 0 < length (joined kept)
some_text text kept e h =
    let size = ap length e in
    let some = eqb-false (length text) 0 h in omega (arith, size, some)

pub returns-then-parts-gt-LEVEL_LIMIT-clause-same : goal.returns-then-parts-gt-LEVEL_LIMIT-clause-same
returns-then-parts-gt-LEVEL_LIMIT-clause-same c = λ n h.
    let kept = c.within_reach-parts.result.now in
    let size = length-map kept (λ part. part.now) in
    sym (none_that_deep (texts c.args.parts.now) (texts kept)
    (kept_is c.args.parts.now kept c.within_reach-parts.ensures c.requires) (omega (arith, size)) n
    h)

pub returns-then-is_empty-clause-same : goal.returns-then-is_empty-clause-same
returns-then-is_empty-clause-same c = λ n h.
    let kept = c.within_reach-parts.result.now in
    let text = c.as_str-text.ensures.value ∙ c.in_ok-joined.ensures.ok ∙ joined_is kept in
    sym (none_without_text (texts c.args.parts.now) (texts kept)
    (kept_is c.args.parts.now kept c.within_reach-parts.ensures c.requires)
    (sym (ap length text)
    ∙ eqb-true (length c.as_str-text.result.now) 0 (sym c.is_empty.ensures ∙ c.if-is_empty.true))
    n h)

levels_are : (c : goal.After-drop-joined-in-Ok)
    → levels c.in-Ok.filter ≡ texts c.within_reach-parts.result.now
levels_are c =
    let kept = c.within_reach-parts.result.now in
    let is = kept_is c.args.parts.now kept c.within_reach-parts.ensures c.requires in
    let text = c.as_str-text.ensures.value ∙ c.in_ok-joined.ensures.ok ∙ joined_is kept in
    ap levels (c.in-Ok.ensures.text ∙ text)
    ∙ levels_of_text (texts kept) is.fit (some_text c.as_str-text.result.now (texts kept) text
    (sym c.is_empty.ensures ∙ c.if-is_empty.false))

pub returns-in-Ok-clause-same : goal.returns-in-Ok-clause-same
returns-in-Ok-clause-same c = λ n h.
    let is = kept_is c.args.parts.now c.within_reach-parts.result.now c.within_reach-parts.ensures
    c.requires in
    ap (λ ls. matches ls (levels n)) (levels_are c) ∙ is.same (levels n) (name_few n h)

pub returns-in-Ok-clause-long : goal.returns-in-Ok-clause-long
returns-in-Ok-clause-long c = λ h.
    let kept = c.within_reach-parts.result.now in
    kept_long (texts c.args.parts.now) (texts kept)
    (kept_is c.args.parts.now kept c.within_reach-parts.ensures c.requires)
    (sym (ap has_long (levels_are c)) ∙ h)

pub returns-clause-fault : goal.returns-clause-fault
returns-clause-fault c =
    let kept = c.within_reach-parts.result.now in
    let is = kept_is c.args.parts.now kept c.within_reach-parts.ensures c.requires in
    let text = c.as_str-text.ensures.value ∙ c.in_ok-joined.ensures.ok ∙ joined_is kept in
    let size = length-map kept (λ part. part.now) in
    fault_by c.fault_of.result (not (is_memory c.in-Err.fault)) (has_long (texts c.args.parts.now))
    (λ e. kept_long (texts c.args.parts.now) (texts kept) is
    (no_filter_is_long (texts kept) is.fit
    (some_text c.as_str-text.result.now (texts kept) text
    (sym c.is_empty.ensures ∙ c.if-is_empty.false))
    (omega (arith, size))
    (sym (ap is_filter text) ∙ sym c.in-Err.ensures.valid ∙ not-true (is_memory c.in-Err.fault) e)))
    c.fault_of.ensures
