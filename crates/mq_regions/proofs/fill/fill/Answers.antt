use Rattle.std.proofs.Common.{◌≡◌, ◌==◌, ◌<◌, ◌&&◌, false, List, ℕ, Bor, length, ap, sym, ◌∙◌}
use Rattle.std.proofs.Common.{subst, arith, bytes_eq}
use Rattle.std.proofs.lemmas.Bool.{eqb-false, eqb-true}
use Rattle.mq_topic.specs.Levels.{levels}
use Rattle.mq_topic.specs.Matching.{level_at}
use Rattle.mq_topic.specs.Texts.{is_filter}
use Rattle.mq_acl.specs.Access.{begins_with_dollar}
use Rattle.mq_rename.specs.Lists.{texts}
use Rattle.mq_rename.proofs.JoinLemmas.{joined, joined_is}
use Rattle.mq_regions.specs.Filled.{IsFilled, fill_levels, has_level}
use Rattle.mq_regions.proofs.FillLemmas.{fill_empty, fill_hidden, fill_none, fill_unfit, IsFillable}
use Rattle.mq_regions.proofs.FillLemmas.{fill_made, fill_valid}
use Rattle.mq_regions.proofs.fill.fill.Goals as goal
use Rattle.mq_regions.proofs.fill.fill.Goals.{Else-is_empty}

pub returns-then-not-has_level-clause-filled : goal.returns-then-not-has_level-clause-filled
returns-then-not-has_level-clause-filled c =
    subst (IsFilled c.args.mark.now c.args.text.now c.args.filter.now) (sym c.in_ok-clone.ensures)
    (fill_none c.args.mark.now c.args.text.now c.args.filter.now
    (ap (λ t. has_level c.args.mark.now (levels t)) (sym c.text-written.ensures.text)
    ∙ sym c.has_level.ensures ∙ c.if-not-has_level.true) c.requires.filter)

pub returns-then-not-is_name_level-clause-filled : goal.returns-then-not-is_name_level-clause-filled
returns-then-not-is_name_level-clause-filled c =
    fill_unfit c.args.mark.now c.args.text.now c.args.filter.now c.requires.mark
    (ap (λ t. has_level c.args.mark.now (levels t)) (sym c.text-written.ensures.text)
    ∙ sym c.has_level.ensures ∙ c.if-not-has_level.false)
    (sym c.is_name_level.ensures ∙ c.if-not-is_name_level.true)

pub returns-then-hides_dollar-clause-filled : goal.returns-then-hides_dollar-clause-filled
returns-then-hides_dollar-clause-filled c =
    fill_hidden c.args.mark.now c.args.text.now c.args.filter.now c.requires.mark
    (ap (λ t. bytes_eq (level_at (levels t) 0) c.args.mark.now
    && begins_with_dollar c.args.text.now)
    (sym c.text-written.ensures.text) ∙ sym c.hides_dollar.ensures ∙ c.if-hides_dollar.true)

-- the text that the levels join to
text_of : (mark text filter written made : List ℕ) (parts lent : List (Bor (List ℕ)))
    → written ≡ filter → lent ≡ parts → made ≡ joined (texts lent)
    → texts parts ≡ fill_levels mark text (levels written)
    → made ≡ joined (fill_levels mark text (levels filter))
text_of mark text filter written made parts lent w l m p =
    m ∙ ap (λ ps. joined (texts ps)) l ∙ ap joined p
    ∙ ap (λ t. joined (fill_levels mark text (levels t))) w

-- the text isn't empty
some_text : (made whole : List ℕ) → made ≡ whole → (length made == 0) ≡ false → 0 < length whole
some_text made whole e h =
    let size = ap length e in
    let some = eqb-false (length made) 0 h in
    omega (arith, size, some)

made_is : (c : Else-is_empty) → c.as_str-joined.result.now
    ≡ joined (fill_levels c.args.mark.now c.args.text.now (levels c.args.filter.now))
made_is c = text_of c.args.mark.now c.args.text.now c.args.filter.now c.text-written.result.now
    c.as_str-joined.result.now c.in_ok-levels.levels.items c.deref.result.now
    c.text-written.ensures.text c.deref.ensures.value
    (c.as_str-joined.ensures.value ∙ c.in_ok-joined.ensures.ok ∙ joined_is c.deref.result.now)
    c.in_ok-levels.ensures

pub returns-then-is_empty-clause-filled : goal.returns-then-is_empty-clause-filled
returns-then-is_empty-clause-filled c =
    let made = text_of c.args.mark.now c.args.text.now c.args.filter.now c.text-written.result.now
    c.as_str-joined.result.now c.in_ok-levels.levels.items c.deref.result.now
    c.text-written.ensures.text c.deref.ensures.value
    (c.as_str-joined.ensures.value ∙ c.in_ok-joined.ensures.ok ∙ joined_is c.deref.result.now)
    c.in_ok-levels.ensures in
    fill_empty c.args.mark.now c.args.text.now c.args.filter.now c.requires.mark
    (ap (λ t. has_level c.args.mark.now (levels t)) (sym c.text-written.ensures.text)
    ∙ sym c.has_level.ensures ∙ c.if-not-has_level.false)
    (sym (ap length made)
    ∙ eqb-true (length c.as_str-joined.result.now) 0 (sym c.is_empty.ensures ∙ c.if-is_empty.true))

-- the levels make a filter
fillable : (c : Else-is_empty) → IsFillable c.args.mark.now c.args.text.now c.args.filter.now
fillable c = record {
  mark_is = c.requires.mark;
  valid = c.text-written.ensures.valid;
  fits = sym c.is_name_level.ensures ∙ c.if-not-is_name_level.false;
  dollar = ap (λ t. bytes_eq (level_at (levels t) 0) c.args.mark.now
      && begins_with_dollar c.args.text.now) (sym c.text-written.ensures.text)
      ∙ sym c.hides_dollar.ensures ∙ c.if-hides_dollar.false;
  short = c.requires.filter;
  short_text = c.requires.text;
  some = some_text c.as_str-joined.result.now
      (joined (fill_levels c.args.mark.now c.args.text.now (levels c.args.filter.now)))
      (made_is c) (sym c.is_empty.ensures ∙ c.if-is_empty.false);
}

pub returns-in-Ok-clause-filled : goal.returns-in-Ok-clause-filled
returns-in-Ok-clause-filled c =
    let at = (goal.at.returns-in-Ok-clause-filled c).Else-is_empty in
    fill_made c.args.mark.now c.args.text.now c.args.filter.now c.in-Ok.made (fillable at)
    (c.in-Ok.ensures.text ∙ made_is at)

pub returns-clause-fault : goal.returns-clause-fault
returns-clause-fault c =
    let at = (goal.at.returns-clause-fault c).Else-is_empty in
    c.fault_of.ensures
    (c.in-Err.ensures.valid ∙ ap is_filter (made_is at)
    ∙ fill_valid c.args.mark.now c.args.text.now c.args.filter.now (fillable at))
