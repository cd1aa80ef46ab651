use Rattle.std.proofs.Common.{◌&&◌, ◌||◌, lit<, length, take, ap, sym, ◌∙◌, not, arith}
use Rattle.std.specs.List.{list_any}
use Rattle.std.specs.Str.{bytes_eq}
use Rattle.std.specs.Str.Iter.{split_text, split_has_more, split_pattern}
use Rattle.std.proofs.lemmas.Iterator.Splits.{YieldsList-from_str_split}
use Rattle.std.proofs.lemmas.Iterator.Consumers.{YieldsList-turn, YieldsList-end}
use Rattle.std.proofs.lemmas.List.{length_push, take_all}
use Rattle.mq_topic.specs.Levels.{levels}
use Rattle.mq_differences.specs.Differences.{has_text}
use Rattle.mq_differences.proofs.PlaceholderLemmas.{none_first, one_more}
use Rattle.mq_through.specs.Clients.{is_named}
use Rattle.mq_through.proofs.placeholders.add_levels.Goals as goal

pub loop-level-init : goal.loop-level-init
loop-level-init c = record {
  can_next = tt;
  is_finite = tt;
  shown = λ text. none_first (has_text c.args.placeholders.now.items text)
      (not (is_named c.args.comparison.now text));
}

pub loop-level-preserved : goal.loop-level-preserved
loop-level-preserved c =
    let name = c.args.text.now in
    let same = c.into_iter-level-iterator.ensures.into_iter_gives in
    let turn = YieldsList-turn
    (YieldsList-from_str_split 47 name (lit< tt)
    (ap split_text same ∙ c.split-level-items.ensures.text)
    (ap split_has_more same ∙ c.split-level-items.ensures.has_more)
    (ap split_pattern same ∙ c.split-level-items.ensures.pattern)) c.loop-level.yielded _
    c.loop-level.yielded_by _ _ c.in-Some.level c.in-Some.is c.next.ensures.steps in
    let n = length c.loop-level.yielded in
    record {
      can_next = tt;
      is_finite = tt;
      shown = λ text.
          let made = not (is_named c.args.comparison.now text) in
          let before = has_text c.args.placeholders.now.items text in
          c.in_ok-add_unnamed.ensures text
          ∙ ap (λ b. b || (bytes_eq text c.in-Some.level.now && made))
          (c.loop-level.invariant.shown text)
          ∙ one_more text c.in-Some.level.now (levels name) n before made turn.0 turn.1
          ∙ ap (λ k. before || (list_any (bytes_eq text) (take k (levels name)) && made))
          (sym (length_push c.loop-level.yielded c.in-Some.level));
    }

pub returns : goal.returns
returns c = λ text.
    let name = c.args.text.now in
    let same = c.into_iter-level-iterator.ensures.into_iter_gives in
    let end = YieldsList-end
    (YieldsList-from_str_split 47 name (lit< tt)
    (ap split_text same ∙ c.split-level-items.ensures.text)
    (ap split_has_more same ∙ c.split-level-items.ensures.has_more)
    (ap split_pattern same ∙ c.split-level-items.ensures.pattern)) c.loop-level.yielded _
    c.loop-level.yielded_by _ _ c.in-None.is c.next.ensures.steps in
    c.loop-level.invariant.shown text
    ∙ ap (λ ls. has_text c.args.placeholders.now.items text
    || (list_any (bytes_eq text) ls && not (is_named c.args.comparison.now text)))
    (take_all (length c.loop-level.yielded) (levels name) (omega (arith, end.1)))
