use Rattle.std.proofs.Common.{◌∙◌, ◌++◌, ℕ, Bor, List, lit<, ap, codes, length, string_bytes}
use Rattle.std.specs.Iterator.Adapters.{enumerate_count, enumerate_source}
use Rattle.std.specs.List.{join_by}
use Rattle.std.specs.Str.Iter.{split_text, split_has_more, split_pattern}
use Rattle.std.proofs.lemmas.Iterator.Consumers.{YieldsList-end, YieldsList-from_enumerate}
use Rattle.std.proofs.lemmas.Iterator.Consumers.{YieldsList-turn}
use Rattle.std.proofs.lemmas.Iterator.Splits.{YieldsList-from_str_split}
use Rattle.mq_ask_cases.specs.Placeholders.{level_words}
use Rattle.mq_ask_cases.proofs.PartLemmas.{joined_more, place_is}
use Rattle.mq_topic.specs.Levels.{levels}
use Rattle.mq_ask_cases.proofs.placeholders.add_levels.Goals as goal

pub loop-place-preserved : goal.loop-place-preserved
loop-place-preserved c =
    let same = c.into_iter-place-iterator.ensures.into_iter_gives in
    let source = ap enumerate_source same ∙ c.enumerate-place-items.ensures.source in
    let split = c.split.ensures in
    let turn = YieldsList-turn (YieldsList-from_enumerate (YieldsList-from_str_split 47
    c.args.whole.now (lit< tt) (ap split_text source ∙ split.text)
    (ap split_has_more source ∙ split.has_more) (ap split_pattern source ∙ split.pattern))
    (ap enumerate_count same ∙ c.enumerate-place-items.ensures.count))
    c.loop-place.yielded c.loop-place.place-iterator c.loop-place.yielded_by c.next.result
    c.next.new.self (c.in-Some.place, c.in-Some.level) c.in-Some.is c.next.ensures.steps in
    joined_more (λ (level : ℕ × List ℕ). level_words c.args.difference.now level.0 level.1)
    (codes "/") (λ (level : ℕ × Bor (List ℕ)). (level.0, level.1.now)) c.loop-place.yielded
    (c.in-Some.place, c.in-Some.level) c.in-Some.place (string_bytes c.args.text.now) _ _
    (place_is (levels c.args.whole.now) (length c.loop-place.yielded) _ turn.0 turn.1)
    c.loop-place.invariant c.in_ok-add_level.ensures

pub returns : goal.returns
returns c =
    let same = c.into_iter-place-iterator.ensures.into_iter_gives in
    let source = ap enumerate_source same ∙ c.enumerate-place-items.ensures.source in
    let split = c.split.ensures in
    let end = YieldsList-end (YieldsList-from_enumerate (YieldsList-from_str_split 47
    c.args.whole.now (lit< tt) (ap split_text source ∙ split.text)
    (ap split_has_more source ∙ split.has_more) (ap split_pattern source ∙ split.pattern))
    (ap enumerate_count same ∙ c.enumerate-place-items.ensures.count))
    c.loop-place.yielded c.loop-place.place-iterator c.loop-place.yielded_by c.next.result
    c.next.new.self c.in-None.is c.next.ensures.steps in
    c.loop-place.invariant
    ∙ ap (λ (all : List (ℕ × List ℕ)). string_bytes c.args.text.now
    ++ join_by (λ (level : ℕ × List ℕ). level_words c.args.difference.now level.0 level.1)
    (codes "/") all) end.0
