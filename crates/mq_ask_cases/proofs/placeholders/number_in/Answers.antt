use Rattle.std.proofs.Common.{◌≡◌, ◌∙◌, ◌+◌, ℕ, List, Option, None, Some, ap, lit<, refl, rules, sym, tests}
use Rattle.std.specs.List.{position}
use Rattle.std.specs.Option.{option_map}
use Rattle.std.specs.Str.{bytes_eq}
use Rattle.std.proofs.lemmas.Iterator.Splits.{YieldsList-from_str_split}
use Rattle.std.proofs.lemmas.Iterator.Search.{position_from_yields_List}
use Rattle.mq_topic.specs.Levels.{levels}
use Rattle.mq_ask_cases.specs.Placeholders.{number_in}
use Rattle.mq_ask_cases.proofs.placeholders.number_in.Goals as goal

-- the place where it is found, if it is
numbered : (text level : List ℕ) (found : Option ℕ)
    → found ≡ position (bytes_eq level) (levels text)
    → option_map (λ place. place + 1) found ≡ number_in text level
numbered text level found is = ap (option_map (λ place. place + 1)) is

pub returns-in_err-place : goal.returns-in_err-place
returns-in_err-place c =
    c.from_residual.ensures ∙ ap (option_map (λ place. place + 1)) (sym (c.in_err-place.was))
    ∙ numbered c.args.text.now c.args.level.now c.position.result
    (position_from_yields_List (bytes_eq c.args.level.now) _ _ c.position.result
    c.position.ensures.ran (YieldsList-from_str_split 47 c.args.text.now (lit< tt)
    c.split.ensures.text c.split.ensures.has_more c.split.ensures.pattern)
    (λ x b q k. search (rules, tests)))

pub returns : goal.returns
returns c =
    ap (option_map (λ place. place + 1)) (sym (c.in_ok-place.was))
    ∙ numbered c.args.text.now c.args.level.now c.position.result
    (position_from_yields_List (bytes_eq c.args.level.now) _ _ c.position.result
    c.position.ensures.ran (YieldsList-from_str_split 47 c.args.text.now (lit< tt)
    c.split.ensures.text c.split.ensures.has_more c.split.ensures.pattern)
    (λ x b q k. search (rules, tests)))
