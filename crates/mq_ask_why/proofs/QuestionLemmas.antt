-- How many members an object has, and what lines ask, one after the other.
use Rattle.std.proofs.Common.{◌≡◌, ℕ, ◌+◌, ◌<◌, List, [], ◌∷◌, ◌++◌, Global, String, length, drop}
use Rattle.std.proofs.Common.{get_or, ap, suc, sym, refl, ◌∙◌}
use Rattle.std.proofs.lemmas.List.{at_drop_more}
use Rattle.mq_ask_why.specs.Questions.{asked_at, asked_from}
use Rattle.mq_jsonl.specs.Objects.{names_of}
use Rattle.serde_json.specs.View.{members_view}
use Rattle.serde_json.specs.declared.value.Value.{Value}

-- an object has as many members as entries that hold them
pub names_counted : (es : List (String Global × Value))
    → length (names_of (members_view es)) ≡ length es
names_counted [] = refl
names_counted (e ∷ es) = ap (λ n. suc n) (names_counted es)

pub asked_step : (all : List (List ℕ)) (number : ℕ) (line : List ℕ) → number < length all
    → line ≡ get_or all number line
    → asked_from (number + 1) (drop number all)
    ≡ asked_at (number + 1) line ++ asked_from (number + 1 + 1) (drop (number + 1) all)
asked_step all number line h e =
    at_drop_more (asked_from (number + 1)) all number line h
    ∙ ap (λ l. asked_at (number + 1) l ++ asked_from (number + 1 + 1) (drop (number + 1) all))
    (sym e)
