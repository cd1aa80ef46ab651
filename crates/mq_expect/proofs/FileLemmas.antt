-- What lines say, one after the other.
use Rattle.std.proofs.Common.{◌≡◌, ℕ, ◌+◌, ◌<◌, List, ◌++◌, length, drop, get_or, ap, sym, ◌∙◌}
use Rattle.std.proofs.lemmas.List.{at_drop_more}
use Rattle.mq_expect.specs.Expectations.{entry_of}
use Rattle.mq_expect.specs.Files.{said_at, said_from}

pub said_step : (all : List (List ℕ)) (number : ℕ) (line : List ℕ) → number < length all
    → line ≡ get_or all number line
    → said_from (number + 1) (drop number all)
    ≡ said_at (number + 1) (entry_of line) ++ said_from (number + 1 + 1) (drop (number + 1) all)
said_step all number line h e =
    at_drop_more (said_from (number + 1)) all number line h
    ∙ ap (λ l. said_at (number + 1) (entry_of l)
    ++ said_from (number + 1 + 1) (drop (number + 1) all)) (sym e)
