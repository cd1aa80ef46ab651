-- What the lines of a file of expectations say.
use Rattle.std.specs.Prelude.{ℕ, List, [], ◌∷◌, map, Result, Ok, Err}
use Rattle.std.specs.List.{enumerate_from, flat_map}
use Rattle.mq_acl.specs.Lines.{lines}
use Rattle.mq_expect.specs.Expectations.{Entry, Skipped, entry_of}
use Rattle.mq_expect.specs.Views.{entry_view}
use Rattle.mq_expect.specs.declared.expectation.Expectation.{Expectation}
use Rattle.mq_expect.specs.declared.expectation.Numbered.{Numbered}
use Rattle.mq_expect.specs.declared.fault.ExpectationKind.{ExpectationKind}

-- what a line says, or its fault, with its number; a line that is skipped says nothing
abbrev pub said_at : ℕ → Result Entry ExpectationKind → List (ℕ × Result Entry ExpectationKind)
said_at number (Ok Skipped) = []
said_at number answer = (number, answer) ∷ []

-- what the lines say, which are counted from this number
abbrev pub said_from : ℕ → List (List ℕ) → List (ℕ × Result Entry ExpectationKind)
said_from number all = flat_map (λ numbered. said_at numbered.0 (entry_of numbered.1))
    (enumerate_from number all)

-- what the lines of the text say
abbrev pub expectations_of : List ℕ → List (ℕ × Result Entry ExpectationKind)
expectations_of text = said_from 1 (lines text)

abbrev pub says_view : Result Expectation ExpectationKind → Result Entry ExpectationKind
says_view (Ok expectation) = Ok (entry_view expectation)
says_view (Err kind) = Err kind

abbrev pub numbered_views : List Numbered → List (ℕ × Result Entry ExpectationKind)
numbered_views all = map (λ n. (n.line, says_view n.says)) all
