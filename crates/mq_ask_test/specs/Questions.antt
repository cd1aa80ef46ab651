-- What a file of expectations asks of lists.
use Rattle.std.specs.Prelude.{ℕ, List, [], ◌∷◌, map, Option, Some, None}
use Rattle.std.specs.Prelude.{Result, Ok}
use Rattle.std.specs.List.{flat_map}
use Rattle.std.specs.Option.{option_copied}
use Rattle.mq_expect.specs.Expectations.{Entry, InList}
use Rattle.mq_expect.specs.Files.{says_view}
use Rattle.mq_expect.specs.declared.fault.ExpectationKind.{ExpectationKind}
use Rattle.mq_ask_test.specs.declared.asked.Asked.{Asked}

-- a line: what it says, or its fault, and the file of the list that it speaks of, if one is named
pub record Question : Type 0 where
  pub list : Option (List ℕ)
  pub line : ℕ
  pub says : Result Entry ExpectationKind

-- the list that a line names for those behind it
abbrev pub list_named : Result Entry ExpectationKind → Option (List ℕ)
list_named (Ok (InList file)) = Some file
list_named says = None

-- what a line asks about the list that is spoken of, unless it names one
abbrev pub asked_at : Option (List ℕ) → ℕ → Result Entry ExpectationKind → List Question
asked_at list line (Ok (InList file)) = []
asked_at list line says = record { list = list; line = line; says = says } ∷ []

-- a line that names a list asks nothing; each other line asks about the list that is named last
-- before it
abbrev pub asked_from : Option (List ℕ) → List (ℕ × Result Entry ExpectationKind) → List Question
asked_from list [] = []
asked_from list ((line, Ok (InList file)) ∷ rest) = asked_from (Some file) rest
asked_from list ((line, says) ∷ rest) =
    record { list = list; line = line; says = says } ∷ asked_from list rest

-- of a list that is given each of them asks about that
abbrev pub asked_of : (list : List ℕ) → List (ℕ × Result Entry ExpectationKind) → List Question
asked_of list [] = []
asked_of list ((line, Ok (InList file)) ∷ rest) = asked_of list rest
asked_of list ((line, says) ∷ rest) =
    record { list = Some list; line = line; says = says } ∷ asked_of list rest

-- what is asked of the lists that are given, list by list, or of those that the lines name
abbrev pub questions : (given : List (List ℕ)) → List (ℕ × Result Entry ExpectationKind)
    → List Question
questions [] all = asked_from None all
questions (file ∷ more) all = flat_map (λ list. asked_of list all) (file ∷ more)

abbrev pub asked_view : Asked → Question
asked_view a = record {
  list = option_copied a.list;
  line = a.expectation.now.line;
  says = says_view a.expectation.now.says;
}

abbrev pub asked_views : List Asked → List Question
asked_views all = map asked_view all
