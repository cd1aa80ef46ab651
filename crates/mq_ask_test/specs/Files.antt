-- The files of lists that a file of expectations names.
use Rattle.std.specs.Prelude.{ℕ, Bool, true, false, List, [], ◌∷◌, ◌++◌, map, fold, Option, Some, None}
use Rattle.std.specs.Prelude.{Result, Ok, if◌then◌else◌}
use denote.Ref.{Bor}
use Rattle.std.specs.List.{filter_map, list_any}
use Rattle.std.specs.Str.{bytes_eq}
use Rattle.mq_expect.specs.Expectations.{Entry, AtLeast, AtMost, InList}
use Rattle.mq_expect.specs.declared.fault.ExpectationKind.{ExpectationKind}

-- the file that a line names; where lists are given, one behind `acl` isn't wanted
abbrev pub file_named : (given : Bool) → Result Entry ExpectationKind → Option (List ℕ)
file_named true (Ok (InList file)) = None
file_named false (Ok (InList file)) = Some file
file_named given (Ok (AtMost file)) = Some file
file_named given (Ok (AtLeast file)) = Some file
file_named given says = None

abbrev pub are_given : List (List ℕ) → Bool
are_given [] = false
are_given (file ∷ more) = true

-- those that are given, and then those that lines name
abbrev pub files_named : (given : List (List ℕ)) → List (ℕ × Result Entry ExpectationKind)
    → List (List ℕ)
files_named given all =
    given ++ filter_map (λ line. file_named (are_given given) line.1) all

-- one more, unless it is there
abbrev pub added : List (List ℕ) → List ℕ → List (List ℕ)
added files file = if list_any (bytes_eq file) files then files else files ++ (file ∷ [])

-- each once, where it is named first
abbrev pub once : List (List ℕ) → List (List ℕ)
once files = fold added [] files

abbrev pub texts : List (Bor (List ℕ)) → List (List ℕ)
texts files = map (λ file. file.now) files
