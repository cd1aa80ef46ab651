-- How what isn't allowed is looked up.
use Rattle.std.specs.BTreeMap.{get_by_text}
use Rattle.std.specs.List.{filter}
use Rattle.std.specs.Option.{option_map_or}
use Rattle.std.specs.Prelude.{◌≡◌, ◌++◌, ℕ, List, [], codes, string_bytes}
use Rattle.std.specs.Str.{bytes_eq}
use Rattle.mq_ask.specs.Words.{access_text}
use Rattle.mq_differences.specs.declared.class.Class.{Class}
use Rattle.mq_differences.specs.declared.class.Class.TheVariants.{Anonymous, Others, User}
use Rattle.mq_differences.specs.declared.difference.Difference.{Difference}
use Rattle.mq_ask_who.specs.declared.refusals.Refusals.{Refusals}

-- a text for each class
abbrev pub class_key : Class → List ℕ
class_key Anonymous = codes " anonymous"
class_key (User name) = codes " user " ++ string_bytes name
class_key (Others name) = codes " others"

-- and for each class and direction
abbrev pub key : Difference → List ℕ
key d = access_text d.direction ++ class_key d.class

-- under each text are those of these for which it is, in their order
abbrev pub AreKept : (refused : List Difference) → Refusals → Type 0
AreKept refused refusals = (text : List ℕ)
    → option_map_or (λ all. all.items) (get_by_text refusals.by_key text) []
    ≡ filter (λ d. bytes_eq text (key d)) refused
