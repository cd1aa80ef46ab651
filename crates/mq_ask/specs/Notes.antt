-- For which clients an answer is.
use Rattle.std.specs.Io.KnownBytes.{Appends}
use Rattle.std.specs.Prelude.{◌++◌, ℕ, Bool, List, [], ◌∷◌, ◌≡◌, Option, true, false, codes}
use Rattle.mq_acl.specs.declared.rules.Rules.{Rules}
use Rattle.mq_acl.specs.declared.rules.Rules.TheVariants.{Own, Mosquitto}

abbrev pub by_mosquitto : Rules → Bool
by_mosquitto Own = false
by_mosquitto Mosquitto = true

-- for which clients an answer is that leaves others out
abbrev pub limited_to : List ℕ
limited_to = codes "client ids without + and #, and user names without them or in the list"
    ++ codes "; others may do no more"

abbrev pub limit_line : List ℕ
limit_line = codes "the answer is for " ++ (limited_to ++ (10 ∷ []))

-- a text ends with that
abbrev pub EndsWithLimit : List ℕ → Type 0
EndsWithLimit text = (shown : List ℕ) × (text ≡ shown ++ limit_line)

-- what is written does
abbrev pub SaysLimit : (before after : Option (List ℕ)) → Type 0
SaysLimit before after = (text : List ℕ) × Appends before after text × EndsWithLimit text
