-- Texts that differ before a wildcard or a mark.
use Rattle.std.specs.Prelude.{◌≡◌, ℕ, Bool, false, List, ◌∷◌, ◌++◌, ◌==◌, ◌||◌}
use Rattle.mq_topic.specs.Texts.{contains_byte}

-- `#`, `+` and `%`: a wildcard or a mark begins with one of them
abbrev pub is_special : ℕ → Bool
is_special byte = (byte == 35 || byte == 43) || byte == 37

-- behind a start that both have, without a `%`, they differ: there the filter has no wildcard and no mark
pub record StartsApart (filter name : List ℕ) : Type 0 where
  pub start : List ℕ
  pub wanted : ℕ
  pub byte : ℕ
  pub filter_rest : List ℕ
  pub name_rest : List ℕ
  pub filter_is : filter ≡ start ++ wanted ∷ filter_rest
  pub name_is : name ≡ start ++ byte ∷ name_rest
  pub unmarked : contains_byte 37 start ≡ false
  pub literal : is_special wanted ≡ false
  pub differ : (wanted == byte) ≡ false
