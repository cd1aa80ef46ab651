-- Numbers on a command line.
use Rattle.std.specs.Prelude.{ℕ, ◌^◌, ◌&&◌, Bool, nat_lt, if◌then◌else◌, length, Option, Some, None}
use Rattle.std.specs.List.{list_all}
use Rattle.std.specs.Char.{digit_value}
use Rattle.std.specs.Str.Parse.{digits_value, without_leading_plus}
use Rattle.clap.specs.Words.{Text}

-- one digit or more, of a number below 2 ^ 32
abbrev pub is_word : Text → Bool
is_word digits =
    nat_lt 0 (length digits) && list_all (λ d. nat_lt (digit_value d) 10) digits
    && nat_lt (digits_value 10 digits) (2 ^ 32)

-- the number that a text writes, with or without a plus before it
unfoldable pub number_in : Text → Option ℕ
number_in text = let digits = without_leading_plus text in if is_word digits then
    Some (digits_value 10 digits) else None
