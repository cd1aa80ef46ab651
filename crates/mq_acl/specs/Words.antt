-- Blanks and words (our own rules).
use Rattle.std.specs.Prelude.{ℕ, Bool, false, List, [], ◌∷◌, length, ◌==◌, ◌-◌, ◌||◌, take, drop}
use Rattle.std.specs.Prelude.{nat_eq}
use Rattle.std.specs.List.{prefix_len, suffix_len, position_or_len, before_first, starts_with}

-- a space or a tab
abbrev pub is_blank : ℕ → Bool
is_blank b = b == 32 || b == 9

-- what is dropped at the end of a line: a space, a tab or a CR
abbrev pub is_ending : ℕ → Bool
is_ending b = b == 32 || b == 9 || b == 13

abbrev pub without_leading : (ℕ → Bool) → List ℕ → List ℕ
without_leading p text = drop (prefix_len p text) text

abbrev pub without_trailing : (ℕ → Bool) → List ℕ → List ℕ
without_trailing p text = take (length text - suffix_len p text) text

-- without the blanks before it, and the blanks and CRs behind it
abbrev pub trimmed : List ℕ → List ℕ
trimmed line = without_trailing is_ending (without_leading is_blank line)

-- what stands before the first blank
abbrev pub first_word : List ℕ → List ℕ
first_word text = before_first is_blank text

-- what follows the first word and its blanks
abbrev pub after_word : List ℕ → List ℕ
after_word text = without_leading is_blank (drop (position_or_len is_blank text) text)

-- the text stands somewhere in the other
abbrev pub occurs_in : List ℕ → List ℕ → Bool
occurs_in text [] = false
occurs_in text (b ∷ bs) = starts_with nat_eq (b ∷ bs) text || occurs_in text bs
