-- Characters that a terminal acts on, or that can't be seen, in UTF-8.
use Rattle.std.specs.Prelude.{ℕ, Bool, false, List, [], ◌∷◌, ◌==◌, ◌&&◌, ◌||◌, not, nat_le, nat_lt}
use Rattle.std.specs.Prelude.{slice_index}
use Rattle.mq_acl.specs.Words.{is_ending, without_trailing}

abbrev pub is_within : (low high byte : ℕ) → Bool
is_within low high byte = nat_le low byte && nat_le byte high

-- a control character of one byte, but for the tab
abbrev pub is_control : ℕ → Bool
is_control byte = (nat_lt byte 32 && not (byte == 9)) || byte == 127

-- U+0080 to U+009F, control characters too, or U+061C, a mark of direction
abbrev pub is_hidden_pair : ℕ → ℕ → Bool
is_hidden_pair first second =
    (first == 194 && is_within 128 159 second) || (first == 216 && second == 156)

-- U+200B to U+200F, U+2028 to U+202E, U+2060 to U+206F, U+FEFF: characters without width, marks of
-- direction, separators of lines and paragraphs
abbrev pub is_hidden_triple : ℕ → ℕ → ℕ → Bool
is_hidden_triple first second third =
    (first == 226 && second == 128 && (is_within 139 143 third || is_within 168 174 third))
    || (first == 226 && second == 129 && is_within 160 175 third)
    || (first == 239 && second == 187 && third == 191)

-- such a character begins with this byte, before these
abbrev pub begins_hidden : (first : ℕ) (rest : List ℕ) → Bool
begins_hidden first rest = is_control first || is_hidden_pair first (slice_index rest 0)
    || is_hidden_triple first (slice_index rest 0) (slice_index rest 1)

abbrev pub has_hidden : List ℕ → Bool
has_hidden [] = false
has_hidden (first ∷ rest) = begins_hidden first rest || has_hidden rest

-- there is one in the line, but for blanks and CRs behind it
abbrev pub is_obscure : (line : List ℕ) → Bool
is_obscure line = has_hidden (without_trailing is_ending line)
