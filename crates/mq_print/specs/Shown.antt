-- Texts as they are shown: no character of them acts on a terminal, turns the direction of writing, parts lines or
-- can't be seen.
use Rattle.std.specs.Prelude.{ℕ, Bool, false, List, [], ◌++◌, ◌&&◌, ◌||◌, ◌==◌, nat_le}
use Rattle.std.specs.Prelude.{not, ◌^◌, ◌-◌, codes, if◌then◌else◌}
use Rattle.std.specs.Fmt.{digits, format_spec, padded_integral}
use Rattle.std.specs.List.{flat_map}
use Rattle.std.specs.Str.{chars}
use Rattle.std.specs.Char.{encode_utf8}
use Rattle.mq_print.specs.declared.escape.Escape.{Escape}
use Rattle.mq_print.specs.declared.escape.Escape.TheVariants.{Words, Json}

abbrev pub is_between : ℕ → ℕ → ℕ → Bool
is_between first last c = nat_le first c && nat_le c last

-- control characters, marks of direction, and characters without width
abbrev pub is_hidden : ℕ → Bool
is_hidden c = is_between 0 31 c || is_between 127 159 c || c == 1564
    || is_between 8203 8207 c || is_between 8232 8238 c || is_between 8288 8303 c || c == 65279

-- how one of them is written: its code in hexadecimal digits, in JSON with four
abbrev pub escape_text : Escape → ℕ → List ℕ
escape_text Words c = codes "\\u{" ++ digits 16 false c ++ codes "}"
escape_text Json c =
    codes "\\u" ++ padded_integral (format_spec 32 0 4 4 (2 ^ 64 - 1)) false [] (digits 16 false c)

-- a character as it is shown, where line feeds may be left as they are
abbrev pub shown_char : Bool → Escape → ℕ → List ℕ
shown_char feeds escape c =
    if is_hidden c && not (feeds && c == 10) then escape_text escape c else encode_utf8 c

abbrev pub shown : Bool → Escape → List ℕ → List ℕ
shown feeds escape text = flat_map (shown_char feeds escape) (chars text)
