-- Columns of words.
use Rattle.std.specs.Prelude.{ℕ, List, ◌++◌, ◌-◌, codes, length, replicate}
use Rattle.std.specs.Str.{chars}

-- how wide a text is: as many columns as it has characters
abbrev pub width_of : List ℕ → ℕ
width_of text = length (chars text)

-- a text in a column of this width: blanks up to it, and two more
abbrev pub cell : (width : ℕ) → List ℕ → List ℕ
cell width text = text ++ replicate (width - width_of text) 32 ++ codes "  "
