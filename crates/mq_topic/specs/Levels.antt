-- The levels of a topic text, and their order (MQTT 5.0, section 4.7.1.1; the order is our own).
use Rattle.std.specs.Prelude.{ℕ, Bool, List, [], ◌==◌, Option, Some, None}
use denote.Ref.{Bor}
use Rattle.std.specs.List.{slice_split}
use Rattle.std.specs.declared.cmp.Ordering.{Ordering}
use Rattle.std.specs.Cmp.Lexicographic.{slice_cmp}
use Rattle.std.specs.Ordering.{nat_cmp}

abbrev pub is_slash : ℕ → Bool
is_slash b = b == 47

-- the pieces of the text between its slashes, empty pieces too
abbrev pub levels : List ℕ → List (List ℕ)
levels text = slice_split is_slash text

-- level by level, each by its bytes; a list that begins another comes first
abbrev pub level_order : List (List ℕ) → List (List ℕ) → Ordering
level_order a b = slice_cmp (slice_cmp nat_cmp) a b

-- the levels of what is left of a text, if anything is
abbrev pub levels_left : Option (Bor (List ℕ)) → List (List ℕ)
levels_left None = []
levels_left (Some rest) = levels rest.now
