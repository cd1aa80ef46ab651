-- Lists of levels, as filters are made of them.
use Rattle.std.specs.Prelude.{ℕ, Bool, true, List, [], ◌∷◌, length, map, ◌==◌, ◌&&◌, ◌||◌, not}
use Rattle.std.specs.Prelude.{◌≡◌, codes, nat_lt, ⊤}
use Rattle.std.specs.List.{list_any}
use Rattle.std.specs.Str.{bytes_eq}
use denote.Ref.{Bor}
use Rattle.mq_topic.specs.Matching.{level_matches, levels_match_by}
use Rattle.mq_topic.specs.Texts.{contains_byte, is_level}
use Rattle.mq_rename.specs.declared.fault.MeetFault.{MeetFault}
use Rattle.mq_rename.specs.declared.fault.MeetFault.TheVariants.{Memory, TooLong}

-- the texts that these point to
abbrev pub texts : List (Bor (List ℕ)) → List (List ℕ)
texts parts = map (λ part. part.now) parts

abbrev pub is_plus : List ℕ → Bool
is_plus level = bytes_eq level (codes "+")

abbrev pub is_hash : List ℕ → Bool
is_hash level = bytes_eq level (codes "#")

-- a `#` with no level after it
abbrev pub is_last_hash : List ℕ → List (List ℕ) → Bool
is_last_hash level after = is_hash level && (length after == 0)

-- the levels match, the rule on `$` left out
abbrev pub levels_match : List (List ℕ) → List (List ℕ) → Bool
levels_match filter name = levels_match_by level_matches filter name

-- no slash and no NUL is in the level, each wildcard is a whole level, and `#` the last
abbrev pub are_fit : List (List ℕ) → Bool
are_fit [] = true
are_fit (level ∷ after) =
    not (contains_byte 0 level) && not (contains_byte 47 level) && is_level level
    && (length after == 0 || not (contains_byte 35 level)) && are_fit after

-- a level of more than 300 bytes
abbrev pub is_long : List ℕ → Bool
is_long level = nat_lt 300 (length level)

abbrev pub has_long : List (List ℕ) → Bool
has_long ls = list_any is_long ls

-- what is shown is so, where some level is long or none is
abbrev pub IsFault : MeetFault → Bool → Type 0
IsFault Memory long = ⊤
IsFault TooLong long = long ≡ true
