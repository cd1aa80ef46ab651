-- The levels of names, as a walk goes through them.
use Rattle.std.specs.Prelude.{ℕ, Bool, true, false, List, [], ◌∷◌, length, ◌&&◌, not, ◌==◌, nat_le}
use Rattle.std.specs.Prelude.{if◌then◌else◌}
use Rattle.std.specs.Str.{bytes_eq}
use Rattle.mq_topic.specs.Texts.{contains_byte, is_plain}
use Rattle.mq_acl.specs.Access.{begins_with_dollar}
use Rattle.mq_acl.specs.Refused.{begins_own, begins_shared}
use Rattle.mq_cover.specs.declared.others.Others.{Others}
use Rattle.mq_cover.specs.declared.start.Start.{Start}
use Rattle.mq_cover.specs.declared.start.Start.TheVariants.{Plain, Dollar, Readable, Writable}
use Rattle.mq_cover.specs.declared.start.Start.TheVariants.{Slash, Inside}

-- whether a name may go on with this level: at its front its first bytes show the kinds of names
-- apart
abbrev pub fits_start : Start → List ℕ → Bool
fits_start Plain level = not (begins_with_dollar level)
fits_start Dollar level = begins_with_dollar level
fits_start Readable level = begins_with_dollar level && not (begins_shared level)
fits_start Writable level =
    begins_with_dollar level && (not (begins_shared level) && not (begins_own level))
fits_start Slash level = true
fits_start Inside level = true

-- where a walk stands behind a level
abbrev pub behind : Start → List ℕ → Start
behind Plain level = if length level == 0 then Slash else Inside
behind Dollar level = Inside
behind Readable level = Inside
behind Writable level = Inside
behind Slash level = Inside
behind Inside level = Inside

-- whether a name may end here
abbrev pub ends : Start → Bool
ends Inside = true
ends start = false

-- whether a name may go on with these levels and end: an empty text is no name
abbrev pub suits : Start → List (List ℕ) → Bool
suits start [] = ends start
suits start (level ∷ levels) = fits_start start level && suits (behind start level) levels

-- where a walk over the names that begin with `$`, or over the others, starts
abbrev pub start_of : Bool → Start
start_of true = Dollar
start_of false = Plain

-- the text can be a level of a name
abbrev pub can_be_level : List ℕ → Bool
can_be_level text = is_plain text && not (contains_byte 0 text) && not (contains_byte 47 text)

-- a level of a name that is short enough: 200 of them and the slashes between them are at most
-- 65,535 bytes
abbrev pub is_name_level : List ℕ → Bool
is_name_level level = can_be_level level && nat_le (length level) 321

-- each can be a level where it is to stand
abbrev pub are_others : Others → Bool
are_others others =
    not (length others.plain.now == 0) && not (begins_with_dollar others.plain.now)
    && is_name_level others.plain.now
    && fits_start Writable others.dollar.now && is_name_level others.dollar.now

-- a level of a name, and none that stands for others
abbrev pub is_choice : Others → List ℕ → Bool
is_choice others level = is_name_level level && not (bytes_eq level others.plain.now)
    && not (bytes_eq level others.dollar.now)
