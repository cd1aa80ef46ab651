-- The limit that lists have to keep to, and what is shown of one that doesn't.
use Rattle.std.specs.Prelude.{◌≡◌, ℕ, Bool, true, List, ◌&&◌, not, length, nat_le, find, ⊤}
use Rattle.std.specs.Prelude.{Option, Some, None, slice_get}
use denote.Ref.{Bor}
use Rattle.std.specs.List.{list_all}
use Rattle.std.specs.Option.{option_map}
use Rattle.mq_topic.specs.Levels.{levels}
use Rattle.mq_acl.specs.Rows.{Who, Anonymous, Named, Everyone, AclRow}
use Rattle.mq_acl.specs.Views.{row_view}
use Rattle.mq_acl.specs.declared.row.Row.{Row}
use Rattle.mq_acl.specs.declared.rules.Rules.{Rules}
use Rattle.mq_acl.specs.declared.rules.Rules.TheVariants.{Own, Mosquitto}
use Rattle.mq_cover.specs.Names.{can_be_level}
use Rattle.mq_cover.specs.Remainders.{fits}
pub use Rattle.mq_shapes.specs.Prefix.{is_short, is_usable as usable, short_owner as short_who}
use Rattle.mq_shapes.specs.Found.{has_whole_marks}
use Rattle.mq_witness.specs.declared.fault.ListFault.{ListFault}
use Rattle.mq_witness.specs.declared.fault.ListFault.TheVariants.{Memory, Line, Mark}

abbrev pub has_short_levels : List ℕ → Bool
has_short_levels text = list_all is_short (levels text)

-- no level of the filter is longer than 300 bytes, nor is the user name
abbrev pub is_short_row : AclRow → Bool
is_short_row row = has_short_levels row.filter && short_who row.who

-- the line of the first row that doesn't keep to it
abbrev pub long_line : List Row → Option ℕ
long_line rows = option_map (λ row. row.line) (find (λ row. not (is_short_row (row_view row))) rows)

abbrev pub is_short_level : List ℕ → Bool
is_short_level level = can_be_level level && is_short level

-- the list at this place has this line as its first that doesn't keep to it
pub record IsLongLine (lists : List (Bor (List Row))) (place line : ℕ) : Type 0 where
  pub list : Bor (List Row)
  pub placed : slice_get lists place ≡ Some list
  pub long : long_line list.now ≡ Some line

-- by mosquitto's rules the line of the first row with a mark that is no whole level
abbrev pub marked_line : Rules → List Row → Option ℕ
marked_line Own rows = None
marked_line Mosquitto rows =
    option_map (λ row. row.line) (find (λ row. not (has_whole_marks (row_view row))) rows)

-- the list at this place has this line as its first such
pub record IsMarkedLine (rules : Rules) (lists : List (Bor (List Row))) (place line : ℕ) : Type 0
  where
    pub list : Bor (List Row)
    pub placed : slice_get lists place ≡ Some list
    pub marked : marked_line rules list.now ≡ Some line

-- what is shown of the lists is so
abbrev pub IsFault : Rules → List (Bor (List Row)) → ListFault → Type 0
IsFault rules lists Memory = ⊤
IsFault rules lists (Line place line) = IsLongLine lists place line
IsFault rules lists (Mark place line) = IsMarkedLine rules lists place line
