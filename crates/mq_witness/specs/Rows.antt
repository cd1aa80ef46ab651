-- Which user names and levels rows name.
use Rattle.std.specs.Prelude.{ℕ, Bool, List, ◌||◌}
use Rattle.std.specs.List.{list_any}
use Rattle.mq_topic.specs.Levels.{levels}
use Rattle.mq_acl.specs.Rows.{AclRow}
pub use Rattle.mq_unify.specs.Rows.{lent_rows}
pub use Rattle.mq_shapes.specs.Prefix.{all_rows, is_name_of, is_user_of}
use Rattle.mq_witness.specs.Literals.{is_literal_in}

-- the text is a level of the filter, and no wildcard, or the user name
abbrev pub row_names : List ℕ → AclRow → Bool
row_names text row = is_literal_in text (levels row.filter) || is_name_of text row.who

abbrev pub rows_name : List ℕ → List AclRow → Bool
rows_name text rows = list_any (row_names text) rows
