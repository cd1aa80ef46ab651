-- What is true of the text of a list.
use Rattle.std.specs.Prelude.{List, Ok, ℕ, ◌≡◌}
use Rattle.mq_acl.specs.Rows.{AclRow, row_lines_by, rows_by}
use Rattle.mq_acl.specs.Views.{line_views, row_views}
use Rattle.mq_acl.specs.declared.row.Row.{Row}
use Rattle.mq_acl.specs.declared.rules.Rules.{Rules}
use Rattle.mq_acl.specs.declared.rules.Rules.TheVariants.{Mosquitto}

-- by these rules the rows are those of the text, each with the number of its line
pub record AreRows (rules : Rules) (text : List ℕ) (rows : List Row) : Type 0 where
  pub read : rows_by rules text ≡ Ok (row_views rows)
  pub numbered : line_views rows ≡ row_lines_by rules text

-- mosquitto takes each line of the text
abbrev pub IsTaken : (text : List ℕ) → Type 0
IsTaken text = (rows : List AclRow) × (rows_by Mosquitto text ≡ Ok rows)
