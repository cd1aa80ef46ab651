-- Which line of a list decides.
use Rattle.std.specs.Prelude.{ℕ, Bool, List, ◌&&◌, Option}
use Rattle.std.specs.List.{find}
use Rattle.std.specs.Option.{option_map}
use Rattle.mq_acl.specs.Access.{concerns}
use Rattle.mq_acl.specs.Lines.{Access}
use Rattle.mq_acl.specs.Views.{access_view, row_view}
use Rattle.mq_acl.specs.declared.row.Row.{Row}

-- the row concerns the name, and its access passes the test
abbrev pub decides : (Access → Bool) → (client : List ℕ) (user : Option (List ℕ)) (name : List ℕ)
    → Row → Bool
decides p client user name row =
    concerns client user name (row_view row) && p (access_view row.access)

-- the line of the first row that does: where it denies, or where it grants and none denies, it is
-- the line that decides
abbrev pub first_line : (Access → Bool) → (client : List ℕ) (user : Option (List ℕ))
    (name : List ℕ) → List Row → Option ℕ
first_line p client user name rows =
    option_map (λ row. row.line) (find (decides p client user name) rows)
