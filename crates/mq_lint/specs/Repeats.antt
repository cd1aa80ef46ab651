-- Rows that were seen.
use Rattle.std.specs.Prelude.{◌≡◌, ℕ, true, List, [], ◌++◌, All, codes}
use Rattle.std.specs.BTreeSet.{contains_text}
use Rattle.mq_acl.specs.Rows.{AclRow, Anonymous, Everyone, Named, Who}
use Rattle.mq_acl.specs.Views.{row_view}
use Rattle.mq_acl.specs.declared.row.Row.{Row}
use Rattle.mq_lint.specs.declared.repeats.Seen.{Seen}

abbrev pub owner_text : Who → List ℕ
owner_text Anonymous = []
owner_text (Named name) = name
owner_text Everyone = []

-- the same for all rows that say the same
abbrev pub row_key : AclRow → List ℕ
row_key row = owner_text row.who ++ (codes " " ++ row.filter)

-- each of these rows was seen
abbrev pub AreSeen : List Row → Seen → Type 0
AreSeen rows seen = All (λ r. contains_text seen.keys (row_key (row_view r)) ≡ true) rows
