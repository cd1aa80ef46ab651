-- Whom a row is for.
use Rattle.std.specs.Prelude.{ℕ, Bool, true, false, List, Option, Some, None}
use Rattle.std.specs.Str.{bytes_eq}
use Rattle.mq_acl.specs.Rows.{Who, Anonymous, Named, Everyone}

abbrev pub is_everyones : Who → Bool
is_everyones Anonymous = false
is_everyones (Named name) = false
is_everyones Everyone = true

-- whether a row is for the clients of this user name, or without one, alone
abbrev pub is_own : Option (List ℕ) → Who → Bool
is_own None Anonymous = true
is_own (Some user) Anonymous = false
is_own None (Named name) = false
is_own (Some user) (Named name) = bytes_eq user name
is_own user Everyone = false
