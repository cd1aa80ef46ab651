-- The clients that a difference concerns.
use Rattle.std.specs.Prelude.{ℕ, Bool, true, false, List, ◌||◌, ◌&&◌, not, Option, Some, None}
use Rattle.std.specs.Prelude.{string_bytes, [], ◌∷◌}
use Rattle.std.specs.Cmp.Lexicographic.{slice_cmp}
use Rattle.std.specs.Ordering.{nat_cmp}
use Rattle.std.specs.Str.{bytes_eq}
use Rattle.std.specs.declared.cmp.Ordering.{Ordering}
use Rattle.mq_acl.specs.Rows.{AclRow}
use Rattle.mq_witness.specs.Clients.{can_be_id}
use Rattle.mq_witness.specs.Rows.{is_user_of}
use Rattle.mq_differences.specs.declared.class.Class.{Class}
use Rattle.mq_differences.specs.declared.class.Class.TheVariants.{Anonymous, User, Others}

abbrev pub user_of : Class → Option (List ℕ)
user_of Anonymous = None
user_of (User name) = Some (string_bytes name)
user_of (Others name) = Some (string_bytes name)

-- a broker can have the user name, if there is one
abbrev pub can_be_user : Option (List ℕ) → Bool
can_be_user None = true
can_be_user (Some user) = can_be_id user

-- some row of either list is for the clients of this user name alone
abbrev pub is_listed : List AclRow → List AclRow → List ℕ → Bool
is_listed old new name = is_user_of name old || is_user_of name new

-- whether the clients of this user name, or without one, are in the class
abbrev pub is_in : List AclRow → List AclRow → Option (List ℕ) → Class → Bool
is_in old new None Anonymous = true
is_in old new (Some user) Anonymous = false
is_in old new None (User name) = false
is_in old new (Some user) (User name) = bytes_eq user (string_bytes name) && is_listed old new user
is_in old new None (Others name) = false
is_in old new (Some user) (Others name) = not (is_listed old new user)

-- those without a user name come first, then those of each user name in the order of their bytes, then
-- all others
abbrev pub rank : Class → List ℕ
rank Anonymous = []
rank (User name) = 0 ∷ string_bytes name
rank (Others name) = 1 ∷ []

abbrev pub class_order : Class → Class → Ordering
class_order class other = slice_cmp nat_cmp (rank class) (rank other)
