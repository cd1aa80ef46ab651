-- The client ids and user names that are tried.
use Rattle.std.specs.Prelude.{ℕ, Bool, List, ◌&&◌, ◌||◌, Option, codes}
use Rattle.std.specs.Str.{bytes_eq}
use Rattle.mq_acl.specs.Access.{is_user}
use Rattle.mq_cover.specs.declared.remainder.Remainder.{Remainder}
use Rattle.mq_witness.specs.Clients.{can_be_id}
use Rattle.mq_witness.specs.Literals.{is_literal_of, has_mark}
use Rattle.mq_witness.specs.declared.fresh.Fresh.{Fresh}

-- the client id that stands for others, and those that a row with `%c` may demand
abbrev pub is_tried_client : Fresh → Option (List ℕ) → List Remainder → List ℕ → Bool
is_tried_client f user must client = bytes_eq client f.client.now
    || (has_mark (codes "%c") must && (is_user client user || is_literal_of client must)
    && can_be_id client)

-- the user name that stands for others, and those that a row with `%u` may demand
abbrev pub is_tried_user : Fresh → List Remainder → List ℕ → Bool
is_tried_user f must user = bytes_eq user f.user.now
    || (has_mark (codes "%u") must && is_literal_of user must && can_be_id user)
