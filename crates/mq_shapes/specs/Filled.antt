-- The levels of the filters of rows for a client.
use Rattle.std.specs.Prelude.{ℕ, List, [], Option, Some, None, String, length, map, string_bytes, suc}
use denote.Ref.{Bor}
use Rattle.std.specs.declared.alloc.Global.{Global}
use Rattle.mq_topic.specs.Levels.{levels}
use Rattle.mq_acl.specs.Filled.{filled}
use Rattle.mq_acl.specs.Rows.{AclRow}
use Rattle.mq_acl.specs.RowsByOwner.{is_everyones}
use Rattle.mq_unify.specs.Clients.{made_levels}

-- those of a row, with these names in the places of its marks if it is a `pattern` row
abbrev pub row_levels : (client user : List ℕ) → AclRow → List (List ℕ)
row_levels client user row = made_levels (is_everyones row.who) client user (levels row.filter)

abbrev pub text_levels : List (String Global) → List (List (List ℕ))
text_levels texts = map (λ text. levels (string_bytes text)) texts

-- what is left of a text, with these names in the places of its marks
abbrev pub left_filled : (client user : List ℕ) → Option (Bor (List ℕ)) → List ℕ
left_filled client user None = []
left_filled client user (Some text) = filled client user text.now

-- more than its length, and 0 where none is left
abbrev pub length_left : Option (Bor (List ℕ)) → ℕ
length_left None = 0
length_left (Some text) = suc (length text.now)
