-- What the search by mosquitto's rules stands on.
use Rattle.std.specs.Prelude.{◌≡◌, ◌++◌, ◌∷◌, [], ℕ, List, string_bytes}
use Rattle.mq_acl.specs.Rows.{AclRow}
use Rattle.mq_acl.specs.Views.{row_views}
use Rattle.mq_shapes.specs.Prefix.{ArePrefixes, is_user_of}
use Rattle.mq_witness.specs.Literals.{is_among}
use Rattle.mq_witness.specs.RuledSearch.{state_row}
use Rattle.mq_witness.specs.declared.ruled_texts.RuledTexts.{RuledTexts}

-- no level of these rows, nor of the states of bridges, begins with what stands for others; these are all user names that
-- the rows are for
pub record IsRuledFor (rows : List AclRow) (texts : RuledTexts) : Type 0 where
  pub prefixes : ArePrefixes (rows ++ state_row ∷ []) (string_bytes texts.prefixes.plain)
      (string_bytes texts.prefixes.dollar)
  pub users : (user : List ℕ) → is_among user texts.users.items ≡ is_user_of user rows
  pub states : row_views texts.states.items ≡ state_row ∷ []
