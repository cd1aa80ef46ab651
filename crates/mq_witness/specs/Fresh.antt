-- Texts that no row names.
use Rattle.std.specs.Prelude.{◌≡◌, ℕ, Bool, true, false, List, length, ◌&&◌, not, ◌==◌}
use Rattle.std.specs.Str.{bytes_eq}
use Rattle.mq_acl.specs.Access.{begins_with_dollar}
use Rattle.mq_topic.specs.Levels.{levels}
use Rattle.mq_acl.specs.Refused.{state_filter}
use Rattle.mq_cover.specs.Names.{are_others, fits_start, is_choice}
use Rattle.mq_cover.specs.Remainders.{fits}
use Rattle.mq_cover.specs.declared.start.Start.TheVariants.{Writable}
use Rattle.mq_witness.specs.declared.fresh.BothFresh.{BothFresh}
use Rattle.mq_witness.specs.declared.fresh.Fresh.{Fresh}

-- a level that a row may name: neither of the levels, nor the ids, that stand for others
abbrev pub is_literal : Fresh → List ℕ → Bool
is_literal f text = is_choice f.others text && not (bytes_eq text f.client.now)
    && not (bytes_eq text f.user.now)

-- all of them pass the test
abbrev pub fresh_pass : (List ℕ → Bool) → Fresh → Bool
fresh_pass p f = p f.others.plain.now && p f.others.dollar.now && p f.client.now && p f.user.now

-- an id that stands for others can be a level at the front of a name
pub record IsFreshId (f : Fresh) (id : List ℕ) : Type 0 where
  pub choice : is_choice f.others id ≡ true
  pub some : (length id == 0) ≡ false

-- each can be a level where it is to stand, no two are the same, both ids begin with `$` as no name that the broker
-- refuses does, or neither does, and none is a level of the states of bridges
pub record AreFresh (f : Fresh) : Type 0 where
  pub others : are_others f.others ≡ true
  pub client : IsFreshId f f.client.now
  pub user : IsFreshId f f.user.now
  pub apart : bytes_eq f.user.now f.client.now ≡ false
  pub begin : begins_with_dollar f.user.now ≡ begins_with_dollar f.client.now
  pub front : fits_start Writable f.user.now ≡ fits_start Writable f.client.now
  pub states : fits (is_literal f) (levels state_filter) ≡ true

-- the ids of the one begin with no `$`; those of the other do, where that counts
abbrev pub BeginSo : Bool → BothFresh → Type 0
BeginSo front both = (begins_with_dollar both.plain.client.now ≡ false)
    × (front ≡ true → fits_start Writable both.dollar.client.now ≡ true)
