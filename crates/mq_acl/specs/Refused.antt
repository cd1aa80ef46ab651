-- What mosquitto 2.0 refuses whatever its list says.
use Rattle.std.specs.Prelude.{ℕ, Bool, false, List, ◌&&◌, ◌||◌, not, codes, nat_eq}
use Rattle.std.specs.List.{starts_with}
use Rattle.mq_topic.specs.Levels.{levels}
use Rattle.mq_topic.specs.Matching.{level_matches, levels_match_by}
use Rattle.mq_acl.specs.declared.access.Direction.{Direction}
use Rattle.mq_acl.specs.declared.access.Direction.TheVariants.{Reading, Writing}
use Rattle.mq_acl.specs.declared.rules.Rules.{Rules}
use Rattle.mq_acl.specs.declared.rules.Rules.TheVariants.{Own, Mosquitto}

-- the broker's own topics, `$SYSTEM` too
unfoldable pub begins_own : List ℕ → Bool
begins_own text = starts_with nat_eq text (codes "$SYS")

-- what is for shared subscriptions, `$sharex` too
unfoldable pub begins_shared : List ℕ → Bool
begins_shared text = starts_with nat_eq text (codes "$share")

-- where bridges tell their state (mosquitto.conf(5), `notifications`)
unfoldable pub state_filter : List ℕ
state_filter = codes "$SYS/broker/connection/+/state"

abbrev pub is_state : List ℕ → Bool
is_state name = levels_match_by level_matches (levels state_filter) (levels name)

-- it is the broker's own, and none of those
abbrev pub is_kept : List ℕ → Bool
is_kept name = begins_own name && not (is_state name)

-- to read it, or to write it, is refused
unfoldable pub is_refused : Direction → List ℕ → Bool
is_refused Reading name = begins_shared name
is_refused Writing name = begins_shared name || is_kept name

-- by our own rules nothing is
abbrev pub refuses : Rules → Direction → List ℕ → Bool
refuses Own direction name = false
refuses Mosquitto direction name = is_refused direction name
