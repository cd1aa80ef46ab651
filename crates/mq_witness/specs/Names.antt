-- Which names a question is about.
use Rattle.std.specs.Prelude.{ℕ, Bool, true, false, List, ◌&&◌, ◌||◌, not}
use Rattle.mq_topic.specs.Levels.{levels}
use Rattle.mq_acl.specs.Refused.{is_state, refuses, state_filter}
use Rattle.mq_acl.specs.declared.access.Direction.TheVariants.{Reading, Writing}
use Rattle.mq_acl.specs.declared.rules.Rules.{Rules}
use Rattle.mq_acl.specs.declared.rules.Rules.TheVariants.{Own, Mosquitto}
use Rattle.mq_cover.specs.Names.{fits_start}
use Rattle.mq_cover.specs.Remainders.{fits}
use Rattle.mq_cover.specs.declared.start.Start.{Start}
use Rattle.mq_cover.specs.declared.start.Start.TheVariants as starts
use Rattle.mq_witness.specs.declared.names.Names.{Names}
use Rattle.mq_witness.specs.declared.names.Names.TheVariants.{Plain, Dollar, Readable, Writable}
use Rattle.mq_witness.specs.declared.names.Names.TheVariants.{States}
use Rattle.mq_witness.specs.declared.topics.Topics.{Topics}
use Rattle.mq_witness.specs.declared.topics.Topics.TheVariants.{All, Open}

-- by these rules, nobody may do with the name what the topics are about, whatever a list says
abbrev pub refused_of : Rules → Topics → List ℕ → Bool
refused_of rules All name = false
refused_of rules (Open direction) name = refuses rules direction name

-- ---- names by how they begin
abbrev pub names_begun : Bool → Names
names_begun true = Dollar
names_begun false = Plain

-- of these topics, those that begin with `$`, or the others, but for the states of bridges
abbrev pub names_of : Bool → Topics → Names
names_of false topics = Plain
names_of true All = Dollar
names_of true (Open Reading) = Readable
names_of true (Open Writing) = Writable

-- of those that begin with `$`, the ones that clients may read by these rules
abbrev pub names_readable : Rules → Names
names_readable Own = Dollar
names_readable Mosquitto = Readable

-- these names are the states of bridges, which clients may write
abbrev pub are_states : Names → Bool
are_states States = true
are_states names = false

abbrev pub has_states : Bool → Topics → Bool
has_states true (Open Writing) = true
has_states dollar topics = false

-- they begin with `$`
abbrev pub are_begun : Names → Bool
are_begun Plain = false
are_begun names = true

-- where a walk over them starts
abbrev pub start_at : Names → Start
start_at Plain = starts.Plain
start_at Dollar = starts.Dollar
start_at Readable = starts.Readable
start_at Writable = starts.Writable
start_at States = starts.Dollar

-- the text begins as they do
abbrev pub has_front : Names → List ℕ → Bool
has_front names text = fits_start (start_at names) text

-- it matches the filter that all of them match, if there is one
abbrev pub is_right : Names → List ℕ → Bool
is_right names name = not (are_states names) || is_state name

abbrev pub is_one_of : Names → List ℕ → Bool
is_one_of names name = has_front names name && is_right names name

-- the levels of that filter fit
abbrev pub names_fit : (List ℕ → Bool) → Names → Bool
names_fit p names = not (are_states names) || fits p (levels state_filter)
