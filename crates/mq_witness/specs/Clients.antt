-- Which clients a question is about.
use Rattle.std.specs.Prelude.{ℕ, Bool, true, false, List, ◌&&◌, not, Option, Some, None}
use Rattle.std.specs.Str.{bytes_eq}
use Rattle.mq_topic.specs.Texts.{is_text}
use Rattle.mq_shapes.specs.declared.clients.Clients.{Clients}
use Rattle.mq_shapes.specs.declared.clients.Clients.TheVariants.{Anonymous, Named, Others}

-- a client id or a user name that a broker can have: 1 to 65,535 bytes, and no U+0000 (MQTT 5.0,
-- section 1.5.4). To a client without an id the broker gives one (section 3.1.3.1); that an empty
-- user name is none is our own rule
abbrev pub can_be_id : List ℕ → Bool
can_be_id text = is_text text

-- the user name that is asked about passes the test, if there is one
abbrev pub name_passes : (List ℕ → Bool) → Clients → Bool
name_passes p Anonymous = true
name_passes p (Named name) = p name.now
name_passes p Others = true

-- whether the clients of this user name, or without one, are among those that are asked about; the
-- test says which user names rows name
abbrev pub is_of : (List ℕ → Bool) → Clients → Option (List ℕ) → Bool
is_of listed Anonymous None = true
is_of listed Anonymous (Some user) = false
is_of listed (Named name) None = false
is_of listed (Named name) (Some user) = bytes_eq user name.now && can_be_id user
is_of listed Others None = false
is_of listed Others (Some user) = can_be_id user && not (listed user)
