-- Moments, in seconds, and what is left of an interval (MQTT 5.0, section 3.3.2.3.3; the clock itself is our own).
use Rattle.std.specs.Prelude.{ℕ, ◌+◌, ◌-◌, Bool, false, nat_le, Option}
use Rattle.std.specs.Option.{option_map, option_map_or}

-- the last moment that the clock can show (own)
abbrev pub last_moment : ℕ
last_moment = 1_000_000_000_000

-- the moment at which an interval that begins now is over; without an interval there is none
abbrev pub deadline_of : ℕ → Option ℕ → Option ℕ
deadline_of now interval = option_map (λ seconds. now + seconds) interval

-- the deadline is now or has passed; what has no deadline stays
abbrev pub is_over : ℕ → Option ℕ → Bool
is_over now deadline = option_map_or (λ moment. nat_le moment now) deadline false

-- the seconds until the deadline, if there is one
abbrev pub time_left : ℕ → Option ℕ → Option ℕ
time_left now deadline = option_map (λ moment. moment - now) deadline
