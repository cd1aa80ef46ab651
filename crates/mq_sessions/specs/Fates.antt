-- Where a copy for a client goes.
use Rattle.std.specs.Prelude.{Bool, true, false}
use Rattle.mq_sessions.specs.declared.sessions.session.Fate.{Fate}
use Rattle.mq_sessions.specs.declared.sessions.session.Fate.TheVariants.{Sent, Queued, Dropped}

abbrev pub is_sent : Fate → Bool
is_sent fate = elim fate [ Sent ↦ true | Queued ↦ false | Dropped ↦ false ]

abbrev pub waits : Fate → Bool
waits fate = elim fate [ Sent ↦ false | Queued ↦ true | Dropped ↦ false ]
