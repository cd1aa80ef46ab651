-- The worked rows of tests/rows, computed from the definitions alone. Made by dev/worked_scripts.py.
use Rattle.std.specs.Prelude.{◌≡◌, ℕ, Bool, true, false, List, [], ◌∷◌, map, Option, Some, None, is_some, Result, Ok, Err, codes, slice_index_or, if◌then◌else◌}
use Rattle.std.proofs.Common.{refl}
use Rattle.std.specs.Option.{option_map_or}
use Rattle.mq_acl.specs.AccessLists.{allowed}
use Rattle.mq_acl.specs.Refused.{begins_own, begins_shared, is_refused, state_filter}
use Rattle.mq_acl.specs.declared.rules.Rules.TheVariants.{Mosquitto}
use Rattle.mq_world.specs.Lists.{Text, with_row}
use Rattle.mq_world.specs.World.{World, Request, Connect, Disconnect, Subscribe, Unsubscribe, Publish, SetAcl, Advance, Stat, Group, Copy, Reply, fresh_world, empty_world, ruled, within}
use Rattle.mq_world.specs.Refusals.{refusal}
use Rattle.mq_world.specs.Copies.{unshared_copies}
use Rattle.mq_world.specs.Groups.{groups_of, served_rows}
use Rattle.mq_world.specs.Retained.{retained_after, retained_copies}
use Rattle.mq_world.specs.Waiting.{resumed_copies, begins_to_wait}
use Rattle.mq_world.specs.Counts.{filters_of, counts, steps}
use Rattle.mq_world.specs.Answers.{answer}
use Rattle.mq_world.specs.After.{after, next}
use Rattle.mq_world.specs.declared.refusal.Refusal.{Refusal}
use Rattle.mq_world.specs.declared.refusal.Refusal.TheVariants.{ClientId, UserName, NotConnected, TopicName, TopicFilter, SharedNoLocal, NotAuthorized, RetainedFull, AclLine, ClockTooFar}
use Rattle.mq_world.specs.declared.answer.Outcome.TheVariants.{Reason, Counts}

-- what each command is answered
abbrev answers : World → List Request → List (Result Reply Refusal)
answers w [] = []
answers w (request ∷ requests) =
    option_map_or (λ r. Err r) (refusal w request) (Ok (answer w request)) ∷ answers (next w request) requests

-- the steps that each command counts: none where it is refused
abbrev counted : World → List Request → List ℕ
counted w [] = []
counted w (request ∷ requests) =
    (if is_some (refusal w request) then 0 else steps w request) ∷ counted (next w request) requests

-- those of the commands at these places
abbrev counted_at : List ℕ → World → List Request → List ℕ
counted_at places w requests = map (λ i. slice_index_or (counted w requests) i 0) places

abbrev ok : List Copy → ℕ → Result Reply Refusal
ok copies n = Ok (record { copies = copies; outcome = Reason n })

abbrev counted_reply : ℕ → ℕ → ℕ → Result Reply Refusal
counted_reply nodes retained subscriptions = Ok (record { copies = []; outcome = Counts nodes retained subscriptions })

abbrev connect : Text → Option Text → Request
connect client user = Connect client user true 0

abbrev publish : Text → Text → Text → ℕ → Bool → Option ℕ → Request
publish client topic payload qos retain expiry =
    Publish (record { publisher = client; topic = topic; payload = payload; qos = qos; retain = retain; expiry = expiry })

abbrev message : Text → Text → Text → ℕ → Request
message client topic payload qos = publish client topic payload qos false None

abbrev subscribe : Text → Text → ℕ → Request
subscribe client text qos =
    Subscribe client text (record { qos = qos; no_local = false; retain_as_published = false; handling = 0; identifier = None })

abbrev group : Text → Text → Option Group
group share filter = Some (record { share = share; filter = filter })

abbrev access_list_lines-script : List Request
access_list_lines-script =
    SetAcl (Some (codes "topic read a b"))
    ∷ SetAcl (Some (35 ∷ 32 ∷ 99 ∷ 10 ∷ 10 ∷ 116 ∷ 111 ∷ 112 ∷ 105 ∷ 99 ∷ 32 ∷ 97 ∷ 32 ∷ 98 ∷ []))
    ∷ SetAcl (Some (codes "topic read"))
    ∷ SetAcl (Some (116 ∷ 111 ∷ 112 ∷ 105 ∷ 99 ∷ 32 ∷ 114 ∷ 101 ∷ 97 ∷ 100 ∷ 13 ∷ 10 ∷ 112 ∷ 97 ∷ 116 ∷ 116 ∷ 101 ∷ 114 ∷ 110 ∷ 32 ∷ 114 ∷ 101 ∷ 97 ∷ 100 ∷ 32 ∷ 120 ∷ 37 ∷ 117 ∷ []))
    ∷ connect (codes "a") None
    ∷ message (codes "a") (codes "read") (codes "x") 0
    ∷ message (codes "a") (codes "x") (codes "x") 0
    ∷ SetAcl None
    ∷ message (codes "a") (codes "x") (codes "x") 0
    ∷ SetAcl (Some [])
    ∷ message (codes "a") (codes "x") (codes "x") 0
    ∷ []

access_list_lines : answers empty_world access_list_lines-script
    ≡ (ok [] 0
    ∷ Err (AclLine 3)
    ∷ ok [] 0
    ∷ Err (AclLine 2)
    ∷ ok [] 0
    ∷ ok [] 16
    ∷ Err NotAuthorized
    ∷ ok [] 0
    ∷ ok [] 16
    ∷ ok [] 0
    ∷ Err NotAuthorized
    ∷ [])
unfolding fresh_world refusal answer after next with_row allowed unshared_copies groups_of served_rows
    retained_after retained_copies resumed_copies begins_to_wait filters_of counts
access_list_lines = refl

abbrev access_list-script : List Request
access_list-script =
    SetAcl (Some (116 ∷ 111 ∷ 112 ∷ 105 ∷ 99 ∷ 32 ∷ 114 ∷ 101 ∷ 97 ∷ 100 ∷ 32 ∷ 97 ∷ 47 ∷ 35 ∷ 10 ∷ 112 ∷ 97 ∷ 116 ∷ 116 ∷ 101 ∷ 114 ∷ 110 ∷ 32 ∷ 100 ∷ 101 ∷ 110 ∷ 121 ∷ 32 ∷ 97 ∷ 47 ∷ 37 ∷ 117 ∷ 10 ∷ 112 ∷ 97 ∷ 116 ∷ 116 ∷ 101 ∷ 114 ∷ 110 ∷ 32 ∷ 114 ∷ 101 ∷ 97 ∷ 100 ∷ 32 ∷ 37 ∷ 117 ∷ 47 ∷ 35 ∷ 10 ∷ 112 ∷ 97 ∷ 116 ∷ 116 ∷ 101 ∷ 114 ∷ 110 ∷ 32 ∷ 119 ∷ 114 ∷ 105 ∷ 116 ∷ 101 ∷ 32 ∷ 43 ∷ 47 ∷ 43 ∷ 10 ∷ 112 ∷ 97 ∷ 116 ∷ 116 ∷ 101 ∷ 114 ∷ 110 ∷ 32 ∷ 119 ∷ 114 ∷ 105 ∷ 116 ∷ 101 ∷ 32 ∷ 36 ∷ 83 ∷ 89 ∷ 83 ∷ 47 ∷ 35 ∷ 10 ∷ 117 ∷ 115 ∷ 101 ∷ 114 ∷ 32 ∷ 98 ∷ 10 ∷ 116 ∷ 111 ∷ 112 ∷ 105 ∷ 99 ∷ 32 ∷ 114 ∷ 101 ∷ 97 ∷ 100 ∷ 32 ∷ 97 ∷ 47 ∷ 35 ∷ 10 ∷ []))
    ∷ connect (codes "b") (Some (codes "b"))
    ∷ connect (codes "n") None
    ∷ connect (codes "p") (Some (codes "+"))
    ∷ connect (codes "s") (Some (codes "$SYS"))
    ∷ connect (codes "w") None
    ∷ subscribe (codes "b") (codes "#") 0
    ∷ subscribe (codes "n") (codes "#") 0
    ∷ subscribe (codes "p") (codes "#") 0
    ∷ subscribe (codes "s") (codes "$SYS/#") 0
    ∷ message (codes "w") (codes "b/x") (codes "x") 0
    ∷ message (codes "w") (codes "a/b") (codes "x") 0
    ∷ message (codes "w") (codes "a/c") (codes "x") 0
    ∷ message (codes "w") (codes "$SYS/x") (codes "x") 0
    ∷ message (codes "b") (codes "a/b") (codes "x") 0
    ∷ message (codes "w") (codes "q") (codes "x") 0
    ∷ []

access_list : answers empty_world access_list-script
    ≡ (ok [] 0
    ∷ ok [] 0
    ∷ ok [] 0
    ∷ ok [] 0
    ∷ ok [] 0
    ∷ ok [] 0
    ∷ ok [] 0
    ∷ ok [] 0
    ∷ ok [] 0
    ∷ ok [] 0
    ∷ ok (record { client = (codes "b"); topic = (codes "b/x"); payload = (codes "x"); qos = 0; retain = false; expiry = None; identifiers = []; group = None } ∷ []) 0
    ∷ ok (record { client = (codes "n"); topic = (codes "a/b"); payload = (codes "x"); qos = 0; retain = false; expiry = None; identifiers = []; group = None } ∷ []) 0
    ∷ ok (record { client = (codes "b"); topic = (codes "a/c"); payload = (codes "x"); qos = 0; retain = false; expiry = None; identifiers = []; group = None } ∷ record { client = (codes "n"); topic = (codes "a/c"); payload = (codes "x"); qos = 0; retain = false; expiry = None; identifiers = []; group = None } ∷ []) 0
    ∷ ok [] 16
    ∷ Err NotAuthorized
    ∷ Err NotAuthorized
    ∷ [])
unfolding fresh_world refusal answer after next with_row allowed unshared_copies groups_of served_rows
    retained_after retained_copies resumed_copies begins_to_wait filters_of counts
access_list = refl

abbrev away_session-script : List Request
away_session-script =
    Connect (codes "a") None true 100
    ∷ connect (codes "p") None
    ∷ Subscribe (codes "a") (codes "t") (record { qos = 1; no_local = false; retain_as_published = false; handling = 0; identifier = (Some 4) })
    ∷ subscribe (codes "a") (codes "$share/g/t") 0
    ∷ Disconnect (codes "a")
    ∷ publish (codes "p") (codes "t") (codes "m1") 1 false (Some 60)
    ∷ message (codes "p") (codes "t") (codes "m0") 0
    ∷ message (codes "p") (codes "t") (codes "m2") 2
    ∷ publish (codes "p") (codes "t") (codes "m3") 1 false (Some 5)
    ∷ Advance 20
    ∷ Connect (codes "a") None false 0
    ∷ message (codes "p") (codes "t") (codes "x") 0
    ∷ Disconnect (codes "a")
    ∷ message (codes "p") (codes "t") (codes "x") 1
    ∷ Connect (codes "a") None true 10
    ∷ subscribe (codes "a") (codes "t") 1
    ∷ Disconnect (codes "a")
    ∷ Advance 9
    ∷ message (codes "p") (codes "t") (codes "x") 1
    ∷ message (codes "a") (codes "t") (codes "x") 0
    ∷ Advance 1
    ∷ Connect (codes "a") None false 0
    ∷ Stat
    ∷ []

away_session : answers empty_world away_session-script
    ≡ (ok [] 0
    ∷ ok [] 0
    ∷ ok [] 1
    ∷ ok [] 0
    ∷ ok [] 0
    ∷ ok [] 0
    ∷ ok [] 16
    ∷ ok [] 0
    ∷ ok [] 0
    ∷ ok [] 0
    ∷ ok (record { client = (codes "a"); topic = (codes "t"); payload = (codes "m1"); qos = 1; retain = false; expiry = (Some 40); identifiers = (4 ∷ []); group = None } ∷ record { client = (codes "a"); topic = (codes "t"); payload = (codes "m2"); qos = 1; retain = false; expiry = None; identifiers = (4 ∷ []); group = None } ∷ []) 0
    ∷ ok (record { client = (codes "a"); topic = (codes "t"); payload = (codes "x"); qos = 0; retain = false; expiry = None; identifiers = (4 ∷ []); group = None } ∷ record { client = (codes "a"); topic = (codes "t"); payload = (codes "x"); qos = 0; retain = false; expiry = None; identifiers = []; group = group (codes "g") (codes "t") } ∷ []) 0
    ∷ ok [] 0
    ∷ ok [] 16
    ∷ ok [] 0
    ∷ ok [] 1
    ∷ ok [] 0
    ∷ ok [] 0
    ∷ ok [] 0
    ∷ Err NotConnected
    ∷ ok [] 0
    ∷ ok [] 0
    ∷ counted_reply 0 0 0
    ∷ [])
unfolding fresh_world refusal answer after next with_row allowed unshared_copies groups_of served_rows
    retained_after retained_copies resumed_copies begins_to_wait filters_of counts
away_session = refl

abbrev clock_limit-script : List Request
clock_limit-script =
    Advance 1000000000000
    ∷ Advance 1
    ∷ Advance 0
    ∷ Advance 18446744073709551615
    ∷ []

clock_limit : answers empty_world clock_limit-script
    ≡ (ok [] 0
    ∷ Err ClockTooFar
    ∷ ok [] 0
    ∷ Err ClockTooFar
    ∷ [])
unfolding fresh_world refusal answer after next with_row allowed unshared_copies groups_of served_rows
    retained_after retained_copies resumed_copies begins_to_wait filters_of counts
clock_limit = refl

-- the steps of line 2
clock_limit-steps : counted_at (1 ∷ []) empty_world clock_limit-script ≡ (0 ∷ [])
unfolding fresh_world refusal answer after next with_row allowed groups_of served_rows retained_after
    filters_of steps
clock_limit-steps = refl

abbrev dollar_names-script : List Request
dollar_names-script =
    connect (codes "a") None
    ∷ subscribe (codes "a") (codes "#") 0
    ∷ subscribe (codes "a") (codes "+/x") 0
    ∷ message (codes "a") (codes "$SYS/x") (codes "x") 0
    ∷ Subscribe (codes "a") (codes "$SYS/+") (record { qos = 0; no_local = false; retain_as_published = false; handling = 0; identifier = (Some 3) })
    ∷ message (codes "a") (codes "$SYS/x") (codes "x") 0
    ∷ connect (codes "b") None
    ∷ subscribe (codes "b") (codes "a/+") 0
    ∷ message (codes "b") (codes "a/$x") (codes "x") 0
    ∷ []

dollar_names : answers empty_world dollar_names-script
    ≡ (ok [] 0
    ∷ ok [] 0
    ∷ ok [] 0
    ∷ ok [] 16
    ∷ ok [] 0
    ∷ ok (record { client = (codes "a"); topic = (codes "$SYS/x"); payload = (codes "x"); qos = 0; retain = false; expiry = None; identifiers = (3 ∷ []); group = None } ∷ []) 0
    ∷ ok [] 0
    ∷ ok [] 0
    ∷ ok (record { client = (codes "a"); topic = (codes "a/$x"); payload = (codes "x"); qos = 0; retain = false; expiry = None; identifiers = []; group = None } ∷ record { client = (codes "b"); topic = (codes "a/$x"); payload = (codes "x"); qos = 0; retain = false; expiry = None; identifiers = []; group = None } ∷ []) 0
    ∷ [])
unfolding fresh_world refusal answer after next with_row allowed unshared_copies groups_of served_rows
    retained_after retained_copies resumed_copies begins_to_wait filters_of counts
dollar_names = refl

abbrev expiry_replaced-script : List Request
expiry_replaced-script =
    connect (codes "a") None
    ∷ publish (codes "a") (codes "t") (codes "x") 0 true (Some 10)
    ∷ publish (codes "a") (codes "t") (codes "new") 0 true (Some 30)
    ∷ Advance 10
    ∷ subscribe (codes "a") (codes "t") 0
    ∷ publish (codes "a") (codes "u") (codes "x") 0 true (Some 20)
    ∷ publish (codes "a") (codes "v") (codes "x") 0 true None
    ∷ Advance 20
    ∷ subscribe (codes "a") (codes "#") 0
    ∷ Advance 999999999970
    ∷ publish (codes "a") (codes "w") (codes "x") 0 true (Some 1)
    ∷ Advance 1
    ∷ subscribe (codes "a") (codes "w") 0
    ∷ []

expiry_replaced : answers empty_world expiry_replaced-script
    ≡ (ok [] 0
    ∷ ok [] 16
    ∷ ok [] 16
    ∷ ok [] 0
    ∷ ok (record { client = (codes "a"); topic = (codes "t"); payload = (codes "new"); qos = 0; retain = true; expiry = (Some 20); identifiers = []; group = None } ∷ []) 0
    ∷ ok [] 16
    ∷ ok [] 16
    ∷ ok [] 0
    ∷ ok (record { client = (codes "a"); topic = (codes "v"); payload = (codes "x"); qos = 0; retain = true; expiry = None; identifiers = []; group = None } ∷ []) 0
    ∷ ok [] 0
    ∷ ok (record { client = (codes "a"); topic = (codes "w"); payload = (codes "x"); qos = 0; retain = false; expiry = (Some 1); identifiers = []; group = None } ∷ []) 0
    ∷ Err ClockTooFar
    ∷ ok (record { client = (codes "a"); topic = (codes "w"); payload = (codes "x"); qos = 0; retain = true; expiry = (Some 1); identifiers = []; group = None } ∷ []) 0
    ∷ [])
unfolding fresh_world refusal answer after next with_row allowed unshared_copies groups_of served_rows
    retained_after retained_copies resumed_copies begins_to_wait filters_of counts
expiry_replaced = refl

abbrev first_look-script : List Request
first_look-script =
    connect (codes "a") None
    ∷ subscribe (codes "a") (codes "a/#") 1
    ∷ message (codes "a") (codes "a") (codes "x") 2
    ∷ message (codes "a") (codes "a/") (codes "y") 0
    ∷ message (codes "a") (codes "a/b/c") [] 0
    ∷ message (codes "a") (codes "b") (codes "z") 0
    ∷ []

first_look : answers empty_world first_look-script
    ≡ (ok [] 0
    ∷ ok [] 1
    ∷ ok (record { client = (codes "a"); topic = (codes "a"); payload = (codes "x"); qos = 1; retain = false; expiry = None; identifiers = []; group = None } ∷ []) 0
    ∷ ok (record { client = (codes "a"); topic = (codes "a/"); payload = (codes "y"); qos = 0; retain = false; expiry = None; identifiers = []; group = None } ∷ []) 0
    ∷ ok (record { client = (codes "a"); topic = (codes "a/b/c"); payload = []; qos = 0; retain = false; expiry = None; identifiers = []; group = None } ∷ []) 0
    ∷ ok [] 16
    ∷ [])
unfolding fresh_world refusal answer after next with_row allowed unshared_copies groups_of served_rows
    retained_after retained_copies resumed_copies begins_to_wait filters_of counts
first_look = refl

abbrev first_path-script : List Request
first_path-script =
    connect (codes "a") None
    ∷ connect (codes "b") None
    ∷ subscribe (codes "a") (codes "a/+") 2
    ∷ subscribe (codes "a") (codes "#") 0
    ∷ subscribe (codes "b") (codes "a/b") 1
    ∷ message (codes "b") (codes "a/b") (codes "x") 1
    ∷ subscribe (codes "a") (codes "a/+") 0
    ∷ message (codes "b") (codes "a/b") (codes "x") 1
    ∷ connect (codes "a") None
    ∷ message (codes "b") (codes "a/b") (codes "x") 0
    ∷ message (codes "c") (codes "t") (codes "x") 0
    ∷ message (codes "b") (codes "a/+") (codes "x") 0
    ∷ subscribe (codes "b") (codes "sport+") 0
    ∷ connect [] None
    ∷ []

first_path : answers empty_world first_path-script
    ≡ (ok [] 0
    ∷ ok [] 0
    ∷ ok [] 2
    ∷ ok [] 0
    ∷ ok [] 1
    ∷ ok (record { client = (codes "a"); topic = (codes "a/b"); payload = (codes "x"); qos = 1; retain = false; expiry = None; identifiers = []; group = None } ∷ record { client = (codes "b"); topic = (codes "a/b"); payload = (codes "x"); qos = 1; retain = false; expiry = None; identifiers = []; group = None } ∷ []) 0
    ∷ ok [] 0
    ∷ ok (record { client = (codes "a"); topic = (codes "a/b"); payload = (codes "x"); qos = 0; retain = false; expiry = None; identifiers = []; group = None } ∷ record { client = (codes "b"); topic = (codes "a/b"); payload = (codes "x"); qos = 1; retain = false; expiry = None; identifiers = []; group = None } ∷ []) 0
    ∷ ok [] 0
    ∷ ok (record { client = (codes "b"); topic = (codes "a/b"); payload = (codes "x"); qos = 0; retain = false; expiry = None; identifiers = []; group = None } ∷ []) 0
    ∷ Err NotConnected
    ∷ Err TopicName
    ∷ Err TopicFilter
    ∷ Err ClientId
    ∷ [])
unfolding fresh_world refusal answer after next with_row allowed unshared_copies groups_of served_rows
    retained_after retained_copies resumed_copies begins_to_wait filters_of counts
first_path = refl

abbrev group_and_access-script : List Request
group_and_access-script =
    SetAcl (Some (112 ∷ 97 ∷ 116 ∷ 116 ∷ 101 ∷ 114 ∷ 110 ∷ 32 ∷ 119 ∷ 114 ∷ 105 ∷ 116 ∷ 101 ∷ 32 ∷ 116 ∷ 10 ∷ 117 ∷ 115 ∷ 101 ∷ 114 ∷ 32 ∷ 117 ∷ 97 ∷ 10 ∷ 116 ∷ 111 ∷ 112 ∷ 105 ∷ 99 ∷ 32 ∷ 114 ∷ 101 ∷ 97 ∷ 100 ∷ 32 ∷ 116 ∷ []))
    ∷ connect (codes "a") (Some (codes "ua"))
    ∷ connect (codes "b") (Some (codes "ub"))
    ∷ connect (codes "p") None
    ∷ subscribe (codes "b") (codes "$share/g/t") 0
    ∷ subscribe (codes "a") (codes "$share/g/t") 0
    ∷ message (codes "p") (codes "t") (codes "x") 0
    ∷ message (codes "p") (codes "t") (codes "x") 0
    ∷ SetAcl (Some (codes "pattern write t"))
    ∷ message (codes "p") (codes "t") (codes "x") 0
    ∷ SetAcl (Some (codes "pattern readwrite t"))
    ∷ message (codes "p") (codes "t") (codes "x") 0
    ∷ message (codes "p") (codes "t") (codes "x") 0
    ∷ SetAcl (Some (codes "pattern read t"))
    ∷ message (codes "p") (codes "t") (codes "x") 0
    ∷ SetAcl None
    ∷ message (codes "p") (codes "t") (codes "x") 0
    ∷ []

group_and_access : answers empty_world group_and_access-script
    ≡ (ok [] 0
    ∷ ok [] 0
    ∷ ok [] 0
    ∷ ok [] 0
    ∷ ok [] 0
    ∷ ok [] 0
    ∷ ok (record { client = (codes "a"); topic = (codes "t"); payload = (codes "x"); qos = 0; retain = false; expiry = None; identifiers = []; group = group (codes "g") (codes "t") } ∷ []) 0
    ∷ ok (record { client = (codes "a"); topic = (codes "t"); payload = (codes "x"); qos = 0; retain = false; expiry = None; identifiers = []; group = group (codes "g") (codes "t") } ∷ []) 0
    ∷ ok [] 0
    ∷ ok [] 16
    ∷ ok [] 0
    ∷ ok (record { client = (codes "b"); topic = (codes "t"); payload = (codes "x"); qos = 0; retain = false; expiry = None; identifiers = []; group = group (codes "g") (codes "t") } ∷ []) 0
    ∷ ok (record { client = (codes "a"); topic = (codes "t"); payload = (codes "x"); qos = 0; retain = false; expiry = None; identifiers = []; group = group (codes "g") (codes "t") } ∷ []) 0
    ∷ ok [] 0
    ∷ Err NotAuthorized
    ∷ ok [] 0
    ∷ ok (record { client = (codes "b"); topic = (codes "t"); payload = (codes "x"); qos = 0; retain = false; expiry = None; identifiers = []; group = group (codes "g") (codes "t") } ∷ []) 0
    ∷ [])
unfolding fresh_world refusal answer after next with_row allowed unshared_copies groups_of served_rows
    retained_after retained_copies resumed_copies begins_to_wait filters_of counts
group_and_access = refl

abbrev group_turns-script : List Request
group_turns-script =
    connect (codes "a") None
    ∷ connect (codes "b") None
    ∷ connect (codes "c") None
    ∷ connect (codes "p") None
    ∷ subscribe (codes "a") (codes "$share/g/t") 0
    ∷ subscribe (codes "b") (codes "$share/g/t") 0
    ∷ subscribe (codes "c") (codes "$share/g/t") 0
    ∷ message (codes "p") (codes "t") (codes "x") 0
    ∷ message (codes "p") (codes "t") (codes "x") 0
    ∷ subscribe (codes "c") (codes "$share/g/t") 1
    ∷ message (codes "p") (codes "t") (codes "x") 1
    ∷ Unsubscribe (codes "a") (codes "$share/g/t")
    ∷ subscribe (codes "a") (codes "$share/g/t") 0
    ∷ message (codes "p") (codes "t") (codes "x") 1
    ∷ message (codes "p") (codes "t") (codes "x") 0
    ∷ message (codes "p") (codes "t") (codes "x") 0
    ∷ Disconnect (codes "b")
    ∷ message (codes "p") (codes "t") (codes "x") 0
    ∷ []

group_turns : answers empty_world group_turns-script
    ≡ (ok [] 0
    ∷ ok [] 0
    ∷ ok [] 0
    ∷ ok [] 0
    ∷ ok [] 0
    ∷ ok [] 0
    ∷ ok [] 0
    ∷ ok (record { client = (codes "a"); topic = (codes "t"); payload = (codes "x"); qos = 0; retain = false; expiry = None; identifiers = []; group = group (codes "g") (codes "t") } ∷ []) 0
    ∷ ok (record { client = (codes "b"); topic = (codes "t"); payload = (codes "x"); qos = 0; retain = false; expiry = None; identifiers = []; group = group (codes "g") (codes "t") } ∷ []) 0
    ∷ ok [] 1
    ∷ ok (record { client = (codes "c"); topic = (codes "t"); payload = (codes "x"); qos = 1; retain = false; expiry = None; identifiers = []; group = group (codes "g") (codes "t") } ∷ []) 0
    ∷ ok [] 0
    ∷ ok [] 0
    ∷ ok (record { client = (codes "b"); topic = (codes "t"); payload = (codes "x"); qos = 0; retain = false; expiry = None; identifiers = []; group = group (codes "g") (codes "t") } ∷ []) 0
    ∷ ok (record { client = (codes "c"); topic = (codes "t"); payload = (codes "x"); qos = 0; retain = false; expiry = None; identifiers = []; group = group (codes "g") (codes "t") } ∷ []) 0
    ∷ ok (record { client = (codes "a"); topic = (codes "t"); payload = (codes "x"); qos = 0; retain = false; expiry = None; identifiers = []; group = group (codes "g") (codes "t") } ∷ []) 0
    ∷ ok [] 0
    ∷ ok (record { client = (codes "c"); topic = (codes "t"); payload = (codes "x"); qos = 0; retain = false; expiry = None; identifiers = []; group = group (codes "g") (codes "t") } ∷ []) 0
    ∷ [])
unfolding fresh_world refusal answer after next with_row allowed unshared_copies groups_of served_rows
    retained_after retained_copies resumed_copies begins_to_wait filters_of counts
group_turns = refl

abbrev leaving-script : List Request
leaving-script =
    connect (codes "a") None
    ∷ Subscribe (codes "a") (codes "t") (record { qos = 0; no_local = false; retain_as_published = false; handling = 0; identifier = (Some 5) })
    ∷ subscribe (codes "a") (codes "t") 0
    ∷ message (codes "a") (codes "t") (codes "x") 0
    ∷ Unsubscribe (codes "a") (codes "t")
    ∷ Unsubscribe (codes "a") (codes "t")
    ∷ message (codes "a") (codes "t") (codes "x") 0
    ∷ Unsubscribe (codes "a") (codes "t#")
    ∷ Disconnect []
    ∷ []

leaving : answers empty_world leaving-script
    ≡ (ok [] 0
    ∷ ok [] 0
    ∷ ok [] 0
    ∷ ok (record { client = (codes "a"); topic = (codes "t"); payload = (codes "x"); qos = 0; retain = false; expiry = None; identifiers = []; group = None } ∷ []) 0
    ∷ ok [] 0
    ∷ ok [] 17
    ∷ ok [] 16
    ∷ Err TopicFilter
    ∷ Err ClientId
    ∷ [])
unfolding fresh_world refusal answer after next with_row allowed unshared_copies groups_of served_rows
    retained_after retained_copies resumed_copies begins_to_wait filters_of counts
leaving = refl

abbrev limits-script : List Request
limits-script =
    Connect (codes "a") None true 100
    ∷ connect (codes "p") None
    ∷ publish (codes "p") (codes "t") (codes "x") 0 true None
    ∷ publish (codes "p") (codes "u") (codes "x") 0 true None
    ∷ publish (codes "p") (codes "t") (codes "y") 0 true None
    ∷ publish (codes "p") (codes "u") (codes "x") 0 true (Some 0)
    ∷ publish (codes "p") (codes "u") [] 0 true None
    ∷ publish (codes "p") (codes "t") [] 0 true None
    ∷ publish (codes "p") (codes "u") (codes "x") 0 true (Some 5)
    ∷ publish (codes "p") (codes "t") (codes "x") 0 true None
    ∷ Advance 5
    ∷ publish (codes "p") (codes "t") (codes "x") 0 true None
    ∷ subscribe (codes "a") (codes "v") 1
    ∷ Disconnect (codes "a")
    ∷ message (codes "p") (codes "v") (codes "x") 1
    ∷ message (codes "p") (codes "v") (codes "x") 1
    ∷ Connect (codes "a") None false 0
    ∷ SetAcl (Some [])
    ∷ publish (codes "p") (codes "w") (codes "x") 0 true None
    ∷ []

limits : answers (within (record { retained = (Some 1); queued = 1 }) empty_world) limits-script
    ≡ (ok [] 0
    ∷ ok [] 0
    ∷ ok [] 16
    ∷ Err RetainedFull
    ∷ ok [] 16
    ∷ ok [] 16
    ∷ ok [] 16
    ∷ ok [] 16
    ∷ ok [] 16
    ∷ Err RetainedFull
    ∷ ok [] 0
    ∷ ok [] 16
    ∷ ok [] 1
    ∷ ok [] 0
    ∷ ok [] 0
    ∷ ok [] 16
    ∷ ok (record { client = (codes "a"); topic = (codes "v"); payload = (codes "x"); qos = 1; retain = false; expiry = None; identifiers = []; group = None } ∷ []) 0
    ∷ ok [] 0
    ∷ Err NotAuthorized
    ∷ [])
unfolding fresh_world refusal answer after next with_row allowed unshared_copies groups_of served_rows
    retained_after retained_copies resumed_copies begins_to_wait filters_of counts
limits = refl

abbrev memory_refused-script : List Request
memory_refused-script =
    connect (codes "a") None
    ∷ Subscribe (codes "a") (codes "t") (record { qos = 0; no_local = false; retain_as_published = false; handling = 0; identifier = (Some 1) })
    ∷ subscribe (codes "a") (codes "$share/g/+") 0
    ∷ connect (codes "b") None
    ∷ subscribe (codes "b") (codes "$share/g/+") 0
    ∷ publish (codes "a") (codes "t") (codes "old") 0 true (Some 10)
    ∷ publish (codes "a") (codes "t") (codes "new") 0 true (Some 10)
    ∷ publish (codes "a") (codes "u") (codes "x") 0 true None
    ∷ subscribe (codes "b") (codes "#") 0
    ∷ SetAcl (Some (codes "topic read t"))
    ∷ Unsubscribe (codes "a") (codes "t")
    ∷ Advance 10
    ∷ Stat
    ∷ []

memory_refused : answers empty_world memory_refused-script
    ≡ (ok [] 0
    ∷ ok [] 0
    ∷ ok [] 0
    ∷ ok [] 0
    ∷ ok [] 0
    ∷ ok (record { client = (codes "a"); topic = (codes "t"); payload = (codes "old"); qos = 0; retain = false; expiry = (Some 10); identifiers = (1 ∷ []); group = None } ∷ record { client = (codes "a"); topic = (codes "t"); payload = (codes "old"); qos = 0; retain = false; expiry = (Some 10); identifiers = []; group = group (codes "g") (codes "+") } ∷ []) 0
    ∷ ok (record { client = (codes "a"); topic = (codes "t"); payload = (codes "new"); qos = 0; retain = false; expiry = (Some 10); identifiers = (1 ∷ []); group = None } ∷ record { client = (codes "b"); topic = (codes "t"); payload = (codes "new"); qos = 0; retain = false; expiry = (Some 10); identifiers = []; group = group (codes "g") (codes "+") } ∷ []) 0
    ∷ ok (record { client = (codes "a"); topic = (codes "u"); payload = (codes "x"); qos = 0; retain = false; expiry = None; identifiers = []; group = group (codes "g") (codes "+") } ∷ []) 0
    ∷ ok (record { client = (codes "b"); topic = (codes "t"); payload = (codes "new"); qos = 0; retain = true; expiry = (Some 10); identifiers = []; group = None } ∷ record { client = (codes "b"); topic = (codes "u"); payload = (codes "x"); qos = 0; retain = true; expiry = None; identifiers = []; group = None } ∷ []) 0
    ∷ ok [] 0
    ∷ ok [] 0
    ∷ ok [] 0
    ∷ counted_reply 3 1 3
    ∷ [])
unfolding fresh_world refusal answer after next with_row allowed unshared_copies groups_of served_rows
    retained_after retained_copies resumed_copies begins_to_wait filters_of counts
memory_refused = refl

abbrev message_expiry-script : List Request
message_expiry-script =
    connect (codes "a") None
    ∷ publish (codes "a") (codes "t") (codes "x") 0 true (Some 60)
    ∷ Advance 20
    ∷ subscribe (codes "a") (codes "t") 0
    ∷ Advance 39
    ∷ subscribe (codes "a") (codes "t") 0
    ∷ Advance 1
    ∷ subscribe (codes "a") (codes "t") 0
    ∷ publish (codes "a") (codes "t") (codes "old") 0 true None
    ∷ publish (codes "a") (codes "t") (codes "new") 0 true (Some 0)
    ∷ subscribe (codes "a") (codes "t") 0
    ∷ publish (codes "a") (codes "t") (codes "k") 0 true None
    ∷ publish (codes "a") (codes "t") [] 0 true None
    ∷ subscribe (codes "a") (codes "t") 0
    ∷ []

message_expiry : answers empty_world message_expiry-script
    ≡ (ok [] 0
    ∷ ok [] 16
    ∷ ok [] 0
    ∷ ok (record { client = (codes "a"); topic = (codes "t"); payload = (codes "x"); qos = 0; retain = true; expiry = (Some 40); identifiers = []; group = None } ∷ []) 0
    ∷ ok [] 0
    ∷ ok (record { client = (codes "a"); topic = (codes "t"); payload = (codes "x"); qos = 0; retain = true; expiry = (Some 1); identifiers = []; group = None } ∷ []) 0
    ∷ ok [] 0
    ∷ ok [] 0
    ∷ ok (record { client = (codes "a"); topic = (codes "t"); payload = (codes "old"); qos = 0; retain = false; expiry = None; identifiers = []; group = None } ∷ []) 0
    ∷ ok (record { client = (codes "a"); topic = (codes "t"); payload = (codes "new"); qos = 0; retain = false; expiry = (Some 0); identifiers = []; group = None } ∷ []) 0
    ∷ ok [] 0
    ∷ ok (record { client = (codes "a"); topic = (codes "t"); payload = (codes "k"); qos = 0; retain = false; expiry = None; identifiers = []; group = None } ∷ []) 0
    ∷ ok (record { client = (codes "a"); topic = (codes "t"); payload = []; qos = 0; retain = false; expiry = None; identifiers = []; group = None } ∷ []) 0
    ∷ ok [] 0
    ∷ [])
unfolding fresh_world refusal answer after next with_row allowed unshared_copies groups_of served_rows
    retained_after retained_copies resumed_copies begins_to_wait filters_of counts
message_expiry = refl

-- the steps of lines 4, 5, 7, 8
message_expiry-steps : counted_at (3 ∷ 4 ∷ 6 ∷ 7 ∷ []) empty_world message_expiry-script ≡ (1 ∷ 0 ∷ 1 ∷ 0 ∷ [])
unfolding fresh_world refusal answer after next with_row allowed groups_of served_rows retained_after
    filters_of steps
message_expiry-steps = refl

abbrev no_local_first-script : List Request
no_local_first-script =
    connect (codes "a") None
    ∷ Subscribe (codes "a") (codes "t") (record { qos = 0; no_local = true; retain_as_published = false; handling = 0; identifier = (Some 4) })
    ∷ Subscribe (codes "a") (codes "#") (record { qos = 0; no_local = false; retain_as_published = false; handling = 0; identifier = (Some 6) })
    ∷ message (codes "a") (codes "t") (codes "x") 0
    ∷ connect (codes "b") None
    ∷ message (codes "b") (codes "t") (codes "x") 0
    ∷ []

no_local_first : answers empty_world no_local_first-script
    ≡ (ok [] 0
    ∷ ok [] 0
    ∷ ok [] 0
    ∷ ok (record { client = (codes "a"); topic = (codes "t"); payload = (codes "x"); qos = 0; retain = false; expiry = None; identifiers = (6 ∷ []); group = None } ∷ []) 0
    ∷ ok [] 0
    ∷ ok (record { client = (codes "a"); topic = (codes "t"); payload = (codes "x"); qos = 0; retain = false; expiry = None; identifiers = (4 ∷ 6 ∷ []); group = None } ∷ []) 0
    ∷ [])
unfolding fresh_world refusal answer after next with_row allowed unshared_copies groups_of served_rows
    retained_after retained_copies resumed_copies begins_to_wait filters_of counts
no_local_first = refl

abbrev no_local-script : List Request
no_local-script =
    connect (codes "a") None
    ∷ Subscribe (codes "a") (codes "t") (record { qos = 0; no_local = true; retain_as_published = false; handling = 0; identifier = (Some 4) })
    ∷ Subscribe (codes "a") (codes "#") (record { qos = 0; no_local = false; retain_as_published = false; handling = 0; identifier = (Some 6) })
    ∷ message (codes "a") (codes "t") (codes "x") 0
    ∷ connect (codes "b") None
    ∷ message (codes "b") (codes "t") (codes "x") 0
    ∷ publish (codes "a") (codes "t") (codes "x") 0 true None
    ∷ Subscribe (codes "a") (codes "t") (record { qos = 0; no_local = true; retain_as_published = false; handling = 0; identifier = (Some 4) })
    ∷ []

no_local : answers empty_world no_local-script
    ≡ (ok [] 0
    ∷ ok [] 0
    ∷ ok [] 0
    ∷ ok (record { client = (codes "a"); topic = (codes "t"); payload = (codes "x"); qos = 0; retain = false; expiry = None; identifiers = (6 ∷ []); group = None } ∷ []) 0
    ∷ ok [] 0
    ∷ ok (record { client = (codes "a"); topic = (codes "t"); payload = (codes "x"); qos = 0; retain = false; expiry = None; identifiers = (4 ∷ 6 ∷ []); group = None } ∷ []) 0
    ∷ ok (record { client = (codes "a"); topic = (codes "t"); payload = (codes "x"); qos = 0; retain = false; expiry = None; identifiers = (6 ∷ []); group = None } ∷ []) 0
    ∷ ok [] 0
    ∷ [])
unfolding fresh_world refusal answer after next with_row allowed unshared_copies groups_of served_rows
    retained_after retained_copies resumed_copies begins_to_wait filters_of counts
no_local = refl

abbrev order_of_groups-script : List Request
order_of_groups-script =
    connect (codes "a") None
    ∷ Subscribe (codes "a") (codes "t") (record { qos = 0; no_local = false; retain_as_published = false; handling = 0; identifier = (Some 1) })
    ∷ Subscribe (codes "a") (codes "$share/g/t") (record { qos = 0; no_local = false; retain_as_published = false; handling = 0; identifier = (Some 2) })
    ∷ subscribe (codes "a") (codes "$share/g/#") 0
    ∷ Subscribe (codes "a") (codes "$share/f/+") (record { qos = 0; no_local = false; retain_as_published = true; handling = 0; identifier = None })
    ∷ publish (codes "a") (codes "t") (codes "x") 0 true None
    ∷ []

order_of_groups : answers empty_world order_of_groups-script
    ≡ (ok [] 0
    ∷ ok [] 0
    ∷ ok [] 0
    ∷ ok [] 0
    ∷ ok [] 0
    ∷ ok (record { client = (codes "a"); topic = (codes "t"); payload = (codes "x"); qos = 0; retain = false; expiry = None; identifiers = (1 ∷ []); group = None } ∷ record { client = (codes "a"); topic = (codes "t"); payload = (codes "x"); qos = 0; retain = true; expiry = None; identifiers = []; group = group (codes "f") (codes "+") } ∷ record { client = (codes "a"); topic = (codes "t"); payload = (codes "x"); qos = 0; retain = false; expiry = None; identifiers = []; group = group (codes "g") (codes "#") } ∷ record { client = (codes "a"); topic = (codes "t"); payload = (codes "x"); qos = 0; retain = false; expiry = None; identifiers = (2 ∷ []); group = group (codes "g") (codes "t") } ∷ []) 0
    ∷ [])
unfolding fresh_world refusal answer after next with_row allowed unshared_copies groups_of served_rows
    retained_after retained_copies resumed_copies begins_to_wait filters_of counts
order_of_groups = refl

-- the steps of line 6
order_of_groups-steps : counted_at (5 ∷ []) empty_world order_of_groups-script ≡ (3 ∷ [])
unfolding fresh_world refusal answer after next with_row allowed groups_of served_rows retained_after
    filters_of steps
order_of_groups-steps = refl

abbrev overlapping_identifiers_first-script : List Request
overlapping_identifiers_first-script =
    connect (codes "a") None
    ∷ Subscribe (codes "a") (codes "a/+") (record { qos = 0; no_local = false; retain_as_published = false; handling = 0; identifier = (Some 7) })
    ∷ Subscribe (codes "a") (codes "a/#") (record { qos = 2; no_local = false; retain_as_published = false; handling = 0; identifier = (Some 7) })
    ∷ subscribe (codes "a") (codes "#") 1
    ∷ message (codes "a") (codes "a/b") (codes "x") 1
    ∷ []

overlapping_identifiers_first : answers empty_world overlapping_identifiers_first-script
    ≡ (ok [] 0
    ∷ ok [] 0
    ∷ ok [] 2
    ∷ ok [] 1
    ∷ ok (record { client = (codes "a"); topic = (codes "a/b"); payload = (codes "x"); qos = 1; retain = false; expiry = None; identifiers = (7 ∷ 7 ∷ []); group = None } ∷ []) 0
    ∷ [])
unfolding fresh_world refusal answer after next with_row allowed unshared_copies groups_of served_rows
    retained_after retained_copies resumed_copies begins_to_wait filters_of counts
overlapping_identifiers_first = refl

abbrev overlapping_identifiers-script : List Request
overlapping_identifiers-script =
    connect (codes "a") None
    ∷ Subscribe (codes "a") (codes "a/+") (record { qos = 0; no_local = false; retain_as_published = false; handling = 0; identifier = (Some 7) })
    ∷ Subscribe (codes "a") (codes "a/#") (record { qos = 2; no_local = false; retain_as_published = false; handling = 0; identifier = (Some 7) })
    ∷ subscribe (codes "a") (codes "#") 1
    ∷ message (codes "a") (codes "a/b") (codes "x") 1
    ∷ Subscribe (codes "a") (codes "#") (record { qos = 1; no_local = false; retain_as_published = true; handling = 0; identifier = None })
    ∷ publish (codes "a") (codes "a/b") (codes "x") 0 true None
    ∷ []

overlapping_identifiers : answers empty_world overlapping_identifiers-script
    ≡ (ok [] 0
    ∷ ok [] 0
    ∷ ok [] 2
    ∷ ok [] 1
    ∷ ok (record { client = (codes "a"); topic = (codes "a/b"); payload = (codes "x"); qos = 1; retain = false; expiry = None; identifiers = (7 ∷ 7 ∷ []); group = None } ∷ []) 0
    ∷ ok [] 1
    ∷ ok (record { client = (codes "a"); topic = (codes "a/b"); payload = (codes "x"); qos = 0; retain = true; expiry = None; identifiers = (7 ∷ 7 ∷ []); group = None } ∷ []) 0
    ∷ [])
unfolding fresh_world refusal answer after next with_row allowed unshared_copies groups_of served_rows
    retained_after retained_copies resumed_copies begins_to_wait filters_of counts
overlapping_identifiers = refl

-- the steps of line 5
overlapping_identifiers-steps : counted_at (4 ∷ []) empty_world overlapping_identifiers-script ≡ (4 ∷ [])
unfolding fresh_world refusal answer after next with_row allowed groups_of served_rows retained_after
    filters_of steps
overlapping_identifiers-steps = refl

abbrev refusals-script : List Request
refusals-script =
    connect (codes "a") None
    ∷ subscribe (codes "a") (codes "$share//t") 0
    ∷ Subscribe (codes "a") (codes "$share/g/t") (record { qos = 0; no_local = true; retain_as_published = false; handling = 0; identifier = None })
    ∷ message (codes "a") (codes "a/+") (codes "x") 0
    ∷ message (codes "b") (codes "t") (codes "x") 0
    ∷ connect [] None
    ∷ connect (codes "a") (Some (0 ∷ []))
    ∷ message (codes "a") (codes "t") (codes "x") 0
    ∷ []

refusals : answers empty_world refusals-script
    ≡ (ok [] 0
    ∷ Err TopicFilter
    ∷ Err SharedNoLocal
    ∷ Err TopicName
    ∷ Err NotConnected
    ∷ Err ClientId
    ∷ Err UserName
    ∷ ok [] 16
    ∷ [])
unfolding fresh_world refusal answer after next with_row allowed unshared_copies groups_of served_rows
    retained_after retained_copies resumed_copies begins_to_wait filters_of counts
refusals = refl

-- the steps of line 3
refusals-steps : counted_at (2 ∷ []) empty_world refusals-script ≡ (0 ∷ [])
unfolding fresh_world refusal answer after next with_row allowed groups_of served_rows retained_after
    filters_of steps
refusals-steps = refl

abbrev refused_by_broker-script : List Request
refused_by_broker-script =
    connect (codes "a") None
    ∷ SetAcl (Some (116 ∷ 111 ∷ 112 ∷ 105 ∷ 99 ∷ 32 ∷ 114 ∷ 101 ∷ 97 ∷ 100 ∷ 119 ∷ 114 ∷ 105 ∷ 116 ∷ 101 ∷ 32 ∷ 36 ∷ 83 ∷ 89 ∷ 83 ∷ 47 ∷ 35 ∷ 10 ∷ 116 ∷ 111 ∷ 112 ∷ 105 ∷ 99 ∷ 32 ∷ 114 ∷ 101 ∷ 97 ∷ 100 ∷ 119 ∷ 114 ∷ 105 ∷ 116 ∷ 101 ∷ 32 ∷ 36 ∷ 83 ∷ 89 ∷ 83 ∷ 84 ∷ 69 ∷ 77 ∷ 10 ∷ 116 ∷ 111 ∷ 112 ∷ 105 ∷ 99 ∷ 32 ∷ 114 ∷ 101 ∷ 97 ∷ 100 ∷ 119 ∷ 114 ∷ 105 ∷ 116 ∷ 101 ∷ 32 ∷ 36 ∷ 115 ∷ 104 ∷ 97 ∷ 114 ∷ 101 ∷ 120 ∷ 10 ∷ 116 ∷ 111 ∷ 112 ∷ 105 ∷ 99 ∷ 32 ∷ 114 ∷ 101 ∷ 97 ∷ 100 ∷ 119 ∷ 114 ∷ 105 ∷ 116 ∷ 101 ∷ 32 ∷ 36 ∷ 115 ∷ 10 ∷ []))
    ∷ subscribe (codes "a") (codes "$SYS/#") 0
    ∷ subscribe (codes "a") (codes "$s") 0
    ∷ message (codes "a") (codes "$SYS/x") (codes "1") 0
    ∷ message (codes "a") (codes "$SYS/broker/connection/b/state") (codes "2") 0
    ∷ message (codes "a") (codes "$SYS/broker/connection/b/c/state") (codes "3") 0
    ∷ message (codes "a") (codes "$SYSTEM") (codes "4") 0
    ∷ message (codes "a") (codes "$sharex") (codes "5") 0
    ∷ message (codes "a") (codes "$s") (codes "6") 0
    ∷ SetAcl None
    ∷ publish (codes "a") (codes "$SYS/x") (codes "7") 0 true None
    ∷ publish (codes "a") (codes "$sharex") (codes "8") 0 true None
    ∷ SetAcl (Some (116 ∷ 111 ∷ 112 ∷ 105 ∷ 99 ∷ 32 ∷ 114 ∷ 101 ∷ 97 ∷ 100 ∷ 119 ∷ 114 ∷ 105 ∷ 116 ∷ 101 ∷ 32 ∷ 36 ∷ 83 ∷ 89 ∷ 83 ∷ 47 ∷ 35 ∷ 10 ∷ 116 ∷ 111 ∷ 112 ∷ 105 ∷ 99 ∷ 32 ∷ 114 ∷ 101 ∷ 97 ∷ 100 ∷ 119 ∷ 114 ∷ 105 ∷ 116 ∷ 101 ∷ 32 ∷ 36 ∷ 115 ∷ 104 ∷ 97 ∷ 114 ∷ 101 ∷ 120 ∷ 10 ∷ []))
    ∷ subscribe (codes "a") (codes "$SYS/x") 0
    ∷ subscribe (codes "a") (codes "$sharex") 0
    ∷ []

refused_by_broker : answers (ruled Mosquitto empty_world) refused_by_broker-script
    ≡ (ok [] 0
    ∷ ok [] 0
    ∷ ok [] 0
    ∷ ok [] 0
    ∷ Err NotAuthorized
    ∷ ok (record { client = (codes "a"); topic = (codes "$SYS/broker/connection/b/state"); payload = (codes "2"); qos = 0; retain = false; expiry = None; identifiers = []; group = None } ∷ []) 0
    ∷ Err NotAuthorized
    ∷ Err NotAuthorized
    ∷ Err NotAuthorized
    ∷ ok (record { client = (codes "a"); topic = (codes "$s"); payload = (codes "6"); qos = 0; retain = false; expiry = None; identifiers = []; group = None } ∷ []) 0
    ∷ ok [] 0
    ∷ ok (record { client = (codes "a"); topic = (codes "$SYS/x"); payload = (codes "7"); qos = 0; retain = false; expiry = None; identifiers = []; group = None } ∷ []) 0
    ∷ ok [] 16
    ∷ ok [] 0
    ∷ ok (record { client = (codes "a"); topic = (codes "$SYS/x"); payload = (codes "7"); qos = 0; retain = true; expiry = None; identifiers = []; group = None } ∷ []) 0
    ∷ ok [] 0
    ∷ [])
unfolding fresh_world refusal answer after next with_row allowed unshared_copies groups_of served_rows
    retained_after retained_copies resumed_copies begins_to_wait filters_of counts
    begins_own begins_shared is_refused state_filter
refused_by_broker = refl

abbrev retain_handling_unshared-script : List Request
retain_handling_unshared-script =
    connect (codes "a") None
    ∷ publish (codes "a") (codes "t") (codes "x") 0 true None
    ∷ subscribe (codes "a") (codes "t") 0
    ∷ subscribe (codes "a") (codes "t") 0
    ∷ Subscribe (codes "a") (codes "+") (record { qos = 0; no_local = false; retain_as_published = false; handling = 1; identifier = None })
    ∷ Subscribe (codes "a") (codes "+") (record { qos = 0; no_local = false; retain_as_published = false; handling = 1; identifier = None })
    ∷ Subscribe (codes "a") (codes "#") (record { qos = 0; no_local = false; retain_as_published = false; handling = 2; identifier = None })
    ∷ Subscribe (codes "a") (codes "#") (record { qos = 0; no_local = false; retain_as_published = false; handling = 2; identifier = None })
    ∷ Unsubscribe (codes "a") (codes "+")
    ∷ Subscribe (codes "a") (codes "+") (record { qos = 0; no_local = false; retain_as_published = false; handling = 1; identifier = None })
    ∷ Unsubscribe (codes "a") (codes "x")
    ∷ []

retain_handling_unshared : answers empty_world retain_handling_unshared-script
    ≡ (ok [] 0
    ∷ ok [] 16
    ∷ ok (record { client = (codes "a"); topic = (codes "t"); payload = (codes "x"); qos = 0; retain = true; expiry = None; identifiers = []; group = None } ∷ []) 0
    ∷ ok (record { client = (codes "a"); topic = (codes "t"); payload = (codes "x"); qos = 0; retain = true; expiry = None; identifiers = []; group = None } ∷ []) 0
    ∷ ok (record { client = (codes "a"); topic = (codes "t"); payload = (codes "x"); qos = 0; retain = true; expiry = None; identifiers = []; group = None } ∷ []) 0
    ∷ ok [] 0
    ∷ ok [] 0
    ∷ ok [] 0
    ∷ ok [] 0
    ∷ ok (record { client = (codes "a"); topic = (codes "t"); payload = (codes "x"); qos = 0; retain = true; expiry = None; identifiers = []; group = None } ∷ []) 0
    ∷ ok [] 17
    ∷ [])
unfolding fresh_world refusal answer after next with_row allowed unshared_copies groups_of served_rows
    retained_after retained_copies resumed_copies begins_to_wait filters_of counts
retain_handling_unshared = refl

abbrev retain_handling-script : List Request
retain_handling-script =
    connect (codes "a") None
    ∷ publish (codes "a") (codes "t") (codes "x") 0 true None
    ∷ subscribe (codes "a") (codes "t") 0
    ∷ subscribe (codes "a") (codes "t") 0
    ∷ Subscribe (codes "a") (codes "+") (record { qos = 0; no_local = false; retain_as_published = false; handling = 1; identifier = None })
    ∷ Subscribe (codes "a") (codes "+") (record { qos = 0; no_local = false; retain_as_published = false; handling = 1; identifier = None })
    ∷ Subscribe (codes "a") (codes "#") (record { qos = 0; no_local = false; retain_as_published = false; handling = 2; identifier = None })
    ∷ Subscribe (codes "a") (codes "#") (record { qos = 0; no_local = false; retain_as_published = false; handling = 2; identifier = None })
    ∷ subscribe (codes "a") (codes "$share/g/t") 0
    ∷ subscribe (codes "a") (codes "$share/g/t") 0
    ∷ Unsubscribe (codes "a") (codes "+")
    ∷ Subscribe (codes "a") (codes "+") (record { qos = 0; no_local = false; retain_as_published = false; handling = 1; identifier = None })
    ∷ Unsubscribe (codes "a") (codes "x")
    ∷ []

retain_handling : answers empty_world retain_handling-script
    ≡ (ok [] 0
    ∷ ok [] 16
    ∷ ok (record { client = (codes "a"); topic = (codes "t"); payload = (codes "x"); qos = 0; retain = true; expiry = None; identifiers = []; group = None } ∷ []) 0
    ∷ ok (record { client = (codes "a"); topic = (codes "t"); payload = (codes "x"); qos = 0; retain = true; expiry = None; identifiers = []; group = None } ∷ []) 0
    ∷ ok (record { client = (codes "a"); topic = (codes "t"); payload = (codes "x"); qos = 0; retain = true; expiry = None; identifiers = []; group = None } ∷ []) 0
    ∷ ok [] 0
    ∷ ok [] 0
    ∷ ok [] 0
    ∷ ok [] 0
    ∷ ok [] 0
    ∷ ok [] 0
    ∷ ok (record { client = (codes "a"); topic = (codes "t"); payload = (codes "x"); qos = 0; retain = true; expiry = None; identifiers = []; group = None } ∷ []) 0
    ∷ ok [] 17
    ∷ [])
unfolding fresh_world refusal answer after next with_row allowed unshared_copies groups_of served_rows
    retained_after retained_copies resumed_copies begins_to_wait filters_of counts
retain_handling = refl

-- the steps of lines 5, 6
retain_handling-steps : counted_at (4 ∷ 5 ∷ []) empty_world retain_handling-script ≡ (1 ∷ 0 ∷ [])
unfolding fresh_world refusal answer after next with_row allowed groups_of served_rows retained_after
    filters_of steps
retain_handling-steps = refl

abbrev retained_and_access-script : List Request
retained_and_access-script =
    SetAcl (Some (112 ∷ 97 ∷ 116 ∷ 116 ∷ 101 ∷ 114 ∷ 110 ∷ 32 ∷ 119 ∷ 114 ∷ 105 ∷ 116 ∷ 101 ∷ 32 ∷ 35 ∷ 10 ∷ 112 ∷ 97 ∷ 116 ∷ 116 ∷ 101 ∷ 114 ∷ 110 ∷ 32 ∷ 114 ∷ 101 ∷ 97 ∷ 100 ∷ 32 ∷ 97 ∷ 47 ∷ 35 ∷ []))
    ∷ connect (codes "a") None
    ∷ publish (codes "a") (codes "a/b") (codes "x") 2 true None
    ∷ publish (codes "a") (codes "b") (codes "x") 0 true None
    ∷ Subscribe (codes "a") (codes "#") (record { qos = 1; no_local = false; retain_as_published = false; handling = 0; identifier = (Some 8) })
    ∷ SetAcl (Some (codes "pattern write #"))
    ∷ subscribe (codes "a") (codes "a/#") 0
    ∷ SetAcl None
    ∷ subscribe (codes "a") (codes "a/#") 0
    ∷ publish (codes "a") (codes "a/b") [] 0 true None
    ∷ subscribe (codes "a") (codes "+/b") 0
    ∷ SetAcl (Some [])
    ∷ publish (codes "a") (codes "b") (codes "new") 0 true None
    ∷ SetAcl None
    ∷ subscribe (codes "a") (codes "b") 0
    ∷ []

retained_and_access : answers empty_world retained_and_access-script
    ≡ (ok [] 0
    ∷ ok [] 0
    ∷ ok [] 16
    ∷ ok [] 16
    ∷ ok (record { client = (codes "a"); topic = (codes "a/b"); payload = (codes "x"); qos = 1; retain = true; expiry = None; identifiers = (8 ∷ []); group = None } ∷ []) 1
    ∷ ok [] 0
    ∷ ok [] 0
    ∷ ok [] 0
    ∷ ok (record { client = (codes "a"); topic = (codes "a/b"); payload = (codes "x"); qos = 0; retain = true; expiry = None; identifiers = []; group = None } ∷ []) 0
    ∷ ok (record { client = (codes "a"); topic = (codes "a/b"); payload = []; qos = 0; retain = false; expiry = None; identifiers = (8 ∷ []); group = None } ∷ []) 0
    ∷ ok [] 0
    ∷ ok [] 0
    ∷ Err NotAuthorized
    ∷ ok [] 0
    ∷ ok (record { client = (codes "a"); topic = (codes "b"); payload = (codes "x"); qos = 0; retain = true; expiry = None; identifiers = []; group = None } ∷ []) 0
    ∷ [])
unfolding fresh_world refusal answer after next with_row allowed unshared_copies groups_of served_rows
    retained_after retained_copies resumed_copies begins_to_wait filters_of counts
retained_and_access = refl

abbrev retained_order-script : List Request
retained_order-script =
    connect (codes "a") None
    ∷ publish (codes "a") (codes "a b") (codes "x") 0 true None
    ∷ publish (codes "a") (codes "a/b") (codes "x") 0 true None
    ∷ publish (codes "a") (codes "a") (codes "x") 0 true None
    ∷ publish (codes "a") (codes "/a") (codes "x") 0 true None
    ∷ publish (codes "a") (codes "$x") (codes "x") 0 true None
    ∷ subscribe (codes "a") (codes "#") 0
    ∷ []

retained_order : answers empty_world retained_order-script
    ≡ (ok [] 0
    ∷ ok [] 16
    ∷ ok [] 16
    ∷ ok [] 16
    ∷ ok [] 16
    ∷ ok [] 16
    ∷ ok (record { client = (codes "a"); topic = (codes "/a"); payload = (codes "x"); qos = 0; retain = true; expiry = None; identifiers = []; group = None } ∷ record { client = (codes "a"); topic = (codes "a"); payload = (codes "x"); qos = 0; retain = true; expiry = None; identifiers = []; group = None } ∷ record { client = (codes "a"); topic = (codes "a/b"); payload = (codes "x"); qos = 0; retain = true; expiry = None; identifiers = []; group = None } ∷ record { client = (codes "a"); topic = (codes "a b"); payload = (codes "x"); qos = 0; retain = true; expiry = None; identifiers = []; group = None } ∷ []) 0
    ∷ [])
unfolding fresh_world refusal answer after next with_row allowed unshared_copies groups_of served_rows
    retained_after retained_copies resumed_copies begins_to_wait filters_of counts
retained_order = refl

-- the steps of line 7
retained_order-steps : counted_at (6 ∷ []) empty_world retained_order-script ≡ (5 ∷ [])
unfolding fresh_world refusal answer after next with_row allowed groups_of served_rows retained_after
    filters_of steps
retained_order-steps = refl

abbrev rules_of_mosquitto-script : List Request
rules_of_mosquitto-script =
    connect (codes "a/b") (Some (codes "u"))
    ∷ connect (codes "$r") None
    ∷ connect (codes "+") None
    ∷ subscribe (codes "$r") (codes "#") 0
    ∷ subscribe (codes "$r") (codes "$r/x") 0
    ∷ SetAcl (Some (112 ∷ 97 ∷ 116 ∷ 116 ∷ 101 ∷ 114 ∷ 110 ∷ 32 ∷ 114 ∷ 101 ∷ 97 ∷ 100 ∷ 32 ∷ 35 ∷ 10 ∷ 112 ∷ 97 ∷ 116 ∷ 116 ∷ 101 ∷ 114 ∷ 110 ∷ 32 ∷ 114 ∷ 101 ∷ 97 ∷ 100 ∷ 32 ∷ 36 ∷ 114 ∷ 47 ∷ 35 ∷ 10 ∷ 112 ∷ 97 ∷ 116 ∷ 116 ∷ 101 ∷ 114 ∷ 110 ∷ 32 ∷ 119 ∷ 114 ∷ 105 ∷ 116 ∷ 101 ∷ 32 ∷ 37 ∷ 99 ∷ 47 ∷ 120 ∷ 10 ∷ 112 ∷ 97 ∷ 116 ∷ 116 ∷ 101 ∷ 114 ∷ 110 ∷ 32 ∷ 119 ∷ 114 ∷ 105 ∷ 116 ∷ 101 ∷ 32 ∷ 115 ∷ 37 ∷ 117 ∷ 37 ∷ 99 ∷ 10 ∷ 112 ∷ 97 ∷ 116 ∷ 116 ∷ 101 ∷ 114 ∷ 110 ∷ 32 ∷ 100 ∷ 101 ∷ 110 ∷ 121 ∷ 32 ∷ 97 ∷ 47 ∷ 98 ∷ 47 ∷ 121 ∷ 10 ∷ 112 ∷ 97 ∷ 116 ∷ 116 ∷ 101 ∷ 114 ∷ 110 ∷ 32 ∷ 119 ∷ 114 ∷ 105 ∷ 116 ∷ 101 ∷ 32 ∷ 113 ∷ 10 ∷ 117 ∷ 115 ∷ 101 ∷ 114 ∷ 32 ∷ 117 ∷ 10 ∷ 116 ∷ 111 ∷ 112 ∷ 105 ∷ 99 ∷ 32 ∷ 119 ∷ 114 ∷ 105 ∷ 116 ∷ 101 ∷ 32 ∷ 97 ∷ 47 ∷ 98 ∷ 47 ∷ 121 ∷ 10 ∷ []))
    ∷ message (codes "a/b") (codes "a/b/x") (codes "1") 0
    ∷ message (codes "a/b") (codes "sua/b") (codes "2") 0
    ∷ message (codes "a/b") (codes "a/b/y") (codes "3") 0
    ∷ message (codes "$r") (codes "$r/x") (codes "4") 0
    ∷ message (codes "$r") (codes "s$r") (codes "5") 0
    ∷ message (codes "+") (codes "q") (codes "6") 0
    ∷ message (codes "$r") (codes "q") (codes "7") 0
    ∷ SetAcl (Some (116 ∷ 111 ∷ 112 ∷ 105 ∷ 99 ∷ 32 ∷ 114 ∷ 101 ∷ 97 ∷ 100 ∷ 9 ∷ 97 ∷ 10 ∷ 9 ∷ 116 ∷ 111 ∷ 112 ∷ 105 ∷ 99 ∷ 32 ∷ 97 ∷ 10 ∷ []))
    ∷ []

rules_of_mosquitto : answers (ruled Mosquitto empty_world) rules_of_mosquitto-script
    ≡ (ok [] 0
    ∷ ok [] 0
    ∷ ok [] 0
    ∷ ok [] 0
    ∷ ok [] 0
    ∷ ok [] 0
    ∷ ok (record { client = (codes "$r"); topic = (codes "a/b/x"); payload = (codes "1"); qos = 0; retain = false; expiry = None; identifiers = []; group = None } ∷ []) 0
    ∷ ok (record { client = (codes "$r"); topic = (codes "sua/b"); payload = (codes "2"); qos = 0; retain = false; expiry = None; identifiers = []; group = None } ∷ []) 0
    ∷ ok [] 16
    ∷ ok (record { client = (codes "$r"); topic = (codes "$r/x"); payload = (codes "4"); qos = 0; retain = false; expiry = None; identifiers = []; group = None } ∷ []) 0
    ∷ Err NotAuthorized
    ∷ Err NotAuthorized
    ∷ ok (record { client = (codes "$r"); topic = (codes "q"); payload = (codes "7"); qos = 0; retain = false; expiry = None; identifiers = []; group = None } ∷ []) 0
    ∷ Err (AclLine 2)
    ∷ [])
unfolding fresh_world refusal answer after next with_row allowed unshared_copies groups_of served_rows
    retained_after retained_copies resumed_copies begins_to_wait filters_of counts
    begins_own begins_shared is_refused state_filter
rules_of_mosquitto = refl

abbrev session_begun_anew-script : List Request
session_begun_anew-script =
    connect (codes "a") None
    ∷ subscribe (codes "a") (codes "t") 0
    ∷ connect (codes "a") None
    ∷ message (codes "a") (codes "t") (codes "x") 0
    ∷ Disconnect (codes "a")
    ∷ Disconnect (codes "a")
    ∷ Unsubscribe (codes "a") (codes "t")
    ∷ []

session_begun_anew : answers empty_world session_begun_anew-script
    ≡ (ok [] 0
    ∷ ok [] 0
    ∷ ok [] 0
    ∷ ok [] 16
    ∷ ok [] 0
    ∷ Err NotConnected
    ∷ Err NotConnected
    ∷ [])
unfolding fresh_world refusal answer after next with_row allowed unshared_copies groups_of served_rows
    retained_after retained_copies resumed_copies begins_to_wait filters_of counts
session_begun_anew = refl

abbrev session_taken_over-script : List Request
session_taken_over-script =
    Connect (codes "a") None true 4294967295
    ∷ subscribe (codes "a") (codes "t") 1
    ∷ Connect (codes "a") None false 5
    ∷ message (codes "a") (codes "t") (codes "x") 0
    ∷ Connect (codes "a") None false 0
    ∷ message (codes "a") (codes "t") (codes "x") 0
    ∷ Connect (codes "a") None false 0
    ∷ message (codes "a") (codes "t") (codes "x") 0
    ∷ []

session_taken_over : answers empty_world session_taken_over-script
    ≡ (ok [] 0
    ∷ ok [] 1
    ∷ ok [] 0
    ∷ ok (record { client = (codes "a"); topic = (codes "t"); payload = (codes "x"); qos = 0; retain = false; expiry = None; identifiers = []; group = None } ∷ []) 0
    ∷ ok [] 0
    ∷ ok (record { client = (codes "a"); topic = (codes "t"); payload = (codes "x"); qos = 0; retain = false; expiry = None; identifiers = []; group = None } ∷ []) 0
    ∷ ok [] 0
    ∷ ok [] 16
    ∷ [])
unfolding fresh_world refusal answer after next with_row allowed unshared_copies groups_of served_rows
    retained_after retained_copies resumed_copies begins_to_wait filters_of counts
session_taken_over = refl

abbrev single_level_wildcard-script : List Request
single_level_wildcard-script =
    connect (codes "a") None
    ∷ Subscribe (codes "a") (codes "+/+") (record { qos = 0; no_local = false; retain_as_published = false; handling = 0; identifier = (Some 2) })
    ∷ Subscribe (codes "a") (codes "/+") (record { qos = 0; no_local = false; retain_as_published = false; handling = 0; identifier = (Some 1) })
    ∷ Subscribe (codes "a") (codes "+") (record { qos = 0; no_local = false; retain_as_published = false; handling = 0; identifier = (Some 9) })
    ∷ message (codes "a") (codes "/finance") (codes "x") 0
    ∷ message (codes "a") (codes "finance") (codes "x") 0
    ∷ []

single_level_wildcard : answers empty_world single_level_wildcard-script
    ≡ (ok [] 0
    ∷ ok [] 0
    ∷ ok [] 0
    ∷ ok [] 0
    ∷ ok (record { client = (codes "a"); topic = (codes "/finance"); payload = (codes "x"); qos = 0; retain = false; expiry = None; identifiers = (1 ∷ 2 ∷ []); group = None } ∷ []) 0
    ∷ ok (record { client = (codes "a"); topic = (codes "finance"); payload = (codes "x"); qos = 0; retain = false; expiry = None; identifiers = (9 ∷ []); group = None } ∷ []) 0
    ∷ [])
unfolding fresh_world refusal answer after next with_row allowed unshared_copies groups_of served_rows
    retained_after retained_copies resumed_copies begins_to_wait filters_of counts
single_level_wildcard = refl

abbrev stat_counts-script : List Request
stat_counts-script =
    connect (codes "a") None
    ∷ subscribe (codes "a") (codes "a/b") 0
    ∷ subscribe (codes "a") (codes "a/c/#") 0
    ∷ subscribe (codes "a") (codes "a") 0
    ∷ subscribe (codes "a") (codes "$share/g/a/+") 0
    ∷ publish (codes "a") (codes "x/y") (codes "x") 0 true None
    ∷ Stat
    ∷ Unsubscribe (codes "a") (codes "a")
    ∷ Stat
    ∷ Unsubscribe (codes "a") (codes "$share/g/a/+")
    ∷ Unsubscribe (codes "a") (codes "a/c/#")
    ∷ Stat
    ∷ publish (codes "a") (codes "x/y") [] 0 true None
    ∷ Disconnect (codes "a")
    ∷ Stat
    ∷ []

stat_counts : answers empty_world stat_counts-script
    ≡ (ok [] 0
    ∷ ok [] 0
    ∷ ok [] 0
    ∷ ok [] 0
    ∷ ok [] 0
    ∷ ok [] 16
    ∷ counted_reply 7 1 4
    ∷ ok [] 0
    ∷ counted_reply 7 1 3
    ∷ ok [] 0
    ∷ ok [] 0
    ∷ counted_reply 4 1 1
    ∷ ok [] 16
    ∷ ok [] 0
    ∷ counted_reply 0 0 0
    ∷ [])
unfolding fresh_world refusal answer after next with_row allowed unshared_copies groups_of served_rows
    retained_after retained_copies resumed_copies begins_to_wait filters_of counts
stat_counts = refl

abbrev two_groups-script : List Request
two_groups-script =
    connect (codes "a") None
    ∷ connect (codes "b") None
    ∷ subscribe (codes "a") (codes "$share/g/t") 0
    ∷ subscribe (codes "b") (codes "$share/g/t") 0
    ∷ subscribe (codes "b") (codes "$share/g/+") 0
    ∷ subscribe (codes "a") (codes "$share/g/+") 0
    ∷ message (codes "a") (codes "t") (codes "x") 0
    ∷ message (codes "a") (codes "u") (codes "x") 0
    ∷ message (codes "a") (codes "t") (codes "x") 0
    ∷ connect (codes "a") None
    ∷ message (codes "b") (codes "t") (codes "x") 0
    ∷ subscribe (codes "a") (codes "$share/g/t") 0
    ∷ message (codes "b") (codes "t") (codes "x") 0
    ∷ message (codes "b") (codes "t") (codes "x") 0
    ∷ []

two_groups : answers empty_world two_groups-script
    ≡ (ok [] 0
    ∷ ok [] 0
    ∷ ok [] 0
    ∷ ok [] 0
    ∷ ok [] 0
    ∷ ok [] 0
    ∷ ok (record { client = (codes "b"); topic = (codes "t"); payload = (codes "x"); qos = 0; retain = false; expiry = None; identifiers = []; group = group (codes "g") (codes "+") } ∷ record { client = (codes "a"); topic = (codes "t"); payload = (codes "x"); qos = 0; retain = false; expiry = None; identifiers = []; group = group (codes "g") (codes "t") } ∷ []) 0
    ∷ ok (record { client = (codes "a"); topic = (codes "u"); payload = (codes "x"); qos = 0; retain = false; expiry = None; identifiers = []; group = group (codes "g") (codes "+") } ∷ []) 0
    ∷ ok (record { client = (codes "b"); topic = (codes "t"); payload = (codes "x"); qos = 0; retain = false; expiry = None; identifiers = []; group = group (codes "g") (codes "+") } ∷ record { client = (codes "b"); topic = (codes "t"); payload = (codes "x"); qos = 0; retain = false; expiry = None; identifiers = []; group = group (codes "g") (codes "t") } ∷ []) 0
    ∷ ok [] 0
    ∷ ok (record { client = (codes "b"); topic = (codes "t"); payload = (codes "x"); qos = 0; retain = false; expiry = None; identifiers = []; group = group (codes "g") (codes "+") } ∷ record { client = (codes "b"); topic = (codes "t"); payload = (codes "x"); qos = 0; retain = false; expiry = None; identifiers = []; group = group (codes "g") (codes "t") } ∷ []) 0
    ∷ ok [] 0
    ∷ ok (record { client = (codes "b"); topic = (codes "t"); payload = (codes "x"); qos = 0; retain = false; expiry = None; identifiers = []; group = group (codes "g") (codes "+") } ∷ record { client = (codes "b"); topic = (codes "t"); payload = (codes "x"); qos = 0; retain = false; expiry = None; identifiers = []; group = group (codes "g") (codes "t") } ∷ []) 0
    ∷ ok (record { client = (codes "b"); topic = (codes "t"); payload = (codes "x"); qos = 0; retain = false; expiry = None; identifiers = []; group = group (codes "g") (codes "+") } ∷ record { client = (codes "a"); topic = (codes "t"); payload = (codes "x"); qos = 0; retain = false; expiry = None; identifiers = []; group = group (codes "g") (codes "t") } ∷ []) 0
    ∷ [])
unfolding fresh_world refusal answer after next with_row allowed unshared_copies groups_of served_rows
    retained_after retained_copies resumed_copies begins_to_wait filters_of counts
two_groups = refl
