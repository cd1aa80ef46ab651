-- What a line of a script says.
use Rattle.std.specs.Prelude.{ℕ, ◌==◌, ◌||◌, List, [], ◌∷◌, length, Bool, true, false, nat_lt}
use Rattle.std.specs.Prelude.{if◌then◌else◌, Option, Some, None, option_and_then, Result, Ok, Err}
use Rattle.std.specs.Prelude.{codes}
use Rattle.std.specs.List.{list_all}
use Rattle.std.specs.Str.{bytes_eq, is_utf8}
use Rattle.serde_json.specs.Data.{Data}
use Rattle.serde_json.specs.Find.{get, as_str}
use Rattle.serde_json.specs.Read.{read}
use Rattle.mq_world.specs.World.{Request, Connect, Disconnect, Subscribe, Unsubscribe, Publish}
use Rattle.mq_world.specs.World.{SetAcl, Advance, Stat}
use Rattle.mq_jsonl.specs.Fields.{◌>>=◌, or_fault, text, flag, unsigned, whole, required, optional}
use Rattle.mq_jsonl.specs.Fields.{default, row, from_fields}
use Rattle.mq_jsonl.specs.declared.fault.LineFault.{LineFault}
use Rattle.mq_jsonl.specs.declared.fault.LineFault.TheVariants.{LineTooLong, BadJson, BadCommand}

-- ## The fields of each command

unfoldable pub connect_fields : Data → Result Request LineFault
connect_fields = from_fields
    (row "client" text required
    ∷ row "user" text optional
    ∷ row "clean" flag (default true)
    ∷ row "session_expiry" (whole 0 4294967295) (default 0)
    ∷ [])
    Connect

unfoldable pub disconnect_fields : Data → Result Request LineFault
disconnect_fields = from_fields (row "client" text required ∷ []) Disconnect

unfoldable pub subscribe_fields : Data → Result Request LineFault
subscribe_fields = from_fields
    (row "client" text required
    ∷ row "filter" text required
    ∷ row "qos" (whole 0 2) (default 0)
    ∷ row "no_local" flag (default false)
    ∷ row "rap" flag (default false)
    ∷ row "handling" (whole 0 2) (default 0)
    ∷ row "id" (whole 1 268435455) optional
    ∷ [])
    (λ client filter qos no_local rap handling id. Subscribe client filter (record {
      qos = qos;
      no_local = no_local;
      retain_as_published = rap;
      handling = handling;
      identifier = id;
    }))

unfoldable pub unsubscribe_fields : Data → Result Request LineFault
unsubscribe_fields = from_fields
    (row "client" text required ∷ row "filter" text required ∷ [])
    Unsubscribe

unfoldable pub publish_fields : Data → Result Request LineFault
publish_fields = from_fields
    (row "client" text required
    ∷ row "topic" text required
    ∷ row "payload" text (default [])
    ∷ row "qos" (whole 0 2) (default 0)
    ∷ row "retain" flag (default false)
    ∷ row "expiry" (whole 0 4294967295) optional
    ∷ [])
    (λ client topic payload qos retain expiry. Publish (record {
      publisher = client;
      topic = topic;
      payload = payload;
      qos = qos;
      retain = retain;
      expiry = expiry;
    }))

unfoldable pub acl_fields : Data → Result Request LineFault
acl_fields = from_fields (row "text" text optional ∷ []) SetAcl

unfoldable pub advance_fields : Data → Result Request LineFault
advance_fields = from_fields (row "seconds" unsigned required ∷ []) Advance

unfoldable pub stat_fields : Data → Result Request LineFault
stat_fields = from_fields [] Stat

-- ## A line

-- the command that the word under `do` names
unfoldable pub fields_of : List ℕ → Data → Result Request LineFault
fields_of word d =
    if bytes_eq word (codes "connect") then connect_fields d else
    if bytes_eq word (codes "disconnect") then disconnect_fields d else
    if bytes_eq word (codes "subscribe") then subscribe_fields d else
    if bytes_eq word (codes "unsubscribe") then unsubscribe_fields d else
    if bytes_eq word (codes "publish") then publish_fields d else
    if bytes_eq word (codes "acl") then acl_fields d else
    if bytes_eq word (codes "advance") then advance_fields d else
    if bytes_eq word (codes "stat") then stat_fields d else Err BadCommand

-- the word under `do`, which a value that is no object lacks
abbrev pub word_of : Data → Result (List ℕ) LineFault
word_of d = or_fault BadCommand (option_and_then as_str (get (codes "do") d))

unfoldable pub command_of : Data → Result Request LineFault
command_of d = word_of d >>= λ word. fields_of word d

-- the value that the bytes are as JSON text
unfoldable pub value_of : List ℕ → Option Data
value_of line = if is_utf8 line then read line else None

-- a space, a tab or a carriage return
abbrev pub is_space : ℕ → Bool
is_space b = (b == 32) || (b == 9) || (b == 13)

abbrev pub is_blank : List ℕ → Bool
is_blank line = list_all is_space line

-- how many bytes a line may have
abbrev pub line_limit : ℕ
line_limit = 1048576

-- what a line says, without its line feed: nothing where it is blank, or else a command
unfoldable pub reading : List ℕ → Result (Option Request) LineFault
reading line =
    if nat_lt line_limit (length line) then Err LineTooLong else
    if is_blank line then Ok None else (do
      d ← or_fault BadJson (value_of line)
      command ← command_of d
      Ok (Some command))
