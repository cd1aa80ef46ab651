-- The lines that answer a line: compact JSON objects, whose names stand in ascending order.
use Rattle.std.specs.Prelude.{ℕ, List, [], ◌∷◌, ◌++◌, Option, Some, None, codes, map}
use Rattle.std.specs.Option.{option_map}
use Rattle.std.specs.List.{flat_map}
use Rattle.serde_json.specs.Data.{Data, boolean, number, unsigned, string, array, object, Items}
use Rattle.serde_json.specs.Data.{Members, no_members, put}
use Rattle.serde_json.specs.View.{items_of}
use Rattle.serde_json.specs.Written.{compact_text}
use Rattle.mq_world.specs.World.{Copy, Reply}
use Rattle.mq_world.specs.declared.answer.Outcome.{Outcome}
use Rattle.mq_world.specs.declared.answer.Outcome.TheVariants.{Reason, Counts}
use Rattle.mq_world.specs.declared.refusal.Refusal.{Refusal}
use Rattle.mq_world.specs.declared.refusal.Refusal.TheVariants as refused
use Rattle.mq_jsonl.specs.declared.fault.LineFault.{LineFault}
use Rattle.mq_jsonl.specs.declared.fault.LineFault.TheVariants as fault
use Rattle.mq_jsonl.specs.declared.printer.LineReport.{LineReport}

-- ## Values and lines

abbrev pub whole_data : ℕ → Data
whole_data n = number (unsigned n)

abbrev pub numbers_data : List ℕ → Items
numbers_data ns = items_of (map whole_data ns)

-- the member k, where there is a value
abbrev pub put_if : List ℕ → Option Data → Members → Members
put_if k None ms = ms
put_if k (Some d) ms = put k d ms

abbrev pub whole_if : Option ℕ → Option Data
whole_if None = None
whole_if (Some n) = Some (whole_data n)

abbrev pub text_if : Option (List ℕ) → Option Data
text_if text = option_map string text

-- no numbers make no member
abbrev pub numbers_if : List ℕ → Option Data
numbers_if [] = None
numbers_if (n ∷ ns) = Some (array (numbers_data (n ∷ ns)))

-- an object has its names in ascending order, whichever goes in first
abbrev pub line_text : Members → List ℕ
line_text ms = compact_text (object ms) ++ 10 ∷ []

-- ## An answer to line k

unfoldable pub copy_members : ℕ → Copy → Members
copy_members k c =
    put_if (codes "share") (text_if (option_map (λ group. group.share) c.group)) (
    put_if (codes "filter") (text_if (option_map (λ group. group.filter) c.group)) (
    put_if (codes "expiry") (whole_if c.expiry) (
    put_if (codes "ids") (numbers_if c.identifiers) (
    put (codes "topic") (string c.topic) (
    put (codes "retain") (boolean c.retain) (
    put (codes "qos") (whole_data c.qos) (
    put (codes "payload") (string c.payload) (
    put (codes "line") (whole_data k) (
    put (codes "client") (string c.client) no_members)))))))))

unfoldable pub closing_members : ℕ → Outcome → Members
closing_members k (Reason reason) =
    put (codes "reason") (whole_data reason) (
    put (codes "line") (whole_data k) no_members)
closing_members k (Counts nodes retained subscriptions) =
    put (codes "subscriptions") (whole_data subscriptions) (
    put (codes "retained") (whole_data retained) (
    put (codes "nodes") (whole_data nodes) (
    put (codes "line") (whole_data k) no_members)))

abbrev pub copy_text : ℕ → Copy → List ℕ
copy_text k c = line_text (copy_members k c)

-- a line for each copy, and a closing line
abbrev pub answer_text : ℕ → Reply → List ℕ
answer_text k r = flat_map (copy_text k) r.copies ++ line_text (closing_members k r.outcome)

-- ## A refusal of line k

-- a code and a name, and of an access list the number of its faulty line
pub record Report : Type 0 where
  pub code : ℕ
  pub name : List ℕ
  pub acl_line : Option ℕ

abbrev pub plain : ℕ → List ℕ → Option Report
plain code name = Some (record { code = code; name = name; acl_line = None })

-- lack of memory is not reported
abbrev pub refusal_report : Refusal → Option Report
refusal_report refused.ClientId = plain 5 (codes "ClientId")
refusal_report refused.UserName = plain 6 (codes "UserName")
refusal_report refused.NotConnected = plain 7 (codes "NotConnected")
refusal_report refused.TopicName = plain 8 (codes "TopicName")
refusal_report refused.TopicFilter = plain 9 (codes "TopicFilter")
refusal_report refused.SharedNoLocal = plain 10 (codes "SharedNoLocal")
refusal_report refused.NotAuthorized = plain 11 (codes "NotAuthorized")
refusal_report (refused.AclLine line) =
    Some (record { code = 12; name = codes "AclLine"; acl_line = Some line })
refusal_report refused.ClockTooFar = plain 13 (codes "ClockTooFar")
refusal_report refused.RetainedFull = plain 14 (codes "RetainedFull")
refusal_report refused.Memory = None

-- nor here
abbrev pub fault_report : LineFault → Option Report
fault_report fault.LineTooLong = plain 1 (codes "LineTooLong")
fault_report fault.BadJson = plain 2 (codes "BadJson")
fault_report fault.BadCommand = plain 3 (codes "BadCommand")
fault_report fault.BadField = plain 4 (codes "BadField")
fault_report fault.Memory = None

unfoldable pub report_members : ℕ → Report → Members
report_members k r =
    put_if (codes "acl_line") (whole_if r.acl_line) (
    put (codes "refused") (string r.name) (
    put (codes "line") (whole_data k) (
    put (codes "code") (whole_data r.code) no_members)))

-- what is not reported has no line
abbrev pub report_text : ℕ → Option Report → List ℕ
report_text k None = []
report_text k (Some r) = line_text (report_members k r)

abbrev pub refusal_text : ℕ → Refusal → List ℕ
refusal_text k refusal = report_text k (refusal_report refusal)

abbrev pub fault_text : ℕ → LineFault → List ℕ
fault_text k fault = report_text k (fault_report fault)

-- what the code carries of a report
abbrev pub report_of : LineReport → Report
report_of r = record { code = r.code; name = r.name.now; acl_line = r.acl_line }
