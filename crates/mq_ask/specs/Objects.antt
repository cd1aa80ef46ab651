-- JSON objects: for which clients an answer is, and what mosquitto refuses by itself.
use Rattle.std.specs.Prelude.{ℕ, List, [], codes, if◌then◌else◌}
use Rattle.std.specs.List.{flat_map}
use Rattle.mq_acl.specs.declared.access.Direction.{Direction}
use Rattle.mq_acl.specs.declared.rules.Rules.{Rules}
use Rattle.mq_ask.specs.Notes.{by_mosquitto, limited_to}
use Rattle.mq_ask.specs.Words.{access_text}
use Rattle.serde_json.specs.Data.{no_members, put, string}
use Rattle.mq_print.specs.Objects.{object_text}

-- the answer is for these clients alone
abbrev pub limit_text : List ℕ
limit_text = object_text (put (codes "limited_to")
    (string limited_to) no_members)

-- by mosquitto's rules it is
abbrev pub limit_by : Rules → List ℕ
limit_by rules = if by_mosquitto rules then limit_text else []

-- in this direction mosquitto by itself refuses topics that are asked about
abbrev pub refused_text : Direction → List ℕ
refused_text direction =
    object_text (put (codes "refused") (string (access_text direction)) no_members)

-- in each of them
abbrev pub refused_texts : List Direction → List ℕ
refused_texts directions = flat_map refused_text directions
