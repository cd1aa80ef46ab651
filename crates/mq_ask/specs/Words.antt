-- Words for what is asked about.
use Rattle.std.specs.Prelude.{List, None, Option, Some, codes, if◌then◌else◌, ℕ}
use Rattle.std.specs.Str.{bytes_eq}
use Rattle.mq_acl.specs.declared.access.Direction.{Direction}
use Rattle.mq_acl.specs.declared.access.Direction.TheVariants.{Reading, Writing}
use Rattle.mq_acl.specs.declared.rules.Rules.{Rules}
use Rattle.mq_acl.specs.declared.rules.Rules.TheVariants.{Own, Mosquitto}

-- the word for it
abbrev pub access_text : Direction → List ℕ
access_text Reading = codes "read"
access_text Writing = codes "write"

-- whether it is read or written; none where the word is unknown
abbrev pub access_named : (word : List ℕ) → Option Direction
access_named word =
    if bytes_eq word (codes "read") then Some Reading
    else (if bytes_eq word (codes "write") then Some Writing else None)

-- whose the rules are
abbrev pub owner_words : Rules → List ℕ
owner_words Own = codes "mqroute's own"
owner_words Mosquitto = codes "mosquitto's"
