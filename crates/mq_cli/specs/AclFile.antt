-- How the reading of an access list file ends.
use Rattle.std.specs.Prelude.{◌≡◌, ◌≢◌, ◌≤◌, ◌<◌, ℕ, List, length, Option, Result, Ok, Err, IsUtf8}
use Rattle.std.specs.Io.KnownBytes.{Consumes, IsAtEnd}
use Rattle.mq_acl.specs.AccessLists.{AccessList}
use Rattle.mq_acl.specs.Rows.{rows_by}
use Rattle.mq_acl.specs.declared.rules.Rules.{Rules}
use Rattle.mq_acl.specs.declared.fault.AclKind.TheVariants as kind
use Rattle.mq_cli.specs.declared.acl_file.AclFileFault.{AclFileFault}
use Rattle.mq_cli.specs.declared.acl_file.AclFileFault.TheVariants as fault
use Rattle.mq_run.specs.Ending.{Failures, Watched, DidNotFail, Failed}

-- how many bytes the file may have
unfoldable pub acl_file_limit : ℕ
acl_file_limit = 16777216

-- what the bytes of a whole file are answered by these rules, unless memory ran out
abbrev pub IsAnswerTo : Rules → List ℕ → Result AccessList AclFileFault → Type 0
IsAnswerTo rules bytes (Ok list) = IsUtf8 bytes × (list.rules ≡ rules)
    × (rows_by rules bytes ≡ Ok list.rows)
IsAnswerTo rules bytes (Err fault.Utf8) = ¬ IsUtf8 bytes
IsAnswerTo rules bytes (Err (fault.Line f)) = IsUtf8 bytes × (rows_by rules bytes ≡ Err f)
    × (f.kind ≢ kind.Memory)
IsAnswerTo rules bytes (Err fault.Memory) = Unit {0}
IsAnswerTo rules bytes (Err fault.Read) = ⊥
IsAnswerTo rules bytes (Err fault.TooLong) = ⊥

-- the reader gave the whole file, and it isn't too long
pub record IsWholeFile (limit : ℕ) (given : List ℕ) (left : Option (List ℕ)) (calls : Failures) :
    Type 0 where
  pub ended : IsAtEnd left
  pub within : length given ≤ limit
  pub reader : DidNotFail calls

-- given are the bytes that the reader gave, and left what is known to come
abbrev pub AclFileEnding : ℕ → Rules → Result AccessList AclFileFault
    → (given : List ℕ) (left : Option (List ℕ)) (calls : Failures) → Type 0
AclFileEnding limit rules (Ok list) given left calls = IsWholeFile limit given left calls
    × IsAnswerTo rules given (Ok list)
AclFileEnding limit rules (Err fault.Read) given left calls = Failed calls
AclFileEnding limit rules (Err fault.TooLong) given left calls =
    (limit < length given) × DidNotFail calls
AclFileEnding limit rules (Err fault.Utf8) given left calls = IsWholeFile limit given left calls
    × IsAnswerTo rules given (Err fault.Utf8)
AclFileEnding limit rules (Err (fault.Line f)) given left calls =
    IsWholeFile limit given left calls × IsAnswerTo rules given (Err (fault.Line f))
AclFileEnding limit rules (Err fault.Memory) given left calls = DidNotFail calls

-- it ended so over what its reader gave
abbrev pub AclFileEnds : ℕ → Rules → Result AccessList AclFileFault → Watched → Type 0
AclFileEnds limit rules result reader =
    (given : List ℕ) × Consumes reader.before reader.after given
    × AclFileEnding limit rules result given reader.after reader.calls
