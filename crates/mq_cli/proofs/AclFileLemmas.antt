-- The answer to a whole file is how its reading ends.
use Rattle.std.proofs.Common.{ℕ, List, Option, Result, Ok, Err}
use Rattle.mq_acl.specs.AccessLists.{AccessList}
use Rattle.mq_acl.specs.declared.rules.Rules.{Rules}
use Rattle.mq_cli.specs.declared.acl_file.AclFileFault.{AclFileFault}
use Rattle.mq_cli.specs.declared.acl_file.AclFileFault.TheVariants as fault
use Rattle.mq_run.specs.Ending.{Failures}
use Rattle.mq_cli.specs.AclFile.{IsAnswerTo, IsWholeFile, AclFileEnding}

-- the answer to a file that the reader gave whole is how its reading ends
pub AclFileEnding-whole : (limit : ℕ) (rules : Rules) (result : Result AccessList AclFileFault)
    (given : List ℕ) (left : Option (List ℕ)) (calls : Failures)
    → IsWholeFile limit given left calls → IsAnswerTo rules given result
    → AclFileEnding limit rules result given left calls
AclFileEnding-whole limit rules (Ok list) given left calls whole is = (whole, is)
AclFileEnding-whole limit rules (Err fault.Read) given left calls whole is = absurd is
AclFileEnding-whole limit rules (Err fault.TooLong) given left calls whole is = absurd is
AclFileEnding-whole limit rules (Err fault.Utf8) given left calls whole is = (whole, is)
AclFileEnding-whole limit rules (Err (fault.Line f)) given left calls whole is = (whole, is)
AclFileEnding-whole limit rules (Err fault.Memory) given left calls whole is = whole.reader
