use Rattle.std.proofs.lemmas.Result.{err_from_is_err_and}
use Rattle.mq_cli.specs.AclFile.{acl_file_limit}
use Rattle.mq_cli.proofs.AclFileLemmas.{AclFileEnding-whole}
use Rattle.mq_cli.proofs.acl_file.read_acl_by.Goals as goal

pub returns : goal.returns
unfolding acl_file_limit
returns g c =
    let read = c.in_ok-bytes.ensures.ok in (
      c.in_ok-bytes.bytes.items,
      read.0,
      AclFileEnding-whole acl_file_limit c.args.rules c.parse_acl.result
          c.in_ok-bytes.bytes.items _ _ read.1
          (rw c.as_slice.ensures.value at c.parse_acl.ensures),
    )

pub returns-in_err-bytes : goal.returns-in_err-bytes
unfolding acl_file_limit
returns-in_err-bytes g c =
    let fault = err_from_is_err_and c.from_residual.result c.from_residual.ensures.1 in
    rw (fault.1, fault.2) (c.in_err-bytes.ensures.err c.args.rules)
