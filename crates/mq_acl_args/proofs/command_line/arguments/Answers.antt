use Rattle.std.proofs.Common.{map, string_bytes}
use Rattle.clap.specs.Words.{fault_of}
use Rattle.mq_acl_args.specs.CommandLine.{mqroute_acl}
use Rattle.mq_acl_args.proofs.command_line.arguments.Goals as goal

pub returns-in-Err-clause-err : goal.returns-in-Err-clause-err
returns-in-Err-clause-err c =
    let words = map string_bytes c.args.words.now in
    c.usage_fault.ensures words (fault_of mqroute_acl words) c.in-Err.ensures.kinds
