use Rattle.std.proofs.Common.{rules}
use Rattle.mqroute_acl.proofs.program.report_usage.Goals as goal

pub returns-in-Usage-clause-shows : goal.returns-in-Usage-clause-shows
returns-in-Usage-clause-shows g c = search rules

pub returns-in-Usage-clause-quiet : goal.returns-in-Usage-clause-quiet
returns-in-Usage-clause-quiet g c = search rules
