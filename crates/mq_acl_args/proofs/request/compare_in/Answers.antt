use Rattle.std.proofs.Common.{sym}
use Rattle.mq_acl_args.proofs.request.compare_in.Goals as goal

pub returns-in-Some : goal.returns-in-Some
returns-in-Some c = rw (sym c.value.ensures, c.in-Some.is) c.through_in.ensures

pub returns-in-None : goal.returns-in-None
returns-in-None c = rw (sym c.value.ensures, c.in-None.is) c.compare_lists_in.ensures
