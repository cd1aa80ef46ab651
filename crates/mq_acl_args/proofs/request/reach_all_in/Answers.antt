use Rattle.std.proofs.Common.{sym, refl}
use Rattle.mq_acl_args.proofs.request.reach_all_in.Goals as goal

pub returns-in-Some-None-None-None : goal.returns-in-Some-None-None-None
returns-in-Some-None-None-None c =
    rw (
      sym c.value.ensures,
      sym c.value-2.ensures,
      sym c.value-3.ensures,
      c.in-Some-None-None-None.is-0,
      c.in-Some-None-None-None.is-1,
      c.in-Some-None-None-None.is-2,
      c.in-Some-None-None-None.is-3,
    ) refl
