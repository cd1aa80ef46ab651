use Rattle.std.proofs.Common.{sym, refl}
use Rattle.mq_acl_args.proofs.request.through_in.Goals as goal

pub returns-in-Some-Some-Some-None : goal.returns-in-Some-Some-Some-None
returns-in-Some-Some-Some-None c =
    rw (
      sym c.value.ensures,
      sym c.value-2.ensures,
      sym c.way_in.ensures,
      sym c.value-3.ensures,
      c.in-Some-Some-Some-None.is-0,
      c.in-Some-Some-Some-None.is-1,
      c.in-Some-Some-Some-None.is-2,
      c.in-Some-Some-Some-None.is-3,
    ) refl
