use Rattle.std.proofs.Common.{sym, refl}
use Rattle.mq_acl_args.proofs.request.who_in.Goals as goal

pub returns-in-Some-Some-Some : goal.returns-in-Some-Some-Some
returns-in-Some-Some-Some c =
    rw (
      sym c.value-except.ensures,
      sym c.value.ensures,
      sym c.value-2.ensures,
      sym c.value-in-Some-Some-Some.ensures,
      sym c.access_in.ensures,
      c.in-Some-Some-Some.is-0,
      c.in-Some-Some-Some.is-1,
      c.in-Some-Some-Some.is-2,
    ) refl
