use Rattle.std.proofs.Common.{◌≡◌, Option, sym, subst, refl}
use Rattle.mq_acl.specs.AccessLists.{AccessList, allowed}
use Rattle.mq_acl.specs.declared.access.Direction.TheVariants.{Reading}
use Rattle.mq_router.specs.delivery.Fates.{Receivers}
use Rattle.mq_router.proofs.delivery.fates.Fates.is_common.Goals as goal

pub returns-in_default-clause-common : goal.returns-in_default-clause-common
unfolding allowed
returns-in_default-clause-common c = λ same a b user.
    subst (λ (r : Receivers). allowed r.access a user r.topic Reading
    ≡ allowed r.access b user r.topic Reading) c.self.view_is
    (subst (λ (access : Option AccessList). allowed access a user c.self.inside.name.now Reading
    ≡ allowed access b user c.self.inside.name.now Reading) (sym c.in_default.is) refl)
