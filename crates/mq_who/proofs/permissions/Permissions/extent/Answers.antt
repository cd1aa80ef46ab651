use Rattle.std.proofs.Common.{sym, subst}
use Rattle.mq_who.specs.Extents.{IsExtent}
use Rattle.mq_who.proofs.ExtentLemmas.{extent_is}
use Rattle.mq_who.proofs.permissions.Permissions.extent.Goals as goal

pub returns : goal.returns
returns c rules rows wanted g r =
    subst (IsExtent rules rows wanted c.args.class.now c.args.direction) (sym c.extent_of.ensures)
    (extent_is rules rows wanted c.args.class.now c.args.direction c.args.self.now.granted.items
    c.args.self.now.refused.items c.has_about-some.result c.has_about-others.result g r (cc) (cc))
