use Rattle.std.proofs.Common.{subst, sym}
use Rattle.mq_router.specs.StandsFor.{State, StandsFor}
use Rattle.mq_router.specs.router.Views.{state_of}
use Rattle.mq_router.proofs.Fresh.{ruled-stands}
use Rattle.mq_router.proofs.router.Router.with_rules.Goals as goal

pub returns : goal.returns
returns c = λ w stands. ruled-stands c.args.rules (state_of c.router.inside) w
    (subst (λ (s : State). StandsFor s w) (sym c.router.view_is) stands)
