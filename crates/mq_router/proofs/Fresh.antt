-- A router that holds nothing stands for the world that nobody has used, within any limits.
use Rattle.std.specs.Prelude.{[], Option}
use Rattle.std.proofs.Common.{arith}
use Rattle.std.specs.List.{IsDistinct}
use Rattle.std.specs.List.Sorted.{IsStrictlySortedBy}
use Rattle.mq_acl.specs.AccessLists.{AccessList}
use Rattle.mq_acl.specs.declared.rules.Rules.{Rules}
use Rattle.mq_acl.specs.declared.rules.Rules.TheVariants.{Own}
use Rattle.mq_world.specs.World.{Limits, World, fresh_world, ruled, within}
use Rattle.mq_world.specs.Counts.{filters_of}
use Rattle.mq_router.specs.StandsFor.{State, StandsFor}

abbrev pub fresh_state : Limits → Option AccessList → State
fresh_state limits access = record {
  limits = limits;
  rules = Own;
  moment = 0;
  access = access;
  sessions = [];
  subscriptions = [];
  retained = [];
  filter_keys = [];
  topic_keys = [];
  deadlines = [];
}

-- a fresh state stands for the fresh world with the same limits and access rows
pub fresh-stands : (limits : Limits) (access : Option AccessList)
    → StandsFor (fresh_state limits access) (within limits (fresh_world access))
unfolding StandsFor fresh_world filters_of IsDistinct IsStrictlySortedBy
fresh-stands limits access = grind arith

-- a state with other rules stands for the world with them
pub ruled-stands : (rules : Rules) (s : State) (w : World) → StandsFor s w
    → StandsFor (record s { rules = rules }) (ruled rules w)
unfolding StandsFor filters_of
ruled-stands rules s w h = grind arith
