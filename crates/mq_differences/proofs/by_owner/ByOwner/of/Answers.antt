use Rattle.mq_differences.proofs.ByOwnerLemmas.{by_clients}
use Rattle.mq_differences.proofs.by_owner.ByOwner.of.Goals as goal

pub returns : goal.returns
returns c = by_clients c.args.rows.items (record { rows = c.in_ok-all.all }) c.in_ok-all.ensures
