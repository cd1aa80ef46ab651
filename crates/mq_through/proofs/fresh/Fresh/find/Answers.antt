use Rattle.std.proofs.Common.{sym, string_bytes, true, false, ◌∙◌}
use Rattle.mq_through.proofs.FreshLemmas.{fresh_is}
use Rattle.mq_through.proofs.fresh.Fresh.find.Goals as goal

pub returns-clause-fresh : goal.returns-clause-fresh
returns-clause-fresh c = (
  sym c.ask_client.ensures ∙ c.if-not-ask_client.false,
  fresh_is c.args.comparison.now false (string_bytes c.in_ok-plain.plain)
      c.in_ok-plain.ensures.unused,
  fresh_is c.args.comparison.now true (string_bytes c.in_ok-dollar.dollar)
      c.in_ok-dollar.ensures.unused,
)
