use Rattle.std.proofs.Common.{◌≡◌, ℕ, false, List, ◌||◌, drop}
use Rattle.std.specs.List.{list_any}
use Rattle.mq_witness.specs.Literals.{is_among}
use Rattle.mq_through.specs.Checks.{is_unfit}
use Rattle.mq_through.specs.Clients.{rule_tries}
use Rattle.mq_through.specs.Tried.{AreClients}
use Rattle.mq_through.proofs.clients.add_rules.Given as goal

-- the rules that are left add what all of them do
abbrev pub invariant-loop-rule : goal.invariant-loop-rule
invariant-loop-rule l = record {
  among : (t : List ℕ) → (is_among t l.clients.items
      || list_any (rule_tries t) (drop l.rule-index l.rules))
      ≡ (is_among t l.fn.clients.items || list_any (rule_tries t) l.rules);
  clients : AreClients l.fn.clients.items → AreClients l.clients.items;
  fit : list_any is_unfit (drop l.rule-index l.rules) ≡ false;
}
