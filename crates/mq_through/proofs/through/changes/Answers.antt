use Rattle.std.proofs.Common.{List, Bor, ℕ, subst}
use Rattle.mq_through.specs.Tried.{ShowsTried}
use Rattle.mq_through.proofs.EveryLemmas.{shown_all}
use Rattle.mq_through.proofs.ExchangeLemmas.{all_show_others}
use Rattle.mq_through.proofs.through.changes.Goals as goal

pub returns-clause-every : goal.returns-clause-every
returns-clause-every c =
    let k = c.args.comparison.now in
    let clients = c.in_ok-clients.clients.items in
    shown_all k.plan.now k.old.now k.new.now clients c.in_ok-all.all.items
    (subst (λ (cs : List (Bor (List ℕ))).
    ShowsTried k.plan.now k.old.now k.new.now cs c.in_ok-all.all.items) c.deref-2.ensures.value
    c.in_ok-all.ensures.shown)
    c.in_ok-clients.ensures.stand

pub returns-clause-others : goal.returns-clause-others
returns-clause-others c =
    all_show_others c.args.comparison.now c.requires c.in_ok-all.all.items
    c.in_ok-all.ensures.real
