use Rattle.std.proofs.Common.{◌≡◌, true, Bor, List, ℕ, bytes_eq, sym, ◌∙◌, subst}
use Rattle.std.specs.List.{list_any}
use Rattle.mq_regions.specs.Own.{is_own}
use Rattle.mq_regions.proofs.TextLemmas.{held_adds}
use Rattle.mq_regions.proofs.text.add_text.Goals as goal

pub returns-then-contains : goal.returns-then-contains
returns-then-contains c = λ p.
    held_adds p c.args.found.now.items c.args.level.now (is_own c.args.level.now)
    (subst (λ ts. list_any (λ (t : Bor (List ℕ)). bytes_eq t.now c.args.level.now) ts ≡ true)
    c.deref.ensures.value (sym c.contains.ensures.value ∙ c.if-contains.true))
