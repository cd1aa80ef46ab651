use Rattle.std.proofs.Common.{◌≡◌, ◌∙◌, ◌++◌, ◌&&◌, ℕ, List, ap, map, not, subst, sym, true}
use Rattle.mq_plan.specs.Names.{left_of}
use Rattle.mq_regions.specs.Regions.{is_taken}
use Rattle.mq_regions.specs.declared.region.RegionKind.TheVariants.{Same}
use Rattle.mq_rename.specs.Lists.{texts}
use Rattle.mq_through.specs.Parts.{IsOfPlan, rights_of}
use Rattle.mq_through.proofs.PartLemmas.{rest_has, rest_part}
use Rattle.mq_through.proofs.parts.add_rest.Goals as goal

pub returns-clause-widens : goal.returns-clause-widens
returns-clause-widens c = λ h.
    let plan = c.args.rules.now in
    let taken : texts c.add_rights.new.taken.items ≡ map left_of plan ++ rights_of plan =
    c.in_ok-add_rights.ensures ∙ ap (λ ts. ts ++ rights_of plan) c.in_ok-taken.ensures in
    c.in_ok-add_part.ensures.widens plan
    (subst (λ (ts : List (List ℕ)). IsOfPlan plan ts Same) (sym taken) (rest_part plan h))

pub returns-clause-has : goal.returns-clause-has
returns-clause-has c = λ topic name h e.
    let plan = c.args.rules.now in
    let taken : texts c.add_rights.new.taken.items ≡ map left_of plan ++ rights_of plan =
    c.in_ok-add_rights.ensures ∙ ap (λ ts. ts ++ rights_of plan) c.in_ok-taken.ensures in
    c.in_ok-add_part.ensures.has topic
    (ap (λ ts. not (is_taken ts topic) && true) taken ∙ rest_has plan topic name h e)
