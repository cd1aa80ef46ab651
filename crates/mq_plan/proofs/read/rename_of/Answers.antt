use Rattle.std.proofs.Common.{◌≡◌, List, ℕ, Option, Some, None, cond, ap, sym, ◌∙◌, refl, subst}
use Rattle.std.specs.Prelude.{IsSome}
use Rattle.mq_rename.specs.Renames.{Renaming, is_rename}
use Rattle.mq_plan.specs.Pairs.{renaming}
use Rattle.mq_plan.proofs.RenameLemmas.{renaming_is}
use Rattle.mq_plan.proofs.read.rename_of.Goals as goal
use Rattle.mq_plan.proofs.read.rename_of.Goals.{After-new}

-- what is made of these
abbrev rule_of : List ℕ → List ℕ → List ℕ → Option Renaming
rule_of left right all =
    cond (is_rename left right all)
    (Some (record { left = left; right = right; places = all })) None

made : (c : After-new) → c.new.result ≡ Some (renaming c.args.left.now c.args.right.now)
made c =
    let rule = renaming c.args.left.now c.args.right.now in
    c.new.ensures
    ∙ (λ i. rule_of (c.in_ok-left.ensures i) (c.in_ok-right.ensures i) (c.in_ok-places.ensures i))
    ∙ ap (λ b. cond b (Some rule) None) (renaming_is c.args.left.now c.args.right.now c.requires)

pub unwrap-requires : goal.unwrap-requires
unwrap-requires c = subst IsSome (sym (made c)) refl

pub returns : goal.returns
returns c =
    let same : Some c.unwrap.result ≡ Some (renaming c.args.left.now c.args.right.now) =
    sym c.unwrap.ensures ∙ made (goal.at.returns c).After-new in cc
