use Rattle.std.proofs.Common.{◌≡◌, ◌&&◌, ℕ, true, List, Option, subst}
use Rattle.mq_topic.specs.Levels.{levels}
use Rattle.mq_topic.specs.Matching.{matches}
use Rattle.mq_topic.specs.Texts.{is_name}
use Rattle.mq_rename.specs.Meets.{matches_if_any}
use Rattle.mq_through.proofs.IdleLemmas.{within}
use Rattle.mq_through.proofs.idle.is_within.Goals as goal

pub returns-in-Ok-Some : goal.returns-in-Ok-Some
returns-in-Ok-Some c = λ yes.
    within c.args.taken.now c.args.filter.now c.in-Ok-Some.met
    (subst (λ (met : Option (List ℕ)). (n : List ℕ) → is_name n ≡ true → matches_if_any met n
    ≡ (matches (levels c.args.taken.now) (levels n)
    && matches (levels c.args.filter.now) (levels n)))
    c.in-Ok-Some.field-0-is c.in-Ok-Some.ensures.same)
    (c.is_same_text.ensures yes)
