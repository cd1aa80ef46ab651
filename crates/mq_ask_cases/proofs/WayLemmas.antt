-- Ways that are the same.
use Rattle.std.proofs.Common.{◌≡◌, true, refl, sym, true≢false}
use Rattle.mq_differences.specs.Differences.{same_way}
use Rattle.mq_differences.specs.declared.way.Way.{Way}
use Rattle.mq_differences.specs.declared.way.Way.TheVariants.{Gained, Lost}

pub way_is : (a b : Way) → same_way a b ≡ true → a ≡ b
way_is Gained Gained e = refl
way_is Gained Lost e = absurd (true≢false (sym e))
way_is Lost Gained e = absurd (true≢false (sym e))
way_is Lost Lost e = refl
