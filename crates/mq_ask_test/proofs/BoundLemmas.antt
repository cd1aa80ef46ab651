-- What a comparison of two lists says of one as a bound of the other.
use Rattle.std.proofs.Common.{◌≡◌, ℕ, Bool, true, false, not, ◌&&◌, List, Option, Some, None}
use Rattle.std.proofs.Common.{All, refl, ap, sym, ◌∙◌}
use Rattle.std.specs.Prelude.{find}
use Rattle.std.specs.List.{list_any}
use Rattle.std.proofs.lemmas.Bool.{and_parts}
use Rattle.mq_acl.specs.AccessLists.{allow_by}
use Rattle.mq_acl.specs.Views.{row_views}
use Rattle.mq_acl.specs.declared.access.Direction.{Direction}
use Rattle.mq_acl.specs.declared.row.Row.{Row}
use Rattle.mq_acl.specs.declared.rules.Rules.{Rules}
use Rattle.mq_differences.specs.Classes.{is_in}
use Rattle.mq_differences.specs.Differences.{IsReal, ShowsAll}
use Rattle.mq_differences.specs.Differences.{is_shown_of, same_direction, same_reason}
use Rattle.mq_differences.specs.Differences.{same_start, same_way}
use Rattle.mq_differences.specs.Reasons.{reason_of}
use Rattle.mq_differences.specs.declared.difference.Difference.{Difference}
use Rattle.mq_differences.specs.declared.way.Way.{Way}
use Rattle.mq_differences.specs.declared.way.Way.TheVariants.{Gained, Lost}
use Rattle.mq_who.proofs.ClaimLemmas.{found, found_none}
use Rattle.mq_who.proofs.ExtentLemmas.{any_weaker}
use Rattle.mq_ask_test.specs.Findings.{IsKept}

way_is : (one other : Way) → same_way one other ≡ true → one ≡ other
way_is Gained Gained e = refl
way_is Gained Lost e = absurd (cc)
way_is Lost Gained e = absurd (cc)
way_is Lost Lost e = refl

way_itself : (way : Way) → same_way way way ≡ true
way_itself Gained = refl
way_itself Lost = refl

-- what is shown of a change is of its way
shown_way : (rules : Rules) (old new : List Row) (way : Way) (direction : Direction)
    (client : List ℕ) (user : Option (List ℕ)) (topic : List ℕ) (d : Difference)
    → is_shown_of rules old new way direction client user topic d ≡ true
    → same_way d.way way ≡ true
shown_way rules old new way direction client user topic d e =
    let whole = and_parts (is_in (row_views old) (row_views new) user d.class
    && same_direction direction d.direction && same_way way d.way && same_start topic d.topic)
    (same_reason (reason_of rules old client user topic direction) d.old_reason
    && same_reason (reason_of rules new client user topic direction) d.new_reason) e in
    let front = and_parts (is_in (row_views old) (row_views new) user d.class
    && same_direction direction d.direction && same_way way d.way) (same_start topic d.topic)
    whole.0 in
    let parts = and_parts (is_in (row_views old) (row_views new) user d.class
    && same_direction direction d.direction) (same_way way d.way) front.0 in
    ap (λ w. same_way w way) (sym (way_is way d.way parts.1)) ∙ way_itself way

true_unless : (b : Bool) → (b ≡ false → false ≡ true) → b ≡ true
true_unless true f = refl
true_unless false f = f refl

-- where none is of the way, nothing changes so
module _ (rules : Rules) (old new : List Row) (all : List Difference)
    (shown : ShowsAll rules old new all) where
  unless : (way : Way) (direction : Direction) (client topic : List ℕ)
      (user : Option (List ℕ)) → list_any (λ d. same_way d.way way) all ≡ false
      → list_any (is_shown_of rules old new way direction client user topic) all ≡ true
      → false ≡ true
  unless way direction client topic user none some = sym none
      ∙ any_weaker (is_shown_of rules old new way direction client user topic)
      (λ (d : Difference). same_way d.way way)
      (shown_way rules old new way direction client user topic) all some

  pub within : (way : Way) → find (λ (d : Difference). same_way d.way way) all ≡ None
      → IsKept rules way old new
  within Gained e = λ direction client topic user c u v a.
      true_unless (allow_by rules (row_views old) client user topic direction) (λ b.
      unless Gained direction client topic user
      (found_none (λ (d : Difference). same_way d.way Gained) all e)
      (shown Gained direction client topic user c u v (λ i. a i && not (b i))))
  within Lost e = λ direction client topic user c u v a.
      true_unless (allow_by rules (row_views new) client user topic direction) (λ b.
      unless Lost direction client topic user
      (found_none (λ (d : Difference). same_way d.way Lost) all e)
      (shown Lost direction client topic user c u v (λ i. a i && not (b i))))

-- one that is found is of the way
pub beyond : (rules : Rules) (old new : List Row) (way : Way) (all : List Difference)
    (d : Difference) → find (λ (e : Difference). same_way e.way way) all ≡ Some d
    → All (IsReal rules old new) all → IsReal rules old new d × (d.way ≡ way)
beyond rules old new way all d e r =
    let is = found (λ (d : Difference). same_way d.way way) (IsReal rules old new) all d e r in
    (is.1, way_is d.way way is.0)
