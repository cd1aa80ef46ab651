-- Regions that are added.
use Rattle.std.proofs.Common.{◌≡◌, ◌<◌, ℕ, Bool, true, false, not, ◌&&◌, ◌||◌}
use Rattle.std.proofs.Common.{List, [], ◌∷◌, ◌++◌, length, refl, ap, sym, ◌∙◌, subst, All, Bor}
use Rattle.std.proofs.Common.{arith}
use Rattle.std.specs.Prelude.{codes}
use Rattle.std.proofs.Math.Bool.{or-true}
use Rattle.std.proofs.lemmas.List.Elements.{All-append, All-cons, All-nil}
use Rattle.std.proofs.lemmas.List.Folds.{list_any-append}
use Rattle.mq_topic.specs.Levels.{levels}
use Rattle.mq_topic.specs.Matching.{matches}
use Rattle.mq_rename.specs.Lists.{texts}
use Rattle.mq_plan.specs.declared.rule.PlanRule.{PlanRule}
use Rattle.mq_regions.specs.Regions.{in_kind, in_region, is_taken}
use Rattle.mq_regions.specs.declared.region.Region.{Region}
use Rattle.mq_regions.specs.declared.region.RegionKind.{RegionKind}
use Rattle.mq_through.specs.Parts.{IsOfPlan, IsPart, Widens, in_parts}
use Rattle.mq_through.proofs.PartLemmas.{apart, narrower}

pub widens_both : (plan : List PlanRule) (xs ys zs : List Region) → Widens plan xs ys
    → Widens plan ys zs → Widens plan xs zs
widens_both plan xs ys zs f g = record {
  parts = λ h. g.parts (f.parts h);
  kept = λ topic h. g.kept topic (f.kept topic h);
}

-- ---- one region more
pub record IsPushed (old : List Region) (region : Region) (new : List Region) : Type 0 where
  pub is : new ≡ old ++ (region ∷ [])

pub pushed_widens : (plan : List PlanRule) (old new : List Region) (region : Region)
    → IsPushed old region new → IsPart plan region → Widens plan old new
pushed_widens plan old new region p is = record {
  parts = λ h. subst (All (IsPart plan)) (sym p.is)
      (All-append (IsPart plan) old (region ∷ []) h
      (All-cons (IsPart plan) region [] is (All-nil (IsPart plan))));
  kept = λ topic h.
      ap (λ rs. in_parts rs topic) p.is
      ∙ list_any-append (λ (part : Region). in_region part topic) old (region ∷ [])
      ∙ ap (λ b. b || in_parts (region ∷ []) topic) h;
}

pub pushed_has : (old new : List Region) (region : Region) (topic : List ℕ)
    → IsPushed old region new → in_region region topic ≡ true → in_parts new topic ≡ true
pushed_has old new region topic p h =
    ap (λ rs. in_parts rs topic) p.is
    ∙ list_any-append (λ (part : Region). in_region part topic) old (region ∷ [])
    ∙ ap (λ b. in_parts old topic || (b || false)) h
    ∙ or-true (in_parts old topic)

pub pushed_kept : (old new : List Region) (region : Region) (topic : List ℕ)
    → IsPushed old region new → in_parts old topic ≡ true → in_parts new topic ≡ true
pushed_kept old new region topic p h =
    ap (λ rs. in_parts rs topic) p.is
    ∙ list_any-append (λ (part : Region). in_region part topic) old (region ∷ [])
    ∙ ap (λ b. b || in_parts (region ∷ []) topic) h

-- ---- a region from which one filter takes topics
pub record IsWithout (filter : List ℕ) (kind : RegionKind) (region : Region) : Type 0 where
  pub taken : texts region.taken.items ≡ filter ∷ []
  pub kind_is : region.kind ≡ kind

one_some : (xs : List (Bor (List ℕ))) (x : List ℕ) → texts xs ≡ x ∷ [] → 0 < length xs
one_some [] x e = absurd (cc)
one_some (y ∷ ys) x e = omega arith

pub dollar_part : (plan : List PlanRule) (kind : RegionKind) (region : Region)
    → IsWithout (codes "$") kind region → IsOfPlan plan [] kind → IsPart plan region
dollar_part plan kind region w is = record {
  some = one_some region.taken.items (codes "$") w.taken;
  of = subst (λ (k : RegionKind). IsOfPlan plan (texts region.taken.items) k) (sym w.kind_is)
      (subst (λ (ts : List (List ℕ)). IsOfPlan plan ts kind) (sym w.taken)
      (narrower plan (codes "$") kind refl refl is));
}

pub plain_part : (plan : List PlanRule) (kind : RegionKind) (region : Region)
    → IsWithout (codes "x") kind region → IsOfPlan plan [] kind → IsPart plan region
plain_part plan kind region w is = record {
  some = one_some region.taken.items (codes "x") w.taken;
  of = subst (λ (k : RegionKind). IsOfPlan plan (texts region.taken.items) k) (sym w.kind_is)
      (subst (λ (ts : List (List ℕ)). IsOfPlan plan ts kind) (sym w.taken)
      (narrower plan (codes "x") kind refl refl is));
}

without_has : (filter : List ℕ) (kind : RegionKind) (region : Region) (topic : List ℕ)
    → IsWithout filter kind region → in_kind kind topic ≡ true
    → matches (levels filter) (levels topic) ≡ false → in_region region topic ≡ true
without_has filter kind region topic w k h =
    (λ i. not (is_taken (w.taken i) topic) && in_kind (w.kind_is i) topic)
    ∙ (λ i. not (h i || false) && k i)

-- the two have all topics of the kind
pub both_have : (kind : RegionKind) (old mid new : List Region) (one other : Region)
    (topic : List ℕ) → IsWithout (codes "$") kind one → IsWithout (codes "x") kind other
    → IsPushed old one mid → IsPushed mid other new → in_kind kind topic ≡ true
    → in_parts new topic ≡ true
both_have kind old mid new one other topic v w p q k =
    at (matches (levels (codes "$")) (levels topic)) refl
  where
    at : (b : Bool) → matches (levels (codes "$")) (levels topic) ≡ b → in_parts new topic ≡ true
    at true e = pushed_has mid new other topic q
        (without_has (codes "x") kind other topic w k (apart topic e))
    at false e = pushed_kept mid new other topic q
        (pushed_has old mid one topic p (without_has (codes "$") kind one topic v k e))

pub empty_taken : (xs : List (Bor (List ℕ))) → length xs ≡ 0 → texts xs ≡ []
empty_taken [] e = refl
empty_taken (x ∷ xs) e = absurd (omega arith)
