-- What is shown of all clients.
use Rattle.std.proofs.Common.{◌≡◌, ℕ, Bool, true, false, cond, not, ◌&&◌, ◌||◌}
use Rattle.std.proofs.Common.{List, [], ◌∷◌, refl, ap, sym, ◌∙◌, subst, Bor}
use Rattle.std.specs.List.{list_any}
use Rattle.mq_acl.specs.Access.{begins_with_dollar}
use Rattle.mq_acl.specs.declared.row.Row.{Row}
use Rattle.mq_differences.specs.Differences.{same_direction, same_reason, same_way}
use Rattle.mq_differences.specs.Reasons.{is_grant}
use Rattle.mq_differences.specs.declared.way.Way.{Way}
use Rattle.mq_differences.specs.declared.way.Way.TheVariants.{Gained, Lost}
use Rattle.mq_plan.specs.declared.rule.PlanRule.{PlanRule}
use Rattle.mq_through.specs.Clients.{StandForAll, StandsFor}
use Rattle.mq_through.specs.Through.{IsQuestion, Question, ShowsAll, changes, is_changed}
use Rattle.mq_through.specs.Through.{is_shown_of}
use Rattle.mq_through.specs.Through.{new_allows, new_reason, old_allows, old_reason}
use Rattle.mq_through.specs.Through.{same_line}
use Rattle.mq_through.specs.Tried.{ShowsTried}
use Rattle.mq_through.specs.declared.renamed.Renamed.{Renamed}
use Rattle.mq_through.proofs.ReasonLemmas.{allows_by_reason}

any_same : {X : Type 0} (p q : X → Bool) → ((x : X) → p x ≡ q x) → (xs : List X)
    → list_any p xs ≡ list_any q xs
any_same p q h [] = refl
any_same p q h (x ∷ xs) = (λ i. h x i || any_same p q h xs i)

module _ (plan : List PlanRule) (old new : List Row) where
  old_grants : (q : Question) → old_allows old q ≡ is_grant (old_reason old q)
  old_grants q = allows_by_reason old q.client q.user q.topic q.direction

  new_grants : (q : Question) → new_allows new q ≡ is_grant (new_reason new q)
  new_grants q = allows_by_reason new q.client q.user q.name q.direction

  pub changes_alike : (way : Way) (q t : Question) → StandsFor plan old new q t
      → is_changed way old new t ≡ is_changed way old new q
  changes_alike way q t s =
      (λ i. changes way
      ((old_grants t ∙ ap is_grant s.old_same ∙ sym (old_grants q)) i)
      ((new_grants t ∙ ap is_grant s.new_same ∙ sym (new_grants q)) i))

  shown_alike : (way : Way) (q t : Question) → StandsFor plan old new q t → (r : Renamed)
      → is_shown_of plan old new way t r ≡ is_shown_of plan old new way q r
  shown_alike way q t s r = (λ i.
      s.users r.difference.class i
      && same_direction (s.direction i) r.difference.direction
      && same_way way r.difference.way
      && cond (s.start i) (begins_with_dollar r.difference.topic)
      (not (begins_with_dollar r.difference.topic))
      && same_reason (s.old_same i) r.difference.old_reason
      && same_reason (s.new_same i) r.difference.new_reason
      && same_line (s.rule i) r.rule)

  -- what is shown of those that stand for all is shown of all
  pub shown_all : (clients : List (Bor (List ℕ))) (all : List Renamed)
      → ShowsTried plan old new clients all → StandForAll plan old new clients
      → ShowsAll plan old new all
  shown_all clients all tried stand way q asked h =
      let found = stand q asked in
      let t = found.0 in
      let s = found.1.1 in
      sym (any_same (is_shown_of plan old new way t) (is_shown_of plan old new way q)
      (shown_alike way q t s) all)
      ∙ tried way t s.asked found.1.0 (changes_alike way q t s ∙ h)

  -- where nothing is shown, nothing changes
  pub none_shown : (all : List Renamed) → ShowsAll plan old new all → all ≡ [] → (q : Question)
      → IsQuestion plan q → old_allows old q ≡ new_allows new q
  none_shown all every e q asked =
      at (old_allows old q) (new_allows new q)
      (λ way h. let k : false ≡ true =
      sym (ap (list_any (is_shown_of plan old new way q)) e) ∙ every way q asked h in cc)
    where
      at : (a b : Bool) → ((way : Way) → changes way a b ≡ true → ⊥) → a ≡ b
      at true true f = refl
      at true false f = absurd (f Lost refl)
      at false true f = absurd (f Gained refl)
      at false false f = refl

-- the same of lists and a plan that are these
pub none_shown_of : (plan p : List PlanRule) (old o new n : List Row) (all : List Renamed)
    → p ≡ plan → o ≡ old → n ≡ new → ShowsAll p o n all → all ≡ [] → (q : Question)
    → IsQuestion plan q → old_allows old q ≡ new_allows new q
none_shown_of plan p old o new n all e f g every =
    none_shown plan old new all
    (subst (λ (rows : List Row). ShowsAll plan old rows all) g
    (subst (λ (rows : List Row). ShowsAll plan rows n all) f
    (subst (λ (rules : List PlanRule). ShowsAll rules o n all) e every)))
