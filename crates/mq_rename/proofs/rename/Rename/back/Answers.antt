use Rattle.std.proofs.Common.{◌≡◌, ◌&&◌, List, ℕ, Option, Some, None, ap, sym, ◌∙◌, subst}
use Rattle.std.specs.Option.{option_map}
use Rattle.std.proofs.lemmas.Bool.{and_parts}
use Rattle.std.proofs.lemmas.Result.{IfOk-weaker}
use Rattle.mq_topic.specs.Levels.{levels}
use Rattle.mq_topic.specs.Matching.{is_hidden, matches}
use Rattle.mq_rename.specs.Bounds.{IsBoundIfAny}
use Rattle.mq_rename.specs.Lists.{texts}
use Rattle.mq_rename.specs.Meets.{matches_if_any}
use Rattle.mq_rename.specs.Renames.{Renaming, new_name}
use Rattle.mq_rename.proofs.BackLemmas.{IsNewName, back_bound, back_hidden, back_none, new_name_is}
use Rattle.mq_rename.proofs.rename.Rename.back.Goals as goal
use Rattle.mq_rename.proofs.rename.Rename.back.Goals.{After-text-2, In-Some}

-- what holds of a value, if there is one, holds where there is none, or this one
at_value : {V : Type 0} (f : V → List (List ℕ)) (o p : Option V)
    (P : Option (List (List ℕ)) → Type 0) → o ≡ p → P (option_map f o) → P (option_map f p)
at_value f o p P e h = subst (λ t. P (option_map f t)) e h

-- the sides of the rule
abbrev sides : (c : After-text-2) → Renaming
sides c = record {
  left = c.self.inside.left;
  right = c.self.inside.right;
  places = c.self.inside.places.items;
}

renamed_is : (c : After-text-2) (n m : List ℕ) → new_name c.args.self.now n ≡ Some m
    → IsNewName (sides c) n m
renamed_is c n m e =
    new_name_is (sides c) n m c.self.invariant (ap (λ r. new_name r n) c.self.view_is ∙ e)

pub returns-then-is_hidden-clause-same : goal.returns-then-is_hidden-clause-same
returns-then-is_hidden-clause-same c = λ n m h e.
    let at = (goal.at.returns-then-is_hidden-clause-same c).After-text-2 in
    sym (back_hidden (sides at) n m (levels c.args.filter.now) (renamed_is at n m e)
    (sym (λ i. is_hidden (levels (c.text.ensures.text i)) (levels (c.text-2.ensures.text i)))
    ∙ sym c.is_hidden.ensures ∙ c.if-is_hidden.true))

pub returns-in_default-clause-same : goal.returns-in_default-clause-same
returns-in_default-clause-same c = λ n m h e.
    let at = (goal.at.returns-in_default-clause-same c).After-text-2 in
    let left = levels c.self.inside.left in
    let right = levels c.self.inside.right in
    let filter = levels c.args.filter.now in
    sym (back_none (sides at) n m filter (renamed_is at n m e)
    (subst (λ ps. IsBoundIfAny left right ps filter None) c.deref.ensures.value
    (at_value (λ all. texts all.items) c.in_ok-bound.bound None
    (IsBoundIfAny left right c.deref.result.now filter) c.in_default.is c.in_ok-bound.ensures)))

-- the bound levels match the names whose new names the filter matches
bound_is : (c : In-Some) (n m : List ℕ) → new_name c.args.self.now n ≡ Some m
    → matches (texts c.in-Some.bound.items) (levels n)
    ≡ matches (levels c.args.filter.now) (levels m)
bound_is c n m e =
    let at = (goal.at.In-Some c).After-text-2 in
    let left = levels c.self.inside.left in
    let right = levels c.self.inside.right in
    let filter = levels c.args.filter.now in
    back_bound (sides at) n m filter (texts c.in-Some.bound.items) (renamed_is at n m e)
    (sym (λ i. is_hidden (levels (c.text.ensures.text i)) (levels (c.text-2.ensures.text i)))
    ∙ sym c.is_hidden.ensures ∙ c.if-is_hidden.false)
    (subst (λ ps. IsBoundIfAny left right ps filter (Some (texts c.in-Some.bound.items)))
    c.deref.ensures.value
    (at_value (λ all. texts all.items) c.in_ok-bound.bound (Some c.in-Some.bound)
    (IsBoundIfAny left right c.deref.result.now filter) c.in-Some.is c.in_ok-bound.ensures))

pub returns-in_default-2-clause-same : goal.returns-in_default-2-clause-same
returns-in_default-2-clause-same c = λ n m h e.
    sym (ap (λ o. matches_if_any o n) c.in_default-2.is) ∙ c.in_ok-wanted.ensures.same n h
    ∙ ap (λ parts. matches (texts parts) (levels n)) c.deref-2.ensures.value
    ∙ bound_is (goal.at.returns-in_default-2-clause-same c).In-Some n m e

pub returns-clause-same : goal.returns-clause-same
returns-clause-same c =
    let at = (goal.at.returns-clause-same c).In-Some in
    IfOk-weaker c.meet.result _ _ (λ found same n m h e.
    let wanted = sym (ap (λ o. matches_if_any o n) c.in-Some-2.is)
    ∙ c.in_ok-wanted.ensures.same n h
    ∙ ap (λ parts. matches (texts parts) (levels n)) c.deref-2.ensures.value
    ∙ bound_is at n m e in
    let new = renamed_is (goal.at.returns-clause-same c).After-text-2 n m e in
    same n h ∙ (λ i. new.renamed i && wanted i)) c.meet.ensures.same

pub returns-clause-renamed : goal.returns-clause-renamed
returns-clause-renamed c =
    IfOk-weaker c.meet.result _ _ (λ found same n h e.
    ap (λ (r : Renaming). matches (levels r.left) (levels n)) (sym c.self.view_is)
    ∙ (and_parts (matches (levels c.self.inside.left) (levels n))
    (matches (levels c.in-Some-2.wanted) (levels n)) (sym (same n h) ∙ e)).0) c.meet.ensures.same
