-- The regions of a plan.
use Rattle.std.proofs.Common.{◌≡◌, ℕ, Bool, true, false, cond, not, ◌&&◌, ◌||◌}
use Rattle.std.proofs.Common.{List, [], ◌∷◌, ◌++◌, map, refl, ap, sym, ◌∙◌, subst}
use Rattle.std.proofs.Common.{Option, Some, None, append-nil, append_assoc}
use Rattle.std.specs.Prelude.{codes, find}
use Rattle.std.specs.List.{cons_option, flat_map, list_any}
use Rattle.std.specs.Option.{option_map}
use Rattle.std.proofs.Math.Bool.{and-false}
use Rattle.std.proofs.lemmas.Bool.{and_parts, or_from, or_parts}
use Rattle.std.proofs.lemmas.List.Folds.{list_any-append}
use Rattle.mq_topic.specs.Levels.{levels}
use Rattle.mq_topic.specs.Matching.{level_matches, matches}
use Rattle.mq_topic.proofs.ByteLemmas.{text_is}
use Rattle.mq_rename.specs.Lists.{has_long, is_long, levels_match}
use Rattle.mq_rename.specs.Renames.{Renaming}
use Rattle.mq_rename.proofs.MatchLemmas.{matches_not, matches_parts}
use Rattle.mq_plan.specs.Names.{decided_name, is_right, left_of, name_by, new_name, rename_of}
use Rattle.mq_plan.specs.Names.{rule_for, takes}
use Rattle.mq_plan.specs.Names as plans
use Rattle.mq_plan.specs.declared.rule.PlanRule.{PlanRule}
use Rattle.mq_regions.specs.Regions.{has_mark, in_kind, is_mark, is_taken, kind_levels}
use Rattle.mq_regions.specs.declared.region.RegionKind.{RegionKind}
use Rattle.mq_regions.specs.declared.region.RegionKind.TheVariants.{Same}
use Rattle.mq_differences.proofs.FirstLemmas.{find_behind, find_none}
use Rattle.mq_through.specs.Checks.{is_unfit, is_unfit_right, is_unfit_side, unfit_line}
use Rattle.mq_through.specs.Parts.{IsKindOf, IsOfPlan, rights_of}

-- ---- the sides of rules
pub fit_all : (plan : List PlanRule) → unfit_line plan ≡ None → list_any is_unfit plan ≡ false
fit_all [] h = refl
fit_all (rule ∷ plan) h = at (is_unfit rule) h (fit_all plan)
  where
    at : (b : Bool)
        → option_map (λ (r : PlanRule). r.line) (cond b (Some rule) (find is_unfit plan)) ≡ None
        → (unfit_line plan ≡ None → list_any is_unfit plan ≡ false)
        → (b || list_any is_unfit plan) ≡ false
    at true h f = absurd (let q : Some rule.line ≡ None = h in cc)
    at false h f = f h

-- a test that fails for the levels of sides that are fit
pub record FailsOn (p : List ℕ → Bool) : Type 0 where
  pub fails : (side : List ℕ) → is_unfit_side side ≡ false → list_any p (levels side) ≡ false

pub marks_fail : FailsOn is_mark
marks_fail = record {
  fails = λ side h. (or_parts (has_long (levels side))
      (has_mark (levels side)) h).1;
}

pub long_fail : FailsOn is_long
long_fail = record {
  fails = λ side h. (or_parts (has_long (levels side))
      (has_mark (levels side)) h).0;
}

module _ (p : List ℕ → Bool) (f : FailsOn p) where
  pub lefts_fail : (plan : List PlanRule) → list_any is_unfit plan ≡ false
      → list_any p (flat_map levels (map left_of plan)) ≡ false
  lefts_fail [] h = refl
  lefts_fail (rule ∷ plan) h =
      let both = or_parts (is_unfit rule) (list_any is_unfit plan) h in
      let own = or_parts (is_unfit_side (left_of rule)) (is_unfit_right (rename_of rule)) both.0 in
      list_any-append p (levels (left_of rule)) (flat_map levels (map left_of plan))
      ∙ or_from (list_any p (levels (left_of rule)))
      (list_any p (flat_map levels (map left_of plan))) (f.fails (left_of rule) own.0)
      (lefts_fail plan both.1)

  pub rights_fail : (plan : List PlanRule) → list_any is_unfit plan ≡ false
      → list_any p (flat_map levels (rights_of plan)) ≡ false
  rights_fail [] h = refl
  rights_fail (rule ∷ plan) h =
      let both = or_parts (is_unfit rule) (list_any is_unfit plan) h in
      let own = or_parts (is_unfit_side (left_of rule)) (is_unfit_right (rename_of rule)) both.0 in
      at (rename_of rule) own.1 (rights_fail plan both.1)
    where
      at : (o : Option Renaming) → is_unfit_right o ≡ false
          → list_any p (flat_map levels (rights_of plan)) ≡ false
          → list_any p (flat_map levels
          (cons_option (option_map (λ (r : Renaming). r.right) o) (rights_of plan))) ≡ false
      at None h k = k
      at (Some r) h k =
          list_any-append p (levels r.right) (flat_map levels (rights_of plan))
          ∙ or_from (list_any p (levels r.right))
          (list_any p (flat_map levels (rights_of plan))) (f.fails r.right h) k

-- ---- what is taken
pub taken_lefts : (topic : List ℕ) (plan : List PlanRule)
    → is_taken (map left_of plan) topic ≡ list_any (takes topic) plan
taken_lefts topic [] = refl
taken_lefts topic (rule ∷ plan) = ap (λ b. takes topic rule || b) (taken_lefts topic plan)

pub taken_rights : (topic : List ℕ) (plan : List PlanRule)
    → is_taken (rights_of plan) topic ≡ list_any (plans.is_taken topic) plan
taken_rights topic [] = refl
taken_rights topic (rule ∷ plan) = at (rename_of rule) (taken_rights topic plan)
  where
    at : (o : Option Renaming)
        → is_taken (rights_of plan) topic ≡ list_any (plans.is_taken topic) plan
        → is_taken (cons_option (option_map (λ (r : Renaming). r.right) o) (rights_of plan)) topic
        ≡ (is_right topic o || list_any (plans.is_taken topic) plan)
    at None h = h
    at (Some r) h = ap (λ b. matches (levels r.right) (levels topic) || b) h

pub taken_both : (xs ys : List (List ℕ)) (topic : List ℕ)
    → is_taken (xs ++ ys) topic ≡ (is_taken xs topic || is_taken ys topic)
taken_both xs ys topic =
    list_any-append (λ (filter : List ℕ). matches (levels filter) (levels topic)) xs ys

not_false : (b : Bool) → not b ≡ true → b ≡ false
not_false true e = absurd (let q : false ≡ true = e in cc)
not_false false e = refl

-- ---- the topics of a rule
module _ (before : List PlanRule) (rule : PlanRule) (after : List PlanRule) (kind : RegionKind)
    (k : IsKindOf rule kind) where
  abbrev plan : List PlanRule
  plan = before ++ (rule ∷ after)

  abbrev has : List ℕ → Bool
  has topic = not (is_taken (map left_of before) topic) && in_kind kind topic

  decides : (topic : List ℕ) → has topic ≡ true → rule_for plan topic ≡ Some rule
  decides topic e =
      let both = and_parts (not (is_taken (map left_of before) topic)) (in_kind kind topic) e in
      find_behind (takes topic) before rule after
      (sym (taken_lefts topic before) ∙ not_false (is_taken (map left_of before) topic) both.0)
      (sym (k.same topic) ∙ both.1)

  named : (topic : List ℕ) → has topic ≡ true → new_name plan topic ≡ name_by rule topic
  named topic e = ap (λ o. decided_name o plan topic) (decides topic e)

  fails : (p : List ℕ → Bool) → FailsOn p → list_any p (kind_levels kind) ≡ false
      → list_any is_unfit plan ≡ false
      → list_any p (flat_map levels (map left_of before) ++ kind_levels kind) ≡ false
  fails p f h g =
      let both = or_parts (list_any is_unfit before) (list_any is_unfit (rule ∷ after))
      (sym (list_any-append is_unfit before (rule ∷ after)) ∙ g) in
      list_any-append p (flat_map levels (map left_of before)) (kind_levels kind)
      ∙ or_from (list_any p (flat_map levels (map left_of before)))
      (list_any p (kind_levels kind)) (lefts_fail p f before both.0) h

  own : list_any is_unfit plan ≡ false → is_unfit rule ≡ false
  own g = (or_parts (is_unfit rule) (list_any is_unfit after)
      (or_parts (list_any is_unfit before) (list_any is_unfit (rule ∷ after))
      (sym (list_any-append is_unfit before (rule ∷ after)) ∙ g)).1).0

  of_rule : unfit_line plan ≡ None → IsOfPlan plan (map left_of before) kind
  of_rule h = record {
    line = Some rule.line;
    lines = λ topic e. ap (option_map (λ (r : PlanRule). r.line)) (decides topic e);
    names = λ topic e. k.names topic ∙ sym (named topic e);
    long = λ topic e none.
        let found = k.long topic (sym (named topic e) ∙ none) in (
          rule.line,
          (
            refl,
            record {
              rule = rule;
              rename = found.0;
              first = decides topic e;
              at = refl;
              renamed = found.1.0;
              none = found.1.1;
            },
          ),
        );
    marks = fails is_mark marks_fail (k.marks (own (fit_all plan h))) (fit_all plan h);
    short = fails is_long long_fail (k.short (own (fit_all plan h))) (fit_all plan h);
  }

pub rule_part : (plan before : List PlanRule) (rule : PlanRule) (after : List PlanRule)
    (taken : List (List ℕ)) (kind : RegionKind) → IsKindOf rule kind → unfit_line plan ≡ None
    → plan ≡ before ++ (rule ∷ after) → taken ≡ map left_of before → IsOfPlan plan taken kind
rule_part plan before rule after taken kind k h e t =
    subst (λ (ts : List (List ℕ)). IsOfPlan plan ts kind) (sym t)
    (subst (λ (p : List PlanRule). IsOfPlan p (map left_of before) kind) (sym e)
    (of_rule before rule after kind k (sym (ap unfit_line e) ∙ h)))

-- a topic of the rule that no rule before it is about is of the region
pub rule_has : (before : List PlanRule) (rule : PlanRule) (taken : List (List ℕ))
    (kind : RegionKind) (topic : List ℕ) → IsKindOf rule kind → taken ≡ map left_of before
    → list_any (takes topic) before ≡ false → takes topic rule ≡ true
    → (not (is_taken taken topic) && in_kind kind topic) ≡ true
rule_has before rule taken kind topic k t h e =
    (λ i. not ((ap (λ ts. is_taken ts topic) t ∙ taken_lefts topic before ∙ h) i)
    && (k.same topic ∙ e) i)

-- ---- the rest
module _ (plan : List PlanRule) where
  abbrev taken : List (List ℕ)
  taken = map left_of plan ++ rights_of plan

  untaken : (topic : List ℕ) → (not (is_taken taken topic) && true) ≡ true
      → (list_any (takes topic) plan ≡ false) × (list_any (plans.is_taken topic) plan ≡ false)
  untaken topic e =
      let both = or_parts (is_taken (map left_of plan) topic) (is_taken (rights_of plan) topic)
      (sym (taken_both (map left_of plan) (rights_of plan) topic)
      ∙ not_false (is_taken taken topic) (and_parts (not (is_taken taken topic)) true e).0) in (
        sym (taken_lefts topic plan) ∙ both.0,
        sym (taken_rights topic plan) ∙ both.1,
      )

  stays : (topic : List ℕ) → (not (is_taken taken topic) && true) ≡ true
      → new_name plan topic ≡ Some topic
  stays topic e =
      let both = untaken topic e in
      ap (λ o. decided_name o plan topic) (find_none (takes topic) plan both.0)
      ∙ ap (λ b. cond b None (Some topic)) both.1

  rest_fails : (p : List ℕ → Bool) → FailsOn p → list_any is_unfit plan ≡ false
      → list_any p (flat_map levels taken ++ []) ≡ false
  rest_fails p f h =
      ap (list_any p) (append-nil (flat_map levels taken))
      ∙ ap (list_any p) (flat_both (map left_of plan) (rights_of plan))
      ∙ list_any-append p (flat_map levels (map left_of plan)) (flat_map levels (rights_of plan))
      ∙ or_from (list_any p (flat_map levels (map left_of plan)))
      (list_any p (flat_map levels (rights_of plan))) (lefts_fail p f plan h)
      (rights_fail p f plan h)
    where
      flat_both : (xs ys : List (List ℕ))
          → flat_map levels (xs ++ ys) ≡ flat_map levels xs ++ flat_map levels ys
      flat_both [] ys = refl
      flat_both (x ∷ xs) ys =
          ap (λ zs. levels x ++ zs) (flat_both xs ys)
          ∙ sym (append_assoc (levels x) (flat_map levels xs) (flat_map levels ys))

  pub rest_part : unfit_line plan ≡ None → IsOfPlan plan taken Same
  rest_part h = record {
    line = None;
    lines = λ topic e. ap (option_map (λ (r : PlanRule). r.line))
        (find_none (takes topic) plan (untaken topic e).0);
    names = λ topic e. sym (stays topic e);
    long = λ topic e none.
        absurd (let q : Some topic ≡ None = sym (stays topic e) ∙ none in cc);
    marks = rest_fails is_mark marks_fail (fit_all plan h);
    short = rest_fails is_long long_fail (fit_all plan h);
  }

  -- a topic that keeps its name, since no rule is about it, is of the rest
  pub rest_has : (topic name : List ℕ) → list_any (takes topic) plan ≡ false
      → new_name plan topic ≡ Some name → (not (is_taken taken topic) && true) ≡ true
  rest_has topic name h e =
      ap (λ b. not b && true)
      (taken_both (map left_of plan) (rights_of plan) topic
      ∙ or_from (is_taken (map left_of plan) topic) (is_taken (rights_of plan) topic)
      (taken_lefts topic plan ∙ h) (taken_rights topic plan
      ∙ at (list_any (plans.is_taken topic) plan)
      (sym (ap (λ o. decided_name o plan topic) (find_none (takes topic) plan h)) ∙ e)))
    where
      at : (b : Bool) → cond b None (Some topic) ≡ Some name → b ≡ false
      at true e = absurd (let q : None ≡ Some name = e in cc)
      at false e = refl

-- ---- without the topics of one more filter
pub narrower : (rules : List PlanRule) (filter : List ℕ) (kind : RegionKind)
    → has_mark (levels filter) ≡ false → has_long (levels filter) ≡ false
    → IsOfPlan rules [] kind → IsOfPlan rules (filter ∷ []) kind
narrower rules filter kind m s is = record {
  line = is.line;
  lines = λ topic e. is.lines topic (inside topic e);
  names = λ topic e. is.names topic (inside topic e);
  long = λ topic e. is.long topic (inside topic e);
  marks = fails is_mark m is.marks;
  short = fails is_long s is.short;
}
  where
    inside : (topic : List ℕ) → (not (is_taken (filter ∷ []) topic) && in_kind kind topic) ≡ true
        → in_kind kind topic ≡ true
    inside topic e = (and_parts (not (is_taken (filter ∷ []) topic)) (in_kind kind topic) e).1

    fails : (p : List ℕ → Bool) → list_any p (levels filter) ≡ false
        → list_any p (kind_levels kind) ≡ false
        → list_any p (flat_map levels (filter ∷ []) ++ kind_levels kind) ≡ false
    fails p h k =
        ap (λ ls. list_any p (ls ++ kind_levels kind)) (append-nil (levels filter))
        ∙ list_any-append p (levels filter) (kind_levels kind)
        ∙ or_from (list_any p (levels filter)) (list_any p (kind_levels kind)) h k

-- no topic is matched by both
apart_levels : (ls : List (List ℕ)) → levels_match (levels (codes "$")) ls ≡ true
    → levels_match (levels (codes "x")) ls ≡ false
apart_levels [] e = refl
apart_levels (l ∷ []) e =
    let here = (and_parts (level_matches (codes "$") l) true e).0 in
    ap (λ t. level_matches (codes "x") t && true) (sym (text_is (codes "$") l here))
apart_levels (l ∷ m ∷ ls) e = and-false (level_matches (codes "x") l)

pub apart : (topic : List ℕ) → matches (levels (codes "$")) (levels topic) ≡ true
    → matches (levels (codes "x")) (levels topic) ≡ false
apart topic e = matches_not (levels (codes "x")) (levels topic)
    (apart_levels (levels topic)
    (matches_parts (levels (codes "$")) (levels topic) e).1)
