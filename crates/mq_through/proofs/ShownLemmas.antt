-- What is shown of a question.
use Rattle.std.proofs.Common.{◌≡◌, ◌==◌, ℕ, Bool, true, false, cond, not, ◌&&◌, ◌||◌}
use Rattle.std.proofs.Common.{List, [], ◌∷◌, ◌++◌, refl, ap, sym, ◌∙◌, subst, All}
use Rattle.std.proofs.Common.{Option, Some, None, arith, string_bytes}
use Rattle.std.specs.List.{list_any}
use Rattle.std.specs.Str.{bytes_eq}
use Rattle.std.proofs.Math.Bool.{or-true}
use Rattle.std.proofs.lemmas.Bool.{and_from, and_parts, eqb-true}
use Rattle.std.proofs.lemmas.Bool.Decides.{nat_tests}
use Rattle.std.proofs.lemmas.List.Elements.{All-append, All-cons, All-nil}
use Rattle.std.proofs.lemmas.List.Folds.{list_any-append}
use Rattle.std.proofs.lemmas.List.Quantifiers.{all_pairs_push}
use Rattle.mq_topic.proofs.ByteLemmas.{text_is}
use Rattle.mq_acl.specs.Access.{begins_with_dollar}
use Rattle.mq_acl.specs.Rows.{AclRow}
use Rattle.mq_acl.specs.Views.{row_views}
use Rattle.mq_acl.specs.declared.access.Direction.{Direction}
use Rattle.mq_acl.specs.declared.access.Direction.TheVariants.{Reading, Writing}
use Rattle.mq_acl.specs.declared.row.Row.{Row}
use Rattle.mq_differences.specs.Classes.{is_in, is_listed}
use Rattle.mq_differences.specs.Differences.{same_class, same_direction, same_reason, same_start}
use Rattle.mq_differences.specs.Differences.{same_way}
use Rattle.mq_differences.specs.declared.class.Class.{Class}
use Rattle.mq_differences.specs.declared.class.Class.TheVariants.{Anonymous, User, Others}
use Rattle.mq_differences.specs.declared.way.Way.{Way}
use Rattle.mq_differences.specs.declared.way.Way.TheVariants.{Gained, Lost}
use Rattle.mq_differences.proofs.FirstLemmas.{none_at}
use Rattle.mq_differences.proofs.ReportLemmas.{reason_is}
use Rattle.mq_plan.specs.declared.rule.PlanRule.{PlanRule}
use Rattle.mq_through.specs.Through.{AreApart, IsReal, Question, is_alike, is_shown_of, new_reason}
use Rattle.mq_through.specs.Through.{old_reason, rule_line, same_line}
use Rattle.mq_through.specs.Tried.{Grows}
use Rattle.mq_through.specs.declared.renamed.Renamed.{Renamed}

-- ---- what passes the tests is the same
way_is : (a b : Way) → same_way a b ≡ true → a ≡ b
way_is Gained Gained e = refl
way_is Gained Lost e = absurd (let q : false ≡ true = e in cc)
way_is Lost Gained e = absurd (let q : false ≡ true = e in cc)
way_is Lost Lost e = refl

direction_is : (a b : Direction) → same_direction a b ≡ true → a ≡ b
direction_is Reading Reading e = refl
direction_is Reading Writing e = absurd (let q : false ≡ true = e in cc)
direction_is Writing Reading e = absurd (let q : false ≡ true = e in cc)
direction_is Writing Writing e = refl

start_is : (a b : List ℕ) → same_start a b ≡ true → begins_with_dollar a ≡ begins_with_dollar b
start_is a b e = at (begins_with_dollar a) (begins_with_dollar b) e
  where
    at : (x y : Bool) → cond x y (not y) ≡ true → x ≡ y
    at true true e = refl
    at true false e = absurd (let q : false ≡ true = e in cc)
    at false true e = absurd (let q : false ≡ true = e in cc)
    at false false e = refl

line_is : (a b : Option ℕ) → same_line a b ≡ true → a ≡ b
line_is None None e = refl
line_is None (Some m) e = absurd (let q : false ≡ true = e in cc)
line_is (Some n) None e = absurd (let q : false ≡ true = e in cc)
line_is (Some n) (Some m) e = ap (λ k. Some k) (eqb-true n m e)

pub line_itself : (a : Option ℕ) → same_line a a ≡ true
line_itself None = refl
line_itself (Some n) = nat_itself n
  where
    nat_itself : (n : ℕ) → (n == n) ≡ true
    nat_itself n = grind (arith, nat_tests)

class_has : (old new : List AclRow) (user : Option (List ℕ)) (a b : Class)
    → same_class a b ≡ true → is_in old new user a ≡ true → is_in old new user b ≡ true
class_has old new user Anonymous Anonymous e h = h
class_has old new user Anonymous (User m) e h = absurd (let q : false ≡ true = e in cc)
class_has old new user Anonymous (Others m) e h = absurd (let q : false ≡ true = e in cc)
class_has old new user (User n) Anonymous e h = absurd (let q : false ≡ true = e in cc)
class_has old new None (User n) (User m) e h = h
class_has old new (Some user) (User n) (User m) e h =
    ap (λ t. bytes_eq user t && is_listed old new user)
    (sym (text_is (string_bytes n) (string_bytes m) e)) ∙ h
class_has old new user (User n) (Others m) e h = absurd (let q : false ≡ true = e in cc)
class_has old new user (Others n) Anonymous e h = absurd (let q : false ≡ true = e in cc)
class_has old new user (Others n) (User m) e h = absurd (let q : false ≡ true = e in cc)
class_has old new None (Others n) (Others m) e h = h
class_has old new (Some user) (Others n) (Others m) e h = h

-- ---- seven tests, the one behind the other
pub record AreSeven (a b c d e f g : Bool) : Type 0 where
  pub class : a ≡ true
  pub direction : b ≡ true
  pub way : c ≡ true
  pub start : d ≡ true
  pub old_line : e ≡ true
  pub new_line : f ≡ true
  pub rule : g ≡ true

pub seven_parts : (a b c d e f g : Bool) → (a && b && c && d && e && f && g) ≡ true
    → AreSeven a b c d e f g
seven_parts a b c d e f g h =
    let h7 = and_parts (a && b && c && d && e && f) g h in
    let h6 = and_parts (a && b && c && d && e) f h7.0 in
    let h5 = and_parts (a && b && c && d) e h6.0 in
    let h4 = and_parts (a && b && c) d h5.0 in
    let h3 = and_parts (a && b) c h4.0 in
    let h2 = and_parts a b h3.0 in
    record {
      class = h2.0;
      direction = h2.1;
      way = h3.1;
      start = h4.1;
      old_line = h5.1;
      new_line = h6.1;
      rule = h7.1;
    }

pub seven_from : (a b c d e f g : Bool) → AreSeven a b c d e f g
    → (a && b && c && d && e && f && g) ≡ true
seven_from a b c d e f g s =
    and_from (a && b && c && d && e && f) g
    (and_from (a && b && c && d && e) f
    (and_from (a && b && c && d) e
    (and_from (a && b && c) d
    (and_from (a && b) c (and_from a b s.class s.direction) s.way) s.start) s.old_line)
    s.new_line) s.rule

module _ (plan : List PlanRule) (old new : List Row) where
  abbrev pub Shows : Way → Question → Renamed → Type 0
  Shows way q r = AreSeven
      (is_in (row_views old) (row_views new) q.user r.difference.class)
      (same_direction q.direction r.difference.direction)
      (same_way way r.difference.way)
      (same_start q.topic r.difference.topic)
      (same_reason (old_reason old q) r.difference.old_reason)
      (same_reason (new_reason new q) r.difference.new_reason)
      (same_line (rule_line plan q.topic) r.rule)

  pub shows : (way : Way) (q : Question) (r : Renamed)
      → is_shown_of plan old new way q r ≡ true → Shows way q r
  shows way q r h = seven_parts
      (is_in (row_views old) (row_views new) q.user r.difference.class)
      (same_direction q.direction r.difference.direction)
      (same_way way r.difference.way)
      (same_start q.topic r.difference.topic)
      (same_reason (old_reason old q) r.difference.old_reason)
      (same_reason (new_reason new q) r.difference.new_reason)
      (same_line (rule_line plan q.topic) r.rule) h

  pub shown : (way : Way) (q : Question) (r : Renamed) → Shows way q r
      → is_shown_of plan old new way q r ≡ true
  shown way q r s = seven_from
      (is_in (row_views old) (row_views new) q.user r.difference.class)
      (same_direction q.direction r.difference.direction)
      (same_way way r.difference.way)
      (same_start q.topic r.difference.topic)
      (same_reason (old_reason old q) r.difference.old_reason)
      (same_reason (new_reason new q) r.difference.new_reason)
      (same_line (rule_line plan q.topic) r.rule) s

  -- what is like one that speaks of it speaks of it
  alike_shows : (way : Way) (q : Question) (r s : Renamed) → is_alike r s ≡ true
      → is_shown_of plan old new way q r ≡ true → is_shown_of plan old new way q s ≡ true
  alike_shows way q r s e h =
      let t = shows way q r h in
      let a = seven_parts
      (same_class r.difference.class s.difference.class)
      (same_direction r.difference.direction s.difference.direction)
      (same_way r.difference.way s.difference.way)
      (same_start r.difference.topic s.difference.topic)
      (same_reason r.difference.old_reason s.difference.old_reason)
      (same_reason r.difference.new_reason s.difference.new_reason)
      (same_line r.rule s.rule) e in
      shown way q s (record {
        class = class_has (row_views old) (row_views new) q.user r.difference.class
            s.difference.class a.class t.class;
        direction = ap (same_direction q.direction)
            (sym (direction_is r.difference.direction s.difference.direction a.direction))
            ∙ t.direction;
        way = ap (same_way way) (sym (way_is r.difference.way s.difference.way a.way)) ∙ t.way;
        start = ap (λ b. cond (begins_with_dollar q.topic) b (not b))
            (sym (start_is r.difference.topic s.difference.topic a.start)) ∙ t.start;
        old_line = ap (same_reason (old_reason old q))
            (sym (reason_is r.difference.old_reason s.difference.old_reason a.old_line))
            ∙ t.old_line;
        new_line = ap (same_reason (new_reason new q))
            (sym (reason_is r.difference.new_reason s.difference.new_reason a.new_line))
            ∙ t.new_line;
        rule = ap (same_line (rule_line plan q.topic)) (sym (line_is r.rule s.rule a.rule))
            ∙ t.rule;
      })

  any_alike : (way : Way) (q : Question) (r : Renamed) (all : List Renamed)
      → list_any (is_alike r) all ≡ true → is_shown_of plan old new way q r ≡ true
      → list_any (is_shown_of plan old new way q) all ≡ true
  any_alike way q r [] e h = absurd (let k : false ≡ true = e in cc)
  any_alike way q r (s ∷ all) e h =
      at (is_alike r s) refl e (λ k. any_alike way q r all k h)
    where
      at : (b : Bool) → is_alike r s ≡ b → (b || list_any (is_alike r) all) ≡ true
          → (list_any (is_alike r) all ≡ true
          → list_any (is_shown_of plan old new way q) all ≡ true)
          → (is_shown_of plan old new way q s || list_any (is_shown_of plan old new way q) all)
          ≡ true
      at true k e later = ap (λ b. b || list_any (is_shown_of plan old new way q) all)
          (alike_shows way q r s k h)
      at false k e later = ap (λ b. is_shown_of plan old new way q s || b) (later e)
          ∙ or-true (is_shown_of plan old new way q s)

  -- ---- one is added, unless one like it is there
  pub record Adds (r : Renamed) (before after : List Renamed) : Type 0 where
    pub is : after ≡ cond (list_any (is_alike r) before) before (before ++ (r ∷ []))

  module _ (r : Renamed) (before after : List Renamed) (a : Adds r before after) where
    pub adds_kept : (way : Way) (q : Question)
        → list_any (is_shown_of plan old new way q) before ≡ true
        → list_any (is_shown_of plan old new way q) after ≡ true
    adds_kept way q h =
        ap (list_any (is_shown_of plan old new way q)) a.is ∙ at (list_any (is_alike r) before)
      where
        at : (b : Bool) → list_any (is_shown_of plan old new way q)
            (cond b before (before ++ (r ∷ []))) ≡ true
        at true = h
        at false =
            list_any-append (is_shown_of plan old new way q) before (r ∷ [])
            ∙ ap (λ b. b || list_any (is_shown_of plan old new way q) (r ∷ [])) h

    pub adds_shown : (way : Way) (q : Question) → is_shown_of plan old new way q r ≡ true
        → list_any (is_shown_of plan old new way q) after ≡ true
    adds_shown way q h =
        ap (list_any (is_shown_of plan old new way q)) a.is
        ∙ at (list_any (is_alike r) before) refl
      where
        at : (b : Bool) → list_any (is_alike r) before ≡ b
            → list_any (is_shown_of plan old new way q)
            (cond b before (before ++ (r ∷ []))) ≡ true
        at true e = any_alike way q r before e h
        at false e =
            list_any-append (is_shown_of plan old new way q) before (r ∷ [])
            ∙ ap (λ b. list_any (is_shown_of plan old new way q) before || (b || false)) h
            ∙ or-true (list_any (is_shown_of plan old new way q) before)

    pub adds_real : IsReal plan old new r → All (IsReal plan old new) before
        → All (IsReal plan old new) after
    adds_real h all = subst (All (IsReal plan old new)) (sym a.is)
        (at (list_any (is_alike r) before))
      where
        at : (b : Bool) → All (IsReal plan old new) (cond b before (before ++ (r ∷ [])))
        at true = all
        at false = All-append (IsReal plan old new) before (r ∷ []) all
            (All-cons (IsReal plan old new) r [] h (All-nil (IsReal plan old new)))

    pub adds_apart : AreApart before → AreApart after
    adds_apart h = subst AreApart (sym a.is) (at (list_any (is_alike r) before) refl)
      where
        at : (b : Bool) → list_any (is_alike r) before ≡ b
            → AreApart (cond b before (before ++ (r ∷ [])))
        at true e = h
        at false e = all_pairs_push (λ x y. is_alike y x ≡ false) before r h
            (none_at (is_alike r) before e)

  pub grows_itself : (all : List Renamed) → Grows plan old new all all
  grows_itself all = record {
    kept = λ way q h. h;
    real = λ h. h;
    apart = λ h. h;
  }

  pub grows_both : (xs ys zs : List Renamed) → Grows plan old new xs ys
      → Grows plan old new ys zs → Grows plan old new xs zs
  grows_both xs ys zs f g = record {
    kept = λ way q h. g.kept way q (f.kept way q h);
    real = λ h. g.real (f.real h);
    apart = λ h. g.apart (f.apart h);
  }
