-- A question with other texts in the place of those that nothing names.
use Rattle.std.proofs.Common.{◌≡◌, ℕ, Bool, true, false, cond, not, ◌&&◌, ◌||◌}
use Rattle.std.proofs.Common.{List, [], ◌∷◌, refl, ap, sym, ◌∙◌, All}
use Rattle.std.proofs.Common.{Option, Some, None, string_bytes}
use Rattle.std.specs.Prelude.{find}
use Rattle.std.specs.List.{list_any}
use Rattle.std.specs.Option.{option_map}
use Rattle.std.specs.Str.{bytes_eq}
use Rattle.std.proofs.lemmas.Bool.{and_from}
use Rattle.std.proofs.Math.Bool.{and-false}
use Rattle.std.proofs.lemmas.Bool.{or_left, or_parts, or_right}
use Rattle.std.proofs.lemmas.List.Elements.{All-cons, All-head, All-nil, All-tail}
use Rattle.mq_topic.specs.Levels.{levels}
use Rattle.mq_topic.specs.Texts.{is_name}
use Rattle.mq_topic.proofs.ByteLemmas.{text_is, text_itself}
use Rattle.mq_acl.specs.Access.{applies}
use Rattle.mq_acl.specs.Lines.{Access}
use Rattle.mq_acl.specs.Rows.{Who, Anonymous, Named, Everyone, AclRow}
use Rattle.mq_acl.specs.RowsByOwner.{is_everyones}
use Rattle.mq_acl.specs.Views.{access_view, owner_view, row_view, row_views}
use Rattle.mq_acl.specs.declared.row.Row.{Row}
use Rattle.mq_rename.specs.Lists.{has_long}
use Rattle.mq_plan.specs.Names.{left_of, rename_of}
use Rattle.mq_plan.specs.declared.rule.PlanRule.{PlanRule}
use Rattle.mq_regions.specs.Deciding.{decides, first_line}
use Rattle.mq_regions.specs.Regions.{has_mark, is_mark}
use Rattle.mq_witness.specs.Clients.{can_be_id}
use Rattle.mq_witness.specs.Literals.{is_literal_in}
use Rattle.mq_witness.specs.Rows.{is_name_of, is_user_of, row_names, rows_name}
use Rattle.mq_differences.specs.Classes.{can_be_user, is_in, is_listed}
use Rattle.mq_differences.specs.declared.class.Class.{Class}
use Rattle.mq_differences.specs.declared.class.Class.TheVariants as classes
use Rattle.mq_through.specs.Checks.{has_topic_mark, is_unfit, is_unfit_right, is_unfit_side}
use Rattle.mq_through.specs.Clients.{StandsFor, ask_client}
use Rattle.mq_through.specs.Clients.{is_named}
use Rattle.mq_through.specs.Named.{asks_client, plan_names, right_names, rule_names}
use Rattle.mq_through.specs.Made.{IsComparison}
use Rattle.mq_through.specs.Through.{IsQuestion, Question}
use Rattle.mq_through.specs.declared.comparison.Comparison.{Comparison}
use Rattle.mq_through.proofs.MoveLemmas.{IsKnownRow, IsMove, concerns_moved, moved, name_dollar}
use Rattle.mq_through.proofs.RenameLemmas.{IsKnownRule, plan_moved, rule_moved}
use Rattle.mq_through.proofs.PartLemmas.{fit_all}
use Rattle.mq_through.proofs.ReasonLemmas.{same_by_lines}
use Rattle.mq_through.proofs.NamedLemmas.{literal_mark, named_is_name}
use Rattle.mq_through.proofs.NamedLemmas.{unmarked, user_named}

-- ---- user names
-- there is one just where there was one; one that is named stays, and another becomes none that is
abbrev pub IsUserOf : (List ℕ → Bool) → Option (List ℕ) → Option (List ℕ) → Type 0
IsUserOf named None None = Unit {0}
IsUserOf named None (Some y) = ⊥
IsUserOf named (Some x) None = ⊥
IsUserOf named (Some x) (Some y) =
    (named x ≡ true → y ≡ x) × (named x ≡ false → named y ≡ false)

-- it is what is named just where it was
user_apart : (named : List ℕ → Bool) (x y w : List ℕ) → IsUserOf named (Some x) (Some y)
    → named w ≡ true → bytes_eq x w ≡ bytes_eq y w
user_apart named x y w o h = at (named x) refl
  where
    differs : (z : List ℕ) → named z ≡ false → bytes_eq z w ≡ false
    differs z e = by (bytes_eq z w) refl
      where
        by : (b : Bool) → bytes_eq z w ≡ b → b ≡ false
        by true g = absurd (let n : false ≡ true = sym e ∙ ap named (text_is z w g) ∙ h in cc)
        by false g = refl

    at : (b : Bool) → named x ≡ b → bytes_eq x w ≡ bytes_eq y w
    at true e = ap (λ z. bytes_eq z w) (sym (o.0 e))
    at false e = differs x e ∙ sym (differs y (o.1 e))

-- ---- one question
module _ (k : Comparison) (is : IsComparison k) (q : Question) (asked : IsQuestion k.plan.now q)
    (d : List ℕ) where
  abbrev asks : Bool
  asks = ask_client k

  abbrev named : List ℕ → Bool
  named t = is_named k t && not (is_mark t)

  module _ (v : Option (List ℕ)) (f : List ℕ → List ℕ)
      (m : IsMove named asks q.client d q.user v f) (users : IsUserOf named q.user v) where
    abbrev Known : Row → Type 0
    Known row = IsKnownRow named asks q.client d q.user v f m (row_view row)

    abbrev Plain : Row → Type 0
    Plain row = has_topic_mark (owner_view row.owner) row.filter ≡ false

    -- what a row names is named, but for marks of `pattern` rows
    names_known : (row : Row) → Plain row
        → ((t : List ℕ) → row_names t (row_view row) ≡ true → is_named k t ≡ true)
        → (asks ≡ false → asks_client (row_view row) ≡ false) → Known row
    names_known row plain has client = record {
      levels_known = λ t e. lit t (owner_view row.owner) plain
          (has t (or_left (is_literal_in t (levels row.filter))
          (is_name_of t (owner_view row.owner)) e)) e;
      client = client;
      applies_known = who q.user v users (owner_view row.owner) plain
          (λ t e. has t (or_right (is_literal_in t (levels row.filter))
          (is_name_of t (owner_view row.owner)) e));
    }
      where
        unmarked_is : (t : List ℕ) → is_named k t ≡ true → is_mark t ≡ false → named t ≡ true
        unmarked_is t i j = and_from (is_named k t) (not (is_mark t)) i (ap not j)

        lit : (t : List ℕ) (w : Who) → has_topic_mark w row.filter ≡ false
            → is_named k t ≡ true → is_literal_in t (levels row.filter) ≡ true
            → (named t || (is_everyones w && is_mark t)) ≡ true
        lit t Anonymous p i j = or_left (named t) false
            (unmarked_is t i (literal_mark t (levels row.filter) p j))
        lit t (Named name) p i j = or_left (named t) false
            (unmarked_is t i (literal_mark t (levels row.filter)
            (or_parts (has_mark (levels row.filter)) (is_mark name) p).0 j))
        lit t Everyone p i j = at (is_mark t) refl
          where
            at : (b : Bool) → is_mark t ≡ b → (named t || (true && is_mark t)) ≡ true
            at true g = or_right (named t) (true && is_mark t) g
            at false g = or_left (named t) (true && is_mark t) (unmarked_is t i g)

        who : (a b : Option (List ℕ)) → IsUserOf named a b → (w : Who)
            → has_topic_mark w row.filter ≡ false
            → ((t : List ℕ) → is_name_of t w ≡ true → is_named k t ≡ true)
            → applies a w ≡ applies b w
        who None None o Anonymous p h = refl
        who None None o (Named name) p h = refl
        who None None o Everyone p h = refl
        who None (Some y) o w p h = absurd o
        who (Some x) None o w p h = absurd o
        who (Some x) (Some y) o Anonymous p h = refl
        who (Some x) (Some y) o (Named name) p h =
            user_apart named x y name o
            (unmarked_is name (h name (text_itself name))
            (or_parts (has_mark (levels row.filter)) (is_mark name) p).1)
        who (Some x) (Some y) o Everyone p h = refl

    rows_known : (rows : List Row) → All Plain rows
        → ((t : List ℕ) → rows_name t (row_views rows) ≡ true → is_named k t ≡ true)
        → (asks ≡ false → list_any asks_client (row_views rows) ≡ false) → All Known rows
    rows_known [] p has client = All-nil Known
    rows_known (row ∷ rows) p has client =
        All-cons Known row rows
        (names_known row (All-head Plain row rows p)
        (λ t e. has t (or_left (row_names t (row_view row)) (rows_name t (row_views rows)) e))
        (λ e. (or_parts (asks_client (row_view row)) (list_any asks_client (row_views rows))
        (client e)).0))
        (rows_known rows (All-tail Plain row rows p)
        (λ t e. has t (or_right (row_names t (row_view row)) (rows_name t (row_views rows)) e))
        (λ e. (or_parts (asks_client (row_view row)) (list_any asks_client (row_views rows))
        (client e)).1))

    -- the rows decide alike about the name that is moved
    lines_moved : (rows : List Row) → All Known rows → (n : List ℕ) → is_name n ≡ true
        → (p : Access → Bool)
        → first_line p q.client q.user n rows ≡ first_line p d v (moved f n) rows
    lines_moved rows known n h p = ap (option_map (λ (r : Row). r.line)) (at rows known)
      where
        at : (rs : List Row) → All Known rs → find (decides p q.client q.user n) rs
            ≡ find (decides p d v (moved f n)) rs
        at [] a = refl
        at (row ∷ rs) a = (λ i. cond
            (concerns_moved named asks q.client d q.user v f m (row_view row)
            (All-head Known row rs a) n h i && p (access_view row.access)) (Some row)
            (at rs (All-tail Known row rs a) i))

    -- ---- rules
    abbrev KnownRule : PlanRule → Type 0
    KnownRule rule = IsKnownRule named asks q.client d q.user v f m rule

    rules_known : (plan : List PlanRule) → list_any is_unfit plan ≡ false
        → ((t : List ℕ) → plan_names t plan ≡ true → is_named k t ≡ true) → All KnownRule plan
    rules_known [] h has = All-nil KnownRule
    rules_known (rule ∷ plan) h has =
        let both = or_parts (is_unfit rule) (list_any is_unfit plan) h in
        let own = or_parts (is_unfit_side (left_of rule)) (is_unfit_right (rename_of rule))
        both.0 in
        All-cons KnownRule rule plan (record {
          left = λ t e. side (left_of rule) own.0 t e
              (or_left (is_literal_in t (levels (left_of rule)))
              (right_names t (rename_of rule)) e);
          right = λ r o t e. side r.right (sym (ap is_unfit_right o) ∙ own.1) t e
              (or_right (is_literal_in t (levels (left_of rule))) (right_names t (rename_of rule))
              (ap (right_names t) o ∙ e));
        })
        (rules_known plan both.1
        (λ t e. has t (or_right (rule_names t rule) (plan_names t plan) e)))
      where
        side : (g : List ℕ) → is_unfit_side g ≡ false → (t : List ℕ)
            → is_literal_in t (levels g) ≡ true → rule_names t rule ≡ true → named t ≡ true
        side g i t e n = and_from (is_named k t) (not (is_mark t))
            (has t (or_left (rule_names t rule) (plan_names t plan) n))
            (ap not (literal_mark t (levels g)
            (or_parts (has_long (levels g)) (has_mark (levels g)) i).1 e))

    -- ---- classes
    abbrev old : List AclRow
    old = row_views k.old.now

    abbrev new : List AclRow
    new = row_views k.new.now

    listed_named : (x : List ℕ) → is_listed old new x ≡ true → named x ≡ true
    listed_named x h = at (is_user_of x old) refl h
      where
        at : (b : Bool) → is_user_of x old ≡ b → (b || is_user_of x new) ≡ true → named x ≡ true
        at true e g =
            let found = user_named x k.old.now (unmarked k.old.now is.fit.old_plain) e in
            and_from (is_named k x) (not (is_mark x))
            (or_left (rows_name x old || rows_name x new) (plan_names x k.plan.now)
            (or_left (rows_name x old) (rows_name x new) found.0)) (ap not found.1)
        at false e g =
            let found = user_named x k.new.now (unmarked k.new.now is.fit.new_plain) g in
            and_from (is_named k x) (not (is_mark x))
            (or_left (rows_name x old || rows_name x new) (plan_names x k.plan.now)
            (or_right (rows_name x old) (rows_name x new) found.0)) (ap not found.1)

    unlisted : (x : List ℕ) → named x ≡ false → is_listed old new x ≡ false
    unlisted x h = at (is_listed old new x) refl
      where
        at : (b : Bool) → is_listed old new x ≡ b → b ≡ false
        at true e = absurd (let g : true ≡ false = sym (listed_named x e) ∙ h in cc)
        at false e = refl

    classes_moved : (a b : Option (List ℕ)) → IsUserOf named a b → (class : Class)
        → is_in old new b class ≡ is_in old new a class
    classes_moved None None o class = refl
    classes_moved None (Some y) o class = absurd o
    classes_moved (Some x) None o class = absurd o
    classes_moved (Some x) (Some y) o class = at (named x) refl
      where
        by : (c : Class) → is_listed old new y ≡ false → is_listed old new x ≡ false
            → is_in old new (Some y) c ≡ is_in old new (Some x) c
        by classes.Anonymous i j = refl
        by (classes.User name) i j =
            ap (λ b. bytes_eq y (string_bytes name) && b) i
            ∙ and-false (bytes_eq y (string_bytes name))
            ∙ sym (and-false (bytes_eq x (string_bytes name)))
            ∙ ap (λ b. bytes_eq x (string_bytes name) && b) (sym j)
        by (classes.Others name) i j = (λ n. not ((i ∙ sym j) n))

        at : (b : Bool) → named x ≡ b → is_in old new (Some y) class ≡ is_in old new (Some x) class
        at true e = ap (λ z. is_in old new (Some z) class) (o.0 e)
        at false e = by class (unlisted y (o.1 e)) (unlisted x e)

    -- ---- the question that it becomes
    abbrev pub moved_question : Question
    moved_question = record {
      client = d;
      user = v;
      direction = q.direction;
      topic = moved f q.topic;
      name = moved f q.name;
    }

    old_known : All Known k.old.now
    old_known = rows_known k.old.now (unmarked k.old.now is.fit.old_plain)
        (λ t e. or_left (rows_name t old || rows_name t new) (plan_names t k.plan.now)
        (or_left (rows_name t old) (rows_name t new) e))
        (λ e. (or_parts (list_any asks_client old) (list_any asks_client new) e).0)

    new_known : All Known k.new.now
    new_known = rows_known k.new.now (unmarked k.new.now is.fit.new_plain)
        (λ t e. or_left (rows_name t old || rows_name t new) (plan_names t k.plan.now)
        (or_right (rows_name t old) (rows_name t new) e))
        (λ e. (or_parts (list_any asks_client old) (list_any asks_client new) e).1)

    plan_known : All KnownRule k.plan.now
    plan_known = rules_known k.plan.now (fit_all k.plan.now is.fit.rules)
        (λ t e. or_right (rows_name t old || rows_name t new) (plan_names t k.plan.now) e)

    pub moved_stands : can_be_id d ≡ true → can_be_user v ≡ true
        → is_name (moved f q.topic) ≡ true → is_name (moved f q.name) ≡ true
        → StandsFor k.plan.now k.old.now k.new.now q moved_question
    moved_stands id user topic name = record {
      asked = record {
        client = id;
        user = user;
        topic = topic;
        name = plan_moved named asks q.client d q.user v f m q.topic asked.topic k.plan.now q.name
            plan_known name asked.name;
      };
      users = classes_moved q.user v users;
      direction = refl;
      start = name_dollar named asks q.client d q.user v f m q.topic asked.topic;
      old_same = sym (same_by_lines k.old.now q.client d q.user v q.topic (moved f q.topic)
          q.direction (lines_moved k.old.now old_known q.topic asked.topic));
      new_same = sym (same_by_lines k.new.now q.client d q.user v q.name (moved f q.name)
          q.direction (lines_moved k.new.now new_known q.name
          (named_is_name k.plan.now q.topic q.name asked.topic asked.name)));
      rule = ap (option_map (λ (r : PlanRule). r.line))
          (sym (rule_moved named asks q.client d q.user v f m q.topic asked.topic k.plan.now
          plan_known));
    }
