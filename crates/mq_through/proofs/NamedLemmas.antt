-- What lists and plans name.
use Rattle.std.proofs.Common.{◌≡◌, ◌≤◌, ℕ, Bool, true, false, cond, not, ◌&&◌, ◌||◌}
use Rattle.std.proofs.Common.{List, [], ◌∷◌, length, refl, ap, sym, ◌∙◌, All}
use Rattle.std.proofs.Common.{Option, Some, None}
use Rattle.std.specs.Prelude.{find}
use Rattle.std.specs.List.{list_any}
use Rattle.std.specs.Option.{option_map}
use Rattle.std.specs.Str.{bytes_eq}
use Rattle.std.proofs.lemmas.Bool.{and_parts, ltb-false}
use Rattle.std.proofs.lemmas.Bool.{or_left, or_parts, or_right}
use Rattle.std.proofs.lemmas.List.Elements.{All-cons, All-head, All-nil, All-tail}
use Rattle.mq_topic.specs.Levels.{levels}
use Rattle.mq_topic.specs.Matching.{is_wildcard, matches}
use Rattle.mq_topic.specs.Texts.{is_name}
use Rattle.mq_topic.proofs.ByteLemmas.{text_is}
use Rattle.mq_acl.specs.Rows.{Who, Anonymous, Named, Everyone, AclRow}
use Rattle.mq_acl.specs.Views.{owner_view, row_view, row_views}
use Rattle.mq_acl.specs.declared.row.Row.{Row}
use Rattle.mq_rename.specs.Lists.{has_long, is_long}
use Rattle.mq_rename.specs.Renames.{Renaming}
use Rattle.mq_rename.specs.Renames as renames
use Rattle.mq_plan.specs.Names.{decided_name, left_of, name_in, new_name, rename_of, rule_for}
use Rattle.mq_plan.specs.Names as plans
use Rattle.mq_plan.specs.declared.rule.Act.{Act}
use Rattle.mq_plan.specs.declared.rule.Act.TheVariants.{Renamed, Kept, Gone}
use Rattle.mq_plan.specs.declared.rule.PlanRule.{PlanRule}
use Rattle.mq_regions.specs.Limits.{has_long_row, is_long_row, is_long_who}
use Rattle.mq_regions.specs.Regions.{has_mark, is_mark}
use Rattle.mq_witness.specs.Literals.{is_literal_in}
use Rattle.mq_witness.specs.Rows.{is_name_of, is_user_of, row_names, rows_name}
use Rattle.mq_through.specs.Checks.{has_topic_mark, is_unfit, is_unfit_right, is_unfit_side}
use Rattle.mq_through.specs.Checks.{marked_line}
use Rattle.mq_through.specs.Clients.{is_named}
use Rattle.mq_through.specs.Named.{plan_names, right_names}
use Rattle.mq_through.specs.Made.{IsComparison}
use Rattle.mq_through.specs.declared.comparison.Comparison.{Comparison}
use Rattle.mq_through.proofs.LimitLemmas.{none_long}
use Rattle.mq_through.proofs.PartLemmas.{fit_all}

pub short_is : (t : List ℕ) → is_long t ≡ false → length t ≤ 300
short_is t h = ltb-false 300 (length t) h

literal_short : (t : List ℕ) (ls : List (List ℕ)) → is_literal_in t ls ≡ true
    → has_long ls ≡ false → is_long t ≡ false
literal_short t [] h k = absurd (let q : false ≡ true = h in cc)
literal_short t (l ∷ ls) h k =
    at (bytes_eq t l) refl h
    (λ g. literal_short t ls g (or_parts (is_long l) (has_long ls) k).1)
  where
    at : (b : Bool) → bytes_eq t l ≡ b
        → ((b && not (is_wildcard l)) || is_literal_in t ls) ≡ true
        → (is_literal_in t ls ≡ true → is_long t ≡ false) → is_long t ≡ false
    at true e g later = ap is_long (text_is t l e) ∙ (or_parts (is_long l) (has_long ls) k).0
    at false e g later = later g

row_short : (t : List ℕ) (row : AclRow) → row_names t row ≡ true → is_long_row row ≡ false
    → is_long t ≡ false
row_short t row h k = at (is_literal_in t (levels row.filter)) refl h
  where
    both : (has_long (levels row.filter) ≡ false) × (is_long_who row.who ≡ false)
    both = or_parts (has_long (levels row.filter)) (is_long_who row.who) k

    of_who : (w : Who) → is_long_who w ≡ false → is_name_of t w ≡ true → is_long t ≡ false
    of_who Anonymous i j = absurd (let q : false ≡ true = j in cc)
    of_who (Named name) i j = ap is_long (text_is t name j) ∙ i
    of_who Everyone i j = absurd (let q : false ≡ true = j in cc)

    at : (b : Bool) → is_literal_in t (levels row.filter) ≡ b
        → (b || is_name_of t row.who) ≡ true → is_long t ≡ false
    at true e g = literal_short t (levels row.filter) e both.0
    at false e g = of_who row.who both.1 g

rows_short : (t : List ℕ) (rows : List AclRow) → rows_name t rows ≡ true
    → has_long_row rows ≡ false → is_long t ≡ false
rows_short t [] h k = absurd (let q : false ≡ true = h in cc)
rows_short t (row ∷ rows) h k =
    let both = or_parts (is_long_row row) (has_long_row rows) k in
    at (row_names t row) refl h both.0 (λ g. rows_short t rows g both.1)
  where
    at : (b : Bool) → row_names t row ≡ b → (b || rows_name t rows) ≡ true
        → is_long_row row ≡ false → (rows_name t rows ≡ true → is_long t ≡ false)
        → is_long t ≡ false
    at true e g i later = row_short t row e i
    at false e g i later = later g

plan_short : (t : List ℕ) (plan : List PlanRule) → plan_names t plan ≡ true
    → list_any is_unfit plan ≡ false → is_long t ≡ false
plan_short t [] h k = absurd (let q : false ≡ true = h in cc)
plan_short t (rule ∷ plan) h k =
    let both = or_parts (is_unfit rule) (list_any is_unfit plan) k in
    let own = or_parts (is_unfit_side (left_of rule)) (is_unfit_right (rename_of rule)) both.0 in
    at (is_literal_in t (levels (left_of rule))) refl (right_names t (rename_of rule)) refl h own.0
    (right (rename_of rule) own.1) (λ m. plan_short t plan m both.1)
  where
    side : (f : List ℕ) → is_unfit_side f ≡ false → is_literal_in t (levels f) ≡ true
        → is_long t ≡ false
    side f i j = literal_short t (levels f) j (or_parts (has_long (levels f))
        (has_mark (levels f)) i).0

    right : (o : Option Renaming) → is_unfit_right o ≡ false → right_names t o ≡ true
        → is_long t ≡ false
    right None i j = absurd (let q : false ≡ true = j in cc)
    right (Some r) i j = side r.right i j

    at : (a : Bool) → is_literal_in t (levels (left_of rule)) ≡ a → (b : Bool)
        → right_names t (rename_of rule) ≡ b → ((a || b) || plan_names t plan) ≡ true
        → is_unfit_side (left_of rule) ≡ false
        → (right_names t (rename_of rule) ≡ true → is_long t ≡ false)
        → (plan_names t plan ≡ true → is_long t ≡ false) → is_long t ≡ false
    at true e b g m i j n = side (left_of rule) i e
    at false e true g m i j n = j g
    at false e false g m i j n = n m

-- ---- marks
-- no row of a `topic` line has a mark
abbrev pub IsUnmarked : Row → Type 0
IsUnmarked row = has_topic_mark (owner_view row.owner) row.filter ≡ false

pub unmarked : (rows : List Row) → marked_line rows ≡ None → All IsUnmarked rows
unmarked [] h = All-nil IsUnmarked
unmarked (row ∷ rows) h =
    at (has_topic_mark (owner_view row.owner) row.filter) refl h (λ k. unmarked rows k)
  where
    at : (b : Bool) → has_topic_mark (owner_view row.owner) row.filter ≡ b
        → option_map (λ (r : Row). r.line) (cond b (Some row)
        (find (λ r. has_topic_mark (row_view r).who (row_view r).filter) rows)) ≡ None
        → (marked_line rows ≡ None → All IsUnmarked rows) → All IsUnmarked (row ∷ rows)
    at true e k later = absurd (let q : Some row.line ≡ None = k in cc)
    at false e k later = All-cons IsUnmarked row rows e (later k)

pub literal_mark : (t : List ℕ) (ls : List (List ℕ)) → has_mark ls ≡ false
    → is_literal_in t ls ≡ true → is_mark t ≡ false
literal_mark t [] h k = absurd (let q : false ≡ true = k in cc)
literal_mark t (l ∷ ls) h k =
    at (bytes_eq t l) refl k
    (λ g. literal_mark t ls (or_parts (is_mark l) (has_mark ls) h).1 g)
  where
    at : (b : Bool) → bytes_eq t l ≡ b
        → ((b && not (is_wildcard l)) || is_literal_in t ls) ≡ true
        → (is_literal_in t ls ≡ true → is_mark t ≡ false) → is_mark t ≡ false
    at true e g later = ap is_mark (text_is t l e) ∙ (or_parts (is_mark l) (has_mark ls) h).0
    at false e g later = later g

-- a user name that a row is for is named, and is no mark
pub user_named : (t : List ℕ) (rows : List Row) → All IsUnmarked rows
    → is_user_of t (row_views rows) ≡ true
    → (rows_name t (row_views rows) ≡ true) × (is_mark t ≡ false)
user_named t [] f h = absurd (let q : false ≡ true = h in cc)
user_named t (row ∷ rows) f h =
    at (is_name_of t (owner_view row.owner)) refl h
    (λ g. user_named t rows (All-tail IsUnmarked row rows f) g)
  where
    of_who : (w : Who) → has_topic_mark w row.filter ≡ false → is_name_of t w ≡ true
        → is_mark t ≡ false
    of_who Anonymous i j = absurd (let q : false ≡ true = j in cc)
    of_who (Named name) i j = ap is_mark (text_is t name j)
        ∙ (or_parts (has_mark (levels row.filter)) (is_mark name) i).1
    of_who Everyone i j = absurd (let q : false ≡ true = j in cc)

    at : (b : Bool) → is_name_of t (owner_view row.owner) ≡ b
        → (b || is_user_of t (row_views rows)) ≡ true
        → (is_user_of t (row_views rows) ≡ true
        → (rows_name t (row_views rows) ≡ true) × (is_mark t ≡ false))
        → (rows_name t (row_views (row ∷ rows)) ≡ true) × (is_mark t ≡ false)
    at true e g later = (
      or_left (row_names t (row_view row)) (rows_name t (row_views rows))
          (or_right (is_literal_in t (levels row.filter)) (is_name_of t (owner_view row.owner)) e),
      of_who (owner_view row.owner) (All-head IsUnmarked row rows f) e,
    )
    at false e g later =
        let more = later g in (
          or_right (row_names t (row_view row)) (rows_name t (row_views rows)) more.0,
          more.1,
        )

-- the new name of a topic is a name
pub named_is_name : (plan : List PlanRule) (topic name : List ℕ) → is_name topic ≡ true
    → new_name plan topic ≡ Some name → is_name name ≡ true
named_is_name plan topic name h e = at (rule_for plan topic) e
  where
    of_act : (act : Act) → name_in act topic ≡ Some name → is_name name ≡ true
    of_act (Renamed r) g =
        by (matches (levels r.left) (levels topic)) (is_name (renames.new_text r topic)) refl g
      where
        by : (a b : Bool) → is_name (renames.new_text r topic) ≡ b
            → cond (a && b) (Some (renames.new_text r topic)) None ≡ Some name
            → is_name name ≡ true
        by true true i j =
            let same : renames.new_text r topic ≡ name = cc in ap is_name (sym same) ∙ i
        by true false i j = absurd (let q : None ≡ Some name = j in cc)
        by false b i j = absurd (let q : None ≡ Some name = j in cc)
    of_act (Kept filter) g = let same : topic ≡ name = cc in ap is_name (sym same) ∙ h
    of_act (Gone filter) g = absurd (let q : None ≡ Some name = g in cc)

    at : (o : Option PlanRule) → decided_name o plan topic ≡ Some name → is_name name ≡ true
    at None g = by (list_any (plans.is_taken topic) plan) g
      where
        by : (b : Bool) → cond b None (Some topic) ≡ Some name → is_name name ≡ true
        by true j = absurd (let q : None ≡ Some name = j in cc)
        by false j = let same : topic ≡ name = cc in ap is_name (sym same) ∙ h
    at (Some rule) g = of_act rule.act g

-- ---- what is named is short
module _ (k : Comparison) (is : IsComparison k) where
  pub named_short : (t : List ℕ) → (is_named k t && not (is_mark t)) ≡ true → length t ≤ 300
  named_short t h = short_is t (at (rows_name t (row_views k.old.now))
      (rows_name t (row_views k.new.now)) refl refl
      (and_parts (is_named k t) (not (is_mark t)) h).0)
    where
      at : (a b : Bool) → rows_name t (row_views k.old.now) ≡ a
          → rows_name t (row_views k.new.now) ≡ b
          → ((a || b) || plan_names t k.plan.now) ≡ true → is_long t ≡ false
      at true b i j g = rows_short t (row_views k.old.now) i
          (none_long k.old.now is.fit.old_short)
      at false true i j g = rows_short t (row_views k.new.now) j
          (none_long k.new.now is.fit.new_short)
      at false false i j g = plan_short t k.plan.now g (fit_all k.plan.now is.fit.rules)
