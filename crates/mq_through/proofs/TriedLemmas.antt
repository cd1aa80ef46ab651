-- The client ids that are tried.
use Rattle.std.proofs.Common.{◌≡◌, ℕ, Bool, true, false, not, ◌&&◌, ◌||◌, List, [], ◌∷◌, refl, ap}
use Rattle.std.proofs.Common.{sym}
use Rattle.std.proofs.Common.{◌∙◌, subst, Bor, Option, Some, None}
use Rattle.std.specs.List.{list_any}
use Rattle.std.specs.Str.{bytes_eq}
use Rattle.std.proofs.lemmas.Bool.{and_from, or_left, or_right}
use Rattle.std.proofs.lemmas.List.Elements.{All-cons, All-nil}
use Rattle.mq_topic.specs.Levels.{levels}
use Rattle.mq_topic.specs.Matching.{is_wildcard}
use Rattle.mq_topic.proofs.ByteLemmas.{text_is, text_itself}
use Rattle.mq_acl.specs.Rows.{AclRow}
use Rattle.mq_acl.specs.Views.{row_views}
use Rattle.mq_acl.specs.declared.row.Row.{Row}
use Rattle.mq_plan.specs.Names.{left_of, rename_of}
use Rattle.mq_plan.specs.declared.rule.PlanRule.{PlanRule}
use Rattle.mq_rename.specs.Renames.{Renaming}
use Rattle.mq_witness.specs.Literals.{is_among, is_literal_in}
use Rattle.mq_witness.specs.Rows.{is_name_of, row_names, rows_name}
use Rattle.mq_through.specs.Clients.{AreTried, IsFresh, Tries, ask_client, can_be_tried, has_tried}
use Rattle.mq_through.specs.Clients.{right_tries, row_tries, rule_tries}
use Rattle.mq_through.specs.Made.{IsClient}
use Rattle.mq_through.specs.Named.{is_named_in, plan_names, right_names}
use Rattle.mq_through.specs.Tried.{AreClients}
use Rattle.mq_through.specs.declared.comparison.Comparison.{Comparison}

-- ---- what is named is tried
literal_tried : (t : List ℕ) (ls : List (List ℕ)) → is_literal_in t ls ≡ true
    → can_be_tried t ≡ true → has_tried t ls ≡ true
literal_tried t [] h k = absurd (let q : false ≡ true = h in cc)
literal_tried t (l ∷ ls) h k =
    at (bytes_eq t l) (not (is_wildcard l)) refl refl h (λ j. literal_tried t ls j k)
  where
    at : (b w : Bool) → bytes_eq t l ≡ b → not (is_wildcard l) ≡ w
        → ((b && w) || is_literal_in t ls) ≡ true
        → (is_literal_in t ls ≡ true → has_tried t ls ≡ true) → has_tried t (l ∷ ls) ≡ true
    at true true e g j later = or_left (bytes_eq t l && (not (is_wildcard l) && can_be_tried l))
        (has_tried t ls)
        (and_from (bytes_eq t l) (not (is_wildcard l) && can_be_tried l) e
        (and_from (not (is_wildcard l)) (can_be_tried l) g
        (ap can_be_tried (sym (text_is t l e)) ∙ k)))
    at true false e g j later = or_right (bytes_eq t l && (not (is_wildcard l) && can_be_tried l))
        (has_tried t ls) (later j)
    at false w e g j later = or_right (bytes_eq t l && (not (is_wildcard l) && can_be_tried l))
        (has_tried t ls) (later j)

row_tried : (t : List ℕ) (row : AclRow) → row_names t row ≡ true → can_be_tried t ≡ true
    → row_tries t row ≡ true
row_tried t row h k = at (is_literal_in t (levels row.filter)) refl h
  where
    at : (b : Bool) → is_literal_in t (levels row.filter) ≡ b
        → (b || is_name_of t row.who) ≡ true → row_tries t row ≡ true
    at true e g = or_left (has_tried t (levels row.filter))
        (is_name_of t row.who && can_be_tried t) (literal_tried t (levels row.filter) e k)
    at false e g = or_right (has_tried t (levels row.filter))
        (is_name_of t row.who && can_be_tried t)
        (and_from (is_name_of t row.who) (can_be_tried t) g k)

pub rows_tried : (t : List ℕ) (rows : List AclRow) → rows_name t rows ≡ true
    → can_be_tried t ≡ true → list_any (row_tries t) rows ≡ true
rows_tried t [] h k = absurd (let q : false ≡ true = h in cc)
rows_tried t (row ∷ rows) h k = at (row_names t row) refl h (λ g. rows_tried t rows g k)
  where
    at : (b : Bool) → row_names t row ≡ b → (b || rows_name t rows) ≡ true
        → (rows_name t rows ≡ true → list_any (row_tries t) rows ≡ true)
        → list_any (row_tries t) (row ∷ rows) ≡ true
    at true e g later = or_left (row_tries t row) (list_any (row_tries t) rows)
        (row_tried t row e k)
    at false e g later = or_right (row_tries t row) (list_any (row_tries t) rows) (later g)

right_tried : (t : List ℕ) (o : Option Renaming) → right_names t o ≡ true
    → can_be_tried t ≡ true → right_tries t o ≡ true
right_tried t None h k = absurd (let q : false ≡ true = h in cc)
right_tried t (Some r) h k = literal_tried t (levels r.right) h k

pub rules_tried : (t : List ℕ) (plan : List PlanRule) → plan_names t plan ≡ true
    → can_be_tried t ≡ true → list_any (rule_tries t) plan ≡ true
rules_tried t [] h k = absurd (let q : false ≡ true = h in cc)
rules_tried t (rule ∷ plan) h k =
    at (is_literal_in t (levels (left_of rule))) (right_names t (rename_of rule)) refl refl h
    (λ j. rules_tried t plan j k)
  where
    at : (a b : Bool) → is_literal_in t (levels (left_of rule)) ≡ a
        → right_names t (rename_of rule) ≡ b → ((a || b) || plan_names t plan) ≡ true
        → (plan_names t plan ≡ true → list_any (rule_tries t) plan ≡ true)
        → list_any (rule_tries t) (rule ∷ plan) ≡ true
    at true b e g j later = or_left (rule_tries t rule) (list_any (rule_tries t) plan)
        (or_left (has_tried t (levels (left_of rule))) (right_tries t (rename_of rule))
        (literal_tried t (levels (left_of rule)) e k))
    at false true e g j later = or_left (rule_tries t rule) (list_any (rule_tries t) plan)
        (or_right (has_tried t (levels (left_of rule))) (right_tries t (rename_of rule))
        (right_tried t (rename_of rule) g k))
    at false false e g j later = or_right (rule_tries t rule) (list_any (rule_tries t) plan)
        (later j)

-- ---- what is among the clients
among_more : (t : List ℕ) (c : Bor (List ℕ)) (cs : List (Bor (List ℕ))) → c.now ≡ t
    → is_among t (c ∷ cs) ≡ true
among_more t c cs e = or_left (bytes_eq t c.now) (is_among t cs) (ap (bytes_eq t) e ∙ text_itself t)

-- one that stands for all
pub any_tried : (k : Comparison) (clients : List (Bor (List ℕ))) (one : Bor (List ℕ))
    (text : List ℕ) → clients ≡ one ∷ [] → one.now ≡ text → ask_client k ≡ false → IsClient text
    → AreTried k clients
any_tried k clients one text e f never is = record {
  any = λ g. (text, (ap (is_among text) e ∙ among_more text one [] f, is));
  fresh = λ g. absurd (let z : true ≡ false = sym g ∙ never in cc);
  named = λ g. absurd (let z : true ≡ false = sym g ∙ never in cc);
}

-- the two that nothing names, and all that is named
pub record AreEach (k : Comparison) (plain dollar : Bor (List ℕ)) : Type 0 where
  pub asks : ask_client k ≡ true
  pub plain_is : IsFresh k false plain.now
  pub dollar_is : IsFresh k true dollar.now

pub each_clients : (k : Comparison) (plain dollar : Bor (List ℕ))
    (first : List (Bor (List ℕ))) → first ≡ plain ∷ dollar ∷ [] → AreEach k plain dollar
    → AreClients first
each_clients k plain dollar first e each =
    subst AreClients (sym e)
    (All-cons P plain (dollar ∷ []) each.plain_is.client
    (All-cons P dollar [] each.dollar_is.client (All-nil P)))
  where
    P : Bor (List ℕ) → Type 0
    P client = IsClient client.now

pub each_tried : (k : Comparison) (plain dollar : Bor (List ℕ))
    (first clients : List (Bor (List ℕ))) (plan : List PlanRule) (old new : List Row)
    → first ≡ plain ∷ dollar ∷ [] → AreEach k plain dollar
    → plan ≡ k.plan.now → old ≡ k.old.now → new ≡ k.new.now
    → ((t : List ℕ) → is_among t clients
    ≡ (is_among t first || list_any (row_tries t) (row_views old)
    || list_any (row_tries t) (row_views new) || list_any (rule_tries t) plan))
    → AreTried k clients
each_tried k plain dollar first clients plan old new e each p o n among = record {
  any = λ g. absurd (let z : true ≡ false = sym each.asks ∙ g in cc);
  fresh = λ g. fresh;
  named = λ g t h j. among t
      ∙ at t (is_among t first) (rows_name t (row_views old)) (rows_name t (row_views new)) refl
      refl ((λ i. is_named_in (p i) (o i) (n i) t) ∙ h) j;
}
  where
    early : (t : List ℕ) → is_among t first ≡ true → is_among t clients ≡ true
    early t h = among t ∙ (λ i. h i || list_any (row_tries t) (row_views old)
        || list_any (row_tries t) (row_views new) || list_any (rule_tries t) plan)

    fresh : (b : Bool) → Tries (IsFresh k b) clients
    fresh true = (
      dollar.now,
      (
        early dollar.now (ap (is_among dollar.now) e
            ∙ or_right (bytes_eq dollar.now plain.now) (is_among dollar.now (dollar ∷ []))
            (among_more dollar.now dollar [] refl)),
        each.dollar_is,
      ),
    )
    fresh false = (
      plain.now,
      (
        early plain.now (ap (is_among plain.now) e
            ∙ among_more plain.now plain (dollar ∷ []) refl),
        each.plain_is,
      ),
    )

    from_old : (a b c d : Bool) → b ≡ true → (a || b || c || d) ≡ true
    from_old true b c d h = refl
    from_old false b c d h = (λ i. h i || c || d)

    from_new : (a b c d : Bool) → c ≡ true → (a || b || c || d) ≡ true
    from_new a b c d h = or_left (a || b || c) d (or_right (a || b) c h)

    at : (t : List ℕ) (a b c : Bool) → rows_name t (row_views old) ≡ b
        → rows_name t (row_views new) ≡ c → ((b || c) || plan_names t plan) ≡ true
        → can_be_tried t ≡ true
        → (a || list_any (row_tries t) (row_views old)
        || list_any (row_tries t) (row_views new) || list_any (rule_tries t) plan) ≡ true
    at t a true c i j h g = from_old a (list_any (row_tries t) (row_views old))
        (list_any (row_tries t) (row_views new)) (list_any (rule_tries t) plan)
        (rows_tried t (row_views old) i g)
    at t a false true i j h g = from_new a (list_any (row_tries t) (row_views old))
        (list_any (row_tries t) (row_views new)) (list_any (rule_tries t) plan)
        (rows_tried t (row_views new) j g)
    at t a false false i j h g = or_right (a || list_any (row_tries t) (row_views old)
        || list_any (row_tries t) (row_views new)) (list_any (rule_tries t) plan)
        (rules_tried t plan h g)
