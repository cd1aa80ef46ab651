-- Bindings by which terms agree.
use Rattle.std.proofs.Common.{◌≡◌, ℕ, Bool, true, false, ◌&&◌, List, [], ◌∷◌, Some, None}
use Rattle.std.proofs.Common.{refl, ap, sym, ◌∙◌, bytes_eq, Bor, length, arith}
use Rattle.std.proofs.Math.Bool.{and-false}
use Rattle.std.proofs.lemmas.Bool.{and_from, and_parts}
use Rattle.mq_topic.proofs.ByteLemmas.{text_flip}
use Rattle.mq_unify.specs.Bindings.{Holds, IsNormal, bindings_fit, bound}
use Rattle.mq_unify.specs.Bindings.{level_fits, level_of_term, text_of}
use Rattle.mq_unify.specs.Terms.{agree, agree_all, agree_with, all_agree, all_fit, are_equal}
use Rattle.mq_unify.specs.Terms.{terms_fit, term_fits, term_text}
use Rattle.mq_unify.specs.declared.term.Terms.{Terms}
use Rattle.mq_unify.specs.Unifying.{IsUnified}
use Rattle.mq_unify.specs.declared.binding.Level.{Level}
use Rattle.mq_unify.specs.declared.binding.Level.TheVariants.{Free, Known}
use Rattle.mq_unify.specs.declared.binding.Binding.{Binding}
use Rattle.mq_unify.specs.declared.term.Term.{Term}
use Rattle.mq_unify.specs.declared.term.Term.TheVariants.{Any, Text, Variable}
use Rattle.mq_unify.proofs.MostGeneral.{bound_fits}

-- the same of a test that says the same
pub unified_as : (older later : List Binding) (whole other : (ℕ → List ℕ) → Bool)
    (fits fit : (List ℕ → Bool) → Bool) → IsUnified older later whole fits
    → ((values : ℕ → List ℕ) → Holds values older → other values ≡ whole values)
    → ((test : List ℕ → Bool) → fit test ≡ true → bindings_fit test older ≡ true
    → fits test ≡ true)
    → IsUnified older later other fit
unified_as older later whole other fits fit is same fitting = record {
  forth = λ values holds h. is.forth values holds (sym (same values holds) ∙ h);
  back = λ values holds left.
      let before = is.back values holds left in
      (before.0, same values before.0 ∙ before.1);
  unlike = λ test u h. is.unlike test (fitting test u h) h;
}

-- a free level is made the same as another
pub free_first : (older later : List Binding) (n : ℕ) (one other : Level) → one ≡ Free n
    → IsUnified older later (λ values. bytes_eq (values n) (text_of values other))
    (λ test. level_fits test other)
    → IsUnified older later (λ values. bytes_eq (text_of values one) (text_of values other))
    (λ test. level_fits test one && level_fits test other)
free_first older later n one other e is = unified_as older later _ _ _ _ is
    (λ values h. ap (λ l. bytes_eq (text_of values l) (text_of values other)) e)
    (λ test u h. (and_parts (level_fits test one) (level_fits test other) u).1)

pub free_second : (older later : List Binding) (n : ℕ) (one other : Level) → other ≡ Free n
    → IsUnified older later (λ values. bytes_eq (values n) (text_of values one))
    (λ test. level_fits test one)
    → IsUnified older later (λ values. bytes_eq (text_of values one) (text_of values other))
    (λ test. level_fits test one && level_fits test other)
free_second older later n one other e is = unified_as older later _ _ _ _ is
    (λ values h. ap (λ l. bytes_eq (text_of values one) (text_of values l)) e
    ∙ text_flip (text_of values one) (values n))
    (λ test u h. (and_parts (level_fits test one) (level_fits test other) u).0)

-- what is the same as a text
pub text_first : (older later : List Binding) (text : Bor (List ℕ)) (one other : Level)
    → one ≡ Known text
    → IsUnified older later (λ values. bytes_eq text.now (text_of values other))
    (λ test. test text.now && level_fits test other)
    → IsUnified older later (λ values. bytes_eq (text_of values one) (text_of values other))
    (λ test. level_fits test one && level_fits test other)
text_first older later text one other e is = unified_as older later _ _ _ _ is
    (λ values h. ap (λ l. bytes_eq (text_of values l) (text_of values other)) e)
    (λ test u h. ap (λ l. level_fits test l && level_fits test other) (sym e) ∙ u)

-- ---- the levels of terms
-- a text is bound to nothing
pub known_bound : (bs : List Binding) (text : Bor (List ℕ)) → bound bs (Known text) ≡ Known text
known_bound [] text = refl
known_bound (b ∷ bs) text = known_bound bs text

-- what a term is bound to is bound to nothing else
pub term_bound : (bs : List Binding) (term : Term) (level : Level) → IsNormal bs
    → level_of_term bs term ≡ Some level → bound bs level ≡ level
term_bound bs Any level normal e = absurd (let k : None ≡ Some level = e in cc)
term_bound bs (Text t) level normal e =
    let is : Known t ≡ level = let k : Some (Known t) ≡ Some level = e in cc in
    ap (bound bs) (sym is) ∙ known_bound bs t ∙ is
term_bound bs (Variable i) level normal e =
    let is : bound bs (Free i) ≡ level =
    let k : Some (bound bs (Free i)) ≡ Some level = e in cc in
    by level is
  where
    by : (l : Level) → bound bs (Free i) ≡ l → bound bs l ≡ l
    by (Free n) f = normal i n f
    by (Known t) f = known_bound bs t

-- the text of a term is that of its level
level_text : (bs : List Binding) (values : ℕ → List ℕ) (term : Term) (level : Level)
    → Holds values bs → level_of_term bs term ≡ Some level
    → term_text values term ≡ Some (text_of values level)
level_text bs values Any level holds e = absurd (let k : None ≡ Some level = e in cc)
level_text bs values (Text t) level holds e =
    let is : Known t ≡ level = let k : Some (Known t) ≡ Some level = e in cc in
    ap (λ l. Some (text_of values l)) is
level_text bs values (Variable i) level holds e =
    let is : bound bs (Free i) ≡ level =
    let k : Some (bound bs (Free i)) ≡ Some level = e in cc in
    ap (λ t. Some t) (holds i) ∙ ap (λ l. Some (text_of values l)) is

pub agree_is : (bs : List Binding) (values : ℕ → List ℕ) (s t : Term) (one other : Level)
    → Holds values bs → level_of_term bs s ≡ Some one → level_of_term bs t ≡ Some other
    → agree values s t ≡ bytes_eq (text_of values one) (text_of values other)
agree_is bs values s t one other holds e f =
    (λ i. are_equal (level_text bs values s one holds e i) (level_text bs values t other holds f i))
    ∙ text_flip (text_of values other) (text_of values one)

level_passes : (bs : List Binding) (test : List ℕ → Bool) (term : Term) (level : Level)
    → level_of_term bs term ≡ Some level → term_fits test term ≡ true
    → bindings_fit test bs ≡ true → level_fits test level ≡ true
level_passes bs test Any level e u h = absurd (let k : None ≡ Some level = e in cc)
level_passes bs test (Text t) level e u h =
    let is : Known t ≡ level = let k : Some (Known t) ≡ Some level = e in cc in
    ap (level_fits test) (sym is) ∙ u
level_passes bs test (Variable i) level e u h =
    let is : bound bs (Free i) ≡ level =
    let k : Some (bound bs (Free i)) ≡ Some level = e in cc in
    ap (level_fits test) (sym is) ∙ bound_fits test bs (Free i) h refl

-- terms are the same where their levels are
pub terms_unified : (older later : List Binding) (s t : Term) (one other : Level)
    → level_of_term older s ≡ Some one → level_of_term older t ≡ Some other
    → IsUnified older later (λ values. bytes_eq (text_of values one) (text_of values other))
    (λ test. level_fits test one && level_fits test other)
    → IsUnified older later (λ values. agree values s t)
    (λ test. term_fits test s && term_fits test t)
terms_unified older later s t one other e f is = unified_as older later _ _ _ _ is
    (λ values h. agree_is older values s t one other h e f)
    (λ test u h.
    let both = and_parts (term_fits test s) (term_fits test t) u in
    and_from (level_fits test one) (level_fits test other)
    (level_passes older test s one e both.0 h) (level_passes older test t other f both.1 h))

-- ---- one behind the other
-- what both tests say
pub unified_both : (first mid last : List Binding) (one other : (ℕ → List ℕ) → Bool)
    (fits fit : (List ℕ → Bool) → Bool) → IsUnified first mid one fits
    → IsUnified mid last other fit
    → IsUnified first last (λ values. one values && other values)
    (λ test. fits test && fit test)
unified_both first mid last one other fits fit before behind = record {
  forth = λ values holds h.
      let both = and_parts (one values) (other values) h in
      behind.forth values (before.forth values holds both.0).0 both.1;
  back = λ values holds left.
      let later = behind.back values holds left in
      let now = before.back values later.0 refl in
      (now.0, and_from (one values) (other values) now.1 later.1);
  unlike = λ test u h.
      let both = and_parts (fits test) (fit test) u in
      behind.unlike test both.1 (before.unlike test both.0 h);
}

-- what both tests say together
pub none_behind : (first mid : List Binding) (one other : (ℕ → List ℕ) → Bool)
    (fits : (List ℕ → Bool) → Bool) → IsUnified first mid one fits
    → ((values : ℕ → List ℕ) → Holds values mid → other values ≡ false)
    → (values : ℕ → List ℕ) → Holds values first → (one values && other values) ≡ false
none_behind first mid one other fits before none values holds = at (one values) refl
  where
    at : (b : Bool) → one values ≡ b → (one values && other values) ≡ false
    at false e = ap (λ c. c && other values) e
    at true e = ap (λ c. one values && c) (none values (before.forth values holds e).0)
        ∙ and-false (one values)

-- nothing is to be unified
pub unified_none : (bs : List Binding) (whole : (ℕ → List ℕ) → Bool) (fits : (List ℕ → Bool) → Bool)
    → ((values : ℕ → List ℕ) → whole values ≡ true) → IsUnified bs bs whole fits
unified_none bs whole fits all = record {
  forth = λ values holds h. (holds, refl);
  back = λ values holds h. (holds, all values);
  unlike = λ test u h. h;
}

-- ---- the terms of two filters
module _ (one other : List Term) (x y : Term) (xs ys : List Term) (e : one ≡ x ∷ xs)
    (f : other ≡ y ∷ ys) where
  two_split : (values : ℕ → List ℕ)
      → all_agree values one other ≡ (agree values x y && all_agree values xs ys)
  two_split values = λ i. all_agree values (e i) (f i)

  pub two_unified : (first mid last : List Binding)
      → IsUnified first mid (λ values. agree values x y)
      (λ test. term_fits test x && term_fits test y)
      → IsUnified mid last (λ values. all_agree values xs ys)
      (λ test. terms_fit test xs && terms_fit test ys)
      → IsUnified first last (λ values. all_agree values one other)
      (λ test. terms_fit test one && terms_fit test other)
  two_unified first mid last before behind =
      unified_as first last _ _ _ _ (unified_both first mid last _ _ _ _ before behind)
      (λ values h. two_split values)
      (λ test u h.
      let both = and_parts (terms_fit test one) (terms_fit test other) u in
      let a = and_parts (term_fits test x) (terms_fit test xs)
      (ap (terms_fit test) (sym e) ∙ both.0) in
      let b = and_parts (term_fits test y) (terms_fit test ys)
      (ap (terms_fit test) (sym f) ∙ both.1) in
      and_from (term_fits test x && term_fits test y)
      (terms_fit test xs && terms_fit test ys)
      (and_from (term_fits test x) (term_fits test y) a.0 b.0)
      (and_from (terms_fit test xs) (terms_fit test ys) a.1 b.1))

  pub two_apart : (first : List Binding)
      → ((values : ℕ → List ℕ) → Holds values first → agree values x y ≡ false)
      → (values : ℕ → List ℕ) → Holds values first → all_agree values one other ≡ false
  two_apart first none values holds =
      two_split values ∙ ap (λ b. b && all_agree values xs ys) (none values holds)

  pub two_behind : (first mid : List Binding)
      → IsUnified first mid (λ values. agree values x y)
      (λ test. term_fits test x && term_fits test y)
      → ((values : ℕ → List ℕ) → Holds values mid → all_agree values xs ys ≡ false)
      → (values : ℕ → List ℕ) → Holds values first → all_agree values one other ≡ false
  two_behind first mid before none values holds =
      two_split values ∙ none_behind first mid _ _ _ before none values holds

pub short_one : (bs : List Binding) (one other : List Term) → length one ≡ 0
    → IsUnified bs bs (λ values. all_agree values one other)
    (λ test. terms_fit test one && terms_fit test other)
short_one bs [] other e = unified_none bs _ _ (λ values. refl)
short_one bs (x ∷ xs) other e = absurd (omega arith)

pub short_other : (bs : List Binding) (one other : List Term) → length other ≡ 0
    → IsUnified bs bs (λ values. all_agree values one other)
    (λ test. terms_fit test one && terms_fit test other)
short_other bs [] other e = unified_none bs _ _ (λ values. refl)
short_other bs (x ∷ xs) [] e = unified_none bs _ _ (λ values. refl)
short_other bs (x ∷ xs) (y ∷ ys) e = absurd (omega arith)

-- ---- the terms of several filters
-- `fixed` are the terms of the first, lent
module _ (all : List Terms) (x : Terms) (xs : List Terms) (e : all ≡ x ∷ xs) (terms : List Term)
    (fixed : List Term) (lent : fixed ≡ x.fixed.items) where
  pub with_unified : (first mid last : List Binding)
      → IsUnified first mid (λ values. all_agree values fixed terms)
      (λ test. terms_fit test fixed && terms_fit test terms)
      → IsUnified mid last (λ values. agree_with values terms xs)
      (λ test. all_fit test xs && terms_fit test terms)
      → IsUnified first last (λ values. agree_with values terms all)
      (λ test. all_fit test all && terms_fit test terms)
  with_unified first mid last before behind =
      unified_as first last _ _ _ _ (unified_both first mid last _ _ _ _ before behind)
      (λ values h. ap (agree_with values terms) e
      ∙ ap (λ l. all_agree values l terms && agree_with values terms xs) (sym lent))
      (λ test u h.
      let both = and_parts (all_fit test all) (terms_fit test terms) u in
      let a = and_parts (terms_fit test x.fixed.items) (all_fit test xs)
      (ap (all_fit test) (sym e) ∙ both.0) in
      and_from (terms_fit test fixed && terms_fit test terms)
      (all_fit test xs && terms_fit test terms)
      (and_from (terms_fit test fixed) (terms_fit test terms)
      (ap (terms_fit test) lent ∙ a.0) both.1)
      (and_from (all_fit test xs) (terms_fit test terms) a.1 both.1))

  pub with_apart : (first : List Binding)
      → ((values : ℕ → List ℕ) → Holds values first → all_agree values fixed terms ≡ false)
      → (values : ℕ → List ℕ) → Holds values first → agree_with values terms all ≡ false
  with_apart first none values holds = ap (agree_with values terms) e
      ∙ ap (λ l. all_agree values l terms && agree_with values terms xs) (sym lent)
      ∙ ap (λ b. b && agree_with values terms xs) (none values holds)

  pub with_behind : (first mid : List Binding)
      → IsUnified first mid (λ values. all_agree values fixed terms)
      (λ test. terms_fit test fixed && terms_fit test terms)
      → ((values : ℕ → List ℕ) → Holds values mid → agree_with values terms xs ≡ false)
      → (values : ℕ → List ℕ) → Holds values first → agree_with values terms all ≡ false
  with_behind first mid before none values holds = ap (agree_with values terms) e
      ∙ ap (λ l. all_agree values l terms && agree_with values terms xs) (sym lent)
      ∙ none_behind first mid _ _ _ before none values holds

module _ (some : List Terms) (x : Terms) (xs : List Terms) (e : some ≡ x ∷ xs) (all : List Terms)
    (fixed : List Term) (lent : fixed ≡ x.fixed.items) where
  pub all_unified : (first mid last : List Binding)
      → IsUnified first mid (λ values. agree_with values fixed all)
      (λ test. all_fit test all && terms_fit test fixed)
      → IsUnified mid last (λ values. agree_all values xs all)
      (λ test. all_fit test xs && all_fit test all)
      → IsUnified first last (λ values. agree_all values some all)
      (λ test. all_fit test some && all_fit test all)
  all_unified first mid last before behind =
      unified_as first last _ _ _ _ (unified_both first mid last _ _ _ _ before behind)
      (λ values h. ap (λ l. agree_all values l all) e
      ∙ ap (λ l. agree_with values l all && agree_all values xs all) (sym lent))
      (λ test u h.
      let both = and_parts (all_fit test some) (all_fit test all) u in
      let a = and_parts (terms_fit test x.fixed.items) (all_fit test xs)
      (ap (all_fit test) (sym e) ∙ both.0) in
      and_from (all_fit test all && terms_fit test fixed)
      (all_fit test xs && all_fit test all)
      (and_from (all_fit test all) (terms_fit test fixed) both.1
      (ap (terms_fit test) lent ∙ a.0))
      (and_from (all_fit test xs) (all_fit test all) a.1 both.1))

  pub all_apart : (first : List Binding)
      → ((values : ℕ → List ℕ) → Holds values first → agree_with values fixed all ≡ false)
      → (values : ℕ → List ℕ) → Holds values first → agree_all values some all ≡ false
  all_apart first none values holds = ap (λ l. agree_all values l all) e
      ∙ ap (λ l. agree_with values l all && agree_all values xs all) (sym lent)
      ∙ ap (λ b. b && agree_all values xs all) (none values holds)

  pub all_behind : (first mid : List Binding)
      → IsUnified first mid (λ values. agree_with values fixed all)
      (λ test. all_fit test all && terms_fit test fixed)
      → ((values : ℕ → List ℕ) → Holds values mid → agree_all values xs all ≡ false)
      → (values : ℕ → List ℕ) → Holds values first → agree_all values some all ≡ false
  all_behind first mid before none values holds = ap (λ l. agree_all values l all) e
      ∙ ap (λ l. agree_with values l all && agree_all values xs all) (sym lent)
      ∙ none_behind first mid _ _ _ before none values holds

pub no_terms : (bs : List Binding) (all : List Terms) (terms : List Term) → length all ≡ 0
    → IsUnified bs bs (λ values. agree_with values terms all)
    (λ test. all_fit test all && terms_fit test terms)
no_terms bs [] terms e = unified_none bs _ _ (λ values. refl)
no_terms bs (x ∷ xs) terms e = absurd (omega arith)

pub none_of_all : (bs : List Binding) (some all : List Terms) → length some ≡ 0
    → IsUnified bs bs (λ values. agree_all values some all)
    (λ test. all_fit test some && all_fit test all)
none_of_all bs [] all e = unified_none bs _ _ (λ values. refl)
none_of_all bs (x ∷ xs) all e = absurd (omega arith)
