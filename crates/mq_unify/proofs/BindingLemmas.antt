-- One more level that is bound.
use Rattle.std.proofs.Common.{◌≡◌, ℕ, Bool, true, false, ◌&&◌, ◌==◌, List, [], ◌∷◌, ◌++◌}
use Rattle.std.proofs.Common.{refl, ap, sym, ◌∙◌, subst, if◌then◌else◌, arith}
use Rattle.std.proofs.Common.{bytes_eq}
use Rattle.std.proofs.lemmas.Bool.{and_from, and_parts}
use Rattle.std.proofs.lemmas.Bool.Decides.{nat_tests}
use Rattle.mq_topic.proofs.ByteLemmas.{text_is, text_itself}
use Rattle.mq_unify.specs.Unifying.{IsUnified}
use Rattle.mq_unify.specs.Bindings.{Holds, IsNormal, bindings_fit, bound, bound_by}
use Rattle.mq_unify.specs.Bindings.{level_fits, text_of}
use Rattle.mq_unify.specs.declared.binding.Level.{Level}
use Rattle.mq_unify.specs.declared.binding.Level.TheVariants.{Free, Known}
use Rattle.mq_unify.specs.declared.binding.Binding.{Binding}

pub bound-append : (bs : List Binding) (b : Binding) (level : Level)
    → bound (bs ++ b ∷ []) level ≡ bound_by (bound bs level) b
bound-append [] b level = refl
bound-append (a ∷ bs) b level = bound-append bs b (bound_by level a)

-- a level that is free, and one that it is not, which is bound to nothing else: the bindings stay normal
pub normal_push : (bs : List Binding) (b : Binding) → IsNormal bs
    → ((n : ℕ) → b.level ≡ Free n → (bound bs (Free n) ≡ Free n) × ((n == b.number) ≡ false))
    → IsNormal (bs ++ b ∷ [])
normal_push bs b normal apart i n e =
    bound-append bs b (Free n) ∙ by (bound bs (Free i)) refl (sym (bound-append bs b (Free i)) ∙ e)
  where
    kept : bound bs (Free n) ≡ Free n → (n == b.number) ≡ false
        → bound_by (bound bs (Free n)) b ≡ Free n
    kept f g = ap (λ l. bound_by l b) f ∙ ap (λ t. if t then b.level else Free n) g

    numbered : (m : ℕ) (t : Bool) → (m == b.number) ≡ t → bound bs (Free i) ≡ Free m
        → (if t then b.level else Free m) ≡ Free n → bound_by (bound bs (Free n)) b ≡ Free n
    numbered m true t f g = let a = apart n g in kept a.0 a.1
    numbered m false t f g =
        let same : m ≡ n = let h : Free m ≡ Free n = g in cc in
        kept (ap (λ k. bound bs (Free k)) (sym same) ∙ normal i m f ∙ ap (λ k. Free k) same)
        (ap (λ k. k == b.number) (sym same) ∙ t)

    by : (level : Level) → bound bs (Free i) ≡ level → bound_by level b ≡ Free n
        → bound_by (bound bs (Free n)) b ≡ Free n
    by (Free m) f g = numbered m (m == b.number) refl f g
    by (Known t) f g = absurd (let h : Known t ≡ Free n = g in cc)

module _ (values : ℕ → List ℕ) (bs : List Binding) (b : Binding) where
  text_bound_by : (level : Level) → values b.number ≡ text_of values b.level
      → text_of values (bound_by level b) ≡ text_of values level
  text_bound_by (Known t) e = refl
  text_bound_by (Free n) e = at (n == b.number) refl
    where
      at : (t : Bool) → (n == b.number) ≡ t
          → text_of values (if t then b.level else Free n) ≡ values n
      at true t = sym e ∙ ap values (sym (same t))
        where
          same : (n == b.number) ≡ true → n ≡ b.number
          same t = grind (arith, nat_tests)
      at false t = refl

  -- one more holds where it is so
  pub holds_push : Holds values bs → values b.number ≡ text_of values b.level
      → Holds values (bs ++ b ∷ [])
  holds_push holds e i = holds i
      ∙ sym (text_bound_by (bound bs (Free i)) e)
      ∙ ap (text_of values) (sym (bound-append bs b (Free i)))

  -- it is so where one more holds
  pub push_holds : bound bs (Free b.number) ≡ Free b.number → Holds values (bs ++ b ∷ [])
      → values b.number ≡ text_of values b.level
  push_holds free holds =
      holds b.number ∙ ap (text_of values) (bound-append bs b (Free b.number)
      ∙ ap (λ l. bound_by l b) free ∙ ap (λ t. if t then b.level else Free b.number) itself)
    where
      itself : (b.number == b.number) ≡ true
      itself = grind (arith, nat_tests)

  pub front_holds : bound bs (Free b.number) ≡ Free b.number → Holds values (bs ++ b ∷ [])
      → Holds values bs
  front_holds free holds i = holds i ∙ ap (text_of values) (bound-append bs b (Free i))
      ∙ text_bound_by (bound bs (Free i)) (push_holds free holds)

-- what a push that may fail leaves
pub normal_either : (bs all : List Binding) (b : Binding) (pushed : Bool) → IsNormal bs
    → ((n : ℕ) → b.level ≡ Free n → (bound bs (Free n) ≡ Free n) × ((n == b.number) ≡ false))
    → all ≡ (if pushed then bs ++ b ∷ [] else bs) → IsNormal all
normal_either bs all b true normal apart e = subst IsNormal (sym e) (normal_push bs b normal apart)
normal_either bs all b false normal apart e = subst IsNormal (sym e) normal

all_more : (test : List ℕ → Bool) (bs : List Binding) (b : Binding)
    → level_fits test b.level ≡ true → bindings_fit test bs ≡ true
    → bindings_fit test (bs ++ b ∷ []) ≡ true
all_more test [] b u h = ap (λ t. t && true) u
all_more test (a ∷ bs) b u h =
    let both = and_parts (level_fits test a.level) (bindings_fit test bs) h in
    and_from (level_fits test a.level) (bindings_fit test (bs ++ b ∷ [])) both.0
    (all_more test bs b u both.1)

-- a level that is bound is the same as what it is bound to
pub unified_push : (bs all : List Binding) (b : Binding) → bound bs (Free b.number) ≡ Free b.number
    → all ≡ bs ++ b ∷ []
    → IsUnified bs all (λ values. bytes_eq (values b.number) (text_of values b.level))
    (λ test. level_fits test b.level)
unified_push bs all b free e = subst
    (λ (l : List Binding). IsUnified bs l
    (λ values. bytes_eq (values b.number) (text_of values b.level))
    (λ test. level_fits test b.level)) (sym e) (record {
      forth = λ values holds same.
          (holds_push values bs b holds (text_is _ _ same), refl);
      back = λ values holds left. (
        front_holds values bs b free holds,
        ap (λ t. bytes_eq (values b.number) t) (sym (push_holds values bs b free holds))
            ∙ text_itself (values b.number),
      );
      unlike = λ test u h. all_more test bs b u h;
    })
