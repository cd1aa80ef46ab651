-- The texts that bindings leave are the most general ones.
use Rattle.std.proofs.Common.{◌≡◌, ℕ, Bool, true, false, ◌==◌, List, [], ◌∷◌}
use Rattle.std.proofs.Common.{refl, ap, sym, ◌∙◌, if◌then◌else◌}
use Rattle.std.proofs.lemmas.Bool.{and_parts}
use Rattle.mq_unify.specs.Unlike.{fresh_text, is_unlike}
use Rattle.mq_unify.specs.Bindings.{Holds, IsNormal, bindings_fit, bound, bound_by}
use Rattle.mq_unify.specs.Bindings.{general_text, level_fits, text_of}
use Rattle.mq_unify.specs.declared.binding.Level.{Level}
use Rattle.mq_unify.specs.declared.binding.Level.TheVariants.{Free, Known}
use Rattle.mq_unify.specs.declared.binding.Binding.{Binding}
use Rattle.mq_unify.proofs.GeneralLemmas.{IsGeneral}
use Rattle.mq_unify.proofs.UnlikeLemmas.{fresh_apart, fresh_is, fresh_longer, itself_is}

-- what is known of a level passes a test that all bindings pass
module _ (test : List ℕ → Bool) where
  bound_by_fits : (b : Binding) (level : Level) → level_fits test b.level ≡ true
      → level_fits test level ≡ true → level_fits test (bound_by level b) ≡ true
  bound_by_fits b (Known t) u h = h
  bound_by_fits b (Free n) u h = at (n == b.number)
    where
      at : (t : Bool) → level_fits test (if t then b.level else Free n) ≡ true
      at true = u
      at false = refl

  pub bound_fits : (bs : List Binding) (level : Level) → bindings_fit test bs ≡ true
      → level_fits test level ≡ true → level_fits test (bound bs level) ≡ true
  bound_fits [] level u h = h
  bound_fits (b ∷ bs) level u h =
      let both = and_parts (level_fits test b.level) (bindings_fit test bs) u in
      bound_fits bs (bound_by level b) both.1 (bound_by_fits b level both.0 h)

module _ (prefix : List ℕ) where
  -- two levels with the same general text have the same one wherever that holds
  level_same : (a : ℕ → List ℕ) (c d : Level) → level_fits (is_unlike prefix) c ≡ true
      → level_fits (is_unlike prefix) d ≡ true
      → text_of (fresh_text prefix) c ≡ text_of (fresh_text prefix) d → text_of a c ≡ text_of a d
  level_same a (Free m) (Free n) u v e = ap a (fresh_apart prefix m n e)
  level_same a (Free m) (Known t) u v e =
      absurd (let k : false ≡ true = sym (fresh_is prefix m) ∙ ap (is_unlike prefix) e ∙ v in cc)
  level_same a (Known t) (Free n) u v e =
      absurd (let k : false ≡ true =
      sym (fresh_is prefix n) ∙ ap (is_unlike prefix) (sym e) ∙ u in cc)
  level_same a (Known t) (Known s) u v e = e

  level_known : (a : ℕ → List ℕ) (c : Level) (t : List ℕ) → is_unlike prefix t ≡ true
      → text_of (fresh_text prefix) c ≡ t → text_of a c ≡ t
  level_known a (Free n) t u e =
      absurd (let k : false ≡ true = sym (fresh_is prefix n) ∙ ap (is_unlike prefix) e ∙ u in cc)
  level_known a (Known s) t u e = e

  level_apart : (c : Level) → level_fits (is_unlike prefix) c ≡ true
      → text_of (fresh_text prefix) c ≡ prefix → ⊥
  level_apart (Free n) u e = fresh_longer prefix n e
  level_apart (Known t) u e =
      absurd (let k : false ≡ true =
      sym (itself_is prefix) ∙ ap (is_unlike prefix) (sym e) ∙ u in cc)

  -- where texts are as the bindings have it, those that the bindings leave are more general
  pub most_general : (bs : List Binding) (a : ℕ → List ℕ)
      → bindings_fit (is_unlike prefix) bs ≡ true
      → Holds a bs → IsGeneral prefix (general_text prefix bs) a
  most_general bs a u holds =
      let fit = λ (i : ℕ). bound_fits (is_unlike prefix) bs (Free i) u refl in
      record {
        same = λ i j e. holds i
            ∙ level_same a (bound bs (Free i)) (bound bs (Free j)) (fit i) (fit j) e
            ∙ sym (holds j);
        known = λ i t v e. holds i ∙ level_known a (bound bs (Free i)) t v e;
        apart = λ i e. level_apart (bound bs (Free i)) (fit i) e;
        unlike = itself_is prefix;
      }

  -- and they are as the bindings have it themselves
  pub general_holds : (bs : List Binding) → IsNormal bs → Holds (general_text prefix bs) bs
  general_holds bs normal i = at (bound bs (Free i)) refl
    where
      at : (c : Level) → bound bs (Free i) ≡ c
          → text_of (fresh_text prefix) c ≡ text_of (general_text prefix bs) c
      at (Known t) e = refl
      at (Free n) e = ap (text_of (fresh_text prefix)) (sym (normal i n e))
