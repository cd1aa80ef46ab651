-- Texts that are found once.
use Rattle.std.proofs.Common.{◌≡◌, ℕ, Bool, true, false, ◌&&◌, ◌||◌, List, [], ◌∷◌, Bor, refl, ap}
use Rattle.std.proofs.Common.{◌∙◌, inl, inr, arith}
use Rattle.std.specs.List.{list_any, flat_map}
use Rattle.std.specs.Str.{bytes_eq}
use Rattle.std.proofs.lemmas.Bool.{or_cases, or_left, or_right}
use Rattle.mq_topic.proofs.ByteLemmas.{text_is}
use Rattle.mq_rename.specs.Lists.{texts}
use Rattle.std.proofs.lemmas.List.Folds.{list_any-append}
use Rattle.mq_topic.specs.Levels.{levels}

-- what passes for a text that is there passes for some of them
held_passes : (p : List ℕ → Bool) (ts : List (Bor (List ℕ))) (level : List ℕ)
    → list_any (λ (t : Bor (List ℕ)). bytes_eq t.now level) ts ≡ true → p level ≡ true
    → list_any p (texts ts) ≡ true
held_passes p [] level h e = absurd (let k : false ≡ true = h in cc)
held_passes p (t ∷ ts) level h e = elim (or_cases _ _ h) [
  | inl f ↦ or_left _ _ (ap p (text_is t.now level f) ∙ e)
  | inr k ↦ or_right (p t.now) _ (held_passes p ts level k e)
]

-- a text that is there adds nothing
added : (a b c : Bool) → (c ≡ true → a ≡ true) → a ≡ (a || (b && c))
added a b c f = grind arith

pub held_adds : (p : List ℕ → Bool) (ts : List (Bor (List ℕ))) (level : List ℕ) (own : Bool)
    → list_any (λ (t : Bor (List ℕ)). bytes_eq t.now level) ts ≡ true
    → list_any p (texts ts) ≡ (list_any p (texts ts) || (own && p level))
held_adds p ts level own h = added (list_any p (texts ts)) own (p level) (held_passes p ts level h)

-- ---- Long levels among many.
-- of the levels of lent filters some passes where one of a filter does
pub any_level : (p : List ℕ → Bool) (filters : List (Bor (List ℕ)))
    → list_any (λ (filter : Bor (List ℕ)). list_any p (levels filter.now)) filters
    ≡ list_any p (flat_map levels (texts filters))
any_level p [] = refl
any_level p (filter ∷ filters) = grind (arith, any_level p filters, list_any-append)
