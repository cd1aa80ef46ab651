-- Texts that pass a test.
use Rattle.std.proofs.Common.{◌≡◌, ℕ, Bool, true, false, ◌&&◌, ◌||◌, List, [], ◌∷◌, ◌++◌, refl, ap}
use Rattle.std.proofs.Common.{sym, ◌∙◌, String, Global, string_bytes}
use Rattle.std.specs.Str.{bytes_eq}
use Rattle.std.proofs.lemmas.List.Folds.{list_any-append}
use Rattle.mq_topic.proofs.ByteLemmas.{text_is}
use Rattle.mq_differences.specs.Differences.{has_text}

-- one more text, which passes the test
pub one_more : (p : List ℕ → Bool) (texts : List (String Global)) (added : String Global)
    (text other : List ℕ) → string_bytes added ≡ text → p text ≡ true
    → has_text (texts ++ (added ∷ [])) other
    ≡ (has_text texts other || (bytes_eq other text && p other))
one_more p texts added text other is h =
    list_any-append (λ t. bytes_eq other (string_bytes t)) texts (added ∷ [])
    ∙ ap (λ t. has_text texts other || (bytes_eq other t || false)) is
    ∙ ap (λ b. has_text texts other || b) (at (bytes_eq other text) refl)
  where
    at : (b : Bool) → bytes_eq other text ≡ b → (b || false) ≡ (b && p other)
    at true e = sym h ∙ ap p (sym (text_is other text e))
    at false e = refl
