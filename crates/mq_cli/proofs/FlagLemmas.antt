-- What `clap` reads of a flag.
use Rattle.std.proofs.Common.{◌≡◌, ◌∙◌, Bool, true, false, Option, Some, None, refl, sym, ap, codes}
use Rattle.std.specs.Prelude.{◌↔◌, IsTrue, unwrap_or}
use Rattle.std.specs.Str.Parse.{ParsesBool}
use Rattle.clap.specs.Words.{Text, ReadsOne}

inside : (s t : Text) → Some s ≡ Some t → s ≡ t
inside s t e = cc

is_false : (t : Text) → t ≡ codes "false" → t ≡ codes "true" → ⊥
is_false t e f = absurd (let bad : codes "false" ≡ codes "true" = sym e ∙ f in cc)

-- what `get_one` gives, or false, is whether the text that it reads is "true"
pub flag-given : (E : Type 0) (read : Option Text) (o : Option Bool) → (read ≡ None → o ≡ None)
    → ((t : Text) → read ≡ Some t → ReadsOne (ParsesBool {E = E}) t o)
    → IsTrue (unwrap_or o false) ↔ (read ≡ Some (codes "true"))
flag-given E None o absent there = (
  λ h. absurd (let bad : false ≡ true = ap (λ x. unwrap_or x false) (sym (absent refl)) ∙ h in cc),
  λ e. absurd (let bad : None ≡ Some (codes "true") = e in cc),
)
flag-given E (Some t) (Some true) absent there = (λ h. ap Some (there t refl), λ e. refl)
flag-given E (Some t) (Some false) absent there = (
  λ h. absurd (let bad : false ≡ true = h in cc),
  λ e. absurd (is_false t (there t refl) (inside t (codes "true") e)),
)
flag-given E (Some t) None absent there = (
  λ h. absurd (let bad : false ≡ true = h in cc),
  λ e. absurd ((there t refl).1.0 (inside t (codes "true") e)),
)
