-- For which clients an answer is, behind its text.
use Rattle.std.proofs.Common.{◌≡◌, ◌++◌, ◌∙◌, ℕ, List, ap, append-nil, refl, sym}
use Rattle.mq_acl.specs.declared.rules.Rules.{Rules}
use Rattle.mq_acl.specs.declared.rules.Rules.TheVariants.{Mosquitto, Own}
use Rattle.mq_ask.specs.Objects.{limit_by, limit_text}

-- it stands there where by these rules others are left out
pub with_limit : (rules : Rules) (before after shown : List ℕ) → before ≡ shown
    → (rules ≡ Own → after ≡ before) → (rules ≡ Mosquitto → after ≡ before ++ limit_text)
    → after ≡ shown ++ limit_by rules
with_limit Own before after shown is whole object = whole refl ∙ is ∙ sym (append-nil shown)
with_limit Mosquitto before after shown is whole object =
    object refl ∙ ap (λ t. t ++ limit_text) is
