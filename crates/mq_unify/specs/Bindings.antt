-- What is known of the levels that are looked for.
use Rattle.std.specs.Prelude.{◌≡◌, ℕ, Bool, true, false, List, [], ◌∷◌, ◌==◌, if◌then◌else◌}
use Rattle.std.specs.Prelude.{Option, Some, None}
use Rattle.std.specs.List.{list_all}
use Rattle.mq_unify.specs.Unlike.{fresh_text}
use Rattle.mq_unify.specs.declared.binding.Level.{Level}
use Rattle.mq_unify.specs.declared.binding.Level.TheVariants.{Free, Known}
use Rattle.mq_unify.specs.declared.binding.Binding.{Binding}
use Rattle.mq_unify.specs.declared.term.Term.{Term}
use Rattle.mq_unify.specs.declared.term.Term.TheVariants.{Any, Text, Variable}

-- the level by one binding
abbrev pub bound_by : Level → Binding → Level
bound_by (Free n) binding = if n == binding.number then binding.level else Free n
bound_by (Known text) binding = Known text

-- by one behind the other
abbrev pub bound : List Binding → Level → Level
bound [] level = level
bound (binding ∷ bindings) level = bound bindings (bound_by level binding)

-- the text of a level, where those with numbers have these texts
abbrev pub text_of : (ℕ → List ℕ) → Level → List ℕ
text_of values (Free n) = values n
text_of values (Known text) = text.now

-- these texts are as the bindings have it
abbrev pub Holds : (ℕ → List ℕ) → List Binding → Type 0
Holds values bindings = (i : ℕ) → values i ≡ text_of values (bound bindings (Free i))

-- what a level is bound to is bound to nothing else
abbrev pub IsNormal : List Binding → Type 0
IsNormal bindings =
    (i n : ℕ) → bound bindings (Free i) ≡ Free n → bound bindings (Free n) ≡ Free n

-- the text that is known passes the test
abbrev pub level_fits : (List ℕ → Bool) → Level → Bool
level_fits test (Free n) = true
level_fits test (Known text) = test text.now

abbrev pub bindings_fit : (List ℕ → Bool) → List Binding → Bool
bindings_fit test bindings = list_all (λ b. level_fits test b.level) bindings

-- the texts that these bindings leave, each that is free another one
abbrev pub general_text : List ℕ → List Binding → ℕ → List ℕ
general_text prefix bindings i = text_of (fresh_text prefix) (bound bindings (Free i))

-- what the bindings say of a term, if it stands for one level
abbrev pub level_of_term : List Binding → Term → Option Level
level_of_term bindings Any = None
level_of_term bindings (Text text) = Some (Known text)
level_of_term bindings (Variable i) = Some (bound bindings (Free i))

abbrev pub is_free : ℕ → Level → Bool
is_free number (Free n) = n == number
is_free number (Known text) = false
