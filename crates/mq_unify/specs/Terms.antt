-- Filters whose marks stand for levels that are looked for, and which names they match.
use Rattle.std.specs.Prelude.{ℕ, Bool, true, false, List, [], ◌∷◌, ◌&&◌}
use Rattle.std.specs.Prelude.{Option, Some, None, zero, suc}
use Rattle.std.specs.List.{list_all}
use Rattle.std.specs.Str.{bytes_eq}
use Rattle.mq_unify.specs.declared.term.Term.{Term}
use Rattle.mq_unify.specs.declared.term.Term.TheVariants.{Any, Text, Variable}
use Rattle.mq_unify.specs.declared.term.Terms.{Terms}

-- the text that the term stands for, where these are the levels that are looked for; none stands for any
abbrev pub term_text : (ℕ → List ℕ) → Term → Option (List ℕ)
term_text values Any = None
term_text values (Text text) = Some text.now
term_text values (Variable i) = Some (values i)

abbrev pub is_text : List ℕ → Option (List ℕ) → Bool
is_text level None = true
is_text level (Some text) = bytes_eq text level

abbrev pub passes : (ℕ → List ℕ) → Term → List ℕ → Bool
passes values term level = is_text level (term_text values term)

-- the levels begin with some that the terms stand for, and those behind pass the test
abbrev pub goes_by : (ℕ → List ℕ) → List Term → (List (List ℕ) → Bool) → List (List ℕ) → Bool
goes_by values [] behind levels = behind levels
goes_by values (term ∷ terms) behind [] = false
goes_by values (term ∷ terms) behind (level ∷ levels) =
    passes values term level && goes_by values terms behind levels

-- whether a name may go on with these levels
abbrev pub may_follow : Bool → List (List ℕ) → Bool
may_follow has_rest [] = true
may_follow has_rest (level ∷ levels) = has_rest

-- a filter with these levels, and a `#` behind them or none
pub record Shape : Type 0 where
  pub fixed : List Term
  pub has_rest : Bool

abbrev pub shape_of : Terms → Shape
shape_of terms = record { fixed = terms.fixed.items; has_rest = terms.has_rest }

-- the name with these levels is matched
abbrev pub matched : (ℕ → List ℕ) → List (List ℕ) → Shape → Bool
matched values levels shape = goes_by values shape.fixed (may_follow shape.has_rest) levels

-- the text, if it is one, passes the test
abbrev pub term_fits : (List ℕ → Bool) → Term → Bool
term_fits test Any = true
term_fits test (Text text) = test text.now
term_fits test (Variable i) = true

abbrev pub terms_fit : (List ℕ → Bool) → List Term → Bool
terms_fit test terms = list_all (term_fits test) terms

-- ---- terms that stand for one level
abbrev pub are_equal : Option (List ℕ) → Option (List ℕ) → Bool
are_equal None other = true
are_equal (Some text) other = is_text text other

-- where both stand for a text, it is the same
abbrev pub agree : (ℕ → List ℕ) → Term → Term → Bool
agree values term other = are_equal (term_text values term) (term_text values other)

-- so do those at each place
abbrev pub all_agree : (ℕ → List ℕ) → List Term → List Term → Bool
all_agree values [] others = true
all_agree values (term ∷ terms) [] = true
all_agree values (term ∷ terms) (other ∷ others) =
    agree values term other && all_agree values terms others

-- ---- filters that are to match one name
abbrev pub agree_with : (ℕ → List ℕ) → List Term → List Terms → Bool
agree_with values terms all = list_all (λ t. all_agree values t.fixed.items terms) all

-- each of the first with each of the others
abbrev pub agree_all : (ℕ → List ℕ) → List Terms → List Terms → Bool
agree_all values some all = list_all (λ t. agree_with values t.fixed.items all) some

abbrev pub all_fit : (List ℕ → Bool) → List Terms → Bool
all_fit test all = list_all (λ t. terms_fit test t.fixed.items) all

-- so many variables, from this one on
abbrev pub variables : ℕ → ℕ → List Term
variables first zero = []
variables first (suc count) = Variable first ∷ variables (suc first) count
