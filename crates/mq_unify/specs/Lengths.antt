-- Filters that match no name together, by how many levels they have.
use Rattle.std.specs.Prelude.{◌≡◌, ℕ, true, false, List}
use Rattle.mq_unify.specs.Rows.{all_matched}
use Rattle.mq_unify.specs.Terms.{Shape, matched}
use Rattle.mq_unify.specs.declared.term.Terms.{Terms}

-- no name that the one filter matches the other does
abbrev pub IsLonger : (one other : Shape) → Type 0
IsLonger one other = (values : ℕ → List ℕ) (ls : List (List ℕ)) → matched values ls one ≡ true
    → matched values ls other ≡ false

-- nor do all of these
abbrev pub IsBeyond : Shape → List Terms → Type 0
IsBeyond one all = (values : ℕ → List ℕ) (ls : List (List ℕ)) → matched values ls one ≡ true
    → all_matched values ls all ≡ false

-- nor do they one that each of the first matches
abbrev pub AreApart : (some all : List Terms) → Type 0
AreApart some all = (values : ℕ → List ℕ) (ls : List (List ℕ)) → all_matched values ls some ≡ true
    → all_matched values ls all ≡ false
