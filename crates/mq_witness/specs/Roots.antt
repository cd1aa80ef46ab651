-- The rows that have to do with a question, with all of their filters left.
use Rattle.std.specs.Prelude.{◌≡◌, ℕ, Bool, true, false, List, ◌&&◌, ◌||◌, not, Option, Some, None}
use denote.Ref.{Bor}
use Rattle.std.specs.List.{list_any, list_all}
use Rattle.mq_topic.specs.Levels.{levels}
use Rattle.mq_acl.specs.Access.{applies, begins_with_dollar}
use Rattle.mq_acl.specs.Rows.{AclRow}
use Rattle.mq_cover.specs.Remainders.{MarkLevels, covers, fits, remainders_fit}
use Rattle.mq_cover.specs.declared.remainder.Remainder.{Remainder}
use Rattle.mq_witness.specs.Decided.{concerns_in}

-- what the marks stand for
abbrev pub marks_of : List ℕ → Option (List ℕ) → MarkLevels
marks_of client user = record { client = Some client; user = user }

abbrev pub same : Bool → Bool → Bool
same true b = b
same false b = not b

-- each row applies to the one just where it applies to the other
abbrev pub alike : Option (List ℕ) → Option (List ℕ) → List AclRow → Bool
alike other user rows = list_all (λ row. same (applies other row.who) (applies user row.who)) rows

-- the levels of all filters fit
abbrev pub rows_fit : (List ℕ → Bool) → List AclRow → Bool
rows_fit p rows = list_all (λ row. fits p (levels row.filter)) rows

abbrev pub left_begins : Option (Bor (List ℕ)) → Bool
left_begins None = false
left_begins (Some text) = begins_with_dollar text.now

-- each begins with `$`
abbrev pub all_begin : List Remainder → Bool
all_begin rs = list_all (λ r. left_begins r.rest) rs

-- of users that the rows apply to as to this one, and names of this kind, some row concerns none
abbrev pub NoneConcerned : Bool → List AclRow → Option (List ℕ) → Bool → Type 0
NoneConcerned front rows user dollar = (client name : List ℕ) (other : Option (List ℕ))
    → alike other user rows ≡ true → begins_with_dollar name ≡ dollar
    → list_all (concerns_in front client other name) rows ≡ false

-- of those, the remainders cover each name that all rows concern
pub record AreMust (front : Bool) (rows : List AclRow) (user : Option (List ℕ)) (dollar : Bool)
    (rs : List Remainder) : Type 0 where
  pub covers : (client name : List ℕ) (other : Option (List ℕ))
      → alike other user rows ≡ true → begins_with_dollar name ≡ dollar
      → list_all (covers (marks_of client other) (levels name)) rs
      ≡ list_all (concerns_in front client other name) rows
  pub fit : (p : List ℕ → Bool) → rows_fit p rows ≡ true → remainders_fit p rs ≡ true
  pub begin : (not (not front && dollar) || all_begin rs) ≡ true

-- of those, and of names that all of `must` cover, the remainders cover each that some row concerns
pub record AreCover (front : Bool) (rows : List AclRow) (user : Option (List ℕ)) (dollar : Bool)
    (must rs : List Remainder) : Type 0 where
  pub covers : (client name : List ℕ) (other : Option (List ℕ))
      → alike other user rows ≡ true → begins_with_dollar name ≡ dollar
      → list_all (covers (marks_of client other) (levels name)) must ≡ true
      → list_any (covers (marks_of client other) (levels name)) rs
      ≡ list_any (concerns_in front client other name) rows
  pub fit : (p : List ℕ → Bool) → rows_fit p rows ≡ true → remainders_fit p rs ≡ true
