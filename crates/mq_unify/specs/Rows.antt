-- Rows, with the texts of a client in the places of their marks.
use Rattle.std.specs.Prelude.{ℕ, Bool, List, [], ◌∷◌, map, Option}
use Rattle.std.specs.List.{list_all}
use Rattle.std.specs.Option.{unwrap_or}
use denote.Ref.{Bor}
use Rattle.mq_topic.specs.Levels.{levels}
use Rattle.mq_topic.specs.Matching.{level_matches, levels_match_by}
use Rattle.mq_acl.specs.Rows.{AclRow}
use Rattle.mq_acl.specs.RowsByOwner.{is_everyones}
use Rattle.mq_acl.specs.Views.{row_view}
use Rattle.mq_acl.specs.declared.row.Row.{Row}
use Rattle.mq_cover.specs.Remainders.{fits}
use Rattle.mq_unify.specs.Clients.{IsMade, made_levels}
use Rattle.mq_unify.specs.Terms.{matched, shape_of}
use Rattle.mq_unify.specs.declared.shape.ClientShape.{ClientShape}
use Rattle.mq_unify.specs.declared.term.Terms.{Terms}

-- the rows that are lent
abbrev pub lent_rows : List (Bor Row) → List AclRow
lent_rows rows = map (λ row. row_view row.now) rows

-- the levels of its filter for this client
abbrev pub made_row : List ℕ → Option (List ℕ) → AclRow → List (List ℕ)
made_row client user row =
    made_levels (is_everyones row.who) client (unwrap_or user []) (levels row.filter)

-- they match these, the rule on `$` left out
abbrev pub row_matches : List ℕ → Option (List ℕ) → List (List ℕ) → AclRow → Bool
row_matches client user ls row = levels_match_by level_matches (made_row client user row) ls

-- the client is one of these, and each row is asked about it
abbrev pub AllMade : ClientShape → (ℕ → List ℕ) → List ℕ → Option (List ℕ) → List AclRow → Type 0
AllMade shape values client user [] = Unit {0}
AllMade shape values client user (row ∷ rows) =
    IsMade shape (is_everyones row.who) values client user (levels row.filter)
    × AllMade shape values client user rows

abbrev pub all_matched : (ℕ → List ℕ) → List (List ℕ) → List Terms → Bool
all_matched values ls terms = list_all (λ t. matched values ls (shape_of t)) terms

-- the levels of all filters fit
abbrev pub rows_fit : (List ℕ → Bool) → List AclRow → Bool
rows_fit test rows = list_all (λ row. fits test (levels row.filter)) rows
