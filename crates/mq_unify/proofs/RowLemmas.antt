-- The terms of rows, one behind the other.
use Rattle.std.proofs.Common.{◌≡◌, ℕ, Bool, true, false, ◌&&◌, List, [], ◌∷◌, ◌++◌, length, Option, Bor}
use Rattle.std.proofs.Common.{refl, ap, sym, ◌∙◌, subst, arith}
use Rattle.std.specs.List.{list_all}
use Rattle.std.specs.Option.{unwrap_or}
use Rattle.std.proofs.Math.Bool.{and-true}
use Rattle.std.proofs.lemmas.Bool.{and_from, and_parts}
use Rattle.std.proofs.lemmas.List.Folds.{list_all-append}
use Rattle.mq_topic.specs.Levels.{levels}
use Rattle.mq_topic.specs.Matching.{level_matches, levels_match_by}
use Rattle.mq_acl.specs.Rows.{AclRow}
use Rattle.mq_acl.specs.RowsByOwner.{is_everyones}
use Rattle.mq_acl.specs.Views.{row_view}
use Rattle.mq_acl.specs.declared.row.Row.{Row}
use Rattle.mq_cover.specs.Remainders.{fits}
use Rattle.mq_unify.specs.Clients.{IsMade, made_levels, user_fits}
use Rattle.mq_unify.specs.Rows.{AllMade, all_matched, lent_rows, row_matches, rows_fit}
use Rattle.mq_unify.specs.Terms.{all_fit, matched, shape_of, terms_fit}
use Rattle.mq_unify.specs.declared.shape.ClientShape.{ClientShape}
use Rattle.mq_unify.specs.declared.term.Terms.{Terms}

and_assoc : (a b c : Bool) → ((a && b) && c) ≡ (a && (b && c))
and_assoc true b c = refl
and_assoc false b c = refl

no_rows : (rows : List (Bor Row)) → length rows ≡ 0 → rows ≡ []
no_rows [] e = refl
no_rows (x ∷ xs) e = absurd (omega arith)

-- these terms are of this row
pub record IsOfRow (shape : ClientShape) (row : AclRow) (terms : Terms) : Type 0 where
  pub matched : (values : ℕ → List ℕ) (client : List ℕ) (user : Option (List ℕ))
      (ls : List (List ℕ))
      → IsMade shape (is_everyones row.who) values client user (levels row.filter)
      → matched values ls (shape_of terms) ≡ levels_match_by level_matches
      (made_levels (is_everyones row.who) client (unwrap_or user []) (levels row.filter)) ls
  pub unlike : (test : List ℕ → Bool) → fits test (levels row.filter) ≡ true
      → user_fits test shape.user ≡ true → terms_fit test terms.fixed.items ≡ true

-- there are no rows
pub none_matched : (rows : List (Bor Row)) → length rows ≡ 0 → (values : ℕ → List ℕ)
    (client : List ℕ) (user : Option (List ℕ)) (ls : List (List ℕ)) (terms : List Terms)
    → all_matched values ls terms
    ≡ (all_matched values ls terms && list_all (row_matches client user ls) (lent_rows rows))
none_matched rows e values client user ls terms = sym (and-true (all_matched values ls terms))
    ∙ ap (λ r. all_matched values ls terms && list_all (row_matches client user ls) (lent_rows r))
    (sym (no_rows rows e))

module _ (shape : ClientShape) (older mid terms : List Terms) (rows rest : List (Bor Row))
    (row : Bor Row) (t : Terms) (e : rows ≡ row ∷ rest) (f : mid ≡ older ++ t ∷ [])
    (of : IsOfRow shape (row_view row.now) t) where
  pub more_matched : ((values : ℕ → List ℕ) (client : List ℕ) (user : Option (List ℕ))
      (ls : List (List ℕ)) → AllMade shape values client user (lent_rows rest)
      → all_matched values ls terms
      ≡ (all_matched values ls mid && list_all (row_matches client user ls) (lent_rows rest)))
      → (values : ℕ → List ℕ) (client : List ℕ) (user : Option (List ℕ)) (ls : List (List ℕ))
      → AllMade shape values client user (lent_rows rows)
      → all_matched values ls terms
      ≡ (all_matched values ls older && list_all (row_matches client user ls) (lent_rows rows))
  more_matched behind values client user ls all =
      let made = subst (λ (r : List (Bor Row)). AllMade shape values client user (lent_rows r)) e all
      in
      behind values client user ls made.1
      ∙ ap (λ b. b && list_all (row_matches client user ls) (lent_rows rest))
      (ap (all_matched values ls) f
      ∙ list_all-append (λ t. matched values ls (shape_of t)) older (t ∷ [])
      ∙ ap (λ b. all_matched values ls older && b)
      (and-true (matched values ls (shape_of t)) ∙ of.matched values client user ls made.0))
      ∙ and_assoc (all_matched values ls older) (row_matches client user ls (row_view row.now))
      (list_all (row_matches client user ls) (lent_rows rest))
      ∙ ap (λ r. all_matched values ls older && list_all (row_matches client user ls) (lent_rows r))
      (sym e)

  pub more_fit : ((test : List ℕ → Bool) → rows_fit test (lent_rows rest) ≡ true
      → user_fits test shape.user ≡ true → all_fit test mid ≡ true → all_fit test terms ≡ true)
      → (test : List ℕ → Bool) → rows_fit test (lent_rows rows) ≡ true
      → user_fits test shape.user ≡ true → all_fit test older ≡ true → all_fit test terms ≡ true
  more_fit behind test fit u h =
      let both = and_parts (fits test (levels (row_view row.now).filter))
      (rows_fit test (lent_rows rest)) (ap (λ r. rows_fit test (lent_rows r)) (sym e) ∙ fit) in
      behind test both.1 u
      (ap (all_fit test) f ∙ list_all-append (λ t. terms_fit test t.fixed.items) older (t ∷ [])
      ∙ and_from (all_fit test older) (terms_fit test t.fixed.items && true) h
      (and_from (terms_fit test t.fixed.items) true (of.unlike test both.0 u) refl))

-- the terms of its filter are those of the row
abbrev MatchesAs : ClientShape → Terms → Bool → List ℕ → Type 0
MatchesAs shape terms pattern text = (values : ℕ → List ℕ) (client : List ℕ)
    (user : Option (List ℕ)) (ls : List (List ℕ))
    → IsMade shape pattern values client user (levels text)
    → matched values ls (shape_of terms) ≡ levels_match_by level_matches
    (made_levels pattern client (unwrap_or user []) (levels text)) ls

abbrev FitsAs : ClientShape → Terms → List ℕ → Type 0
FitsAs shape terms text = (test : List ℕ → Bool) → fits test (levels text) ≡ true
    → user_fits test shape.user ≡ true → terms_fit test terms.fixed.items ≡ true

pub of_row : (shape : ClientShape) (row : AclRow) (terms : Terms) (pattern : Bool) (text : List ℕ)
    → pattern ≡ is_everyones row.who → text ≡ row.filter
    → MatchesAs shape terms pattern text → FitsAs shape terms text → IsOfRow shape row terms
of_row shape row terms pattern text e f m u = record {
  matched = subst (MatchesAs shape terms (is_everyones row.who)) f
      (subst (λ p. MatchesAs shape terms p text) e m);
  unlike = subst (FitsAs shape terms) f u;
}

-- where there were none before
pub from_none : (older terms : List Terms) (rows : List AclRow) (values : ℕ → List ℕ)
    (client : List ℕ) (user : Option (List ℕ)) (ls : List (List ℕ)) → older ≡ []
    → all_matched values ls terms
    ≡ (all_matched values ls older && list_all (row_matches client user ls) rows)
    → all_matched values ls terms ≡ list_all (row_matches client user ls) rows
from_none older terms rows values client user ls e adds = adds
    ∙ ap (λ o. all_matched values ls o && list_all (row_matches client user ls) rows) e
