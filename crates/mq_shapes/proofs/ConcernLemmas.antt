-- What concerns a client by mosquitto's rules, and what rows match.
use Rattle.std.proofs.Common.{◌≡◌, ◌∙◌, ◌&&◌, ◌||◌, ◌∷◌, ℕ, Bool, true, false, not, List, []}
use Rattle.std.proofs.Common.{Bor, Option, Some, None, ap, arith, bytes_eq, codes, refl, sym}
use Rattle.std.specs.List.{filter, list_all, list_any}
use Rattle.std.proofs.Math.Bool.{and-false}
use Rattle.std.proofs.lemmas.Bool.{and_from, and_parts, not-true}
use Rattle.mq_topic.proofs.ByteLemmas.{text_is}
use Rattle.mq_topic.specs.Levels.{levels}
use Rattle.mq_topic.specs.Matching.{matches}
use Rattle.mq_topic.specs.Texts.{is_plain}
use Rattle.mq_acl.specs.Access.{applies, begins_with_dollar}
use Rattle.mq_acl.specs.Lines.{is_pattern_level}
use Rattle.mq_acl.specs.Mosquitto.{filter_for}
use Rattle.mq_acl.specs.Rows.{Who, Anonymous, Named, Everyone, AclRow}
use Rattle.mq_acl.specs.RowsByOwner.{is_everyones}
use Rattle.mq_acl.specs.Words.{occurs_in}
use Rattle.mq_cover.specs.declared.start.Start.{Start}
use Rattle.mq_unify.specs.Rows.{row_matches}
use Rattle.mq_shapes.specs.Every.{has_user_mark}
use Rattle.mq_shapes.specs.Found.{has_name, has_whole_marks, is_listed, row_hits}
use Rattle.mq_shapes.specs.Ruled.{all_listed, concerns, has_dollar, hides, is_kept, is_of}
use Rattle.mq_shapes.specs.Ruled.{names_listed, ruled_hits}
use Rattle.mq_shapes.specs.declared.clients.Clients.{Clients}
use Rattle.mq_shapes.specs.declared.clients.Clients.TheVariants as clients
use Rattle.mq_shapes.proofs.HiddenLemmas.{covered}
use Rattle.mq_shapes.proofs.OccursLemmas.{user_occurs}
use Rattle.mq_shapes.proofs.RuledLemmas.{is_row_asked}

-- ---- rows that aren't passed over
asked_some : (client user : List ℕ) → is_plain client ≡ true → is_plain user ≡ true
    → (row : AclRow) → is_row_asked client (Some user) row ≡ true
asked_some client user c u row = by (is_everyones row.who)
  where
    by : (e : Bool) → (not e || (is_plain client && is_plain user)) ≡ true
    by false = refl
    by true = and_from (is_plain client) (is_plain user) c u

-- where the marks are whole levels, `%u` stands in a `pattern` row just where it is a level of it
asked_none : (client : List ℕ) → is_plain client ≡ true → (row : AclRow)
    → has_whole_marks row ≡ true → is_row_asked client None row ≡ not (has_user_mark row)
asked_none client c row w = by (is_everyones row.who) w
  where
    by : (e : Bool) → (not e || list_all is_pattern_level (levels row.filter)) ≡ true
        → (not e || (is_plain client && not (occurs_in (codes "%u") row.filter)))
        ≡ not (e && list_any (λ l. bytes_eq l (codes "%u")) (levels row.filter))
    by false w = refl
    by true w = (λ i. c i && not (user_occurs row.filter w i))

-- ---- of one row
pub three : (a b c : Bool) → (a && (b && c)) ≡ ((a && b) && c)
three true b c = refl
three false b c = refl

four : (a b c : Bool) → (a && (b && c)) ≡ (((a && true) && b) && c)
four true b c = refl
four false b c = refl

-- a user name that isn't listed is none that a row is for
pub other_applies : (users : List (Bor (List ℕ))) (user : List ℕ) (who : Who)
    → has_name users user ≡ false → names_listed users who ≡ true
    → applies (Some user) who ≡ is_everyones who
other_applies users user Anonymous h k = refl
other_applies users user (Named name) h k = by (bytes_eq user name) refl
  where
    by : (b : Bool) → bytes_eq user name ≡ b → bytes_eq user name ≡ false
    by false e = e
    by true e = absurd (let n : false ≡ true = sym h ∙ ap (has_name users) (text_is user name e) ∙ k in cc)
other_applies users user Everyone h k = refl

module _ (start : Start) (users : List (Bor (List ℕ))) (client name : List ℕ)
    (client_plain : is_plain client ≡ true)
    (begins : begins_with_dollar name ≡ has_dollar start) where
  abbrev matched : Option (List ℕ) → AclRow → Bool
  matched user row = row_matches client user (levels name) row

  abbrev shown_row : AclRow → Bool
  shown_row row = not (has_dollar start && hides row)

  concerned : (k : Clients) (user : Option (List ℕ)) → is_of users k user ≡ true
      → (row : AclRow) → has_whole_marks row ≡ true → names_listed users row.who ≡ true
      → concerns client user name row ≡ (is_kept start k row && matched user row)
  concerned clients.Anonymous None u row w l = by (has_user_mark row) refl
    where
      by : (m : Bool) → has_user_mark row ≡ m → concerns client None name row
          ≡ (((applies None row.who && not (has_user_mark row)) && shown_row row)
          && matched None row)
      by true m =
          ap (λ b. applies None row.who
          && (b && matches (levels (filter_for client None row)) (levels name)))
          (asked_none client client_plain row w ∙ ap not m)
          ∙ and-false (applies None row.who)
          ∙ sym (ap (λ b. ((applies None row.who && not b) && shown_row row) && matched None row) m
          ∙ ap (λ b. (b && shown_row row) && matched None row) (and-false (applies None row.who)))
      by false m =
          ap (λ b. applies None row.who && b) (covered client None client_plain refl row name
          (has_dollar start) w (asked_none client client_plain row w ∙ ap not m) begins)
          ∙ four (applies None row.who) (shown_row row) (matched None row)
          ∙ sym (ap (λ b. ((applies None row.who && not b) && shown_row row) && matched None row) m)
  concerned clients.Anonymous (Some user) u row w l = absurd (let n : false ≡ true = u in cc)
  concerned (clients.Named known) None u row w l = absurd (let n : false ≡ true = u in cc)
  concerned (clients.Named known) (Some user) u row w l =
      let parts = and_parts (bytes_eq user known.now) (is_plain user) u in
      ap (λ b. applies (Some user) row.who && b) (covered client (Some user) client_plain parts.1
      row name (has_dollar start) w (asked_some client user client_plain parts.1 row) begins)
      ∙ three (applies (Some user) row.who) (shown_row row) (matched (Some user) row)
      ∙ ap (λ t. (applies (Some t) row.who && shown_row row) && matched (Some user) row)
      (text_is user known.now parts.0)
  concerned clients.Others None u row w l = absurd (let n : false ≡ true = u in cc)
  concerned clients.Others (Some user) u row w l =
      let parts = and_parts (is_plain user) (not (is_listed users (Some user))) u in
      ap (λ b. applies (Some user) row.who && b) (covered client (Some user) client_plain parts.0
      row name (has_dollar start) w (asked_some client user client_plain parts.0 row) begins)
      ∙ three (applies (Some user) row.who) (shown_row row) (matched (Some user) row)
      ∙ ap (λ b. (b && shown_row row) && matched (Some user) row)
      (other_applies users user row.who (not-true (has_name users user) parts.1) l)

  -- ---- of all rows
  module _ (k : Clients) (user : Option (List ℕ)) (of : is_of users k user ≡ true) where
    abbrev kept : AclRow → Bool
    kept row = is_kept start k row

    must_all : (rows : List AclRow) → list_all has_whole_marks rows ≡ true
        → all_listed users rows ≡ true → list_all (concerns client user name) rows
        ≡ (list_all kept rows && list_all (matched user) rows)
    must_all [] w l = refl
    must_all (row ∷ rows) w l =
        let whole = and_parts (has_whole_marks row) (list_all has_whole_marks rows) w in
        let listed = and_parts (names_listed users row.who) (all_listed users rows) l in
        (λ i. concerned k user of row whole.0 listed.0 i && must_all rows whole.1 listed.1 i)
        ∙ swapped (kept row) (matched user row) (list_all kept rows)
        (list_all (matched user) rows)
      where
        swapped : (a b c d : Bool) → ((a && b) && (c && d)) ≡ ((a && c) && (b && d))
        swapped true true c d = refl
        swapped true false true d = refl
        swapped true false false d = refl
        swapped false b c d = refl

    cover_any : (rows : List AclRow) → list_all has_whole_marks rows ≡ true
        → all_listed users rows ≡ true → list_any (concerns client user name) rows
        ≡ list_any (matched user) (filter kept rows)
    cover_any [] w l = refl
    cover_any (row ∷ rows) w l =
        let whole = and_parts (has_whole_marks row) (list_all has_whole_marks rows) w in
        let listed = and_parts (names_listed users row.who) (all_listed users rows) l in
        (λ i. concerned k user of row whole.0 listed.0 i || cover_any rows whole.1 listed.1 i)
        ∙ by (kept row) refl
      where
        by : (b : Bool) → kept row ≡ b
            → ((kept row && matched user row) || list_any (matched user) (filter kept rows))
            ≡ list_any (matched user) (filter kept (row ∷ rows))
        by true e = grind (arith, e)
        by false e = grind (arith, e)

    -- what concerns the client is what the rows match that are left of those that don't
    pub ruled_is : (must cover : List AclRow) → list_all has_whole_marks must ≡ true
        → list_all has_whole_marks cover ≡ true → all_listed users must ≡ true
        → all_listed users cover ≡ true → ruled_hits client user name must cover
        ≡ (list_all kept must && row_hits client user (levels name) must (filter kept cover))
    ruled_is must cover mw cw ml cl =
        (λ i. must_all must mw ml i && not (cover_any cover cw cl i))
        ∙ sym (three (list_all kept must) (list_all (matched user) must)
        (not (list_any (matched user) (filter kept cover))))
