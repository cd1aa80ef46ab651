-- What concerns a client with a wildcard in its id or user name.
use Rattle.std.proofs.Common.{◌≡◌, ◌∙◌, ◌&&◌, ◌||◌, ◌∷◌, ◌++◌, ℕ, Bool, true, false, not, List, []}
use Rattle.std.proofs.Common.{Bor, Option, Some, None, ap, arith, bytes_eq, codes, map, refl, sym}
use Rattle.std.specs.List.{filter, list_all, list_any}
use Rattle.std.specs.Option.{unwrap_or}
use Rattle.std.proofs.Math.Bool.{and-false}
use Rattle.std.proofs.lemmas.Bool.{and_from, and_parts, false_from_ne_true, not-true}
use Rattle.mq_topic.proofs.ByteLemmas.{text_is, text_itself}
use Rattle.mq_topic.specs.Levels.{levels}
use Rattle.mq_topic.specs.Matching.{is_hidden, matches}
use Rattle.mq_topic.specs.Texts.{contains_byte, is_plain}
use Rattle.mq_acl.specs.Access.{applies, begins_with_dollar}
use Rattle.mq_acl.specs.Mosquitto.{filter_for, is_asked, row_covers}
use Rattle.mq_acl.specs.Rows.{AclRow}
use Rattle.mq_acl.specs.RowsByOwner.{is_everyones}
use Rattle.mq_acl.specs.Words.{occurs_in}
use Rattle.mq_cover.specs.Names.{can_be_level}
use Rattle.mq_cover.specs.declared.start.Start.{Start}
use Rattle.mq_unify.specs.Clients.{made_levels}
use Rattle.mq_cover.specs.Choices.{other_at}
use Rattle.mq_cover.specs.declared.others.Others.{Others}
use Rattle.mq_cover.specs.Remainders.{fits}
use Rattle.mq_unify.specs.Rows.{row_matches, rows_fit}
use Rattle.mq_unify.specs.Unlike.{is_unlike}
use Rattle.mq_unify.proofs.FilterLemmas.{single}
use Rattle.mq_unify.proofs.UnlikeLemmas.{itself_is}
use Rattle.std.proofs.Common.{true≢false}
use Rattle.mq_topic.specs.Matching.{level_matches, levels_match_by}
use Rattle.mq_shapes.specs.Filled.{row_levels}
use Rattle.mq_shapes.specs.Found.{AreAllReady, HasNone, IsTopic, all_fit, has_name, is_listed}
use Rattle.mq_shapes.specs.Found.{row_hits}
use Rattle.mq_shapes.specs.Odd.{IsOdd, IsOddUser, OddNone, is_among, is_odd, is_own_kept}
use Rattle.mq_shapes.specs.Odd.{is_own_of}
use Rattle.mq_shapes.specs.Ruled.{all_listed, concerns, has_dollar, hides, is_front, names_listed}
use Rattle.mq_shapes.specs.Ruled.{AreElsewhere, are_literal, matched_by, ruled_hits}
use Rattle.mq_shapes.specs.declared.clients.Clients.{Clients}
use Rattle.mq_shapes.specs.declared.clients.Clients.TheVariants as clients
use Rattle.mq_shapes.proofs.ConcernLemmas.{other_applies, three}
use Rattle.mq_shapes.proofs.FilledLemmas.{plain_levels, single_levels}
use Rattle.mq_shapes.proofs.HiddenLemmas.{first_begins, front}
use Rattle.mq_shapes.proofs.KeptLemmas.{suits_dollar}
use Rattle.mq_shapes.proofs.RuledLemmas.{covers_is, hidden_is}
use Rattle.mq_shapes.proofs.ShapeLemmas.{prefix_is}
use Rattle.mq_shapes.proofs.WithinLemmas.{hits_within}
use Rattle.std.proofs.lemmas.List.Folds.{list_all-append}

-- no `pattern` row is asked
unasked : (client : List ℕ) (user : Option (List ℕ)) (text : List ℕ)
    → is_odd client user ≡ true → is_asked client user text ≡ false
unasked client None text h = by (is_plain client) (not (occurs_in (codes "%u") text)) h
  where
    by : (p q : Bool) → not (p && true) ≡ true → (p && q) ≡ false
    by true q h = absurd (let n : false ≡ true = h in cc)
    by false q h = refl
unasked client (Some user) text h = not-true (is_plain client && is_plain user) h

module _ (client : List ℕ) (user : Option (List ℕ)) (name : List ℕ) (dollar : Bool)
    (begins : begins_with_dollar name ≡ dollar) where
  -- the row's filter as it is written
  own_covers : (row : AclRow) → is_everyones row.who ≡ false
      → row_covers client user name row
      ≡ (not (dollar && hides row) && row_matches [] None (levels name) row)
  own_covers row e = by (is_hidden (row_levels client text row) (levels name)) refl
    where
      text : List ℕ
      text = unwrap_or user []

      same : is_hidden (row_levels client text row) (levels name) ≡ (dollar && hides row)
      same = (λ i. (first_begins name ∙ begins) i
          && front (sym (plain_levels client text row e) i))

      alike : row_matches client user (levels name) row ≡ row_matches [] None (levels name) row
      alike = ap (λ p. levels_match_by level_matches (made_levels p client text
          (levels row.filter)) (levels name)) e
          ∙ sym (ap (λ p. levels_match_by level_matches (made_levels p [] []
          (levels row.filter)) (levels name)) e)

      by : (h : Bool) → is_hidden (row_levels client text row) (levels name) ≡ h
          → row_covers client user name row
          ≡ (not (dollar && hides row) && row_matches [] None (levels name) row)
      by true h = hidden_is client user row name h
          ∙ (λ i. sym (ap not (sym same ∙ h)) i && row_matches [] None (levels name) row)
      by false h =
          covers_is client user row name (ap (λ b. not b || is_asked client user row.filter) e) h
          ∙ alike ∙ (λ i. sym (ap not (sym same ∙ h)) i
          && row_matches [] None (levels name) row)

  -- and no other row covers the name
  odd_covers : is_odd client user ≡ true → (row : AclRow) → row_covers client user name row
      ≡ (not (is_everyones row.who)
      && (not (dollar && hides row) && row_matches [] None (levels name) row))
  odd_covers odd row = by (is_everyones row.who) refl
    where
      by : (e : Bool) → is_everyones row.who ≡ e → row_covers client user name row
          ≡ (not (is_everyones row.who)
          && (not (dollar && hides row) && row_matches [] None (levels name) row))
      by true e =
          (λ i. (not (e i) || unasked client user row.filter odd i)
          && matches (levels (filter_for client user row)) (levels name))
          ∙ sym (ap (λ b. not b
          && (not (dollar && hides row) && row_matches [] None (levels name) row)) e)
      by false e = own_covers row e
          ∙ sym (ap (λ b. not b
          && (not (dollar && hides row) && row_matches [] None (levels name) row)) e)

four : (a e s m : Bool) → (a && (not e && (s && m))) ≡ (((a && not e) && s) && m)
four true true s m = refl
four true false s m = refl
four false e s m = refl

everyone_only : (a e s m : Bool) → a ≡ e → (a && (not e && (s && m))) ≡ false
everyone_only true true s m h = refl
everyone_only true false s m h = absurd (let n : true ≡ false = h in cc)
everyone_only false e s m h = refl

module _ (start : Start) (users : List (Bor (List ℕ))) (k : Clients) (client name : List ℕ)
    (user : Option (List ℕ)) (odd : is_odd client user ≡ true)
    (among : is_among users k user ≡ true)
    (begins : begins_with_dollar name ≡ has_dollar start) where
  abbrev matched : AclRow → Bool
  matched row = row_matches [] None (levels name) row

  abbrev shown_row : AclRow → Bool
  shown_row row = not (has_dollar start && hides row)

  own_row : (row : AclRow) → names_listed users row.who ≡ true
      → concerns client user name row ≡ (is_own_kept start k row && matched row)
  own_row row l =
      ap (λ b. applies user row.who && b) (odd_covers client user name (has_dollar start) begins odd
      row) ∙ by k user among
    where
      by : (k : Clients) (user : Option (List ℕ)) → is_among users k user ≡ true
          → (applies user row.who && (not (is_everyones row.who) && (shown_row row && matched row)))
          ≡ (is_own_kept start k row && matched row)
      by clients.Anonymous None h =
          four (applies None row.who) (is_everyones row.who) (shown_row row) (matched row)
      by clients.Anonymous (Some user) h = absurd (let n : false ≡ true = h in cc)
      by (clients.Named known) None h = absurd (let n : false ≡ true = h in cc)
      by (clients.Named known) (Some user) h =
          four (applies (Some user) row.who) (is_everyones row.who) (shown_row row) (matched row)
          ∙ ap (λ t. ((applies (Some t) row.who && not (is_everyones row.who)) && shown_row row)
          && matched row) (text_is user known.now h)
      by clients.Others None h = absurd (let n : false ≡ true = h in cc)
      by clients.Others (Some user) h =
          everyone_only (applies (Some user) row.who) (is_everyones row.who) (shown_row row)
          (matched row) (other_applies users user row.who (not-true (has_name users user) h) l)

  own_all : (rows : List AclRow) → all_listed users rows ≡ true
      → list_all (concerns client user name) rows
      ≡ (list_all (is_own_kept start k) rows && list_all matched rows)
  own_all [] l = refl
  own_all (row ∷ rows) l =
      let listed = and_parts (names_listed users row.who) (all_listed users rows) l in
      (λ i. own_row row listed.0 i && own_all rows listed.1 i)
      ∙ swapped (is_own_kept start k row) (matched row) (list_all (is_own_kept start k) rows)
      (list_all matched rows)
    where
      swapped : (a b c d : Bool) → ((a && b) && (c && d)) ≡ ((a && c) && (b && d))
      swapped true true c d = refl
      swapped true false true d = refl
      swapped true false false d = refl
      swapped false b c d = refl

  own_any : (rows : List AclRow) → all_listed users rows ≡ true
      → list_any (concerns client user name) rows
      ≡ list_any matched (filter (is_own_kept start k) rows)
  own_any [] l = refl
  own_any (row ∷ rows) l =
      let listed = and_parts (names_listed users row.who) (all_listed users rows) l in
      (λ i. own_row row listed.0 i || own_any rows listed.1 i) ∙ by (is_own_kept start k row) refl
    where
      by : (b : Bool) → is_own_kept start k row ≡ b
          → ((is_own_kept start k row && matched row)
          || list_any matched (filter (is_own_kept start k) rows))
          ≡ list_any matched (filter (is_own_kept start k) (row ∷ rows))
      by true e = grind (arith, e)
      by false e = grind (arith, e)

  pub odd_is : (must cover : List AclRow) → all_listed users must ≡ true
      → all_listed users cover ≡ true → ruled_hits client user name must cover
      ≡ (list_all (is_own_kept start k) must
      && row_hits [] None (levels name) must (filter (is_own_kept start k) cover))
  odd_is must cover ml cl =
      (λ i. own_all must ml i && not (own_any cover cl i))
      ∙ sym (three (list_all (is_own_kept start k) must) (list_all matched must)
      (not (list_any matched (filter (is_own_kept start k) cover))))

-- ---- what the search finds
module _ (start : Start) (users : List (Bor (List ℕ))) (k : Clients)
    (within must cover : List AclRow) (f : is_front start ≡ true)
    (lit : are_literal within ≡ true) (ml : all_listed users must ≡ true)
    (cl : all_listed users cover ≡ true) where
  pub odd_kept : list_all (is_own_kept start k) must ≡ false → OddNone start users k within must cover
  odd_kept h client user name odd among s few w =
      odd_is start users k client name user odd among (suits_dollar start name f s) must cover ml cl
      ∙ ap (λ b. b && row_hits [] None (levels name) must (filter (is_own_kept start k) cover)) h

  pub odd_none : HasNone start (within ++ must) (filter (is_own_kept start k) cover) [] None
      → OddNone start users k within must cover
  odd_none h client user name odd among s few w =
      odd_is start users k client name user odd among (suits_dollar start name f s) must cover ml cl
      ∙ ap (λ b. list_all (is_own_kept start k) must && b)
      (sym (hits_within [] None (levels name) within must (filter (is_own_kept start k) cover) lit
      ∙ ap (λ b. b && row_hits [] None (levels name) must (filter (is_own_kept start k) cover)) w)
      ∙ h (levels name) s few)
      ∙ and-false (list_all (is_own_kept start k) must)

  pub odd_elsewhere : AreElsewhere start (within ++ must) → OddNone start users k within must cover
  odd_elsewhere h = odd_none (λ ls s few. ap
      (λ b. b && not (list_any (row_matches [] None ls) (filter (is_own_kept start k) cover)))
      (h [] None ls s))

  pub odd_found : (others : Others) → list_all (is_own_kept start k) must ≡ true
      → (client topic : List ℕ) (user : Option (List ℕ)) → client ≡ codes "+"
      → IsOddUser k (other_at start others) user → is_among users k user ≡ true
      → IsTopic start (within ++ must) (filter (is_own_kept start k) cover) [] None topic
      → IsOdd others start users k within must cover client user topic
  odd_found others h client topic user e shown among is =
      let odd = ap (λ t. is_odd t user) e in
      let hits = and_parts (matched_by within (levels topic))
      (row_hits [] None (levels topic) must (filter (is_own_kept start k) cover))
      (sym (hits_within [] None (levels topic) within must (filter (is_own_kept start k) cover) lit)
      ∙ is.hit) in
      record {
        client_is = e;
        user_is = shown;
        odd = odd;
        among = among;
        suitable = is.suitable;
        few = is.few;
        valid = is.valid;
        inside = hits.0;
        hit = odd_is start users k client topic user odd among
            (suits_dollar start topic f is.suitable) must cover ml cl
            ∙ and_from (list_all (is_own_kept start k) must)
            (row_hits [] None (levels topic) must (filter (is_own_kept start k) cover)) h hits.1;
      }

  -- rows that are asked as they are written
  written_fit : (p : List ℕ → Bool) (rows : List AclRow) → are_literal rows ≡ true
      → rows_fit p rows ≡ true → all_fit p (map (row_levels [] []) rows) ≡ true
  written_fit p [] own fit = refl
  written_fit p (row ∷ rows) own fit =
      let literal = and_parts (not (is_everyones row.who)) (are_literal rows) own in
      let fits_too = and_parts (fits p (levels row.filter)) (rows_fit p rows) fit in
      let here = ap (λ b. fits p (made_levels b [] [] (levels row.filter)))
      (not-true (is_everyones row.who) literal.0)
      ∙ ap (fits p) (sym (single_levels (levels row.filter))) ∙ fits_too.0 in
      and_from (fits p (row_levels [] [] row)) (all_fit p (map (row_levels [] []) rows)) here
      (written_fit p rows literal.1 fits_too.1)

  own_literal : (rows : List AclRow) → list_all (is_own_kept start k) rows ≡ true
      → are_literal rows ≡ true
  own_literal [] own = refl
  own_literal (row ∷ rows) own =
      let owns = and_parts (is_own_kept start k row) (list_all (is_own_kept start k) rows) own in
      and_from (not (is_everyones row.who)) (are_literal rows)
      (of_row k (and_parts (is_own_of k row) (not (has_dollar start && hides row)) owns.0).0)
      (own_literal rows owns.1)
    where
      of_row : (k : Clients) → is_own_of k row ≡ true → not (is_everyones row.who) ≡ true
      of_row clients.Anonymous h =
          (and_parts (applies None row.who) (not (is_everyones row.who)) h).1
      of_row (clients.Named name) h =
          (and_parts (applies (Some name.now) row.who) (not (is_everyones row.who)) h).1
      of_row clients.Others h = absurd (let n : false ≡ true = h in cc)

  pub own_fit : (p : List ℕ → Bool) → list_all (is_own_kept start k) must ≡ true
      → rows_fit p (within ++ must) ≡ true
      → all_fit p (map (row_levels [] []) (within ++ must)) ≡ true
  own_fit p own fit = written_fit p (within ++ must)
      (list_all-append (λ row. not (is_everyones row.who)) within must
      ∙ and_from (are_literal within) (are_literal must) lit (own_literal must own)) fit

-- ---- the user name that is shown
-- what stands for others isn't listed
pub other_unlisted : (o : Others) (start : Start) (users : List (Bor (List ℕ)))
    (must cover : List AclRow) → AreAllReady o start users must cover
    → is_listed users (Some (other_at start o)) ≡ false
other_unlisted o start users must cover are = by users are.users_sound
  where
    prefix : List ℕ
    prefix = other_at start o

    can : can_be_level (other_at start o) ≡ true
    can = (prefix_is start o are.others_fit).0

    whole : levels (other_at start o) ≡ other_at start o ∷ []
    whole = single (other_at start o) (and_parts (is_plain (other_at start o)
        && not (contains_byte 0 (other_at start o))) (not (contains_byte 47 (other_at start o)))
        (can)).1

    apart : (name : List ℕ) → list_all (is_unlike (other_at start o)) (levels name) ≡ true
        → bytes_eq (other_at start o) name ≡ false
    apart name h = false_from_ne_true (bytes_eq (other_at start o) name) (λ e. true≢false (
        sym h ∙ ap (λ n. list_all (is_unlike (other_at start o)) (levels n))
        (sym (text_is (other_at start o) name e))
        ∙ ap (list_all (is_unlike (other_at start o))) whole
        ∙ ap (λ b. b && true) (itself_is (other_at start o))))

    by : (users : List (Bor (List ℕ)))
        → list_all (λ name. list_all (is_unlike (other_at start o)) (levels name.now)) users ≡ true
        → has_name users (other_at start o) ≡ false
    by [] h = refl
    by (name ∷ users) h =
        let parts = and_parts (list_all (is_unlike (other_at start o)) (levels name.now))
        (list_all (λ name. list_all (is_unlike (other_at start o)) (levels name.now)) users) h in
        (λ i. apart name.now parts.0 i || by users parts.1 i)

pub among_is : (users : List (Bor (List ℕ))) (k : Clients) (other : List ℕ)
    (user : Option (List ℕ)) → is_listed users (Some other) ≡ false → IsOddUser k other user
    → is_among users k user ≡ true
among_is users clients.Anonymous other user h e = ap (is_among users clients.Anonymous) e
among_is users (clients.Named name) other user h e =
    ap (is_among users (clients.Named name)) e ∙ text_itself name.now
among_is users clients.Others other user h e =
    ap (is_among users clients.Others) e ∙ ap not h
