-- A search by mosquitto's rules over the rows that can concern the clients.
use Rattle.std.proofs.Common.{◌≡◌, ◌∙◌, ◌&&◌, ◌||◌, ℕ, Bool, true, false, not, List, [], ◌∷◌}
use Rattle.std.proofs.Common.{Bor, Option, Some, None, ap, arith, bytes_eq, length, map, refl, subst, sym}
use Rattle.std.proofs.Common.{◌≤◌, ◌++◌}
use Rattle.std.specs.List.{filter, list_all, list_any}
use Rattle.std.proofs.Math.Bool.{and-false}
use Rattle.std.proofs.lemmas.Bool.{and_from, and_parts, not-true}
use Rattle.std.proofs.lemmas.List.{map-append}
use Rattle.mq_topic.proofs.ByteLemmas.{text_is, text_itself}
use Rattle.mq_topic.specs.Levels.{levels}
use Rattle.mq_topic.specs.Matching.{level_at}
use Rattle.mq_topic.specs.Texts.{is_plain}
use Rattle.mq_acl.specs.Access.{applies, begins_with_dollar}
use Rattle.mq_acl.specs.Rows.{AclRow}
use Rattle.mq_acl.specs.Views.{row_view}
use Rattle.mq_acl.specs.declared.row.Row.{Row}
use Rattle.mq_cover.specs.Choices.{other_at}
use Rattle.mq_cover.specs.Names.{behind, fits_start, is_choice, suits}
use Rattle.mq_cover.specs.Remainders.{fits}
use Rattle.mq_cover.specs.declared.others.Others.{Others}
use Rattle.mq_cover.specs.declared.start.Start.{Start}
use Rattle.mq_cover.specs.declared.start.Start.TheVariants as starts
use Rattle.mq_unify.specs.Clients.{mark_plain}
use Rattle.mq_unify.specs.General.{is_sound}
use Rattle.mq_unify.specs.Rows.{lent_rows, row_matches}
use Rattle.mq_unify.specs.Unlike.{is_unlike}
use Rattle.mq_shapes.specs.Covered.{AreEnough, HitsNone}
use Rattle.mq_shapes.specs.Every.{HasNoneNamed, HasNoneOfOthers, HasNoneUnnamed, IsOfOthers, IsOfUser}
use Rattle.mq_shapes.specs.Every.{has_user_mark}
use Rattle.mq_shapes.specs.Found.{AreAllReady, AreReady, HasNone, IsTopic, has_whole_marks}
use Rattle.mq_shapes.specs.Found.{has_texts, is_listed, row_hits}
use Rattle.mq_shapes.specs.Ruled.{are_literal}
use Rattle.mq_shapes.specs.Ruled.{AreRuled, IsFew, IsRuled, RulesNone, has_dollar, hides, is_front, is_kept}
use Rattle.mq_shapes.specs.Ruled.{AreElsewhere, is_of, left_out, matched_by, ruled_hits}
use Rattle.mq_shapes.specs.declared.clients.Clients.{Clients}
use Rattle.mq_shapes.specs.declared.clients.Clients.TheVariants as clients
use Rattle.mq_shapes.proofs.ApartLemmas.{enough_none, enough_ready, enough_topic}
use Rattle.mq_shapes.proofs.ConcernLemmas.{ruled_is}
use Rattle.mq_shapes.proofs.ElsewhereLemmas.{fits_dollar}
use Rattle.mq_shapes.proofs.HiddenLemmas.{first_begins}
use Rattle.mq_shapes.proofs.WithinLemmas.{all_parts, hits_within, literal_unmarked}
use Rattle.std.proofs.lemmas.List.Folds.{list_any-append}

pub all-map : {X Y : Type 0} (p : Y → Bool) (f : X → Y) (xs : List X)
    → list_all p (map f xs) ≡ list_all (λ x. p (f x)) xs
all-map p f [] = refl
all-map p f (x ∷ xs) = ap (λ b. p (f x) && b) (all-map p f xs)

pub filter-map : {X Y : Type 0} (p : Y → Bool) (f : X → Y) (xs : List X)
    → map f (filter (λ x. p (f x)) xs) ≡ filter p (map f xs)
filter-map p f [] = refl
filter-map p f (x ∷ xs) = by (p (f x)) refl (filter-map p f xs)
  where
    by : (b : Bool) → p (f x) ≡ b → map f (filter (λ x. p (f x)) xs) ≡ filter p (map f xs)
        → map f (filter (λ x. p (f x)) (x ∷ xs)) ≡ filter p (f x ∷ map f xs)
    by true e rest = grind (arith, e, rest)
    by false e rest = grind (arith, e, rest)

-- what all rows pass, those that are left pass too
all_left : (p q : AclRow → Bool) (rows : List AclRow) → list_all p rows ≡ true
    → list_all p (filter q rows) ≡ true
all_left p q [] h = refl
all_left p q (row ∷ rows) h =
    let parts = and_parts (p row) (list_all p rows) h in
    by (q row) refl parts.0 (all_left p q rows parts.1)
  where
    by : (b : Bool) → q row ≡ b → p row ≡ true → list_all p (filter q rows) ≡ true
        → list_all p (filter q (row ∷ rows)) ≡ true
    by true e h k = grind (arith, e, h, k)
    by false e h k = grind (arith, e, h, k)

-- a name of these begins with `$`, or doesn't
pub suits_dollar : (start : Start) (name : List ℕ) → is_front start ≡ true
    → suits start (levels name) ≡ true → begins_with_dollar name ≡ has_dollar start
suits_dollar start name f s = sym (first_begins name) ∙ by start (levels name) f s
  where
    none : (start : Start) → is_front start ≡ true → suits start [] ≡ false
    none starts.Plain f = refl
    none starts.Dollar f = refl
    none starts.Readable f = refl
    none starts.Writable f = refl
    none starts.Slash f = refl
    none starts.Inside f = absurd (let n : false ≡ true = f in cc)

    by : (start : Start) (ls : List (List ℕ)) → is_front start ≡ true → suits start ls ≡ true
        → begins_with_dollar (level_at ls 0) ≡ has_dollar start
    by start [] f s = absurd (let n : false ≡ true = sym (none start f) ∙ s in cc)
    by start (l ∷ ls) f s = fits_dollar start l f (and_parts (fits_start start l) (suits (behind start l) ls) s).0

-- rows that are left can be asked as all of them
pub ready_of : (o : Others) (start : Start) (q : AclRow → Bool) (rows : List AclRow)
    → AreReady o start rows → AreReady o start (filter q rows)
ready_of o start q rows are = record {
  sound = all_left (λ row. fits (is_sound (other_at start o)) (levels row.filter)) q rows are.sound;
  choice = all_left (λ row. fits (is_choice o) (levels row.filter)) q rows are.choice;
  whole = all_left has_whole_marks q rows are.whole;
}

-- the user name of such a client has no wildcards
of_plain : (users : List (Bor (List ℕ))) (k : Clients) (user : Option (List ℕ))
    → is_of users k user ≡ true → mark_plain user ≡ true
of_plain users k None of = refl
of_plain users clients.Anonymous (Some user) of = absurd (let n : false ≡ true = of in cc)
of_plain users (clients.Named name) (Some user) of =
    (and_parts (bytes_eq user name.now) (is_plain user) of).1
of_plain users clients.Others (Some user) of =
    (and_parts (is_plain user) (not (is_listed users (Some user))) of).0

module _ (o : Others) (start : Start) (users : List (Bor (List ℕ))) (k : Clients)
    (within must cover : List AclRow) (are : AreRuled o start users within must cover) where
  abbrev left : List AclRow
  left = filter (is_kept start k) cover

  -- the rows that a topic has to match
  abbrev firsts : List AclRow
  firsts = within ++ must

  users_fit : (j : Clients) → list_all
      (λ name. list_all (is_unlike (other_at start o)) (levels name.now)) (left_out j users) ≡ true
  users_fit clients.Anonymous = refl
  users_fit (clients.Named name) = refl
  users_fit clients.Others = are.ready.users_sound

  -- rows that are enough can be asked
  pub search_ready : (some : List (Bor (List ℕ))) (musts rows : List AclRow)
      → some ≡ left_out k users → musts ≡ firsts → AreEnough firsts left rows
      → AreAllReady o start some musts rows
  search_ready some musts rows e m f =
      subst (λ musts. AreAllReady o start some musts rows) (sym m)
      (subst (λ some. AreAllReady o start some firsts rows) (sym e)
      (record {
        others_fit = are.ready.others_fit;
        front = are.ready.front;
        begins = are.ready.begins;
        fresh = are.ready.fresh;
        users_sound = users_fit k;
        must_ready = are.ready.must_ready;
        cover_ready = enough_ready start firsts left rows f o
            (ready_of o start (is_kept start k) cover are.ready.cover_ready);
      }))

  must_whole : list_all has_whole_marks must ≡ true
  must_whole = (all_parts has_whole_marks within must are.ready.must_ready.whole).1

  same : (client name : List ℕ) (user : Option (List ℕ)) → is_plain client ≡ true
      → is_of users k user ≡ true → suits start (levels name) ≡ true
      → ruled_hits client user name must cover
      ≡ (list_all (is_kept start k) must && row_hits client user (levels name) must left)
  same client name user c of s =
      ruled_is start users client name c (suits_dollar start name are.begun s) k user of must cover
      must_whole are.ready.cover_ready.whole are.must_listed are.cover_listed

  -- of a name that the filters match, the first rows and those are hit together
  inside : (client : List ℕ) (user : Option (List ℕ)) (ls : List (List ℕ))
      → matched_by within ls ≡ true
      → row_hits client user ls firsts left ≡ row_hits client user ls must left
  inside client user ls w = hits_within client user ls within must left are.literal
      ∙ ap (λ b. b && row_hits client user ls must left) w

  -- where one of the first rows can't concern the clients, there is no such name
  pub none_kept : list_all (is_kept start k) must ≡ false → RulesNone start users k within must cover
  none_kept h client user name c of t s few w = same client name user c of s
      ∙ ap (λ b. b && row_hits client user (levels name) must left) h

  pub none_left : ((client : List ℕ) (user : Option (List ℕ)) → is_plain client ≡ true
      → is_of users k user ≡ true → has_texts client user ≡ true
      → HasNone start firsts left client user)
      → RulesNone start users k within must cover
  none_left h client user name c of t s few w = same client name user c of s
      ∙ ap (λ b. list_all (is_kept start k) must && b)
      (sym (inside client user (levels name) w) ∙ h client user c of t (levels name) s few)
      ∙ and-false (list_all (is_kept start k) must)

  -- where one of the first rows covers none that begins so
  pub none_elsewhere : AreElsewhere start firsts → RulesNone start users k within must cover
  none_elsewhere h = none_left (λ client user c of t ls s few.
      ap (λ b. b && not (list_any (row_matches client user ls) left)) (h client user ls s))

  -- where one of them covers what one of the first does
  pub none_covered : (musts rows : List AclRow) → musts ≡ firsts → AreEnough firsts left rows
      → HitsNone musts rows → RulesNone start users k within must cover
  none_covered musts rows m f h = none_left (λ client user c of t.
      enough_none start firsts left rows f client user (λ ls s few. ap (λ musts. row_hits client user ls musts rows) (sym m)
      ∙ h client user ls c (of_plain users k user of)))

  pub found_left : list_all (is_kept start k) must ≡ true → (client topic : List ℕ)
      (user : Option (List ℕ)) → is_plain client ≡ true → is_of users k user ≡ true
      → has_texts client user ≡ true → length (levels client) ≤ 200 → IsFew k user
      → IsTopic start firsts left client user topic
      → IsRuled start users k within must cover client user topic
  found_left h client topic user c of t low few is =
      let hits = and_parts (matched_by within (levels topic))
      (row_hits client user (levels topic) must left)
      (sym (hits_within client user (levels topic) within must left are.literal) ∙ is.hit) in
      record {
        client_plain = c;
        user_is = of;
        texts = t;
        client_few = low;
        user_few = few;
        suitable = is.suitable;
        few = is.few;
        valid = is.valid;
        inside = hits.0;
        hit = same client topic user c of is.suitable
            ∙ and_from (list_all (is_kept start k) must)
            (row_hits client user (levels topic) must left) h hits.1;
      }

  -- ---- by the kinds of clients
  pub none_unnamed : k ≡ clients.Anonymous → (musts rows : List AclRow) → musts ≡ firsts
      → AreEnough firsts left rows → HasNoneUnnamed start musts rows
      → RulesNone start users k within must cover
  none_unnamed e musts rows m f h = none_left (λ client user c of t.
      enough_none start firsts left rows f client user (by client user c t (subst (λ j. is_of users j user ≡ true) e of)
      (subst (λ musts. HasNoneUnnamed start musts rows) m h)))
    where
      by : (client : List ℕ) (user : Option (List ℕ)) → is_plain client ≡ true
          → has_texts client user ≡ true → is_of users clients.Anonymous user ≡ true
          → HasNoneUnnamed start firsts rows → HasNone start firsts rows client user
      by client None c t of h = h client c t
      by client (Some user) c t of h = absurd (let n : false ≡ true = of in cc)

  pub none_named : (name : Bor (List ℕ)) → k ≡ clients.Named name → (musts rows : List AclRow)
      → musts ≡ firsts → AreEnough firsts left rows → is_plain name.now ≡ true
      → HasNoneNamed start name.now musts rows → RulesNone start users k within must cover
  none_named name e musts rows m f p h = none_left (λ client user c of t.
      enough_none start firsts left rows f client user
      (by client user c t (subst (λ j. is_of users j user ≡ true) e of)
      (subst (λ musts. HasNoneNamed start name.now musts rows) m h)))
    where
      by : (client : List ℕ) (user : Option (List ℕ)) → is_plain client ≡ true
          → has_texts client user ≡ true → is_of users (clients.Named name) user ≡ true
          → HasNoneNamed start name.now firsts rows → HasNone start firsts rows client user
      by client None c t of h = absurd (let n : false ≡ true = of in cc)
      by client (Some user) c t of h =
          let is = text_is user name.now (and_parts (bytes_eq user name.now) (is_plain user) of).0 in
          subst (λ u. HasNone start firsts rows client (Some u)) (sym is)
          (h client c p (ap (λ u. has_texts client (Some u)) (sym is) ∙ t))

  pub none_others : k ≡ clients.Others → (some : List (Bor (List ℕ))) → some ≡ left_out k users
      → (musts rows : List AclRow) → musts ≡ firsts → AreEnough firsts left rows
      → HasNoneOfOthers start some musts rows → RulesNone start users k within must cover
  none_others e some s musts rows m f h = none_left (λ client user c of t.
      enough_none start firsts left rows f client user
      (by client user c t (subst (λ j. is_of users j user ≡ true) e of)
      (subst (λ some. HasNoneOfOthers start some firsts rows) (s ∙ ap (λ j. left_out j users) e)
      (subst (λ musts. HasNoneOfOthers start some musts rows) m h))))
    where
      by : (client : List ℕ) (user : Option (List ℕ)) → is_plain client ≡ true
          → has_texts client user ≡ true → is_of users clients.Others user ≡ true
          → HasNoneOfOthers start users firsts rows → HasNone start firsts rows client user
      by client None c t of h = absurd (let n : false ≡ true = of in cc)
      by client (Some user) c t of h =
          let parts = and_parts (is_plain user) (not (is_listed users (Some user))) of in
          h client user c parts.0 (not-true (is_listed users (Some user)) parts.1) t

  module _ (all : list_all (is_kept start k) must ≡ true) (musts rows : List AclRow)
      (m : musts ≡ firsts) (f : AreEnough firsts left rows) (client topic : List ℕ)
      (user : Option (List ℕ)) where
    topic_too : IsTopic start musts rows client user topic
        → IsTopic start firsts left client user topic
    topic_too is = enough_topic start firsts left rows f client user topic
        (subst (λ musts. IsTopic start musts rows client user topic) m is)

    pub found_unnamed : k ≡ clients.Anonymous → IsOfUser start None musts rows client user topic
        → IsRuled start users k within must cover client user topic
    found_unnamed e is = found_left all client topic user is.client_plain
        (subst (λ j. is_of users j user ≡ true) (sym e)
        (ap (is_of users clients.Anonymous) is.user_is)) is.texts is.client_few
        (subst (λ j. IsFew j user) (sym e) tt)
        (topic_too is.is)

    pub found_named : (name : Bor (List ℕ)) → k ≡ clients.Named name → is_plain name.now ≡ true
        → IsOfUser start (Some name.now) musts rows client user topic
        → IsRuled start users k within must cover client user topic
    found_named name e p is = found_left all client topic user is.client_plain
        (subst (λ j. is_of users j user ≡ true) (sym e)
        (ap (is_of users (clients.Named name)) is.user_is
        ∙ and_from (bytes_eq name.now name.now) (is_plain name.now) (text_itself name.now) p)) is.texts is.client_few
        (subst (λ j. IsFew j user) (sym e) tt)
        (topic_too is.is)

    pub found_others : k ≡ clients.Others → (some : List (Bor (List ℕ)))
        → some ≡ left_out k users → IsOfOthers start some musts rows client user topic
        → IsRuled start users k within must cover client user topic
    found_others e some s is = found_left all client topic user is.client_plain
        (subst (λ j. is_of users j user ≡ true) (sym e)
        (ap (is_of users clients.Others) is.user_is
        ∙ and_from (is_plain is.name) (not (is_listed users (Some is.name))) is.user_plain
        (ap not (ap (λ some. is_listed some (Some is.name))
        (sym (s ∙ ap (λ j. left_out j users) e)) ∙ is.unlisted)))) is.texts is.client_few
        (subst (λ j. IsFew j user) (sym e) (subst (IsFew clients.Others) (sym is.user_is) is.user_few))
        (topic_too is.is)

-- rows that are kept for clients without a user name have no `%u`
pub kept_unmarked : (start : Start) (k : Clients) → k ≡ clients.Anonymous → (rows : List AclRow)
    → list_all (is_kept start k) rows ≡ true → list_any has_user_mark rows ≡ false
kept_unmarked start k e rows h = by rows (ap (λ j. list_all (is_kept start j) rows) (sym e) ∙ h)
  where
    of_row : (a m s : Bool) → ((a && not m) && s) ≡ true → m ≡ false
    of_row true false true h = refl
    of_row true true s h = absurd (let n : false ≡ true = h in cc)
    of_row true false false h = refl
    of_row false m s h = absurd (let n : false ≡ true = h in cc)

    by : (rows : List AclRow) → list_all (is_kept start clients.Anonymous) rows ≡ true
        → list_any has_user_mark rows ≡ false
    by [] h = refl
    by (row ∷ rows) h =
        let parts = and_parts (is_kept start clients.Anonymous row)
        (list_all (is_kept start clients.Anonymous) rows) h in
        (λ i. of_row (applies None row.who) (has_user_mark row)
        (not (has_dollar start && hides row)) parts.0 i || by rows parts.1 i)

-- and so it is of all that the topic has to match
pub firsts_unmarked : (start : Start) (k : Clients) (within must musts : List AclRow)
    → k ≡ clients.Anonymous → are_literal within ≡ true
    → list_all (is_kept start k) must ≡ true → musts ≡ within ++ must
    → list_any has_user_mark musts ≡ false
firsts_unmarked start k within must musts e literal kept m =
    ap (list_any has_user_mark) m ∙ list_any-append has_user_mark within must
    ∙ (λ i. literal_unmarked within literal i || kept_unmarked start k e must kept i)

-- rows that are left are kept
pub left_kept : (q : AclRow → Bool) (rows : List AclRow) → list_all q (filter q rows) ≡ true
left_kept q [] = refl
left_kept q (row ∷ rows) = by (q row) refl (left_kept q rows)
  where
    by : (b : Bool) → q row ≡ b → list_all q (filter q rows) ≡ true
        → list_all q (filter q (row ∷ rows)) ≡ true
    by true e k = grind (arith, e, k)
    by false e k = grind (arith, e, k)

-- ---- the rows that are lent
-- those of both lists
pub firsts_are : (within must rows whole : List (Bor Row)) → rows ≡ whole → whole ≡ within ++ must
    → lent_rows rows ≡ lent_rows within ++ lent_rows must
firsts_are within must rows whole e f =
    ap lent_rows (e ∙ f) ∙ map-append (λ row. row_view row.now) within must

-- those that are left
pub left_are : (q : AclRow → Bool) (cover rows whole : List (Bor Row)) → rows ≡ whole
    → whole ≡ filter (λ row. q (row_view row.now)) cover
    → lent_rows rows ≡ filter q (lent_rows cover)
left_are q cover rows whole e f =
    ap lent_rows (e ∙ f) ∙ filter-map q (λ row. row_view row.now) cover

-- and those of them that are enough
pub enough_are : (musts every left : List AclRow) (rows whole : List (Bor Row))
    → musts ≡ every → rows ≡ whole → AreEnough musts left (lent_rows whole)
    → AreEnough every left (lent_rows rows)
enough_are musts every left rows whole m e are =
    subst (λ musts. AreEnough musts left (lent_rows rows)) m
    (subst (λ rows. AreEnough musts left (lent_rows rows)) (sym e) are)
