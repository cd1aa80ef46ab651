-- A name of a client, and that of another whose id has the first levels of its id, and one that is no level
-- of the name.
use Rattle.std.proofs.Common.{◌≡◌, ◌∙◌, ◌&&◌, ◌||◌, ◌==◌, ◌+◌, ◌-◌, ◌≤◌, ◌<◌, ℕ, Bool, true, false, not, List, []}
use Rattle.std.proofs.Common.{◌∷◌, ◌++◌, Option, Some, None, ap, append_assoc, arith, bytes_eq, codes, drop}
use Rattle.std.proofs.Common.{length, refl, subst, sym, take}
use Rattle.std.specs.List.{list_all, list_any, onto_first}
use Rattle.std.specs.Option.{unwrap_or}
use Rattle.std.proofs.lemmas.Bool.{and_from, and_parts, or_parts}
use Rattle.std.proofs.lemmas.List.{append_cancel_left, append_cancel_right, length-drop, take-append-drop}
use Rattle.std.proofs.lemmas.List.Folds.{list_any-append}
use Rattle.mq_topic.specs.Levels.{levels}
use Rattle.mq_topic.specs.Texts.{contains_byte, is_plain}
use Rattle.mq_acl.proofs.FilledLemmas.{plain_levels}
use Rattle.mq_acl.specs.Lines.{is_pattern_level}
use Rattle.mq_acl.specs.Rows.{AclRow}
use Rattle.mq_acl.specs.RowsByOwner.{is_everyones}
use Rattle.mq_unify.specs.Clients.{HasShape, IsMade, goes_along, made_levels}
use Rattle.mq_unify.specs.Rows.{AllMade, row_matches}
use Rattle.mq_unify.specs.declared.shape.ClientShape.{ClientShape}
use Rattle.mq_unify.specs.declared.shape.UserShape.{UserShape}
use Rattle.mq_unify.specs.declared.shape.UserShape.TheVariants.{Absent, Known, Levels}
use Rattle.mq_unify.proofs.FilterLemmas.{all_lack, levels_lack, match_rest}
use Rattle.mq_unify.proofs.JoinLemmas.{length-values}
use Rattle.mq_shapes.specs.Every.{has_client_mark, with_levels}
use Rattle.mq_shapes.specs.Few.{ArePlaced, AreWithin, IsWithin}
use Rattle.mq_shapes.proofs.AnyLemmas.{same_beside_client, same_filled}
use Rattle.mq_shapes.proofs.FewLemmas.{cut, in_later, one_place, own_along, own_cut, same_front}
use Rattle.mq_shapes.proofs.MarkLemmas.{as_pattern, is_client_mark, made_after, mark_along, row_along}
use Rattle.mq_shapes.proofs.MarkLemmas.{split_mark}
use Rattle.mq_shapes.proofs.TextLemmas.{bare_shape, named_shape, text_shape, texts}
use Rattle.mq_shapes.proofs.WithinLemmas.{all_parts}

-- ---- lists
pub all_take : {X : Type 0} (p : X → Bool) (n : ℕ) (xs : List X) → list_all p xs ≡ true
    → list_all p (take n xs) ≡ true
all_take p n xs h =
    (all_parts p (take n xs) (drop n xs) (ap (list_all p) (take-append-drop n xs) ∙ h)).0

same_split : (xs ys us vs : List (List ℕ)) → xs ++ ys ≡ us ++ vs → length xs ≡ length us
    → (xs ≡ us) × (ys ≡ vs)
same_split [] ys [] vs e n = (refl, e)
same_split [] ys (u ∷ us) vs e n = absurd (omega arith)
same_split (x ∷ xs) ys [] vs e n = absurd (omega arith)
same_split (x ∷ xs) ys (u ∷ us) vs e n =
    let heads : x ≡ u = cc in
    let tails : xs ++ ys ≡ us ++ vs = cc in
    let rest = same_split xs ys us vs tails (omega (arith, n)) in
    ((λ i. heads i ∷ rest.0 i), rest.1)

none_parts : (f : List ℕ) (xs ys : List (List ℕ)) → list_any (bytes_eq f) (xs ++ ys) ≡ false
    → (list_any (bytes_eq f) xs ≡ false) × (list_any (bytes_eq f) ys ≡ false)
none_parts f xs ys h = or_parts (list_any (bytes_eq f) xs) (list_any (bytes_eq f) ys)
    (sym (list_any-append (bytes_eq f) xs ys) ∙ h)

-- ---- the levels of texts
abbrev pub lack : ℕ → List (List ℕ) → Bool
lack b ls = list_all (λ l. not (contains_byte b l)) ls

lack_onto : (b x : ℕ) (ls : List (List ℕ)) → (x == b) ≡ false → lack b ls ≡ true
    → lack b (onto_first x ls) ≡ true
lack_onto b x [] n h = rw n refl
lack_onto b x (l ∷ ls) n h = rw n h

pub levels_without : (b : ℕ) (text : List ℕ) → contains_byte b text ≡ false
    → lack b (levels text) ≡ true
levels_without b [] h = refl
levels_without b (x ∷ xs) h =
    grind (arith, levels_without b xs, lack_onto, or_parts (x == b) (contains_byte b xs) h)

-- ---- the texts of another client with the same user name
pub shape_of : (of : UserShape) (count : ℕ) (values : ℕ → List ℕ) (client id : List ℕ)
    (user : Option (List ℕ)) → HasShape (with_levels count of) values client user
    → (fresh : ℕ → List ℕ) × HasShape (with_levels (length (levels id)) of) fresh id user
shape_of Absent count values client id user h =
    let is : user ≡ None = h.user_is in (
      texts id [],
      subst (λ u. HasShape (with_levels (length (levels id)) Absent) (texts id []) id u) (sym is)
          (bare_shape id),
    )
shape_of (Known name) count values client id user h =
    let is : user ≡ Some name.now = h.user_is in (
      texts id [],
      subst (λ u. HasShape (with_levels (length (levels id)) (Known name)) (texts id []) id u) (sym is)
          (named_shape id name),
    )
shape_of (Levels n) count values client id None h = absurd h.user_is
shape_of (Levels n) count values client id (Some user) h =
    let m : length (levels user) ≡ n = ap length h.user_is ∙ length-values values count n in (
      texts id user,
      subst (λ n. HasShape (with_levels (length (levels id)) (Levels n)) (texts id user) id (Some user)) m
          (text_shape id user),
    )

pub made_for : (of : UserShape) (count : ℕ) (values fresh : ℕ → List ℕ) (client id : List ℕ)
    (user : Option (List ℕ)) → HasShape (with_levels (length (levels id)) of) fresh id user
    → is_plain id ≡ true → (rows : List AclRow)
    → AllMade (with_levels count of) values client user rows
    → AllMade (with_levels (length (levels id)) of) fresh id user rows
made_for of count values fresh client id user h plain [] m = tt
made_for of count values fresh client id user h plain (row ∷ rows) m = (
  record {
    shaped = h;
    client_plain = λ e. plain;
    user_plain = m.0.user_plain;
    user_there = m.0.user_there;
    whole = m.0.whole;
  },
  made_for of count values fresh client id user h plain rows m.1,
)

-- ---- both names
module _ (of : UserShape) (count : ℕ) (values fresh : ℕ → List ℕ) (client id : List ℕ)
    (user : Option (List ℕ)) (few : ℕ) (f : List ℕ) (front back : List (List ℕ))
    (id_is : levels id ≡ take few (levels client) ++ f ∷ [])
    (id_plain : is_plain id ≡ true) (longer_id : few < length (levels client))
    (absent : list_any (bytes_eq f) (front ++ (levels client ++ back)) ≡ false) where
  abbrev pub name : List ℕ
  name = unwrap_or user []

  abbrev pub whole : List (List ℕ)
  whole = front ++ (levels client ++ back)

  abbrev pub other : List (List ℕ)
  other = front ++ (levels id ++ back)

  abbrev pub begun : List (List ℕ)
  begun = front ++ take few (levels client)

  -- both begin alike
  pub whole_is : whole ≡ begun ++ (drop few (levels client) ++ back)
  whole_is =
      ap (λ ls. front ++ (ls ++ back)) (sym (take-append-drop few (levels client)))
      ∙ ap (λ ls. front ++ ls) (append_assoc (take few (levels client)) (drop few (levels client)) back)
      ∙ sym (append_assoc front (take few (levels client)) (drop few (levels client) ++ back))

  pub other_is : other ≡ begun ++ f ∷ back
  other_is =
      ap (λ ls. front ++ (ls ++ back)) id_is
      ∙ ap (λ ls. front ++ ls) (append_assoc (take few (levels client)) (f ∷ []) back)
      ∙ sym (append_assoc front (take few (levels client)) (f ∷ back))

  none_begun : list_any (bytes_eq f) begun ≡ false
  none_begun = (none_parts f begun (drop few (levels client) ++ back)
      (ap (list_any (bytes_eq f)) (sym whole_is) ∙ absent)).0

  none_back : list_any (bytes_eq f) back ≡ false
  none_back = (none_parts f (levels client) back (none_parts f front (levels client ++ back) absent).1).1

  -- rows without `%c` are alike for both
  same_levels_of : (shape : ClientShape) (row : AclRow) (ls : List (List ℕ)) → all_lack ls ≡ true
      → IsMade shape (is_everyones row.who) values client user ls
      → (is_everyones row.who && list_any is_client_mark ls) ≡ false
      → made_levels (is_everyones row.who) id name ls
      ≡ made_levels (is_everyones row.who) client name ls
  same_levels_of shape row ls lack m c = same_filled id name client name is_client_mark
      (same_beside_client id client name) (is_everyones row.who) ls lack m.whole c

  unmarked_same : (shape : ClientShape) (row : AclRow) → has_client_mark row ≡ false
      → IsMade shape (is_everyones row.who) values client user (levels row.filter)
      → length (made_levels (is_everyones row.who) client name (levels row.filter)) ≤ length begun
      → row_matches id user other row ≡ row_matches client user whole row
  unmarked_same shape row c m n =
      let made = made_levels (is_everyones row.who) client name (levels row.filter) in
      ap (λ fs. match_rest fs other)
      (same_levels_of shape row (levels row.filter) (levels_lack row.filter) m c)
      ∙ ap (match_rest made) other_is
      ∙ by made (drop few (levels client)) (length-drop few (levels client)) n
      ∙ sym (ap (match_rest made) whole_is)
    where
      by : (made left : List (List ℕ)) → length left ≡ length (levels client) - few
          → length made ≤ length begun
          → match_rest made (begun ++ f ∷ back) ≡ match_rest made (begun ++ (left ++ back))
      by made [] e n = absurd (omega (arith, e, longer_id))
      by made (l ∷ left) e n = same_front made begun f l back (left ++ back) n

  -- ---- rows with it
  filled_same : (ls : List (List ℕ)) → all_lack ls ≡ true → list_all is_pattern_level ls ≡ true
      → list_any is_client_mark ls ≡ false
      → made_levels true id name ls ≡ made_levels true client name ls
  filled_same ls lack w c = same_filled id name client name is_client_mark
      (same_beside_client id client name) true ls lack (λ e. w) c

  placed : (x y : List (List ℕ))
      → x ++ (levels id ++ y) ≡ (x ++ take few (levels client)) ++ f ∷ y
  placed x y =
      ap (λ ls. x ++ (ls ++ y)) id_is
      ∙ ap (λ ls. x ++ ls) (append_assoc (take few (levels client)) (f ∷ []) y)
      ∙ sym (append_assoc x (take few (levels client)) (f ∷ y))

  -- one that covers the one covers the other
  marked_too : (shape new : ClientShape) (row : AclRow) (before after : List (List ℕ))
      → levels row.filter ≡ before ++ codes "%c" ∷ after
      → list_any is_client_mark before ≡ false → list_any is_client_mark after ≡ false
      → is_everyones row.who ≡ true
      → IsMade shape (is_everyones row.who) values client user (levels row.filter)
      → IsMade new (is_everyones row.who) fresh id user (levels row.filter)
      → length front ≡ length (made_levels true client name before)
      → row_matches client user whole row ≡ true → row_matches id user other row ≡ true
  marked_too shape new row before after is b a e m n long h =
      let lacks = ap all_lack (sym is) ∙ levels_lack row.filter in
      let lack = all_parts (λ l. not (contains_byte 47 l)) before (codes "%c" ∷ after) lacks in
      let wholes = ap (list_all is_pattern_level) (sym is) ∙ m.whole e in
      let plain = all_parts is_pattern_level before (codes "%c" ∷ after) wholes in
      let same_before = filled_same before lack.0 plain.0 b in
      let same_after = filled_same after lack.1 plain.1 a in
      let made_before = made_levels true client name before in
      let rest = match_rest (made_levels true client name after) in
      let first = cut made_before (goes_along (levels client) rest) whole
      (sym (row_along shape values client user row before after is e m whole) ∙ h) in
      let parts = same_split front (levels client ++ back) first.front first.rest first.is
      (long ∙ sym first.long) in
      let own = own_cut (levels client) rest first.rest (plain_levels client (m.client_plain e))
      first.goes in
      let back_is = append_cancel_left (levels client) back own.rest (parts.1 ∙ own.is) in
      row_along new fresh id user row before after is e n other
      ∙ (λ i. goes_along (same_before i) (goes_along (levels id) (match_rest (same_after i)))
      (parts.0 i ++ (levels id ++ back)))
      ∙ first.again (goes_along (levels id) rest) (levels id ++ back)
      ∙ own_along (levels id) rest back ∙ ap rest back_is ∙ own.goes

  -- levels that match what has it in them have the new level
  mark_in : (new : ClientShape) (ls ks : List (List ℕ)) → all_lack ls ≡ true
      → IsMade new true fresh id user ls → list_any is_client_mark ls ≡ true
      → match_rest (made_levels true id name ls) ks ≡ true → list_any (bytes_eq f) ks ≡ true
  mark_in new ls ks lack n c h =
      let s = split_mark ls c in
      let rest = match_rest (made_levels true id name s.after) in
      let first = cut (made_levels true id name s.before) (goes_along (levels id) rest) ks
      (sym (mark_along new fresh id user s.before s.after (ap all_lack (sym s.is) ∙ lack)
      (subst (IsMade new true fresh id user) s.is n) ks)
      ∙ sym (ap (λ fs. match_rest (made_levels true id name fs) ks) s.is) ∙ h) in
      let own = own_cut (levels id) rest first.rest (plain_levels id id_plain) first.goes in
      ap (list_any (bytes_eq f)) (first.is ∙ ap (λ k. first.front ++ k) own.is
      ∙ placed first.front own.rest)
      ∙ in_later f (first.front ++ take few (levels client)) own.rest

  -- and one that covers the other covers the one
  marked_back : (shape new : ClientShape) (row : AclRow) → has_client_mark row ≡ true
      → IsMade shape (is_everyones row.who) values client user (levels row.filter)
      → IsMade new (is_everyones row.who) fresh id user (levels row.filter)
      → row_matches id user other row ≡ true → row_matches client user whole row ≡ true
  marked_back shape new row c m n h =
      let both = and_parts (is_everyones row.who) (list_any is_client_mark (levels row.filter)) c in
      let s = split_mark (levels row.filter) both.1 in
      let lacks = ap all_lack (sym s.is) ∙ levels_lack row.filter in
      let lack = all_parts (λ l. not (contains_byte 47 l)) s.before (codes "%c" ∷ s.after) lacks in
      let wholes = ap (list_all is_pattern_level) (sym s.is) ∙ m.whole both.0 in
      let plain = all_parts is_pattern_level s.before (codes "%c" ∷ s.after) wholes in
      let made_before = made_levels true id name s.before in
      let rest = match_rest (made_levels true id name s.after) in
      let first = cut made_before (goes_along (levels id) rest) other
      (sym (row_along new fresh id user row s.before s.after s.is both.0 n other) ∙ h) in
      let own = own_cut (levels id) rest first.rest (plain_levels id id_plain) first.goes in
      let at = one_place f begun back (first.front ++ take few (levels client)) own.rest none_begun
      none_back (sym (placed front back) ∙ first.is ∙ ap (λ k. first.front ++ k) own.is
      ∙ placed first.front own.rest) in
      let front_is = append_cancel_right front first.front (take few (levels client)) at.0 in
      let goes = ap rest at.1 ∙ own.goes in
      by (list_any is_client_mark s.after) refl
      (λ k. mark_in new s.after back lack.1
      (made_after new fresh id user s.before s.after lacks
      (as_pattern new fresh id user row (s.before ++ codes "%c" ∷ s.after) s.is both.0 n)) k goes)
      (λ k.
      let same_after = filled_same s.after lack.1 plain.1 k in
      let mine = match_rest (made_levels true client name s.after) in
      row_along shape values client user row s.before s.after s.is both.0 m whole
      ∙ (λ i. goes_along (sym (filled_same s.before lack.0 plain.0 s.none) i)
      (goes_along (levels client) mine) (front_is i ++ (levels client ++ back)))
      ∙ first.again (goes_along (levels client) mine) (levels client ++ back)
      ∙ own_along (levels client) mine back ∙ ap (λ fs. match_rest fs back) (sym same_after) ∙ goes)
    where
      by : (b : Bool) {marked : Bool} → marked ≡ b
          → (marked ≡ true → list_any (bytes_eq f) back ≡ true)
          → (marked ≡ false → row_matches client user whole row ≡ true)
          → row_matches client user whole row ≡ true
      by true e found none =
          absurd (let n : false ≡ true = sym none_back ∙ found e in cc)
      by false e found none = none e

  -- ---- all rows
  module _ (shape new : ClientShape) (known place : ℕ) (known_is : length (levels name) ≡ known)
      (long : length front ≡ place) (begun_long : length begun ≡ place + few) where
    unmarked_row : (row : AclRow) → has_client_mark row ≡ false
        → IsMade shape (is_everyones row.who) values client user (levels row.filter)
        → (has_client_mark row ≡ false → IsWithin known (place + few) row)
        → row_matches id user other row ≡ row_matches client user whole row
    unmarked_row row c m w = let low = w c client name known_is in
        unmarked_same shape row c m (omega (arith, low, begun_long))

    -- what all cover of the one name they cover of the other
    pub all_too : (rows : List AclRow) → AllMade shape values client user rows
        → AllMade new fresh id user rows → ArePlaced known place rows
        → AreWithin known (place + few) rows
        → list_all (row_matches client user whole) rows ≡ true
        → list_all (row_matches id user other) rows ≡ true
    all_too [] m n p w h = refl
    all_too (row ∷ rows) m n p w h =
        let both = and_parts (row_matches client user whole row)
        (list_all (row_matches client user whole) rows) h in
        and_from (row_matches id user other row) (list_all (row_matches id user other) rows)
        (by both.0 (has_client_mark row) refl) (all_too rows m.1 n.1 p.1 w.1 both.1)
      where
        by : row_matches client user whole row ≡ true → (b : Bool) → has_client_mark row ≡ b
            → row_matches id user other row ≡ true
        by one true c =
            let at = p.0 c in
            let e = (and_parts (is_everyones row.who)
            (list_any is_client_mark (levels row.filter)) c).0 in
            marked_too shape new row at.before at.after at.is at.none_before at.none_after e m.0 n.0
            (long ∙ sym (at.long client name known_is)) one
        by one false c = unmarked_row row c m.0 w.0 ∙ one

    -- and where none covers the one, none covers the other
    pub none_too : (rows : List AclRow) → AllMade shape values client user rows
        → AllMade new fresh id user rows → AreWithin known (place + few) rows
        → list_any (row_matches client user whole) rows ≡ false
        → list_any (row_matches id user other) rows ≡ false
    none_too [] m n w h = refl
    none_too (row ∷ rows) m n w h =
        let both = or_parts (row_matches client user whole row)
        (list_any (row_matches client user whole) rows) h in
        let rest = none_too rows m.1 n.1 w.1 both.1 in
        (λ i. here both.0 (has_client_mark row) refl i || rest i)
      where
        at : row_matches client user whole row ≡ false → has_client_mark row ≡ true
            → (b : Bool) → row_matches id user other row ≡ b → row_matches id user other row ≡ false
        at one c true e = absurd (let k : false ≡ true = sym one
            ∙ marked_back shape new row c m.0 n.0 e in cc)
        at one c false e = e

        here : row_matches client user whole row ≡ false → (b : Bool) → has_client_mark row ≡ b
            → row_matches id user other row ≡ false
        here one true c = at one c (row_matches id user other row) refl
        here one false c = unmarked_row row c m.0 w.0 ∙ one
