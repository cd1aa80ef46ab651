-- What the most general client has none of, no client of its shape has.
use Rattle.std.proofs.Common.{◌≡◌, ◌∙◌, ◌&&◌, ◌||◌, ◌==◌, ◌<◌, ℕ, Bool, true, false, not, List, [], ◌∷◌, ◌++◌}
use Rattle.std.proofs.Common.{Option, Some, None, ap, arith, bytes_eq, cond, drop, if◌then◌else◌, length, length-append, ◌+◌, nat_eq, nat_le, refl}
use Rattle.std.proofs.Common.{Bor, get_or, subst, suc, sym, zero}
use Rattle.std.proofs.Math.Bool.{and-false}
use Rattle.std.specs.List.{join_with_byte, list_all, list_any, onto_first, starts_with}
use Rattle.std.proofs.lemmas.List.Splits.{join_with_byte-slice_split}
use Rattle.mq_topic.proofs.ByteLemmas.{text_is}
use Rattle.std.proofs.lemmas.Bool.{and_from, and_left, and_parts, not-true, or_parts}
use Rattle.mq_topic.specs.Levels.{is_slash, levels}
use Rattle.mq_topic.specs.Texts.{contains_byte, is_plain}
use Rattle.mq_topic.proofs.Walk.{levels-nonempty}
use Rattle.mq_acl.specs.Rows.{AclRow}
use Rattle.mq_acl.specs.RowsByOwner.{is_everyones}
use Rattle.mq_cover.specs.Choices.{other_at}
use Rattle.mq_acl.specs.Access.{begins_with_dollar}
use Rattle.mq_acl.specs.Refused.{begins_own, begins_shared}
use Rattle.mq_cover.specs.Names.{are_others, behind, can_be_level, fits_start, is_choice, is_name_level}
use Rattle.mq_cover.specs.Names.{suits}
use Rattle.mq_cover.specs.Remainders.{fits}
use Rattle.mq_cover.specs.declared.others.Others.{Others}
use Rattle.mq_cover.specs.declared.start.Start.{Start}
use Rattle.mq_cover.specs.declared.start.Start.TheVariants.{Plain, Dollar, Readable, Writable}
use Rattle.mq_cover.specs.declared.start.Start.TheVariants.{Slash, Inside}
use Rattle.mq_cover.proofs.NameLemmas.{no_dollar, suits_inside}
use Rattle.mq_unify.specs.Clients.{HasShape, HasUser, IsMade, mark_plain, user_passes, values_from}
use Rattle.mq_unify.specs.General.{AreAlike, IsMostGeneral, IsSound, StandsFor, is_sound}
use Rattle.mq_unify.specs.Joined.{HasLevels}
use Rattle.mq_unify.specs.Rows.{AllMade, row_matches, rows_fit}
use Rattle.mq_unify.specs.Unlike.{is_unlike}
use Rattle.mq_unify.specs.declared.shape.ClientShape.{ClientShape}
use Rattle.mq_unify.specs.declared.shape.UserShape.{UserShape}
use Rattle.mq_unify.specs.declared.shape.UserShape.TheVariants.{Absent, Known, Levels}
use Rattle.mq_shapes.specs.Found.{FindsNone, HasNone, IsReady, has_levels, has_name, has_texts}
use Rattle.mq_shapes.specs.Found.{is_empty_name, is_listed}
use Rattle.mq_shapes.specs.Found.{row_hits}

-- ---- names that are alike
starts_so : (prefix text : List ℕ) → starts_with nat_eq text prefix ≡ true
    → text ≡ prefix ++ drop (length prefix) text
starts_so [] text h = refl
starts_so (x ∷ xs) [] h = absurd (let k : false ≡ true = h in cc)
starts_so (x ∷ xs) (y ∷ ys) h = grind (arith, starts_so xs ys)

alike_length : (prefix : List ℕ) (ts ls : List (List ℕ)) → AreAlike prefix ts ls
    → length ts ≡ length ls
alike_length prefix [] [] a = refl
alike_length prefix [] (l ∷ ls) a = absurd a
alike_length prefix (t ∷ ts) [] a = absurd a
alike_length prefix (t ∷ ts) (l ∷ ls) a =
    let rest = alike_length prefix ts ls a.1 in omega (arith, rest)

-- behind any level a name may go on with any
some_suits : (start : Start) (text level : List ℕ) (ls : List (List ℕ))
    → suits (behind start text) (level ∷ ls) ≡ true
some_suits Plain text level ls = by (length text == 0)
  where
    by : (b : Bool) → suits (if b then Slash else Inside) (level ∷ ls) ≡ true
    by true = suits_inside ls
    by false = suits_inside ls
some_suits Dollar text level ls = suits_inside ls
some_suits Readable text level ls = suits_inside ls
some_suits Writable text level ls = suits_inside ls
some_suits Slash text level ls = suits_inside ls
some_suits Inside text level ls = suits_inside ls

-- behind one that isn't empty it may end too
full_suits : (start : Start) (text : List ℕ) (ls : List (List ℕ)) → (length text == 0) ≡ false
    → suits (behind start text) ls ≡ true
full_suits Plain text ls h =
    ap (λ b. suits (if b then Slash else Inside) ls) h ∙ suits_inside ls
full_suits Dollar text ls h = suits_inside ls
full_suits Readable text ls h = suits_inside ls
full_suits Writable text ls h = suits_inside ls
full_suits Slash text ls h = suits_inside ls
full_suits Inside text ls h = suits_inside ls

long_suits : (start : Start) (text : List ℕ) (ts ls : List (List ℕ)) → length ts ≡ length ls
    → suits (behind start text) ls ≡ true → suits (behind start text) ts ≡ true
long_suits start text [] [] n h = h
long_suits start text [] (l ∷ ls) n h = absurd (omega (arith, n))
long_suits start text (t ∷ ts) ls n h = some_suits start text t ts

module _ (prefix : List ℕ) (start : Start)
    (begins : (rest : List ℕ) → fits_start start (prefix ++ rest) ≡ true)
    (some : 0 < length prefix) where
  fresh_suits : (t : List ℕ) (ts : List (List ℕ)) → is_unlike prefix t ≡ false
      → suits start (t ∷ ts) ≡ true
  fresh_suits t ts u =
      let is = starts_so prefix t (starting (starts_with nat_eq t prefix) u) in
      let long : length t ≡ length prefix + length (drop (length prefix) t) =
      ap length is ∙ length-append prefix (drop (length prefix) t) in
      let full : (length t == 0) ≡ false = grind (arith, long, some) in
      and_from (fits_start start t) (suits (behind start t) ts)
      (subst (λ m. fits_start start m ≡ true) (sym is) (begins (drop (length prefix) t)))
      (full_suits start t ts full)
    where
      starting : (b : Bool) → not b ≡ false → b ≡ true
      starting true h = refl
      starting false h = absurd (let k : true ≡ false = h in cc)

  pub alike_suits : (ts ls : List (List ℕ)) → AreAlike prefix ts ls → suits start ls ≡ true
      → suits start ts ≡ true
  alike_suits [] [] a h = h
  alike_suits [] (l ∷ ls) a h = absurd a
  alike_suits (t ∷ ts) [] a h = absurd a
  alike_suits (t ∷ ts) (l ∷ ls) a h = by (is_unlike prefix t) refl
    where
      by : (b : Bool) → is_unlike prefix t ≡ b → suits start (t ∷ ts) ≡ true
      by false u = fresh_suits t ts u
      by true u =
          let whole = subst (λ m. suits start (m ∷ ls) ≡ true) (a.0 u) h in
          let both = and_parts (fits_start start t) (suits (behind start t) ls) whole in
          and_from (fits_start start t) (suits (behind start t) ts) both.0
          (long_suits start t ts ls (alike_length prefix ts ls a.1) both.1)

-- ---- the client that is the most general one
-- what no level has, the text has not
onto_lacks : (b x : ℕ) (ls : List (List ℕ))
    → 0 < length ls → list_all (λ l. not (contains_byte b l)) (onto_first x ls) ≡ true
    → ((x == b) ≡ false) × (list_all (λ l. not (contains_byte b l)) ls ≡ true)
onto_lacks b x [] n h = absurd (omega arith)
onto_lacks b x (l ∷ ls) n h = grind (arith, or_parts)

pub lacks : (b : ℕ) (text : List ℕ) → (47 == b) ≡ false
    → list_all (λ l. not (contains_byte b l)) (levels text) ≡ true → contains_byte b text ≡ false
lacks b [] n h = refl
lacks b (x ∷ xs) n h = by (lacks b xs n) (is_slash x) refl
  where
    by : (list_all (λ l. not (contains_byte b l)) (levels xs) ≡ true → contains_byte b xs ≡ false)
        → (s : Bool) → is_slash x ≡ s → contains_byte b (x ∷ xs) ≡ false
    by next true e =
        let is : x ≡ 47 = grind (arith, e) in
        let rest : list_all (λ l. not (contains_byte b l)) ([] ∷ levels xs) ≡ true =
        subst (λ s. list_all (λ l. not (contains_byte b l))
        (cond s ([] ∷ levels xs) (onto_first x (levels xs))) ≡ true) e h in
        let none = next rest in grind (arith, is, none, n)
    by next false e =
        let rest : list_all (λ l. not (contains_byte b l)) (onto_first x (levels xs)) ≡ true =
        subst (λ s. list_all (λ l. not (contains_byte b l))
        (cond s ([] ∷ levels xs) (onto_first x (levels xs))) ≡ true) e h in
        let both = onto_lacks b x (levels xs) (levels-nonempty xs) rest in
        let none = next both.1 in grind (arith, both, none)

level_parts : (l : List ℕ) → can_be_level l ≡ true
    → (not (contains_byte 43 l) ≡ true) × (not (contains_byte 35 l) ≡ true)
level_parts l h =
    let slash = and_parts (is_plain l && not (contains_byte 0 l)) (not (contains_byte 47 l)) h in
    let nul = and_parts (is_plain l) (not (contains_byte 0 l)) slash.0 in
    and_parts (not (contains_byte 43 l)) (not (contains_byte 35 l)) nul.0

all_lack : (b : ℕ) → ((l : List ℕ) → can_be_level l ≡ true → not (contains_byte b l) ≡ true)
    → (ls : List (List ℕ)) → list_all can_be_level ls ≡ true
    → list_all (λ l. not (contains_byte b l)) ls ≡ true
all_lack b one [] h = refl
all_lack b one (l ∷ ls) h =
    let both = and_parts (can_be_level l) (list_all can_be_level ls) h in
    and_from (not (contains_byte b l)) (list_all (λ l. not (contains_byte b l)) ls)
    (one l both.0) (all_lack b one ls both.1)

-- a text whose levels can be those of a name has no wildcards
pub plain_text : (text : List ℕ) → list_all can_be_level (levels text) ≡ true → is_plain text ≡ true
plain_text text h =
    and_from (not (contains_byte 43 text)) (not (contains_byte 35 text))
    (ap not (lacks 43 text refl (all_lack 43 (λ l e. (level_parts l e).0) (levels text) h)))
    (ap not (lacks 35 text refl (all_lack 35 (λ l e. (level_parts l e).1) (levels text) h)))

pub values_fit : (values : ℕ → List ℕ) → ((i : ℕ) → can_be_level (values i) ≡ true)
    → (first count : ℕ) → list_all can_be_level (values_from values first count) ≡ true
values_fit values fit first zero = refl
values_fit values fit first (suc count) =
    and_from (can_be_level (values first)) (list_all can_be_level (values_from values (suc first) count))
    (fit first) (values_fit values fit (suc first) count)

module _ (shape : ClientShape) (values : ℕ → List ℕ) (client : List ℕ)
    (user : Option (List ℕ)) (shaped : HasShape shape values client user)
    (fit : (i : ℕ) → can_be_level (values i) ≡ true) where
  pub plain_client : is_plain client ≡ true
  plain_client = plain_text client
      (ap (list_all can_be_level) shaped.client_is ∙ values_fit values fit 0 shape.levels)

  -- what is said of the user name of another client of the shape is said of its own
  plain_user : (of : UserShape) (first : ℕ) (user other : Option (List ℕ))
      (others : ℕ → List ℕ) → HasUser values first of user → HasUser others first of other
      → mark_plain other ≡ true → mark_plain user ≡ true
  plain_user Absent first user other others has had h = ap mark_plain has
  plain_user (Known name) first user other others has had h =
      ap mark_plain has ∙ sym (ap mark_plain had) ∙ h
  plain_user (Levels count) first None other others has had h = refl
  plain_user (Levels count) first (Some user) other others has had h =
      plain_text user (ap (list_all can_be_level) has ∙ values_fit values fit first count)

  no_user : (of : UserShape) (first : ℕ) (user other : Option (List ℕ)) (others : ℕ → List ℕ)
      → HasUser values first of user → HasUser others first of other → user ≡ None → other ≡ None
  no_user Absent first user other others has had e = had
  no_user (Known name) first user other others has had e =
      absurd (let k : Some name.now ≡ None = sym has ∙ e in cc)
  no_user (Levels count) first None other others has had e = absurd has
  no_user (Levels count) first (Some user) other others has had e =
      absurd (let k : Some user ≡ None = e in cc)

  made_too : (pattern : Bool) (others : ℕ → List ℕ) (other : List ℕ)
      (other_user : Option (List ℕ)) (ls : List (List ℕ))
      → IsMade shape pattern others other other_user ls → IsMade shape pattern values client user ls
  made_too pattern others other other_user ls m = record {
    shaped = shaped;
    client_plain = λ e. plain_client;
    user_plain = λ e. plain_user shape.user shape.levels user other_user others shaped.user_is
        m.shaped.user_is (m.user_plain e);
    user_there = λ e n. m.user_there e
        (no_user shape.user shape.levels user other_user others shaped.user_is m.shaped.user_is n);
    whole = m.whole;
  }

  all_made_too : (rows : List AclRow) (others : ℕ → List ℕ) (other : List ℕ)
      (other_user : Option (List ℕ)) → AllMade shape others other other_user rows
      → AllMade shape values client user rows
  all_made_too [] others other other_user m = m
  all_made_too (row ∷ rows) others other other_user m = (
    made_too (is_everyones row.who) others other other_user (levels row.filter) m.0,
    all_made_too rows others other other_user m.1,
  )

-- ---- user names that are listed
pub levels_apart : (a b : List ℕ) → levels a ≡ levels b → a ≡ b
levels_apart a b e =
    sym (join_with_byte-slice_split 47 a) ∙ ap (join_with_byte 47) e
    ∙ join_with_byte-slice_split 47 b

values_same : (prefix : List ℕ) (values others : ℕ → List ℕ)
    → ((i : ℕ) → is_unlike prefix (values i) ≡ true → others i ≡ values i) → (first count : ℕ)
    → list_all (is_unlike prefix) (values_from values first count) ≡ true
    → values_from others first count ≡ values_from values first count
values_same prefix values others known first zero h = refl
values_same prefix values others known first (suc count) h =
    let both = and_parts (is_unlike prefix (values first))
    (list_all (is_unlike prefix) (values_from values (suc first) count)) h in
    (λ i. known first both.0 i ∷ values_same prefix values others known (suc first) count both.1 i)

-- a user name of which nothing begins with the prefix is that of each client that it stands for
same_user : (prefix : List ℕ) (values others : ℕ → List ℕ)
    → ((i : ℕ) → is_unlike prefix (values i) ≡ true → others i ≡ values i)
    → (of : UserShape) (first : ℕ) (user other : Option (List ℕ)) → HasUser values first of user
    → HasUser others first of other → user_passes (is_unlike prefix) user ≡ true → other ≡ user
same_user prefix values others known Absent first user other has had u = had ∙ sym has
same_user prefix values others known (Known name) first user other has had u = had ∙ sym has
same_user prefix values others known (Levels count) first None other has had u = absurd has
same_user prefix values others known (Levels count) first (Some user) None has had u = absurd had
same_user prefix values others known (Levels count) first (Some user) (Some other) has had u =
    let same = values_same prefix values others known first count
    (sym (ap (list_all (is_unlike prefix)) has) ∙ u) in
    ap (λ t. Some t) (levels_apart other user (had ∙ same ∙ sym has))

listed_sound : (prefix : List ℕ) (users : List (Bor (List ℕ))) (user : Option (List ℕ))
    → list_all (λ name. list_all (is_unlike prefix) (levels name.now)) users ≡ true
    → is_listed users user ≡ true → user_passes (is_unlike prefix) user ≡ true
listed_sound prefix users None s h = refl
listed_sound prefix [] (Some user) s h = absurd (let k : false ≡ true = h in cc)
listed_sound prefix (name ∷ names) (Some user) s h =
    let both = and_parts (list_all (is_unlike prefix) (levels name.now))
    (list_all (λ name. list_all (is_unlike prefix) (levels name.now)) names) s in
    by both.0 (listed_sound prefix names (Some user) both.1) (bytes_eq user name.now) refl h
  where
    by : list_all (is_unlike prefix) (levels name.now) ≡ true
        → (has_name names user ≡ true → list_all (is_unlike prefix) (levels user) ≡ true)
        → (b : Bool) → bytes_eq user name.now ≡ b → (b || has_name names user) ≡ true
        → list_all (is_unlike prefix) (levels user) ≡ true
    by here next true e h = ap (λ t. list_all (is_unlike prefix) (levels t))
        (text_is user name.now e) ∙ here
    by here next false e h = next h

-- ---- the search
some_bytes : (text : List ℕ) → (length text == 0) ≡ false → 0 < length text
some_bytes [] e = absurd (let k : true ≡ false = e in cc)
some_bytes (x ∷ xs) e = omega arith

prefix_parts : (others : Others) → are_others others ≡ true
    → (can_be_level others.plain.now ≡ true) × (can_be_level others.dollar.now ≡ true)
    × (0 < length others.plain.now) × (0 < length others.dollar.now)
prefix_parts others h =
    let plain = others.plain.now in
    let dollar = others.dollar.now in
    let full = not (length plain == 0) in
    let bare = not (begins_with_dollar plain) in
    let fit = fits_start Writable dollar in
    let last = and_parts (full && bare && is_name_level plain && fit) (is_name_level dollar) h in
    let third = and_parts (full && bare && is_name_level plain) fit last.0 in
    let second = and_parts (full && bare) (is_name_level plain) third.0 in
    let first = and_parts full bare second.0 in
    let begins = and_parts (begins_with_dollar dollar)
    (not (begins_shared dollar) && not (begins_own dollar)) third.1 in (
      (and_parts (can_be_level plain) (nat_le (length plain) 321) second.1).0,
      (and_parts (can_be_level dollar) (nat_le (length dollar) 321) last.1).0,
      some_bytes plain (not-true (length plain == 0) first.0),
      some_bytes dollar (no_dollar dollar begins.0),
    )

pub prefix_is : (start : Start) (others : Others) → are_others others ≡ true
    → (can_be_level (other_at start others) ≡ true) × (0 < length (other_at start others))
prefix_is start others h = by start (prefix_parts others h)
  where
    by : (s : Start) → (can_be_level others.plain.now ≡ true)
        × (can_be_level others.dollar.now ≡ true)
        × (0 < length others.plain.now) × (0 < length others.dollar.now)
        → (can_be_level (other_at s others) ≡ true) × (0 < length (other_at s others))
    by Plain p = (p.0, p.2)
    by Dollar p = (p.1, p.3)
    by Readable p = (p.1, p.3)
    by Writable p = (p.1, p.3)
    by Slash p = (p.0, p.2)
    by Inside p = (p.0, p.2)

some_user : (user : UserShape) → has_levels user ≡ true → HasLevels user
some_user Absent h = tt
some_user (Known name) h = tt
some_user (Levels count) h = grind arith

-- a sound level begins otherwise
unlike_by : (prefix : List ℕ) (ls : List (List ℕ)) → fits (is_sound prefix) ls ≡ true
    → fits (is_unlike prefix) ls ≡ true
unlike_by prefix [] h = refl
unlike_by prefix (l ∷ ls) h = grind (arith, unlike_by prefix ls)

-- ---- texts that are empty
unlike_empty : (prefix : List ℕ) → 0 < length prefix → is_unlike prefix [] ≡ true
unlike_empty [] some = absurd (omega (arith, some))
unlike_empty (x ∷ xs) some = refl

-- where the text of these levels is empty, so is the other one's
module _ (prefix : List ℕ) (some : 0 < length prefix) (values others : ℕ → List ℕ)
    (known : (i : ℕ) → is_unlike prefix (values i) ≡ true → others i ≡ values i) where
  empty_too : (first count : ℕ) (text other : List ℕ) → levels text ≡ values_from values first count
      → levels other ≡ values_from others first count → (length text == 0) ≡ true
      → (length other == 0) ≡ true
  empty_too first count [] other are are_too e = by count are are_too
    where
      by : (count : ℕ) → [] ∷ [] ≡ values_from values first count
          → levels other ≡ values_from others first count → (length other == 0) ≡ true
      by zero are are_too =
          absurd (let k : length {A = List ℕ} ([] ∷ []) ≡ 0 = ap length are in omega (arith, k))
      by (suc zero) are are_too =
          let is : values first ≡ [] = sym (ap (λ ls. get_or ls 0 []) are) in
          let unlike = ap (is_unlike prefix) is ∙ unlike_empty prefix some in
          let other_is : others first ≡ [] = known first unlike ∙ is in
          ap (λ t. length t == 0) (levels_apart other [] (are_too ∙ ap (λ l. l ∷ []) other_is))
      by (suc (suc count)) are are_too =
          absurd (let k : 1 ≡ suc (suc (length (values_from values (suc (suc first)) count))) =
          ap length are in omega (arith, k))
  empty_too first count (x ∷ xs) other are are_too e =
      absurd (let k : suc (length xs) ≡ 0 = grind (arith, e) in omega (arith, k))

  empty_user : (of : UserShape) (first : ℕ) (user other : Option (List ℕ))
      → HasUser values first of user → HasUser others first of other
      → is_empty_name user ≡ true → is_empty_name other ≡ true
  empty_user Absent first user other is is_too e =
      ap is_empty_name is_too ∙ sym (ap is_empty_name is) ∙ e
  empty_user (Known name) first user other is is_too e =
      ap is_empty_name is_too ∙ sym (ap is_empty_name is) ∙ e
  empty_user (Levels count) first None other is is_too e = absurd is
  empty_user (Levels count) first (Some user) None is is_too e = absurd is_too
  empty_user (Levels count) first (Some user) (Some other) is is_too e =
      empty_too first count user other is is_too e

empty_texts : (client other : List ℕ) (user other_user : Option (List ℕ))
    → ((length client == 0) ≡ true → (length other == 0) ≡ true)
    → (is_empty_name user ≡ true → is_empty_name other_user ≡ true)
    → has_texts client user ≡ false → has_texts other other_user ≡ false
empty_texts client other user other_user ids names e =
    by (length client == 0) refl (is_empty_name user) refl
  where
    by : (c : Bool) → (length client == 0) ≡ c → (u : Bool) → is_empty_name user ≡ u
        → has_texts other other_user ≡ false
    by true c u f = (λ i. not (ids c i) && not (is_empty_name other_user))
    by false c true f =
        (λ i. not (length other == 0) && not (names f i)) ∙ and-false (not (length other == 0))
    by false c false f =
        absurd (let k : true ≡ false = sym (λ i. not (c i) && not (f i)) ∙ e in cc)

module _ (others : Others) (start : Start) (shape : ClientShape) (users : List (Bor (List ℕ)))
    (must cover : List AclRow) (ready : IsReady others start shape users must cover) where
  pub sound : IsSound (other_at start others) shape must
  sound = record {
    prefix_is = (prefix_is start others ready.rows.others_fit).0;
    client_some = ready.client_some;
    user_some = some_user shape.user ready.user.some;
    rows_sound = ready.rows.must_ready.sound;
    user_sound = ready.user.sound;
  }

  pub general_is : (prefix client : List ℕ) (user : Option (List ℕ))
      → prefix ≡ other_at start others
      → (IsSound prefix shape must → IsMostGeneral prefix shape must client user)
      → IsMostGeneral (other_at start others) shape must client user
  general_is prefix client user e general =
      subst (λ p. IsMostGeneral p shape must client user) e
      (general (subst (λ p. IsSound p shape must) (sym e) sound))

  -- where the first rows can't all match a topic of the shape, none is found
  pub none_first : ((values : ℕ → List ℕ) (client : List ℕ) (user : Option (List ℕ))
      (ls : List (List ℕ)) → AllMade shape values client user must
      → list_all (row_matches client user ls) must ≡ false) → FindsNone start shape users must cover
  none_first none values client user ls has m c u t s n =
      and_left (list_all (row_matches client user ls) must)
      (not (list_any (row_matches client user ls) cover)) (none values client user ls m)

  module _ (client : List ℕ) (user : Option (List ℕ))
      (general : IsMostGeneral (other_at start others) shape must client user) where
    -- what covers the topic of the general client covers that of the other
    any_covers : (others_values : ℕ → List ℕ) (other : List ℕ) (other_user : Option (List ℕ))
        (ls : List (List ℕ))
        → (st : StandsFor (other_at start others) shape must general.values client user
        others_values other other_user ls) → (rows : List AclRow)
        → AllMade shape others_values other other_user rows
        → rows_fit (is_sound (other_at start others)) rows ≡ true
        → list_any (row_matches other other_user ls) rows ≡ false
        → list_any (row_matches client user st.topic) rows ≡ false
    any_covers others_values other other_user ls st [] m fit n = refl
    any_covers others_values other other_user ls st (row ∷ rows) m fit n =
        let both = and_parts (fits (is_sound (other_at start others)) (levels row.filter))
        (rows_fit (is_sound (other_at start others)) rows) fit in
        let parts = or_parts (row_matches other other_user ls row)
        (list_any (row_matches other other_user ls) rows) n in
        let rest = any_covers others_values other other_user ls st rows m.1 both.1 parts.1 in
        (λ i. here both.0 parts.0 (row_matches client user st.topic row) refl i || rest i)
      where
        here : fits (is_sound (other_at start others)) (levels row.filter) ≡ true
            → row_matches other other_user ls row ≡ false → (b : Bool)
            → row_matches client user st.topic row ≡ b
            → row_matches client user st.topic row ≡ false
        here fit n false e = e
        here fit n true e =
            let made = made_too shape general.values client user general.shaped general.are_levels
            (is_everyones row.who) others_values other other_user (levels row.filter) m.0 in
            absurd (let k : false ≡ true =
            sym n ∙ st.follows row made m.0 (unlike_by (other_at start others) (levels row.filter) fit) e in cc)

    pub levels_fit : (list_all (is_choice others) (levels client) ≡ true)
        × (user_passes (is_choice others) user ≡ true)
    levels_fit = general.pass (is_choice others) ready.rows.fresh ready.rows.must_ready.choice
        ready.user.choice

    -- a listed user name is that of each client that has such a topic
    pub none_unlisted : is_listed users user ≡ true → FindsNone start shape users must cover
    none_unlisted listed values other other_user ls has m c u t s n =
        by (list_all (row_matches other other_user ls) must) refl
      where
        by : (a : Bool) → list_all (row_matches other other_user ls) must ≡ a
            → row_hits other other_user ls must cover ≡ false
        by false e = and_left (list_all (row_matches other other_user ls) must)
            (not (list_any (row_matches other other_user ls) cover)) e
        by true e =
            let made = all_made_too shape general.values client user general.shaped
            general.are_levels must values other other_user m in
            let st = general.stands values other other_user ls m made e in
            let prefix = other_at start others in
            let same = same_user prefix general.values values st.known shape.user shape.levels user
            other_user general.shaped.user_is has.user_is
            (listed_sound prefix users user ready.rows.users_sound listed) in
            absurd (let k : false ≡ true = sym u ∙ ap (is_listed users) same ∙ listed in cc)

    -- an empty text is that of each client that has such a topic
    pub none_empty : has_texts client user ≡ false → FindsNone start shape users must cover
    none_empty empty values other other_user ls has m c u t s n =
        by (list_all (row_matches other other_user ls) must) refl
      where
        by : (a : Bool) → list_all (row_matches other other_user ls) must ≡ a
            → row_hits other other_user ls must cover ≡ false
        by false e = and_left (list_all (row_matches other other_user ls) must)
            (not (list_any (row_matches other other_user ls) cover)) e
        by true e =
            let made = all_made_too shape general.values client user general.shaped
            general.are_levels must values other other_user m in
            let st = general.stands values other other_user ls m made e in
            let prefix = other_at start others in
            let some = (prefix_is start others ready.rows.others_fit).1 in
            let ids = empty_too prefix some general.values values st.known 0 shape.levels client other
            general.shaped.client_is has.client_is in
            let names = empty_user prefix some general.values values st.known shape.user shape.levels
            user other_user general.shaped.user_is has.user_is in
            absurd (let k : false ≡ true =
            sym (empty_texts client other user other_user ids names empty) ∙ t in cc)

    pub none_of_shape : HasNone start must cover client user
        → FindsNone start shape users must cover
    none_of_shape none values other other_user ls has m c u t s n =
        by (list_all (row_matches other other_user ls) must) refl
        (list_any (row_matches other other_user ls) cover) refl
      where
        by : (a : Bool) → list_all (row_matches other other_user ls) must ≡ a
            → (b : Bool) → list_any (row_matches other other_user ls) cover ≡ b
            → row_hits other other_user ls must cover ≡ false
        by false e b f = and_left (list_all (row_matches other other_user ls) must)
            (not (list_any (row_matches other other_user ls) cover)) e
        by true e true f = (λ i. e i && not (f i))
        by true e false f =
            let made = all_made_too shape general.values client user general.shaped
            general.are_levels must values other other_user m in
            let st = general.stands values other other_user ls m made e in
            let prefix = other_at start others in
            let topic_suits = alike_suits prefix start ready.rows.begins
            (prefix_is start others ready.rows.others_fit).1 st.topic ls st.alike s in
            let long = alike_length prefix st.topic ls st.alike in
            let nothing = none st.topic topic_suits (omega (arith, long, n)) in
            let clear = any_covers values other other_user ls st cover c ready.rows.cover_ready.sound f in
            absurd (let k : false ≡ true = sym nothing ∙ (λ i. st.matched i && not (clear i)) in cc)
