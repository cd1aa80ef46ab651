-- Rows of lists of which no level begins with what stands for others.
use Rattle.std.proofs.Common.{◌++◌, ◌≡◌, ℕ, Bool, true, false, not, List, [], ◌∷◌, ◌||◌, ◌&&◌}
use Rattle.std.proofs.Common.{refl, ap, sym, ◌∙◌, arith, length, bytes_eq}
use Rattle.std.specs.Prelude.{All, Contains, nat_eq}
use denote.Ref.{Bor}
use Rattle.std.specs.List.{list_all, starts_with}
use Rattle.std.proofs.lemmas.Bool.{and_from, and_parts, false_from_ne_true, le-leb, leb-true, not-true}
use Rattle.std.proofs.lemmas.Bool.{or_parts}
use Rattle.std.proofs.lemmas.List.Elements.{All-contains, All-weaker}
use Rattle.std.proofs.lemmas.List.Sums.{AllPass-from_list_all, list_all-from_AllPass}
use Rattle.std.proofs.Common.{true≢false}
use Rattle.mq_topic.proofs.ByteLemmas.{text_is}
use Rattle.mq_topic.proofs.TextLemmas.{levels_lack}
use Rattle.mq_topic.specs.Levels.{levels}
use Rattle.mq_topic.specs.Texts.{contains_byte, is_plain}
use Rattle.mq_acl.specs.Rows.{Who, Anonymous, Named, Everyone, AclRow}
use Rattle.mq_cover.specs.Choices.{other_at}
use Rattle.mq_cover.specs.Names.{can_be_level, ends, is_choice, is_name_level}
use Rattle.mq_cover.specs.Remainders.{fits}
use Rattle.mq_cover.specs.declared.others.Others.{Others}
use Rattle.mq_cover.specs.declared.start.Start.{Start}
use Rattle.mq_cover.specs.declared.start.Start.TheVariants.{Plain, Dollar, Readable, Writable}
use Rattle.mq_cover.specs.declared.start.Start.TheVariants.{Slash, Inside}
use Rattle.mq_shapes.specs.Found.{AreAllReady, AreReady, has_whole_marks}
use Rattle.mq_shapes.specs.Prefix.{ArePrefixes, CanBeAsked, begins, is_name_of, is_short, is_usable}
use Rattle.mq_shapes.specs.Prefix.{is_user_of, owner_begins, row_begins, short_owner, some_begins}
use Rattle.mq_shapes.proofs.PrefixLemmas.{are_short, begins_so, fits_all, fits_by, fresh_so, levels_most}
use Rattle.mq_shapes.proofs.PrefixLemmas.{none_all, others_fit}
use Rattle.mq_shapes.specs.Ruled.{are_literal, AreKnown, AreRuled, all_listed, is_front, names_listed}
use Rattle.mq_shapes.specs.declared.clients.Clients.TheVariants as clients
use Rattle.mq_unify.specs.General.{is_sound}
use Rattle.mq_unify.specs.Rows.{rows_fit}
use Rattle.mq_unify.specs.Unlike.{is_unlike}
use Rattle.mq_unify.proofs.FilterLemmas.{levels_lack as no_slashes}
use Rattle.mq_unify.proofs.UnlikeLemmas.{itself_is}

-- ---- of one row
text_unlike : (prefix text : List ℕ) → begins prefix text ≡ false
    → list_all (is_unlike prefix) (levels text) ≡ true
text_unlike prefix text h = none_all (λ l. starts_with nat_eq l prefix) (levels text) h

row_unlike : (prefix : List ℕ) (row : AclRow) → row_begins prefix row ≡ false
    → fits (is_unlike prefix) (levels row.filter) ≡ true
row_unlike prefix row h =
    let parts = or_parts (begins prefix row.filter) (owner_begins prefix row.who) h in
    fits_all (is_unlike prefix) (levels row.filter) (text_unlike prefix row.filter parts.0)

abbrev is_level : List ℕ → Bool
is_level l = can_be_level l && is_short l

row_levels : (row : AclRow) → is_usable row ≡ true → fits is_level (levels row.filter) ≡ true
row_levels row h = (and_parts (fits is_level (levels row.filter)) (short_owner row.who) h).0

sound_of : (prefix l : List ℕ) → is_unlike prefix l ≡ true → is_level l ≡ true
    → is_sound prefix l ≡ true
sound_of prefix l h k = and_from _ _ h (and_parts (can_be_level l) (is_short l) k).0

row_sound : (prefix : List ℕ) (row : AclRow) → row_begins prefix row ≡ false
    → is_usable row ≡ true → fits (is_sound prefix) (levels row.filter) ≡ true
row_sound prefix row h k =
    fits_by (is_unlike prefix) is_level (is_sound prefix) (sound_of prefix) (levels row.filter)
    (row_unlike prefix row h) (row_levels row k)

-- a text that doesn't begin with another isn't that
unlike_apart : (prefix l : List ℕ) → is_unlike prefix l ≡ true → not (bytes_eq l prefix) ≡ true
unlike_apart prefix l h = ap not (false_from_ne_true (bytes_eq l prefix)
    (λ e. true≢false (sym h ∙ ap (is_unlike prefix) (text_is l prefix e) ∙ itself_is prefix)))

name_level : (l : List ℕ) → is_level l ≡ true → is_name_level l ≡ true
name_level l h =
    let parts = and_parts (can_be_level l) (is_short l) h in
    let short = leb-true (length l) 300 parts.1 in
    and_from _ _ parts.0 (le-leb (length l) 321 (omega (arith, short)))

choice_of : (o : Others) (l : List ℕ) → is_unlike o.plain.now l ≡ true
    → is_unlike o.dollar.now l ≡ true → is_level l ≡ true → is_choice o l ≡ true
choice_of o l p d h =
    and_from _ _ (and_from _ _ (name_level l h) (unlike_apart o.plain.now l p))
    (unlike_apart o.dollar.now l d)

row_choice : (o : Others) (row : AclRow) → row_begins o.plain.now row ≡ false
    → row_begins o.dollar.now row ≡ false → is_usable row ≡ true
    → fits (is_choice o) (levels row.filter) ≡ true
row_choice o row p d k =
    fits_by (is_unlike o.plain.now) (λ l. is_unlike o.dollar.now l && is_level l) (is_choice o)
    (λ l h m. let parts = and_parts (is_unlike o.dollar.now l) (is_level l) m in
    choice_of o l h parts.0 parts.1) (levels row.filter) (row_unlike o.plain.now row p)
    (fits_by (is_unlike o.dollar.now) is_level (λ l. is_unlike o.dollar.now l && is_level l)
    (λ l h m. and_from _ _ h m) (levels row.filter) (row_unlike o.dollar.now row d)
    (row_levels row k))

-- ---- of all of them
rows_sound : (prefix : List ℕ) (rows : List AclRow) → some_begins prefix rows ≡ false
    → list_all is_usable rows ≡ true → rows_fit (is_sound prefix) rows ≡ true
rows_sound prefix [] h k = refl
rows_sound prefix (row ∷ rows) h k =
    let free = or_parts (row_begins prefix row) (some_begins prefix rows) h in
    let short = and_parts (is_usable row) (list_all is_usable rows) k in
    and_from _ _ (row_sound prefix row free.0 short.0) (rows_sound prefix rows free.1 short.1)

rows_choice : (o : Others) (rows : List AclRow) → some_begins o.plain.now rows ≡ false
    → some_begins o.dollar.now rows ≡ false → list_all is_usable rows ≡ true
    → rows_fit (is_choice o) rows ≡ true
rows_choice o [] p d k = refl
rows_choice o (row ∷ rows) p d k =
    let plain = or_parts (row_begins o.plain.now row) (some_begins o.plain.now rows) p in
    let dollar = or_parts (row_begins o.dollar.now row) (some_begins o.dollar.now rows) d in
    let short = and_parts (is_usable row) (list_all is_usable rows) k in
    and_from _ _ (row_choice o row plain.0 dollar.0 short.0)
    (rows_choice o rows plain.1 dollar.1 short.1)

-- ---- of a user name that some row is for
owner_unlike : (prefix user : List ℕ) (who : Who) → owner_begins prefix who ≡ false
    → is_name_of user who ≡ true → list_all (is_unlike prefix) (levels user) ≡ true
owner_unlike prefix user Anonymous h k = absurd (let n : false ≡ true = k in cc)
owner_unlike prefix user (Named name) h k =
    text_unlike prefix user (ap (begins prefix) (text_is user name k) ∙ h)
owner_unlike prefix user Everyone h k = absurd (let n : false ≡ true = k in cc)

user_unlike : (prefix user : List ℕ) (rows : List AclRow) → some_begins prefix rows ≡ false
    → is_user_of user rows ≡ true → list_all (is_unlike prefix) (levels user) ≡ true
user_unlike prefix user [] h k = absurd (let n : false ≡ true = k in cc)
user_unlike prefix user (row ∷ rows) h k =
    let free = or_parts (row_begins prefix row) (some_begins prefix rows) h in
    let apart = or_parts (begins prefix row.filter) (owner_begins prefix row.who) free.0 in
    by (is_name_of user row.who) refl k apart.1 (user_unlike prefix user rows free.1)
  where
    by : (b : Bool) → is_name_of user row.who ≡ b → (b || is_user_of user rows) ≡ true
        → owner_begins prefix row.who ≡ false
        → (is_user_of user rows ≡ true → list_all (is_unlike prefix) (levels user) ≡ true)
        → list_all (is_unlike prefix) (levels user) ≡ true
    by true e m apart more = owner_unlike prefix user row.who apart e
    by false e m apart more = more m

-- ---- of a user name that can be asked about
all_both : (p q r : List ℕ → Bool) → ((l : List ℕ) → p l ≡ true → q l ≡ true → r l ≡ true)
    → (ls : List (List ℕ)) → list_all p ls ≡ true → list_all q ls ≡ true → list_all r ls ≡ true
all_both p q r by [] h k = refl
all_both p q r by (l ∷ ls) h k =
    let one = and_parts (p l) (list_all p ls) h in
    let two = and_parts (q l) (list_all q ls) k in
    and_from (r l) (list_all r ls) (by l one.0 two.0) (all_both p q r by ls one.1 two.1)

abbrev lacks : ℕ → List ℕ → Bool
lacks b l = not (contains_byte b l)

-- it has no wildcards and no U+0000, and is short
abbrev pub is_known_name : List ℕ → Bool
is_known_name name = is_plain name && lacks 0 name && is_short name

name_levels : (name : List ℕ) → is_known_name name ≡ true → list_all is_level (levels name) ≡ true
name_levels name h =
    let short = and_parts (is_plain name && lacks 0 name) (is_short name) h in
    let nul = and_parts (is_plain name) (lacks 0 name) short.0 in
    let plain = and_parts (lacks 43 name) (lacks 35 name) nul.0 in
    let signs = all_both (lacks 43) (lacks 35) is_plain (λ l a b. and_from _ _ a b) (levels name)
    (levels_lack 43 name (not-true (contains_byte 43 name) plain.0))
    (levels_lack 35 name (not-true (contains_byte 35 name) plain.1)) in
    let bytes = all_both is_plain (lacks 0) (λ l. is_plain l && lacks 0 l)
    (λ l a b. and_from (is_plain l) (lacks 0 l) a b) (levels name) signs
    (levels_lack 0 name (not-true (contains_byte 0 name) nul.1)) in
    let can = all_both (λ l. is_plain l && lacks 0 l) (lacks 47) can_be_level
    (λ l a b. and_from (is_plain l && lacks 0 l) (lacks 47 l) a b) (levels name) bytes
    (no_slashes name) in
    all_both can_be_level is_short is_level (λ l a b. and_from (can_be_level l) (is_short l) a b)
    (levels name) can (levels_most 300 name (leb-true (length name) 300 short.1))

-- ---- of a search
-- rows that stand in a list pass what all of the list do
all_contained : (p : AclRow → Bool) (all some : List AclRow) → list_all p all ≡ true
    → All (Contains all) some → list_all p some ≡ true
all_contained p all some h c =
    list_all-from_AllPass p some
    (All-weaker (Contains all) (λ row. p row ≡ true)
    (λ row k. All-contains (λ row. p row ≡ true) all row (AllPass-from_list_all p all h) k) some c)

module _ (o : Others) (rows : List AclRow) (are : ArePrefixes rows o.plain.now o.dollar.now)
    (can : CanBeAsked rows) where
  plain_none : some_begins o.plain.now rows ≡ false
  plain_none = are.is_plain.unlike (are_short rows can.usable)

  dollar_none : some_begins o.dollar.now rows ≡ false
  dollar_none = are.is_dollar.unlike (are_short rows can.usable)

  at_none : (start : Start) → some_begins (other_at start o) rows ≡ false
  at_none Plain = plain_none
  at_none Dollar = dollar_none
  at_none Readable = dollar_none
  at_none Writable = dollar_none
  at_none Slash = plain_none
  at_none Inside = plain_none

  all_rows_ready : (start : Start) (some : List AclRow) → All (Contains rows) some
      → AreReady o start some
  all_rows_ready start some within = record {
    sound = all_contained (λ row. fits (is_sound (other_at start o)) (levels row.filter)) rows some
        (rows_sound (other_at start o) rows (at_none start) can.usable) within;
    choice = all_contained (λ row. fits (is_choice o) (levels row.filter)) rows some
        (rows_choice o rows plain_none dollar_none can.usable) within;
    whole = all_contained has_whole_marks rows some can.whole within;
  }

  users_apart : (prefix : List ℕ) (users : List (Bor (List ℕ)))
      → some_begins prefix rows ≡ false → list_all (λ name. is_user_of name.now rows) users ≡ true
      → list_all (λ name. list_all (is_unlike prefix) (levels name.now)) users ≡ true
  users_apart prefix [] h k = refl
  users_apart prefix (name ∷ users) h k =
      let parts = and_parts (is_user_of name.now rows)
      (list_all (λ name. is_user_of name.now rows) users) k in
      and_from _ _ (user_unlike prefix name.now rows h parts.0) (users_apart prefix users h parts.1)

  -- rows of lists can be asked about clients with other user names than these, which they name
  pub all_ready : (start : Start) (users : List (Bor (List ℕ))) (must cover : List AclRow)
      → ends start ≡ false → list_all (λ name. is_user_of name.now rows) users ≡ true
      → All (Contains rows) must → All (Contains rows) cover
      → AreAllReady o start users must cover
  all_ready start users must cover front named must_in cover_in = record {
    others_fit = others_fit o are.is_plain.made are.is_dollar.made;
    front = front;
    begins = begins_so o are.is_plain.made are.is_dollar.made start;
    fresh = fresh_so o are.is_plain.made are.is_dollar.made start;
    users_sound = users_apart (other_at start o) users (at_none start) named;
    must_ready = all_rows_ready start must must_in;
    cover_ready = all_rows_ready start cover cover_in;
  }

  -- and by mosquitto's rules, where these are all user names that rows are for
  pub asked_ruled : (start : Start) (users : List (Bor (List ℕ)))
      (within must cover : List AclRow) → is_front start ≡ true
      → list_all (λ name. is_user_of name.now rows) users ≡ true → all_listed users rows ≡ true
      → are_literal within ≡ true → All (Contains rows) (within ++ must)
      → All (Contains rows) must → All (Contains rows) cover
      → AreRuled o start users within must cover
  asked_ruled start users within must cover front named listed literal firsts_in must_in cover_in =
      record {
        ready = all_ready start users (within ++ must) cover (front_ends start front) named firsts_in
            cover_in;
        literal = literal;
        begun = front;
        must_listed = all_contained (λ row. names_listed users row.who) rows must listed must_in;
        cover_listed = all_contained (λ row. names_listed users row.who) rows cover listed cover_in;
      }
    where
      front_ends : (start : Start) → is_front start ≡ true → ends start ≡ false
      front_ends Plain h = refl
      front_ends Dollar h = refl
      front_ends Readable h = refl
      front_ends Writable h = refl
      front_ends Slash h = refl
      front_ends Inside h = absurd (let n : false ≡ true = h in cc)

  -- a user name that some row is for can be asked about
  pub known : (start : Start) (name : Bor (List ℕ)) → is_user_of name.now rows ≡ true
      → is_known_name name.now ≡ true → AreKnown o start (clients.Named name)
  known start name of h =
      let levels_are = name_levels name.now h in
      let plain = user_unlike o.plain.now name.now rows plain_none of in
      let dollar = user_unlike o.dollar.now name.now rows dollar_none of in (
        record {
          some = refl;
          sound = all_both (is_unlike (other_at start o)) is_level (is_sound (other_at start o))
              (sound_of (other_at start o)) (levels name.now)
              (user_unlike (other_at start o) name.now rows (at_none start) of) levels_are;
          choice = all_both (is_unlike o.plain.now) (λ l. is_unlike o.dollar.now l && is_level l)
              (is_choice o) (λ l a b. let parts = and_parts (is_unlike o.dollar.now l) (is_level l) b in
              choice_of o l a parts.0 parts.1) (levels name.now) plain
              (all_both (is_unlike o.dollar.now) is_level (λ l. is_unlike o.dollar.now l && is_level l)
              (λ l a b. and_from (is_unlike o.dollar.now l) (is_level l) a b) (levels name.now) dollar
              levels_are);
        },
        (and_parts (is_plain name.now) (lacks 0 name.now)
            (and_parts (is_plain name.now && lacks 0 name.now) (is_short name.now) h).0).0,
      )
