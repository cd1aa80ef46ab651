-- Levels that rows name, and levels that stand for others.
use Rattle.std.proofs.Common.{◌≡◌, ◌∙◌, ◌&&◌, ◌||◌, ◌==◌, ◌++◌, ◌∷◌, ℕ, Bool, true, false, not, List, []}
use Rattle.std.proofs.Common.{All, Contains, Option, Some, None, ap, arith, bytes_eq, codes, length, refl, sym}
use Rattle.std.proofs.Common.{Bor, inl, inr, subst, true≢false, ◌⊎◌}
use Rattle.std.specs.Prelude.{nat_eq}
use Rattle.std.specs.List.{list_all, list_any, starts_with}
use Rattle.std.proofs.lemmas.Bool.{and_from, and_parts, false_from_ne_true, not-true, or_left, or_parts}
use Rattle.std.proofs.lemmas.Bool.{or_right}
use Rattle.mq_topic.proofs.ByteLemmas.{text_is, text_itself}
use Rattle.mq_topic.specs.Levels.{levels}
use Rattle.mq_topic.specs.Matching.{is_wildcard}
use Rattle.mq_topic.specs.Texts.{contains_byte, is_name, is_plain}
use Rattle.mq_acl.specs.Refused.{state_filter}
use Rattle.mq_acl.specs.Rows.{AclRow, Who}
use Rattle.mq_acl.specs.Rows as rows
use Rattle.mq_cover.specs.Names.{can_be_level}
use Rattle.mq_cover.specs.Remainders.{fits, mark_passes}
use Rattle.mq_unify.specs.Rows.{rows_fit}
use Rattle.mq_unify.specs.Unlike.{FreshPass, fresh_text, is_unlike}
use Rattle.mq_unify.proofs.UnlikeLemmas.{fresh_is, itself_is}
use Rattle.mq_shapes.specs.Found.{has_whole_marks}
use Rattle.mq_shapes.specs.Prefix.{begins, is_name_of, is_short, is_usable, is_user_of, owner_begins}
use Rattle.mq_shapes.specs.Prefix.{row_begins, short_owner, some_begins}
use Rattle.mq_shapes.specs.Ruled.{known_levels, ruled_hits}
use Rattle.mq_shapes.specs.Swaps.{AreAlike, is_apart, is_mark, is_swapped, owner_apart, row_apart}
use Rattle.mq_shapes.specs.Swaps.{swap_levels, swap_user}
use Rattle.mq_shapes.specs.declared.clients.Clients.{Clients}
use Rattle.mq_shapes.specs.declared.clients.Clients.TheVariants as clients
use Rattle.mq_shapes.proofs.SwapLemmas.{hits_moved, moved_apart, moved_eq}
use Rattle.mq_witness.specs.Asked.{AskedRows, IsListed, is_client_of, is_state_level}
use Rattle.mq_witness.specs.Clients.{can_be_id}
use Rattle.mq_witness.specs.Leveled.{AreLevelsKnown, IsHitBy, StandsForLevel, is_fresh, is_known_level, names_level}
use Rattle.mq_witness.specs.Leveled.{owner_names, row_names_level}
use Rattle.mq_witness.specs.Literals.{is_literal_in}
use Rattle.mq_witness.specs.Names.{names_fit}
use Rattle.mq_witness.specs.RuledSearch.{RuledPasses, state_row}
use Rattle.mq_cover.specs.declared.others.Others.{Others}
use Rattle.mq_witness.specs.declared.names.Names.{Names}
use Rattle.mq_witness.proofs.FrontLemmas.{names_fit_by}
use Rattle.mq_witness.proofs.LiteralLemmas.{fits_named, plain_is_no_wildcard}
use Rattle.mq_witness.proofs.ReadyLemmas.{all_contained}
use Rattle.mq_witness.proofs.RuledSearchLemmas.{states_usable}

abbrev is_level : List ℕ → Bool
is_level l = can_be_level l && is_short l

level_no_wildcard : (l : List ℕ) → is_level l ≡ true → is_wildcard l ≡ false
level_no_wildcard l h =
    let can = (and_parts (can_be_level l) (is_short l) h).0 in
    plain_is_no_wildcard l (and_parts (is_plain l) (not (contains_byte 0 l))
    (and_parts (is_plain l && not (contains_byte 0 l)) (not (contains_byte 47 l)) can).0).0

row_levels : (row : AclRow) → is_usable row ≡ true → fits is_level (levels row.filter) ≡ true
row_levels row h = (and_parts (fits is_level (levels row.filter)) (short_owner row.who) h).0

-- ---- what rows name
-- all of these levels, where each of them passes the test
all_in : (test : List ℕ → Bool) (ls : List (List ℕ))
    → ((l : List ℕ) → list_any (bytes_eq l) ls ≡ true → test l ≡ true) → list_all test ls ≡ true
all_in test [] h = refl
all_in test (l ∷ ls) h = and_from (test l) (list_all test ls)
    (h l (or_left (bytes_eq l l) (list_any (bytes_eq l) ls) (text_itself l)))
    (all_in test ls (λ m e. h m (or_right (bytes_eq m l) (list_any (bytes_eq m) ls) e)))

-- the levels of a user name that some row is for
user_named : (all : List AclRow) (name l : List ℕ) → is_user_of name all ≡ true
    → list_any (bytes_eq l) (levels name) ≡ true → names_level l all ≡ true
user_named [] name l of h = absurd (let n : false ≡ true = of in cc)
user_named (row ∷ all) name l of h =
    by row.who refl of (user_named all name l)
  where
    at : (other : List ℕ) → row.who ≡ rows.Named other → (b : Bool) → bytes_eq name other ≡ b
        → (b || is_user_of name all) ≡ true
        → (is_user_of name all ≡ true → list_any (bytes_eq l) (levels name) ≡ true
        → names_level l all ≡ true)
        → (row_names_level l row || names_level l all) ≡ true
    at other w true e of more =
        or_left (row_names_level l row) (names_level l all)
        (or_right (is_literal_in l (levels row.filter)) (owner_names l row.who)
        (ap (owner_names l) w ∙ ap (λ t. list_any (bytes_eq l) (levels t)) (sym (text_is name other e))
        ∙ h))
    at other w false e of more =
        or_right (row_names_level l row) (names_level l all) (more of h)

    by : (who : Who) → row.who ≡ who → (is_name_of name who || is_user_of name all) ≡ true
        → (is_user_of name all ≡ true → list_any (bytes_eq l) (levels name) ≡ true
        → names_level l all ≡ true)
        → (row_names_level l row || names_level l all) ≡ true
    by rows.Anonymous w of more =
        or_right (row_names_level l row) (names_level l all) (more of h)
    by (rows.Named other) w of more = at other w (bytes_eq name other) refl of more
    by rows.Everyone w of more =
        or_right (row_names_level l row) (names_level l all) (more of h)

module _ (asked : AskedRows) (usable : list_all is_usable asked.rows ≡ true) where
  abbrev knows : List ℕ → Bool
  knows l = is_known_level asked l

  named_known : (l : List ℕ) → names_level l asked.rows ≡ true → knows l ≡ true
  named_known l h = or_left (names_level l asked.rows || is_fresh asked l) (is_state_level l)
      (or_left (names_level l asked.rows) (is_fresh asked l) h)

  fresh_known : (l : List ℕ) → is_fresh asked l ≡ true → knows l ≡ true
  fresh_known l h = or_left (names_level l asked.rows || is_fresh asked l) (is_state_level l)
      (or_right (names_level l asked.rows) (is_fresh asked l) h)

  some_known : (some : List AclRow) → list_all is_usable some ≡ true
      → ((l : List ℕ) → names_level l some ≡ true → names_level l asked.rows ≡ true)
      → rows_fit knows some ≡ true
  some_known [] u h = refl
  some_known (row ∷ some) u h =
      let parts = and_parts (is_usable row) (list_all is_usable some) u in
      and_from (fits knows (levels row.filter)) (rows_fit knows some)
      (fits_named is_level knows level_no_wildcard (levels row.filter) (row_levels row parts.0)
      (λ l p lit. named_known l (h l (or_left (row_names_level l row) (names_level l some)
      (or_left (is_literal_in l (levels row.filter)) (owner_names l row.who) lit)))))
      (some_known some parts.1
      (λ l e. h l (or_right (row_names_level l row) (names_level l some) e)))

  pub rows_known : (must : List AclRow) → All (Contains asked.rows) must
      → rows_fit knows must ≡ true
  rows_known must inside = all_contained (λ row. fits knows (levels row.filter)) asked.rows must
      (some_known asked.rows usable (λ l h. h)) inside

  pub states_known : (names : Names) → names_fit knows names ≡ true
  states_known names = names_fit_by knows names
      (fits_named is_level knows level_no_wildcard (levels state_filter)
      (row_levels state_row states_usable)
      (λ l p lit. or_right (names_level l asked.rows || is_fresh asked l) (is_state_level l) lit))

  pub user_known : (k : Clients) → IsListed asked k → list_all knows (known_levels k) ≡ true
  user_known clients.Anonymous of = refl
  user_known (clients.Named name) of = all_in knows (levels name.now)
      (λ l h. named_known l (user_named asked.rows name.now l of h))
  user_known clients.Others of = refl

  -- ---- what stands for others
  begins_like : (b : Bool) → not b ≡ false → b ≡ true
  begins_like true h = refl
  begins_like false h = absurd (let n : true ≡ false = h in cc)

  plain_fresh : (l : List ℕ) → is_unlike asked.plain l ≡ false → is_fresh asked l ≡ true
  plain_fresh l h = or_left (starts_with nat_eq l asked.plain) (starts_with nat_eq l asked.dollar)
      (begins_like (starts_with nat_eq l asked.plain) h)

  dollar_fresh : (l : List ℕ) → is_unlike asked.dollar l ≡ false → is_fresh asked l ≡ true
  dollar_fresh l h = or_right (starts_with nat_eq l asked.plain) (starts_with nat_eq l asked.dollar)
      (begins_like (starts_with nat_eq l asked.dollar) h)

  pub plain_known : knows asked.plain ≡ true
  plain_known = fresh_known asked.plain (plain_fresh asked.plain (itself_is asked.plain))

  pub dollar_known : knows asked.dollar ≡ true
  dollar_known = fresh_known asked.dollar (dollar_fresh asked.dollar (itself_is asked.dollar))

  pub plain_texts_known : FreshPass asked.plain knows
  plain_texts_known n low = fresh_known (fresh_text asked.plain n)
      (plain_fresh (fresh_text asked.plain n) (fresh_is asked.plain n))

  pub dollar_texts_known : FreshPass asked.dollar knows
  dollar_texts_known n low = fresh_known (fresh_text asked.dollar n)
      (dollar_fresh (fresh_text asked.dollar n) (fresh_is asked.dollar n))

-- ---- a level in the place of one that stands for it
nothing_begins : (prefix : List ℕ) → (length prefix == 0) ≡ false
    → starts_with nat_eq [] prefix ≡ false
nothing_begins [] h = absurd (true≢false h)
nothing_begins (x ∷ xs) h = refl

module _ (asked : AskedRows) (whole : list_all has_whole_marks asked.rows ≡ true)
    (plain_none : some_begins asked.plain asked.rows ≡ false)
    (dollar_none : some_begins asked.dollar asked.rows ≡ false)
    (plain_some : (length asked.plain == 0) ≡ false)
    (dollar_some : (length asked.dollar == 0) ≡ false) (a b : List ℕ)
    (stands : StandsForLevel asked a b) where
  not_like : (prefix l : List ℕ) → starts_with nat_eq l prefix ≡ false
      → starts_with nat_eq a prefix ≡ true → bytes_eq l a ≡ false
  not_like prefix l h k = false_from_ne_true (bytes_eq l a) (λ e. true≢false (
      sym k ∙ ap (λ t. starts_with nat_eq t prefix) (sym (text_is l a e)) ∙ h))

  not_first : (l : List ℕ) → starts_with nat_eq l asked.plain ≡ false
      → starts_with nat_eq l asked.dollar ≡ false → bytes_eq l a ≡ false
  not_first l p d = by (starts_with nat_eq a asked.plain) refl stands.fresh
    where
      by : (s : Bool) → starts_with nat_eq a asked.plain ≡ s
          → (s || starts_with nat_eq a asked.dollar) ≡ true → bytes_eq l a ≡ false
      by true e h = not_like asked.plain l p e
      by false e h = not_like asked.dollar l d h

  not_second : (l : List ℕ) → (bytes_eq b l && not (is_wildcard l)) ≡ false → bytes_eq l b ≡ false
  not_second l h = false_from_ne_true (bytes_eq l b) (λ e.
      let same = text_is l b e in
      let can = and_parts (is_plain b && not (contains_byte 0 b)) (not (contains_byte 47 b))
      stands.other_can in
      let plain = (and_parts (is_plain b) (not (contains_byte 0 b)) can.0).0 in
      let no_wild = plain_is_no_wildcard b plain in
      true≢false (sym (and_from (bytes_eq b l) (not (is_wildcard l))
      (ap (bytes_eq b) same ∙ text_itself b) (ap not (ap is_wildcard same ∙ no_wild))) ∙ h))

  all_apart : (ls : List (List ℕ)) → list_any (λ l. starts_with nat_eq l asked.plain) ls ≡ false
      → list_any (λ l. starts_with nat_eq l asked.dollar) ls ≡ false
      → ((l : List ℕ) → list_any (bytes_eq l) ls ≡ true → bytes_eq l b ≡ false)
      → list_all (is_apart a b) ls ≡ true
  all_apart [] p d h = refl
  all_apart (l ∷ ls) p d h =
      let plain = or_parts (starts_with nat_eq l asked.plain)
      (list_any (λ l. starts_with nat_eq l asked.plain) ls) p in
      let dollar = or_parts (starts_with nat_eq l asked.dollar)
      (list_any (λ l. starts_with nat_eq l asked.dollar) ls) d in
      and_from (is_apart a b l) (list_all (is_apart a b) ls)
      (and_from (not (bytes_eq l a)) (not (bytes_eq l b))
      (ap not (not_first l plain.0 dollar.0))
      (ap not (h l (or_left (bytes_eq l l) (list_any (bytes_eq l) ls) (text_itself l)))))
      (all_apart ls plain.1 dollar.1
      (λ m e. h m (or_right (bytes_eq m l) (list_any (bytes_eq m) ls) e)))

  -- each level of a filter that names none of the two
  literal_apart : (ls : List (List ℕ)) → is_literal_in b ls ≡ false
      → (l : List ℕ) → list_any (bytes_eq l) ls ≡ true → bytes_eq l b ≡ false
  literal_apart [] n l h = absurd (let k : false ≡ true = h in cc)
  literal_apart (w ∷ ws) n l h =
      let parts = or_parts (bytes_eq b w && not (is_wildcard w)) (is_literal_in b ws) n in
      by (bytes_eq l w) refl h (literal_apart ws parts.1 l) (not_second w parts.0)
    where
      by : (s : Bool) → bytes_eq l w ≡ s → (s || list_any (bytes_eq l) ws) ≡ true
          → (list_any (bytes_eq l) ws ≡ true → bytes_eq l b ≡ false) → bytes_eq w b ≡ false
          → bytes_eq l b ≡ false
      by true e h more this = ap (λ t. bytes_eq t b) (text_is l w e) ∙ this
      by false e h more this = more h

  owner_levels : (ls : List (List ℕ)) → list_any (bytes_eq b) ls ≡ false → (l : List ℕ)
      → list_any (bytes_eq l) ls ≡ true → bytes_eq l b ≡ false
  owner_levels ls n l h = false_from_ne_true (bytes_eq l b) (λ e. true≢false (
      sym (ap (λ t. list_any (bytes_eq t) ls) (sym (text_is l b e)) ∙ h) ∙ n))

  who_apart : (who : Who) → owner_begins asked.plain who ≡ false
      → owner_begins asked.dollar who ≡ false → owner_names b who ≡ false
      → owner_apart a b who ≡ true
  who_apart rows.Anonymous p d n = refl
  who_apart (rows.Named name) p d n = all_apart (levels name) p d (owner_levels (levels name) n)
  who_apart rows.Everyone p d n = refl

  marks_too : (row : AclRow) (ls : List (List ℕ)) → list_all (is_apart a b) ls ≡ true
      → list_all (λ l. is_mark row l || is_apart a b l) ls ≡ true
  marks_too row [] h = refl
  marks_too row (l ∷ ls) h =
      let parts = and_parts (is_apart a b l) (list_all (is_apart a b) ls) h in
      and_from (is_mark row l || is_apart a b l)
      (list_all (λ l. is_mark row l || is_apart a b l) ls)
      (or_right (is_mark row l) (is_apart a b l) parts.0) (marks_too row ls parts.1)

  rows_swapped : (all : List AclRow) → list_all has_whole_marks all ≡ true
      → some_begins asked.plain all ≡ false → some_begins asked.dollar all ≡ false
      → names_level b all ≡ false → list_all (is_swapped a b) all ≡ true
  rows_swapped [] w p d n = refl
  rows_swapped (row ∷ all) w p d n =
      let marks = and_parts (has_whole_marks row) (list_all has_whole_marks all) w in
      let plain = or_parts (row_begins asked.plain row) (some_begins asked.plain all) p in
      let dollar = or_parts (row_begins asked.dollar row) (some_begins asked.dollar all) d in
      let named = or_parts (row_names_level b row) (names_level b all) n in
      let first = or_parts (begins asked.plain row.filter) (owner_begins asked.plain row.who) plain.0 in
      let other = or_parts (begins asked.dollar row.filter) (owner_begins asked.dollar row.who)
      dollar.0 in
      let this = or_parts (is_literal_in b (levels row.filter)) (owner_names b row.who) named.0 in
      and_from (is_swapped a b row) (list_all (is_swapped a b) all)
      (and_from (has_whole_marks row) (row_apart a b row) marks.0
      (and_from (list_all (λ l. is_mark row l || is_apart a b l) (levels row.filter))
      (owner_apart a b row.who)
      (marks_too row (levels row.filter) (all_apart (levels row.filter) first.0 other.0
      (literal_apart (levels row.filter) this.0)))
      (who_apart row.who first.1 other.1 this.1)))
      (rows_swapped all marks.1 plain.1 dollar.1 named.1)

  all_swapped : list_all (is_swapped a b) asked.rows ≡ true
  all_swapped = rows_swapped asked.rows whole plain_none dollar_none stands.unnamed

  some_first : (length a == 0) ≡ false
  some_first = by a stands.fresh
    where
      by : (t : List ℕ) → is_fresh asked t ≡ true → (length t == 0) ≡ false
      by [] h = absurd (true≢false (sym h ∙ (λ i. nothing_begins asked.plain plain_some i
          || nothing_begins asked.dollar dollar_some i)))
      by (x ∷ xs) h = grind arith

  both_alike : AreAlike a b
  both_alike = record {
    dollar = stands.dollar;
    level = stands.level_can;
    other_level = stands.other_can;
    some = some_first;
    other_some = stands.some;
  }

  -- ---- user names
  name_moved : (user : List ℕ) (who : Who) → owner_apart a b who ≡ true
      → is_name_of (swap_levels a b user) who ≡ is_name_of user who
  name_moved user rows.Anonymous h = refl
  name_moved user (rows.Named name) h = moved_eq a b both_alike user name h
  name_moved user rows.Everyone h = refl

  users_moved : (user : List ℕ) (all : List AclRow) → list_all (is_swapped a b) all ≡ true
      → is_user_of (swap_levels a b user) all ≡ is_user_of user all
  users_moved user [] h = refl
  users_moved user (row ∷ all) h =
      let parts = and_parts (is_swapped a b row) (list_all (is_swapped a b) all) h in
      let apart = (and_parts (list_all (λ l. is_mark row l || is_apart a b l) (levels row.filter))
      (owner_apart a b row.who)
      (and_parts (has_whole_marks row) (row_apart a b row) parts.0).1).1 in
      (λ i. name_moved user row.who apart i || users_moved user all parts.1 i)

  client_moved : (k : Clients) (user : Option (List ℕ)) → is_client_of asked k user ≡ true
      → IsListed asked k → mark_passes can_be_id (swap_user a b user) ≡ true
      → is_client_of asked k (swap_user a b user) ≡ true
  client_moved clients.Anonymous None of listed fits_too = refl
  client_moved clients.Anonymous (Some user) of listed fits_too =
      absurd (let n : false ≡ true = of in cc)
  client_moved (clients.Named name) None of listed fits_too =
      absurd (let n : false ≡ true = of in cc)
  client_moved (clients.Named name) (Some user) of listed fits_too =
      let parts = and_parts (bytes_eq user name.now) (can_be_id user) of in
      let is = text_is user name.now parts.0 in
      let levels_apart = name_apart asked.rows name.now all_swapped listed in
      let stays : swap_levels a b user ≡ name.now =
      ap (swap_levels a b) is ∙ moved_apart a b both_alike name.now levels_apart in
      and_from (bytes_eq (swap_levels a b user) name.now) (can_be_id (swap_levels a b user))
      (ap (λ t. bytes_eq t name.now) stays ∙ text_itself name.now) fits_too
    where
      name_apart : (all : List AclRow) (name : List ℕ) → list_all (is_swapped a b) all ≡ true
          → is_user_of name all ≡ true → list_all (is_apart a b) (levels name) ≡ true
      name_apart [] name h of = absurd (let n : false ≡ true = of in cc)
      name_apart (row ∷ all) name h of =
          let parts = and_parts (is_swapped a b row) (list_all (is_swapped a b) all) h in
          let apart = (and_parts
          (list_all (λ l. is_mark row l || is_apart a b l) (levels row.filter))
          (owner_apart a b row.who)
          (and_parts (has_whole_marks row) (row_apart a b row) parts.0).1).1 in
          at row.who apart of (name_apart all name parts.1)
        where
          here : (other : List ℕ) → (s : Bool) → bytes_eq name other ≡ s
              → list_all (is_apart a b) (levels other) ≡ true
              → (s || is_user_of name all) ≡ true
              → (is_user_of name all ≡ true → list_all (is_apart a b) (levels name) ≡ true)
              → list_all (is_apart a b) (levels name) ≡ true
          here other true e apart of more =
              ap (λ t. list_all (is_apart a b) (levels t)) (text_is name other e) ∙ apart
          here other false e apart of more = more of

          at : (who : Who) → owner_apart a b who ≡ true
              → (is_name_of name who || is_user_of name all) ≡ true
              → (is_user_of name all ≡ true → list_all (is_apart a b) (levels name) ≡ true)
              → list_all (is_apart a b) (levels name) ≡ true
          at rows.Anonymous apart of more = more of
          at (rows.Named other) apart of more = here other (bytes_eq name other) refl apart of more
          at rows.Everyone apart of more = more of
  client_moved clients.Others None of listed fits_too = absurd (let n : false ≡ true = of in cc)
  client_moved clients.Others (Some user) of listed fits_too =
      let parts = and_parts (can_be_id user) (not (is_user_of user asked.rows)) of in
      and_from (can_be_id (swap_levels a b user)) (not (is_user_of (swap_levels a b user) asked.rows))
      fits_too (ap not (users_moved user asked.rows all_swapped) ∙ parts.1)

  pub hit_moved : (k : Clients) (must cover : List AclRow) (client name : List ℕ)
      (user : Option (List ℕ)) → IsListed asked k → All (Contains asked.rows) must
      → All (Contains asked.rows) cover → IsHitBy asked k must cover client user name
      → can_be_id (swap_levels a b client) ≡ true
      → mark_passes can_be_id (swap_user a b user) ≡ true
      → is_name (swap_levels a b name) ≡ true
      → IsHitBy asked k must cover (swap_levels a b client) (swap_user a b user)
      (swap_levels a b name)
  hit_moved k must cover client name user listed must_in cover_in is id user_id valid = record {
    client_fits = id;
    user_fits = client_moved k user is.user_fits listed user_id;
    valid = valid;
    hit = hits_moved a b both_alike client name user must cover
        (all_contained (is_swapped a b) asked.rows must all_swapped must_in)
        (all_contained (is_swapped a b) asked.rows cover all_swapped cover_in) ∙ is.hit;
  }

-- ---- what is answered is known
pub answer_known : (asked : AskedRows) → list_all is_usable asked.rows ≡ true → (o : Others)
    → o.plain.now ≡ asked.plain → o.dollar.now ≡ asked.dollar → (names : Names) (k : Clients)
    → IsListed asked k → (must : List AclRow) → All (Contains asked.rows) must
    → (client name : List ℕ) (user : Option (List ℕ)) → RuledPasses o names k must client user name
    → AreLevelsKnown asked client user name
answer_known asked usable o plain dollar names k listed must must_in client name user passes =
    let knows = λ (l : List ℕ). is_known_level asked l in
    let known = passes knows (ap knows plain ∙ plain_known asked usable)
    (ap knows dollar ∙ dollar_known asked usable)
    (subst (λ p. FreshPass p knows) (sym plain) (plain_texts_known asked usable))
    (subst (λ p. FreshPass p knows) (sym dollar) (dollar_texts_known asked usable))
    (rows_known asked usable must must_in) (states_known asked usable names)
    (user_known asked usable k listed) in
    record {
      client_known = known.client_passes;
      user_known = known.user_passes;
      levels_known = known.name_passes;
    }

-- ---- what stands for others isn't named
in_begins : (prefix text : List ℕ) → starts_with nat_eq text prefix ≡ true → (ls : List (List ℕ))
    → list_any (λ l. starts_with nat_eq l prefix) ls ≡ false → list_any (bytes_eq text) ls ≡ false
in_begins prefix text h [] n = refl
in_begins prefix text h (l ∷ ls) n =
    let parts = or_parts (starts_with nat_eq l prefix)
    (list_any (λ l. starts_with nat_eq l prefix) ls) n in
    (λ i. false_from_ne_true (bytes_eq text l) (λ e. true≢false (sym h
    ∙ ap (λ t. starts_with nat_eq t prefix) (text_is text l e) ∙ parts.0)) i
    || in_begins prefix text h ls parts.1 i)

literal_begins : (text : List ℕ) (ls : List (List ℕ)) → list_any (bytes_eq text) ls ≡ false
    → is_literal_in text ls ≡ false
literal_begins text [] n = refl
literal_begins text (l ∷ ls) n =
    let parts = or_parts (bytes_eq text l) (list_any (bytes_eq text) ls) n in
    (λ i. (parts.0 i && not (is_wildcard l)) || literal_begins text ls parts.1 i)

begun_unnamed : (prefix text : List ℕ) → starts_with nat_eq text prefix ≡ true
    → (all : List AclRow) → some_begins prefix all ≡ false → names_level text all ≡ false
begun_unnamed prefix text h [] n = refl
begun_unnamed prefix text h (row ∷ all) n =
    let parts = or_parts (row_begins prefix row) (some_begins prefix all) n in
    let row_parts = or_parts (begins prefix row.filter) (owner_begins prefix row.who) parts.0 in
    (λ i. (literal_begins text (levels row.filter)
    (in_begins prefix text h (levels row.filter) row_parts.0) i
    || owner row.who row_parts.1 i) || begun_unnamed prefix text h all parts.1 i)
  where
    owner : (who : Who) → owner_begins prefix who ≡ false → owner_names text who ≡ false
    owner rows.Anonymous e = refl
    owner (rows.Named name) e = in_begins prefix text h (levels name) e
    owner rows.Everyone e = refl

pub fresh_unnamed : (asked : AskedRows) → some_begins asked.plain asked.rows ≡ false
    → some_begins asked.dollar asked.rows ≡ false → (text : List ℕ) → is_fresh asked text ≡ true
    → names_level text asked.rows ≡ false
fresh_unnamed asked plain dollar text h = by (starts_with nat_eq text asked.plain) refl h
  where
    by : (b : Bool) → starts_with nat_eq text asked.plain ≡ b
        → (b || starts_with nat_eq text asked.dollar) ≡ true → names_level text asked.rows ≡ false
    by true e h = begun_unnamed asked.plain text e asked.rows plain
    by false e h = begun_unnamed asked.dollar text h asked.rows dollar
