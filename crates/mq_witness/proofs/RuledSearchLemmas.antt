-- What the search by mosquitto's rules finds, over all clients.
use Rattle.std.proofs.Common.{◌≡◌, ◌∙◌, ◌&&◌, ◌||◌, ◌==◌, ◌++◌, ◌∷◌, ◌≤◌, ◌<◌, ◌*◌, ◌+◌, ℕ, Bool, true, false, not}
use Rattle.std.proofs.Common.{List, [], Bor, Option, Some, None, ap, arith, bytes_eq, codes, inl, inr, length, refl}
use Rattle.std.proofs.Common.{length-append, subst, suc, sym, All, Contains, if◌then◌else◌, true≢false}
use Rattle.std.specs.List.{flat_map, list_all, list_any}
use Rattle.std.specs.Prelude.{nat_le, nat_lt}
use Rattle.std.proofs.lemmas.Bool.{and_from, and_parts, not-true, lt-ltb, le-leb, or_cases}
use Rattle.std.proofs.lemmas.List.Elements.{All-append}
use Rattle.std.proofs.lemmas.List.Folds.{list_all-append}
use Rattle.mq_topic.proofs.ByteLemmas.{text_is, text_itself}
use Rattle.mq_topic.specs.Levels.{levels}
use Rattle.mq_topic.specs.Matching.{level_matches, levels_match_by}
use Rattle.mq_topic.specs.Texts.{contains_byte, is_filter, is_name, is_plain}
use Rattle.mq_acl.specs.Refused.{is_state, state_filter}
use Rattle.mq_acl.specs.Rows.{AclRow, Who}
use Rattle.mq_acl.specs.Rows as rows
use Rattle.mq_acl.specs.RowsByOwner.{is_everyones}
use Rattle.mq_cover.specs.Choices.{other_at}
use Rattle.mq_cover.specs.Names.{are_others, can_be_level, is_choice, is_name_level, start_of}
use Rattle.mq_cover.specs.Names.{suits}
use Rattle.mq_topic.proofs.Walk.{levels-nonempty}
use Rattle.mq_cover.specs.Remainders.{fits}
use Rattle.mq_cover.specs.declared.others.Others.{Others}
use Rattle.mq_unify.specs.Clients.{mark_plain, user_passes}
use Rattle.mq_unify.specs.Rows.{rows_fit}
use Rattle.mq_unify.specs.Unlike.{FreshPass, fresh_text}
use Rattle.mq_unify.proofs.FilterLemmas.{single}
use Rattle.mq_shapes.specs.Found.{has_name, has_texts, is_empty_name, is_listed}
use Rattle.mq_shapes.specs.Odd.{IsOdd, IsOddUser, OddNone, is_among, is_odd}
use Rattle.mq_shapes.specs.Passed.{OwnPasses, Passes}
use Rattle.std.proofs.Math.Bool.{and-true}
use Rattle.mq_shapes.specs.Prefix.{ArePrefixes, CanBeAsked, is_name_of, is_short, is_usable, is_user_of, short_owner}
use Rattle.mq_shapes.specs.Ruled.{AreKnown, IsFew, IsRuled, RulesNone, all_listed, are_literal}
use Rattle.mq_shapes.specs.Ruled.{is_front}
use Rattle.mq_shapes.specs.Ruled.{is_of as is_plainly_of, known_levels, matched_by, ruled_hits}
use Rattle.mq_shapes.specs.declared.clients.Clients.{Clients}
use Rattle.mq_shapes.specs.declared.clients.Clients.TheVariants as clients
use Rattle.mq_shapes.proofs.AskedLemmas.{asked_ruled, is_known_name, known}
use Rattle.mq_shapes.proofs.ShapeLemmas.{lacks, levels_apart}
use Rattle.mq_shapes.proofs.PrefixLemmas.{fits_by}
use Rattle.mq_acl.specs.Access.{begins_with_dollar}
use Rattle.mq_witness.specs.Clients.{can_be_id, is_of}
use Rattle.mq_witness.specs.Names.{are_begun, are_states, has_front, is_one_of, is_right, names_fit, start_at}
use Rattle.mq_witness.specs.Ready.{is_nobody}
use Rattle.mq_witness.specs.Rows.{lent_rows}
use Rattle.mq_acl.specs.declared.row.Row.{Row}
use Rattle.mq_witness.specs.RuledSearch.{AnswerPasses, CanBeRuled, IsAmong, IsRuledAnswer}
use Rattle.mq_witness.specs.RuledSearch.{RuledFindsNone, RuledPasses, has_plain_name, state_row, within}
use Rattle.mq_witness.specs.Texts.{join_levels}
use Rattle.mq_witness.specs.declared.names.Names.{Names}
use Rattle.mq_witness.specs.declared.names.Names.TheVariants.{Plain, Dollar, Readable, Writable}
use Rattle.mq_witness.specs.declared.names.Names.TheVariants.{States}
use Rattle.mq_witness.proofs.FrontLemmas.{suits_begun, suits_front}
use Rattle.mq_witness.proofs.NameLemmas.{joined_is_name, level_is, levels_of_joined, name_is, slashed}
use Rattle.mq_witness.proofs.NameLemmas.{joined_lacking, levels_without, slashed_short, some_name}
use Rattle.mq_witness.proofs.TestLemmas.{all_by}

-- ---- texts by their levels
-- a topic of these levels is a name
module _ (names : Names) (topic : List ℕ) (valid : list_all is_name_level (levels topic) ≡ true)
    (few : length (levels topic) ≤ 200) (s : suits (start_at names) (levels topic) ≡ true) where
  begun : suits (start_of (are_begun names)) (levels topic) ≡ true
  begun = suits_begun names (levels topic) s

  rejoined : join_levels (levels topic) ≡ topic
  rejoined = levels_apart (join_levels (levels topic)) topic
      (levels_of_joined (levels topic) (are_begun names) valid begun)

  pub topic_valid : is_name topic ≡ true
  topic_valid =
      ap is_name (sym rejoined) ∙ joined_is_name (levels topic) (are_begun names) valid few begun

  pub topic_some : 0 < length topic
  topic_some = some_name topic (are_begun names) begun

-- a text of few short levels can be an id
length_joined : (ls : List (List ℕ)) → list_all is_name_level ls ≡ true → length ls ≤ 200
    → length (join_levels ls) ≤ 65535
length_joined [] h n = omega arith
length_joined (l ∷ ls) h n =
    let parts = and_parts (is_name_level l) (list_all is_name_level ls) h in
    let first = (level_is l parts.0).short in
    let rest = slashed_short ls parts.1 in
    let whole = length-append l (slashed ls) in
    omega (arith, first, rest, whole, n)

pub fits_id : (text : List ℕ) → list_all is_name_level (levels text) ≡ true
    → length (levels text) ≤ 200 → (length text == 0) ≡ false → can_be_id text ≡ true
fits_id text valid few some =
    let joined : join_levels (levels text) ≡ text =
    levels_apart (join_levels (levels text)) text
    (joined_lacking (levels text) (levels-nonempty text) (levels_without text)) in
    let low : length text ≤ 65535 =
    subst (λ t. length t ≤ 65535) joined (length_joined (levels text) valid few) in
    let nul = lacks 0 text refl (all_by is_name_level (λ l. not (contains_byte 0 l))
    (λ l e. (level_is l e).nul) (levels text) valid) in
    let more : 0 < length text = grind (arith, some) in
    and_from (nat_lt 0 (length text) && nat_le (length text) 65535) (not (contains_byte 0 text))
    (and_from (nat_lt 0 (length text)) (nat_le (length text) 65535) (lt-ltb 0 (length text) more)
    (le-leb (length text) 65535 low)) (ap not nul)

id_some : (text : List ℕ) → can_be_id text ≡ true → (length text == 0) ≡ false
id_some [] h = absurd (let n : false ≡ true = h in cc)
id_some (x ∷ xs) h = grind arith

have_texts : (client : List ℕ) (user : Option (List ℕ)) → can_be_id client ≡ true
    → ((name : List ℕ) → user ≡ Some name → can_be_id name ≡ true) → has_texts client user ≡ true
have_texts client None h k = and_from (not (length client == 0)) true (ap not (id_some client h)) refl
have_texts client (Some name) h k =
    and_from (not (length client == 0)) (not (length name == 0)) (ap not (id_some client h))
    (ap not (id_some name (k name refl)))

-- ---- what stands for others isn't empty
plain_some : (o : Others) → are_others o ≡ true → (length o.plain.now == 0) ≡ false
plain_some o h = grind (arith, h)

dollar_some : (o : Others) → are_others o ≡ true → (length o.dollar.now == 0) ≡ false
dollar_some o h = by o.dollar.now (let front : begins_with_dollar o.dollar.now ≡ true =
    grind (arith, h) in front)
  where
    by : (l : List ℕ) → begins_with_dollar l ≡ true → (length l == 0) ≡ false
    by [] e = absurd (let n : false ≡ true = e in cc)
    by (x ∷ xs) e = grind arith

-- ---- the search stands on the rows of lists
-- a list of user names that some rows are for
among_user : (all : List AclRow) (users : List (Bor (List ℕ))) (name : List ℕ)
    → list_all (λ name. is_user_of name.now all) users ≡ true → has_name users name ≡ true
    → is_user_of name all ≡ true
among_user all [] name h k = absurd (let n : false ≡ true = k in cc)
among_user all (other ∷ users) name h k =
    let parts = and_parts (is_user_of other.now all)
    (list_all (λ name. is_user_of name.now all) users) h in
    by (bytes_eq name other.now) refl k parts.0 (among_user all users name parts.1)
  where
    by : (b : Bool) → bytes_eq name other.now ≡ b → (b || has_name users name) ≡ true
        → is_user_of other.now all ≡ true
        → (has_name users name ≡ true → is_user_of name all ≡ true)
        → is_user_of name all ≡ true
    by true e h of more = ap (λ t. is_user_of t all) (text_is name other.now e) ∙ of
    by false e h of more = more h

short_user : (all : List AclRow) (name : List ℕ) → list_all is_usable all ≡ true
    → is_user_of name all ≡ true → is_short name ≡ true
short_user [] name h k = absurd (let n : false ≡ true = k in cc)
short_user (row ∷ all) name h k =
    let parts = and_parts (is_usable row) (list_all is_usable all) h in
    let short = (and_parts (fits (λ l. can_be_level l && is_short l) (levels row.filter))
    (short_owner row.who) parts.0).1 in
    by row.who short k (short_user all name parts.1)
  where
    at : (other : List ℕ) → (b : Bool) → bytes_eq name other ≡ b
        → (b || is_user_of name all) ≡ true → is_short other ≡ true
        → (is_user_of name all ≡ true → is_short name ≡ true) → is_short name ≡ true
    at other true e h s more = ap is_short (text_is name other e) ∙ s
    at other false e h s more = more h

    by : (who : Who) → short_owner who ≡ true
        → (is_name_of name who || is_user_of name all) ≡ true
        → (is_user_of name all ≡ true → is_short name ≡ true) → is_short name ≡ true
    by rows.Anonymous s h more = more h
    by (rows.Named other) s h more = at other (bytes_eq name other) refl h s more
    by rows.Everyone s h more = more h

module _ (others : Others) (all : List AclRow) (are : ArePrefixes all others.plain.now others.dollar.now)
    (can : CanBeAsked all) (users : List (Bor (List ℕ)))
    (named : list_all (λ name. is_user_of name.now all) users ≡ true)
    (listed : all_listed users all ≡ true) (states must cover : List AclRow)
    (states_are : states ≡ state_row ∷ [])
    (states_in : All (Contains all) states) (must_in : All (Contains all) must)
    (cover_in : All (Contains all) cover) where
  front : (names : Names) → is_front (start_at names) ≡ true
  front Plain = refl
  front Dollar = refl
  front Readable = refl
  front Writable = refl
  front States = refl

  literal : (b : Bool) → are_literal (if b then states else []) ≡ true
  literal true = ap are_literal states_are
  literal false = refl

  firsts_in : (b : Bool) → All (Contains all) ((if b then states else []) ++ must)
  firsts_in true = All-append (Contains all) states must states_in must_in
  firsts_in false = must_in

  pub can_be_ruled : CanBeRuled others users states must cover
  can_be_ruled = record {
    ready = λ names. asked_ruled others all are can (start_at names) users (within names states)
        must cover (front names) named listed (literal (are_states names))
        (firsts_in (are_states names)) must_in cover_in;
    known = λ names name among id plain.
        let of = among_user all users name.now named among in
        let short = short_user all name.now can.usable of in
        let nul = (and_parts (nat_lt 0 (length name.now) && nat_le (length name.now) 65535)
        (not (contains_byte 0 name.now)) id).1 in
        (known others all are can (start_at names) name of
        (and_from (is_plain name.now && not (contains_byte 0 name.now)) (is_short name.now)
        (and_from (is_plain name.now) (not (contains_byte 0 name.now)) plain nul) short)).0;
    match = λ name. ap (λ rows. matched_by rows (levels name)) states_are
        ∙ and-true (levels_match_by level_matches (levels state_filter) (levels name));
    fit = λ test. ap (rows_fit test) states_are ∙ and-true (fits test (levels state_filter));
  }

module _ (others : Others) (users : List (Bor (List ℕ))) (states must cover : List AclRow)
    (are : CanBeRuled others users states must cover) (names : Names) where
  abbrev pub first : List AclRow
  first = within names states

  pub known_user : (k : Clients) → IsAmong users k → is_nobody k ≡ false
      → has_plain_name k ≡ true → AreKnown others (start_at names) k
  known_user clients.Anonymous among somebody plain = tt
  known_user (clients.Named name) among somebody plain =
      (are.known names name among (id_of (can_be_id name.now) somebody) plain, plain)
    where
      id_of : (b : Bool) → not b ≡ false → b ≡ true
      id_of true h = refl
      id_of false h = absurd (let n : true ≡ false = h in cc)
  known_user clients.Others among somebody plain = tt

  -- ---- what is not found
  inside_of : (name : List ℕ) → is_one_of names name ≡ true
      → matched_by first (levels name) ≡ true
  inside_of name kind = by (are_states names)
      (and_parts (has_front names name) (is_right names name) kind).1
    where
      by : (b : Bool) → (not b || is_state name) ≡ true
          → matched_by (if b then states else []) (levels name) ≡ true
      by true h = are.match name ∙ h
      by false h = refl

  user_id : (k : Clients) (user : Option (List ℕ)) → is_of (has_name users) k user ≡ true
      → (name : List ℕ) → user ≡ Some name → can_be_id name ≡ true
  user_id clients.Anonymous None of name e = absurd (let n : None ≡ Some name = e in cc)
  user_id clients.Anonymous (Some user) of name e = absurd (let n : false ≡ true = of in cc)
  user_id (clients.Named other) None of name e = absurd (let n : false ≡ true = of in cc)
  user_id (clients.Named other) (Some user) of name e =
      let is : user ≡ name = (let both = e in cc) in
      ap can_be_id (sym is) ∙ (and_parts (bytes_eq user other.now) (can_be_id user) of).1
  user_id clients.Others None of name e = absurd (let n : false ≡ true = of in cc)
  user_id clients.Others (Some user) of name e =
      let is : user ≡ name = (let both = e in cc) in
      ap can_be_id (sym is) ∙ (and_parts (can_be_id user) (not (has_name users user)) of).0

  among_of : (k : Clients) (user : Option (List ℕ)) → is_of (has_name users) k user ≡ true
      → is_among users k user ≡ true
  among_of clients.Anonymous None of = refl
  among_of clients.Anonymous (Some user) of = absurd (let n : false ≡ true = of in cc)
  among_of (clients.Named name) None of = absurd (let n : false ≡ true = of in cc)
  among_of (clients.Named name) (Some user) of =
      (and_parts (bytes_eq user name.now) (can_be_id user) of).0
  among_of clients.Others None of = absurd (let n : false ≡ true = of in cc)
  among_of clients.Others (Some user) of =
      (and_parts (can_be_id user) (not (has_name users user)) of).1

  plain_of : (k : Clients) (user : Option (List ℕ)) → mark_plain user ≡ true
      → is_of (has_name users) k user ≡ true
      → (is_plainly_of users k user ≡ true) × (has_plain_name k ≡ true)
  plain_of clients.Anonymous None p of = (refl, refl)
  plain_of clients.Anonymous (Some user) p of = absurd (let n : false ≡ true = of in cc)
  plain_of (clients.Named name) None p of = absurd (let n : false ≡ true = of in cc)
  plain_of (clients.Named name) (Some user) p of =
      let parts = and_parts (bytes_eq user name.now) (can_be_id user) of in (
        and_from (bytes_eq user name.now) (is_plain user) parts.0 p,
        ap is_plain (sym (text_is user name.now parts.0)) ∙ p,
      )
  plain_of clients.Others None p of = absurd (let n : false ≡ true = of in cc)
  plain_of clients.Others (Some user) p of = (
    and_from (is_plain user) (not (is_listed users (Some user))) p
        (and_parts (can_be_id user) (not (has_name users user)) of).1,
    refl,
  )

  pub none_ruled : (k : Clients)
      → (has_plain_name k ≡ true → RulesNone (start_at names) users k first must cover)
      → OddNone (start_at names) users k first must cover
      → RuledFindsNone names users k must cover
  none_ruled k plainly oddly client name user id of valid kind =
      let is = name_is name valid in
      let s : suits (start_at names) (levels name) ≡ true =
      suits_front names name is.some
      ∙ (and_parts (has_front names name) (is_right names name) kind).0 in
      by (is_odd client user) refl s is.few
    where
      by : (b : Bool) → is_odd client user ≡ b → suits (start_at names) (levels name) ≡ true
          → length (levels name) ≤ 200 → ruled_hits client user name must cover ≡ false
      by true odd s few =
          oddly client user name odd (among_of k user of) s few (inside_of name kind)
      by false odd s few =
          let parts = and_parts (is_plain client) (mark_plain user) (plain_is odd) in
          let plain = plain_of k user parts.1 of in
          plainly plain.1 client user name parts.0 plain.0
          (have_texts client user id (user_id k user of)) s few (inside_of name kind)
        where
          plain_is : not (is_plain client && mark_plain user) ≡ false
              → (is_plain client && mark_plain user) ≡ true
          plain_is h = at (is_plain client && mark_plain user) h
            where
              at : (b : Bool) → not b ≡ false → b ≡ true
              at true h = refl
              at false h = absurd (let n : true ≡ false = h in cc)

  -- of a user name that no client can have there is nothing
  pub nobody_ruled : (k : Clients) → is_nobody k ≡ true → RuledFindsNone names users k must cover
  nobody_ruled clients.Anonymous h client name user id of valid kind =
      absurd (let n : false ≡ true = h in cc)
  nobody_ruled (clients.Named other) h client name None id of valid kind =
      absurd (let n : false ≡ true = of in cc)
  nobody_ruled (clients.Named other) h client name (Some user) id of valid kind =
      let parts = and_parts (bytes_eq user other.now) (can_be_id user) of in
      absurd (let n : false ≡ true = sym (not-true (can_be_id other.now) h)
      ∙ ap can_be_id (sym (text_is user other.now parts.0)) ∙ parts.1 in cc)
  nobody_ruled clients.Others h client name user id of valid kind =
      absurd (let n : false ≡ true = h in cc)

  -- ---- what is found
  kind_of : (topic : List ℕ) → 0 < length topic → suits (start_at names) (levels topic) ≡ true
      → matched_by first (levels topic) ≡ true → is_one_of names topic ≡ true
  kind_of topic some s inside =
      and_from (has_front names topic) (is_right names topic) (sym (suits_front names topic some) ∙ s)
      (by (are_states names) inside)
    where
      by : (b : Bool) → matched_by (if b then states else []) (levels topic) ≡ true
          → (not b || is_state topic) ≡ true
      by true h = sym (are.match topic) ∙ h
      by false h = refl

  -- the levels of what is found are short
  short_fresh : (o : Others) → FreshPass (other_at (start_at names) o) (is_choice o)
      → FreshPass (other_at (start_at names) o) is_name_level
  short_fresh o h n low =
      let text = fresh_text (other_at (start_at names) o) n in
      let both = and_parts (is_name_level text && not (bytes_eq text o.plain.now))
      (not (bytes_eq text o.dollar.now)) (h n low) in
      (and_parts (is_name_level text) (not (bytes_eq text o.plain.now)) both.0).0

  others_are : are_others others ≡ true
  others_are = (are.ready names).ready.others_fit

  short_others : (is_name_level others.plain.now ≡ true) × (is_name_level others.dollar.now ≡ true)
  short_others = grind (arith, others_are)

  short_levels : (ls : List (List ℕ)) → list_all (is_choice others) ls ≡ true
      → list_all is_name_level ls ≡ true
  short_levels ls h = all_by (is_choice others) is_name_level choice_short ls h
    where
      choice_short : (l : List ℕ) → is_choice others l ≡ true → is_name_level l ≡ true
      choice_short l h = (and_parts (is_name_level l) (not (bytes_eq l others.plain.now))
          (and_parts (is_name_level l && not (bytes_eq l others.plain.now))
          (not (bytes_eq l others.dollar.now)) h).0).0

  short_rows : (all : List AclRow) → rows_fit (is_choice others) all ≡ true
      → rows_fit is_name_level all ≡ true
  short_rows [] h = refl
  short_rows (row ∷ all) h =
      let parts = and_parts (fits (is_choice others) (levels row.filter))
      (rows_fit (is_choice others) all) h in
      and_from (fits is_name_level (levels row.filter)) (rows_fit is_name_level all)
      (fits_by (is_choice others) (is_choice others) is_name_level
      (λ l a b. (and_parts (is_name_level l) (not (bytes_eq l others.plain.now))
      (and_parts (is_name_level l && not (bytes_eq l others.plain.now))
      (not (bytes_eq l others.dollar.now)) a).0).0) (levels row.filter) parts.0 parts.0)
      (short_rows all parts.1)

  short_known : (k : Clients) (user : Option (List ℕ)) → IsAmong users k → is_nobody k ≡ false
      → is_plainly_of users k user ≡ true → list_all is_name_level (known_levels k) ≡ true
  short_known clients.Anonymous user among somebody of = refl
  short_known (clients.Named name) None among somebody of = absurd (let n : false ≡ true = of in cc)
  short_known (clients.Named name) (Some user) among somebody of =
      let parts = and_parts (bytes_eq user name.now) (is_plain user) of in
      let plain = ap is_plain (sym (text_is user name.now parts.0)) ∙ parts.1 in
      short_levels (levels name.now) (known_user (clients.Named name) among somebody plain).0.choice
  short_known clients.Others user among somebody of = refl

  is_somebody : (name : Bor (List ℕ)) → not (can_be_id name.now) ≡ false
      → can_be_id name.now ≡ true
  is_somebody name h = at (can_be_id name.now) h
    where
      at : (b : Bool) → not b ≡ false → b ≡ true
      at true h = refl
      at false h = absurd (let n : true ≡ false = h in cc)

  user_found : (k : Clients) (user : Option (List ℕ)) → is_nobody k ≡ false
      → is_plainly_of users k user ≡ true → is_empty_name user ≡ false → IsFew k user
      → user_passes is_name_level user ≡ true → is_of (has_name users) k user ≡ true
  user_found clients.Anonymous None somebody of some few short = refl
  user_found clients.Anonymous (Some user) somebody of some few short =
      absurd (let n : false ≡ true = of in cc)
  user_found (clients.Named name) None somebody of some few short =
      absurd (let n : false ≡ true = of in cc)
  user_found (clients.Named name) (Some user) somebody of some few short =
      let parts = and_parts (bytes_eq user name.now) (is_plain user) of in
      and_from (bytes_eq user name.now) (can_be_id user) parts.0
      (ap can_be_id (text_is user name.now parts.0) ∙ is_somebody name somebody)
  user_found clients.Others None somebody of some few short =
      absurd (let n : false ≡ true = of in cc)
  user_found clients.Others (Some user) somebody of some few short =
      let parts = and_parts (is_plain user) (not (is_listed users (Some user))) of in
      and_from (can_be_id user) (not (has_name users user)) (fits_id user short few some) parts.1

  pub found_ruled : (k : Clients) (client topic : List ℕ) (user : Option (List ℕ))
      → IsAmong users k → is_nobody k ≡ false
      → IsRuled (start_at names) users k first must cover client user topic
      → Passes others (other_at (start_at names) others) (known_levels k) (first ++ must) client
      user topic
      → IsRuledAnswer names users k must cover client user topic
  found_ruled k client topic user among somebody is passes =
      let ready = (are.ready names).ready in
      let short = passes is_name_level short_others.0 short_others.1
      (short_fresh others ready.fresh) (short_rows (first ++ must) ready.must_ready.choice)
      (short_known k user among somebody is.user_is) in
      let some = and_parts (not (length client == 0)) (not (is_empty_name user)) is.texts in
      let more = topic_some names topic is.valid is.few is.suitable in
      record {
        client_fits = fits_id client short.client_passes is.client_few (not-true _ some.0);
        user_fits = user_found k user somebody is.user_is (not-true _ some.1) is.user_few
            short.user_passes;
        valid = topic_valid names topic is.valid is.few is.suitable;
        kind = kind_of topic more is.suitable is.inside;
        hit = is.hit;
      }

  -- ---- of a client with a wildcard in its texts
  odd_user : (k : Clients) (user : Option (List ℕ)) → is_nobody k ≡ false
      → IsOddUser k (other_at (start_at names) others) user → is_among users k user ≡ true
      → is_of (has_name users) k user ≡ true
  odd_user clients.Anonymous user somebody shown among =
      ap (is_of (has_name users) clients.Anonymous) shown
  odd_user (clients.Named name) user somebody shown among =
      ap (is_of (has_name users) (clients.Named name)) shown
      ∙ and_from (bytes_eq name.now name.now) (can_be_id name.now) (text_itself name.now)
      (is_somebody name somebody)
  odd_user clients.Others user somebody shown among =
      let other = other_at (start_at names) others in
      ap (is_of (has_name users) clients.Others) shown
      ∙ and_from (can_be_id other) (not (has_name users other)) (other_id names)
      (sym (ap (is_among users clients.Others) shown) ∙ among)
    where
      id : (l : List ℕ) → is_name_level l ≡ true → (length l == 0) ≡ false → can_be_id l ≡ true
      id l h some =
          let alone = single l (level_is l h).slash in
          fits_id l (ap (list_all is_name_level) alone ∙ and_from (is_name_level l) true h refl)
          (let one = ap length alone in omega (arith, one)) some

      other_id : (names : Names) → can_be_id (other_at (start_at names) others) ≡ true
      other_id Plain = id others.plain.now short_others.0 (plain_some others others_are)
      other_id Dollar = id others.dollar.now short_others.1 (dollar_some others others_are)
      other_id Readable = id others.dollar.now short_others.1 (dollar_some others others_are)
      other_id Writable = id others.dollar.now short_others.1 (dollar_some others others_are)
      other_id States = id others.dollar.now short_others.1 (dollar_some others others_are)

  pub found_odd : (k : Clients) (client topic : List ℕ) (user : Option (List ℕ))
      → is_nobody k ≡ false
      → IsOdd others (start_at names) users k first must cover client user topic
      → IsRuledAnswer names users k must cover client user topic
  found_odd k client topic user somebody is =
      let more = topic_some names topic is.valid is.few is.suitable in
      record {
        client_fits = ap can_be_id is.client_is;
        user_fits = odd_user k user somebody is.user_is is.among;
        valid = topic_valid names topic is.valid is.few is.suitable;
        kind = kind_of topic more is.suitable is.inside;
        hit = is.hit;
      }

  -- ---- which levels are found
  first_fit : (test : List ℕ → Bool) → rows_fit test must ≡ true → names_fit test names ≡ true
      → rows_fit test (first ++ must) ≡ true
  first_fit test fit names_are =
      list_all-append (λ row. fits test (levels row.filter)) first must
      ∙ and_from (rows_fit test first) (rows_fit test must) (by (are_states names) names_are) fit
    where
      by : (b : Bool) → (not b || fits test (levels state_filter)) ≡ true
          → rows_fit test (if b then states else []) ≡ true
      by true h = are.fit test ∙ h
      by false h = refl

  at_start : (names : Names) (P : List ℕ → Type 0) → P others.plain.now → P others.dollar.now
      → P (other_at (start_at names) others)
  at_start Plain P p d = p
  at_start Dollar P p d = d
  at_start Readable P p d = d
  at_start Writable P p d = d
  at_start States P p d = d

  pub ruled_passes : (k : Clients) (client topic : List ℕ) (user : Option (List ℕ))
      → Passes others (other_at (start_at names) others) (known_levels k) (first ++ must) client
      user topic
      → RuledPasses others names k must client user topic
  ruled_passes k client topic user passes test plain dollar fresh other_fresh fit names_are known =
      let all = passes test plain dollar (at_start names (λ l. FreshPass l test) fresh other_fresh)
      (first_fit test fit names_are) known in
      record {
        client_passes = inr all.client_passes;
        user_passes = all.user_passes;
        name_passes = all.topic_passes;
      }

  pub odd_passes : (k : Clients) (client topic : List ℕ) (user : Option (List ℕ))
      → IsOdd others (start_at names) users k first must cover client user topic
      → OwnPasses others (first ++ must) topic
      → RuledPasses others names k must client user topic
  odd_passes k client topic user is passes test plain dollar fresh other_fresh fit names_are known =
      record {
        client_passes = inl is.client_is;
        user_passes = by k is.user_is known;
        name_passes = passes test plain dollar (first_fit test fit names_are);
      }
    where
      by : (k : Clients) → IsOddUser k (other_at (start_at names) others) user
          → list_all test (known_levels k) ≡ true → user_passes test user ≡ true
      by clients.Anonymous e known = ap (user_passes test) e
      by (clients.Named name) e known = ap (user_passes test) e ∙ known
      by clients.Others e known = ap (user_passes test) e
          ∙ at_start names (λ l. list_all test (levels l) ≡ true)
          (alone others.plain.now short_others.0 plain) (alone others.dollar.now short_others.1 dollar)
        where
          alone : (l : List ℕ) → is_name_level l ≡ true → test l ≡ true
              → list_all test (levels l) ≡ true
          alone l h t = ap (list_all test) (single l (level_is l h).slash)
              ∙ and_from (test l) true t refl

-- the rows that are lent for these names
pub lent_within : (names : Names) (states : List (Bor Row))
    → lent_rows (if are_states names then states else []) ≡ within names (lent_rows states)
lent_within names states = by (are_states names)
  where
    by : (b : Bool) → lent_rows (if b then states else []) ≡ (if b then lent_rows states else [])
    by true = refl
    by false = refl

-- ---- the states of bridges
-- their filter is one
pub states_valid : is_filter state_filter ≡ true
unfolding state_filter
states_valid = refl

-- no level of it begins as what stands for others does, and it can be asked
pub states_usable : is_usable state_row ≡ true
unfolding state_filter
states_usable = refl
