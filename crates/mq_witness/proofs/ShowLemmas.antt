-- What a search finds, as it is shown.
use Rattle.std.proofs.Common.{◌≡◌, ℕ, Bool, true, false, not, ◌&&◌, ◌||◌, List, Option, Some, None}
use Rattle.std.proofs.Common.{refl, ap, sym, ◌∙◌, string_bytes, bytes_eq, codes, ◌++◌, length, inl, inr}
use Rattle.std.specs.Prelude.{All, Contains, nat_le}
use Rattle.std.specs.List.{list_all, list_any}
use Rattle.std.specs.Option.{option_copied}
use Rattle.std.proofs.lemmas.Bool.{and_from, and_parts, cases_Bool, or_left, or_right}
use Rattle.std.proofs.lemmas.List.Folds.{list_any-append}
use Rattle.mq_topic.specs.Levels.{levels}
use Rattle.mq_topic.specs.Texts.{is_name}
use Rattle.mq_acl.specs.Access.{begins_with_dollar}
use Rattle.mq_acl.specs.Refused.{state_filter}
use Rattle.mq_acl.proofs.RefusedLemmas.{state_levels}
use Rattle.mq_acl.specs.Rows.{AclRow}
use Rattle.mq_cover.specs.Names.{can_be_level, is_name_level}
use Rattle.mq_cover.specs.Remainders.{fits, mark_passes}
use Rattle.mq_cover.proofs.NameLemmas.{choice_is_level}
use Rattle.mq_witness.specs.Answers.{IsFoundBy}
use Rattle.mq_witness.specs.Asked.{AreLevels, AskedRows, FindsNone, FindsNoneIn, IsListed, Knows}
use Rattle.mq_witness.specs.Asked.{ShowsIn, is_known, is_placeholder, user_view}
use Rattle.mq_witness.specs.Clients.{can_be_id, is_of, name_passes}
use Rattle.mq_witness.specs.Decided.{decides_in}
use Rattle.mq_witness.specs.Fresh.{AreFresh, fresh_pass, is_literal}
use Rattle.mq_witness.specs.FreshTexts.{IsSeen, fresh_texts}
use Rattle.mq_witness.specs.Literals.{is_literal_in, is_named}
use Rattle.mq_witness.specs.Ready.{CanAnswer, CanBeAsked, NamesNone}
use Rattle.mq_witness.specs.Roots.{rows_fit}
use Rattle.mq_witness.specs.Rows.{is_user_of, rows_name}
use Rattle.mq_shapes.specs.declared.clients.Clients.{Clients}
use Rattle.mq_shapes.specs.declared.clients.Clients.TheVariants.{Anonymous, Named, Others}
use Rattle.mq_witness.specs.declared.fresh.BothFresh.{BothFresh}
use Rattle.mq_witness.specs.declared.fresh.Fresh.{Fresh}
use Rattle.mq_witness.specs.declared.literals.Literals.{Literals}
use Rattle.mq_witness.specs.declared.names.Names.{Names}
use Rattle.mq_witness.specs.declared.names.Names.TheVariants.{Plain, Dollar}
use Rattle.mq_witness.specs.declared.question.Found.{Found}
use Rattle.mq_witness.specs.declared.texts.FreshTexts.{FreshTexts}
use Rattle.mq_witness.specs.declared.witness.Witness.{Witness}
use Rattle.mq_witness.proofs.LimitLemmas.{user_is_named}
use Rattle.mq_witness.proofs.AnswerLemmas.{NoneFor}
use Rattle.mq_witness.proofs.FreshMoves.{literal_is, others_are}
use Rattle.mq_witness.proofs.FreshLemmas.{all_of, states_fit}
use Rattle.mq_witness.proofs.FrontLemmas.{begun_one, names_fit_by}
use Rattle.mq_witness.proofs.LiteralLemmas.{fits_mono, rows_named}
use Rattle.mq_witness.proofs.TestLemmas.{all_by}
use Rattle.mq_witness.proofs.ReadyLemmas.{all_contained}
use Rattle.mq_witness.proofs.TriedLemmas.{literal_is_no_wildcard}

-- tests that say the same of user names ask about the same clients
pub is_of_same : (p q : List ℕ → Bool) → ((u : List ℕ) → p u ≡ q u) → (clients : Clients)
    (user : Option (List ℕ)) → is_of p clients user ≡ is_of q clients user
is_of_same p q h Anonymous None = refl
is_of_same p q h Anonymous (Some u) = refl
is_of_same p q h (Named name) None = refl
is_of_same p q h (Named name) (Some u) = refl
is_of_same p q h Others None = refl
is_of_same p q h Others (Some u) = ap (λ b. can_be_id u && not b) (h u)

-- a witness with the texts of what was found
pub record HasTexts (found : Found) (w : Witness) : Type 0 where
  pub client : string_bytes w.client ≡ found.client.now
  pub user : user_view w.user ≡ option_copied found.user
  pub name : w.name ≡ found.name

-- what is found is shown
pub found_shown : {front : Bool} {names : Names} (asked : AskedRows) {texts : FreshTexts} {users : Literals}
    {both : BothFresh} {clients : Clients} {must cover : List AclRow} {found : Found} {w : Witness}
    → CanBeAsked asked.rows texts users → HasTexts found w
    → IsFoundBy front names both (λ u. is_named u users) clients must cover found
    → ShowsIn front asked clients must cover w
found_shown {front} asked {users = users} {clients = clients} {must = must} {cover = cover}
    {found = found} can has h = record {
      client_fits = ap can_be_id has.client ∙ h.client_fits;
      user_fits = ap (is_of (λ u. is_user_of u asked.rows) clients) has.user
          ∙ is_of_same (λ u. is_user_of u asked.rows) (λ u. is_named u users)
          (λ u. sym (can.named u)) clients (option_copied found.user) ∙ h.user_fits;
      valid = ap is_name has.name ∙ h.valid;
      decided = (λ i. decides_in front (has.client i) (has.user i) (has.name i) must cover)
          ∙ h.decided;
    }

-- where a search finds none, there is none
pub finds_none : (front : Bool) (names : Names) (asked : AskedRows) {texts : FreshTexts} {users : Literals}
    (clients : Clients) (must cover : List AclRow) → CanBeAsked asked.rows texts users
    → NoneFor front users clients names must cover
    → FindsNoneIn front names asked clients must cover
finds_none front names asked {users = users} clients must cover can none client name user id of
    valid kind =
    none client name user id
    (is_of_same (λ u. is_named u users) (λ u. is_user_of u asked.rows) can.named clients user ∙ of)
    valid kind

-- where there is no such name that begins with `$`, and no other, there is none
pub neither_kind : (asked : AskedRows) (clients : Clients) (must cover : List AclRow)
    → FindsNoneIn false Plain asked clients must cover
    → FindsNoneIn false Dollar asked clients must cover → FindsNone asked clients must cover
neither_kind asked clients must cover plain dollar client name user id of valid =
    elim (cases_Bool (begins_with_dollar name)) [
      | inl e ↦ dollar client name user id of valid (begun_one true name e)
      | inr e ↦ plain client name user id of valid (begun_one false name e)
    ]

-- ---- what is known of its texts
state_known : (asked : AskedRows) (w : List ℕ) → is_literal_in w (levels state_filter) ≡ true
    → is_known asked w ≡ true
state_known asked w h = or_right (rows_name w asked.rows || is_placeholder w asked) _ h

states_known : (asked : AskedRows) → fits (is_known asked) (levels state_filter) ≡ true
states_known asked = states_fit (is_known asked)
    (state_known asked (codes "$SYS") (ap (is_literal_in (codes "$SYS")) state_levels))
    (state_known asked (codes "broker") (ap (is_literal_in (codes "broker")) state_levels))
    (state_known asked (codes "connection")
    (ap (is_literal_in (codes "connection")) state_levels))
    (state_known asked (codes "state") (ap (is_literal_in (codes "state")) state_levels))

-- each text of what is found is named by a row, or a placeholder, or a level of the states of bridges
pub found_known : {front : Bool} {names : Names} (asked : AskedRows) {texts dollar longest : FreshTexts}
    {users : Literals} (both : BothFresh) {clients : Clients} {must cover : List AclRow}
    {found : Found} {w : Witness} → CanAnswer asked.rows texts dollar longest users
    → asked.placeholders ≡ fresh_texts texts ++ fresh_texts dollar → IsSeen texts both.plain
    → IsSeen dollar both.dollar → IsListed asked clients → All (Contains asked.rows) must
    → HasTexts found w → IsFoundBy front names both (λ u. is_named u users) clients must cover found
    → Knows asked w
found_known {names = names} asked {texts} {dollar} both {clients} {must} can made seen begun listed must_in has h =
    let rows_known = rows_named (is_literal both.plain) (is_known asked)
    (literal_is_no_wildcard both.plain) asked.rows (can.asked_can.fits both.plain seen)
    (λ l k i. or_left _ _ (or_left _ _ i)) in
    let pass = h.known (is_known asked)
    (all_of texts both.plain (is_known asked) seen (λ t e. known t (or_left _ _ e)))
    (all_of dollar both.dollar (is_known asked) begun
    (λ t e. known t (or_right (list_any (bytes_eq t) (fresh_texts texts)) _ e)))
    (all_contained (λ row. fits (is_known asked) (levels row.filter)) asked.rows must rows_known
    must_in) (names_fit_by (is_known asked) names (states_known asked)) (by clients listed) in
    record {
      client_known = ap (is_known asked) has.client ∙ pass.client;
      user_known = ap (mark_passes (is_known asked)) has.user ∙ pass.user;
      levels_known = ap (λ n. list_all (is_known asked) (levels n)) has.name ∙ pass.name;
    }
  where
    known : (t : List ℕ) → (list_any (bytes_eq t) (fresh_texts texts)
        || list_any (bytes_eq t) (fresh_texts dollar)) ≡ true → is_known asked t ≡ true
    known t e = or_left _ _ (or_right (rows_name t asked.rows) _ (ap (list_any (bytes_eq t)) made
        ∙ list_any-append (bytes_eq t) (fresh_texts texts) (fresh_texts dollar) ∙ e))

    by : (k : Clients) → IsListed asked k → name_passes (is_known asked) k ≡ true
    by Anonymous e = refl
    by (Named name) e = or_left _ _ (or_left _ _ (user_is_named asked.rows name.now e))
    by Others e = refl

-- ---- levels
-- a level that a row may name, and one that stands for others, can be levels
literal_can : (f : Fresh) (w : List ℕ) → is_literal f w ≡ true → can_be_level w ≡ true
literal_can f w h = (and_parts _ _ (literal_is f w h).level).0

fresh_can : (f : Fresh) → AreFresh f → fresh_pass can_be_level f ≡ true
fresh_can f fresh =
    let others = others_are f fresh in
    and_from _ _ (and_from _ _ (and_from _ _ (level f.others.plain.now others.plain_level)
    (level f.others.dollar.now others.dollar_level))
    (level f.client.now (choice_is_level f.others f.client.now fresh.client.choice)))
    (level f.user.now (choice_is_level f.others f.user.now fresh.user.choice))
  where
    level : (w : List ℕ) → is_name_level w ≡ true → can_be_level w ≡ true
    level w h = (and_parts (can_be_level w) (nat_le (length w) 321) h).0

rows_can : (f : Fresh) (all : List AclRow) → rows_fit (is_literal f) all ≡ true
    → rows_fit can_be_level all ≡ true
rows_can f all = all_by (λ row. fits (is_literal f) (levels row.filter))
    (λ row. fits can_be_level (levels row.filter))
    (λ row. fits_mono (is_literal f) can_be_level (levels row.filter) (literal_can f)) all

states_can : fits can_be_level (levels state_filter) ≡ true
states_can = states_fit can_be_level refl refl refl refl

-- what is found can be levels
pub found_levels : {front : Bool} {names : Names} (both : BothFresh) (users : Literals) {clients : Clients}
    {must cover : List AclRow} {found : Found} {w : Witness} → NamesNone both.plain must cover
    → AreFresh both.dollar → HasTexts found w
    → IsFoundBy front names both (λ u. is_named u users) clients must cover found
    → AreLevels clients w
found_levels {names = names} both users {must = must} none begun has h name =
    let pass = h.known can_be_level (fresh_can both.plain none.fresh) (fresh_can both.dollar begun)
    (rows_can both.plain must none.must_fits) (names_fit_by can_be_level names states_can) name in (
      ap can_be_level has.client ∙ pass.client,
      ap (mark_passes can_be_level) has.user ∙ pass.user,
    )
