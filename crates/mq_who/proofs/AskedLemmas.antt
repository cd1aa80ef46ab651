-- What the rows of a list concern that is made of a filter.
use Rattle.std.proofs.Common.{◌≡◌, ◌<◌, ◌==◌, ℕ, Bool, true, false, not, ◌&&◌, ◌||◌, List, []}
use Rattle.std.proofs.Common.{Option, Some, None, All, codes, get_or, length, refl, ap, sym, ◌∙◌}
use Rattle.std.proofs.Common.{◌∷◌, arith, if◌then◌else◌, bytes_eq}
use Rattle.std.specs.List.{list_any, starts_with}
use Rattle.std.specs.Option.{unwrap_or}
use Rattle.std.specs.Prelude.{find, nat_eq}
use Rattle.std.proofs.lemmas.Bool.{and_from, and_parts, not-false, not-true, or_parts}
use Rattle.std.proofs.lemmas.List.Elements.{All-append, All-filter, All-weaker}
use Rattle.std.proofs.lemmas.List.Folds.{list_any_at}
use Rattle.mq_topic.specs.Levels.{levels}
use Rattle.mq_topic.specs.Matching.{matches}
use Rattle.mq_topic.specs.Texts.{is_plain}
use Rattle.mq_topic.proofs.ByteLemmas.{text_itself}
use Rattle.mq_acl.specs.Access.{applies, covers}
use Rattle.mq_acl.specs.AccessLists.{allow_by, concerns_by, user_by}
use Rattle.mq_acl.specs.Filled.{filled}
use Rattle.mq_acl.specs.Lines.{Access}
use Rattle.mq_acl.specs.Mosquitto.{known_user, row_covers}
use Rattle.mq_acl.specs.Mosquitto as mosquitto
use Rattle.mq_acl.specs.Rows.{AclRow, Who, Anonymous, Named, Everyone}
use Rattle.mq_acl.specs.RowsByOwner.{is_everyones}
use Rattle.mq_acl.specs.Views.{row_view, row_views}
use Rattle.mq_acl.specs.Words.{occurs_in}
use Rattle.mq_acl.specs.declared.access.Direction.{Direction}
use Rattle.mq_acl.specs.declared.row.Row.{Row}
use Rattle.mq_acl.specs.declared.rules.Rules.{Rules}
use Rattle.mq_acl.specs.declared.rules.Rules.TheVariants.{Own, Mosquitto}
use Rattle.mq_witness.specs.Roots.{same}
use Rattle.mq_witness.specs.Rows.{is_name_of, is_user_of}
use Rattle.mq_differences.specs.Classes.{can_be_user}
use Rattle.mq_differences.specs.Marks.{same_who}
use Rattle.mq_differences.specs.Ranks.{is_judge, judges, rank, ranked}
use Rattle.mq_differences.specs.Reasons.{is_grant, reason_by}
use Rattle.mq_differences.proofs.DeciderLemmas.{allowed_is, allowed_open, open_reason}
use Rattle.mq_differences.proofs.FirstLemmas.{first_place, none_at}
use Rattle.mq_differences.proofs.JudgeLemmas.{any_views}
use Rattle.mq_differences.proofs.PointLemmas.{user_as_it_is}
use Rattle.mq_differences.proofs.TwinLemmas.{concerns_same, who_is}
use Rattle.mq_who.specs.Made.{IsMade, access_of, has_own, is_made_for, made_row}
use Rattle.mq_who.specs.Who.{has_mark, is_asked, is_left_out}
use Rattle.mq_who.proofs.ClaimLemmas.{found}

who_itself : (who : Who) → same_who who who ≡ true
who_itself Anonymous = refl
who_itself (Named name) = text_itself name
who_itself Everyone = refl

-- ---- one row
everyone_applies : (user : Option (List ℕ)) → applies user Everyone ≡ true
everyone_applies None = refl
everyone_applies (Some user) = refl

-- that of a `pattern` line
own_pattern : (access : Access) (wanted client topic : List ℕ) (user : Option (List ℕ))
    → concerns_by Own client user topic (made_row Everyone access wanted)
    ≡ is_asked Own wanted client user topic
own_pattern access wanted client topic user =
    ap (λ b. b && covers client user topic (made_row Everyone access wanted))
    (everyone_applies user)

pattern_is : (access : Access) (wanted client topic : List ℕ) (user : Option (List ℕ))
    → concerns_by Mosquitto client user topic (made_row Everyone access wanted)
    ≡ (mosquitto.is_asked client user wanted
    && matches (levels (filled client (unwrap_or user []) wanted)) (levels topic))
pattern_is access wanted client topic user =
    ap (λ b. b && row_covers client user topic (made_row Everyone access wanted))
    (everyone_applies user)

-- what the filter asks where it has a mark, and where it has none
marked_asked : (wanted client topic : List ℕ) (user : Option (List ℕ)) → has_mark wanted ≡ true
    → is_asked Mosquitto wanted client user topic
    ≡ (mosquitto.is_asked client (known_user user) wanted
    && matches (levels (filled client (unwrap_or (known_user user) []) wanted)) (levels topic))
marked_asked wanted client topic user e =
    ap (λ b. if b then mosquitto.is_asked client (known_user user) wanted
    && matches (levels (filled client (unwrap_or (known_user user) []) wanted)) (levels topic)
    else matches (levels wanted) (levels topic)) e

plain_asked : (wanted client topic : List ℕ) (user : Option (List ℕ)) → has_mark wanted ≡ false
    → is_asked Mosquitto wanted client user topic ≡ matches (levels wanted) (levels topic)
plain_asked wanted client topic user e =
    ap (λ b. if b then mosquitto.is_asked client (known_user user) wanted
    && matches (levels (filled client (unwrap_or (known_user user) []) wanted)) (levels topic)
    else matches (levels wanted) (levels topic)) e

-- without a mark the filter stays as it is
no_mark_here : (x a b : ℕ) (rest : List ℕ)
    → starts_with nat_eq (a ∷ b ∷ rest) (37 ∷ x ∷ []) ≡ false → (a == 37 && b == x) ≡ false
no_mark_here x a b rest h = grind arith

unmarked : (client user wanted : List ℕ) → occurs_in (codes "%c") wanted ≡ false
    → occurs_in (codes "%u") wanted ≡ false → filled client user wanted ≡ wanted
unmarked client user [] c u = refl
unmarked client user (a ∷ []) c u = refl
unmarked client user (a ∷ b ∷ rest) c u =
    grind (arith, unmarked client user (b ∷ rest), no_mark_here)

filled_same : (client user wanted topic : List ℕ) → has_mark wanted ≡ false
    → matches (levels (filled client user wanted)) (levels topic)
    ≡ matches (levels wanted) (levels topic)
filled_same client user wanted topic e =
    let none = or_parts (occurs_in (codes "%c") wanted) (occurs_in (codes "%u") wanted) e in
    ap (λ t. matches (levels t) (levels topic)) (unmarked client user wanted none.0 none.1)

-- a `pattern` line without a mark isn't passed over for a client whose id and user name hold no
-- wildcard
passes_plain : (client wanted : List ℕ) (user : Option (List ℕ)) → is_plain client ≡ true
    → ((name : List ℕ) → user ≡ Some name → is_plain name ≡ true) → has_mark wanted ≡ false
    → mosquitto.is_asked client user wanted ≡ true
passes_plain client wanted None plain named e =
    and_from (is_plain client) (not (occurs_in (codes "%u") wanted)) plain
    (ap not (or_parts (occurs_in (codes "%c") wanted) (occurs_in (codes "%u") wanted) e).1)
passes_plain client wanted (Some user) plain named e =
    and_from (is_plain client) (is_plain user) plain (named user refl)

-- ---- the rows of the list that is made
-- some row concerns it
abbrev pub is_found : Rules → List Row → (client : List ℕ) → Option (List ℕ) → (topic : List ℕ)
    → Bool
is_found rules made client user topic =
    list_any (concerns_by rules client (user_by rules user) topic) (row_views made)

-- what a row concerns, by whom it is for
abbrev pub concerned : Rules → (allows : Bool) → (wanted client : List ℕ) → Option (List ℕ)
    → (topic : List ℕ) → Who → Bool
concerned rules allows wanted client user topic who =
    concerns_by rules client (user_by rules user) topic (made_row who (access_of allows) wanted)

pub record IsFoundFor (rules : Rules) (allows : Bool) (rows : List Row)
    (wanted client topic : List ℕ) (user : Option (List ℕ)) : Type 0 where
  pub who : Who
  pub has : is_made_for rules allows (row_views rows) wanted who ≡ true
  pub concerns : concerned rules allows wanted client user topic who ≡ true

-- each row is made for some clients
pub made_for : (rules : Rules) (allows : Bool) (rows made : List Row) (wanted : List ℕ)
    → IsMade rules allows rows wanted made → (i : ℕ) (d : Row) → i < length made
    → is_made_for rules allows (row_views rows) wanted (row_view (get_or made i d)).who ≡ true
made_for rules allows rows made wanted m i d low =
    let who : Who = (row_view (get_or made i d)).who in
    sym (m.owners who) ∙ any_views (λ (r : AclRow). same_who who r.who) made
    ∙ list_any_at (λ (r : Row). same_who who (row_view r).who) made i d low (who_itself who)

module _ (rules : Rules) (allows : Bool) (rows made : List Row) (wanted : List ℕ)
    (m : IsMade rules allows rows wanted made) (client topic : List ℕ)
    (user : Option (List ℕ)) where
  row_concerns : (i : ℕ) (d : Row) → i < length made
      → concerns_by rules client (user_by rules user) topic (row_view (get_or made i d))
      ≡ concerned rules allows wanted client user topic (row_view (get_or made i d)).who
  row_concerns i d low =
      concerns_same rules client (user_by rules user) topic (row_view (get_or made i d))
      (made_row (row_view (get_or made i d)).who (access_of allows) wanted) refl
      (m.rows i d low).filter

  -- a row that is made for these concerns it
  found_for : (who : Who) → is_made_for rules allows (row_views rows) wanted who ≡ true
      → concerned rules allows wanted client user topic who ≡ true
      → is_found rules made client user topic ≡ true
  found_for who has c =
      let test : Row → Bool = (λ (r : Row). same_who who (row_view r).who) in
      let at = first_place test made
      (sym (any_views (λ (row : AclRow). same_who who row.who) made) ∙ m.owners who ∙ has) in
      let row : Row = get_or made at.place at.item in
      let is : who ≡ (row_view row).who = who_is who (row_view row).who (at.here at.item) in
      any_views (concerns_by rules client (user_by rules user) topic) made
      ∙ list_any_at (λ (r : Row). concerns_by rules client (user_by rules user) topic (row_view r))
      made at.place at.item at.in_range
      (row_concerns at.place at.item at.in_range
      ∙ ap (concerned rules allows wanted client user topic) (sym is) ∙ c)

  -- and one that concerns it is made for some
  found_of : is_found rules made client user topic ≡ true
      → IsFoundFor rules allows rows wanted client topic user
  found_of e =
      let at = first_place
      (λ (r : Row). concerns_by rules client (user_by rules user) topic (row_view r)) made
      (sym (any_views (concerns_by rules client (user_by rules user) topic) made) ∙ e) in
      let row : Row = get_or made at.place at.item in
      record {
        who = (row_view row).who;
        has = made_for rules allows rows made wanted m at.place at.item at.in_range;
        concerns = sym (row_concerns at.place at.item at.in_range) ∙ at.here at.item;
      }

-- ---- it is what the filter asks
concerned_asked : (rules : Rules) (allows : Bool) (rows : List AclRow)
    (wanted client topic : List ℕ) (user : Option (List ℕ)) (who : Who) → is_made_for rules allows rows wanted who ≡ true
    → concerned rules allows wanted client user topic who ≡ true
    → is_asked rules wanted client user topic ≡ true
concerned_asked Own allows rows wanted client topic user Everyone has c =
    sym (own_pattern (access_of allows) wanted client topic user) ∙ c
concerned_asked Own allows rows wanted client topic user Anonymous has c =
    absurd (let q : false ≡ true = has in cc)
concerned_asked Own allows rows wanted client topic user (Named name) has c =
    absurd (let q : false ≡ true = has in cc)
concerned_asked Mosquitto allows rows wanted client topic user Everyone has c =
    at (has_mark wanted) refl
    (sym (pattern_is (access_of allows) wanted client topic (known_user user)) ∙ c)
  where
    at : (b : Bool) → has_mark wanted ≡ b → (mosquitto.is_asked client (known_user user) wanted
        && matches (levels (filled client (unwrap_or (known_user user) []) wanted)) (levels topic))
        ≡ true → is_asked Mosquitto wanted client user topic ≡ true
    at true e k = marked_asked wanted client topic user e ∙ k
    at false e k =
        plain_asked wanted client topic user e
        ∙ sym (filled_same client (unwrap_or (known_user user) []) wanted topic e)
        ∙ (and_parts (mosquitto.is_asked client (known_user user) wanted)
        (matches (levels (filled client (unwrap_or (known_user user) []) wanted)) (levels topic))
        k).1
concerned_asked Mosquitto allows rows wanted client topic user Anonymous has c =
    plain_asked wanted client topic user
    (not-true (has_mark wanted)
    (and_parts (not (has_mark wanted)) (has_own allows rows Anonymous) has).0)
    ∙ (and_parts (applies (known_user user) Anonymous) (matches (levels wanted) (levels topic)) c).1
concerned_asked Mosquitto allows rows wanted client topic user (Named name) has c =
    plain_asked wanted client topic user
    (not-true (has_mark wanted)
    (and_parts (not (has_mark wanted)) (has_own allows rows (Named name)) has).0)
    ∙ (and_parts (applies (known_user user) (Named name)) (matches (levels wanted) (levels topic))
    c).1

pub found_asked : (rules : Rules) (allows : Bool) (rows made : List Row) (wanted : List ℕ)
    → IsMade rules allows rows wanted made → (client topic : List ℕ) (user : Option (List ℕ))
    → is_found rules made client user topic ≡ true → is_asked rules wanted client user topic ≡ true
found_asked rules allows rows made wanted m client topic user e =
    let is = found_of rules allows rows made wanted m client topic user e in
    concerned_asked rules allows (row_views rows) wanted client topic user is.who is.has is.concerns

-- ---- what is asked they concern
-- what all rows have, those that may decide have
pub all_judges : (P : Row → Type 0) (rules : Rules) (direction : Direction) (rows : List Row)
    → All P rows → All P (judges rules direction rows)
all_judges P rules direction rows h =
    let at = (λ (place : ℕ). All-filter (λ (r : Row). is_judge direction (row_view r)
    && (rank rules (row_view r) == place)) P rows h) in
    All-append P (ranked rules direction 0 rows) _ (at 0)
    (All-append P (ranked rules direction 1 rows) _ (at 1)
    (All-append P (ranked rules direction 2 rows) _ (at 2) (at 3)))

-- what a list allows, one of its rows concerns
allowed_by_one : (rules : Rules) (rows : List Row) (client : List ℕ) (user : Option (List ℕ))
    (topic : List ℕ) (direction : Direction) (Q : Type 0)
    → All (λ (r : Row). concerns_by rules client (user_by rules user) topic (row_view r) ≡ true → Q)
    rows → allow_by rules (row_views rows) client user topic direction ≡ true → Q
allowed_by_one rules rows client user topic direction Q each a =
    at (find test (judges rules direction rows)) refl
    (ap is_grant (sym (open_reason rules rows client user topic direction
    (allowed_open rules (row_views rows) client user topic direction a)))
    ∙ sym (allowed_is rules rows client user topic direction) ∙ a)
  where
    test : Row → Bool
    test r = concerns_by rules client (user_by rules user) topic (row_view r)

    at : (o : Option Row) → find test (judges rules direction rows) ≡ o
        → is_grant (reason_by o) ≡ true → Q
    at None e g = absurd (let q : false ≡ true = g in cc)
    at (Some row) e g =
        let is = found test (λ (r : Row). test r ≡ true → Q) (judges rules direction rows) row e
        (all_judges (λ (r : Row). test r ≡ true → Q) rules direction rows each) in
        is.1 is.0

-- of a user whom it doesn't name a `pattern` line does, which is passed over for wildcards
unnamed_plain : (rows : List Row) (client user topic : List ℕ) (direction : Direction)
    → can_be_user (Some user) ≡ true → is_user_of user (row_views rows) ≡ false
    → allow_by Mosquitto (row_views rows) client (Some user) topic direction ≡ true
    → (is_plain client && is_plain user) ≡ true
unnamed_plain rows client user topic direction fits none =
    allowed_by_one Mosquitto rows client (Some user) topic direction
    ((is_plain client && is_plain user) ≡ true)
    (All-weaker (λ (r : Row). is_name_of user (row_view r).who ≡ false)
    (λ (r : Row). concerns_by Mosquitto client (known_user (Some user)) topic (row_view r) ≡ true
    → (is_plain client && is_plain user) ≡ true)
    (λ r n c. at (row_view r).who (is_plain client && is_plain user) _ n
    (sym (ap (λ u. concerns_by Mosquitto client u topic (row_view r))
    (user_as_it_is Mosquitto (Some user) fits)) ∙ c)) rows
    (none_at (λ (r : Row). is_name_of user (row_view r).who) rows
    (sym (any_views (λ (row : AclRow). is_name_of user row.who) rows) ∙ none)))
  where
    at : (who : Who) (asked met : Bool) → is_name_of user who ≡ false
        → (applies (Some user) who && ((not (is_everyones who) || asked) && met)) ≡ true
        → asked ≡ true
    at Anonymous asked met n c = absurd (let q : false ≡ true = c in cc)
    at (Named name) asked met n c = absurd (let q : false ≡ true =
        sym n ∙ (and_parts (bytes_eq user name) met c).0 in cc)
    at Everyone asked met n c = (and_parts asked met c).0

module _ (allows : Bool) (rows made : List Row) (wanted : List ℕ)
    (m : IsMade Mosquitto allows rows wanted made) (client topic : List ℕ)
    (e : has_mark wanted ≡ false) (met : matches (levels wanted) (levels topic) ≡ true) where
  -- by the row of a `pattern` line
  by_pattern : (user : Option (List ℕ)) → can_be_user user ≡ true → is_plain client ≡ true
      → ((name : List ℕ) → user ≡ Some name → is_plain name ≡ true)
      → is_found Mosquitto made client user topic ≡ true
  by_pattern user fits plain named =
      found_for Mosquitto allows rows made wanted m client topic user Everyone refl
      (pattern_is (access_of allows) wanted client topic (known_user user)
      ∙ and_from (mosquitto.is_asked client (known_user user) wanted)
      (matches (levels (filled client (unwrap_or (known_user user) []) wanted)) (levels topic))
      (passes_plain client wanted (known_user user) plain
      (λ name is. named name (sym (user_as_it_is Mosquitto user fits) ∙ is)) e)
      (filled_same client (unwrap_or (known_user user) []) wanted topic e ∙ met))

  by_plain : (user : List ℕ) → can_be_user (Some user) ≡ true → is_plain client ≡ true
      → is_plain user ≡ true → is_found Mosquitto made client (Some user) topic ≡ true
  by_plain user fits plain named =
      by_pattern (Some user) fits plain
      (λ name is. let same : user ≡ name = cc in ap is_plain (sym same) ∙ named)

  -- by the row of the user's own
  by_own : (user : List ℕ) → can_be_user (Some user) ≡ true
      → is_user_of user (row_views rows) ≡ true → (allows || not (is_plain user)) ≡ true
      → is_found Mosquitto made client (Some user) topic ≡ true
  by_own user fits listed odd =
      found_for Mosquitto allows rows made wanted m client topic (Some user) (Named user)
      (and_from (not (has_mark wanted)) (has_own allows (row_views rows) (Named user)) (ap not e)
      (and_from (is_user_of user (row_views rows)) (allows || not (is_plain user)) listed odd))
      (and_from (applies (known_user (Some user)) (Named user))
      (matches (levels wanted) (levels topic))
      (ap (λ u. applies u (Named user)) (user_as_it_is Mosquitto (Some user) fits)
      ∙ text_itself user) met)

-- what a list allows
allowed_found : (rows made : List Row) (wanted : List ℕ)
    → IsMade Mosquitto true rows wanted made → (client topic : List ℕ) (user : Option (List ℕ))
    (direction : Direction) → has_mark wanted ≡ false
    → matches (levels wanted) (levels topic) ≡ true → can_be_user user ≡ true
    → allow_by Mosquitto (row_views rows) client user topic direction ≡ true
    → is_found Mosquitto made client user topic ≡ true
allowed_found rows made wanted m client topic None direction e met fits a =
    found_for Mosquitto true rows made wanted m client topic None Anonymous
    (and_from (not (has_mark wanted)) true (ap not e) refl) met
allowed_found rows made wanted m client topic (Some user) direction e met fits a =
    at (is_user_of user (row_views rows)) refl
  where
    at : (b : Bool) → is_user_of user (row_views rows) ≡ b
        → is_found Mosquitto made client (Some user) topic ≡ true
    at true listed = by_own true rows made wanted m client topic e met user fits listed refl
    at false none =
        let plain = and_parts (is_plain client) (is_plain user)
        (unnamed_plain rows client user topic direction fits none a) in
        by_plain true rows made wanted m client topic e met user fits plain.0 plain.1

-- what it doesn't allow
refused_found : (rows made : List Row) (wanted : List ℕ)
    → IsMade Mosquitto false rows wanted made → (client topic : List ℕ) (user : Option (List ℕ))
    → has_mark wanted ≡ false → matches (levels wanted) (levels topic) ≡ true
    → can_be_user user ≡ true → is_left_out Mosquitto (row_views rows) client user ≡ false
    → is_found Mosquitto made client user topic ≡ true
refused_found rows made wanted m client topic None e met fits out =
    by_pattern false rows made wanted m client topic e met None fits
    (not-false (is_plain client) out) (λ name is. absurd (cc))
refused_found rows made wanted m client topic (Some user) e met fits out =
    at (is_user_of user (row_views rows)) (is_plain user) refl refl out
  where
    at : (b p : Bool) → is_user_of user (row_views rows) ≡ b → is_plain user ≡ p
        → (if b then p && not (is_plain client) else not (is_plain client && p)) ≡ false
        → is_found Mosquitto made client (Some user) topic ≡ true
    at true false listed odd o =
        by_own false rows made wanted m client topic e met user fits listed (ap not odd)
    at true true listed plain o =
        by_plain false rows made wanted m client topic e met user fits
        (not-false (is_plain client) o) plain
    at false p none is o =
        let plain = and_parts (is_plain client) p (not-false (is_plain client && p) o) in
        by_plain false rows made wanted m client topic e met user fits plain.0 (is ∙ plain.1)

-- what is asked of a client that isn't left out, where the list allows it or doesn't
pub asked_found : (rules : Rules) (allows : Bool) (rows made : List Row) (wanted : List ℕ)
    → IsMade rules allows rows wanted made → (client topic : List ℕ) (user : Option (List ℕ))
    (direction : Direction) → can_be_user user ≡ true
    → (not allows && is_left_out rules (row_views rows) client user) ≡ false
    → same allows (allow_by rules (row_views rows) client user topic direction) ≡ true
    → is_asked rules wanted client user topic ≡ true → is_found rules made client user topic ≡ true
asked_found Own allows rows made wanted m client topic user direction fits out allowed asked =
    found_for Own allows rows made wanted m client topic user Everyone refl
    (own_pattern (access_of allows) wanted client topic user ∙ asked)
asked_found Mosquitto allows rows made wanted m client topic user direction fits out allowed asked =
    at (has_mark wanted) refl
  where
    plain : (a : Bool) → IsMade Mosquitto a rows wanted made
        → (not a && is_left_out Mosquitto (row_views rows) client user) ≡ false
        → same a (allow_by Mosquitto (row_views rows) client user topic direction) ≡ true
        → has_mark wanted ≡ false → matches (levels wanted) (levels topic) ≡ true
        → is_found Mosquitto made client user topic ≡ true
    plain true k o s e met =
        allowed_found rows made wanted k client topic user direction e met fits s
    plain false k o s e met =
        refused_found rows made wanted k client topic user e met fits o

    at : (b : Bool) → has_mark wanted ≡ b → is_found Mosquitto made client user topic ≡ true
    at true e =
        found_for Mosquitto allows rows made wanted m client topic user Everyone refl
        (pattern_is (access_of allows) wanted client topic (known_user user)
        ∙ sym (marked_asked wanted client topic user e) ∙ asked)
    at false e =
        plain allows m out allowed e (sym (plain_asked wanted client topic user e) ∙ asked)
