-- Where no row asks for the client id, all clients of a user name get the same answer.
use Rattle.std.proofs.Common.{◌≡◌, ℕ, Bool, true, false, true≢false, codes, not, ◌&&◌, ◌||◌, cond}
use Rattle.std.proofs.Common.{List, [], ◌∷◌}
use Rattle.std.proofs.Common.{Option, Some, refl, ap, sym, ◌∙◌, length, take, ◌-◌, suc, zero}
use Rattle.std.proofs.lemmas.Bool.{and_parts, or_parts}
use Rattle.std.specs.Str.{bytes_eq}
use Rattle.std.specs.Cmp.Lexicographic.{pointwise}
use Rattle.std.specs.List.{list_any, filter}
use Rattle.std.specs.Option.{option_or, unwrap_or}
use Rattle.mq_topic.specs.Levels.{levels}
use Rattle.mq_topic.specs.Matching.{ends_with_hash, level_matches, levels_match_by}
use Rattle.mq_topic.specs.Texts.{parents}
use Rattle.mq_acl.specs.Access.{applies, begins_with_dollar, concerns, covers, grants, is_deny}
use Rattle.mq_acl.specs.Access.{is_user, pattern_level_matches, row_level_matches, rows_allow}
use Rattle.mq_acl.specs.AccessLists.{AccessList, allow_by, allowed, grant_by}
use Rattle.mq_acl.specs.Clients.{ask_client, ask_client_about, asks_client, asks_client_about}
use Rattle.mq_acl.specs.Clients.{is_client_mark, may_be_level, may_cover}
use Rattle.mq_acl.specs.Mosquitto.{decision, known_user, mosquitto_allows, row_covers, verdict}
use Rattle.mq_acl.specs.Refused.{is_refused, refuses}
use Rattle.mq_acl.specs.Rows.{AclRow, Who, Anonymous, Named, Everyone}
use Rattle.mq_acl.specs.RowsByOwner.{is_everyones, is_own}
use Rattle.mq_acl.specs.declared.access.Direction.{Direction}
use Rattle.mq_acl.specs.declared.rules.Rules.{Rules}
use Rattle.mq_acl.specs.declared.rules.Rules.TheVariants.{Own, Mosquitto}
use Rattle.mq_acl.proofs.ByOwnerLemmas.{any_kept}

-- tests that agree on all that isn't left out agree on lists without that
same_any : {X : Type 0} (out p q : X → Bool) → ((x : X) → out x ≡ false → p x ≡ q x)
    → (xs : List X) → list_any out xs ≡ false → list_any p xs ≡ list_any q xs
same_any out p q agree [] none = refl
same_any out p q agree (x ∷ xs) none =
    let parts = or_parts (out x) (list_any out xs) none in
    (λ i. agree x parts.0 i || same_any out p q agree xs parts.1 i)

module _ (out : List ℕ → Bool) (p q : List ℕ → List ℕ → Bool)
    (agree : (w l : List ℕ) → out w ≡ false → p w l ≡ q w l) where
  same_pointwise : (fs ns : List (List ℕ)) → list_any out fs ≡ false
      → pointwise p fs ns ≡ pointwise q fs ns
  same_pointwise [] [] none = refl
  same_pointwise [] (n ∷ ns) none = refl
  same_pointwise (f ∷ fs) [] none = refl
  same_pointwise (f ∷ fs) (n ∷ ns) none =
      let parts = or_parts (out f) (list_any out fs) none in
      (λ i. agree f n parts.0 i && same_pointwise fs ns parts.1 i)

  none_before : (k : ℕ) (fs : List (List ℕ)) → list_any out fs ≡ false
      → list_any out (take k fs) ≡ false
  none_before zero fs none = refl
  none_before (suc k) [] none = refl
  none_before (suc k) (f ∷ fs) none =
      let parts = or_parts (out f) (list_any out fs) none in
      (λ i. parts.0 i || none_before k fs parts.1 i)

  same_levels : (fs ns : List (List ℕ)) → list_any out fs ≡ false
      → levels_match_by p fs ns ≡ levels_match_by q fs ns
  same_levels fs ns none =
      (λ i. cond (ends_with_hash fs)
      (same_pointwise (parents fs) (take (length fs - 1) ns) (none_before (length fs - 1) fs none) i)
      (same_pointwise fs ns none i))

levels_same : (who : Who) (a b : List ℕ) (user : Option (List ℕ)) (fs ns : List (List ℕ))
    → (is_everyones who && list_any is_client_mark fs) ≡ false
    → levels_match_by (row_level_matches who a user) fs ns
    ≡ levels_match_by (row_level_matches who b user) fs ns
levels_same Anonymous a b user fs ns none = refl
levels_same (Named name) a b user fs ns none = refl
levels_same Everyone a b user fs ns none = same_levels is_client_mark
    (row_level_matches Everyone a user) (row_level_matches Everyone b user)
    (λ w l unmarked. rw unmarked refl) fs ns none

module _ (a b : List ℕ) (user : Option (List ℕ)) (name : List ℕ) (direction : Direction) where
  covers_same : (row : AclRow) → asks_client Own row ≡ false
      → covers a user name row ≡ covers b user name row
  covers_same row none = ap
      (λ m. (not (begins_with_dollar name) || begins_with_dollar row.filter) && m)
      (levels_same row.who a b user (levels row.filter) (levels name) none)

  own_same : (rows : List AclRow) → ask_client Own rows ≡ false
      → rows_allow rows a user name direction ≡ rows_allow rows b user name direction
  own_same rows none = (λ i. not (at (λ row. is_deny row.access) i)
      && at (λ row. grants direction row.access) i)
    where
      at : (t : AclRow → Bool) → list_any (λ row. concerns a user name row && t row) rows
          ≡ list_any (λ row. concerns b user name row && t row) rows
      at t = same_any (asks_client Own) (λ row. concerns a user name row && t row)
          (λ row. concerns b user name row && t row)
          (λ row e. ap (λ c. (applies user row.who && c) && t row) (covers_same row e)) rows none

  -- by mosquitto's rules, of the rows that are kept
  kept_same : (known : Option (List ℕ)) (keep : AclRow → Bool) (rows : List AclRow)
      → ask_client Mosquitto rows ≡ false → verdict a known name direction (filter keep rows)
      ≡ verdict b known name direction (filter keep rows)
  kept_same known keep rows none = (λ i. decision (at (λ row. is_deny row.access) i)
      (at (λ row. grants direction row.access) i))
    where
      by : List ℕ → (AclRow → Bool) → AclRow → Bool
      by client t row = row_covers client known name row && t row

      at : (t : AclRow → Bool) → list_any (by a t) (filter keep rows)
          ≡ list_any (by b t) (filter keep rows)
      at t = any_kept (by a t) keep rows
          ∙ same_any (asks_client Mosquitto) (λ row. keep row && by a t row)
          (λ row. keep row && by b t row) (λ row e. rw e refl) rows none
          ∙ sym (any_kept (by b t) keep rows)

  mosquitto_same : (rows : List AclRow) → ask_client Mosquitto rows ≡ false
      → mosquitto_allows rows a user name direction ≡ mosquitto_allows rows b user name direction
  mosquitto_same rows none =
      let known = known_user user in
      (λ i. unwrap_or (option_or
      (kept_same known (λ row. is_own known row.who) rows none i)
      (kept_same known (λ row. is_everyones row.who) rows none i)) false)

  grant_same : (rules : Rules) (rows : List AclRow) → ask_client rules rows ≡ false
      → grant_by rules rows a user name direction ≡ grant_by rules rows b user name direction
  grant_same Own rows none = own_same rows none
  grant_same Mosquitto rows none = mosquitto_same rows none

  same_by : (rules : Rules) (rows : List AclRow) → ask_client rules rows ≡ false
      → allow_by rules rows a user name direction ≡ allow_by rules rows b user name direction
  same_by rules rows none =
      ap (λ g. not (refuses rules direction name) && g) (grant_same rules rows none)

-- a list whose rows don't ask for it
pub same_for_all : (list : AccessList) → ask_client list.rules list.rows ≡ false
    → (a b : List ℕ) (user : Option (List ℕ)) (name : List ℕ) (direction : Direction)
    → allowed (Some list) a user name direction ≡ allowed (Some list) b user name direction
unfolding allowed
same_for_all list none a b user name direction =
    same_by a b user name direction list.rules list.rows none

-- ## Of one topic

more_false : (b c : Bool) → (b ≡ true → c ≡ true) → c ≡ false → b ≡ false
more_false true c more none = sym (more refl) ∙ none
more_false false c more none = refl

module _ (p q : List ℕ → List ℕ → Bool) (more : (w l : List ℕ) → p w l ≡ true → q w l ≡ true) where
  pointwise_more : (fs ns : List (List ℕ)) → pointwise p fs ns ≡ true → pointwise q fs ns ≡ true
  pointwise_more [] [] h = refl
  pointwise_more [] (n ∷ ns) h = h
  pointwise_more (f ∷ fs) [] h = h
  pointwise_more (f ∷ fs) (n ∷ ns) h =
      let parts = and_parts (p f n) _ h in
      (λ i. more f n parts.0 i && pointwise_more fs ns parts.1 i)

  levels_more : (fs ns : List (List ℕ)) → levels_match_by p fs ns ≡ true
      → levels_match_by q fs ns ≡ true
  levels_more fs ns h = by (ends_with_hash fs) h
    where
      by : (b : Bool) → cond b (pointwise p (parents fs) (take (length fs - 1) ns))
          (pointwise p fs ns) ≡ true
          → cond b (pointwise q (parents fs) (take (length fs - 1) ns)) (pointwise q fs ns) ≡ true
      by true k = pointwise_more (parents fs) (take (length fs - 1) ns) k
      by false k = pointwise_more fs ns k

may_be : (client : List ℕ) (user : Option (List ℕ)) (w l : List ℕ)
    → pattern_level_matches client user w l ≡ true → may_be_level w l ≡ true
may_be client user w l h = by (is_client_mark w) (bytes_eq w (codes "%u")) h
  where
    by : (c u : Bool)
        → cond c (bytes_eq l client) (cond u (is_user l user) (level_matches w l)) ≡ true
        → (c || u || level_matches w l) ≡ true
    by true u k = refl
    by false true k = refl
    by false false k = k

-- a row for all clients that covers a name may do so
covers_more : (client : List ℕ) (user : Option (List ℕ)) (name : List ℕ) (row : AclRow)
    → is_everyones row.who ≡ true → covers client user name row ≡ true → may_cover name row ≡ true
covers_more client user name row all h = at row.who all h
  where
    fits : Bool
    fits = not (begins_with_dollar name) || begins_with_dollar row.filter

    at : (who : Who) → is_everyones who ≡ true
        → (fits && levels_match_by (row_level_matches who client user) (levels row.filter)
        (levels name)) ≡ true → may_cover name row ≡ true
    at Anonymous none k = absurd (true≢false (sym none))
    at (Named user) none k = absurd (true≢false (sym none))
    at Everyone is k =
        let parts = and_parts fits _ k in
        (λ i. parts.0 i && levels_more (pattern_level_matches client user) may_be_level
        (may_be client user) (levels row.filter) (levels name) parts.1 i)

module _ (a b : List ℕ) (user : Option (List ℕ)) (name : List ℕ) (direction : Direction) where
  covers_same_about : (row : AclRow) → asks_client_about Own name row ≡ false
      → covers a user name row ≡ covers b user name row
  covers_same_about row none =
      by (is_everyones row.who) (list_any is_client_mark (levels row.filter)) refl refl none
    where
      by : (all mark : Bool) → is_everyones row.who ≡ all
          → list_any is_client_mark (levels row.filter) ≡ mark
          → (all && (mark && may_cover name row)) ≡ false
          → covers a user name row ≡ covers b user name row
      by true true e f k =
          more_false _ _ (covers_more a user name row e) k
          ∙ sym (more_false _ _ (covers_more b user name row e) k)
      by true false e f k = covers_same a b user name direction row (λ i. e i && f i)
      by false mark e f k = covers_same a b user name direction row
          (λ i. e i && list_any is_client_mark (levels row.filter))

  own_same_about : (rows : List AclRow) → ask_client_about Own name rows ≡ false
      → rows_allow rows a user name direction ≡ rows_allow rows b user name direction
  own_same_about rows none = (λ i. not (at (λ row. is_deny row.access) i)
      && at (λ row. grants direction row.access) i)
    where
      at : (t : AclRow → Bool) → list_any (λ row. concerns a user name row && t row) rows
          ≡ list_any (λ row. concerns b user name row && t row) rows
      at t = same_any (asks_client_about Own name) (λ row. concerns a user name row && t row)
          (λ row. concerns b user name row && t row)
          (λ row e. ap (λ c. (applies user row.who && c) && t row) (covers_same_about row e))
          rows none

-- a list whose rows don't ask for it
pub same_about : (list : AccessList) (name : List ℕ)
    → ask_client_about list.rules name list.rows ≡ false
    → (a b : List ℕ) (user : Option (List ℕ)) (direction : Direction)
    → allowed (Some list) a user name direction ≡ allowed (Some list) b user name direction
unfolding allowed
same_about list name none a b user direction = by list.rules none
  where
    by : (rules : Rules) → ask_client_about rules name list.rows ≡ false
        → allow_by rules list.rows a user name direction
        ≡ allow_by rules list.rows b user name direction
    by Own k = own_same_about a b user name direction list.rows k
    by Mosquitto k = ap (λ g. not (is_refused direction name) && g)
        (mosquitto_same a b user name direction list.rows k)
