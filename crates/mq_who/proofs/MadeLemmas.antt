-- A list that is made of a filter: what it decides, and what changes to it.
use Rattle.std.proofs.Common.{◌≡◌, ◌==◌, ℕ, Bool, true, false, not, ◌&&◌, ◌||◌, List, [], ◌∷◌}
use Rattle.std.proofs.Common.{◌++◌, Option, Some, None, All, get_or, refl, ap, sym, ◌∙◌, arith}
use Rattle.std.specs.List.{list_any}
use Rattle.std.specs.Option.{option_or}
use Rattle.std.specs.Prelude.{find, if◌then◌else◌, is_some}
use Rattle.std.proofs.lemmas.Bool.{and_parts, not-true}
use Rattle.std.proofs.lemmas.List.Elements.{All-head, All-tail}
use Rattle.std.proofs.lemmas.List.Folds.{find-append}
use Rattle.mq_acl.specs.Access.{grants, is_deny}
use Rattle.mq_acl.specs.AccessLists.{allow_by, concerns_by, user_by}
use Rattle.mq_acl.specs.Refused.{refuses}
use Rattle.mq_acl.specs.Rows.{AclRow}
use Rattle.mq_acl.specs.RowsByOwner.{is_everyones}
use Rattle.mq_acl.specs.Views.{row_view, row_views}
use Rattle.mq_acl.specs.declared.access.Direction.{Direction}
use Rattle.mq_acl.specs.declared.access.Direction.TheVariants.{Reading, Writing}
use Rattle.mq_acl.specs.declared.row.Row.{Row}
use Rattle.mq_acl.specs.declared.rules.Rules.{Rules}
use Rattle.mq_acl.specs.declared.rules.Rules.TheVariants.{Own, Mosquitto}
use Rattle.mq_witness.specs.Roots.{same}
use Rattle.mq_differences.specs.Differences.{is_change}
use Rattle.mq_differences.specs.Ranks.{is_judge, judges, rank, rank_of, ranked}
use Rattle.mq_differences.specs.Reasons.{is_grant, reason_by, reason_of}
use Rattle.mq_differences.specs.declared.reason.Reason.{Reason}
use Rattle.mq_differences.specs.declared.reason.Reason.TheVariants as reasons
use Rattle.mq_differences.specs.declared.way.Way.{Way}
use Rattle.mq_differences.specs.declared.way.Way.TheVariants.{Gained, Lost}
use Rattle.mq_differences.proofs.ChangeLemmas.{changed_open}
use Rattle.mq_differences.proofs.DeciderLemmas.{allowed_is, any_found, find_filter, open_reason}
use Rattle.mq_who.specs.Made.{IsMade, IsMadeRow, access_of, is_decided}
use Rattle.mq_who.specs.Who.{is_asked, is_case}
use Rattle.mq_who.proofs.AskedLemmas.{all_judges, found_asked, is_found}
use Rattle.mq_who.proofs.ClaimLemmas.{found}

-- ---- which of its rows decide
-- each may in both directions
made_judges : (allows : Bool) (direction : Direction)
    → (is_deny (access_of allows) || grants direction (access_of allows)) ≡ true
made_judges true direction = refl
made_judges false Reading = refl
made_judges false Writing = refl

row_judges : (allows : Bool) (wanted : List ℕ) (direction : Direction) (row : Row)
    → IsMadeRow allows wanted row → is_judge direction (row_view row) ≡ true
row_judges allows wanted direction row is =
    (λ i. is_deny (is.access i) || grants direction (is.access i)) ∙ made_judges allows direction

-- and is of one of the ranks
of_rank : (j e d x : Bool) → j ≡ true
    → (((j && (rank_of e d == 0)) && x) || (((j && (rank_of e d == 1)) && x)
    || (((j && (rank_of e d == 2)) && x) || ((j && (rank_of e d == 3)) && x)))) ≡ x
of_rank true true true true h = refl
of_rank true true true false h = refl
of_rank true true false true h = refl
of_rank true true false false h = refl
of_rank true false true true h = refl
of_rank true false true false h = refl
of_rank true false false true h = refl
of_rank true false false false h = refl
of_rank false e d x h = absurd (let q : false ≡ true = h in cc)

module _ (rules : Rules) (direction : Direction) (c : AclRow → Bool) where
  abbrev at_rank : ℕ → AclRow → Bool
  at_rank place row = is_judge direction row && (rank rules row == place)

  abbrev some_at : ℕ → List Row → Bool
  some_at place rows = list_any (λ (row : AclRow). at_rank place row && c row) (row_views rows)

  one_rank : (r : Rules) (row : AclRow) → is_judge direction row ≡ true
      → (((is_judge direction row && (rank r row == 0)) && c row)
      || (((is_judge direction row && (rank r row == 1)) && c row)
      || (((is_judge direction row && (rank r row == 2)) && c row)
      || ((is_judge direction row && (rank r row == 3)) && c row)))) ≡ c row
  one_rank Own row h = of_rank (is_judge direction row) false (is_deny row.access) (c row) h
  one_rank Mosquitto row h =
      of_rank (is_judge direction row) (is_everyones row.who) (is_deny row.access) (c row) h

  four : (a b d e s t u v : Bool) → ((a || s) || ((b || t) || ((d || u) || (e || v))))
      ≡ ((a || (b || (d || e))) || (s || (t || (u || v))))
  four true b d e s t u v = refl
  four false b d e true t u v = sym (or_true (b || (d || e)))
    where
      or_true : (x : Bool) → (x || true) ≡ true
      or_true true = refl
      or_true false = refl
  four false b d e false t u v = three b d e t u v
    where
      three : (b d e t u v : Bool) → ((b || t) || ((d || u) || (e || v)))
          ≡ ((b || (d || e)) || (t || (u || v)))
      three b d e t u v = grind arith

  ranks_are : (rows : List Row) → All (λ (r : Row). is_judge direction (row_view r) ≡ true) rows
      → (some_at 0 rows || (some_at 1 rows || (some_at 2 rows || some_at 3 rows)))
      ≡ list_any c (row_views rows)
  ranks_are [] h = refl
  ranks_are (row ∷ rows) h =
      four (at_rank 0 (row_view row) && c (row_view row))
      (at_rank 1 (row_view row) && c (row_view row))
      (at_rank 2 (row_view row) && c (row_view row))
      (at_rank 3 (row_view row) && c (row_view row))
      (some_at 0 rows) (some_at 1 rows) (some_at 2 rows) (some_at 3 rows)
      ∙ (λ i. one_rank rules (row_view row)
      (All-head (λ (r : Row). is_judge direction (row_view r) ≡ true) row rows h) i
      || ranks_are rows
      (All-tail (λ (r : Row). is_judge direction (row_view r) ≡ true) row rows h) i)

  abbrev test : Row → Bool
  test r = c (row_view r)

  some_or : (a b : Option Row) → is_some (option_or a b) ≡ (is_some a || is_some b)
  some_or (Some x) b = refl
  some_or None b = refl

  ranked_some : (place : ℕ) (rows : List Row)
      → is_some (find test (ranked rules direction place rows)) ≡ some_at place rows
  ranked_some place rows =
      ap is_some (find_filter test (λ (r : Row). at_rank place (row_view r)) rows)
      ∙ sym (any_found (λ (row : AclRow). at_rank place row && c row) rows)

  -- one that passes is found just where there is one
  pub judge_found : (rows : List Row)
      → All (λ (r : Row). is_judge direction (row_view r) ≡ true) rows
      → is_some (find test (judges rules direction rows)) ≡ list_any c (row_views rows)
  judge_found rows h =
      parts (ranked rules direction 0 rows)
      (ranked rules direction 1 rows
      ++ (ranked rules direction 2 rows ++ ranked rules direction 3 rows))
      ∙ (λ i. ranked_some 0 rows i || (parts (ranked rules direction 1 rows)
      (ranked rules direction 2 rows ++ ranked rules direction 3 rows)
      ∙ (λ j. ranked_some 1 rows j || (parts (ranked rules direction 2 rows)
      (ranked rules direction 3 rows)
      ∙ (λ k. ranked_some 2 rows k || ranked_some 3 rows k)) j)) i)
      ∙ ranks_are rows h
    where
      parts : (xs ys : List Row) → is_some (find test (xs ++ ys))
          ≡ (is_some (find test xs) || is_some (find test ys))
      parts xs ys = ap is_some (find-append test xs ys) ∙ some_or (find test xs) (find test ys)

-- ---- what it decides
-- how it decides, where it does
abbrev pub decides : (allows : Bool) → Reason
decides true = reasons.Deny 0
decides false = reasons.Grant 0

-- from which list to which it changes something
abbrev pub way_of : (allows : Bool) → Way
way_of true = Lost
way_of false = Gained

abbrev says : (allows asked : Bool) → Reason
says allows true = decides allows
says allows false = reasons.NoGrant

-- what changes from a list to another, where the one allows it, or doesn't, and the other
abbrev changes_by : Way → (old new : Bool) → Bool
changes_by Gained old new = new && not old
changes_by Lost old new = old && not new

change_by : (rules : Rules) (way : Way) (old new : List AclRow) (client : List ℕ)
    (user : Option (List ℕ)) (topic : List ℕ) (direction : Direction)
    → is_change rules way old new client user topic direction
    ≡ changes_by way (allow_by rules old client user topic direction)
    (allow_by rules new client user topic direction)
change_by rules Gained old new client user topic direction = refl
change_by rules Lost old new client user topic direction = refl

-- what one of its rows does
row_decides : (allows : Bool) (wanted : List ℕ) (row : Row) → IsMadeRow allows wanted row
    → reason_by (Some row) ≡ decides allows
row_decides allows wanted row is =
    (λ i. if is_deny (is.access i) then reasons.Deny (is.line i) else reasons.Grant (is.line i))
    ∙ at allows
  where
    at : (a : Bool) → (if is_deny (access_of a) then reasons.Deny 0 else reasons.Grant 0)
        ≡ decides a
    at true = refl
    at false = refl

module _ (rules : Rules) (allows : Bool) (rows : List Row) (wanted : List ℕ) (made : List Row)
    (m : IsMade rules allows rows wanted made) where
  reason_is : (client : List ℕ) (user : Option (List ℕ)) (topic : List ℕ)
      (direction : Direction) → refuses rules direction topic ≡ false
      → reason_of rules made client user topic direction
      ≡ says allows (is_found rules made client user topic)
  reason_is client user topic direction taken =
      open_reason rules made client user topic direction taken
      ∙ at (find concerns (judges rules direction made)) refl
      (judge_found rules direction (concerns_by rules client (user_by rules user) topic) made
      (λ k d low. row_judges allows wanted direction (get_or made k d) (m.rows k d low)))
    where
      concerns : Row → Bool
      concerns r = concerns_by rules client (user_by rules user) topic (row_view r)

      at : (o : Option Row) → find concerns (judges rules direction made) ≡ o
          → is_some o ≡ is_found rules made client user topic
          → reason_by o ≡ says allows (is_found rules made client user topic)
      at None e f = ap (says allows) f
      at (Some row) e f =
          row_decides allows wanted row
          (found concerns (IsMadeRow allows wanted) (judges rules direction made) row e
          (all_judges (IsMadeRow allows wanted) rules direction made m.rows)).1
          ∙ ap (says allows) f

  allow_is : (client : List ℕ) (user : Option (List ℕ)) (topic : List ℕ)
      (direction : Direction) → refuses rules direction topic ≡ false
      → allow_by rules (row_views made) client user topic direction
      ≡ is_grant (says allows (is_found rules made client user topic))
  allow_is client user topic direction taken =
      allowed_is rules made client user topic direction
      ∙ ap is_grant (reason_is client user topic direction taken)

  -- ---- what changes
  -- what is asked changes where a row of it concerns that, and the row decides
  pub case_changes : (client : List ℕ) (user : Option (List ℕ)) (topic : List ℕ)
      (direction : Direction)
      → is_case rules allows (row_views rows) wanted client user topic direction ≡ true
      → is_found rules made client user topic ≡ true
      → (is_change rules (way_of allows) (row_views rows) (row_views made) client user topic
      direction ≡ true)
      × (reason_of rules made client user topic direction ≡ decides allows)
  case_changes client user topic direction e f =
      let parts = and_parts (not (refuses rules direction topic)
      && is_asked rules wanted client user topic)
      (same allows (allow_by rules (row_views rows) client user topic direction)) e in
      let known = and_parts (not (refuses rules direction topic))
      (is_asked rules wanted client user topic) parts.0 in
      let taken : refuses rules direction topic ≡ false =
      not-true (refuses rules direction topic) known.0 in (
        change_by rules (way_of allows) (row_views rows) (row_views made) client user topic
            direction
            ∙ at allows (allow_by rules (row_views rows) client user topic direction)
            (allow_by rules (row_views made) client user topic direction) parts.1
            (allow_is client user topic direction taken
            ∙ ap (λ b. is_grant (says allows b)) f),
        reason_is client user topic direction taken ∙ ap (says allows) f,
      )
    where
      at : (s a b : Bool) → same s a ≡ true → b ≡ is_grant (says s true)
          → changes_by (way_of s) a b ≡ true
      at true a b e g = (λ i. e i && not (g i))
      at false a b e g = (λ i. g i && e i)

  -- where a row of it decides what changes, that is what is asked
  pub change_is : (way : Way) (client : List ℕ) (user : Option (List ℕ)) (topic : List ℕ)
      (direction : Direction)
      → is_change rules way (row_views rows) (row_views made) client user topic direction ≡ true
      → is_decided (reason_of rules made client user topic direction) ≡ true
      → (is_case rules allows (row_views rows) wanted client user topic direction ≡ true)
      × ((way ≡ way_of allows)
      × (reason_of rules made client user topic direction ≡ decides allows))
  change_is way client user topic direction c d =
      let taken = changed_open rules way (row_views rows) (row_views made) client user topic
      direction c in
      let reason = reason_is client user topic direction taken in
      let is = parts allows (refuses rules direction topic)
      (is_asked rules wanted client user topic)
      (allow_by rules (row_views rows) client user topic direction)
      (allow_by rules (row_views made) client user topic direction) way taken
      (is_found rules made client user topic)
      (found_asked rules allows rows made wanted m client topic user)
      (allow_is client user topic direction taken)
      (sym (ap is_decided reason) ∙ d)
      (sym (change_by rules way (row_views rows) (row_views made) client user topic direction) ∙ c)
      in (is.0, (is.1.0, reason ∙ ap (says allows) is.1.1))
    where
      parts : (s r m a b : Bool) (w : Way) → r ≡ false → (f : Bool) → (f ≡ true → m ≡ true)
          → b ≡ is_grant (says s f) → is_decided (says s f) ≡ true → changes_by w a b ≡ true
          → ((not r && m && same s a) ≡ true) × ((w ≡ way_of s) × (f ≡ true))
      parts s true m a b w t f asked g d e = absurd (let q : true ≡ false = t in cc)
      parts s false m a b w t false asked g d e = absurd (let q : false ≡ true = d in cc)
      parts true false m a b Gained t true asked g d e =
          absurd (let q : false ≡ true = sym (ap (λ x. x && not a) g) ∙ e in cc)
      parts true false m a b Lost t true asked g d e =
          ((λ i. asked refl i && (and_parts a (not b) e).0 i), (refl, refl))
      parts false false m a b Gained t true asked g d e =
          ((λ i. asked refl i && (and_parts b (not a) e).1 i), (refl, refl))
      parts false false m a b Lost t true asked g d e =
          absurd (let q : false ≡ true = sym (ap not g) ∙ (and_parts a (not b) e).1 in cc)
