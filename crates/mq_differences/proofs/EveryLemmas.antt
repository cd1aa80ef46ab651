-- All that is gained is shown.
use Rattle.std.proofs.Common.{◌≡◌, ◌<◌, ◌≤◌, ℕ, ◌==◌, Bool, true, false, not, ◌&&◌, ◌||◌, List, []}
use Rattle.std.proofs.Common.{◌∷◌, ◌++◌, Option, Some, None, length, take, get_or}
use Rattle.std.proofs.Common.{refl, ap, sym, ◌∙◌, arith, cond}
use Rattle.std.specs.Prelude.{find, is_some, nat_lt}
use Rattle.std.specs.List.{list_any, list_all}
use Rattle.std.specs.Option.{option_or}
use Rattle.std.proofs.lemmas.Bool.{and_parts, ltb-true, or_left}
use Rattle.std.proofs.lemmas.Bool.Decides.{Decides-eqb}
use Rattle.mq_acl.specs.Access.{begins_with_dollar, is_deny}
use Rattle.mq_acl.specs.AccessLists.{allow_by, concerns_by, user_by}
use Rattle.mq_acl.specs.RowsByOwner.{is_everyones}
use Rattle.mq_acl.specs.Rows.{AclRow}
use Rattle.mq_acl.specs.Views.{row_view, row_views}
use Rattle.mq_acl.specs.declared.access.Direction.{Direction}
use Rattle.mq_acl.specs.declared.row.Row.{Row}
use Rattle.mq_acl.specs.declared.rules.Rules.{Rules}
use Rattle.mq_acl.specs.declared.rules.Rules.TheVariants.{Own, Mosquitto}
use Rattle.mq_witness.specs.Ruled.{FindsNoneBy, decides_by}
use Rattle.mq_differences.specs.Differences.{is_change, is_gained}
use Rattle.mq_differences.specs.Marks.{rows_of, views_of}
use Rattle.mq_differences.specs.Questions.{AreJudges, AreShown, AreShownBy, AreShownOf, IsPlaced}
use Rattle.mq_differences.specs.Questions.{IsQuestion, NeverMeet, ShowsChanges, asked_in}
use Rattle.mq_differences.specs.Questions.{denied_cover, denied_must, granted_cover, is_shown}
use Rattle.mq_differences.specs.Questions.{must_of, open_in}
use Rattle.mq_differences.specs.Questions.{rows_with, rows_without, rules_in}
use Rattle.mq_differences.specs.Ranks.{is_judge, judges, rank, rank_of, ranked}
use Rattle.mq_differences.specs.Reasons.{decider, is_grant, reason_by}
use Rattle.mq_differences.specs.declared.difference.Difference.{Difference}
use Rattle.mq_differences.specs.declared.gains.Question.{Question}
use Rattle.mq_differences.specs.declared.judges.Judges.{Judges}
use Rattle.mq_differences.specs.declared.marks.Marked.{Marked}
use Rattle.mq_differences.specs.declared.way.Way.{Way}
use Rattle.mq_differences.specs.declared.way.Way.TheVariants.{Gained, Lost}
use Rattle.mq_differences.proofs.DeciderLemmas.{any_found, find_append, find_filter, found_passes}
use Rattle.mq_differences.proofs.DeciderLemmas.{granted_is, open_allows}
use Rattle.mq_differences.proofs.FirstLemmas.{IsFirst, find_behind, find_none, first_place}
use Rattle.mq_differences.proofs.FirstLemmas.{parts_at}
use Rattle.mq_differences.proofs.GainLemmas.{decided_parts, from_rows, none_in, none_of}
use Rattle.mq_differences.proofs.GainLemmas.{question_for}
use Rattle.mq_differences.proofs.GainLemmas.{to_rows}
use Rattle.mq_differences.proofs.JudgeLemmas.{AreFor, any_views, decider_is}
use Rattle.mq_differences.specs.declared.reason.Reason.TheVariants as reasons
use Rattle.mq_differences.proofs.TwinLemmas.{twin_any}

-- ---- marked rows
any_marks : (p : AclRow → Bool) (ms : List Marked)
    → list_any p (views_of ms) ≡ list_any (λ (m : Marked). p (row_view m.row.now)) ms
any_marks p [] = refl
any_marks p (m ∷ ms) = ap (λ b. p (row_view m.row.now) || b) (any_marks p ms)

abbrev IsFirstMark : (AclRow → Bool) → List Marked → Type 0
IsFirstMark p ms = IsFirst (λ (m : Marked). p (row_view m.row.now)) ms

first_mark : (p : AclRow → Bool) (ms : List Marked) → list_any p (views_of ms) ≡ true
    → IsFirstMark p ms
first_mark p ms h = first_place (λ (m : Marked). p (row_view m.row.now)) ms
    (sym (any_marks p ms) ∙ h)

before_mark : (p : AclRow → Bool) (ms : List Marked) (f : IsFirstMark p ms)
    → list_any p (views_of (take f.place ms)) ≡ false
before_mark p ms f = any_marks p (take f.place ms) ∙ f.before

-- the first of them is found
rows_parts : (ms : List Marked) (place : ℕ) (d : Marked) → place < length ms
    → (after : List Row) × (rows_of ms ≡ rows_of (take place ms) ++ ((get_or ms place d).row.now ∷ after))
rows_parts ms place d low = at (take place ms) _ (parts_at ms place d low)
  where
    at : (xs ys : List Marked) → ms ≡ xs ++ (get_or ms place d ∷ ys)
        → (after : List Row) × (rows_of ms ≡ rows_of xs ++ ((get_or ms place d).row.now ∷ after))
    at xs ys e = (rows_of ys, ap rows_of e ∙ by xs)
      where
        by : (zs : List Marked) → rows_of (zs ++ (get_or ms place d ∷ ys))
            ≡ rows_of zs ++ ((get_or ms place d).row.now ∷ rows_of ys)
        by [] = refl
        by (z ∷ zs) = ap (λ l. z.row.now ∷ l) (by zs)

found_mark : (p : AclRow → Bool) (ms : List Marked) (f : IsFirstMark p ms)
    → find (λ (r : Row). p (row_view r)) (rows_of ms) ≡ Some (get_or ms f.place f.item).row.now
found_mark p ms f =
    let parts = rows_parts ms f.place f.item f.in_range in
    ap (find (λ (r : Row). p (row_view r))) parts.1
    ∙ find_behind (λ (r : Row). p (row_view r)) (rows_of (take f.place ms))
    (get_or ms f.place f.item).row.now parts.0
    (sym (any_views p (rows_of (take f.place ms))) ∙ before_mark p ms f) (f.here f.item)

-- ---- what is gained
gained_is : (rules : Rules) (way : Way) (old new : List Row) (client : List ℕ)
    (user : Option (List ℕ)) (topic : List ℕ) (direction : Direction)
    → is_change rules way (row_views old) (row_views new) client user topic direction ≡ true
    → is_gained rules (row_views (rows_without way old new)) (row_views (rows_with way old new))
    client user topic direction ≡ true
gained_is rules Gained old new client user topic direction e = e
gained_is rules Lost old new client user topic direction e = e

-- a row that grants decides
granting : (o : Option Row) → is_grant (reason_by o) ≡ true
    → (row : Row) × (o ≡ Some row) × (is_deny (row_view row).access ≡ false)
granting None h = absurd (let q : false ≡ true = h in cc)
granting (Some row) h = at (is_deny (row_view row).access) refl h
  where
    at : (b : Bool) → is_deny (row_view row).access ≡ b
        → is_grant (cond b (reasons.Deny row.line) (reasons.Grant row.line)) ≡ true
        → (r : Row) × (Some row ≡ Some r) × (is_deny (row_view r).access ≡ false)
    at true e k = absurd (let q : false ≡ true = k in cc)
    at false e k = (row, refl, e)

-- one that denies does, or none
refusing : (row : Row) → is_grant (reason_by (Some row)) ≡ false
    → is_deny (row_view row).access ≡ true
refusing row h = at (is_deny (row_view row).access) h
  where
    at : (b : Bool) → is_grant (cond b (reasons.Deny row.line) (reasons.Grant row.line)) ≡ false
        → b ≡ true
    at true k = refl
    at false k = absurd (let q : true ≡ false = k in cc)

not_false : (b : Bool) → not b ≡ true → b ≡ false
not_false true e = absurd (let q : false ≡ true = e in cc)
not_false false e = refl

decided_by : (a b : Bool) → a ≡ true → b ≡ false → (a && not b) ≡ true
decided_by a b e f = rw (e, f) refl

is_found : {A : Type 0} (p : A → Bool) (xs : List A) (x : A) → find p xs ≡ Some x
    → list_any p xs ≡ true
is_found p [] x h = absurd (cc)
is_found p (y ∷ xs) x h = at (p y) (is_found p xs x) h
  where
    at : (b : Bool) → (find p xs ≡ Some x → list_any p xs ≡ true)
        → cond b (Some y) (find p xs) ≡ Some x → (b || list_any p xs) ≡ true
    at true f h = refl
    at false f h = f h

-- with all shown that each row grants, all that is gained is shown
pub shows_all : (q : Question) (shown : List Difference) → IsQuestion q
    → ((place : ℕ) (d : Marked) → place < length q.to.now.rows.items
    → is_deny (row_view (get_or q.to.now.rows.items place d).row.now).access ≡ false
    → AreShownBy q (take place q.to.now.rows.items) (get_or q.to.now.rows.items place d) shown)
    → ShowsChanges q shown
shows_all q shown k each client topic user p change =
    let rules = rules_in q in
    let c = concerns_by rules client user topic in
    let for = question_for q client user topic k p in
    let to = q.to.now.rows.items in
    let from = q.from.now.rows.items in
    let parts = and_parts (allow_by rules (row_views (to_rows q)) client user topic q.direction)
    (not (allow_by rules (row_views (from_rows q)) client user topic q.direction))
    (gained_is rules q.way q.lists.now.old.now q.lists.now.new.now client user topic q.direction
    change) in
    let to_is = decider_is rules (to_rows q) (from_rows q) q.clients q.direction q.to.now client user
    topic for.user_is k.to for.to in
    let from_is = decider_is rules (from_rows q) (to_rows q) q.clients q.direction q.from.now client
    user topic for.user_is k.from for.from in
    let grants = granting (decider rules (to_rows q) client user topic q.direction)
    (sym (granted_is rules (to_rows q) client user topic q.direction)
    ∙ sym (open_allows rules (row_views (to_rows q)) client user topic q.direction p.taken)
    ∙ parts.0) in
    let some = any_views c (rows_of to)
    ∙ is_found (λ (r : Row). c (row_view r)) (rows_of to) grants.0 (sym to_is ∙ grants.1) in
    let first = first_mark c to some in
    let grant = get_or to first.place first.item in
    let same : grants.0 ≡ grant.row.now = some_same (sym grants.1 ∙ to_is ∙ found_mark c to first) in
    let shown_by = each first.place first.item first.in_range
    (ap (λ (r : Row). is_deny (row_view r).access) (sym same) ∙ grants.2) in
    let refuses = sym (granted_is rules (from_rows q) client user topic q.direction)
    ∙ sym (open_allows rules (row_views (from_rows q)) client user topic q.direction p.taken)
    ∙ not_false (allow_by rules (row_views (from_rows q)) client user topic q.direction) parts.1 in
    at (list_any c (views_of from)) refl
    (λ any. let denier = first_mark c from any in
    shown_by.denied denier.place denier.item denier.in_range
    (refusing (get_or from denier.place denier.item).row.now
    (ap (λ o. is_grant (reason_by o)) (sym (from_is ∙ found_mark c from denier)) ∙ refuses))
    client topic user p
    (decided_by (list_all c (denied_must q denier.place denier.item grant))
    (list_any c (denied_cover q denier.place (take first.place to)))
    (rw (denier.here denier.item, first.here first.item) refl)
    (none_in c (views_of (take denier.place from)) (views_of (take first.place to))
    (before_mark c from denier) (before_mark c to first))))
    (λ none. shown_by.granted client topic user p
    (decided_by (list_all c (must_of None (row_view grant.row.now)))
    (list_any c (granted_cover q (take first.place to))) (rw (first.here first.item) refl)
    (none_in c (views_of from) (views_of (take first.place to)) none (before_mark c to first))))
  where
    some_same : {x y : Row} → Some x ≡ Some y → x ≡ y
    some_same e = cc

    at : {A : Type 0} (b : Bool)
        → list_any (concerns_by (rules_in q) client user topic) (views_of q.from.now.rows.items) ≡ b
        → (list_any (concerns_by (rules_in q) client user topic) (views_of q.from.now.rows.items)
        ≡ true → A)
        → (list_any (concerns_by (rules_in q) client user topic) (views_of q.from.now.rows.items)
        ≡ false → A)
        → A
    at true e f g = f e
    at false e f g = g e

-- ---- of rows that may decide, those of a lower rank do
apart : {A : Type 0} (a : Bool) → a ≡ true → a ≡ false → A
apart a e f = absurd (let q : true ≡ false = sym e ∙ f in cc)

module _ (rules : Rules) (direction : Direction) (c : AclRow → Bool) (xs : List Row) where
  abbrev found_in : ℕ → Option Row
  found_in place = find (λ (r : Row). c (row_view r)) (ranked rules direction place xs)

  abbrev some_in : ℕ → Bool
  some_in place = list_any (λ row. (is_judge direction row && (rank rules row == place)) && c row)
      (row_views xs)

  some_is : (place : ℕ) → some_in place ≡ is_some (found_in place)
  some_is place =
      any_found (λ row. (is_judge direction row && (rank rules row == place)) && c row) xs
      ∙ ap is_some (sym (find_filter (λ (r : Row). c (row_view r))
      (λ (r : Row). is_judge direction (row_view r) && (rank rules (row_view r) == place)) xs))

  rank_in : (place : ℕ) (g : Row) → found_in place ≡ Some g → rank rules (row_view g) ≡ place
  rank_in place g e =
      let passed = found_passes (λ (r : Row). (is_judge direction (row_view r)
      && (rank rules (row_view r) == place)) && c (row_view r)) xs g
      (sym (find_filter (λ (r : Row). c (row_view r))
      (λ (r : Row). is_judge direction (row_view r) && (rank rules (row_view r) == place)) xs) ∙ e) in
      (Decides-eqb (rank rules (row_view g)) place).0
      (and_parts (is_judge direction (row_view g)) (rank rules (row_view g) == place)
      (and_parts (is_judge direction (row_view g) && (rank rules (row_view g) == place))
      (c (row_view g)) passed).0).1

  -- the one that decides is of no higher rank than any that concerns the topic
  lowest : (place : ℕ) → some_in place ≡ true → place ≤ 3 → (g : Row)
      → find (λ (r : Row). c (row_view r)) (judges rules direction xs) ≡ Some g
      → rank rules (row_view g) ≤ place
  lowest place some low g e =
      at (found_in 0) refl (found_in 1) refl (found_in 2) refl (found_in 3) refl
      (sym (find_append (λ (r : Row). c (row_view r)) (ranked rules direction 0 xs) _
      ∙ ap (option_or (found_in 0)) (find_append (λ (r : Row). c (row_view r))
      (ranked rules direction 1 xs) _ ∙ ap (option_or (found_in 1))
      (find_append (λ (r : Row). c (row_view r)) (ranked rules direction 2 xs) _))) ∙ e)
    where
      -- none is found at a rank where some row passes
      no : (k : ℕ) → found_in k ≡ None → place ≡ k → ⊥
      no k e same = let f : true ≡ false =
          sym some ∙ ap some_in same ∙ some_is k ∙ ap is_some e in cc

      at : (a : Option Row) → found_in 0 ≡ a → (b : Option Row) → found_in 1 ≡ b
          → (d : Option Row) → found_in 2 ≡ d → (h : Option Row) → found_in 3 ≡ h
          → option_or a (option_or b (option_or d h)) ≡ Some g → rank rules (row_view g) ≤ place
      at (Some x) ea b eb d ed h eh f =
          let is = rank_in 0 g (ea ∙ f) in omega (arith, is)
      at None ea (Some x) eb d ed h eh f =
          let is = rank_in 1 g (eb ∙ f) in
          let n0 = no 0 ea in omega (arith, is, n0)
      at None ea None eb (Some x) ed h eh f =
          let is = rank_in 2 g (ed ∙ f) in
          let n0 = no 0 ea in
          let n1 = no 1 eb in omega (arith, is, n0, n1)
      at None ea None eb None ed h eh f =
          let is = rank_in 3 g (eh ∙ f) in
          let n0 = no 0 ea in
          let n1 = no 1 eb in
          let n2 = no 2 ed in omega (arith, is, n0, n1, n2)

  -- it may decide
  judge_at : (place : ℕ) (g : Row) → found_in place ≡ Some g
      → is_judge direction (row_view g) ≡ true
  judge_at place g e =
      let passed = found_passes (λ (r : Row). (is_judge direction (row_view r)
      && (rank rules (row_view r) == place)) && c (row_view r)) xs g
      (sym (find_filter (λ (r : Row). c (row_view r))
      (λ (r : Row). is_judge direction (row_view r) && (rank rules (row_view r) == place)) xs) ∙ e) in
      (and_parts (is_judge direction (row_view g)) (rank rules (row_view g) == place)
      (and_parts (is_judge direction (row_view g) && (rank rules (row_view g) == place))
      (c (row_view g)) passed).0).0

  four : find (λ (r : Row). c (row_view r)) (judges rules direction xs)
      ≡ option_or (found_in 0) (option_or (found_in 1) (option_or (found_in 2) (found_in 3)))
  four = find_append (λ (r : Row). c (row_view r)) (ranked rules direction 0 xs) _
      ∙ ap (option_or (found_in 0)) (find_append (λ (r : Row). c (row_view r))
      (ranked rules direction 1 xs) _ ∙ ap (option_or (found_in 1))
      (find_append (λ (r : Row). c (row_view r)) (ranked rules direction 2 xs) _))

  judge_found : (g : Row) → find (λ (r : Row). c (row_view r)) (judges rules direction xs) ≡ Some g
      → is_judge direction (row_view g) ≡ true
  judge_found g e =
      at (found_in 0) refl (found_in 1) refl (found_in 2) refl (found_in 3) refl (sym four ∙ e)
    where
      at : (a : Option Row) → found_in 0 ≡ a → (b : Option Row) → found_in 1 ≡ b
          → (d : Option Row) → found_in 2 ≡ d → (h : Option Row) → found_in 3 ≡ h
          → option_or a (option_or b (option_or d h)) ≡ Some g
          → is_judge direction (row_view g) ≡ true
      at (Some x) ea b eb d ed h eh f = judge_at 0 g (ea ∙ f)
      at None ea (Some x) eb d ed h eh f = judge_at 1 g (eb ∙ f)
      at None ea None eb (Some x) ed h eh f = judge_at 2 g (ed ∙ f)
      at None ea None eb None ed h eh f = judge_at 3 g (eh ∙ f)

  -- where none decides, none concerns the topic
  none_found : (place : ℕ) → place ≤ 3 → some_in place ≡ true
      → find (λ (r : Row). c (row_view r)) (judges rules direction xs) ≡ None → ⊥
  none_found place low some e =
      at (found_in 0) refl (found_in 1) refl (found_in 2) refl (found_in 3) refl (sym four ∙ e)
    where
      no : (k : ℕ) → found_in k ≡ None → place ≡ k → ⊥
      no k e same = let f : true ≡ false =
          sym some ∙ ap some_in same ∙ some_is k ∙ ap is_some e in cc

      at : (a : Option Row) → found_in 0 ≡ a → (b : Option Row) → found_in 1 ≡ b
          → (d : Option Row) → found_in 2 ≡ d → (h : Option Row) → found_in 3 ≡ h
          → option_or a (option_or b (option_or d h)) ≡ None → ⊥
      at (Some x) ea b eb d ed h eh f = let q = f in cc
      at None ea (Some x) eb d ed h eh f = let q = f in cc
      at None ea None eb (Some x) ed h eh f = let q = f in cc
      at None ea None eb None ed (Some x) eh f = let q = f in cc
      at None ea None eb None ed None eh f =
          let n0 = no 0 ea in
          let n1 = no 1 eb in
          let n2 = no 2 ed in
          let n3 = no 3 eh in omega (arith, n0, n1, n2, n3)

rank_low : (rules : Rules) (row : AclRow) → rank rules row ≤ 3
rank_low Own row = at (is_deny row.access)
  where
    at : (d : Bool) → rank_of false d ≤ 3
    at true = omega arith
    at false = omega arith
rank_low Mosquitto row = at (is_everyones row.who) (is_deny row.access)
  where
    at : (e d : Bool) → rank_of e d ≤ 3
    at true true = omega arith
    at true false = omega arith
    at false true = omega arith
    at false false = omega arith

-- ---- rows that are kept
-- the row of a list that decides, as all its rows have it
decides_in_list : (q : Question) (client : List ℕ) (user : Option (List ℕ)) (topic : List ℕ)
    (rows others : List Row) (all : Judges) → user_by (rules_in q) user ≡ user
    → AreJudges (rules_in q) rows others q.clients q.direction all
    → AreFor q.clients (concerns_by (rules_in q) client user topic) rows
    → find (λ (r : Row). concerns_by (rules_in q) client user topic (row_view r))
    (judges (rules_in q) q.direction rows)
    ≡ find (λ (r : Row). concerns_by (rules_in q) client user topic (row_view r))
    (rows_of all.rows.items)
decides_in_list q client user topic rows others all u j f =
    ap (λ k. find (λ (r : Row). concerns_by (rules_in q) client k topic (row_view r))
    (judges (rules_in q) q.direction rows)) (sym u)
    ∙ decider_is (rules_in q) rows others q.clients q.direction all client user topic u j f

abbrev pub passes_over : Rules → (deny grant : Marked) → Bool
passes_over rules deny grant =
    (deny.kept && nat_lt (rank rules (row_view deny.row.now)) (rank rules (row_view grant.row.now)))
    || (grant.kept
    && nat_lt (rank rules (row_view grant.row.now)) (rank rules (row_view deny.row.now)))

-- a row that denied isn't the first to decide, where it or the one that grants is in the other list too, and would decide
-- there before the other one
pub kept_denied : (q : Question) (shown : List Difference) (place : ℕ) (d : Marked)
    (before : List Marked) (grant : Marked) → IsQuestion q → IsPlaced q before grant
    → place < length q.from.now.rows.items
    → is_deny (row_view (get_or q.from.now.rows.items place d).row.now).access ≡ true
    → passes_over (rules_in q) (get_or q.from.now.rows.items place d) grant ≡ true
    → AreShown q (denied_must q place d grant) (denied_cover q place before) shown
kept_denied q shown place d before grant k s low denies over client topic user p e =
    let rules = rules_in q in
    let c = concerns_by rules client user topic in
    let from = q.from.now.rows.items in
    let deny = get_or from place d in
    let parts = decided_parts c (denied_must q place d grant) (denied_cover q place before) e in
    let none = none_of c (views_of (take place from)) (views_of before) parts.1 in
    let here = and_parts (c (row_view deny.row.now)) (c (row_view grant.row.now) && true) parts.0 in
    let granted = (and_parts (c (row_view grant.row.now)) true here.1).0 in
    let for = question_for q client user topic k p in
    let behind = rows_parts from place d low in
    let from_found = decides_in_list q client user topic (from_rows q) (to_rows q) q.from.now
    for.user_is k.from for.from
    ∙ ap (find (λ (r : Row). c (row_view r))) behind.1
    ∙ find_behind (λ (r : Row). c (row_view r)) (rows_of (take place from)) deny.row.now behind.0
    (sym (any_views c (rows_of (take place from))) ∙ none.0) here.0 in
    let to_found = decides_in_list q client user topic (to_rows q) (from_rows q) q.to.now
    for.user_is k.to for.to
    ∙ ap (find (λ (r : Row). c (row_view r))) s.split.is
    ∙ find_behind (λ (r : Row). c (row_view r)) (rows_of before) grant.row.now s.split.after
    (sym (any_views c (rows_of before)) ∙ none.1) granted in
    let low_deny = rank_low rules (row_view deny.row.now) in
    let low_grant = rank_low rules (row_view grant.row.now) in
    absurd (either deny.kept (nat_lt (rank rules (row_view deny.row.now))
    (rank rules (row_view grant.row.now))) grant.kept
    (nat_lt (rank rules (row_view grant.row.now)) (rank rules (row_view deny.row.now)))
    (λ kept less.
    let some = twin_any rules q.direction client user topic (row_view deny.row.now)
    (row_views (to_rows q)) (or_left (is_deny (row_view deny.row.now).access) _ denies)
    (k.from.kept place d low kept) here.0 in
    let above = lowest rules q.direction c (to_rows q) (rank rules (row_view deny.row.now)) some
    low_deny grant.row.now to_found in
    let under = ltb-true (rank rules (row_view deny.row.now)) (rank rules (row_view grant.row.now))
    less in
    omega (arith, above, under))
    (λ kept less.
    let some = twin_any rules q.direction client user topic (row_view grant.row.now)
    (row_views (from_rows q)) (judge_found rules q.direction c (to_rows q) grant.row.now to_found)
    (s.kept kept) granted in
    let above = lowest rules q.direction c (from_rows q) (rank rules (row_view grant.row.now)) some
    low_grant deny.row.now from_found in
    let under = ltb-true (rank rules (row_view grant.row.now)) (rank rules (row_view deny.row.now))
    less in
    omega (arith, above, under))
    over)
  where
    either : (a b d e : Bool) → (a ≡ true → b ≡ true → ⊥) → (d ≡ true → e ≡ true → ⊥)
        → ((a && b) || (d && e)) ≡ true → ⊥
    either true true d e f g h = f refl refl
    either true false true true f g h = g refl refl
    either true false true false f g h = let q : false ≡ true = h in cc
    either true false false e f g h = let q : false ≡ true = h in cc
    either false b true true f g h = g refl refl
    either false b true false f g h = let q : false ≡ true = h in cc
    either false b false e f g h = let q : false ≡ true = h in cc

-- what a row grants that is in the first list too, that grants as well
pub kept_granted : (q : Question) (shown : List Difference) (before : List Marked)
    (grant : Marked) → IsQuestion q → IsPlaced q before grant → grant.kept ≡ true
    → AreShown q (must_of None (row_view grant.row.now)) (granted_cover q before) shown
kept_granted q shown before grant k s kept client topic user p e =
    let rules = rules_in q in
    let c = concerns_by rules client user topic in
    let from = q.from.now.rows.items in
    let parts = decided_parts c (must_of None (row_view grant.row.now)) (granted_cover q before) e in
    let none = none_of c (views_of from) (views_of before) parts.1 in
    let granted = (and_parts (c (row_view grant.row.now)) true parts.0).0 in
    let for = question_for q client user topic k p in
    let from_none = decides_in_list q client user topic (from_rows q) (to_rows q) q.from.now
    for.user_is k.from for.from
    ∙ find_none (λ (r : Row). c (row_view r)) (rows_of from)
    (sym (any_views c (rows_of from)) ∙ none.0) in
    let to_found = decides_in_list q client user topic (to_rows q) (from_rows q) q.to.now
    for.user_is k.to for.to
    ∙ ap (find (λ (r : Row). c (row_view r))) s.split.is
    ∙ find_behind (λ (r : Row). c (row_view r)) (rows_of before) grant.row.now s.split.after
    (sym (any_views c (rows_of before)) ∙ none.1) granted in
    let some = twin_any rules q.direction client user topic (row_view grant.row.now)
    (row_views (from_rows q)) (judge_found rules q.direction c (to_rows q) grant.row.now to_found)
    (s.kept kept) granted in
    absurd (none_found rules q.direction c (from_rows q) (rank rules (row_view grant.row.now))
    (rank_low rules (row_view grant.row.now)) some from_none)

-- ---- rows that never meet
met_by : (a b : Bool) → (a && not b) ≡ true → (a && true) ≡ true
met_by true b e = refl
met_by false b e = e

-- where the rows that are to concern a topic never do, there is nothing to show
pub never_shown : (q : Question) (must cover : List AclRow) (shown : List Difference)
    → NeverMeet q must → AreShown q must cover shown
never_shown q must cover shown never client topic user p e =
    apart (decides_by (rules_in q) client user topic must [])
    (met_by (list_all (concerns_by (rules_in q) client user topic) must)
    (list_any (concerns_by (rules_in q) client user topic) cover) e)
    (never client topic user p)

-- ---- topics of both kinds
-- what is shown of topics that begin with `$`, and of the others, is shown of all
pub shown_of_both : (q : Question) (must cover : List AclRow) (shown : List Difference)
    → AreShownOf false q must cover shown → AreShownOf true q must cover shown
    → AreShown q must cover shown
shown_of_both q must cover shown plain dollar client topic user p e = at (begins_with_dollar topic) refl
  where
    at : (b : Bool) → begins_with_dollar topic ≡ b
        → list_any (is_shown q client user topic) shown ≡ true
    at true k = dollar client topic user p k e
    at false k = plain client topic user p k e

-- rows that meet in neither kind never do
pub meet_in_neither : (q : Question) (must : List AclRow)
    → FindsNoneBy false (open_in q) (asked_in q) q.clients must []
    → FindsNoneBy true (open_in q) (asked_in q) q.clients must [] → NeverMeet q must
meet_in_neither q must plain dollar client topic user p = at (begins_with_dollar topic) refl
  where
    at : (b : Bool) → begins_with_dollar topic ≡ b
        → decides_by (rules_in q) client user topic must [] ≡ false
    at true k = dollar client topic user p.is_asked p.valid k p.taken
    at false k = plain client topic user p.is_asked p.valid k p.taken

-- what no topic of a kind is found for is shown
pub none_of_kind : (q : Question) (dollar : Bool) (must cover : List AclRow)
    (shown : List Difference) → FindsNoneBy dollar (open_in q) (asked_in q) q.clients must cover
    → AreShownOf dollar q must cover shown
none_of_kind q dollar must cover shown none client topic user p kind e =
    apart (decides_by (rules_in q) client user topic must cover) e
    (none client topic user p.is_asked p.valid kind p.taken)
