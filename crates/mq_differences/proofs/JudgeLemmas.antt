-- The rows for some clients, and the one that decides.
use Rattle.std.proofs.Common.{◌≡◌, ℕ, ◌==◌, Bool, true, false, ◌&&◌, ◌||◌, cond, List, []}
use Rattle.std.proofs.Common.{◌∷◌, Option, Some, All, refl, ap, sym, ◌∙◌}
use Rattle.std.specs.Prelude.{find}
use Rattle.std.specs.List.{filter, list_any}
use Rattle.std.specs.Option.{option_or}
use Rattle.mq_acl.specs.Access.{is_deny}
use Rattle.mq_acl.specs.AccessLists.{concerns_by, user_by}
use Rattle.mq_acl.specs.Refused.{refuses}
use Rattle.mq_acl.specs.Rows.{AclRow}
use Rattle.mq_acl.specs.Views.{owner_view, row_view, row_views}
use Rattle.mq_acl.specs.declared.access.Direction.{Direction}
use Rattle.mq_acl.specs.declared.row.Row.{Row}
use Rattle.mq_acl.specs.declared.rules.Rules.{Rules}
use Rattle.mq_shapes.specs.declared.clients.Clients.{Clients}
use Rattle.mq_differences.specs.ByOwner.{is_for}
use Rattle.mq_differences.specs.Marks.{rows_of, views_of}
use Rattle.mq_differences.specs.Questions.{AreJudges, IsSplit, rows_for}
use Rattle.mq_differences.specs.Ranks.{is_judge, judges, rank, ranked}
use Rattle.mq_differences.specs.Reasons.{decider, reason_by, reason_of}
use Rattle.mq_differences.specs.declared.judges.Judges.{Judges}
use Rattle.mq_differences.specs.declared.marks.Marked.{Marked}
use Rattle.mq_differences.specs.declared.reason.Reason.TheVariants.{Deny, Grant, NoGrant}
use Rattle.mq_differences.proofs.DeciderLemmas.{find_append}
use Rattle.mq_differences.proofs.DeciderLemmas.{find_filter as find_in_filter, open_reason}
use Rattle.mq_differences.proofs.FirstLemmas.{find_behind, find_filter, find_none}

pub any_views : (p : AclRow → Bool) (rows : List Row)
    → list_any p (row_views rows) ≡ list_any (λ (r : Row). p (row_view r)) rows
any_views p [] = refl
any_views p (r ∷ rs) = ap (λ b. p (row_view r) || b) (any_views p rs)

-- a row that passes is for these clients
abbrev pub AreFor : Clients → (AclRow → Bool) → List Row → Type 0
AreFor c p rows = All (λ (r : Row). p (row_view r) ≡ true → is_for c (owner_view r.owner) ≡ true) rows

-- ---- among all rows, and among those for the clients
find_swapped : {A : Type 0} (p q : A → Bool) (xs : List A)
    → find (λ x. p x && q x) xs ≡ find (λ x. q x && p x) xs
find_swapped p q [] = refl
find_swapped p q (x ∷ xs) = (λ i. cond (swapped (p x) (q x) i) (Some x) (find_swapped p q xs i))
  where
    swapped : (a b : Bool) → (a && b) ≡ (b && a)
    swapped true true = refl
    swapped true false = refl
    swapped false true = refl
    swapped false false = refl

pub filter_both : {X : Type 0} (p q : X → Bool) (xs : List X)
    → filter q (filter p xs) ≡ filter (λ x. p x && q x) xs
filter_both p q [] = refl
filter_both p q (x ∷ xs) = at (p x) (q x) refl (filter_both p q xs)
  where
    at : (a b : Bool) → q x ≡ b → filter q (filter p xs) ≡ filter (λ x. p x && q x) xs
        → filter q (cond a (x ∷ filter p xs) (filter p xs))
        ≡ cond (a && b) (x ∷ filter (λ x. p x && q x) xs) (filter (λ x. p x && q x) xs)
    at true true e f = rw e (ap (λ l. x ∷ l) f)
    at true false e f = rw e f
    at false b e f = f

module _ (rules : Rules) (direction : Direction) (c : Clients) (p : AclRow → Bool) (xs : List Row)
    (for : AreFor c p xs) where
  ranked_for : (place : ℕ) → find (λ (r : Row). p (row_view r)) (ranked rules direction place xs)
      ≡ find (λ (r : Row). p (row_view r)) (ranked rules direction place (rows_for c xs))
  ranked_for place =
      let test : Row → Bool = (λ (r : Row). is_judge direction (row_view r)
      && (rank rules (row_view r) == place)) in
      find_in_filter (λ (r : Row). p (row_view r)) test xs
      ∙ find_swapped test (λ (r : Row). p (row_view r)) xs
      ∙ find_filter (λ (r : Row). p (row_view r)) (λ (r : Row). is_for c (owner_view r.owner)) test xs
      for
      ∙ ap (find (λ (r : Row). p (row_view r)))
      (sym (filter_both (λ (r : Row). is_for c (owner_view r.owner)) test xs))

  -- the row that decides is one for the clients
  judges_for : find (λ (r : Row). p (row_view r)) (judges rules direction xs)
      ≡ find (λ (r : Row). p (row_view r)) (judges rules direction (rows_for c xs))
  judges_for =
      let f : List Row → Option Row = find (λ (r : Row). p (row_view r)) in
      let r : ℕ → List Row → List Row = ranked rules direction in
      four xs
      ∙ (λ i. option_or (ranked_for 0 i) (option_or (ranked_for 1 i)
      (option_or (ranked_for 2 i) (ranked_for 3 i))))
      ∙ sym (four (rows_for c xs))
    where
      four : (ys : List Row) → find (λ (r : Row). p (row_view r)) (judges rules direction ys)
          ≡ option_or (find (λ (r : Row). p (row_view r)) (ranked rules direction 0 ys))
          (option_or (find (λ (r : Row). p (row_view r)) (ranked rules direction 1 ys))
          (option_or (find (λ (r : Row). p (row_view r)) (ranked rules direction 2 ys))
          (find (λ (r : Row). p (row_view r)) (ranked rules direction 3 ys))))
      four ys =
          find_append (λ (r : Row). p (row_view r)) (ranked rules direction 0 ys) _
          ∙ ap (option_or (find (λ (r : Row). p (row_view r)) (ranked rules direction 0 ys)))
          (find_append (λ (r : Row). p (row_view r)) (ranked rules direction 1 ys) _
          ∙ ap (option_or (find (λ (r : Row). p (row_view r)) (ranked rules direction 1 ys)))
          (find_append (λ (r : Row). p (row_view r)) (ranked rules direction 2 ys) _))

-- ---- the row that decides
-- a broker asks by the user name as it is
module _ (rules : Rules) (rows others : List Row) (c : Clients) (direction : Direction)
    (all : Judges) (client : List ℕ) (user : Option (List ℕ)) (name : List ℕ)
    (known : user_by rules user ≡ user) (j : AreJudges rules rows others c direction all)
    (for : AreFor c (concerns_by rules client user name) rows) where
  pub decider_is : decider rules rows client user name direction
      ≡ find (λ (r : Row). concerns_by rules client user name (row_view r)) (rows_of all.rows.items)
  decider_is =
      ap (λ u. find (λ (r : Row). concerns_by rules client u name (row_view r))
      (judges rules direction rows)) known
      ∙ judges_for rules direction c (concerns_by rules client user name) rows for
      ∙ ap (find (λ (r : Row). concerns_by rules client user name (row_view r))) (sym j.are)

  decider_at : (before : List Marked) (row : Row) → IsSplit all.rows.items before row
      → list_any (concerns_by rules client user name) (views_of before) ≡ false
      → concerns_by rules client user name (row_view row) ≡ true
      → decider rules rows client user name direction ≡ Some row
  decider_at before row s n y =
      decider_is
      ∙ ap (find (λ (r : Row). concerns_by rules client user name (row_view r))) s.is
      ∙ find_behind (λ (r : Row). concerns_by rules client user name (row_view r)) (rows_of before)
      row s.after
      (sym (any_views (concerns_by rules client user name) (rows_of before)) ∙ n) y

  -- the first that concerns a topic decides
  pub reason_denied : (before : List Marked) (row : Row) → IsSplit all.rows.items before row
      → is_deny (row_view row).access ≡ true
      → list_any (concerns_by rules client user name) (views_of before) ≡ false
      → concerns_by rules client user name (row_view row) ≡ true
      → refuses rules direction name ≡ false
      → reason_of rules rows client user name direction ≡ Deny row.line
  reason_denied before row s d n y h =
      open_reason rules rows client user name direction h
      ∙ ap reason_by (decider_at before row s n y)
      ∙ ap (λ b. cond b (Deny row.line) (Grant row.line)) d

  pub reason_granted : (before : List Marked) (row : Row) → IsSplit all.rows.items before row
      → is_deny (row_view row).access ≡ false
      → list_any (concerns_by rules client user name) (views_of before) ≡ false
      → concerns_by rules client user name (row_view row) ≡ true
      → refuses rules direction name ≡ false
      → reason_of rules rows client user name direction ≡ Grant row.line
  reason_granted before row s d n y h =
      open_reason rules rows client user name direction h
      ∙ ap reason_by (decider_at before row s n y)
      ∙ ap (λ b. cond b (Deny row.line) (Grant row.line)) d

  pub reason_none : list_any (concerns_by rules client user name) (views_of all.rows.items) ≡ false
      → refuses rules direction name ≡ false
      → reason_of rules rows client user name direction ≡ NoGrant
  reason_none n h = open_reason rules rows client user name direction h ∙ ap reason_by (decider_is
      ∙ find_none (λ (r : Row). concerns_by rules client user name (row_view r))
      (rows_of all.rows.items)
      (sym (any_views (concerns_by rules client user name) (rows_of all.rows.items)) ∙ n))
