-- Which line of a list decides by our own rules.
use Rattle.std.proofs.Common.{◌≡◌, ℕ, Bool, true, false, cond, ◌&&◌}
use Rattle.std.proofs.Common.{List, [], ◌∷◌, refl, ap, sym, ◌∙◌, Option, Some, None}
use Rattle.std.specs.Prelude.{find}
use Rattle.std.specs.Option.{option_map, option_or}
use Rattle.std.proofs.lemmas.Bool.{and_parts}
use Rattle.mq_acl.specs.Access.{concerns, grants, is_deny, rows_allow}
use Rattle.mq_acl.specs.Lines.{Access, Read, Write, ReadWrite, Deny}
use Rattle.mq_acl.specs.Views.{access_view, row_view, row_views}
use Rattle.mq_acl.specs.declared.access.Direction.{Direction}
use Rattle.mq_acl.specs.declared.access.Direction.TheVariants.{Reading, Writing}
use Rattle.mq_acl.specs.declared.row.Row.{Row}
use Rattle.mq_acl.specs.declared.rules.Rules.TheVariants.{Own}
use Rattle.mq_differences.specs.Reasons.{decides_at, is_grant, reason_by, reason_of}
use Rattle.mq_differences.specs.declared.reason.Reason.{Reason}
use Rattle.mq_differences.specs.declared.reason.Reason.TheVariants as reasons
use Rattle.mq_differences.proofs.DeciderLemmas.{allowed_is, decider_ranks, found_passes, ranks}
use Rattle.mq_regions.specs.Deciding.{decides, first_line}

-- the reason, where the first line of those that deny and the first of those that grant are these
abbrev reason_from : Option ℕ → Option ℕ → Reason
reason_from (Some line) grant = reasons.Deny line
reason_from None (Some line) = reasons.Grant line
reason_from None None = reasons.NoGrant

find_same : (p q : Row → Bool) → ((x : Row) → p x ≡ q x) → (xs : List Row)
    → find p xs ≡ find q xs
find_same p q h [] = refl
find_same p q h (x ∷ xs) = (λ i. cond (h x i) (Some x) (find_same p q h xs i))

find_never : (p : Row → Bool) → ((x : Row) → p x ≡ false) → (xs : List Row) → find p xs ≡ None
find_never p h [] = refl
find_never p h (x ∷ xs) = (λ i. cond (h x i) (Some x) (find_never p h xs i))

and_swap : (a b : Bool) → (a && b) ≡ (b && a)
and_swap true true = refl
and_swap true false = refl
and_swap false true = refl
and_swap false false = refl

grants_not : (d : Direction) (a : Access) → grants d a ≡ true → is_deny a ≡ false
grants_not d Read h = refl
grants_not d Write h = refl
grants_not d ReadWrite h = refl
grants_not Reading Deny h = absurd (let q : false ≡ true = h in cc)
grants_not Writing Deny h = absurd (let q : false ≡ true = h in cc)

module _ (c : List ℕ) (u : Option (List ℕ)) (n : List ℕ) (d : Direction) (rows : List Row) where
  abbrev found_at : ℕ → Option Row
  found_at place = find (λ (r : Row). decides_at Own d place c u n (row_view r)) rows

  abbrev denying : Option Row
  denying = find (decides is_deny c u n) rows

  abbrev granting : Option Row
  granting = find (decides (grants d) c u n) rows

  at_0 : found_at 0 ≡ denying
  at_0 = find_same (λ (r : Row). decides_at Own d 0 c u n (row_view r)) (decides is_deny c u n)
      (λ row. ap (λ b. b && concerns c u n (row_view row))
      (ranks false d (access_view row.access)).0
      ∙ and_swap (is_deny (access_view row.access)) (concerns c u n (row_view row))) rows

  at_1 : found_at 1 ≡ granting
  at_1 = find_same (λ (r : Row). decides_at Own d 1 c u n (row_view r)) (decides (grants d) c u n)
      (λ row. ap (λ b. b && concerns c u n (row_view row))
      (ranks false d (access_view row.access)).1
      ∙ and_swap (grants d (access_view row.access)) (concerns c u n (row_view row))) rows

  at_2 : found_at 2 ≡ None
  at_2 = find_never (λ (r : Row). decides_at Own d 2 c u n (row_view r))
      (λ row. ap (λ b. b && concerns c u n (row_view row))
      (ranks false d (access_view row.access)).2) rows

  at_3 : found_at 3 ≡ None
  at_3 = find_never (λ (r : Row). decides_at Own d 3 c u n (row_view r))
      (λ row. ap (λ b. b && concerns c u n (row_view row))
      (ranks false d (access_view row.access)).3) rows

  by_lines : (o g : Option Row)
      → ((row : Row) → o ≡ Some row → is_deny (access_view row.access) ≡ true)
      → ((row : Row) → g ≡ Some row → is_deny (access_view row.access) ≡ false)
      → reason_by (option_or (option_or o g) (option_or None None))
      ≡ reason_from (option_map (λ row. row.line) o) (option_map (λ row. row.line) g)
  by_lines (Some row) g f h =
      ap (λ b. cond b (reasons.Deny row.line) (reasons.Grant row.line)) (f row refl)
  by_lines None (Some row) f h =
      ap (λ b. cond b (reasons.Deny row.line) (reasons.Grant row.line)) (h row refl)
  by_lines None None f h = refl

  pub reason_is : reason_of Own rows c u n d
      ≡ reason_from (first_line is_deny c u n rows) (first_line (grants d) c u n rows)
  reason_is =
      ap reason_by (decider_ranks Own d c u n rows
      ∙ (λ i. option_or (option_or (at_0 i) (at_1 i)) (option_or (at_2 i) (at_3 i))))
      ∙ by_lines denying granting
      (λ row e. (and_parts (concerns c u n (row_view row)) (is_deny (access_view row.access))
      (found_passes (decides is_deny c u n) rows row e)).1)
      (λ row e. grants_not d (access_view row.access)
      (and_parts (concerns c u n (row_view row)) (grants d (access_view row.access))
      (found_passes (decides (grants d) c u n) rows row e)).1)

-- rows whose lines decide alike have the same reasons, and allow the same
pub same_reasons : (made rows : List Row) (x c : List ℕ) (u : Option (List ℕ)) (n m : List ℕ)
    (d : Direction)
    → ((p : Access → Bool) → first_line p x u n made ≡ first_line p c u m rows)
    → reason_of Own made x u n d ≡ reason_of Own rows c u m d
same_reasons made rows x c u n m d h =
    reason_is x u n d made
    ∙ (λ i. reason_from (h is_deny i) (h (grants d) i))
    ∙ sym (reason_is c u m d rows)

pub allows_by_reason : (rows : List Row) (c : List ℕ) (u : Option (List ℕ)) (n : List ℕ)
    (d : Direction) → rows_allow (row_views rows) c u n d ≡ is_grant (reason_of Own rows c u n d)
allows_by_reason rows c u n d = allowed_is Own rows c u n d

pub same_allows : (made rows : List Row) (x c : List ℕ) (u : Option (List ℕ)) (n m : List ℕ)
    (d : Direction)
    → ((p : Access → Bool) → first_line p x u n made ≡ first_line p c u m rows)
    → rows_allow (row_views made) x u n d ≡ rows_allow (row_views rows) c u m d
same_allows made rows x c u n m d h =
    allows_by_reason made x u n d ∙ ap is_grant (same_reasons made rows x c u n m d h)
    ∙ sym (allows_by_reason rows c u m d)

-- the same for another user name
pub same_by_lines : (rows : List Row) (x c : List ℕ) (u v : Option (List ℕ)) (n m : List ℕ)
    (d : Direction)
    → ((p : Access → Bool) → first_line p x u n rows ≡ first_line p c v m rows)
    → reason_of Own rows x u n d ≡ reason_of Own rows c v m d
same_by_lines rows x c u v n m d h =
    reason_is x u n d rows
    ∙ (λ i. reason_from (h is_deny i) (h (grants d) i))
    ∙ sym (reason_is c v m d rows)
