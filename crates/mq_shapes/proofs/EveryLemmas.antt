-- Which numbers of levels have to be tried.
use Rattle.std.proofs.Common.{◌≡◌, ◌+◌, ◌<◌, ◌≤◌, ℕ, Bool, true, false, List, Bor, arith, refl, subst}
use Rattle.std.proofs.Common.{codes}
use Rattle.std.specs.Prelude.{nat_le}
use Rattle.std.specs.List.{list_any}
use Rattle.mq_acl.specs.Rows.{AclRow}
use Rattle.mq_cover.specs.declared.start.Start.{Start}
use Rattle.mq_unify.specs.declared.shape.UserShape.{UserShape}
use Rattle.mq_unify.specs.declared.shape.UserShape.TheVariants.{Levels}
use Rattle.mq_shapes.specs.Every.{FindsNoneOfOthers, FindsNoneWith, has_client_mark, has_user_mark}
use Rattle.mq_shapes.specs.Every.{with_levels}
use Rattle.mq_shapes.specs.Found.{FindsNone}
use Rattle.mq_shapes.specs.Total.{AreTried}
use Rattle.mq_shapes.proofs.AnyLemmas.{none_of_any_id}
use Rattle.mq_shapes.proofs.AnyUserLemmas.{none_of_any_user}
use Rattle.mq_shapes.proofs.LongLemmas.{no_long_ids, no_long_users}

-- up to here, or beyond
module _ (P : ℕ → Type 0) (limit : ℕ) (near : (n : ℕ) → n ≤ limit → P n)
    (far : (n : ℕ) → limit < n → P n) where
  pub either : (n : ℕ) → P n
  either n = by (nat_le n limit) refl
    where
      by : (b : Bool) → nat_le n limit ≡ b → P n
      by true e = near n (grind (arith, e))
      by false e = far n (grind (arith, e))

-- one more
pub one_more : (P : ℕ → Type 0) (n : ℕ) → ((k : ℕ) → 0 < k → k ≤ n → P k) → P (n + 1)
    → (k : ℕ) → 0 < k → k ≤ n + 1 → P k
one_more P n all next k some low = either (λ j. 0 < j → j ≤ n + 1 → P j) n
    (λ j near s l. all j s near)
    (λ j far s l. let e : n + 1 ≡ j = omega (arith, far, l) in subst P e next) k some low

module _ (start : Start) (users : List (Bor (List ℕ))) (must cover : List AclRow) where
  pub every_id : (user : UserShape) (tried : ℕ) → AreTried (codes "%c") must tried
      → ((count : ℕ) → 0 < count → count ≤ tried
      → FindsNone start (with_levels count user) users must cover)
      → FindsNoneWith start user users must cover
  every_id user tried far none = by (list_any has_client_mark must) refl
    where
      by : (b : Bool) → list_any has_client_mark must ≡ b
          → FindsNoneWith start user users must cover
      by true e count some =
          either (λ n. 0 < n → FindsNone start (with_levels n user) users must cover) tried
          (λ n low s. none n s low)
          (λ n long s. no_long_ids start user users must cover e tried (far.marked e) n long)
          count some
      by false e count some =
          none_of_any_id start user users must cover e (none 1 (omega arith) (far.unmarked e)) count

  pub every_user : (tried : ℕ) → AreTried (codes "%u") must tried
      → ((most : ℕ) → 0 < most → most ≤ tried
      → FindsNoneWith start (Levels most) users must cover)
      → FindsNoneOfOthers start users must cover
  every_user tried far none = by (list_any has_user_mark must) refl
    where
      by : (b : Bool) → list_any has_user_mark must ≡ b → FindsNoneOfOthers start users must cover
      by true e most some count id =
          either (λ n. 0 < n → FindsNone start (with_levels count (Levels n)) users must cover) tried
          (λ n low s. none n s low count id)
          (λ n long s. no_long_users start count users must cover e tried (far.marked e) n long)
          most some
      by false e most some count id =
          none_of_any_user start count users must cover e
          (none 1 (omega arith) (far.unmarked e) count id) most
