-- What rows decide, by what they do and whom they are for.
use Rattle.std.proofs.Common.{◌≡◌, ℕ, Bool, true, false, not, ◌&&◌, ◌||◌, List, [], ◌∷◌, Option, Some, refl}
use Rattle.std.proofs.Common.{ap, sym, ◌∙◌}
use Rattle.std.specs.List.{list_any, filter}
use Rattle.mq_acl.specs.AccessLists.{AccessList, allow_by, allowed}
use Rattle.mq_acl.specs.Access.{is_deny, grants, concerns, covers, applies, rows_allow}
use Rattle.mq_acl.specs.Lines.{Access, Read, Write, ReadWrite, Deny}
use Rattle.mq_acl.specs.Rows.{AclRow}
use Rattle.mq_acl.specs.Views.{access_view, row_view, row_views, row_who}
use Rattle.mq_acl.specs.declared.access.Direction.{Direction}
use Rattle.mq_acl.specs.declared.access.Direction.TheVariants.{Reading, Writing}
use Rattle.mq_acl.specs.declared.row.Row.{Row}
use Rattle.mq_acl.proofs.ByOwnerLemmas.{any_kept}

-- a row that grants doesn't deny
pub grants_only : (direction : Direction) (access : Access)
    → grants direction access ≡ (grants direction access && not (is_deny access))
grants_only Reading Read = refl
grants_only Reading Write = refl
grants_only Reading ReadWrite = refl
grants_only Reading Deny = refl
grants_only Writing Read = refl
grants_only Writing Write = refl
grants_only Writing ReadWrite = refl
grants_only Writing Deny = refl

denied_among : (applies covers deny : Bool)
    → (deny && (applies && covers)) ≡ ((applies && covers) && deny)
denied_among true true true = refl
denied_among true true false = refl
denied_among true false true = refl
denied_among true false false = refl
denied_among false covers true = refl
denied_among false covers false = refl

granted_among : (applies covers grants other : Bool) → grants ≡ (grants && other)
    → (other && (applies && (grants && covers))) ≡ ((applies && covers) && grants)
granted_among a c g o e = ordered a c g o ∙ ap (λ b. (a && c) && b) (sym e)
  where
    ordered : (a c g o : Bool) → (o && (a && (g && c))) ≡ ((a && c) && (g && o))
    ordered true true true true = refl
    ordered true true true false = refl
    ordered true true false true = refl
    ordered true true false false = refl
    ordered true false true true = refl
    ordered true false true false = refl
    ordered true false false true = refl
    ordered true false false false = refl
    ordered false c g true = refl
    ordered false c g false = refl

-- a test of views
pub any_viewed : (test : AclRow → Bool) (rows : List Row)
    → list_any (λ row. test (row_view row)) rows ≡ list_any test (row_views rows)
any_viewed test [] = refl
any_viewed test (row ∷ rows) = ap (λ b. test (row_view row) || b) (any_viewed test rows)

-- what the rows that deny say, and those that grant, is what all rows say
pub allowed_by_access : (client : List ℕ) (user : Option (List ℕ)) (name : List ℕ)
    (direction : Direction) (rows : List Row) (denied granted : Bool)
    → denied ≡ list_any (λ row. concerns client user name (row_view row))
    (filter (λ row. is_deny (access_view row.access)) rows)
    → granted ≡ list_any (λ row. applies user (row_who row)
    && (grants direction (access_view row.access) && covers client user name (row_view row)))
    (filter (λ row. not (is_deny (access_view row.access))) rows)
    → (not denied && granted) ≡ rows_allow (row_views rows) client user name direction
allowed_by_access client user name direction rows denied granted denied_is granted_is =
    (λ i. not (denied_is i) && granted_is i)
    ∙ (λ i. not (any_kept (λ row. own row && cov row) denies rows i)
    && any_kept (λ row. own row && grant row) (λ row. not (denies row)) rows i)
    ∙ (λ i. not (list_any (λ row. denied_among (own row) (cov row) (denies row) i) rows)
    && list_any (λ row. granted_among (own row) (cov row)
    (grants direction (access_view row.access)) (not (denies row))
    (grants_only direction (access_view row.access)) i) rows)
    ∙ (λ i. not (any_viewed (λ row. concerns client user name row && is_deny row.access) rows i)
    && any_viewed (λ row. concerns client user name row && grants direction row.access) rows i)
  where
    own : Row → Bool
    own row = applies user (row_who row)

    cov : Row → Bool
    cov row = covers client user name (row_view row)

    denies : Row → Bool
    denies row = is_deny (access_view row.access)

    grant : Row → Bool
    grant row = grants direction (access_view row.access) && cov row

-- with a list its rows decide
pub allowed_by_list : (list : AccessList) (client : List ℕ) (user : Option (List ℕ))
    (name : List ℕ) (direction : Direction) → allowed (Some list) client user name direction
    ≡ allow_by list.rules list.rows client user name direction
unfolding allowed
allowed_by_list list client user name direction = refl
