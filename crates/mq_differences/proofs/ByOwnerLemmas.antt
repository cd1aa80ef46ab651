-- Rows for some clients alone.
use Rattle.std.proofs.Common.{◌≡◌, ◌∙◌, ◌&&◌, false, cond, List, [], ◌∷◌, Some, None, refl, ap, sym}
use Rattle.std.specs.List.{filter}
use Rattle.mq_acl.specs.ByOwner as acl
use Rattle.mq_acl.specs.Rows.{Who, Anonymous, Named, Everyone}
use Rattle.mq_acl.specs.RowsByOwner.{is_everyones}
use Rattle.mq_acl.specs.RowsByOwner as acl_rows
use Rattle.mq_acl.specs.Views.{row_who}
use Rattle.mq_shapes.specs.declared.clients.Clients.{Clients}
use Rattle.mq_shapes.specs.declared.clients.Clients.TheVariants as clients
use Rattle.mq_differences.specs.ByOwner.{IsGrouped, is_own, own_rows}
use Rattle.mq_differences.specs.declared.by_owner.ByOwner.{ByOwner}
use Rattle.mq_differences.specs.declared.marks.Marked.{Marked}

-- no row for all clients is for some alone
pub own_apart : (clients : Clients) (who : Who) → (is_everyones who && is_own clients who) ≡ false
own_apart clients Anonymous = refl
own_apart clients (Named name) = refl
own_apart clients Everyone = refl

-- no row is for clients of no user name that is named alone
no_others : (all : List Marked) → [] ≡ filter (λ m. is_own clients.Others (row_who m.row.now)) all
no_others [] = refl
no_others (m ∷ all) =
    no_others all
    ∙ ap (λ b. cond b (m ∷ filter (λ m. is_own clients.Others (row_who m.row.now)) all)
    (filter (λ m. is_own clients.Others (row_who m.row.now)) all)) (sym (none (row_who m.row.now)))
  where
    none : (who : Who) → is_own clients.Others who ≡ false
    none Anonymous = refl
    none (Named name) = refl
    none Everyone = refl

-- rows by their user names are rows by their clients
pub by_clients : (all : List Marked) (by_owner : ByOwner)
    → acl.IsGrouped (λ m. row_who m.row.now) all by_owner.rows → IsGrouped all by_owner
by_clients all by_owner grouped = record { everyone = grouped.everyone; own = own }
  where
    anonymous : (who : Who) → acl_rows.is_own None who ≡ is_own clients.Anonymous who
    anonymous Anonymous = refl
    anonymous (Named name) = refl
    anonymous Everyone = refl

    named : (name : _) (who : Who) → acl_rows.is_own (Some name.now) who
        ≡ is_own (clients.Named name) who
    named name Anonymous = refl
    named name (Named user) = refl
    named name Everyone = refl

    own : (c : Clients) → own_rows c by_owner ≡ filter (λ m. is_own c (row_who m.row.now)) all
    own clients.Anonymous =
        grouped.own None ∙ (λ i. filter (λ m. anonymous (row_who m.row.now) i) all)
    own (clients.Named name) =
        grouped.own (Some name.now) ∙ (λ i. filter (λ m. named name (row_who m.row.now) i) all)
    own clients.Others = no_others all
