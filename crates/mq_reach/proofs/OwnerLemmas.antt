-- Rows by whom they are for.
use Rattle.std.proofs.Common.{◌≡◌, ◌<◌, ℕ, ◌+◌, Bool, true, false, cond, List, [], ◌∷◌, ◌++◌, length}
use Rattle.std.proofs.Common.{map, take, get_or, Option, Bor, sym, ◌∙◌, ap, refl}
use Rattle.std.specs.List.{filter}
use Rattle.std.proofs.lemmas.List.{append-nil, map-append}
use Rattle.std.proofs.lemmas.List.Elements.{filter_more}
use Rattle.mq_acl.specs.ByOwner.{IsGrouped, everyones, own_items}
use Rattle.mq_acl.specs.Rows.{AclRow}
use Rattle.mq_acl.specs.RowsByOwner.{is_everyones, is_own}
use Rattle.mq_acl.specs.Views.{row_view, row_views, row_who}
use Rattle.mq_acl.specs.declared.by_owner.ByOwner.{ByOwner}
use Rattle.mq_acl.specs.declared.row.Row.{Row}
use Rattle.mq_witness.specs.Rows.{lent_rows}
use Rattle.mq_world.proofs.ListLemmas.{map-filter}
use Rattle.mq_reach.specs.ByOwner.{AreGrouped}

-- the rows for all clients are those of all rows
pub everyones-are : {rows : List AclRow} {by_owner : ByOwner (Bor Row)} → AreGrouped rows by_owner
    → lent_rows (everyones by_owner) ≡ filter (λ row. is_everyones row.who) rows
everyones-are g =
    ap lent_rows g.grouped.everyone
    ∙ map-filter (λ (r : Bor Row). row_view r.now) (λ row. is_everyones row.who) g.lent
    ∙ ap (filter (λ row. is_everyones row.who)) g.are

-- and so are those for some alone
pub own-are : {rows : List AclRow} {by_owner : ByOwner (Bor Row)} → AreGrouped rows by_owner
    → (user : Option (List ℕ))
    → lent_rows (own_items user by_owner) ≡ filter (λ row. is_own user row.who) rows
own-are g user =
    ap lent_rows (g.grouped.own user)
    ∙ map-filter (λ (r : Bor Row). row_view r.now) (λ row. is_own user row.who) g.lent
    ∙ ap (filter (λ row. is_own user row.who)) g.are

-- the row, if it passes
abbrev one : (AclRow → Bool) → Row → List AclRow
one p row = cond (p (row_view row)) (row_view row ∷ []) []

-- those that pass, with one row more
passed-more : (p : AclRow → Bool) (rows : List Row) (i : ℕ) (d : Row) → i < length rows
    → filter p (row_views (take (i + 1) rows))
    ≡ filter p (row_views (take i rows))
    ++ one p (get_or rows i d)
passed-more p rows i d low =
    let x : Row = get_or rows i d in
    sym (map-filter row_view p (take (i + 1) rows))
    ∙ ap (map row_view) (filter_more (λ row. p (row_view row)) rows i d low)
    ∙ map-append row_view (filter (λ row. p (row_view row)) (take i rows))
    (cond (p (row_view x)) (x ∷ []) [])
    ∙ (λ j. map-filter row_view p (take i rows) j ++ shown (p (row_view x)) x j)
  where
    shown : (b : Bool) (x : Row) → map row_view (cond b (x ∷ []) []) ≡ cond b (row_view x ∷ []) []
    shown true x = refl
    shown false x = refl

-- a row that passes is added
pub grouped-more : (p : AclRow → Bool) (rows : List Row) (i : ℕ) (row : Bor Row)
    (old new : ByOwner (Bor Row))
    → ((all : List (Bor Row)) → IsGrouped (λ (r : Bor Row). row_who r.now) all old
    → IsGrouped (λ (r : Bor Row). row_who r.now) (all ++ row ∷ []) new)
    → i < length rows → row.now ≡ get_or rows i row.now → p (row_view row.now) ≡ true
    → AreGrouped (filter p (row_views (take i rows))) old
    → AreGrouped (filter p (row_views (take (i + 1) rows))) new
grouped-more p rows i row old new add low is passes g = record {
  lent = g.lent ++ row ∷ [];
  are = map-append (λ (r : Bor Row). row_view r.now) g.lent (row ∷ [])
      ∙ (λ j. g.are j ++ row_view row.now ∷ [])
      ∙ sym (passed-more p rows i row.now low
      ∙ ap (λ l. filter p (row_views (take i rows)) ++ l)
      (sym (ap (one p) is) ∙ ap (λ b. cond b (row_view row.now ∷ []) []) passes));
  grouped = add g.lent g.grouped;
}

-- one that doesn't isn't
pub grouped-same : (p : AclRow → Bool) (rows : List Row) (i : ℕ) (row : Row)
    (by_owner : ByOwner (Bor Row)) → i < length rows → row ≡ get_or rows i row
    → p (row_view row) ≡ false
    → AreGrouped (filter p (row_views (take i rows))) by_owner
    → AreGrouped (filter p (row_views (take (i + 1) rows))) by_owner
grouped-same p rows i row by_owner low is fails g = record {
  lent = g.lent;
  are = g.are ∙ sym (passed-more p rows i row low
      ∙ ap (λ l. filter p (row_views (take i rows)) ++ l)
      (sym (ap (one p) is) ∙ ap (λ b. cond b (row_view row ∷ []) []) fails)
      ∙ append-nil (filter p (row_views (take i rows))));
  grouped = g.grouped;
}
