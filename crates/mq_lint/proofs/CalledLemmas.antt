-- Rows that are called needless.
use Rattle.std.proofs.Common.{◌≡◌, ◌<◌, ◌+◌, ℕ, zero, suc, Bool, true, false, not, ◌||◌, cond}
use Rattle.std.proofs.Common.{List, [], ◌∷◌, ◌++◌, Bor, length, get_or, take}
use Rattle.std.proofs.Common.{refl, ap, sym, ◌∙◌, subst, arith, append_assoc, append-nil}
use Rattle.std.specs.Prelude.{map}
use Rattle.std.specs.List.{filter, zip}
use Rattle.std.proofs.lemmas.List.{map-append, take_more}
use Rattle.std.proofs.lemmas.List.Elements.{All-filter, filter-append}
use Rattle.std.proofs.lemmas.List.Folds.{list_any-append}
use Rattle.mq_acl.specs.Rows.{AclRow}
use Rattle.mq_acl.specs.Views.{row_view}
use Rattle.mq_acl.specs.declared.row.Row.{Row}
use Rattle.mq_witness.specs.Rows.{lent_rows}
use Rattle.mq_differences.specs.Marks.{ArePlaced, rows_of, views_of}
use Rattle.mq_differences.specs.declared.marks.Marked.{Marked}
use Rattle.mq_lint.specs.Needless.{is_among, same_row, without, without_all}
use Rattle.mq_lint.specs.Cases.{AreMarked, IsMarked}

-- ---- which places are out
or_false : (a : Bool) → (a || false) ≡ a
or_false true = refl
or_false false = refl

one_more : (called : List AclRow) (row one : AclRow)
    → (is_among called one || same_row one row) ≡ is_among (called ++ row ∷ []) one
one_more called row one =
    ap (λ b. is_among called one || b) (sym (or_false (same_row one row)))
    ∙ sym (list_any-append (λ other. same_row one other) called (row ∷ []))

zipped : (rows : List Row) (called : List AclRow) (row : AclRow)
    → map (λ shown. shown.1 || same_row (row_view shown.0) row)
    (zip rows (map (λ (r : Row). is_among called (row_view r)) rows))
    ≡ map (λ (r : Row). is_among (called ++ row ∷ []) (row_view r)) rows
zipped [] called row = refl
zipped (r ∷ rs) called row = (λ i. one_more called row (row_view r) i ∷ zipped rs called row i)

-- with one more
pub still_out : (rows : List Row) (row : AclRow) (called after : List AclRow) (was lent out : List Bool)
    → after ≡ called ++ row ∷ [] → was ≡ map (λ (r : Row). is_among called (row_view r)) rows
    → lent ≡ was
    → out ≡ map (λ shown. shown.1 || same_row (row_view shown.0) row) (zip rows lent)
    → out ≡ map (λ (r : Row). is_among after (row_view r)) rows
still_out rows row called after was lent out more are same is =
    is
    ∙ ap (λ l. map (λ shown. shown.1 || same_row (row_view shown.0) row) (zip rows l)) (same ∙ are)
    ∙ zipped rows called row
    ∙ ap (λ l. map (λ (r : Row). is_among l (row_view r)) rows) (sym more)

pub lent_push : (rows more : List (Bor Row)) (row : Bor Row) → more ≡ rows ++ row ∷ []
    → lent_rows more ≡ lent_rows rows ++ row_view row.now ∷ []
lent_push rows more row e =
    ap (λ (l : List (Bor Row)). lent_rows l) e
    ∙ map-append (λ (r : Bor Row). row_view r.now) rows (row ∷ [])

at_map : (f : Row → Bool) (rows : List Row) (n : ℕ) (b : Bool) (row : Row) → n < length rows
    → get_or (map f rows) n b ≡ f (get_or rows n row)
at_map f [] n b row low = absurd (omega arith)
at_map f (r ∷ rs) zero b row low = refl
at_map f (r ∷ rs) (suc n) b row low = at_map f rs n b row (omega arith)

-- the one at a place
pub out_at : (rows : List Row) (called : List AclRow) (out : List Bool) (n : ℕ) (b : Bool) (row : Row)
    → out ≡ map (λ (r : Row). is_among called (row_view r)) rows → n < length rows
    → get_or out n b ≡ is_among called (row_view (get_or rows n row))
out_at rows called out n b row are low =
    ap (λ l. get_or l n b) are ∙ at_map (λ r. is_among called (row_view r)) rows n b row low

-- a row of the list, by what is known of the place
pub out_of : (all rows : List Row) (called : List AclRow) (n : ℕ) (row : Row) (b : Bool) → all ≡ rows
    → ((r : Row) → b ≡ is_among called (row_view (get_or all n r))) → row ≡ get_or rows n row
    → is_among called (row_view row) ≡ b
out_of all rows called n row b same out is =
    ap (λ r. is_among called (row_view r)) is
    ∙ (λ i. is_among called (row_view (get_or (sym same i) n row)))
    ∙ sym (out row)

pub place_in : (all rows : List Row) (n : ℕ) → all ≡ rows → n < length rows → n < length all
place_in all rows n same low = subst (λ (l : List Row). n < length l) (sym same) low

-- ---- rows with their places
in_rows : (all : List Marked) (k : ℕ) → k < length all → k < length (rows_of all)
in_rows [] k low = absurd (omega arith)
in_rows (m ∷ ms) zero low = omega arith
in_rows (m ∷ ms) (suc k) low = let rest = in_rows ms k (omega arith) in omega arith

at_row : (all : List Marked) (k : ℕ) (d : Marked) (r : Row) → k < length all
    → (get_or all k d).row.now ≡ get_or (rows_of all) k r
at_row [] k d r low = absurd (omega arith)
at_row (m ∷ ms) zero d r low = refl
at_row (m ∷ ms) (suc k) d r low = at_row ms k d r (omega arith)

-- each of all rows of a list is the one at its place
pub all_marked : (rows : List Row) (all : List Marked) → rows_of all ≡ rows → ArePlaced all
    → AreMarked rows all
all_marked rows all are placed = λ k d low. record {
  in_range = subst (λ n. n < length rows) (sym (placed k d low))
      (subst (λ (l : List Row). k < length l) are (in_rows all k low));
  is = λ r. at_row all k d r low ∙ (λ i. get_or (are i) k r)
      ∙ ap (λ n. get_or rows n r) (sym (placed k d low));
}

pub some_marked : (rows : List Row) (all some : List Marked) (t : Marked → Bool)
    → some ≡ filter t all → AreMarked rows all → AreMarked rows some
some_marked rows all some t is h = subst (AreMarked rows) (sym is)
    (All-filter t (IsMarked rows) all h)

pub marked_at : (rows : List Row) (all : List Marked) (n : ℕ) (m : Marked) → AreMarked rows all
    → n < length all → m ≡ get_or all n m → IsMarked rows m
marked_at rows all n m h low is = subst (IsMarked rows) (sym is) (h n m low)

-- ---- the other rows, gathered one by one
abbrev kept_of : List AclRow → AclRow → List AclRow → List AclRow
kept_of some row rows = without row (without_all some rows)

alone_out : (some : List AclRow) (row v : AclRow) (a : Bool) → is_among some v ≡ a
    → kept_of some row (v ∷ []) ≡ cond a [] (without row (v ∷ []))
alone_out some row v a e = subst (λ b. kept_of some row (v ∷ []) ≡ cond b [] (without row (v ∷ []))) e
    (at (is_among some v))
  where
    at : (b : Bool) → without row (cond (not b) (v ∷ []) []) ≡ cond b [] (without row (v ∷ []))
    at true = refl
    at false = refl

alone_same : (row v : AclRow) (s : Bool) → same_row v row ≡ s
    → without row (v ∷ []) ≡ cond s [] (v ∷ [])
alone_same row v s e = subst (λ b. without row (v ∷ []) ≡ cond b [] (v ∷ [])) e (at (same_row v row))
  where
    at : (b : Bool) → cond (not b) (v ∷ []) [] ≡ cond b [] (v ∷ [])
    at true = refl
    at false = refl

kept_more : (some : List AclRow) (row : AclRow) (ms : List Marked) (n : ℕ) (m : Marked)
    → n < length ms → m ≡ get_or ms n m → kept_of some row (views_of (take (n + 1) ms))
    ≡ kept_of some row (views_of (take n ms)) ++ kept_of some row (row_view m.row.now ∷ [])
kept_more some row ms n m low is =
    ap (λ l. kept_of some row (views_of l)) (take_more ms n m low)
    ∙ ap (λ (x : Marked). kept_of some row (views_of (take n ms ++ x ∷ []))) (sym is)
    ∙ ap (λ (l : List Row). kept_of some row (map row_view l))
    (map-append (λ (x : Marked). x.row.now) (take n ms) (m ∷ []))
    ∙ ap (λ l. kept_of some row l)
    (map-append row_view (rows_of (take n ms)) (m.row.now ∷ []))
    ∙ ap (λ l. without row l) (filter-append (λ r. not (is_among some r)) (views_of (take n ms))
    (row_view m.row.now ∷ []))
    ∙ filter-append (λ r. not (same_row r row)) (without_all some (views_of (take n ms)))
    (without_all some (row_view m.row.now ∷ []))

module _ (some : List AclRow) (row : AclRow) (ms : List Marked) (n : ℕ) (m : Marked)
    (low : n < length ms) (is : m ≡ get_or ms n m) (start now : List AclRow)
    (before : now ≡ start ++ kept_of some row (views_of (take n ms))) where
  nothing : kept_of some row (row_view m.row.now ∷ []) ≡ []
      → now ≡ start ++ kept_of some row (views_of (take (n + 1) ms))
  nothing e =
      before
      ∙ ap (λ l. start ++ l) (sym (append-nil (kept_of some row (views_of (take n ms))))
      ∙ ap (λ l. kept_of some row (views_of (take n ms)) ++ l) (sym e)
      ∙ sym (kept_more some row ms n m low is))

  -- one is out
  pub left_out : is_among some (row_view m.row.now) ≡ true
      → now ≡ start ++ kept_of some row (views_of (take (n + 1) ms))
  left_out e = nothing (alone_out some row (row_view m.row.now) true e)

  -- one says the same as the row
  pub left_same : is_among some (row_view m.row.now) ≡ false
      → same_row (row_view m.row.now) row ≡ true
      → now ≡ start ++ kept_of some row (views_of (take (n + 1) ms))
  left_same e f = nothing (alone_out some row (row_view m.row.now) false e
      ∙ alone_same row (row_view m.row.now) true f)

  -- one is another row
  pub left_in : is_among some (row_view m.row.now) ≡ false
      → same_row (row_view m.row.now) row ≡ false → (after : List AclRow)
      → after ≡ now ++ row_view m.row.now ∷ []
      → after ≡ start ++ kept_of some row (views_of (take (n + 1) ms))
  left_in e f after g =
      g ∙ ap (λ l. l ++ row_view m.row.now ∷ []) before
      ∙ append_assoc start (kept_of some row (views_of (take n ms))) (row_view m.row.now ∷ [])
      ∙ ap (λ l. start ++ l)
      (ap (λ l. kept_of some row (views_of (take n ms)) ++ l)
      (sym (alone_out some row (row_view m.row.now) false e
      ∙ alone_same row (row_view m.row.now) false f))
      ∙ sym (kept_more some row ms n m low is))
