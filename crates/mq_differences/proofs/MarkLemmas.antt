-- Rows that are marked.
use Rattle.std.proofs.Common.{◌≡◌, ◌+◌, ◌<◌, ℕ, zero, suc, drop, Bool, true, false, List, [], ◌∷◌, ◌++◌, All, length}
use Rattle.std.proofs.Common.{take, get_or, ltb, refl, ap, sym, ◌∙◌, arith, length-append}
use Rattle.std.proofs.lemmas.Bool.{ltb-true, ltb-false}
use Rattle.std.proofs.lemmas.List.{get_or_append_left, get_or_push, length_push, map-append}
use Rattle.std.proofs.lemmas.List.{take_more}
use Rattle.std.proofs.lemmas.List.Elements.{All-nil, All-push}
use Rattle.std.proofs.lemmas.List.Folds.{list_any_at}
use Rattle.mq_acl.specs.Rows.{AclRow}
use Rattle.mq_acl.specs.Views.{row_view, row_views}
use Rattle.mq_acl.specs.declared.row.Row.{Row}
use Rattle.mq_differences.specs.Marks.{ArePlaced, IsKept, does_as_much, has_twin, rows_of}
use Rattle.mq_differences.specs.Questions.{IsSplit}
use Rattle.mq_differences.specs.declared.marks.Marked.{Marked}
use Rattle.mq_differences.proofs.FirstLemmas.{parts_at}
use Rattle.mq_differences.proofs.JudgeLemmas.{any_views}

-- the first rows, marked
pub record AreMarkedTo (rows others : List Row) (n : ℕ) (all : List Marked) : Type 0 where
  pub are : rows_of all ≡ take n rows
  pub count : length all ≡ n
  pub placed : ArePlaced all
  pub kept : All (IsKept (row_views others)) all

-- a row of the list that does as much
pub twin_at : (rows : List Row) (i : ℕ) (other : Row) (row : AclRow) → i < length rows
    → other ≡ get_or rows i other → does_as_much row (row_view other) ≡ true
    → has_twin (row_views rows) row ≡ true
twin_at rows i other row low is d =
    any_views (does_as_much row) rows
    ∙ list_any_at (λ (r : Row). does_as_much row (row_view r)) rows i other low
    (ap (λ (r : Row). does_as_much row (row_view r)) (sym is) ∙ d)

-- ---- marked row by row
placed_one : (all : List Marked) (m : Marked) → ArePlaced all → m.place ≡ length all
    → ArePlaced (all ++ m ∷ [])
placed_one all m s e k d low =
    at (ltb k (length all)) refl
  where
    at : (b : Bool) → ltb k (length all) ≡ b → (get_or (all ++ m ∷ []) k d).place ≡ k
    at true h = ap (λ (x : Marked). x.place)
        (get_or_append_left all (m ∷ []) d k (ltb-true k (length all) h))
        ∙ s k d (ltb-true k (length all) h)
    at false h =
        let last : k ≡ length all = omega (arith, length-append all (m ∷ []), ltb-false k (length all) h) in
        ap (λ j. (get_or (all ++ m ∷ []) j d).place) last
        ∙ ap (λ (x : Marked). x.place) (get_or_push all m d (length all) refl) ∙ e ∙ sym last

pub marked_none : (rows others : List Row) → AreMarkedTo rows others 0 []
marked_none rows others = record {
  are = refl;
  count = refl;
  placed = λ k m low. absurd (omega arith);
  kept = All-nil (IsKept (row_views others));
}

pub marked_one : (rows others : List Row) (n : ℕ) (all : List Marked) (m : Marked)
    → n < length rows → m.row.now ≡ get_or rows n m.row.now → m.place ≡ n
    → IsKept (row_views others) m → AreMarkedTo rows others n all
    → AreMarkedTo rows others (n + 1) (all ++ m ∷ [])
marked_one rows others n all m low row place kept s = record {
  are = map-append (λ (m : Marked). m.row.now) all (m ∷ [])
      ∙ (λ i. s.are i ++ (row i ∷ []))
      ∙ sym (take_more rows n m.row.now low);
  count = length_push all m ∙ ap (λ k. k + 1) s.count;
  placed = placed_one all m s.placed (place ∙ sym s.count);
  kept = All-push (IsKept (row_views others)) all m s.kept kept;
}

-- a row of a list stands behind those before it
pub split_at : (ms : List Marked) (place : ℕ) (m : Marked) → place < length ms
    → m ≡ get_or ms place m → IsSplit ms (take place ms) m.row.now
split_at ms place m low is = record {
  after = rows_of (drop (suc place) ms);
  is = ap rows_of (parts_at ms place m low)
      ∙ map-append (λ (x : Marked). x.row.now) (take place ms)
      (get_or ms place m ∷ drop (suc place) ms)
      ∙ ap (λ (x : Marked). rows_of (take place ms) ++ (x.row.now ∷ rows_of (drop (suc place) ms)))
      (sym is);
}

-- whatever stands for a row past the end
pub get_same : (rows : List Marked) (k : ℕ) (a b : Marked) → k < length rows
    → get_or rows k a ≡ get_or rows k b
get_same [] k a b h = absurd (omega arith)
get_same (r ∷ rs) zero a b h = refl
get_same (r ∷ rs) (suc k) a b h = get_same rs k a b (omega arith)
