-- What is shown of each row.
use Rattle.std.proofs.Common.{◌≡◌, ◌<◌, ◌+◌, ℕ, zero, suc, Bool, true, false, List, [], ◌∷◌}
use Rattle.std.proofs.Common.{◌++◌, Option, Contains, length, get_or, ltb, refl, ap, sym}
use Rattle.std.proofs.Common.{◌∙◌, subst, arith, length-append, Result, Ok, Err, IfErr}
use Rattle.std.specs.Result.{IsErrAnd}
use Rattle.std.proofs.lemmas.Bool.{ltb-true, ltb-false}
use Rattle.std.proofs.lemmas.List.Elements.{All-contains_itself}
use Rattle.mq_differences.proofs.FirstLemmas.{All-unmap}
use Rattle.mq_acl.specs.Views.{line_views}
use Rattle.mq_acl.specs.declared.row.Row.{Row}
use Rattle.mq_acl.specs.declared.rules.Rules.{Rules}
use Rattle.mq_lint.specs.NeedlessFault.{IsStop, IsStopIn, IsNeedlessFault}
use Rattle.mq_differences.specs.Steps.{enough_steps}
use Rattle.mq_lint.specs.declared.fault.NeedlessFault.{NeedlessFault}
use Rattle.mq_lint.specs.declared.fault.NeedlessFault.TheVariants.{Memory, Line, Mark, GaveUp}
use Rattle.mq_lint.specs.declared.remark.RemarkKind.{RemarkKind}

-- what is shown of the first rows
pub record UpTo (P : ℕ → Row → Option RemarkKind → Type 0) (rows : List Row) (n : ℕ)
    (kinds : List (Option RemarkKind)) : Type 0 where
  pub count : length kinds ≡ n
  pub each : (place : ℕ) (row : Row) (kind : Option RemarkKind) → place < n → place < length rows
      → P place (get_or rows place row) (get_or kinds place kind)

at_end : {X : Type 0} (xs : List X) (x d : X) (n : ℕ) → length xs ≡ n
    → get_or (xs ++ x ∷ []) n d ≡ x
at_end [] x d n e = rw (← e) refl
at_end (y ∷ ys) x d zero e = absurd (omega arith)
at_end (y ∷ ys) x d (suc n) e = at_end ys x d n (omega arith)

before_end : {X : Type 0} (xs : List X) (x d : X) (n : ℕ) → n < length xs
    → get_or (xs ++ x ∷ []) n d ≡ get_or xs n d
before_end [] x d n low = absurd (omega arith)
before_end (y ∷ ys) x d zero low = refl
before_end (y ∷ ys) x d (suc n) low = before_end ys x d n (omega arith)

pub same_item : {X : Type 0} (xs : List X) (k : ℕ) (a b : X) → k < length xs
    → get_or xs k a ≡ get_or xs k b
same_item [] k a b h = absurd (omega arith)
same_item (x ∷ xs) zero a b h = refl
same_item (x ∷ xs) (suc k) a b h = same_item xs k a b (omega arith)

pub one_more : (P : ℕ → Row → Option RemarkKind → Type 0) (rows : List Row) (n : ℕ)
    (kinds after : List (Option RemarkKind)) (row : Row) (kind : Option RemarkKind)
    → after ≡ kinds ++ kind ∷ [] → n < length rows → row ≡ get_or rows n row → P n row kind
    → UpTo P rows n kinds → UpTo P rows (n + 1) after
one_more P rows n kinds after row kind e low is here k = record {
  count = ap length e ∙ length-append kinds (kind ∷ []) ∙ ap (λ m. m + 1) k.count;
  each = λ place r d below in_range. at place r d below in_range (ltb place n) refl;
}
  where
    at : (place : ℕ) (r : Row) (d : Option RemarkKind) → place < n + 1 → place < length rows
        → (b : Bool) → ltb place n ≡ b → P place (get_or rows place r) (get_or after place d)
    at place r d below in_range true q =
        let low = ltb-true place n q in
        let count = k.count in
        subst (P place (get_or rows place r))
        (sym (ap (λ l. get_or l place d) e ∙ before_end kinds kind d place (omega arith)))
        (k.each place r d low in_range)
    at place r d below in_range false q =
        let above = ltb-false place n q in
        let same : n ≡ place = omega arith in
        subst (λ p. P p (get_or rows p r) (get_or after p d)) same
        (subst (P n (get_or rows n r))
        (sym (ap (λ l. get_or l n d) e ∙ at_end kinds kind d n k.count))
        (subst (λ x. P n x kind) (is ∙ same_item rows n row r low) here))

-- ---- what stops it
line_inside : (rows : List Row) (n : ℕ) (row : Row) → n < length rows → row ≡ get_or rows n row
    → Contains (line_views rows) row.line
line_inside rows n row low is =
    subst (λ (r : Row). Contains (line_views rows) r.line) (sym is)
    (All-unmap (Contains (line_views rows)) (λ (r : Row). r.line) rows
    (All-contains_itself (line_views rows)) n row low)

-- that shows what there is to show of the list
pub fault_of_stop : (rules : Rules) (rows : List Row) (steps : ℕ) (limited : Bool)
    (fault : NeedlessFault) → (limited ≡ true → steps < enough_steps (length rows))
    → IsStopIn rows limited fault → IsNeedlessFault rules rows steps fault
fault_of_stop rules rows steps limited Memory few h = tt
fault_of_stop rules rows steps limited (Line line) few h = absurd h
fault_of_stop rules rows steps limited (Mark line) few h = absurd h
fault_of_stop rules rows steps limited (GaveUp line others) few h = (h.0, few h.1)

-- the fault that is handed on
pub handed_on : {T : Type 0} (r : Result T NeedlessFault) (fault : NeedlessFault)
    (Q : NeedlessFault → Type 0) → IsErrAnd r (λ other. other ≡ fault) → Q fault → IfErr r Q
handed_on (Ok v) fault Q is q = tt
handed_on (Err other) fault Q is q = rw is q

-- it is shown of a row of the list
pub stop_in : (rows : List Row) (limited : Bool) (n : ℕ) (row : Row) (fault : NeedlessFault)
    → n < length rows → row ≡ get_or rows n row → IsStop row.line limited fault
    → IsStopIn rows limited fault
stop_in rows limited n row Memory low is h = tt
stop_in rows limited n row (Line line) low is h = absurd h
stop_in rows limited n row (Mark line) low is h = absurd h
stop_in rows limited n row (GaveUp line others) low is h =
    (subst (Contains (line_views rows)) (sym h.0) (line_inside rows n row low is), h.1)
