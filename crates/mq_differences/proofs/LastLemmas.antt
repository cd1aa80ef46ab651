-- Differences that are shown class by class.
use Rattle.std.proofs.Common.{◌≡◌, ◌<◌, ◌≤◌, ℕ, Bool, true, false, ◌||◌, List, [], ◌∷◌, ◌++◌}
use Rattle.std.proofs.Common.{All, refl, ap, sym, ◌∙◌, subst, arith, length, get_or, take, drop}
use Rattle.std.proofs.Common.{string_bytes, length-append}
use Rattle.std.specs.List.{list_any}
use Rattle.std.specs.Cmp.{IsTotalOrder}
use Rattle.std.specs.Cmp.Lexicographic.{slice_cmp}
use Rattle.std.specs.Ordering.{nat_cmp, is_eq, is_gt, ordering_reverse}
use Rattle.std.specs.declared.cmp.Ordering.{Ordering}
use Rattle.std.specs.declared.cmp.Ordering.TheVariants.{Less, Equal, Greater}
use Rattle.std.proofs.Math.ListN.{get_or-append}
use Rattle.std.proofs.Math.Seq.{get_or-append_seam, take-append_seam}
use Rattle.std.proofs.lemmas.Cmp.{nat_list_cmp_total, on_total, tied_itself}
use Rattle.std.proofs.lemmas.List.{take-append-le, take-append-drop, get_or_default}
use Rattle.std.proofs.lemmas.List.Elements.{All-push, All-nil}
use Rattle.std.proofs.lemmas.List.Folds.{list_any-append, list_any_none}
use Rattle.mq_topic.proofs.ByteLemmas.{text_is}
use Rattle.mq_differences.specs.Classes.{class_order, rank}
use Rattle.mq_differences.specs.Differences.{is_like, same_class}
use Rattle.mq_differences.specs.Reports.{IsLast}
use Rattle.mq_differences.specs.declared.class.Class.{Class}
use Rattle.mq_differences.specs.declared.class.Class.TheVariants.{Anonymous, User, Others}
use Rattle.mq_differences.specs.declared.difference.Difference.{Difference}

-- ---- the order of classes
class_total : IsTotalOrder class_order
class_total = on_total rank nat_list_cmp_total

same_rank : (a b : Class) → same_class a b ≡ true → rank a ≡ rank b
same_rank Anonymous Anonymous h = refl
same_rank Anonymous (User name) h = absurd (let k : false ≡ true = h in cc)
same_rank Anonymous (Others name) h = absurd (let k : false ≡ true = h in cc)
same_rank (User name) Anonymous h = absurd (let k : false ≡ true = h in cc)
same_rank (User name) (User other) h =
    ap (λ t. 0 ∷ t) (text_is (string_bytes name) (string_bytes other) h)
same_rank (User name) (Others other) h = absurd (let k : false ≡ true = h in cc)
same_rank (Others name) Anonymous h = absurd (let k : false ≡ true = h in cc)
same_rank (Others name) (User other) h = absurd (let k : false ≡ true = h in cc)
same_rank (Others name) (Others other) h = refl

-- two that stand otherwise to a third aren't the same
apart : (a b c : Class) (f : Ordering → Bool) → f (class_order a c) ≡ false
    → f (class_order b c) ≡ true → same_class a b ≡ false
apart a b c f x y = at (same_class a b) refl
  where
    at : (s : Bool) → same_class a b ≡ s → s ≡ false
    at true e = absurd (
        let k : false ≡ true = sym x ∙ ap (λ r. f (slice_cmp nat_cmp r (rank c))) (same_rank a b e)
        ∙ y in
        cc
        )
    at false e = refl

below : (a b c : Class) → is_gt (class_order a b) ≡ false → class_order c b ≡ Greater
    → class_order a c ≡ Less
below a b c h g = at (class_order a b) refl h
  where
    above : class_order b c ≡ Less
    above = class_total.antisymm b c ∙ ap ordering_reverse g

    at : (o : Ordering) → class_order a b ≡ o → is_gt o ≡ false → class_order a c ≡ Less
    at Less e h = class_total.trans a b c e above
    at Equal e h = class_total.congr a b c e ∙ above
    at Greater e h = absurd (let k : true ≡ false = h in cc)

pub not_greater : (o : Ordering) → (o ≡ Greater → ⊥) → is_gt o ≡ false
not_greater Less n = refl
not_greater Equal n = refl
not_greater Greater n = absurd (n refl)

-- ---- those that a difference may be like
unlike : (d e : Difference) → same_class d.class e.class ≡ false → is_like d e ≡ false
unlike d e h = rw h refl

none_like : (shown : List Difference) (d : Difference)
    → All (λ e. same_class e.class d.class ≡ false) shown
    → list_any (λ e. is_like e d) shown ≡ false
none_like shown d h =
    list_any_none (λ e. is_like e d) shown (λ k x low. unlike (get_or shown k x) d (h k x low))

pub like_behind : (shown : List Difference) (last : ℕ) (first d : Difference) → IsLast shown last
    → first ≡ get_or shown last first → class_order d.class first.class ≡ Equal
    → list_any (λ e. is_like e d) (drop last shown) ≡ list_any (λ e. is_like e d) shown
like_behind shown last first d s is o =
    sym (ap (list_any (λ e. is_like e d)) (sym (take-append-drop last shown))
    ∙ list_any-append (λ e. is_like e d) (take last shown) (drop last shown)
    ∙ ap (λ b. b || list_any (λ e. is_like e d) (drop last shown)) (none_like (take last shown) d
    (λ k x low. apart (get_or (take last shown) k x).class d.class first.class is_eq
    (ap is_eq (subst (λ f. class_order (get_or (take last shown) k x).class f.class ≡ Less) (sym is)
    (s.before first k x low))) (ap is_eq o))))

pub like_none : (shown : List Difference) (last : ℕ) (first d : Difference) → IsLast shown last
    → first ≡ get_or shown last first → class_order d.class first.class ≡ Greater
    → list_any (λ e. is_like e d) shown ≡ false
like_none shown last first d s is o =
    none_like shown d (λ k x low. apart (get_or shown k x).class d.class first.class is_gt
    (subst (λ f. is_gt (class_order (get_or shown k x).class f.class) ≡ false) (sym is)
    (s.none_behind first k x low)) (ap is_gt o))

-- ---- one more
itself : (d : Difference) → is_gt (class_order d.class d.class) ≡ false
itself d = ap is_gt (tied_itself class_total d.class)

-- it is of the same class, or of one before it
pub last_kept : (shown : List Difference) (last : ℕ) (first d : Difference) → IsLast shown last
    → last < length shown → first ≡ get_or shown last first
    → is_gt (class_order d.class first.class) ≡ false → IsLast (shown ++ d ∷ []) last
last_kept shown last first d s low is o = record {
  within = let n = length-append shown (d ∷ []) in omega arith;
  before = λ x. subst (All (λ e. class_order e.class (get_or (shown ++ d ∷ []) last x).class
      ≡ Less))
      (sym (take-append-le last shown (d ∷ []) (omega arith)))
      (subst (λ f. All (λ e. class_order e.class f.class ≡ Less) (take last shown)) (sym (same x))
      (s.before first));
  none_behind = λ x. subst
      (λ f. All (λ e. is_gt (class_order e.class f.class) ≡ false) (shown ++ d ∷ [])) (sym (same x))
      (All-push (λ e. is_gt (class_order e.class (get_or shown last first).class) ≡ false) shown d
      (s.none_behind first)
      (subst (λ f. is_gt (class_order d.class f.class) ≡ false) is o));
}
  where
    same : (x : Difference) → get_or (shown ++ d ∷ []) last x ≡ get_or shown last first
    same x = get_or-append shown (d ∷ []) x last low ∙ get_or_default shown last x first low

-- it is of one behind that
pub last_moved : (shown : List Difference) (last : ℕ) (first d : Difference) → IsLast shown last
    → first ≡ get_or shown last first → class_order d.class first.class ≡ Greater
    → IsLast (shown ++ d ∷ []) (length shown)
last_moved shown last first d s is o = record {
  within = let n = length-append shown (d ∷ []) in omega arith;
  before = λ x. subst
      (All (λ e. class_order e.class (get_or (shown ++ d ∷ []) (length shown) x).class ≡ Less))
      (sym (take-append_seam shown (d ∷ [])))
      (subst (λ f. All (λ e. class_order e.class f.class ≡ Less) shown) (sym (same x)) all);
  none_behind = λ x. subst
      (λ f. All (λ e. is_gt (class_order e.class f.class) ≡ false) (shown ++ d ∷ [])) (sym (same x))
      (All-push (λ e. is_gt (class_order e.class d.class) ≡ false) shown d
      (λ k y low. ap is_gt (all k y low)) (itself d));
}
  where
    same : (x : Difference) → get_or (shown ++ d ∷ []) (length shown) x ≡ d
    same x = get_or-append_seam shown d [] x

    all : All (λ e. class_order e.class d.class ≡ Less) shown
    all = λ k y low. below (get_or shown k y).class first.class d.class
        (subst (λ f. is_gt (class_order (get_or shown k y).class f.class) ≡ false) (sym is)
        (s.none_behind first k y low)) o

-- it is the first
pub last_begun : (shown : List Difference) (last : ℕ) (d : Difference) → IsLast shown last
    → length shown ≤ last → IsLast (shown ++ d ∷ []) last
last_begun [] last d s end = subst (IsLast (d ∷ [])) zero (record {
  within = omega arith;
  before = λ x. All-nil (λ e. class_order e.class d.class ≡ Less);
  none_behind = λ x. All-push (λ e. is_gt (class_order e.class d.class) ≡ false) [] d
      (All-nil (λ e. is_gt (class_order e.class d.class) ≡ false)) (itself d);
})
  where
    zero : 0 ≡ last
    zero = let low = s.within in omega arith
last_begun (e ∷ shown) last d s end = absurd (let low = s.within in omega arith)
