-- How many levels filters make.
use Rattle.std.proofs.Common.{◌≡◌, ◌∙◌, ◌&&◌, ◌||◌, ◌+◌, ◌≤◌, ◌<◌, ℕ, Bool, true, false, not, List, []}
use Rattle.std.proofs.Common.{◌∷◌, ◌++◌, Bor, ap, append_assoc, arith, bytes_eq, codes, get_or}
use Rattle.std.proofs.Common.{length, length-append, refl}
use Rattle.std.proofs.Common.{subst, sym, take}
use Rattle.std.specs.List.{list_any}
use Rattle.std.proofs.lemmas.List.{append-nil, map-append, take_more}
use Rattle.std.proofs.lemmas.List.Folds.{list_any-append}
use Rattle.mq_topic.proofs.ByteLemmas.{text_is}
use Rattle.mq_topic.specs.Levels.{levels}
use Rattle.mq_topic.specs.Texts.{contains_byte}
use Rattle.mq_acl.specs.Rows.{AclRow}
use Rattle.mq_acl.specs.Views.{row_view}
use Rattle.mq_acl.specs.declared.row.Row.{Row}
use Rattle.mq_unify.specs.Rows.{lent_rows}
use Rattle.mq_unify.specs.Clients.{made, made_levels}
use Rattle.mq_unify.proofs.MadeLemmas.{user_made}
use Rattle.mq_shapes.specs.Covered.{is_filled}
use Rattle.mq_shapes.specs.Few.{ArePlaced, AreWithin, BeginsMarked, IsPassed, IsPlaced, IsWithin}
use Rattle.mq_shapes.specs.Few.{LevelMakes}
use Rattle.mq_shapes.specs.Every.{has_client_mark}
use Rattle.mq_shapes.proofs.ApartLemmas.{unfilled}
use Rattle.mq_shapes.proofs.FilledLemmas.{single_levels}
use Rattle.mq_shapes.proofs.MarkLemmas.{is_client_mark}

-- ---- of one level
pub user_makes : (pattern : Bool) (user : ℕ) (l : List ℕ)
    → (pattern && bytes_eq l (codes "%u")) ≡ true → LevelMakes pattern user l user
user_makes false user l h = absurd (let n : false ≡ true = h in cc)
user_makes true user l h = λ client name e. ap length (user_made client name l h) ∙ e

pub one_makes : (pattern : Bool) (user : ℕ) (l : List ℕ) → not (contains_byte 47 l) ≡ true
    → is_filled pattern l ≡ false → LevelMakes pattern user l 1
one_makes pattern user l s h = λ client name e. ap length (unfilled pattern client name l s h)

-- ---- of the levels so far, and one more
pub passed_more : (pattern : Bool) (user : ℕ) (all ls : List (List ℕ)) (count : ℕ) (l : List ℕ)
    (rest : List (List ℕ)) (more next : ℕ) → ls ≡ l ∷ rest
    → (pattern && bytes_eq l (codes "%c")) ≡ false → LevelMakes pattern user l more
    → next ≡ count + more → IsPassed pattern user all count ls
    → IsPassed pattern user all next rest
passed_more pattern user all ls count l rest more next e c one sum so_far = record {
  before = so_far.before ++ l ∷ [];
  is = so_far.is ∙ ap (λ k. so_far.before ++ k) e ∙ sym (append_assoc so_far.before (l ∷ []) rest);
  none = ap (λ b. pattern && b) (list_any-append is_client_mark so_far.before (l ∷ []))
      ∙ by pattern (list_any is_client_mark so_far.before) (is_client_mark l) so_far.none c;
  long = λ client name k.
      let a = so_far.long client name k in
      let b = one client name k in
      ap length (made-append pattern client name so_far.before (l ∷ []))
      ∙ length-append (made_levels pattern client name so_far.before)
      (made pattern client name l ++ [])
      ∙ (λ i. a i + (ap length (append-nil (made pattern client name l)) ∙ b) i) ∙ sym sum;
}
  where
    by : (p a b : Bool) → (p && a) ≡ false → (p && b) ≡ false → (p && (a || (b || false))) ≡ false
    by false a b h k = refl
    by true true b h k = h
    by true false true h k = k
    by true false false h k = refl

    made-append : (pattern : Bool) (client name : List ℕ) (xs ys : List (List ℕ))
        → made_levels pattern client name (xs ++ ys)
        ≡ made_levels pattern client name xs ++ made_levels pattern client name ys
    made-append pattern client name [] ys = refl
    made-append pattern client name (x ∷ xs) ys =
        ap (λ k. made pattern client name x ++ k) (made-append pattern client name xs ys)
        ∙ sym (append_assoc (made pattern client name x) (made_levels pattern client name xs)
        (made_levels pattern client name ys))

-- ---- of a row with `%c`
pub placed_of : (user : ℕ) (ls : List (List ℕ)) (count : ℕ) (left : List (List ℕ)) (l : List ℕ)
    (after : List (List ℕ)) → IsPassed true user ls count left → BeginsMarked true left
    → left ≡ l ∷ after → list_any is_client_mark after ≡ false → IsPlaced user ls count
placed_of user ls count left l after passed begins e none = record {
  before = passed.before;
  after = after;
  is = passed.is ∙ ap (λ k. passed.before ++ k) (e ∙ ap (λ k. k ∷ after)
      (text_is l (codes "%c") (subst (BeginsMarked true) e begins)));
  none_before = passed.none;
  none_after = none;
  long = passed.long;
}

-- ---- of filters without `%c`
pub passed_whole : (pattern : Bool) (user : ℕ) (ls : List (List ℕ)) (count : ℕ)
    (left : List (List ℕ)) → (pattern && list_any is_client_mark ls) ≡ false
    → IsPassed pattern user ls count left → BeginsMarked pattern left → (client name : List ℕ)
    → length (levels name) ≡ user → length (made_levels pattern client name ls) ≡ count
passed_whole pattern user ls count [] none passed begins client name k =
    ap (λ fs. length (made_levels pattern client name fs)) (passed.is ∙ append-nil passed.before)
    ∙ passed.long client name k
passed_whole pattern user ls count (l ∷ left) none passed begins client name k =
    absurd (let n : false ≡ true =
    sym none ∙ ap (λ fs. pattern && list_any is_client_mark fs) passed.is
    ∙ ap (λ b. pattern && b) (list_any-append is_client_mark passed.before (l ∷ left))
    ∙ by pattern (list_any is_client_mark passed.before) (is_client_mark l)
    (list_any is_client_mark left) begins in cc)
  where
    by : (p a b d : Bool) → (p && b) ≡ true → (p && (a || (b || d))) ≡ true
    by false a b d h = h
    by true true b d h = refl
    by true false true d h = refl
    by true false false d h = absurd (let n : false ≡ true = h in cc)

-- a text as it is written
pub text_count : (ls : List (List ℕ)) (count : ℕ) (left : List (List ℕ))
    → IsPassed false 1 ls count left → BeginsMarked false left → count ≡ length ls
text_count ls count left passed begins =
    sym (passed_whole false 1 ls count left refl passed begins [] [] refl)
    ∙ sym (ap length (single_levels ls))

-- ---- of all rows
pub placed_more : (user place : ℕ) (rows : List AclRow) (row : AclRow) → ArePlaced user place rows
    → (has_client_mark row ≡ true → IsPlaced user (levels row.filter) place)
    → ArePlaced user place (rows ++ row ∷ [])
placed_more user place [] row all one = (one, tt)
placed_more user place (r ∷ rows) row all one = (all.0, placed_more user place rows row all.1 one)

pub within_more : (user limit next : ℕ) (rows : List AclRow) (row : AclRow) → limit ≤ next
    → AreWithin user limit rows → (has_client_mark row ≡ false → IsWithin user next row)
    → AreWithin user next (rows ++ row ∷ [])
within_more user limit next [] row low all one = (one, tt)
within_more user limit next (r ∷ rows) row low all one = (
  (λ c client name k. let most = all.0 c client name k in omega (arith, most, low)),
  within_more user limit next rows row low all.1 one,
)

pub within_less : (user limit next : ℕ) (rows : List AclRow) → limit ≤ next
    → AreWithin user limit rows → AreWithin user next rows
within_less user limit next [] low all = tt
within_less user limit next (r ∷ rows) low all = (
  (λ c client name k. let most = all.0 c client name k in omega (arith, most, low)),
  within_less user limit next rows low all.1,
)

-- the rows that are lent, and one more
pub lent_more : (rows : List (Bor Row)) (i : ℕ) (row : Bor Row) → i < length rows
    → row ≡ get_or rows i row
    → lent_rows (take (i + 1) rows) ≡ lent_rows (take i rows) ++ row_view row.now ∷ []
lent_more rows i row h e = ap lent_rows (take_more rows i row h)
    ∙ map-append (λ r. row_view r.now) (take i rows) (get_or rows i row ∷ [])
    ∙ ap (λ r. lent_rows (take i rows) ++ row_view r.now ∷ []) (sym e)
