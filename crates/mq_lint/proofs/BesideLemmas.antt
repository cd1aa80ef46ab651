-- What is shown of rows beside those that are called needless behind them.
use Rattle.std.proofs.Common.{◌≡◌, ◌<◌, ◌≤◌, ◌+◌, ℕ, suc, Bool, true, false, List, []}
use Rattle.std.proofs.Common.{◌∷◌, ◌++◌, Option, Some, None, length, get_or, set, drop, take, ltb}
use Rattle.std.proofs.Common.{inl, inr, refl, ap, sym, ◌∙◌, subst, arith}
use Rattle.std.specs.Prelude.{if◌then◌else◌, map}
use Rattle.std.proofs.lemmas.Bool.{ltb-true, ltb-false}
use Rattle.std.proofs.lemmas.List.{drop-map, drop-set, drop-set-lt, get_or-set_other, get_or-set_same}
use Rattle.std.proofs.lemmas.List.{length-set, map-append, take_all, take_more}
use Rattle.std.proofs.Math.Seq.{drop-cons, drop-length}
use Rattle.mq_acl.specs.AccessLists.{allow_by}
use Rattle.mq_acl.specs.Rows.{AclRow}
use Rattle.mq_acl.specs.Views.{row_view, row_views}
use Rattle.mq_acl.specs.declared.row.Row.{Row}
use Rattle.mq_acl.specs.declared.rules.Rules.{Rules}
use Rattle.mq_lint.specs.Needless.{AllowSame, AreNeedless, Differ, remarks_of_kinds}
use Rattle.mq_lint.specs.Needless.{IsBy, IsKind, IsKindUnless, called_behind}
use Rattle.mq_lint.specs.Needless.{called_of, is_needless, repeated, without, without_all}
use Rattle.mq_lint.specs.Kinds.{AreCalled, AreFirst, AreKinds}
use Rattle.mq_lint.specs.Kinds.{CalledFrom, IsBeside, IsBesideUnless, IsFirst, IsFirstUnless}
use Rattle.mq_lint.specs.Kinds.{called_with}
use Rattle.mq_lint.specs.declared.remark.Remark.{Remark}
use Rattle.mq_lint.specs.declared.remark.RemarkKind.{RemarkKind}
use Rattle.mq_lint.specs.declared.remark.RemarkKind.TheVariants.{Fault, NoMark, IndentedComment}
use Rattle.mq_lint.specs.declared.remark.RemarkKind.TheVariants.{Tab, Hidden, Repeats, DeniesNothing}
use Rattle.mq_lint.specs.declared.remark.RemarkKind.TheVariants.{Needless}
use Rattle.mq_lint.proofs.KindLemmas.{UpTo, same_item}
use Rattle.mq_lint.proofs.SameLemmas.{without_more, without_none}

-- ---- what the list allows without one row more
pub differs_beside : (rules : Rules) (all called : List AclRow) (row : AclRow)
    → AllowSame rules all (without_all called all)
    → Differ rules (without_all called all) (without row (without_all called all))
    → Differ rules all (without_all (called ++ row ∷ []) all)
differs_beside rules all called row same d = record {
  client = d.client;
  user = d.user;
  name = d.name;
  direction = d.direction;
  fits = d.fits;
  valid = d.valid;
  differs = λ e. d.differs (sym (same d.client d.name d.user d.direction d.fits d.valid) ∙ e
      ∙ ap (λ rows. allow_by rules rows d.client d.user d.name d.direction)
      (sym (without_more called row all)));
}

pub same_beside : (rules : Rules) (all called : List AclRow) (row : AclRow)
    → AllowSame rules all (without_all called all)
    → AllowSame rules (without_all called all) (without row (without_all called all))
    → AllowSame rules all (without_all (called ++ row ∷ []) all)
same_beside rules all called row same more client name user direction a v =
    same client name user direction a v ∙ more client name user direction a v
    ∙ ap (λ rows. allow_by rules rows client user name direction) (without_more called row all)

-- ---- what is shown of a row
module _ (rules : Rules) (rows : List Row) (called : List AclRow) (row : AclRow) where
  abbrev Beside : Option ℕ → Option RemarkKind → Type 0
  Beside o kind = IsBesideUnless rules rows called row o kind

  not_repeated : (line : ℕ) (kind : Option RemarkKind) → kind ≡ Some (Repeats line)
      → is_needless kind ≡ true → ⊥
  not_repeated line kind h e = let q : true ≡ false = sym e ∙ ap is_needless h in cc

  -- one that is needed by itself, or repeats another
  pub first_beside : (o : Option ℕ) (kind : Option RemarkKind) → IsFirstUnless rules rows row o kind
      → is_needless kind ≡ false → Beside o kind
  first_beside (Some line) kind h e = h
  first_beside None None h e = inl h
  first_beside None (Some DeniesNothing) h e = h
  first_beside None (Some (Needless by)) h e = absurd (let q : true ≡ false = e in cc)
  first_beside None (Some (Fault kind)) h e = h
  first_beside None (Some NoMark) h e = h
  first_beside None (Some IndentedComment) h e = h
  first_beside None (Some Tab) h e = h
  first_beside None (Some Hidden) h e = h
  first_beside None (Some (Repeats line)) h e = h

  -- one that is needed beside those
  pub kept_beside : (o : Option ℕ) (kind : Option RemarkKind) → IsFirstUnless rules rows row o kind
      → is_needless kind ≡ true
      → Differ rules (row_views rows) (without_all (called ++ row ∷ []) (row_views rows))
      → Beside o None
  kept_beside (Some line) kind h e d = absurd (not_repeated line kind h e)
  kept_beside None kind h e d = inr d

  -- one that isn't
  pub called_beside : (o : Option ℕ) (kind : Option RemarkKind) → IsFirstUnless rules rows row o kind
      → is_needless kind ≡ true
      → AllowSame rules (row_views rows) (without_all (called ++ row ∷ []) (row_views rows))
      → Beside o kind
  called_beside (Some line) kind h e s = absurd (not_repeated line kind h e)
  called_beside None None h e s = absurd (let q : false ≡ true = e in cc)
  called_beside None (Some (Needless by)) h e s = record { spare = h; beside = s }
  called_beside None (Some DeniesNothing) h e s = absurd (let q : false ≡ true = e in cc)
  called_beside None (Some (Fault kind)) h e s = absurd h
  called_beside None (Some NoMark) h e s = absurd h
  called_beside None (Some IndentedComment) h e s = absurd h
  called_beside None (Some Tab) h e s = absurd h
  called_beside None (Some Hidden) h e s = absurd h
  called_beside None (Some (Repeats line)) h e s = absurd h

  -- of one that is called needless the list without it too allows the same
  pub is_called : (o : Option ℕ) (kind : Option RemarkKind) → Beside o kind
      → is_needless kind ≡ true
      → AllowSame rules (row_views rows) (without_all (called ++ row ∷ []) (row_views rows))
  is_called (Some line) kind h e = absurd (not_repeated line kind h e)
  is_called None None h e = absurd (let q : false ≡ true = e in cc)
  is_called None (Some (Needless by)) h e = h.beside
  is_called None (Some DeniesNothing) h e = absurd (let q : false ≡ true = e in cc)
  is_called None (Some (Fault kind)) h e = absurd h
  is_called None (Some NoMark) h e = absurd h
  is_called None (Some IndentedComment) h e = absurd h
  is_called None (Some Tab) h e = absurd h
  is_called None (Some Hidden) h e = absurd h
  is_called None (Some (Repeats line)) h e = absurd h

  -- with what makes it needless
  pub made_kind : (behind : List AclRow) (o old by : Option ℕ)
      → IsBy rules rows called row by → IsBesideUnless rules rows behind row o (Some (Needless old))
      → IsKindUnless rules rows called behind row o (Some (Needless by))
  made_kind behind (Some line) old by m h =
      absurd (let q : true ≡ false = ap is_needless h in cc)
  made_kind behind None old by m h = record {
    denies_some = h.spare.denies_some;
    alone = h.spare.alone;
    beside = h.beside;
    makes = m;
  }

  -- one that isn't called so
  pub same_kind : (behind : List AclRow) (o : Option ℕ) (kind : Option RemarkKind)
      → is_needless kind ≡ false → IsBesideUnless rules rows behind row o kind
      → IsKindUnless rules rows called behind row o kind
  same_kind behind (Some line) kind e h = h
  same_kind behind None None e h = h
  same_kind behind None (Some DeniesNothing) e h = h
  same_kind behind None (Some (Needless by)) e h = absurd (let q : true ≡ false = e in cc)
  same_kind behind None (Some (Fault kind)) e h = h
  same_kind behind None (Some NoMark) e h = h
  same_kind behind None (Some IndentedComment) e h = h
  same_kind behind None (Some Tab) e h = h
  same_kind behind None (Some Hidden) e h = h
  same_kind behind None (Some (Repeats line)) e h = h

-- ---- from the last to the first
with_same : (rules : Rules) (rows : List Row) (called : List AclRow) (row : AclRow)
    (kind : Option RemarkKind) (b : Bool) → is_needless kind ≡ b
    → (is_needless kind ≡ true → AllowSame rules (row_views rows)
    (without_all (called ++ row ∷ []) (row_views rows)))
    → AllowSame rules (row_views rows) (without_all called (row_views rows))
    → AllowSame rules (row_views rows)
    (without_all (if b then called ++ row ∷ [] else called) (row_views rows))
with_same rules rows called row kind true e f s = f e
with_same rules rows called row kind false e f s = s

-- one more
pub one_back : (rules : Rules) (rows : List Row) (p : ℕ) (kinds after : List (Option RemarkKind))
    (called more : List AclRow) (row : Row) (kind : Option RemarkKind) → p < length rows
    → row ≡ get_or rows p row → after ≡ set kinds p kind
    → more ≡ called_with called (row_view row) kind → IsBeside rules rows called p row kind
    → CalledFrom rules rows (p + 1) kinds called → CalledFrom rules rows p after more
one_back rules rows p kinds after called more row kind low is e m here h =
    subst (λ l. CalledFrom rules rows p l more) (sym e)
    (subst (CalledFrom rules rows p (set kinds p kind)) (sym m) (record {
      count = length-set kinds p kind ∙ h.count;
      are =
          ap (λ l. called_with l (row_view row) kind) h.are
          ∙ sym ((λ i. called_of (front i) (drop-set kinds p kind inside i)));
      same = with_same rules rows called (row_view row) kind (is_needless kind) refl
          (is_called rules rows called (row_view row) (repeated rows p (row_view row)) kind here) h.same;
      before = λ k r d below in_range.
          subst (IsFirst rules rows k (get_or rows k r))
          (sym (get_or-set_other kinds p k kind d (λ same. absurd (omega arith))))
          (h.before k r d (omega arith) in_range);
      behind = λ k r d above in_range. at k r d above in_range (ltb p k) refl;
    }))
  where
    inside : p < length kinds
    inside = let count = h.count in omega arith

    front : drop p rows ≡ row ∷ drop (p + 1) rows
    front = drop-cons rows p row low ∙ (λ i. sym is i ∷ drop (next i) rows)
      where
        next : suc p ≡ p + 1
        next = omega arith

    rest : (k : ℕ) → p ≤ k → called_behind k rows (set kinds p kind) ≡ called_behind k rows kinds
    rest k above = ap (called_of (drop (k + 1) rows))
        (drop-set-lt (k + 1) kinds p kind (omega arith))

    at : (k : ℕ) (r : Row) (d : Option RemarkKind) → p ≤ k → k < length rows → (b : Bool)
        → ltb p k ≡ b → IsBeside rules rows (called_behind k rows (set kinds p kind)) k
        (get_or rows k r) (get_or (set kinds p kind) k d)
    at k r d above in_range true q =
        let over = ltb-true p k q in
        subst (λ l. IsBeside rules rows l k (get_or rows k r) (get_or (set kinds p kind) k d))
        (sym (rest k above))
        (subst (IsBeside rules rows (called_behind k rows kinds) k (get_or rows k r))
        (sym (get_or-set_other kinds p k kind d (λ same. absurd (omega arith))))
        (h.behind k r d (omega arith) in_range))
    at k r d above in_range false q =
        let under = ltb-false p k q in
        let same : p ≡ k = omega arith in
        subst (λ n. IsBeside rules rows (called_behind n rows (set kinds p kind)) n
        (get_or rows n r) (get_or (set kinds p kind) n d)) same
        (subst (λ l. IsBeside rules rows l p (get_or rows p r) (get_or (set kinds p kind) p d))
        (h.are ∙ sym (rest p (omega arith)))
        (subst (IsBeside rules rows called p (get_or rows p r))
        (sym (get_or-set_same kinds p kind d inside))
        (subst (λ (x : Row). IsBeside rules rows called p x kind)
        (is ∙ same_item rows p row r low) here)))

-- ---- which are called needless
pub same_called : (rows : List Row) (ks ls : List (Option RemarkKind))
    → map is_needless ks ≡ map is_needless ls → called_of rows ks ≡ called_of rows ls
same_called [] ks ls e = refl
same_called (r ∷ rs) [] [] e = refl
same_called (r ∷ rs) [] (l ∷ ls) e =
    absurd (let q : [] ≡ is_needless l ∷ map is_needless ls = e in cc)
same_called (r ∷ rs) (k ∷ ks) [] e =
    absurd (let q : is_needless k ∷ map is_needless ks ≡ [] = e in cc)
same_called (r ∷ rs) (k ∷ ks) (l ∷ ls) e =
    let q : is_needless k ∷ map is_needless ks ≡ is_needless l ∷ map is_needless ls = e in
    let head : is_needless k ≡ is_needless l = cc in
    let tail : map is_needless ks ≡ map is_needless ls = cc in
    let same = same_called rs ks ls tail in
    (λ i. if head i then same i ++ row_view r ∷ [] else same i)

pub same_behind : (n : ℕ) (rows : List Row) (ks ls : List (Option RemarkKind))
    → map is_needless ks ≡ map is_needless ls → called_behind n rows ks ≡ called_behind n rows ls
same_behind n rows ks ls e = same_called (drop (n + 1) rows) (drop (n + 1) ks) (drop (n + 1) ls)
    (sym (drop-map is_needless (n + 1) ks) ∙ ap (drop (n + 1)) e ∙ drop-map is_needless (n + 1) ls)

-- none is called so yet
pub begun : (rules : Rules) (rows : List Row) (n : ℕ) (kinds : List (Option RemarkKind))
    (called : List AclRow) → called ≡ [] → length kinds ≡ length rows → n ≡ length rows
    → AreFirst rules rows kinds → CalledFrom rules rows n kinds called
begun rules rows n kinds called none count end first =
    subst (λ m. CalledFrom rules rows m kinds called) (sym end)
    (subst (CalledFrom rules rows (length rows) kinds) (sym none) (record {
      count = count;
      are = ap (λ l. called_of l (drop (length rows) kinds)) (sym (drop-length rows));
      same = λ client name user direction a v.
          ap (λ l. allow_by rules l client user name direction) (sym (without_none (row_views rows)));
      before = λ k r d below in_range. first k r d in_range;
      behind = λ k r d above in_range. absurd (omega arith);
    }))

-- ---- all of them
abbrev pub IsMadeOf : Rules → List Row → List (Option RemarkKind) → List AclRow → ℕ → Row
    → Option RemarkKind → Type 0
IsMadeOf rules rows kinds called place row kind = (behind : List AclRow)
    → IsBeside rules rows behind place row (get_or kinds place None)
    → IsKind rules rows called behind place row kind

pub all_made : (rules : Rules) (rows : List Row) (kinds all : List (Option RemarkKind))
    (called : List AclRow) → AreCalled rules rows kinds called
    → UpTo (IsMadeOf rules rows kinds called) rows (length rows) all
    → map is_needless all ≡ map is_needless kinds → AreKinds rules rows all
all_made rules rows kinds all called are made flags = record {
  count = made.count;
  each = λ place row kind low.
      subst (λ l. IsKind rules rows l (called_behind place rows all) place (get_or rows place row)
      (get_or all place kind)) same
      (subst (λ l. IsKind rules rows called l place (get_or rows place row) (get_or all place kind))
      (same_behind place rows kinds all (sym flags))
      (made.each place row kind low low (called_behind place rows kinds)
      (are.behind place row None (omega arith) low)));
  together = subst (λ l. AllowSame rules (row_views rows)
      (without_all l (row_views rows))) same are.same;
}
  where
    same : called ≡ called_of rows all
    same = are.are ∙ same_called rows kinds all (sym flags)

pub flags_more : (kinds all after : List (Option RemarkKind)) (n : ℕ) (kind made : Option RemarkKind)
    → n < length kinds → kind ≡ get_or kinds n kind → is_needless made ≡ is_needless kind
    → after ≡ all ++ made ∷ [] → map is_needless all ≡ map is_needless (take n kinds)
    → map is_needless after ≡ map is_needless (take (n + 1) kinds)
flags_more kinds all after n kind made low is same e before =
    ap (map is_needless) e
    ∙ map-append is_needless all (made ∷ [])
    ∙ (λ i. before i ++ same i ∷ [])
    ∙ sym (map-append is_needless (take n kinds) (kind ∷ []))
    ∙ ap (map is_needless) (ap (λ k. take n kinds ++ k ∷ []) is ∙ sym (take_more kinds n kind low))

pub flags_done : (kinds all : List (Option RemarkKind)) (n : ℕ) → length kinds ≤ n
    → map is_needless all ≡ map is_needless (take n kinds)
    → map is_needless all ≡ map is_needless kinds
flags_done kinds all n end h = h ∙ ap (map is_needless) (take_all n kinds end)

-- what is shown of the list
pub shown_of : (own rules : Rules) (mine rows : List Row) (kinds : List (Option RemarkKind))
    (shown : List Remark) → own ≡ rules → mine ≡ rows → AreKinds own mine kinds
    → shown ≡ remarks_of_kinds rows kinds → AreNeedless rules rows shown
shown_of own rules mine rows kinds shown same are k e =
    let here : AreKinds rules rows kinds = subst (λ (r : Rules). AreKinds r rows kinds) same
    (subst (λ l. AreKinds own l kinds) are k) in
    record {
      kinds = kinds;
      all = here.count;
      each = here.each;
      together = here.together;
      remarks = e;
    }
