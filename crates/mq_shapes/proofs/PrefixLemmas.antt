-- Texts that no row names.
use Rattle.std.proofs.Common.{◌≡◌, ◌≤◌, ◌<◌, ◌==◌, ℕ, Bool, true, false, not, List, [], ◌∷◌, ◌++◌}
use Rattle.std.proofs.Common.{◌||◌, ◌&&◌, refl, ap, sym, ◌∙◌, arith, length, ◌+◌, codes, replicate}
use Rattle.std.proofs.Common.{zero, suc, bytes_eq, length-append, append_assoc}
use denote.Ref.{Bor}
use Rattle.std.specs.Prelude.{if◌then◌else◌, nat_eq, nat_le}
use Rattle.std.specs.List.{list_all, list_any, onto_first, starts_with}
use Rattle.std.proofs.lemmas.Bool.{and_from, and_parts, false_from_ne_true, le-leb, leb-true}
use Rattle.std.proofs.lemmas.Bool.{or_parts, or_right}
use Rattle.std.proofs.Math.Dec.{eqb-suc-zero}
use Rattle.std.proofs.lemmas.Int.Digits.{length-digits_of-le}
use Rattle.std.specs.Int.Digits.{digits_of}
use Rattle.std.proofs.lemmas.List.{length-map, length-replicate, replicate_more}
use Rattle.std.proofs.lemmas.List.Folds.{list_any-append}
use Rattle.mq_topic.proofs.ByteLemmas.{text_is}
use Rattle.mq_topic.specs.Levels.{is_slash, levels}
use Rattle.mq_topic.specs.Texts.{contains_byte}
use Rattle.mq_acl.specs.Access.{begins_with_dollar}
use Rattle.mq_acl.specs.Rows.{Who, Anonymous, Named, Everyone, AclRow}
use Rattle.mq_acl.specs.Views.{row_view, row_views}
use Rattle.mq_acl.specs.declared.row.Row.{Row}
use Rattle.mq_acl.proofs.RefusedLemmas.{other_own, other_shared}
use Rattle.mq_cover.specs.Choices.{other_at}
use Rattle.mq_cover.specs.Names.{are_others, can_be_level, fits_start, is_choice, is_name_level}
use Rattle.mq_cover.specs.Remainders.{fits}
use Rattle.mq_cover.specs.declared.others.Others.{Others}
use Rattle.mq_cover.specs.declared.start.Start.{Start}
use Rattle.mq_cover.specs.declared.start.Start.TheVariants.{Plain, Dollar, Readable, Writable}
use Rattle.mq_cover.specs.declared.start.Start.TheVariants.{Slash, Inside}
use Rattle.mq_shapes.specs.Prefix.{AreShort, IsPadded, all_rows, is_short, is_usable, list_begins}
use Rattle.mq_shapes.specs.Prefix.{owner_begins, row_begins, short_owner, some_begins}
use Rattle.mq_shapes.proofs.RowLemmas.{any-map}
use Rattle.mq_unify.specs.Unlike.{FreshPass, fresh_text}
use Rattle.mq_unify.proofs.StandsLemmas.{fresh_level}
use Rattle.mq_unify.proofs.UnlikeLemmas.{figures, fresh_longer}

-- one of several lists has such a row just where one of all their rows is such
pub begun : (prefix : List ℕ) (lists : List (Bor (List Row)))
    → list_any (λ rows. list_begins prefix rows.now) lists ≡ some_begins prefix (all_rows lists)
begun prefix [] = refl
begun prefix (rows ∷ lists) =
    (λ i. sym (any-map (row_begins prefix) row_view rows.now) i || begun prefix lists i)
    ∙ sym (list_any-append (row_begins prefix) (row_views rows.now) (all_rows lists))

-- one more `x` behind a base
pub padded_more : (base : List ℕ) (n : ℕ)
    → (base ++ replicate n 120) ++ 120 ∷ [] ≡ base ++ replicate (n + 1) 120
padded_more base n = append_assoc base (replicate n 120) (120 ∷ [])
    ∙ ap (λ t. base ++ t) (replicate_more n 120)

-- ---- such a text can be a level
many_lack : (b n : ℕ) → (120 == b) ≡ false → contains_byte b (replicate n 120) ≡ false
many_lack b zero h = refl
many_lack b (suc n) h = (λ i. h i || many_lack b n h i)

made_lacks : (b : ℕ) (base text : List ℕ) → (120 == b) ≡ false → not (contains_byte b base) ≡ true
    → IsPadded base text → not (contains_byte b text) ≡ true
made_lacks b base text n h m = grind (arith, list_any-append, many_lack)

made_size : (base text : List ℕ) → IsPadded base text → length text ≤ length base + 301
made_size base text m =
    let size = ap length m.is ∙ length-append base (replicate m.count 120)
    ∙ ap (λ n. length base + n) (length-replicate m.count 120) in
    omega (arith, size, m.few)

made_level : (base text : List ℕ) → can_be_level base ≡ true → IsPadded base text
    → can_be_level text ≡ true
made_level base text h m = grind (arith, made_lacks)

level_of : (base text : List ℕ) → can_be_level base ≡ true → length base ≤ 2 → IsPadded base text
    → is_name_level text ≡ true
level_of base text h short m =
    and_from (can_be_level text) _ (made_level base text h m)
    (le-leb (length text) 321 (omega (arith, made_size base text m)))

apart : (s t : List ℕ) → (s ≡ t → ⊥) → not (bytes_eq s t) ≡ true
apart s t h = ap not (false_from_ne_true (bytes_eq s t) (λ e. h (text_is s t e)))

-- those with a number behind it can be chosen, where they aren't those that stand for others
fresh_choice : (o : Others) (base prefix : List ℕ) → can_be_level base ≡ true → length base ≤ 2
    → IsPadded base prefix → ((n : ℕ) → not (bytes_eq (fresh_text prefix n) o.plain.now) ≡ true)
    → ((n : ℕ) → not (bytes_eq (fresh_text prefix n) o.dollar.now) ≡ true)
    → FreshPass prefix (is_choice o)
fresh_choice o base prefix level short m p d n h =
    let few = length-digits_of-le 10 5 (n + 1) (omega arith) (omega arith) in
    let size = length-append prefix (figures (n + 1)) in
    let same = length-map (digits_of 10 (n + 1)) (λ x. 48 + x) in
    let most = made_size base prefix m in
    and_from _ _ (and_from _ _ (and_from _ _
    (fresh_level prefix n (made_level base prefix level m))
    (le-leb (length (fresh_text prefix n)) 321 (omega (arith, few, size, same, most))))
    (p n)) (d n)

-- ---- both of them
module _ (o : Others) (p : IsPadded (codes "x") o.plain.now)
    (d : IsPadded (codes "$x") o.dollar.now) where
  writable : (more : List ℕ) → fits_start Writable (36 ∷ (120 ∷ more)) ≡ true
  writable more = and_from _ _ refl
      (and_from _ _ (ap not (other_shared 120 more refl)) (ap not (other_own 120 more refl)))

  pub others_fit : are_others o ≡ true
  others_fit =
      and_from _ _ (and_from _ _ (and_from _ _ (and_from _ _
      (ap (λ t. not (length t == 0)) p.is
      ∙ ap not (eqb-suc-zero (length (replicate p.count 120))))
      (ap (λ t. not (begins_with_dollar t)) p.is))
      (level_of (codes "x") o.plain.now refl (omega arith) p))
      (ap (fits_start Writable) d.is ∙ writable (replicate d.count 120)))
      (level_of (codes "$x") o.dollar.now refl (omega arith) d)

  -- a name may begin with it, whatever follows
  pub begins_so : (start : Start) (rest : List ℕ)
      → fits_start start (other_at start o ++ rest) ≡ true
  begins_so Plain rest = ap (λ t. not (begins_with_dollar (t ++ rest))) p.is
  begins_so Dollar rest = ap (λ t. begins_with_dollar (t ++ rest)) d.is
  begins_so Readable rest = ap (λ t. fits_start Readable (t ++ rest)) d.is
      ∙ and_from _ _ refl (ap not (other_shared 120 (replicate d.count 120 ++ rest) refl))
  begins_so Writable rest = ap (λ t. fits_start Writable (t ++ rest)) d.is
      ∙ writable (replicate d.count 120 ++ rest)
  begins_so Slash rest = refl
  begins_so Inside rest = refl

  plain_fresh : FreshPass o.plain.now (is_choice o)
  plain_fresh = fresh_choice o (codes "x") o.plain.now refl (omega arith) p
      (λ n. apart _ _ (fresh_longer o.plain.now n))
      (λ n. (λ i. not (bytes_eq (p.is i ++ figures (n + 1)) (d.is i))))

  dollar_fresh : FreshPass o.dollar.now (is_choice o)
  dollar_fresh = fresh_choice o (codes "$x") o.dollar.now refl (omega arith) d
      (λ n. (λ i. not (bytes_eq (d.is i ++ figures (n + 1)) (p.is i))))
      (λ n. apart _ _ (fresh_longer o.dollar.now n))

  pub fresh_so : (start : Start) → FreshPass (other_at start o) (is_choice o)
  fresh_so Plain = plain_fresh
  fresh_so Dollar = dollar_fresh
  fresh_so Readable = dollar_fresh
  fresh_so Writable = dollar_fresh
  fresh_so Slash = plain_fresh
  fresh_so Inside = plain_fresh

-- ---- levels that begin with neither
-- tests that levels pass
pub fits_all : (test : List ℕ → Bool) (ls : List (List ℕ)) → list_all test ls ≡ true
    → fits test ls ≡ true
fits_all test [] h = refl
fits_all test (l ∷ ls) h =
    let parts = and_parts (test l) (list_all test ls) h in
    and_from _ _
    (or_right (bytes_eq l (codes "+") || (bytes_eq l (codes "#") && (length ls == 0))) _ parts.0)
    (fits_all test ls parts.1)

pub fits_by : (p q r : List ℕ → Bool) → ((l : List ℕ) → p l ≡ true → q l ≡ true → r l ≡ true)
    → (ls : List (List ℕ)) → fits p ls ≡ true → fits q ls ≡ true → fits r ls ≡ true
fits_by p q r by [] h k = refl
fits_by p q r by (l ∷ ls) h k = grind (arith, fits_by p q r by ls, by)

pub none_all : {X : Type 0} (test : X → Bool) (xs : List X) → list_any test xs ≡ false
    → list_all (λ x. not (test x)) xs ≡ true
none_all test [] h = refl
none_all test (x ∷ xs) h =
    let parts = or_parts (test x) (list_any test xs) h in
    and_from _ _ (ap not parts.0) (none_all test xs parts.1)

-- ---- the limit
is_like_short : (l prefix : List ℕ) → starts_with nat_eq l prefix ≡ true
    → length prefix ≤ length l
is_like_short l [] h = omega arith
is_like_short [] (b ∷ bs) h = absurd (cc)
is_like_short (x ∷ xs) (b ∷ bs) h =
    let more = is_like_short xs bs (and_parts (nat_eq b x) _ h).1 in omega (arith, more)

abbrev all_most : ℕ → List (List ℕ) → Bool
all_most n ls = list_all (λ l. nat_le (length l) n) ls

all_more : (m n : ℕ) → m ≤ n → (ls : List (List ℕ)) → all_most m ls ≡ true → all_most n ls ≡ true
all_more m n h [] k = refl
all_more m n h (l ∷ ls) k =
    let parts = and_parts (nat_le (length l) m) (all_most m ls) k in
    let short = leb-true (length l) m parts.0 in
    and_from _ _ (le-leb (length l) n (omega (arith, short))) (all_more m n h ls parts.1)

-- no level is longer than the text
pub levels_most : (n : ℕ) (text : List ℕ) → length text ≤ n → all_most n (levels text) ≡ true
levels_most n [] h = and_from _ _ (le-leb 0 n (omega arith)) refl
levels_most n (x ∷ xs) h =
    by (is_slash x) (levels xs) (levels_most (length xs) xs (omega arith))
  where
    by : (b : Bool) (ls : List (List ℕ)) → all_most (length xs) ls ≡ true
        → all_most n (if b then ([] ∷ ls) else onto_first x ls) ≡ true
    by true ls k = and_from _ _ (le-leb 0 n (omega arith))
        (all_more (length xs) n (omega arith) ls k)
    by false [] k = and_from _ _ (le-leb 1 n (omega arith)) refl
    by false (l ∷ ls) k =
        let parts = and_parts (nat_le (length l) (length xs)) (all_most (length xs) ls) k in
        let short = leb-true (length l) (length xs) parts.0 in
        and_from _ _ (le-leb (suc (length l)) n (omega (arith, short)))
        (all_more (length xs) n (omega arith) ls parts.1)

-- a text that is longer than each of them begins none
module _ (n : ℕ) (prefix : List ℕ) (long : n < length prefix) where
  longer_not : (l : List ℕ) → length l ≤ n → starts_with nat_eq l prefix ≡ false
  longer_not l h = false_from_ne_true (starts_with nat_eq l prefix)
      (λ e. let k = is_like_short l prefix e in absurd (omega (arith, k)))

  none_longer : (ls : List (List ℕ)) → all_most n ls ≡ true
      → list_any (λ l. starts_with nat_eq l prefix) ls ≡ false
  none_longer [] h = refl
  none_longer (l ∷ ls) h =
      let parts = and_parts (nat_le (length l) n) (all_most n ls) h in
      (λ i. longer_not l (leb-true (length l) n parts.0) i || none_longer ls parts.1 i)

-- wildcards are short too
plus_short : (l : List ℕ) → bytes_eq l (codes "+") ≡ true → nat_le (length l) 300 ≡ true
plus_short l e = ap (λ t. nat_le (length t) 300) (text_is l (codes "+") e)

hash_short : (l : List ℕ) → bytes_eq l (codes "#") ≡ true → nat_le (length l) 300 ≡ true
hash_short l e = ap (λ t. nat_le (length t) 300) (text_is l (codes "#") e)

fits_most : (ls : List (List ℕ)) → fits (λ l. can_be_level l && is_short l) ls ≡ true
    → all_most 300 ls ≡ true
fits_most [] h = refl
fits_most (l ∷ ls) h = grind (arith, fits_most ls, plus_short, hash_short)

owner_short : (prefix : List ℕ) (who : Who) → 300 < length prefix → short_owner who ≡ true
    → owner_begins prefix who ≡ false
owner_short prefix Anonymous long h = refl
owner_short prefix (Named name) long h =
    none_longer 300 prefix long (levels name) (levels_most 300 name (leb-true (length name) 300 h))
owner_short prefix Everyone long h = refl

row_short : (prefix : List ℕ) (row : AclRow) → 300 < length prefix → is_usable row ≡ true
    → row_begins prefix row ≡ false
row_short prefix row long h =
    let parts = and_parts (fits (λ l. can_be_level l && is_short l) (levels row.filter))
    (short_owner row.who) h in
    (λ i. none_longer 300 prefix long (levels row.filter) (fits_most (levels row.filter) parts.0) i
    || owner_short prefix row.who long parts.1 i)

-- usable rows are short
pub are_short : (rows : List AclRow) → list_all is_usable rows ≡ true → AreShort rows
are_short [] h prefix long = refl
are_short (row ∷ rows) h prefix long =
    let parts = and_parts (is_usable row) (list_all is_usable rows) h in
    (λ i. row_short prefix row long parts.0 i || are_short rows parts.1 prefix long i)
