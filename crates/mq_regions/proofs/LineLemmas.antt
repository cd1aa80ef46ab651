-- Which line decides in rows that are made of others.
use Rattle.std.proofs.Common.{◌≡◌, ℕ, Bool, true, false, cond, not, ◌&&◌, ◌||◌, List, [], ◌∷◌, ◌++◌}
use Rattle.std.proofs.Common.{map, refl, ap, sym, ◌∙◌, Option, Some, None, inl, inr, ◌<◌, ◌+◌}
use Rattle.std.proofs.Common.{length, take, get_or, Bor, subst, arith, zero, suc}
use Rattle.std.specs.List.{flat_map, list_any}
use Rattle.std.specs.Option.{option_map, option_or, option_to_list}
use Rattle.std.proofs.Math.Bool.{and-true, or-false}
use Rattle.std.proofs.lemmas.Bool.{and_cases, and_left, and_right, not-false, or_from, or_parts}
use Rattle.std.proofs.lemmas.Bool.{or_right}
use Rattle.std.proofs.lemmas.List.Folds.{find-append, list_any-append}
use Rattle.mq_topic.specs.Levels.{levels}
use Rattle.mq_topic.specs.Matching.{matches}
use Rattle.mq_topic.specs.Texts.{is_name}
use Rattle.mq_acl.specs.Access.{concerns, grants, is_deny, rows_allow}
use Rattle.mq_acl.specs.Lines as lines
use Rattle.mq_acl.specs.Rows.{AclRow}
use Rattle.mq_acl.specs.Views.{access_view, row_view, row_views}
use Rattle.mq_acl.specs.declared.access.Direction.{Direction}
use Rattle.mq_acl.specs.declared.access.Direction.TheVariants.{Reading, Writing}
use Rattle.mq_acl.specs.declared.row.Row.{Row}
use Rattle.mq_rename.specs.Lists.{has_long, is_long, texts}
use Rattle.mq_regions.specs.Deciding.{first_line}
use Rattle.mq_regions.specs.Limits.{has_long_row, is_long_row}
use Rattle.mq_regions.specs.Made.{AreVersions, IsGroup, IsMade, denial, covers_named}
use Rattle.mq_regions.specs.Regions.{has_mark, in_region, is_mark, is_taken, kind_levels}
use Rattle.mq_regions.specs.Regions.{region_levels, side_name}
use Rattle.mq_regions.specs.declared.region.Region.{Region}
use Rattle.mq_regions.specs.declared.region.RegionKind.{RegionKind}
use Rattle.mq_regions.specs.declared.side.Side.{Side}
use Rattle.mq_regions.proofs.CoverLemmas.{pattern_covers, plain_covers}
use Rattle.mq_regions.proofs.GroupLemmas.{any_views, no_views, group_append, group_by, named_more}
use Rattle.mq_regions.proofs.PatternLemmas.{applies_everyone, IsTexts}
use Rattle.mq_regions.proofs.ReadLemmas.{any_parts, any_under}
use Rattle.std.proofs.lemmas.List.{map-append, take_more}

-- ---- lists one behind the other
or_map : (o q : Option Row) → option_map (λ row. row.line) (option_or o q)
    ≡ option_or (option_map (λ row. row.line) o) (option_map (λ row. row.line) q)
or_map None q = refl
or_map (Some row) q = refl

pub first_append : (p : lines.Access → Bool) (x : List ℕ) (u : Option (List ℕ)) (n : List ℕ)
    (xs ys : List Row) → first_line p x u n (xs ++ ys)
    ≡ option_or (first_line p x u n xs) (first_line p x u n ys)
first_append p x u n xs ys = grind (arith, find-append, or_map)

-- rows that don't concern the name don't decide
pub first_none : (p : lines.Access → Bool) (x : List ℕ) (u : Option (List ℕ)) (n : List ℕ)
    (rows : List Row) → list_any (concerns x u n) (row_views rows) ≡ false
    → first_line p x u n rows ≡ None
first_none p x u n [] h = refl
first_none p x u n (row ∷ rows) h = grind (arith, first_none p x u n rows, or_parts)

-- ---- the versions of one row
-- the line of the first that concerns the name is the row's
versions_line : (p : lines.Access → Bool) (x : List ℕ) (u : Option (List ℕ)) (n : List ℕ)
    (row : Row) (made : List Row) → AreVersions row made
    → first_line p x u n made ≡ (cond (list_any (concerns x u n) (row_views made)
    && p (access_view row.access)) (Some row.line) None)
versions_line p x u n row [] f = refl
versions_line p x u n row (own ∷ made) f = grind (arith, versions_line p x u n row made)

one_line : (p : lines.Access → Bool) (c : List ℕ) (u : Option (List ℕ)) (m : List ℕ) (row : Row)
    → first_line p c u m (row ∷ [])
    ≡ (cond (concerns c u m (row_view row) && p (access_view row.access)) (Some row.line) None)
one_line p c u m row = grind (arith)

pub group_made : {side : Side} {kind : RegionKind} (c : List ℕ) (row : Row) (made : List Row)
    → IsGroup side kind row made (λ u m. concerns c u m (row_view row))
    → IsMade side kind c (row ∷ []) made
group_made c row made is = record {
  same = λ x n m u p h g e.
      versions_line p x u n row made is.versions
      ∙ ap (λ b. cond (b && p (access_view row.access)) (Some row.line) None)
      (is.same x n m u h g e)
      ∙ sym (one_line p c u m row);
  outside = is.outside;
  short = λ h. is.short (sym (or-false (is_long_row (row_view row))) ∙ h);
}

-- ---- the rows of a list
pub made_append : {side : Side} {kind : RegionKind} {c : List ℕ} (xs ys vs ws : List Row)
    → IsMade side kind c xs vs → IsMade side kind c ys ws
    → IsMade side kind c (xs ++ ys) (vs ++ ws)
made_append {c = c} xs ys vs ws f g = record {
  same = λ x n m u p h i e.
      first_append p x u n vs ws
      ∙ (λ j. option_or (f.same x n m u p h i e j) (g.same x n m u p h i e j))
      ∙ sym (first_append p c u m xs ys);
  outside = λ x n u h i.
      no_views (concerns x u n) vs ws (f.outside x n u h i) (g.outside x n u h i);
  short = λ h.
      let both = or_parts _ _ (sym (any_views is_long_row xs ys) ∙ h) in
      no_views is_long_row vs ws (f.short both.0) (g.short both.1);
}

-- ---- what is taken
denial_concerns : (x : List ℕ) (u : Option (List ℕ)) (n filter : List ℕ)
    → has_mark (levels filter) ≡ false
    → concerns x u n (denial filter) ≡ matches (levels filter) (levels n)
denial_concerns x u n filter h =
    ap (λ b. b && pattern_covers x u n filter) (applies_everyone u) ∙ plain_covers x u n filter h

-- rows that deny concern what is taken, and nothing else
pub denials_concern : (x : List ℕ) (u : Option (List ℕ)) (n : List ℕ) (taken : List (List ℕ))
    → has_mark (flat_map levels taken) ≡ false
    → list_any (concerns x u n) (map denial taken) ≡ is_taken taken n
denials_concern x u n [] h = refl
denials_concern x u n (filter ∷ taken) h =
    grind (arith, denials_concern x u n taken, any_parts, denial_concerns)

-- they deny it
denials_deny : (x : List ℕ) (u : Option (List ℕ)) (n : List ℕ) (taken : List (List ℕ))
    → list_any (λ row. concerns x u n row && is_deny row.access) (map denial taken)
    ≡ list_any (concerns x u n) (map denial taken)
denials_deny x u n [] = refl
denials_deny x u n (filter ∷ taken) =
    (λ i. and-true (concerns x u n (denial filter)) i || denials_deny x u n taken i)

-- and grant nothing
no_grant : (d : Direction) → grants d lines.Deny ≡ false
no_grant Reading = refl
no_grant Writing = refl

denials_grant : (x : List ℕ) (u : Option (List ℕ)) (n : List ℕ) (d : Direction)
    (taken : List (List ℕ))
    → list_any (λ row. concerns x u n row && grants d row.access) (map denial taken) ≡ false
denials_grant x u n d [] = refl
denials_grant x u n d (filter ∷ taken) = grind (arith, denials_grant x u n d taken, no_grant)

denials_short : (taken : List (List ℕ)) → has_long (flat_map levels taken) ≡ false
    → has_long_row (map denial taken) ≡ false
denials_short [] h = refl
denials_short (filter ∷ taken) h = grind (arith, denials_short taken, any_parts, or_from, or-false)

-- ---- the list of a region
-- rows that are made for the topics of its kind, and those that deny what is taken
pub record IsList (side : Side) (region : Region) (c : List ℕ) (rows made denied : List Row) :
    Type 0 where
  pub made_of : IsMade side region.kind c rows made
  pub denials : row_views denied ≡ map denial (texts region.taken.items)
  pub marks : has_mark (region_levels region) ≡ false
  pub short : has_long (region_levels region) ≡ false

module _ {side : Side} (region : Region) {c : List ℕ} {rows : List Row} (made denied : List Row)
    (is : IsList side region c rows made denied) where
  no_mark : has_mark (flat_map levels (texts region.taken.items)) ≡ false
  no_mark = (any_parts is_mark (flat_map levels (texts region.taken.items)) _ is.marks).0

  denied_concern : (x : List ℕ) (u : Option (List ℕ)) (n : List ℕ)
      → list_any (concerns x u n) (row_views denied) ≡ is_taken (texts region.taken.items) n
  denied_concern x u n =
      ap (list_any (concerns x u n)) is.denials
      ∙ denials_concern x u n (texts region.taken.items) no_mark

  pub list_same : (x n m : List ℕ) (u : Option (List ℕ)) (p : lines.Access → Bool)
      → is_name n ≡ true → in_region region n ≡ true → side_name side region.kind n ≡ Some m
      → first_line p x u n (made ++ denied) ≡ first_line p c u m rows
  list_same x n m u p h g e = grind (arith, first_append, first_none, denied_concern)

  any_both : (p : AclRow → Bool) → list_any p (row_views (made ++ denied))
      ≡ (list_any p (row_views made) || list_any p (map denial (texts region.taken.items)))
  any_both p =
      any_views p made denied ∙ ap (λ rs. list_any p (row_views made) || list_any p rs) is.denials

  -- nothing that isn't of the kind is granted
  under_concerns : (x : List ℕ) (u : Option (List ℕ)) (n : List ℕ) (q : AclRow → Bool)
      (rs : List AclRow) → list_any (concerns x u n) rs ≡ false
      → list_any (λ row. concerns x u n row && q row) rs ≡ false
  under_concerns x u n q [] h = refl
  under_concerns x u n q (row ∷ rs) h = grind (arith, under_concerns x u n q rs)

  pub list_outside : (x n : List ℕ) (u : Option (List ℕ)) (d : Direction) → is_name n ≡ true
      → in_region region n ≡ false → rows_allow (row_views (made ++ denied)) x u n d ≡ false
  list_outside x n u d h g = elim (and_cases (not (is_taken (texts region.taken.items) n)) _ g) [
    | inl f ↦ and_left _ _ (ap not
        (any_both (λ row. concerns x u n row && is_deny row.access)
        ∙ or_right (list_any (λ row. concerns x u n row && is_deny row.access) (row_views made)) _
        (denials_deny x u n (texts region.taken.items)
        ∙ denials_concern x u n (texts region.taken.items) no_mark ∙ not-false _ f)))
    | inr f ↦ and_right (not (list_any (λ row. concerns x u n row && is_deny row.access)
        (row_views (made ++ denied)))) _
        (any_both (λ row. concerns x u n row && grants d row.access)
        ∙ or_from _ _ (under_concerns x u n (λ row. grants d row.access) (row_views made)
        (is.made_of.outside x n u h f)) (denials_grant x u n d (texts region.taken.items)))
  ]

  pub list_short : has_long_row (row_views rows) ≡ false
      → has_long_row (row_views (made ++ denied)) ≡ false
  list_short h =
      any_both is_long_row ∙ or_from _ _ (is.made_of.short h)
      (denials_short (texts region.taken.items)
      (any_parts is_long (flat_map levels (texts region.taken.items)) _ is.short).0)

-- ---- One row or text more.
-- ---- texts
texts_more : (ts : List (Bor (List ℕ))) (i : ℕ) (d : Bor (List ℕ)) → i < length ts
    → texts (take (i + 1) ts) ≡ texts (take i ts) ++ (get_or ts i d).now ∷ []
texts_more ts i d h =
    ap texts (take_more ts i d h)
    ∙ map-append (λ (t : Bor (List ℕ)). t.now) (take i ts) (get_or ts i d ∷ [])

pub text_short : (ts : List (Bor (List ℕ))) (i : ℕ) (d : Bor (List ℕ)) → i < length ts
    → has_long (texts ts) ≡ false → is_long (get_or ts i d).now ≡ false
text_short [] i d h s = absurd (omega arith)
text_short (t ∷ ts) zero d h s = (or_parts _ _ s).0
text_short (t ∷ ts) (suc i) d h s = text_short ts i d (omega arith) (or_parts _ _ s).1

-- the rows of one user name more
pub named_step : {side : Side} {kind : RegionKind} (row : Row) (c filter : List ℕ)
    (ts : List (Bor (List ℕ))) (i : ℕ) (d : Bor (List ℕ)) {rows new : List Row} (own : Option Row)
    → i < length ts → new ≡ rows ++ option_to_list own
    → IsGroup side kind row rows (covers_named c filter row (texts (take i ts)))
    → IsGroup side kind row (option_to_list own)
    (covers_named c filter row ((get_or ts i d).now ∷ []))
    → IsGroup side kind row new (covers_named c filter row (texts (take (i + 1) ts)))
named_step {side} {kind} row c filter ts i d own h e before one =
    let more = covers_named c filter row (texts (take (i + 1) ts)) in
    subst (λ rs. IsGroup side kind row rs more) (sym e)
    (group_by {t = more}
    (λ u m. named_more c filter row (texts (take i ts)) (get_or ts i d).now u m
    ∙ ap (λ ls. covers_named c filter row ls u m) (sym (texts_more ts i d h)))
    (group_append before one))

-- no own text is long, if no level is
pub own_short : (kind : RegionKind) (filter : List ℕ) (named : List (List ℕ))
    → IsTexts kind filter named → has_long (kind_levels kind) ≡ false
    → has_long (levels filter) ≡ false → has_long named ≡ false
own_short kind filter named own h k = grind (arith, and_right, any_under, list_any-append, or_from)

-- ---- the rows of a list
pub rows_step : {side : Side} {kind : RegionKind} {c : List ℕ} (rows : List Row)
    {made own new : List Row} (i : ℕ) (row : Row) → i < length rows → row ≡ get_or rows i row
    → new ≡ made ++ own → IsMade side kind c (take i rows) made
    → IsGroup side kind row own (λ u m. concerns c u m (row_view row))
    → IsMade side kind c (take (i + 1) rows) new
rows_step {side} {kind} {c} rows {made} {own} i row h is e before group =
    subst (IsMade side kind c (take (i + 1) rows)) (sym e)
    (subst (λ rs. IsMade side kind c rs (made ++ own))
    (sym (take_more rows i row h ∙ ap (λ r. take i rows ++ r ∷ []) (sym is)))
    (made_append (take i rows) (row ∷ []) made own before (group_made c row own group)))
