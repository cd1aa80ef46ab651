-- Rows that are made of one row.
use Rattle.std.proofs.Common.{◌≡◌, ℕ, Bool, true, false, ◌&&◌, ◌||◌, List, [], ◌∷◌, ◌++◌, refl, ap}
use Rattle.std.proofs.Common.{sym, ◌∙◌, arith, Option, Some, None}
use Rattle.std.specs.Prelude.{codes}
use Rattle.std.specs.List.{list_any}
use Rattle.std.specs.Option.{option_to_list}
use Rattle.std.specs.Str.{bytes_eq}
use Rattle.std.proofs.Math.Bool.{and-false, or-false}
use Rattle.std.proofs.lemmas.Bool.{false_from_ne_true, or_from, or_parts}
use Rattle.std.proofs.lemmas.List.{map-append}
use Rattle.std.proofs.lemmas.List.Folds.{list_any-append}
use Rattle.mq_topic.specs.Levels.{levels}
use Rattle.mq_topic.specs.Matching.{matches}
use Rattle.mq_topic.specs.Texts.{is_name}
use Rattle.mq_topic.proofs.ByteLemmas.{text_flip, text_is}
use Rattle.mq_acl.specs.Access.{applies, concerns, pattern_level_matches}
use Rattle.mq_acl.specs.Lines as lines
use Rattle.mq_acl.specs.Rows.{Who, Anonymous, Named, Everyone, AclRow}
use Rattle.mq_acl.specs.RowsByOwner.{is_everyones}
use Rattle.mq_acl.specs.Views.{access_view, owner_view, row_view, row_views}
use Rattle.mq_acl.specs.declared.row.Row.{Row}
use Rattle.mq_rename.specs.Lists.{has_long, is_long}
use Rattle.mq_regions.specs.Filled.{IsFilled, IsFilledIfAny, has_level}
use Rattle.mq_regions.specs.Limits.{has_long_row, is_long_row, is_long_who}
use Rattle.mq_regions.specs.Made.{AreVersions, IsCarriedRow, IsCarriedRowIfAny, IsGroup}
use Rattle.mq_regions.specs.Made.{covers_named}
use Rattle.mq_regions.specs.Regions.{in_kind, kind_levels, side_name}
use Rattle.mq_regions.specs.declared.region.RegionKind.{RegionKind}
use Rattle.mq_regions.specs.declared.region.RegionKind.TheVariants.{Renamed, Kept, Same}
use Rattle.mq_regions.specs.declared.side.Side.{Side}
use Rattle.mq_regions.specs.declared.side.Side.TheVariants.{Old, New}
use Rattle.mq_regions.proofs.CarriedLemmas.{new_is_name}
use Rattle.mq_regions.proofs.CoverLemmas.{cover_is, pattern_covers}
use Rattle.mq_regions.proofs.ExactLemmas.{carried_short}
use Rattle.mq_regions.proofs.FillLemmas.{named_same}

-- ---- names
-- what a list asks about is a name
pub asked_name : (side : Side) (kind : RegionKind) (n m : List ℕ) → is_name n ≡ true
    → side_name side kind n ≡ Some m → is_name m ≡ true
asked_name Old kind n m h e = let is : n ≡ m = cc in ap is_name (sym is) ∙ h
asked_name New (Renamed r) n m h e = new_is_name r.now n m e
asked_name New (Kept filter) n m h e = let is : n ≡ m = cc in ap is_name (sym is) ∙ h
asked_name New Same n m h e = let is : n ≡ m = cc in ap is_name (sym is) ∙ h

-- ---- groups
pub group_none : {side : Side} {kind : RegionKind} (row : Row)
    {test : Option (List ℕ) → List ℕ → Bool}
    → ((n m : List ℕ) (u : Option (List ℕ)) → is_name n ≡ true → in_kind kind n ≡ true
    → side_name side kind n ≡ Some m → test u m ≡ false)
    → IsGroup side kind row [] test
group_none row f = record {
  versions = tt;
  same = λ x n m u h g e. sym (f n m u h g e);
  outside = λ x n u h g. refl;
  short = λ h. refl;
}

-- the test, said otherwise
pub group_by : {side : Side} {kind : RegionKind} {row : Row} {made : List Row}
    {s t : Option (List ℕ) → List ℕ → Bool}
    → ((u : Option (List ℕ)) (m : List ℕ) → s u m ≡ t u m)
    → IsGroup side kind row made s → IsGroup side kind row made t
group_by f is = record {
  versions = is.versions;
  same = λ x n m u h g e. is.same x n m u h g e ∙ f u m;
  outside = is.outside;
  short = is.short;
}

pub versions_append : (row : Row) (xs ys : List Row) → AreVersions row xs → AreVersions row ys
    → AreVersions row (xs ++ ys)
versions_append row [] ys f g = g
versions_append row (x ∷ xs) ys f g = (f.0, versions_append row xs ys f.1 g)

pub any_views : (p : AclRow → Bool) (xs ys : List Row)
    → list_any p (row_views (xs ++ ys)) ≡ (list_any p (row_views xs) || list_any p (row_views ys))
any_views p xs ys =
    ap (list_any p) (map-append row_view xs ys) ∙ list_any-append p (row_views xs) (row_views ys)

-- none passes, where none of either list does
pub no_views : (p : AclRow → Bool) (xs ys : List Row) → list_any p (row_views xs) ≡ false
    → list_any p (row_views ys) ≡ false → list_any p (row_views (xs ++ ys)) ≡ false
no_views p xs ys f g = any_views p xs ys ∙ or_from _ _ f g

pub group_append : {side : Side} {kind : RegionKind} {row : Row} {xs ys : List Row}
    {s t : Option (List ℕ) → List ℕ → Bool} → IsGroup side kind row xs s
    → IsGroup side kind row ys t → IsGroup side kind row (xs ++ ys) (λ u m. s u m || t u m)
group_append {row = row} {xs} {ys} f g = record {
  versions = versions_append row xs ys f.versions g.versions;
  same = λ x n m u h i e.
      any_views (concerns x u n) xs ys ∙ (λ j. f.same x n m u h i e j || g.same x n m u h i e j);
  outside = λ x n u h i.
      no_views (concerns x u n) xs ys (f.outside x n u h i) (g.outside x n u h i);
  short = λ h. no_views is_long_row xs ys (f.short h) (g.short h);
}

-- ---- rows of one user name, or for clients without one
plain_concerns : (x : List ℕ) (u : Option (List ℕ)) (n : List ℕ) (who : Who)
    (access : lines.Access) (filter : List ℕ) → is_everyones who ≡ false
    → concerns x u n (record { who = who; access = access; filter = filter })
    ≡ (applies u who && matches (levels filter) (levels n))
plain_concerns x u n Anonymous access filter h =
    ap (λ b. applies u Anonymous && b) (cover_is filter n)
plain_concerns x u n (Named name) access filter h =
    ap (λ b. applies u (Named name) && b) (cover_is filter n)
plain_concerns x u n Everyone access filter h = absurd (let k : true ≡ false = h in cc)

-- what a row that is carried concerns
made_concerns : {side : Side} {kind : RegionKind} {row : Row} {who : Who} {filter : List ℕ}
    {made : Row} (x : List ℕ) (u : Option (List ℕ)) (n : List ℕ) → is_everyones who ≡ false
    → IsCarriedRow side kind row who filter made
    → list_any (concerns x u n) (row_views (made ∷ []))
    ≡ (applies u who && matches (levels made.filter) (levels n))
made_concerns {who = who} {made = made} x u n h is =
    or-false (concerns x u n (row_view made))
    ∙ ap (λ w. concerns x u n (record {
      who = w;
      access = access_view made.access;
      filter = made.filter;
    })) is.owner
    ∙ plain_concerns x u n who (access_view made.access) made.filter h

-- a row that is carried is short
pub made_short : {side : Side} {kind : RegionKind} {row : Row} {who : Who} {filter : List ℕ}
    {made : Row} → IsCarriedRow side kind row who filter made
    → has_long (kind_levels kind) ≡ false → has_long (levels filter) ≡ false
    → is_long_who who ≡ false → has_long_row (row_views (made ∷ [])) ≡ false
made_short {side} {kind} {filter = filter} {made} is h k w = grind (arith, carried_short)

pub plain_group : {side : Side} {kind : RegionKind} {row : Row} (who : Who) (filter : List ℕ)
    (made : Option Row) → IsCarriedRowIfAny side kind row who filter made
    → is_everyones who ≡ false → has_long (kind_levels kind) ≡ false
    → has_long (levels filter) ≡ false
    → (is_long_row (row_view row) ≡ false → is_long_who who ≡ false)
    → IsGroup side kind row (option_to_list made)
    (λ u m. applies u who && matches (levels filter) (levels m))
plain_group {row = row} who filter None is h k l w = grind (arith, group_none, and-false)
plain_group who filter (Some made) is h k l w = record {
  versions = (is.version, tt);
  same = λ x n m u i g e.
      made_concerns x u n h is ∙ ap (λ b. applies u who && b) (is.carried.same n m i g e);
  outside = λ x n u i g.
      made_concerns x u n h is
      ∙ ap (λ b. applies u who && b) (false_from_ne_true _
      (λ m. let no : true ≡ false = sym (is.carried.inside n i m) ∙ g in cc))
      ∙ and-false (applies u who);
  short = λ s. made_short is k l (w s);
}

-- that of a `topic` row
pub topic_group : {side : Side} {kind : RegionKind} (row : Row) (c : List ℕ) (made : Option Row)
    → IsCarriedRowIfAny side kind row (owner_view row.owner) row.filter made
    → is_everyones (owner_view row.owner) ≡ false → has_long (kind_levels kind) ≡ false
    → has_long (levels row.filter) ≡ false
    → IsGroup side kind row (option_to_list made) (λ u m. concerns c u m (row_view row))
topic_group row c made is h k l =
    group_by
    (λ u m. sym (plain_concerns c u m (owner_view row.owner) (access_view row.access) row.filter h))
    (plain_group (owner_view row.owner) row.filter made is h k l
    (λ s. (or_parts (has_long (levels row.filter)) _ s).1))

-- ---- rows for the clients of a user name that stands for `%u`
named_test : (c text m filter made : List ℕ) (row : Row) (u : Option (List ℕ))
    → has_level (codes "%c") (levels filter) ≡ false → IsFilled (codes "%u") text filter made
    → (applies u (Named text) && matches (levels made) (levels m))
    ≡ covers_named c filter row (text ∷ []) u m
named_test c text m filter made row None h is = refl
named_test c text m filter made row (Some user) h is =
    at (bytes_eq user text) refl
    ∙ ap (λ b. b && pattern_covers c (Some user) m filter)
    (text_flip user text ∙ sym (or-false (bytes_eq text user)))
  where
    at : (b : Bool) → bytes_eq user text ≡ b
        → (b && matches (levels made) (levels m)) ≡ (b && pattern_covers c (Some user) m filter)
    at true e =
        named_same c text m filter made h is
        ∙ ap (λ t. pattern_covers c (Some t) m filter) (sym (text_is user text e))
    at false e = refl

pub named_group : {side : Side} {kind : RegionKind} (row : Row) (c text : List ℕ)
    {filter filled : List ℕ} (made : Option Row)
    → IsCarriedRowIfAny side kind row (Named text) filled made
    → IsFilled (codes "%u") text filter filled → has_level (codes "%c") (levels filter) ≡ false
    → has_long (kind_levels kind) ≡ false → is_long text ≡ false
    → IsGroup side kind row (option_to_list made) (covers_named c filter row (text ∷ []))
named_group row c text {filter} {filled} made is f h k l =
    group_by (λ u m. named_test c text m filter filled row u h f)
    (plain_group (Named text) filled made is refl k f.short (λ s. l))

pub unnamed_group : {side : Side} {kind : RegionKind} (row : Row) (c text filter : List ℕ)
    → IsFilledIfAny (codes "%u") text filter None
    → IsGroup side kind row [] (covers_named c filter row (text ∷ []))
unnamed_group {side} {kind} row c text filter none =
    group_none row (λ n m u h g e. no u m (asked_name side kind n m h e))
  where
    no : (u : Option (List ℕ)) (m : List ℕ) → is_name m ≡ true
        → covers_named c filter row (text ∷ []) u m ≡ false
    no None m h = refl
    no (Some user) m h = at (bytes_eq text user) refl
      where
        at : (b : Bool) → bytes_eq text user ≡ b
            → ((b || false) && pattern_covers c (Some user) m filter) ≡ false
        at false e = refl
        at true e =
            ap (λ t. pattern_covers c (Some t) m filter) (sym (text_is text user e))
            ∙ none (pattern_level_matches c (Some text)) m h (λ l. refl)

-- one user name more
pub named_more : (c filter : List ℕ) (row : Row) (xs : List (List ℕ)) (y : List ℕ)
    (u : Option (List ℕ)) (m : List ℕ)
    → (covers_named c filter row xs u m || covers_named c filter row (y ∷ []) u m)
    ≡ covers_named c filter row (xs ++ y ∷ []) u m
named_more c filter row xs y u m = grind (arith, pattern_covers, list_any-append)
