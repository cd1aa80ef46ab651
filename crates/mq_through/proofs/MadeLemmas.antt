-- The lists that are made for one region and one client.
use Rattle.std.proofs.Common.{◌≡◌, ◌<◌, ℕ, Bool, true, false, cond, not, ◌&&◌, ◌||◌}
use Rattle.std.proofs.Common.{List, [], ◌∷◌, ◌++◌, length, map, refl, ap, sym, ◌∙◌}
use Rattle.std.proofs.Common.{Option, Some, None, arith, get_or, Bor, string_bytes}
use Rattle.std.specs.List.{flat_map, list_any}
use Rattle.std.specs.Option.{option_or}
use Rattle.std.specs.Str.{bytes_eq}
use Rattle.std.proofs.Math.Bool.{and-false, or-true}
use Rattle.std.proofs.lemmas.Bool.{and_from, and_parts, or_from, or_parts}
use Rattle.std.proofs.lemmas.List.Folds.{list_any-append}
use Rattle.mq_topic.specs.Levels.{levels}
use Rattle.mq_topic.specs.Matching.{matches}
use Rattle.mq_topic.proofs.ByteLemmas.{text_is, text_itself}
use Rattle.mq_acl.specs.Access.{applies, concerns, covers, grants, is_deny}
use Rattle.mq_acl.specs.Lines as lines
use Rattle.mq_acl.specs.Rows.{Named, AclRow}
use Rattle.mq_acl.specs.Views.{row_views}
use Rattle.mq_acl.specs.declared.access.Direction.{Direction}
use Rattle.mq_acl.specs.declared.access.Direction.TheVariants.{Reading, Writing}
use Rattle.mq_acl.specs.declared.row.Row.{Row}
use Rattle.mq_rename.specs.Lists.{has_long, is_long, texts}
use Rattle.mq_witness.specs.Literals.{is_among}
use Rattle.mq_witness.specs.Rows.{is_name_of, is_user_of}
use Rattle.mq_differences.specs.Classes.{is_in, is_listed, user_of}
use Rattle.mq_differences.specs.declared.class.Class.{Class}
use Rattle.mq_differences.specs.declared.class.Class.TheVariants.{Anonymous, User, Others}
use Rattle.mq_regions.specs.Deciding.{first_line}
use Rattle.mq_regions.specs.Limits.{has_long_row, is_long_row}
use Rattle.mq_regions.specs.Regions.{in_kind, in_region, is_taken, kind_levels, region_levels}
use Rattle.mq_regions.specs.declared.region.Region.{Region}
use Rattle.mq_through.proofs.RowLemmas.{any_views, covered, first_append, first_none}
use Rattle.mq_through.specs.Made.{AreShort, Asks, IsList, Names, class_in, spare_row}

-- ---- rows that deny one user a filter
-- they concern only what the filter matches
spare_concerns : (x : List ℕ) (u : Option (List ℕ)) (n filter user : List ℕ)
    → concerns x u n (spare_row filter user) ≡ true → matches (levels filter) (levels n) ≡ true
spare_concerns x u n filter user h =
    covered n filter (and_parts (applies u (Named user)) (covers x u n (spare_row filter user)) h).1

spare_not : (x : List ℕ) (u : Option (List ℕ)) (n filter user : List ℕ)
    → matches (levels filter) (levels n) ≡ false → concerns x u n (spare_row filter user) ≡ false
spare_not x u n filter user h = at (concerns x u n (spare_row filter user)) refl
  where
    at : (b : Bool) → concerns x u n (spare_row filter user) ≡ b → b ≡ false
    at true e = absurd (let q : true ≡ false = sym (spare_concerns x u n filter user e) ∙ h in cc)
    at false e = refl

spares_not : (x : List ℕ) (u : Option (List ℕ)) (n filter : List ℕ) (users : List (List ℕ))
    → matches (levels filter) (levels n) ≡ false
    → list_any (concerns x u n) (map (spare_row filter) users) ≡ false
spares_not x u n filter [] h = refl
spares_not x u n filter (user ∷ users) h =
    or_from (concerns x u n (spare_row filter user))
    (list_any (concerns x u n) (map (spare_row filter) users)) (spare_not x u n filter user h)
    (spares_not x u n filter users h)

-- they grant nothing
no_grant : (d : Direction) → grants d lines.Deny ≡ false
no_grant Reading = refl
no_grant Writing = refl

spares_grant : (x : List ℕ) (u : Option (List ℕ)) (n : List ℕ) (d : Direction) (filter : List ℕ)
    (users : List (List ℕ))
    → list_any (λ row. concerns x u n row && grants d row.access) (map (spare_row filter) users)
    ≡ false
spares_grant x u n d filter [] = refl
spares_grant x u n d filter (user ∷ users) =
    or_from (concerns x u n (spare_row filter user) && grants d lines.Deny)
    (list_any (λ row. concerns x u n row && grants d row.access) (map (spare_row filter) users))
    (ap (λ b. concerns x u n (spare_row filter user) && b) (no_grant d)
    ∙ and-false (concerns x u n (spare_row filter user)))
    (spares_grant x u n d filter users)

-- they are short
spares_short : (filter : List ℕ) (users : List (Bor (List ℕ))) → has_long (levels filter) ≡ false
    → AreShort users → has_long_row (map (spare_row filter) (texts users)) ≡ false
spares_short filter [] h s = refl
spares_short filter (user ∷ users) h s =
    or_from (is_long_row (spare_row filter user.now))
    (has_long_row (map (spare_row filter) (texts users)))
    (or_from (has_long (levels filter)) (is_long user.now) h
    (s user.now (ap (λ b. b || is_among user.now users) (text_itself user.now))))
    (spares_short filter users h
    (λ name e. s name (ap (λ b. bytes_eq name user.now || b) e
    ∙ or-true (bytes_eq name user.now))))

-- they name the users
spares_name : (filter user : List ℕ) (users : List (Bor (List ℕ)))
    → is_user_of user (map (spare_row filter) (texts users)) ≡ is_among user users
spares_name filter user [] = refl
spares_name filter user (other ∷ users) =
    ap (λ b. bytes_eq user other.now || b) (spares_name filter user users)

-- ---- the filter that takes the first topics from a region
first_not : (taken : List (Bor (List ℕ))) (d : Bor (List ℕ)) (n : List ℕ) → 0 < length taken
    → is_taken (texts taken) n ≡ false
    → matches (levels (get_or taken 0 d).now) (levels n) ≡ false
first_not [] d n h e = absurd (omega arith)
first_not (t ∷ taken) d n h e =
    (or_parts (matches (levels t.now) (levels n)) (is_taken (texts taken) n) e).0

first_short : (taken : List (Bor (List ℕ))) (d : Bor (List ℕ)) → 0 < length taken
    → has_long (flat_map levels (texts taken)) ≡ false
    → has_long (levels (get_or taken 0 d).now) ≡ false
first_short [] d h e = absurd (omega arith)
first_short (t ∷ taken) d h e =
    (or_parts (has_long (levels t.now)) (has_long (flat_map levels (texts taken)))
    (sym (list_any-append is_long (levels t.now) (flat_map levels (texts taken))) ∙ e)).0

-- ---- a list and such rows behind it
module _ (region : Region) (filter : List ℕ) (users : List (Bor (List ℕ)))
    (rows spares : List Row) (are : row_views spares ≡ map (spare_row filter) (texts users))
    (off : (n : List ℕ) → in_region region n ≡ true
    → matches (levels filter) (levels n) ≡ false)
    (brief : has_long (levels filter) ≡ false) (names : AreShort users) where
  any_both : (p : AclRow → Bool) → list_any p (row_views (rows ++ spares))
      ≡ (list_any p (row_views rows) || list_any p (map (spare_row filter) (texts users)))
  any_both p = any_views p rows spares ∙ ap (λ rs. list_any p (row_views rows) || list_any p rs) are

  or_none : (o : Option ℕ) → option_or o None ≡ o
  or_none None = refl
  or_none (Some l) = refl

  denied : (a b g h : Bool) → (not a && g) ≡ false → h ≡ false
      → (not (a || b) && (g || h)) ≡ false
  denied true b g h e k = refl
  denied false true g h e k = refl
  denied false false g h e k = or_from g h e k

  pub with_spares : (asks : Asks) (client : List ℕ) (list : List Row)
      → IsList region asks client list rows → IsList region asks client list (rows ++ spares)
  with_spares asks client list is = record {
    same = λ x n m u p v g e.
        first_append p x u n rows spares
        ∙ ap (option_or (first_line p x u n rows))
        (first_none p x u n spares (ap (list_any (concerns x u n)) are
        ∙ spares_not x u n filter (texts users) (off n g)))
        ∙ or_none (first_line p x u n rows)
        ∙ is.same x n m u p v g e;
    outside = λ x n u d v g.
        (λ i. not (any_both (λ row. concerns x u n row && is_deny row.access) i)
        && any_both (λ row. concerns x u n row && grants d row.access) i)
        ∙ denied (list_any (λ row. concerns x u n row && is_deny row.access) (row_views rows))
        (list_any (λ row. concerns x u n row && is_deny row.access)
        (map (spare_row filter) (texts users)))
        (list_any (λ row. concerns x u n row && grants d row.access) (row_views rows))
        (list_any (λ row. concerns x u n row && grants d row.access)
        (map (spare_row filter) (texts users)))
        (is.outside x n u d v g) (spares_grant x u n d filter (texts users));
    short = any_both is_long_row
        ∙ or_from (has_long_row (row_views rows))
        (has_long_row (map (spare_row filter) (texts users))) is.short
        (spares_short filter users brief names);
  }

  pub with_names : Names users (rows ++ spares)
  with_names user e =
      any_both (λ row. is_name_of user row.who)
      ∙ ap (λ b. is_user_of user (row_views rows) || b) (spares_name filter user users ∙ e)
      ∙ or-true (is_user_of user (row_views rows))

-- the same, with the first filter that takes topics from the region
pub record IsFirstOf (region : Region) (filter : List ℕ) : Type 0 where
  pub off : (n : List ℕ) → in_region region n ≡ true → matches (levels filter) (levels n) ≡ false
  pub brief : has_long (levels filter) ≡ false

pub first_of : (region : Region) (d : Bor (List ℕ)) → 0 < length region.taken.items
    → has_long (region_levels region) ≡ false
    → IsFirstOf region (get_or region.taken.items 0 d).now
first_of region d some s = record {
  off = λ n e. first_not region.taken.items d n some
      (not_false (is_taken (texts region.taken.items) n)
      (and_parts (not (is_taken (texts region.taken.items) n)) (in_kind region.kind n) e).0);
  brief = first_short region.taken.items d some
      (or_parts (has_long (flat_map levels (texts region.taken.items)))
      (has_long (kind_levels region.kind))
      (sym (list_any-append is_long (flat_map levels (texts region.taken.items))
      (kind_levels region.kind)) ∙ s)).0;
}
  where
    not_false : (b : Bool) → not b ≡ true → b ≡ false
    not_false true e = absurd (let q : false ≡ true = e in cc)
    not_false false e = refl

-- ---- classes
-- whom the made lists put into a class, the lists put into the one that is shown
pub class_shown : (old new made_old made_new : List AclRow) (users : List (Bor (List ℕ)))
    (user : Option (List ℕ)) (class : Class)
    → ((name : List ℕ) → is_among name users ≡ is_listed old new name)
    → ((name : List ℕ) → is_among name users ≡ true → is_user_of name made_old ≡ true)
    → is_in made_old made_new user class ≡ true
    → is_in old new user (class_in users class) ≡ true
class_shown old new mo mn users None Anonymous all named h = refl
class_shown old new mo mn users (Some user) Anonymous all named h =
    absurd (let q : false ≡ true = h in cc)
class_shown old new mo mn users None (User name) all named h =
    absurd (let q : false ≡ true = h in cc)
class_shown old new mo mn users None (Others name) all named h =
    absurd (let q : false ≡ true = h in cc)
class_shown old new mo mn users (Some user) (User name) all named h =
    at (is_among (string_bytes name) users) refl
  where
    here : bytes_eq user (string_bytes name) ≡ true
    here = (and_parts (bytes_eq user (string_bytes name)) (is_listed mo mn user) h).0

    listed : is_listed old new user ≡ is_among (string_bytes name) users
    listed = sym (all user) ∙ ap (λ t. is_among t users) (text_is user (string_bytes name) here)

    at : (b : Bool) → is_among (string_bytes name) users ≡ b
        → is_in old new (Some user) (cond b (User name) (Others name)) ≡ true
    at true e = and_from (bytes_eq user (string_bytes name)) (is_listed old new user) here
        (listed ∙ e)
    at false e = ap not (listed ∙ e)
class_shown old new mo mn users (Some user) (Others name) all named h =
    at (is_among user users) refl
  where
    at : (b : Bool) → is_among user users ≡ b → not (is_listed old new user) ≡ true
    at false e = ap not (sym (all user) ∙ e)
    at true e = absurd (let q : false ≡ true =
        sym (ap (λ b. not (b || is_user_of user mn)) (named user e)) ∙ h in cc)

pub class_user : (users : List (Bor (List ℕ))) (class : Class)
    → user_of (class_in users class) ≡ user_of class
class_user users Anonymous = refl
class_user users (User name) = at (is_among (string_bytes name) users)
  where
    at : (b : Bool) → user_of (cond b (User name) (Others name)) ≡ Some (string_bytes name)
    at true = refl
    at false = refl
class_user users (Others name) = refl
