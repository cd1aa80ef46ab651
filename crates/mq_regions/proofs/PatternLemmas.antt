-- The rows that are made of a `pattern` row.
use Rattle.std.proofs.Common.{◌≡◌, ℕ, Bool, true, false, ◌&&◌, ◌||◌, List, [], ◌∷◌, ◌++◌, refl, ap}
use Rattle.std.proofs.Common.{sym, ◌∙◌, Option, Some, None, subst, arith, inl, inr}
use Rattle.std.specs.Prelude.{codes}
use Rattle.std.specs.List.{list_any}
use Rattle.std.specs.Option.{option_to_list}
use Rattle.std.proofs.Math.Bool.{and-false, or-false}
use Rattle.std.proofs.lemmas.Bool.{and_cases, cond-false, false_from_ne_true, or_from}
use Rattle.mq_topic.specs.Levels.{levels}
use Rattle.mq_topic.specs.Texts.{is_name}
use Rattle.mq_acl.specs.Access.{applies, concerns, is_user}
use Rattle.mq_acl.specs.Rows.{Who, Everyone}
use Rattle.mq_acl.specs.RowsByOwner.{is_everyones}
use Rattle.mq_acl.specs.Views.{access_view, owner_view, row_view, row_views}
use Rattle.mq_acl.specs.declared.row.Row.{Row}
use Rattle.mq_rename.specs.Lists.{has_long}
use Rattle.mq_regions.specs.Filled.{IsFilled, has_level}
use Rattle.mq_regions.specs.Limits.{has_long_row, is_long_row}
use Rattle.mq_regions.specs.Made.{AreVersions, IsAsked, IsCarriedRow, IsCarriedRowIfAny, IsGroup}
use Rattle.mq_regions.specs.Made.{covers_named}
use Rattle.mq_regions.specs.Own.{is_own}
use Rattle.mq_regions.specs.Regions.{in_kind, kind_levels, side_name}
use Rattle.mq_regions.specs.declared.region.RegionKind.{RegionKind}
use Rattle.mq_regions.specs.declared.side.Side.{Side}
use Rattle.mq_regions.proofs.CarriedLemmas.{IsPlain, none_bad}
use Rattle.mq_regions.proofs.CoverLemmas.{pattern_covers}
use Rattle.mq_regions.proofs.ExactLemmas.{complete, inside_kind, nowhere, sound}
use Rattle.mq_regions.proofs.FillLemmas.{client_same, no_client_left}
use Rattle.mq_regions.proofs.GroupLemmas.{any_views, made_short, no_views, versions_append}
use Rattle.mq_regions.proofs.ReadLemmas.{alike, any_parts}
use Rattle.mq_regions.proofs.StandLemmas.{is_users}

-- ---- rows for all clients
pub applies_everyone : (u : Option (List ℕ)) → applies u Everyone ≡ true
applies_everyone None = refl
applies_everyone (Some user) = refl

everyone_is : (who : Who) → is_everyones who ≡ true → who ≡ Everyone
everyone_is who h = grind arith

pattern_concerns : (c : List ℕ) (u : Option (List ℕ)) (m : List ℕ) (row : Row)
    → owner_view row.owner ≡ Everyone
    → concerns c u m (row_view row) ≡ pattern_covers c u m row.filter
pattern_concerns c u m row h =
    ap (λ w. concerns c u m (record {
      who = w;
      access = access_view row.access;
      filter = row.filter;
    })) h
    ∙ ap (λ b. b && pattern_covers c u m row.filter) (applies_everyone u)

-- which client is asked is the same without `%c`
client_free : (x c : List ℕ) (u : Option (List ℕ)) (m filter : List ℕ)
    → has_level (codes "%c") (levels filter) ≡ false
    → pattern_covers x u m filter ≡ pattern_covers c u m filter
client_free x c u m filter h = grind (arith, alike, cond-false)

-- and which user, without `%u`
user_free : (c : List ℕ) (u v : Option (List ℕ)) (m filter : List ℕ)
    → has_level (codes "%u") (levels filter) ≡ false
    → pattern_covers c u m filter ≡ pattern_covers c v m filter
user_free c u v m filter h = grind (arith, alike, cond-false)

-- ---- which user names rows of their own stand for
-- the texts that stand for themselves in the filters, if `%u` is a level of the one
abbrev pub IsTexts : (kind : RegionKind) (filter : List ℕ) (named : List (List ℕ)) → Type 0
IsTexts kind filter named = (p : List ℕ → Bool) → list_any p named
    ≡ (has_level (codes "%u") (levels filter)
    && list_any (λ l. is_own l && p l) (kind_levels kind ++ levels filter))

no_users : (ls : List (List ℕ)) → list_any (is_users None) ls ≡ false
no_users [] = refl
no_users (l ∷ ls) = or_from _ _ (and-false (is_own l)) (no_users ls)

-- a user name that is none of them, or none where `%u` is no level
record IsOther (kind : RegionKind) (filter : List ℕ) (u v : Option (List ℕ)) : Type 0 where
  pub kind_users : list_any (is_users v) (kind_levels kind) ≡ false
  pub users : list_any (is_users v) (levels filter) ≡ false
  pub implies : (l : List ℕ) → is_user l v ≡ true → is_user l u ≡ true
  pub same : (c m : List ℕ) → pattern_covers c u m filter ≡ pattern_covers c v m filter

other_is : (kind : RegionKind) (filter : List ℕ) (u : Option (List ℕ))
    → (has_level (codes "%u") (levels filter)
    && list_any (is_users u) (kind_levels kind ++ levels filter)) ≡ false
    → (v : Option (List ℕ)) × IsOther kind filter u v
other_is kind filter u h = elim (and_cases _ _ h) [
  | inl e ↦ (
    None,
    record {
      kind_users = no_users (kind_levels kind);
      users = no_users (levels filter);
      implies = λ l k. absurd (let no : false ≡ true = k in cc);
      same = λ c m. user_free c u None m filter e;
    },
  )
  | inr n ↦ (
    u,
    let both = any_parts (is_users u) (kind_levels kind) (levels filter) n in
        record { kind_users = both.0; users = both.1; implies = λ l k. k; same = λ c m. refl },
  )
]

-- ---- the row for all clients
-- what is known of the filter for the client
record IsAsking (kind : RegionKind) (filter : List ℕ) : Type 0 where
  pub plain : IsPlain (kind_levels kind)
  pub short : has_long (levels filter) ≡ false
  pub client : has_level (codes "%c") (levels filter) ≡ false

-- what the row for all clients concerns, if there is one
abbrev general_concerns : List ℕ → Option (List ℕ) → List ℕ → Option Row → Bool
general_concerns x u n general = list_any (concerns x u n) (row_views (option_to_list general))

settled : (a c e : Bool) → (e ≡ true → c ≡ true) → (a ≡ false → c ≡ true → e ≡ true)
    → ((a && c) || e) ≡ c
settled a c e f g = grind arith

module _ (side : Side) (kind : RegionKind) (row : Row) (c filter : List ℕ) where
  general_is : {made : Row} (x : List ℕ) (u : Option (List ℕ)) (n : List ℕ)
      → IsCarriedRow side kind row Everyone filter made
      → general_concerns x u n (Some made) ≡ pattern_covers x u n made.filter
  general_is {made} x u n is =
      or-false (concerns x u n (row_view made)) ∙ pattern_concerns x u n made is.owner

  general_sound : (general : Option Row) (x n m : List ℕ) (u : Option (List ℕ))
      → IsAsking kind filter → IsCarriedRowIfAny side kind row Everyone filter general
      → is_name n ≡ true → side_name side kind n ≡ Some m → general_concerns x u n general ≡ true
      → pattern_covers c u m filter ≡ true
  general_sound None x n m u asking is h e g = absurd (let k : false ≡ true = g in cc)
  general_sound (Some made) x n m u asking is h e g =
      sym (client_free x c u m filter asking.client)
      ∙ sound side kind filter made.filter x u n m is.carried asking.plain asking.short h e
      (sym (general_is x u n is) ∙ g)

  general_outside : (general : Option Row) (x n : List ℕ) (u : Option (List ℕ))
      → IsAsking kind filter → IsCarriedRowIfAny side kind row Everyone filter general
      → is_name n ≡ true → in_kind kind n ≡ false → general_concerns x u n general ≡ false
  general_outside None x n u asking is h g = refl
  general_outside (Some made) x n u asking is h g =
      false_from_ne_true _ (λ e.
      let inside = inside_kind side kind filter made.filter x u n is.carried asking.plain
      asking.short h (sym (general_is x u n is) ∙ e) in
      let k : true ≡ false = sym inside ∙ g in cc)

  general_complete : (general : Option Row) (x n m : List ℕ) (u v : Option (List ℕ))
      → IsAsking kind filter → IsCarriedRowIfAny side kind row Everyone filter general
      → IsOther kind filter u v → is_name n ≡ true → in_kind kind n ≡ true
      → side_name side kind n ≡ Some m → pattern_covers c u m filter ≡ true
      → general_concerns x u n general ≡ true
  general_complete None x n m u v asking is other h g e cover =
      absurd (nowhere side kind filter c v n m is asking.plain other.kind_users
      (none_bad v (levels filter) asking.short asking.client other.users) h g e
      (sym (other.same c m) ∙ cover))
  general_complete (Some made) x n m u v asking is other h g e cover =
      general_is x u n is
      ∙ complete side kind filter c v n m made.filter x u is.carried asking.plain other.kind_users
      (none_bad v (levels filter) asking.short asking.client other.users) asking.short
      other.implies h g e (sym (other.same c m) ∙ cover)

  -- ---- all of them
  pub pattern_made : (named : List (List ℕ)) (rows new : List Row) (general : Option Row)
      → IsAsked kind c → is_everyones (owner_view row.owner) ≡ true
      → IsFilled (codes "%c") c row.filter filter → IsTexts kind filter named
      → IsGroup side kind row rows (covers_named c filter row named)
      → IsCarriedRowIfAny side kind row Everyone filter general
      → new ≡ rows ++ option_to_list general
      → IsGroup side kind row new (λ u m. concerns c u m (row_view row))
  pattern_made named rows new general asked who filled own group is e =
      let asking : IsAsking kind filter = record {
        plain = record { marks = asked.plain_kind; short = asked.short_kind };
        short = filled.short;
        client = no_client_left c row.filter filter asked.plain_client filled;
      } in
      subst (λ rs. IsGroup side kind row rs (λ u m. concerns c u m (row_view row))) (sym e)
      (record {
        versions = versions_append row rows (option_to_list general) group.versions
            (versions general is);
        same = λ x n m u h g f.
            any_views (concerns x u n) rows (option_to_list general)
            ∙ ap (λ b. b || general_concerns x u n general) (group.same x n m u h g f)
            ∙ settled (list_any (λ t. is_user t u) named) (pattern_covers c u m filter) _
            (general_sound general x n m u asking is h f)
            (λ none cover.
            let other = other_is kind filter u (sym (own (λ t. is_user t u)) ∙ none) in
            general_complete general x n m u other.0 asking is other.1 h g f cover)
            ∙ client_same c u m row.filter filter asked.plain_client filled
            ∙ sym (pattern_concerns c u m row (everyone_is (owner_view row.owner) who));
        outside = λ x n u h g.
            no_views (concerns x u n) rows (option_to_list general) (group.outside x n u h g)
            (general_outside general x n u asking is h g);
        short = λ h.
            no_views is_long_row rows (option_to_list general) (group.short h)
            (short general is filled.short asked.short_kind);
      })
    where
      versions : (general : Option Row) → IsCarriedRowIfAny side kind row Everyone filter general
          → AreVersions row (option_to_list general)
      versions None is = tt
      versions (Some made) is = (is.version, tt)

      short : (general : Option Row) → IsCarriedRowIfAny side kind row Everyone filter general
          → has_long (levels filter) ≡ false → has_long (kind_levels kind) ≡ false
          → has_long_row (row_views (option_to_list general)) ≡ false
      short None is h k = refl
      short (Some made) is h k = made_short is k h refl
