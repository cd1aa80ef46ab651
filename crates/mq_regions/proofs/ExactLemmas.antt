-- A row with a filter that is carried covers what the row covers.
use Rattle.std.proofs.Common.{◌≡◌, ◌<◌, ℕ, true, false, ◌&&◌, List, [], ◌∷◌, length, refl, ap, sym}
use Rattle.std.proofs.Common.{◌∙◌, arith, subst, Option, Some}
use Rattle.std.specs.Prelude.{codes}
use Rattle.std.specs.List.{list_any}
use Rattle.std.specs.Str.{bytes_eq}
use Rattle.std.proofs.lemmas.Bool.{and_parts, cond_both, false_from_ne_true, or_from, or_parts}
use Rattle.mq_topic.specs.Levels.{levels}
use Rattle.mq_topic.specs.Matching.{level_at, matches}
use Rattle.mq_topic.specs.Texts.{is_name}
use Rattle.mq_topic.proofs.ByteLemmas.{text_is}
use Rattle.mq_topic.proofs.Walk.{levels-nonempty, shown}
use Rattle.mq_acl.specs.Access.{is_user}
use Rattle.mq_rename.specs.Lists.{has_long, levels_match}
use Rattle.mq_rename.proofs.JoinLemmas.{joined}
use Rattle.mq_rename.proofs.MatchLemmas.{has_dollar}
use Rattle.mq_regions.specs.Carried.{IsCarried, IsNowhere}
use Rattle.mq_regions.specs.Regions.{in_kind, kind_levels, side_name}
use Rattle.mq_regions.specs.declared.region.RegionKind.{RegionKind}
use Rattle.mq_regions.specs.declared.region.RegionKind.TheVariants.{Renamed, Kept, Same}
use Rattle.mq_regions.specs.declared.side.Side.{Side}
use Rattle.mq_regions.proofs.CarriedLemmas.{IsPlain, followed, pair_flip, plain_parts, lead_stands}
use Rattle.mq_regions.proofs.CarriedLemmas.{led_front, led_inside, led_name, led_text, led_to}
use Rattle.mq_regions.proofs.CoverLemmas.{bad_level, covers_dollar, dollar_lead, first_pair}
use Rattle.mq_regions.proofs.CoverLemmas.{lead_matches, not_hidden, own_covered, pattern_covers}
use Rattle.mq_regions.proofs.CoverLemmas.{plain_covers, read_stands}
use Rattle.mq_regions.proofs.NameLemmas.{stands_named}
use Rattle.mq_regions.proofs.ReadLemmas.{Pairwise, any_under}
use Rattle.mq_regions.proofs.StandLemmas.{Stands, is_users, short, short_dollar, stands_dollar}
use Rattle.mq_regions.proofs.StandLemmas.{woven, woven_match, woven_stands}

-- a filter is carried to one without long levels
pub carried_short : (side : Side) (kind : RegionKind) (filter carried : List ℕ)
    → IsCarried side kind filter carried → has_long (kind_levels kind) ≡ false
    → has_long (levels filter) ≡ false → has_long (levels carried) ≡ false
carried_short side kind filter carried is h k = grind (arith, false_from_ne_true, or_from)

-- ---- what it covers, read for any user name, the filter covers
woven_first : (x : List ℕ) (u : Option (List ℕ)) (gs ls : List (List ℕ)) → 0 < length gs
    → 0 < length ls → has_dollar (level_at gs 0) ≡ true → has_dollar (level_at ls 0) ≡ true
    → has_dollar (level_at (woven x u gs ls) 0) ≡ true
woven_first x u [] ls p q d e = absurd (omega arith)
woven_first x u (g ∷ gs) [] p q d e = absurd (omega arith)
woven_first x u (g ∷ gs) (l ∷ ls) p q d e =
    cond_both (bytes_eq g (codes "%u") && is_user l u) (codes "%u") _ (λ v. has_dollar v ≡ true)
    (λ f. no (codes "%u") refl (and_parts _ _ f).0)
    (λ f. cond_both (bytes_eq g (codes "%c") && bytes_eq l x) (codes "%c") (short l)
    (λ v. has_dollar v ≡ true) (λ f. no (codes "%c") refl (and_parts _ _ f).0)
    (λ f. short_dollar l ∙ e))
  where
    no : (v : List ℕ) → has_dollar v ≡ false → bytes_eq g v ≡ true → has_dollar v ≡ true
    no v f h = absurd (let k : false ≡ true = sym (ap has_dollar (text_is g v h) ∙ f) ∙ d in cc)

-- a name that stands for one that is covered
record IsWoven (x : List ℕ) (u : Option (List ℕ)) (filter n k : List ℕ) : Type 0 where
  pub name : is_name k ≡ true
  pub stands : Pairwise (Stands x u) (levels k) (levels n)
  pub matched : matches (levels filter) (levels k) ≡ true
  pub dollar : has_dollar (level_at (levels n) 0) ≡ true
      → has_dollar (level_at (levels k) 0) ≡ true

woven_name : (x : List ℕ) (u : Option (List ℕ)) (filter n : List ℕ) → is_name n ≡ true
    → has_long (levels filter) ≡ false → pattern_covers x u n filter ≡ true
    → IsWoven x u filter n (joined (woven x u (levels filter) (levels n)))
woven_name x u filter n h short_levels e =
    let gs = levels filter in
    let parts = and_parts _ _ e in
    let named = stands_named x u n (woven x u gs (levels n)) h (woven_stands x u gs (levels n)) in
    let k = joined (woven x u gs (levels n)) in
    let stands = subst (λ ls. Pairwise (Stands x u) ls (levels n)) (sym named.are)
    (woven_stands x u gs (levels n)) in
    let begins = covers_dollar n filter parts.0 in
    record {
      name = named.name;
      stands = stands;
      matched = shown gs k (not_hidden filter k
          (λ f. begins (stands_dollar (first_pair (levels-nonempty n) stands) f)))
          ∙ ap (levels_match gs) named.are ∙ woven_match x u gs (levels n) short_levels parts.1;
      dollar = λ d.
          ap (λ ls. has_dollar (level_at ls 0)) named.are
          ∙ woven_first x u gs (levels n) (levels-nonempty filter) (levels-nonempty n) (begins d)
          d;
    }

pub sound : (side : Side) (kind : RegionKind) (filter carried x : List ℕ) (u : Option (List ℕ))
    (n m : List ℕ) → IsCarried side kind filter carried → IsPlain (kind_levels kind)
    → has_long (levels filter) ≡ false → is_name n ≡ true → side_name side kind n ≡ Some m
    → pattern_covers x u n carried ≡ true → pattern_covers x u m filter ≡ true
sound side kind filter carried x u n m is plain short_filter h e c =
    let short_carried = carried_short side kind filter carried is plain.short short_filter in
    let k = joined (woven x u (levels carried) (levels n)) in
    let w = woven_name x u carried n h short_carried c in
    let inside = is.inside k w.name w.matched in
    let f = followed x u side kind k n m is.rule plain inside e w.stands in
    read_stands x u filter f.to m short_filter f.stands (λ d. f.dollar d w.dollar)
    (sym (is.same k f.to w.name inside f.gets) ∙ w.matched)

-- and it covers nothing that isn't of the kind
plain_stands : (x : List ℕ) (u : Option (List ℕ)) (filter k n : List ℕ)
    → IsPlain (levels filter) → Pairwise (Stands x u) (levels k) (levels n)
    → (has_dollar (level_at (levels n) 0) ≡ true → has_dollar (level_at (levels k) 0) ≡ true)
    → matches (levels filter) (levels k) ≡ true → matches (levels filter) (levels n) ≡ true
plain_stands x u filter k n plain s d m =
    sym (plain_covers x u n filter plain.marks) ∙ read_stands x u filter k n plain.short s d m

kind_stands : (kind : RegionKind) (x : List ℕ) (u : Option (List ℕ)) (k n : List ℕ)
    → IsPlain (kind_levels kind) → Pairwise (Stands x u) (levels k) (levels n)
    → (has_dollar (level_at (levels n) 0) ≡ true → has_dollar (level_at (levels k) 0) ≡ true)
    → in_kind kind k ≡ true → in_kind kind n ≡ true
kind_stands (Renamed r) x u k n plain s d h = grind (arith, plain_stands, plain_parts)
kind_stands (Kept filter) x u k n plain s d h = plain_stands x u filter.now k n plain s d h
kind_stands Same x u k n plain s d h = refl

pub inside_kind : (side : Side) (kind : RegionKind) (filter carried x : List ℕ)
    (u : Option (List ℕ)) (n : List ℕ) → IsCarried side kind filter carried
    → IsPlain (kind_levels kind) → has_long (levels filter) ≡ false → is_name n ≡ true
    → pattern_covers x u n carried ≡ true → in_kind kind n ≡ true
inside_kind side kind filter carried x u n is plain short_filter h c =
    let short_carried = carried_short side kind filter carried is plain.short short_filter in
    let k = joined (woven x u (levels carried) (levels n)) in
    let w = woven_name x u carried n h short_carried c in
    kind_stands kind x u k n plain w.stands w.dollar (is.inside k w.name w.matched)

-- ---- what the filter covers, for a user name that is no level of its own, it covers
users_of_bad : (v : Option (List ℕ)) (ls : List (List ℕ)) → list_any (bad_level v) ls ≡ false
    → list_any (is_users v) ls ≡ false
users_of_bad v ls h = grind (arith, any_under, bad_level, is_users, or_parts)

module _ (side : Side) (kind : RegionKind) (filter c : List ℕ) (v : Option (List ℕ))
    (n m : List ℕ) where
  pub complete : (carried x : List ℕ) (u : Option (List ℕ)) → IsCarried side kind filter carried
      → IsPlain (kind_levels kind) → list_any (is_users v) (kind_levels kind) ≡ false
      → list_any (bad_level v) (levels filter) ≡ false → has_long (levels filter) ≡ false
      → ((l : List ℕ) → is_user l v ≡ true → is_user l u ≡ true)
      → is_name n ≡ true → in_kind kind n ≡ true → side_name side kind n ≡ Some m
      → pattern_covers c v m filter ≡ true → pattern_covers x u n carried ≡ true
  complete carried x u is plain own bad short_filter f h g e cover =
      let k = led_text v n in
      let name = led_name v n h in
      let inside = led_inside v kind n k plain own name.leads g in
      let goes = led_to v side kind k n m is.rule plain own inside g e name.leads in
      let first = first_pair (levels-nonempty k) name.leads in
      read_stands x u carried k n
      (carried_short side kind filter carried is plain.short short_filter)
      (pair_flip (lead_stands x u v f) name.leads)
      (λ d. dollar_lead v (level_at (levels n) 0) (level_at (levels k) 0) first
      (led_front v side kind n m own g e d
      (own_covered c v filter m (users_of_bad v (levels filter) bad) cover)) d)
      (is.same k goes.to name.name inside goes.gets
      ∙ lead_matches c v filter m goes.to bad goes.leads cover)

  -- where it is carried nowhere, there is no such name
  pub nowhere : IsNowhere side kind filter → IsPlain (kind_levels kind)
      → list_any (is_users v) (kind_levels kind) ≡ false
      → list_any (bad_level v) (levels filter) ≡ false → is_name n ≡ true
      → in_kind kind n ≡ true → side_name side kind n ≡ Some m
      → pattern_covers c v m filter ≡ true → ⊥
  nowhere is plain own bad h g e cover =
      let k = led_text v n in
      let name = led_name v n h in
      let inside = led_inside v kind n k plain own name.leads g in
      let goes = led_to v side kind k n m is.rule plain own inside g e name.leads in
      let no : true ≡ false =
      sym (lead_matches c v filter m goes.to bad goes.leads cover)
      ∙ is.none k goes.to name.name inside goes.gets in
      cc
