-- What a filter that is carried to a region covers, `%u` read as the user name.
use Rattle.std.proofs.Common.{◌≡◌, ◌<◌, ◌-◌, ℕ, Bool, true, false, cond, ◌&&◌, ◌||◌, List, [], ◌∷◌}
use Rattle.std.proofs.Common.{◌++◌, length, drop, refl, ap, sym, ◌∙◌, arith, subst, Bor, Option}
use Rattle.std.proofs.Common.{Some, None, zero, suc, map}
use Rattle.std.specs.List.{flat_map, list_all, list_any, zip}
use Rattle.std.proofs.lemmas.Bool.{and_parts, and_from, or_parts, not-true}
use Rattle.mq_topic.specs.Levels.{levels}
use Rattle.mq_topic.specs.Matching.{level_at, level_matches, matches}
use Rattle.mq_topic.specs.Texts.{is_name}
use Rattle.mq_rename.specs.Lists.{has_long, is_hash, is_long, is_plus, levels_match}
use Rattle.mq_rename.specs.Renames.{Renaming, becomes, has_place, is_rename, new_levels, new_name}
use Rattle.mq_rename.specs.Renames.{new_text}
use Rattle.mq_rename.proofs.BackLemmas.{new_name_is}
use Rattle.mq_rename.proofs.BindLemmas.{place_is, plus_is_no_hash}
use Rattle.mq_rename.proofs.BoundLemmas.{rule_is}
use Rattle.mq_rename.proofs.MatchLemmas.{has_dollar, matches_parts}
use Rattle.mq_regions.specs.Carried.{is_rule}
use Rattle.mq_regions.specs.Regions.{has_mark, in_kind, is_mark, kind_levels, side_name}
use Rattle.mq_regions.specs.declared.region.RegionKind.{RegionKind}
use Rattle.mq_regions.specs.declared.region.RegionKind.TheVariants.{Renamed, Kept, Same}
use Rattle.mq_regions.specs.declared.side.Side.{Side}
use Rattle.mq_regions.specs.declared.side.Side.TheVariants.{Old, New}
use Rattle.mq_regions.proofs.NameLemmas.{stands_named, name_text}
use Rattle.mq_regions.proofs.ReadLemmas.{Pairwise, ends, pair, any_or, any_parts, levels_step}
use Rattle.mq_regions.proofs.ReadLemmas.{any_under}
use Rattle.mq_regions.proofs.StandLemmas.{Own, Stands, short_nothing, short_own, Leads, at_user}
use Rattle.mq_regions.proofs.StandLemmas.{at_user_own, at_user_stands, is_users}
use Rattle.std.specs.Prelude.{codes}
use Rattle.std.specs.Str.{bytes_eq}
use Rattle.mq_acl.specs.Access.{is_user}
use Rattle.mq_rename.proofs.FitLemmas.{all_lack, lacks_hash}
use Rattle.mq_rename.proofs.JoinLemmas.{joined}
use Rattle.mq_regions.specs.Filled.{has_level}
use Rattle.mq_regions.proofs.CoverLemmas.{bad_level, lead_matches, own_front, plain_covers}

-- ---- new names of names that stand for others
module _ {R : List ℕ → List ℕ → Type 0} where
  pair_at : (p : ℕ) {ks ls : List (List ℕ)} → R [] [] → Pairwise R ks ls
      → R (level_at ks p) (level_at ls p)
  pair_at p e ends = e
  pair_at zero e (pair r s) = r
  pair_at (suc p) e (pair r s) = pair_at p e s

  pair_drop : (n : ℕ) {ks ls : List (List ℕ)} → Pairwise R ks ls
      → Pairwise R (drop n ks) (drop n ls)
  pair_drop zero s = s
  pair_drop (suc n) ends = ends
  pair_drop (suc n) (pair r s) = pair_drop n s

  pair_append : {ks ls js ms : List (List ℕ)} → Pairwise R ks ls → Pairwise R js ms
      → Pairwise R (ks ++ js) (ls ++ ms)
  pair_append ends t = t
  pair_append (pair r s) t = pair r (pair_append s t)

  -- what a level on the right becomes
  pair_becomes : (front : ℕ) {ks ls : List (List ℕ)} (q : List ℕ × ℕ) → Pairwise R ks ls
      → (is_plus q.0 ≡ true → R (level_at ks q.1) (level_at ls q.1))
      → (is_plus q.0 ≡ false → is_hash q.0 ≡ false → R q.0 q.0)
      → Pairwise R (becomes front ks q) (becomes front ls q)
  pair_becomes front {ks} {ls} q s p o = grind (arith, pair, ends, pair_drop)

  -- the levels of the new names, where those that a `+` on the left matches are such
  pub pair_made : (left : List (List ℕ)) {ks ls : List (List ℕ)} (front : ℕ)
      (rs : List (List ℕ)) (ps : List ℕ) → Pairwise R ks ls
      → ((p : ℕ) → is_plus (level_at left p) ≡ true → R (level_at ks p) (level_at ls p))
      → (bad : List ℕ → Bool)
      → ((r : List ℕ) → bad r ≡ false → is_plus r ≡ false → is_hash r ≡ false → R r r)
      → list_any bad rs ≡ false
      → list_all (has_place left) (zip rs ps) ≡ true
      → Pairwise R (flat_map (becomes front ks) (zip rs ps))
      (flat_map (becomes front ls) (zip rs ps))
  pair_made left front [] ps s p bad o h f = ends
  pair_made left front (r ∷ rs) [] s p bad o h f = ends
  pair_made left front (r ∷ rs) (q ∷ ps) s p bad o h f =
      let both = or_parts _ _ h in
      let place : List ℕ × ℕ = (r, q) in
      pair_append
      (pair_becomes front place s (λ e. p q (place_is left place (zip rs ps) f e)) (o r both.0))
      (pair_made left front rs ps s p bad o both.1 (and_parts _ _ f).1)

  -- at a place that both have
  pub pair_within : (p : ℕ) {ks ls : List (List ℕ)} → p < length ks → Pairwise R ks ls
      → R (level_at ks p) (level_at ls p)
  pair_within p h ends = absurd (omega arith)
  pair_within zero h (pair r s) = r
  pair_within (suc p) h (pair r s) = pair_within p (omega arith) s

-- a name that is matched has a level where the filter has `+`
pub plus_reached : (fs ns : List (List ℕ)) (p : ℕ) → levels_match fs ns ≡ true
    → is_plus (level_at fs p) ≡ true → p < length ns
plus_reached [] ns p m e = absurd (let k : false ≡ true = e in cc)
plus_reached (f ∷ fs) (n ∷ ns) zero m e = omega arith
plus_reached (f ∷ []) [] zero m e =
    let k = sym (levels_step level_matches f [] []) ∙ m in
    absurd (grind (arith, k, plus_is_no_hash f))
plus_reached (f ∷ []) ns (suc p) m e = absurd (let k : false ≡ true = e in cc)
plus_reached (f ∷ g ∷ fs) [] p m e =
    let k = sym (levels_step level_matches f (g ∷ fs) []) ∙ m in absurd (grind (arith, k))
plus_reached (f ∷ g ∷ fs) (n ∷ ns) (suc p) m e =
    let k = sym (levels_step level_matches f (g ∷ fs) (n ∷ ns)) ∙ m in
    let more = plus_reached (g ∷ fs) ns p (grind (arith, k)) e in
    omega arith

pub pair_flip : {R S : List ℕ → List ℕ → Type 0} → ((l k : List ℕ) → R l k → S k l)
    → {ls ks : List (List ℕ)} → Pairwise R ls ks → Pairwise S ks ls
pair_flip f ends = ends
pair_flip f (pair {k} {l} r s) = pair (f k l r) (pair_flip f s)

-- ---- the levels of a rule
-- no level of a rule's sides is a mark or long
pub record IsPlain (ls : List (List ℕ)) : Type 0 where
  pub marks : has_mark ls ≡ false
  pub short : has_long ls ≡ false

pub plain_parts : (ls ms : List (List ℕ)) → IsPlain (ls ++ ms) → IsPlain ls × IsPlain ms
plain_parts ls ms h =
    let marks = any_parts is_mark ls ms h.marks in
    let short = any_parts is_long ls ms h.short in (
      record { marks = marks.0; short = short.0 },
      record { marks = marks.1; short = short.1 },
    )

-- a new name is a name
passed : (a : Bool) (p : List ℕ → Bool) (t m : List ℕ)
    → cond (a && p t) (Some t) None ≡ Some m → p m ≡ true
passed a p t m e = grind arith

pub new_is_name : (r : Renaming) (n m : List ℕ) → new_name r n ≡ Some m → is_name m ≡ true
new_is_name r n m e = passed (matches (levels r.left) (levels n)) is_name (new_text r n) m e

-- levels that stand for a name's are those of a new one
pub record IsNewText (r : Renaming) (k : List ℕ) : Type 0 where
  pub gets : new_name r k ≡ Some (new_text r k)
  pub are : levels (new_text r k) ≡ new_levels (levels r.left) (levels r.right) r.places (levels k)

pub new_text_is : (x : List ℕ) (u : Option (List ℕ)) (r : Renaming) (k m : List ℕ)
    → matches (levels r.left) (levels k) ≡ true → is_name m ≡ true
    → Pairwise (Stands x u) (new_levels (levels r.left) (levels r.right) r.places (levels k))
    (levels m) → IsNewText r k
new_text_is x u r k m h name s =
    let named = stands_named x u m _ name s in
    record {
      gets = ap (λ b. cond b (Some (new_text r k)) None) (and_from _ _ h named.name);
      are = named.are;
    }

-- ---- where a name goes that stands for another
pub record IsFollowed (side : Side) (kind : RegionKind) (x : List ℕ) (u : Option (List ℕ))
    (k n m : List ℕ) : Type 0 where
  pub to : List ℕ
  pub gets : side_name side kind k ≡ Some to
  pub stands : Pairwise (Stands x u) (levels to) (levels m)
  pub dollar : has_dollar (level_at (levels m) 0) ≡ true
      → (has_dollar (level_at (levels n) 0) ≡ true → has_dollar (level_at (levels k) 0) ≡ true)
      → has_dollar (level_at (levels to) 0) ≡ true

module _ (x : List ℕ) (u : Option (List ℕ)) where
  follow_same : (side : Side) (kind : RegionKind) (k n m : List ℕ)
      → ((name : List ℕ) → side_name side kind name ≡ Some name) → side_name side kind n ≡ Some m
      → Pairwise (Stands x u) (levels k) (levels n) → IsFollowed side kind x u k n m
  follow_same side kind k n m same e s =
      let is : n ≡ m = let two = sym (same n) ∙ e in cc in
      record {
        to = k;
        gets = same k;
        stands = subst (λ t. Pairwise (Stands x u) (levels k) (levels t)) is s;
        dollar = λ d f. f (ap (λ t. has_dollar (level_at (levels t) 0)) is ∙ d);
      }

  follow_new : (rule : Bor Renaming) (k n m : List ℕ)
      → is_rename rule.now.left rule.now.right rule.now.places ≡ true
      → IsPlain (levels rule.now.right) → matches (levels rule.now.left) (levels k) ≡ true
      → new_name rule.now n ≡ Some m → Pairwise (Stands x u) (levels k) (levels n)
      → IsFollowed New (Renamed rule) x u k n m
  follow_new rule k n m whole plain h e s =
      let r = rule.now in
      let left = levels r.left in
      let right = levels r.right in
      let is = new_name_is r n m whole e in
      let made = pair_made left (length left - 1) right r.places s
      (λ p f. pair_at p (Own (sym short_nothing)) s) (λ w. is_mark w || is_long w)
      (λ w b f g. let parts = or_parts _ _ b in Own (sym (short_own w parts.0 parts.1)))
      (any_or is_mark is_long right plain.marks plain.short)
      (rule_is r.left r.right r.places whole).placed in
      let pairs = subst (Pairwise (Stands x u) (new_levels left right r.places (levels k)))
      (sym is.are) made in
      let new = new_text_is x u r k m h (new_is_name r n m e) pairs in
      record {
        to = new_text r k;
        gets = new.gets;
        stands = subst (λ ls. Pairwise (Stands x u) ls (levels m)) (sym new.are) pairs;
        dollar = λ d f.
            ap has_dollar ((new_name_is r k (new_text r k) whole new.gets).begins ∙ sym is.begins)
            ∙ d;
      }

  pub followed : (side : Side) (kind : RegionKind) (k n m : List ℕ) → is_rule side kind ≡ true
      → IsPlain (kind_levels kind) → in_kind kind k ≡ true → side_name side kind n ≡ Some m
      → Pairwise (Stands x u) (levels k) (levels n) → IsFollowed side kind x u k n m
  followed Old kind k n m rule plain h e s = follow_same Old kind k n m (λ t. refl) e s
  followed New (Kept filter) k n m rule plain h e s =
      follow_same New (Kept filter) k n m (λ t. refl) e s
  followed New Same k n m rule plain h e s = follow_same New Same k n m (λ t. refl) e s
  followed New (Renamed r) k n m rule plain h e s =
      follow_new r k n m rule (plain_parts (levels r.now.left) (levels r.now.right) plain).1 h e s

-- ---- Names in which `%u` stands for the user name, and where they go.
-- ---- such names
-- `%u` stands for the user name in it
pub lead_stands : (x : List ℕ) (u v : Option (List ℕ))
    → ((l : List ℕ) → is_user l v ≡ true → is_user l u ≡ true)
    → (l k : List ℕ) → Leads v l k → Stands x u k l
lead_stands x u v f l k r =
    subst (λ t. Stands x u t l) (sym r.1) (at_user_stands x u v f l)

led_all : (v : Option (List ℕ)) (ls : List (List ℕ)) → all_lack 35 ls ≡ true
    → Pairwise (Leads v) ls (map (at_user v) ls)
led_all v [] h = ends
led_all v (l ∷ ls) h = grind (arith, led_all v ls, and_parts, pair, lacks_hash, not-true)

-- the text of the name
pub led_text : Option (List ℕ) → List ℕ → List ℕ
led_text v n = joined (map (at_user v) (levels n))

pub record IsLedName (v : Option (List ℕ)) (n k : List ℕ) : Type 0 where
  pub name : is_name k ≡ true
  pub leads : Pairwise (Leads v) (levels n) (levels k)

pub led_name : (v : Option (List ℕ)) (n : List ℕ) → is_name n ≡ true → IsLedName v n (led_text v n)
unfolding led_text
led_name v n h =
    let leads = led_all v (levels n) (name_text n h).hash in
    let named = stands_named [] v n (map (at_user v) (levels n)) h
    (pair_flip (lead_stands [] v v (λ l e. e)) leads) in
    record {
      name = named.name;
      leads = subst (Pairwise (Leads v) (levels n)) (sym named.are) leads;
    }

-- ---- where they go
module _ (v : Option (List ℕ)) where
  -- none of the levels stands in the way
  pub none_bad : (ls : List (List ℕ)) → has_long ls ≡ false → has_level (codes "%c") ls ≡ false
      → list_any (is_users v) ls ≡ false → list_any (bad_level v) ls ≡ false
  none_bad ls h k n =
      any_or is_long (λ w. bytes_eq w (codes "%c") || is_users v w) ls h
      (any_or (λ w. bytes_eq w (codes "%c")) (is_users v) ls k n)

  -- a filter without marks matches such a name where it matches the name
  led_match : (filter n k : List ℕ) → IsPlain (levels filter)
      → list_any (is_users v) (levels filter) ≡ false
      → Pairwise (Leads v) (levels n) (levels k) → matches (levels filter) (levels n) ≡ true
      → matches (levels filter) (levels k) ≡ true
  led_match filter n k plain own s m =
      lead_matches [] v filter n k (none_bad (levels filter) plain.short
      (any_under is_mark (λ w. bytes_eq w (codes "%c")) (λ w e. (or_parts _ _ e).0) (levels filter)
      plain.marks) own) s
      (plain_covers [] v n filter plain.marks ∙ m)

  pub led_inside : (kind : RegionKind) (n k : List ℕ) → IsPlain (kind_levels kind)
      → list_any (is_users v) (kind_levels kind) ≡ false
      → Pairwise (Leads v) (levels n) (levels k) → in_kind kind n ≡ true → in_kind kind k ≡ true
  led_inside (Renamed r) n k plain own s m =
      grind (arith, led_match, plain_parts, any_parts, is_users)
  led_inside (Kept filter) n k plain own s m = led_match filter.now n k plain own s m
  led_inside Same n k plain own s m = refl

  same_is : (side : Side) (n m : List ℕ) → side_name side Same n ≡ Some m → n ≡ m
  same_is Old n m e = cc
  same_is New n m e = cc

  -- it begins with `$` where the name does, if the user name is no such level
  pub led_front : (side : Side) (kind : RegionKind) (n m : List ℕ)
      → list_any (is_users v) (kind_levels kind) ≡ false → in_kind kind n ≡ true
      → side_name side kind n ≡ Some m → has_dollar (level_at (levels n) 0) ≡ true
      → (has_dollar (level_at (levels m) 0) ≡ true → is_user (level_at (levels m) 0) v ≡ false)
      → is_user (level_at (levels n) 0) v ≡ false
  led_front side (Renamed r) n m own h e d f = grind (arith, own_front, any_parts, is_users)
  led_front side (Kept filter) n m own h e d f = own_front v filter.now n own h d
  led_front side Same n m own h e d f = grind (arith, same_is, has_dollar)

  -- what such a name gets
  pub record IsLedTo (side : Side) (kind : RegionKind) (k m : List ℕ) : Type 0 where
    pub to : List ℕ
    pub gets : side_name side kind k ≡ Some to
    pub leads : Pairwise (Leads v) (levels m) (levels to)

  led_same : (side : Side) (kind : RegionKind) (k n m : List ℕ)
      → ((name : List ℕ) → side_name side kind name ≡ Some name) → side_name side kind n ≡ Some m
      → Pairwise (Leads v) (levels n) (levels k) → IsLedTo side kind k m
  led_same side kind k n m same e s =
      let is : n ≡ m = let two = sym (same n) ∙ e in cc in
      record {
        to = k;
        gets = same k;
        leads = subst (λ t. Pairwise (Leads v) (levels t) (levels k)) is s;
      }

  abbrev bad_right : List ℕ → Bool
  bad_right w = is_mark w || (is_long w || is_users v w)

  -- a level on the right stands for itself
  right_leads : (w : List ℕ) → bad_right w ≡ false → is_plus w ≡ false → is_hash w ≡ false
      → Leads v w w
  right_leads w b f g = grind (arith, or_parts, short_own, at_user_own)

  led_new : (rule : Bor Renaming) (k n m : List ℕ)
      → is_rename rule.now.left rule.now.right rule.now.places ≡ true
      → IsPlain (levels rule.now.right) → list_any (is_users v) (levels rule.now.right) ≡ false
      → matches (levels rule.now.left) (levels k) ≡ true
      → matches (levels rule.now.left) (levels n) ≡ true
      → new_name rule.now n ≡ Some m → Pairwise (Leads v) (levels n) (levels k)
      → IsLedTo New (Renamed rule) k m
  led_new rule k n m whole plain own h g e s =
      let r = rule.now in
      let left = levels r.left in
      let right = levels r.right in
      let js = new_levels left right r.places (levels k) in
      let is = new_name_is r n m whole e in
      let made = pair_made left (length left - 1) right r.places s
      (λ p f. pair_within p (plus_reached left (levels n) p (matches_parts left (levels n) g).1 f)
      s)
      bad_right right_leads
      (any_or is_mark (λ w. is_long w || is_users v w) right plain.marks
      (any_or is_long (is_users v) right plain.short own))
      (rule_is r.left r.right r.places whole).placed in
      let leads = subst (λ ls. Pairwise (Leads v) ls js) (sym is.are) made in
      let new = new_text_is [] v r k m h (new_is_name r n m e)
      (pair_flip (lead_stands [] v v (λ l e. e)) leads) in
      record {
        to = new_text r k;
        gets = new.gets;
        leads = subst (Pairwise (Leads v) (levels m)) (sym new.are) leads;
      }

  pub led_to : (side : Side) (kind : RegionKind) (k n m : List ℕ) → is_rule side kind ≡ true
      → IsPlain (kind_levels kind) → list_any (is_users v) (kind_levels kind) ≡ false
      → in_kind kind k ≡ true → in_kind kind n ≡ true → side_name side kind n ≡ Some m
      → Pairwise (Leads v) (levels n) (levels k) → IsLedTo side kind k m
  led_to Old kind k n m rule plain own h g e s = led_same Old kind k n m (λ t. refl) e s
  led_to New (Kept filter) k n m rule plain own h g e s =
      led_same New (Kept filter) k n m (λ t. refl) e s
  led_to New Same k n m rule plain own h g e s = led_same New Same k n m (λ t. refl) e s
  led_to New (Renamed r) k n m rule plain own h g e s =
      grind (arith, led_new, plain_parts, any_parts, is_users)
