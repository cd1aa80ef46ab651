-- New names of a name with other texts in the place of those that nothing names.
use Rattle.std.proofs.Common.{◌≡◌, ◌≤◌, ◌==◌, ℕ, Bool, true, false, cond, not, ◌&&◌, ◌||◌}
use Rattle.std.proofs.Common.{List, [], ◌∷◌, ◌++◌, length, map, refl, ap, sym, ◌∙◌, subst}
use Rattle.std.proofs.Common.{Option, Some, None, All, drop, zero, suc, ◌-◌, append-nil}
use Rattle.std.specs.List.{flat_map, join_with_byte, list_all, list_any, zip}
use Rattle.std.proofs.lemmas.List.{map-append}
use Rattle.std.proofs.lemmas.List.Elements.{All-cons, All-head, All-nil, All-tail}
use Rattle.std.specs.Str.{bytes_eq}
use Rattle.std.proofs.lemmas.Bool.{and_from, and_parts, or_left, or_right}
use Rattle.mq_topic.specs.Levels.{levels}
use Rattle.mq_topic.specs.Matching.{is_wildcard, level_at, level_matches}
use Rattle.mq_topic.specs.Matching.{levels_match_by, matches}
use Rattle.mq_topic.specs.Texts.{contains_byte, is_name}
use Rattle.std.proofs.lemmas.List.{length-map}
use Rattle.mq_topic.proofs.ByteLemmas.{text_itself}
use Rattle.mq_acl.specs.Access.{begins_with_dollar}
use Rattle.mq_cover.specs.Names.{can_be_level, start_of, suits}
use Rattle.mq_cover.specs.declared.start.Start.TheVariants.{Slash, Inside}
use Rattle.mq_cover.proofs.NameLemmas.{suits_inside}
use Rattle.mq_witness.specs.Literals.{is_literal_in}
use Rattle.mq_witness.specs.Texts.{join_levels}
use Rattle.mq_witness.proofs.NameLemmas.{joined_is_name, name_is}
use Rattle.mq_witness.proofs.NameLemmas.{levels_without, name_suits}
use Rattle.mq_rename.specs.Lists.{is_hash, is_plus}
use Rattle.mq_rename.specs.Renames.{Renaming, becomes, new_name, new_text}
use Rattle.mq_plan.specs.Names as plans
use Rattle.mq_plan.specs.Names.{decided_name, is_right, is_taken, left_in, left_of, name_in}
use Rattle.mq_plan.specs.Names.{rename_in, rename_of, rule_for, takes}
use Rattle.mq_plan.specs.declared.rule.Act.{Act}
use Rattle.mq_plan.specs.declared.rule.Act.TheVariants.{Renamed, Kept, Gone}
use Rattle.mq_plan.specs.declared.rule.PlanRule.{PlanRule}
use Rattle.mq_rename.proofs.FitLemmas.{all_lack}
use Rattle.mq_rename.proofs.JoinLemmas.{levels-joined}
use Rattle.mq_through.proofs.MoveLemmas.{IsMove, levels_moved, moved, name_levels, not_empty}
use Rattle.mq_through.proofs.MoveLemmas.{short_levels}

module _ (named : List ℕ → Bool) (asks : Bool) (c d : List ℕ) (u v : Option (List ℕ))
    (f : List ℕ → List ℕ) (m : IsMove named asks c d u v f) where
  -- ---- sides of rules
  pub matches_moved : (fs : List (List ℕ)) (name : List ℕ) → is_name name ≡ true
      → ((t : List ℕ) → is_literal_in t fs ≡ true → named t ≡ true)
      → matches fs (levels name) ≡ matches fs (levels (moved f name))
  matches_moved fs name h k =
      at (levels name) (name_is name h).can
      ∙ ap (matches fs) (sym (name_levels named asks c d u v f m name h))
    where
      at : (ls : List (List ℕ)) → list_all can_be_level ls ≡ true
          → matches fs ls ≡ matches fs (map f ls)
      at [] e = refl
      at (l ∷ ls) e = (λ i. not (suc (length ls) == 0)
          && not (sym (m.dollar l) i && is_wildcard (level_at fs 0))
          && levels_moved named asks c d u v f m fs (l ∷ ls) k e i)
          ∙ (λ i. not (suc (sym (length-map ls f) i) == 0)
          && not (begins_with_dollar (f l) && is_wildcard (level_at fs 0))
          && levels_match_by level_matches fs (map f (l ∷ ls)))

  none_moved : f [] ≡ []
  none_moved = at (f []) (m.some [])
    where
      at : (t : List ℕ) → (length t == 0) ≡ true → t ≡ []
      at [] e = refl
      at (x ∷ xs) e = absurd (let q : false ≡ true = sym (not_empty (length xs)) ∙ e in cc)

  level_moved : (ls : List (List ℕ)) (i : ℕ) → level_at (map f ls) i ≡ f (level_at ls i)
  level_moved [] i = sym none_moved
  level_moved (l ∷ ls) zero = refl
  level_moved (l ∷ ls) (suc i) = level_moved ls i

  drop_moved : (n : ℕ) (ls : List (List ℕ)) → drop n (map f ls) ≡ map f (drop n ls)
  drop_moved zero ls = refl
  drop_moved (suc n) [] = refl
  drop_moved (suc n) (l ∷ ls) = drop_moved n ls

  -- the levels of the new name
  module _ (front : ℕ) (ls : List (List ℕ)) where
    becomes_moved : (q : List ℕ × ℕ) → (is_wildcard q.0 ≡ false → named q.0 ≡ true)
        → becomes front (map f ls) q ≡ map f (becomes front ls q)
    becomes_moved q h = at (is_plus q.0) (is_hash q.0) refl refl
      where
        at : (a b : Bool) → is_plus q.0 ≡ a → is_hash q.0 ≡ b
            → cond a (level_at (map f ls) q.1 ∷ []) (cond b (drop front (map f ls)) (q.0 ∷ []))
            ≡ map f (cond a (level_at ls q.1 ∷ []) (cond b (drop front ls) (q.0 ∷ [])))
        at true b i j = ap (λ t. t ∷ []) (level_moved ls q.1)
        at false true i j = drop_moved front ls
        at false false i j = ap (λ t. t ∷ []) (sym (m.kept q.0 (h (λ n. i n || j n))))

    abbrev P : List ℕ × ℕ → Type 0
    P p = is_wildcard p.0 ≡ false → named p.0 ≡ true

    pub new_moved : (qs : List (List ℕ × ℕ))
        → All (λ q. is_wildcard q.0 ≡ false → named q.0 ≡ true) qs
        → flat_map (becomes front (map f ls)) qs ≡ map f (flat_map (becomes front ls) qs)
    new_moved [] h = refl
    new_moved (q ∷ qs) h =
        (λ i. becomes_moved q (All-head P q qs h) i ++ new_moved qs (All-tail P q qs h) i)
        ∙ sym (map-append f (becomes front ls q) (flat_map (becomes front ls) qs))

  -- ---- a name with its levels moved is a name, where none of them is long
  suits_in : (ls : List (List ℕ)) → suits Inside (map f ls) ≡ suits Inside ls
  suits_in ls = suits_inside (map f ls) ∙ sym (suits_inside ls)

  suits_behind : (slash : Bool) (ls : List (List ℕ))
      → suits (cond slash Slash Inside) (map f ls) ≡ suits (cond slash Slash Inside) ls
  suits_behind true [] = refl
  suits_behind true (l ∷ ls) = suits_in ls
  suits_behind false ls = suits_in ls

  suits_any : (dollar : Bool) (ls : List (List ℕ))
      → suits (start_of dollar) (map f ls) ≡ suits (start_of dollar) ls
  suits_any true [] = refl
  suits_any false [] = refl
  suits_any false (l ∷ ls) =
      (λ i. not (m.dollar l i) && suits (cond (m.some l i) Slash Inside) (map f ls))
      ∙ ap (λ b. not (begins_with_dollar l) && b) (suits_behind (length l == 0) ls)
  suits_any true (l ∷ ls) = (λ i. m.dollar l i && suits_in ls i)

  pub name_moved : ((t : List ℕ) → length (f t) ≤ 321) → (name : List ℕ) → is_name name ≡ true
      → is_name (moved f name) ≡ true
  name_moved short name h =
      let is = name_is name h in
      joined_is_name (map f (levels name)) (begins_with_dollar name)
      (short_levels named asks c d u v f m short (levels name) is.can)
      (subst (λ n. n ≤ 200) (sym (length-map (levels name) f)) is.few)
      (suits_any (begins_with_dollar name) (levels name)
      ∙ name_suits name (begins_with_dollar name) is.some refl)

  -- ---- new names
  joined_same : (ls : List (List ℕ)) → join_levels ls ≡ join_with_byte 47 ls
  joined_same [] = refl
  joined_same (l ∷ []) = append-nil l
  joined_same (l ∷ k ∷ ls) = ap (λ t. l ++ (47 ∷ t)) (joined_same (k ∷ ls))

  module _ (r : Renaming)
      (lefts : (t : List ℕ) → is_literal_in t (levels r.left) ≡ true → named t ≡ true)
      (rights : (t : List ℕ) → is_literal_in t (levels r.right) ≡ true → named t ≡ true) where
    abbrev pairs : List (List ℕ × ℕ)
    pairs = zip (levels r.right) r.places

    abbrev front : ℕ
    front = length (levels r.left) - 1

    abbrev ofs : List (List ℕ) → List (List ℕ)
    ofs ls = flat_map (becomes front ls) pairs

    all_known : (vs : List (List ℕ)) (ps : List ℕ)
        → ((t : List ℕ) → is_literal_in t vs ≡ true → named t ≡ true)
        → All (λ q. is_wildcard q.0 ≡ false → named q.0 ≡ true) (zip vs ps)
    all_known [] ps h = All-nil (λ q. is_wildcard q.0 ≡ false → named q.0 ≡ true)
    all_known (w ∷ vs) [] h = All-nil (λ q. is_wildcard q.0 ≡ false → named q.0 ≡ true)
    all_known (w ∷ vs) (p ∷ ps) h =
        All-cons (λ q. is_wildcard q.0 ≡ false → named q.0 ≡ true) (w, p) (zip vs ps)
        (λ e. h w (or_left (bytes_eq w w && not (is_wildcard w)) (is_literal_in w vs)
        (and_from (bytes_eq w w) (not (is_wildcard w)) (text_itself w) (ap not e))))
        (all_known vs ps (λ t e. h t (or_right (bytes_eq t w && not (is_wildcard w))
        (is_literal_in t vs) e)))

    new_levels_moved : (ls : List (List ℕ)) → ofs (map f ls) ≡ map f (ofs ls)
    new_levels_moved ls = new_moved front ls pairs (all_known (levels r.right) r.places rights)

    level_lacks : (ls : List (List ℕ)) (i : ℕ) → all_lack 47 ls ≡ true
        → not (contains_byte 47 (level_at ls i)) ≡ true
    level_lacks [] i h = refl
    level_lacks (l ∷ ls) zero h = (and_parts (not (contains_byte 47 l)) (all_lack 47 ls) h).0
    level_lacks (l ∷ ls) (suc i) h =
        level_lacks ls i (and_parts (not (contains_byte 47 l)) (all_lack 47 ls) h).1

    drop_lacks : (n : ℕ) (ls : List (List ℕ)) → all_lack 47 ls ≡ true
        → all_lack 47 (drop n ls) ≡ true
    drop_lacks zero ls h = h
    drop_lacks (suc n) [] h = refl
    drop_lacks (suc n) (l ∷ ls) h =
        drop_lacks n ls (and_parts (not (contains_byte 47 l)) (all_lack 47 ls) h).1

    append_lacks : (xs ys : List (List ℕ)) → all_lack 47 xs ≡ true → all_lack 47 ys ≡ true
        → all_lack 47 (xs ++ ys) ≡ true
    append_lacks [] ys h k = k
    append_lacks (x ∷ xs) ys h k =
        let parts = and_parts (not (contains_byte 47 x)) (all_lack 47 xs) h in
        and_from (not (contains_byte 47 x)) (all_lack 47 (xs ++ ys)) parts.0
        (append_lacks xs ys parts.1 k)

    new_lacks : (ls vs : List (List ℕ)) (ps : List ℕ) → all_lack 47 ls ≡ true
        → all_lack 47 vs ≡ true → all_lack 47 (flat_map (becomes front ls) (zip vs ps)) ≡ true
    new_lacks ls [] ps h k = refl
    new_lacks ls (w ∷ vs) [] h k = refl
    new_lacks ls (w ∷ vs) (p ∷ ps) h k =
        let parts = and_parts (not (contains_byte 47 w)) (all_lack 47 vs) k in
        append_lacks (becomes front ls (w, p)) (flat_map (becomes front ls) (zip vs ps))
        (at (is_plus w) (is_hash w) parts.0) (new_lacks ls vs ps h parts.1)
      where
        at : (a b : Bool) → not (contains_byte 47 w) ≡ true
            → all_lack 47 (cond a (level_at ls p ∷ []) (cond b (drop front ls) (w ∷ []))) ≡ true
        at true b e = and_from (not (contains_byte 47 (level_at ls p))) true
            (level_lacks ls p h) refl
        at false true e = drop_lacks front ls h
        at false false e = and_from (not (contains_byte 47 w)) true e refl

    new_text_levels : (name : List ℕ) → is_name (new_text r name) ≡ true
        → levels (new_text r name) ≡ ofs (levels name)
    new_text_levels name h =
        at (ofs (levels name)) h
        (new_lacks (levels name) (levels r.right) r.places (levels_without name)
        (levels_without r.right))
      where
        at : (ls : List (List ℕ)) → is_name (join_with_byte 47 ls) ≡ true
            → all_lack 47 ls ≡ true → levels (join_with_byte 47 ls) ≡ ls
        at [] e k = absurd (let q : false ≡ true = e in cc)
        at (l ∷ ls) e k = levels-joined l ls k

    new_text_moved : (name : List ℕ) → is_name name ≡ true → is_name (new_text r name) ≡ true
        → new_text r (moved f name) ≡ moved f (new_text r name)
    new_text_moved name h k =
        ap (λ ls. join_with_byte 47 (ofs ls)) (name_levels named asks c d u v f m name h)
        ∙ ap (join_with_byte 47) (new_levels_moved (levels name))
        ∙ sym (joined_same (map f (ofs (levels name))))
        ∙ ap (λ ls. join_levels (map f ls)) (sym (new_text_levels name k))

    pub renamed_moved : (name new : List ℕ) → is_name name ≡ true
        → is_name (moved f new) ≡ true → new_name r name ≡ Some new
        → new_name r (moved f name) ≡ Some (moved f new)
    renamed_moved name new h g e =
        let found = parts (matches (levels r.left) (levels name) && is_name (new_text r name))
        (new_text r name) e in
        let both = and_parts (matches (levels r.left) (levels name)) (is_name (new_text r name))
        found.0 in
        let text = new_text_moved name h both.1 in
        (λ i. cond ((sym (matches_moved (levels r.left) name h lefts) ∙ both.0) i
        && (ap is_name text ∙ ap (λ t. is_name (moved f t)) found.1 ∙ g) i)
        (Some (new_text r (moved f name))) None)
        ∙ ap (λ t. Some t) text ∙ ap (λ t. Some (moved f t)) found.1
      where
        parts : (b : Bool) (t : List ℕ) → cond b (Some t) None ≡ Some new
            → (b ≡ true) × (t ≡ new)
        parts true t e = (refl, cc)
        parts false t e = absurd (let q : None ≡ Some new = e in cc)

  -- ---- plans
  pub record IsKnownRule (rule : PlanRule) : Type 0 where
    pub left : (t : List ℕ) → is_literal_in t (levels (left_of rule)) ≡ true → named t ≡ true
    pub right : (r : Renaming) → rename_of rule ≡ Some r → (t : List ℕ)
        → is_literal_in t (levels r.right) ≡ true → named t ≡ true

  module _ (name : List ℕ) (h : is_name name ≡ true) where
    takes_moved : (rule : PlanRule) → IsKnownRule rule
        → takes name rule ≡ takes (moved f name) rule
    takes_moved rule k = matches_moved (levels (left_of rule)) name h k.left

    pub rule_moved : (plan : List PlanRule) → All IsKnownRule plan
        → rule_for plan name ≡ rule_for plan (moved f name)
    rule_moved [] k = refl
    rule_moved (rule ∷ plan) k =
        (λ i. cond (takes_moved rule (All-head IsKnownRule rule plan k) i) (Some rule)
        (rule_moved plan (All-tail IsKnownRule rule plan k) i))

    right_moved : (o : Option Renaming)
        → ((r : Renaming) → o ≡ Some r → (t : List ℕ)
        → is_literal_in t (levels r.right) ≡ true → named t ≡ true)
        → is_right name o ≡ is_right (moved f name) o
    right_moved None k = refl
    right_moved (Some r) k = matches_moved (levels r.right) name h (k r refl)

    taken_moved : (plan : List PlanRule) → All IsKnownRule plan
        → list_any (is_taken name) plan ≡ list_any (is_taken (moved f name)) plan
    taken_moved [] k = refl
    taken_moved (rule ∷ plan) k =
        (λ i. right_moved (rename_of rule) (All-head IsKnownRule rule plan k).right i
        || taken_moved plan (All-tail IsKnownRule rule plan k) i)

    found_known : (plan : List PlanRule) (rule : PlanRule) → All IsKnownRule plan
        → rule_for plan name ≡ Some rule → IsKnownRule rule
    found_known [] rule k e = absurd (cc)
    found_known (x ∷ plan) rule k e =
        at (takes name x) e (λ i. found_known plan rule (All-tail IsKnownRule x plan k) i)
      where
        at : (b : Bool) → cond b (Some x) (rule_for plan name) ≡ Some rule
            → (rule_for plan name ≡ Some rule → IsKnownRule rule) → IsKnownRule rule
        at true i later = let same : x ≡ rule = cc in
            subst IsKnownRule same (All-head IsKnownRule x plan k)
        at false i later = later i

    act_moved : (rule : PlanRule) (act : Act) (new : List ℕ) → rule.act ≡ act → IsKnownRule rule
        → is_name (moved f new) ≡ true → name_in act name ≡ Some new
        → name_in act (moved f name) ≡ Some (moved f new)
    act_moved rule (Renamed r) new a k g e =
        renamed_moved r (λ t i. k.left t (ap (λ x. is_literal_in t (levels (left_in x))) a ∙ i))
        (λ t i. k.right r (ap rename_in a) t i) name new h g e
    act_moved rule (Kept filter) new a k g e =
        let same : name ≡ new = cc in ap (λ t. Some (moved f t)) same
    act_moved rule (Gone filter) new a k g e = absurd (let q : None ≡ Some new = e in cc)

    pub plan_moved : (plan : List PlanRule) (new : List ℕ) → All IsKnownRule plan
        → is_name (moved f new) ≡ true → plans.new_name plan name ≡ Some new
        → plans.new_name plan (moved f name) ≡ Some (moved f new)
    plan_moved plan new k valid e =
        ap (λ o. decided_name o plan (moved f name)) (sym (rule_moved plan k))
        ∙ at (rule_for plan name) refl e
      where
        at : (o : Option PlanRule) → rule_for plan name ≡ o
            → decided_name o plan name ≡ Some new
            → decided_name o plan (moved f name) ≡ Some (moved f new)
        at None i e = by (list_any (is_taken name) plan) refl e
          where
            by : (b : Bool) → list_any (is_taken name) plan ≡ b
                → cond b None (Some name) ≡ Some new
                → cond (list_any (is_taken (moved f name)) plan) None (Some (moved f name))
                ≡ Some (moved f new)
            by true j g = absurd (let q : None ≡ Some new = g in cc)
            by false j g =
                let same : name ≡ new = cc in
                ap (λ b. cond b None (Some (moved f name))) (sym (taken_moved plan k) ∙ j)
                ∙ ap (λ t. Some (moved f t)) same
        at (Some rule) i e =
            act_moved rule rule.act new refl (found_known plan rule k i) valid e
