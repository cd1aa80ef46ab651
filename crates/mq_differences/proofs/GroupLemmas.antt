-- Groups of differences that are alike.
use Rattle.std.proofs.Common.{◌≡◌, ℕ, zero, suc, ◌<◌, Bool, true, false, List, [], ◌∷◌, ◌++◌}
use Rattle.std.proofs.Common.{◌&&◌, ◌||◌, not, length, length-append, length-set, get_or, All, Contains, arith, refl}
use Rattle.std.proofs.Common.{ap, sym, ◌∙◌, subst, append_assoc, ltb, bytes_eq}
use Rattle.std.specs.Prelude.{AllPairs, IsPermutation, map, if◌then◌else◌, codes}
use Rattle.std.specs.BTreeMap.{get_by_text}
use Rattle.std.specs.Fmt.{decimal}
use Rattle.std.specs.List.{filter, list_any}
use Rattle.std.specs.Option.{option_map_or}
use Rattle.std.proofs.Math.ListN.{set}
use Rattle.std.proofs.Math.Seq.{map-set_same}
use Rattle.std.proofs.lemmas.Grind.{flat_map-append}
use Rattle.std.proofs.Math.ListN.{get_or-append, get_or-map}
use Rattle.std.proofs.Math.Seq.{get_or-append_seam}
use Rattle.std.proofs.lemmas.Bool.{and_parts, ltb-true, ltb-false}
use Rattle.std.proofs.lemmas.List.{append-nil, length-map, map-append}
use Rattle.std.proofs.lemmas.List.Elements.{All-append, All-cons, All-nil, All-map, All-set}
use Rattle.std.proofs.lemmas.List.Elements.{All-get_or, All-contains, Contains-append_left}
use Rattle.std.proofs.lemmas.List.Elements.{Contains-push, filter-append}
use Rattle.std.proofs.lemmas.List.Folds.{list_any_at, list_any_none}
use Rattle.std.proofs.lemmas.Map.Views.{any-filter_same}
use Rattle.std.proofs.lemmas.List.Quantifiers.{all_pairs_push}
use Rattle.std.proofs.lemmas.List.Sorted.{IsPermutation-append_left, IsPermutation-append_right}
use Rattle.std.proofs.lemmas.List.Sorted.{IsPermutation-to_front, IsPermutation-trans}
use Rattle.mq_topic.proofs.ByteLemmas.{text_is, text_itself}
use Rattle.mq_differences.specs.Differences.{same_direction, same_reason, same_reasons, same_way}
use Rattle.mq_differences.specs.Groups.{HasGroup, IsGathered, IsGathering, IsGroup, JoinsGroup}
use Rattle.mq_differences.specs.Groups.{LacksGroup, firsts, is_alike, key_of, line_of, members, places_at}
use Rattle.mq_differences.specs.declared.difference.Difference.{Difference}
use Rattle.mq_differences.specs.declared.group.Gathering.{Gathering}
use Rattle.mq_differences.specs.declared.group.Group.{Group}
use Rattle.mq_differences.proofs.ReportLemmas.{direction_is, reason_is, way_is}

abbrev in_group : Group → List Difference
in_group group = group.first ∷ group.others.items

-- ---- the order of the groups
abbrev firsts_in : List Group → List Difference
firsts_in groups = map (λ group. group.first) groups

alike_same : (a e d : Difference) → is_alike a e ≡ true → is_alike a d ≡ is_alike e d
alike_same a e d h =
    let three = and_parts (same_direction a.direction e.direction && same_way a.way e.way
    && same_reasons a e) (bytes_eq a.topic e.topic) h in
    let two = and_parts (same_direction a.direction e.direction && same_way a.way e.way)
    (same_reasons a e) three.0 in
    let one = and_parts (same_direction a.direction e.direction) (same_way a.way e.way) two.0 in
    let reasons = and_parts (same_reason a.old_reason e.old_reason)
    (same_reason a.new_reason e.new_reason) two.1 in
    same (direction_is a.direction e.direction one.0) (way_is a.way e.way one.1)
    (reason_is a.old_reason e.old_reason reasons.0)
    (reason_is a.new_reason e.new_reason reasons.1) (text_is a.topic e.topic three.1)
  where
    same : a.direction ≡ e.direction → a.way ≡ e.way → a.old_reason ≡ e.old_reason
        → a.new_reason ≡ e.new_reason → a.topic ≡ e.topic → is_alike a d ≡ is_alike e d
    same direction way old new topic =
        ap (λ x. same_direction x d.direction && same_way a.way d.way && same_reasons a d
        && bytes_eq a.topic d.topic) direction
        ∙ ap (λ x. same_direction e.direction d.direction && same_way x d.way && same_reasons a d
        && bytes_eq a.topic d.topic) way
        ∙ ap (λ x. same_direction e.direction d.direction && same_way e.way d.way
        && (same_reason x d.old_reason && same_reason a.new_reason d.new_reason)
        && bytes_eq a.topic d.topic) old
        ∙ ap (λ x. same_direction e.direction d.direction && same_way e.way d.way
        && (same_reason e.old_reason d.old_reason && same_reason x d.new_reason)
        && bytes_eq a.topic d.topic) new
        ∙ ap (λ x. same_direction e.direction d.direction && same_way e.way d.way
        && same_reasons e d && bytes_eq x d.topic) topic

abbrev alike_to : Difference → Difference → Bool
alike_to d e = is_alike e d

abbrev unlike : Difference → Difference → Bool
unlike d e = not (is_alike d e)

-- the last one, unless one like it is there
abbrev last_of : Bool → Difference → List Difference
last_of there d = if there then [] else d ∷ []

firsts_push : (all : List Difference) (d : Difference) → firsts (all ++ d ∷ [])
    ≡ firsts all ++ last_of (list_any (alike_to d) (firsts all)) d
unfolding firsts
firsts_push [] d = refl
firsts_push (a ∷ all) d =
    ap (λ l. a ∷ filter (unlike a) l) (firsts_push all d)
    ∙ ap (λ l. a ∷ l) (filter-append (unlike a) (firsts all)
    (last_of (list_any (alike_to d) (firsts all)) d))
    ∙ ap (λ l. a ∷ (filter (unlike a) (firsts all) ++ l)) (last (is_alike a d) refl)
  where
    kept : (there : Bool) → is_alike a d ≡ false → filter (unlike a) (last_of there d)
        ≡ last_of there d
    kept true e = refl
    kept false e = ap (λ b. if not b then d ∷ [] else []) e

    gone : (there : Bool) → is_alike a d ≡ true → filter (unlike a) (last_of there d) ≡ []
    gone true e = refl
    gone false e = ap (λ b. if not b then d ∷ [] else []) e

    others : is_alike a d ≡ false → (e : Difference) → is_alike e d ≡ true → (b : Bool)
        → is_alike a e ≡ b → not b ≡ true
    others apart e like true h = absurd (let k : false ≡ true = sym apart ∙ alike_same a e d h ∙ like in cc)
    others apart e like false h = refl

    last : (b : Bool) → is_alike a d ≡ b
        → filter (unlike a) (last_of (list_any (alike_to d) (firsts all)) d)
        ≡ last_of (list_any (alike_to d) (a ∷ filter (unlike a) (firsts all))) d
    last true e = gone (list_any (alike_to d) (firsts all)) e
        ∙ sym (ap (λ b. last_of (b || list_any (alike_to d) (filter (unlike a) (firsts all))) d) e)
    last false e = kept (list_any (alike_to d) (firsts all)) e
        ∙ sym (ap (λ there. last_of there d)
        (ap (λ b. b || list_any (alike_to d) (filter (unlike a) (firsts all))) e
        ∙ any-filter_same (alike_to d) (unlike a) true
        (λ f like. ap not refl ∙ others e f like (is_alike a f) refl) (firsts all)))

-- where it belongs to a group it is no first one
order_joined : (all : List Difference) (groups : List Group) (i : ℕ) (old new : Group)
    (d : Difference) → HasGroup groups d i → new.first ≡ (get_or groups i old).first
    → firsts_in groups ≡ firsts all → firsts_in (set groups i new) ≡ firsts (all ++ d ∷ [])
order_joined all groups i old new d place first order =
    map-set_same (λ group. group.first) groups i new old first
    ∙ order ∙ sym (firsts_push all d
    ∙ ap (λ there. firsts all ++ last_of there d) (ap (list_any (alike_to d)) (sym order) ∙ there)
    ∙ append-nil (firsts all))
  where
    there : list_any (alike_to d) (firsts_in groups) ≡ true
    there = list_any_at (alike_to d) (firsts_in groups) i old.first
        (subst (λ n. i < n) (sym (length-map groups (λ group. group.first))) place.within)
        (ap (alike_to d) (get_or-map (λ group. group.first) groups i old) ∙ place.alike old)

-- where it belongs to none it is one
order_begun : (all : List Difference) (groups : List Group) (new : Group)
    → All (λ group. is_alike group.first new.first ≡ false) groups
    → firsts_in groups ≡ firsts all
    → firsts_in (groups ++ new ∷ []) ≡ firsts (all ++ new.first ∷ [])
order_begun all groups new unlike order =
    map-append (λ group. group.first) groups (new ∷ [])
    ∙ ap (λ l. l ++ new.first ∷ []) order
    ∙ sym (firsts_push all new.first
    ∙ ap (λ there. firsts all ++ last_of there new.first)
    (ap (list_any (alike_to new.first)) (sym order) ∙ list_any_none (alike_to new.first)
    (firsts_in groups)
    (All-map (λ f. is_alike f new.first ≡ false) (λ group. group.first) groups unlike)))

-- ---- their members
push_inside : (a b : List Difference) (d : Difference)
    → IsPermutation ((a ++ b) ++ d ∷ []) ((a ++ d ∷ []) ++ b)
push_inside a b d =
    subst (λ l. IsPermutation l ((a ++ d ∷ []) ++ b)) (sym (append_assoc a b (d ∷ [])))
    (subst (λ r. IsPermutation (a ++ (b ++ d ∷ [])) r) (sym (append_assoc a (d ∷ []) b))
    (IsPermutation-append_right a (b ++ d ∷ []) (d ∷ b) (IsPermutation-to_front b d)))

members_joined : (groups : List Group) (i : ℕ) (old new : Group) (d : Difference)
    → i < length groups → JoinsGroup (get_or groups i old) d new
    → IsPermutation (members groups ++ d ∷ []) (members (set groups i new))
members_joined [] i old new d h j = absurd (omega arith)
members_joined (group ∷ groups) zero old new d h j =
    let joined : in_group new ≡ in_group group ++ d ∷ [] = (λ k. j.first k ∷ j.others k) in
    subst (λ l. IsPermutation (members (group ∷ groups) ++ d ∷ []) (l ++ members groups))
    (sym joined) (push_inside (in_group group) (members groups) d)
members_joined (group ∷ groups) (suc i) old new d h j =
    subst (λ l. IsPermutation l (in_group group ++ members (set groups i new)))
    (sym (append_assoc (in_group group) (members groups) (d ∷ [])))
    (IsPermutation-append_right (in_group group) (members groups ++ d ∷ [])
    (members (set groups i new)) (members_joined groups i old new d (omega arith) j))

-- the difference is one more of the group at this place
gathering_joined : (all : List Difference) (groups : List Group) (i : ℕ) (old new : Group)
    (d : Difference) → HasGroup groups d i → JoinsGroup (get_or groups i old) d new
    → IsGathering all groups → IsGathering (all ++ d ∷ []) (set groups i new)
gathering_joined all groups i old new d place j s =
    let group = get_or groups i old in
    let alike : All (λ e. is_alike group.first e ≡ true) (group.others.items ++ d ∷ []) =
    All-append (λ e. is_alike group.first e ≡ true) group.others.items (d ∷ [])
    (All-get_or IsGroup groups i old place.within s.alike)
    (All-cons (λ e. is_alike group.first e ≡ true) d [] (place.alike old)
    (All-nil (λ e. is_alike group.first e ≡ true))) in
    record {
      all = IsPermutation-trans (all ++ d ∷ []) (members groups ++ d ∷ [])
          (members (set groups i new))
          (IsPermutation-append_left (d ∷ []) all (members groups) s.all)
          (members_joined groups i old new d place.within j);
      alike = All-set IsGroup groups i new
          (subst (λ first. All (λ e. is_alike first e ≡ true) new.others.items) (sym j.first)
          (subst (All (λ e. is_alike group.first e ≡ true)) (sym j.others) alike)) s.alike;
      apart = subst (AllPairs (λ e f. is_alike e f ≡ false))
          (sym (map-set_same (λ group. group.first) groups i new old j.first)) s.apart;
      order = order_joined all groups i old new d place j.first s.order;
    }

-- it is the first of a group of its own
gathering_begun : (all : List Difference) (groups : List Group) (new : Group)
    → new.others.items ≡ [] → All (λ group. is_alike group.first new.first ≡ false) groups
    → IsGathering all groups → IsGathering (all ++ new.first ∷ []) (groups ++ new ∷ [])
gathering_begun all groups new alone unlike s =
    let d = new.first in
    let more : members (groups ++ new ∷ []) ≡ members groups ++ d ∷ [] =
    flat_map-append in_group groups (new ∷ []) ∙ (λ k. members groups ++ ((d ∷ alone k) ++ [])) in
    let firsts = map (λ group. group.first) groups in
    record {
      all = subst (IsPermutation (all ++ d ∷ [])) (sym more)
          (IsPermutation-append_left (d ∷ []) all (members groups) s.all);
      alike = All-append IsGroup groups (new ∷ []) s.alike
          (All-cons IsGroup new []
          (subst (All (λ e. is_alike d e ≡ true)) (sym alone)
          (All-nil (λ e. is_alike d e ≡ true))) (All-nil IsGroup));
      apart = subst (AllPairs (λ e f. is_alike e f ≡ false))
          (sym (map-append (λ group. group.first) groups (new ∷ [])))
          (all_pairs_push (λ e f. is_alike e f ≡ false) firsts d s.apart
          (λ k e h. All-get_or (λ f. is_alike f d ≡ false) firsts k e h
          (All-map (λ f. is_alike f d ≡ false) (λ group. group.first) groups unlike)));
      order = order_begun all groups new unlike s.order;
    }

-- ---- by keys
-- what is alike has the same key
alike_key : (d e : Difference) → is_alike d e ≡ true → key_of d ≡ key_of e
alike_key d e h =
    let three = and_parts (same_direction d.direction e.direction && same_way d.way e.way
    && same_reasons d e) (bytes_eq d.topic e.topic) h in
    let two = and_parts (same_direction d.direction e.direction && same_way d.way e.way)
    (same_reasons d e) three.0 in
    let reasons = and_parts (same_reason d.old_reason e.old_reason)
    (same_reason d.new_reason e.new_reason) two.1 in
    let old : d.old_reason ≡ e.old_reason = reason_is d.old_reason e.old_reason reasons.0 in
    let new : d.new_reason ≡ e.new_reason = reason_is d.new_reason e.new_reason reasons.1 in
    let topic : d.topic ≡ e.topic = text_is d.topic e.topic three.1 in
    key old new topic
  where
    key : d.old_reason ≡ e.old_reason → d.new_reason ≡ e.new_reason → d.topic ≡ e.topic
        → key_of d ≡ key_of e
    key old new topic =
        ap (λ r. decimal (line_of r) ++ (codes " " ++ (decimal (line_of d.new_reason)
        ++ (codes " " ++ d.topic)))) old
        ∙ ap (λ r. decimal (line_of e.old_reason) ++ (codes " " ++ (decimal (line_of r)
        ++ (codes " " ++ d.topic)))) new
        ∙ ap (λ t. decimal (line_of e.old_reason) ++ (codes " " ++ (decimal (line_of e.new_reason)
        ++ (codes " " ++ t)))) topic

-- where none is found by its key, there is none
lacks_all : (all : List Difference) (gathering : Gathering) (d : Difference)
    → All (LacksGroup gathering.groups.items d) (places_at (key_of d) gathering)
    → IsGathered all gathering → All (λ group. is_alike group.first d ≡ false) gathering.groups.items
lacks_all all gathering d lacks s = λ k g low. at k g low (is_alike (get_or gathering.groups.items k g).first d) refl
  where
    at : (k : ℕ) (g : Group) → k < length gathering.groups.items → (b : Bool)
        → is_alike (get_or gathering.groups.items k g).first d ≡ b → b ≡ false
    at k g low true e =
        let there : Contains (places_at (key_of d) gathering) k =
        subst (λ key. Contains (places_at key gathering) k)
        (alike_key (get_or gathering.groups.items k g).first d e) (s.placed k g low) in
        sym e ∙ All-contains (LacksGroup gathering.groups.items d) (places_at (key_of d) gathering) k
        lacks there g low
    at k g low false e = refl

pub gathered_begun : (all : List Difference) (old new : Gathering) (group : Group) (key : List ℕ)
    → key ≡ key_of group.first → group.others.items ≡ []
    → new.groups.items ≡ old.groups.items ++ group ∷ []
    → ((text : List ℕ) → places_at text new
    ≡ places_at text old
    ++ (if bytes_eq text key then length old.groups.items ∷ [] else []))
    → All (LacksGroup old.groups.items group.first) (places_at (key_of group.first) old)
    → IsGathered all old → IsGathered (all ++ group.first ∷ []) new
gathered_begun all old new group key is alone groups places lacks s = record {
  gathered = subst (IsGathering (all ++ group.first ∷ [])) (sym groups)
      (gathering_begun all old.groups.items group alone (lacks_all all old group.first lacks s)
      s.gathered);
  placed = λ place g low. subst
      (λ gs. Contains (places_at (key_of (get_or gs place g).first) new) place) (sym groups)
      (at place g (subst (λ gs. place < length gs) groups low)
      (ltb place (length old.groups.items)) refl);
}
  where
    itself : bytes_eq (key_of group.first) key ≡ true
    itself = ap (bytes_eq (key_of group.first)) is ∙ text_itself (key_of group.first)

    at : (place : ℕ) (g : Group) → place < length (old.groups.items ++ group ∷ []) → (b : Bool)
        → ltb place (length old.groups.items) ≡ b
        → Contains (places_at (key_of (get_or (old.groups.items ++ group ∷ []) place g).first) new)
        place
    at place g low true e =
        let before = ltb-true place (length old.groups.items) e in
        subst (λ (h : Group). Contains (places_at (key_of h.first) new) place)
        (sym (get_or-append old.groups.items (group ∷ []) g place before))
        (subst (λ l. Contains l place) (sym (places (key_of (get_or old.groups.items place g).first)))
        (Contains-append_left (places_at (key_of (get_or old.groups.items place g).first) old)
        (if bytes_eq (key_of (get_or old.groups.items place g).first) key
        then length old.groups.items ∷ [] else []) place (s.placed place g before)))
    at place g low false e =
        let above = ltb-false place (length old.groups.items) e in
        let n = length-append old.groups.items (group ∷ []) in
        let same : length old.groups.items ≡ place = omega arith in
        subst (λ k. Contains (places_at (key_of (get_or (old.groups.items ++ group ∷ []) k g).first)
        new) k) same
        (subst (λ (h : Group). Contains (places_at (key_of h.first) new) (length old.groups.items))
        (sym (get_or-append_seam old.groups.items group [] g))
        (subst (λ l. Contains l (length old.groups.items)) (sym (places (key_of group.first)))
        (subst (λ b. Contains (places_at (key_of group.first) old
        ++ (if b then length old.groups.items ∷ [] else [])) (length old.groups.items))
        (sym itself)
        (Contains-push (places_at (key_of group.first) old) (length old.groups.items)))))

pub gathered_joined : (all : List Difference) (old new : Gathering) (i : ℕ) (group joined : Group)
    (d : Difference) → HasGroup old.groups.items d i
    → JoinsGroup (get_or old.groups.items i group) d joined
    → new.groups.items ≡ set old.groups.items i joined → new.places ≡ old.places
    → IsGathered all old → IsGathered (all ++ d ∷ []) new
gathered_joined all old new i group joined d found j groups places s = record {
  gathered = subst (IsGathering (all ++ d ∷ [])) (sym groups)
      (gathering_joined all old.groups.items i group joined d found j s.gathered);
  placed = λ place g low. subst
      (λ gs. Contains (places_at (key_of (get_or gs place g).first) new) place) (sym groups)
      (subst (λ (e : Difference). Contains (places_at (key_of e) new) place) (sym (same place g))
      (subst (λ ps. Contains (option_map_or (λ all. all.items) (get_by_text ps
      (key_of (get_or old.groups.items place g).first)) []) place) (sym places)
      (s.placed place g (subst (λ n. place < n) (ap length groups
      ∙ length-set old.groups.items i joined) low))));
}
  where
    firsts : map (λ group. group.first) (set old.groups.items i joined)
        ≡ map (λ group. group.first) old.groups.items
    firsts = map-set_same (λ group. group.first) old.groups.items i joined group j.first

    same : (place : ℕ) (g : Group) → (get_or (set old.groups.items i joined) place g).first
        ≡ (get_or old.groups.items place g).first
    same place g = sym (get_or-map (λ group. group.first) (set old.groups.items i joined) place g)
        ∙ ap (λ ds. get_or ds place g.first) firsts
        ∙ get_or-map (λ group. group.first) old.groups.items place g
