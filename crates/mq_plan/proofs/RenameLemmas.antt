-- Sides without a fault make a rule.
use Rattle.std.proofs.Common.{◌≡◌, ◌==◌, ◌+◌, ◌-◌, ◌<◌, ◌≤◌, ◌&&◌, ◌||◌, not, Bool, true, false}
use Rattle.std.proofs.Common.{cond, ℕ, List, []}
use Rattle.std.proofs.Common.{◌∷◌, ◌++◌, length, map, take, get_or, Option, Some, None, refl}
use Rattle.std.proofs.Common.{ap, sym, ◌∙◌, subst}
use Rattle.std.proofs.Common.{arith, suc, zero, append_assoc, length-append, length-take, ⊎_elim}
use Rattle.std.specs.Prelude.{codes, nat_lt, position, slice_index}
use Rattle.std.specs.Option.{option_map, option_or}
use Rattle.std.specs.List.{cons_option, enumerate_from, filter_map, list_all, list_any}
use Rattle.std.specs.List.{position_or_len, zip}
use Rattle.std.specs.Str.{bytes_eq}
use Rattle.std.proofs.Math.Seq.{take-append_seam}
use Rattle.std.proofs.Math.ListN.{get_or-map}
use Rattle.std.proofs.lemmas.Bool.{and_from, and_parts, cases_lt, eq-eqb, eqb-true, ltb-false}
use Rattle.std.proofs.lemmas.Bool.{or_parts}
use Rattle.std.proofs.lemmas.Bool.{not-false, not_from_false, or_cases, or_from}
use Rattle.std.proofs.lemmas.List.{get_or-take, get_or_past, length-map}
use Rattle.std.proofs.lemmas.List.FromFn.{length-enumerate_from}
use Rattle.std.proofs.lemmas.List.Sums.{sum_by-append}
use Rattle.mq_topic.specs.Levels.{levels}
use Rattle.mq_topic.specs.Matching.{ends_with_hash, is_wildcard, level_at}
use Rattle.mq_topic.specs.Texts.{contains_byte, parents}
use Rattle.mq_topic.proofs.ByteLemmas.{text_is}
use Rattle.mq_rename.specs.Lists.{is_hash, is_plus}
use Rattle.mq_rename.specs.Renames.{has_place, is_rename}
use Rattle.mq_plan.specs.Pairs
use Rattle.mq_plan.specs.Sides.{begins_with_plus, is_named, plain, plain_text, side_fault}
use Rattle.mq_plan.specs.declared.fault.PlanKind.{PlanKind}
use Rattle.mq_plan.specs.declared.fault.PlanKind.TheVariants as kinds
use Rattle.mq_plan.specs.declared.fault.Side.TheVariants.{Left, Right}
use Rattle.mq_plan.proofs.SideLemmas.{AreFit, levels-plain, other, side_is}

-- where none is found, none passes
none_passes : {X : Type 0} (p : X → Bool) (xs : List X) → length xs ≤ position_or_len p xs
    → list_any p xs ≡ false
none_passes p [] h = refl
none_passes p (x ∷ xs) h = at (p x) refl h (none_passes p xs)
  where
    at : (b : Bool) → p x ≡ b → suc (length xs) ≤ cond (not b) (1 + position_or_len p xs) 0
        → (length xs ≤ position_or_len p xs → list_any p xs ≡ false)
        → (b || list_any p xs) ≡ false
    at true e h more = absurd (omega arith)
    at false e h more = more (omega arith)

-- the first that passes, where one does
first_passes : {X : Type 0} (p : X → Bool) (xs : List X) (d : X) → list_any p xs ≡ true
    → (p (get_or xs (position_or_len p xs) d) ≡ true) × (position_or_len p xs < length xs)
first_passes p [] d h = absurd (let no : false ≡ true = h in cc)
first_passes p (x ∷ xs) d h = at (p x) refl h (first_passes p xs d)
  where
    at : (b : Bool) → p x ≡ b → (b || list_any p xs) ≡ true
        → (list_any p xs ≡ true → (p (get_or xs (position_or_len p xs) d) ≡ true)
        × (position_or_len p xs < length xs))
        → (p (get_or (x ∷ xs) (cond (not b) (1 + position_or_len p xs) 0) d) ≡ true)
        × (cond (not b) (1 + position_or_len p xs) 0 < suc (length xs))
    at true e h more = (e, omega arith)
    at false e h more =
        let is = more h in
        let next : 1 + position_or_len p xs ≡ suc (position_or_len p xs) = omega arith in
        (subst (λ i. p (get_or (x ∷ xs) i d) ≡ true) (sym next) is.0, omega (arith, is.1))

or_true : (b : Bool) → (b || true) ≡ true
or_true true = refl
or_true false = refl

-- nothing is chosen of either
neither : {X : Type 0} (o p : Option X) → option_or o p ≡ None → (o ≡ None) × (p ≡ None)
neither None p e = (refl, e)
neither (Some x) p e = absurd (cc)

none_mapped : {X Y : Type 0} (f : X → Y) (o : Option X) → option_map f o ≡ None → o ≡ None
none_mapped f None e = refl
none_mapped f (Some x) e = absurd (cc)

none_at : {X : Type 0} (p : X → Bool) (xs : List X) → position p xs ≡ None
    → list_any p xs ≡ false
none_at p xs e = at (nat_lt (position_or_len p xs) (length xs)) refl e
  where
    at : (b : Bool) → nat_lt (position_or_len p xs) (length xs) ≡ b
        → cond b (Some (position_or_len p xs)) None ≡ None → list_any p xs ≡ false
    at true t f = absurd (cc)
    at false t f = none_passes p xs (ltb-false (position_or_len p xs) (length xs) t)

-- ---- what no fault of a pair says
record IsPair (left right : List (List ℕ)) : Type 0 where
  paired : Pairs.are_paired left right ≡ true
  bound : list_any (Pairs.is_unbound left) right ≡ false
  front : Pairs.begins_with_wildcard right ≡ false

pair_is : (left right : List (List ℕ)) → Pairs.pair_fault left right ≡ None → IsPair left right
pair_is left right e =
    let one = neither (Pairs.twice_fault left) _ e in
    let two = neither (Pairs.unnamed_fault left right) _ one.1 in
    let three = neither (Pairs.unbound_fault left right) (Pairs.front_fault right) two.1 in
    record {
      paired = paired (Pairs.are_paired left right) _ two.0;
      bound = none_at (Pairs.is_unbound left) right (none_mapped _ _ three.0);
      front = (other (Pairs.begins_with_wildcard right) kinds.Front None three.1).0;
    }
  where
    paired : (b : Bool) (kind : PlanKind) → cond b None (Some kind) ≡ None → b ≡ true
    paired true kind e = refl
    paired false kind e = absurd (cc)

-- ---- levels of a filter and of the side that it is made of
plus_begins : (l : List ℕ) → is_plus l ≡ true → begins_with_plus l ≡ true
plus_begins l e = ap begins_with_plus (text_is l (codes "+") e)

begun_plain : (l : List ℕ) → begins_with_plus l ≡ true → is_plus (plain l) ≡ true
begun_plain l e = ap (λ b. is_plus (cond b (codes "+") l)) e

other_plain : (l : List ℕ) → begins_with_plus l ≡ false → plain l ≡ l
other_plain l e = ap (λ b. cond b (codes "+") l) e

no_plus : (l : List ℕ) → begins_with_plus l ≡ false → is_plus l ≡ false
no_plus l e = at (is_plus l) refl
  where
    at : (b : Bool) → is_plus l ≡ b → b ≡ false
    at false t = refl
    at true t = absurd (let no : true ≡ false = sym (plus_begins l t) ∙ e in cc)

plain_hash : (l : List ℕ) → is_hash (plain l) ≡ true → is_hash l ≡ true
plain_hash l h = at (begins_with_plus l) refl h
  where
    at : (b : Bool) → begins_with_plus l ≡ b → is_hash (cond b (codes "+") l) ≡ true
        → is_hash l ≡ true
    at true e k = absurd (let no : false ≡ true = k in cc)
    at false e k = k

level-plain : (ls : List (List ℕ)) (i : ℕ) → level_at (map plain ls) i ≡ plain (level_at ls i)
level-plain ls i = get_or-map plain ls i []

-- ---- where a level on the right finds its `+`
plus_place : (n k : ℕ) (ls : List (List ℕ))
    → k < length (filter_map Pairs.place_if_plus (enumerate_from n ls))
    → (j : ℕ) × (get_or (filter_map Pairs.place_if_plus (enumerate_from n ls)) k 0 ≡ n + j)
    × (is_plus (level_at ls j) ≡ true)
plus_place n k [] h = absurd (omega arith)
plus_place n k (l ∷ ls) h = at (is_plus l) refl k h (λ i. plus_place (n + 1) i ls)
  where
    more : List ℕ
    more = filter_map Pairs.place_if_plus (enumerate_from (n + 1) ls)

    at : (b : Bool) → is_plus l ≡ b → (i : ℕ)
        → i < length (cons_option (cond b (Some n) None) more)
        → ((m : ℕ) → m < length more → (j : ℕ) × (get_or more m 0 ≡ n + 1 + j)
        × (is_plus (level_at ls j) ≡ true))
        → (j : ℕ) × (get_or (cons_option (cond b (Some n) None) more) i 0 ≡ n + j)
        × (is_plus (level_at (l ∷ ls) j) ≡ true)
    at true e zero lt next = (0, (let same : n ≡ n + 0 = omega arith in same), e)
    at true e (suc i) lt next =
        let is = next i (omega arith) in
        (suc is.0, is.1 ∙ (let same : n + 1 + is.0 ≡ n + suc is.0 = omega arith in same), is.2)
    at false e i lt next =
        let is = next i lt in
        (suc is.0, is.1 ∙ (let same : n + 1 + is.0 ≡ n + suc is.0 = omega arith in same), is.2)

plus-cons : (l : List ℕ) (ls : List (List ℕ))
    → Pairs.plus_count (l ∷ ls) ≡ cond (is_plus l) 1 0 + Pairs.plus_count ls
plus-cons l ls = let e = sum_by-append (λ m. cond (is_plus m) 1 0) (l ∷ []) ls in omega (arith, e)

length-plus_places : (n : ℕ) (ls : List (List ℕ))
    → length (filter_map Pairs.place_if_plus (enumerate_from n ls)) ≡ Pairs.plus_count ls
length-plus_places n [] = refl
length-plus_places n (l ∷ ls) =
    at (is_plus l) (length-plus_places (n + 1) ls) ∙ sym (plus-cons l ls)
  where
    more : List ℕ
    more = filter_map Pairs.place_if_plus (enumerate_from (n + 1) ls)

    at : (b : Bool) → length more ≡ Pairs.plus_count ls
        → length (cons_option (cond b (Some n) None) more) ≡ cond b 1 0 + Pairs.plus_count ls
    at true e = omega arith
    at false e = omega arith

-- a `+` on the right has fewer before it than the left side has
few_before : (left right done after : List (List ℕ)) (l : List ℕ) → done ++ l ∷ after ≡ right
    → Pairs.are_paired left right ≡ true → is_plus l ≡ true
    → Pairs.plus_count done < Pairs.plus_count left
few_before left right done after l parts paired plus =
    let whole : Pairs.plus_count right ≡ Pairs.plus_count done + Pairs.plus_count (l ∷ after) =
    ap Pairs.plus_count (sym parts)
    ∙ sum_by-append (λ m. cond (is_plus m) 1 0) done (l ∷ after) in
    let here : Pairs.plus_count (l ∷ after) ≡ 1 + Pairs.plus_count after =
    plus-cons l after ∙ ap (λ b. cond b 1 0 + Pairs.plus_count after) plus in
    ⊎_elim
    (λ none. absurd (let zero = eqb-true (Pairs.plus_count right) 0 none in omega arith))
    (λ both. let same = eqb-true (Pairs.plus_count right) (Pairs.plus_count left)
    (and_parts (Pairs.plus_count right == Pairs.plus_count left)
    (not (Pairs.has_name left || Pairs.has_name right)) both).0 in omega arith)
    (or_cases (Pairs.plus_count right == 0) (Pairs.plus_count right == Pairs.plus_count left
    && not (Pairs.has_name left || Pairs.has_name right)) paired)

-- what has to be on the left is there
stands : (left : List (List ℕ)) (l : List ℕ) → Pairs.is_unbound left l ≡ false
    → (is_named l || is_hash l) ≡ true → list_any (bytes_eq l) left ≡ true
stands left l e h = at (is_named l || is_hash l) (list_any (bytes_eq l) left) e h
  where
    at : (a b : Bool) → (a && not b) ≡ false → a ≡ true → b ≡ true
    at true b f k = not-false b f
    at false b f k = absurd (let no : false ≡ true = k in cc)

begun_left : (left right done after : List (List ℕ)) (l : List ℕ) → done ++ l ∷ after ≡ right
    → Pairs.are_paired left right ≡ true → Pairs.is_unbound left l ≡ false
    → begins_with_plus l ≡ true
    → begins_with_plus (level_at left (Pairs.place_of left (Pairs.plus_count done) l)) ≡ true
begun_left left right done after l parts paired bound begun = at (is_plus l) refl
  where
    at : (b : Bool) → is_plus l ≡ b → begins_with_plus (level_at left
        (cond b (slice_index (Pairs.plus_places left) (Pairs.plus_count done))
        (cond (begins_with_plus l && not b) (position_or_len (bytes_eq l) left) 0))) ≡ true
    at true e =
        let few = few_before left right done after l parts paired e in
        let is = plus_place 0 (Pairs.plus_count done) left
        (let size = length-plus_places 0 left in omega arith) in
        ap (λ i. begins_with_plus (level_at left i))
        (is.1 ∙ (let same : 0 + is.0 ≡ is.0 = omega arith in same))
        ∙ plus_begins (level_at left is.0) is.2
    at false e =
        let named : is_named l ≡ true = (λ i. begun i && not (e i)) in
        let is = first_passes (bytes_eq l) left [] (stands left l bound
        (ap (λ b. b || is_hash l) named)) in
        ap (λ b. begins_with_plus (level_at left
        (cond (b && not false) (position_or_len (bytes_eq l) left) 0))) begun
        ∙ ap begins_with_plus (sym (text_is l _ is.0)) ∙ begun

has_its_place : (left right done after : List (List ℕ)) (l : List ℕ) → done ++ l ∷ after ≡ right
    → Pairs.are_paired left right ≡ true → Pairs.is_unbound left l ≡ false
    → has_place (map plain left) (plain l, Pairs.placed_at left right (length done, l)) ≡ true
has_its_place left right done after l parts paired bound = at (begins_with_plus l) refl
  where
    place : ℕ
    place = Pairs.placed_at left right (length done, l)

    front : take (length done) right ≡ done
    front = ap (take (length done)) (sym parts) ∙ take-append_seam done (l ∷ after)

    at : (b : Bool) → begins_with_plus l ≡ b
        → (not (is_plus (plain l)) || is_plus (level_at (map plain left) place)) ≡ true
    at true e =
        ap (λ b. not (is_plus (plain l)) || b) (ap is_plus (level-plain left place)
        ∙ begun_plain (level_at left place)
        (ap (λ d. begins_with_plus (level_at left (Pairs.place_of left (Pairs.plus_count d) l)))
        front
        ∙ begun_left left right done after l parts paired bound e))
        ∙ or_true (not (is_plus (plain l)))
    at false e =
        ap (λ b. not b || is_plus (level_at (map plain left) place))
        (ap is_plus (other_plain l e) ∙ no_plus l e)

have_places : (left right done rest : List (List ℕ)) → done ++ rest ≡ right
    → Pairs.are_paired left right ≡ true → list_any (Pairs.is_unbound left) rest ≡ false
    → list_all (has_place (map plain left)) (zip (map plain rest)
    (map (Pairs.placed_at left right) (enumerate_from (length done) rest))) ≡ true
have_places left right done [] parts paired bound = refl
have_places left right done (l ∷ ls) parts paired bound =
    let each = or_parts (Pairs.is_unbound left l) (list_any (Pairs.is_unbound left) ls) bound in
    let next = have_places left right (done ++ l ∷ []) ls
    (append_assoc done (l ∷ []) ls ∙ parts) paired each.1 in
    let size : length (done ++ l ∷ []) ≡ length done + 1 = length-append done (l ∷ []) in
    and_from (has_place (map plain left) (plain l, Pairs.placed_at left right (length done, l)))
    (list_all (has_place (map plain left)) (zip (map plain ls)
    (map (Pairs.placed_at left right) (enumerate_from (length done + 1) ls))))
    (has_its_place left right done ls l parts paired each.0)
    (subst (λ n. list_all (has_place (map plain left)) (zip (map plain ls)
    (map (Pairs.placed_at left right) (enumerate_from n ls))) ≡ true) size next)

-- ---- `#`
all_at : {X : Type 0} (p : X → Bool) (xs : List X) (i : ℕ) (d : X) → list_all p xs ≡ true
    → i < length xs → p (get_or xs i d) ≡ true
all_at p [] i d h lt = absurd (omega arith)
all_at p (x ∷ xs) zero d h lt = (and_parts (p x) (list_all p xs) h).0
all_at p (x ∷ xs) (suc i) d h lt =
    all_at p xs i d (and_parts (p x) (list_all p xs) h).1 (omega arith)

none_passes_at : {X : Type 0} (p : X → Bool) (xs : List X) (i : ℕ) (d : X)
    → list_any p xs ≡ false → i < length xs → p (get_or xs i d) ≡ false
none_passes_at p [] i d h lt = absurd (omega arith)
none_passes_at p (x ∷ xs) zero d h lt = (or_parts (p x) (list_any p xs) h).0
none_passes_at p (x ∷ xs) (suc i) d h lt =
    none_passes_at p xs i d (or_parts (p x) (list_any p xs) h).1 (omega arith)

-- a level that is `#` is one of the levels
hash_inside : (ls : List (List ℕ)) (i : ℕ) → is_hash (level_at ls i) ≡ true → i < length ls
hash_inside ls i h =
    ⊎_elim (λ lt. lt)
    (λ ge. absurd (let no : false ≡ true = ap is_hash (sym (get_or_past ls i [] ge)) ∙ h in cc))
    (cases_lt i (length ls))

-- and the last one
hash_is_last : (ls : List (List ℕ)) (i : ℕ) → AreFit (map plain ls)
    → is_hash (level_at ls i) ≡ true → i ≡ length (map plain ls) - 1
hash_is_last ls i are h =
    let inside = hash_inside ls i h in
    let size = length-map ls plain in
    ⊎_elim
    (λ lt. absurd (
    let lacks = all_at (λ l. not (contains_byte 35 l)) (parents (map plain ls)) i [] are.hash
    (omega (arith, length-take (length (map plain ls) - 1) (map plain ls))) in
    let same : level_at (parents (map plain ls)) i ≡ plain (level_at ls i) =
    get_or-take (length (map plain ls) - 1) (map plain ls) i [] lt ∙ level-plain ls i in
    let hash : plain (level_at ls i) ≡ codes "#" =
    ap plain (text_is (level_at ls i) (codes "#") h) in
    let no : false ≡ true = ap (λ l. not (contains_byte 35 l)) (sym (same ∙ hash)) ∙ lacks in cc))
    (λ ge. omega arith)
    (cases_lt i (length (map plain ls) - 1))

hash_too : (left right : List (List ℕ)) → AreFit (map plain left)
    → list_any (Pairs.is_unbound left) right ≡ false
    → ends_with_hash (map plain right) ≡ true → ends_with_hash (map plain left) ≡ true
hash_too left right are bound h =
    let last = length (map plain right) - 1 in
    let level = level_at right last in
    let hash : is_hash level ≡ true =
    plain_hash level (sym (ap is_hash (level-plain right last)) ∙ h) in
    let there = first_passes (bytes_eq level) left [] (stands left level
    (none_passes_at (Pairs.is_unbound left) right last [] bound (hash_inside right last hash))
    (ap (λ b. is_named level || b) hash ∙ or_true (is_named level))) in
    let place = position_or_len (bytes_eq level) left in
    let same : level ≡ level_at left place = text_is level (level_at left place) there.0 in
    let left_hash : is_hash (level_at left place) ≡ true = ap is_hash (sym same) ∙ hash in
    let is_last = hash_is_last left place are left_hash in
    ap (λ i. is_hash (level_at (map plain left) i)) (sym is_last)
    ∙ ap is_hash (level-plain left place
    ∙ ap plain (text_is (level_at left place) (codes "#") left_hash))

-- ---- the front
own_front : (right : List (List ℕ)) → Pairs.begins_with_wildcard right ≡ false
    → is_wildcard (level_at (map plain right) 0) ≡ false
own_front right e =
    let first = level_at right 0 in
    let both = or_parts (begins_with_plus first) (is_hash first) e in
    ap is_wildcard (level-plain right 0 ∙ other_plain first both.0)
    ∙ or_from (is_plus first) (is_hash first) (no_plus first both.0) both.1

implied : (a b : Bool) → (a ≡ true → b ≡ true) → (not a || b) ≡ true
implied false b h = refl
implied true b h = h refl

levels_rename : (left right : List (List ℕ)) → AreFit (map plain left) → IsPair left right
    → ((length (map plain right) == length (Pairs.places left right))
    && list_all (has_place (map plain left)) (zip (map plain right) (Pairs.places left right))
    && (not (ends_with_hash (map plain right)) || ends_with_hash (map plain left))
    && not (is_wildcard (level_at (map plain right) 0))) ≡ true
levels_rename left right are is =
    let a = length (map plain right) == length (Pairs.places left right) in
    let b = list_all (has_place (map plain left))
    (zip (map plain right) (Pairs.places left right)) in
    let c = not (ends_with_hash (map plain right)) || ends_with_hash (map plain left) in
    let d = not (is_wildcard (level_at (map plain right) 0)) in
    let size : length (map plain right) ≡ length (Pairs.places left right) =
    length-map right plain ∙ sym (length-map (enumerate_from 0 right) (Pairs.placed_at left right)
    ∙ length-enumerate_from 0 right) in
    and_from (a && b && c) d
    (and_from (a && b) c
    (and_from a b (eq-eqb (length (map plain right)) (length (Pairs.places left right)) size)
    (have_places left right [] right refl is.paired is.bound))
    (implied (ends_with_hash (map plain right)) (ends_with_hash (map plain left))
    (hash_too left right are is.bound)))
    (not_from_false (is_wildcard (level_at (map plain right) 0)) (own_front right is.front))

-- sides without a fault make a rule
pub renaming_is : (left right : List ℕ) → Pairs.rename_fault left right ≡ None
    → is_rename (plain_text left) (plain_text right) (Pairs.places (levels left) (levels right))
    ≡ true
renaming_is left right e =
    let none = other (length right == 0) (kinds.Missing Right) _ e in
    let one = neither (side_fault Left left) _ none.1 in
    let two = neither (side_fault Right right)
    (Pairs.pair_fault (levels left) (levels right)) one.1 in
    let left_is = side_is Left left one.0 in
    let right_is = side_is Right right two.0 in
    let rule : List (List ℕ) → List (List ℕ) → Bool =
    λ (ls : List (List ℕ)) (rs : List (List ℕ)).
    (length rs == length (Pairs.places (levels left) (levels right)))
    && list_all (has_place ls) (zip rs (Pairs.places (levels left) (levels right)))
    && (not (ends_with_hash rs) || ends_with_hash ls)
    && not (is_wildcard (level_at rs 0)) in
    (λ i. rule (levels-plain left left_is i) (levels-plain right right_is i))
    ∙ levels_rename (levels left) (levels right) left_is.fit
    (pair_is (levels left) (levels right) two.1)
