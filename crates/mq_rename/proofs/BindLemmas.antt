-- The left side of a rule, bound level by level.
use Rattle.std.proofs.Common.{◌≡◌, ◌==◌, ℕ, ◌-◌, ◌<◌, Bool, true, false, cond, not, ◌&&◌, ◌||◌}
use Rattle.std.proofs.Common.{List, [], ◌∷◌, ◌++◌, length, drop, map, refl, ap, sym, ◌∙◌, arith}
use Rattle.std.proofs.Common.{zero, suc, subst, length-set}
use Rattle.std.specs.Prelude.{codes, Option, Some, None, slice_set}
use Rattle.std.specs.Option.{option_map}
use Rattle.std.specs.List.{flat_map, list_all}
use Rattle.std.proofs.Math.Bool.{and-true, and-false}
use Rattle.std.proofs.lemmas.Bool.{and_parts, or_from, or_parts, or_right}
use Rattle.std.proofs.lemmas.List.{set-get_or}
use Rattle.mq_topic.specs.Matching.{ends_with_hash, is_wildcard, level_at, level_matches}
use Rattle.mq_topic.specs.Texts.{contains_byte, is_level}
use Rattle.mq_topic.proofs.ByteLemmas.{text_is}
use Rattle.mq_rename.specs.Bounds.{bind}
use Rattle.mq_rename.specs.Lists.{are_fit, has_long, is_hash, is_last_hash, is_long, is_plus}
use Rattle.mq_rename.specs.Lists.{levels_match}
use Rattle.mq_rename.specs.Meets.{behind, met_level}
use Rattle.mq_rename.specs.Renames.{becomes, has_place}
use Rattle.mq_rename.proofs.FitLemmas.{IsFit, fit_from, fit_parts, inner_is_not, inner_lacks}
use Rattle.mq_rename.proofs.FitLemmas.{no_last}
use Rattle.mq_rename.proofs.MatchLemmas.{match_cons, match_end}
use Rattle.mq_rename.proofs.MeetLemmas.{behind_end, behind_match, match_if_any, met_level_by}
use Rattle.mq_rename.proofs.MeetLemmas.{met_level_matches}
use Rattle.mq_rename.proofs.ReachLemmas.{last_is_long}

pub and_assoc : (a b c : Bool) → (a && (b && c)) ≡ ((a && b) && c)
and_assoc a b c = grind arith

and_turn : (a b c : Bool) → ((a && b) && c) ≡ ((a && c) && b)
and_turn a b c = grind arith

-- ---- one level is bound
hash_is_no_plus : (l : List ℕ) → is_plus l ≡ true → is_hash l ≡ false
hash_is_no_plus l e = ap is_hash (text_is l (codes "+") e)

pub plus_is_no_hash : (l : List ℕ) → is_hash l ≡ true → is_plus l ≡ false
plus_is_no_hash l e = ap is_plus (text_is l (codes "#") e)

-- a `+` stands in the list
pub plus_inside : (ls : List (List ℕ)) (p : ℕ) → is_plus (level_at ls p) ≡ true → p < length ls
plus_inside [] p e = absurd (let k : false ≡ true = e in cc)
plus_inside (x ∷ xs) zero e = omega arith
plus_inside (x ∷ xs) (suc p) e = let more = plus_inside xs p e in omega arith

abbrev set_if_any : List (List ℕ) → ℕ → Option (List ℕ) → Option (List (List ℕ))
set_if_any ls p o = option_map (λ l. slice_set ls p l) o

first_set : (x : List ℕ) (xs : List (List ℕ)) (o : Option (List ℕ))
    → set_if_any (x ∷ xs) 0 o ≡ behind o (Some xs)
first_set x xs None = refl
first_set x xs (Some l) = refl

set_some : (xs : List (List ℕ)) (p : ℕ) (l : List ℕ) → 0 < length xs
    → 0 < length (slice_set xs p l)
set_some xs p l h = let size = length-set xs p l in omega arith

next_set : (x : List ℕ) (xs : List (List ℕ)) (p : ℕ) (o : Option (List ℕ)) (m : List ℕ)
    (ms : List (List ℕ)) → 0 < length xs
    → match_if_any (set_if_any (x ∷ xs) (suc p) o) (m ∷ ms)
    ≡ (level_matches x m && match_if_any (set_if_any xs p o) ms)
next_set x xs p None m ms h = sym (and-false (level_matches x m))
next_set x xs p (Some l) m ms h =
    match_cons x m (slice_set xs p l) ms (last_is_long x (slice_set xs p l) (set_some xs p l h))

next_set_end : (x : List ℕ) (xs : List (List ℕ)) (p : ℕ) (o : Option (List ℕ)) → 0 < length xs
    → match_if_any (set_if_any (x ∷ xs) (suc p) o) [] ≡ false
next_set_end x xs p None h = refl
next_set_end x xs p (Some l) h =
    match_end x (slice_set xs p l) (last_is_long x (slice_set xs p l) (set_some xs p l h))

-- a level that has to be another's, too
set_match : (ls : List (List ℕ)) (p : ℕ) (f : List ℕ) (n : List (List ℕ)) → p < length ls
    → is_hash (level_at ls p) ≡ false → is_hash f ≡ false
    → match_if_any (set_if_any ls p (met_level (level_at ls p) f)) n
    ≡ (levels_match ls n && level_matches f (level_at n p))
set_match [] p f n in' h k = absurd (omega arith)
set_match (x ∷ xs) zero f [] in' h k =
    grind (arith, first_set, behind_end, met_level_by, match_end, no_last)
set_match (x ∷ xs) zero f (m ∷ ms) in' h k =
    grind (arith, first_set, behind_match, met_level_by, met_level_matches, and_turn, match_cons)
set_match (x ∷ xs) (suc p) f [] in' h k = grind (arith, next_set_end, match_end, last_is_long)
set_match (x ∷ xs) (suc p) f (m ∷ ms) in' h k =
    grind (arith, set_match xs p f ms, next_set, and_assoc, match_cons, last_is_long)

hash_set : (ls : List (List ℕ)) (p : ℕ) (l : List ℕ) (k : ℕ) → is_hash (level_at ls p) ≡ false
    → is_hash l ≡ false → is_hash (level_at (slice_set ls p l) k) ≡ is_hash (level_at ls k)
hash_set [] p l k h e = refl
hash_set (x ∷ xs) zero l zero h e = e ∙ sym h
hash_set (x ∷ xs) zero l (suc k) h e = refl
hash_set (x ∷ xs) (suc p) l zero h e = refl
hash_set (x ∷ xs) (suc p) l (suc k) h e = hash_set xs p l k h e

-- what is known of a level that is no `#`
record IsInner (l : List ℕ) : Type 0 where
  pub nul : not (contains_byte 0 l) ≡ true
  pub slash : not (contains_byte 47 l) ≡ true
  pub level : is_level l ≡ true
  pub hash : contains_byte 35 l ≡ false

fit_set : (ls : List (List ℕ)) (p : ℕ) (l : List ℕ) → are_fit ls ≡ true → IsInner l
    → are_fit (slice_set ls p l) ≡ true
fit_set [] p l f e = refl
fit_set (x ∷ xs) zero l f e = fit_from l xs (record {
  nul = e.nul;
  slash = e.slash;
  level = e.level;
  hash = or_right (length xs == 0) _ (ap not e.hash);
  after = (fit_parts x xs f).after;
})
fit_set (x ∷ xs) (suc p) l f e =
    let is = fit_parts x xs f in
    fit_from x (slice_set xs p l) (record {
      nul = is.nul;
      slash = is.slash;
      level = is.level;
      hash = ap (λ k. k == 0 || not (contains_byte 35 x)) (length-set xs p l) ∙ is.hash;
      after = fit_set xs p l is.after e;
    })

short_set : (ls : List (List ℕ)) (p : ℕ) (l : List ℕ) → has_long ls ≡ false → is_long l ≡ false
    → has_long (slice_set ls p l) ≡ false
short_set [] p l f e = refl
short_set (x ∷ xs) zero l f e = or_from _ _ e (or_parts (is_long x) _ f).1
short_set (x ∷ xs) (suc p) l f e = grind (arith, short_set xs p l, or_parts, or_from)

-- ---- how far a rule is bound
abbrev pub firsts : List (List ℕ × ℕ) → List (List ℕ)
firsts qs = map (λ (q : List ℕ × ℕ). q.0) qs

-- what levels on the right become
abbrev pub made : List (List ℕ) → List (List ℕ) → List (List ℕ × ℕ) → List (List ℕ)
made left n qs = flat_map (becomes (length left - 1) n) qs

-- what is known of levels that are bound, but for what they match
pub record IsShaped (left filter bound : List (List ℕ)) : Type 0 where
  pub size : length bound ≡ length left
  pub hashes : (p : ℕ) → is_hash (level_at bound p) ≡ is_hash (level_at left p)
  pub fit : are_fit bound ≡ true
  pub short : has_long left ≡ false → has_long filter ≡ false → has_long bound ≡ false
  pub front : is_wildcard (level_at bound 0) ≡ true → is_wildcard (level_at left 0) ≡ true

-- what is left of the right side, and of the filter
pub record IsBinding (left : List (List ℕ)) (all : List (List ℕ × ℕ)) (filter bound : List (List ℕ))
    (qs : List (List ℕ × ℕ)) (fs : List (List ℕ)) : Type 0 where
  pub same : (n : List (List ℕ)) → levels_match left n ≡ true
      → levels_match filter (made left n all)
      ≡ (levels_match bound n && levels_match fs (made left n qs))
  pub shaped : IsShaped left filter bound
  pub rest : are_fit fs ≡ true
  pub short_rest : has_long filter ≡ false → has_long fs ≡ false
  pub right : are_fit (firsts qs) ≡ true
  pub placed : list_all (has_place left) qs ≡ true
  pub tail : ends_with_hash (firsts qs) ≡ true → ends_with_hash left ≡ true

-- the level of a new name
abbrev pub head : List (List ℕ) → List ℕ × ℕ → List ℕ
head n q = cond (is_plus q.0) (level_at n q.1) q.0

pub made_head : (left n : List (List ℕ)) (q : List ℕ × ℕ) (qs : List (List ℕ × ℕ))
    → is_hash q.0 ≡ false → made left n (q ∷ qs) ≡ head n q ∷ made left n qs
made_head left n q qs e = ap (λ ls. ls ++ made left n qs) (at (is_plus q.0) (is_hash q.0) e)
  where
    at : (p h : Bool) → h ≡ false
        → cond p (level_at n q.1 ∷ []) (cond h (drop (length left - 1) n) (q.0 ∷ []))
        ≡ cond p (level_at n q.1) q.0 ∷ []
    at true h e = refl
    at false true e = absurd (let k : true ≡ false = e in cc)
    at false false e = refl

-- where the level has a place, that is a `+` on the left
pub place_is : (left : List (List ℕ)) (q : List ℕ × ℕ) (qs : List (List ℕ × ℕ))
    → list_all (has_place left) (q ∷ qs) ≡ true → is_plus q.0 ≡ true
    → is_plus (level_at left q.1) ≡ true
place_is left q qs h e = grind (arith, and_parts)

bind_match : (left bound : List (List ℕ)) (q : List ℕ × ℕ) (f : List ℕ) (n : List (List ℕ))
    → length bound ≡ length left
    → ((p : ℕ) → is_hash (level_at bound p) ≡ is_hash (level_at left p))
    → (is_plus q.0 ≡ true → is_plus (level_at left q.1) ≡ true) → is_hash f ≡ false
    → match_if_any (bind bound q.0 q.1 f) n ≡ (levels_match bound n && level_matches f (head n q))
bind_match left bound q f n size hashes place h = at (is_plus q.0) refl
  where
    plain : (b : Bool) → match_if_any (cond b (Some bound) None) n ≡ (levels_match bound n && b)
    plain true = sym (and-true (levels_match bound n))
    plain false = sym (and-false (levels_match bound n))

    at : (p : Bool) → is_plus q.0 ≡ p
        → match_if_any (cond p (set_if_any bound q.1 (met_level (level_at bound q.1) f))
        (cond (level_matches f q.0) (Some bound) None)) n
        ≡ (levels_match bound n && level_matches f (cond p (level_at n q.1) q.0))
    at true e =
        let inside = plus_inside left q.1 (place e) in
        set_match bound q.1 f n (omega (arith, inside, size))
        (hashes q.1 ∙ hash_is_no_plus (level_at left q.1) (place e)) h
    at false e = plain (level_matches f q.0)

-- ---- one level on
abbrev pub BindsOn : List (List ℕ) → List (List ℕ × ℕ) → List (List ℕ) → List (List ℕ × ℕ)
    → List (List ℕ) → Option (List (List ℕ)) → Type 0
BindsOn left all filter qs fs None = (n : List (List ℕ)) → levels_match left n ≡ true
    → levels_match filter (made left n all) ≡ false
BindsOn left all filter qs fs (Some bound) = IsBinding left all filter bound qs fs

abbrev ShapedIfAny : List (List ℕ) → List (List ℕ) → Option (List (List ℕ)) → Type 0
ShapedIfAny left filter None = Unit {0}
ShapedIfAny left filter (Some bound) = IsShaped left filter bound

set_front : (left ls : List (List ℕ)) (p : ℕ) (l : List ℕ) → is_plus (level_at left p) ≡ true
    → (is_wildcard (level_at ls 0) ≡ true → is_wildcard (level_at left 0) ≡ true)
    → is_wildcard (level_at (slice_set ls p l) 0) ≡ true → is_wildcard (level_at left 0) ≡ true
set_front left [] p l e f h = f h
set_front left (x ∷ xs) zero l e f h = λ i. e i || is_hash (level_at left 0)
set_front left (x ∷ xs) (suc p) l e f h = f h

set_shaped : (left filter bound : List (List ℕ)) (p : ℕ) (l : List ℕ)
    → is_plus (level_at left p) ≡ true → IsShaped left filter bound → IsInner l
    → is_hash l ≡ false → (has_long filter ≡ false → is_long l ≡ false)
    → IsShaped left filter (slice_set bound p l)
set_shaped left filter bound p l e is inner h short = record {
  size = length-set bound p l ∙ is.size;
  hashes = λ k. hash_set bound p l k (is.hashes p ∙ hash_is_no_plus (level_at left p) e) h
      ∙ is.hashes k;
  fit = fit_set bound p l is.fit inner;
  short = λ a b. short_set bound p l (is.short a b) (short b);
  front = set_front left bound p l e is.front;
}

bind_shaped : (left filter bound : List (List ℕ)) (q : List ℕ × ℕ) (f : List ℕ)
    → (is_plus q.0 ≡ true → is_plus (level_at left q.1) ≡ true) → IsShaped left filter bound
    → IsInner f → is_hash f ≡ false → (has_long filter ≡ false → is_long f ≡ false)
    → ShapedIfAny left filter (bind bound q.0 q.1 f)
bind_shaped left filter bound q f place is inner h short = at (is_plus q.0) refl
  where
    plain : (b : Bool) → ShapedIfAny left filter (cond b (Some bound) None)
    plain true = is
    plain false = tt

    at : (p : Bool) → is_plus q.0 ≡ p → ShapedIfAny left filter
        (cond p (set_if_any bound q.1 (met_level (level_at bound q.1) f))
        (cond (level_matches f q.0) (Some bound) None))
    at true e =
        met_level_by (λ o. ShapedIfAny left filter (set_if_any bound q.1 o))
        (level_at bound q.1) f tt
        (subst (IsShaped left filter) (sym (set-get_or bound q.1 [])) is)
        (set_shaped left filter bound q.1 f (place e) is inner h short)
    at false e = plain (level_matches f q.0)

ends-cons : (x y : List ℕ) (ys : List (List ℕ))
    → ends_with_hash (x ∷ y ∷ ys) ≡ ends_with_hash (y ∷ ys)
ends-cons x y ys = grind (arith)

tail_on : (left : List (List ℕ)) (q : List ℕ × ℕ) (qs : List (List ℕ × ℕ))
    → (ends_with_hash (firsts (q ∷ qs)) ≡ true → ends_with_hash left ≡ true)
    → ends_with_hash (firsts qs) ≡ true → ends_with_hash left ≡ true
tail_on left q [] f h = absurd (let k : false ≡ true = h in cc)
tail_on left q (r ∷ qs) f h = f (ends-cons q.0 r.0 (firsts qs) ∙ h)

-- one level on, if the filter has one more, and the right side
pub bind_on : {left : List (List ℕ)} {all : List (List ℕ × ℕ)} {filter bound : List (List ℕ)}
    {q : List ℕ × ℕ} {qs : List (List ℕ × ℕ)} {f : List ℕ} {fs : List (List ℕ)}
    → IsBinding left all filter bound (q ∷ qs) (f ∷ fs) → is_hash q.0 ≡ false
    → is_last_hash f fs ≡ false → BindsOn left all filter qs fs (bind bound q.0 q.1 f)
bind_on {left} {all} {filter} {bound} {q} {qs} {f} {fs} is plain inner =
    at (bind bound q.0 q.1 f) step
    (bind_shaped left filter bound q f place is.shaped
    (record {
      nul = parts.nul;
      slash = parts.slash;
      level = parts.level;
      hash = inner_lacks f fs is.rest inner;
    })
    (inner_is_not f fs is.rest inner)
    (λ e. (or_parts (is_long f) _ (is.short_rest e)).0))
  where
    parts : IsFit f fs
    parts = fit_parts f fs is.rest

    place : is_plus q.0 ≡ true → is_plus (level_at left q.1) ≡ true
    place = place_is left q qs is.placed

    matched : (n : List (List ℕ)) → match_if_any (bind bound q.0 q.1 f) n
        ≡ (levels_match bound n && level_matches f (head n q))
    matched n = bind_match left bound q f n is.shaped.size is.shaped.hashes place
        (inner_is_not f fs is.rest inner)

    step : (n : List (List ℕ)) → levels_match left n ≡ true
        → levels_match filter (made left n all)
        ≡ (match_if_any (bind bound q.0 q.1 f) n && levels_match fs (made left n qs))
    step n m =
        is.same n m
        ∙ ap (λ ls. levels_match bound n && levels_match (f ∷ fs) ls) (made_head left n q qs plain)
        ∙ ap (λ b. levels_match bound n && b) (match_cons f (head n q) fs (made left n qs) inner)
        ∙ and_assoc (levels_match bound n) (level_matches f (head n q))
        (levels_match fs (made left n qs))
        ∙ ap (λ b. b && levels_match fs (made left n qs)) (sym (matched n))

    at : (o : Option (List (List ℕ)))
        → ((n : List (List ℕ)) → levels_match left n ≡ true
        → levels_match filter (made left n all)
        ≡ (match_if_any o n && levels_match fs (made left n qs)))
        → ShapedIfAny left filter o → BindsOn left all filter qs fs o
    at None s shaped = s
    at (Some next) s shaped = record {
      same = s;
      shaped = shaped;
      rest = parts.after;
      short_rest = λ e. (or_parts (is_long f) _ (is.short_rest e)).1;
      right = (fit_parts q.0 (firsts qs) is.right).after;
      placed = (and_parts (has_place left q) _ is.placed).1;
      tail = tail_on left q qs is.tail;
    }
