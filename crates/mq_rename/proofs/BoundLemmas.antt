-- Where the binding of a rule starts and ends.
use Rattle.std.proofs.Common.{◌≡◌, ◌==◌, ℕ, ◌-◌, Bool, true, false, cond, not, ◌&&◌, ◌||◌, List, []}
use Rattle.std.proofs.Common.{◌∷◌, ◌++◌, length, drop, refl, ap, sym, ◌∙◌, arith, suc, append-nil}
use Rattle.std.specs.Prelude.{codes, None, Some}
use Rattle.std.specs.List.{list_all, zip}
use Rattle.std.proofs.Math.Bool.{and-true}
use Rattle.std.proofs.Math.Dec.{eqb-suc-zero}
use Rattle.std.proofs.lemmas.Bool.{and_parts, and_right, eqb-true, not-true, or_from, or_parts}
use Rattle.std.proofs.lemmas.Bool.{or_right}
use Rattle.std.proofs.lemmas.Slice.Zip.{firsts-zip}
use Rattle.mq_topic.specs.Levels.{levels}
use Rattle.mq_topic.specs.Matching.{ends_with_hash, is_wildcard, level_at, level_matches}
use Rattle.mq_topic.specs.Texts.{contains_byte, parents}
use Rattle.mq_topic.proofs.ByteLemmas.{text_is}
use Rattle.mq_rename.specs.Bounds.{IsBound, IsBoundIfAny}
use Rattle.mq_rename.specs.Lists.{are_fit, has_long, is_hash, is_last_hash, is_long, is_plus}
use Rattle.mq_rename.specs.Lists.{levels_match}
use Rattle.mq_rename.specs.Meets.{may_end}
use Rattle.mq_rename.specs.Renames.{becomes, has_place, is_rename}
use Rattle.mq_rename.proofs.FitLemmas.{fit_from, fit_parts, inner_is_not, inner_lacks, no_last}
use Rattle.mq_rename.proofs.FitLemmas.{parents-cons}
use Rattle.mq_rename.proofs.MatchLemmas.{match_cons, match_end, match_hash}
use Rattle.mq_rename.proofs.MeetLemmas.{long_of}
use Rattle.mq_rename.proofs.ReachLemmas.{last_is_long}
use Rattle.mq_rename.proofs.BindLemmas.{IsBinding, firsts, made, and_assoc, made_head}
use Rattle.mq_rename.proofs.BindLemmas.{plus_is_no_hash}

-- ---- the start
-- what a rule's sides are like
pub record IsRule (left right : List (List ℕ)) (places : List ℕ) : Type 0 where
  pub count : length right ≡ length places
  pub placed : list_all (has_place left) (zip right places) ≡ true
  pub tail : ends_with_hash right ≡ true → ends_with_hash left ≡ true
  pub own : is_wildcard (level_at right 0) ≡ false

pub rule_is : (left right places : List ℕ) → is_rename left right places ≡ true
    → IsRule (levels left) (levels right) places
rule_is left right places h =
    let count = length (levels right) == length places in
    let placed = list_all (has_place (levels left)) (zip (levels right) places) in
    let tail = not (ends_with_hash (levels right)) || ends_with_hash (levels left) in
    let wild = is_wildcard (level_at (levels right) 0) in
    let three = and_parts (count && placed && tail) (not wild) h in
    let two = and_parts (count && placed) tail three.0 in
    let one = and_parts count placed two.0 in
    record {
      count = eqb-true (length (levels right)) (length places) one.0;
      placed = one.1;
      tail = implied (ends_with_hash (levels right)) (ends_with_hash (levels left)) two.1;
      own = not-true wild three.1;
    }
  where
    implied : (a b : Bool) → (not a || b) ≡ true → a ≡ true → b ≡ true
    implied a b e h = grind arith

pub binding_starts : (left right : List (List ℕ)) (places : List ℕ) (filter : List (List ℕ))
    → IsRule left right places → are_fit left ≡ true → are_fit right ≡ true → are_fit filter ≡ true
    → IsBinding left (zip right places) filter left (zip right places) filter
binding_starts left right places filter is f g h =
    let sides : firsts (zip right places) ≡ right = firsts-zip right places (sym is.count) in
    record {
      same = λ n m. sym (ap (λ b. b && levels_match filter (made left n (zip right places))) m);
      shaped = record {
        size = refl;
        hashes = λ p. refl;
        fit = f;
        short = λ a b. a;
        front = λ a. a;
      };
      rest = h;
      short_rest = λ a. a;
      right = ap are_fit sides ∙ g;
      placed = is.placed;
      tail = λ e. is.tail (sym (ap ends_with_hash sides) ∙ e);
    }

-- ---- ends
-- the levels that are bound, if the filter demands nothing more
pub ends_bound : {left right : List (List ℕ)} {places : List ℕ} {filter bound : List (List ℕ)}
    {qs : List (List ℕ × ℕ)} {fs : List (List ℕ)}
    → IsBinding left (zip right places) filter bound qs fs
    → ((n : List (List ℕ)) → levels_match fs (made left n qs) ≡ true)
    → IsBound left right places filter bound
ends_bound {left} {filter = filter} {bound} is free = record {
  same = λ n m. is.same n m ∙ ap (λ b. levels_match bound n && b) (free n)
      ∙ and-true (levels_match bound n);
  fit = is.shaped.fit;
  long = λ h. long_of (has_long left) (has_long filter) (has_long bound) is.shaped.short h;
  front = is.shaped.front;
}

-- no name, if the filter can't match what is left of new names
pub ends_none : {left : List (List ℕ)} (right : List (List ℕ)) (places : List ℕ)
    {filter bound : List (List ℕ)} {qs : List (List ℕ × ℕ)} {fs : List (List ℕ)}
    → IsBinding left (zip right places) filter bound qs fs
    → ((n : List (List ℕ)) → levels_match fs (made left n qs) ≡ false)
    → IsBoundIfAny left right places filter None
ends_none right places {bound = bound} is not_free n m =
    is.same n m ∙ and_right (levels_match bound n) _ (not_free n)

-- what may end matches no level
end_match : (fs : List (List ℕ)) → levels_match fs [] ≡ may_end fs
end_match [] = refl
end_match (f ∷ fs) = at (is_last_hash f fs) refl
  where
    at : (b : Bool) → is_last_hash f fs ≡ b → levels_match (f ∷ fs) [] ≡ b
    at true e = match_hash f fs [] e
    at false e = match_end f fs e

-- where the right side has ended, new names end
pub ends_last : {left : List (List ℕ)} (right : List (List ℕ)) (places : List ℕ)
    {filter bound fs : List (List ℕ)} → IsBinding left (zip right places) filter bound [] fs
    → IsBoundIfAny left right places filter (cond (may_end fs) (Some bound) None)
ends_last {left} right places {filter} {bound} {fs} is =
    grind (arith, ends_bound, end_match, ends_none)

-- a filter that has ended matches no more levels
pub none_left : (left n : List (List ℕ)) (q : List ℕ × ℕ) (qs : List (List ℕ × ℕ))
    → is_hash q.0 ≡ false → levels_match [] (made left n (q ∷ qs)) ≡ false
none_left left n q qs e = ap (levels_match []) (made_head left n q qs e)

-- ---- the tail
tail_match : (ls fs n : List (List ℕ)) → are_fit ls ≡ true → ends_with_hash ls ≡ true
    → levels_match (parents ls ++ fs) n
    ≡ (levels_match ls n && levels_match fs (drop (length ls - 1) n))
tail_match [] fs n f h = absurd (let k : false ≡ true = h in cc)
tail_match (x ∷ []) fs n f h =
    let last : is_last_hash x [] ≡ true = and-true (is_hash x) ∙ h in
    sym (ap (λ b. b && levels_match fs n) (match_hash x [] n last))
tail_match (x ∷ y ∷ ys) fs [] f h =
    let inner = last_is_long x (y ∷ ys) (omega arith) in
    ap (λ ls. levels_match (ls ++ fs) []) (parents-cons x y ys)
    ∙ match_end x (parents (y ∷ ys) ++ fs)
    (no_last x (parents (y ∷ ys) ++ fs) (inner_is_not x (y ∷ ys) f inner))
    ∙ sym (ap (λ b. b && levels_match fs (drop (length (x ∷ y ∷ ys) - 1) []))
    (match_end x (y ∷ ys) inner))
tail_match (x ∷ y ∷ ys) fs (m ∷ ms) f h =
    let inner = last_is_long x (y ∷ ys) (omega arith) in
    let more : length (x ∷ y ∷ ys) - 1 ≡ suc (length ys) = omega arith in
    let less : length (y ∷ ys) - 1 ≡ length ys = omega arith in
    let back : drop (length (x ∷ y ∷ ys) - 1) (m ∷ ms) ≡ drop (length (y ∷ ys) - 1) ms =
    ap (λ k. drop k (m ∷ ms)) more ∙ ap (λ k. drop k ms) (sym less) in
    let rest = drop (length (y ∷ ys) - 1) ms in
    let ends : ends_with_hash (y ∷ ys) ≡ true =
    ap (λ k. is_hash (level_at (y ∷ ys) k)) less
    ∙ sym (ap (λ k. is_hash (level_at (x ∷ y ∷ ys) k)) more) ∙ h in
    ap (λ ls. levels_match (ls ++ fs) (m ∷ ms)) (parents-cons x y ys)
    ∙ match_cons x m (parents (y ∷ ys) ++ fs) ms
    (no_last x (parents (y ∷ ys) ++ fs) (inner_is_not x (y ∷ ys) f inner))
    ∙ ap (λ b. level_matches x m && b)
    (tail_match (y ∷ ys) fs ms (fit_parts x (y ∷ ys) f).after ends)
    ∙ and_assoc (level_matches x m) (levels_match (y ∷ ys) ms) (levels_match fs rest)
    ∙ sym (λ i. match_cons x m (y ∷ ys) ms inner i && levels_match fs (back i))

tail_fit : (ls fs : List (List ℕ)) → are_fit ls ≡ true → are_fit fs ≡ true
    → are_fit (parents ls ++ fs) ≡ true
tail_fit [] fs f g = g
tail_fit (x ∷ []) fs f g = g
tail_fit (x ∷ y ∷ ys) fs f g =
    let is = fit_parts x (y ∷ ys) f in
    let inner = last_is_long x (y ∷ ys) (omega arith) in
    let rest = parents (y ∷ ys) ++ fs in
    ap (λ ls. are_fit (ls ++ fs)) (parents-cons x y ys)
    ∙ fit_from x rest (record {
      nul = is.nul;
      slash = is.slash;
      level = is.level;
      hash = or_right (length rest == 0) _ (ap not (inner_lacks x (y ∷ ys) f inner));
      after = tail_fit (y ∷ ys) fs is.after g;
    })

tail_short : (ls fs : List (List ℕ)) → has_long ls ≡ false → has_long fs ≡ false
    → has_long (parents ls ++ fs) ≡ false
tail_short [] fs f g = g
tail_short (x ∷ []) fs f g = g
tail_short (x ∷ y ∷ ys) fs f g =
    let parts = or_parts (is_long x) _ f in
    ap (λ ls. has_long (ls ++ fs)) (parents-cons x y ys)
    ∙ or_from _ _ parts.0 (tail_short (y ∷ ys) fs parts.1 g)

tail_front : (left ls fs : List (List ℕ)) → ends_with_hash ls ≡ true
    → is_hash (level_at ls 0) ≡ is_hash (level_at left 0)
    → (is_wildcard (level_at ls 0) ≡ true → is_wildcard (level_at left 0) ≡ true)
    → is_wildcard (level_at (parents ls ++ fs) 0) ≡ true → is_wildcard (level_at left 0) ≡ true
tail_front left [] fs h same f w = absurd (let k : false ≡ true = h in cc)
tail_front left (x ∷ []) fs h same f w =
    or_right (is_plus (level_at left 0)) _ (sym same ∙ h)
tail_front left (x ∷ y ∷ ys) fs h same f w =
    f (sym (ap (λ ls. is_wildcard (level_at (ls ++ fs) 0)) (parents-cons x y ys)) ∙ w)

hash_made : (left n : List (List ℕ)) (q : List ℕ × ℕ) → is_hash q.0 ≡ true
    → made left n (q ∷ []) ≡ drop (length left - 1) n
hash_made left n q e =
    append-nil (becomes (length left - 1) n q) ∙ at (is_plus q.0) (is_hash q.0)
    (plus_is_no_hash q.0 e) e
  where
    at : (p h : Bool) → p ≡ false → h ≡ true
        → cond p (level_at n q.1 ∷ []) (cond h (drop (length left - 1) n) (q.0 ∷ []))
        ≡ drop (length left - 1) n
    at true h e f = absurd (let k : true ≡ false = e in cc)
    at false true e f = refl
    at false false e f = absurd (let k : false ≡ true = f in cc)

-- the left side's levels before its `#`, and then what is left of the filter
pub ends_tail : {left right : List (List ℕ)} {places : List ℕ} {filter bound : List (List ℕ)}
    (q : List ℕ × ℕ) (qs : List (List ℕ × ℕ)) {fs : List (List ℕ)}
    → IsBinding left (zip right places) filter bound (q ∷ qs) fs → is_hash q.0 ≡ true
    → IsBound left right places filter (parents bound ++ fs)
ends_tail q (r ∷ qs) is e =
    let part = fit_parts q.0 (firsts (r ∷ qs)) is.right in
    absurd (let k : false ≡ true =
    sym (λ i. eqb-suc-zero (length (firsts qs)) i
    || not (contains_byte 35 (text_is q.0 (codes "#") e i))) ∙ part.hash in cc)
ends_tail {left} {filter = filter} {bound} q [] {fs} is e =
    let shaped = is.shaped in
    let ends : ends_with_hash bound ≡ true =
    shaped.hashes (length bound - 1) ∙ ap (λ k. is_hash (level_at left (k - 1))) shaped.size
    ∙ is.tail e in
    record {
      same = λ n m.
          is.same n m
          ∙ ap (λ ls. levels_match bound n && levels_match fs ls)
          (hash_made left n q e ∙ ap (λ k. drop (k - 1) n) (sym shaped.size))
          ∙ sym (tail_match bound fs n shaped.fit ends);
      fit = tail_fit bound fs shaped.fit is.rest;
      long = λ h. long_of (has_long left) (has_long filter) (has_long (parents bound ++ fs))
          (λ a b. tail_short bound fs (shaped.short a b) (is.short_rest b)) h;
      front = tail_front left bound fs ends (shaped.hashes 0) shaped.front;
    }
