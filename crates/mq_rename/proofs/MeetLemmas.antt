-- What two filters have in common.
use Rattle.std.proofs.Common.{◌≡◌, ◌==◌, ℕ, Bool, true, false, cond, not, ◌&&◌, ◌||◌, List, [], ◌∷◌}
use Rattle.std.proofs.Common.{length, refl, ap, sym, ◌∙◌, ◌⊎◌, arith}
use Rattle.std.specs.Prelude.{Option, Some, None}
use Rattle.std.specs.Str.{bytes_eq}
use Rattle.std.proofs.Math.Bool.{and-true, and-false}
use Rattle.std.proofs.lemmas.Bool.{false_from_ne_true, or_parts, or_from, or_right}
use Rattle.mq_topic.specs.Matching.{level_at, level_matches, matches}
use Rattle.mq_topic.proofs.ByteLemmas.{text_is}
use Rattle.mq_rename.specs.Lists.{are_fit, has_long, is_hash, is_last_hash, is_long, is_plus}
use Rattle.mq_rename.specs.Lists.{levels_match}
use Rattle.mq_rename.specs.Meets.{behind, met_level, met_levels}
use Rattle.mq_rename.proofs.FitLemmas.{fit_from, fit_parts, inner_is_not, inner_lacks, no_last}
use Rattle.mq_rename.proofs.MatchLemmas.{match_cons, match_end, match_hash}

-- ---- truth values
pub and_same : (a : Bool) → (a && a) ≡ a
and_same a = grind arith

pub and_comm : (a b : Bool) → (a && b) ≡ (b && a)
and_comm a b = grind arith

-- the parts of two tests, the other way round
pub and_swap : (a b c d : Bool) → ((a && b) && (c && d)) ≡ ((a && c) && (b && d))
and_swap a b c d = grind arith

-- a test that counts only where another passes
pub under : (c r s : Bool) → (c ≡ true → r ≡ s) → (r && c) ≡ (s && c)
under c r s f = grind arith

-- one of two tests passes where a third would not without
pub long_of : (a b c : Bool) → (a ≡ false → b ≡ false → c ≡ false) → c ≡ true → (a || b) ≡ true
long_of a b c f h = grind arith

-- ---- levels, if there are some
abbrev pub match_if_any : Option (List (List ℕ)) → List (List ℕ) → Bool
match_if_any None n = false
match_if_any (Some ls) n = levels_match ls n

abbrev pub all_match_if_any : Option (List (List ℕ)) → List (List ℕ) → Bool
all_match_if_any None n = false
all_match_if_any (Some ls) n = matches ls n

abbrev pub fit_if_any : Option (List (List ℕ)) → Bool
fit_if_any None = true
fit_if_any (Some ls) = are_fit ls

abbrev pub long_if_any : Option (List (List ℕ)) → Bool
long_if_any None = false
long_if_any (Some ls) = has_long ls

-- they begin with one of two levels
abbrev pub BeginIfAny : List ℕ → List ℕ → Option (List (List ℕ)) → Type 0
BeginIfAny x y None = Unit {0}
BeginIfAny x y (Some ls) = (level_at ls 0 ≡ x) ⊎ (level_at ls 0 ≡ y)

-- ---- one level
abbrev pub level_if_any : Option (List ℕ) → List ℕ → Bool
level_if_any None l = false
level_if_any (Some wanted) l = level_matches wanted l

-- a level that two have in common matches what both match
pub met_level_matches : (x y l : List ℕ)
    → level_if_any (met_level x y) l ≡ (level_matches x l && level_matches y l)
met_level_matches x y l =
    at (is_plus x) (is_plus y || bytes_eq x y)
    ∙ both (is_plus x) (is_plus y) (bytes_eq x y) (bytes_eq x l) (bytes_eq y l)
    (λ e. ap (λ t. bytes_eq t l) (text_is x y e))
    (λ e f. false_from_ne_true _ (λ g.
    let k : false ≡ true = sym e ∙ ap (bytes_eq x) (text_is y l g) ∙ f in cc))
  where
    at : (p r : Bool) → level_if_any (cond p (Some y) (cond r (Some x) None)) l
        ≡ cond p (level_matches y l) (cond r (level_matches x l) false)
    at true r = refl
    at false true = refl
    at false false = refl

    both : (p q e a b : Bool) → (e ≡ true → a ≡ b) → (e ≡ false → a ≡ true → b ≡ false)
        → cond p (q || b) (cond (q || e) (p || a) false) ≡ ((p || a) && (q || b))
    both p q e a b f g = grind arith

-- it is one of the two, if there is one: what is so of both and of none is so of it
pub met_level_by : (P : Option (List ℕ) → Type 0) (x y : List ℕ) → P None → P (Some x) → P (Some y)
    → P (met_level x y)
met_level_by P x y none left right = at (is_plus x) (is_plus y || bytes_eq x y)
  where
    at : (p q : Bool) → P (cond p (Some y) (cond q (Some x) None))
    at true q = right
    at false true = left
    at false false = none

-- ---- what they match
abbrev pub hash_if_any : Option (List ℕ) → Bool
hash_if_any None = false
hash_if_any (Some l) = is_hash l

pub behind_match : (o : Option (List ℕ)) (t : Option (List (List ℕ))) (m : List ℕ)
    (ms : List (List ℕ)) → hash_if_any o ≡ false
    → match_if_any (behind o t) (m ∷ ms) ≡ (level_if_any o m && match_if_any t ms)
behind_match None t m ms e = refl
behind_match (Some l) None m ms e = sym (and-false (level_matches l m))
behind_match (Some l) (Some ls) m ms e = match_cons l m ls ms (no_last l ls e)

pub behind_end : (o : Option (List ℕ)) (t : Option (List (List ℕ))) → hash_if_any o ≡ false
    → match_if_any (behind o t) [] ≡ false
behind_end None t e = refl
behind_end (Some l) None e = refl
behind_end (Some l) (Some ls) e = match_end l ls (no_last l ls e)

-- one level on
met_step : (x y : List ℕ) (xs ys : List (List ℕ)) → is_last_hash x xs ≡ false
    → is_last_hash y ys ≡ false → is_hash x ≡ false → is_hash y ≡ false
    → ((n : List (List ℕ)) → match_if_any (met_levels xs ys) n
    ≡ (levels_match xs n && levels_match ys n))
    → (n : List (List ℕ)) → match_if_any (behind (met_level x y) (met_levels xs ys)) n
    ≡ (levels_match (x ∷ xs) n && levels_match (y ∷ ys) n)
met_step x y xs ys e f h k rest [] = grind (arith, behind_end, met_level_by, hash_if_any, match_end)
met_step x y xs ys e f h k rest (m ∷ ms) =
    grind (arith, behind_match, met_level_by, hash_if_any, met_level_matches, and_swap, match_cons)

met_none : (y : List ℕ) (ys n : List (List ℕ)) (b : Bool) → is_last_hash y ys ≡ b
    → match_if_any (cond b (Some []) None) n ≡ (levels_match [] n && levels_match (y ∷ ys) n)
met_none y ys n true e =
    sym (ap (λ b. levels_match [] n && b) (match_hash y ys n e) ∙ and-true (levels_match [] n))
met_none y ys [] false e = sym (match_end y ys e)
met_none y ys (m ∷ ms) false e = refl

-- the levels that two filters have in common match the names that both match
pub met_match : (xs ys : List (List ℕ)) → are_fit xs ≡ true → are_fit ys ≡ true
    → (n : List (List ℕ)) → match_if_any (met_levels xs ys) n
    ≡ (levels_match xs n && levels_match ys n)
met_match [] [] f g n = sym (and_same (levels_match [] n))
met_match [] (y ∷ ys) f g n = met_none y ys n (is_last_hash y ys) refl
met_match (x ∷ xs) [] f g n =
    met_none x xs n (is_last_hash x xs) refl
    ∙ and_comm (levels_match [] n) (levels_match (x ∷ xs) n)
met_match (x ∷ xs) (y ∷ ys) f g n =
    at (is_last_hash x xs) (is_last_hash y ys) refl refl
    (met_match xs ys (fit_parts x xs f).after (fit_parts y ys g).after)
  where
    at : (a b : Bool) → is_last_hash x xs ≡ a → is_last_hash y ys ≡ b
        → ((k : List (List ℕ)) → match_if_any (met_levels xs ys) k
        ≡ (levels_match xs k && levels_match ys k))
        → match_if_any (cond a (Some (y ∷ ys)) (cond b (Some (x ∷ xs))
        (behind (met_level x y) (met_levels xs ys)))) n
        ≡ (levels_match (x ∷ xs) n && levels_match (y ∷ ys) n)
    at true b e h rest = sym (ap (λ c. c && levels_match (y ∷ ys) n) (match_hash x xs n e))
    at false true e h rest =
        sym (ap (λ c. levels_match (x ∷ xs) n && c) (match_hash y ys n h)
        ∙ and-true (levels_match (x ∷ xs) n))
    at false false e h rest =
        met_step x y xs ys e h (inner_is_not x xs f e) (inner_is_not y ys g h) rest n

-- ---- they are a filter's, and no longer
behind_fit : (x : List ℕ) (xs : List (List ℕ)) (t : Option (List (List ℕ)))
    → are_fit (x ∷ xs) ≡ true → is_last_hash x xs ≡ false → fit_if_any t ≡ true
    → fit_if_any (behind (Some x) t) ≡ true
behind_fit x xs None f e g = refl
behind_fit x xs (Some ls) f e g =
    let is = fit_parts x xs f in
    fit_from x ls (record {
      nul = is.nul;
      slash = is.slash;
      level = is.level;
      hash = or_right (length ls == 0) _ (ap not (inner_lacks x xs f e));
      after = g;
    })

end_fit : (b : Bool) → fit_if_any (cond b (Some []) None) ≡ true
end_fit true = refl
end_fit false = refl

pub met_fit : (xs ys : List (List ℕ)) → are_fit xs ≡ true → are_fit ys ≡ true
    → fit_if_any (met_levels xs ys) ≡ true
met_fit [] [] f g = refl
met_fit [] (y ∷ ys) f g = end_fit (is_last_hash y ys)
met_fit (x ∷ xs) [] f g = end_fit (is_last_hash x xs)
met_fit (x ∷ xs) (y ∷ ys) f g =
    at (is_last_hash x xs) (is_last_hash y ys) refl refl
    (met_fit xs ys (fit_parts x xs f).after (fit_parts y ys g).after)
  where
    at : (a b : Bool) → is_last_hash x xs ≡ a → is_last_hash y ys ≡ b
        → fit_if_any (met_levels xs ys) ≡ true
        → fit_if_any (cond a (Some (y ∷ ys)) (cond b (Some (x ∷ xs))
        (behind (met_level x y) (met_levels xs ys)))) ≡ true
    at true b e h rest = g
    at false true e h rest = f
    at false false e h rest = met_level_by (λ o. fit_if_any (behind o (met_levels xs ys)) ≡ true)
        x y refl (behind_fit x xs (met_levels xs ys) f e rest)
        (behind_fit y ys (met_levels xs ys) g h rest)

behind_short : (x : List ℕ) (t : Option (List (List ℕ))) → is_long x ≡ false
    → long_if_any t ≡ false → long_if_any (behind (Some x) t) ≡ false
behind_short x None f g = refl
behind_short x (Some ls) f g = or_from _ _ f g

end_short : (b : Bool) → long_if_any (cond b (Some []) None) ≡ false
end_short true = refl
end_short false = refl

pub met_short : (xs ys : List (List ℕ)) → has_long xs ≡ false → has_long ys ≡ false
    → long_if_any (met_levels xs ys) ≡ false
met_short [] [] f g = refl
met_short [] (y ∷ ys) f g = end_short (is_last_hash y ys)
met_short (x ∷ xs) [] f g = end_short (is_last_hash x xs)
met_short (x ∷ xs) (y ∷ ys) f g =
    let left = or_parts _ _ f in
    let right = or_parts _ _ g in
    at (is_last_hash x xs) (is_last_hash y ys)
    (met_level_by (λ o. long_if_any (behind o (met_levels xs ys)) ≡ false) x y refl
    (behind_short x (met_levels xs ys) left.0 (met_short xs ys left.1 right.1))
    (behind_short y (met_levels xs ys) right.0 (met_short xs ys left.1 right.1)))
  where
    at : (a b : Bool) → long_if_any (behind (met_level x y) (met_levels xs ys)) ≡ false
        → long_if_any (cond a (Some (y ∷ ys)) (cond b (Some (x ∷ xs))
        (behind (met_level x y) (met_levels xs ys)))) ≡ false
    at true b rest = g
    at false true rest = f
    at false false rest = rest
