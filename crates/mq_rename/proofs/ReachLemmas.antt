-- The filter of a list of levels, and names that are too short to be known from the list.
use Rattle.std.proofs.Common.{◌≡◌, ◌==◌, ℕ, ◌<◌, ◌≤◌, Bool, true, false, not, ◌&&◌, ◌||◌, List, []}
use Rattle.std.proofs.Common.{◌∷◌, length, take, refl, ap, sym, ◌∙◌, arith, zero, suc, length-take}
use Rattle.std.specs.Prelude.{nat_le}
use Rattle.std.specs.Str.{bytes_eq}
use Rattle.std.proofs.Math.Bool.{and-false, and-true}
use Rattle.std.proofs.Math.Dec.{eqb-suc-zero}
use Rattle.std.proofs.lemmas.Bool.{and_parts, cond_both, eqb-true, eq-eqb, le-leb, leb-true, lt-ltb}
use Rattle.std.proofs.lemmas.Bool.{ltb-true, or_from, or_parts, or_right, true_from_ne_false}
use Rattle.std.proofs.lemmas.List.Splits.{join_with_byte-slice_split}
use Rattle.mq_topic.specs.Levels.{levels}
use Rattle.mq_topic.specs.Matching.{is_hidden, level_at, matches}
use Rattle.mq_topic.specs.Texts.{contains_byte, is_filter, is_name, is_plain, is_text}
use Rattle.mq_topic.proofs.ByteLemmas.{text_is}
use Rattle.mq_topic.proofs.Walk.{levels-nonempty}
use Rattle.mq_rename.specs.Joins.{within_reach}
use Rattle.mq_rename.specs.Lists.{are_fit, has_long, is_hash, is_last_hash, levels_match}
use Rattle.mq_rename.proofs.FitLemmas.{fit_from, fit_nul, fit_parts, fit_slash, fit_wildcards}
use Rattle.mq_rename.proofs.FitLemmas.{inner_is_not, no_last}
use Rattle.mq_rename.proofs.JoinLemmas.{joined, joined_lacks, joined_short, joined_some}
use Rattle.mq_rename.proofs.JoinLemmas.{levels-joined}
use Rattle.mq_rename.proofs.MatchLemmas.{match_cons, match_end, match_hash, matches_not}

-- ---- names
pub name_few : (n : List ℕ) → is_name n ≡ true → length (levels n) ≤ 200
name_few n h = leb-true (length (levels n)) 200
    (and_parts (is_text n && is_plain n) (nat_le (length (levels n)) 200) h).1

pub name_some : (n : List ℕ) → is_name n ≡ true → 0 < length n
name_some n h = grind (arith, and_parts, ltb-true)

-- ---- a `#` behind as many levels as a name has
pub last_is_long : (x : List ℕ) (xs : List (List ℕ)) → 0 < length xs → is_last_hash x xs ≡ false
last_is_long x [] h = absurd (omega arith)
last_is_long x (y ∷ xs) h = ap (λ b. is_hash x && b) (eqb-suc-zero (length xs))
    ∙ and-false (is_hash x)

reach_match : (k : ℕ) (ls n : List (List ℕ)) → length ls ≡ suc k → is_hash (level_at ls k) ≡ true
    → are_fit ls ≡ true → length n ≤ k → levels_match (take k ls) n ≡ levels_match ls n
reach_match k [] n e h f s = absurd (omega arith)
reach_match zero (x ∷ xs) (m ∷ ms) e h f s = absurd (omega arith)
reach_match zero (x ∷ []) [] e h f s = sym (match_hash x [] [] (and-true (is_hash x) ∙ h))
reach_match zero (x ∷ y ∷ xs) [] e h f s = absurd (omega arith)
reach_match (suc k) (x ∷ xs) [] e h f s =
    grind (arith, last_is_long, match_end, no_last, inner_is_not)
reach_match (suc k) (x ∷ xs) (m ∷ ms) e h f s =
    grind (arith, reach_match k xs ms, last_is_long, match_cons, no_last, inner_is_not, fit_parts)

reach_matches : (k : ℕ) (ls n : List (List ℕ)) → length ls ≡ suc (suc k)
    → is_hash (level_at ls (suc k)) ≡ true → are_fit ls ≡ true → length n ≤ suc k
    → matches (take (suc k) ls) n ≡ matches ls n
reach_matches k [] n e h f s = absurd (omega arith)
reach_matches k (x ∷ xs) n e h f s =
    ap (λ b. not (length n == 0) && not (is_hidden (x ∷ xs) n) && b)
    (reach_match (suc k) (x ∷ xs) n e h f s)

none_taken : (k : ℕ) (ls : List (List ℕ)) → length ls ≡ 0 → length (take k ls) ≡ 0
none_taken k ls h = omega (arith, length-take k ls)

fit_take : (k : ℕ) (ls : List (List ℕ)) → are_fit ls ≡ true → are_fit (take k ls) ≡ true
fit_take zero ls f = refl
fit_take (suc k) [] f = refl
fit_take (suc k) (x ∷ []) f =
    let is = fit_parts x [] f in
    fit_from x (take k []) (record {
      nul = is.nul;
      slash = is.slash;
      level = is.level;
      hash = ap (λ l. l == 0 || not (contains_byte 35 x)) (none_taken k [] refl);
      after = fit_take k [] refl;
    })
fit_take (suc k) (x ∷ y ∷ xs) f =
    let is = fit_parts x (y ∷ xs) f in
    fit_from x (take k (y ∷ xs)) (record {
      nul = is.nul;
      slash = is.slash;
      level = is.level;
      hash = or_right (length (take k (y ∷ xs)) == 0) _
          (sym (ap (λ b. b || not (contains_byte 35 x)) (eqb-suc-zero (length xs))) ∙ is.hash);
      after = fit_take k (y ∷ xs) is.after;
    })

short_take : (k : ℕ) (ls : List (List ℕ)) → has_long ls ≡ false → has_long (take k ls) ≡ false
short_take zero ls f = refl
short_take (suc k) [] f = refl
short_take (suc k) (x ∷ xs) f = grind (arith, short_take k xs, or_parts, or_from)

-- what is kept of levels
pub record IsKept (ls kept : List (List ℕ)) : Type 0 where
  pub same : (n : List (List ℕ)) → length n ≤ 200 → matches kept n ≡ matches ls n
  pub fit : are_fit kept ≡ true
  pub short : has_long ls ≡ false → has_long kept ≡ false
  pub last : length kept ≡ 201 → is_hash (level_at kept 200) ≡ false

pub within_reach_kept : (ls : List (List ℕ)) → are_fit ls ≡ true → IsKept ls (within_reach ls)
within_reach_kept ls f =
    cond_both ((length ls == 201) && is_hash (level_at ls 200)) (take 200 ls) ls (IsKept ls)
    (λ e.
    let both = and_parts (length ls == 201) _ e in
    let size = eqb-true (length ls) 201 both.0 in
    record {
      same = λ n s. reach_matches 199 ls n size both.1 f s;
      fit = fit_take 200 ls f;
      short = λ h. short_take 200 ls h;
      last = λ h. absurd (omega (arith, length-take 200 ls));
    })
    (λ e. record {
      same = λ n s. refl;
      fit = f;
      short = λ h. h;
      last = λ h. off (length ls == 201) _ e (eq-eqb (length ls) 201 h);
    })
  where
    off : (a b : Bool) → (a && b) ≡ false → a ≡ true → b ≡ false
    off a b e h = grind arith

-- a filter that wants more levels than a name has matches none
too_deep : (k : ℕ) (ls n : List (List ℕ)) → are_fit ls ≡ true → length n ≤ k → k < length ls
    → (length ls ≡ suc k → is_hash (level_at ls k) ≡ false) → levels_match ls n ≡ false
too_deep k [] n f s more last = absurd (omega arith)
too_deep zero (x ∷ []) [] f s more last = match_end x [] (no_last x [] (last refl))
too_deep zero (x ∷ y ∷ xs) [] f s more last =
    match_end x (y ∷ xs) (last_is_long x (y ∷ xs) (omega arith))
too_deep zero (x ∷ xs) (m ∷ ms) f s more last = absurd (omega arith)
too_deep (suc k) (x ∷ xs) [] f s more last =
    match_end x xs (last_is_long x xs (omega arith))
too_deep (suc k) (x ∷ xs) (m ∷ ms) f s more last =
    grind (arith, too_deep k xs ms, match_cons, last_is_long, fit_parts)

pub none_that_deep : (ls kept : List (List ℕ)) → IsKept ls kept → 200 < length kept
    → (n : List ℕ) → is_name n ≡ true → matches ls (levels n) ≡ false
none_that_deep ls kept is more n h =
    let few = name_few n h in
    sym (is.same (levels n) few)
    ∙ matches_not kept (levels n) (too_deep 200 kept (levels n) is.fit few more is.last)

-- ---- no name has the empty text
empty_match : (ls : List (List ℕ)) → length (joined ls) ≡ 0 → (n : List ℕ)
    (ns : List (List ℕ)) → levels n ≡ ns → 0 < length n → levels_match ls ns ≡ false
empty_match ls e n [] is some =
    absurd (let more = levels-nonempty n in let none = ap length is in omega arith)
empty_match [] e n (m ∷ ms) is some = refl
empty_match (l ∷ k ∷ ls) e n ns is some = absurd (let h = joined_some l k ls in omega arith)
empty_match ((x ∷ xs) ∷ []) e n (m ∷ ms) is some = absurd (omega arith)
empty_match ([] ∷ []) e n (m ∷ ms) is some =
    match_cons [] m [] ms refl ∙ at (bytes_eq [] m) (levels_match [] ms) refl refl
  where
    alone : (u : List ℕ) (us : List (List ℕ)) → [] ≡ u → levels_match [] us ≡ true
        → u ∷ us ≡ [] ∷ []
    alone u [] e f = ap (λ t. t ∷ []) (sym e)
    alone u (w ∷ ws) e f = absurd (let k : false ≡ true = f in cc)

    at : (a b : Bool) → bytes_eq [] m ≡ a → levels_match [] ms ≡ b → (a && b) ≡ false
    at false b f g = refl
    at true false f g = refl
    at true true f g =
        let text : n ≡ [] = sym (join_with_byte-slice_split 47 n)
        ∙ ap joined (is ∙ alone m ms (text_is [] m f) g) in
        absurd (let none = ap length text in omega arith)

pub none_without_text : (ls kept : List (List ℕ)) → IsKept ls kept → length (joined kept) ≡ 0
    → (n : List ℕ) → is_name n ≡ true → matches ls (levels n) ≡ false
none_without_text ls kept is e n h = grind (arith, name_few, matches_not, empty_match, name_some)

-- ---- the text of levels
pub levels_of_text : (ls : List (List ℕ)) → are_fit ls ≡ true → 0 < length (joined ls)
    → levels (joined ls) ≡ ls
levels_of_text [] f h = absurd (omega arith)
levels_of_text (l ∷ ls) f h = levels-joined l ls (fit_slash (l ∷ ls) f)

-- it is a filter's, if it is short enough
text_is_filter : (ls : List (List ℕ)) → are_fit ls ≡ true → 0 < length (joined ls)
    → length ls ≤ 200 → length (joined ls) ≤ 65535 → is_filter (joined ls) ≡ true
text_is_filter ls f some few short =
    grind (arith, levels_of_text, lt-ltb, le-leb, joined_lacks, fit_nul, fit_wildcards)

-- a text that is no filter has a long level
pub no_filter_is_long : (ls : List (List ℕ)) → are_fit ls ≡ true → 0 < length (joined ls)
    → length ls ≤ 200 → is_filter (joined ls) ≡ false → has_long ls ≡ true
no_filter_is_long ls f some few bad = grind (arith, joined_short, text_is_filter)

-- what is long in what is kept is so in all
pub kept_long : (ls kept : List (List ℕ)) → IsKept ls kept → has_long kept ≡ true
    → has_long ls ≡ true
kept_long ls kept is h = true_from_ne_false _ (λ e.
    let k : false ≡ true = sym (is.short e) ∙ h in cc)
