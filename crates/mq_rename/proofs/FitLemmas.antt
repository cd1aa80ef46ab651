-- Levels that a filter may have.
use Rattle.std.proofs.Common.{◌≡◌, ◌==◌, ℕ, Bool, true, false, not, ◌&&◌, ◌||◌, List, [], ◌∷◌}
use Rattle.std.proofs.Common.{length, refl, ap, sym, ◌∙◌, arith, cond}
use Rattle.std.specs.Prelude.{codes}
use Rattle.std.specs.List.{list_all, onto_first}
use Rattle.std.specs.Str.{bytes_eq}
use Rattle.std.proofs.Math.Dec.{eqb-suc-zero}
use Rattle.std.proofs.lemmas.Bool.{and_parts, and_from, false_from_ne_true, or_right}
use Rattle.mq_topic.specs.Levels.{levels, is_slash}
use Rattle.mq_topic.specs.Texts.{contains_byte, is_level, parents, wildcards_fit, is_filter}
use Rattle.mq_topic.proofs.ByteLemmas.{text_is}
use Rattle.mq_topic.proofs.TextLemmas.{levels_lack}
use Rattle.mq_rename.specs.Lists.{are_fit, is_hash, is_last_hash}

-- no level has this byte
abbrev pub all_lack : ℕ → List (List ℕ) → Bool
all_lack b ls = list_all (λ l. not (contains_byte b l)) ls

-- what is known of the first of such levels
pub record IsFit (l : List ℕ) (ls : List (List ℕ)) : Type 0 where
  pub nul : not (contains_byte 0 l) ≡ true
  pub slash : not (contains_byte 47 l) ≡ true
  pub level : is_level l ≡ true
  pub hash : (length ls == 0 || not (contains_byte 35 l)) ≡ true
  pub after : are_fit ls ≡ true

pub fit_parts : (l : List ℕ) (ls : List (List ℕ)) → are_fit (l ∷ ls) ≡ true → IsFit l ls
fit_parts l ls h =
    let nul = not (contains_byte 0 l) in
    let slash = not (contains_byte 47 l) in
    let last = length ls == 0 || not (contains_byte 35 l) in
    let four = and_parts (nul && slash && is_level l && last) _ h in
    let three = and_parts (nul && slash && is_level l) last four.0 in
    let two = and_parts (nul && slash) (is_level l) three.0 in
    let one = and_parts nul slash two.0 in
    record { nul = one.0; slash = one.1; level = two.1; hash = three.1; after = four.1 }

pub fit_from : (l : List ℕ) (ls : List (List ℕ)) → IsFit l ls → are_fit (l ∷ ls) ≡ true
fit_from l ls h = rw (h.nul, h.slash, h.level, h.hash, h.after) refl

-- a level without `#` is not `#`
pub lacks_hash : (l : List ℕ) → contains_byte 35 l ≡ false → is_hash l ≡ false
lacks_hash l h = false_from_ne_true _ (λ e.
    let k : false ≡ true = sym h ∙ ap (contains_byte 35) (text_is l (codes "#") e) in cc)

-- no level but a last `#` has a `#` in it
pub inner_lacks : (l : List ℕ) (ls : List (List ℕ)) → are_fit (l ∷ ls) ≡ true
    → is_last_hash l ls ≡ false → contains_byte 35 l ≡ false
inner_lacks l ls h e =
    let is = fit_parts l ls h in
    let level = and_parts (not (contains_byte 43 l) || bytes_eq l (codes "+")) _ is.level in
    one (length ls == 0) (contains_byte 35 l) (is_hash l) is.hash level.1 e
  where
    one : (z c s : Bool) → (z || not c) ≡ true → (not c || s) ≡ true → (s && z) ≡ false → c ≡ false
    one z c s a b e = grind arith

pub inner_is_not : (l : List ℕ) (ls : List (List ℕ)) → are_fit (l ∷ ls) ≡ true
    → is_last_hash l ls ≡ false → is_hash l ≡ false
inner_is_not l ls h e = lacks_hash l (inner_lacks l ls h e)

-- a level that is no `#` is no last one
pub no_last : (l : List ℕ) (ls : List (List ℕ)) → is_hash l ≡ false → is_last_hash l ls ≡ false
no_last l ls e = ap (λ b. b && (length ls == 0)) e

-- the levels before the last, one on
pub parents-cons : (l m : List ℕ) (ms : List (List ℕ))
    → parents (l ∷ m ∷ ms) ≡ l ∷ parents (m ∷ ms)
parents-cons l m ms = grind (arith)

-- no piece between slashes has one
slash_onto : (x : ℕ) (ls : List (List ℕ)) → (x == 47) ≡ false → all_lack 47 ls ≡ true
    → all_lack 47 (onto_first x ls) ≡ true
slash_onto x [] n h = rw n refl
slash_onto x (l ∷ ls) n h = rw n h

-- no level has a `/` in it
pub levels_without : (text : List ℕ) → all_lack 47 (levels text) ≡ true
levels_without [] = refl
levels_without (x ∷ xs) = at (is_slash x) refl (levels_without xs)
  where
    at : (b : Bool) → is_slash x ≡ b → all_lack 47 (levels xs) ≡ true
        → all_lack 47 (cond b ([] ∷ levels xs) (onto_first x (levels xs))) ≡ true
    at true e h = h
    at false e h = slash_onto x (levels xs) e h

-- levels that wildcards stand well in
fit_of : (ls : List (List ℕ)) → all_lack 0 ls ≡ true → all_lack 47 ls ≡ true
    → list_all is_level ls ≡ true → all_lack 35 (parents ls) ≡ true → are_fit ls ≡ true
fit_of [] a b c d = refl
fit_of (l ∷ []) a b c d = fit_from l [] (record {
  nul = (and_parts _ _ a).0;
  slash = (and_parts _ _ b).0;
  level = (and_parts _ _ c).0;
  hash = refl;
  after = refl;
})
fit_of (l ∷ m ∷ ms) a b c d =
    let nul = and_parts (not (contains_byte 0 l)) _ a in
    let slash = and_parts (not (contains_byte 47 l)) _ b in
    let level = and_parts (is_level l) _ c in
    let hash = and_parts (not (contains_byte 35 l)) _
    (sym (ap (all_lack 35) (parents-cons l m ms)) ∙ d) in
    fit_from l (m ∷ ms) (record {
      nul = nul.0;
      slash = slash.0;
      level = level.0;
      hash = or_right (length (m ∷ ms) == 0) _ hash.0;
      after = fit_of (m ∷ ms) nul.1 slash.1 level.1 hash.1;
    })

-- the levels of a filter
pub filter_is_fit : (text : List ℕ) → is_filter text ≡ true → are_fit (levels text) ≡ true
filter_is_fit text h = grind (arith, all_lack, fit_of, levels_lack, levels_without)

-- each of them lacks a slash, and NUL
pub fit_slash : (ls : List (List ℕ)) → are_fit ls ≡ true → all_lack 47 ls ≡ true
fit_slash [] h = refl
fit_slash (l ∷ ls) h = let is = fit_parts l ls h in rw (is.slash) (fit_slash ls is.after)

pub fit_nul : (ls : List (List ℕ)) → are_fit ls ≡ true → all_lack 0 ls ≡ true
fit_nul [] h = refl
fit_nul (l ∷ ls) h = let is = fit_parts l ls h in rw (is.nul) (fit_nul ls is.after)

fit_levels : (ls : List (List ℕ)) → are_fit ls ≡ true → list_all is_level ls ≡ true
fit_levels [] h = refl
fit_levels (l ∷ ls) h = let is = fit_parts l ls h in
    and_from (is_level l) (list_all is_level ls) is.level (fit_levels ls is.after)

fit_parents : (ls : List (List ℕ)) → are_fit ls ≡ true → all_lack 35 (parents ls) ≡ true
fit_parents [] h = refl
fit_parents (l ∷ []) h = refl
fit_parents (l ∷ m ∷ ms) h =
    let is = fit_parts l (m ∷ ms) h in
    ap (all_lack 35) (parents-cons l m ms)
    ∙ and_from (not (contains_byte 35 l)) (all_lack 35 (parents (m ∷ ms)))
    (sym (ap (λ b. b || not (contains_byte 35 l)) (eqb-suc-zero (length ms))) ∙ is.hash)
    (fit_parents (m ∷ ms) is.after)

pub fit_wildcards : (ls : List (List ℕ)) → are_fit ls ≡ true → wildcards_fit ls ≡ true
fit_wildcards ls h = and_from (list_all is_level ls) (all_lack 35 (parents ls)) (fit_levels ls h)
    (fit_parents ls h)
