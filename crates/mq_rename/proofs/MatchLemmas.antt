-- Lists of levels against those of names.
use Rattle.std.proofs.Common.{arith, ◌≡◌, ◌==◌, ℕ, Bool, true, false, not, ◌&&◌, ◌||◌, List, []}
use Rattle.std.proofs.Common.{◌∷◌, length, refl, ap, sym, ◌∙◌, inl, inr}
use Rattle.std.specs.Prelude.{codes, slice_index}
use Rattle.std.specs.Str.{bytes_eq}
use Rattle.std.proofs.lemmas.Bool.{and_parts, and_right, false_from_ne_true, not-true, or_cases}
use Rattle.std.proofs.lemmas.Bool.{or_parts}
use Rattle.mq_topic.specs.Matching.{is_hidden, is_wildcard, level_matches, matches}
use Rattle.mq_topic.proofs.ByteLemmas.{text_is}
use Rattle.mq_topic.proofs.Walk.{levels_match_cons, levels_match_end, walk_hash}
use Rattle.mq_rename.specs.Lists.{is_hash, is_last_hash, is_plus, levels_match}

-- a last `#` matches whatever is left
pub match_hash : (w : List ℕ) (ws ls : List (List ℕ)) → is_last_hash w ws ≡ true
    → levels_match (w ∷ ws) ls ≡ true
match_hash w ws ls e =
    sym (walk_hash level_matches w ws (w ∷ ws) ls true _ refl e refl refl)

-- any other level is matched by the first one, and those behind it by the others
pub match_cons : (w l : List ℕ) (ws ls : List (List ℕ)) → is_last_hash w ws ≡ false
    → levels_match (w ∷ ws) (l ∷ ls) ≡ (level_matches w l && levels_match ws ls)
match_cons w l ws ls e = levels_match_cons level_matches w l ws ls e

pub match_end : (w : List ℕ) (ws : List (List ℕ)) → is_last_hash w ws ≡ false
    → levels_match (w ∷ ws) [] ≡ false
match_end w ws e = levels_match_end level_matches w ws e

-- a level begins with `$`
abbrev pub has_dollar : List ℕ → Bool
has_dollar l = slice_index l 0 == 36

-- a level that begins with `$` is no wildcard
pub dollar_is_text : (l : List ℕ) → has_dollar l ≡ true → is_wildcard l ≡ false
dollar_is_text l d = false_from_ne_true (is_wildcard l) (λ w. elim (or_cases _ _ w) [
  | inl e ↦ let k : false ≡ true = sym (ap has_dollar (text_is l (codes "+") e)) ∙ d in cc
  | inr e ↦ let k : false ≡ true = sym (ap has_dollar (text_is l (codes "#") e)) ∙ d in cc
])

-- what is no wildcard is neither
pub no_plus : (l : List ℕ) → is_wildcard l ≡ false → is_plus l ≡ false
no_plus l e = (or_parts (bytes_eq l (codes "+")) (bytes_eq l (codes "#")) e).0

pub no_hash : (l : List ℕ) → is_wildcard l ≡ false → is_hash l ≡ false
no_hash l e = (or_parts (bytes_eq l (codes "+")) (bytes_eq l (codes "#")) e).1

-- a level that is no wildcard matches itself alone
pub only_itself : (w l : List ℕ) → is_plus w ≡ false → level_matches w l ≡ true → w ≡ l
only_itself w l p e = text_is w l (sym (ap (λ b. b || bytes_eq w l) p) ∙ e)

-- filters that begin with a level of their own match names that begin with it
pub front_is : (w l : List ℕ) (ws ls : List (List ℕ)) → is_wildcard w ≡ false
    → levels_match (w ∷ ws) (l ∷ ls) ≡ true → w ≡ l
front_is w l ws ls e m = grind (arith, no_hash, only_itself, no_plus, and_parts, match_cons)

-- a name that is matched is not hidden, and its levels match
pub matches_parts : (fs ns : List (List ℕ)) → matches fs ns ≡ true
    → (is_hidden fs ns ≡ false) × (levels_match fs ns ≡ true)
matches_parts fs ns h = grind (arith, and_parts, not-true)

-- what doesn't match level by level doesn't match
pub matches_not : (fs ns : List (List ℕ)) → levels_match fs ns ≡ false → matches fs ns ≡ false
matches_not fs ns e = and_right (not (length ns == 0) && not (is_hidden fs ns)) _ e
