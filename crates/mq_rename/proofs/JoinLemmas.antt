-- Texts that are made of levels.
use Rattle.std.proofs.Common.{◌≡◌, ◌==◌, ℕ, ◌*◌, ◌≤◌, ◌<◌, true, false, not, List, [], ◌∷◌, ◌++◌}
use Rattle.std.proofs.Common.{length, Bor, refl, ap, arith, append-nil, length-append}
use Rattle.std.specs.List.{join_by, join_with_byte}
use Rattle.std.proofs.lemmas.Bool.{and_parts, or_parts, not-true, ltb-false}
use Rattle.std.proofs.lemmas.List.Folds.{list_any-append}
use Rattle.mq_topic.specs.Levels.{levels}
use Rattle.mq_topic.specs.Texts.{contains_byte}
use Rattle.mq_rename.specs.Lists.{has_long, is_long, texts}
use Rattle.mq_rename.proofs.FitLemmas.{all_lack}

abbrev pub joined : List (List ℕ) → List ℕ
joined ls = join_with_byte 47 ls

-- what `join` makes of levels
pub joined_is : (ls : List (Bor (List ℕ)))
    → join_by (λ l. l.now) (47 ∷ []) ls ≡ joined (texts ls)
joined_is [] = refl
joined_is (l ∷ []) = append-nil l.now
joined_is (l ∷ m ∷ ms) = ap (λ t. l.now ++ (47 ∷ t)) (joined_is (m ∷ ms))

levels_last : (l : List ℕ) → contains_byte 47 l ≡ false → levels l ≡ l ∷ []
levels_last [] h = refl
levels_last (x ∷ xs) h = grind (arith, levels_last xs, or_parts)

levels_first : (l more : List ℕ) → contains_byte 47 l ≡ false
    → levels (l ++ (47 ∷ more)) ≡ l ∷ levels more
levels_first [] more h = refl
levels_first (x ∷ xs) more h = grind (arith, levels_first xs more, or_parts)

-- levels without a slash are those of the text that they make
pub levels-joined : (l : List ℕ) (ls : List (List ℕ)) → all_lack 47 (l ∷ ls) ≡ true
    → levels (joined (l ∷ ls)) ≡ l ∷ ls
levels-joined l [] h = grind (arith, levels_last, not-true, and_parts, all_lack)
levels-joined l (m ∷ ms) h = grind (arith, levels-joined m ms, all_lack, levels_first)

-- a byte that no level has the text hasn't, unless it is a slash
pub joined_lacks : (b : ℕ) (ls : List (List ℕ)) → (47 == b) ≡ false → all_lack b ls ≡ true
    → contains_byte b (joined ls) ≡ false
joined_lacks b [] n h = refl
joined_lacks b (l ∷ []) n h =
    not-true (contains_byte b l) (and_parts (not (contains_byte b l)) (all_lack b []) h).0
joined_lacks b (l ∷ m ∷ ms) n h =
    grind (arith, joined_lacks b (m ∷ ms) n, all_lack, list_any-append)

-- short levels make a short text
pub joined_short : (ls : List (List ℕ)) → has_long ls ≡ false
    → length (joined ls) ≤ 301 * length ls
joined_short [] h = omega arith
joined_short (l ∷ []) h =
    let short = ltb-false 300 (length l) (or_parts (is_long l) (has_long []) h).0 in omega arith
joined_short (l ∷ m ∷ ms) h =
    let parts = or_parts (is_long l) (has_long (m ∷ ms)) h in
    let short = ltb-false 300 (length l) parts.0 in
    let more = joined_short (m ∷ ms) parts.1 in
    let size = length-append l (47 ∷ joined (m ∷ ms)) in
    omega arith

-- two levels make a text that isn't empty
pub joined_some : (l m : List ℕ) (ms : List (List ℕ)) → 0 < length (joined (l ∷ m ∷ ms))
joined_some l m ms = let size = length-append l (47 ∷ joined (m ∷ ms)) in omega arith
