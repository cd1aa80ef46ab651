-- The levels of names.
use Rattle.std.proofs.Common.{◌≡◌, ℕ, ◌==◌, true, false, not, ◌&&◌, List, [], ◌∷◌, length}
use Rattle.std.proofs.Common.{bytes_eq, refl, arith}
use Rattle.std.proofs.lemmas.Bool.{and_parts}
use Rattle.std.proofs.lemmas.Bool.Decides.{nat_tests}
use Rattle.mq_acl.specs.Access.{begins_with_dollar}
use Rattle.mq_cover.specs.Names.{suits, is_name_level, is_choice}
use Rattle.mq_cover.specs.declared.others.Others.{Others}
use Rattle.mq_cover.specs.declared.start.Start.TheVariants.{Inside}

-- inside a name any levels suit
pub suits_inside : (ls : List (List ℕ)) → suits Inside ls ≡ true
suits_inside [] = refl
suits_inside (l ∷ ls) = suits_inside ls

-- a level that begins with `$` has a byte
pub no_dollar : (text : List ℕ) → begins_with_dollar text ≡ true → (length text == 0) ≡ false
no_dollar [] e = absurd (let f : false ≡ true = e in cc)
no_dollar (x ∷ xs) e = grind (arith, nat_tests)

-- a level that may be chosen is a level of a name
pub choice_is_level : (others : Others) (l : List ℕ) → is_choice others l ≡ true
    → is_name_level l ≡ true
choice_is_level others l h =
    (and_parts (is_name_level l) (not (bytes_eq l others.plain.now))
    (and_parts (is_name_level l && not (bytes_eq l others.plain.now))
    (not (bytes_eq l others.dollar.now)) h).0).0
