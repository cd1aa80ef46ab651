-- `%u` in a filter whose marks are whole levels.
use Rattle.std.proofs.Common.{◌≡◌, ◌==◌, ℕ, Bool, false, true, ◌&&◌, List, [], ◌∷◌, bytes_eq, codes}
use Rattle.std.proofs.Common.{refl, ap, ◌∙◌, arith, nat_eq}
use Rattle.std.specs.List.{list_all, list_any, starts_with}
use Rattle.mq_topic.proofs.ByteLemmas.{text_is}
use Rattle.mq_topic.proofs.Walk.{levels-nonempty}
use Rattle.mq_topic.specs.Levels.{levels}
use Rattle.mq_acl.specs.Lines.{is_pattern_level}
use Rattle.mq_acl.specs.Words.{occurs_in}

-- a text of two bytes occurs in a filter just where it does in a level
module _ (b : ℕ) (slash : (b == 47) ≡ false) where
  abbrev mark : List ℕ
  mark = 37 ∷ b ∷ []

  abbrev second : List ℕ → Bool
  second [] = false
  second (y ∷ ys) = nat_eq b y && true

  starts : (x : ℕ) (xs : List ℕ) → starts_with nat_eq (x ∷ xs) mark ≡ (nat_eq 37 x && second xs)
  starts x [] = refl
  starts x (y ∷ ys) = refl

  abbrev head : List (List ℕ) → List ℕ
  head [] = []
  head (l ∷ ls) = l

  same_second : (xs : List ℕ) → second (head (levels xs)) ≡ second xs
  same_second [] = refl
  same_second (y ∷ ys) = grind (arith, levels-nonempty)

  pub occurs_levels : (text : List ℕ)
      → occurs_in mark text ≡ list_any (occurs_in mark) (levels text)
  occurs_levels [] = refl
  occurs_levels (x ∷ xs) =
      grind (arith, occurs_levels xs, starts, same_second, levels-nonempty)

mark_occurs : (w : List ℕ) → bytes_eq w (codes "%u") ≡ true → occurs_in (codes "%u") w ≡ true
mark_occurs w e = ap (occurs_in (codes "%u")) (text_is w (codes "%u") e)

other_mark : (w : List ℕ) → bytes_eq w (codes "%c") ≡ true → occurs_in (codes "%u") w ≡ false
other_mark w e = ap (occurs_in (codes "%u")) (text_is w (codes "%c") e)

user_marks : (ws : List (List ℕ)) → list_all is_pattern_level ws ≡ true
    → list_any (occurs_in (codes "%u")) ws ≡ list_any (λ w. bytes_eq w (codes "%u")) ws
user_marks [] h = refl
user_marks (w ∷ ws) h = grind (arith, user_marks ws, mark_occurs, other_mark)

-- where each mark is a whole level, `%u` occurs in a filter just where it is a level
pub user_occurs : (filter : List ℕ) → list_all is_pattern_level (levels filter) ≡ true
    → occurs_in (codes "%u") filter ≡ list_any (λ w. bytes_eq w (codes "%u")) (levels filter)
user_occurs filter whole = occurs_levels 117 refl filter ∙ user_marks (levels filter) whole
