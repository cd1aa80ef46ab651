-- Filters that cover no name in common.
use Rattle.std.proofs.Common.{◌≡◌, ℕ, ◌==◌, Bool, true, false, ◌&&◌, List, [], ◌∷◌, length, codes}
use Rattle.std.proofs.Common.{bytes_eq, ap, sym, ◌∙◌, arith}
use Rattle.std.proofs.lemmas.Bool.{and_left, and_parts, and_right, false_from_ne_true}
use Rattle.mq_topic.proofs.ByteLemmas.{text_is, text_itself}
use Rattle.mq_topic.proofs.Walk.{levels_match_end}
use Rattle.mq_topic.specs.Matching.{levels_match_by}
use Rattle.mq_cover.specs.Remainders.{MarkLevels, passes}
use Rattle.mq_cover.proofs.RemainderLemmas.{covers_cons}
use Rattle.mq_witness.specs.Overlaps.{is_loose}

-- no name is covered by both
abbrev pub AreApart : (p q : Bool) → MarkLevels → (ws vs : List (List ℕ)) → Type 0
AreApart p q marks ws vs = (ls : List (List ℕ)) → levels_match_by (passes p marks) ws ls ≡ true
    → levels_match_by (passes q marks) vs ls ≡ false

-- a level that isn't loose is passed by itself alone
only_itself : (pattern : Bool) (marks : MarkLevels) (w l : List ℕ) → is_loose pattern w ≡ false
    → passes pattern marks w l ≡ bytes_eq w l
only_itself pattern marks w l h = grind arith

module _ (p q : Bool) (marks : MarkLevels) where
  -- where what is left behind two levels is apart
  pub apart_behind : (w v : List ℕ) (ws vs : List (List ℕ))
      → (bytes_eq w (codes "#") && (length ws == 0)) ≡ false
      → (bytes_eq v (codes "#") && (length vs == 0)) ≡ false
      → AreApart p q marks ws vs → AreApart p q marks (w ∷ ws) (v ∷ vs)
  apart_behind w v ws vs e g apart [] m =
      absurd (let n : false ≡ true = sym (levels_match_end (passes p marks) w ws e) ∙ m in cc)
  apart_behind w v ws vs e g apart (l ∷ ls) m =
      covers_cons (passes q marks) v l vs ls g
      ∙ and_right (passes q marks v l) _
      (apart ls (and_parts (passes p marks w l) _
      (sym (covers_cons (passes p marks) w l ws ls e) ∙ m)).1)

  -- where both want one level, and not the same
  pub apart_here : (w v : List ℕ) (ws vs : List (List ℕ))
      → (bytes_eq w (codes "#") && (length ws == 0)) ≡ false
      → (bytes_eq v (codes "#") && (length vs == 0)) ≡ false
      → is_loose p w ≡ false → is_loose q v ≡ false → bytes_eq w v ≡ false
      → AreApart p q marks (w ∷ ws) (v ∷ vs)
  apart_here w v ws vs e g a b differ [] m =
      absurd (let n : false ≡ true = sym (levels_match_end (passes p marks) w ws e) ∙ m in cc)
  apart_here w v ws vs e g a b differ (l ∷ ls) m =
      let first = sym (only_itself p marks w l a) ∙ (and_parts (passes p marks w l) _
      (sym (covers_cons (passes p marks) w l ws ls e) ∙ m)).0 in
      covers_cons (passes q marks) v l vs ls g
      ∙ and_left _ _ (only_itself q marks v l b ∙ false_from_ne_true _ (λ k.
      let n : true ≡ false =
      sym (ap (bytes_eq w) (text_is v l k ∙ sym (text_is w l first)) ∙ text_itself w) ∙ differ in
      cc))

  -- what is apart by its levels is apart
  pub apart_at : (fs gs ws vs : List (List ℕ)) → fs ≡ ws → gs ≡ vs → AreApart p q marks ws vs
      → AreApart p q marks fs gs
  apart_at fs gs ws vs e g apart ls m = ap (λ k. levels_match_by (passes q marks) k ls) g
      ∙ apart ls (sym (ap (λ k. levels_match_by (passes p marks) k ls) e) ∙ m)
