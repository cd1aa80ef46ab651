-- Which levels of the left side those of the right one stand for.
use Rattle.std.proofs.Common.{◌≡◌, ◌+◌, ◌≤◌, cond, ℕ, List, []}
use Rattle.std.proofs.Common.{◌∷◌, ◌++◌, length, map, take, ap, sym, ◌∙◌, arith}
use Rattle.std.proofs.Common.{append_assoc, append-nil, length-append}
use Rattle.std.specs.List.{enumerate_from}
use Rattle.std.proofs.Math.Seq.{take-append_seam}
use Rattle.std.proofs.lemmas.List.{map-append}
use Rattle.std.proofs.lemmas.List.Sums.{count_by-le-length, sum_by-append}
use Rattle.mq_rename.specs.Lists.{is_plus}
use Rattle.mq_plan.specs.Pairs.{place_of, placed_at, places, plus_count}
use Rattle.mq_plan.proofs.LoopLemmas.{enumerate_from-append}

-- the places are known of the levels before the rest, of which so many are `+`
pub record ArePlaced (left right rest : List (List ℕ)) (all : List ℕ) (before : ℕ) : Type 0 where
  pub done : List (List ℕ)
  pub parts : done ++ rest ≡ right
  pub count : before ≡ plus_count done
  pub placed : all ≡ map (placed_at left right) (enumerate_from 0 done)

plus_on : (done : List (List ℕ)) (level : List ℕ)
    → plus_count (done ++ level ∷ []) ≡ plus_count done + cond (is_plus level) 1 0
plus_on done level =
    let e = sum_by-append (λ l. cond (is_plus l) 1 0) done (level ∷ []) in omega (arith, e)

-- one more
pub placed_on : (left right rest after : List (List ℕ)) (level : List ℕ) (all : List ℕ)
    (before place next : ℕ) → ArePlaced left right rest all before → rest ≡ level ∷ after
    → place ≡ place_of left before level → next ≡ before + cond (is_plus level) 1 0
    → ArePlaced left right after (all ++ place ∷ []) next
placed_on left right rest after level all before place next is cut at more =
    let whole : is.done ++ level ∷ after ≡ right = ap (λ r. is.done ++ r) (sym cut) ∙ is.parts in
    let front : take (length is.done) right ≡ is.done =
    ap (take (length is.done)) (sym whole) ∙ take-append_seam is.done (level ∷ after) in
    let same : place ≡ placed_at left right (length is.done, level) =
    at ∙ ap (λ k. place_of left k level) (is.count ∙ ap plus_count (sym front)) in
    record {
      done = is.done ++ level ∷ [];
      parts = append_assoc is.done (level ∷ []) after ∙ whole;
      count = more ∙ ap (λ k. k + cond (is_plus level) 1 0) is.count
          ∙ sym (plus_on is.done level);
      placed = (λ i. is.placed i ++ same i ∷ [])
          ∙ sym (map-append (placed_at left right) (enumerate_from 0 is.done)
          ((length is.done, level) ∷ []))
          ∙ ap (map (placed_at left right)) (sym (enumerate_from-append 0 is.done (level ∷ [])
          ∙ ap (λ k. enumerate_from 0 is.done ++ (k, level) ∷ [])
          (let e : 0 + length is.done ≡ length is.done = omega arith in e)));
    }

pub placed_all : (left right rest : List (List ℕ)) (all : List ℕ) (before : ℕ)
    → ArePlaced left right rest all before → rest ≡ [] → all ≡ places left right
placed_all left right rest all before is cut =
    is.placed ∙ ap (λ ls. map (placed_at left right) (enumerate_from 0 ls))
    (sym (append-nil is.done) ∙ ap (λ r. is.done ++ r) (sym cut) ∙ is.parts)

-- so many `+` are among the levels
pub placed_few : (left right rest : List (List ℕ)) (all : List ℕ) (before : ℕ)
    → ArePlaced left right rest all before → before + length rest ≤ length right
placed_few left right rest all before is =
    let parts = ap length is.parts in
    let both = length-append is.done rest in
    let count = is.count in
    let few = count_by-le-length is_plus is.done in
    omega (arith, few)
