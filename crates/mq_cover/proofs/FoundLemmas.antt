-- The walk.
use Rattle.std.proofs.Common.{◌≡◌, ℕ, ◌==◌, Bool, true, false, not, ◌&&◌, ◌||◌, List, [], ◌∷◌}
use Rattle.std.proofs.Common.{length, codes, refl, ap, sym, ◌∙◌, bytes_eq, arith, ◌≤◌, ◌-◌}
use Rattle.std.specs.List.{list_all, list_any}
use Rattle.std.proofs.lemmas.Bool.{and_parts, or_left, or_right}
use Rattle.std.proofs.Math.Bool.{and-false}
use Rattle.mq_topic.specs.Levels.{levels_left}
use Rattle.mq_topic.specs.Matching.{levels_match_by}
use Rattle.mq_topic.proofs.Walk.{levels_match_end}
use Rattle.mq_cover.specs.Remainders.{MarkLevels, no_marks, passes, covers, hits, remainders_fit}
use Rattle.mq_cover.specs.Remainders.{FindsNothing, IsFound}
use Rattle.mq_cover.specs.Names.{fits_start, behind, ends, suits, is_choice}
use Rattle.mq_cover.specs.Choices.{IsBest}
use Rattle.mq_cover.specs.Ends.{is_hash, is_open}
use Rattle.mq_cover.specs.declared.remainder.Remainder.{Remainder}
use Rattle.mq_cover.specs.declared.others.Others.{Others}
use Rattle.mq_cover.specs.declared.start.Start.{Start}
use Rattle.mq_cover.proofs.RemainderLemmas.{covers_hash}
use Rattle.mq_cover.proofs.TextLemmas.{or_cases}

-- ---- where a name ends
-- what is left covers a name that ends, whatever the marks stand for
end_by : (test other : List ℕ → List ℕ → Bool) (ws : List (List ℕ))
    → levels_match_by test ws [] ≡ levels_match_by other ws []
end_by test other [] = refl
end_by test other (w ∷ ws) = at (bytes_eq w (codes "#") && (length ws == 0)) refl
  where
    at : (b : Bool) → (bytes_eq w (codes "#") && (length ws == 0)) ≡ b
        → levels_match_by test (w ∷ ws) [] ≡ levels_match_by other (w ∷ ws) []
    at true h = covers_hash test w ws [] h ∙ sym (covers_hash other w ws [] h)
    at false h = levels_match_end test w ws h ∙ sym (levels_match_end other w ws h)

covers_end : (marks : MarkLevels) (r : Remainder) → covers marks [] r ≡ covers no_marks [] r
covers_end marks r =
    end_by (passes r.pattern marks) (passes r.pattern no_marks) (levels_left r.rest)

all_end : (marks : MarkLevels) (rs : List Remainder)
    → list_all (covers marks []) rs ≡ list_all (covers no_marks []) rs
all_end marks [] = refl
all_end marks (r ∷ rs) = (λ i. covers_end marks r i && all_end marks rs i)

some_end : (marks : MarkLevels) (rs : List Remainder)
    → list_any (covers marks []) rs ≡ list_any (covers no_marks []) rs
some_end marks [] = refl
some_end marks (r ∷ rs) = (λ i. covers_end marks r i || some_end marks rs i)

-- whether a name that ends here is hit does not depend on the marks
pub hits_end : (marks : MarkLevels) (must cover : List Remainder)
    → hits marks [] must cover ≡ hits no_marks [] must cover
hits_end marks must cover = (λ i. all_end marks must i && not (some_end marks cover i))

-- the name that ends here is found
pub found_here : (marks : MarkLevels) (start : Start) (n : ℕ) (must cover : List Remainder)
    → (ends start && hits no_marks [] must cover) ≡ true → IsFound start n marks must cover []
found_here marks start n must cover h = record {
  suitable = (and_parts (ends start) (hits no_marks [] must cover) h).0;
  few = omega arith;
  hit = hits_end marks must cover ∙ (and_parts (ends start) (hits no_marks [] must cover) h).1;
  valid = refl;
}

-- ---- where nothing is found
no_hit_here : (marks : MarkLevels) (start : Start) (must cover : List Remainder)
    → (ends start && hits no_marks [] must cover) ≡ false → ends start ≡ true
    → hits marks [] must cover ≡ false
no_hit_here marks start must cover none e =
    hits_end marks must cover ∙ sym (ap (λ b. b && hits no_marks [] must cover) e) ∙ none

hash_covers : (test : List ℕ → List ℕ → Bool) (ws ls : List (List ℕ)) → is_hash ws ≡ true
    → levels_match_by test ws ls ≡ true
hash_covers test [] ls h = absurd (let e : false ≡ true = h in cc)
hash_covers test (w ∷ ws) ls h = covers_hash test w ws ls h

open_covers : (marks : MarkLevels) (ls : List (List ℕ)) (rs : List Remainder)
    → list_any is_open rs ≡ true → list_any (covers marks ls) rs ≡ true
open_covers marks ls [] h = h
open_covers marks ls (r ∷ rs) h =
    or_cases (is_open r) (list_any is_open rs) h
    (λ e. or_left (covers marks ls r) (list_any (covers marks ls) rs)
    (hash_covers (passes r.pattern marks) (levels_left r.rest) ls e))
    (λ e. or_right (covers marks ls r) (list_any (covers marks ls) rs)
    (open_covers marks ls rs e))

-- where one that must not cover it covers each name, nothing is found
pub nothing_open : (marks : MarkLevels) (start : Start) (n : ℕ) (must cover : List Remainder)
    → list_any is_open cover ≡ true → FindsNothing start n marks must cover
nothing_open marks start n must cover h ls s k =
    ap (λ b. list_all (covers marks ls) must && not b) (open_covers marks ls cover h)
    ∙ and-false (list_all (covers marks ls) must)

-- where no level may follow, nothing is found if no name that ends here is hit
pub nothing_here : (marks : MarkLevels) (start : Start) (n : ℕ) (must cover : List Remainder)
    → n ≡ 0 → (ends start && hits no_marks [] must cover) ≡ false
    → FindsNothing start n marks must cover
nothing_here marks start n must cover z none [] s h = no_hit_here marks start must cover none s
nothing_here marks start n must cover z none (l ∷ ls) s h = absurd (omega arith)

-- where no name that goes on is covered by all, nothing is found if none that ends here is hit
pub nothing_further : (marks : MarkLevels) (start : Start) (n : ℕ) (must cover : List Remainder)
    → (ends start && hits no_marks [] must cover) ≡ false
    → ((l : List ℕ) (ls : List (List ℕ)) → suits start (l ∷ ls) ≡ true
    → list_all (covers marks (l ∷ ls)) must ≡ false)
    → FindsNothing start n marks must cover
nothing_further marks start n must cover none no_more [] s h =
    no_hit_here marks start must cover none s
nothing_further marks start n must cover none no_more (l ∷ ls) s h =
    ap (λ b. b && not (list_any (covers marks (l ∷ ls)) cover)) (no_more l ls s)

-- where no name that goes on with the best level is hit, nothing is found if none that ends here is
pub nothing_behind : (marks : MarkLevels) (start : Start) (n : ℕ) (others : Others)
    (must cover : List Remainder) (level : List ℕ) → IsBest start marks others must level
    → remainders_fit (is_choice others) cover ≡ true
    → (ends start && hits no_marks [] must cover) ≡ false
    → ((ls : List (List ℕ)) → suits (behind start level) ls ≡ true → length ls ≤ n - 1
    → hits marks (level ∷ ls) must cover ≡ false)
    → FindsNothing start n marks must cover
nothing_behind marks start n others must cover level best fit none there [] s h =
    no_hit_here marks start must cover none s
nothing_behind marks start n others must cover level best fit none there (l ∷ ls) s h =
    at (hits marks (l ∷ ls) must cover) refl
  where
    at : (b : Bool) → hits marks (l ∷ ls) must cover ≡ b → hits marks (l ∷ ls) must cover ≡ false
    at false e = e
    at true e =
        let instead = best.best cover fit l ls s e in
        let rest = (and_parts (fits_start start level) (suits (behind start level) ls) instead.0).1
        in
        absurd (let k : false ≡ true = sym (there ls rest (omega arith)) ∙ instead.1 in cc)
