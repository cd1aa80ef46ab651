-- The level to go on with.
use Rattle.std.proofs.Common.{◌≡◌, ℕ, Bool, true, false, not, ◌&&◌, List, [], ◌∷◌}
use Rattle.std.proofs.Common.{length, Option, Some, None, refl, ap, sym, ◌∙◌, bytes_eq}
use Rattle.std.proofs.Common.{subst, ◌<◌, ◌≤◌, ◌+◌, get_or, take, Bor, IfSome, IfNone}
use Rattle.std.specs.List.{list_all, list_any}
use Rattle.std.specs.Option.{unwrap_or}
use Rattle.std.proofs.lemmas.Grind.{take_at_read}
use Rattle.std.proofs.lemmas.List.{take_all}
use Rattle.std.proofs.lemmas.List.Folds.{list_all-append}
use Rattle.std.proofs.lemmas.Bool.{and_parts, and_from}
use Rattle.mq_topic.proofs.ByteLemmas.{text_is}
use Rattle.mq_cover.specs.Remainders.{MarkLevels, covers, hits}
use Rattle.mq_cover.specs.Remainders.{remainders_fit, marks_pass}
use Rattle.mq_cover.specs.Names.{fits_start, behind, suits, are_others, is_choice}
use Rattle.mq_cover.specs.Choices.{other_at, IsBest}
use Rattle.mq_cover.specs.Nexts.{GoesOn}
use Rattle.mq_cover.specs.declared.remainder.Remainder.{Remainder}
use Rattle.mq_cover.specs.declared.remainder.Next.{Next}
use Rattle.mq_cover.specs.declared.remainder.Next.TheVariants.{Never, Always, At}
use Rattle.mq_cover.specs.declared.others.Others.{Others}
use Rattle.mq_cover.specs.declared.start.Start.{Start}
use Rattle.mq_cover.proofs.TextLemmas.{false_is}
use Rattle.mq_cover.proofs.NameLemmas.{choice_is_level}
use Rattle.mq_cover.proofs.OtherLemmas.{IsOther, other_is, suits_other, some_monotone}

-- ---- the level that is demanded
-- a filter that demands no level covers names behind all levels alike
pub alike : (marks : MarkLevels) (r : Remainder) (n : Next) → GoesOn marks r n
    → ((level : Bor (List ℕ)) (next : Remainder) → n ≡ At level next → ⊥)
    → (a b : List ℕ) (ls : List (List ℕ)) → covers marks (a ∷ ls) r ≡ covers marks (b ∷ ls) r
alike marks r Never on not_at a b ls = on a ls ∙ sym (on b ls)
alike marks r (Always next) on not_at a b ls = on a ls ∙ sym (on b ls)
alike marks r (At level next) on not_at a b ls = absurd (not_at level next refl)

-- each of these covers names behind all levels alike
abbrev pub AllAlike : MarkLevels → List Remainder → Type 0
AllAlike marks rs = (a b : List ℕ) (ls : List (List ℕ))
    → list_all (covers marks (a ∷ ls)) rs ≡ list_all (covers marks (b ∷ ls)) rs

-- one more goes on with all levels alike
pub alike_more : (marks : MarkLevels) (rs : List Remainder) (i : ℕ) (d : Remainder) → i < length rs
    → ((a b : List ℕ) (ls : List (List ℕ)) → covers marks (a ∷ ls) (get_or rs i d)
    ≡ covers marks (b ∷ ls) (get_or rs i d))
    → AllAlike marks (take i rs) → AllAlike marks (take (i + 1) rs)
alike_more marks rs i d h one before =
    subst (AllAlike marks) (sym (take_at_read rs i d h).1)
    (λ a b ls. list_all-append (covers marks (a ∷ ls)) (take i rs) (get_or rs i d ∷ [])
    ∙ (λ j. before a b ls j && (one a b ls j && true))
    ∙ sym (list_all-append (covers marks (b ∷ ls)) (take i rs) (get_or rs i d ∷ [])))

-- once the last has been looked at, all go on with all levels alike
pub alike_all : (marks : MarkLevels) (rs : List Remainder) (i : ℕ) → length rs ≤ i
    → AllAlike marks (take i rs) → AllAlike marks rs
alike_all marks rs i h before = subst (AllAlike marks) (take_all i rs h) before

-- ---- the best level
-- what is known of the level that is demanded, if any
pub record IsDemanded (marks : MarkLevels) (must : List Remainder) (named : Option (Bor (List ℕ))) :
    Type 0 where
  pub some : IfSome named (λ level. (l : List ℕ) (ls : List (List ℕ))
      → list_all (covers marks (l ∷ ls)) must ≡ true → bytes_eq l level.now ≡ true)
  pub none : IfNone named (AllAlike marks must)
  pub fits : (p : List ℕ → Bool) → marks_pass p marks ≡ true → remainders_fit p must ≡ true
      → IfSome named (λ level. p level.now ≡ true)

-- what is required of the marks, the levels that no row names and the filters
pub record AreFit (m : MarkLevels) (o : Others) (rs : List Remainder) : Type 0 where
  pub others : are_others o ≡ true
  pub marks : marks_pass (is_choice o) m ≡ true
  pub must : remainders_fit (is_choice o) rs ≡ true

-- a name with another level in its place, which passes the same
hit_there : (marks : MarkLevels) (start : Start) (must cover : List Remainder) (level l : List ℕ)
    (ls : List (List ℕ)) → bytes_eq l level ≡ true → suits start (l ∷ ls) ≡ true
    → hits marks (l ∷ ls) must cover ≡ true
    → (suits start (level ∷ ls) ≡ true) × (hits marks (level ∷ ls) must cover ≡ true)
hit_there marks start must cover level l ls e s h =
    let is = text_is l level e in (
      sym (ap (λ k. suits start (k ∷ ls)) is) ∙ s,
      sym (ap (λ k. hits marks (k ∷ ls) must cover) is) ∙ h,
    )

-- a level that is demanded, or else the one that no row names, is the best
pub best_is : (start : Start) (marks : MarkLevels) (others : Others) (must : List Remainder)
    (named : Option (Bor (List ℕ))) (other : Bor (List ℕ)) → AreFit marks others must
    → IsDemanded marks must named → other.now ≡ other_at start others
    → fits_start start (unwrap_or named other).now ≡ true
    → IsBest start marks others must (unwrap_or named other).now
best_is start marks others must (Some level) other fit is e f = record {
  fit = f;
  valid = choice_is_level others level.now (is.fits (is_choice others) fit.marks fit.must);
  best = λ cover k l ls s h. hit_there marks start must cover level.now l ls
      (is.some l ls (and_parts (list_all (covers marks (l ∷ ls)) must)
      (not (list_any (covers marks (l ∷ ls)) cover)) h).0) s h;
}
best_is start marks others must None other fit is e f =
    let unnamed = subst (IsOther start others) (sym e) (other_is start others fit.others) in
    record {
      fit = f;
      valid = unnamed.valid;
      best = λ cover k l ls s h.
          let all = list_all (covers marks (l ∷ ls)) must in
          let some = list_any (covers marks (l ∷ ls)) cover in
          let both = and_parts all (not some) h in (
            suits_other start other.now ls f unnamed.some,
            and_from (list_all (covers marks (other.now ∷ ls)) must)
                (not (list_any (covers marks (other.now ∷ ls)) cover))
                (is.none other.now l ls ∙ both.0)
                (ap not (false_is (list_any (covers marks (other.now ∷ ls)) cover) some
                (some_monotone (is_choice others) marks cover other.now l ls unnamed.unnamed
                fit.marks k) (not_true some both.1))),
          );
    }
  where
    not_true : (b : Bool) → not b ≡ true → b ≡ false
    not_true true h = absurd (let e : false ≡ true = h in cc)
    not_true false h = refl

-- where a name may not go on with that level, not all cover one that goes on
pub none_best : (start : Start) (marks : MarkLevels) (others : Others) (must : List Remainder)
    (named : Option (Bor (List ℕ))) (other : Bor (List ℕ)) → AreFit marks others must
    → IsDemanded marks must named → other.now ≡ other_at start others
    → fits_start start (unwrap_or named other).now ≡ false
    → (l : List ℕ) (ls : List (List ℕ)) → suits start (l ∷ ls) ≡ true
    → list_all (covers marks (l ∷ ls)) must ≡ false
none_best start marks others must (Some level) other fit is e f l ls s =
    false_is (list_all (covers marks (l ∷ ls)) must) (fits_start start level.now)
    (λ h. sym (ap (fits_start start) (text_is l level.now (is.some l ls h)))
    ∙ (and_parts (fits_start start l) (suits (behind start l) ls) s).0) f
none_best start marks others must None other fit is e f l ls s =
    absurd (let k : false ≡ true = sym f ∙ ap (fits_start start) e
    ∙ (other_is start others fit.others).fit in cc)
