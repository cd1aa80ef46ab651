-- What is left of a row, level by level.
use Rattle.std.proofs.Common.{◌≡◌, ℕ, ◌==◌, Bool, true, false, ◌&&◌, ◌||◌, List, [], ◌∷◌, length}
use Rattle.std.proofs.Common.{refl, ap, sym, ◌∙◌, codes, bytes_eq}
use Rattle.std.specs.Prelude.{Option, Some, None}
use Rattle.std.specs.Option.{option_copied}
use Rattle.std.proofs.Math.Dec.{eqb-suc-zero}
use denote.Ref.{Bor}
use Rattle.std.proofs.Math.Bool.{and-true, and-false}
use Rattle.mq_topic.proofs.ByteLemmas.{text_flip}
use Rattle.mq_topic.specs.Levels.{levels_left}
use Rattle.mq_topic.specs.Matching.{level_matches}
use Rattle.mq_acl.specs.Access.{is_user}
use Rattle.mq_cover.specs.Remainders.{MarkLevels, passes, covers}
use Rattle.mq_cover.specs.Nexts.{GoesOn, at_mark}
use Rattle.mq_cover.specs.declared.remainder.Remainder.{Remainder}
use Rattle.mq_topic.proofs.Walk.{levels_match_cons}
use Rattle.mq_topic.specs.Matching.{levels_match_by}

-- a filter that has ended covers no further level
pub covers_none : (test : List ℕ → List ℕ → Bool) (l : List ℕ) (ls : List (List ℕ))
    → levels_match_by test [] (l ∷ ls) ≡ false
covers_none test l ls = refl

-- a last `#` covers all that is left
pub covers_hash : (test : List ℕ → List ℕ → Bool) (w : List ℕ) (ws ls : List (List ℕ))
    → (bytes_eq w (codes "#") && (length ws == 0)) ≡ true → levels_match_by test (w ∷ ws) ls ≡ true
covers_hash test w [] ls e = rw (sym (and-true (bytes_eq w (codes "#"))) ∙ e) refl
covers_hash test w (v ∷ ws) ls e =
    absurd (let k : false ≡ true =
    sym (ap (λ b. bytes_eq w (codes "#") && b) (eqb-suc-zero (length ws))
    ∙ and-false (bytes_eq w (codes "#"))) ∙ e in cc)

-- a level that is no last `#` is tested, and then the levels behind it
pub covers_cons : (test : List ℕ → List ℕ → Bool) (w l : List ℕ) (ws ls : List (List ℕ))
    → (bytes_eq w (codes "#") && (length ws == 0)) ≡ false
    → levels_match_by test (w ∷ ws) (l ∷ ls) ≡ (test w l && levels_match_by test ws ls)
covers_cons test w l ws ls e = levels_match_cons test w l ws ls e

-- what is left of a remainder behind its first level, which is no last `#`
pub record IsLeftBehind (r next : Remainder) (w : List ℕ) : Type 0 where
  pub rest : levels_left r.rest ≡ w ∷ levels_left next.rest
  pub no_hash : (bytes_eq w (codes "#") && (length (levels_left next.rest) == 0)) ≡ false
  pub pattern : next.pattern ≡ r.pattern

-- a name is covered just where its first level passes and what is left covers the others
pub step : (marks : MarkLevels) (r next : Remainder) (w : List ℕ) → IsLeftBehind r next w
    → (l : List ℕ) (ls : List (List ℕ)) → covers marks (l ∷ ls) r
    ≡ (passes r.pattern marks w l && covers marks ls next)
step marks r next w is l ls =
    ap (λ k. levels_match_by (passes r.pattern marks) k (l ∷ ls)) is.rest
    ∙ covers_cons (passes r.pattern marks) w l (levels_left next.rest) ls is.no_hash
    ∙ ap (λ b. passes r.pattern marks w l
    && levels_match_by (passes b marks) (levels_left next.rest) ls) (sym is.pattern)

-- in a `pattern` row the mark `%c` is passed by the client's level alone
pub passes_client : (pattern : Bool) (marks : MarkLevels) (w l : List ℕ)
    → (pattern && bytes_eq w (codes "%c")) ≡ true
    → passes pattern marks w l ≡ is_user l marks.client
passes_client pattern marks w l e = rw e refl

-- and the mark `%u` by the user's
pub passes_user : (pattern : Bool) (marks : MarkLevels) (w l : List ℕ)
    → (pattern && bytes_eq w (codes "%c")) ≡ false → (pattern && bytes_eq w (codes "%u")) ≡ true
    → passes pattern marks w l ≡ is_user l marks.user
passes_user pattern marks w l e f = rw (e, f) refl

-- elsewhere a level of a filter is matched
pub passes_plain : (pattern : Bool) (marks : MarkLevels) (w l : List ℕ)
    → (pattern && bytes_eq w (codes "%c")) ≡ false → (pattern && bytes_eq w (codes "%u")) ≡ false
    → passes pattern marks w l ≡ level_matches w l
passes_plain pattern marks w l e f = rw (e, f) refl

-- at a mark a `pattern` row's remainder goes on with the level that it stands for, if there is one
pub mark_goes_on : (marks : MarkLevels) (r next : Remainder) (w : List ℕ)
    (mark : Option (Bor (List ℕ))) → IsLeftBehind r next w
    → ((l : List ℕ) → passes r.pattern marks w l ≡ is_user l (option_copied mark))
    → GoesOn marks r (at_mark mark next)
mark_goes_on marks r next w None is m =
    λ l ls. step marks r next w is l ls ∙ ap (λ b. b && covers marks ls next) (m l)
mark_goes_on marks r next w (Some level) is m =
    λ l ls. step marks r next w is l ls ∙ ap (λ b. b && covers marks ls next) (m l)

-- at any other level but a last `#`, a name is covered just where it matches and the rest is
pub level_is : (marks : MarkLevels) (r next : Remainder) (w : List ℕ) → IsLeftBehind r next w
    → (r.pattern && bytes_eq w (codes "%c")) ≡ false
    → (r.pattern && bytes_eq w (codes "%u")) ≡ false
    → (l : List ℕ) (ls : List (List ℕ)) → covers marks (l ∷ ls) r
    ≡ (level_matches w l && covers marks ls next)
level_is marks r next w is c u l ls = step marks r next w is l ls
    ∙ ap (λ b. b && covers marks ls next) (passes_plain r.pattern marks w l c u)

-- a level that is no wildcard is passed by itself alone
pub level_only : (marks : MarkLevels) (r next : Remainder) (w : List ℕ) → IsLeftBehind r next w
    → (r.pattern && bytes_eq w (codes "%c")) ≡ false
    → (r.pattern && bytes_eq w (codes "%u")) ≡ false → bytes_eq w (codes "+") ≡ false
    → (l : List ℕ) (ls : List (List ℕ)) → covers marks (l ∷ ls) r
    ≡ (bytes_eq l w && covers marks ls next)
level_only marks r next w is c u plus l ls =
    level_is marks r next w is c u l ls
    ∙ ap (λ b. (b || bytes_eq w l) && covers marks ls next) plus
    ∙ ap (λ b. b && covers marks ls next) (text_flip w l)
