-- The terms of filters, one behind the other.
use Rattle.std.proofs.Common.{◌≡◌, ◌+◌, ℕ, zero, suc, Bool, true, false, not, ◌&&◌, ◌||◌, List, [], ◌∷◌, ◌++◌}
use Rattle.std.proofs.Common.{refl, ap, sym, ◌∙◌, bytes_eq, codes, Bor, arith}
use Rattle.std.specs.List.{list_all}
use Rattle.std.proofs.lemmas.Bool.{and_from, and_parts, not-true, or_parts}
use Rattle.mq_topic.specs.Matching.{is_wildcard, level_matches}
use Rattle.mq_unify.specs.Clients.{are_plain, goes_along, values_from}
use Rattle.mq_unify.specs.Terms.{terms_fit, goes_by, term_fits, passes, variables}
use Rattle.mq_unify.specs.declared.term.Term.{Term}
use Rattle.mq_unify.specs.declared.term.Term.TheVariants.{Any, Text, Variable}

pub variables-snoc : (first count : ℕ)
    → variables first (count + 1) ≡ variables first count ++ Variable (first + count) ∷ []
variables-snoc first zero = ap (λ n. Variable n ∷ []) (omega arith)
variables-snoc first (suc count) =
    let e : suc count + 1 ≡ suc (count + 1) = omega arith in
    let f : suc first + count ≡ first + suc count = omega arith in
    ap (variables first) e ∙ ap (λ l. Variable first ∷ l)
    (variables-snoc (suc first) count ∙ ap (λ n. variables (suc first) count ++ Variable n ∷ []) f)

module _ (values : ℕ → List ℕ) where
  -- what passes the same tests goes on alike
  pub goes_alike : (terms : List Term) (one other : List (List ℕ) → Bool)
      → ((ls : List (List ℕ)) → one ls ≡ other ls) → (ls : List (List ℕ))
      → goes_by values terms one ls ≡ goes_by values terms other ls
  goes_alike [] one other same ls = same ls
  goes_alike (x ∷ xs) one other same [] = refl
  goes_alike (x ∷ xs) one other same (l ∷ ls) =
      ap (λ b. passes values x l && b) (goes_alike xs one other same ls)

  pub goes-append : (xs ys : List Term) (behind : List (List ℕ) → Bool) (ls : List (List ℕ))
      → goes_by values (xs ++ ys) behind ls ≡ goes_by values xs (goes_by values ys behind) ls
  goes-append [] ys behind ls = refl
  goes-append (x ∷ xs) ys behind [] = refl
  goes-append (x ∷ xs) ys behind (l ∷ ls) =
      ap (λ b. passes values x l && b) (goes-append xs ys behind ls)

  -- a text that isn't `+`
  single_matches : (w l : List ℕ) → bytes_eq w (codes "+") ≡ false
      → level_matches w l ≡ bytes_eq w l
  single_matches w l h = ap (λ b. b || bytes_eq w l) h

  plain_matches : (w l : List ℕ) → not (is_wildcard w) ≡ true → level_matches w l ≡ bytes_eq w l
  plain_matches w l h = single_matches w l
      (or_parts (bytes_eq w (codes "+")) (bytes_eq w (codes "#")) (not-true (is_wildcard w) h)).0

  pub goes_single : (w : Bor (List ℕ)) (behind : List (List ℕ) → Bool) (ls : List (List ℕ))
      → bytes_eq w.now (codes "+") ≡ false
      → goes_by values (Text w ∷ []) behind ls ≡ goes_along (w.now ∷ []) behind ls
  goes_single w behind [] h = refl
  goes_single w behind (l ∷ ls) h = ap (λ b. b && behind ls) (sym (single_matches w.now l h))

  pub goes_any : (w : List ℕ) (behind : List (List ℕ) → Bool) (ls : List (List ℕ))
      → bytes_eq w (codes "+") ≡ true
      → goes_by values (Any ∷ []) behind ls ≡ goes_along (w ∷ []) behind ls
  goes_any w behind [] h = refl
  goes_any w behind (l ∷ ls) h = ap (λ b. (b || bytes_eq w l) && behind ls) (sym h)

  pub goes_text : (w : Bor (List ℕ)) (behind : List (List ℕ) → Bool) (ls : List (List ℕ))
      → not (is_wildcard w.now) ≡ true
      → goes_by values (Text w ∷ []) behind ls ≡ goes_along (w.now ∷ []) behind ls
  goes_text w behind ls h = goes_single w behind ls (or_parts (bytes_eq w.now (codes "+"))
      (bytes_eq w.now (codes "#")) (not-true (is_wildcard w.now) h)).0

  -- one more goes on as it does itself
  pub goes_more : (older terms : List Term) (t : Term) (w : List ℕ) → terms ≡ older ++ t ∷ []
      → ((behind : List (List ℕ) → Bool) (ls : List (List ℕ))
      → goes_by values (t ∷ []) behind ls ≡ goes_along (w ∷ []) behind ls)
      → (behind : List (List ℕ) → Bool) (ls : List (List ℕ))
      → goes_by values terms behind ls ≡ goes_by values older (goes_along (w ∷ []) behind) ls
  goes_more older terms t w e same behind ls =
      ap (λ ts. goes_by values ts behind ls) e ∙ goes-append older (t ∷ []) behind ls
      ∙ goes_alike older _ _ (same behind) ls

  -- variables stand for their values
  pub goes_variables : (first count : ℕ) (behind : List (List ℕ) → Bool) (ls : List (List ℕ))
      → are_plain (values_from values first count) ≡ true
      → goes_by values (variables first count) behind ls
      ≡ goes_along (values_from values first count) behind ls
  goes_variables first zero behind ls p = refl
  goes_variables first (suc count) behind [] p = refl
  goes_variables first (suc count) behind (l ∷ ls) p =
      let both = and_parts (not (is_wildcard (values first)))
      (are_plain (values_from values (suc first) count)) p in
      ap (λ b. bytes_eq (values first) l && b) (goes_variables (suc first) count behind ls both.1)
      ∙ ap (λ b. b && goes_along (values_from values (suc first) count) behind ls)
      (sym (plain_matches (values first) l both.0))

pub fit-append : (test : List ℕ → Bool) (xs ys : List Term) → terms_fit test xs ≡ true
    → terms_fit test ys ≡ true → terms_fit test (xs ++ ys) ≡ true
fit-append test [] ys h k = k
fit-append test (x ∷ xs) ys h k =
    let both = and_parts (term_fits test x) (terms_fit test xs) h in
    and_from (term_fits test x) (terms_fit test (xs ++ ys)) both.0
    (fit-append test xs ys both.1 k)

-- once terms for these levels are added, what is left does what all did before
pub record AddsTexts (all left : List (List ℕ)) (older terms : List Term) : Type 0 where
  pub goes : (values : ℕ → List ℕ) (behind : List (List ℕ) → Bool) (ls : List (List ℕ))
      → are_plain all ≡ true → (are_plain left ≡ true)
      × (goes_by values terms (goes_along left behind) ls
      ≡ goes_by values older (goes_along all behind) ls)
  pub unlike : (test : List ℕ → Bool) → list_all test all ≡ true
      → terms_fit test older ≡ true
      → (list_all test left ≡ true) × (terms_fit test terms ≡ true)

pub adds_text : (all left rest : List (List ℕ)) (w : Bor (List ℕ)) (older terms more : List Term)
    → left ≡ w.now ∷ rest → more ≡ terms ++ Text w ∷ [] → AddsTexts all left older terms
    → AddsTexts all rest older more
adds_text all left rest w older terms more e f so_far = record {
  goes = λ values behind ls p.
      let now = so_far.goes values behind ls p in
      let both = and_parts (not (is_wildcard w.now)) (are_plain rest)
      (sym (ap are_plain e) ∙ now.0) in (
        both.1,
        ap (λ ts. goes_by values ts (goes_along rest behind) ls) f
            ∙ goes-append values terms (Text w ∷ []) (goes_along rest behind) ls
            ∙ goes_alike values terms _ _
            (λ k. goes_text values w (goes_along rest behind) k both.0
            ∙ along w.now rest behind k
            ∙ ap (λ l. goes_along l behind k) (sym e)) ls
            ∙ now.1,
      );
  unlike = λ test u h.
      let now = so_far.unlike test u h in
      let both = and_parts (test w.now) (list_all test rest)
      (sym (ap (list_all test) e) ∙ now.0) in (
        both.1,
        ap (terms_fit test) f ∙ fit-append test terms (Text w ∷ []) now.1
            (and_from (test w.now) true both.0 refl),
      );
}
  where
    along : (w : List ℕ) (ws : List (List ℕ)) (behind : List (List ℕ) → Bool) (k : List (List ℕ))
        → goes_along (w ∷ []) (goes_along ws behind) k ≡ goes_along (w ∷ ws) behind k
    along w ws behind [] = refl
    along w ws behind (l ∷ ls) = refl
