-- How many levels a name has that a filter matches.
use Rattle.std.proofs.Common.{◌≡◌, ◌≤◌, ℕ, Bool, IsTrue, true, false, List, [], ◌∷◌, ◌&&◌}
use Rattle.std.proofs.Common.{ap, arith, length, nat_lt, refl, sym, ◌∙◌}
use Rattle.std.proofs.Math.Bool.{and-false}
use Rattle.std.proofs.lemmas.Bool.{and_parts, ltb-true}
use Rattle.mq_unify.specs.Lengths.{AreApart, IsBeyond, IsLonger}
use Rattle.mq_unify.specs.Rows.{all_matched}
use Rattle.mq_unify.specs.Terms.{Shape, goes_by, matched, may_follow, passes, shape_of}
use Rattle.mq_unify.specs.declared.term.Terms.{Terms}
use Rattle.mq_unify.specs.declared.term.Term.{Term}

-- as many as it demands
at_least : (values : ℕ → List ℕ) (terms : List Term) (behind : List (List ℕ) → Bool)
    (ls : List (List ℕ)) → goes_by values terms behind ls ≡ true → length terms ≤ length ls
at_least values [] behind ls h = omega (arith)
at_least values (t ∷ ts) behind [] h = absurd (let n : false ≡ true = h in cc)
at_least values (t ∷ ts) behind (l ∷ ls) h =
    let rest = at_least values ts behind ls
    (and_parts (passes values t l) (goes_by values ts behind ls) h).1 in
    omega (arith, rest)

-- and no more, where no `#` follows
at_most : (values : ℕ → List ℕ) (terms : List Term) (ls : List (List ℕ))
    → goes_by values terms (may_follow false) ls ≡ true → length ls ≤ length terms
at_most values [] [] h = omega (arith)
at_most values [] (l ∷ ls) h = absurd (let n : false ≡ true = h in cc)
at_most values (t ∷ ts) [] h = absurd (let n : false ≡ true = h in cc)
at_most values (t ∷ ts) (l ∷ ls) h =
    let rest = at_most values ts ls
    (and_parts (passes values t l) (goes_by values ts (may_follow false) ls) h).1 in
    omega (arith, rest)

-- so a filter that demands more matches none of them
pub longer : (one other : Shape) (least most : ℕ) → other.has_rest ≡ false
    → most ≡ length other.fixed → least ≡ length one.fixed → IsTrue (nat_lt most least)
    → (values : ℕ → List ℕ) (ls : List (List ℕ)) → matched values ls one ≡ true
    → matched values ls other ≡ false
longer one other least most ends m n more values ls h = by (matched values ls other) refl
  where
    by : (b : Bool) → matched values ls other ≡ b → matched values ls other ≡ false
    by false e = e
    by true e =
        let low = at_least values one.fixed (may_follow one.has_rest) ls h in
        let high = at_most values other.fixed ls
        (sym (ap (λ b. goes_by values other.fixed (may_follow b) ls) ends) ∙ e) in
        let less = ltb-true most least more in
        absurd (omega (arith, low, high, m, n, less))

-- ---- lists of filters
-- it is enough that one of them matches none of what this one does
pub beyond_first : (one first : Shape) (t : Terms) (ts : List Terms) → shape_of t ≡ first
    → IsLonger one first → IsBeyond one (t ∷ ts)
beyond_first one first t ts e h = λ values ls m.
    ap (λ s. matched values ls s && all_matched values ls ts) e
    ∙ ap (λ b. b && all_matched values ls ts) (h values ls m)

pub beyond_rest : (one : Shape) (t : Terms) (ts : List Terms) → IsBeyond one ts
    → IsBeyond one (t ∷ ts)
beyond_rest one t ts h = λ values ls m.
    ap (λ b. matched values ls (shape_of t) && b) (h values ls m)
    ∙ and-false (matched values ls (shape_of t))

-- of these too one is enough
pub apart_first : (t : Terms) (ts all : List Terms) → IsBeyond (shape_of t) all
    → AreApart (t ∷ ts) all
apart_first t ts all h = λ values ls m.
    h values ls (and_parts (matched values ls (shape_of t)) (all_matched values ls ts) m).0

pub apart_rest : (t : Terms) (ts all : List Terms) → AreApart ts all → AreApart (t ∷ ts) all
apart_rest t ts all h = λ values ls m.
    h values ls (and_parts (matched values ls (shape_of t)) (all_matched values ls ts) m).1
