-- A name's levels, taken one by one at a node.
use Rattle.std.proofs.Common.{ap₂, arith, ◌≡◌, ◌≢◌, ℕ, Bool, true, false, cond, ◌||◌, ◌&&◌, List}
use Rattle.std.proofs.Common.{[], ◌∷◌, map, Ordering, Less, nat_cmp, is_lt, refl, ap, ◌∙◌}
use Rattle.mq_tree.specs.Below.{is_before, hash, plus, is_last_hash, matches_below, fronts}
use Rattle.mq_tree.specs.Below.{meets_name, in_order_of}
use Rattle.std.specs.Cmp.Lexicographic.{slice_cmp}
use Rattle.std.specs.Str.{bytes_eq}
use Rattle.std.specs.List.{list_any, AllByRecursion}
use Rattle.std.specs.List.Sorted.{IsStrictlySortedBy}
use Rattle.std.proofs.lemmas.Cmp.{nat_list_cmp_total}
use Rattle.std.proofs.lemmas.Map.Lookups.{exact_bytes}
use Rattle.std.proofs.Math.Bool.{or-false}
use Rattle.mq_topic.proofs.ByteLemmas.{text_is, text_itself, text_flip}
use Rattle.mq_topic.specs.Matching.{level_matches}
use Rattle.mq_tree.proofs.Blocks.{is_here}
use Rattle.mq_tree.proofs.Levels.{not_same, flipped}

abbrev pub IsPlain : List ℕ → Type 0
IsPlain n = (n ≢ hash) × (n ≢ plus)

-- the level of a key may stand at the name's level n
abbrev pub may_stand : List ℕ → List ℕ → Bool
may_stand n m = bytes_eq m hash || level_matches m n

-- the rest of a key matches below the level m
abbrev pub goes_on : List (List ℕ) → List ℕ → List (List ℕ) → Bool
goes_on ns m k = cond (bytes_eq m hash) (is_here k) (matches_below k ns)

-- the rest of a prefix meets the rest of the name below the level m
abbrev pub meets_on : List (List ℕ) → List ℕ → List (List ℕ) → Bool
meets_on ns m p = cond (bytes_eq m hash) (is_here p) (meets_name ns p)

-- a level that is no `#` is no last `#`
pub not_last : (m : List ℕ) (k : List (List ℕ)) → bytes_eq m hash ≡ false → is_last_hash m k ≡ false
not_last m [] h = h
not_last m (l ∷ k) h = refl

-- where n is plain: m is a last `#`, or it matches n and x holds, just where m may stand at n
-- and then m is last if it is a `#`, and x holds if it is not
pub by_hash : (m n : List ℕ) (k : List (List ℕ)) (x : Bool) → IsPlain n
    → (is_last_hash m k || (level_matches m n && x))
    ≡ (may_stand n m && cond (bytes_eq m hash) (is_here k) x)
by_hash m n [] x plain = grind (arith, text_is m hash, not_same hash n, plain.0)
by_hash m n (l ∷ k) x plain = grind (arith, text_is m hash, not_same hash n, plain.0)

-- where the first level of a name is plain, a nonempty key matches the name just where its own
-- first level may stand there and its rest goes on
pub goes_step : (n : List ℕ) (ns : List (List ℕ)) → IsPlain n → (m : List ℕ) (k : List (List ℕ))
    → matches_below (m ∷ k) (n ∷ ns) ≡ (may_stand n m && goes_on ns m k)
goes_step n ns plain m k = by_hash m n k (matches_below k ns) plain

-- ---- meeting a name
pub any_map : {A B : Type 0} (t : B → Bool) (f : A → B) (xs : List A)
    → list_any t (map f xs) ≡ list_any (λ x. t (f x)) xs
any_map t f [] = refl
any_map t f (x ∷ xs) = ap (λ b. t (f x) || b) (any_map t f xs)

pub any_agree : {A : Type 0} (s t : A → Bool) → ((x : A) → s x ≡ t x) → (xs : List A)
    → list_any s xs ≡ list_any t xs
any_agree s t same [] = refl
any_agree s t same (x ∷ xs) = ap₂ (λ a b. a || b) (same x) (any_agree s t same xs)

any_or : {A : Type 0} (a b : Bool) (g : A → Bool) (xs : List A)
    → (a || list_any (λ x. a || (b && g x)) xs) ≡ (a || (b && list_any g xs))
any_or a b g [] = grind arith
any_or a b g (x ∷ xs) = grind (arith, any_or a b g xs)

meets_cons : (m : List ℕ) (p : List (List ℕ)) (n : List ℕ) (ns : List (List ℕ))
    → meets_name (n ∷ ns) (m ∷ p) ≡ (is_last_hash m p || (level_matches m n && meets_name ns p))
meets_cons m p n ns =
    ap (λ b. is_last_hash m p || b) (any_map (matches_below (m ∷ p)) (λ q. n ∷ q) (fronts ns))
    ∙ any_or (is_last_hash m p) (level_matches m n) (matches_below p) (fronts ns)

-- where the first level of a name is plain, a nonempty prefix meets the name just where its own
-- first level may stand there and its rest goes on
pub meets_step : (n : List ℕ) (ns : List (List ℕ)) → IsPlain n → (m : List ℕ) (p : List (List ℕ))
    → meets_name (n ∷ ns) (m ∷ p) ≡ (may_stand n m && meets_on ns m p)
meets_step n ns plain m p = meets_cons m p n ns ∙ by_hash m n p (meets_name ns p) plain

-- a prefix that ends at its first level has no rest that could fail to meet the name
pub meets_here : (ns : List (List ℕ)) (m : List ℕ) → meets_on ns m [] ≡ true
meets_here ns m = grind arith

-- ---- at the name's end
pub end_step : (m : List ℕ) (k : List (List ℕ))
    → matches_below (m ∷ k) [] ≡ (bytes_eq hash m && is_here k)
end_step m [] = grind (arith, text_flip hash m)
end_step m (l ∷ k) = grind arith

-- where the name has ended, a nonempty prefix meets it just where it is a `#` alone
pub end_meets_step : (m : List ℕ) (p : List (List ℕ))
    → meets_name [] (m ∷ p) ≡ (bytes_eq hash m && is_here p)
end_meets_step m p = or-false (is_last_hash m p) ∙ end_step m p

-- a list of one level is in order
pub one_sorted : (t : List ℕ) → IsStrictlySortedBy (slice_cmp nat_cmp) (t ∷ [])
unfolding IsStrictlySortedBy
one_sorted t = (tt, tt)

none_of_three : (a b c : Bool) → (a || (b || (c || false))) ≡ false
    → (a ≡ false) × (b ≡ false) × (c ≡ false)
none_of_three a b c h = grind arith

three_sorted : (a b c : List ℕ) → slice_cmp nat_cmp a b ≡ Less → slice_cmp nat_cmp b c ≡ Less
    → IsStrictlySortedBy (slice_cmp nat_cmp) (a ∷ b ∷ c ∷ [])
unfolding IsStrictlySortedBy
three_sorted a b c p q = ((p, (nat_list_cmp_total.trans a b c p q, tt)), ((q, tt), (tt, tt)))

greater_from : (n t : List ℕ) (o : Ordering) → slice_cmp nat_cmp n t ≡ o → n ≢ t → is_lt o ≡ false
    → slice_cmp nat_cmp t n ≡ Less
greater_from n t o e apart h = grind (arith, nat_list_cmp_total.antisymm t n, exact_bytes n t)

less_from : (n t : List ℕ) (o : Ordering) → slice_cmp nat_cmp n t ≡ o → is_lt o ≡ true
    → slice_cmp nat_cmp n t ≡ Less
less_from n t o e h = grind arith

of_n : (n : List ℕ) → may_stand n n ≡ true
of_n n = grind (arith, text_itself n)

quiet_by : (n m : List ℕ) → bytes_eq hash m ≡ false → bytes_eq plus m ≡ false → bytes_eq n m ≡ false
    → may_stand n m ≡ false
quiet_by n m h p q = grind (arith, flipped hash m h, flipped plus m p, flipped n m q)

-- these levels, and no others
pub record AreAll (n : List ℕ) (ts : List (List ℕ)) : Type 0 where
  pub sorted : IsStrictlySortedBy (slice_cmp nat_cmp) ts
  pub stand : AllByRecursion (λ t. may_stand n t ≡ true) ts
  pub others : (m : List ℕ) → list_any (λ t. bytes_eq t m) ts ≡ false → may_stand n m ≡ false

-- the levels that may stand at a plain level n are `#`, `+` and n, taken in their order
pub in_order_all : (n : List ℕ) → IsPlain n → AreAll n (in_order_of n)
in_order_all n p =
    (elim (is_before n hash) as (λ b. is_before n hash ≡ b
    → AreAll n (cond b (n ∷ hash ∷ plus ∷ [])
    (cond (is_before n plus) (hash ∷ n ∷ plus ∷ []) (hash ∷ plus ∷ n ∷ [])))) [
      | true ↦ λ e. record {
        sorted = three_sorted n hash plus (less_from n hash _ refl e) refl;
        stand = (of_n n, (refl, (refl, tt)));
        others = λ m any. let none = none_of_three _ _ _ any in quiet_by n m none.1 none.2 none.0;
      }
      | false ↦ λ e. (elim (is_before n plus) as (λ c. is_before n plus ≡ c
          → AreAll n (cond c (hash ∷ n ∷ plus ∷ []) (hash ∷ plus ∷ n ∷ []))) [
            | true ↦ λ f. record {
              sorted = three_sorted hash n plus (greater_from n hash _ refl p.0 e)
                  (less_from n plus _ refl f);
              stand = (refl, (of_n n, (refl, tt)));
              others = λ m any. let none = none_of_three _ _ _ any in
                  quiet_by n m none.0 none.2 none.1;
            }
            | false ↦ λ f. record {
              sorted = three_sorted hash plus n refl (greater_from n plus _ refl p.1 f);
              stand = (refl, (refl, (of_n n, tt)));
              others = λ m any. let none = none_of_three _ _ _ any in
                  quiet_by n m none.0 none.1 none.2;
            }
          ]) refl
    ]) refl
