-- Lists that are read from front to back.
use Rattle.std.proofs.Common.{◌≡◌, ◌+◌, List, [], ◌∷◌, ◌++◌, ℕ, length, ap, ◌∙◌, arith}
use Rattle.std.proofs.Common.{Option, Some, None, append_assoc, append-nil}
use Rattle.std.specs.Option.{option_to_list}
use Rattle.std.specs.List.{cons_option, enumerate_from}

-- what is added, and what is left
pub option_front : {X : Type 0} (xs : List X) (o : Option X) (ys : List X)
    → (xs ++ option_to_list o) ++ ys ≡ xs ++ cons_option o ys
option_front xs None ys = ap (λ l. l ++ ys) (append-nil xs)
option_front xs (Some x) ys = append_assoc xs (x ∷ []) ys

pub enumerate_from-append : {X : Type 0} (n : ℕ) (xs ys : List X)
    → enumerate_from n (xs ++ ys) ≡ enumerate_from n xs ++ enumerate_from (n + length xs) ys
enumerate_from-append n [] ys = ap (λ k. enumerate_from k ys) (let e : n ≡ n + 0 = omega arith in e)
enumerate_from-append n (x ∷ xs) ys =
    ap (λ l. (n, x) ∷ l) (enumerate_from-append (n + 1) xs ys
    ∙ ap (λ k. enumerate_from (n + 1) xs ++ enumerate_from k ys)
    (let e : n + 1 + length xs ≡ n + length (x ∷ xs) = omega arith in e))
