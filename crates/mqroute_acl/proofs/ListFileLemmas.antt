-- The front of a file, and the whole of it.
use Rattle.std.proofs.Common.{◌≡◌, ◌∙◌, ◌≤◌, ◌<◌, ◌+◌, ◌++◌, ℕ, List, [], length, take, min, Option}
use Rattle.std.proofs.Common.{Some, None, IfSome, IsUtf8, option_map, arith, ap, refl, subst}
use Rattle.std.proofs.lemmas.List.{length-take, take_all}
use Rattle.mqroute_acl.specs.ListFile.{bad_line, file_limit, IsFaultIn}
use Rattle.mqroute_acl.specs.declared.list_file.FileFault.TheVariants.{TooLong, Utf8}

-- what is read of a limited reader is the front of the reader's bytes
pub front_read : (known : Option (List ℕ)) (limit n : ℕ) (read : List ℕ) → limit ≡ n
    → IfSome (option_map (take limit) known) (λ xs. read ≡ [] ++ xs)
    → IfSome known (λ xs. read ≡ take n xs)
front_read None limit n read e h = tt
front_read (Some xs) limit n read e h = subst (λ (m : ℕ). read ≡ take m xs) e h

shorter : (xs front : List ℕ) (m : ℕ) → front ≡ take m xs → length front ≡ min m (length xs)
shorter xs front m e = ap length e ∙ length-take m xs

-- a front that is within the limit is the whole
whole : (xs front : List ℕ) (n m : ℕ) → m ≡ n + 1 → front ≡ take m xs → length front ≤ n
    → (front ≡ xs) × (length xs ≤ n)
whole xs front n m next e within =
    let count = shorter xs front m e in
    let few : length xs ≤ n = omega arith in
    (e ∙ take_all m xs (let more : length xs ≤ m = omega arith in more), few)

-- a text that was read, within the limit, is all of the file, which is within it too
pub text_whole : (known : Option (List ℕ)) (front text : List ℕ)
    → IfSome known (λ xs. front ≡ take 16777217 xs)
    → length front ≤ 16777216 → text ≡ front
    → IfSome known (λ xs. (text ≡ xs) × (length xs ≤ file_limit))
unfolding file_limit
text_whole None front text is within e = tt
text_whole (Some xs) front text is within e =
    let all = whole xs front 16777216 16777217 (omega arith) is within in
    (e ∙ all.0, all.1)

-- where more than the limit was read, the file is too long
pub too_long : (known : Option (List ℕ)) (front : List ℕ)
    → IfSome known (λ xs. front ≡ take 16777217 xs)
    → 16777216 < length front → IfSome known (IsFaultIn TooLong)
unfolding file_limit
too_long None front is over = tt
too_long (Some xs) front is over =
    let count = shorter xs front 16777217 is in omega arith

-- where what was read is within the limit and isn't UTF-8, the file isn't either, from the same line on
pub not_utf8 : (known : Option (List ℕ)) (front : List ℕ)
    → IfSome known (λ xs. front ≡ take 16777217 xs)
    → length front ≤ 16777216 → ¬ IsUtf8 front → IfSome known (IsFaultIn (Utf8 (bad_line front)))
not_utf8 None front is within bad = tt
not_utf8 (Some xs) front is within bad =
    let all = whole xs front 16777216 16777217 (omega arith) is within in
    subst (λ (t : List ℕ). (¬ IsUtf8 t) × (bad_line front ≡ bad_line t)) all.0 (bad, refl)

-- the text alone
pub text_only : (known : Option (List ℕ)) (text : List ℕ)
    → IfSome known (λ bytes. (text ≡ bytes) × (length bytes ≤ file_limit))
    → IfSome known (λ bytes. text ≡ bytes)
text_only None text is = tt
text_only (Some bytes) text is = is.0
