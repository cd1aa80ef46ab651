-- What lines write, when more of them follow, and what is known of a long line by its front.
use Rattle.std.proofs.Common.{◌≡◌, ℕ, ◌+◌, List, [], ◌∷◌, ◌++◌, cond, length, take, Option, Some}
use Rattle.std.proofs.Common.{None, refl, sym, ap, ◌∙◌, arith, append_assoc, append-nil}
use Rattle.std.specs.List.{filter_map, cons_option}
use Rattle.std.proofs.lemmas.List.Elements.{filter_map-append}
use Rattle.mq_world.specs.World.{World, Request}
use Rattle.mq_world.specs.After.{next, replay}
use Rattle.mq_jsonl.specs.Lines.{command_in, kept}
use Rattle.mq_jsonl.specs.Reading.{reading}
use Rattle.mq_run.specs.Output.{world_after, text_of, is_refused, text_from, refused_from}
use Rattle.mq_jsonl.proofs.LongLemmas.{reading-kept}
use Rattle.mq_run.specs.Running.{next_or, world_then}

-- ## More lines

-- requests are replayed in two parts, the second on the world after the first
pub replay-append : (w : World) (xs ys : List Request)
    → replay w (xs ++ ys) ≡ replay (replay w xs) ys
replay-append w [] ys = refl
replay-append w (x ∷ xs) ys = replay-append (next w x) xs ys

one_more : (w : World) (o : Option Request) → replay w (cons_option o []) ≡ next_or w o
one_more w None = refl
one_more w (Some request) = refl

-- one more line changes the world that the lines before it made
pub world_after-push : (w : World) (lines : List (List ℕ)) (line : List ℕ)
    → world_after w (lines ++ line ∷ []) ≡ world_then (world_after w lines) line
unfolding world_then
world_after-push w lines line =
    ap (replay w) (filter_map-append (λ l. command_in (reading l)) lines (line ∷ []))
    ∙ replay-append w (filter_map (λ l. command_in (reading l)) lines)
    (cons_option (command_in (reading line)) [])
    ∙ one_more (world_after w lines) (command_in (reading line))

-- lines are answered in two parts, the second after the lines of the first
pub text_from-append : (w : World) (before xs ys : List (List ℕ))
    → text_from w before (xs ++ ys) ≡ text_from w before xs ++ text_from w (before ++ xs) ys
text_from-append w before [] ys = rw (append-nil before) refl
text_from-append w before (x ∷ xs) ys =
    let here = text_of (length before + 1) (world_after w before) x in
    ap (λ l. here ++ l) (text_from-append w (before ++ x ∷ []) xs ys)
    ∙ sym (append_assoc here (text_from w (before ++ x ∷ []) xs)
    (text_from w ((before ++ x ∷ []) ++ xs) ys))
    ∙ ap (λ ls. (here ++ text_from w (before ++ x ∷ []) xs) ++ text_from w ls ys)
    (append_assoc before (x ∷ []) xs)

-- one more line adds its answer
pub text_from-push : (w : World) (xs : List (List ℕ)) (y : List ℕ)
    → text_from w [] (xs ++ y ∷ []) ≡ text_from w [] xs
    ++ text_of (length xs + 1) (world_after w xs) y
text_from-push w xs y = text_from-append w [] xs (y ∷ [])
    ∙ ap (λ l. text_from w [] xs ++ l) (append-nil (text_of (length xs + 1) (world_after w xs) y))

refused_from-append : (w : World) (before xs ys : List (List ℕ))
    → refused_from w before (xs ++ ys) ≡ refused_from w before xs + refused_from w (before ++ xs) ys
refused_from-append w before [] ys = rw (append-nil before) (omega arith)
refused_from-append w before (x ∷ xs) ys =
    let here : ℕ = cond (is_refused (world_after w before) x) 1 0 in
    let more = refused_from-append w (before ++ x ∷ []) xs ys in
    let same : refused_from w ((before ++ x ∷ []) ++ xs) ys ≡ refused_from w (before ++ x ∷ xs) ys =
    ap (λ ls. refused_from w ls ys) (append_assoc before (x ∷ []) xs) in
    omega arith

-- one more line adds one to the refusals if it is refused
pub refused_from-push : (w : World) (xs : List (List ℕ)) (y : List ℕ)
    → refused_from w [] (xs ++ y ∷ []) ≡ refused_from w [] xs
    + cond (is_refused (world_after w xs) y) 1 0
refused_from-push w xs y = let e = refused_from-append w [] xs (y ∷ []) in omega arith

-- ## A long line is known by its front

-- what is kept of a line is answered as the line is
pub text_of-kept : (k : ℕ) (w : World) (p : List ℕ) → text_of k w (take kept p) ≡ text_of k w p
unfolding text_of
text_of-kept k w p = rw (reading-kept p)

-- what is kept of a line is refused if the line is, and only then
pub is_refused-kept : (w : World) (p : List ℕ) → is_refused w (take kept p) ≡ is_refused w p
unfolding is_refused
is_refused-kept w p = rw (reading-kept p)

-- what is kept of a line changes the world as the line does
pub world_then-kept : (w : World) (p : List ℕ) → world_then w (take kept p) ≡ world_then w p
unfolding world_then
world_then-kept w p = rw (reading-kept p)
