-- However a run ends, what was written is a front of what the whole script writes.
use Rattle.std.proofs.Common.{◌≡◌, ℕ, List, [], ◌++◌, take, drop, Option, Result, Ok, Err, inl, inr}
use Rattle.std.proofs.Common.{refl, sym, ap, subst, ◌∙◌, append_assoc, append-nil, take-append-drop}
use Rattle.std.specs.Io.KnownBytes.{IsAtEnd}
use Rattle.std.proofs.KnownBytes.{Appends-nil}
use Rattle.mq_world.specs.World.{World}
use Rattle.mq_run.specs.declared.outcome.Summary.{Summary}
use Rattle.mq_run.specs.declared.outcome.RunFault.{RunFault}
use Rattle.mq_run.specs.declared.outcome.RunFault.TheVariants as fault
use Rattle.mq_run.specs.Output.{text_from, text_of_lines, output, whole_output}
use Rattle.mq_jsonl.specs.Lines.{whole_lines, last_piece, piece_line}
use Rattle.mq_run.specs.Ending.{Seen, IsPrefix, AppendsSome, Ending}
use Rattle.mq_jsonl.proofs.PieceLemmas.{whole_lines-grown}
use Rattle.mq_run.proofs.OutputLemmas.{text_from-append}
use Rattle.mq_run.proofs.RunLemmas.{AppendsSome-all}

-- ## Fronts of texts

IsPrefix-trans : (xs ys zs : List ℕ) → IsPrefix xs ys → IsPrefix ys zs → IsPrefix xs zs
IsPrefix-trans xs ys zs p q = (p.0 ++ q.0, q.1 ∙ ap (λ l. l ++ q.0) p.1 ∙ append_assoc xs p.0 q.0)

AppendsSome-front : (a b : Option (List ℕ)) (text more : List ℕ) → AppendsSome a b text
    → IsPrefix text more → AppendsSome a b more
AppendsSome-front a b text more p q = (p.0, p.1, IsPrefix-trans p.0 text more p.2 q)

-- to write nothing is to write a front
pub AppendsSome-none : (a : Option (List ℕ)) (text : List ℕ) → AppendsSome a a text
AppendsSome-none a text = ([], Appends-nil a, (text, refl))

-- the answers to the first lines
lines_front : (w : World) (n : ℕ) (lines : List (List ℕ))
    → IsPrefix (text_of_lines w (take n lines)) (text_of_lines w lines)
lines_front w n lines = (
  text_from w (take n lines) (drop n lines),
  ap (text_from w []) (sym (take-append-drop n lines))
      ∙ text_from-append w [] (take n lines) (drop n lines),
)

-- the answers to the whole lines of what a script begins with
whole_front : (w : World) (given rest : List ℕ)
    → IsPrefix (whole_output w given) (output w (given ++ rest))
whole_front w given rest =
    let more = whole_lines-grown given rest in
    let piece : List (List ℕ) = piece_line (last_piece (given ++ rest)) in (
      text_from w (whole_lines given) (more.0 ++ piece),
      ap (λ lines. text_from w [] (lines ++ piece)) more.1
          ∙ ap (text_from w []) (append_assoc (whole_lines given) more.0 piece)
          ∙ text_from-append w [] (whole_lines given) (more.0 ++ piece),
    )

-- ## The end of a run

-- where the reader is at its end, what it gave is all
at_end : (a b : Option (List ℕ)) (w : World) (given rest : List ℕ) → rest ≡ []
    → AppendsSome a b (output w given) → AppendsSome a b (output w (given ++ rest))
at_end a b w given rest none p =
    subst (λ (script : List ℕ). AppendsSome a b (output w script))
    (sym (ap (λ l. given ++ l) none ∙ append-nil given)) p

whole_at : (a b : Option (List ℕ)) (w : World) (given rest : List ℕ)
    → AppendsSome a b (whole_output w given) → AppendsSome a b (output w (given ++ rest))
whole_at a b w given rest p = AppendsSome-front a b (whole_output w given)
    (output w (given ++ rest)) p (whole_front w given rest)

-- however a run ends, it wrote a front of what the whole script writes
pub Ending-front : (limit : ℕ) (w : World) (result : Result Summary RunFault) (seen : Seen)
    (rest : List ℕ) → (IsAtEnd seen.left → rest ≡ [])
    → Ending limit w result seen → AppendsSome seen.before seen.after
    (output w (seen.given ++ rest))
Ending-front limit w (Ok summary) seen rest none end =
    at_end seen.before seen.after w seen.given rest (none end.ended)
    (AppendsSome-all seen.before seen.after (output w seen.given) end.written)
Ending-front limit w (Err fault.Read) seen rest none end =
    whole_at seen.before seen.after w seen.given rest
    (AppendsSome-all seen.before seen.after (whole_output w seen.given) end.written)
Ending-front limit w (Err fault.Write) seen rest none end = elim end.written [
  | inl lines ↦ whole_at seen.before seen.after w seen.given rest lines
  | inr all ↦ at_end seen.before seen.after w seen.given rest (none all.0) all.1
]
Ending-front limit w (Err fault.TooMuch) seen rest none end =
    let first : List ℕ = take limit seen.given in
    let later : List ℕ = drop limit seen.given in
    let same : first ++ (later ++ rest) ≡ seen.given ++ rest = sym (append_assoc first later rest)
    ∙ ap (λ l. l ++ rest) (take-append-drop limit seen.given) in
    subst (λ (script : List ℕ). AppendsSome seen.before seen.after (output w script)) same
    (whole_at seen.before seen.after w first (later ++ rest)
    (AppendsSome-all seen.before seen.after (whole_output w first) end.written))
Ending-front limit w (Err fault.Memory) seen rest none end =
    let lines : List (List ℕ) = whole_lines seen.given in
    let n : ℕ = end.written.0 in
    whole_at seen.before seen.after w seen.given rest
    (AppendsSome-front seen.before seen.after (text_of_lines w (take n lines))
    (whole_output w seen.given)
    (AppendsSome-all seen.before seen.after (text_of_lines w (take n lines)) end.written.2)
    (lines_front w n lines))
