-- A run, a line at a time.
use Rattle.std.proofs.Common.{◌≡◌, ◌≤◌, ◌<◌, ℕ, zero, suc, ◌+◌, List, [], ◌∷◌, ◌++◌, Bool, cond}
use Rattle.std.proofs.Common.{length, take, drop, take-append-drop, inl, inr, Err, Option, refl}
use Rattle.std.proofs.Common.{sym, ap, subst, ◌∙◌, arith, append_assoc, append-nil, length-append}
use Rattle.std.proofs.lemmas.List.{take_all, take-append-le}
use Rattle.std.proofs.KnownBytes.{Appends-trans, Appends-kept}
use Rattle.std.proofs.Math.Seq.{take-append-add}
use Rattle.std.specs.Io.KnownBytes.{Appends, Keeps, IsAtEnd}
use Rattle.mq_world.specs.World.{World}
use Rattle.mq_router.specs.StandsFor.{StandsFor}
use Rattle.mq_run.specs.declared.outcome.RunFault.{RunFault}
use Rattle.mq_run.specs.declared.outcome.RunFault.TheVariants as fault
use Rattle.mq_run.specs.declared.progress.Progress.{Progress}
use Rattle.mq_run.specs.Output.{world_after, text_of, is_refused, text_from, refused_from}
use Rattle.mq_run.specs.Output.{whole_output}
use Rattle.mq_jsonl.specs.Lines.{all_lines, whole_lines}
use Rattle.mq_jsonl.specs.Feeding.{EndsNone, HasNext, open_line}
use Rattle.mq_run.specs.Ending.{Seen, IsPrefix, AppendsSome, WritesLines, write_failures, Ending}
use Rattle.mq_run.specs.Running.{world_then, Answered, Unanswered, AreAnswered, SoFar, Stopped}
use Rattle.mq_run.specs.Running.{StoppedLast}
use Rattle.mq_jsonl.proofs.PieceLemmas.{whole_lines-grown}
use Rattle.mq_run.proofs.OutputLemmas.{world_after-push, text_from-append, text_from-push}
use Rattle.mq_run.proofs.OutputLemmas.{refused_from-push, text_of-kept, is_refused-kept}
use Rattle.mq_run.proofs.OutputLemmas.{world_then-kept}

-- ## What comes later adds text

IsPrefix-grown : (xs ys zs : List ℕ) → IsPrefix xs ys → IsPrefix xs (ys ++ zs)
IsPrefix-grown xs ys zs p = (p.0 ++ zs, ap (λ l. l ++ zs) p.1 ∙ append_assoc xs p.0 zs)

AppendsSome-grown : (a b : Option (List ℕ)) (w : World) (g ys : List ℕ)
    → AppendsSome a b (whole_output w g) → AppendsSome a b (whole_output w (g ++ ys))
AppendsSome-grown a b w g ys p =
    let more = whole_lines-grown g ys in
    let e : whole_output w (g ++ ys) ≡ whole_output w g ++ text_from w (whole_lines g) more.0 =
    ap (text_from w []) more.1 ∙ text_from-append w [] (whole_lines g) more.0 in
    (p.0, p.1, subst (IsPrefix p.0) (sym e) (IsPrefix-grown p.0 (whole_output w g) _ p.2))

-- answers to some first lines remain so when more is given
pub WritesLines-grown : (a b : Option (List ℕ)) (w : World) (g ys : List ℕ) → WritesLines w g a b
    → WritesLines w (g ++ ys) a b
WritesLines-grown a b w g ys p =
    let more = whole_lines-grown g ys in
    let h : p.0 ≤ length (whole_lines g) = p.1 in
    let same : take p.0 (whole_lines (g ++ ys)) ≡ take p.0 (whole_lines g) = ap (take p.0) more.1
    ∙ take-append-le p.0 (whole_lines g) more.0 h in (
      p.0,
      rw (more.1, length-append) (omega arith),
      subst (λ (ls : List (List ℕ)). Appends a b (text_from w [] ls)) (sym same) p.2,
    )

-- a run that stopped among what was given stopped among more, too
pub Stopped-grown : (a b : Option (List ℕ)) (w : World) (g ys : List ℕ) (e : RunFault)
    → Stopped w g e a b → Stopped w (g ++ ys) e a b
Stopped-grown a b w g ys fault.Read h = h
Stopped-grown a b w g ys fault.TooMuch h = h
Stopped-grown a b w g ys fault.Write h = AppendsSome-grown a b w g ys h
Stopped-grown a b w g ys fault.Memory h = WritesLines-grown a b w g ys h

-- ## Bytes that end no line

-- a run is fed, and nothing else changes
pub record IsFed (p q : Progress) : Type 0 where
  pub router : q.router ≡ p.router
  pub summary : q.summary ≡ p.summary

pub AreAnswered-fed : (w : World) (lines : List (List ℕ)) (p q : Progress) (a b : Option (List ℕ))
    → IsFed p q → AreAnswered w lines p a b → AreAnswered w lines q a b
AreAnswered-fed w lines p q a b fed so_far = record {
  stands = rw fed.router so_far.stands;
  lines = rw fed.summary so_far.lines;
  refused = rw fed.summary so_far.refused;
  written = so_far.written;
}

-- where what is kept stays the same, so does how far a run is
pub SoFar-kept : (w : World) (g : List ℕ) (p q : Progress) (a b : Option (List ℕ)) → IsFed p q
    → open_line q.feeder ≡ open_line p.feeder → SoFar w g p a b → SoFar w g q a b
SoFar-kept w g p q a b fed same so_far = record {
  answered = AreAnswered-fed w (whole_lines g) p q a b fed so_far.answered;
  line = same ∙ so_far.line;
}

-- where bytes end no line, nothing is written
pub SoFar-text : (w : World) (g xs : List ℕ) (p q : Progress) (a b : Option (List ℕ)) → IsFed p q
    → EndsNone p.feeder q.feeder xs → SoFar w g p a b → SoFar w (g ++ xs) q a b
unfolding EndsNone
SoFar-text w g xs p q a b fed none so_far =
    let more = none g so_far.line in
    record {
      answered = subst (λ lines. AreAnswered w lines q a b) (sym more.0)
          (AreAnswered-fed w (whole_lines g) p q a b fed so_far.answered);
      line = more.1;
    }

-- ## A line

Appends-end : (a b c : Option (List ℕ)) (xs : List ℕ) → Appends a b xs → Appends b c []
    → Appends a c xs
Appends-end a b c xs p q = subst (Appends a c) (append-nil xs) (Appends-trans a b c xs [] p q)

-- the text of the line that is at hand
next_text : (w : World) (lines all : List (List ℕ)) (p : Progress) (a b : Option (List ℕ))
    → (has : HasNext lines all p.feeder) → AreAnswered w lines p a b
    → text_of (p.summary.lines + 1) (world_after w lines) p.feeder.line.items
    ≡ text_of (length lines + 1) (world_after w lines) has.line
next_text w lines all p a b has so_far =
    let v = world_after w lines in
    ap (λ (k : ℕ). text_of (k + 1) v p.feeder.line.items) so_far.lines
    ∙ ap (text_of (length lines + 1) v) has.at_hand
    ∙ text_of-kept (length lines + 1) v has.line

-- whether it was refused
next_refused : (w : World) (lines all : List (List ℕ)) (p q : Progress) (a b c d : Option (List ℕ))
    → (has : HasNext lines all p.feeder) → AreAnswered w lines p a b
    → Answered (world_after w lines) p q c d
    → q.summary.refused ≡ refused_from w [] (lines ++ has.line ∷ [])
next_refused w lines all p q a b c d has so_far done =
    let v = world_after w lines in
    let count : ℕ = cond (is_refused v p.feeder.line.items) 1 0 in
    let same : count ≡ cond (is_refused v has.line) 1 0 =
    ap (λ (t : Bool). cond {A = ℕ} t 1 0)
    (ap (is_refused v) has.at_hand ∙ is_refused-kept v has.line) in
    let e = refused_from-push w lines has.line in
    let f = so_far.refused in
    let h = done.refused in
    omega arith

-- once it is answered, so are the lines up to it
pub AreAnswered-next : (w : World) (lines all : List (List ℕ)) (p q : Progress)
    (a b c : Option (List ℕ)) → HasNext lines all p.feeder → AreAnswered w lines p a b
    → Answered (world_after w lines) p q b c → q.summary.lines ≡ p.summary.lines + 1
    → AreAnswered w all q a c
AreAnswered-next w lines all p q a b c has so_far done number =
    let v = world_after w lines in
    subst (λ l. AreAnswered w l q a c) (sym has.next) (record {
      stands = rw (world_after-push w lines has.line) (subst (StandsFor q.router)
          (ap (world_then v) has.at_hand ∙ world_then-kept v has.line) done.stands);
      lines = let n = so_far.lines in rw length-append (omega arith);
      refused = next_refused w lines all p q a b b c has so_far done;
      written = subst (Appends a c) (sym (text_from-push w lines has.line))
          (Appends-trans a b c (text_from w [] lines) (text_of (length lines + 1) v has.line)
          so_far.written (subst (Appends b c) (next_text w lines all p a b has so_far)
          done.written));
    })

-- a part of its text was written
next_part : (w : World) (lines all : List (List ℕ)) (p : Progress) (a b c : Option (List ℕ))
    → HasNext lines all p.feeder → AreAnswered w lines p a b
    → AppendsSome b c (text_of (p.summary.lines + 1) (world_after w lines) p.feeder.line.items)
    → AppendsSome a c (text_from w [] all)
next_part w lines all p a b c has so_far h =
    let v = world_after w lines in
    let before : List ℕ = text_from w [] lines in
    let part : text_of (length lines + 1) v has.line ≡ h.0 ++ h.2.0 =
    sym (next_text w lines all p a b has so_far) ∙ h.2.1 in (
      before ++ h.0,
      Appends-trans a b c before h.0 so_far.written h.1,
      (
        h.2.0,
        ap (text_from w []) has.next ∙ text_from-push w lines has.line
            ∙ ap (λ l. before ++ l) part ∙ sym (append_assoc before h.0 h.2.0),
      ),
    )

-- nothing more was written
pub Stopped-memory : (w : World) (g : List ℕ) (p : Progress) (a b c : Option (List ℕ))
    → AreAnswered w (whole_lines g) p a b → Appends b c [] → WritesLines w g a c
Stopped-memory w g p a b c so_far h = (
  length (whole_lines g),
  omega arith,
  rw (take_all (length (whole_lines g)) (whole_lines g) (omega arith))
      (Appends-end a b c (whole_output w g) so_far.written h),
)

-- where the line that some bytes end isn't answered, the run stops among what was given
pub Stopped-line : (w : World) (g xs : List ℕ) (p : Progress) (a b c : Option (List ℕ))
    (e : RunFault) → HasNext (whole_lines g) (whole_lines (g ++ xs)) p.feeder
    → AreAnswered w (whole_lines g) p a b → Unanswered (world_after w (whole_lines g)) p e b c
    → Stopped w (g ++ xs) e a c
Stopped-line w g xs p a b c fault.Read has so_far h = h
Stopped-line w g xs p a b c fault.TooMuch has so_far h = h
Stopped-line w g xs p a b c fault.Write has so_far h =
    next_part w (whole_lines g) (whole_lines (g ++ xs)) p a b c has so_far h
Stopped-line w g xs p a b c fault.Memory has so_far h =
    WritesLines-grown a c w g xs (Stopped-memory w g p a b c so_far h)

-- where a last piece isn't answered, the run stops at it
pub StoppedLast-piece : (w : World) (g : List ℕ) (p : Progress) (a b c : Option (List ℕ))
    (e : RunFault) → HasNext (whole_lines g) (all_lines g) p.feeder
    → AreAnswered w (whole_lines g) p a b → Unanswered (world_after w (whole_lines g)) p e b c
    → StoppedLast w g e a c
StoppedLast-piece w g p a b c fault.Read has so_far h = h
StoppedLast-piece w g p a b c fault.TooMuch has so_far h = h
StoppedLast-piece w g p a b c fault.Write has so_far h =
    next_part w (whole_lines g) (all_lines g) p a b c has so_far h
StoppedLast-piece w g p a b c fault.Memory has so_far h = Stopped-memory w g p a b c so_far h

-- ## The end of a run

-- a run that stops among what was given ends as its fault says
pub Ending-stopped : (limit : ℕ) (w : World) (e : RunFault) (seen : Seen)
    → Stopped w seen.given e seen.before seen.after
    → seen.reader.after ≡ seen.reader.before
    → seen.writer.after ≡ seen.writer.before + write_failures e → Ending limit w (Err e) seen
Ending-stopped limit w fault.Read seen s p q = absurd s
Ending-stopped limit w fault.TooMuch seen s p q = absurd s
Ending-stopped limit w fault.Write seen s p q = record { written = inl s; reader = p; writer = q }
Ending-stopped limit w fault.Memory seen s p q =
    record { written = s; reader = p; writer = omega (arith, q) }

-- a run that stops at the last piece ends as its fault says, its reader at its end
pub Ending-last : (limit : ℕ) (w : World) (e : RunFault) (seen : Seen) → IsAtEnd seen.left
    → StoppedLast w seen.given e seen.before seen.after
    → seen.reader.after ≡ seen.reader.before
    → seen.writer.after ≡ seen.writer.before + write_failures e → Ending limit w (Err e) seen
Ending-last limit w fault.Read seen end s p q = absurd s
Ending-last limit w fault.TooMuch seen end s p q = absurd s
Ending-last limit w fault.Write seen end s p q =
    record { written = inr (end, s); reader = p; writer = q }
Ending-last limit w fault.Memory seen end s p q =
    record { written = s; reader = p; writer = omega (arith, q) }

-- to append a whole text is to append a front of it
pub AppendsSome-all : (a b : Option (List ℕ)) (text : List ℕ) → Appends a b text
    → AppendsSome a b text
AppendsSome-all a b text p = (text, p, ([], sym (append-nil text)))

-- a flush that fails writes nothing
pub Stopped-flush : (a b c : Option (List ℕ)) (w : World) (g : List ℕ) (e : RunFault)
    → Appends a b (whole_output w g) → Keeps b c → e ≡ fault.Write → Stopped w g e a c
Stopped-flush a b c w g fault.Write h k is = AppendsSome-all a c _ (Appends-kept a b c _ h k)
Stopped-flush a b c w g fault.Read h k is = absurd (let bad : fault.Read ≡ fault.Write = is in cc)
Stopped-flush a b c w g fault.TooMuch h k is =
    absurd (let bad : fault.TooMuch ≡ fault.Write = is in cc)
Stopped-flush a b c w g fault.Memory h k is =
    absurd (let bad : fault.Memory ≡ fault.Write = is in cc)

-- ## The limit

take-take : (room n : ℕ) (buf : List ℕ) → room ≤ n → take room (take n buf) ≡ take room buf
take-take zero n buf h = refl
take-take (suc room) zero buf h = absurd (omega arith)
take-take (suc room) (suc n) [] h = refl
take-take (suc room) (suc n) (x ∷ xs) h = ap (λ l. x ∷ l) (take-take room n xs (omega arith))

take_within : (buf : List ℕ) (room n : ℕ) → room ≤ n
    → take n buf ≡ take room buf ++ drop room (take n buf)
take_within buf room n h = sym (take-append-drop room (take n buf))
    ∙ ap (λ l. l ++ drop room (take n buf)) (take-take room n buf h)

-- where more comes than has room, the room is within it
pub room_within : (r room n : ℕ) → r ≡ room → room < n → r ≤ n
room_within r room n is less = omega arith

-- and what was given is over the limit
pub limit_over : (g xs : List ℕ) (n room limit : ℕ) → length g + room ≡ limit → length xs ≡ n
    → room < n → limit < length (g ++ xs)
limit_over g xs n room limit so_far count less = rw length-append (omega arith)

-- what is within the limit is what was given before and as much of the buffer as has room
pub over_take : (g buf : List ℕ) (limit room n : ℕ) → length g + room ≡ limit → room ≤ n
    → take limit (g ++ take n buf) ≡ g ++ take room buf
over_take g buf limit room n e h = ap (λ (k : ℕ). take k (g ++ take n buf)) (sym e)
    ∙ take-append-add g (take n buf) room ∙ ap (λ l. g ++ l) (take-take room n buf h)

-- a run that stops among the first bytes of a buffer stops among more of them, too
pub Stopped-front : (a b : Option (List ℕ)) (w : World) (g buf : List ℕ) (room n : ℕ) (e : RunFault)
    → room ≤ n → Stopped w (g ++ take room buf) e a b → Stopped w (g ++ take n buf) e a b
Stopped-front a b w g buf room n e h s =
    let same : (g ++ take room buf) ++ drop room (take n buf) ≡ g ++ take n buf =
    append_assoc g (take room buf) (drop room (take n buf))
    ∙ ap (λ l. g ++ l) (sym (take_within buf room n h)) in
    subst (λ (l : List ℕ). Stopped w l e a b) same
    (Stopped-grown a b w (g ++ take room buf) (drop room (take n buf)) e s)
