-- What the calls of a run make of it.
use Rattle.std.proofs.Common.{◌≡◌, ℕ, ◌+◌, List, [], ◌++◌, Bool, cond}
use Rattle.std.proofs.Common.{Option, Result, Ok, Err, ap, ◌∙◌, subst, sym, append_assoc}
use Rattle.std.proofs.Common.{append-nil}
use Rattle.std.specs.Prelude.{OnOk, OnErr, IfErr}
use Rattle.std.proofs.KnownBytes.{Appends-kept, Appends-nil}
use Rattle.std.specs.Io.KnownBytes.{Appends, Keeps}
use Rattle.mq_world.specs.World.{World}
use Rattle.mq_router.specs.StandsFor.{StandsFor}
use Rattle.mq_run.specs.declared.outcome.RunFault.{RunFault}
use Rattle.mq_run.specs.declared.outcome.RunFault.TheVariants as fault
use Rattle.mq_run.specs.declared.progress.Progress.{Progress}
use Rattle.mq_run.specs.Output.{world_after}
use Rattle.mq_run.specs.Ending.{AppendsSome}
use Rattle.mq_run.specs.Running.{AreAnswered, IsSoFar, SoFar, Stopped, Answers, AnswersLine}
use Rattle.mq_run.specs.Running.{StopsAtLine}
use Rattle.mq_run.specs.Running.{TakesBytes, StopsAmong, Takes, EndsLines, StopsLast, Ends}
use Rattle.mq_jsonl.specs.Lines.{all_lines, whole_lines}
use Rattle.mq_jsonl.specs.Feeding.{EndsLine, EndsNone, HasNext, Holds, open_line}
use Rattle.mq_run.proofs.RunLemmas.{AreAnswered-fed, AreAnswered-next, IsFed, SoFar-kept}
use Rattle.mq_run.proofs.RunLemmas.{SoFar-text, Stopped-grown}
use Rattle.mq_run.proofs.RunLemmas.{Stopped-line, Stopped-memory, StoppedLast-piece}
use Rattle.mq_run.proofs.RunLemmas.{AppendsSome-all, WritesLines-grown}

-- what holds whatever a call answers holds where it answers Ok
pub at_ok : {T E : Type 0} (result : Result T E) (P : Type 0) → P → OnOk result P
at_ok (Ok x) P h = h
at_ok (Err e) P h = tt

-- ## Bytes that are taken

-- where nothing is given, nothing changes
pub TakesBytes-none : (p : Progress) (a : Option (List ℕ)) → TakesBytes p p [] a a
unfolding TakesBytes
TakesBytes-none p a = λ w given start so_far. rw append-nil so_far

-- a run whose feeder only counts more bytes is as it was
TakesBytes-fed : (p q r : Progress) (xs : List ℕ) (a b : Option (List ℕ)) → IsFed q r
    → open_line r.feeder ≡ open_line q.feeder → TakesBytes p q xs a b → TakesBytes p r xs a b
unfolding TakesBytes
TakesBytes-fed p q r xs a b fed same s = λ w given start so_far.
    SoFar-kept w (given ++ xs) q r start b fed same (s w given start so_far)

-- bytes that are taken in two parts are taken
pub TakesBytes-then : (p q r : Progress) (xs ys : List ℕ) (a b c : Option (List ℕ))
    → TakesBytes p q xs a b → TakesBytes q r ys b c → TakesBytes p r (xs ++ ys) a c
unfolding TakesBytes
TakesBytes-then p q r xs ys a b c s t = λ w given start so_far.
    subst (λ (l : List ℕ). SoFar w l r start c) (append_assoc given xs ys)
    (t w (given ++ xs) start (s w given start so_far))

-- so are they where the second part is counted in between
pub TakesBytes-next : (p q r m : Progress) (xs ys : List ℕ) (a b c : Option (List ℕ))
    → TakesBytes r m ys b c → IsFed q r → open_line r.feeder ≡ open_line q.feeder
    → TakesBytes p q xs a b → TakesBytes p m (xs ++ ys) a c
TakesBytes-next p q r m xs ys a b c t fed same s =
    TakesBytes-then p r m xs ys a b c (TakesBytes-fed p q r xs a b fed same s) t

-- bytes that end no line are taken where they are kept
pub TakesBytes-text : (p q : Progress) (xs : List ℕ) (a : Option (List ℕ)) → IsFed p q
    → EndsNone p.feeder q.feeder xs → TakesBytes p q xs a a
unfolding TakesBytes
TakesBytes-text p q xs a fed none = λ w given start so_far.
    SoFar-text w given xs p q start a fed none so_far

-- a flush after lines writes nothing
AreAnswered-flushed : (w : World) (lines : List (List ℕ)) (p : Progress) (a b c : Option (List ℕ))
    → AreAnswered w lines p a b → Keeps b c → AreAnswered w lines p a c
AreAnswered-flushed w lines p a b c so_far keeps = record {
  stands = so_far.stands;
  lines = so_far.lines;
  refused = so_far.refused;
  written = Appends-kept a b c _ so_far.written keeps;
}

-- nor does one after bytes
pub TakesBytes-kept : (p q : Progress) (xs : List ℕ) (a b c : Option (List ℕ))
    → TakesBytes p q xs a b → Keeps b c → TakesBytes p q xs a c
unfolding TakesBytes
TakesBytes-kept p q xs a b c s keeps = λ w given start so_far.
    let now = s w given start so_far in
    record {
      answered = AreAnswered-flushed w (whole_lines (given ++ xs)) q start b c now.answered keeps;
      line = now.line;
    }

-- ## A run that stops among them

-- a run that takes some bytes and stops among the next ones stops among both
pub StopsAmong-then : (p q : Progress) (xs ys : List ℕ) (e : RunFault) (a b c : Option (List ℕ))
    → TakesBytes p q xs a b → StopsAmong q ys e b c → StopsAmong p (xs ++ ys) e a c
unfolding TakesBytes StopsAmong
StopsAmong-then p q xs ys e a b c s t = λ w given start so_far.
    subst (λ (l : List ℕ). Stopped w l e start c) (append_assoc given xs ys)
    (t w (given ++ xs) start (s w given start so_far))

-- also where those are counted in between
pub StopsAmong-next : (p q r : Progress) (xs ys : List ℕ) (e : RunFault) (a b c : Option (List ℕ))
    → StopsAmong r ys e b c → IsFed q r → open_line r.feeder ≡ open_line q.feeder
    → TakesBytes p q xs a b → StopsAmong p (xs ++ ys) e a c
StopsAmong-next p q r xs ys e a b c t fed same s =
    StopsAmong-then p r xs ys e a b c (TakesBytes-fed p q r xs a b fed same s) t

-- a run that stops among some bytes stops among them and any that follow
pub StopsAmong-grown : (p : Progress) (xs ys : List ℕ) (e : RunFault) (a b : Option (List ℕ))
    → StopsAmong p xs e a b → StopsAmong p (xs ++ ys) e a b
unfolding StopsAmong
StopsAmong-grown p xs ys e a b s = λ w given start so_far.
    subst (λ (l : List ℕ). Stopped w l e start b) (append_assoc given xs ys)
    (Stopped-grown start b w (given ++ xs) ys e (s w given start so_far))

-- a run that lacks memory stops with no more written than the answers so far
pub StopsAmong-memory : (p : Progress) (xs : List ℕ) (a : Option (List ℕ))
    → StopsAmong p xs fault.Memory a a
unfolding StopsAmong
StopsAmong-memory p xs a = λ w given start so_far.
    WritesLines-grown start a w given xs
    (Stopped-memory w given p start a a so_far.answered (Appends-nil a))

-- ## A line

-- a text was written, or some of it before the writer failed
pub record IsWritten {T : Type 0} (result : Result T RunFault) (text : List ℕ)
    (a b : Option (List ℕ)) : Type 0 where
  pub all : OnOk result (Appends a b text)
  pub some : OnErr result (AppendsSome a b text)
  pub kind : IfErr result (λ e. e ≡ fault.Write)

-- its answer is put together, and then written
pub Answers-written : {T : Type 0} (result : Result T RunFault) (p q : Progress) (refused : Bool)
    (text : List ℕ) (a b : Option (List ℕ))
    → ((w : World) → StandsFor p.router w
    → IsSoFar (p.summary.lines + 1) w p.feeder.line.items refused q.router [] text)
    → q.summary.refused ≡ p.summary.refused + cond refused 1 0
    → IsWritten result text a b → Answers p q result a b
unfolding AnswersLine StopsAtLine
Answers-written (Ok x) p q refused text a b so_far count is = λ w stands.
    let line = so_far w stands in
    record {
      stands = line.stands;
      refused = count ∙ ap (λ (r : Bool). p.summary.refused + cond r 1 0) line.refused;
      written = subst (λ (t : List ℕ). Appends a b t) line.text is.all;
    }
Answers-written (Err fault.Write) p q refused text a b so_far count is = λ w stands.
    subst (λ (t : List ℕ). AppendsSome a b t) (so_far w stands).text is.some
Answers-written (Err fault.Read) p q refused text a b so_far count is =
    absurd (let bad : fault.Read ≡ fault.Write = is.kind in cc)
Answers-written (Err fault.TooMuch) p q refused text a b so_far count is =
    absurd (let bad : fault.TooMuch ≡ fault.Write = is.kind in cc)
Answers-written (Err fault.Memory) p q refused text a b so_far count is =
    absurd (let bad : fault.Memory ≡ fault.Write = is.kind in cc)

-- ## Both

-- after bytes that are taken, others are taken with them or stop the run among both
pub Takes-then : {T : Type 0} (result : Result T RunFault) (p q r : Progress) (xs ys : List ℕ)
    (a b c : Option (List ℕ))
    → TakesBytes p q xs a b → Takes q r ys result b c → Takes p r (xs ++ ys) result a c
Takes-then (Ok x) p q r xs ys a b c s t = TakesBytes-then p q r xs ys a b c s t
Takes-then (Err e) p q r xs ys a b c s t = StopsAmong-then p q xs ys e a b c s t

-- where bytes end a line, its answer follows, or the run stops among them
pub Takes-line : {T : Type 0} (result : Result T RunFault) (p m q : Progress) (xs : List ℕ)
    (a b : Option (List ℕ)) → IsFed p m → EndsLine p.feeder m.feeder xs → Answers m q result a b
    → OnOk result (q.summary.lines ≡ m.summary.lines + 1) → q.feeder ≡ m.feeder
    → Takes p q xs result a b
unfolding TakesBytes StopsAmong AnswersLine StopsAtLine EndsLine
Takes-line (Ok x) p m q xs a b fed ends done number same = λ w given start so_far.
    let lines = whole_lines given in
    let ended = ends given so_far.line in
    let before = AreAnswered-fed w lines p m start a fed so_far.answered in
    record {
      answered = AreAnswered-next w lines (whole_lines (given ++ xs)) m q start a b ended.0
          before (done (world_after w lines) before.stands) number;
      line = ap open_line same ∙ ended.1;
    }
Takes-line (Err e) p m q xs a b fed ends done number same = λ w given start so_far.
    let lines = whole_lines given in
    let before = AreAnswered-fed w lines p m start a fed so_far.answered in
    Stopped-line w given xs m start a b e (ends given so_far.line).0 before
    (done (world_after w lines) before.stands)

-- ## The last piece

-- where none is kept, the end of the script changes nothing
pub EndsLines-none : (p : Progress) (a : Option (List ℕ))
    → ((given : List ℕ) → Holds given p.feeder → all_lines given ≡ whole_lines given)
    → EndsLines p p a a
unfolding EndsLines
EndsLines-none p a none = λ w given start so_far.
    subst (λ lines. AreAnswered w lines p start a) (sym (none given so_far.line)) so_far.answered

-- where one is kept, its answer ends the script, or the run stops at it
pub Ends-piece : {T : Type 0} (result : Result T RunFault) (p q : Progress) (a b : Option (List ℕ))
    → ((given : List ℕ) → Holds given p.feeder
    → HasNext (whole_lines given) (all_lines given) p.feeder)
    → Answers p q result a b → OnOk result (q.summary.lines ≡ p.summary.lines + 1)
    → Ends p q result a b
unfolding EndsLines StopsLast AnswersLine StopsAtLine
Ends-piece (Ok x) p q a b last done number = λ w given start so_far.
    AreAnswered-next w (whole_lines given) (all_lines given) p q start a b
    (last given so_far.line) so_far.answered
    (done (world_after w (whole_lines given)) so_far.answered.stands) number
Ends-piece (Err e) p q a b last done number = λ w given start so_far.
    StoppedLast-piece w given p start a b e (last given so_far.line) so_far.answered
    (done (world_after w (whole_lines given)) so_far.answered.stands)

-- a flush after it writes nothing
pub ends_flushed : {T : Type 0} (result : Result T RunFault) (p q : Progress)
    (a b c : Option (List ℕ)) → EndsLines p q a b → Keeps b c
    → IfErr result (λ e. e ≡ fault.Write) → Ends p q result a c
unfolding EndsLines StopsLast
ends_flushed (Ok x) p q a b c done keeps kind = λ w given start so_far.
    AreAnswered-flushed w (all_lines given) q start b c (done w given start so_far) keeps
ends_flushed (Err fault.Write) p q a b c done keeps kind = λ w given start so_far.
    let all = done w given start so_far in
    AppendsSome-all start c _ (Appends-kept start b c _ all.written keeps)
ends_flushed (Err fault.Read) p q a b c done keeps kind =
    absurd (let bad : fault.Read ≡ fault.Write = kind in cc)
ends_flushed (Err fault.TooMuch) p q a b c done keeps kind =
    absurd (let bad : fault.TooMuch ≡ fault.Write = kind in cc)
ends_flushed (Err fault.Memory) p q a b c done keeps kind =
    absurd (let bad : fault.Memory ≡ fault.Write = kind in cc)
