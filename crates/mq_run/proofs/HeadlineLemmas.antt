-- A run over honest devices with ample memory ends well, and answers all of the script.
use Rattle.std.proofs.Common.{◌≡◌, ◌≤◌, ℕ, List, ◌++◌, length, Option, Some, None, Result, Ok, Err}
use Rattle.std.proofs.Common.{refl, sym, ap, ◌∙◌, arith, subst, append-nil, length-append}
use Rattle.std.specs.Prelude.{IsOkAnd}
use Rattle.std.specs.Io.KnownBytes.{Appends, Consumes, IsAtEnd}
use Rattle.mq_world.specs.World.{World}
use Rattle.mq_run.specs.declared.outcome.Summary.{Summary}
use Rattle.mq_run.specs.declared.outcome.RunFault.{RunFault}
use Rattle.mq_run.specs.declared.outcome.RunFault.TheVariants as fault
use Rattle.mq_run.specs.Output.{output, Summarizes}
use Rattle.mq_run.specs.Ending.{Seen, Watched, DidNotFail, Failed, Failures, Ending, EndsOver}
use Rattle.mq_run.specs.Ending.{AnswersWhole}

-- all that a reader shows was given, where it is at its end
pub whole : (a b : Option (List ℕ)) (script given : List ℕ) → a ≡ Some script → Consumes a b given
    → IsAtEnd b → given ≡ script
whole None b script given e c end = absurd (let bad : None ≡ Some script = e in cc)
whole (Some x) None script given e c end = absurd c
whole (Some x) (Some y) script given e c end =
    let same : x ≡ script = let f : Some x ≡ Some script = e in cc in
    sym (append-nil given) ∙ ap (λ l. given ++ l) (sym end) ∙ sym c ∙ same

front : (a b : Option (List ℕ)) (script given : List ℕ) → a ≡ Some script → Consumes a b given
    → length given ≤ length script
front None b script given e c = absurd (let bad : None ≡ Some script = e in cc)
front (Some x) None script given e c = absurd c
front (Some x) (Some y) script given e c =
    let same : x ≡ script = let f : Some x ≡ Some script = e in cc in
    rw (← same, c, length-append) (omega arith)

-- a writer that shows what it had taken has then taken the text after it
pub written : (a b : Option (List ℕ)) (before text : List ℕ) → a ≡ Some before → Appends a b text
    → b ≡ Some (before ++ text)
written None b before text e c = absurd (let bad : None ≡ Some before = e in cc)
written (Some x) None before text e c = absurd c
written (Some x) (Some y) before text e c =
    let same : x ≡ before = let f : Some x ≡ Some before = e in cc in
    ap Some (c ∙ ap (λ l. l ++ text) same)

failed_not : (calls : Failures) → Failed calls → DidNotFail calls → ⊥
failed_not calls f d = absurd (omega (arith, f, d))

-- a run that ends well answers all of the script
pub Ending-ok : (limit : ℕ) (w : World) (summary : Summary) (seen : Seen)
    (to_come : Option (List ℕ)) (script before : List ℕ)
    → to_come ≡ Some script → seen.before ≡ Some before → Consumes to_come seen.left seen.given
    → Ending limit w (Ok summary) seen
    → (seen.after ≡ Some (before ++ output w script)) × Summarizes w script summary
Ending-ok limit w summary seen to_come script before e f c h =
    let all : seen.given ≡ script = whole to_come seen.left script seen.given e c h.ended in (
      written seen.before seen.after before (output w script) f
          (subst (λ (s : List ℕ). Appends seen.before seen.after (output w s)) all h.written),
      subst (λ (s : List ℕ). Summarizes w s summary) all h.summary,
    )

-- the device showed these bytes before, and none of its calls failed
record IsHonest (device : Watched) (bytes : List ℕ) : Type 0 where
  pub so_far : device.before ≡ Some bytes
  pub well : DidNotFail device.calls

-- the script is within the limit, and memory sufficed
record IsWithin (limit : ℕ) (script : List ℕ) (result : Result Summary RunFault) : Type 0 where
  pub bytes : length script ≤ limit
  pub memory : result ≡ Err fault.Memory → ⊥

-- where the devices show their bytes and don't fail, and memory suffices, it ends well
EndsOver-honest : (limit : ℕ) (w : World) (result : Result Summary RunFault)
    (reader writer : Watched) (script before : List ℕ)
    → EndsOver limit w result reader writer → IsHonest reader script → IsHonest writer before
    → IsWithin limit script result
    → IsOkAnd result (λ summary. (writer.after ≡ Some (before ++ output w script))
    × Summarizes w script summary)
EndsOver-honest limit w (Ok summary) reader writer script before end reads writes within =
    Ending-ok limit w summary _ reader.before script before reads.so_far writes.so_far end.1 end.2
EndsOver-honest limit w (Err fault.Read) reader writer script before end reads writes within =
    absurd (failed_not reader.calls end.2.reader reads.well)
EndsOver-honest limit w (Err fault.Write) reader writer script before end reads writes within =
    absurd (failed_not writer.calls end.2.writer writes.well)
EndsOver-honest limit w (Err fault.TooMuch) reader writer script before end reads writes within =
    let fits = front reader.before reader.after script end.0 reads.so_far end.1 in
    let over = end.2.over in
    let small = within.bytes in
    absurd (omega arith)
EndsOver-honest limit w (Err fault.Memory) reader writer script before end reads writes within =
    absurd (within.memory refl)

-- the headline
pub headline : (limit : ℕ) (w : World) (result : Result Summary RunFault)
    (reader writer : Watched) → EndsOver limit w result reader writer
    → AnswersWhole limit w result reader writer
headline limit w result reader writer end = λ script before so_far taken small reads writes memory.
    EndsOver-honest limit w result reader writer script before end
    (record { so_far = so_far; well = reads }) (record { so_far = taken; well = writes })
    (record { bytes = small; memory = memory })
