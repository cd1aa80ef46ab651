-- The end of a run, spoken of by the script that its reader shows.
use Rattle.std.proofs.Common.{◌≡◌, ℕ, List, [], ◌++◌, Option, Some, None, Result, Ok, refl, sym}
use Rattle.std.specs.Io.KnownBytes.{Consumes, IsAtEnd}
use Rattle.mq_world.specs.World.{World}
use Rattle.mq_run.specs.declared.outcome.Summary.{Summary}
use Rattle.mq_run.specs.declared.outcome.RunFault.{RunFault}
use Rattle.mq_run.specs.Output.{output}
use Rattle.mq_run.specs.Ending.{Watched, EndsOver}
use Rattle.mq_cli.specs.Program.{IsScript, AnswersScript, WritesFront}
use Rattle.mq_run.proofs.HeadlineLemmas.{whole, written}
use Rattle.mq_run.proofs.FrontLemmas.{Ending-front}

is_script : (a b : Option (List ℕ)) (given : List ℕ) → Consumes a b given → IsAtEnd b
    → IsScript None a given
is_script None b given c end = tt
is_script (Some x) b given c end = whole (Some x) b x given refl c end

-- ended well, it answers some script, which is all that the reader shows
pub EndsOver-script : (limit : ℕ) (w : World) (summary : Summary) (reader writer : Watched)
    (before : List ℕ)
    → EndsOver limit w (Ok summary) reader writer → writer.before ≡ Some before
    → (script : List ℕ) × IsScript None reader.before script
    × AnswersScript w script before writer.after summary
EndsOver-script limit w summary reader writer before end e = (
  end.0,
  is_script reader.before reader.after end.0 end.1 end.2.ended,
  record {
    written = written writer.before writer.after before (output w end.0) e end.2.written;
    counts = end.2.summary;
  },
)

-- ## What was written, however the run ended

-- what the reader still has to give, and all that it shows
shown_at : (a b : Option (List ℕ)) (given : List ℕ) → Consumes a b given → (rest : List ℕ)
    × (IsAtEnd b → rest ≡ []) × IsScript None a (given ++ rest)
shown_at None b given c = ([], λ _. refl, tt)
shown_at (Some x) None given c = absurd c
shown_at (Some x) (Some y) given c = (y, λ e. e, sym c)

-- however a run over its input ends, it wrote a front of what all of the input writes
pub EndsOver-front : (limit : ℕ) (w : World) (result : Result Summary RunFault)
    (reader writer : Watched) → EndsOver limit w result reader writer
    → WritesFront w None reader.before writer.before writer.after
EndsOver-front limit w result reader writer end =
    let shown = shown_at reader.before reader.after end.0 end.1 in
    (end.0 ++ shown.0, shown.2, Ending-front limit w result _ shown.0 shown.1 end.2)
