-- How a run ends.
use Rattle.std.specs.Prelude.{◌≡◌, ◌≤◌, ◌<◌, ◌⊎◌, ℕ, ◌+◌, List, ◌++◌, length, take, Option, Result}
use Rattle.std.specs.Prelude.{◌≢◌, Ok, Err, IsOkAnd, Some}
use Rattle.std.specs.Io.KnownBytes.{Appends, Consumes, IsAtEnd}
use Rattle.mq_world.specs.World.{World}
use Rattle.mq_run.specs.declared.outcome.Summary.{Summary}
use Rattle.mq_run.specs.declared.outcome.RunFault.{RunFault}
use Rattle.mq_run.specs.declared.outcome.RunFault.TheVariants as fault
use Rattle.mq_run.specs.Output.{output, whole_output, text_of_lines, Summarizes}
use Rattle.mq_jsonl.specs.Lines.{whole_lines}

-- how many calls of a device had failed before and after
pub record Failures : Type 0 where
  pub before : ℕ
  pub after : ℕ

abbrev pub DidNotFail : Failures → Type 0
DidNotFail calls = calls.after ≡ calls.before

abbrev pub Failed : Failures → Type 0
Failed calls = calls.after ≡ calls.before + 1

-- how many calls of the writer fail by an error
abbrev pub write_failures : RunFault → ℕ
write_failures fault.Write = 1
write_failures fault.Read = 0
write_failures fault.TooMuch = 0
write_failures fault.Memory = 0

abbrev pub failures_of : {T : Type 0} → Result T RunFault → ℕ
failures_of (Ok x) = 0
failures_of (Err e) = write_failures e

-- what is known of a device: the bytes that it shows before and after, and the failures
pub record Watched : Type 0 where
  pub before : Option (List ℕ)
  pub after : Option (List ℕ)
  pub calls : Failures

-- of a device of which such bytes and such failures are shown
abbrev pub watch : {D : Type 0} → (D → Option (List ℕ)) → (D → ℕ) → (old new : D) → Watched
watch bytes failures old new = record {
  before = bytes old;
  after = bytes new;
  calls = record { before = failures old; after = failures new };
}

-- what was seen of the devices: the bytes that the reader gave and those that are known to come, what the writer had
-- taken before and after, and the failures of both
pub record Seen : Type 0 where
  pub given : List ℕ
  pub left : Option (List ℕ)
  pub before : Option (List ℕ)
  pub after : Option (List ℕ)
  pub reader : Failures
  pub writer : Failures

abbrev pub IsPrefix : List ℕ → List ℕ → Type 0
IsPrefix xs ys = (zs : List ℕ) × (ys ≡ xs ++ zs)

-- a prefix of a text was written
abbrev pub AppendsSome : Option (List ℕ) → Option (List ℕ) → List ℕ → Type 0
AppendsSome before after text = (part : List ℕ) × Appends before after part × IsPrefix part text

-- the answers to the first lines were written, however many, and to no last piece
abbrev pub WritesLines : World → (given : List ℕ) (before after : Option (List ℕ)) → Type 0
WritesLines w given before after =
    (n : ℕ) × (n ≤ length (whole_lines given))
    × Appends before after (text_of_lines w (take n (whole_lines given)))

-- how a run of at most so many bytes ends that began in a world
abbrev pub Ending : ℕ → World → Result Summary RunFault → Seen → Type 0
Ending limit w (Ok summary) seen = record {
  ended : IsAtEnd seen.left;
  within : length seen.given ≤ limit;
  written : Appends seen.before seen.after (output w seen.given);
  summary : Summarizes w seen.given summary;
  reader : DidNotFail seen.reader;
  writer : DidNotFail seen.writer;
}
Ending limit w (Err fault.Read) seen = record {
  written : Appends seen.before seen.after (whole_output w seen.given);
  reader : Failed seen.reader;
  writer : DidNotFail seen.writer;
}
Ending limit w (Err fault.Write) seen = record {
  written : AppendsSome seen.before seen.after (whole_output w seen.given)
      ⊎ (IsAtEnd seen.left × AppendsSome seen.before seen.after (output w seen.given));
  reader : DidNotFail seen.reader;
  writer : Failed seen.writer;
}
Ending limit w (Err fault.TooMuch) seen = record {
  over : limit < length seen.given;
  written : Appends seen.before seen.after (whole_output w (take limit seen.given));
  reader : DidNotFail seen.reader;
  writer : DidNotFail seen.writer;
}
Ending limit w (Err fault.Memory) seen = record {
  written : WritesLines w seen.given seen.before seen.after;
  reader : DidNotFail seen.reader;
  writer : DidNotFail seen.writer;
}

-- it ended so over what its reader gave
abbrev pub EndsOver : ℕ → World → Result Summary RunFault → (reader writer : Watched) → Type 0
EndsOver limit w result reader writer = (given : List ℕ) × Consumes reader.before reader.after given
    × Ending limit w result (record {
      given = given;
      left = reader.after;
      before = writer.before;
      after = writer.after;
      reader = reader.calls;
      writer = writer.calls;
    })

-- the headline of a run of at most so many bytes that began in a world: where the devices show
-- their bytes and don't fail, the script isn't too long and memory suffices, all of the script is
-- answered, and nothing else is written
abbrev pub AnswersWhole : ℕ → World → Result Summary RunFault → (reader writer : Watched) → Type 0
AnswersWhole limit w result reader writer = (script before : List ℕ)
    → reader.before ≡ Some script → writer.before ≡ Some before → length script ≤ limit
    → DidNotFail reader.calls → DidNotFail writer.calls → result ≢ Err fault.Memory
    → IsOkAnd result (λ summary. (writer.after ≡ Some (before ++ output w script))
    × Summarizes w script summary)
