-- What a device wraps, and how often it failed.
use Rattle.std.specs.Prelude.{ℕ, List, Option, option_and_then}
use Rattle.mq_run.specs.declared.devices.standard.StdSource.{StdSource}
use Rattle.mq_run.specs.declared.devices.standard.StdSink.{StdSink}

abbrev pub reader_of : {R : Type 0} → StdSource R → R
reader_of s = s.inner

abbrev pub source_failures : {R : Type 0} → StdSource R → ℕ
source_failures s = s.failed

abbrev pub writer_of : {W : Type 0} → StdSink W → W
writer_of s = s.inner

abbrev pub sink_failures : {W : Type 0} → StdSink W → ℕ
sink_failures s = s.failed

-- what the writer of a sink held after its last flush
abbrev pub flushed_contents : {W : Type 0} → (W → Option (List ℕ)) → StdSink W → Option (List ℕ)
flushed_contents contents s = option_and_then (λ flushed. contents flushed.value) s.flushed
