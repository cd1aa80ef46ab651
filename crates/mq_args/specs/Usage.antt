-- Why the words of a command line are not understood.
use Rattle.std.specs.Prelude.{◌≢◌}
use Rattle.clap.specs.Words.{Kinds, IsAmong}
use Rattle.clap.specs.declared.error.ErrorKind.{ErrorKind}
use Rattle.clap.specs.declared.error.ErrorKind.TheVariants.{DisplayHelp}
use Rattle.mq_args.specs.declared.usage.UsageFault.{UsageFault}
use Rattle.mq_args.specs.declared.usage.UsageFault.TheVariants.{Help, Usage, Memory}

-- why the words are refused, unless memory ran out: of some kind that they have
abbrev pub IsFaultOf : Kinds → UsageFault → Type 0
IsFaultOf kinds (Help text) = IsAmong DisplayHelp kinds
IsFaultOf kinds (Usage text) = (k : ErrorKind) × (k ≢ DisplayHelp) × IsAmong k kinds
IsFaultOf kinds Memory = Unit {0}
