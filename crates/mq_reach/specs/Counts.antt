-- How lines are counted.
use Rattle.std.specs.Prelude.{◌+◌, Some}
use Rattle.std.specs.Option.{option_or}
use Rattle.mq_reach.specs.declared.counts.Counts.{Counts}
use Rattle.mq_reach.specs.declared.counts.LineKind.{LineKind}
use Rattle.mq_reach.specs.declared.counts.LineKind.TheVariants.{Subscription, Command, NoCommand}
use Rattle.mq_reach.specs.declared.counts.LineKind.TheVariants.{Blank}

-- one line more, of this kind
abbrev pub counted : Counts → LineKind → Counts
counted c Subscription = record c {
  lines = c.lines + 1;
  commands = c.commands + 1;
  subscriptions = c.subscriptions + 1;
}
counted c Command = record c { lines = c.lines + 1; commands = c.commands + 1 }
counted c NoCommand = record c {
  lines = c.lines + 1;
  faulty = c.faulty + 1;
  first_faulty = option_or c.first_faulty (Some (c.lines + 1));
}
counted c Blank = record c { lines = c.lines + 1 }
