use Rattle.std.proofs.Common.{◌≡◌, ◌≤◌, ◌-◌, length}
use Rattle.std.specs.Io.KnownBytes.{Consumes}
use Rattle.mq_cli.proofs.acl_file.read_file.Given as goal

abbrev pub invariant-reads : goal.invariant-reads
invariant-reads g l = record {
  within : length l.bytes.items ≤ l.limit;
  reader : g.R.Source.failures l.reader ≡ g.R.Source.failures l.fn.reader;
  given : Consumes (g.R.Source.to_come l.fn.reader) (g.R.Source.to_come l.reader) l.bytes.items;
}

abbrev pub decreases-reads : goal.decreases-reads
decreases-reads g l = l.limit - length l.bytes.items
