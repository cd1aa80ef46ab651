use Rattle.std.proofs.Common.{◌≡◌}
use Rattle.mq_acl.specs.declared.access.Direction.TheVariants.{Reading, Writing}
use Rattle.mq_ask_who.specs.WhoShown.{in_direction}
use Rattle.mq_ask_who.proofs.permissions.by_direction.Given as goal

abbrev pub invariant-loop-one : goal.invariant-loop-one
invariant-loop-one l = record {
  reading : l.reading.items ≡ in_direction Reading l.yielded;
  writing : l.writing.items ≡ in_direction Writing l.yielded;
}
