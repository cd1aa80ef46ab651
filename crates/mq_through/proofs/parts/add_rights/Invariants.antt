use Rattle.std.proofs.Common.{◌≡◌, ◌++◌, take}
use Rattle.mq_rename.specs.Lists.{texts}
use Rattle.mq_through.specs.Parts.{rights_of}
use Rattle.mq_through.proofs.parts.add_rights.Given as goal

-- the right sides of the rules so far
abbrev pub invariant-loop-rule : goal.invariant-loop-rule
invariant-loop-rule l =
    texts l.taken.items ≡ texts l.fn.taken.items ++ rights_of (take l.rule-index l.rules)
