use Rattle.std.proofs.Common.{length, ap, arith}
use Rattle.std.specs.Map.{keys_of}
use Rattle.mq_topic.specs.Prefixes.{capped, prefixes}
use Rattle.mq_tree.proofs.tree.LevelTree.nodes.Goals as goal

pub returns : goal.returns
returns g c = omega (arith, ap (λ es. capped (length (prefixes (keys_of es)))) c.self.view_is)
