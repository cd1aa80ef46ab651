use Rattle.std.proofs.lemmas.Str.Pattern.{starts_text}
use Rattle.mq_shapes.proofs.prefix.is_like.Goals as goal

pub returns : goal.returns
returns c = starts_text _ c.args.prefix.now c.args.level.now c.starts_with.ensures.cases
