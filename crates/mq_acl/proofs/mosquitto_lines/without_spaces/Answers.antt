use Rattle.std.proofs.Common.{sym, subst}
use Rattle.std.specs.Str.{IsCharBoundary}
use Rattle.mq_acl.specs.MosquittoLines.{is_space}
use Rattle.mq_acl.proofs.WordLemmas.{boundary_after_passes, is_space-ascii}
use Rattle.mq_acl.proofs.mosquitto_lines.without_spaces.Goals as goal

pub split_at-requires : goal.split_at-requires
split_at-requires c = subst (IsCharBoundary c.args.text.now) (sym c.space_len-count.ensures)
    (boundary_after_passes is_space is_space-ascii c.args.text.now c.utf8.text)
