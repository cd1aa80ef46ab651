use Rattle.std.proofs.Common.{sym, subst}
use Rattle.std.specs.Str.{IsCharBoundary}
use Rattle.mq_acl.specs.MosquittoLines.{is_white}
use Rattle.mq_acl.proofs.WordLemmas.{boundary_after_passes, is_white-ascii}
use Rattle.mq_acl.proofs.mosquitto_lines.without_white.Goals as goal

pub split_at-requires : goal.split_at-requires
split_at-requires c = subst (IsCharBoundary c.args.text.now) (sym c.white_len-count.ensures)
    (boundary_after_passes is_white is_white-ascii c.args.text.now c.utf8.text)
