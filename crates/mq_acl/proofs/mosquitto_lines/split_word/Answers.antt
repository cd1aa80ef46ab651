use Rattle.std.proofs.Common.{sym, subst}
use Rattle.std.specs.Str.{IsCharBoundary}
use Rattle.mq_acl.specs.MosquittoLines.{is_space}
use Rattle.mq_acl.proofs.WordLemmas.{boundary_before_pass, is_space-ascii}
use Rattle.mq_acl.proofs.mosquitto_lines.split_word.Goals as goal

pub split_at-requires : goal.split_at-requires
split_at-requires c = subst (IsCharBoundary c.args.text.now) (sym c.word_len-count.ensures)
    (boundary_before_pass is_space is_space-ascii c.args.text.now)
