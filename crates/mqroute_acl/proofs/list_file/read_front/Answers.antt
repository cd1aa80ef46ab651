use Rattle.mqroute_acl.proofs.ListFileLemmas.{front_read}
use Rattle.mqroute_acl.proofs.list_file.read_front.Goals as goal

pub returns-in-Ok-clause-ok : goal.returns-in-Ok-clause-ok
returns-in-Ok-clause-ok g c =
    front_read (g.R.Read.remaining c.args.reader) c.take-first.result.limit 16777217
    c.read_to_end.new.buf.items c.take-first.ensures.limit
    (rw (c.take-first.ensures.inner, c.new-front.ensures.items) at c.in-Ok.ensures.bytes)
