use Rattle.std.proofs.Common.{string_bytes}
use Rattle.mqroute_acl.proofs.ListFileLemmas.{text_only}
use Rattle.mqroute_acl.proofs.files.text_in.Goals as goal

pub returns-in-Ok : goal.returns-in-Ok
returns-in-Ok g c =
    text_only (g.R.Read.remaining c.args.reader) (string_bytes c.in-Ok.text) c.in-Ok.ensures.ok
