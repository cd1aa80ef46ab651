use Rattle.serde_json.proofs.Views.{members_view-insert_entry}
use Rattle.mq_print.proofs.json.put.Goals as goal

pub returns : goal.returns
returns c = rw (c.in_ok-insert.ensures.entries, members_view-insert_entry, c.in_ok-name.ensures.ok)
