use Rattle.std.proofs.Common.{sym, ap, ◌∙◌}
use Rattle.std.specs.Option.{option_copied}
use Rattle.mq_topic.specs.Levels.{levels}
use Rattle.mq_topic.specs.Matching.{matches}
use Rattle.mq_acl.specs.Filled.{filled}
use Rattle.mq_acl.specs.Mosquitto.{is_asked}
use Rattle.mq_acl.specs.Views.{owner_view, row_view}
use Rattle.mq_acl.proofs.MosquittoLemmas.{pattern_covers}
use Rattle.mq_acl.proofs.mosquitto.covers.Goals as goal

pub returns-then-is_asked : goal.returns-then-is_asked
returns-then-is_asked c =
    let filter = c.args.row.now.filter in
    c.matches.ensures
    ∙ (λ i. matches (levels (filled (c.names.ensures.client i) (c.names.ensures.user i)
    (c.text-filter.ensures.text i))) (levels (c.text.ensures.text i)))
    ∙ pattern_covers c.args.client.id.now (option_copied c.args.client.user) c.args.name.now
    (row_view c.args.row.now) (ap owner_view c.in-Everyone.is)
    (ap (is_asked c.args.client.id.now (option_copied c.args.client.user)) (sym c.text-filter.ensures.text)
    ∙ sym c.is_asked.ensures ∙ c.if-is_asked.true)
