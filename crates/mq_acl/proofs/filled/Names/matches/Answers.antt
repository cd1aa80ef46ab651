use Rattle.std.proofs.Common.{sym, ap, not, ◌∙◌}
use Rattle.mq_topic.specs.Levels.{levels}
use Rattle.mq_topic.proofs.Walk.{hidden, shown}
use Rattle.mq_acl.specs.Filled.{filled}
use Rattle.mq_acl.proofs.FilledLemmas.{same_hidden}
use Rattle.mq_acl.proofs.filled.Names.matches.Goals as goal

pub returns-then-not-is_hidden : goal.returns-then-not-is_hidden
returns-then-not-is_hidden c =
    let text = filled c.args.self.client.now c.args.self.user.now c.args.filter.now in
    let name = c.args.name.now in
    c.match_levels.ensures
    ∙ sym (shown (levels text) name
    (same_hidden c.args.self.client.now c.args.self.user.now c.args.filter.now (levels name)
    c.requires.client c.requires.user c.requires.filter
    ∙ sym c.is_hidden.ensures ∙ c.if-not-is_hidden.true))

pub returns-else-not-is_hidden : goal.returns-else-not-is_hidden
returns-else-not-is_hidden c =
    let text = filled c.args.self.client.now c.args.self.user.now c.args.filter.now in
    let name = c.args.name.now in
    ap not c.if-not-is_hidden.false
    ∙ sym (hidden (levels text) (levels name)
    (same_hidden c.args.self.client.now c.args.self.user.now c.args.filter.now (levels name)
    c.requires.client c.requires.user c.requires.filter
    ∙ sym c.is_hidden.ensures ∙ c.if-not-is_hidden.false))
