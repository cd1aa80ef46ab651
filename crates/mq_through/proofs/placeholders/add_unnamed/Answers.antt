use Rattle.std.proofs.Common.{List, Global, String, ap, not, sym, ◌∙◌}
use Rattle.mq_differences.specs.Differences.{has_text}
use Rattle.mq_through.specs.Clients.{is_named}
use Rattle.mq_through.proofs.UnnamedLemmas.{one_more}
use Rattle.mq_through.proofs.placeholders.add_unnamed.Goals as goal

pub returns : goal.returns
returns c = λ other.
    ap (λ (texts : List (String Global)). has_text texts other) c.in_ok-push.ensures.items
    ∙ one_more (λ t. not (is_named c.args.comparison.now t)) c.args.placeholders.now.items
    c.in_ok-from_str.field-0 c.args.text.now other c.in_ok-from_str.ensures.ok
    (ap not (sym c.is_named.ensures ∙ c.if-is_named.false))
