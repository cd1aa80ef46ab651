use Rattle.std.proofs.Common.{ap, subst, sym, string_bytes}
use Rattle.mq_acl.specs.Rows.{Named, Who}
use Rattle.mq_acl.specs.Views.{owner_view, row_view}
use Rattle.mq_lint.specs.Cases.{AreClasses}
use Rattle.mq_lint.proofs.ClassLemmas.{class_named}
use Rattle.mq_lint.proofs.linted.Lint.classes.Goals as goal

pub returns-in_ok-vec-in-Named : goal.returns-in_ok-vec-in-Named
returns-in_ok-vec-in-Named c =
    let asked = c.args.self.now.asked in
    let text = string_bytes c.in-Named.name in
    subst (λ (who : Who). AreClasses asked who c.in_ok-vec-in-Named.field-0.items)
    (sym (ap owner_view c.in-Named.is))
    (subst (AreClasses asked (Named text)) (sym c.in_ok-vec-in-Named.ensures.items)
    (class_named asked (row_view c.args.row.now) c.as_str.result text (ap owner_view c.in-Named.is)
    c.as_str.ensures.value c.requires))
