use Rattle.std.proofs.Common.{◌∙◌, ap, sym}
use Rattle.std.specs.Option.{option_copied}
use Rattle.mq_ask_who.proofs.WhoLemmas.{shown_none, shown_some}
use Rattle.mq_ask_who.proofs.who.outcome_of.Goals as goal

pub returns-then-has_shown : goal.returns-then-has_shown
returns-then-has_shown c rules rows wanted listing =
    shown_some rules rows wanted c.args.selection.now.access
    (option_copied c.args.selection.now.only) c.in-Some.field-0.now c.args.granted.now
    (ap option_copied c.in-Some.is) listing (sym c.has_shown.ensures ∙ c.if-has_shown.true)

pub returns : goal.returns
returns c rules rows wanted listing =
    shown_none rules rows wanted c.args.selection.now.access
    (option_copied c.args.selection.now.only) c.in-Some.field-0.now c.args.granted.now
    (ap option_copied c.in-Some.is) listing (sym c.has_shown.ensures ∙ c.if-has_shown.false)
