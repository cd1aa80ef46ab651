use Rattle.std.proofs.Common.{◌∙◌, ap, sym, Bool, codes, [], if◌then◌else◌}
use Rattle.mq_ask_cases.proofs.RowLemmas.{example_is}
use Rattle.mq_ask_cases.proofs.change_rows.example_words.Goals as goal

pub returns-then-may_have_several : goal.returns-then-may_have_several
returns-then-may_have_several c =
    ap (λ (b : Bool). if b then codes "for example " else []) (sym c.if-may_have_several.true)
    ∙ example_is c.args.sides.now _ c.may_have_several.ensures

pub returns-else-may_have_several : goal.returns-else-may_have_several
returns-else-may_have_several c =
    ap (λ (b : Bool). if b then codes "for example " else []) (sym c.if-may_have_several.false)
    ∙ example_is c.args.sides.now _ c.may_have_several.ensures
