use Rattle.std.proofs.Common.{◌≡◌, ◌∙◌, ◌++◌, ◌∷◌, [], Some, None, ap, append-nil, sym}
use Rattle.std.specs.Option.{option_copied}
use Rattle.std.proofs.lemmas.List.{map-append}
use Rattle.mq_rename.specs.Lists.{texts}
use Rattle.mq_plan.specs.Names.{rename_of}
use Rattle.mq_through.proofs.LoopLemmas.{rights_more}
use Rattle.mq_through.proofs.parts.add_rights.Goals as goal

pub loop-rule-preserved-in_default : goal.loop-rule-preserved-in_default
loop-rule-preserved-in_default c =
    let none : rename_of c.rule-item.result ≡ None =
    sym c.rename.ensures ∙ ap option_copied c.in_default.is in
    rights_more c.args.rules.now c.loop-rule.rule-index c.rule-item.result None
    (texts c.args.taken.now.items) (texts c.loop-rule.taken.items)
    (texts c.loop-rule.taken.items) c.loop-rule-test.true c.rule-item.is none
    (sym (append-nil (texts c.loop-rule.taken.items))) c.loop-rule.invariant

pub loop-rule-preserved : goal.loop-rule-preserved
loop-rule-preserved c =
    let some : rename_of c.rule-item.result ≡ Some c.in-Some.rename.now =
    sym c.rename.ensures ∙ ap option_copied c.in-Some.is in
    rights_more c.args.rules.now c.loop-rule.rule-index c.rule-item.result
    (Some c.in-Some.rename.now) (texts c.args.taken.now.items) (texts c.loop-rule.taken.items)
    (texts c.push.new.self.items) c.loop-rule-test.true c.rule-item.is some
    (ap texts c.in_ok-push.ensures.items
    ∙ map-append (λ part. part.now) c.loop-rule.taken.items (c.right.result ∷ [])
    ∙ ap (λ t. texts c.loop-rule.taken.items ++ (t ∷ [])) c.right.ensures)
    c.loop-rule.invariant
