use Rattle.std.proofs.Common.{◌≡◌, ◌++◌, ◌∙◌, ℕ, List, ap, arith, take}
use Rattle.std.proofs.lemmas.List.{take_all}
use Rattle.mq_ask.specs.Objects.{refused_texts}
use Rattle.mq_ask_who.specs.WhoShown.{permission_texts}
use Rattle.mq_ask_who.proofs.WhoShownLemmas.{texts_more}
use Rattle.mq_print.specs.Lists.{lines_view}
use Rattle.mq_ask_who.proofs.permissions.json_lines.Goals as goal

pub loop-one-preserved : goal.loop-one-preserved
loop-one-preserved c = λ refused kept none.
    texts_more (lines_view c.args.list) c.args.asked.refused.now refused c.args.granted.now
    c.loop-one.one-index c.one-item.result c.in_ok-refused.refused.now _ _
    c.loop-one-test.true c.one-item.is (c.in_ok-refused.ensures refused kept)
    (c.loop-one.invariant refused kept none) (c.in_ok-add_json.ensures none)

pub returns : goal.returns
returns c = λ refused kept none.
    let list = lines_view c.args.list in
    let broker = c.args.asked.refused.now in
    let texts = permission_texts list broker refused in
    let all : take c.loop-one.one-index c.args.granted.now ≡ c.args.granted.now =
    take_all c.loop-one.one-index c.args.granted.now (omega arith) in
    c.in_ok-add_refused_json.ensures
    ∙ ap (λ (t : List ℕ). t ++ refused_texts broker)
    (c.loop-one.invariant refused kept none ∙ ap texts all)
