use Rattle.std.proofs.Common.{◌∙◌, [], None, ap, refl}
use Rattle.std.proofs.lemmas.Bool.{and_from}
use Rattle.std.proofs.lemmas.Result.{IfOk-weaker}
use Rattle.mq_cover.specs.Names.{is_choice}
use Rattle.mq_unify.specs.Rows.{lent_rows}
use Rattle.mq_shapes.specs.Filled.{text_levels}
use Rattle.mq_shapes.specs.Found.{all_fit}
use Rattle.mq_shapes.proofs.RowLemmas.{empty_choice, filled_fit, none_of_rows, topic_of_rows}
use Rattle.mq_shapes.proofs.TextLemmas.{if_some}
use Rattle.mq_shapes.proofs.ruled.Ruled.own_topic.Goals as goal

pub topic-requires-clause-must : goal.topic-requires-clause-must
topic-requires-clause-must c =
    let ready = c.args.self.now.ready.ready in
    let p = is_choice c.args.self.now.others in
    let empty = and_from (p []) _ (empty_choice c.args.self.now.others ready.others_fit) refl in
    ap (all_fit p) c.in_ok-row_texts.ensures
    ∙ filled_fit p [] [] empty empty (lent_rows c.args.must.now) c.requires.must.whole
    c.requires.must.choice

pub topic-requires-clause-cover : goal.topic-requires-clause-cover
topic-requires-clause-cover c =
    let ready = c.args.self.now.ready.ready in
    let p = is_choice c.args.self.now.others in
    let empty = and_from (p []) _ (empty_choice c.args.self.now.others ready.others_fit) refl in
    ap (all_fit p) c.in_ok-row_texts-2.ensures
    ∙ filled_fit p [] [] empty empty (lent_rows c.args.cover.now) c.requires.cover.whole
    c.requires.cover.choice

pub returns-clause-none : goal.returns-clause-none
returns-clause-none c =
    IfOk-weaker c.topic.result _ _ (none_of_rows c.args.self.now.start
    (lent_rows c.args.must.now) (lent_rows c.args.cover.now) [] None
    (text_levels c.in_ok-row_texts.field-0.items) (text_levels c.in_ok-row_texts-2.field-0.items)
    c.in_ok-row_texts.ensures c.in_ok-row_texts-2.ensures) c.topic.ensures.none

pub returns-clause-some : goal.returns-clause-some
returns-clause-some c =
    IfOk-weaker c.topic.result _ _ (topic_of_rows c.args.self.now.start
    (lent_rows c.args.must.now) (lent_rows c.args.cover.now) [] None
    (text_levels c.in_ok-row_texts.field-0.items) (text_levels c.in_ok-row_texts-2.field-0.items)
    c.in_ok-row_texts.ensures c.in_ok-row_texts-2.ensures) c.topic.ensures.some

pub returns-clause-pass : goal.returns-clause-pass
returns-clause-pass c =
    IfOk-weaker c.topic.result _ _ (if_some (λ topic so. λ test plain dollar fit.
    so test plain dollar (ap (all_fit test) c.in_ok-row_texts.ensures ∙ fit))) c.topic.ensures.pass
