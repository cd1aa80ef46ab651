use Rattle.std.proofs.Common.{◌∙◌, [], ap, string_bytes}
use Rattle.std.specs.Option.{unwrap_or}
use Rattle.std.proofs.lemmas.Result.{IfOk-weaker}
use Rattle.mq_cover.specs.Names.{is_choice}
use Rattle.mq_unify.specs.Joined.{user_view}
use Rattle.mq_unify.specs.Rows.{lent_rows}
use Rattle.mq_shapes.specs.Filled.{text_levels}
use Rattle.mq_shapes.specs.Found.{all_fit}
use Rattle.mq_shapes.proofs.RowLemmas.{as_client, empty_choice, filled_fit, none_of_rows}
use Rattle.mq_shapes.proofs.PassLemmas.{client_fit}
use Rattle.mq_shapes.proofs.RowLemmas.{topic_of_rows, user_levels_fit}
use Rattle.mq_shapes.proofs.TextLemmas.{if_some}
use Rattle.mq_shapes.proofs.found.Shaped.topic_of.Goals as goal

pub topic-requires-clause-must : goal.topic-requires-clause-must
topic-requires-clause-must c =
    let client = string_bytes c.args.general.now.client in
    let user = unwrap_or (user_view c.args.general.now.user) [] in
    let ready = c.args.self.now.ready.rows in
    let p = is_choice c.args.self.now.others in
    ap (all_fit p) (as_client c.names_of-names.result.client.now client
    c.names_of-names.result.user.now user (lent_rows c.args.self.now.must.now)
    c.names_of-names.ensures.client c.names_of-names.ensures.user
    (text_levels c.in_ok-row_texts.field-0.items) c.in_ok-row_texts.ensures)
    ∙ filled_fit p client user c.requires.client
    (user_levels_fit p (user_view c.args.general.now.user)
    (empty_choice c.args.self.now.others ready.others_fit) c.requires.user)
    (lent_rows c.args.self.now.must.now) ready.must_ready.whole ready.must_ready.choice

pub topic-requires-clause-cover : goal.topic-requires-clause-cover
topic-requires-clause-cover c =
    let client = string_bytes c.args.general.now.client in
    let user = unwrap_or (user_view c.args.general.now.user) [] in
    let ready = c.args.self.now.ready.rows in
    let p = is_choice c.args.self.now.others in
    ap (all_fit p) (as_client c.names_of-names.result.client.now client
    c.names_of-names.result.user.now user (lent_rows c.args.self.now.cover.now)
    c.names_of-names.ensures.client c.names_of-names.ensures.user
    (text_levels c.in_ok-row_texts-2.field-0.items) c.in_ok-row_texts-2.ensures)
    ∙ filled_fit p client user c.requires.client
    (user_levels_fit p (user_view c.args.general.now.user)
    (empty_choice c.args.self.now.others ready.others_fit) c.requires.user)
    (lent_rows c.args.self.now.cover.now) ready.cover_ready.whole ready.cover_ready.choice

pub returns-clause-none : goal.returns-clause-none
returns-clause-none c =
    let client = string_bytes c.args.general.now.client in
    let user = user_view c.args.general.now.user in
    let must = lent_rows c.args.self.now.must.now in
    let cover = lent_rows c.args.self.now.cover.now in
    let firsts = text_levels c.in_ok-row_texts.field-0.items in
    let others = text_levels c.in_ok-row_texts-2.field-0.items in
    let are = as_client c.names_of-names.result.client.now client c.names_of-names.result.user.now
    (unwrap_or user []) in
    IfOk-weaker c.topic.result _ _ (none_of_rows c.args.self.now.start must cover client user
    firsts others
    (are must c.names_of-names.ensures.client c.names_of-names.ensures.user firsts
    c.in_ok-row_texts.ensures)
    (are cover c.names_of-names.ensures.client c.names_of-names.ensures.user others
    c.in_ok-row_texts-2.ensures)) c.topic.ensures.none

pub returns-clause-some : goal.returns-clause-some
returns-clause-some c =
    let client = string_bytes c.args.general.now.client in
    let user = user_view c.args.general.now.user in
    let must = lent_rows c.args.self.now.must.now in
    let cover = lent_rows c.args.self.now.cover.now in
    let firsts = text_levels c.in_ok-row_texts.field-0.items in
    let others = text_levels c.in_ok-row_texts-2.field-0.items in
    let are = as_client c.names_of-names.result.client.now client c.names_of-names.result.user.now
    (unwrap_or user []) in
    IfOk-weaker c.topic.result _ _ (topic_of_rows c.args.self.now.start must cover client user
    firsts others
    (are must c.names_of-names.ensures.client c.names_of-names.ensures.user firsts
    c.in_ok-row_texts.ensures)
    (are cover c.names_of-names.ensures.client c.names_of-names.ensures.user others
    c.in_ok-row_texts-2.ensures)) c.topic.ensures.some

pub returns-clause-pass : goal.returns-clause-pass
returns-clause-pass c =
    let client = string_bytes c.args.general.now.client in
    let user = user_view c.args.general.now.user in
    let must = lent_rows c.args.self.now.must.now in
    let firsts = text_levels c.in_ok-row_texts.field-0.items in
    let are = as_client c.names_of-names.result.client.now client c.names_of-names.result.user.now
    (unwrap_or user []) must c.names_of-names.ensures.client c.names_of-names.ensures.user firsts
    c.in_ok-row_texts.ensures in
    IfOk-weaker c.topic.result _ _ (if_some (λ topic so. λ test plain dollar fit ids names asked.
    so test plain dollar (ap (all_fit test) are ∙ client_fit test client user must
    c.args.self.now.ready.rows.must_ready.whole fit ids names asked))) c.topic.ensures.pass
