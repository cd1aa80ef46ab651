use Rattle.std.proofs.Common.{◌∙◌, string_bytes, sym}
use Rattle.mq_unify.specs.Joined.{user_view}
use Rattle.mq_unify.specs.Rows.{lent_rows}
use Rattle.mq_shapes.proofs.ShapeLemmas.{general_is, levels_fit, none_first, none_of_shape}
use Rattle.mq_shapes.proofs.ShapeLemmas.{none_empty, none_unlisted}
use Rattle.mq_shapes.proofs.found.Shaped.find.Goals as goal

pub returns-in_default-clause-none : goal.returns-in_default-clause-none
returns-in_default-clause-none c =
    let self = c.args.self.now in
    none_first self.others self.start self.shape self.users.now (lent_rows self.must.now)
    (lent_rows self.cover.now) self.ready
    (rw c.in_default.is at c.in_ok-general.ensures.none)

pub topic_of-requires-clause-client : goal.topic_of-requires-clause-client
topic_of-requires-clause-client c =
    let self = c.args.self.now in
    let client = string_bytes c.in-Some.general.client in
    let user = user_view c.in-Some.general.user in
    let must = lent_rows self.must.now in
    let cover = lent_rows self.cover.now in
    let general = general_is self.others self.start self.shape self.users.now must cover self.ready
    c.prefix.result.now client user c.prefix.ensures
    (rw c.in-Some.is at c.in_ok-general.ensures.some) in
    (levels_fit self.others self.start self.shape self.users.now must cover self.ready client user general).0

pub topic_of-requires-clause-user : goal.topic_of-requires-clause-user
topic_of-requires-clause-user c =
    let self = c.args.self.now in
    let client = string_bytes c.in-Some.general.client in
    let user = user_view c.in-Some.general.user in
    let must = lent_rows self.must.now in
    let cover = lent_rows self.cover.now in
    let general = general_is self.others self.start self.shape self.users.now must cover self.ready
    c.prefix.result.now client user c.prefix.ensures
    (rw c.in-Some.is at c.in_ok-general.ensures.some) in
    (levels_fit self.others self.start self.shape self.users.now must cover self.ready client user general).1

pub returns-in_default-topic-clause-none : goal.returns-in_default-topic-clause-none
returns-in_default-topic-clause-none c =
    let self = c.args.self.now in
    let client = string_bytes c.in-Some.general.client in
    let user = user_view c.in-Some.general.user in
    let must = lent_rows self.must.now in
    let cover = lent_rows self.cover.now in
    let general = general_is self.others self.start self.shape self.users.now must cover self.ready
    c.prefix.result.now client user c.prefix.ensures
    (rw c.in-Some.is at c.in_ok-general.ensures.some) in
    none_of_shape self.others self.start self.shape self.users.now must cover self.ready client user general
    (rw c.in_default-topic.is at c.in_ok-topic.ensures.none)

pub returns-clause-some : goal.returns-clause-some
returns-clause-some c =
    let self = c.args.self.now in
    let client = string_bytes c.in-Some.general.client in
    let user = user_view c.in-Some.general.user in
    let must = lent_rows self.must.now in
    let cover = lent_rows self.cover.now in
    let general = general_is self.others self.start self.shape self.users.now must cover self.ready
    c.prefix.result.now client user c.prefix.ensures
    (rw c.in-Some.is at c.in_ok-general.ensures.some) in
    record {
      values = general.values;
      fit = general.are_levels;
      shaped = general.shaped;
      unlisted = sym c.is_listed.ensures ∙ c.if-is_listed.false;
      texts = sym c.has_texts.ensures ∙ c.if-not-has_texts.false;
      is = rw c.in-Some-topic.is at c.in_ok-topic.ensures.some;
    }

pub returns-then-is_listed-clause-none : goal.returns-then-is_listed-clause-none
returns-then-is_listed-clause-none c =
    let self = c.args.self.now in
    let client = string_bytes c.in-Some.general.client in
    let user = user_view c.in-Some.general.user in
    let must = lent_rows self.must.now in
    let cover = lent_rows self.cover.now in
    let general = general_is self.others self.start self.shape self.users.now must cover self.ready
    c.prefix.result.now client user c.prefix.ensures
    (rw c.in-Some.is at c.in_ok-general.ensures.some) in
    none_unlisted self.others self.start self.shape self.users.now must cover self.ready client user
    general (sym c.is_listed.ensures ∙ c.if-is_listed.true)

pub returns-then-not-has_texts-clause-none : goal.returns-then-not-has_texts-clause-none
returns-then-not-has_texts-clause-none c =
    let self = c.args.self.now in
    let client = string_bytes c.in-Some.general.client in
    let user = user_view c.in-Some.general.user in
    let must = lent_rows self.must.now in
    let cover = lent_rows self.cover.now in
    let general = general_is self.others self.start self.shape self.users.now must cover self.ready
    c.prefix.result.now client user c.prefix.ensures
    (rw c.in-Some.is at c.in_ok-general.ensures.some) in
    none_empty self.others self.start self.shape self.users.now must cover self.ready client user
    general (sym c.has_texts.ensures ∙ c.if-not-has_texts.true)

pub returns-clause-pass : goal.returns-clause-pass
returns-clause-pass c = λ test plain dollar fresh fit known asked.
    let self = c.args.self.now in
    let client = string_bytes c.in-Some.general.client in
    let user = user_view c.in-Some.general.user in
    let must = lent_rows self.must.now in
    let cover = lent_rows self.cover.now in
    let general = general_is self.others self.start self.shape self.users.now must cover self.ready
    c.prefix.result.now client user c.prefix.ensures
    (rw c.in-Some.is at c.in_ok-general.ensures.some) in
    let texts = general.pass test fresh fit known in
    let topic = rw c.in-Some-topic.is at c.in_ok-topic.ensures.pass in
    record {
      client_passes = texts.0;
      user_passes = texts.1;
      topic_passes = topic test plain dollar fit texts.0 texts.1 asked;
    }
