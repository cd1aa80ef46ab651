use Rattle.std.proofs.Common.{string_bytes}
use Rattle.std.proofs.lemmas.Result.{IfOk-weaker}
use Rattle.mq_unify.specs.Joined.{user_view}
use Rattle.mq_unify.specs.Rows.{lent_rows}
use Rattle.mq_cover.specs.Choices.{other_at}
use Rattle.mq_shapes.proofs.PassLemmas.{if_both, passes_named}
use Rattle.mq_shapes.proofs.TextLemmas.{found_named, if_none, if_some, none_of_named}
use Rattle.mq_shapes.proofs.every.Search.of_user.Goals as goal

pub returns-clause-none : goal.returns-clause-none
returns-clause-none c =
    let self = c.args.self.now in
    IfOk-weaker c.with_user.result _ _ (if_none (none_of_named self.start self.users.now
    (lent_rows self.must.now) (lent_rows self.cover.now) self.ready.must_ready.whole
    self.ready.cover_ready.whole c.args.name c.requires.unlisted)) c.with_user.ensures.none

pub returns-clause-some : goal.returns-clause-some
returns-clause-some c =
    let self = c.args.self.now in
    IfOk-weaker c.with_user.result _ _ (if_some (λ found. found_named self.start self.users.now
    (lent_rows self.must.now) (lent_rows self.cover.now) (string_bytes found.client)
    (user_view found.user) (string_bytes found.topic) c.args.name)) c.with_user.ensures.some

pub returns-clause-pass : goal.returns-clause-pass
returns-clause-pass c =
    let self = c.args.self.now in
    if_both (λ found is so. passes_named self.others (other_at self.start self.others)
    (lent_rows self.must.now) (string_bytes found.client) (user_view found.user)
    (string_bytes found.topic) c.args.name is.is.shaped.user_is so) c.with_user.result
    c.with_user.ensures.some c.with_user.ensures.pass
