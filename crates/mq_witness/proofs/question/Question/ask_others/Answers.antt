use Rattle.std.proofs.Common.{◌≡◌, ℕ, List, [], true, false, ap, sym, ◌∙◌, get_or, Bor, Some}
use Rattle.mq_witness.specs.Answers.{MissesUser}
use Rattle.mq_witness.specs.Literals.{is_among, is_named}
use Rattle.mq_witness.proofs.LiteralLemmas.{named_is}
use Rattle.mq_witness.proofs.TryLemmas.{among_at, none_at, none_left, one_more, others_missed}
use Rattle.mq_witness.proofs.TryLemmas.{some_at, user_is_choice, user_is_id, user_is_known}
use Rattle.mq_witness.proofs.question.Question.ask_others.Goals as goal

abbrev none : Bor (List ℕ)
none = record { ref_ptr = (0, 0); now = [] }

pub loop-user-preserved-then-names : goal.loop-user-preserved-then-names
loop-user-preserved-then-names c =
    let items = c.deref-user-items.result.now in
    let user = (get_or items c.loop-user.user-index none).now in
    one_more (λ t. is_named t c.args.users.now ≡ false → MissesUser c.args.self.now (Some t))
    items c.loop-user.user-index none c.loop-user-test.true
    (λ e. absurd (let n : true ≡ false = sym (named_is user c.args.users.now
    ∙ sym c.names.ensures ∙ c.if-names.true) ∙ e in cc)) c.loop-user.invariant

pub ask_user-requires : goal.ask_user-requires
ask_user-requires c =
    let q = c.args.self.now in
    let items = c.deref-user-items.result.now in
    let user = (get_or items c.loop-user.user-index none).now in
    let listed = sym (ap (is_among user) c.deref-user-items.ensures.value
    ∙ c.in_ok-users.ensures user)
    ∙ among_at items c.loop-user.user-index none c.loop-user-test.true in
    user_is_choice q.can_ask user listed

pub returns-in-Some-clause-some : goal.returns-in-Some-clause-some
returns-in-Some-clause-some c =
    let q = c.args.self.now in
    let items = c.deref-user-items.result.now in
    let user = (get_or items c.loop-user.user-index none).now in
    let listed = sym (ap (is_among user) c.deref-user-items.ensures.value
    ∙ c.in_ok-users.ensures user)
    ∙ among_at items c.loop-user.user-index none c.loop-user-test.true in
    record {
      user = user;
      unlisted = named_is user c.args.users.now ∙ sym c.names.ensures ∙ c.if-names.false;
      user_fits = user_is_id q.can_ask user listed;
      user_known = λ p fresh fit. user_is_known q.can_ask p user listed fresh fit;
      hits_user = some_at _ _ _ c.in-Some.is c.in_ok-found.ensures.some;
    }

pub loop-user-preserved : goal.loop-user-preserved
loop-user-preserved c =
    one_more (λ t. is_named t c.args.users.now ≡ false → MissesUser c.args.self.now (Some t))
    c.deref-user-items.result.now c.loop-user.user-index none c.loop-user-test.true
    (λ e. none_at _ _ c.in_default.is c.in_ok-found.ensures.none)
    c.loop-user.invariant

pub returns-clause-none : goal.returns-clause-none
returns-clause-none c =
    let items = c.deref-user-items.result.now in
    others_missed c.args.self.now c.args.users.now items
    (λ t. ap (is_among t) c.deref-user-items.ensures.value ∙ c.in_ok-users.ensures t)
    (c.loop-user.invariant (none_left
    (λ t. is_named t c.args.users.now ≡ false → MissesUser c.args.self.now (Some t)) items
    c.loop-user.user-index c.loop-user-test.false))
