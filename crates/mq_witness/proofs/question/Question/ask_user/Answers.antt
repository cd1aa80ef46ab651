use Rattle.std.proofs.Common.{◌≡◌, ℕ, List, [], true, ap, sym, ◌∙◌, get_or, Bor, refl, subst}
use Rattle.std.specs.Option.{option_copied}
use Rattle.mq_cover.specs.Names.{is_choice}
use Rattle.mq_cover.specs.Remainders.{mark_passes}
use Rattle.mq_witness.specs.Answers.{Hits, Misses}
use Rattle.mq_witness.specs.Literals.{is_among}
use Rattle.mq_witness.proofs.TryLemmas.{among_at, client_is_choice, client_is_id, client_is_known}
use Rattle.mq_witness.proofs.TryLemmas.{marks_fit, none_at, none_left, one_more, some_at}
use Rattle.mq_witness.proofs.TryLemmas.{user_missed}
use Rattle.mq_witness.proofs.question.Question.ask_user.Goals as goal

abbrev none : Bor (List ℕ)
none = record { ref_ptr = (0, 0); now = [] }

pub ask-requires : goal.ask-requires
ask-requires c =
    let q = c.args.self.now in
    let items = c.deref-client-items.result.now in
    let level = option_copied c.level_of-level.result in
    let client = (get_or items c.loop-client.client-index none).now in
    let listed = sym (ap (is_among client) c.deref-client-items.ensures.value
    ∙ c.in_ok-clients.ensures client)
    ∙ among_at items c.loop-client.client-index none c.loop-client-test.true in
    let fit : mark_passes (is_choice q.fresh.others) level ≡ true =
    ap (mark_passes (is_choice q.fresh.others)) c.level_of-level.ensures ∙ c.requires in
    marks_fit q.fresh client level (client_is_choice q.can_ask level fit client listed) fit

pub returns-in-Some-clause-some : goal.returns-in-Some-clause-some
returns-in-Some-clause-some c =
    let q = c.args.self.now in
    let items = c.deref-client-items.result.now in
    let level = option_copied c.level_of-level.result in
    let client = (get_or items c.loop-client.client-index none).now in
    let listed = sym (ap (is_among client) c.deref-client-items.ensures.value
    ∙ c.in_ok-clients.ensures client)
    ∙ among_at items c.loop-client.client-index none c.loop-client-test.true in
    record {
      user_is = refl;
      client_fits = client_is_id q.can_ask level client listed;
      client_known = λ p fresh fit known. client_is_known q.can_ask p level client listed fresh fit
          (ap (mark_passes p) c.level_of-level.ensures ∙ known);
      hits_name = subst (λ u. Hits q client u c.in-Some.name) c.level_of-level.ensures
          (some_at _ _ _ c.in-Some.is c.in_ok-name.ensures.some);
    }

pub loop-client-preserved : goal.loop-client-preserved
loop-client-preserved c =
    one_more (λ t. Misses c.args.self.now t (option_copied c.level_of-level.result))
    c.deref-client-items.result.now c.loop-client.client-index none c.loop-client-test.true
    (none_at _ _ c.in_default.is c.in_ok-name.ensures.none)
    c.loop-client.invariant

pub returns-clause-none : goal.returns-clause-none
returns-clause-none c =
    let items = c.deref-client-items.result.now in
    let level = option_copied c.level_of-level.result in
    user_missed c.args.self.now (option_copied c.args.user) level items c.level_of-level.ensures
    (λ t. ap (is_among t) c.deref-client-items.ensures.value ∙ c.in_ok-clients.ensures t)
    (c.loop-client.invariant (none_left (λ t. Misses c.args.self.now t level) items
    c.loop-client.client-index c.loop-client-test.false))
