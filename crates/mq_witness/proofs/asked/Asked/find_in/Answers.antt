use Rattle.std.proofs.Common.{ap, sym, ◌∙◌}
use Rattle.mq_acl.specs.Access.{begins_with_dollar}
use Rattle.mq_cover.specs.Names.{fits_start}
use Rattle.mq_cover.specs.declared.start.Start.TheVariants.{Writable}
use Rattle.mq_witness.specs.Asked.{AskedRows}
use Rattle.mq_witness.specs.declared.fresh.BothFresh.{BothFresh}
use Rattle.mq_witness.proofs.ReadyLemmas.{can_answer, search_ready}
use Rattle.mq_witness.proofs.ShowLemmas.{HasTexts, finds_none, found_known, found_levels}
use Rattle.mq_witness.proofs.ShowLemmas.{found_shown}
use Rattle.mq_witness.proofs.SwapLemmas.{both_made, shows_others}
use Rattle.mq_witness.proofs.TryLemmas.{none_at, some_at}
use Rattle.mq_witness.proofs.asked.Asked.find_in.Goals as goal

pub invariant_of-search : goal.invariant_of-search
invariant_of-search c =
    let can = can_answer c.self.view_is c.self.invariant.0 in
    record {
      ready = record {
        plain = search_ready c.args.self.now can.asked_can c.fresh.ensures c.requires.user
            c.requires.must c.requires.cover;
        dollar = search_ready c.args.self.now can.dollar_can c.fresh-2.ensures c.requires.user
            c.requires.must c.requires.cover;
        begin = (
          ap begins_with_dollar c.fresh.ensures.client ∙ can.begin,
          λ e. ap (fits_start Writable) c.fresh-2.ensures.client ∙ can.dollar_begin,
        );
      };
    }

pub returns-in_ok-show-in-Some-clause-stands : goal.returns-in_ok-show-in-Some-clause-stands
returns-in_ok-show-in-Some-clause-stands c =
    let can = can_answer c.self.view_is c.self.invariant.0 in
    let has : HasTexts c.in-Some.found c.in_ok-show-in-Some.field-0 = record {
      client = c.in_ok-show-in-Some.ensures.client;
      user = c.in_ok-show-in-Some.ensures.user;
      name = c.in_ok-show-in-Some.ensures.name;
    } in
    shows_others c.args.self.now c.fresh.result (can.asked_can.fits c.fresh.result c.fresh.ensures)
    (both_made c.args.self.now can (ap (λ (s : AskedRows). s.placeholders) (sym c.self.view_is))
    c.fresh.ensures c.fresh-2.ensures) c.requires.user c.requires.must c.requires.cover
    (found_shown c.args.self.now can.asked_can has
    (some_at _ _ _ c.in-Some.is c.in_ok-found.ensures.some))

pub returns-in_ok-show-in-Some-clause-some : goal.returns-in_ok-show-in-Some-clause-some
returns-in_ok-show-in-Some-clause-some c =
    let can = can_answer c.self.view_is c.self.invariant.0 in
    let has : HasTexts c.in-Some.found c.in_ok-show-in-Some.field-0 = record {
      client = c.in_ok-show-in-Some.ensures.client;
      user = c.in_ok-show-in-Some.ensures.user;
      name = c.in_ok-show-in-Some.ensures.name;
    } in
    found_shown c.args.self.now can.asked_can has
    (some_at _ _ _ c.in-Some.is c.in_ok-found.ensures.some)

pub returns-in_ok-show-in-Some-clause-known : goal.returns-in_ok-show-in-Some-clause-known
returns-in_ok-show-in-Some-clause-known c =
    let both : BothFresh = record { plain = c.fresh.result; dollar = c.fresh-2.result } in
    let has : HasTexts c.in-Some.found c.in_ok-show-in-Some.field-0 = record {
      client = c.in_ok-show-in-Some.ensures.client;
      user = c.in_ok-show-in-Some.ensures.user;
      name = c.in_ok-show-in-Some.ensures.name;
    } in
    found_known c.args.self.now both (can_answer c.self.view_is c.self.invariant.0)
    (ap (λ (s : AskedRows). s.placeholders) (sym c.self.view_is)) c.fresh.ensures
    c.fresh-2.ensures c.requires.user c.requires.must has
    (some_at _ _ _ c.in-Some.is c.in_ok-found.ensures.some)

pub returns-in_ok-show-in-Some-clause-levels : goal.returns-in_ok-show-in-Some-clause-levels
returns-in_ok-show-in-Some-clause-levels c =
    let can = can_answer c.self.view_is c.self.invariant.0 in
    let both : BothFresh = record { plain = c.fresh.result; dollar = c.fresh-2.result } in
    let has : HasTexts c.in-Some.found c.in_ok-show-in-Some.field-0 = record {
      client = c.in_ok-show-in-Some.ensures.client;
      user = c.in_ok-show-in-Some.ensures.user;
      name = c.in_ok-show-in-Some.ensures.name;
    } in
    let ready = search_ready c.args.self.now {clients = c.args.clients} can.asked_can
    c.fresh.ensures c.requires.user c.requires.must c.requires.cover in
    found_levels both c.self.inside.users ready.names_none
    (can.dollar_can.fresh both.dollar c.fresh-2.ensures) has
    (some_at _ _ _ c.in-Some.is c.in_ok-found.ensures.some)

pub returns-in-None-clause-none : goal.returns-in-None-clause-none
returns-in-None-clause-none c =
    finds_none _ _ c.args.self.now _ _ _ (can_answer c.self.view_is c.self.invariant.0).asked_can
    (none_at _ _ c.in-None.is c.in_ok-found.ensures.none)
