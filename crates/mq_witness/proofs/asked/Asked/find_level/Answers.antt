use Rattle.std.proofs.Common.{◌≡◌, sym, true, true≢false, ◌∙◌}
use Rattle.mq_witness.specs.Names.{has_states}
use Rattle.mq_witness.proofs.RuledLemmas.{both_found, found_none, names_are, states_are, witness_known}
use Rattle.mq_witness.proofs.RuledLemmas.{witness_shown, witness_stands}
use Rattle.mq_witness.proofs.TryLemmas.{none_at, none_follows, some_at, some_follows}
use Rattle.mq_witness.proofs.asked.Asked.find_level.Goals as goal

-- ---- one of the names is found
pub returns-in-Some-clause-some : goal.returns-in-Some-clause-some
returns-in-Some-clause-some c =
    witness_shown c.args.self.now _ c.args.topics _ _ c.requires.rules c.in-Some.found
    (names_are c.args.self.now c.args.dollar c.args.topics c.of-names.result c.in-Some.found.name
    c.of-names.ensures c.requires.rules
    (some_at _ _ _ c.in-Some.is c.in_ok-found.ensures.kind)).1
    (some_at _ _ _ c.in-Some.is c.in_ok-found.ensures.some)

pub returns-in-Some-clause-kind : goal.returns-in-Some-clause-kind
returns-in-Some-clause-kind c =
    (names_are c.args.self.now c.args.dollar c.args.topics c.of-names.result c.in-Some.found.name
    c.of-names.ensures c.requires.rules
    (some_at _ _ _ c.in-Some.is c.in_ok-found.ensures.kind)).0

pub returns-in-Some-clause-known : goal.returns-in-Some-clause-known
returns-in-Some-clause-known c =
    witness_known c.args.self.now c.requires.rules c.in-Some.found
    (some_at _ _ _ c.in-Some.is c.in_ok-found.ensures.known)

pub returns-in-Some-clause-stands : goal.returns-in-Some-clause-stands
returns-in-Some-clause-stands c =
    witness_stands c.args.self.now _ c.args.topics _ _ c.requires.rules c.in-Some.found
    (some_at _ _ _ c.in-Some.is c.in_ok-found.ensures.stands)

-- ---- none is
pub returns-then-not-has_states-clause-none : goal.returns-then-not-has_states-clause-none
returns-then-not-has_states-clause-none c =
    found_none c.args.self.now _ c.args.dollar c.args.topics c.of-names.result _ _
    c.of-names.ensures c.requires.rules
    (none_at c.in_ok-found.field-0 _ c.in_default.is c.in_ok-found.ensures.none)
    (λ has. absurd (true≢false (sym (c.has_states.ensures ∙ has) ∙ c.if-not-has_states.true)))

pub returns-clause-none : goal.returns-clause-none
returns-clause-none c =
    none_follows c.find_names-2.result (λ states. found_none c.args.self.now _ c.args.dollar
    c.args.topics c.of-names.result _ _ c.of-names.ensures c.requires.rules
    (none_at c.in_ok-found.field-0 _ c.in_default.is c.in_ok-found.ensures.none)
    (λ has. states)) c.find_names-2.ensures.none

-- ---- but the state of a bridge may be
pub returns-clause-some : goal.returns-clause-some
returns-clause-some c =
    let has : has_states c.args.dollar c.args.topics ≡ true =
    sym c.has_states.ensures ∙ c.if-not-has_states.false in
    both_found c.find_names-2.result _ _ _
    (λ w kind shows. witness_shown c.args.self.now _ c.args.topics _ _ c.requires.rules w
    (states_are c.args.self.now c.args.dollar c.args.topics w.name c.requires.rules has kind).1
    shows) c.find_names-2.ensures.kind c.find_names-2.ensures.some

pub returns-clause-kind : goal.returns-clause-kind
returns-clause-kind c =
    let has : has_states c.args.dollar c.args.topics ≡ true =
    sym c.has_states.ensures ∙ c.if-not-has_states.false in
    some_follows c.find_names-2.result (λ w kind. (states_are c.args.self.now c.args.dollar
    c.args.topics w.name c.requires.rules has kind).0) c.find_names-2.ensures.kind

pub returns-clause-known : goal.returns-clause-known
returns-clause-known c =
    some_follows c.find_names-2.result (witness_known c.args.self.now c.requires.rules)
    c.find_names-2.ensures.known

pub returns-clause-stands : goal.returns-clause-stands
returns-clause-stands c =
    some_follows c.find_names-2.result (witness_stands c.args.self.now _ c.args.topics _ _
    c.requires.rules) c.find_names-2.ensures.stands
