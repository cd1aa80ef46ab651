use Rattle.std.proofs.Common.{sym, ◌∙◌, ap}
use Rattle.mq_witness.specs.Asked.{AskedRows}
use Rattle.mq_witness.proofs.RuledLemmas.{own_kind, own_known, own_none, own_shown}
use Rattle.mq_witness.proofs.RuledLemmas.{own_stands}
use Rattle.mq_witness.proofs.TryLemmas.{none_follows, some_follows}
use Rattle.mq_witness.proofs.asked.Asked.find_kind.Goals as goal

pub returns-in-Own-clause-none : goal.returns-in-Own-clause-none
returns-in-Own-clause-none c =
    none_follows c.find_in.result (own_none c.args.self.now _ _ c.args.topics _ _ _ c.begun.ensures
    (ap (λ (s : AskedRows). s.rules) (sym c.self.view_is) ∙ c.in-Own.is)) c.find_in.ensures.none

pub returns-in-Own-clause-some : goal.returns-in-Own-clause-some
returns-in-Own-clause-some c =
    some_follows c.find_in.result (λ w. own_shown c.args.self.now c.args.topics
    (ap (λ (s : AskedRows). s.rules) (sym c.self.view_is) ∙ c.in-Own.is)) c.find_in.ensures.some

pub returns-in-Own-clause-kind : goal.returns-in-Own-clause-kind
returns-in-Own-clause-kind c =
    some_follows c.find_in.result (λ w. own_kind c.args.dollar c.begun.result w.name c.begun.ensures) c.find_in.ensures.kind

pub returns-in-Own-clause-stands : goal.returns-in-Own-clause-stands
returns-in-Own-clause-stands c =
    let own = ap (λ (s : AskedRows). s.rules) (sym c.self.view_is) ∙ c.in-Own.is in
    some_follows c.find_in.result
    (λ w h. own_stands c.args.self.now c.args.topics own w
    (λ text other stands valid taken. own_shown c.args.self.now c.args.topics own
    (h text other stands valid))) c.find_in.ensures.stands

pub returns-in-Own-clause-known : goal.returns-in-Own-clause-known
returns-in-Own-clause-known c =
    let own = ap (λ (s : AskedRows). s.rules) (sym c.self.view_is) ∙ c.in-Own.is in
    some_follows c.find_in.result (own_known c.args.self.now own) c.find_in.ensures.known
