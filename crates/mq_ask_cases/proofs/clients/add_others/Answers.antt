use Rattle.std.proofs.Common.{◌∙◌, Bool, ap, codes, if◌then◌else◌, string_bytes, sym}
use Rattle.std.proofs.lemmas.Result.{on_ok_weaker}
use Rattle.mq_ask_cases.specs.Clients.{with_part}
use Rattle.mq_ask_cases.proofs.ClientLemmas.{others_are}
use Rattle.mq_ask_cases.proofs.clients.add_others.Goals as goal

pub returns-then-has_others : goal.returns-then-has_others
returns-then-has_others c =
    let text = string_bytes c.args.text.now in
    on_ok_weaker c.add_part.result (λ added. added
    ∙ sym (others_are c.args.all.now c.has_others.result text c.has_others.ensures
    ∙ ap (λ (b : Bool). if b then with_part text (codes "other users") else text)
    c.if-has_others.true)) c.add_part.ensures

pub returns : goal.returns
returns c =
    let text = string_bytes c.args.text.now in
    sym (others_are c.args.all.now c.has_others.result text c.has_others.ensures
    ∙ ap (λ (b : Bool). if b then with_part text (codes "other users") else text)
    c.if-has_others.false)
