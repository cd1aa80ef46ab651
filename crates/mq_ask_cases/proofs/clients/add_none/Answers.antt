use Rattle.std.proofs.Common.{◌∙◌, Bool, ap, codes, if◌then◌else◌, string_bytes, sym}
use Rattle.std.proofs.lemmas.Result.{on_ok_weaker}
use Rattle.mq_ask_cases.specs.Clients.{with_part}
use Rattle.mq_ask_cases.proofs.ClientLemmas.{none_is}
use Rattle.mq_ask_cases.proofs.clients.add_none.Goals as goal

pub returns-then-has_none : goal.returns-then-has_none
returns-then-has_none c =
    let text = string_bytes c.args.text.now in
    on_ok_weaker c.add_part.result (λ added. added
    ∙ sym (none_is c.args.all.now c.has_none.result text c.has_none.ensures
    ∙ ap (λ (b : Bool). if b then with_part text (codes "no user name") else text)
    c.if-has_none.true)) c.add_part.ensures

pub returns : goal.returns
returns c =
    let text = string_bytes c.args.text.now in
    sym (none_is c.args.all.now c.has_none.result text c.has_none.ensures
    ∙ ap (λ (b : Bool). if b then with_part text (codes "no user name") else text)
    c.if-has_none.false)
