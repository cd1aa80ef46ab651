use Rattle.std.proofs.Common.{◌∙◌, ap, map, string_bytes}
use Rattle.std.proofs.lemmas.Result.{IfOk-weaker}
use Rattle.mqroute_acl.proofs.TestLemmas.{answer_of}
use Rattle.mqroute_acl.proofs.test.answer_test.Goals as goal

pub returns-in-Ok-clause-ok : goal.returns-in-Ok-clause-ok
returns-in-Ok-clause-ok g c =
    let known = g.I.Read.remaining in
    IfOk-weaker c.write_tested.result _ _
    (λ outcome is.
    answer_of c.args.options.rules (known c.args.input.now)
    (known c.text_of.new.input) c.args.asked.now.expected.now (map (λ file. file.now) c.args.asked.now.lists.items)
    (map (λ file. file.now) c.deref.result.now) (string_bytes c.in_ok-text.text)
    c.as_str.result.now outcome c.in-Ok.shown.outcome c.requires
    (λ none. ap known (c.text_of.ensures.kept none))
    (ap (map (λ file. file.now)) c.deref.ensures.value ∙ c.in_ok-given.ensures
    ∙ ap (map (λ file. file.now)) c.as_slice.ensures.value)
    c.as_str.ensures.value c.in_ok-text.ensures.ok c.in-Ok.ensures.ok is)
    c.write_tested.ensures.ok
