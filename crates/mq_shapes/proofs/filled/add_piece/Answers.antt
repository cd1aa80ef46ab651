use Rattle.std.proofs.Common.{◌∙◌, ◌∷◌, ◌++◌, ap, arith, sym, string_bytes, append_assoc, None, Some}
use Rattle.std.proofs.lemmas.List.{append-nil}
use Rattle.std.proofs.lemmas.Str.Pattern.{split_once_first}
use Rattle.mq_acl.specs.Filled.{filled}
use Rattle.mq_shapes.proofs.FilledLemmas.{filled_front, filled_whole}
use Rattle.mq_shapes.proofs.filled.add_piece.Goals as goal

pub returns-in_default-clause-made : goal.returns-in_default-clause-made
returns-in_default-clause-made c =
    let text = c.args.text.now in
    let none = split_once_first 37 text None c.in_default.ensures.cases (omega arith) in
    append-nil (string_bytes c.push_str.new.self)
    ∙ c.in_ok-push_str.ensures.bytes
    ∙ ap (λ l. string_bytes c.args.made.now ++ l)
    (sym (filled_whole c.args.names.client.now c.args.names.user.now text none))

pub returns-clause-made : goal.returns-clause-made
returns-clause-made c =
    let client = c.args.names.client.now in
    let user = c.args.names.user.now in
    let text = c.args.text.now in
    let made = string_bytes c.args.made.now in
    let before = c.in-Some.before.now in
    let piece = c.at_mark.result.0.now in
    let left = filled client user c.at_mark.result.1.now in
    let cut = split_once_first 37 text (Some (c.in-Some.before, c.in-Some.behind))
    c.in-Some.ensures.cases (omega arith) in
    ap (λ t. t ++ left)
    (c.in_ok-push_str-3.ensures.bytes ∙ ap (λ t. t ++ piece) c.in_ok-push_str-2.ensures.bytes)
    ∙ append_assoc (made ++ before) piece left
    ∙ append_assoc made before (piece ++ left)
    ∙ ap (λ t. made ++ t)
    (ap (λ t. before ++ t) (sym c.at_mark.ensures.made)
    ∙ (λ i. cut.1 i ++ filled client user (37 ∷ cut.2 i))
    ∙ sym (filled_front client user text cut.0))
