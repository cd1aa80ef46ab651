use Rattle.std.proofs.Common.{◌∙◌, ◌++◌, List, ap, codes, string_bytes, subst, sym, ℕ}
use Rattle.std.proofs.lemmas.Result.{on_ok_weaker}
use Rattle.mq_ask_cases.specs.Placeholders.{IsQuoted, has_placeholder, is_placeholder, topic_words}
use Rattle.mq_ask_cases.proofs.PlaceholderLemmas.{client_added, levels_added, none_added}
use Rattle.mq_ask_cases.proofs.placeholders.add_client_id.Goals as goal

pub returns-then-is_placeholder : goal.returns-then-is_placeholder
returns-then-is_placeholder c = none_added c.args.difference.now _
    (ap (is_placeholder c.args.difference.now) (sym c.as_str-client.ensures.value)
    ∙ sym c.is_placeholder.ensures ∙ c.if-is_placeholder.true)

pub returns-then-has_placeholder : goal.returns-then-has_placeholder
returns-then-has_placeholder c =
    let d = c.args.difference.now in
    let client = c.as_str-client.ensures.value in
    on_ok_weaker c.add_parts.result (λ added. levels_added d _ _
    (ap (is_placeholder d) (sym client) ∙ sym c.is_placeholder.ensures ∙ c.if-is_placeholder.false)
    (ap (has_placeholder d) (sym client) ∙ sym c.has_placeholder.ensures ∙ c.if-has_placeholder.true)
    (added ∙ ap (λ (t : List ℕ). string_bytes c.args.text.now ++ codes "  client id: "
    ++ topic_words d t) client)) c.add_parts.ensures

pub returns : goal.returns
returns c =
    let d = c.args.difference.now in
    let client = c.as_str-client.ensures.value in
    let quoted = string_bytes c.in_ok-quoted.quoted in
    on_ok_weaker c.add_quoted.result (λ added. client_added d _ _ quoted
    (ap (is_placeholder d) (sym client) ∙ sym c.is_placeholder.ensures ∙ c.if-is_placeholder.false)
    (ap (has_placeholder d) (sym client) ∙ sym c.has_placeholder.ensures ∙ c.if-has_placeholder.false)
    (subst (λ (t : List ℕ). IsQuoted t quoted) client c.in_ok-quoted.ensures)
    (added ∙ ap (λ (t : List ℕ). string_bytes c.args.text.now ++ codes "  client id: " ++ t)
    c.as_str.ensures.value)) c.add_quoted.ensures
