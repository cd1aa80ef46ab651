use Rattle.std.proofs.Common.{◌≡◌, ap, ◌∙◌, string_bytes, true}
use Rattle.serde_json.specs.Data.{no_members, object}
use Rattle.serde_json.specs.Written.{compact_text}
use Rattle.mq_print.specs.Objects.{with_data}
use Rattle.mq_print.specs.Shown.{shown}
use Rattle.mq_print.specs.declared.escape.Escape.TheVariants.{Json}
use Rattle.mq_print.proofs.LineLemmas.{line_added}
use Rattle.mq_print.proofs.MemberLemmas.{text_of_object}
use Rattle.mq_print.proofs.json.add_object.Goals as goal

pub returns : goal.returns
unfolding lib.Utf8.encode
returns c =
    let line = text_of_object c.in_ok-members.members c.args.fields.now
    (string_bytes c.in_ok-line.line) c.in_ok-members.ensures c.in_ok-line.ensures.text in
    let text : string_bytes c.in_ok-shown.shown ≡ shown true Json
    (compact_text (object (with_data no_members c.args.fields.now))) =
    c.in_ok-shown.ensures ∙ ap (shown true Json) (c.as_str.ensures.value ∙ line) in
    line_added c.push.result (string_bytes c.push.new.self) (string_bytes c.args.text.now)
    (string_bytes c.push_str.new.self) c.as_str-2.result.now _ c.push.ensures.bytes
    c.in_ok-push_str.ensures.bytes (c.as_str-2.ensures.value ∙ text)
