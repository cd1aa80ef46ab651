use Rattle.std.proofs.Common.{append_assoc, string_bytes}
use Rattle.mq_ask_test.proofs.JunitLemmas.{on_pushed}
use Rattle.mq_ask_test.proofs.junit.add_failure.Goals as goal

pub returns : goal.returns
unfolding lib.Utf8.encode
returns c = on_pushed c.push_str-2.result (string_bytes c.add_escaped.new.text)
    (string_bytes c.push_str-2.new.self) _ c.push_str-2.ensures.bytes
    (λ is. rw (
      is,
      c.in_ok-add_escaped.ensures,
      c.in_ok-push.ensures.bytes,
      c.in_ok-add_message.ensures,
      c.in_ok-push_str.ensures.bytes,
    ) (simp append_assoc))
