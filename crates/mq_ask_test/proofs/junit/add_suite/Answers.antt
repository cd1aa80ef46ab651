use Rattle.std.proofs.Common.{string_bytes}
use Rattle.mq_ask_test.proofs.JunitLemmas.{three_pieces}
use Rattle.mq_ask_test.proofs.junit.add_suite.Goals as goal

pub returns : goal.returns
returns c = three_pieces c.add_counts.result (string_bytes c.args.text.now)
    (string_bytes c.push_str.new.self) (string_bytes c.add_attribute.new.text)
    (string_bytes c.add_counts.new.text) _ _ _ c.in_ok-push_str.ensures.bytes
    c.in_ok-add_attribute.ensures c.add_counts.ensures
