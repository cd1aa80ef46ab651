use Rattle.std.proofs.Common.{string_bytes}
use Rattle.mq_ask_test.proofs.JunitLemmas.{three_pieces}
use Rattle.mq_ask_test.proofs.junit.add_case_begin.Goals as goal

pub returns : goal.returns
returns c = three_pieces c.add_line.result (string_bytes c.args.text.now)
    (string_bytes c.push_str.new.self) (string_bytes c.add_class.new.text)
    (string_bytes c.add_line.new.text) _ _ _ c.in_ok-push_str.ensures.bytes
    c.in_ok-add_class.ensures c.add_line.ensures
