use Rattle.std.proofs.Common.{append_assoc}
use Rattle.std.proofs.lemmas.Result.{on_ok_weaker}
use Rattle.mq_ask_test.proofs.junit.add_case.Goals as goal

pub returns : goal.returns
returns c = on_ok_weaker c.add_case_end.result
    (λ end. (end.0, rw (end.1, c.in_ok-add_case_begin.ensures) (simp append_assoc)))
    c.add_case_end.ensures
