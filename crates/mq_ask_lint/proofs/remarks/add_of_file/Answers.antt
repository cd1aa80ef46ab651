use Rattle.std.proofs.lemmas.Result.{on_ok_weaker}
use Rattle.mq_ask_lint.specs.Objects.{whole_said}
use Rattle.mq_ask_lint.proofs.ObjectLemmas.{adds_one}
use Rattle.mq_ask_lint.proofs.remarks.add_of_file.Goals as goal

pub returns : goal.returns
returns c =
    on_ok_weaker c.add_object.result
    (λ added. λ lines. adds_one (record { file = c.args.file.now; lines = lines })
    (whole_said c.args.kind.now) c.args.words.now _ _ added) c.add_object.ensures
