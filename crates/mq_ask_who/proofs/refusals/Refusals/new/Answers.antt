use Rattle.std.proofs.Common.{◌∙◌, ap, bytes_eq, filter, rules, string_bytes, List}
use Rattle.std.proofs.lemmas.Iterator.Adapters.{YieldsList-from_vec}
use Rattle.std.proofs.lemmas.Iterator.Consumers.{YieldsList-end}
use Rattle.mq_ask_who.specs.Refusals.{key}
use Rattle.mq_ask_who.proofs.WhoShownLemmas.{all_came}
use Rattle.mq_ask_who.proofs.RefusalLemmas.{kept_more}
use Rattle.mq_ask_who.proofs.refusals.Refusals.new.Goals as goal
use Rattle.mq_differences.specs.declared.difference.Difference.{Difference}

pub loop-difference-preserved : goal.loop-difference-preserved
loop-difference-preserved c = λ text. c.in_ok-keep.ensures text
    ∙ kept_more text c.loop-difference.yielded c.in-Some.difference
    (string_bytes c.in_ok-key.key) c.in_ok-key.ensures _ (c.loop-difference.invariant text)

pub returns : goal.returns
returns c = λ text.
    let gives = c.into_iter-difference-iterator.ensures.into_iter_gives in
    let end = YieldsList-end (YieldsList-from_vec {s = c.into_iter-difference-iterator.result}
    c.args.refused.items gives.0 (search rules)) c.loop-difference.yielded
    c.loop-difference.difference-iterator c.loop-difference.yielded_by c.next.result c.next.new.self c.in-None.is
    c.next.ensures.steps in
    let all = all_came c.loop-difference.yielded c.args.refused.items end.0 in
    c.loop-difference.invariant text
    ∙ ap (λ (ds : List Difference). filter (λ d. bytes_eq text (key d)) ds) all
