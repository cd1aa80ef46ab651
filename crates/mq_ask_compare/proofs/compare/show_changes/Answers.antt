use Rattle.std.proofs.Common.{refl, Result, Ok, Err, IfErr}
use Rattle.std.proofs.Common.{string_bytes}
use Rattle.std.proofs.lemmas.Result.{IfOk-weaker, on_ok_weaker}
use Rattle.mq_ask_compare.proofs.CompareLemmas.{compared}
use Rattle.mq_ask_compare.proofs.compare.show_changes.Goals as goal

for_each : {T E : Type 0} (r : Result T E) (Q : E → Type 0) → ((e : E) → Q e) → IfErr r Q
for_each (Ok x) Q h = tt
for_each (Err e) Q h = h e

pub returns-clause-ok : goal.returns-clause-ok
returns-clause-ok g c =
    let is = compared c.args.options.rules c.args.only c.args.old.text.now c.args.new.text.now
    c.in_ok-changes.changes c.outcome_in-outcome.result c.in_ok-changes.ensures.ok
    c.in_ok-check_taken.ensures.ok c.in_ok-check_taken-2.ensures.ok
    (c.outcome_in-outcome.ensures c.args.old.text.now c.args.new.text.now c.in_ok-changes.ensures.ok) in
    IfOk-weaker c.print_outcome.result _ _ (λ shown e. rw e is) c.print_outcome.ensures.ok

pub returns-in_err-changes-clause-unread : goal.returns-in_err-changes-clause-unread
returns-in_err-changes-clause-unread g c =
    for_each c.from_residual-in_err-changes.result _ (λ failure e. refl)

pub returns-clause-json : goal.returns-clause-json
returns-clause-json g c =
    on_ok_weaker c.print_outcome.result
    (λ written. λ json none. record {
      changes = c.in_ok-changes.changes;
      are = c.in_ok-changes.ensures.ok;
      text = string_bytes c.in_ok-text.text;
      objects = c.in_ok-text.ensures.objects json none;
      written = written;
    }) c.print_outcome.ensures.printed

pub returns-clause-words : goal.returns-clause-words
returns-clause-words g c =
    on_ok_weaker c.print_outcome.result
    (λ written. λ words. record {
      changes = c.in_ok-changes.changes;
      are = c.in_ok-changes.ensures.ok;
      text = string_bytes c.in_ok-text.text;
      words = c.in_ok-text.ensures.words words;
      written = written;
    }) c.print_outcome.ensures.printed
