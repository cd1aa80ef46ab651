use Rattle.std.proofs.Common.{◌≡◌, ◌==◌, ◌+◌, ◌∷◌, ◌++◌, ap, arith, length, sym, ◌∙◌}
use Rattle.std.specs.List.{enumerate_from, filter_map}
use Rattle.std.proofs.lemmas.List.Splits.{length-slice_split}
use Rattle.std.proofs.lemmas.List.Sums.{count_by-le-length}
use Rattle.mq_acl.specs.Views.{lines_left}
use Rattle.mq_acl.specs.Lines.{lines}
use Rattle.mq_plan.specs.Rules.{fault_at, rule_at}
use Rattle.mq_plan.proofs.LoopLemmas.{option_front}
use Rattle.mq_plan.proofs.SideLemmas.{none_made}
use Rattle.mq_plan.proofs.read.rules_in.Goals as goal

pub overflow_add-number : goal.overflow_add-number
overflow_add-number c =
    let text = c.args.text.now in
    let left = ap length c.split_line.ensures in
    let some = ap (λ r. length (lines_left r)) c.in-Some.is in
    let count = c.loop-rest.invariant.counted in
    omega (
      arith,
      length-slice_split (λ b. b == 10) text,
      count_by-le-length (λ b. b == 10) text,
      count,
      left,
      some,
    )

pub loop-rest-preserved : goal.loop-rest-preserved
loop-rest-preserved c =
    let all = lines c.args.text.now in
    let number = c.loop-rest.number in
    let line = c.split_line.result.0.now in
    let after = lines_left c.split_line.result.1 in
    let left : lines_left c.loop-rest.rest ≡ line ∷ after =
    ap lines_left c.in-Some.is ∙ c.split_line.ensures in
    let faults = filter_map fault_at (enumerate_from (number + 1 + 1) after) in
    let rules = filter_map rule_at (enumerate_from (number + 1 + 1) after) in
    record {
      counted = (let size = ap length left in let count = c.loop-rest.invariant.counted in
          omega arith);
      faultless = (none_made (fault_at (number + 1, line)) faults
          (ap (λ ls. filter_map fault_at (enumerate_from (number + 1) ls)) (sym left)
          ∙ c.loop-rest.invariant.faultless)).1;
      found = ap (λ l. l ++ rules) c.in_ok-add_rule.ensures
          ∙ option_front c.loop-rest.rules.items (rule_at (number + 1, line)) rules
          ∙ ap (λ ls. c.loop-rest.rules.items
          ++ filter_map rule_at (enumerate_from (number + 1) ls)) (sym left)
          ∙ c.loop-rest.invariant.found;
    }
