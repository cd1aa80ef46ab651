use Rattle.std.proofs.Common.{◌≡◌, ◌==◌, ◌+◌, ◌++◌, ◌<◌, ◌≤◌, lit<, length, drop, get_or, ap, sym}
use Rattle.std.proofs.Common.{◌∙◌, subst, arith, append_assoc, append-nil}
use Rattle.std.proofs.lemmas.Iterator.Splits.{YieldsList-from_str_split}
use Rattle.std.proofs.lemmas.Iterator.Consumers.{YieldsList-turn, YieldsList-end}
use Rattle.std.proofs.lemmas.List.{length_push, at_drop_all}
use Rattle.std.proofs.lemmas.List.Splits.{length-slice_split}
use Rattle.std.proofs.lemmas.List.Sums.{count_by-le-length}
use Rattle.std.specs.Str.Iter.{split_text, split_has_more, split_pattern}
use Rattle.mq_acl.specs.Lines.{lines}
use Rattle.mq_ask_why.specs.Questions.{asked_at, asked_from, numbered_views}
use Rattle.mq_ask_why.proofs.QuestionLemmas.{asked_step}
use Rattle.mq_ask_why.proofs.read.read_questions.Goals as goal

pub overflow_add-number : goal.overflow_add-number
overflow_add-number c =
    let text = c.args.text.now in
    let same = c.into_iter-line-iterator.ensures.into_iter_gives in
    let turn = YieldsList-turn
    (YieldsList-from_str_split 10 text (lit< tt)
    (ap split_text same ∙ c.split-line-items.ensures.text)
    (ap split_has_more same ∙ c.split-line-items.ensures.has_more)
    (ap split_pattern same ∙ c.split-line-items.ensures.pattern)) c.loop-line.yielded _
    c.loop-line.yielded_by _ _ c.in-Some.line c.in-Some.is c.next.ensures.steps in
    let left = turn.0 in
    omega (
      arith,
      left,
      c.loop-line.invariant.count,
      length-slice_split (λ b. b == 10) text,
      count_by-le-length (λ b. b == 10) text,
    )

pub loop-line-preserved : goal.loop-line-preserved
loop-line-preserved c =
    let text = c.args.text.now in
    let number = c.loop-line.number in
    let same = c.into_iter-line-iterator.ensures.into_iter_gives in
    let turn = YieldsList-turn
    (YieldsList-from_str_split 10 text (lit< tt)
    (ap split_text same ∙ c.split-line-items.ensures.text)
    (ap split_has_more same ∙ c.split-line-items.ensures.has_more)
    (ap split_pattern same ∙ c.split-line-items.ensures.pattern)) c.loop-line.yielded _
    c.loop-line.yielded_by _ _ c.in-Some.line c.in-Some.is c.next.ensures.steps in
    let left : number < length (lines text) =
    subst (λ n. n < length (lines text)) (sym c.loop-line.invariant.count) turn.0 in
    let line : c.in-Some.line.now ≡ get_or (lines text) number c.in-Some.line.now =
    subst (λ n. c.in-Some.line.now ≡ get_or (lines text) n c.in-Some.line.now)
    (sym c.loop-line.invariant.count) turn.1 in
    let rest = asked_from (number + 1 + 1) (drop (number + 1) (lines text)) in
    record {
      can_next = tt;
      is_finite = tt;
      count = (let one_more = length_push c.loop-line.yielded c.in-Some.line in let count =
          c.loop-line.invariant.count in omega arith);
      asked =
          ap (λ l. l ++ rest) c.in_ok-add_line.ensures
          ∙ append_assoc (numbered_views c.loop-line.all.items)
          (asked_at (number + 1) c.in-Some.line.now) rest
          ∙ ap (λ l. numbered_views c.loop-line.all.items ++ l)
          (sym (asked_step (lines text) number c.in-Some.line.now left line))
          ∙ c.loop-line.invariant.asked;
    }

pub returns : goal.returns
returns c =
    let text = c.args.text.now in
    let number = c.loop-line.number in
    let same = c.into_iter-line-iterator.ensures.into_iter_gives in
    let end = YieldsList-end (YieldsList-from_str_split 10 text (lit< tt)
    (ap split_text same ∙ c.split-line-items.ensures.text)
    (ap split_has_more same ∙ c.split-line-items.ensures.has_more)
    (ap split_pattern same ∙ c.split-line-items.ensures.pattern)) c.loop-line.yielded _
    c.loop-line.yielded_by _ _ c.in-None.is c.next.ensures.steps in
    let none_left : length (lines text) ≤ number =
    (let count = c.loop-line.invariant.count in let all = end.1 in omega arith) in
    sym (append-nil (numbered_views c.loop-line.all.items))
    ∙ ap (λ l. numbered_views c.loop-line.all.items ++ l)
    (sym (at_drop_all (asked_from (number + 1)) (lines text) number none_left))
    ∙ c.loop-line.invariant.asked
