use Rattle.std.proofs.Common.{◌≡◌, ◌++◌, ◌∙◌, ap, rules}
use Rattle.mq_acl.specs.declared.access.Direction.TheVariants.{Reading, Writing}
use Rattle.std.proofs.lemmas.Iterator.Adapters.{YieldsList-from_vec}
use Rattle.std.proofs.lemmas.Iterator.Consumers.{YieldsList-end}
use Rattle.mq_ask_who.specs.WhoShown.{by_direction}
use Rattle.mq_ask_who.proofs.WhoShownLemmas.{all_came, direction_more}
use Rattle.mq_ask_who.proofs.permissions.by_direction.Goals as goal

pub loop-one-preserved : goal.loop-one-preserved
loop-one-preserved c = record {
  reading = direction_more Reading c.loop-one.yielded _ _ c.in-Some.one c.loop-one.invariant.reading
      c.in_ok-add_one.ensures.reading;
  writing = direction_more Writing c.loop-one.yielded _ _ c.in-Some.one c.loop-one.invariant.writing
      c.in_ok-add_one.ensures.writing;
}

pub returns : goal.returns
returns c =
    let joined : c.append.new.self.items ≡ c.loop-one.reading.items ++ c.loop-one.writing.items =
    search rules in
    let gives = c.into_iter-one-iterator.ensures.into_iter_gives in
    let end = YieldsList-end (YieldsList-from_vec {s = c.into_iter-one-iterator.result}
    c.args.granted.items gives.0 (search rules)) c.loop-one.yielded
    c.loop-one.one-iterator c.loop-one.yielded_by c.next.result c.next.new.self c.in-None.is
    c.next.ensures.steps in
    let all = all_came c.loop-one.yielded c.args.granted.items end.0 in
    joined ∙ (λ i. c.loop-one.invariant.reading i ++ c.loop-one.invariant.writing i)
    ∙ ap by_direction all
