use Rattle.std.proofs.Common.{map, drop, rules, sym, ◌∙◌}
use Rattle.std.proofs.lemmas.List.{length-map}
use Rattle.mq_jsonl.specs.Objects.{data_of}
use Rattle.mq_jsonl.specs.contracts.object.fn.Object.refill.retain as closure
use Rattle.mq_jsonl.proofs.RefillLemmas.{IsRefilled, refilled, refilled_none, data_none}
use Rattle.mq_jsonl.proofs.RefillLemmas.{length_names}
use Rattle.mq_jsonl.proofs.object.Object.refill.Goals as goal

pub invariant_of-self : goal.invariant_of-self
invariant_of-self c =
    record {
      no_float = refilled_none _ (λ f. let l = closure.captures f in
          map data_of (drop l.next l.row.now)) (λ f k v b w f' t. search rules) _ _ _
          c.retain.ensures.filtered (data_none c.args.row.now);
    }

refilled_whole : (c : goal.Then-len-row)
    → IsRefilled c.args.self.now.members.entries c.retain.new.self.entries
    (map data_of c.args.row.now)
refilled_whole c =
    let count = sym (length_names c.args.self.now.members.entries) ∙ c.requires in
    refilled _ (λ f. let l = closure.captures f in map data_of (drop l.next l.row.now))
    (λ f k v b w f' t. search rules) _ _ _
    c.retain.ensures.filtered (sym c.len.ensures.len ∙ c.if-len-row.true ∙ sym count)
    (count ∙ sym (length-map c.args.row.now data_of))

pub returns-then-len-row-clause-names : goal.returns-then-len-row-clause-names
returns-then-len-row-clause-names c = (refilled_whole c).0

pub returns-then-len-row-clause-values : goal.returns-then-len-row-clause-values
returns-then-len-row-clause-values c = (refilled_whole c).1
