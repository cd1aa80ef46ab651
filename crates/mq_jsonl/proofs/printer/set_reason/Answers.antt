use Rattle.std.proofs.Common.{◌≡◌, ◌∙◌}
use Rattle.serde_json.specs.View.{members_view}
use Rattle.mq_jsonl.proofs.ObjectLemmas.{set_reason, reason_again, reason_refilled}
use Rattle.mq_jsonl.proofs.printer.set_reason.Goals as goal

pub returns-then-is_empty : goal.returns-then-is_empty
returns-then-is_empty c =
    let old = members_view c.args.object.now.members.entries in
    let set : members_view c.number-then-is_empty.new.self.members.entries
    ≡ set_reason c.args.line c.args.reason old =
    rw (c.in_ok-number-2.ensures, c.in_ok-number.ensures, c.from-code.ensures) in
    set ∙ reason_again c.args.line c.args.reason old c.requires

pub returns : goal.returns
returns c =
    reason_refilled c.refill.result c.args.line c.args.reason _ _ _
    (record {
      fits = c.requires;
      empty = c.is_empty.ensures;
      some = c.if-is_empty.false;
      same_names = c.refill.ensures.names;
      values = rw c.from-code.ensures at c.refill.ensures.values;
    })
