use Rattle.std.proofs.Common.{sym, ◌∙◌}
use Rattle.mq_jsonl.specs.Printed.{report_of}
use Rattle.mq_jsonl.proofs.ObjectLemmas.{report_count, report_refilled}
use Rattle.mq_jsonl.proofs.printer.set_report.Goals as goal

pub refill-requires : goal.refill-requires
refill-requires c =
    let none = sym c.is_some.ensures ∙ c.if-is_some.false in
    report_count c.args.report.acl_line _ c.is_empty.result c.requires c.is_empty.ensures
    c.if-is_empty.false none

pub returns : goal.returns
returns c =
    let none = sym c.is_some.ensures ∙ c.if-is_some.false in
    report_refilled c.refill.result c.args.line (report_of c.args.report) _ _ _
    (record {
      fits = c.requires;
      empty = c.is_empty.ensures;
      some = c.if-is_empty.false;
      same_names = c.refill.ensures.names;
      values = rw c.from.ensures at c.refill.ensures.values;
    })
    none
