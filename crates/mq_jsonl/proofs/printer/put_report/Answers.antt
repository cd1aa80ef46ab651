use Rattle.std.proofs.Common.{◌≡◌, ◌∙◌}
use Rattle.serde_json.specs.View.{members_view}
use Rattle.mq_jsonl.specs.Printed.{report_of}
use Rattle.mq_jsonl.proofs.ObjectLemmas.{set_report, report_again}
use Rattle.mq_jsonl.proofs.printer.put_report.Goals as goal

pub returns : goal.returns
returns c =
    let old = members_view c.args.object.now.members.entries in
    let set : members_view c.number_if.new.self.members.entries
    ≡ set_report c.args.line (report_of c.args.report) old =
    rw (
      c.in_ok-number_if.ensures,
      c.in_ok-text.ensures,
      c.in_ok-number-2.ensures,
      c.in_ok-number.ensures,
      c.from.ensures,
    ) in
    set ∙ report_again c.args.line (report_of c.args.report) old c.requires
