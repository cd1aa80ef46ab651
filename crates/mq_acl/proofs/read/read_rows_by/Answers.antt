use Rattle.std.proofs.Common.{◌==◌, ◌≡◌, ◌⊎◌, Err, ap, arith, length, rules, ⊎_elim, inl, inr, ◌∙◌}
use Rattle.std.proofs.lemmas.List.Splits.{length-slice_split}
use Rattle.std.proofs.lemmas.List.Sums.{count_by-le-length}
use Rattle.mq_acl.specs.Lines.{lines}
use Rattle.mq_acl.specs.Rows.{rows_by, out_of_memory}
use Rattle.mq_acl.specs.Views.{lines_left, row_views, line_views, user_who}
use Rattle.mq_acl.proofs.RowLemmas.{read_step, read_fault, read_count}
use Rattle.mq_acl.proofs.read.read_rows_by.Goals as goal

pub overflow_add-number : goal.overflow_add-number
overflow_add-number c =
    let text = c.args.text.now in
    let left = ap length c.split_line.ensures in
    let some = ap (λ r. length (lines_left r)) c.in-Some.is in
    let count = read_count c.args.rules (lines text) (lines_left c.loop-rest.rest) c.loop-rest.number
    (user_who c.loop-rest.user) (row_views c.loop-rest.rows.items)
    (line_views c.loop-rest.rows.items) c.loop-rest.invariant in
    omega (
      arith,
      length-slice_split (λ b. b == 10) text,
      count_by-le-length (λ b. b == 10) text,
      count,
      left,
      some,
    )

pub returns-in_err-user : goal.returns-in_err-user
returns-in_err-user c =
    let fault = c.in_err-user.field-0.0 in
    let shown : (fault ≡ out_of_memory) ⊎ (rows_by c.args.rules c.args.text.now ≡ Err fault) =
    ⊎_elim inl
    (λ f. inr (read_fault c.args.rules (lines c.args.text.now) (lines_left c.loop-rest.rest)
    (lines_left c.split_line.result.1) c.split_line.result.0.now c.loop-rest.number
    (user_who c.loop-rest.user) (row_views c.loop-rest.rows.items)
    (line_views c.loop-rest.rows.items) fault c.loop-rest.invariant
    (ap lines_left c.in-Some.is ∙ c.split_line.ensures) f))
    c.in_err-user.ensures.fault in
    search rules

pub loop-rest-preserved : goal.loop-rest-preserved
loop-rest-preserved c =
    read_step c.args.rules (lines c.args.text.now) (lines_left c.loop-rest.rest)
    (lines_left c.split_line.result.1) c.split_line.result.0.now c.loop-rest.number
    (user_who c.loop-rest.user) (user_who c.in_ok-user.user) (row_views c.loop-rest.rows.items)
    (row_views c.read_line_into.new.rows.items) (line_views c.loop-rest.rows.items)
    (line_views c.read_line_into.new.rows.items) c.loop-rest.invariant
    (ap lines_left c.in-Some.is ∙ c.split_line.ensures) c.in_ok-user.ensures.ok

pub loop-rest-init : goal.loop-rest-init
loop-rest-init c = search rules
