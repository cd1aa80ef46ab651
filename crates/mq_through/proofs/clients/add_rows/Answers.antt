use Rattle.std.proofs.Common.{◌∙◌, ◌||◌, ◌+◌, ap, drop, sym}
use Rattle.std.specs.List.{list_any}
use Rattle.mq_acl.specs.Views.{row_view, row_views}
use Rattle.mq_differences.proofs.JudgeLemmas.{any_views}
use Rattle.mq_regions.specs.Limits.{is_long_row}
use Rattle.mq_witness.specs.Literals.{is_among}
use Rattle.mq_through.specs.Clients.{row_tries}
use Rattle.mq_through.proofs.LeftLemmas.{left_more, left_none}
use Rattle.mq_through.proofs.clients.add_rows.Goals as goal

pub loop-row-preserved : goal.loop-row-preserved
loop-row-preserved c =
    let rows = c.args.rows.now in
    let i = c.loop-row.row-index in
    let row = c.row-item.result in
    record {
      among = λ t.
          ap (λ b. is_among t c.add_row.new.clients.items || b)
          (any_views (row_tries t) (drop (i + 1) rows))
          ∙ left_more (λ r. row_tries t (row_view r)) rows i row c.loop-row-test.true c.row-item.is
          (is_among t c.loop-row.clients.items) (is_among t c.add_row.new.clients.items)
          (is_among t c.args.clients.now.items || list_any (row_tries t) (row_views rows))
          (c.in_ok-add_row.ensures.among t)
          (ap (λ b. is_among t c.loop-row.clients.items || b)
          (sym (any_views (row_tries t) (drop i rows)))
          ∙ c.loop-row.invariant.among t);
      clients = λ h. c.in_ok-add_row.ensures.clients (c.loop-row.invariant.clients h);
      short =
          any_views is_long_row (drop (i + 1) rows)
          ∙ left_none (λ r. is_long_row (row_view r)) rows i row c.loop-row-test.true c.row-item.is
          (sym (any_views is_long_row (drop i rows)) ∙ c.loop-row.invariant.short);
    }
