use Rattle.std.proofs.Common.{Bor, ◌∙◌, sym}
use Rattle.mq_acl.specs.Views.{row_view}
use Rattle.mq_acl.specs.declared.row.Row.{Row}
use Rattle.mq_shapes.specs.Every.{has_mark}
use Rattle.mq_shapes.proofs.RowLemmas.{any-map}
use Rattle.mq_shapes.proofs.every.some_mark.Goals as goal

pub returns : goal.returns
returns c = c.any_marked.ensures
    ∙ sym (any-map (has_mark c.args.mark.now) (λ (row : Bor Row). row_view row.now) c.args.rows.now)
