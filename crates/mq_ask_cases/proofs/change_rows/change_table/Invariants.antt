use Rattle.std.proofs.Common.{◌≡◌, ◌++◌, [], drop, map, string_bytes}
use Rattle.mq_ask_cases.specs.ChangeRows.{change_view, row_text, rows_text}
use Rattle.mq_ask_cases.proofs.change_rows.change_table.Given as goal
use denote.Shadow.{shadow}
use denote.Text.{Utf8}

abbrev pub invariant-loop-row : goal.invariant-loop-row
invariant-loop-row l = record {
  added : string_bytes l.text
      ++ rows_text (row_text l.coloured l.widths.access l.widths.place) l.who
      (map change_view (drop l.row-index l.rows))
      ≡ rows_text (row_text l.coloured l.widths.access l.widths.place) [] (map change_view l.rows);
  is_text : shadow (Utf8 l.who);
}
