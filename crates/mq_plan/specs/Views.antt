-- What the values of the code stand for.
use Rattle.mq_plan.specs.Lines as lines
use Rattle.mq_plan.specs.declared.line.Entry.{Entry}
use Rattle.mq_plan.specs.declared.line.Entry.TheVariants as entries

abbrev pub entry_view : Entry → lines.Entry
entry_view entries.Skipped = lines.Skipped
entry_view (entries.Renamed left right) = lines.Renamed left.now right.now
entry_view (entries.Kept left) = lines.Kept left.now
entry_view (entries.Gone left) = lines.Gone left.now
entry_view entries.Unread = lines.Unread
