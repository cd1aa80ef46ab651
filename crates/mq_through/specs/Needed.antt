-- Which rows may decide about a region's topics.
use Rattle.std.specs.Prelude.{◌≡◌, ℕ, Bool, true, false, List, Option, Some}
use Rattle.mq_topic.specs.Levels.{levels}
use Rattle.mq_topic.specs.Matching.{matches}
use Rattle.mq_topic.specs.Texts.{is_name}
use Rattle.mq_acl.specs.Access.{concerns}
use Rattle.mq_acl.specs.Lines as lines
use Rattle.mq_acl.specs.Views.{row_view, row_views}
use Rattle.mq_acl.specs.declared.row.Row.{Row}
use Rattle.mq_regions.specs.Deciding.{first_line}
use Rattle.mq_regions.specs.Limits.{has_long_row}
use Rattle.mq_regions.specs.Regions.{in_kind, in_region, kind_name}
use Rattle.mq_regions.specs.declared.region.Region.{Region}
use Rattle.mq_regions.specs.declared.region.RegionKind.{RegionKind}
use Rattle.mq_through.specs.Made.{Asks, asks_new, asks_old}
use Rattle.mq_through.specs.declared.comparison.Comparison.{Comparison}
use Rattle.mq_through.specs.declared.needed.Needed.{Needed}
use Rattle.mq_through.specs.declared.needed.Side.{Side}
use Rattle.mq_through.specs.declared.needed.Side.TheVariants.{Old, New}

-- the name that a list asks about a topic of the kind
abbrev pub asks_in : Side → RegionKind → Asks
asks_in Old kind topic = Some topic
asks_in New kind topic = kind_name kind topic

-- the filter matches nothing that the list asks about a topic of the kind
abbrev pub IsUnmatched : Side → RegionKind → List ℕ → Type 0
IsUnmatched side kind filter = (n m : List ℕ) → is_name n ≡ true → in_kind kind n ≡ true
    → asks_in side kind n ≡ Some m → matches (levels filter) (levels m) ≡ false

-- the row decides about no topic of the region, whoever asks
abbrev pub IsUnneeded : Region → Asks → Row → Type 0
IsUnneeded region asks row = (n m client : List ℕ) (user : Option (List ℕ)) → is_name n ≡ true
    → in_region region n ≡ true → asks n ≡ Some m → concerns client user m (row_view row) ≡ false

-- the first lines of both that decide about what is asked of the region's topics are the same
pub record IsNeededOf (region : Region) (asks : Asks) (rows kept : List Row) : Type 0 where
  pub same : (n m client : List ℕ) (user : Option (List ℕ)) (p : lines.Access → Bool)
      → is_name n ≡ true → in_region region n ≡ true → asks n ≡ Some m
      → first_line p client user m kept ≡ first_line p client user m rows
  pub short : has_long_row (row_views rows) ≡ false → has_long_row (row_views kept) ≡ false

-- they decide as the lists of the comparison do
pub record AreNeeded (k : Comparison) (region : Region) (needed : Needed) : Type 0 where
  pub old_rows : IsNeededOf region asks_old k.old.now needed.old.items
  pub new_rows : IsNeededOf region (asks_new region) k.new.now needed.new.items

-- the row concerns no topic of the region
pub record IsIdle (region : Region) (row : Row) : Type 0 where
  pub silent : (x n : List ℕ) (user : Option (List ℕ)) → is_name n ≡ true
      → in_region region n ≡ true → concerns x user n (row_view row) ≡ false
