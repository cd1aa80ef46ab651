-- The limit of 300 bytes a level and a user name.
use Rattle.std.specs.Prelude.{ℕ, Bool, false, List, ◌||◌}
use Rattle.std.specs.List.{list_any}
use Rattle.mq_topic.specs.Levels.{levels}
use Rattle.mq_acl.specs.Rows.{Who, Anonymous, Named, Everyone, AclRow}
use Rattle.mq_acl.specs.declared.row.Row.{Row}
use Rattle.mq_rename.specs.Lists.{has_long, is_long}
use Rattle.mq_regions.specs.Regions.{region_levels}
use Rattle.mq_regions.specs.declared.region.Region.{Region}

abbrev pub is_long_who : Who → Bool
is_long_who Anonymous = false
is_long_who (Named name) = is_long name
is_long_who Everyone = false

-- some level of the filter is long, or the user name is
abbrev pub is_long_row : AclRow → Bool
is_long_row row = has_long (levels row.filter) || is_long_who row.who

abbrev pub has_long_row : List AclRow → Bool
has_long_row rows = list_any is_long_row rows

-- some row's filter has a long level
abbrev pub has_long_filter : List Row → Bool
has_long_filter rows = list_any (λ row. has_long (levels row.filter)) rows

-- some level is long, of the region's filters or of the rows', or the client id is
abbrev pub is_long_question : Region → List ℕ → List Row → Bool
is_long_question region client rows =
    is_long client || has_long (region_levels region) || has_long_filter rows
