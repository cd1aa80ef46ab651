-- The items of a list by whom they are for.
use Rattle.std.specs.Prelude.{◌≡◌, ℕ, List, [], Option, Some, None}
use Rattle.std.specs.List.{filter}
use Rattle.std.specs.Option.{option_map_or}
use Rattle.std.specs.BTreeMap.{get_by_text}
use Rattle.mq_acl.specs.Rows.{Who}
use Rattle.mq_acl.specs.RowsByOwner.{is_everyones, is_own}
use Rattle.mq_acl.specs.declared.by_owner.ByOwner.{ByOwner}

abbrev pub everyones : {T : Type 0} → ByOwner T → List T
everyones by_owner = by_owner.everyone.items

abbrev pub own_items : {T : Type 0} → Option (List ℕ) → ByOwner T → List T
own_items None by_owner = by_owner.anonymous.items
own_items (Some user) by_owner =
    option_map_or (λ items. items.items) (get_by_text by_owner.named user) []

-- these items by whom they are for, as `who` says, each group in their order
pub record IsGrouped {T : Type 0} (who : T → Who) (all : List T) (by_owner : ByOwner T) : Type 0
  where
    pub everyone : everyones by_owner ≡ filter (λ item. is_everyones (who item)) all
    pub own : (user : Option (List ℕ)) → own_items user by_owner
        ≡ filter (λ item. is_own user (who item)) all
