-- What changes through a plan, as JSON: an object for each change.
use Rattle.std.specs.Io.KnownBytes.{Appends}
use Rattle.std.specs.List.{filter, flat_map}
use Rattle.std.specs.Prelude.{ℕ, List, Option, codes, map, string_bytes}
use Rattle.mq_ask.specs.Words.{access_text}
use Rattle.mq_ask_cases.specs.Ways.{is_way, way_text}
use Rattle.mq_ask_plan.specs.Renamed.{AreRenamed}
use Rattle.mq_ask_plan.specs.declared.find.RenamedChanges.{RenamedChanges}
use Rattle.mq_differences.specs.Classes.{user_of}
use Rattle.mq_differences.specs.Reasons.{deciding_line}
use Rattle.mq_differences.specs.declared.way.Way.{Way}
use Rattle.mq_print.specs.Lists.{ListView, list_view, shown_line}
use Rattle.mq_print.specs.Objects.{line_data, object_text, text_data}
use Rattle.mq_print.specs.declared.list.ListText.{ListText}
use Rattle.mq_through.specs.declared.renamed.Renamed.{Renamed}
use Rattle.serde_json.specs.Data.{Members, array, no_members, put, string}
use Rattle.serde_json.specs.View.{items_of}

-- a change: each member by its name
abbrev pub renamed_members : (old new plan : ListView) → Renamed → Members
renamed_members old new plan r =
    put (codes "user") (text_data (user_of r.difference.class)) (
    put (codes "topic") (string r.difference.topic) (
    put (codes "rule") (line_data (shown_line plan r.rule)) (
    put (codes "placeholders")
    (array (items_of (map (λ text. string (string_bytes text)) r.difference.placeholders.items))) (
    put (codes "old") (line_data (shown_line old (deciding_line r.difference.old_reason))) (
    put (codes "new_topic") (string r.new_topic) (
    put (codes "new") (line_data (shown_line new (deciding_line r.difference.new_reason))) (
    put (codes "client") (string (string_bytes r.difference.client)) (
    put (codes "change") (string (way_text r.difference.way)) (
    put (codes "access") (string (access_text r.difference.direction)) no_members)))))))))

abbrev pub renamed_text : (old new plan : ListView) → Renamed → List ℕ
renamed_text old new plan r = object_text (renamed_members old new plan r)

-- an object for each change, in their order
abbrev pub renamed_texts : (old new plan : ListView) → List Renamed → List ℕ
renamed_texts old new plan all = flat_map (renamed_text old new plan) all

-- one for each that is asked about
abbrev pub asked_texts : (only : Option Way) (old new plan : ListView) → List Renamed → List ℕ
asked_texts only old new plan all =
    renamed_texts old new plan (filter (λ one. is_way only one.difference.way) all)

-- what is written is that of lists and a plan with these texts
pub record AreThroughShown (only : Option Way) (old new plan : ListText)
    (before after : Option (List ℕ)) : Type 0 where
  pub changes : RenamedChanges
  pub are : AreRenamed old.text.now new.text.now plan.text.now changes
  pub written : Appends before after (asked_texts only (list_view old) (list_view new)
      (list_view plan) changes.renamed.items)
