-- Where two lists differ, as JSON: an object for each difference.
use Rattle.std.specs.Io.KnownBytes.{Appends}
use Rattle.std.specs.List.{filter, flat_map}
use Rattle.std.specs.Prelude.{◌≡◌, ◌++◌, ℕ, List, [], Option, codes, map, string_bytes}
use Rattle.mq_acl.specs.declared.rules.Rules.{Rules}
use Rattle.mq_ask.specs.Words.{access_text}
use Rattle.mq_ask_cases.specs.Ways.{is_way, way_text}
use Rattle.mq_ask_compare.specs.Compare.{AreChanges}
use Rattle.mq_ask_compare.specs.declared.compare.Changes.{Changes}
use Rattle.mq_differences.specs.Classes.{user_of}
use Rattle.mq_differences.specs.Reasons.{deciding_line}
use Rattle.mq_differences.specs.declared.difference.Difference.{Difference}
use Rattle.mq_differences.specs.declared.way.Way.{Way}
use Rattle.mq_print.specs.Lists.{ListView, list_view, shown_line}
use Rattle.mq_print.specs.Objects.{line_data, object_text, text_data}
use Rattle.mq_print.specs.declared.list.ListText.{ListText}
use Rattle.serde_json.specs.Data.{Members, array, no_members, put, string}
use Rattle.serde_json.specs.View.{items_of}

-- a difference: each member by its name
abbrev pub change_members : (old new : ListView) → Difference → Members
change_members old new d =
    put (codes "user") (text_data (user_of d.class)) (
    put (codes "topic") (string d.topic) (
    put (codes "placeholders")
    (array (items_of (map (λ text. string (string_bytes text)) d.placeholders.items))) (
    put (codes "old") (line_data (shown_line old (deciding_line d.old_reason))) (
    put (codes "new") (line_data (shown_line new (deciding_line d.new_reason))) (
    put (codes "client") (string (string_bytes d.client)) (
    put (codes "change") (string (way_text d.way)) (
    put (codes "access") (string (access_text d.direction)) no_members)))))))

abbrev pub change_text : (old new : ListView) → Difference → List ℕ
change_text old new d = object_text (change_members old new d)

-- an object for each difference
abbrev pub changes_text : (old new : ListView) → List Difference → List ℕ
changes_text old new ds = flat_map (change_text old new) ds

-- the text of all differences that are asked about
abbrev pub AreObjects : (only : Option Way) → (old new : ListView) → Changes → (text : List ℕ)
    → Type 0
AreObjects only old new changes text =
    text ≡ changes_text old new (filter (λ d. is_way only d.way) changes.differences.items)

-- what is written is that of lists with these texts
pub record AreShown (rules : Rules) (only : Option Way) (old new : ListText)
    (before after : Option (List ℕ)) : Type 0 where
  pub changes : Changes
  pub are : AreChanges rules old.text.now new.text.now changes
  pub text : List ℕ
  pub objects : AreObjects only (list_view old) (list_view new) changes text
  pub written : Appends before after text
