-- Whether a client with any id can be sent something, as JSON: one object.
use Rattle.std.specs.Io.KnownBytes.{Appends}
use Rattle.std.specs.Option.{option_and_then, option_map, option_map_or}
use Rattle.std.specs.Prelude.{ℕ, List, [], Option, codes, map, string_bytes}
use Rattle.mq_acl.specs.declared.rules.Rules.{Rules}
use Rattle.mq_ask_who.specs.ReachAny.{IsFoundIn}
use Rattle.mq_differences.specs.Reasons.{deciding_line}
use Rattle.mq_differences.specs.declared.difference.Difference.{Difference}
use Rattle.mq_print.specs.Lists.{ListView, list_view, shown_line}
use Rattle.mq_print.specs.Objects.{line_data, object_text, text_data}
use Rattle.mq_print.specs.declared.list.ListText.{ListText}
use Rattle.serde_json.specs.Data.{Members, array, no_members, put, string}
use Rattle.serde_json.specs.View.{items_of}

-- the line by which it is so, if it is
abbrev pub found_line : Option Difference → Option ℕ
found_line found = option_and_then (λ d. deciding_line d.old_reason) found

-- what was asked about, and what was found, if anything was: each member by its name
abbrev pub any_members : ListView → (user : Option (List ℕ)) → (wanted : List ℕ)
    → (found : Option Difference) → Members
any_members list user wanted found =
    put (codes "user") (text_data user) (
    put (codes "topic") (text_data (option_map (λ d. d.topic) found)) (
    put (codes "placeholders") (array (items_of (
    option_map_or (λ d. map (λ text. string (string_bytes text)) d.placeholders.items) found []))) (
    put (codes "line") (line_data (shown_line list (found_line found))) (
    put (codes "filter") (string wanted) (
    put (codes "client") (text_data (option_map (λ d. string_bytes d.client) found)) no_members)))))

abbrev pub any_text : ListView → (user : Option (List ℕ)) → (wanted : List ℕ)
    → (found : Option Difference) → List ℕ
any_text list user wanted found = object_text (any_members list user wanted found)

-- what is written is that of an answer about the list with this text
pub record IsAnyShown (rules : Rules) (list : ListText) (user : Option (List ℕ)) (wanted : List ℕ)
    (before after : Option (List ℕ)) : Type 0 where
  pub found : Option Difference
  pub is_found : IsFoundIn rules list.text.now user wanted found
  pub written : Appends before after (any_text (list_view list) user wanted found)
