-- Who may, as JSON: an object for each permission.
use Rattle.std.specs.Io.KnownBytes.{Appends}
use Rattle.std.specs.List.{filter, flat_map, list_any}
use Rattle.std.specs.Prelude.{◌≡◌, ◌++◌, ◌&&◌, ◌==◌, ℕ, Bool, List, [], ◌∷◌, Option, codes, length}
use Rattle.std.specs.Prelude.{map, not, string_bytes}
use Rattle.mq_acl.specs.Refused.{refuses}
use Rattle.mq_acl.specs.declared.access.Direction.{Direction}
use Rattle.mq_acl.specs.declared.access.Direction.TheVariants.{Reading, Writing}
use Rattle.mq_acl.specs.declared.rules.Rules.{Rules}
use Rattle.mq_ask.specs.Objects.{limit_by, refused_texts}
use Rattle.mq_ask.specs.Words.{access_text}
use Rattle.mq_ask_who.specs.Who.{ArePermissions, is_shown, is_wanted}
use Rattle.mq_differences.specs.Classes.{user_of}
use Rattle.mq_differences.specs.Differences.{same_class, same_direction}
use Rattle.mq_differences.specs.Reasons.{deciding_line}
use Rattle.mq_differences.specs.declared.difference.Difference.{Difference}
use Rattle.mq_print.specs.Lists.{ListView, list_view, shown_line}
use Rattle.mq_print.specs.Objects.{line_data, object_text, text_data}
use Rattle.mq_print.specs.declared.list.ListText.{ListText}
use Rattle.mq_who.specs.declared.permissions.Permissions.{Permissions}
use Rattle.serde_json.specs.Data.{Data, Members, array, boolean, no_members, object, put, string}
use Rattle.serde_json.specs.View.{items_of}

-- ---- what isn't allowed beside
-- both are of the same class and direction
abbrev pub is_beside : Difference → Difference → Bool
is_beside d e = same_direction d.direction e.direction && same_class d.class e.class

-- what isn't allowed of the same class and direction
abbrev pub beside : (refused : List Difference) → Difference → List Difference
beside refused d = filter (is_beside d) refused

abbrev pub refusal_data : ListView → Difference → Data
refusal_data list e = object (
    put (codes "user") (text_data (user_of e.class)) (
    put (codes "topic") (string e.topic) (
    put (codes "line") (line_data (shown_line list (deciding_line e.old_reason))) (
    put (codes "client") (string (string_bytes e.client)) no_members))))

-- ---- what is allowed
-- this is one of the directions in which the broker refuses by itself what is asked about
abbrev pub is_refused_in : (broker : List Direction) → Direction → Bool
is_refused_in broker direction = list_any (same_direction direction) broker

-- neither by the list nor by the broker itself anything isn't allowed
abbrev pub is_every : (broker : List Direction) → (others : List Difference) → Difference → Bool
is_every broker others d = length others == 0 && not (is_refused_in broker d.direction)

-- a permission, with what isn't allowed beside: each member by its name
abbrev pub permission_members : ListView → (every : Bool) → (refusals : List Data) → Difference
    → Members
permission_members list every refusals d =
    put (codes "user") (text_data (user_of d.class)) (
    put (codes "topic") (string d.topic) (
    put (codes "placeholders")
    (array (items_of (map (λ text. string (string_bytes text)) d.placeholders.items))) (
    put (codes "not") (array (items_of refusals)) (
    put (codes "line") (line_data (shown_line list (deciding_line d.old_reason))) (
    put (codes "every") (boolean every) (
    put (codes "client") (string (string_bytes d.client)) (
    put (codes "access") (string (access_text d.direction)) no_members)))))))

abbrev pub permission_text : ListView → (broker : List Direction) → (others : List Difference)
    → Difference → List ℕ
permission_text list broker others d = object_text
    (permission_members list (is_every broker others d) (map (refusal_data list) others) d)

-- an object for each
abbrev pub permission_texts : ListView → (broker : List Direction) → (refused : List Difference)
    → List Difference → List ℕ
permission_texts list broker refused ds =
    flat_map (λ d. permission_text list broker (beside refused d) d) ds

-- ---- all of it
abbrev pub in_direction : Direction → List Difference → List Difference
in_direction direction all = filter (λ d. same_direction direction d.direction) all

-- what may be read, then what may be written
abbrev pub by_direction : List Difference → List Difference
by_direction all = in_direction Reading all ++ in_direction Writing all

-- an object for each permission, and behind them one for each direction in which the broker refuses by itself
abbrev pub permissions_text : ListView → (broker : List Direction)
    → (granted refused : List Difference) → List ℕ
permissions_text list broker granted refused =
    permission_texts list broker refused (by_direction granted) ++ refused_texts broker

-- the directions that are asked of, and in which the broker refuses by itself what the filter names
abbrev pub refused_directions : Rules → (wanted : List ℕ) → (access : Option Direction)
    → List Direction
refused_directions rules wanted access =
    filter (λ direction. is_wanted access direction && refuses rules direction wanted)
    (Reading ∷ Writing ∷ [])

-- what is written is the text of all that the list with this text allows, of those that are asked about, and for which
-- clients it is
pub record IsWhoShown (rules : Rules) (list : ListText) (wanted : List ℕ)
    (access : Option Direction) (only : Option (List ℕ)) (before after : Option (List ℕ)) : Type 0
  where
    pub permissions : Permissions
    pub are : ArePermissions rules list.text.now wanted permissions
    pub text : List ℕ
    pub text_is : text ≡ permissions_text (list_view list) (refused_directions rules wanted access)
        (filter (is_shown access only) permissions.granted.items) permissions.refused.items
        ++ limit_by rules
    pub written : Appends before after text
