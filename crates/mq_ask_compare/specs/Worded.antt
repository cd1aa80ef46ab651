-- Where two lists differ, in words: a row for each group of differences that are alike.
use Rattle.std.specs.Fmt.{decimal}
use Rattle.std.specs.Io.KnownBytes.{Appends}
use Rattle.std.specs.List.{filter}
use Rattle.std.specs.Option.{option_map}
use Rattle.std.specs.Prelude.{◌≡◌, ◌++◌, ℕ, Bool, true, List, [], ◌∷◌, Option, None, Some}
use Rattle.std.specs.Prelude.{codes, length}
use Rattle.mq_acl.specs.declared.rules.Rules.{Rules}
use Rattle.mq_acl.specs.declared.rules.Rules.TheVariants.{Own, Mosquitto}
use Rattle.mq_ask.specs.Words.{owner_words}
use Rattle.mq_ask_cases.specs.ChangeRows.{ChangeView, table_text}
use Rattle.mq_ask_cases.specs.Clients.{group_text}
use Rattle.mq_ask_cases.specs.Deciding.{decision}
use Rattle.mq_ask_cases.specs.Placeholders.{IsShownTopic}
use Rattle.mq_ask_cases.specs.Ways.{is_way, rows_word}
use Rattle.mq_ask_cases.specs.declared.published.ScriptTraffic.{ScriptTraffic}
use Rattle.mq_ask_compare.specs.Compare.{AreChanges}
use Rattle.mq_ask_compare.specs.declared.changes.ComparedTraffic.{ComparedTraffic}
use Rattle.mq_ask_compare.specs.declared.changes.Scope.{Scope}
use Rattle.mq_ask_compare.specs.declared.compare.Changes.{Changes}
use Rattle.mq_differences.specs.Groups.{IsGathering}
use Rattle.mq_differences.specs.declared.difference.Difference.{Difference}
use Rattle.mq_differences.specs.declared.group.Group.{Group}
use Rattle.mq_differences.specs.declared.way.Way.{Way}
use Rattle.mq_differences.specs.declared.way.Way.TheVariants.{Gained, Lost}
use Rattle.mq_print.specs.Lists.{ListView, list_view}
use Rattle.mq_print.specs.Shown.{shown}
use Rattle.mq_print.specs.declared.escape.Escape.TheVariants.{Words}
use Rattle.mq_print.specs.declared.list.ListText.{ListText}

-- the script whose publishes are counted, if one is given
abbrev pub script_file : Option ComparedTraffic → Option (List ℕ)
script_file traffic = option_map (λ t. t.script.file.now) traffic

-- by whose rules lists were compared, which way alone is shown, and the script, if one is given
pub record ScopeView : Type 0 where
  pub rules : Rules
  pub only : Option Way
  pub script : Option (List ℕ)
  pub coloured : Bool

abbrev pub scope_view : Scope → ScopeView
scope_view scope = record {
  rules = scope.rules;
  only = scope.only;
  script = script_file scope.traffic;
  coloured = scope.coloured;
}

-- a row of a group: its clients, its way, its direction, its topic, and what decides in the old
-- list and then in the new one. Where publishes are counted, it names their script; how many they
-- are is left open
pub record IsRow (script : Option (List ℕ)) (old new : ListView) (group : Group) (row : ChangeView)
    : Type 0 where
  pub who : row.who ≡ group_text group
  pub way : row.way ≡ group.first.way
  pub direction : row.direction ≡ group.first.direction
  pub topic : IsShownTopic group.first row.topic
  pub sides : row.sides
      ≡ decision old group.first.old_reason ∷ decision new group.first.new_reason ∷ []
  pub publishes : option_map (λ of. of.0) row.publishes ≡ script

-- one row for each group, in their order
abbrev pub AreRowsOf : (script : Option (List ℕ)) → (old new : ListView) → List Group
    → List ChangeView → Type 0
AreRowsOf script old new [] [] = Unit
AreRowsOf script old new [] (row ∷ rows) = ⊥
AreRowsOf script old new (group ∷ groups) [] = ⊥
AreRowsOf script old new (group ∷ groups) (row ∷ rows) =
    IsRow script old new group row × AreRowsOf script old new groups rows

-- by whose rules, where they are not mqroute's own
abbrev pub rules_words : Rules → List ℕ
rules_words Own = []
rules_words Mosquitto = codes " by mosquitto's rules"

-- how many rows there are
abbrev pub count_line : Rules → (only : Option Way) → (count : ℕ) → List ℕ
count_line rules only count =
    decimal count ++ codes " " ++ rows_word count only ++ rules_words rules ++ 10 ∷ []

-- a table of the groups, and how many rows it has
pub record ShowsGroups (scope : ScopeView) (old new : ListView) (groups : List Group)
    (text : List ℕ) : Type 0 where
  pub rows : List ChangeView
  pub are : AreRowsOf scope.script old new groups rows
  pub text_is : text
      ≡ table_text scope.coloured rows ++ count_line scope.rules scope.only (length rows)

-- the groups are those of the differences
pub record ShowsDifferences (scope : ScopeView) (old new : ListView)
    (differences : List Difference) (text : List ℕ) : Type 0 where
  pub groups : List Group
  pub gathered : IsGathering differences groups
  pub shows : ShowsGroups scope old new groups text

-- that the one list allows nothing that the other doesn't, by their files
abbrev pub nothing_words : (one other : List ℕ) → List ℕ
nothing_words one other = one ++ codes " allows nothing that " ++ other ++ codes " doesn't"

-- that both allow the same, or where one way alone is asked about, that nothing is allowed more or
-- less
abbrev pub same_words : (only : Option Way) → (old new : List ℕ) → List ℕ
same_words None old new = codes "both lists allow the same"
same_words (Some Gained) old new = nothing_words new old
same_words (Some Lost) old new = nothing_words old new

-- for all, where it is the same; for any, where nothing is allowed
abbrev pub every_word : (only : Option Way) → List ℕ
every_word None = codes "every"
every_word (Some way) = codes "any"

-- for which topics and clients
abbrev pub extent_words : (every : List ℕ) → List ℕ
extent_words every = codes ", on " ++ every ++ codes " topic, to " ++ every
    ++ codes " client id and user name a broker can have"

-- that the lists don't differ, or not in the way that is asked about
abbrev pub same_line : ScopeView → (old new : List ℕ) → List ℕ
same_line scope old new = codes "by " ++ owner_words scope.rules ++ codes " rules "
    ++ same_words scope.only old new ++ extent_words (every_word scope.only) ++ 10 ∷ []

abbrev pub SaysSame : ScopeView → (old new text : List ℕ) → Type 0
SaysSame scope old new text = text ≡ shown true Words (same_line scope old new)

-- these differences in words
abbrev pub IsWorded : ScopeView → (old new : ListView) → List Difference → (text : List ℕ)
    → Type 0
IsWorded scope old new [] text = SaysSame scope old.file new.file text
IsWorded scope old new (d ∷ ds) text = ShowsDifferences scope old new (d ∷ ds) text

-- how the differences that are asked about are shown
abbrev pub asked_scope : Rules → (only : Option Way) → (script : Option ScriptTraffic)
    → (coloured : Bool) → ScopeView
asked_scope rules only script coloured = record {
  rules = rules;
  only = only;
  script = option_map (λ s. s.file.now) script;
  coloured = coloured;
}

-- the differences that are asked about
abbrev pub AreWords : Rules → (only : Option Way) → (script : Option ScriptTraffic)
    → (coloured : Bool) → (old new : ListView) → Changes → (text : List ℕ) → Type 0
AreWords rules only script coloured old new changes text =
    IsWorded (asked_scope rules only script coloured) old new
    (filter (λ d. is_way only d.way) changes.differences.items) text

-- what is written is that of lists with these texts
pub record AreWorded (rules : Rules) (only : Option Way) (script : Option ScriptTraffic)
    (coloured : Bool) (old new : ListText) (before after : Option (List ℕ)) : Type 0 where
  pub changes : Changes
  pub are : AreChanges rules old.text.now new.text.now changes
  pub text : List ℕ
  pub words : AreWords rules only script coloured (list_view old) (list_view new) changes text
  pub written : Appends before after text
