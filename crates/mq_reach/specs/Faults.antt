-- What is shown where a script isn't searched to its end.
use Rattle.std.specs.Prelude.{◌≡◌, ◌<◌, ◌==◌, ◌++◌, ◌∷◌, [], ℕ, Bool, true, false, List, ◌&&◌, not}
use Rattle.std.specs.Prelude.{length, Option, Some, IfSome, ⊤}
use Rattle.std.specs.Option.{option_to_list}
use Rattle.std.specs.Io.KnownBytes.{Consumes}
use Rattle.std.specs.List.{list_all, list_any}
use Rattle.mq_topic.specs.Texts.{filter_part}
use Rattle.mq_acl.specs.AccessLists.{AccessList}
use Rattle.mq_acl.specs.declared.rules.Rules.{Rules}
use Rattle.mq_acl.specs.Views.{row_views}
use Rattle.mq_acl.specs.declared.row.Row.{Row}
use Rattle.mq_world.specs.Lists.{Text}
use Rattle.mq_world.specs.World.{Request}
use Rattle.mq_witness.specs.Limits.{has_short_levels, is_short, long_line}
use Rattle.mq_reach.specs.Reach.{can_fill, is_short_user, list_by}
use Rattle.mq_jsonl.specs.Lines.{all_lines, whole_lines}
use Rattle.mq_jsonl.specs.Feeding.{script_limit}
use Rattle.mq_reach.specs.Script.{HoldsScript}
use Rattle.mq_reach.specs.Search.{IsSearched}
use Rattle.mq_reach.specs.Subscriptions.{Kept, Subscription, commands_of, subscriptions}
use Rattle.mq_reach.specs.Tracked.{TrackedSubscription, is_open_of}
use Rattle.mq_reach.specs.declared.question.SearchFault.{SearchFault}
use Rattle.mq_reach.specs.declared.question.SearchFault.TheVariants as search
use Rattle.mq_reach.specs.declared.reading.Reading.{Reading}
use Rattle.mq_reach.specs.declared.reading.ScriptFault.{ScriptFault}
use Rattle.mq_reach.specs.declared.reading.ScriptFault.TheVariants as script
use Rattle.mq_reach.specs.declared.search.Search.{Search}

-- the client id, the user name, if there is one, and each level of the filter has at most 300 bytes; so has each level of a
-- `pattern` row with these texts in the place of its marks, where there are such rows
abbrev pub is_short_question : AccessList → Subscription → Option Text → Bool
is_short_question list s user = is_short s.client && is_short_user user
    && has_short_levels (filter_part s.filter) && can_fill list.rules list.rows s.client user

-- so it is of each user name that its client's session has while it keeps the subscription
abbrev pub is_short_subscription : AccessList → Kept → Bool
is_short_subscription list kept = list_all (is_short_question list kept.shown) kept.users

-- it is of this line, and too long
abbrev pub is_long_at : AccessList → ℕ → Kept → Bool
is_long_at list line kept = (kept.shown.line == line) && not (is_short_subscription list kept)

abbrev pub has_long_at : AccessList → ℕ → List Kept → Bool
has_long_at list line all = list_any (is_long_at list line) all

-- what is shown of a subscription under this user name, or none, is so
abbrev pub IsAskFault : AccessList → Subscription → Option Text → SearchFault → Type 0
IsAskFault list s user search.Memory = ⊤
IsAskFault list s user (search.Row line) = ⊥
IsAskFault list s user (search.Subscription line) =
    (s.line ≡ line) × (is_short_question list s user ≡ false)

-- a tracked subscription of this line is asked about, and the question is too long
abbrev pub is_long_now : AccessList → ℕ → Text → Option Text → TrackedSubscription → Bool
is_long_now list line client user t = is_open_of client t
    && ((t.shown.line == line) && not (is_short_question list t.shown user))

-- what is shown of those that are open and this client's is so
abbrev pub IsFaultOpen : AccessList → Text → Option Text → List TrackedSubscription → SearchFault
    → Type 0
IsFaultOpen list client user all search.Memory = ⊤
IsFaultOpen list client user all (search.Row line) = ⊥
IsFaultOpen list client user all (search.Subscription line) =
    list_any (is_long_now list line client user) all ≡ true

-- what is shown of these subscriptions is so
abbrev pub IsFaultAmong : AccessList → List Kept → SearchFault → Type 0
IsFaultAmong list all search.Memory = ⊤
IsFaultAmong list all (search.Row line) = ⊥
IsFaultAmong list all (search.Subscription line) = has_long_at list line all ≡ true

-- what is shown of a list, or of a subscription of a script, is so
abbrev pub IsSearchFault : Rules → List Row → (given : List ℕ) → SearchFault → Type 0
IsSearchFault rules rows given search.Memory = ⊤
IsSearchFault rules rows given (search.Row line) = long_line rows ≡ Some line
IsSearchFault rules rows given (search.Subscription line) =
    has_long_at (list_by rules (row_views rows)) line (subscriptions (all_lines given)) ≡ true

-- of a reader that shows its bytes, what is shown is so of those that it gave; that it failed, no
-- clause says
abbrev pub IsScriptFault : Rules → List Row → (before after : Option (List ℕ)) → ScriptFault
    → Type 0
IsScriptFault rules rows before after (script.Read error) = ⊤
IsScriptFault rules rows before after script.TooLong =
    IfSome before (λ bytes. script_limit < length bytes)
IsScriptFault rules rows before after (script.Search fault) =
    (given : List ℕ) × Consumes before after given × IsSearchFault rules rows given fault

-- ## A search on its way

-- what is shown of a line that says this command is so
abbrev pub FailsBy : AccessList → Option Request → Search → SearchFault → Type 0
FailsBy list command old fault = (lines : List (List ℕ)) (line : List ℕ)
    → commands_of (line ∷ []) ≡ option_to_list command → IsSearched list lines old
    → IsFaultAmong list (subscriptions (lines ++ line ∷ [])) fault

-- the fault is of a line that ends in these bytes, which follow those that are searched
unfoldable pub FailsIn : AccessList → Reading → (bytes : List ℕ) → SearchFault → Type 0
FailsIn list r bytes fault = (given : List ℕ) → HoldsScript list given r
    → IsFaultAmong list (subscriptions (whole_lines (given ++ bytes))) fault

-- and so is what is shown of a reader
abbrev pub StopsWith : AccessList → Reading → (before after : Option (List ℕ)) → ScriptFault
    → Type 0
StopsWith list r before after (script.Read error) = ⊤
StopsWith list r before after script.TooLong = IfSome before (λ bytes. script_limit < length bytes)
StopsWith list r before after (script.Search fault) =
    (bytes : List ℕ) × Consumes before after bytes × FailsIn list r bytes fault
