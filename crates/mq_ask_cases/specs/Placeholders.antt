-- The placeholders of a difference, as they are shown.
use Rattle.std.specs.Fmt.{debug_str, decimal}
use Rattle.std.specs.List.{enumerate_from, join_by, list_any, position}
use Rattle.std.specs.Option.{option_and_then, option_map, option_map_or}
use Rattle.std.specs.Prelude.{ℕ, Bool, true, false, ◌&&◌, ◌||◌, ◌+◌, ◌==◌, List, [], ◌++◌, ◌≡◌, not}
use Rattle.std.specs.Prelude.{IfSome, Option, Some, None, codes, if◌then◌else◌, string_bytes}
use Rattle.std.specs.Str.{bytes_eq}
use Rattle.mq_acl.specs.Access.{begins_with_dollar}
use Rattle.mq_ask_cases.specs.declared.placeholders.Kind.{Kind}
use Rattle.mq_ask_cases.specs.declared.placeholders.Kind.TheVariants.{Level, ClientId, User, Both}
use Rattle.mq_ask_cases.specs.declared.placeholders.Kind.TheVariants.{ClientLevel, UserLevel}
use Rattle.mq_differences.specs.Classes.{user_of}
use Rattle.mq_differences.specs.Differences.{has_text}
use Rattle.mq_differences.specs.declared.class.Class.{Class}
use Rattle.mq_differences.specs.declared.class.Class.TheVariants as classes
use Rattle.mq_differences.specs.declared.difference.Difference.{Difference}
use Rattle.mq_topic.specs.Levels.{levels}

-- some placeholder of the difference is this text
abbrev pub is_placeholder : Difference → List ℕ → Bool
is_placeholder d text = has_text d.placeholders.items text

-- it is the client id
abbrev pub is_client : Difference → List ℕ → Bool
is_client d text = bytes_eq text (string_bytes d.client)

-- it is the user name, if there is one
abbrev pub is_user : Difference → List ℕ → Bool
is_user d text = option_map_or (λ user. bytes_eq user text) (user_of d.class) false

-- which level of the text it is, counted from one
abbrev pub number_in : (text level : List ℕ) → Option ℕ
number_in text level = option_map (λ place. place + 1) (position (bytes_eq level) (levels text))

-- the user name of a client, if it is one that no line names
abbrev pub other_user_of : Class → Option (List ℕ)
other_user_of classes.Anonymous = None
other_user_of (classes.User name) = None
other_user_of (classes.Others name) = Some (string_bytes name)

abbrev pub other_user : Difference → Option (List ℕ)
other_user d = other_user_of d.class

-- what a level stands for that is neither the client id nor the user name: one of several levels of the client
-- id, or else of such a user name, or else of the topic alone
abbrev pub user_part : Option ℕ → Kind
user_part None = Level
user_part (Some number) = UserLevel number

abbrev pub part_by : (client user : Option ℕ) → Kind
part_by (Some number) user = ClientLevel number
part_by None user = user_part user

abbrev pub part_of : Difference → List ℕ → Kind
part_of d text = part_by (number_in (string_bytes d.client) text)
    (option_and_then (λ user. number_in user text) (other_user d))

abbrev pub kind_by : (client user : Bool) → (part : Kind) → Kind
kind_by true true part = Both
kind_by true false part = ClientId
kind_by false true part = User
kind_by false false part = part

-- what a placeholder stands for
abbrev pub kind_of : Difference → List ℕ → Kind
kind_of d text = kind_by (is_client d text) (is_user d text) (part_of d text)

abbrev pub is_level : Kind → Bool
is_level Level = true
is_level ClientId = false
is_level User = false
is_level Both = false
is_level (ClientLevel number) = false
is_level (UserLevel number) = false

-- what it stands for, in words
abbrev pub kind_words : Kind → List ℕ
kind_words Level = codes "level"
kind_words ClientId = codes "client id"
kind_words User = codes "user"
kind_words Both = codes "client id and user"
kind_words (ClientLevel number) = codes "client id " ++ decimal number
kind_words (UserLevel number) = codes "user " ++ decimal number

-- a placeholder as it is shown, with a `$` if it stands for those alone that begin with one
abbrev pub placeholder_words : Kind → (hidden : Bool) → List ℕ
placeholder_words kind hidden =
    codes "<" ++ (if hidden then codes "$" else []) ++ kind_words kind ++ codes ">"

-- it stands for those alone that begin with `$`: a client id or a user name does so only at the front
-- of a topic
abbrev pub is_hidden : Difference → (place : ℕ) → List ℕ → Bool
is_hidden d place level =
    (place == 0 || is_level (kind_of d level)) && begins_with_dollar level

-- the level at this place of a topic, or what it stands for
abbrev pub level_words : Difference → (place : ℕ) → List ℕ → List ℕ
level_words d place level = if is_placeholder d level
    then placeholder_words (kind_of d level) (is_hidden d place level) else level

-- the levels of a topic so, with `/` between them
abbrev pub topic_words : Difference → List ℕ → List ℕ
topic_words d topic =
    join_by (λ level. level_words d level.0 level.1) (codes "/") (enumerate_from 0 (levels topic))

-- the text in quotes, as `{:?}` has it: nothing more is said of one that is not ASCII
abbrev pub IsQuoted : (text quoted : List ℕ) → Type 0
IsQuoted text quoted = IfSome (debug_str text) (λ ascii. quoted ≡ ascii)

-- a level of the text stands for others
abbrev pub has_placeholder : Difference → List ℕ → Bool
has_placeholder d text = list_any (is_placeholder d) (levels text)

-- the client id, where it isn't any: the levels of which it is made, or quoted so where it stands for
-- itself alone
abbrev pub client_words : Difference → (quoted : List ℕ) → List ℕ
client_words d quoted = if is_placeholder d (string_bytes d.client) then []
    else codes "  client id: " ++ (if has_placeholder d (string_bytes d.client)
    then topic_words d (string_bytes d.client) else quoted)

-- a user name is made of several levels, of which some stand for others
abbrev pub is_parted : Difference → List ℕ → Bool
is_parted d user = not (is_placeholder d user) && has_placeholder d user

-- such a user name, where no line names it
abbrev pub name_words : Difference → Option (List ℕ) → List ℕ
name_words d None = []
name_words d (Some user) =
    if is_parted d user then codes "  user: " ++ topic_words d user else []

abbrev pub user_words : Difference → List ℕ
user_words d = name_words d (other_user d)

-- the client id was added so
pub record AddsClient (d : Difference) (before after : List ℕ) : Type 0 where
  pub quoted : List ℕ
  pub is_quoted : IsQuoted (string_bytes d.client) quoted
  pub added : after ≡ before ++ client_words d quoted

-- the topic of a difference, and the client id and the user name so
pub record IsShownTopic (d : Difference) (text : List ℕ) : Type 0 where
  pub quoted : List ℕ
  pub is_quoted : IsQuoted (string_bytes d.client) quoted
  pub is : text ≡ topic_words d d.topic ++ client_words d quoted ++ user_words d
