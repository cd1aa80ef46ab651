-- What a line of an access list says, as mosquitto 2.0 reads it: words are parted by spaces alone, a comment begins at the
-- line's first byte, and marks may stand within levels. The faults are those of our own rules.
use Rattle.std.specs.Prelude.{ℕ, Bool, List, length, drop, ◌==◌, ◌&&◌, ◌||◌, if◌then◌else◌, codes}
use Rattle.std.specs.Prelude.{nat_le, slice_index, Result, Ok, Err}
use Rattle.std.specs.List.{before_first, position_or_len}
use Rattle.std.specs.Str.{bytes_eq}
use Rattle.mq_topic.specs.Texts.{is_filter}
use Rattle.mq_acl.specs.Lines.{Access, ReadWrite, Entry, Skipped, User, Pattern}
use Rattle.mq_acl.specs.Lines.{access_named, with_access, topic_entry}
use Rattle.mq_acl.specs.Words.{without_leading, without_trailing}
use Rattle.mq_acl.specs.declared.fault.AclKind.{AclKind}
use Rattle.mq_acl.specs.declared.fault.AclKind.TheVariants as kinds

-- `isspace` of C: a space, a tab, or one of the other four
abbrev pub is_white : ℕ → Bool
is_white b = b == 32 || (nat_le 9 b && nat_le b 13)

abbrev pub is_space : ℕ → Bool
is_space b = b == 32

-- what follows the first word
abbrev pub behind_word : List ℕ → List ℕ
behind_word text = drop (position_or_len is_space text) text

-- the access and the topic that follow a keyword. A word alone is the topic; of more words the first is the access
abbrev pub access_then_topic : List ℕ → Result (Access × List ℕ) AclKind
access_then_topic rest =
    if length rest == 0 then Err kinds.Topic
    else (if length (behind_word rest) == 0 then Ok (ReadWrite, rest)
    else with_access (access_named (before_first is_space rest))
    (without_leading is_white (behind_word rest)))

-- a `pattern` line; a mark may stand anywhere
abbrev pub filled_entry : Result (Access × List ℕ) AclKind → Result Entry AclKind
filled_entry (Err kind) = Err kind
filled_entry (Ok parts) =
    if is_filter parts.1 then Ok (Pattern parts.0 parts.1) else Err kinds.Topic

abbrev pub user_entry : List ℕ → Result Entry AclKind
user_entry name = if length name == 0 then Err kinds.User else Ok (User name)

-- a line with this first word, and what follows it
abbrev pub word_entry : List ℕ → List ℕ → Result Entry AclKind
word_entry word rest =
    if bytes_eq word (codes "topic") then
    topic_entry (access_then_topic (without_leading is_space rest))
    else (if bytes_eq word (codes "pattern") then
    filled_entry (access_then_topic (without_leading is_space rest))
    else (if bytes_eq word (codes "user") then user_entry (without_leading is_white rest)
    else Err kinds.Keyword))

-- a line without the spaces before it, and the white space behind it
abbrev pub spaced_entry : List ℕ → Result Entry AclKind
spaced_entry text =
    if length text == 0 then Ok Skipped
    else word_entry (before_first is_space text) (behind_word text)

-- what the line says, or what is wrong with it
abbrev pub mosquitto_entry : List ℕ → Result Entry AclKind
mosquitto_entry line =
    if slice_index line 0 == 35 then Ok Skipped
    else spaced_entry (without_leading is_space (without_trailing is_white line))
