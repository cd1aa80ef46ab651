-- What a line of an access list says. The keywords, the access words, read and write as the default, and `%c` and `%u`
-- are those of mosquitto.conf(5), `acl_file`; how the text is cut, a line that ends after an access word, spaces in
-- topics and user names, and each fault are our own rules.
use Rattle.std.specs.Prelude.{ℕ, Bool, List, length, ◌==◌, ◌||◌, not, if◌then◌else◌, codes}
use Rattle.std.specs.Prelude.{slice_index, Option, Some, None, Result, Ok, Err}
use Rattle.std.specs.List.{slice_split, list_all}
use Rattle.std.specs.Str.{bytes_eq}
use Rattle.mq_topic.specs.Levels.{levels}
use Rattle.mq_topic.specs.Texts.{is_filter}
use Rattle.mq_acl.specs.Words.{trimmed, first_word, after_word, occurs_in}
use Rattle.mq_acl.specs.declared.fault.AclKind.{AclKind}
use Rattle.mq_acl.specs.declared.fault.AclKind.TheVariants as kinds

-- the pieces of the text between its line feeds, empty pieces too
abbrev pub lines : List ℕ → List (List ℕ)
lines text = slice_split (λ b. b == 10) text

-- what a line allows, or that it denies (mosquitto.conf(5): `read`, `write`, `readwrite`, `deny`)
pub data Access : Type 0 where
  Read : Access
  Write : Access
  ReadWrite : Access
  Deny : Access

-- what a line without a fault says; a comment or an empty line is skipped
pub data Entry : Type 0 where
  Skipped : Entry
  User : (name : List ℕ) → Entry
  Topic : (access : Access) (topic : List ℕ) → Entry
  Pattern : (access : Access) (topic : List ℕ) → Entry

abbrev pub access_named : List ℕ → Option Access
access_named word =
    if bytes_eq word (codes "read") then Some Read
    else (if bytes_eq word (codes "write") then Some Write
    else (if bytes_eq word (codes "readwrite") then Some ReadWrite
    else (if bytes_eq word (codes "deny") then Some Deny
    else None)))

-- a topic behind a word that names an access, or doesn't
abbrev pub with_access : Option Access → List ℕ → Result (Access × List ℕ) AclKind
with_access None topic = Err kinds.Access
with_access (Some access) topic = Ok (access, topic)

-- the access and the topic that follow a keyword. A word alone is the topic, even where it names an access (our own
-- rule), and is read and written (mosquitto.conf(5)); of more words the first is the access
abbrev pub access_and_topic : List ℕ → Result (Access × List ℕ) AclKind
access_and_topic rest =
    if length rest == 0 then Err kinds.Topic
    else (if length (first_word rest) == length rest then Ok (ReadWrite, rest)
    else with_access (access_named (first_word rest)) (after_word rest))

-- `%c` and `%u` are whole levels where they stand at all
abbrev pub is_pattern_level : List ℕ → Bool
is_pattern_level l =
    not (occurs_in (codes "%c") l || occurs_in (codes "%u") l) || bytes_eq l (codes "%c")
    || bytes_eq l (codes "%u")

-- a `topic` line: `%c` and `%u` are plain text in it
abbrev pub topic_entry : Result (Access × List ℕ) AclKind → Result Entry AclKind
topic_entry (Err kind) = Err kind
topic_entry (Ok parts) = if is_filter parts.1 then Ok (Topic parts.0 parts.1) else Err kinds.Topic

-- a `pattern` line
abbrev pub pattern_entry : Result (Access × List ℕ) AclKind → Result Entry AclKind
pattern_entry (Err kind) = Err kind
pattern_entry (Ok parts) =
    if not (is_filter parts.1) then Err kinds.Topic
    else (if list_all is_pattern_level (levels parts.1) then
    Ok (Pattern parts.0 parts.1) else Err kinds.Pattern)

-- a line with this first word and this rest; a user name is all that follows its keyword
abbrev pub keyword_entry : List ℕ → List ℕ → Result Entry AclKind
keyword_entry word rest =
    if bytes_eq word (codes "topic") then topic_entry (access_and_topic rest)
    else (if bytes_eq word (codes "pattern") then pattern_entry (access_and_topic rest)
    else (if bytes_eq word (codes "user") then
    (if length rest == 0 then Err kinds.User else Ok (User rest))
    else Err kinds.Keyword))

-- a line without the blanks round it: where it is empty or begins with `#` it is skipped
abbrev pub text_entry : List ℕ → Result Entry AclKind
text_entry text =
    if length text == 0 || slice_index text 0 == 35 then Ok Skipped
    else keyword_entry (first_word text) (after_word text)

-- what the line says, or what is wrong with it
abbrev pub entry_of : List ℕ → Result Entry AclKind
entry_of line = text_entry (trimmed line)
