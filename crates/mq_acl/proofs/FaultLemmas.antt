-- A fault of a text is never lack of memory, and has a line from 1 on.
use Rattle.std.proofs.Common.{◌≡◌, ◌≢◌, ℕ, ◌+◌, ◌<◌, ◌≤◌, subst, Bool, true, false, cond, List, []}
use Rattle.std.proofs.Common.{◌∷◌, length, Option, Some, None, Result, Ok, Err, IfErr, refl, arith}
use Rattle.std.proofs.Common.{codes, ◌==◌, ◌||◌, not, slice_index, bytes_eq}
use Rattle.std.specs.List.{before_first, list_all, filter_map, cons_option, enumerate_from}
use Rattle.mq_topic.specs.Levels.{levels}
use Rattle.mq_topic.specs.Texts.{is_filter}
use Rattle.mq_acl.specs.Words.{trimmed, first_word, after_word, without_leading, without_trailing}
use Rattle.mq_acl.specs.Lines.{Access, ReadWrite, Entry, Skipped, User, Topic, Pattern}
use Rattle.mq_acl.specs.Lines.{access_named, with_access, access_and_topic, is_pattern_level}
use Rattle.mq_acl.specs.Lines.{topic_entry, pattern_entry, keyword_entry, entry_of, lines}
use Rattle.mq_acl.specs.MosquittoLines.{access_then_topic, behind_word, filled_entry, is_space}
use Rattle.mq_acl.specs.MosquittoLines.{is_white, mosquitto_entry, word_entry}
use Rattle.mq_acl.specs.Rows.{AclRow, entry_by, entries_by, fault_at, faults_by, rows_by, rows_in}
use Rattle.mq_acl.specs.Rows.{unless_faulty}
use Rattle.mq_acl.specs.declared.rules.Rules.{Rules}
use Rattle.mq_acl.specs.declared.rules.Rules.TheVariants.{Own, Mosquitto}
use Rattle.mq_acl.specs.declared.fault.AclFault.{AclFault}
use Rattle.mq_acl.specs.declared.fault.AclKind.{AclKind}
use Rattle.mq_acl.specs.declared.fault.AclKind.TheVariants as kinds

-- not lack of memory
abbrev IsOwn : {X : Type 0} → Result X AclKind → Type 0
IsOwn r = IfErr r (λ kind. kind ≢ kinds.Memory)

keyword_is : kinds.Keyword ≢ kinds.Memory
keyword_is e = cc

access_is : kinds.Access ≢ kinds.Memory
access_is e = cc

topic_is : kinds.Topic ≢ kinds.Memory
topic_is e = cc

user_is : kinds.User ≢ kinds.Memory
user_is e = cc

pattern_is : kinds.Pattern ≢ kinds.Memory
pattern_is e = cc

choice : {X : Type 0} (b : Bool) (x y : Result X AclKind) → IsOwn x → IsOwn y → IsOwn (cond b x y)
choice true x y h k = h
choice false x y h k = k

own_with_access : (access : Option Access) (topic : List ℕ) → IsOwn (with_access access topic)
own_with_access None topic = access_is
own_with_access (Some access) topic = tt

own_access_and_topic : (rest : List ℕ) → IsOwn (access_and_topic rest)
own_access_and_topic rest =
    choice (length rest == 0) (Err kinds.Topic) _ topic_is
    (choice (length (first_word rest) == length rest) (Ok (ReadWrite, rest)) _ tt
    (own_with_access (access_named (first_word rest)) (after_word rest)))

own_topic : (parts : Result (Access × List ℕ) AclKind) → IsOwn parts → IsOwn (topic_entry parts)
own_topic (Err kind) h = h
own_topic (Ok parts) h = choice (is_filter parts.1) (Ok (Topic parts.0 parts.1)) (Err kinds.Topic)
    tt topic_is

own_pattern : (parts : Result (Access × List ℕ) AclKind) → IsOwn parts → IsOwn (pattern_entry parts)
own_pattern (Err kind) h = h
own_pattern (Ok parts) h =
    choice (not (is_filter parts.1)) (Err kinds.Topic) _ topic_is
    (choice (list_all is_pattern_level (levels parts.1)) (Ok (Pattern parts.0 parts.1))
    (Err kinds.Pattern) tt pattern_is)

own_keyword : (word rest : List ℕ) → IsOwn (keyword_entry word rest)
own_keyword word rest =
    choice (bytes_eq word (codes "topic")) _ _
    (own_topic (access_and_topic rest) (own_access_and_topic rest))
    (choice (bytes_eq word (codes "pattern")) _ _
    (own_pattern (access_and_topic rest) (own_access_and_topic rest))
    (choice (bytes_eq word (codes "user")) _ _
    (choice (length rest == 0) (Err kinds.User) (Ok (User rest)) user_is tt) keyword_is))

-- what is wrong with a line is never lack of memory
pub own_entry : (line : List ℕ) → IsOwn (entry_of line)
own_entry line =
    let text = trimmed line in
    choice (length text == 0 || slice_index text 0 == 35) (Ok Skipped) _ tt
    (own_keyword (first_word text) (after_word text))

own_filled : (parts : Result (Access × List ℕ) AclKind) → IsOwn parts → IsOwn (filled_entry parts)
own_filled (Err kind) h = h
own_filled (Ok parts) h = choice (is_filter parts.1) (Ok (Pattern parts.0 parts.1)) (Err kinds.Topic)
    tt topic_is

own_access_then_topic : (rest : List ℕ) → IsOwn (access_then_topic rest)
own_access_then_topic rest =
    choice (length rest == 0) (Err kinds.Topic) _ topic_is
    (choice (length (behind_word rest) == 0) (Ok (ReadWrite, rest)) _ tt
    (own_with_access (access_named (before_first is_space rest))
    (without_leading is_white (behind_word rest))))

own_word : (word rest : List ℕ) → IsOwn (word_entry word rest)
own_word word rest =
    let after = without_leading is_space rest in
    let name = without_leading is_white rest in
    choice (bytes_eq word (codes "topic")) _ _
    (own_topic (access_then_topic after) (own_access_then_topic after))
    (choice (bytes_eq word (codes "pattern")) _ _
    (own_filled (access_then_topic after) (own_access_then_topic after))
    (choice (bytes_eq word (codes "user")) _ _
    (choice (length name == 0) (Err kinds.User) (Ok (User name)) user_is tt) keyword_is))

mosquitto_own : (line : List ℕ) → IsOwn (mosquitto_entry line)
mosquitto_own line =
    let text = without_leading is_space (without_trailing is_white line) in
    choice (slice_index line 0 == 35) (Ok Skipped) _ tt
    (choice (length text == 0) (Ok Skipped) _ tt
    (own_word (before_first is_space text) (behind_word text)))

-- by whatever rules the line is read
pub own_entry_by : (rules : Rules) (line : List ℕ) → IsOwn (entry_by rules line)
own_entry_by Own line = own_entry line
own_entry_by Mosquitto line = mosquitto_own line

-- no kind of lack of memory, and a line from n on
abbrev IsFrom : ℕ → AclFault → Type 0
IsFrom n fault = (fault.kind ≢ kinds.Memory) × (n ≤ fault.line)

first_is : (first fault : AclFault) (more later : List AclFault) → first ∷ more ≡ fault ∷ later
    → first ≡ fault
first_is first fault more later e = cc

err_is : (first fault : AclFault) (answer : Result (List AclRow) AclFault) → answer ≡ Err first
    → answer ≡ Err fault → first ≡ fault
err_is first fault answer e f = cc

module _ (rules : Rules) where
  own_faults : (n : ℕ) (ls : List (List ℕ)) (fault : AclFault) (later : List AclFault)
      → filter_map (λ numbered. fault_at numbered.0 (entry_by rules numbered.1))
      (enumerate_from n ls)
      ≡ fault ∷ later → IsFrom n fault
  own_faults n [] fault later e = absurd (cc)
  own_faults n (line ∷ ls) fault later e =
      at (entry_by rules line) (own_entry_by rules line) (own_faults (n + 1) ls fault later) e
    where
      rest : List AclFault
      rest = filter_map (λ numbered. fault_at numbered.0 (entry_by rules numbered.1))
          (enumerate_from (n + 1) ls)

      at : (r : Result Entry AclKind) → IsOwn r → (rest ≡ fault ∷ later → IsFrom (n + 1) fault)
          → cons_option (fault_at n r) rest ≡ fault ∷ later → IsFrom n fault
      at (Ok entry) h next e = let f = next e in (f.0, omega arith)
      at (Err kind) h next e = subst (IsFrom n)
          (first_is (record { line = n; kind = kind }) fault rest later e) (h, omega arith)

  -- a text's own fault
  pub text_fault : (text : List ℕ) (fault : AclFault) → rows_by rules text ≡ Err fault
      → (fault.kind ≢ kinds.Memory) × (0 < fault.line)
  text_fault text fault e = at (faults_by rules (lines text)) (own_faults 1 (lines text)) e
    where
      rows : List AclRow
      rows = rows_in (entries_by rules (lines text))

      at : (faults : List AclFault)
          → ((first : AclFault) (later : List AclFault) → faults ≡ first ∷ later → IsFrom 1 first)
          → unless_faulty faults rows ≡ Err fault → (fault.kind ≢ kinds.Memory) × (0 < fault.line)
      at [] h e = absurd (cc)
      at (first ∷ later) h e = subst (λ f. (f.kind ≢ kinds.Memory) × (0 < f.line))
          (err_is first fault (unless_faulty (first ∷ later) rows) refl e)
          (let f = h first later refl in (f.0, omega arith))
