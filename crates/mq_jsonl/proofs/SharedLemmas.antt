-- The line of a copy is its texts, and what stands before, between and behind them: its other
-- members determine that.
use Rattle.std.proofs.Common.{◌≡◌, ℕ, ◌+◌, ◌-◌, ◌≤◌, List, [], ◌∷◌, ◌++◌, Bool, true}
use Rattle.std.proofs.Common.{Option, Some, None, codes, refl, take, drop, length, sym, ap, ◌∙◌}
use Rattle.std.proofs.Common.{arith, append_assoc}
use Rattle.std.proofs.Math.Seq.{take-append_seam, drop-append_seam}
use Rattle.std.proofs.lemmas.List.{length-append}
use Rattle.std.proofs.lemmas.Option.{none-some}
use Rattle.std.specs.Option.{option_map}
use Rattle.serde_json.specs.Data.{Data, string, boolean, Members, no_members, member, put}
use Rattle.serde_json.specs.Written.{compact_text, members_text}
use Rattle.mq_world.specs.World.{Copy, Group}
use Rattle.mq_jsonl.specs.Printed.{put_if, whole_data, whole_if, numbers_if, text_if, copy_members}
use Rattle.mq_jsonl.specs.Printed.{copy_text, line_text}
use Rattle.mq_jsonl.specs.Shared.{with_client, with_message, behind_members}
use Rattle.mq_jsonl.proofs.ObjectLemmas.{copy}

abbrev pub text_of : List ℕ → List ℕ
text_of s = compact_text (string s)

-- ## The text of members

abbrev join : Members → Members → Members
join no_members b = b
join (member k d a) b = member k d (join a b)

-- of members behind others: their text up to the value of one that follows them
abbrev up_to : Members → List ℕ → List ℕ
up_to no_members k = 44 ∷ (text_of k ++ 58 ∷ [])
up_to (member l e a) k = 44 ∷ (text_of l ++ 58 ∷ (compact_text e ++ up_to a k))

-- of joined members the first ones' text comes first
joined_text : (a : Members) (k : List ℕ) (d : Data) (b : Members)
    → members_text true (join a (member k d b))
    ≡ up_to a k ++ (compact_text d ++ members_text true b)
joined_text no_members k d b =
    let rest = compact_text d ++ members_text true b in
    ap (λ l. 44 ∷ l) (sym (append_assoc (text_of k) (58 ∷ []) rest))
joined_text (member l e a) k d b =
    let rest = compact_text d ++ members_text true b in
    ap (λ t. 44 ∷ (text_of l ++ 58 ∷ (compact_text e ++ t))) (joined_text a k d b)
    ∙ ap (λ t. 44 ∷ (text_of l ++ 58 ∷ t)) (sym (append_assoc (compact_text e) (up_to a k) rest))
    ∙ ap (λ t. 44 ∷ t) (sym (append_assoc (text_of l) (58 ∷ (compact_text e ++ up_to a k)) rest))

-- ## The members of a copy's line

-- the members between the client and the payload
abbrev ahead : ℕ → Copy → Members
ahead k c =
    put_if (codes "filter") (text_if (option_map (λ group. group.filter) c.group)) (
    put_if (codes "expiry") (whole_if c.expiry) (
    put_if (codes "ids") (numbers_if c.identifiers) (
    put (codes "line") (whole_data k) no_members)))

-- and those between the payload and the topic
abbrev between : Copy → Members
between c =
    put_if (codes "share") (text_if (option_map (λ group. group.share) c.group)) (
    put (codes "retain") (boolean c.retain) (
    put (codes "qos") (whole_data c.qos) no_members))

-- those behind the client
abbrev behind_client : ℕ → Copy → Members
behind_client k c = join (ahead k c) (member (codes "payload") (string c.payload)
    (join (between c) (member (codes "topic") (string c.topic) no_members)))

line_members : (k : ℕ) (client topic payload : List ℕ) (qos : ℕ) (retain : Bool)
    (expiry : Option ℕ) (ids : List ℕ) (group : Option Group)
    → let c : Copy = copy client topic payload qos retain expiry ids group in
    copy_members k c ≡ member (codes "client") (string client) (behind_client k c)
unfolding copy_members
line_members k client topic payload qos retain None [] None = refl
line_members k client topic payload qos retain None [] (Some g) = refl
line_members k client topic payload qos retain None (n ∷ ns) None = refl
line_members k client topic payload qos retain None (n ∷ ns) (Some g) = refl
line_members k client topic payload qos retain (Some y) [] None = refl
line_members k client topic payload qos retain (Some y) [] (Some g) = refl
line_members k client topic payload qos retain (Some y) (n ∷ ns) None = refl
line_members k client topic payload qos retain (Some y) (n ∷ ns) (Some g) = refl

-- ## The line around its client

abbrev pub client_front : List ℕ
client_front = 123 ∷ (text_of (codes "client") ++ 58 ∷ [])

abbrev pub client_behind : ℕ → Copy → List ℕ
client_behind k c = members_text true (behind_client k c) ++ 10 ∷ []

-- an object whose first name is `client`
client_line : (x : List ℕ) (ms : Members)
    → line_text (member (codes "client") (string x) ms)
    ≡ client_front ++ (text_of x ++ (members_text true ms ++ 10 ∷ []))
client_line x ms =
    let name = text_of (codes "client") in
    append_assoc (123 ∷ name) (58 ∷ (text_of x ++ members_text true ms)) (10 ∷ [])
    ∙ ap (λ l. 123 ∷ name ++ 58 ∷ l) (append_assoc (text_of x) (members_text true ms) (10 ∷ []))
    ∙ sym (append_assoc (123 ∷ name) (58 ∷ []) (text_of x ++ (members_text true ms ++ 10 ∷ [])))

-- it is the client's text, and what stands before and behind it, whichever the client is
pub other_client : (k : ℕ) (c : Copy) (x : List ℕ)
    → copy_text k (with_client x c) ≡ client_front ++ (text_of x ++ client_behind k c)
other_client k c x =
    ap line_text (line_members k x c.topic c.payload c.qos c.retain c.expiry c.identifiers c.group)
    ∙ client_line x (behind_client k c)

-- ## The line around its message

-- before the payload, between it and the topic, and at the end
abbrev pub message_front : ℕ → Copy → List ℕ
message_front k c = client_front ++ (text_of c.client ++ up_to (ahead k c) (codes "payload"))

abbrev pub message_middle : Copy → List ℕ
message_middle c = up_to (between c) (codes "topic")

abbrev pub line_end : List ℕ
line_end = 125 ∷ 10 ∷ []

-- what stands behind the payload
abbrev pub message_behind : (topic : List ℕ) → Copy → List ℕ
message_behind topic c = message_middle c ++ (text_of topic ++ line_end)

topic_last : (c : Copy) (topic : List ℕ)
    → members_text true (join (between c) (member (codes "topic") (string topic) no_members))
    ++ 10 ∷ []
    ≡ message_behind topic c
topic_last c topic =
    ap (λ l. l ++ 10 ∷ []) (joined_text (between c) (codes "topic") (string topic) no_members)
    ∙ append_assoc (message_middle c) (text_of topic ++ 125 ∷ []) (10 ∷ [])
    ∙ ap (λ l. message_middle c ++ l) (append_assoc (text_of topic) (125 ∷ []) (10 ∷ []))

-- it is the message's texts, and what stands before, between and behind them, whichever they are
pub other_message : (k : ℕ) (c : Copy) (topic payload : List ℕ)
    → copy_text k (with_message topic payload c)
    ≡ message_front k c ++ (text_of payload ++ message_behind topic c)
other_message k c topic payload =
    let rest = join (between c) (member (codes "topic") (string topic) no_members) in
    ap line_text
    (line_members k c.client topic payload c.qos c.retain c.expiry c.identifiers c.group)
    ∙ client_line c.client (join (ahead k c) (member (codes "payload") (string payload) rest))
    ∙ ap (λ l. client_front ++ (text_of c.client ++ (l ++ 10 ∷ [])))
    (joined_text (ahead k c) (codes "payload") (string payload) rest)
    ∙ ap (λ l. client_front ++ (text_of c.client ++ l))
    (append_assoc (up_to (ahead k c) (codes "payload")) (text_of payload ++ members_text true rest)
    (10 ∷ [])
    ∙ ap (λ l. up_to (ahead k c) (codes "payload") ++ l)
    (append_assoc (text_of payload) (members_text true rest) (10 ∷ [])
    ∙ ap (λ l. text_of payload ++ l) (topic_last c topic)))
    ∙ ap (λ l. client_front ++ l) (sym (append_assoc (text_of c.client)
    (up_to (ahead k c) (codes "payload")) (text_of payload ++ message_behind topic c)))
    ∙ sym (append_assoc client_front (text_of c.client ++ up_to (ahead k c) (codes "payload"))
    (text_of payload ++ message_behind topic c))

-- the members behind the payload, by themselves, are as long
behind_cases : (c : Copy) (group : Option Group) → group ≡ None
    → length (line_text (behind_members c))
    ≡ length (members_text true (join (between (record c { group = group }))
    (member (codes "topic") (string c.topic) no_members)) ++ 10 ∷ [])
unfolding behind_members
behind_cases c None none = refl
behind_cases c (Some g) none = absurd (none-some g (sym none))

pub behind_length : (c : Copy) → c.group ≡ None
    → length (line_text (behind_members c)) ≡ length (message_behind c.topic c)
behind_length c none = behind_cases c c.group none ∙ ap length (topic_last c c.topic)

-- ## Around a part of a text

-- a text of three parts, of which the second begins there and has that length
pub record IsParted (text a x b : List ℕ) (start len : ℕ) : Type 0 where
  pub is : text ≡ a ++ (x ++ b)
  pub start_is : start ≡ length a
  pub len_is : len ≡ length x

-- what stands before it
pub around_front : (a x b text f : List ℕ) (start len : ℕ) → IsParted text a x b start len
    → f ≡ take start text → f ≡ a
around_front a x b text f start len parted is =
    is ∙ ap (take start) parted.is ∙ ap (λ n. take n (a ++ (x ++ b))) parted.start_is
    ∙ take-append_seam a (x ++ b)

-- and behind it
pub around_behind : (a x b text f : List ℕ) (start len : ℕ) → IsParted text a x b start len
    → f ≡ drop len (drop start text) → f ≡ b
around_behind a x b text f start len parted is =
    is ∙ ap (λ l. drop len (drop start l)) parted.is
    ∙ ap (λ n. drop len (drop n (a ++ (x ++ b)))) parted.start_is
    ∙ ap (drop len) (drop-append_seam a (x ++ b)) ∙ ap (λ n. drop n (x ++ b)) parted.len_is
    ∙ drop-append_seam x b

parts_length : (a x b : List ℕ) → length (a ++ (x ++ b)) ≡ length a + (length x + length b)
parts_length a x b = length-append a (x ++ b) ∙ ap (λ n. length a + n) (length-append x b)

pub parted_room : (a x b text : List ℕ) (start len : ℕ) → IsParted text a x b start len
    → start + len ≤ length text
parted_room a x b text start len parted =
    let whole = ap length parted.is ∙ parts_length a x b in
    rw (parted.start_is, parted.len_is) (omega arith)

-- ## Around the client's text

pub client_parted : (k : ℕ) (c : Copy) (text : List ℕ) (start len : ℕ) → text ≡ copy_text k c
    → start ≡ length (text_of (codes "client")) + 2 → len ≡ length (text_of c.client)
    → IsParted text client_front (text_of c.client) (client_behind k c) start len
client_parted k c text start len is start_is len_is =
    let colon = length-append (text_of (codes "client")) (58 ∷ []) in
    record {
      is = is ∙ other_client k c c.client;
      start_is = start_is ∙ omega arith;
      len_is = len_is;
    }

-- ## Around the message's texts

-- a text of three parts, of which the second has this length, and the third that one
pub record IsEnded (text a x b : List ℕ) (len rest : ℕ) : Type 0 where
  pub is : text ≡ a ++ (x ++ b)
  pub len_is : len ≡ length x
  pub rest_is : rest ≡ length b

ended_length : (a x b text : List ℕ) (len rest : ℕ) → IsEnded text a x b len rest
    → length text ≡ length a + (len + rest)
ended_length a x b text len rest ended =
    ap length ended.is ∙ parts_length a x b
    ∙ ap (λ n. length a + (n + length b)) (sym ended.len_is)
    ∙ ap (λ n. length a + (len + n)) (sym ended.rest_is)

pub ended_room : (a x b text : List ℕ) (len rest : ℕ) → IsEnded text a x b len rest
    → len + rest ≤ length text
ended_room a x b text len rest ended =
    let whole = ended_length a x b text len rest ended in omega arith

pub ended_parted : (a x b text : List ℕ) (len rest : ℕ) → IsEnded text a x b len rest
    → IsParted text a x b (length text - (len + rest)) len
ended_parted a x b text len rest ended =
    let whole = ended_length a x b text len rest ended in
    record { is = ended.is; start_is = omega arith; len_is = ended.len_is }

pub payload_ended : (k : ℕ) (c : Copy) (text : List ℕ) (len rest : ℕ) → text ≡ copy_text k c
    → c.group ≡ None → len ≡ length (text_of c.payload)
    → rest ≡ length (line_text (behind_members c))
    → IsEnded text (message_front k c) (text_of c.payload) (message_behind c.topic c) len rest
payload_ended k c text len rest is none len_is rest_is = record {
  is = is ∙ other_message k c c.topic c.payload;
  len_is = len_is;
  rest_is = rest_is ∙ behind_length c none;
}

-- the whole line around the topic
pub topic_front : ℕ → Copy → List ℕ
topic_front k c = message_front k c ++ (text_of c.payload ++ message_middle c)

pub other_topic : (k : ℕ) (c : Copy) (topic : List ℕ)
    → copy_text k (with_message topic c.payload c) ≡ topic_front k c ++ (text_of topic ++ line_end)
unfolding topic_front
other_topic k c topic = other_message k c topic c.payload
    ∙ ap (λ l. message_front k c ++ l) (sym (append_assoc (text_of c.payload) (message_middle c)
    (text_of topic ++ line_end)))
    ∙ sym (append_assoc (message_front k c) (text_of c.payload ++ message_middle c)
    (text_of topic ++ line_end))

pub line_ended : (k : ℕ) (c : Copy) (text : List ℕ) (len : ℕ) → text ≡ copy_text k c
    → len ≡ length (text_of c.topic)
    → IsEnded text (topic_front k c) (text_of c.topic) line_end len 2
line_ended k c text len is len_is =
    record { is = is ∙ other_topic k c c.topic; len_is = len_is; rest_is = refl }

-- what stands behind the payload, around the topic
pub topic_ended : (c : Copy) (text : List ℕ) (len : ℕ) → text ≡ message_behind c.topic c
    → len ≡ length (text_of c.topic)
    → IsEnded text (message_middle c) (text_of c.topic) line_end len 2
topic_ended c text len is len_is = record { is = is; len_is = len_is; rest_is = refl }
