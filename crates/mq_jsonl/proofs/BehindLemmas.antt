-- Of copies that differ in their texts alone, the second one's line is the first one's with other
-- texts.
use Rattle.std.proofs.Common.{◌≡◌, ℕ, List, [], ◌∷◌, Bool, Option, Some, None, IfSome, codes, refl}
use Rattle.std.proofs.Common.{Result, OnOk, is_some, ◌==◌, true, false, sym, ap, ◌∙◌, subst}
use Rattle.std.proofs.Common.{vec_len, Global}
use Rattle.std.proofs.lemmas.Result.{on_ok_weaker}
use Rattle.std.specs.Option.{option_map}
use Rattle.std.specs.declared.rc.Rc.{Rc}
use Rattle.serde_json.specs.Data.{string, Members, put}
use Rattle.mq_world.specs.Keys.{Key}
use Rattle.mq_world.specs.Lists.{Text}
use Rattle.mq_world.specs.Views.{copy_of, group_of}
use Rattle.mq_world.specs.World.{Copy, Group}
use Rattle.mq_world.specs.declared.answer.Delivery.{Delivery}
use Rattle.mq_jsonl.specs.Printed.{copy_members}
use Rattle.mq_jsonl.specs.Behind.{with_texts, IsAlike, IsBehind, held, held_for, Keeps, Follows}
use Rattle.mq_jsonl.specs.Objects.{Parts, parts, parts_of}
use Rattle.mq_jsonl.specs.declared.object.Object.{Object}
use Rattle.mq_jsonl.proofs.ObjectLemmas.{copy, no_numbers, some_numbers}

put_client : (k : ℕ) (x client topic payload : List ℕ) (qos : ℕ) (retain : Bool)
    (expiry : Option ℕ) (ids : List ℕ) (group : Option Group)
    → put (codes "client") (string client)
    (copy_members k (copy x topic payload qos retain expiry ids group))
    ≡ copy_members k (copy client topic payload qos retain expiry ids group)
unfolding copy_members
put_client k x client topic payload qos retain None [] None = refl
put_client k x client topic payload qos retain None [] (Some g) = refl
put_client k x client topic payload qos retain None (n ∷ ns) None = refl
put_client k x client topic payload qos retain None (n ∷ ns) (Some g) = refl
put_client k x client topic payload qos retain (Some y) [] None = refl
put_client k x client topic payload qos retain (Some y) [] (Some g) = refl
put_client k x client topic payload qos retain (Some y) (n ∷ ns) None = refl
put_client k x client topic payload qos retain (Some y) (n ∷ ns) (Some g) = refl

put_topic : (k : ℕ) (x client topic payload : List ℕ) (qos : ℕ) (retain : Bool)
    (expiry : Option ℕ) (ids : List ℕ) (group : Option Group)
    → put (codes "topic") (string topic)
    (copy_members k (copy client x payload qos retain expiry ids group))
    ≡ copy_members k (copy client topic payload qos retain expiry ids group)
unfolding copy_members
put_topic k x client topic payload qos retain None [] None = refl
put_topic k x client topic payload qos retain None [] (Some g) = refl
put_topic k x client topic payload qos retain None (n ∷ ns) None = refl
put_topic k x client topic payload qos retain None (n ∷ ns) (Some g) = refl
put_topic k x client topic payload qos retain (Some y) [] None = refl
put_topic k x client topic payload qos retain (Some y) [] (Some g) = refl
put_topic k x client topic payload qos retain (Some y) (n ∷ ns) None = refl
put_topic k x client topic payload qos retain (Some y) (n ∷ ns) (Some g) = refl

put_payload : (k : ℕ) (x client topic payload : List ℕ) (qos : ℕ) (retain : Bool)
    (expiry : Option ℕ) (ids : List ℕ) (group : Option Group)
    → put (codes "payload") (string payload)
    (copy_members k (copy client topic x qos retain expiry ids group))
    ≡ copy_members k (copy client topic payload qos retain expiry ids group)
unfolding copy_members
put_payload k x client topic payload qos retain None [] None = refl
put_payload k x client topic payload qos retain None [] (Some g) = refl
put_payload k x client topic payload qos retain None (n ∷ ns) None = refl
put_payload k x client topic payload qos retain None (n ∷ ns) (Some g) = refl
put_payload k x client topic payload qos retain (Some y) [] None = refl
put_payload k x client topic payload qos retain (Some y) [] (Some g) = refl
put_payload k x client topic payload qos retain (Some y) (n ∷ ns) None = refl
put_payload k x client topic payload qos retain (Some y) (n ∷ ns) (Some g) = refl

-- where an object has the line of a copy with these texts, another client gives that of the copy
-- with it
pub other_client : (k : ℕ) (c : Copy) (x y z w : List ℕ) (ms : Members)
    → ms ≡ copy_members k (with_texts x y z c)
    → put (codes "client") (string w) ms ≡ copy_members k (with_texts w y z c)
other_client k c x y z w ms is = ap (put (codes "client") (string w)) is
    ∙ put_client k x w y z c.qos c.retain c.expiry c.identifiers c.group

-- and the same one changes nothing
pub same_client : (k : ℕ) (c : Copy) (x y z : List ℕ) (ms : Members)
    → ms ≡ copy_members k (with_texts x y z c)
    → put (codes "client") (string x) ms ≡ ms
same_client k c x y z ms is = other_client k c x y z x ms is ∙ sym is

-- where an object has the line of a copy with these texts, another topic gives that of the copy
-- with it
pub other_topic : (k : ℕ) (c : Copy) (x y z w : List ℕ) (ms : Members)
    → ms ≡ copy_members k (with_texts x y z c)
    → put (codes "topic") (string w) ms ≡ copy_members k (with_texts x w z c)
other_topic k c x y z w ms is = ap (put (codes "topic") (string w)) is
    ∙ put_topic k y x w z c.qos c.retain c.expiry c.identifiers c.group

-- where an object has the line of a copy with these texts, another payload gives that of the copy
-- with it
pub other_payload : (k : ℕ) (c : Copy) (x y z w : List ℕ) (ms : Members)
    → ms ≡ copy_members k (with_texts x y z c)
    → put (codes "payload") (string w) ms ≡ copy_members k (with_texts x y w c)
other_payload k c x y z w ms is = ap (put (codes "payload") (string w)) is
    ∙ put_payload k z x y w c.qos c.retain c.expiry c.identifiers c.group

-- and the same one changes nothing
pub same_payload : (k : ℕ) (c : Copy) (x y z : List ℕ) (ms : Members)
    → ms ≡ copy_members k (with_texts x y z c)
    → put (codes "payload") (string z) ms ≡ ms
same_payload k c x y z ms is = other_payload k c x y z z ms is ∙ sym is

-- the line that is behind a copy is that of the copy with other texts
pub has_texts : (k : ℕ) (before c : Copy) (ms : Members) → IsBehind k before c ms
    → ms ≡ copy_members k (with_texts before.client before.topic before.payload c)
has_texts k before c ms is = is.1 ∙ ap (copy_members k) is.0

-- the same when its client is written
pub client_written : (k : ℕ) (before c : Copy) (old ms : Members) → IsBehind k before c old
    → ms ≡ put (codes "client") (string c.client) old
    → ms ≡ copy_members k (with_texts c.client before.topic before.payload c)
client_written k before c old ms is e = e
    ∙ other_client k c before.client before.topic before.payload c.client old
    (has_texts k before c old is)

-- and its topic
pub topic_written : (k : ℕ) (before c : Copy) (old later ms : Members) → IsBehind k before c old
    → later ≡ put (codes "client") (string c.client) old
    → ms ≡ put (codes "topic") (string c.topic) later
    → ms ≡ copy_members k (with_texts c.client c.topic before.payload c)
topic_written k before c old later ms is e f = f
    ∙ other_topic k c c.client before.topic before.payload c.topic later
    (client_written k before c old later is e)

-- of the same topic the payload comes next
pub payload_written : (k : ℕ) (before c : Copy) (old later ms : Members) → IsBehind k before c old
    → before.topic ≡ c.topic
    → later ≡ put (codes "client") (string c.client) old
    → ms ≡ put (codes "payload") (string c.payload) later → ms ≡ copy_members k c
payload_written k before c old later ms is t e f = f
    ∙ other_payload k c c.client c.topic before.payload c.payload later
    (client_written k before c old later is e
    ∙ ap (λ t. copy_members k (with_texts c.client t before.payload c)) t)

-- of the same message the client is all that differs
pub message_same : (k : ℕ) (before c : Copy) (old ms : Members) → IsBehind k before c old
    → before.topic ≡ c.topic → before.payload ≡ c.payload
    → ms ≡ put (codes "client") (string c.client) old → ms ≡ copy_members k c
message_same k before c old ms is t p e = client_written k before c old ms is e
    ∙ ap (λ t. copy_members k (with_texts c.client t before.payload c)) t
    ∙ ap (λ p. copy_members k (with_texts c.client c.topic p c)) p

some_weaker : {X : Type 0} {P Q : X → Type 0} (o : Option X) → ((x : X) → P x → Q x) → IfSome o P
    → IfSome o Q
some_weaker None f p = p
some_weaker (Some x) f p = f x p

-- an object that holds a copy's line is ready for one that is like it
pub behind : (k : ℕ) (before c : Copy) (plain ids expiry group : Object) → IsAlike before c
    → Keeps k before plain ids expiry group → Follows k before c plain ids expiry group
behind k before c plain ids expiry group alike keeps =
    let kept : IfSome (held_for c plain ids expiry group) (λ ms. ms ≡ copy_members k before) =
    subst (λ (o : Option Members). IfSome o (λ ms. ms ≡ copy_members k before))
    (ap (λ (x : Copy). held_for x plain ids expiry group) alike) keeps in
    some_weaker (held_for c plain ids expiry group) (λ ms is. (alike, is)) kept

-- ## The object for copies with the same parts

some_group : (o : Option (Key × Rc Text Global)) → is_some (option_map group_of o) ≡ is_some o
some_group None = refl
some_group (Some g) = refl

-- a copy without identifiers
pub parts_without_ids : (d : Delivery) (expiry group : Bool) → (vec_len d.ids == 0) ≡ true
    → is_some d.expiry ≡ expiry → is_some d.group ≡ group
    → parts_of (copy_of d) ≡ parts false expiry group
parts_without_ids d expiry group none e g =
    rw (
      no_numbers d.ids.items (ap (λ n. n == 0) (sym d.ids.ok.0) ∙ none),
      e,
      some_group d.group,
      g,
    )

-- a copy with identifiers
pub parts_with_ids : (d : Delivery) (expiry group : Bool) → (vec_len d.ids == 0) ≡ false
    → is_some d.expiry ≡ expiry → is_some d.group ≡ group
    → parts_of (copy_of d) ≡ parts true expiry group
parts_with_ids d expiry group some e g =
    rw (
      some_numbers d.ids.items (ap (λ n. n == 0) (sym d.ids.ok.0) ∙ some),
      e,
      some_group d.group,
      g,
    )

-- the members of the object for copies with these parts
is_held : (c : Copy) (p : Parts) (plain ids expiry group : Object) (ms : Members) → parts_of c ≡ p
    → held plain ids expiry group p.ids p.expiry p.group ≡ Some ms
    → held_for c plain ids expiry group ≡ Some ms
is_held c p plain ids expiry group ms same is =
    ap (λ (q : Parts). held plain ids expiry group q.ids q.expiry q.group) same ∙ is

-- of what follows a copy, the object that is for it is behind that
pub held_follows : (k : ℕ) (o : Option Delivery) (c : Copy) (p : Parts)
    (plain ids expiry group : Object) (ms : Members)
    → parts_of c ≡ p → held plain ids expiry group p.ids p.expiry p.group ≡ Some ms
    → IfSome o (λ before. Follows k (copy_of before) c plain ids expiry group)
    → IfSome o (λ before. IsBehind k (copy_of before) c ms)
held_follows k o c p plain ids expiry group ms same is follows =
    some_weaker o (λ before. subst (λ (o : Option Members). IfSome o (IsBehind k (copy_of before) c))
    (is_held c p plain ids expiry group ms same is)) follows

-- where the object that is for a copy has its line, the copy is kept
pub held_keeps : {A E : Type 0} (r : Result A E) (k : ℕ) (c : Copy) (p : Parts)
    (plain ids expiry group : Object) (ms : Members)
    → parts_of c ≡ p → held plain ids expiry group p.ids p.expiry p.group ≡ Some ms
    → OnOk r (ms ≡ copy_members k c)
    → OnOk r (Keeps k c plain ids expiry group)
held_keeps r k c p plain ids expiry group ms same is kept =
    on_ok_weaker r
    (λ e. subst (λ (o : Option Members). IfSome o (λ ms. ms ≡ copy_members k c))
    (sym (is_held c p plain ids expiry group ms same is)) e)
    kept
