-- Copies that differ in their texts alone, and what the printed objects have of them.
use Rattle.std.specs.Prelude.{◌≡◌, ℕ, List, Bool, true, false, Option, Some, None, IfSome, is_some}
use Rattle.serde_json.specs.Data.{Members}
use Rattle.serde_json.specs.View.{members_view}
use Rattle.mq_world.specs.World.{Copy}
use Rattle.mq_jsonl.specs.Printed.{numbers_if, copy_members}
use Rattle.mq_jsonl.specs.declared.object.Object.{Object}

abbrev pub with_texts : (client topic payload : List ℕ) → Copy → Copy
with_texts client topic payload c = record c { client = client; topic = topic; payload = payload }

abbrev pub IsAlike : Copy → Copy → Type 0
IsAlike before c = before ≡ with_texts before.client before.topic before.payload c

-- these members are the line's of a copy that is like this one
abbrev pub IsBehind : ℕ → Copy → Copy → Members → Type 0
IsBehind k before c ms = IsAlike before c × (ms ≡ copy_members k before)

-- the members of that object, of these four, which is for copies with these parts, if one is
abbrev pub held : (plain ids expiry group : Object) → (ids expiry group : Bool) → Option Members
held plain ids expiry group false false false = Some (members_view plain.members.entries)
held plain ids expiry group true false false = Some (members_view ids.members.entries)
held plain ids expiry group false true false = Some (members_view expiry.members.entries)
held plain ids expiry group false false true = Some (members_view group.members.entries)
held plain ids expiry group true true false = None
held plain ids expiry group true false true = None
held plain ids expiry group false true true = None
held plain ids expiry group true true true = None

abbrev pub held_for : Copy → (plain ids expiry group : Object) → Option Members
held_for c plain ids expiry group =
    held plain ids expiry group (is_some (numbers_if c.identifiers)) (is_some c.expiry)
    (is_some c.group)

-- the object for such copies has the line of this one
abbrev pub Keeps : ℕ → Copy → (plain ids expiry group : Object) → Type 0
Keeps k c plain ids expiry group =
    IfSome (held_for c plain ids expiry group) (λ ms. ms ≡ copy_members k c)

-- the object for such copies, if there is one, has the line of one that is like this
abbrev pub Follows : ℕ → Copy → Copy → (plain ids expiry group : Object) → Type 0
Follows k before c plain ids expiry group =
    IfSome (held_for c plain ids expiry group) (IsBehind k before c)
