-- Copies that differ in their client alone, as those of one publish do, and copies that differ in
-- their message's texts alone, as those do that one client is sent.
use Rattle.std.specs.Prelude.{◌≡◌, ℕ, List, [], ◌∷◌, ◌++◌, None, codes, map}
use Rattle.std.specs.List.{flat_map}
use Rattle.serde_json.specs.Data.{string, boolean, Members, no_members, put}
use Rattle.mq_world.specs.World.{Copy}
use Rattle.mq_world.specs.Views.{copy_of}
use Rattle.mq_world.specs.declared.answer.Delivery.{Delivery}
use Rattle.mq_jsonl.specs.Printed.{whole_data, copy_text}

abbrev pub with_client : List ℕ → Copy → Copy
with_client client c = record c { client = client }

abbrev pub with_message : (topic payload : List ℕ) → Copy → Copy
with_message topic payload c = record c { topic = topic; payload = payload }

abbrev pub SameButClient : Copy → Copy → Type 0
SameButClient first c = c ≡ with_client c.client first

-- neither is for a group
abbrev pub SameButMessage : Copy → Copy → Type 0
SameButMessage first c = (c ≡ with_message c.topic c.payload first) × (first.group ≡ None)

-- the members behind the payload in the line of a copy that isn't for a group
unfoldable pub behind_members : Copy → Members
behind_members c =
    put (codes "topic") (string c.topic) (
    put (codes "retain") (boolean c.retain) (
    put (codes "qos") (whole_data c.qos) no_members))

unfoldable pub behind_names : List (List ℕ)
behind_names = codes "qos" ∷ codes "retain" ∷ codes "topic" ∷ []

-- the lines of the first copy and of some that follow it are added, and the others are left
abbrev pub AddsRun : ℕ → (first : Delivery) → (others left : List Delivery) → (old new : List ℕ)
    → Type 0
AddsRun k first others left old new = (run : List Delivery) × (others ≡ run ++ left)
    × (new ≡ old ++ flat_map (copy_text k) (map copy_of (first ∷ run)))
