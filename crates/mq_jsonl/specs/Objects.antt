-- The names of an object that is printed again and again, and the data that are written over its values.
use Rattle.std.specs.Prelude.{◌≡◌, ◌≢◌, ℕ, List, [], ◌∷◌, Bool, true, false, is_some, codes}
use Rattle.serde_json.specs.Data.{Data, string, boolean, array, Members, no_members, member}
use Rattle.mq_world.specs.World.{Copy}
use Rattle.mq_jsonl.specs.Printed.{whole_data, numbers_data, numbers_if}
use Rattle.mq_jsonl.specs.declared.object.Datum.{Datum}
use Rattle.mq_jsonl.specs.declared.object.Datum.TheVariants.{Text, Number, Flag, Numbers}

abbrev pub names_of : Members → List (List ℕ)
names_of no_members = []
names_of (member k d ms) = k ∷ names_of ms

abbrev pub values_of : Members → List Data
values_of no_members = []
values_of (member k d ms) = d ∷ values_of ms

-- an object of such lines: it has their names with whatever values, or none yet
abbrev pub IsFor : List (List ℕ) → Members → Type 0
IsFor names ms = names_of ms ≢ [] → names_of ms ≡ names

abbrev pub name_if : Bool → List ℕ → List (List ℕ) → List (List ℕ)
name_if false k ks = ks
name_if true k ks = k ∷ ks

-- which members a copy's line has that others lack
pub record Parts : Type 0 where
  pub ids : Bool
  pub expiry : Bool
  pub group : Bool

unfoldable pub copy_names : Parts → List (List ℕ)
copy_names p =
    codes "client" ∷ name_if p.expiry (codes "expiry") (
    name_if p.group (codes "filter") (
    name_if p.ids (codes "ids") (
    codes "line" ∷ codes "payload" ∷ codes "qos" ∷ codes "retain"
    ∷ name_if p.group (codes "share") (
    codes "topic" ∷ []))))

abbrev pub parts : (ids expiry group : Bool) → Parts
parts ids expiry group = record { ids = ids; expiry = expiry; group = group }

abbrev pub parts_of : Copy → Parts
parts_of c = parts (is_some (numbers_if c.identifiers)) (is_some c.expiry) (is_some c.group)

unfoldable pub reason_names : List (List ℕ)
reason_names = codes "line" ∷ codes "reason" ∷ []

unfoldable pub report_names : (acl_line : Bool) → List (List ℕ)
report_names acl_line = name_if acl_line (codes "acl_line")
    (codes "code" ∷ codes "line" ∷ codes "refused" ∷ [])

abbrev pub data_of : Datum → Data
data_of (Text text) = string text.now
data_of (Number n) = whole_data n
data_of (Flag flag) = boolean flag
data_of (Numbers numbers) = array (numbers_data numbers.now)

-- the next of the data ds was written as d, and later ones are left, or no more of them will be written
abbrev pub WritesNext : List Data → Bool → Data → List Data → Type 0
WritesNext ds true d later = ds ≡ d ∷ later
WritesNext ds false d later = later ≡ []
