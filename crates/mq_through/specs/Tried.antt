-- What is shown of the client ids that are tried.
use Rattle.std.specs.Prelude.{◌≡◌, ℕ, true, List, All, Option, Some, None, ⊤}
use Rattle.std.specs.List.{list_any}
use denote.Ref.{Bor}
use Rattle.mq_acl.specs.declared.row.Row.{Row}
use Rattle.mq_differences.specs.declared.way.Way.{Way}
use Rattle.mq_plan.specs.declared.rule.PlanRule.{PlanRule}
use Rattle.mq_regions.specs.Regions.{in_region}
use Rattle.mq_regions.specs.declared.region.Region.{Region}
use Rattle.mq_witness.specs.Literals.{is_among}
use Rattle.mq_through.specs.Made.{AreAlike, IsClient, IsMade}
use Rattle.mq_through.specs.Through.{AreApart, IsQuestion, IsReal}
use Rattle.mq_through.specs.Through.{Question, is_changed, is_shown_of}
use Rattle.mq_through.specs.declared.comparison.Comparison.{Comparison}
use Rattle.mq_through.specs.declared.made.Made.{Made}
use Rattle.mq_through.specs.declared.renamed.Renamed.{Renamed}

-- more is shown, and all of it is so
pub record Grows (plan : List PlanRule) (old new : List Row) (before after : List Renamed) :
    Type 0 where
  pub kept : (way : Way) (q : Question)
      → list_any (is_shown_of plan old new way q) before ≡ true
      → list_any (is_shown_of plan old new way q) after ≡ true
  pub real : All (IsReal plan old new) before → All (IsReal plan old new) after
  pub apart : AreApart before → AreApart after

-- whatever changes for this client in the region is shown
abbrev pub ShowsChangesIn : List PlanRule → (old new : List Row) → Region → List ℕ → List Renamed
    → Type 0
ShowsChangesIn plan old new region client all = (way : Way) (q : Question) → IsQuestion plan q
    → q.client ≡ client → in_region region q.topic ≡ true → is_changed way old new q ≡ true
    → list_any (is_shown_of plan old new way q) all ≡ true

-- the last lists decide in the region as these do
abbrev pub IsLastMade : Region → (last : Option Made) → Made → Type 0
IsLastMade region None made = ⊥
IsLastMade region (Some last) made = AreAlike region last made

-- they were made for a client for whom whatever changes in the region is shown
abbrev pub IsTried : Comparison → Region → (last : Option Made) → List Renamed → Type 0
IsTried k region None all = ⊤
IsTried k region (Some last) all = (client : List ℕ) × IsClient client
    × IsMade k region client last
    × ShowsChangesIn k.plan.now k.old.now k.new.now region client all

-- whatever changes for these clients is shown
abbrev pub ShowsTried : List PlanRule → (old new : List Row) → List (Bor (List ℕ)) → List Renamed
    → Type 0
ShowsTried plan old new clients all = (way : Way) (q : Question) → IsQuestion plan q
    → is_among q.client clients ≡ true → is_changed way old new q ≡ true
    → list_any (is_shown_of plan old new way q) all ≡ true

-- in the region
abbrev pub ShowsTriedIn : List PlanRule → (old new : List Row) → Region → List (Bor (List ℕ))
    → List Renamed → Type 0
ShowsTriedIn plan old new region clients all = (way : Way) (q : Question) → IsQuestion plan q
    → is_among q.client clients ≡ true → in_region region q.topic ≡ true
    → is_changed way old new q ≡ true
    → list_any (is_shown_of plan old new way q) all ≡ true

-- lists can be made for each of them
abbrev pub AreClients : List (Bor (List ℕ)) → Type 0
AreClients clients = All (λ client. IsClient client.now) clients
