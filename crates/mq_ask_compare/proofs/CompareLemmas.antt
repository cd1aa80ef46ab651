-- What a list of differences says of two lists.
use Rattle.std.proofs.Common.{◌≡◌, ◌⊎◌, ◌<◌, ◌++◌, ◌&&◌, suc, length, arith, ℕ, Bool, true, false, not}
use Rattle.std.proofs.Common.{List, [], ◌∷◌, Option, Some, None, All, refl, sym, ◌∙◌, string_bytes, true≢false}
use Rattle.std.proofs.Common.{subst, inl, inr, ap, ◌||◌, ◌≢◌, Ok}
use Rattle.std.specs.List.{list_any}
use Rattle.std.proofs.lemmas.Bool.{and_parts, false_from_ne_true, or_cases}
use Rattle.mq_topic.specs.Texts.{is_name}
use Rattle.mq_acl.specs.AccessLists.{allow_by}
use Rattle.mq_acl.specs.declared.rules.Rules.{Rules}
use Rattle.mq_acl.specs.Rows.{AclRow}
use Rattle.mq_acl.specs.Views.{row_views}
use Rattle.mq_acl.specs.declared.access.Direction.{Direction}
use Rattle.mq_acl.specs.declared.row.Row.{Row}
use Rattle.mq_witness.specs.Clients.{can_be_id}
use Rattle.mq_differences.specs.Classes.{can_be_user, user_of}
use Rattle.mq_differences.specs.Classes.{is_in}
use Rattle.mq_differences.specs.Differences.{is_change, is_shown_of, IsReal, same_way}
use Rattle.mq_differences.specs.Differences.{ShowsAll}
use Rattle.mq_differences.specs.Differences.{same_direction, same_reason, same_start}
use Rattle.mq_differences.specs.Reasons.{reason_of}
use Rattle.mq_lint.specs.Needless.{AllowSame}
use Rattle.mq_differences.specs.declared.difference.Difference.{Difference}
use Rattle.mq_differences.specs.declared.way.Way.{Way}
use Rattle.mq_differences.specs.declared.way.Way.TheVariants.{Gained, Lost}
use Rattle.mq_who.proofs.ExtentLemmas.{any_weaker}
use Rattle.mq_ask_cases.proofs.WayLemmas.{way_is}
use Rattle.mq_ask_compare.specs.Compare.{AreChanges, Differ, IsCompared}
use Rattle.mq_ask.specs.Lists.{IsTaken}
use Rattle.mq_ask_compare.specs.Compare.{NoneChanges, SomeChanges}
use Rattle.mq_ask_compare.specs.Compare.{SaysWhetherSame}
use Rattle.mq_ask_cases.specs.Ways.{is_way}
use Rattle.mq_ask_compare.specs.declared.compare.Changes.{Changes}
use Rattle.mq_ask.specs.declared.outcome.Outcome.{Outcome}
use Rattle.mq_ask.specs.declared.outcome.Outcome.TheVariants.{Clear, Remark}

not_same : (a b : Bool) → (b && not a) ≡ true → a ≡ b → ⊥
not_same true true e same = true≢false (sym e)
not_same true false e same = true≢false (sym e)
not_same false true e same = true≢false (sym same)
not_same false false e same = true≢false (sym e)

-- what changes is not the same
differs : (rules : Rules) (way : Way) (old new : List AclRow) (client : List ℕ) (user : Option (List ℕ))
    (topic : List ℕ) (direction : Direction)
    → is_change rules way old new client user topic direction ≡ true
    → ¬ (allow_by rules old client user topic direction
    ≡ allow_by rules new client user topic direction)
differs rules Gained old new client user topic direction e same =
    not_same (allow_by rules old client user topic direction)
    (allow_by rules new client user topic direction) e same
differs rules Lost old new client user topic direction e same =
    not_same (allow_by rules new client user topic direction)
    (allow_by rules old client user topic direction) e (sym same)

-- where a difference is shown the lists do differ
differ_of : (rules : Rules) (old new : List Row) (all : List Difference)
    → list_any (λ d. is_way None d.way) all ≡ true → All (IsReal rules old new) all
    → Differ rules (row_views old) (row_views new)
differ_of rules old new [] some real = absurd (true≢false (sym some))
differ_of rules old new (d ∷ ds) some real =
    let is : IsReal rules old new d =
    real 0 d (let low : 0 < suc (length ds) = omega arith in low) in
    record {
      client = string_bytes d.client;
      user = user_of d.class;
      name = d.topic;
      direction = d.direction;
      client_fits = is.client_fits;
      user_fits = is.user_fits;
      valid = is.valid;
      differs = differs rules d.way (row_views old) (row_views new) (string_bytes d.client)
          (user_of d.class) d.topic d.direction is.change;
    }

-- where one of this way is shown something does change in it
changes_of : (rules : Rules) (way : Way) (old new : List Row) (all : List Difference)
    → list_any (λ d. is_way (Some way) d.way) all ≡ true → All (IsReal rules old new) all
    → SomeChanges rules way (row_views old) (row_views new)
changes_of rules way old new [] some real = absurd (true≢false (sym some))
changes_of rules way old new (d ∷ ds) some real =
    at (λ rest. changes_of rules way old new ds rest (λ place e low. real (suc place) e
    (let more : suc place < suc (length ds) = omega arith in more)))
    (or_cases (same_way way d.way) (list_any (λ e. is_way (Some way) e.way) ds) some)
  where
    at : (list_any (λ e. is_way (Some way) e.way) ds ≡ true
        → SomeChanges rules way (row_views old) (row_views new))
        → (same_way way d.way ≡ true) ⊎ (list_any (λ e. is_way (Some way) e.way) ds ≡ true)
        → SomeChanges rules way (row_views old) (row_views new)
    at behind (inl this) =
        let is : IsReal rules old new d =
        real 0 d (let low : 0 < suc (length ds) = omega arith in low) in
        record {
          client = string_bytes d.client;
          user = user_of d.class;
          name = d.topic;
          direction = d.direction;
          client_fits = is.client_fits;
          user_fits = is.user_fits;
          valid = is.valid;
          changes = subst (λ w. is_change rules w (row_views old) (row_views new)
              (string_bytes d.client) (user_of d.class) d.topic d.direction ≡ true)
              (sym (way_is way d.way this)) is.change;
        }
    at behind (inr rest) = behind rest

-- no difference is shown where none is that is asked about, if all are
none_shown : (all : List Difference) → list_any (λ d. is_way None d.way) all ≡ false → all ≡ []
none_shown [] none = refl
none_shown (d ∷ ds) none = absurd (true≢false none)

of_way : (rules : Rules) (old new : List Row) (way : Way) (direction : Direction)
    (client : List ℕ) (user : Option (List ℕ)) (name : List ℕ) (d : Difference)
    → is_shown_of rules old new way direction client user name d ≡ true
    → is_way (Some way) d.way ≡ true
of_way rules old new way direction client user name d is =
    let in_class = is_in (row_views old) (row_views new) user d.class in
    let directed = same_direction direction d.direction in
    let is_of = same_way way d.way in
    let starts = same_start name d.topic in
    let reasons = same_reason (reason_of rules old client user name direction) d.old_reason
    && same_reason (reason_of rules new client user name direction) d.new_reason in
    let all = and_parts (in_class && directed && is_of && starts) reasons is in
    let most = and_parts (in_class && directed && is_of) starts all.0 in
    (and_parts (in_class && directed) is_of most.0).1

-- nothing changes in this way where no difference of it is shown
none_changes : (rules : Rules) (way : Way) (old new : List Row) (all : List Difference)
    → ShowsAll rules old new all → list_any (λ d. is_way (Some way) d.way) all ≡ false
    → NoneChanges rules way (row_views old) (row_views new)
none_changes rules way old new all every none client name user direction id fits valid =
    false_from_ne_true (is_change rules way (row_views old) (row_views new) client user name direction)
    (λ changes. true≢false (sym (any_weaker
    (is_shown_of rules old new way direction client user name) (λ d. is_way (Some way) d.way)
    (of_way rules old new way direction client user name) all
    (every way direction client name user id fits valid changes)) ∙ none))

-- whether there is a difference that is asked about shows whether the lists allow the same, or one of them nothing that the
-- other doesn't
module _ (rules : Rules) (c : Changes) (old new : List ℕ) (are : AreChanges rules old new c) where
  pub shown : (only : Option Way) (outcome : Outcome)
      → (outcome ≡ Clear → list_any (λ d. is_way only d.way) c.differences.items ≡ false)
      → (outcome ≡ Remark → list_any (λ d. is_way only d.way) c.differences.items ≡ true)
      → SaysWhetherSame rules only (row_views c.old.items) (row_views c.new.items) outcome
  shown None Clear none some = are.same (none_shown c.differences.items (none refl))
  shown (Some way) Clear none some =
      none_changes rules way c.old.items c.new.items c.differences.items are.every (none refl)
  shown None Remark none some =
      differ_of rules c.old.items c.new.items c.differences.items (some refl) are.real
  shown (Some way) Remark none some =
      changes_of rules way c.old.items c.new.items c.differences.items (some refl) are.real

pub compared : (rules : Rules) (only : Option Way) (old new : List ℕ) (c : Changes)
    (outcome : Outcome) → AreChanges rules old new c → IsTaken old → IsTaken new
    → SaysWhetherSame rules only (row_views c.old.items) (row_views c.new.items) outcome
    → IsCompared rules only old new outcome
compared rules only old new c outcome are old_taken new_taken says = record {
  old_taken = old_taken;
  new_taken = new_taken;
  old_rows = row_views c.old.items;
  new_rows = row_views c.new.items;
  old_read = are.old_rows.read;
  new_read = are.new_rows.read;
  outcome_of = says;
}

-- lists of which no difference is shown allow the same
pub allow_same : (rules : Rules) (old new : List Row)
    → ((client topic : List ℕ) (user : Option (List ℕ)) (direction : Direction)
    → can_be_id client ≡ true → can_be_user user ≡ true → is_name topic ≡ true
    → allow_by rules (row_views old) client user topic direction
    ≡ allow_by rules (row_views new) client user topic direction)
    → AllowSame rules (row_views old) (row_views new)
allow_same rules old new same client name user direction asked valid =
    let both = and_parts (can_be_id client) (can_be_user user) asked in
    same client name user direction both.0 both.1 valid
