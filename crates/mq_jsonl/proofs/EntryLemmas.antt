-- The members of a value, and the text of a line.
use Rattle.std.proofs.Common.{◌≡◌, ℕ, List, ◌++◌, Result, Ok, Err, OnOk, if◌then◌else◌, unwrap_or}
use Rattle.std.proofs.Common.{BTreeMap, String, Global, false, ap, ◌∙◌}
use Rattle.std.specs.Result.{is_ok}
use Rattle.serde_json.specs.Data.{object, no_members}
use Rattle.serde_json.specs.Find.{as_object}
use Rattle.serde_json.specs.View.{view, members_view}
use Rattle.serde_json.specs.Written.{has_float, members_have_float, compact_text}
use Rattle.serde_json.specs.declared.value.Value.{Value, Object}
use Rattle.serde_json.proofs.Views.{view-Object}

-- what was taken out of an object is its members
pub kept : (m n : BTreeMap (String Global) Value)
    → members_view n.entries ≡ unwrap_or (as_object (view (Object m))) no_members
    → members_view n.entries ≡ members_view m.entries
kept m n same = rw (view-Object m) at same

-- an object whose members have no floats has none
pub no_float_inside : (m : BTreeMap (String Global) Value)
    → members_have_float (members_view m.entries) ≡ false → has_float (view (Object m)) ≡ false
no_float_inside m none = rw (view-Object m) none

-- an object is printed as its members are
pub text_inside : (m : BTreeMap (String Global) Value)
    → compact_text (view (Object m)) ≡ compact_text (object (members_view m.entries))
text_inside m = ap compact_text (view-Object m)

-- on success, bytes that are a line's were appended as that line
pub appended : {A E : Type 0} (r : Result A E) (new old bytes line : List ℕ)
    → new ≡ (if is_ok r then old ++ bytes else old) → bytes ≡ line → OnOk r (new ≡ old ++ line)
appended (Ok x) new old bytes line e same = e ∙ ap (λ b. old ++ b) same
appended (Err x) new old bytes line e same = tt
