-- A value that is found.
use Rattle.std.proofs.Common.{◌≡◌, ℕ, List, Option, Some, None, Bor, String, Global, Ordering}
use Rattle.std.proofs.Common.{string_bytes, nat_cmp, refl, sym, ap, ◌∙◌}
use Rattle.std.specs.Cmp.Lexicographic.{slice_cmp}
use Rattle.std.specs.Map.{lookup}
use Rattle.std.specs.BTreeMap.{is_at}
use Rattle.std.specs.Option.{option_map, option_copied, unwrap_or}
use Rattle.serde_json.specs.Data.{Data, no_members, object, null, boolean, number, string, array}
use Rattle.serde_json.specs.Find.{get_member, as_object}
use Rattle.serde_json.specs.View.{view, members_view}
use Rattle.serde_json.specs.declared.value.Value.{Value}
use Rattle.serde_json.proofs.Views.{view-lookup}
use Rattle.mq_jsonl.specs.Reading.{command_of}

abbrev Entry : Type 0
Entry = String Global × Value

abbrev pub beside : List ℕ → String Global → Ordering
beside name key = slice_cmp nat_cmp name (string_bytes key)

-- a value is seen the same behind a reference as without it
pub seen : (o : Option (Bor Value)) → option_map (λ v. view v.now) o
    ≡ option_map view (option_copied o)
seen None = refl
seen (Some v) = refl

-- what is looked up by its key is the member of that name
pub found : (name : List ℕ) (es : List Entry) (o : Option Value)
    → o ≡ lookup (is_at (beside name)) es
    → get_member name (members_view es) ≡ option_map view o
found name es o is = sym (view-lookup name es) ∙ ap (option_map view) (sym is)

-- a value that is no object has no word
pub command_of-members : (d : Data) → command_of (object (unwrap_or (as_object d) no_members))
    ≡ command_of d
unfolding command_of
command_of-members null = refl
command_of-members (boolean b) = refl
command_of-members (number n) = refl
command_of-members (string s) = refl
command_of-members (array ds) = refl
command_of-members (object ms) = refl
