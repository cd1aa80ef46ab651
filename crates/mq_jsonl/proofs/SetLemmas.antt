-- A member that is there, with another value.
use Rattle.std.proofs.Common.{◌≡◌, ℕ, List, [], ◌∷◌, Bool, true, false, Option, Some, None, String}
use Rattle.std.proofs.Common.{Global, string_bytes, Ordering, Less, Equal, Greater, refl, sym, ap}
use Rattle.std.proofs.Common.{◌∙◌, cond}
use Rattle.std.proofs.lemmas.Option.{none-some}
use Rattle.std.specs.BTreeMap.{is_at}
use Rattle.std.specs.Cmp.Lexicographic.{nat_list_cmp_total}
use Rattle.std.specs.List.{AllByRecursion}
use Rattle.std.specs.List.Sorted.{IsStrictlySortedBy}
use Rattle.std.specs.Map.{keys_of, lookup, set_value}
use Rattle.std.specs.Ordering.{is_eq, match_ordering}
use Rattle.std.specs.String.{string_cmp}
use Rattle.std.proofs.lemmas.Bool.{or_parts}
use Rattle.serde_json.specs.Data.{member, put}
use Rattle.serde_json.specs.View.{view, members_view}
use Rattle.serde_json.specs.Written.{has_float, members_have_float}
use Rattle.serde_json.specs.declared.value.Value.{Value}
use Rattle.mq_jsonl.proofs.TakenLemmas.{beside}

abbrev Entries : Type 0
Entries = List (String Global × Value)

-- a name below all keys is none of them
lower : (name : List ℕ) (first : String Global) (es : Entries) → beside name first ≡ Less
    → AllByRecursion (λ k. string_cmp first k ≡ Less) (keys_of es)
    → lookup (is_at (beside name)) es ≡ None
lower name first [] below above = refl
lower name first (e ∷ es) below above =
    rw (nat_list_cmp_total.trans name (string_bytes first) (string_bytes e.0) below above.0)
    (lower name first es below above.1)

-- where a name is among sorted keys, to set its value is to put the member
pub set_is_put : (name : List ℕ) (es : Entries) (v w : Value)
    → IsStrictlySortedBy string_cmp (keys_of es) → lookup (is_at (beside name)) es ≡ Some v
    → members_view (set_value (is_at (beside name)) es w) ≡ put name (view w) (members_view es)
unfolding IsStrictlySortedBy
set_is_put name [] v w sorted found = absurd (none-some v found)
set_is_put name (e ∷ es) v w sorted found =
    let k = string_bytes e.0 in
    let P : Ordering → Type 0 = λ o. beside name e.0 ≡ o
    → cond (is_eq o) (Some e.1) (lookup (is_at (beside name)) es) ≡ Some v
    → members_view (cond (is_eq o) ((e.0, w) ∷ es) (e ∷ set_value (is_at (beside name)) es w))
    ≡ match_ordering o (member name (view w) (members_view (e ∷ es)))
    (member k (view w) (members_view es))
    (member k (view e.1) (put name (view w) (members_view es))) in
    (elim (beside name e.0) as P [
      | Less ↦ λ is here. absurd (none-some v (sym (lower name e.0 es is sorted.0) ∙ here))
      | Equal ↦ λ is here. refl
      | Greater ↦ λ is here. ap (member k (view e.1)) (set_is_put name es v w sorted.1 here)
    ]) refl found

-- of members without floats none has one
pub found_none : (name : List ℕ) (es : Entries) (v : Value)
    → lookup (is_at (beside name)) es ≡ Some v → members_have_float (members_view es) ≡ false
    → has_float (view v) ≡ false
found_none name [] v found none = absurd (none-some v found)
found_none name (e ∷ es) v found none =
    let here = (or_parts (has_float (view e.1)) (members_have_float (members_view es)) none).0 in
    let rest = (or_parts (has_float (view e.1)) (members_have_float (members_view es)) none).1 in
    let P : Bool → Type 0 = λ b. cond b (Some e.1) (lookup (is_at (beside name)) es) ≡ Some v
    → has_float (view v) ≡ false in
    (elim (is_at (beside name) e.0) as P [
      | true ↦ λ is. ap (λ (o : Option Value). has_float
          (view (elim o [ None ↦ e.1 | Some x ↦ x ]))) (sym is) ∙ here
      | false ↦ λ is. found_none name es v is rest
    ]) found
