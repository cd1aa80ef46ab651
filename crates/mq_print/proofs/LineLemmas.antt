-- Lines of a text.
use Rattle.std.proofs.Common.{◌≡◌, ℕ, List, [], ◌∷◌, ◌++◌, Result, Ok, Err, OnOk, if◌then◌else◌}
use Rattle.std.proofs.Common.{append_assoc, ap, ◌∙◌}
use Rattle.std.proofs.Common.{Option, Some, None, Bor, get_or, unwrap_or}
use Rattle.std.specs.List.{slice_get}
use Rattle.std.specs.Option.{option_map}
use Rattle.std.specs.Result.{is_ok}
use Rattle.std.proofs.lemmas.Option.{unwrap_or-slice_get}

-- on success, a text and a line feed were added as this line
pub line_added : {A E : Type 0} (r : Result A E) (new old before bytes line : List ℕ)
    → new ≡ (if is_ok r then before ++ 10 ∷ [] else before) → before ≡ old ++ bytes
    → bytes ≡ line → OnOk r (new ≡ old ++ (line ++ 10 ∷ []))
line_added (Ok x) new old before bytes line added begun same =
    added ∙ ap (λ b. b ++ 10 ∷ []) (begun ∙ ap (λ b. old ++ b) same) ∙ append_assoc old line (10 ∷ [])
line_added (Err x) new old before bytes line added begun same = tt

-- the line that was looked up, or an empty one where there is none
pub line_found : (found : Option (Bor (List ℕ))) (none line : Bor (List ℕ)) (all : List (List ℕ))
    (place : ℕ) → line ≡ unwrap_or found none → none.now ≡ []
    → option_map (λ t. t.now) found ≡ slice_get all place → line.now ≡ get_or all place []
line_found None none line all place is empty same =
    ap (λ t. t.now) is ∙ empty ∙ ap (λ t. unwrap_or t []) same ∙ unwrap_or-slice_get all place []
line_found (Some t) none line all place is empty same =
    ap (λ t. t.now) is ∙ ap (λ t. unwrap_or t []) same ∙ unwrap_or-slice_get all place []
