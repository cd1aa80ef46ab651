-- Whether a list that grows has an element that passes.
use Rattle.std.proofs.Common.{◌≡◌, Bool, true, false, ◌||◌, List, [], ◌∷◌, ◌++◌, refl, ap, ◌∙◌}
use Rattle.std.specs.List.{list_any}
use Rattle.std.proofs.lemmas.List.Folds.{list_any-append}
use Rattle.std.proofs.lemmas.Bool.{or_left}

other : (a b : Bool) → b ≡ true → (a || (b || false)) ≡ true
other true b e = refl
other false b e = rw e refl

-- if an element passes, one still does when more follow
pub any_kept : {X : Type 0} (p : X → Bool) (before more after : List X) → after ≡ before ++ more
    → list_any p before ≡ true → list_any p after ≡ true
any_kept p before more after e h = ap (list_any p) e ∙ list_any-append p before more
    ∙ or_left (list_any p before) (list_any p more) h

-- if the last element passes, some element does
pub any_last : {X : Type 0} (p : X → Bool) (before after : List X) (x : X)
    → after ≡ before ++ x ∷ [] → p x ≡ true → list_any p after ≡ true
any_last p before after x e h = ap (list_any p) e ∙ list_any-append p before (x ∷ [])
    ∙ other (list_any p before) (p x) h
