-- One item of a list.
use Rattle.std.proofs.Common.{◌≡◌, ◌<◌, ℕ, zero, suc, List, [], ◌∷◌, length, get_or, subst, sym}
use Rattle.std.proofs.Common.{All}
use Rattle.std.proofs.Common.{arith}
use Rattle.std.proofs.lemmas.List.Elements.{All-head, All-tail}

-- an item of a list has what all have
pub item_has : {X : Type 0} (P : X → Type 0) (xs : List X) (i : ℕ) (x : X) → i < length xs
    → x ≡ get_or xs i x → All P xs → P x
item_has P [] i x h e all = absurd (omega arith)
item_has P (y ∷ ys) zero x h e all = subst P (sym e) (All-head P y ys all)
item_has P (y ∷ ys) (suc i) x h e all =
    item_has P ys i x (omega arith) e (All-tail P y ys all)
