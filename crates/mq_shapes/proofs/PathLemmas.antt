-- The text of a path.
use Rattle.std.proofs.Common.{◌≡◌, ◌∙◌, ◌++◌, ◌∷◌, ℕ, List, [], Bor, ap, map, refl, reverse, sym}
use Rattle.std.specs.List.{join_by}
use Rattle.std.proofs.lemmas.List.{map_push, reverse-append}
use Rattle.std.proofs.lemmas.List.Folds.{flat_map-map}
use Rattle.mq_cover.specs.Paths.{path_levels}
use Rattle.mq_unify.specs.Joined.{join_levels}

-- what `join` makes of levels
pub joined_is : (ls : List (Bor (List ℕ)))
    → join_by (λ l. l.now) (47 ∷ []) ls ≡ join_levels (map (λ l. l.now) ls)
joined_is [] = refl
joined_is (l ∷ ls) =
    ap (λ t. l.now ++ t) (sym (flat_map-map (λ t. 47 ∷ t) (λ (l : Bor (List ℕ)). l.now) ls))

map_reverse : (f : Bor (List ℕ) → List ℕ) (xs : List (Bor (List ℕ)))
    → map f (reverse xs) ≡ reverse (map f xs)
map_reverse f [] = refl
map_reverse f (x ∷ xs) =
    ap (map f) (reverse-append (x ∷ []) xs) ∙ map_push f (reverse xs) x
    ∙ ap (λ l. l ++ f x ∷ []) (map_reverse f xs) ∙ sym (reverse-append (f x ∷ []) (map f xs))

-- levels that are a path in reverse are the path's
pub path_texts : (parts levels path : List (Bor (List ℕ))) → parts ≡ levels → levels ≡ reverse path
    → map (λ l. l.now) parts ≡ path_levels path
path_texts parts levels path e f = ap (map (λ l. l.now)) (e ∙ f) ∙ map_reverse (λ l. l.now) path
