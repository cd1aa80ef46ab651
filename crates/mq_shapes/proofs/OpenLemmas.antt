-- Filters of `+` and a last `#`, which match all names that have levels enough.
use Rattle.std.proofs.Common.{◌≡◌, ◌∙◌, ◌&&◌, ◌==◌, ◌<◌, ◌≤◌, ℕ, Bool, true, false, List, [], ◌∷◌, ◌++◌}
use Rattle.std.proofs.Common.{ap, arith, bytes_eq, codes, length, refl, sym}
use Rattle.std.proofs.lemmas.Bool.{and_parts}
use Rattle.mq_topic.proofs.Walk.{levels-nonempty}
use Rattle.mq_topic.specs.Matching.{level_matches}
use Rattle.mq_topic.specs.Texts.{is_plain, wildcards_fit}
use Rattle.mq_acl.specs.Filled.{filled}
use Rattle.mq_unify.specs.Clients.{goes_along, made, made_levels}
use Rattle.mq_unify.proofs.FilterLemmas.{along_one, match_rest, rest_hash}
use Rattle.mq_shapes.specs.Covered.{LevelsCover}
use Rattle.mq_shapes.proofs.CoveredLemmas.{along, single_made}

-- the filter matches each name that has at least as many levels as one that the other does
abbrev pub LongerMatch : (others ones : List (List ℕ)) → Type 0
LongerMatch others ones = (wide narrow : Bool) (client user : List ℕ) (ls longer : List (List ℕ))
    → is_plain client ≡ true → is_plain user ≡ true → length ls ≤ length longer
    → match_rest (made_levels narrow client user ones) ls ≡ true
    → match_rest (made_levels wide client user others) longer ≡ true

pub open_covers : (others ones : List (List ℕ)) → LongerMatch others ones → (wide narrow : Bool)
    → LevelsCover wide narrow others ones
open_covers others ones longer wide narrow =
    λ client user ls c u h. longer wide narrow client user ls ls c u (omega arith) h

-- a last `#` matches all
pub hash_open : (w : List ℕ) (ws ones all : List (List ℕ)) → all ≡ w ∷ ws
    → (bytes_eq w (codes "#") && (length ws == 0)) ≡ true → LongerMatch all ones
hash_open w ws ones all e h = λ wide narrow client user ls longer c u n m.
    ap (λ fs. match_rest (made_levels wide client user fs) longer) e
    ∙ rest_hash wide client user w ws longer h

-- ---- one `+` for what a level makes
some_made : (pattern : Bool) (client user l : List ℕ) → 0 < length (made pattern client user l)
some_made false client user l = omega arith
some_made true client user l = levels-nonempty (filled client user l)

plus_along : (pattern : Bool) (client user : List ℕ) (ws ls : List (List ℕ))
    → match_rest (made_levels pattern client user (codes "+" ∷ ws)) ls
    ≡ goes_along (codes "+" ∷ []) (match_rest (made_levels pattern client user ws)) ls
plus_along pattern client user ws ls =
    ap (λ ms. match_rest (ms ++ made_levels pattern client user ws) ls)
    (single_made pattern client user (codes "+") refl refl)
    ∙ along_one (codes "+") (made_levels pattern client user ws) ls refl

plus_goes : (ms : List (List ℕ)) (all behind : List (List ℕ) → Bool) → 0 < length ms
    → ((ls longer : List (List ℕ)) → length ls ≤ length longer → behind ls ≡ true
    → all longer ≡ true)
    → (ls longer : List (List ℕ)) → length ls ≤ length longer → goes_along ms behind ls ≡ true
    → goes_along (codes "+" ∷ []) all longer ≡ true
plus_goes [] all behind some so ls longer n h = absurd (omega arith)
plus_goes (m ∷ ms) all behind some so [] longer n h = absurd (let k : false ≡ true = h in cc)
plus_goes (m ∷ ms) all behind some so (l ∷ ls) [] n h = absurd (omega arith)
plus_goes (m ∷ []) all behind some so (l ∷ ls) (x ∷ longer) n h =
    so ls longer (omega arith) (and_parts (level_matches m l) (behind ls) h).1
plus_goes (m ∷ k ∷ ms) all behind some so (l ∷ ls) (x ∷ longer) n h =
    plus_goes (k ∷ ms) all behind (omega arith) so ls (x ∷ longer) (omega arith)
    (and_parts (level_matches m l) (goes_along (k ∷ ms) behind ls) h).1

pub plus_open : (w l : List ℕ) (ws ms all every : List (List ℕ)) → all ≡ w ∷ ws → every ≡ l ∷ ms
    → w ≡ codes "+" → wildcards_fit every ≡ true
    → (bytes_eq l (codes "#") && (length ms == 0)) ≡ false → LongerMatch ws ms
    → LongerMatch all every
plus_open w l ws ms all every e f is fits k rest = λ wide narrow client user ls longer c u n h.
    ap (λ fs. match_rest (made_levels wide client user fs) longer) (e ∙ ap (λ v. v ∷ ws) is)
    ∙ plus_along wide client user ws longer
    ∙ plus_goes (made narrow client user l) (match_rest (made_levels wide client user ws))
    (match_rest (made_levels narrow client user ms)) (some_made narrow client user l)
    (λ rs more m. rest wide narrow client user rs more c u m) ls longer n
    (sym (along narrow client user l ms ls c u (ap wildcards_fit (sym f) ∙ fits) k)
    ∙ sym (ap (λ fs. match_rest (made_levels narrow client user fs) ls) f) ∙ h)
