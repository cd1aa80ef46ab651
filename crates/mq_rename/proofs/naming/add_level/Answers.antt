use Rattle.std.proofs.Common.{◌≡◌, ◌++◌, ◌∷◌, ◌-◌, [], List, ℕ, Bor, false, min, length, drop, take}
use Rattle.std.proofs.Common.{codes, ap, sym, bytes_eq, ◌∙◌, refl}
use Rattle.std.proofs.lemmas.Bool.{false_from_ne_true}
use Rattle.mq_topic.proofs.ByteLemmas.{text_is}
use Rattle.std.proofs.lemmas.List.{map-append, drop_min, drop-map, take_rest}
use Rattle.mq_rename.specs.Lists.{is_hash, is_plus, texts}
use Rattle.mq_rename.specs.Renames.{becomes}
use Rattle.mq_rename.proofs.naming.add_level.Goals as goal

hash_is : (made name : List (Bor (List ℕ))) (front place : ℕ) (level : List ℕ) → level ≡ codes "#"
    → texts (made ++ take (length name - min front (length name))
    (drop (min front (length name)) name))
    ≡ texts made ++ becomes front (texts name) (level, place)
hash_is made name front place level e =
    let rest = drop (min front (length name)) name in
    map-append (λ part. part.now) made (take (length name - min front (length name)) rest)
    ∙ ap (λ ls. texts made ++ ls) (ap texts (take_rest name (min front (length name))
    ∙ drop_min front name)
    ∙ sym (drop-map (λ part. part.now) front name)
    ∙ ap (λ l. becomes front (texts name) (l, place)) (sym e))

-- a text that is not another
differs : (a b : List ℕ) → (a ≡ b → ⊥) → bytes_eq a b ≡ false
differs a b ne = false_from_ne_true (bytes_eq a b) (λ e. ne (text_is a b e))

own_is : (made name : List (Bor (List ℕ))) (front place : ℕ) (level : Bor (List ℕ))
    → is_plus level.now ≡ false → is_hash level.now ≡ false
    → texts (made ++ level ∷ []) ≡ texts made ++ becomes front (texts name) (level.now, place)
own_is made name front place level p h =
    map-append (λ part. part.now) made (level ∷ []) ∙ ap (λ ls. texts made ++ ls) (rw (p, h) refl)

pub returns-in_ok-extend_from_slice-in-text-2 : goal.returns-in_ok-extend_from_slice-in-text-2
returns-in_ok-extend_from_slice-in-text-2 c =
    let name = c.args.name.now in
    ap texts c.in_ok-extend_from_slice-in-text-2.ensures.items
    ∙ ap (λ n. texts (c.args.made.now.items ++ take (length name - n) (drop n name))) c.min.ensures
    ∙ hash_is c.args.made.now.items name c.args.front c.args.place c.args.level.now c.in-text-2.is

pub returns-in_ok-push-in_default : goal.returns-in_ok-push-in_default
returns-in_ok-push-in_default c =
    ap texts c.in_ok-push-in_default.ensures.items
    ∙ own_is c.args.made.now.items c.args.name.now c.args.front c.args.place c.args.level
    (differs c.args.level.now (codes "+") c.in_default.not-text)
    (differs c.args.level.now (codes "#") c.in_default.not-text-2)
