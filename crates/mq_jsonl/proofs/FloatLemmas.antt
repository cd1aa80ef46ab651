-- What is put into an object without floats has none.
use Rattle.std.proofs.Common.{◌≡◌, ℕ, List, [], ◌∷◌, false, Ordering, Less, Equal}
use Rattle.std.proofs.Common.{Greater, Result, Ok, Err, OnOk, OnErr, refl, nat_cmp}
use Rattle.std.specs.Cmp.Lexicographic.{slice_cmp}
use Rattle.std.specs.Ordering.{match_ordering}
use Rattle.std.proofs.lemmas.Bool.{or_parts, or_from}
use Rattle.serde_json.specs.Data.{Data, Members, no_members, member, put}
use Rattle.serde_json.specs.Written.{has_float, items_have_float, members_have_float}
use Rattle.mq_jsonl.specs.Printed.{numbers_data}

-- what follows from a success and from an error holds
pub on_either : {A E P Q R : Type 0} (r : Result A E) → OnOk r P → OnErr r Q → (P → R) → (Q → R) → R
on_either (Ok x) p q f g = f p
on_either (Err e) p q f g = g q

chosen_none : (o : Ordering) (a b c : Members) → members_have_float a ≡ false
    → members_have_float b ≡ false → members_have_float c ≡ false
    → members_have_float (match_ordering o a b c) ≡ false
chosen_none Less a b c p q r = p
chosen_none Equal a b c p q r = q
chosen_none Greater a b c p q r = r

-- members without floats have none after such data are put
pub put_none : (k : List ℕ) (d : Data) (ms : Members) → has_float d ≡ false
    → members_have_float ms ≡ false → members_have_float (put k d ms) ≡ false
put_none k d no_members p q = or_from (has_float d) false p refl
put_none k d (member l e ms) p q =
    let here = (or_parts (has_float e) (members_have_float ms) q).0 in
    let rest = (or_parts (has_float e) (members_have_float ms) q).1 in
    chosen_none (slice_cmp nat_cmp k l) (member k d (member l e ms)) (member l d ms)
    (member l e (put k d ms))
    (or_from (has_float d) _ p q) (or_from (has_float d) _ p rest)
    (or_from (has_float e) _ here (put_none k d ms p rest))

-- the data of natural numbers have no floats
pub numbers_none : (ns : List ℕ) → items_have_float (numbers_data ns) ≡ false
numbers_none [] = refl
numbers_none (n ∷ ns) = numbers_none ns
