-- What the levels of a valid text look like.
use Rattle.std.proofs.Common.{◌≡◌, ℕ, ◌-◌, ◌&&◌, true, not, List, [], ◌∷◌, length, take, sym, ap}
use Rattle.std.proofs.Common.{◌∙◌, arith, suc}
use Rattle.std.specs.Prelude.{nat_le}
use Rattle.std.specs.List.{list_all}
use Rattle.std.proofs.lemmas.Bool.{and_parts, not-true}
use Rattle.mq_topic.specs.Levels.{levels}
use Rattle.mq_topic.specs.Texts.{contains_byte, parents, is_text, is_plain, is_level, wildcards_fit}
use Rattle.mq_topic.specs.Texts.{is_name, is_filter}
use Rattle.mq_topic.proofs.TextLemmas.{levels_lack}
use Rattle.mq_tree.specs.Below.{ArePlain, HashLast}

are_plain : (ls : List (List ℕ)) → list_all (λ l. not (contains_byte 43 l)) ls ≡ true
    → list_all (λ l. not (contains_byte 35 l)) ls ≡ true → ArePlain ls
are_plain [] p h = tt
are_plain (l ∷ ls) p h =
    let a = and_parts (not (contains_byte 43 l)) (list_all (λ l. not (contains_byte 43 l)) ls) p in
    let b = and_parts (not (contains_byte 35 l)) (list_all (λ l. not (contains_byte 35 l)) ls) h
    in (
      (
        λ e. grind (arith, ap (contains_byte 35) e, b.0),
        λ e. grind (arith, ap (contains_byte 43) e, a.0),
      ),
      are_plain ls a.1 b.1,
    )

-- a name's levels are no wildcards
pub name_is_plain : (text : List ℕ) → is_name text ≡ true → ArePlain (levels text)
name_is_plain text h =
    let fit = and_parts (is_text text && is_plain text) (nat_le (length (levels text)) 200) h in
    let plain = (and_parts (is_text text) (is_plain text) fit.0).1 in
    let both = and_parts (not (contains_byte 43 text)) (not (contains_byte 35 text)) plain in
    are_plain (levels text) (levels_lack 43 text (not-true (contains_byte 43 text) both.0))
    (levels_lack 35 text (not-true (contains_byte 35 text) both.1))

hash_last : (ls : List (List ℕ)) → list_all (λ l. not (contains_byte 35 l)) (parents ls) ≡ true
    → HashLast ls
hash_last [] h = tt
hash_last (l ∷ []) h = tt
hash_last (l ∷ m ∷ ls) h =
    let more : length (l ∷ m ∷ ls) - 1 ≡ suc (length (m ∷ ls) - 1) = omega arith in
    let a = and_parts (not (contains_byte 35 l))
    (list_all (λ l. not (contains_byte 35 l)) (parents (m ∷ ls)))
    (ap (λ n. list_all (λ l. not (contains_byte 35 l)) (take n (l ∷ m ∷ ls))) (sym more) ∙ h) in
    (λ e. grind (arith, ap (contains_byte 35) e, a.0), hash_last (m ∷ ls) a.1)

-- a `#` stands last in a filter
pub filter_hash_last : (text : List ℕ) → is_filter text ≡ true → HashLast (levels text)
filter_hash_last text h =
    let fit = (and_parts (is_text text) (wildcards_fit (levels text))
    (and_parts (is_text text && wildcards_fit (levels text)) (nat_le (length (levels text)) 200)
    h).0).1 in
    hash_last (levels text) (and_parts (list_all is_level (levels text))
    (list_all (λ l. not (contains_byte 35 l)) (parents (levels text))) fit).1
