-- The texts of levels that stand for those of a name are names.
use Rattle.std.proofs.Common.{◌≡◌, ◌<◌, ◌≤◌, ◌==◌, ◌*◌, ℕ, true, false, not, List, ◌∷◌, length}
use Rattle.std.proofs.Common.{refl, ap, sym, ◌∙◌, arith, length-append, Option}
use Rattle.std.specs.Prelude.{nat_le}
use Rattle.std.proofs.lemmas.Bool.{and_parts, and_from, not-true, not_from_false, le-leb, lt-ltb}
use Rattle.std.proofs.lemmas.List.Splits.{join_with_byte-slice_split}
use Rattle.mq_topic.specs.Levels.{levels}
use Rattle.mq_topic.specs.Texts.{contains_byte, is_name, is_plain, is_text}
use Rattle.mq_topic.proofs.TextLemmas.{levels_lack}
use Rattle.mq_topic.proofs.Walk.{levels-nonempty}
use Rattle.mq_rename.proofs.FitLemmas.{all_lack, levels_without}
use Rattle.mq_rename.proofs.JoinLemmas.{joined, joined_lacks, joined_some, levels-joined}
use Rattle.mq_rename.proofs.ReachLemmas.{name_few, name_some}
use Rattle.mq_regions.proofs.ReadLemmas.{Pairwise, ends, pair}
use Rattle.mq_regions.proofs.StandLemmas.{Stands, AtUser, AtClient, Own, short_lacks, short_size}
use Rattle.mq_regions.proofs.StandLemmas.{short_some}

-- ---- names
-- no level of a name has a byte that no name has
pub record IsNameText (n : List ℕ) : Type 0 where
  pub nul : all_lack 0 (levels n) ≡ true
  pub slash : all_lack 47 (levels n) ≡ true
  pub plus : all_lack 43 (levels n) ≡ true
  pub hash : all_lack 35 (levels n) ≡ true

pub name_text : (n : List ℕ) → is_name n ≡ true → IsNameText n
name_text n h =
    let both = and_parts (is_text n) (is_plain n) (and_parts _ _ h).0 in
    let plain = and_parts (not (contains_byte 43 n)) _ both.1 in
    record {
      nul = levels_lack 0 n (not-true _ (and_parts _ (not (contains_byte 0 n)) both.0).1);
      slash = levels_without n;
      plus = levels_lack 43 n (not-true _ plain.0);
      hash = levels_lack 35 n (not-true _ plain.1);
    }

-- ---- what stands for the levels of a name
-- the byte is none of those that stand for others
record IsApart (b : ℕ) : Type 0 where
  pub percent : (37 == b) ≡ false
  pub small_c : (99 == b) ≡ false
  pub small_u : (117 == b) ≡ false
  pub small_a : (97 == b) ≡ false

module _ {x : List ℕ} {u : Option (List ℕ)} where
  stands_lacks : (b : ℕ) {k l : List ℕ} → IsApart b → Stands x u k l
      → not (contains_byte b l) ≡ true → not (contains_byte b k) ≡ true
  stands_lacks b is (AtUser e f) h = grind (arith)
  stands_lacks b is (AtClient e f) h = grind (arith)
  stands_lacks b {l = l} is (Own e) h = grind (arith, short_lacks, not-true)

  stands_size : {k l : List ℕ} → Stands x u k l → length k ≤ 301
  stands_size (AtUser e f) = omega (arith, ap length e)
  stands_size (AtClient e f) = omega (arith, ap length e)
  stands_size {l = l} (Own e) = omega (arith, ap length e, short_size l)

  stands_some : {k l : List ℕ} → Stands x u k l → 0 < length l → 0 < length k
  stands_some (AtUser e f) h = omega (arith, ap length e)
  stands_some (AtClient e f) h = omega (arith, ap length e)
  stands_some {l = l} (Own e) h = omega (arith, ap length e, short_some l h)

  all_lack_too : (b : ℕ) {ks ls : List (List ℕ)} → IsApart b → Pairwise (Stands x u) ks ls
      → all_lack b ls ≡ true → all_lack b ks ≡ true
  all_lack_too b is ends h = refl
  all_lack_too b is (pair r s) h =
      let both = and_parts _ _ h in
      and_from _ _ (stands_lacks b is r both.0) (all_lack_too b is s both.1)

  count : {ks ls : List (List ℕ)} → Pairwise (Stands x u) ks ls → length ks ≡ length ls
  count ends = refl
  count (pair r s) = omega (arith, count s)

  joined_size : {ks ls : List (List ℕ)} → Pairwise (Stands x u) ks ls
      → length (joined ks) ≤ 302 * length ks
  joined_size ends = omega arith
  joined_size (pair r ends) = omega (arith, stands_size r)
  joined_size (pair {k} r (pair {k = j} {ks = ks} q s)) =
      omega (arith, stands_size r, joined_size (pair q s), length-append k (47 ∷ joined (j ∷ ks)))

  some_joined : (n : List ℕ) {ks ls : List (List ℕ)} → levels n ≡ ls → 0 < length n
      → Pairwise (Stands x u) ks ls → 0 < length (joined ks)
  some_joined n e h ends = absurd (omega (arith, levels-nonempty n, ap length e))
  some_joined n e h (pair {k} r (pair {k = j} {ks = ks} q s)) = joined_some k j ks
  some_joined n e h (pair r ends) =
      let text = sym (join_with_byte-slice_split 47 n) ∙ ap joined e in
      stands_some r (omega (arith, ap length text))

  levels_are : {ks ls : List (List ℕ)} → 0 < length ls → Pairwise (Stands x u) ks ls
      → all_lack 47 ks ≡ true → levels (joined ks) ≡ ks
  levels_are h ends f = absurd (omega arith)
  levels_are h (pair {k} {ks = ks} r s) f = levels-joined k ks f

-- they are those of a name
pub record IsNamed (ks : List (List ℕ)) : Type 0 where
  pub name : is_name (joined ks) ≡ true
  pub are : levels (joined ks) ≡ ks

pub stands_named : (x : List ℕ) (u : Option (List ℕ)) (n : List ℕ) (ks : List (List ℕ))
    → is_name n ≡ true → Pairwise (Stands x u) ks (levels n) → IsNamed ks
stands_named x u n ks h s =
    let has = name_text n h in
    let apart : (b : ℕ) → (37 == b) ≡ false → (99 == b) ≡ false → (117 == b) ≡ false
    → (97 == b) ≡ false → IsApart b =
    λ b p c u a. record { percent = p; small_c = c; small_u = u; small_a = a } in
    let lacks : (b : ℕ) → (47 == b) ≡ false → all_lack b ks ≡ true
    → not (contains_byte b (joined ks)) ≡ true =
    λ b e k. not_from_false _ (joined_lacks b ks e k) in
    let nul = all_lack_too 0 (apart 0 refl refl refl refl) s has.nul in
    let slash = all_lack_too 47 (apart 47 refl refl refl refl) s has.slash in
    let plus = all_lack_too 43 (apart 43 refl refl refl refl) s has.plus in
    let hash = all_lack_too 35 (apart 35 refl refl refl refl) s has.hash in
    let are = levels_are (levels-nonempty n) s slash in
    let size = joined_size s in
    let same = count s in
    let few = name_few n h in
    record {
      name = and_from _ _ (and_from _ _ (and_from _ _ (and_from _ _
          (lt-ltb 0 _ (some_joined n refl (name_some n h) s)) (le-leb _ 65535 (omega arith)))
          (lacks 0 refl nul)) (and_from _ _ (lacks 43 refl plus) (lacks 35 refl hash)))
          (ap (λ ls. nat_le (length ls) 200) are ∙ le-leb (length ks) 200 (omega arith));
      are = are;
    }
