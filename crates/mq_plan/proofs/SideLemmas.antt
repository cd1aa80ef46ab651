-- Sides without a fault are topic filters, but for their names.
use Rattle.std.proofs.Common.{◌≡◌, ◌==◌, ◌+◌, ◌<◌, ◌≤◌, ◌&&◌, ◌||◌, not, Bool, true, false}
use Rattle.std.proofs.Common.{cond, ℕ, List, []}
use Rattle.std.proofs.Common.{◌∷◌, length, map, Option, Some, None, refl, ap, sym, ◌∙◌}
use Rattle.std.proofs.Common.{arith}
use Rattle.std.specs.Prelude.{codes, nat_le, nat_lt, slice_get}
use Rattle.std.specs.List.{cons_option, enumerate_from, filter_map, list_all}
use Rattle.std.specs.Str.{bytes_eq}
use Rattle.std.proofs.lemmas.Bool.{and_from, and_parts, eqb-false, le-leb, lt-ltb, ltb-false}
use Rattle.std.proofs.lemmas.Bool.{ne_eqb, not-false, not-true, not_from_false, or_from, or_parts}
use Rattle.std.proofs.lemmas.List.{length-map}
use Rattle.std.proofs.lemmas.List.Splits.{join_with_byte-slice_split}
use Rattle.mq_topic.specs.Levels.{levels}
use Rattle.mq_topic.specs.Texts.{contains_byte, is_filter, is_level, is_text, parents}
use Rattle.mq_topic.specs.Texts.{wildcards_fit}
use Rattle.mq_topic.proofs.Walk.{levels-nonempty}
use Rattle.mq_rename.specs.Lists.{has_long, is_hash, is_long}
use Rattle.mq_rename.proofs.FitLemmas.{all_lack, levels_without, parents-cons}
use Rattle.mq_rename.proofs.JoinLemmas.{joined, joined_lacks, joined_short, joined_some}
use Rattle.mq_rename.proofs.JoinLemmas.{levels-joined}
use Rattle.mq_plan.specs.Sides.{begins_with_plus, first_level_fault, is_capture, is_fit}
use Rattle.mq_plan.specs.Sides.{is_long_side}
use Rattle.mq_plan.specs.Sides.{is_mark, level_fault, plain, plain_levels, plain_text, side_fault}
use Rattle.mq_plan.specs.declared.fault.Side.{Side}
use Rattle.mq_plan.specs.declared.fault.PlanKind.TheVariants as kinds

-- a list without a first element
pub none_first : {X : Type 0} (xs : List X) → slice_get xs 0 ≡ None → xs ≡ []
none_first [] e = refl
none_first (x ∷ xs) e = absurd (cc)

-- nothing is made of the first, nor of the others
pub none_made : {X : Type 0} (o : Option X) (xs : List X) → cons_option o xs ≡ []
    → (o ≡ None) × (xs ≡ [])
none_made None xs e = (refl, e)
none_made (Some x) xs e = absurd (cc)

-- one that isn't chosen
pub other : {X : Type 0} (b : Bool) (x : X) (rest : Option X) → cond b (Some x) rest ≡ None
    → (b ≡ false) × (rest ≡ None)
other true x rest e = absurd (cc)
other false x rest e = (refl, e)

-- a level without a fault
level_fits : (side : Side) (n k : ℕ) (l : List ℕ) → level_fault side n (k, l) ≡ None
    → is_fit (k + 1 == n) l ≡ true
level_fits side n k l e =
    let capture = other (begins_with_plus l && not (is_capture l)) (kinds.Capture side k) _ e in
    let mark = other (is_mark l) (kinds.Mark side k) _ capture.1 in
    let fit = other (not (is_fit (k + 1 == n) l)) (kinds.Side side k) None mark.1 in
    not-false (is_fit (k + 1 == n) l) fit.0

-- what is known of a level of a filter, the last one or another
record IsLevel (last : Bool) (l : List ℕ) : Type 0 where
  nul : contains_byte 0 l ≡ false
  slash : contains_byte 47 l ≡ false
  level : is_level l ≡ true
  hash : last ≡ false → contains_byte 35 l ≡ false
  short : is_long l ≡ false

hash_or : (c last h : Bool) → (not c || (last && h)) ≡ true → (not c || h) ≡ true
hash_or false last h e = refl
hash_or true last h e = (and_parts last h e).1

no_hash : (c last h : Bool) → (not c || (last && h)) ≡ true → last ≡ false → c ≡ false
no_hash false last h e n = refl
no_hash true true h e n = absurd (cc)
no_hash true false h e n = absurd (let k : false ≡ true = e in cc)

off : (b c : Bool) → (b || c) ≡ true → b ≡ false → c ≡ true
off true c e n = absurd (cc)
off false c e n = e

on_left : (b c : Bool) → b ≡ true → (b || c) ≡ true
on_left true c e = refl
on_left false c e = absurd (cc)

plain_level : (last : Bool) (l : List ℕ) → is_fit last l ≡ true → contains_byte 47 l ≡ false
    → is_long l ≡ false → IsLevel last (plain l)
plain_level last l fit slash short = at (begins_with_plus l) refl
  where
    at : (b : Bool) → begins_with_plus l ≡ b → IsLevel last (cond b (codes "+") l)
    at true e = record { nul = refl; slash = refl; level = refl; hash = λ _. refl; short = refl }
    at false e =
        let nul = not (contains_byte 0 l) in
        let plus = begins_with_plus l || not (contains_byte 43 l) in
        let hash = not (contains_byte 35 l) || (last && is_hash l) in
        let two = and_parts (nul && plus) hash fit in
        let one = and_parts nul plus two.0 in
        record {
          nul = not-true (contains_byte 0 l) one.0;
          slash = slash;
          level = and_from (not (contains_byte 43 l) || bytes_eq l (codes "+"))
              (not (contains_byte 35 l) || bytes_eq l (codes "#"))
              (on_left (not (contains_byte 43 l)) (bytes_eq l (codes "+"))
              (off (begins_with_plus l) (not (contains_byte 43 l)) one.1 e))
              (hash_or (contains_byte 35 l) last (is_hash l) two.1);
          hash = no_hash (contains_byte 35 l) last (is_hash l) two.1;
          short = short;
        }

-- levels that a topic filter may have
pub record AreFit (ls : List (List ℕ)) : Type 0 where
  pub nul : all_lack 0 ls ≡ true
  pub slash : all_lack 47 ls ≡ true
  pub level : list_all is_level ls ≡ true
  pub hash : all_lack 35 (parents ls) ≡ true
  pub short : has_long ls ≡ false

-- one more in front
hash_on : (last : Bool) (l : List ℕ) (ms : List (List ℕ)) → (0 < length ms → last ≡ false)
    → IsLevel last l → all_lack 35 (parents ms) ≡ true → all_lack 35 (parents (l ∷ ms)) ≡ true
hash_on last l [] inner is more = refl
hash_on last l (m ∷ ms) inner is more =
    ap (all_lack 35) (parents-cons l m ms)
    ∙ and_from (not (contains_byte 35 l)) (all_lack 35 (parents (m ∷ ms)))
    (not_from_false (contains_byte 35 l) (is.hash (inner (omega arith)))) more

fit_on : (last : Bool) (l : List ℕ) (ms : List (List ℕ)) → (0 < length ms → last ≡ false)
    → IsLevel last l → AreFit ms → AreFit (l ∷ ms)
fit_on last l ms inner is are = record {
  nul = and_from (not (contains_byte 0 l)) (all_lack 0 ms)
      (not_from_false (contains_byte 0 l) is.nul) are.nul;
  slash = and_from (not (contains_byte 47 l)) (all_lack 47 ms)
      (not_from_false (contains_byte 47 l) is.slash) are.slash;
  level = and_from (is_level l) (list_all is_level ms) is.level are.level;
  hash = hash_on last l ms inner is are.hash;
  short = or_from (is_long l) (has_long ms) is.short are.short;
}

levels_fit : (side : Side) (n k : ℕ) (ls : List (List ℕ)) → k + length ls ≡ n
    → filter_map (level_fault side n) (enumerate_from k ls) ≡ [] → all_lack 47 ls ≡ true
    → has_long ls ≡ false → AreFit (map plain ls)
levels_fit side n k [] count none slash short =
    record { nul = refl; slash = refl; level = refl; hash = refl; short = refl }
levels_fit side n k (l ∷ ls) count none slash short =
    let made = none_made (level_fault side n (k, l))
    (filter_map (level_fault side n) (enumerate_from (k + 1) ls)) none in
    let slashes = and_parts (not (contains_byte 47 l)) (all_lack 47 ls) slash in
    let shorts = or_parts (is_long l) (has_long ls) short in
    fit_on (k + 1 == n) (plain l) (map plain ls)
    (λ more. ne_eqb (k + 1) n (λ e. let size = length-map ls plain in omega (arith, size, e)))
    (plain_level (k + 1 == n) l (level_fits side n k l made.0)
    (not-true (contains_byte 47 l) slashes.0) shorts.0)
    (levels_fit side n (k + 1) ls (omega arith) made.1 slashes.1 shorts.1)

-- what is known of a side without a fault
pub record IsSide (text : List ℕ) : Type 0 where
  pub some : 0 < length text
  pub few : length (levels text) ≤ 200
  pub fit : AreFit (plain_levels text)

pub side_is : (side : Side) (text : List ℕ) → side_fault side text ≡ None → IsSide text
side_is side text e =
    let ls = levels text in
    let some = other (length text == 0) (kinds.Missing side) _ e in
    let long = other (is_long_side ls) (kinds.Long side) (first_level_fault side ls) some.1 in
    let sizes = or_parts (nat_lt 200 (length ls)) (has_long ls) long.0 in
    record {
      some = (let not_none = eqb-false (length text) 0 some.0 in omega arith);
      few = ltb-false 200 (length ls) sizes.0;
      fit = levels_fit side (length ls) 0 ls (omega arith) (none_first _ long.1)
          (levels_without text) sizes.1;
    }

-- the levels of its filter
pub levels-plain : (text : List ℕ) → IsSide text → levels (plain_text text) ≡ plain_levels text
levels-plain text is = at (levels text) refl is.fit
  where
    at : (ls : List (List ℕ)) → levels text ≡ ls → AreFit (map plain ls)
        → levels (joined (map plain ls)) ≡ map plain ls
    at [] e are = absurd (let some = levels-nonempty text in let none = ap length e in omega arith)
    at (l ∷ ls) e are = levels-joined (plain l) (map plain ls) are.slash

plain_some : (l : List ℕ) → 0 < length l → 0 < length (plain l)
plain_some l h = at (begins_with_plus l)
  where
    at : (b : Bool) → 0 < length (cond b (codes "+") l)
    at true = omega arith
    at false = h

text_some : (text : List ℕ) → 0 < length text → 0 < length (plain_text text)
text_some text h = at (levels text) refl
  where
    at : (ls : List (List ℕ)) → levels text ≡ ls → 0 < length (joined (map plain ls))
    at [] e = absurd (let some = levels-nonempty text in let none = ap length e in omega arith)
    at (l ∷ []) e =
        let whole : text ≡ l = sym (join_with_byte-slice_split 47 text) ∙ ap joined e in
        plain_some l (let same = ap length whole in omega arith)
    at (l ∷ m ∷ ms) e = joined_some (plain l) (plain m) (map plain ms)

pub plain_is_filter : (text : List ℕ) → IsSide text → is_filter (plain_text text) ≡ true
plain_is_filter text is =
    let whole = plain_text text in
    let are = levels-plain text is in
    let size = length-map (levels text) plain in
    let few = is.few in
    let short = joined_short (plain_levels text) is.fit.short in
    and_from (is_text whole && wildcards_fit (levels whole)) (nat_le (length (levels whole)) 200)
    (and_from (is_text whole) (wildcards_fit (levels whole))
    (and_from (nat_lt 0 (length whole) && nat_le (length whole) 65535) (not (contains_byte 0 whole))
    (and_from (nat_lt 0 (length whole)) (nat_le (length whole) 65535)
    (lt-ltb 0 (length whole) (text_some text is.some)) (le-leb (length whole) 65535 (omega arith)))
    (not_from_false (contains_byte 0 whole) (joined_lacks 0 (plain_levels text) refl is.fit.nul)))
    (ap wildcards_fit are
    ∙ and_from (list_all is_level (plain_levels text)) (all_lack 35 (parents (plain_levels text)))
    is.fit.level is.fit.hash))
    (le-leb (length (levels whole)) 200 (let same = ap length are in omega arith))
