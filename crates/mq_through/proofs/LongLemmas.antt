-- Texts that are longer than any that is named.
use Rattle.std.proofs.Common.{◌≡◌, ◌<◌, ◌≤◌, ◌==◌, ℕ, zero, suc, Bool, true, false, not, ◌&&◌}
use Rattle.std.proofs.Common.{◌||◌, List, ◌∷◌, length, refl, ap, sym, ◌∙◌}
use Rattle.std.proofs.Common.{arith, replicate}
use Rattle.std.specs.Prelude.{nat_le, nat_lt}
use Rattle.std.specs.Str.{bytes_eq}
use Rattle.std.proofs.lemmas.Bool.{and_from, le-leb, lt-ltb, not_from_false, or_from}
use Rattle.std.proofs.lemmas.List.{length-replicate}
use Rattle.mq_topic.specs.Texts.{contains_byte, is_text}
use Rattle.mq_topic.proofs.ByteLemmas.{text_is, text_itself}
use Rattle.mq_acl.specs.Access.{begins_with_dollar}
use Rattle.mq_cover.specs.Names.{can_be_level}

pub no_byte : (b n : ℕ) → (120 == b) ≡ false → contains_byte b (replicate n 120) ≡ false
no_byte b zero h = refl
no_byte b (suc n) h = or_from (120 == b) (contains_byte b (replicate n 120)) h (no_byte b n h)

abbrev pub tail : List ℕ
tail = replicate 301 120

abbrev pub other : Bool → List ℕ
other true = 36 ∷ tail
other false = 120 ∷ tail

abbrev pub other_user : Bool → List ℕ
other_user true = 36 ∷ 117 ∷ tail
other_user false = 117 ∷ tail

level_front : (x : ℕ) (text : List ℕ) → can_be_level text ≡ true
    → (x == 43) ≡ false → (x == 35) ≡ false → (x == 0) ≡ false → (x == 47) ≡ false
    → can_be_level (x ∷ text) ≡ true
level_front x text h p q r s =
    (λ i. not (p i || contains_byte 43 text) && not (q i || contains_byte 35 text)
    && not (r i || contains_byte 0 text) && not (s i || contains_byte 47 text)) ∙ h

tail_level : can_be_level tail ≡ true
tail_level =
    (λ i. not (no_byte 43 301 refl i) && not (no_byte 35 301 refl i)
    && not (no_byte 0 301 refl i) && not (no_byte 47 301 refl i))

pub other_level : (b : Bool) → can_be_level (other b) ≡ true
other_level true = level_front 36 tail tail_level refl refl refl refl
other_level false = level_front 120 tail tail_level refl refl refl refl

pub user_level : (b : Bool) → can_be_level (other_user b) ≡ true
user_level true = level_front 36 (117 ∷ tail)
    (level_front 117 tail tail_level refl refl refl refl) refl refl refl refl
user_level false = level_front 117 tail tail_level refl refl refl refl

pub tail_size : length tail ≡ 301
tail_size = length-replicate {A = ℕ} 301 120

pub other_size : (b : Bool) → length (other b) ≡ 302
other_size true = ap suc tail_size
other_size false = ap suc tail_size

-- a user name is one byte or two longer
pub user_sizes : (b : Bool) → (302 ≤ length (other_user b)) × (length (other_user b) ≤ 303)
user_sizes true = let e = tail_size in (omega arith, omega arith)
user_sizes false = let e = tail_size in (omega arith, omega arith)

pub other_begins : (b : Bool) → begins_with_dollar (other b) ≡ b
other_begins true = refl
other_begins false = refl

pub user_begins : (b : Bool) → begins_with_dollar (other_user b) ≡ b
user_begins true = refl
user_begins false = refl

pub apart_user : (a b : Bool) → bytes_eq (other a) (other_user b) ≡ false
apart_user true true = refl
apart_user true false = refl
apart_user false true = refl
apart_user false false = refl

-- texts of other lengths are not the same
pub unlike : (a b : List ℕ) → length a < length b → bytes_eq a b ≡ false
unlike a b h = at (bytes_eq a b) refl
  where
    at : (t : Bool) → bytes_eq a b ≡ t → t ≡ false
    at true e = absurd (let q = ap length (text_is a b e) in omega arith)
    at false e = refl

pub swapped : (a b : List ℕ) → bytes_eq a b ≡ false → bytes_eq b a ≡ false
swapped a b h = at (bytes_eq b a) refl
  where
    at : (t : Bool) → bytes_eq b a ≡ t → t ≡ false
    at true e = absurd (let q : true ≡ false =
        sym (ap (λ t. bytes_eq t b) (sym (text_is b a e)) ∙ text_itself b) ∙ h in cc)
    at false e = refl

-- a long user name is one that a broker can have
id_front : (x : ℕ) (n : ℕ) → (x == 0) ≡ false → n ≤ 400
    → is_text (x ∷ replicate n 120) ≡ true
id_front x n h k =
    let size : length {A = ℕ} (replicate n 120) ≡ n = length-replicate {A = ℕ} n 120 in
    and_from (nat_lt 0 (length (x ∷ replicate n 120))
    && nat_le (length (x ∷ replicate n 120)) 65535)
    (not (contains_byte 0 (x ∷ replicate n 120)))
    (and_from (nat_lt 0 (length (x ∷ replicate n 120)))
    (nat_le (length (x ∷ replicate n 120)) 65535)
    (lt-ltb 0 (length (x ∷ replicate n 120)) (omega arith))
    (le-leb (length (x ∷ replicate n 120)) 65535 (omega arith)))
    (not_from_false (contains_byte 0 (x ∷ replicate n 120))
    (or_from (x == 0) (contains_byte 0 (replicate n 120)) h (no_byte 0 n refl)))

pub user_is_id : (b : Bool) → is_text (other_user b) ≡ true
user_is_id true =
    let size = tail_size in
    and_from (nat_lt 0 (length (other_user true)) && nat_le (length (other_user true)) 65535)
    (not (contains_byte 0 (other_user true)))
    (and_from (nat_lt 0 (length (other_user true))) (nat_le (length (other_user true)) 65535)
    (lt-ltb 0 (length (other_user true)) (omega arith))
    (le-leb (length (other_user true)) 65535 (omega arith)))
    (not_from_false (contains_byte 0 (other_user true)) (no_byte 0 301 refl))
user_is_id false = id_front 117 301 refl (omega arith)
