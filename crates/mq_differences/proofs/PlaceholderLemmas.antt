-- Placeholders.
use Rattle.std.proofs.Common.{◌≡◌, ℕ, Bool, true, false, ◌&&◌, ◌||◌, List, [], ◌∷◌, ◌++◌, refl, ap}
use Rattle.std.proofs.Common.{sym, ◌∙◌, bytes_eq, String, Global, string_bytes, Option, Some, None}
use Rattle.std.proofs.Common.{◌+◌, ◌<◌, length, take, get_or, Bor}
use Rattle.std.specs.List.{list_any}
use Rattle.std.specs.Option.{option_copied, unwrap_or}
use Rattle.std.proofs.lemmas.List.Folds.{list_any-append, list_any_more}
use Rattle.mq_topic.proofs.ByteLemmas.{text_is}
use Rattle.mq_witness.specs.Asked.{AskedRows}
use Rattle.mq_witness.specs.Ruled.{is_stand_in}
use Rattle.mq_acl.specs.declared.rules.Rules.{Rules}
use Rattle.mq_differences.specs.Differences.{has_text, is_part, is_user_part}

-- one more text, which is a placeholder
pub text_added : (texts : List (String Global)) (added : String Global) (text other : List ℕ)
    (asked : AskedRows) → string_bytes added ≡ text → is_stand_in asked text ≡ true
    → has_text (texts ++ added ∷ []) other
    ≡ (has_text texts other || (bytes_eq other text && is_stand_in asked other))
text_added texts added text other asked is made =
    list_any-append (λ t. bytes_eq other (string_bytes t)) texts (added ∷ [])
    ∙ ap (λ t. has_text texts other || (bytes_eq other t || false)) is
    ∙ ap (λ b. has_text texts other || b) (at (bytes_eq other text) refl)
  where
    at : (b : Bool) → bytes_eq other text ≡ b → (b || false) ≡ (b && is_stand_in asked other)
    at true e = sym made ∙ ap (is_stand_in asked) (sym (text_is other text e))
    at false e = refl

-- a text that is no placeholder
pub text_not : (texts : List (String Global)) (text other : List ℕ) (asked : AskedRows)
    → is_stand_in asked text ≡ false
    → has_text texts other
    ≡ (has_text texts other || (bytes_eq other text && is_stand_in asked other))
text_not texts text other asked not_made =
    at (bytes_eq other text) refl (has_text texts other)
  where
    at : (b : Bool) → bytes_eq other text ≡ b → (h : Bool)
        → h ≡ (h || (b && is_stand_in asked other))
    at b e true = refl
    at true e false = sym not_made ∙ ap (is_stand_in asked) (sym (text_is other text e))
    at false e false = refl

-- a text that is there
pub text_there : (texts : List (String Global)) (text other : List ℕ) (asked : AskedRows)
    → has_text texts text ≡ true
    → has_text texts other
    ≡ (has_text texts other || (bytes_eq other text && is_stand_in asked other))
text_there texts text other asked there =
    at (bytes_eq other text) refl (has_text texts other) refl
  where
    at : (b : Bool) → bytes_eq other text ≡ b → (h : Bool) → has_text texts other ≡ h
        → h ≡ (h || (b && is_stand_in asked other))
    at b e true f = refl
    at true e false f = absurd (let q : false ≡ true = sym f
        ∙ ap (has_text texts) (text_is other text e) ∙ there in cc)
    at false e false f = refl

-- ---- levels so far
pub none_first : (h m : Bool) → h ≡ (h || (false && m))
none_first true m = refl
none_first false m = refl

pub one_more : (text level : List ℕ) (ls : List (List ℕ)) (n : ℕ) (h m : Bool) → n < length ls
    → level ≡ get_or ls n level
    → ((h || (list_any (bytes_eq text) (take n ls) && m)) || (bytes_eq text level && m))
    ≡ (h || (list_any (bytes_eq text) (take (n + 1) ls) && m))
one_more text level ls n h m low is =
    four h (list_any (bytes_eq text) (take n ls)) (bytes_eq text level) m
    ∙ ap (λ b. h || (b && m))
    (ap (λ l. list_any (bytes_eq text) (take n ls) || bytes_eq text l) is
    ∙ sym (list_any_more (bytes_eq text) ls n level low))
  where
    four : (h a b m : Bool) → ((h || (a && m)) || (b && m)) ≡ (h || ((a || b) && m))
    four true a b m = refl
    four false true true true = refl
    four false true true false = refl
    four false true false true = refl
    four false true false false = refl
    four false false b m = refl

-- ---- the client id, the user name and the topic
pub all_shown : (rules : Rules) (text client : List ℕ) (user : Option (Bor (List ℕ)))
    (name client_ref : Bor (List ℕ)) (topic m : Bool) → name ≡ unwrap_or user client_ref
    → client_ref.now ≡ client
    → (((false || (is_part rules text client && m)) || (is_part rules text name.now && m))
    || (topic && m))
    ≡ ((is_part rules text client || is_user_part rules text (option_copied user) || topic) && m)
all_shown rules text client None name client_ref topic m e f =
    ap (λ t. ((false || (is_part rules text client && m)) || (is_part rules text t && m))
    || (topic && m)) (ap (λ (r : Bor (List ℕ)). r.now) e ∙ f)
    ∙ twice (is_part rules text client) topic m
  where
    twice : (a c m : Bool) → (((false || (a && m)) || (a && m)) || (c && m))
        ≡ ((a || false || c) && m)
    twice true true true = refl
    twice true true false = refl
    twice true false true = refl
    twice true false false = refl
    twice false c m = refl
all_shown rules text client (Some user) name client_ref topic m e f =
    ap (λ (r : Bor (List ℕ)). ((false || (is_part rules text client && m))
    || (is_part rules text r.now && m)) || (topic && m)) e
    ∙ three (is_part rules text client) (is_part rules text user.now) topic m
  where
    three : (a b c m : Bool) → (((false || (a && m)) || (b && m)) || (c && m))
        ≡ ((a || b || c) && m)
    three true true true true = refl
    three true true true false = refl
    three true true false true = refl
    three true true false false = refl
    three true false true true = refl
    three true false true false = refl
    three true false false true = refl
    three true false false false = refl
    three false true true true = refl
    three false true true false = refl
    three false true false true = refl
    three false true false false = refl
    three false false c m = refl
