-- Texts that are made to be named by no row.
use Rattle.std.specs.Prelude.{◌≡◌, ◌≤◌, ◌<◌, ℕ, Bool, true, false, List, [], ◌∷◌, ◌++◌, length, codes}
use Rattle.std.specs.Prelude.{string_bytes, ◌&&◌, not, nat_le, replicate}
use Rattle.mq_topic.specs.Texts.{contains_byte, is_plain}
use Rattle.mq_witness.specs.declared.fresh.Fresh.{Fresh}
use Rattle.mq_witness.specs.declared.texts.FreshTexts.{FreshTexts}

-- a text that a few bytes can be added to
abbrev pub is_base : List ℕ → Bool
is_base base = is_plain base && not (contains_byte 0 base) && not (contains_byte 47 base)
    && nat_le (length base) 20

-- a base, and as many `x` behind it
pub record IsPadded (base text : List ℕ) : Type 0 where
  pub count : ℕ
  pub few : count ≤ 301
  pub is : text ≡ base ++ replicate count 120

-- no longer than 300 bytes
abbrev pub AreShort : (List ℕ → Bool) → Type 0
AreShort named = (text : List ℕ) → named text ≡ true → length text ≤ 300

-- a text that is made of a base, and is not named, unless longer ones are
pub record IsNew (base : List ℕ) (named : List ℕ → Bool) (text : List ℕ) : Type 0 where
  pub made : IsPadded base text
  pub unnamed : AreShort named → named text ≡ false

-- what the ids are made of
abbrev pub client_base : Bool → List ℕ
client_base true = codes "$client"
client_base false = codes "client"

abbrev pub user_base : Bool → List ℕ
user_base true = codes "$user"
user_base false = codes "user"

pub record AreNew (kind : Bool) (t : FreshTexts) (named : List ℕ → Bool) : Type 0 where
  pub plain : IsNew (codes "x") named (string_bytes t.plain)
  pub dollar : IsNew (codes "$x") named (string_bytes t.dollar)
  pub client : IsNew (client_base kind) named (string_bytes t.client)
  pub user : IsNew (user_base kind) named (string_bytes t.user)

-- a text that is made of a base, and longer than any of at most 300 bytes
pub record IsLong (base text : List ℕ) : Type 0 where
  pub made : IsPadded base text
  pub long : 300 < length text

-- whatever is named, none of these is, unless longer texts are
abbrev pub AreLonger : FreshTexts → Type 0
AreLonger t = (named : List ℕ → Bool) → AreNew false t named

pub record IsSeen (t : FreshTexts) (f : Fresh) : Type 0 where
  pub plain : f.others.plain.now ≡ string_bytes t.plain
  pub dollar : f.others.dollar.now ≡ string_bytes t.dollar
  pub client : f.client.now ≡ string_bytes t.client
  pub user : f.user.now ≡ string_bytes t.user

-- all of them
abbrev pub fresh_texts : FreshTexts → List (List ℕ)
fresh_texts t =
    string_bytes t.plain ∷ string_bytes t.dollar ∷ string_bytes t.client ∷ string_bytes t.user ∷ []
