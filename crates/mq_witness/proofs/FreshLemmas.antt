-- Texts that are made to be named by no row.
use Rattle.std.proofs.Common.{◌≡◌, ℕ, ◌==◌, Bool, true, false, not, ◌&&◌, ◌||◌, List, ◌++◌, length}
use Rattle.std.proofs.Common.{codes, bytes_eq, refl, ap, sym, ◌∙◌, arith, ◌+◌, ◌<◌, ◌≤◌, replicate}
use Rattle.std.proofs.Common.{zero, suc, length-append, append_assoc, subst, string_bytes, ◌∷◌, []}
use Rattle.std.specs.List.{list_any}
use Rattle.std.proofs.lemmas.List.{length-replicate, replicate_more}
use Rattle.std.proofs.lemmas.List.Folds.{list_any-append}
use Rattle.std.proofs.lemmas.Bool.{and_from, false_from_ne_true, not-true, leb-true, le-leb}
use Rattle.std.proofs.Math.Dec.{eqb-suc-zero}
use Rattle.mq_topic.proofs.ByteLemmas.{text_is, text_itself}
use Rattle.mq_topic.specs.Levels.{levels}
use Rattle.mq_topic.specs.Texts.{contains_byte}
use Rattle.mq_acl.specs.Access.{begins_with_dollar}
use Rattle.mq_acl.specs.Refused.{state_filter}
use Rattle.mq_acl.proofs.RefusedLemmas.{other_own, other_shared, state_levels}
use Rattle.mq_cover.specs.Names.{fits_start, is_name_level, is_choice}
use Rattle.mq_cover.specs.Remainders.{fits}
use Rattle.mq_cover.specs.declared.start.Start.TheVariants.{Writable}
use Rattle.mq_witness.specs.Fresh.{is_literal, AreFresh, fresh_pass}
use Rattle.mq_witness.specs.FreshTexts.{is_base, AreNew, AreShort, IsLong, IsNew, IsPadded, IsSeen}
use Rattle.mq_witness.specs.FreshTexts.{client_base, user_base, fresh_texts}
use Rattle.mq_witness.specs.declared.fresh.Fresh.{Fresh}
use Rattle.mq_witness.specs.declared.texts.FreshTexts.{FreshTexts}

many_lack : (b n : ℕ) → (120 == b) ≡ false → contains_byte b (replicate n 120) ≡ false
many_lack b zero h = refl
many_lack b (suc n) h = (λ i. h i || many_lack b n h i)

made_lacks : (b : ℕ) (base text : List ℕ) → (120 == b) ≡ false → not (contains_byte b base) ≡ true
    → IsPadded base text → not (contains_byte b text) ≡ true
made_lacks b base text n h m = grind (arith, list_any-append, many_lack)

made_level : (base text : List ℕ) → is_base base ≡ true → IsPadded base text
    → is_name_level text ≡ true
made_level base text h m =
    let size = ap length m.is ∙ length-append base (replicate m.count 120)
    ∙ ap (λ n. length base + n) (length-replicate m.count 120) in
    grind (arith, made_lacks, leb-true, le-leb, size)

-- texts of bases that differ at the front differ
made_apart : (a b s t : List ℕ) → ((x y : List ℕ) → bytes_eq (a ++ x) (b ++ y) ≡ false)
    → IsPadded a s
    → IsPadded b t → not (bytes_eq s t) ≡ true
made_apart a b s t h m n =
    ap not ((λ i. bytes_eq (m.is i) (n.is i)) ∙ h (replicate m.count 120) (replicate n.count 120))

-- one more `x` behind a base
pub padded_more : (base : List ℕ) (n : ℕ)
    → (base ++ replicate n 120) ++ 120 ∷ [] ≡ base ++ replicate (n + 1) 120
padded_more base n = append_assoc base (replicate n 120) (120 ∷ [])
    ∙ ap (λ t. base ++ t) (replicate_more n 120)

-- a text that is longer than what is named isn't named
pub too_long : (named : Bool) (n : ℕ) → (named ≡ true → n ≤ 300) → 300 < n → named ≡ false
too_long true n f h = absurd (let g = f refl in omega arith)
too_long false n f h = refl

-- a text that is longer than any of at most 300 bytes is new, whatever is named
pub long_is_new : (base text : List ℕ) → IsLong base text → (named : List ℕ → Bool)
    → IsNew base named text
long_is_new base text long named = record {
  made = long.made;
  unnamed = λ short. too_long (named text) (length text) (short text) long.long;
}

-- each of the texts that stand for others is made of a base of its own
pub record AreMade (d : Bool) (f : Fresh) : Type 0 where
  pub plain : IsPadded (codes "x") f.others.plain.now
  pub dollar : IsPadded (codes "$x") f.others.dollar.now
  pub client : IsPadded (client_base d) f.client.now
  pub user : IsPadded (user_base d) f.user.now

module _ (d : Bool) (f : Fresh) (made : AreMade d f) where
  choice : (base text : List ℕ) → is_base base ≡ true
      → ((x y : List ℕ) → bytes_eq (base ++ x) (codes "x" ++ y) ≡ false)
      → ((x y : List ℕ) → bytes_eq (base ++ x) (codes "$x" ++ y) ≡ false)
      → IsPadded base text → is_choice f.others text ≡ true
  choice base text h s t m =
      rw (
        made_level base text h m,
        made_apart base (codes "x") text f.others.plain.now s m made.plain,
        made_apart base (codes "$x") text f.others.dollar.now t m made.dollar,
      ) refl

-- an id that is made of a base that is neither empty nor that of a level
record IsIdBase (base : List ℕ) : Type 0 where
  pub fits : is_base base ≡ true
  pub plain : (x y : List ℕ) → bytes_eq (base ++ x) (codes "x" ++ y) ≡ false
  pub dollar : (x y : List ℕ) → bytes_eq (base ++ x) (codes "$x" ++ y) ≡ false
  pub some : (x : List ℕ) → (length (base ++ x) == 0) ≡ false

id_base : (b : ℕ) (rest : List ℕ) → is_base (b ∷ rest) ≡ true
    → ((x y : List ℕ) → bytes_eq (b ∷ rest ++ x) (codes "x" ++ y) ≡ false)
    → ((x y : List ℕ) → bytes_eq (b ∷ rest ++ x) (codes "$x" ++ y) ≡ false) → IsIdBase (b ∷ rest)
id_base b rest fits plain dollar = grind (arith, eqb-suc-zero)

client_is_base : (d : Bool) → IsIdBase (client_base d)
client_is_base true = id_base 36 (codes "client") refl (λ x y. refl) (λ x y. refl)
client_is_base false = id_base 99 (codes "lient") refl (λ x y. refl) (λ x y. refl)

user_is_base : (d : Bool) → IsIdBase (user_base d)
user_is_base true = id_base 36 (codes "user") refl (λ x y. refl) (λ x y. refl)
user_is_base false = id_base 117 (codes "ser") refl (λ x y. refl) (λ x y. refl)

bases_apart : (d : Bool) (x y : List ℕ) → bytes_eq (user_base d ++ x) (client_base d ++ y) ≡ false
bases_apart true x y = refl
bases_apart false x y = refl

-- both begin with `$`, or neither does
pub client_begins : (d : Bool) (text : List ℕ) → IsPadded (client_base d) text
    → begins_with_dollar text ≡ d
client_begins true text m = ap begins_with_dollar m.is
client_begins false text m = ap begins_with_dollar m.is

user_begins : (d : Bool) (text : List ℕ) → IsPadded (user_base d) text
    → begins_with_dollar text ≡ d
user_begins true text m = ap begins_with_dollar m.is
user_begins false text m = ap begins_with_dollar m.is

made_some : (base text : List ℕ) → IsIdBase base → IsPadded base text
    → (length text == 0) ≡ false
made_some base text b m = ap (λ t. length t == 0) m.is ∙ b.some (replicate m.count 120)

-- and both begin as no name that the broker refuses does, or neither
writable_text : (b : ℕ) (more : List ℕ) → (115 == b) ≡ false → (83 == b) ≡ false
    → fits_start Writable (36 ∷ (b ∷ more)) ≡ true
writable_text b more e f = and_from _ _ refl
    (and_from _ _ (ap not (other_shared b more e)) (ap not (other_own b more f)))

pub client_front : (d : Bool) (text : List ℕ) → IsPadded (client_base d) text
    → fits_start Writable text ≡ d
client_front true text m =
    ap (fits_start Writable) m.is ∙ writable_text 99 (codes "lient" ++ replicate m.count 120) refl refl
client_front false text m = ap (fits_start Writable) m.is

user_front : (d : Bool) (text : List ℕ) → IsPadded (user_base d) text
    → fits_start Writable text ≡ d
user_front true text m =
    ap (fits_start Writable) m.is ∙ writable_text 117 (codes "ser" ++ replicate m.count 120) refl refl
user_front false text m = ap (fits_start Writable) m.is

-- ---- a word that begins as none of the bases does
record IsWord (w : List ℕ) : Type 0 where
  pub level : is_name_level w ≡ true
  pub plain : (y : List ℕ) → bytes_eq w (codes "x" ++ y) ≡ false
  pub dollar : (y : List ℕ) → bytes_eq w (codes "$x" ++ y) ≡ false
  pub client : (d : Bool) (y : List ℕ) → bytes_eq w (client_base d ++ y) ≡ false
  pub user : (d : Bool) (y : List ℕ) → bytes_eq w (user_base d ++ y) ≡ false

either : (P : Bool → Type 0) → P true → P false → (d : Bool) → P d
either P t f true = t
either P t f false = f

own_is_word : IsWord (codes "$SYS")
own_is_word = record {
  level = refl;
  plain = λ y. refl;
  dollar = λ y. refl;
  client = either (λ d. (y : List ℕ) → bytes_eq (codes "$SYS") (client_base d ++ y) ≡ false)
      (λ y. refl) (λ y. refl);
  user = either (λ d. (y : List ℕ) → bytes_eq (codes "$SYS") (user_base d ++ y) ≡ false)
      (λ y. refl) (λ y. refl);
}

broker_is_word : IsWord (codes "broker")
broker_is_word = record {
  level = refl;
  plain = λ y. refl;
  dollar = λ y. refl;
  client = either (λ d. (y : List ℕ) → bytes_eq (codes "broker") (client_base d ++ y) ≡ false)
      (λ y. refl) (λ y. refl);
  user = either (λ d. (y : List ℕ) → bytes_eq (codes "broker") (user_base d ++ y) ≡ false)
      (λ y. refl) (λ y. refl);
}

connection_is_word : IsWord (codes "connection")
connection_is_word = record {
  level = refl;
  plain = λ y. refl;
  dollar = λ y. refl;
  client = either (λ d. (y : List ℕ) → bytes_eq (codes "connection") (client_base d ++ y) ≡ false)
      (λ y. refl) (λ y. refl);
  user = either (λ d. (y : List ℕ) → bytes_eq (codes "connection") (user_base d ++ y) ≡ false)
      (λ y. refl) (λ y. refl);
}

state_is_word : IsWord (codes "state")
state_is_word = record {
  level = refl;
  plain = λ y. refl;
  dollar = λ y. refl;
  client = either (λ d. (y : List ℕ) → bytes_eq (codes "state") (client_base d ++ y) ≡ false)
      (λ y. refl) (λ y. refl);
  user = either (λ d. (y : List ℕ) → bytes_eq (codes "state") (user_base d ++ y) ≡ false)
      (λ y. refl) (λ y. refl);
}

-- what the words of the states of bridges pass, the levels of their filter do
pub states_fit : (p : List ℕ → Bool) → p (codes "$SYS") ≡ true → p (codes "broker") ≡ true
    → p (codes "connection") ≡ true → p (codes "state") ≡ true
    → fits p (levels state_filter) ≡ true
states_fit p own broker connection state =
    ap (fits p) state_levels
    ∙ (λ i. own i && (broker i && (connection i && (state i && true))))

word_literal : (d : Bool) (f : Fresh) → AreMade d f → (w : List ℕ) → IsWord w
    → is_literal f w ≡ true
word_literal d f made w is =
    let apart = λ (base t : List ℕ) (m : IsPadded base t)
    (n : (y : List ℕ) → bytes_eq w (base ++ y) ≡ false).
    ap (λ u. not (bytes_eq w u)) m.is ∙ ap not (n (replicate m.count 120)) in
    and_from _ _ (and_from _ _ (and_from _ _ (and_from _ _ is.level
    (apart (codes "x") f.others.plain.now made.plain is.plain))
    (apart (codes "$x") f.others.dollar.now made.dollar is.dollar))
    (apart (client_base d) f.client.now made.client (is.client d)))
    (apart (user_base d) f.user.now made.user (is.user d))

-- texts that are made so are fresh
pub are_fresh : (d : Bool) (f : Fresh) → AreMade d f → AreFresh f
are_fresh d f made =
    let client = client_is_base d in
    let user = user_is_base d in
    record {
      others = and_from _ _ (and_from _ _ (and_from _ _ (and_from _ _
          (ap (λ t. not (length t == 0)) made.plain.is
          ∙ ap not (eqb-suc-zero (length (replicate made.plain.count 120))))
          (ap (λ t. not (begins_with_dollar t)) made.plain.is))
          (made_level (codes "x") f.others.plain.now refl made.plain))
          (ap (fits_start Writable) made.dollar.is
          ∙ writable_text 120 (replicate made.dollar.count 120) refl refl))
          (made_level (codes "$x") f.others.dollar.now refl made.dollar);
      client = record {
        choice = choice d f made (client_base d) f.client.now client.fits client.plain client.dollar
            made.client;
        some = made_some (client_base d) f.client.now client made.client;
      };
      user = record {
        choice = choice d f made (user_base d) f.user.now user.fits user.plain user.dollar
            made.user;
        some = made_some (user_base d) f.user.now user made.user;
      };
      apart = not-true (bytes_eq f.user.now f.client.now)
          (made_apart (user_base d) (client_base d) f.user.now f.client.now (bases_apart d)
          made.user made.client);
      begin = user_begins d f.user.now made.user ∙ sym (client_begins d f.client.now made.client);
      front = user_front d f.user.now made.user ∙ sym (client_front d f.client.now made.client);
      states = states_fit (is_literal f) (word_literal d f made _ own_is_word)
          (word_literal d f made _ broker_is_word) (word_literal d f made _ connection_is_word)
          (word_literal d f made _ state_is_word);
    }

-- new texts, seen as those that stand for others, are fresh
pub seen_fresh : (d : Bool) (t : FreshTexts) (f : Fresh) (named : List ℕ → Bool)
    → AreNew d t named → IsSeen t f → AreFresh f
seen_fresh d t f named m s =
    are_fresh d f (record {
      plain = subst (IsPadded (codes "x")) (sym s.plain) m.plain.made;
      dollar = subst (IsPadded (codes "$x")) (sym s.dollar) m.dollar.made;
      client = subst (IsPadded (client_base d)) (sym s.client) m.client.made;
      user = subst (IsPadded (user_base d)) (sym s.user) m.user.made;
    })

-- a text that is named is none of them
apart_from : (named : List ℕ → Bool) (l t u : List ℕ) → named l ≡ true → u ≡ t
    → named t ≡ false → not (bytes_eq l u) ≡ true
apart_from named l t u h e n = ap not (false_from_ne_true _ (λ k.
    let f : true ≡ false = sym h ∙ ap named (text_is l u k ∙ e) ∙ n in cc))

-- a level that is named, and can be one of a name, is one that a row may name
pub named_is_literal : (d : Bool) (t : FreshTexts) (f : Fresh) (named : List ℕ → Bool)
    → AreShort named → AreNew d t named → IsSeen t f → (l : List ℕ) → is_name_level l ≡ true
    → named l ≡ true → is_literal f l ≡ true
named_is_literal d t f named short m s l level h =
    rw (
      level,
      apart_from named l (string_bytes t.plain) f.others.plain.now h s.plain
          (m.plain.unnamed short),
      apart_from named l (string_bytes t.dollar) f.others.dollar.now h s.dollar
          (m.dollar.unnamed short),
      apart_from named l (string_bytes t.client) f.client.now h s.client (m.client.unnamed short),
      apart_from named l (string_bytes t.user) f.user.now h s.user (m.user.unnamed short),
    ) refl

-- ---- all of them
-- what holds of each holds of a text that is one of them
pub one_of : (t : FreshTexts) (text : List ℕ) (P : List ℕ → Type 0) → P (string_bytes t.plain)
    → P (string_bytes t.dollar) → P (string_bytes t.client) → P (string_bytes t.user)
    → list_any (bytes_eq text) (fresh_texts t) ≡ true → P text
one_of t text P p d c u h = grind (arith, text_is)

-- none is named
pub made_unnamed : (d : Bool) (t : FreshTexts) (named : List ℕ → Bool) → AreShort named
    → AreNew d t named → (text : List ℕ) → list_any (bytes_eq text) (fresh_texts t) ≡ true
    → named text ≡ false
made_unnamed d t named short m text = one_of t text (λ l. named l ≡ false) (m.plain.unnamed short)
    (m.dollar.unnamed short) (m.client.unnamed short) (m.user.unnamed short)

pub user_among : (t : FreshTexts)
    → list_any (bytes_eq (string_bytes t.user)) (fresh_texts t) ≡ true
user_among t = grind (arith, text_itself)

-- a test that each passes, all that are seen as them pass
pub all_of : (t : FreshTexts) (f : Fresh) (p : List ℕ → Bool) → IsSeen t f
    → ((l : List ℕ) → list_any (bytes_eq l) (fresh_texts t) ≡ true → p l ≡ true)
    → fresh_pass p f ≡ true
all_of t f p seen h = grind (arith, text_itself, user_among)
