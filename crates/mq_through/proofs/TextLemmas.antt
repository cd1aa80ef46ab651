-- Texts in the place of those that nothing names.
use Rattle.std.proofs.Common.{◌≡◌, ◌<◌, ◌≤◌, ◌==◌, ℕ, Bool, true, false, cond, ◌&&◌}
use Rattle.std.proofs.Common.{◌||◌, List, [], ◌∷◌, length, refl, ap, sym, ◌∙◌, subst}
use Rattle.std.proofs.Common.{Option, Some, None, arith}
use Rattle.std.specs.Str.{bytes_eq}
use Rattle.std.proofs.lemmas.Bool.{and_parts}
use Rattle.mq_topic.proofs.ByteLemmas.{text_is, text_itself}
use Rattle.mq_acl.specs.Access.{begins_with_dollar, is_user}
use Rattle.mq_cover.specs.Names.{can_be_level}
use Rattle.mq_through.proofs.MoveLemmas.{IsMove, not_empty}
use Rattle.mq_through.proofs.LongLemmas.{apart_user, other, other_begins, other_level, other_size}
use Rattle.mq_through.proofs.LongLemmas.{other_user, swapped, unlike, user_begins, user_level}
use Rattle.mq_through.proofs.LongLemmas.{user_sizes}

-- what is named is short; the client id is one in whose place the other stands, where it counts
pub record IsStandIn (named : List ℕ → Bool) (asks : Bool) (c d : List ℕ) : Type 0 where
  pub brief : (t : List ℕ) → named t ≡ true → length t ≤ 300
  pub some : (length c == 0) ≡ false
  pub other_some : (length d == 0) ≡ false
  pub other_brief : length d ≤ 300
  pub known : named c ≡ true → asks ≡ true → d ≡ c
  pub unknown : named c ≡ false → asks ≡ true → named d ≡ false
  pub level : asks ≡ true → named c ≡ false → can_be_level d ≡ true
  pub begin : asks ≡ true → begins_with_dollar d ≡ begins_with_dollar c

module _ (named : List ℕ → Bool) (asks : Bool) (c d : List ℕ)
    (s : IsStandIn named asks c d) where
  -- the text of a user name
  abbrev pub user_text : List ℕ → List ℕ
  user_text x = cond (named x) x (cond (asks && bytes_eq x c) d (other_user (begins_with_dollar x)))

  abbrev pub user_for : Option (List ℕ) → Option (List ℕ)
  user_for None = None
  user_for (Some x) = Some (user_text x)

  abbrev pub user_or : Option (List ℕ) → List ℕ → List ℕ
  user_or None t = other (begins_with_dollar t)
  user_or (Some x) t = cond (bytes_eq t x) (user_text x) (other (begins_with_dollar t))

  abbrev pub text_for : Option (List ℕ) → List ℕ → List ℕ
  text_for u t = cond (length t == 0 || named t) t
      (cond (asks && bytes_eq t c) d (user_or u t))

  -- ---- what the client id becomes
  -- unnamed texts that are the client id's
  its_own : (t : List ℕ) → named t ≡ false → (asks && bytes_eq t c) ≡ true
      → (asks ≡ true) × (named c ≡ false) × (t ≡ c)
  its_own t h e =
      let both = and_parts asks (bytes_eq t c) e in
      let same = text_is t c both.1 in
      (both.0, sym (ap named same) ∙ h, same)

  long_unnamed : (t : List ℕ) → 300 < length t → named t ≡ false
  long_unnamed t h = at (named t) refl
    where
      at : (b : Bool) → named t ≡ b → b ≡ false
      at true e = absurd (let q = s.brief t e in omega arith)
      at false e = refl

  other_long : (b : Bool) → 300 < length (other b)
  other_long b = let e = other_size b in omega arith

  user_long : (b : Bool) → 300 < length (other_user b)
  user_long b = let e = (user_sizes b).0 in omega arith

  -- no text is named that nothing named becomes
  apart_for : (u : Option (List ℕ)) (t : List ℕ) → named t ≡ false
      → named (text_for u t) ≡ false
  apart_for u t h = at (length t == 0) (asks && bytes_eq t c) refl
    where
      by_user : (x : List ℕ) → t ≡ x → (a : Bool) → named x ≡ a → (b : Bool)
          → (asks && bytes_eq x c) ≡ b
          → named (cond a x (cond b d (other_user (begins_with_dollar x)))) ≡ false
      by_user x e true i b j = absurd (let q : false ≡ true = sym h ∙ ap named e ∙ i in cc)
      by_user x e false i true j =
          let own = its_own x i j in s.unknown own.1 own.0
      by_user x e false i false j = long_unnamed (other_user (begins_with_dollar x))
          (user_long (begins_with_dollar x))

      user : (v : Option (List ℕ)) → named (user_or v t) ≡ false
      user None = long_unnamed (other (begins_with_dollar t)) (other_long (begins_with_dollar t))
      user (Some x) = by (bytes_eq t x) refl
        where
          by : (b : Bool) → bytes_eq t x ≡ b
              → named (cond b (user_text x) (other (begins_with_dollar t))) ≡ false
          by true e = by_user x (text_is t x e) (named x) refl (asks && bytes_eq x c) refl
          by false e = long_unnamed (other (begins_with_dollar t))
              (other_long (begins_with_dollar t))

      at : (z b : Bool) → (asks && bytes_eq t c) ≡ b
          → named (cond (z || named t) t (cond b d (user_or u t))) ≡ false
      at true b i = h
      at false true i =
          let own = its_own t h i in
          ap (λ n. named (cond n t d)) h ∙ s.unknown own.1 own.0
      at false false i = ap (λ n. named (cond n t (user_or u t))) h ∙ user u

  kept_for : (u : Option (List ℕ)) (t : List ℕ) → named t ≡ true → text_for u t ≡ t
  kept_for u t h = at (length t == 0)
    where
      at : (z : Bool) → cond (z || named t) t (cond (asks && bytes_eq t c) d (user_or u t)) ≡ t
      at true = refl
      at false = ap (λ n. cond n t (cond (asks && bytes_eq t c) d (user_or u t))) h

  differ : (a b : List ℕ) → named a ≡ true → named b ≡ false → bytes_eq a b ≡ false
  differ a b h k = at (bytes_eq a b) refl
    where
      at : (t : Bool) → bytes_eq a b ≡ t → t ≡ false
      at true e = absurd (let q : true ≡ false = sym h ∙ ap named (text_is a b e) ∙ k in cc)
      at false e = refl

  empty_not : (a b : List ℕ) → (length a == 0) ≡ true → (length b == 0) ≡ false
      → bytes_eq a b ≡ false
  empty_not [] [] h k = absurd (let q : true ≡ false = k in cc)
  empty_not [] (y ∷ ys) h k = refl
  empty_not (x ∷ xs) b h k = absurd (let q : false ≡ true = sym (not_empty (length xs)) ∙ h in cc)

  not_d : (t : List ℕ) → 300 < length t → bytes_eq t d ≡ false
  not_d t h = swapped d t (unlike d t (let e = s.other_brief in omega arith))

  client_for : (u : Option (List ℕ)) (t : List ℕ) → asks ≡ true
      → bytes_eq (text_for u t) d ≡ bytes_eq t c
  client_for u t a = at (length t == 0) (named t) (asks && bytes_eq t c) refl refl refl
    where
      of_user : (v : Option (List ℕ)) → named t ≡ false → (asks && bytes_eq t c) ≡ false
          → bytes_eq (user_or v t) d ≡ false
      of_user None h k = not_d (other (begins_with_dollar t)) (other_long (begins_with_dollar t))
      of_user (Some x) h k = by (bytes_eq t x) refl
        where
          by : (b : Bool) → bytes_eq t x ≡ b
              → bytes_eq (cond b (user_text x) (other (begins_with_dollar t))) d ≡ false
          by true e =
              let same = text_is t x e in
              (λ i. bytes_eq (cond ((ap named (sym same) ∙ h) i) x
              (cond ((ap (λ y. asks && bytes_eq y c) (sym same) ∙ k) i) d
              (other_user (begins_with_dollar x)))) d)
              ∙ not_d (other_user (begins_with_dollar x)) (user_long (begins_with_dollar x))
          by false e = not_d (other (begins_with_dollar t)) (other_long (begins_with_dollar t))

      at : (z n b : Bool) → (length t == 0) ≡ z → named t ≡ n → (asks && bytes_eq t c) ≡ b
          → bytes_eq (cond (z || n) t (cond b d (user_or u t))) d ≡ bytes_eq t c
      at true n b i j k = empty_not t d i s.other_some ∙ sym (empty_not t c i s.some)
      at false true b i j k = by (named c) refl
        where
          by : (m : Bool) → named c ≡ m → bytes_eq t d ≡ bytes_eq t c
          by true e = ap (bytes_eq t) (s.known e a)
          by false e = differ t d j (s.unknown e a) ∙ sym (differ t c j e)
      at false false true i j k = text_itself d ∙ sym (and_parts asks (bytes_eq t c) k).1
      at false false false i j k =
          of_user u j k ∙ sym (sym (ap (λ b. b && bytes_eq t c) a) ∙ k)

  user_for_is : (u : Option (List ℕ)) (t : List ℕ)
      → ((x : List ℕ) → u ≡ Some x → (length x == 0) ≡ false)
      → is_user (text_for u t) (user_for u) ≡ is_user t u
  user_for_is None t some = refl
  user_for_is (Some x) t some =
      at (length t == 0) (named t) (asks && bytes_eq t c) (named x) (asks && bytes_eq x c)
      (bytes_eq t x) refl refl refl refl refl refl
    where
      full : (length x == 0) ≡ false
      full = some x refl

      user_some : (n b : Bool)
          → (length (cond n x (cond b d (other_user (begins_with_dollar x)))) == 0) ≡ false
      user_some true b = full
      user_some false true = s.other_some
      user_some false false = some_user (begins_with_dollar x)
        where
          some_user : (b : Bool) → (length (other_user b) == 0) ≡ false
          some_user true = refl
          some_user false = refl

      no_other : (n b : Bool) → named x ≡ n
          → bytes_eq (other (begins_with_dollar t))
          (cond n x (cond b d (other_user (begins_with_dollar x)))) ≡ false
      no_other true b e = swapped x (other (begins_with_dollar t))
          (unlike x (other (begins_with_dollar t))
          (let q = s.brief x e in let r = other_size (begins_with_dollar t) in omega arith))
      no_other false true e =
          not_d (other (begins_with_dollar t)) (other_long (begins_with_dollar t))
      no_other false false e = apart_user (begins_with_dollar t) (begins_with_dollar x)

      -- empty, named, the client id; the user named, the client id; the user name
      at : (z n b m o w : Bool) → (length t == 0) ≡ z → named t ≡ n
          → (asks && bytes_eq t c) ≡ b → named x ≡ m → (asks && bytes_eq x c) ≡ o
          → bytes_eq t x ≡ w
          → bytes_eq (cond (z || n) t (cond b d (cond w
          (cond m x (cond o d (other_user (begins_with_dollar x))))
          (other (begins_with_dollar t)))))
          (cond m x (cond o d (other_user (begins_with_dollar x)))) ≡ w
      at true n b m o w i j k l p q =
          empty_not t (cond m x (cond o d (other_user (begins_with_dollar x)))) i (user_some m o)
          ∙ sym (empty_not t x i full) ∙ q
      at false true b true o w i j k l p q = q
      at false true b false true w i j k l p q =
          let own = its_own x l p in
          differ t d j (s.unknown own.1 own.0) ∙ sym (differ t x j l) ∙ q
      at false true b false false w i j k l p q =
          differ t (other_user (begins_with_dollar x)) j
          (long_unnamed (other_user (begins_with_dollar x)) (user_long (begins_with_dollar x)))
          ∙ sym (differ t x j l) ∙ q
      at false false true true o w i j k l p q =
          let own = its_own t j k in
          swapped x d (differ x d l (s.unknown own.1 own.0))
          ∙ sym (swapped x t (differ x t l j)) ∙ q
      at false false true false true w i j k l p q =
          text_itself d
          ∙ sym (ap (bytes_eq t) ((its_own x l p).2 ∙ sym (its_own t j k).2) ∙ text_itself t) ∙ q
      at false false true false false w i j k l p q =
          let own = its_own t j k in
          swapped (other_user (begins_with_dollar x)) d
          (not_d (other_user (begins_with_dollar x)) (user_long (begins_with_dollar x)))
          ∙ sym (swapped x t (ap (bytes_eq x) own.2
          ∙ sym (ap (λ b. b && bytes_eq x c) own.0) ∙ p)) ∙ q
      at false false false m o true i j k l p q =
          text_itself (cond m x (cond o d (other_user (begins_with_dollar x))))
      at false false false m o false i j k l p q = no_other m o l

  -- ---- what each text becomes has what an unnamed text's has
  -- a fact of what a text becomes, by cases
  cases_for : (P : List ℕ → Type 0) (u : Option (List ℕ)) (t : List ℕ)
      → P t
      → (asks ≡ true → named c ≡ false → t ≡ c → P d)
      → P (other_user (begins_with_dollar t)) → P (other (begins_with_dollar t))
      → P (text_for u t)
  cases_for P u t own client user rest =
      at (length t == 0) (named t) (asks && bytes_eq t c) refl refl
    where
      of_user : (v : Option (List ℕ)) → named t ≡ false → (asks && bytes_eq t c) ≡ false
          → P (user_or v t)
      of_user None h k = rest
      of_user (Some x) h k = by (bytes_eq t x) refl
        where
          by : (b : Bool) → bytes_eq t x ≡ b
              → P (cond b (user_text x) (other (begins_with_dollar t)))
          by true e =
              let same = text_is t x e in
              subst (λ y. P (user_text y)) same
              (subst (λ n. P (cond n t (cond (asks && bytes_eq t c) d
              (other_user (begins_with_dollar t))))) (sym h)
              (subst (λ b. P (cond b d (other_user (begins_with_dollar t)))) (sym k) user))
          by false e = rest

      at : (z n b : Bool) → named t ≡ n → (asks && bytes_eq t c) ≡ b
          → P (cond (z || n) t (cond b d (user_or u t)))
      at true n b i j = own
      at false true b i j = own
      at false false true i j =
          let o = its_own t i j in client o.0 o.1 o.2
      at false false false i j = of_user u i j

  dollar_for : (u : Option (List ℕ)) (t : List ℕ)
      → begins_with_dollar (text_for u t) ≡ begins_with_dollar t
  dollar_for u t =
      cases_for (λ y. begins_with_dollar y ≡ begins_with_dollar t) u t refl
      (λ a n e. s.begin a ∙ ap begins_with_dollar (sym e))
      (user_begins (begins_with_dollar t)) (other_begins (begins_with_dollar t))

  level_for : (u : Option (List ℕ)) (t : List ℕ) → can_be_level t ≡ true
      → can_be_level (text_for u t) ≡ true
  level_for u t h =
      cases_for (λ y. can_be_level y ≡ true) u t h (λ a n e. s.level a n)
      (user_level (begins_with_dollar t)) (other_level (begins_with_dollar t))

  pub short_for : (u : Option (List ℕ)) (t : List ℕ) → length (text_for u t) ≤ 321
  short_for u t = at (length t == 0) (named t) refl refl
    where
      of_user : (v : Option (List ℕ)) → named t ≡ false → length (user_or v t) ≤ 321
      of_user None h = let e = other_size (begins_with_dollar t) in omega arith
      of_user (Some x) h = by (bytes_eq t x) refl
        where
          text : (n b : Bool) → named x ≡ n
              → length (cond n x (cond b d (other_user (begins_with_dollar x)))) ≤ 321
          text true b e = let q = s.brief x e in omega arith
          text false true e = let q = s.other_brief in omega arith
          text false false e = let q = (user_sizes (begins_with_dollar x)).1 in omega arith

          by : (b : Bool) → bytes_eq t x ≡ b
              → length (cond b (user_text x) (other (begins_with_dollar t))) ≤ 321
          by true e = text (named x) (asks && bytes_eq x c) refl
          by false e = let q = other_size (begins_with_dollar t) in omega arith

      at : (z n : Bool) → (length t == 0) ≡ z → named t ≡ n
          → length (cond (z || n) t (cond (asks && bytes_eq t c) d (user_or u t))) ≤ 321
      at true n i j = none t i
        where
          none : (y : List ℕ) → (length y == 0) ≡ true → length y ≤ 321
          none [] e = omega arith
          none (x ∷ xs) e = absurd (let q : false ≡ true = sym (not_empty (length xs)) ∙ e in cc)
      at false true i j = let q = s.brief t j in omega arith
      at false false i j = by (asks && bytes_eq t c)
        where
          by : (b : Bool) → length (cond b d (user_or u t)) ≤ 321
          by true = let q = s.other_brief in omega arith
          by false = of_user u j

  some_for : (u : Option (List ℕ)) (t : List ℕ)
      → (length (text_for u t) == 0) ≡ (length t == 0)
  some_for u t = at (length t == 0) refl
    where
      at : (z : Bool) → (length t == 0) ≡ z
          → (length (cond (z || named t) t (cond (asks && bytes_eq t c) d (user_or u t))) == 0) ≡ z
      at true e = e
      at false e = by (named t) (asks && bytes_eq t c)
        where
          full_user : (b : Bool) → (length (other_user b) == 0) ≡ false
          full_user true = refl
          full_user false = refl

          full_other : (b : Bool) → (length (other b) == 0) ≡ false
          full_other true = refl
          full_other false = refl

          text : (x : List ℕ) → t ≡ x → (n b : Bool)
              → (length (cond n x (cond b d (other_user (begins_with_dollar x)))) == 0) ≡ false
          text x same true b = ap (λ y. length y == 0) (sym same) ∙ e
          text x same false true = s.other_some
          text x same false false = full_user (begins_with_dollar x)

          of_user : (v : Option (List ℕ)) → (length (user_or v t) == 0) ≡ false
          of_user None = full_other (begins_with_dollar t)
          of_user (Some x) = in_user (bytes_eq t x) refl
            where
              in_user : (b : Bool) → bytes_eq t x ≡ b
                  → (length (cond b (user_text x) (other (begins_with_dollar t))) == 0) ≡ false
              in_user true k = text x (text_is t x k) (named x) (asks && bytes_eq x c)
              in_user false k = full_other (begins_with_dollar t)

          by : (n b : Bool) → (length (cond n t (cond b d (user_or u t))) == 0) ≡ false
          by true b = e
          by false true = s.other_some
          by false false = of_user u

  -- the texts that they become are a move
  pub moves : (u : Option (List ℕ)) → ((x : List ℕ) → u ≡ Some x → (length x == 0) ≡ false)
      → IsMove named asks c d u (user_for u) (text_for u)
  moves u some = record {
    kept = kept_for u;
    apart = apart_for u;
    client = λ a t h. client_for u t a;
    user = λ t h. user_for_is u t some;
    dollar = dollar_for u;
    level = level_for u;
    some = some_for u;
  }

  pub user_unnamed : (x : List ℕ) → named x ≡ false → named (user_text x) ≡ false
  user_unnamed x e =
      ap (λ n. named (cond n x (cond (asks && bytes_eq x c) d
      (other_user (begins_with_dollar x))))) e
      ∙ at (asks && bytes_eq x c) refl
    where
      at : (b : Bool) → (asks && bytes_eq x c) ≡ b
          → named (cond b d (other_user (begins_with_dollar x))) ≡ false
      at true g = let own = its_own x e g in s.unknown own.1 own.0
      at false g = long_unnamed (other_user (begins_with_dollar x))
          (user_long (begins_with_dollar x))

  pub user_itself : (x : List ℕ) → named x ≡ true → user_text x ≡ x
  user_itself x e =
      ap (λ n. cond n x (cond (asks && bytes_eq x c) d (other_user (begins_with_dollar x)))) e

  -- a broker can have it
  pub user_fits : (P : List ℕ → Type 0) (x : List ℕ) → P x → P d
      → ((b : Bool) → P (other_user b)) → P (user_text x)
  user_fits P x own client rest = at (named x) (asks && bytes_eq x c)
    where
      at : (n b : Bool) → P (cond n x (cond b d (other_user (begins_with_dollar x))))
      at true b = own
      at false true = client
      at false false = rest (begins_with_dollar x)
