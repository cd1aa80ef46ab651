-- Short texts that stand for the levels of a name, `%u` for the user name and `%c` for the client
-- id among them.
use Rattle.std.proofs.Common.{◌≡◌, ◌<◌, ◌≤◌, ◌==◌, ℕ, Bool, true, false, cond, not, ◌&&◌, ◌||◌}
use Rattle.std.proofs.Common.{List, [], ◌∷◌, length, map, take, refl, ap, sym, ◌∙◌, arith}
use Rattle.std.proofs.Common.{if◌then◌else◌, length-take, Option, zero, suc, subst, inl, inr}
use Rattle.std.specs.Prelude.{codes}
use Rattle.std.specs.Str.{bytes_eq}
use Rattle.std.proofs.Math.ListN.{replicate}
use Rattle.std.proofs.lemmas.Bool.{and_parts, or_parts, or_cases, or_left, or_right, cond_both}
use Rattle.std.proofs.lemmas.Bool.{cond-true, cases_Bool, false_from_ne_true, cond-false, ltb-false}
use Rattle.std.proofs.lemmas.Bool.{lt-ltb}
use Rattle.std.proofs.lemmas.List.{length-replicate, take_all}
use Rattle.mq_topic.specs.Matching.{level_matches, levels_match_by}
use Rattle.mq_topic.specs.Texts.{contains_byte}
use Rattle.mq_topic.proofs.ByteLemmas.{text_is, text_itself}
use Rattle.mq_acl.specs.Access.{is_user, pattern_level_matches}
use Rattle.mq_rename.specs.Lists.{has_long, is_hash, is_last_hash, is_long, is_plus, levels_match}
use Rattle.mq_rename.proofs.MatchLemmas.{has_dollar, only_itself}
use Rattle.mq_regions.specs.Own.{is_own}
use Rattle.mq_regions.specs.Regions.{is_mark}
use Rattle.mq_regions.proofs.ReadLemmas.{Pairwise, ends, pair, levels_step, on}

-- ---- marks
pub mark_by : (P : List ℕ → Type 0) → P (codes "%c") → P (codes "%u") → (w : List ℕ)
    → is_mark w ≡ true → P w
mark_by P c u w h = grind (arith, or_cases, inl, text_is, inr)

mark_is_short : (m : List ℕ) → is_mark m ≡ true → is_long m ≡ false
mark_is_short m h = mark_by (λ m. is_long m ≡ false) refl refl m h

pub mark_dollar : (w : List ℕ) → is_mark w ≡ true → has_dollar w ≡ false
mark_dollar w h = mark_by (λ w. has_dollar w ≡ false) refl refl w h

-- ---- a text that is no level of a filter that keeps to the limit
pub filler : List ℕ
filler = replicate 301 97

pub filler_size : length filler ≡ 301
unfolding filler
filler_size = length-replicate {A = ℕ} 301 97

filler_is_long : is_long filler ≡ true
filler_is_long = let size = filler_size in lt-ltb 300 (length filler) (omega arith)

replicate_lacks : (b a n : ℕ) → (a == b) ≡ false → contains_byte b (replicate n a) ≡ false
replicate_lacks b a zero h = refl
replicate_lacks b a (suc n) h = grind (arith, replicate_lacks b a n)

filler_lacks : (b : ℕ) → (97 == b) ≡ false → contains_byte b filler ≡ false
unfolding filler
filler_lacks b h = replicate_lacks b 97 301 h

filler_dollar : has_dollar filler ≡ false
unfolding filler
filler_dollar = refl

-- ---- a level, cut where it is too long for one of a filter, and none where it is a mark
pub short : List ℕ → List ℕ
short l = if is_mark l then filler else take 301 l

not_filler : (w : List ℕ) → is_long w ≡ false → filler ≡ w → ⊥
not_filler w h e = let k : true ≡ false = sym filler_is_long ∙ ap is_long e ∙ h in cc

whole : (l : List ℕ) → is_long l ≡ false → take 301 l ≡ l
whole l h = let few = ltb-false 300 (length l) h in take_all 301 l (omega arith)

-- a level that isn't long stands for itself alone
pub short_is : (w l : List ℕ) → is_long w ≡ false → short l ≡ w → w ≡ l
unfolding short
short_is w l h e = cond_both (is_mark l) filler (take 301 l) (λ v. v ≡ w → w ≡ l)
    (λ m e. absurd (not_filler w h e))
    (λ m e.
    let few = ltb-false 300 (length w) h in
    let size = ap length e in
    let cut = length-take 301 l in
    sym e ∙ take_all 301 l (omega arith)) e

short_mark : (l : List ℕ) → is_mark l ≡ true → short l ≡ filler
unfolding short
short_mark l h = cond-true (is_mark l) filler (take 301 l) h

pub short_own : (l : List ℕ) → is_mark l ≡ false → is_long l ≡ false → short l ≡ l
unfolding short
short_own l h k = cond-false (is_mark l) filler (take 301 l) h ∙ whole l k

-- no level is cut to a mark
no_mark : (m l : List ℕ) → is_mark m ≡ true → short l ≡ m → ⊥
no_mark m l h e =
    let few = mark_is_short m h in
    not_filler m few (sym (short_mark l (ap is_mark (sym (short_is m l few e)) ∙ h)) ∙ e)

pub short_dollar : (l : List ℕ) → has_dollar (short l) ≡ has_dollar l
unfolding short
short_dollar l = grind (arith, cond_both, filler, has_dollar, filler_dollar, mark_dollar)

take_lacks : (b n : ℕ) (l : List ℕ) → contains_byte b l ≡ false
    → contains_byte b (take n l) ≡ false
take_lacks b zero l h = refl
take_lacks b (suc n) [] h = refl
take_lacks b (suc n) (x ∷ xs) h = grind (arith, take_lacks b n xs)

pub short_lacks : (b : ℕ) (l : List ℕ) → (97 == b) ≡ false → contains_byte b l ≡ false
    → contains_byte b (short l) ≡ false
unfolding short
short_lacks b l n h =
    cond_both (is_mark l) filler (take 301 l) (λ v. contains_byte b v ≡ false)
    (λ e. filler_lacks b n) (λ e. take_lacks b 301 l h)

pub short_size : (l : List ℕ) → length (short l) ≤ 301
unfolding short
short_size l = cond_both (is_mark l) filler (take 301 l) (λ v. length v ≤ 301)
    (λ e. omega (arith, filler_size)) (λ e. omega (arith, length-take 301 l))

-- what isn't empty is not cut to nothing
pub short_some : (l : List ℕ) → 0 < length l → 0 < length (short l)
unfolding short
short_some l h = cond_both (is_mark l) filler (take 301 l) (λ v. 0 < length v)
    (λ e. omega (arith, filler_size)) (λ e. omega (arith, length-take 301 l))

pub short_nothing : short [] ≡ []
unfolding short
short_nothing = refl

-- ---- what a level of a name may stand for, where `pattern` rows are read for a client and a user
pub data Stands (x : List ℕ) (u : Option (List ℕ)) (k l : List ℕ) : Type 0 where
  AtUser : k ≡ codes "%u" → is_user l u ≡ true → Stands x u k l
  AtClient : k ≡ codes "%c" → bytes_eq l x ≡ true → Stands x u k l
  Own : k ≡ short l → Stands x u k l

is_text : {a b : List ℕ} → a ≡ b → bytes_eq a b ≡ true
is_text {a} {b} e = ap (bytes_eq a) (sym e) ∙ text_itself a

pub plain_read : (c : List ℕ) (u : Option (List ℕ)) (w l : List ℕ) → is_mark w ≡ false
    → pattern_level_matches c u w l ≡ level_matches w l
plain_read c u w l h = grind (arith, or_parts)

-- what passes as it is written passes for the level that it stands for
pub stands_read : (x : List ℕ) (u : Option (List ℕ)) (w k l : List ℕ) → is_long w ≡ false
    → Stands x u k l → level_matches w k ≡ true → pattern_level_matches x u w l ≡ true
stands_read x u w k l h s m = elim (or_cases _ _ m) [
  | inl p ↦ subst (λ v. pattern_level_matches x u v l ≡ true) (sym (text_is w (codes "+") p)) refl
  | inr q ↦ at s (text_is w k q)
]
  where
    at : Stands x u k l → w ≡ k → pattern_level_matches x u w l ≡ true
    at (AtUser f g) e = subst (λ v. pattern_level_matches x u v l ≡ true) (sym (e ∙ f)) g
    at (AtClient f g) e = subst (λ v. pattern_level_matches x u v l ≡ true) (sym (e ∙ f)) g
    at (Own f) e =
        plain_read x u w l (false_from_ne_true _ (λ t. no_mark w l t (sym (e ∙ f))))
        ∙ or_right _ _ (is_text (short_is w l h (sym (e ∙ f))))

-- what begins with `$` stands for what does
pub stands_dollar : {x : List ℕ} {u : Option (List ℕ)} {k l : List ℕ} → Stands x u k l
    → has_dollar k ≡ true → has_dollar l ≡ true
stands_dollar (AtUser e f) h = absurd (let k : false ≡ true = sym (ap has_dollar e) ∙ h in cc)
stands_dollar (AtClient e f) h = absurd (let k : false ≡ true = sym (ap has_dollar e) ∙ h in cc)
stands_dollar {l = l} (Own e) h = sym (short_dollar l) ∙ sym (ap has_dollar e) ∙ h

-- ---- levels that stand for a user name where that is the level
pub at_user : Option (List ℕ) → List ℕ → List ℕ
at_user u l = if is_user l u then codes "%u" else short l

pub at_user_stands : (x : List ℕ) (u v : Option (List ℕ))
    → ((l : List ℕ) → is_user l v ≡ true → is_user l u ≡ true)
    → (l : List ℕ) → Stands x u (at_user v l) l
unfolding at_user
at_user_stands x u v f l = grind (arith, cond_both)

pub at_user_own : (u : Option (List ℕ)) (l : List ℕ) → is_user l u ≡ false → at_user u l ≡ short l
unfolding at_user
at_user_own u l h = cond-false (is_user l u) (codes "%u") (short l) h

pub at_user_is : (u : Option (List ℕ)) (l : List ℕ) → is_user l u ≡ true → at_user u l ≡ codes "%u"
unfolding at_user
at_user_is u l h = cond-true (is_user l u) (codes "%u") (short l) h

-- the level stands for itself, and is the user name
abbrev pub is_users : Option (List ℕ) → List ℕ → Bool
is_users u w = is_own w && is_user w u

-- what is no `#` stands for the level, and `%u` for the user name
abbrev pub Leads : Option (List ℕ) → List ℕ → List ℕ → Type 0
Leads u l k = (is_hash l ≡ false) × (k ≡ at_user u l)

-- what passes for the client and the user passes as it is written, where `%u` stands for the user
-- name
pub user_read : (c : List ℕ) (u : Option (List ℕ)) (w l k : List ℕ)
    → (is_long w || (bytes_eq w (codes "%c") || is_users u w)) ≡ false → Leads u l k
    → pattern_level_matches c u w l ≡ true → level_matches w k ≡ true
user_read c u w l k h r m =
    let one = or_parts _ _ h in
    let two = or_parts _ _ one.1 in
    ap (level_matches w) r.1
    ∙ at (bytes_eq w (codes "%u")) (is_plus w) refl refl one.0 two.0 two.1
    (sym (ap (λ b. cond b (bytes_eq l c)
    (cond (bytes_eq w (codes "%u")) (is_user l u) (level_matches w l))) two.0) ∙ m)
  where
    at : (d p : Bool) → bytes_eq w (codes "%u") ≡ d → is_plus w ≡ p → is_long w ≡ false
        → bytes_eq w (codes "%c") ≡ false → is_users u w ≡ false
        → cond d (is_user l u) (level_matches w l) ≡ true → level_matches w (at_user u l) ≡ true
    at true p e g h k n m =
        or_right _ _ (is_text (text_is w (codes "%u") e ∙ sym (at_user_is u l m)))
    at false true e g h k n m = or_left _ _ g
    at false false e g h k n m =
        let is : w ≡ l = only_itself w l g m in
        let hash : is_hash w ≡ false = ap is_hash is ∙ r.0 in
        let own : is_user w u ≡ false =
        sym (λ i. (not (g i || hash i) && not (e i)) && is_user w u) ∙ n in
        or_right _ _ (is_text (sym (short_own w (λ i. k i || e i) h) ∙ sym (at_user_own u w own)
        ∙ ap (at_user u) is))

-- ---- levels that stand for those of a name, as the levels of a filter are read
abbrev pub woven_level : List ℕ → Option (List ℕ) → List ℕ → List ℕ → List ℕ
woven_level x u g l =
    if bytes_eq g (codes "%u") && is_user l u then codes "%u"
    else (if bytes_eq g (codes "%c") && bytes_eq l x then codes "%c" else short l)

abbrev pub woven : List ℕ → Option (List ℕ) → List (List ℕ) → List (List ℕ) → List (List ℕ)
woven x u [] ls = map short ls
woven x u (g ∷ gs) [] = []
woven x u (g ∷ gs) (l ∷ ls) = woven_level x u g l ∷ woven x u gs ls

woven_level_stands : (x : List ℕ) (u : Option (List ℕ)) (g l : List ℕ)
    → Stands x u (woven_level x u g l) l
woven_level_stands x u g l = grind (arith, cond_both, and_parts)

pub woven_stands : (x : List ℕ) (u : Option (List ℕ)) (gs ls : List (List ℕ))
    → Pairwise (Stands x u) (woven x u gs ls) ls
woven_stands x u [] [] = ends
woven_stands x u [] (l ∷ ls) = pair (Own refl) (woven_stands x u [] ls)
woven_stands x u (g ∷ gs) [] = ends
woven_stands x u (g ∷ gs) (l ∷ ls) = pair (woven_level_stands x u g l) (woven_stands x u gs ls)

woven_level_match : (x : List ℕ) (u : Option (List ℕ)) (g l : List ℕ) → is_long g ≡ false
    → pattern_level_matches x u g l ≡ true → level_matches g (woven_level x u g l) ≡ true
woven_level_match x u g l h m = elim (cases_Bool (is_mark g)) [
  | inl t ↦ mark_by
      (λ v. pattern_level_matches x u v l ≡ true → level_matches v (woven_level x u v l) ≡ true)
      (λ m. ap (λ b. level_matches (codes "%c") (cond b (codes "%c") (short l))) m)
      (λ m. ap (λ b. level_matches (codes "%u") (cond b (codes "%u") (short l))) m) g t m
  | inr f ↦
      let none = or_parts _ _ f in
      ap (level_matches g) (λ i. cond (none.1 i && is_user l u) (codes "%u")
      (cond (none.0 i && bytes_eq l x) (codes "%c") (short l)))
      ∙ own f (sym (plain_read x u g l f) ∙ m)
]
  where
    own : is_mark g ≡ false → level_matches g l ≡ true → level_matches g (short l) ≡ true
    own f m = elim (or_cases (is_plus g) (bytes_eq g l) m) [
      | inl p ↦ or_left _ _ p
      | inr q ↦ or_right _ _ (is_text (sym (short_own g f h) ∙ ap short (text_is g l q)))
    ]

-- a filter that is read so passes them as it is written
pub woven_match : (x : List ℕ) (u : Option (List ℕ)) (gs ls : List (List ℕ))
    → has_long gs ≡ false → levels_match_by (pattern_level_matches x u) gs ls ≡ true
    → levels_match gs (woven x u gs ls) ≡ true
woven_match x u [] [] h m = refl
woven_match x u [] (l ∷ ls) h m = absurd (let e : false ≡ true = m in cc)
woven_match x u (g ∷ gs) [] h m =
    levels_step level_matches g gs [] ∙ sym (levels_step (pattern_level_matches x u) g gs []) ∙ m
woven_match x u (g ∷ gs) (l ∷ ls) h m =
    let none = or_parts _ _ h in
    levels_step level_matches g gs (woven x u (g ∷ gs) (l ∷ ls))
    ∙ on (is_last_hash g gs) _ _ _ _ (woven_level_match x u g l none.0)
    (woven_match x u gs ls none.1) (sym (levels_step (pattern_level_matches x u) g gs (l ∷ ls)) ∙ m)
