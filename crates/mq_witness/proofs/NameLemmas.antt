-- Levels of names, and the names that they make.
use Rattle.std.proofs.Common.{◌≡◌, ℕ, ◌==◌, Bool, true, false, cond, not, ◌&&◌, List, [], ◌∷◌, ◌++◌}
use Rattle.std.proofs.Common.{length, refl, ap, sym, ◌∙◌, arith, ◌<◌, ◌≤◌, ◌*◌, append-nil}
use Rattle.std.proofs.Common.{length-append, suc, Bor, map, reverse}
use Rattle.std.specs.List.{list_all, flat_map, join_by, onto_first}
use Rattle.std.proofs.lemmas.Bool.Decides.{nat_tests}
use Rattle.std.proofs.lemmas.List.Folds.{flat_map-map, list_any-append}
use Rattle.std.proofs.lemmas.Bool.{and_parts, not-true, or_parts, leb-true, le-leb, ltb-true}
use Rattle.std.proofs.lemmas.Bool.{lt-ltb}
use Rattle.std.proofs.lemmas.List.{map_push, reverse-append}
use Rattle.mq_cover.specs.Paths.{path_levels}
use Rattle.std.proofs.Math.Dec.{eqb-suc-zero}
use Rattle.std.proofs.Math.Bool.{and-true}
use Rattle.mq_topic.specs.Levels.{levels, is_slash}
use Rattle.mq_topic.specs.Texts.{contains_byte, is_name}
use Rattle.mq_acl.specs.Access.{begins_with_dollar}
use Rattle.mq_topic.proofs.TextLemmas.{levels_lack}
use Rattle.mq_topic.proofs.Walk.{levels-nonempty}
use Rattle.mq_cover.specs.Names.{can_be_level, is_name_level, suits, start_of}
use Rattle.mq_witness.specs.Texts.{join_levels}
use Rattle.mq_cover.specs.declared.start.Start.TheVariants.{Plain, Dollar, Slash, Inside}
use Rattle.mq_cover.proofs.NameLemmas.{suits_inside}
use Rattle.mq_witness.proofs.TestLemmas.{all_by}

-- ---- the levels of a text that is made of them
pub levels_last : (l : List ℕ) → contains_byte 47 l ≡ false → levels l ≡ l ∷ []
levels_last [] h = refl
levels_last (x ∷ xs) h = grind (arith, levels_last xs, or_parts)

levels_first : (l more : List ℕ) → contains_byte 47 l ≡ false
    → levels (l ++ (47 ∷ more)) ≡ l ∷ levels more
levels_first [] more h = refl
levels_first (x ∷ xs) more h = grind (arith, levels_first xs more, or_parts)

abbrev pub slashed : List (List ℕ) → List ℕ
slashed ls = flat_map (λ l. 47 ∷ l) ls

-- what `join` makes of them
pub joined_is : (ls : List (Bor (List ℕ)))
    → join_by (λ l. l.now) (47 ∷ []) ls ≡ join_levels (map (λ l. l.now) ls)
joined_is [] = refl
joined_is (l ∷ ls) =
    ap (λ t. l.now ++ t) (sym (flat_map-map (λ t. 47 ∷ t) (λ (l : Bor (List ℕ)). l.now) ls))

abbrev all_lack : ℕ → List (List ℕ) → Bool
all_lack b ls = list_all (λ l. not (contains_byte b l)) ls

-- levels without a `/` are the levels of the text that they join to
joined_levels : (l : List ℕ) (ls : List (List ℕ)) → all_lack 47 (l ∷ ls) ≡ true
    → levels (l ++ slashed ls) ≡ l ∷ ls
joined_levels l [] h = ap levels (append-nil l) ∙ levels_last l (not-true _ (and_parts _ _ h).0)
joined_levels l (m ∷ ms) h = grind (arith, joined_levels m ms, levels_first)

pub joined_lacking : (ls : List (List ℕ)) → 0 < length ls → all_lack 47 ls ≡ true
    → levels (join_levels ls) ≡ ls
joined_lacking [] n h = absurd (omega arith)
joined_lacking (l ∷ ls) n h = joined_levels l ls h

-- what each level lacks, the text lacks
joined_lack : (b : ℕ) (l : List ℕ) (ls : List (List ℕ)) → (47 == b) ≡ false
    → all_lack b (l ∷ ls) ≡ true → contains_byte b (l ++ slashed ls) ≡ false
joined_lack b l [] n h = ap (contains_byte b) (append-nil l) ∙ not-true _ (and_parts _ _ h).0
joined_lack b l (m ∷ ms) n h = grind (arith, joined_lack b m ms n, list_any-append)

-- ---- what a level of a name lacks, and how long it is
pub record IsLevel (l : List ℕ) : Type 0 where
  pub plus : not (contains_byte 43 l) ≡ true
  pub hash : not (contains_byte 35 l) ≡ true
  pub nul : not (contains_byte 0 l) ≡ true
  pub slash : not (contains_byte 47 l) ≡ true
  pub short : length l ≤ 321

pub level_is : (l : List ℕ) → is_name_level l ≡ true → IsLevel l
level_is l h = grind (arith, leb-true)

-- a level has no `/`
pub no_slash : (l : List ℕ) → can_be_level l ≡ true → not (contains_byte 47 l) ≡ true
no_slash l h = (and_parts _ _ h).1

pub slashed_short : (ls : List (List ℕ)) → list_all is_name_level ls ≡ true
    → length (slashed ls) ≤ 322 * length ls
slashed_short [] h = omega arith
slashed_short (l ∷ ls) h =
    let parts = and_parts (is_name_level l) _ h in
    let short = (level_is l parts.0).short in
    omega (arith, short, slashed_short ls parts.1, length-append l (slashed ls))

-- the levels of joined levels are those levels
pub levels_of_joined : (ls : List (List ℕ)) (dollar : Bool) → list_all is_name_level ls ≡ true
    → suits (start_of dollar) ls ≡ true → levels (join_levels ls) ≡ ls
levels_of_joined [] true h s = absurd (let e : false ≡ true = s in cc)
levels_of_joined [] false h s = absurd (let e : false ≡ true = s in cc)
levels_of_joined (l ∷ ls) dollar h s = joined_levels l ls
    (all_by is_name_level (λ t. not (contains_byte 47 t)) (λ t e. (level_is t e).slash) (l ∷ ls) h)

some_bytes : (l : List ℕ) (ls : List (List ℕ)) (dollar : Bool)
    → suits (start_of dollar) (l ∷ ls) ≡ true → 0 < length (join_levels (l ∷ ls))
some_bytes [] [] true s = absurd (let e : false ≡ true = s in cc)
some_bytes [] [] false s = absurd (let e : false ≡ true = s in cc)
some_bytes [] (m ∷ ms) dollar s = omega arith
some_bytes (x ∷ xs) ls dollar s = omega arith

-- what makes a text the name of a topic
record IsFit (text : List ℕ) : Type 0 where
  pub some : 0 < length text
  pub short : length text ≤ 65535
  pub few : length (levels text) ≤ 200
  pub nul : contains_byte 0 text ≡ false
  pub plus : contains_byte 43 text ≡ false
  pub hash : contains_byte 35 text ≡ false

fit_is_name : (text : List ℕ) → IsFit text → is_name text ≡ true
fit_is_name text h = grind (arith, lt-ltb, le-leb)

-- levels of names, at most 200, join to a name
pub joined_is_name : (ls : List (List ℕ)) (dollar : Bool) → list_all is_name_level ls ≡ true
    → length ls ≤ 200 → suits (start_of dollar) ls ≡ true → is_name (join_levels ls) ≡ true
joined_is_name [] true h n s = absurd (let e : false ≡ true = s in cc)
joined_is_name [] false h n s = absurd (let e : false ≡ true = s in cc)
joined_is_name (l ∷ ls) dollar h n s =
    let both = and_parts (is_name_level l) _ h in
    let short = (level_is l both.0).short in
    let more = slashed_short ls both.1 in
    let size = length-append l (slashed ls) in
    let parts = ap length (levels_of_joined (l ∷ ls) dollar h s) in
    fit_is_name (join_levels (l ∷ ls)) (record {
      some = some_bytes l ls dollar s;
      short = omega (arith, more, size, short);
      few = omega (arith, parts);
      nul = joined_lack 0 l ls refl (all_by is_name_level (λ t. not (contains_byte 0 t))
          (λ t e. (level_is t e).nul) (l ∷ ls) h);
      plus = joined_lack 43 l ls refl (all_by is_name_level (λ t. not (contains_byte 43 t))
          (λ t e. (level_is t e).plus) (l ∷ ls) h);
      hash = joined_lack 35 l ls refl (all_by is_name_level (λ t. not (contains_byte 35 t))
          (λ t e. (level_is t e).hash) (l ∷ ls) h);
    })

-- ---- names that begin with `$`, and the others
slash_no_dollar : (x : ℕ) → is_slash x ≡ true → (x == 36) ≡ false
slash_no_dollar x e = grind (arith, nat_tests)

behind_onto : (n : ℕ) (parts : List (List ℕ)) → suits (cond (suc n == 0) Slash Inside) parts ≡ true
behind_onto n parts = ap (λ b. suits (cond b Slash Inside) parts) (eqb-suc-zero n)
    ∙ suits_inside parts

suits_onto : (x : ℕ) (parts : List (List ℕ)) → suits Plain (onto_first x parts) ≡ not (x == 36)
suits_onto x [] = ap (λ b. not (x == 36) && b) (behind_onto 0 []) ∙ and-true (not (x == 36))
suits_onto x (p ∷ parts) = ap (λ b. not (x == 36) && b) (behind_onto (length p) parts)
    ∙ and-true (not (x == 36))

dollar_onto : (x : ℕ) (parts : List (List ℕ)) → suits Dollar (onto_first x parts) ≡ (x == 36)
dollar_onto x [] = ap (λ b. (x == 36) && b) (suits_inside []) ∙ and-true (x == 36)
dollar_onto x (p ∷ parts) = ap (λ b. (x == 36) && b) (suits_inside parts) ∙ and-true (x == 36)

slash_plain : (parts : List (List ℕ)) → 0 < length parts → suits Plain ([] ∷ parts) ≡ true
slash_plain [] h = absurd (omega arith)
slash_plain (p ∷ parts) h = suits_inside parts

pub plain_suits : (name : List ℕ) → 0 < length name
    → suits Plain (levels name) ≡ not (begins_with_dollar name)
plain_suits [] h = absurd (omega arith)
plain_suits (x ∷ xs) h = grind (arith, slash_plain, levels-nonempty, slash_no_dollar, suits_onto)

-- a name begins with `$` just where its levels suit the front of such names
pub dollar_suits : (name : List ℕ) → suits Dollar (levels name) ≡ begins_with_dollar name
dollar_suits [] = refl
dollar_suits (x ∷ xs) = grind (arith, slash_no_dollar, dollar_onto)

-- no piece between slashes has one
slash_onto : (x : ℕ) (ls : List (List ℕ)) → (x == 47) ≡ false → all_lack 47 ls ≡ true
    → all_lack 47 (onto_first x ls) ≡ true
slash_onto x [] n h = rw n refl
slash_onto x (l ∷ ls) n h = rw n h

-- no level has a `/` in it
pub levels_without : (text : List ℕ) → all_lack 47 (levels text) ≡ true
levels_without [] = refl
levels_without (x ∷ xs) = grind (arith, levels_without xs, slash_onto)

all_can : (ls : List (List ℕ)) → all_lack 43 ls ≡ true → all_lack 35 ls ≡ true
    → all_lack 0 ls ≡ true → all_lack 47 ls ≡ true → list_all can_be_level ls ≡ true
all_can [] a b c d = refl
all_can (l ∷ ls) a b c d = grind (arith, all_can ls)

-- what is known of a name
pub record IsValid (name : List ℕ) : Type 0 where
  pub some : 0 < length name
  pub few : length (levels name) ≤ 200
  pub can : list_all can_be_level (levels name) ≡ true

-- a valid name is not empty, and has at most 200 levels, each of which can be one
pub name_is : (name : List ℕ) → is_name name ≡ true → IsValid name
name_is name h = grind (arith, levels_lack, ltb-true, leb-true, all_can, levels_without)

-- a text with levels that a name may have is not empty
pub some_name : (name : List ℕ) (dollar : Bool) → suits (start_of dollar) (levels name) ≡ true
    → 0 < length name
some_name [] true s = absurd (let e : false ≡ true = s in cc)
some_name [] false s = absurd (let e : false ≡ true = s in cc)
some_name (x ∷ xs) dollar s = omega arith

-- a name suits the start that its first byte gives
pub name_suits : (name : List ℕ) (dollar : Bool) → 0 < length name
    → begins_with_dollar name ≡ dollar → suits (start_of dollar) (levels name) ≡ true
name_suits name true h e = dollar_suits name ∙ e
name_suits name false h e = plain_suits name h ∙ ap not e

-- a name begins with `$` just as the start that it suits says
pub suits_dollar : (name : List ℕ) (dollar : Bool) → 0 < length name
    → suits (start_of dollar) (levels name) ≡ true → begins_with_dollar name ≡ dollar
suits_dollar name true h e = sym (dollar_suits name) ∙ e
suits_dollar name false h e = not-true (begins_with_dollar name) (sym (plain_suits name h) ∙ e)

-- ---- paths
-- to map a reversed list is to reverse the mapped one
pub map_reverse : (f : Bor (List ℕ) → List ℕ) (xs : List (Bor (List ℕ)))
    → map f (reverse xs) ≡ reverse (map f xs)
map_reverse f [] = refl
map_reverse f (x ∷ xs) =
    ap (map f) (reverse-append (x ∷ []) xs) ∙ map_push f (reverse xs) x
    ∙ ap (λ l. l ++ f x ∷ []) (map_reverse f xs) ∙ sym (reverse-append (f x ∷ []) (map f xs))

-- parts that are a path in reverse show the path's levels
pub path_texts : (parts levels path : List (Bor (List ℕ))) → parts ≡ levels → levels ≡ reverse path
    → map (λ l. l.now) parts ≡ path_levels path
path_texts parts levels path e f = ap (map (λ l. l.now)) (e ∙ f) ∙ map_reverse (λ l. l.now) path
