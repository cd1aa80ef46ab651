-- Texts that differ before a wildcard or a mark: the levels don't match.
use Rattle.std.proofs.Common.{◌≡◌, ◌⊎◌, ℕ, Bool, true, false, not, ◌&&◌, ◌||◌, ◌==◌, List}
use Rattle.std.proofs.Common.{[], ◌∷◌, arith, inl, inr, refl, ap, sym, ◌∙◌, length, cond}
use Rattle.std.proofs.Common.{Option, None, codes, true≢false, ◌++◌, subst₂}
use Rattle.std.proofs.Common.{◌<◌, ◌+◌, drop, drop-cons, get_or, suc}
use Rattle.std.specs.Prelude.{nat_le}
use Rattle.std.proofs.lemmas.Bool.Decides.{nat_tests}
use Rattle.std.specs.List.{onto_first}
use Rattle.std.specs.Str.{bytes_eq}
use Rattle.mq_topic.specs.Levels.{is_slash, levels}
use Rattle.mq_topic.specs.Matching.{is_hidden, levels_match_by, matches}
use Rattle.mq_topic.proofs.Walk.{levels_match_cons}
use Rattle.mq_acl.specs.Access.{begins_with_dollar, covers, row_level_matches}
use Rattle.mq_acl.specs.Rows.{AclRow, Who, Anonymous, Named, Everyone}
use Rattle.mq_acl.specs.Starts.{StartsApart, is_special}
use Rattle.mq_topic.specs.Texts.{contains_byte, is_name, is_plain, is_text}
use Rattle.std.proofs.lemmas.Bool.{and_parts, not-true, or_parts}

-- a level that is no wildcard and no mark
abbrev is_literal : List ℕ → Bool
is_literal [] = true
is_literal (x ∷ xs) = not (is_special x)

-- at some level they differ, and there the filter's is literal; before it they are the same
abbrev Apart : (filter name : List (List ℕ)) → Type 0
Apart [] ns = ⊥
Apart (w ∷ fs) [] = ⊥
Apart (w ∷ fs) (l ∷ ns) =
    ((is_literal w ≡ true) × (bytes_eq w l ≡ false)) ⊎ ((w ≡ l) × Apart fs ns)

same_byte : (n : ℕ) → (n == n) ≡ true
same_byte n = grind (arith, nat_tests)

onto_apart : (x : ℕ) → is_special x ≡ false → (fs ns : List (List ℕ)) → Apart fs ns
    → Apart (onto_first x fs) (onto_first x ns)
onto_apart x plain [] ns h = absurd h
onto_apart x plain (w ∷ fs) [] h = absurd h
onto_apart x plain (w ∷ fs) (l ∷ ns) (inl h) =
    inl (ap not plain, ap (λ b. b && bytes_eq w l) (same_byte x) ∙ h.1)
onto_apart x plain (w ∷ fs) (l ∷ ns) (inr h) = inr (ap (λ t. x ∷ t) h.0, h.1)

-- two texts whose first bytes differ, of which the filter's is literal
first_apart : (x y : ℕ) (xs ys : List ℕ) → is_special x ≡ false → (x == y) ≡ false
    → (a b : Bool) → is_slash x ≡ a → is_slash y ≡ b
    → Apart (cond a ([] ∷ levels xs) (onto_first x (levels xs)))
    (cond b ([] ∷ levels ys) (onto_first y (levels ys)))
first_apart x y xs ys plain differ true true e f = absurd (grind (arith, nat_tests, e, f, differ))
first_apart x y xs ys plain differ true false e f = at (levels ys)
  where
    at : (ls : List (List ℕ)) → Apart ([] ∷ levels xs) (onto_first y ls)
    at [] = inl (refl, refl)
    at (l ∷ ls) = inl (refl, refl)
first_apart x y xs ys plain differ false true e f = at (levels xs)
  where
    at : (ls : List (List ℕ)) → Apart (onto_first x ls) ([] ∷ levels ys)
    at [] = inl (ap not plain, refl)
    at (l ∷ ls) = inl (ap not plain, refl)
first_apart x y xs ys plain differ false false e f = at (levels xs) (levels ys)
  where
    at : (ls ms : List (List ℕ)) → Apart (onto_first x ls) (onto_first y ms)
    at [] [] = inl (ap not plain, ap (λ b. b && bytes_eq [] []) differ)
    at [] (m ∷ ms) = inl (ap not plain, ap (λ b. b && bytes_eq [] m) differ)
    at (l ∷ ls) [] = inl (ap not plain, ap (λ b. b && bytes_eq l []) differ)
    at (l ∷ ls) (m ∷ ms) = inl (ap not plain, ap (λ b. b && bytes_eq l m) differ)

starts_levels : (start fs ns : List ℕ) (x y : ℕ) → contains_byte 37 start ≡ false
    → contains_byte 43 (start ++ y ∷ ns) ≡ false → contains_byte 35 (start ++ y ∷ ns) ≡ false
    → is_special x ≡ false → (x == y) ≡ false
    → Apart (levels (start ++ x ∷ fs)) (levels (start ++ y ∷ ns))
starts_levels [] fs ns x y marks plus hash plain differ =
    first_apart x y fs ns plain differ (is_slash x) (is_slash y) refl refl
starts_levels (s ∷ ss) fs ns x y marks plus hash plain differ =
    let mark = or_parts (s == 37) (contains_byte 37 ss) marks in
    let one = or_parts (s == 43) (contains_byte 43 (ss ++ y ∷ ns)) plus in
    let all = or_parts (s == 35) (contains_byte 35 (ss ++ y ∷ ns)) hash in
    at (is_slash s) (rw (mark.0, one.0, all.0) refl)
    (starts_levels ss fs ns x y mark.1 one.1 all.1 plain differ)
  where
    at : (a : Bool) → is_special s ≡ false
        → Apart (levels (ss ++ x ∷ fs)) (levels (ss ++ y ∷ ns))
        → Apart (cond a ([] ∷ levels (ss ++ x ∷ fs)) (onto_first s (levels (ss ++ x ∷ fs))))
        (cond a ([] ∷ levels (ss ++ y ∷ ns)) (onto_first s (levels (ss ++ y ∷ ns))))
    at true literal rest = inr (refl, rest)
    at false literal rest =
        onto_apart s literal (levels (ss ++ x ∷ fs)) (levels (ss ++ y ∷ ns)) rest

levels_apart : (filter name : List ℕ) → is_plain name ≡ true → StartsApart filter name
    → Apart (levels filter) (levels name)
levels_apart filter name plain apart =
    let both = and_parts (not (contains_byte 43 name)) (not (contains_byte 35 name)) plain in
    let lacks : (b : ℕ) → not (contains_byte b name) ≡ true
    → contains_byte b (apart.start ++ apart.byte ∷ apart.name_rest) ≡ false =
    λ b h. ap (contains_byte b) (sym apart.name_is) ∙ not-true (contains_byte b name) h in
    subst₂ (λ f n. Apart (levels f) (levels n)) (sym apart.filter_is) (sym apart.name_is)
    (starts_levels apart.start apart.filter_rest apart.name_rest apart.wanted apart.byte
    apart.unmarked (lacks 43 both.0) (lacks 35 both.1) apart.literal apart.differ)

not_named : (w : List ℕ) (byte : ℕ) (rest : List ℕ) → is_literal w ≡ true
    → (is_special byte ≡ true) → bytes_eq w (byte ∷ rest) ≡ false
not_named [] byte rest h s = refl
not_named (x ∷ xs) byte rest h s = at (x == byte) refl
  where
    at : (b : Bool) → (x == byte) ≡ b → ((x == byte) && bytes_eq xs rest) ≡ false
    at false e = ap (λ c. c && bytes_eq xs rest) e
    at true e =
        let same : x ≡ byte = grind (arith, nat_tests, e) in
        absurd (true≢false (sym h ∙ ap not (ap is_special same ∙ s)))

-- a literal level of a row matches itself alone
literal_apart : (who : Who) (client : List ℕ) (user : Option (List ℕ)) (w l : List ℕ)
    → is_literal w ≡ true → bytes_eq w l ≡ false → row_level_matches who client user w l ≡ false
literal_apart Everyone client user w l h e = rw (
  not_named w 37 (99 ∷ []) h refl,
  not_named w 37 (117 ∷ []) h refl,
  not_named w 43 [] h refl,
  e,
) refl
literal_apart Anonymous client user w l h e = rw (not_named w 43 [] h refl, e) refl
literal_apart (Named name) client user w l h e = rw (not_named w 43 [] h refl, e) refl

and_none : (b : Bool) → (b && false) ≡ false
and_none true = refl
and_none false = refl

some_levels : (fs ns : List (List ℕ)) → Apart fs ns → (length fs == 0) ≡ false
some_levels [] ns h = absurd h
some_levels (w ∷ fs) ns h = grind (arith, nat_tests)

apart_levels : (who : Who) (client : List ℕ) (user : Option (List ℕ)) (fs ns : List (List ℕ))
    → Apart fs ns → levels_match_by (row_level_matches who client user) fs ns ≡ false
apart_levels who client user [] ns h = absurd h
apart_levels who client user (w ∷ fs) [] h = absurd h
apart_levels who client user (w ∷ fs) (l ∷ ns) (inl h) =
    levels_match_cons (row_level_matches who client user) w l fs ns
    (ap (λ b. b && (length fs == 0)) (not_named w 35 [] h.0 refl))
    ∙ ap (λ b. b && levels_match_by (row_level_matches who client user) fs ns)
    (literal_apart who client user w l h.0 h.1)
apart_levels who client user (w ∷ fs) (l ∷ ns) (inr h) =
    levels_match_cons (row_level_matches who client user) w l fs ns
    (ap (λ b. bytes_eq w (codes "#") && b) (some_levels fs ns h.1) ∙ and_none (bytes_eq w (codes "#")))
    ∙ ap (λ b. row_level_matches who client user w l && b) (apart_levels who client user fs ns h.1)
    ∙ and_none (row_level_matches who client user w l)

name_is_plain : (text : List ℕ) → is_name text ≡ true → is_plain text ≡ true
name_is_plain text h =
    let short = nat_le (length (levels text)) 200 in
    (and_parts (is_text text) (is_plain text) (and_parts (is_text text && is_plain text) short h).0).1

-- a row whose filter starts apart from the name doesn't cover it
pub not_covered : (client : List ℕ) (user : Option (List ℕ)) (name : List ℕ) (row : AclRow)
    → is_name name ≡ true → StartsApart row.filter name → false ≡ covers client user name row
not_covered client user name row valid apart =
    let may = not (begins_with_dollar name) || begins_with_dollar row.filter in
    sym (ap (λ b. may && b) (apart_levels row.who client user (levels row.filter) (levels name)
    (levels_apart row.filter name (name_is_plain name valid) apart)) ∙ and_none may)

pub apart_at_once : (x y : ℕ) (fs ns filter name : List ℕ) → filter ≡ x ∷ fs → name ≡ y ∷ ns
    → is_special x ≡ false → (x == y) ≡ false → StartsApart filter name
apart_at_once x y fs ns filter name is_filter is_name literal differ = record {
  start = [];
  wanted = x;
  byte = y;
  filter_rest = fs;
  name_rest = ns;
  filter_is = is_filter;
  name_is = is_name;
  unmarked = refl;
  literal = literal;
  differ = differ;
}

pub apart_behind : (x y : ℕ) (fs ns filter name : List ℕ) → filter ≡ x ∷ fs → name ≡ y ∷ ns
    → x ≡ y → (x == 37) ≡ false → StartsApart fs ns → StartsApart filter name
apart_behind x y fs ns filter name is_filter is_name same unmarked rest = record {
  start = x ∷ rest.start;
  wanted = rest.wanted;
  byte = rest.byte;
  filter_rest = rest.filter_rest;
  name_rest = rest.name_rest;
  filter_is = is_filter ∙ ap (λ t. x ∷ t) rest.filter_is;
  name_is = is_name ∙ (λ i. sym same i ∷ rest.name_is i);
  unmarked = ap (λ b. b || contains_byte 37 rest.start) unmarked ∙ rest.unmarked;
  literal = rest.literal;
  differ = rest.differ;
}

-- and one that starts apart from the name doesn't match it
pub not_matched : (name filter : List ℕ) → is_name name ≡ true → StartsApart filter name
    → false ≡ matches (levels filter) (levels name)
not_matched name filter valid apart =
    let fs = levels filter in
    let ns = levels name in
    let may = not (length ns == 0) && not (is_hidden fs ns) in
    sym (ap (λ b. may && b) (apart_levels Anonymous [] None fs ns
    (levels_apart filter name (name_is_plain name valid) apart)) ∙ and_none may)

-- what stands from a place on
pub from_place : (xs : List ℕ) (at : ℕ) → at < length xs
    → drop at xs ≡ get_or xs at 0 ∷ drop (at + 1) xs
from_place xs at within =
    let next : suc at ≡ at + 1 = omega arith in
    drop-cons xs at 0 within ∙ ap (λ k. get_or xs at 0 ∷ drop k xs) next
