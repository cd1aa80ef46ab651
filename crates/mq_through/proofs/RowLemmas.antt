-- Rows of lists, one behind the other, and what they cover.
use Rattle.std.proofs.Common.{◌≡◌, ◌<◌, ◌==◌, ℕ, Bool, true, false, cond, not, ◌&&◌, ◌||◌}
use Rattle.std.proofs.Common.{List, [], ◌∷◌, ◌++◌, length, refl, ap, sym, ◌∙◌, arith, Option, Some}
use Rattle.std.proofs.Common.{None}
use Rattle.std.specs.List.{find, list_any, onto_first}
use Rattle.std.specs.Option.{option_map, option_or}
use Rattle.std.proofs.Math.Bool.{and-false}
use Rattle.std.proofs.lemmas.Bool.{and_parts, eqb-true, or_parts}
use Rattle.std.proofs.lemmas.List.{map-append}
use Rattle.std.proofs.lemmas.List.Folds.{find-append, list_any-append}
use Rattle.mq_topic.specs.Levels.{is_slash, levels}
use Rattle.mq_topic.specs.Matching.{is_hidden, is_wildcard, level_at, level_matches}
use Rattle.mq_topic.specs.Matching.{levels_match_by, matches}
use Rattle.mq_topic.proofs.Walk.{levels-nonempty, shown}
use Rattle.mq_acl.specs.Access.{begins_with_dollar, concerns}
use Rattle.mq_acl.specs.Lines as lines
use Rattle.mq_acl.specs.Rows.{AclRow}
use Rattle.mq_acl.specs.Views.{access_view, row_view, row_views}
use Rattle.mq_acl.specs.declared.row.Row.{Row}
use Rattle.mq_rename.proofs.MatchLemmas.{dollar_is_text, has_dollar}
use Rattle.mq_regions.specs.Deciding.{decides, first_line}

pub any_views : (p : AclRow → Bool) (xs ys : List Row)
    → list_any p (row_views (xs ++ ys)) ≡ (list_any p (row_views xs) || list_any p (row_views ys))
any_views p xs ys =
    ap (list_any p) (map-append row_view xs ys) ∙ list_any-append p (row_views xs) (row_views ys)

or_map : (o q : Option Row) → option_map (λ row. row.line) (option_or o q)
    ≡ option_or (option_map (λ row. row.line) o) (option_map (λ row. row.line) q)
or_map None q = refl
or_map (Some row) q = refl

pub first_append : (p : lines.Access → Bool) (x : List ℕ) (u : Option (List ℕ)) (n : List ℕ)
    (xs ys : List Row) → first_line p x u n (xs ++ ys)
    ≡ option_or (first_line p x u n xs) (first_line p x u n ys)
first_append p x u n xs ys =
    ap (option_map (λ row. row.line)) (find-append (decides p x u n) xs ys)
    ∙ or_map (find (decides p x u n) xs) (find (decides p x u n) ys)

-- of a row only its line and what it says matter
pub one_line : (p : lines.Access → Bool) (x : List ℕ) (u : Option (List ℕ)) (n : List ℕ)
    (row other : Row) → row.line ≡ other.line → row_view row ≡ row_view other
    → first_line p x u n (row ∷ []) ≡ first_line p x u n (other ∷ [])
one_line p x u n row other line view =
    at (tests (row_view row)) (tests (row_view other)) (ap tests view)
  where
    tests : AclRow → Bool
    tests r = concerns x u n r && p r.access

    at : (a b : Bool) → a ≡ b → option_map (λ (r : Row). r.line) (cond a (Some row) None)
        ≡ option_map (λ (r : Row). r.line) (cond b (Some other) None)
    at true true e = ap Some line
    at false false e = refl
    at true false e = absurd (let q : true ≡ false = e in cc)
    at false true e = absurd (let q : false ≡ true = e in cc)

-- rows that don't concern the name don't decide
pub first_none : (p : lines.Access → Bool) (x : List ℕ) (u : Option (List ℕ)) (n : List ℕ)
    (rows : List Row) → list_any (concerns x u n) (row_views rows) ≡ false
    → first_line p x u n rows ≡ None
first_none p x u n [] h = refl
first_none p x u n (row ∷ rows) h =
    let both = or_parts (concerns x u n (row_view row))
    (list_any (concerns x u n) (row_views rows)) h
    in
    ap (λ b. option_map (λ row. row.line) (cond (b && p (access_view row.access)) (Some row)
    (find (decides p x u n) rows))) both.0
    ∙ first_none p x u n rows both.1

-- a text begins with `$` where its first level does
dollar_is : (t : List ℕ) → begins_with_dollar t ≡ has_dollar (level_at (levels t) 0)
dollar_is [] = refl
dollar_is (x ∷ xs) = at (is_slash x) refl (levels xs) (levels-nonempty xs)
  where
    at : (b : Bool) → is_slash x ≡ b → (ls : List (List ℕ)) → 0 < length ls
        → (x == 36) ≡ has_dollar (level_at (cond b ([] ∷ ls) (onto_first x ls)) 0)
    at true e ls h = ap (λ y. y == 36) (eqb-true x 47 e)
    at false e [] h = absurd (omega arith)
    at false e (p ∷ ps) h = refl

-- what the row of a `topic` line covers its filter matches
pub covered : (name filter : List ℕ)
    → ((not (begins_with_dollar name) || begins_with_dollar filter)
    && levels_match_by level_matches (levels filter) (levels name)) ≡ true
    → matches (levels filter) (levels name) ≡ true
covered name filter h =
    let both = and_parts (not (begins_with_dollar name) || begins_with_dollar filter)
    (levels_match_by level_matches (levels filter) (levels name)) h in
    shown (levels filter) name
    (at (begins_with_dollar name) (begins_with_dollar filter) refl refl both.0)
    ∙ both.1
  where
    at : (a b : Bool) → begins_with_dollar name ≡ a → begins_with_dollar filter ≡ b
        → (not a || b) ≡ true → is_hidden (levels filter) (levels name) ≡ false
    at false b i j k = ap (λ c. c && is_wildcard (level_at (levels filter) 0))
        (sym (dollar_is name) ∙ i)
    at true true i j k =
        ap (λ c. has_dollar (level_at (levels name) 0) && c)
        (dollar_is_text (level_at (levels filter) 0) (sym (dollar_is filter) ∙ j))
        ∙ and-false (has_dollar (level_at (levels name) 0))
    at true false i j k = absurd (let q : false ≡ true = k in cc)
