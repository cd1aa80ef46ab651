-- Rows whose topics are all taken from the region.
use Rattle.std.proofs.Common.{◌≡◌, ◌<◌, ◌≤◌, ◌+◌, ℕ, zero, suc, arith, Bool, true, false, cond, not, ◌&&◌}
use Rattle.std.proofs.Common.{◌||◌}
use Rattle.std.proofs.Common.{List, [], ◌∷◌, ◌++◌, length, get_or, take, refl, ap, sym, ◌∙◌}
use Rattle.std.proofs.Common.{Option, Bor}
use Rattle.std.specs.Prelude.{codes}
use Rattle.std.specs.Option.{option_or}
use Rattle.std.specs.Str.{bytes_eq}
use Rattle.std.proofs.Math.Bool.{or-true}
use Rattle.std.proofs.lemmas.Bool.{and_parts, or_from, or_parts}
use Rattle.std.proofs.lemmas.List.{take_all, take_more}
use Rattle.mq_topic.specs.Levels.{levels}
use Rattle.mq_topic.specs.Matching.{level_matches, levels_match_by, matches}
use Rattle.mq_topic.specs.Texts.{is_name}
use Rattle.mq_topic.proofs.Walk.{levels_match_cons, levels_match_end}
use Rattle.mq_cover.proofs.RemainderLemmas.{covers_hash}
use Rattle.mq_acl.specs.Access.{applies, begins_with_dollar, concerns, covers, is_user}
use Rattle.mq_acl.specs.Access.{pattern_level_matches}
use Rattle.mq_acl.specs.Rows.{Who, Anonymous, Named, Everyone}
use Rattle.mq_acl.specs.RowsByOwner.{is_everyones}
use Rattle.mq_acl.specs.Views.{owner_view, row_view}
use Rattle.mq_acl.specs.declared.row.Row.{Row}
use Rattle.mq_rename.specs.Lists.{is_last_hash, texts}
use Rattle.mq_regions.specs.Deciding.{first_line}
use Rattle.mq_regions.specs.Regions.{has_mark, in_kind, in_region, is_mark, is_taken}
use Rattle.mq_regions.specs.declared.region.Region.{Region}
use Rattle.mq_through.specs.Made.{DecideAlike}
use Rattle.mq_through.specs.Needed.{IsIdle}
use Rattle.mq_through.proofs.RowLemmas.{covered, first_append, first_none, one_line}

-- ---- one row
-- what two filters match together is all that the second one does, where it is the second one
pub within : (taken filter met : List ℕ)
    → ((n : List ℕ) → is_name n ≡ true → matches (levels met) (levels n)
    ≡ (matches (levels taken) (levels n) && matches (levels filter) (levels n)))
    → met ≡ filter → (n : List ℕ) → is_name n ≡ true → matches (levels filter) (levels n) ≡ true
    → matches (levels taken) (levels n) ≡ true
within taken filter met same e n h g =
    (and_parts (matches (levels taken) (levels n)) (matches (levels filter) (levels n))
    (sym (same n h) ∙ ap (λ t. matches (levels t) (levels n)) e ∙ g)).0

-- a text that one of the filters matches is taken
pub taken_at : (taken : List (Bor (List ℕ))) (i : ℕ) (other : Bor (List ℕ)) (n : List ℕ)
    → i < length taken → other ≡ get_or taken i other
    → matches (levels other.now) (levels n) ≡ true → is_taken (texts taken) n ≡ true
taken_at [] i other n h e m = absurd (omega arith)
taken_at (t ∷ ts) zero other n h e m =
    ap (λ (o : Bor (List ℕ)). matches (levels o.now) (levels n) || is_taken (texts ts) n) (sym e)
    ∙ ap (λ b. b || is_taken (texts ts) n) m
taken_at (t ∷ ts) (suc i) other n h e m =
    ap (λ b. matches (levels t.now) (levels n) || b)
    (taken_at ts i other n (omega arith) e m)
    ∙ or-true (matches (levels t.now) (levels n))

-- without marks the levels of a `pattern` line pass what those of a filter do
plain_read : (x : List ℕ) (u : Option (List ℕ)) (w l : List ℕ) → is_mark w ≡ false
    → pattern_level_matches x u w l ≡ level_matches w l
plain_read x u w l h =
    let both = or_parts (bytes_eq w (codes "%c")) (bytes_eq w (codes "%u")) h in
    (λ i. cond (both.0 i) (bytes_eq l x) (cond (both.1 i) (is_user l u) (level_matches w l)))

plain_levels : (x : List ℕ) (u : Option (List ℕ)) (ws ls : List (List ℕ)) → has_mark ws ≡ false
    → levels_match_by (pattern_level_matches x u) ws ls ≡ levels_match_by level_matches ws ls
plain_levels x u [] [] h = refl
plain_levels x u [] (l ∷ ls) h = refl
plain_levels x u (w ∷ ws) ls h =
    at (is_last_hash w ws) refl ls (λ ls. plain_levels x u ws ls none.1)
  where
    none : (is_mark w ≡ false) × (has_mark ws ≡ false)
    none = or_parts (is_mark w) (has_mark ws) h

    at : (b : Bool) → is_last_hash w ws ≡ b → (ls : List (List ℕ))
        → ((ls : List (List ℕ)) → levels_match_by (pattern_level_matches x u) ws ls
        ≡ levels_match_by level_matches ws ls)
        → levels_match_by (pattern_level_matches x u) (w ∷ ws) ls
        ≡ levels_match_by level_matches (w ∷ ws) ls
    at true e ls rest =
        covers_hash (pattern_level_matches x u) w ws ls e ∙ sym (covers_hash level_matches w ws ls e)
    at false e [] rest =
        levels_match_end (pattern_level_matches x u) w ws e
        ∙ sym (levels_match_end level_matches w ws e)
    at false e (l ∷ ls) rest =
        levels_match_cons (pattern_level_matches x u) w l ws ls e
        ∙ (λ i. plain_read x u w l none.0 i && rest ls i)
        ∙ sym (levels_match_cons level_matches w l ws ls e)

-- a row for all clients, without marks, concerns only what its filter matches
pub idle_row : (region : Region) (row : Row) → is_everyones (owner_view row.owner) ≡ true
    → has_mark (levels row.filter) ≡ false
    → ((n : List ℕ) → is_name n ≡ true → matches (levels row.filter) (levels n) ≡ true
    → is_taken (texts region.taken.items) n ≡ true) → IsIdle region row
idle_row region row who marks all = record {
  silent = λ x n u h g. at x n u h g (concerns x u n (row_view row)) refl;
}
  where
    cover : (x n : List ℕ) (u : Option (List ℕ)) (w : Who) → is_everyones w ≡ true
        → covers x u n (record { who = w; access = (row_view row).access; filter = row.filter })
        ≡ true → matches (levels row.filter) (levels n) ≡ true
    cover x n u Anonymous e k = absurd (let q : false ≡ true = e in cc)
    cover x n u (Named name) e k = absurd (let q : false ≡ true = e in cc)
    cover x n u Everyone e k =
        covered n row.filter
        (ap (λ b. (not (begins_with_dollar n) || begins_with_dollar row.filter) && b)
        (sym (plain_levels x u (levels row.filter) (levels n) marks)) ∙ k)

    at : (x n : List ℕ) (u : Option (List ℕ)) → is_name n ≡ true → in_region region n ≡ true
        → (b : Bool) → concerns x u n (row_view row) ≡ b → b ≡ false
    at x n u h g false k = refl
    at x n u h g true k = absurd (
        let m : matches (levels row.filter) (levels n) ≡ true =
        cover x n u (row_view row).who who
        (and_parts (applies u (row_view row).who) (covers x u n (row_view row)) k).1 in
        let free : not (is_taken (texts region.taken.items) n) ≡ true =
        (and_parts (not (is_taken (texts region.taken.items) n)) (in_kind region.kind n) g).0 in
        let q : false ≡ true = sym (ap not (all n h m)) ∙ free in cc)

-- ---- lists with such rows
pub idle_alike : (region : Region) (row other : Row) → IsIdle region row → IsIdle region other
    → DecideAlike region (row ∷ []) (other ∷ [])
idle_alike region row other one two x n u p h g =
    first_none p x u n (row ∷ []) (or_from (concerns x u n (row_view row)) false
    (one.silent x n u h g) refl)
    ∙ sym (first_none p x u n (other ∷ []) (or_from (concerns x u n (row_view other)) false
    (two.silent x n u h g) refl))

pub same_alike : (region : Region) (row other : Row) → row.line ≡ other.line
    → row_view row ≡ row_view other → DecideAlike region (row ∷ []) (other ∷ [])
same_alike region row other line view x n u p h g = one_line p x u n row other line view

pub alike_more : (region : Region) (rows others : List Row) (i : ℕ) (row other : Row)
    → i < length rows → i < length others → row ≡ get_or rows i row
    → other ≡ get_or others i other → DecideAlike region (row ∷ []) (other ∷ [])
    → DecideAlike region (take i rows) (take i others)
    → DecideAlike region (take (i + 1) rows) (take (i + 1) others)
alike_more region rows others i row other low low_too is is_too one before x n u p h g =
    ap (first_line p x u n) (at rows row low is)
    ∙ first_append p x u n (take i rows) (row ∷ [])
    ∙ (λ j. option_or (before x n u p h g j) (one x n u p h g j))
    ∙ sym (first_append p x u n (take i others) (other ∷ []))
    ∙ sym (ap (first_line p x u n) (at others other low_too is_too))
  where
    at : (all : List Row) (r : Row) → i < length all → r ≡ get_or all i r
        → take (i + 1) all ≡ take i all ++ (r ∷ [])
    at all r l e = take_more all i r l ∙ ap (λ (s : Row). take i all ++ (s ∷ [])) (sym e)

pub alike_all : (region : Region) (rows others : List Row) (i : ℕ) → length rows ≤ i
    → length others ≤ i → DecideAlike region (take i rows) (take i others)
    → DecideAlike region rows others
alike_all region rows others i past over same x n u p h g =
    ap (first_line p x u n) (sym (take_all i rows past)) ∙ same x n u p h g
    ∙ ap (first_line p x u n) (take_all i others over)
