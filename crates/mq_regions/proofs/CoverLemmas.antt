-- Which names `pattern` rows cover, and their filters match.
use Rattle.std.proofs.Common.{◌≡◌, ◌<◌, ℕ, Bool, true, false, not, ◌&&◌, ◌||◌, List, [], ◌∷◌}
use Rattle.std.proofs.Common.{length, refl, ap, sym, ◌∙◌, arith, Option}
use Rattle.std.specs.Prelude.{codes}
use Rattle.std.specs.List.{list_any}
use Rattle.std.specs.Str.{bytes_eq}
use Rattle.std.proofs.lemmas.Bool.{and_parts, or_parts, eqb-true, false_from_ne_true, ne_eqb}
use Rattle.mq_topic.specs.Levels.{levels}
use Rattle.mq_topic.specs.Matching.{is_hidden, is_wildcard, level_at, level_matches}
use Rattle.mq_topic.specs.Matching.{levels_match_by, matches}
use Rattle.mq_topic.proofs.ByteLemmas.{text_is}
use Rattle.mq_topic.proofs.Walk.{levels-nonempty, shown}
use Rattle.mq_acl.specs.Access.{begins_with_dollar, is_user, pattern_level_matches}
use Rattle.mq_rename.specs.Lists.{has_long, is_long, levels_match}
use Rattle.mq_rename.proofs.FitLemmas.{no_last}
use Rattle.mq_rename.proofs.MatchLemmas.{dollar_is_text, front_is, has_dollar, matches_parts}
use Rattle.mq_rename.proofs.MatchLemmas.{no_hash, no_plus, only_itself}
use Rattle.mq_regions.specs.Regions.{has_mark}
use Rattle.mq_regions.proofs.ReadLemmas.{Pairwise, ends, pair, along, alike}
use Rattle.mq_regions.proofs.StandLemmas.{Leads, Stands, at_user_own, at_user_stands, is_users}
use Rattle.mq_regions.proofs.StandLemmas.{mark_dollar, short_dollar, stands_dollar, stands_read}
use Rattle.mq_regions.proofs.StandLemmas.{plain_read, user_read}

-- ---- `$`
-- a text begins with `$` where its first level does
pub dollar_is : (t : List ℕ) → begins_with_dollar t ≡ has_dollar (level_at (levels t) 0)
dollar_is [] = refl
dollar_is (x ∷ xs) = grind (arith, levels-nonempty, has_dollar, eqb-true)

-- of levels that match, the first is the name's, if it is no wildcard
front_at : (fs ns : List (List ℕ)) → 0 < length fs → 0 < length ns
    → is_wildcard (level_at fs 0) ≡ false → levels_match fs ns ≡ true
    → level_at fs 0 ≡ level_at ns 0
front_at [] ns p q w m = absurd (omega arith)
front_at (f ∷ fs) [] p q w m = absurd (omega arith)
front_at (f ∷ fs) (n ∷ ns) p q w m = front_is f n fs ns w m

-- a filter that matches a name that begins with `$` begins with the same level
front_matched : (filter name : List ℕ) → matches (levels filter) (levels name) ≡ true
    → has_dollar (level_at (levels name) 0) ≡ true
    → level_at (levels filter) 0 ≡ level_at (levels name) 0
front_matched filter name m d = grind (arith, matches_parts, front_at, levels-nonempty)

dollar_matched : (filter name : List ℕ) → matches (levels filter) (levels name) ≡ true
    → has_dollar (level_at (levels name) 0) ≡ true
    → has_dollar (level_at (levels filter) 0) ≡ true
dollar_matched filter name m d = ap has_dollar (front_matched filter name m d) ∙ d

-- a filter that begins as a name does that begins with `$` doesn't hide it
pub not_hidden : (filter name : List ℕ)
    → (has_dollar (level_at (levels name) 0) ≡ true
    → has_dollar (level_at (levels filter) 0) ≡ true)
    → is_hidden (levels filter) (levels name) ≡ false
not_hidden filter name f = grind (arith, false_from_ne_true, and_parts, dollar_is_text)

-- ---- rows without marks
covered : (z d w b m : Bool) → z ≡ false → (b ≡ true → w ≡ false)
    → (m ≡ true → w ≡ false → b ≡ d)
    → ((not d || b) && m) ≡ (not z && not (d && w) && m)
covered z d w b m e f g = grind arith

pub cover_is : (filter name : List ℕ)
    → ((not (begins_with_dollar name) || begins_with_dollar filter)
    && levels_match (levels filter) (levels name)) ≡ matches (levels filter) (levels name)
cover_is filter name =
    grind (arith, levels-nonempty, dollar_is, covered, has_dollar, ne_eqb, dollar_is_text, front_at)

-- a `pattern` row with the filter covers the name, for the client and the user
abbrev pub pattern_covers : List ℕ → Option (List ℕ) → List ℕ → List ℕ → Bool
pattern_covers client user name filter =
    (not (begins_with_dollar name) || begins_with_dollar filter)
    && levels_match_by (pattern_level_matches client user) (levels filter) (levels name)

pub plain_covers : (c : List ℕ) (u : Option (List ℕ)) (name filter : List ℕ)
    → has_mark (levels filter) ≡ false
    → pattern_covers c u name filter ≡ matches (levels filter) (levels name)
plain_covers c u name filter h = grind (arith, alike, plain_read, cover_is)

-- such a row begins with `$` if the name does
pub covers_dollar : (name filter : List ℕ)
    → (not (begins_with_dollar name) || begins_with_dollar filter) ≡ true
    → has_dollar (level_at (levels name) 0) ≡ true
    → has_dollar (level_at (levels filter) 0) ≡ true
covers_dollar name filter c d = grind (arith, dollar_is)

-- ---- names that stand for others
pub first_pair : {R : List ℕ → List ℕ → Type 0} {ks ls : List (List ℕ)} → 0 < length ls
    → Pairwise R ks ls → R (level_at ks 0) (level_at ls 0)
first_pair h ends = absurd (omega arith)
first_pair h (pair r s) = r

-- what matches the one, as it is written, covers the other
pub read_stands : (x : List ℕ) (u : Option (List ℕ)) (filter k m : List ℕ)
    → has_long (levels filter) ≡ false → Pairwise (Stands x u) (levels k) (levels m)
    → (has_dollar (level_at (levels m) 0) ≡ true → has_dollar (level_at (levels k) 0) ≡ true)
    → matches (levels filter) (levels k) ≡ true → pattern_covers x u m filter ≡ true
read_stands x u filter k m h s d e =
    grind (arith, along, stands_read, matches_parts, dollar_is, dollar_matched)

-- what covers the one matches the other, in which `%u` stands for the user name
abbrev pub bad_level : Option (List ℕ) → List ℕ → Bool
bad_level v w = is_long w || (bytes_eq w (codes "%c") || is_users v w)

lead_dollar : (v : Option (List ℕ)) (l k : List ℕ) → Leads v l k → has_dollar k ≡ true
    → has_dollar l ≡ true
lead_dollar v l k r d =
    stands_dollar (at_user_stands [] v v (λ l e. e) l) (sym (ap has_dollar r.1) ∙ d)

-- and the other way round, where it isn't the user name
pub dollar_lead : (v : Option (List ℕ)) (l k : List ℕ) → Leads v l k → is_user l v ≡ false
    → has_dollar l ≡ true → has_dollar k ≡ true
dollar_lead v l k r e d = ap has_dollar (r.1 ∙ at_user_own v l e) ∙ short_dollar l ∙ d

pub lead_matches : (c : List ℕ) (v : Option (List ℕ)) (filter m k : List ℕ)
    → list_any (bad_level v) (levels filter) ≡ false → Pairwise (Leads v) (levels m) (levels k)
    → pattern_covers c v m filter ≡ true → matches (levels filter) (levels k) ≡ true
lead_matches c v filter m k h s e =
    let parts = and_parts _ _ e in
    shown (levels filter) k (not_hidden filter k (λ f. covers_dollar m filter parts.0
    (lead_dollar v _ _ (first_pair (levels-nonempty k) s) f)))
    ∙ along (pattern_level_matches c v) level_matches (bad_level v) (user_read c v) (levels filter)
    h s parts.1

-- ---- names that begin with a level that is no user name
-- where that level is a filter's
own_level : (v : Option (List ℕ)) (l : List ℕ) → has_dollar l ≡ true → is_users v l ≡ false
    → is_user l v ≡ false
own_level v l d h =
    let user : bytes_eq l (codes "%u") ≡ false =
    false_from_ne_true _ (λ e.
    let k : false ≡ true = sym (ap has_dollar (text_is l (codes "%u") e)) ∙ d in cc) in
    sym (λ i. (not (dollar_is_text l d i) && not (user i)) && is_user l v) ∙ h

first_none : (p : List ℕ → Bool) (ls : List (List ℕ)) → 0 < length ls → list_any p ls ≡ false
    → p (level_at ls 0) ≡ false
first_none p [] h e = absurd (omega arith)
first_none p (l ∷ ls) h e = (or_parts _ _ e).0

first_own : (v : Option (List ℕ)) (filter n : List ℕ) → list_any (is_users v) (levels filter) ≡
    false
    → level_at (levels filter) 0 ≡ level_at (levels n) 0 → has_dollar (level_at (levels n) 0) ≡ true
    → is_user (level_at (levels n) 0) v ≡ false
first_own v filter n h is d = grind (arith, own_level, is_users, first_none, levels-nonempty)

pub own_front : (v : Option (List ℕ)) (filter n : List ℕ)
    → list_any (is_users v) (levels filter) ≡ false → matches (levels filter) (levels n) ≡ true
    → has_dollar (level_at (levels n) 0) ≡ true → is_user (level_at (levels n) 0) v ≡ false
own_front v filter n h m d = first_own v filter n h (front_matched filter n m d) d

-- where a row that covers it has it
first_read : (c : List ℕ) (v : Option (List ℕ)) (fs ns : List (List ℕ)) → 0 < length fs
    → 0 < length ns → has_dollar (level_at fs 0) ≡ true
    → levels_match_by (pattern_level_matches c v) fs ns ≡ true
    → level_at fs 0 ≡ level_at ns 0
first_read c v [] ns p q d m = absurd (omega arith)
first_read c v (f ∷ fs) [] p q d m = absurd (omega arith)
first_read c v (f ∷ fs) (n ∷ ns) p q d m =
    grind (arith, dollar_is_text, mark_dollar, no_last, no_hash, only_itself, no_plus, plain_read)

pub own_covered : (c : List ℕ) (v : Option (List ℕ)) (filter m : List ℕ)
    → list_any (is_users v) (levels filter) ≡ false → pattern_covers c v m filter ≡ true
    → has_dollar (level_at (levels m) 0) ≡ true → is_user (level_at (levels m) 0) v ≡ false
own_covered c v filter m h e d =
    grind (arith, first_own, first_read, levels-nonempty, covers_dollar)
