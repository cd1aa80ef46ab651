-- What is left of filters without marks.
use Rattle.std.proofs.Common.{◌≡◌, ◌∙◌, ◌&&◌, ◌||◌, ◌≤◌, ℕ, Bool, true, false, not, List, [], ◌∷◌, ap, length, map, refl, sym}
use Rattle.std.proofs.Common.{Global, String, arith, nat_le, subst, ◌<◌}
use Rattle.std.specs.List.{list_all, list_any}
use Rattle.std.proofs.lemmas.Bool.{and_from, and_parts, not-true}
use Rattle.mq_topic.specs.Levels.{levels, levels_left}
use Rattle.mq_topic.specs.Texts.{contains_byte, is_plain}
use Rattle.mq_topic.specs.Matching.{level_matches, levels_match_by}
use Rattle.mq_cover.specs.Names.{can_be_level, ends, is_name_level, suits}
use Rattle.mq_cover.specs.Remainders.{IsFound, covers, fits, hits, no_marks, passes, remainders_fit}
use Rattle.mq_cover.specs.declared.remainder.Remainder.{Remainder}
use Rattle.mq_cover.specs.declared.start.Start.{Start}
use Rattle.mq_unify.specs.Joined.{join_levels}
use Rattle.mq_unify.proofs.FilterLemmas.{all_lack}
use Rattle.mq_unify.proofs.JoinLemmas.{levels_joined}
use Rattle.mq_shapes.specs.Filled.{text_levels}
use Rattle.mq_shapes.specs.Found.{AreLeft, IsMatched, all_fit, filter_hits}

abbrev pub matching : List (List ℕ) → List (List ℕ) → Bool
matching ls f = levels_match_by level_matches f ls

plain_covers : (ls : List (List ℕ)) (r : Remainder) → not r.pattern ≡ true
    → covers no_marks ls r ≡ matching ls (levels_left r.rest)
plain_covers ls r h =
    ap (λ p. levels_match_by (passes p no_marks) (levels_left r.rest) ls) (not-true r.pattern h)

module _ (ls : List (List ℕ)) where
  all_covers : (rs : List Remainder) → list_all (λ r. not r.pattern) rs ≡ true
      → list_all (covers no_marks ls) rs
      ≡ list_all (matching ls) (map (λ r. levels_left r.rest) rs)
  all_covers [] h = refl
  all_covers (r ∷ rs) h =
      let both = and_parts (not r.pattern) (list_all (λ r. not r.pattern) rs) h in
      λ i. plain_covers ls r both.0 i && all_covers rs both.1 i

  any_covers : (rs : List Remainder) → list_all (λ r. not r.pattern) rs ≡ true
      → list_any (covers no_marks ls) rs
      ≡ list_any (matching ls) (map (λ r. levels_left r.rest) rs)
  any_covers [] h = refl
  any_covers (r ∷ rs) h =
      let both = and_parts (not r.pattern) (list_all (λ r. not r.pattern) rs) h in
      λ i. plain_covers ls r both.0 i || any_covers rs both.1 i

  -- what is hit of what is left is hit of the filters
  pub left_hits : (must cover : List Remainder) (firsts others : List (List (List ℕ)))
      → AreLeft must firsts → AreLeft cover others
      → hits no_marks ls must cover ≡ filter_hits ls firsts others
  left_hits must cover firsts others m c = λ i.
      (all_covers must m.plain ∙ ap (list_all (matching ls)) m.left) i
      && not ((any_covers cover c.plain ∙ ap (list_any (matching ls)) c.left) i)

mapped_fit : (p : List ℕ → Bool) (rs : List Remainder)
    → remainders_fit p rs ≡ all_fit p (map (λ r. levels_left r.rest) rs)
mapped_fit p [] = refl
mapped_fit p (r ∷ rs) = ap (λ b. fits p (levels_left r.rest) && b) (mapped_fit p rs)

pub left_fit : (p : List ℕ → Bool) (rs lent : List Remainder) (all : List (List (List ℕ)))
    → lent ≡ rs → AreLeft rs all → all_fit p all ≡ true → remainders_fit p lent ≡ true
left_fit p rs lent all e left h =
    ap (remainders_fit p) e ∙ mapped_fit p rs ∙ ap (all_fit p) left.left ∙ h

pub left_lent : (rs lent : List Remainder) (all : List (List (List ℕ))) → lent ≡ rs
    → AreLeft rs all → AreLeft lent all
left_lent rs lent all e left = subst (λ r. AreLeft r all) (sym e) left

pub left_as : (rs lent : List Remainder) (texts were : List (String Global)) → lent ≡ rs
    → were ≡ texts → AreLeft rs (text_levels were) → AreLeft lent (text_levels texts)
left_as rs lent texts were e f left =
    subst (λ ts. AreLeft lent (text_levels ts)) f (subst (λ r. AreLeft r (text_levels were)) (sym e) left)

-- ---- a name that is found
names_lack : (ls : List (List ℕ)) → list_all is_name_level ls ≡ true → all_lack ls ≡ true
names_lack [] h = refl
names_lack (l ∷ ls) h =
    let both = and_parts (is_name_level l) (list_all is_name_level ls) h in
    let name = and_parts (can_be_level l) (nat_le (length l) 321) both.0 in
    let slash = and_parts (is_plain l && not (contains_byte 0 l)) (not (contains_byte 47 l))
    name.0 in
    and_from (not (contains_byte 47 l)) (all_lack ls) slash.1 (names_lack ls both.1)

some_level : (start : Start) (ls : List (List ℕ)) → ends start ≡ false → suits start ls ≡ true
    → 0 < length ls
some_level start [] e h = absurd (let k : false ≡ true = sym e ∙ h in cc)
some_level start (l ∷ ls) e h = omega arith

pub name_levels : (start : Start) (must cover : List Remainder) (ls : List (List ℕ))
    (topic : List ℕ) → ends start ≡ false → topic ≡ join_levels ls
    → IsFound start 200 no_marks must cover ls → levels topic ≡ ls
name_levels start must cover ls topic e is found =
    ap levels is ∙ levels_joined ls (some_level start ls e found.suitable) (names_lack ls found.valid)

pub name_matched : (start : Start) (must cover : List Remainder)
    (firsts others : List (List (List ℕ))) (ls : List (List ℕ)) (topic : List ℕ)
    → ends start ≡ false → AreLeft must firsts → AreLeft cover others
    → topic ≡ join_levels ls → IsFound start 200 no_marks must cover ls
    → IsMatched start firsts others topic
name_matched start must cover firsts others ls topic e m c is found =
    let same = name_levels start must cover ls topic e is found in
    record {
      suitable = ap (suits start) same ∙ found.suitable;
      few = subst (λ l. length l ≤ 200) (sym same) found.few;
      valid = ap (list_all is_name_level) same ∙ found.valid;
      hit = ap (λ l. filter_hits l firsts others) same
          ∙ sym (left_hits ls must cover firsts others m c) ∙ found.hit;
    }
