-- Other levels in the place of a name's: what still covers it.
use Rattle.std.proofs.Common.{◌≡◌, ℕ, Bool, true, false, cond, not, ◌&&◌, ◌||◌, List, [], ◌∷◌}
use Rattle.std.proofs.Common.{codes, bytes_eq, refl, ap, sym, ◌∙◌, map, arith}
use Rattle.std.specs.List.{list_all, list_any}
use Rattle.std.specs.Cmp.{both_ways}
use Rattle.std.proofs.lemmas.Bool.{and_from, and_parts, or_left, or_right}
use Rattle.mq_cover.proofs.TextLemmas.{false_is, or_cases}
use Rattle.std.proofs.lemmas.List.{map-id}
use Rattle.mq_topic.proofs.ByteLemmas.{text_is, text_itself}
use Rattle.mq_topic.proofs.Walk.{levels_match_end}
use Rattle.mq_topic.specs.Levels.{levels_left}
use Rattle.mq_topic.specs.Matching.{is_wildcard, level_matches, levels_match_by}
use Rattle.mq_acl.specs.Access.{is_user}
use Rattle.mq_cover.specs.Remainders.{MarkLevels, passes, covers, hits, fits, remainder_fits}
use Rattle.mq_cover.specs.Remainders.{remainders_fit}
use Rattle.mq_cover.specs.declared.remainder.Remainder.{Remainder}
use Rattle.mq_cover.proofs.RemainderLemmas.{covers_hash, covers_cons}
use Rattle.mq_witness.specs.Literals.{is_literal_in, is_literal_of, has_mark}
use Rattle.mq_witness.proofs.LiteralLemmas.{fits_named}
use Rattle.mq_witness.proofs.TestLemmas.{all_pass, all_same, any_same}

-- ---- levels of a filter and of a name
-- a level that fits, and is no last `#`, is `+` or passes
pub fits_first : (a b c : Bool) → b ≡ false → (a || b || c) ≡ true → (a || c) ≡ true
fits_first a b c e h = grind arith

-- where a filter matches some levels by one test, it matches others by another test that each of
-- them passes too
pub match_mono : (t s : List ℕ → List ℕ → Bool) (g h : List ℕ → List ℕ) (p q : List ℕ → Bool)
    → ((w l : List ℕ) → (bytes_eq w (codes "+") || p w) ≡ true → q l ≡ true
    → t w (g l) ≡ true → s w (h l) ≡ true)
    → (ws ls : List (List ℕ)) → fits p ws ≡ true → list_all q ls ≡ true
    → levels_match_by t ws (map g ls) ≡ true → levels_match_by s ws (map h ls) ≡ true
match_mono t s g h p q f [] [] e d m = m
match_mono t s g h p q f [] (l ∷ ls) e d m = absurd (let n : false ≡ true = m in cc)
match_mono t s g h p q f (w ∷ ws) [] e d m = grind (arith, covers_hash, levels_match_end)
match_mono t s g h p q f (w ∷ ws) (l ∷ ls) e d m =
    grind (arith, match_mono t s g h p q f ws ls, covers_hash, covers_cons, fits_first)

-- where each level passes the one test just where the other passes the other test, a filter matches
-- both or neither
pub match_same : (t s : List ℕ → List ℕ → Bool) (h : List ℕ → List ℕ) (p q : List ℕ → Bool)
    → ((w l : List ℕ) → (bytes_eq w (codes "+") || p w) ≡ true → q l ≡ true
    → t w l ≡ s w (h l))
    → (ws ls : List (List ℕ)) → fits p ws ≡ true → list_all q ls ≡ true
    → levels_match_by t ws ls ≡ levels_match_by s ws (map h ls)
match_same t s h p q f ws ls e d =
    both_ways (levels_match_by t ws ls) (levels_match_by s ws (map h ls))
    (λ m. match_mono t s (λ l. l) h p q (λ w l a b c. sym (f w l a b) ∙ c) ws ls e d
    (ap (levels_match_by t ws) (map-id ls) ∙ m))
    (λ m. sym (ap (levels_match_by t ws) (map-id ls))
    ∙ match_mono s t h (λ l. l) p q (λ w l a b c. f w l a b ∙ c) ws ls e d m)

-- any levels fit the test that all pass
any_fits : (ws : List (List ℕ)) → fits (λ w. true) ws ≡ true
any_fits [] = refl
any_fits (w ∷ ws) = grind (arith, any_fits ws)

-- a name is hit with either of two marks that say the same of its levels
module _ (q : List ℕ → Bool) (m k : MarkLevels)
    (same : (pattern : Bool) (w l : List ℕ) → q l ≡ true
    → passes pattern m w l ≡ passes pattern k w l)
    (ls : List (List ℕ)) (can : list_all q ls ≡ true) where
  covers_same : (r : Remainder) → covers m ls r ≡ covers k ls r
  covers_same r =
      match_same (passes r.pattern m) (passes r.pattern k) (λ l. l) (λ w. true) q
      (λ w l e. same r.pattern w l) (levels_left r.rest) ls (any_fits (levels_left r.rest)) can
      ∙ ap (levels_match_by (passes r.pattern k) (levels_left r.rest)) (map-id ls)

  pub hits_same : (must cover : List Remainder) → hits m ls must cover ≡ hits k ls must cover
  hits_same must cover =
      λ i. all_same (λ r. true) _ _ (λ r e. covers_same r) must (all_pass must) i
      && not (any_same (λ r. true) _ _ (λ r e. covers_same r) cover (all_pass cover) i)

-- any level passes `+`
plus_passes : (pattern : Bool) (marks : MarkLevels) (l : List ℕ)
    → passes pattern marks (codes "+") l ≡ true
plus_passes true marks l = refl
plus_passes false marks l = refl

-- ---- marks
-- a level is moved so that the first filters still cover a name, and the others, whose levels pass
-- the test, cover no more
pub record Moves (p : List ℕ → Bool) (f : List ℕ → List ℕ) (m k : MarkLevels)
    (must : List Remainder) : Type 0 where
  pub kept : (w : List ℕ) → is_literal_of w must ≡ true → f w ≡ w
  pub client : has_mark (codes "%c") must ≡ true → (l : List ℕ) → is_user l m.client ≡ true
      → is_user (f l) k.client ≡ true
  pub user : has_mark (codes "%u") must ≡ true → (l : List ℕ) → is_user l m.user ≡ true
      → is_user (f l) k.user ≡ true
  pub back : (w l : List ℕ) → p w ≡ true → bytes_eq w (f l) ≡ true → bytes_eq w l ≡ true
  pub client_back : (l : List ℕ) → is_user (f l) k.client ≡ true → is_user l m.client ≡ true
  pub user_back : (l : List ℕ) → is_user (f l) k.user ≡ true → is_user l m.user ≡ true

module _ (p : List ℕ → Bool) (plain : (w : List ℕ) → p w ≡ true → is_wildcard w ≡ false)
    (f : List ℕ → List ℕ) (m k : MarkLevels) where
  -- among the levels of a filter is one that is the mark
  mark_is_in : (pattern : Bool) (w mark : List ℕ) (ws : List (List ℕ))
      → is_literal_in w ws ≡ true → (pattern && bytes_eq w mark) ≡ true
      → (pattern && list_any (λ v. bytes_eq v mark) ws) ≡ true
  mark_is_in pattern w mark [] i h = absurd (let n : false ≡ true = i in cc)
  mark_is_in pattern w mark (v ∷ ws) i h =
      let parts = and_parts pattern _ h in
      and_from _ _ parts.0 (or_cases (bytes_eq w v && not (is_wildcard v)) _ i
      (λ e. or_left _ _ (ap (λ t. bytes_eq t mark) (sym (text_is w v (and_parts _ _ e).0))
      ∙ parts.1))
      (λ e. or_right (bytes_eq v mark) _
      (and_parts pattern _ (mark_is_in pattern w mark ws e h)).1))

  -- ---- forth
  level_forth : (pattern : Bool) (must : List Remainder) (ws : List (List ℕ)) → Moves p f m k must
      → ((w : List ℕ) → is_literal_in w ws ≡ true → is_literal_of w must ≡ true)
      → ((mark : List ℕ) → (pattern && list_any (λ v. bytes_eq v mark) ws) ≡ true
      → has_mark mark must ≡ true)
      → (w l : List ℕ) → (bytes_eq w (codes "+") || is_literal_in w ws) ≡ true
      → passes pattern m w l ≡ true → passes pattern k w (f l) ≡ true
  level_forth pattern must ws move named marked w l h e =
      plus (bytes_eq w (codes "+")) refl
    where
      same : is_literal_in w ws ≡ true → bytes_eq w (codes "+") ≡ false
          → level_matches w l ≡ true → level_matches w (f l) ≡ true
      same i n g =
          let is = text_is w l (sym (ap (λ b. b || bytes_eq w l) n) ∙ g) in
          or_right (bytes_eq w (codes "+")) _
          (ap (bytes_eq w) (sym (ap f is) ∙ move.kept w (named w i)) ∙ text_itself w)

      named_at : (c u : Bool) → (pattern && bytes_eq w (codes "%c")) ≡ c
          → (pattern && bytes_eq w (codes "%u")) ≡ u → is_literal_in w ws ≡ true
          → bytes_eq w (codes "+") ≡ false
          → cond c (is_user l m.client) (cond u (is_user l m.user) (level_matches w l)) ≡ true
          → cond c (is_user (f l) k.client) (cond u (is_user (f l) k.user) (level_matches w (f l)))
          ≡ true
      named_at true u d g i n j =
          move.client (marked (codes "%c") (mark_is_in pattern w (codes "%c") ws i d)) l j
      named_at false true d g i n j =
          move.user (marked (codes "%u") (mark_is_in pattern w (codes "%u") ws i g)) l j
      named_at false false d g i n j = same i n j

      plus : (t : Bool) → bytes_eq w (codes "+") ≡ t → passes pattern k w (f l) ≡ true
      plus true g = ap (λ v. passes pattern k v (f l)) (text_is w (codes "+") g)
          ∙ plus_passes pattern k (f l)
      plus false g =
          named_at (pattern && bytes_eq w (codes "%c")) (pattern && bytes_eq w (codes "%u")) refl
          refl (sym (ap (λ b. b || is_literal_in w ws) g) ∙ h) g e

  row_forth : (must : List Remainder) (r : Remainder) (ls : List (List ℕ)) → Moves p f m k must
      → ((w : List ℕ) → is_literal_in w (levels_left r.rest) ≡ true → is_literal_of w must ≡ true)
      → ((mark : List ℕ)
      → (r.pattern && list_any (λ v. bytes_eq v mark) (levels_left r.rest)) ≡ true
      → has_mark mark must ≡ true)
      → remainder_fits p r ≡ true → covers m ls r ≡ true → covers k (map f ls) r ≡ true
  row_forth must r ls move named marked fit h =
      match_mono (passes r.pattern m) (passes r.pattern k) (λ l. l) f
      (λ w. is_literal_in w (levels_left r.rest)) (λ l. true)
      (λ w l a b c. level_forth r.pattern must (levels_left r.rest) move named marked w l a c)
      (levels_left r.rest) ls
      (fits_named p (λ w. is_literal_in w (levels_left r.rest)) plain (levels_left r.rest) fit
      (λ l a b. b)) (all_pass ls)
      (ap (levels_match_by (passes r.pattern m) (levels_left r.rest)) (map-id ls) ∙ h)

  -- what holds of some filters holds of those behind the first
  moves_behind : (r : Remainder) (rs : List Remainder) → Moves p f m k (r ∷ rs) → Moves p f m k rs
  moves_behind r rs move = grind arith

  all_forth : (must : List Remainder) (ls : List (List ℕ)) → Moves p f m k must
      → remainders_fit p must ≡ true → list_all (covers m ls) must ≡ true
      → list_all (covers k (map f ls)) must ≡ true
  all_forth [] ls move fit h = refl
  all_forth (r ∷ rs) ls move fit h =
      grind (arith, all_forth rs ls (moves_behind r rs move), row_forth, moves_behind)

  -- ---- back
  level_back : (must : List Remainder) → Moves p f m k must → (pattern : Bool) (w l : List ℕ)
      → (bytes_eq w (codes "+") || p w) ≡ true → passes pattern k w (f l) ≡ true
      → passes pattern m w l ≡ true
  level_back must move pattern w l h e = grind (arith, text_is, plus_passes)

  row_back : (must : List Remainder) → Moves p f m k must → (r : Remainder) (ls : List (List ℕ))
      → remainder_fits p r ≡ true → covers k (map f ls) r ≡ true → covers m ls r ≡ true
  row_back must move r ls fit h =
      sym (ap (levels_match_by (passes r.pattern m) (levels_left r.rest)) (map-id ls))
      ∙ match_mono (passes r.pattern k) (passes r.pattern m) f (λ l. l) p (λ l. true)
      (λ w l a b c. level_back must move r.pattern w l a c) (levels_left r.rest) ls fit
      (all_pass ls) h

  none_back : (must : List Remainder) → Moves p f m k must → (cover : List Remainder)
      (ls : List (List ℕ)) → remainders_fit p cover ≡ true
      → list_any (covers m ls) cover ≡ false → list_any (covers k (map f ls)) cover ≡ false
  none_back must move [] ls fit h = refl
  none_back must move (r ∷ rs) ls fit h =
      grind (arith, none_back must move rs ls, false_is, row_back)

  -- a name that is hit is hit still with its levels moved
  pub hits_moved : (must cover : List Remainder) (ls : List (List ℕ)) → Moves p f m k must
      → remainders_fit p must ≡ true → remainders_fit p cover ≡ true
      → hits m ls must cover ≡ true → hits k (map f ls) must cover ≡ true
  hits_moved must cover ls move fit cover_fit h = grind (arith, all_forth, none_back)
