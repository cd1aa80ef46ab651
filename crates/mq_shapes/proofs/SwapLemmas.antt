-- Two levels that no row names can stand in each other's place.
use Rattle.std.proofs.Common.{◌≡◌, ◌∙◌, ◌&&◌, ◌||◌, ◌==◌, ◌<◌, ◌++◌, ℕ, Bool, true, false, not, List, []}
use Rattle.std.proofs.Common.{◌∷◌, Option, Some, None, ap, arith, bytes_eq, codes, length, map, refl, subst, sym}
use Rattle.std.proofs.Common.{suc}
use Rattle.std.specs.Cmp.{both_ways}
use Rattle.std.specs.List.{flat_map, list_all, list_any}
use Rattle.std.specs.Option.{unwrap_or}
use Rattle.std.specs.Prelude.{slice_index}
use Rattle.std.proofs.lemmas.Bool.{and_from, and_parts, cond-true, cond_both, false_from_ne_true}
use Rattle.std.proofs.lemmas.Bool.{not-true}
use Rattle.std.proofs.lemmas.List.{length-map, map-append}
use Rattle.mq_topic.proofs.ByteLemmas.{text_is, text_itself}
use Rattle.mq_topic.proofs.Walk.{levels-nonempty}
use Rattle.mq_topic.specs.Levels.{levels}
use Rattle.mq_topic.specs.Matching.{is_hidden, is_wildcard, level_at, level_matches, levels_match_by}
use Rattle.mq_topic.specs.Matching.{matches}
use Rattle.mq_topic.specs.Texts.{contains_byte, is_plain}
use Rattle.mq_topic.proofs.TextLemmas.{levels_lack as text_lacks}
use Rattle.mq_acl.specs.Access.{applies, begins_with_dollar}
use Rattle.mq_acl.specs.Lines.{is_pattern_level}
use Rattle.mq_acl.specs.Mosquitto.{filter_for, is_asked, row_covers}
use Rattle.mq_acl.specs.Rows.{AclRow, Who}
use Rattle.mq_acl.specs.Rows as rows
use Rattle.mq_acl.specs.RowsByOwner.{is_everyones}
use Rattle.mq_acl.specs.Words.{occurs_in}
use Rattle.mq_cover.specs.Names.{can_be_level}
use Rattle.mq_unify.specs.Clients.{made, made_levels}
use Rattle.mq_unify.specs.Joined.{join_levels}
use Rattle.mq_unify.proofs.FilterLemmas.{all_lack, along_one, levels_lack}
use Rattle.mq_unify.proofs.JoinLemmas.{levels_joined}
use Rattle.mq_unify.proofs.MadeLemmas.{client_made, user_made}
use Rattle.mq_shapes.specs.Filled.{row_levels}
use Rattle.mq_shapes.specs.Found.{has_whole_marks}
use Rattle.mq_shapes.specs.Ruled.{concerns, ruled_hits}
use Rattle.mq_shapes.specs.Swaps.{AreAlike, is_apart, is_mark, is_swapped, owner_apart, row_apart}
use Rattle.mq_shapes.specs.Swaps.{swap, swap_levels, swap_user}
use Rattle.mq_shapes.proofs.AnyLemmas.{single_made}
use Rattle.mq_shapes.proofs.FilledLemmas.{single_levels}
use Rattle.mq_shapes.proofs.RuledLemmas.{filter_levels}
use Rattle.mq_shapes.proofs.ShapeLemmas.{lacks, levels_apart}

-- ---- the swap of levels
swap_first : (a b : List ℕ) → swap a b a ≡ b
swap_first a b = cond-true (bytes_eq a a) _ _ (text_itself a)

swap_other : (a b l : List ℕ) → bytes_eq l a ≡ false → bytes_eq l b ≡ false → swap a b l ≡ l
swap_other a b l e f = rw (e, f) refl

swap_second : (a b : List ℕ) → swap a b b ≡ a
swap_second a b = cond_both (bytes_eq b a) b _ (λ t. t ≡ a) (text_is b a)
    (λ e. cond-true (bytes_eq b b) _ _ (text_itself b))

-- what holds of both, and of a level that is neither, holds of the swapped level
pub swap_cases : (a b l : List ℕ) (P : List ℕ → Type 0) → P a → P b → P l → P (swap a b l)
swap_cases a b l P pa pb pl = cond_both (bytes_eq l a) _ _ P (λ e. pb)
    (λ e. cond_both (bytes_eq l b) _ _ P (λ f. pa) (λ f. pl))

swap_twice : (a b l : List ℕ) → swap a b (swap a b l) ≡ l
swap_twice a b l = cond_both (bytes_eq l a) _ _ (λ t. swap a b t ≡ l)
    (λ e. swap_second a b ∙ sym (text_is l a e))
    (λ e. cond_both (bytes_eq l b) _ _ (λ t. swap a b t ≡ l)
    (λ f. swap_first a b ∙ sym (text_is l b f)) (λ f. swap_other a b l e f))

swap_eq : (a b l m : List ℕ) → bytes_eq (swap a b l) (swap a b m) ≡ bytes_eq l m
swap_eq a b l m = both_ways (bytes_eq (swap a b l) (swap a b m)) (bytes_eq l m)
    (λ e. ap (λ k. bytes_eq k m) (sym (swap_twice a b l)
    ∙ ap (swap a b) (text_is (swap a b l) (swap a b m) e) ∙ swap_twice a b m) ∙ text_itself m)
    (λ e. ap (λ k. bytes_eq (swap a b k) (swap a b m)) (text_is l m e) ∙ text_itself (swap a b m))

swap_apart : (a b l : List ℕ) → is_apart a b l ≡ true → swap a b l ≡ l
swap_apart a b l h =
    let parts = and_parts (not (bytes_eq l a)) (not (bytes_eq l b)) h in
    swap_other a b l (not-true (bytes_eq l a) parts.0) (not-true (bytes_eq l b) parts.1)

apart_all : (a b : List ℕ) (ls : List (List ℕ)) → list_all (is_apart a b) ls ≡ true
    → map (swap a b) ls ≡ ls
apart_all a b [] h = refl
apart_all a b (l ∷ ls) h =
    let parts = and_parts (is_apart a b l) (list_all (is_apart a b) ls) h in
    (λ i. swap_apart a b l parts.0 i ∷ apart_all a b ls parts.1 i)

map_twice : (a b : List ℕ) (ls : List (List ℕ)) → map (swap a b) (map (swap a b) ls) ≡ ls
map_twice a b [] = refl
map_twice a b (l ∷ ls) = (λ i. swap_twice a b l i ∷ map_twice a b ls i)

-- a text with a byte that another doesn't have is another text
other_text : (b : ℕ) (text : List ℕ) → contains_byte b text ≡ false
    → bytes_eq (b ∷ []) text ≡ false
other_text b text h = false_from_ne_true (bytes_eq (b ∷ []) text) (λ e. absurd (
    let has : contains_byte b (b ∷ []) ≡ true = grind arith in
    let k : true ≡ false = sym has ∙ ap (contains_byte b) (text_is (b ∷ []) text e) ∙ h in cc))

module _ (a b : List ℕ) (alike : AreAlike a b) where
  abbrev moved : List ℕ → List ℕ
  moved text = swap_levels a b text

  -- ---- what both levels lack
  level_lacks : (l : List ℕ) → can_be_level l ≡ true → (contains_byte 43 l ≡ false)
      × (contains_byte 35 l ≡ false) × (contains_byte 47 l ≡ false)
  level_lacks l h =
      let slash = and_parts (is_plain l && not (contains_byte 0 l)) (not (contains_byte 47 l)) h in
      let plain = and_parts (is_plain l) (not (contains_byte 0 l)) slash.0 in
      let wild = and_parts (not (contains_byte 43 l)) (not (contains_byte 35 l)) plain.0 in (
        not-true (contains_byte 43 l) wild.0,
        not-true (contains_byte 35 l) wild.1,
        not-true (contains_byte 47 l) slash.1,
      )

  wild_apart : (c : ℕ) → contains_byte c a ≡ false → contains_byte c b ≡ false
      → is_apart a b (c ∷ []) ≡ true
  wild_apart c f g = and_from (not (bytes_eq (c ∷ []) a)) (not (bytes_eq (c ∷ []) b))
      (ap not (other_text c a f)) (ap not (other_text c b g))

  plus_apart : is_apart a b (codes "+") ≡ true
  plus_apart = wild_apart 43 (level_lacks a alike.level).0 (level_lacks b alike.other_level).0

  hash_apart : is_apart a b (codes "#") ≡ true
  hash_apart = wild_apart 35 (level_lacks a alike.level).1 (level_lacks b alike.other_level).1

  -- a swapped level is one that is apart just where it was
  same_text : (w l : List ℕ) → is_apart a b w ≡ true → bytes_eq (swap a b l) w ≡ bytes_eq l w
  same_text w l h = ap (bytes_eq (swap a b l)) (sym (swap_apart a b w h)) ∙ swap_eq a b l w

  -- ---- texts
  all_lacking : (c : ℕ) → contains_byte c a ≡ false → contains_byte c b ≡ false
      → (ls : List (List ℕ)) → list_all (λ l. not (contains_byte c l)) ls ≡ true
      → list_all (λ l. not (contains_byte c l)) (map (swap a b) ls) ≡ true
  all_lacking c f g [] h = refl
  all_lacking c f g (l ∷ ls) h =
      let parts = and_parts (not (contains_byte c l)) (list_all (λ l. not (contains_byte c l)) ls) h in
      and_from (not (contains_byte c (swap a b l)))
      (list_all (λ l. not (contains_byte c l)) (map (swap a b) ls))
      (swap_cases a b l (λ t. not (contains_byte c t) ≡ true) (ap not f) (ap not g) parts.0)
      (all_lacking c f g ls parts.1)

  pub levels_moved : (text : List ℕ) → levels (moved text) ≡ map (swap a b) (levels text)
  levels_moved text = levels_joined (map (swap a b) (levels text))
      (subst (λ n. 0 < n) (sym (length-map (levels text) (swap a b))) (levels-nonempty text))
      (all_lacking 47 (level_lacks a alike.level).2 (level_lacks b alike.other_level).2
      (levels text) (levels_lack text))

  moved_twice : (text : List ℕ) → moved (moved text) ≡ text
  moved_twice text = levels_apart (moved (moved text)) text (levels_moved (moved text)
      ∙ ap (map (swap a b)) (levels_moved text) ∙ map_twice a b (levels text))

  pub moved_apart : (text : List ℕ) → list_all (is_apart a b) (levels text) ≡ true
      → moved text ≡ text
  moved_apart text h =
      levels_apart (moved text) text (levels_moved text ∙ apart_all a b (levels text) h)

  pub moved_eq : (text name : List ℕ) → list_all (is_apart a b) (levels name) ≡ true
      → bytes_eq (moved text) name ≡ bytes_eq text name
  moved_eq text name h = both_ways (bytes_eq (moved text) name) (bytes_eq text name)
      (λ e. ap (λ t. bytes_eq t name) (sym (moved_twice text) ∙ ap moved (text_is (moved text) name e)
      ∙ moved_apart name h) ∙ text_itself name)
      (λ e. ap (λ t. bytes_eq (moved t) name) (text_is text name e)
      ∙ ap (λ t. bytes_eq t name) (moved_apart name h) ∙ text_itself name)

  -- the empty text stays
  moved_empty : moved [] ≡ []
  moved_empty = ap (λ l. join_levels (l ∷ [])) (swap_other a b [] (empty_text a alike.some)
      (empty_text b alike.other_some)) ∙ refl
    where
      empty_text : (t : List ℕ) → (length t == 0) ≡ false → bytes_eq [] t ≡ false
      empty_text [] h = absurd (let k : true ≡ false = h in cc)
      empty_text (x ∷ xs) h = refl

  moved_lacks : (c : ℕ) → (47 == c) ≡ false → contains_byte c a ≡ false
      → contains_byte c b ≡ false → (text : List ℕ) → contains_byte c text ≡ false
      → contains_byte c (moved text) ≡ false
  moved_lacks c n f g text h = lacks c (moved text) n
      (ap (list_all (λ l. not (contains_byte c l))) (levels_moved text)
      ∙ all_lacking c f g (levels text) (text_lacks c text h))

  plain_kept : (text : List ℕ) → is_plain text ≡ true → is_plain (moved text) ≡ true
  plain_kept text h =
      let parts = and_parts (not (contains_byte 43 text)) (not (contains_byte 35 text)) h in
      let first = level_lacks a alike.level in
      let second = level_lacks b alike.other_level in
      and_from (not (contains_byte 43 (moved text))) (not (contains_byte 35 (moved text)))
      (ap not (moved_lacks 43 refl first.0 second.0 text (not-true (contains_byte 43 text) parts.0)))
      (ap not (moved_lacks 35 refl first.1 second.1 text (not-true (contains_byte 35 text) parts.1)))

  pub plain_moved : (text : List ℕ) → is_plain (moved text) ≡ is_plain text
  plain_moved text = both_ways (is_plain (moved text)) (is_plain text)
      (λ e. ap is_plain (sym (moved_twice text)) ∙ plain_kept (moved text) e) (plain_kept text)

  -- ---- levels of filters and names
  wild_moved : (l : List ℕ) → is_wildcard (swap a b l) ≡ is_wildcard l
  wild_moved l = (λ i. same_text (codes "+") l plus_apart i || same_text (codes "#") l hash_apart i)

  level_moved : (w l : List ℕ) → level_matches (swap a b w) (swap a b l) ≡ level_matches w l
  level_moved w l = (λ i. same_text (codes "+") w plus_apart i || swap_eq a b w l i)

  match_moved : (fs ls : List (List ℕ))
      → levels_match_by level_matches (map (swap a b) fs) (map (swap a b) ls)
      ≡ levels_match_by level_matches fs ls
  match_moved [] [] = refl
  match_moved [] (l ∷ ls) = refl
  match_moved (w ∷ ws) ls = by (match_moved ws) (bytes_eq w (codes "#") && (length ws == 0)) refl
    where
      hash_too : (bytes_eq (swap a b w) (codes "#") && (length (map (swap a b) ws) == 0))
          ≡ (bytes_eq w (codes "#") && (length ws == 0))
      hash_too = (λ i. same_text (codes "#") w hash_apart i && (length-map ws (swap a b) i == 0))

      behind : ((ls : List (List ℕ))
          → levels_match_by level_matches (map (swap a b) ws) (map (swap a b) ls)
          ≡ levels_match_by level_matches ws ls) → (ls : List (List ℕ))
          → (bytes_eq w (codes "#") && (length ws == 0)) ≡ false
          → levels_match_by level_matches (map (swap a b) (w ∷ ws)) (map (swap a b) ls)
          ≡ levels_match_by level_matches (w ∷ ws) ls
      behind next [] e = along_one (swap a b w) (map (swap a b) ws) [] (hash_too ∙ e)
          ∙ sym (along_one w ws [] e)
      behind next (l ∷ ls) e =
          along_one (swap a b w) (map (swap a b) ws) (swap a b l ∷ map (swap a b) ls) (hash_too ∙ e)
          ∙ (λ i. level_moved w l i && next ls i) ∙ sym (along_one w ws (l ∷ ls) e)

      last : (ws : List (List ℕ)) → (bytes_eq w (codes "#") && (length ws == 0)) ≡ true
          → levels_match_by level_matches (map (swap a b) (w ∷ ws)) (map (swap a b) ls)
          ≡ levels_match_by level_matches (w ∷ ws) ls
      last [] e =
          let is = text_is w (codes "#") (and_parts (bytes_eq w (codes "#")) true e).0 in
          let too = ap (swap a b) is ∙ swap_apart a b (codes "#") hash_apart in
          ap (λ l. levels_match_by level_matches (l ∷ []) (map (swap a b) ls)) too
          ∙ sym (ap (λ l. levels_match_by level_matches (l ∷ []) ls) is)
      last (v ∷ vs) e = absurd (
          let k = (and_parts (bytes_eq w (codes "#")) (length (v ∷ vs) == 0) e).1 in
          let n : suc (length vs) ≡ 0 = grind (arith, k) in omega (arith, n))

      by : ((ls : List (List ℕ))
          → levels_match_by level_matches (map (swap a b) ws) (map (swap a b) ls)
          ≡ levels_match_by level_matches ws ls) → (h : Bool)
          → (bytes_eq w (codes "#") && (length ws == 0)) ≡ h
          → levels_match_by level_matches (map (swap a b) (w ∷ ws)) (map (swap a b) ls)
          ≡ levels_match_by level_matches (w ∷ ws) ls
      by next true e = last ws e
      by next false e = behind next ls e

  pub begins_moved : (l : List ℕ) → begins_with_dollar (swap a b l) ≡ begins_with_dollar l
  begins_moved l =
      cond_both (bytes_eq l a) _ _ (λ t. begins_with_dollar t ≡ begins_with_dollar l)
      (λ e. alike.dollar ∙ ap begins_with_dollar (sym (text_is l a e)))
      (λ e. cond_both (bytes_eq l b) _ _ (λ t. begins_with_dollar t ≡ begins_with_dollar l)
      (λ g. sym alike.dollar ∙ ap begins_with_dollar (sym (text_is l b g))) (λ g. refl))

  hidden_moved : (fs ls : List (List ℕ))
      → is_hidden (map (swap a b) fs) (map (swap a b) ls) ≡ is_hidden fs ls
  hidden_moved fs ls = (λ i. first ls i && front fs i)
    where
      first : (ls : List (List ℕ)) → (slice_index (level_at (map (swap a b) ls) 0) 0 == 36)
          ≡ (slice_index (level_at ls 0) 0 == 36)
      first [] = refl
      first (l ∷ ls) = begins_moved l

      front : (fs : List (List ℕ)) → is_wildcard (level_at (map (swap a b) fs) 0)
          ≡ is_wildcard (level_at fs 0)
      front [] = refl
      front (f ∷ fs) = wild_moved f

  matches_moved : (fs ls : List (List ℕ)) → matches (map (swap a b) fs) (map (swap a b) ls)
      ≡ matches fs ls
  matches_moved fs ls = (λ i. (not (length-map ls (swap a b) i == 0) && not (hidden_moved fs ls i))
      && match_moved fs ls i)

  -- ---- rows
  map_made : (make other : List ℕ → List (List ℕ)) (ls : List (List ℕ))
      → ((l : List ℕ) → map (swap a b) (make l) ≡ other l)
      → map (swap a b) (flat_map make ls) ≡ flat_map other ls
  map_made make other [] same = refl
  map_made make other (l ∷ ls) same =
      map-append (swap a b) (make l) (flat_map make ls)
      ∙ (λ i. same l i ++ map_made make other ls same i)

  module _ (client user : List ℕ) where
    -- a level with the texts of the client in the place of a mark
    made_moved : (l : List ℕ) → not (contains_byte 47 l) ≡ true → is_pattern_level l ≡ true
        → ((bytes_eq l (codes "%c") || bytes_eq l (codes "%u")) || is_apart a b l) ≡ true
        → made true (moved client) (moved user) l ≡ map (swap a b) (made true client user l)
    made_moved l s w h = by (bytes_eq l (codes "%c")) refl (bytes_eq l (codes "%u")) refl
      where
        by : (c : Bool) → bytes_eq l (codes "%c") ≡ c → (u : Bool) → bytes_eq l (codes "%u") ≡ u
            → made true (moved client) (moved user) l ≡ map (swap a b) (made true client user l)
        by true c u e = client_made (moved client) (moved user) l c ∙ levels_moved client
            ∙ ap (map (swap a b)) (sym (client_made client user l c))
        by false c true e = user_made (moved client) (moved user) l e ∙ levels_moved user
            ∙ ap (map (swap a b)) (sym (user_made client user l e))
        by false c false e =
            let apart : is_apart a b l ≡ true =
            sym (λ i. (c i || e i) || is_apart a b l) ∙ h in
            single_made (moved client) (moved user) l s w c e
            ∙ ap (λ t. t ∷ []) (sym (swap_apart a b l apart))
            ∙ ap (map (swap a b)) (sym (single_made client user l s w c e))

    all_made_moved : (ls : List (List ℕ)) → all_lack ls ≡ true
        → list_all is_pattern_level ls ≡ true
        → list_all (λ l. (bytes_eq l (codes "%c") || bytes_eq l (codes "%u")) || is_apart a b l) ls
        ≡ true
        → made_levels true (moved client) (moved user) ls
        ≡ map (swap a b) (made_levels true client user ls)
    all_made_moved [] s w h = refl
    all_made_moved (l ∷ ls) s w h =
        let slash = and_parts (not (contains_byte 47 l)) (all_lack ls) s in
        let whole = and_parts (is_pattern_level l) (list_all is_pattern_level ls) w in
        let known = and_parts
        ((bytes_eq l (codes "%c") || bytes_eq l (codes "%u")) || is_apart a b l)
        (list_all (λ l. (bytes_eq l (codes "%c") || bytes_eq l (codes "%u")) || is_apart a b l) ls)
        h in
        (λ i. made_moved l slash.0 whole.0 known.0 i ++ all_made_moved ls slash.1 whole.1 known.1 i)
        ∙ sym (map-append (swap a b) (made true client user l) (made_levels true client user ls))

    row_moved : (row : AclRow) → has_whole_marks row ≡ true
        → list_all (λ l. is_mark row l || is_apart a b l) (levels row.filter) ≡ true
        → row_levels (moved client) (moved user) row
        ≡ map (swap a b) (row_levels client user row)
    row_moved row w h = by (is_everyones row.who) w h
      where
        by : (p : Bool) → (not p || list_all is_pattern_level (levels row.filter)) ≡ true
            → list_all (λ l. (p && (bytes_eq l (codes "%c") || bytes_eq l (codes "%u")))
            || is_apart a b l) (levels row.filter) ≡ true
            → made_levels p (moved client) (moved user) (levels row.filter)
            ≡ map (swap a b) (made_levels p client user (levels row.filter))
        by true w h = all_made_moved (levels row.filter) (levels_lack row.filter) w h
        by false w h = sym (single_levels (levels row.filter))
            ∙ sym (apart_all a b (levels row.filter) h)
            ∙ ap (map (swap a b)) (single_levels (levels row.filter))

  -- ---- clients
  name_moved : (user : Option (List ℕ))
      → unwrap_or (swap_user a b user) [] ≡ moved (unwrap_or user [])
  name_moved None = sym moved_empty
  name_moved (Some user) = refl

  asked_moved : (client filter : List ℕ) (user : Option (List ℕ))
      → is_asked (moved client) (swap_user a b user) filter ≡ is_asked client user filter
  asked_moved client filter None =
      ap (λ p. p && not (occurs_in (codes "%u") filter)) (plain_moved client)
  asked_moved client filter (Some user) = (λ i. plain_moved client i && plain_moved user i)

  applies_moved : (user : Option (List ℕ)) (who : Who) → owner_apart a b who ≡ true
      → applies (swap_user a b user) who ≡ applies user who
  applies_moved None rows.Anonymous h = refl
  applies_moved (Some user) rows.Anonymous h = refl
  applies_moved None (rows.Named name) h = refl
  applies_moved (Some user) (rows.Named name) h = moved_eq user name h
  applies_moved None rows.Everyone h = refl
  applies_moved (Some user) rows.Everyone h = refl

  module _ (client name : List ℕ) (user : Option (List ℕ)) where
    covers_moved : (row : AclRow) → has_whole_marks row ≡ true
        → list_all (λ l. is_mark row l || is_apart a b l) (levels row.filter) ≡ true
        → row_covers (moved client) (swap_user a b user) (moved name) row
        ≡ row_covers client user name row
    covers_moved row w h =
        let filter : levels (filter_for (moved client) (swap_user a b user) row)
        ≡ map (swap a b) (levels (filter_for client user row)) =
        filter_levels (moved client) (swap_user a b user) row
        ∙ ap (λ t. row_levels (moved client) t row) (name_moved user)
        ∙ row_moved client (unwrap_or user []) row w h
        ∙ ap (map (swap a b)) (sym (filter_levels client user row)) in
        (λ i. (not (is_everyones row.who) || asked_moved client row.filter user i)
        && matches (filter i) (levels_moved name i))
        ∙ ap (λ m. (not (is_everyones row.who) || is_asked client user row.filter) && m)
        (matches_moved (levels (filter_for client user row)) (levels name))

    concerns_moved : (row : AclRow) → is_swapped a b row ≡ true
        → concerns (moved client) (swap_user a b user) (moved name) row
        ≡ concerns client user name row
    concerns_moved row h =
        let parts = and_parts (has_whole_marks row) (row_apart a b row) h in
        let apart = and_parts (list_all (λ l. is_mark row l || is_apart a b l) (levels row.filter))
        (owner_apart a b row.who) parts.1 in
        (λ i. applies_moved user row.who apart.1 i && covers_moved row parts.0 apart.0 i)

    all_moved : (rows : List AclRow) → list_all (is_swapped a b) rows ≡ true
        → list_all (concerns (moved client) (swap_user a b user) (moved name)) rows
        ≡ list_all (concerns client user name) rows
    all_moved [] h = refl
    all_moved (row ∷ rows) h =
        let parts = and_parts (is_swapped a b row) (list_all (is_swapped a b) rows) h in
        (λ i. concerns_moved row parts.0 i && all_moved rows parts.1 i)

    any_moved : (rows : List AclRow) → list_all (is_swapped a b) rows ≡ true
        → list_any (concerns (moved client) (swap_user a b user) (moved name)) rows
        ≡ list_any (concerns client user name) rows
    any_moved [] h = refl
    any_moved (row ∷ rows) h =
        let parts = and_parts (is_swapped a b row) (list_all (is_swapped a b) rows) h in
        (λ i. concerns_moved row parts.0 i || any_moved rows parts.1 i)

    -- what rows concern stays
    pub hits_moved : (must cover : List AclRow) → list_all (is_swapped a b) must ≡ true
        → list_all (is_swapped a b) cover ≡ true
        → ruled_hits (moved client) (swap_user a b user) (moved name) must cover
        ≡ ruled_hits client user name must cover
    hits_moved must cover h k = (λ i. all_moved must h i && not (any_moved cover k i))
