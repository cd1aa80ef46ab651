-- A name with other texts in the place of those that nothing names.
use Rattle.std.proofs.Common.{◌≡◌, ◌<◌, ◌≤◌, ◌==◌, ℕ, Bool, true, false, cond, not, ◌&&◌, ◌||◌}
use Rattle.std.proofs.Common.{List, [], ◌∷◌, length, map, refl, ap, sym, ◌∙◌, subst, codes}
use Rattle.std.proofs.Common.{Option, arith, suc}
use Rattle.std.specs.Prelude.{nat_le}
use Rattle.std.specs.List.{list_all, list_any}
use Rattle.std.specs.Str.{bytes_eq}
use Rattle.std.proofs.lemmas.Bool.{and_from, and_parts, or_left, or_parts, or_right}
use Rattle.mq_topic.specs.Levels.{levels}
use Rattle.mq_topic.specs.Matching.{is_wildcard, level_matches}
use Rattle.mq_topic.specs.Matching.{levels_match_by}
use Rattle.mq_topic.specs.Texts.{contains_byte, is_name, is_plain}
use Rattle.mq_topic.proofs.Walk.{levels-nonempty}
use Rattle.std.proofs.lemmas.Bool.{le-leb, ne_eqb}
use Rattle.std.proofs.lemmas.List.{length-map}
use Rattle.mq_topic.proofs.ByteLemmas.{text_is, text_itself}
use Rattle.mq_acl.specs.Access.{applies, begins_with_dollar, concerns, is_user}
use Rattle.mq_acl.specs.Access.{row_level_matches}
use Rattle.mq_acl.specs.Rows.{Who, Anonymous, Named, Everyone, AclRow}
use Rattle.mq_acl.specs.RowsByOwner.{is_everyones}
use Rattle.mq_cover.specs.Names.{can_be_level, is_name_level, suits}
use Rattle.mq_cover.specs.Remainders.{fits}
use Rattle.mq_cover.specs.declared.start.Start.TheVariants.{Dollar}
use Rattle.mq_cover.proofs.NameLemmas.{suits_inside}
use Rattle.mq_witness.specs.Literals.{is_literal_in}
use Rattle.mq_witness.specs.Texts.{join_levels}
use Rattle.mq_witness.proofs.MoveLemmas.{match_same}
use Rattle.mq_witness.proofs.NameLemmas.{dollar_suits, joined_lacking, name_is}
use Rattle.mq_regions.specs.Regions.{is_mark}

-- a text for each: what is named stays, and nothing becomes what is named; what was the client id,
-- if that is asked about, or the user name is so still
pub record IsMove (named : List ℕ → Bool) (asks : Bool) (c d : List ℕ) (u v : Option (List ℕ))
    (f : List ℕ → List ℕ) : Type 0 where
  pub kept : (t : List ℕ) → named t ≡ true → f t ≡ t
  pub apart : (t : List ℕ) → named t ≡ false → named (f t) ≡ false
  pub client : asks ≡ true → (t : List ℕ) → can_be_level t ≡ true
      → bytes_eq (f t) d ≡ bytes_eq t c
  pub user : (t : List ℕ) → can_be_level t ≡ true → is_user (f t) v ≡ is_user t u
  pub dollar : (t : List ℕ) → begins_with_dollar (f t) ≡ begins_with_dollar t
  pub level : (t : List ℕ) → can_be_level t ≡ true → can_be_level (f t) ≡ true
  pub some : (t : List ℕ) → (length (f t) == 0) ≡ (length t == 0)

pub not_empty : (n : ℕ) → (suc n == 0) ≡ false
not_empty n = ne_eqb (suc n) 0 (λ e. omega arith)

abbrev pub moved : (List ℕ → List ℕ) → List ℕ → List ℕ
moved f name = join_levels (map f (levels name))

module _ (named : List ℕ → Bool) (asks : Bool) (c d : List ℕ) (u v : Option (List ℕ))
    (f : List ℕ → List ℕ) (m : IsMove named asks c d u v f) where
  -- a text that is named is a level just where it was
  literal : (w t : List ℕ) → named w ≡ true → bytes_eq w t ≡ bytes_eq w (f t)
  literal w t h = at (named t) refl
    where
      unnamed : (s : List ℕ) → named s ≡ false → bytes_eq w s ≡ false
      unnamed s k = by (bytes_eq w s) refl
        where
          by : (b : Bool) → bytes_eq w s ≡ b → b ≡ false
          by true e = absurd (let q : true ≡ false =
              sym h ∙ ap named (text_is w s e) ∙ k in cc)
          by false e = refl

      at : (b : Bool) → named t ≡ b → bytes_eq w t ≡ bytes_eq w (f t)
      at true k = ap (bytes_eq w) (sym (m.kept t k))
      at false k = unnamed t k ∙ sym (unnamed (f t) (m.apart t k))

  -- a level of a name is no wildcard
  no_wildcard : (w t : List ℕ) → is_wildcard w ≡ true → can_be_level t ≡ true
      → bytes_eq w t ≡ false
  no_wildcard w t h k = at (bytes_eq w t) refl
    where
      wild : is_wildcard t ≡ true → can_be_level t ≡ false
      wild e = by (bytes_eq t (codes "+")) refl e
        where
          by : (b : Bool) → bytes_eq t (codes "+") ≡ b
              → (b || bytes_eq t (codes "#")) ≡ true → can_be_level t ≡ false
          by true i j = ap can_be_level (text_is t (codes "+") i)
          by false i j = ap can_be_level (text_is t (codes "#") j)

      at : (b : Bool) → bytes_eq w t ≡ b → b ≡ false
      at true e = absurd (let q : true ≡ false =
          sym k ∙ wild (sym (ap is_wildcard (text_is w t e)) ∙ h) in cc)
      at false e = refl

  -- a wildcard, or a level that is named
  abbrev known : List ℕ → Bool
  known w = is_wildcard w || named w

  plain_same : (w t : List ℕ) → known w ≡ true → can_be_level t ≡ true
      → level_matches w t ≡ level_matches w (f t)
  plain_same w t h k = at (is_wildcard w) refl h
    where
      at : (b : Bool) → is_wildcard w ≡ b → (b || named w) ≡ true
          → level_matches w t ≡ level_matches w (f t)
      at true e g = ap (λ b. bytes_eq w (codes "+") || b)
          (no_wildcard w t e k ∙ sym (no_wildcard w (f t) e (m.level t k)))
      at false e g = ap (λ b. bytes_eq w (codes "+") || b) (literal w t g)

  -- a level of a filter is known, where all of its levels are named
  level_known : (w : List ℕ) (ws : List (List ℕ))
      → ((t : List ℕ) → is_literal_in t ws ≡ true → named t ≡ true)
      → fits known ws ≡ true
  level_known w [] h = refl
  level_known w (x ∷ ws) h =
      and_from (bytes_eq x (codes "+") || (bytes_eq x (codes "#") && (length ws == 0)) || known x)
      (fits known ws)
      (or_right (bytes_eq x (codes "+") || (bytes_eq x (codes "#") && (length ws == 0))) (known x)
      (at (is_wildcard x) refl))
      (level_known w ws (λ t k. h t (or_right (bytes_eq t x && not (is_wildcard x))
      (is_literal_in t ws) k)))
    where
      at : (b : Bool) → is_wildcard x ≡ b → (is_wildcard x || named x) ≡ true
      at true e = or_left (is_wildcard x) (named x) e
      at false e = or_right (is_wildcard x) (named x)
          (h x (or_left (bytes_eq x x && not (is_wildcard x)) (is_literal_in x ws)
          (and_from (bytes_eq x x) (not (is_wildcard x)) (text_itself x) (ap not e))))

  pub levels_moved : (ws ls : List (List ℕ))
      → ((t : List ℕ) → is_literal_in t ws ≡ true → named t ≡ true)
      → list_all can_be_level ls ≡ true
      → levels_match_by level_matches ws ls ≡ levels_match_by level_matches ws (map f ls)
  levels_moved ws ls h k =
      match_same level_matches level_matches f known can_be_level at ws ls (level_known [] ws h) k
    where
      at : (w l : List ℕ) → (bytes_eq w (codes "+") || known w) ≡ true
          → can_be_level l ≡ true → level_matches w l ≡ level_matches w (f l)
      at w l e g = plain_same w l (by (bytes_eq w (codes "+")) refl e) g
        where
          by : (b : Bool) → bytes_eq w (codes "+") ≡ b → (b || known w) ≡ true → known w ≡ true
          by true i j = or_left (is_wildcard w) (named w)
              (or_left (bytes_eq w (codes "+")) (bytes_eq w (codes "#")) i)
          by false i j = j

  -- ---- the name
  lacking : (ls : List (List ℕ)) → list_all can_be_level ls ≡ true
      → list_all (λ l. not (contains_byte 47 l)) (map f ls) ≡ true
  lacking [] h = refl
  lacking (l ∷ ls) h =
      let parts = and_parts (can_be_level l) (list_all can_be_level ls) h in
      and_from (not (contains_byte 47 (f l)))
      (list_all (λ l. not (contains_byte 47 l)) (map f ls))
      (and_parts (is_plain (f l) && not (contains_byte 0 (f l))) (not (contains_byte 47 (f l)))
      (m.level l parts.0)).1
      (lacking ls parts.1)

  pub name_levels : (name : List ℕ) → is_name name ≡ true
      → levels (moved f name) ≡ map f (levels name)
  name_levels name h = joined_lacking (map f (levels name))
      (subst (λ n. 0 < n) (sym (length-map (levels name) f)) (levels-nonempty name))
      (lacking (levels name) (name_is name h).can)

  pub short_levels : ((t : List ℕ) → length (f t) ≤ 321) → (ls : List (List ℕ))
      → list_all can_be_level ls ≡ true → list_all is_name_level (map f ls) ≡ true
  short_levels short [] h = refl
  short_levels short (l ∷ ls) h =
      let parts = and_parts (can_be_level l) (list_all can_be_level ls) h in
      and_from (is_name_level (f l)) (list_all is_name_level (map f ls))
      (and_from (can_be_level (f l)) (nat_le (length (f l)) 321) (m.level l parts.0)
      (le-leb (length (f l)) 321 (short l)))
      (short_levels short ls parts.1)

  suits_moved : (ls : List (List ℕ)) → suits Dollar (map f ls) ≡ suits Dollar ls
  suits_moved [] = refl
  suits_moved (l ∷ ls) = (λ i. m.dollar l i
      && (suits_inside (map f ls) ∙ sym (suits_inside ls)) i)

  pub name_dollar : (name : List ℕ) → is_name name ≡ true
      → begins_with_dollar (moved f name) ≡ begins_with_dollar name
  name_dollar name h =
      sym (dollar_suits (moved f name)) ∙ ap (suits Dollar) (name_levels name h)
      ∙ suits_moved (levels name) ∙ dollar_suits name

  -- ---- rows
  -- the levels of the row's filter, and its user name, are named, but for marks
  pub record IsKnownRow (row : AclRow) : Type 0 where
    pub levels_known : (t : List ℕ) → is_literal_in t (levels row.filter) ≡ true
        → (named t || (is_everyones row.who && is_mark t)) ≡ true
    pub client : asks ≡ false
        → (is_everyones row.who && list_any (bytes_eq (codes "%c")) (levels row.filter)) ≡ false
    pub applies_known : applies u row.who ≡ applies v row.who

  literal_has : (mark : List ℕ) (ws : List (List ℕ)) → is_literal_in mark ws ≡ true
      → list_any (bytes_eq mark) ws ≡ true
  literal_has mark [] h = absurd (let q : false ≡ true = h in cc)
  literal_has mark (w ∷ ws) h = at (bytes_eq mark w) refl h (λ k. literal_has mark ws k)
    where
      at : (b : Bool) → bytes_eq mark w ≡ b
          → ((b && not (is_wildcard w)) || is_literal_in mark ws) ≡ true
          → (is_literal_in mark ws ≡ true → list_any (bytes_eq mark) ws ≡ true)
          → (bytes_eq mark w || list_any (bytes_eq mark) ws) ≡ true
      at true e k later = ap (λ b. b || list_any (bytes_eq mark) ws) e
      at false e k later = or_right (bytes_eq mark w) (list_any (bytes_eq mark) ws) (later k)

  module _ (row : AclRow) (k : IsKnownRow row) where
    abbrev ws : List (List ℕ)
    ws = levels row.filter

    abbrev here : List ℕ → Bool
    here w = is_wildcard w || is_literal_in w ws

    all_here : (vs : List (List ℕ))
        → ((t : List ℕ) → is_literal_in t vs ≡ true → is_literal_in t ws ≡ true)
        → fits here vs ≡ true
    all_here [] h = refl
    all_here (x ∷ vs) h =
        and_from (bytes_eq x (codes "+") || (bytes_eq x (codes "#") && (length vs == 0)) || here x)
        (fits here vs)
        (or_right (bytes_eq x (codes "+") || (bytes_eq x (codes "#") && (length vs == 0))) (here x)
        (at (is_wildcard x) refl))
        (all_here vs (λ t e. h t (or_right (bytes_eq t x && not (is_wildcard x))
        (is_literal_in t vs) e)))
      where
        at : (b : Bool) → is_wildcard x ≡ b → (is_wildcard x || is_literal_in x ws) ≡ true
        at true e = or_left (is_wildcard x) (is_literal_in x ws) e
        at false e = or_right (is_wildcard x) (is_literal_in x ws)
            (h x (or_left (bytes_eq x x && not (is_wildcard x)) (is_literal_in x vs)
            (and_from (bytes_eq x x) (not (is_wildcard x)) (text_itself x) (ap not e))))

    -- a level of the filter that is no mark of a `pattern` row is known
    is_known : (w : List ℕ) → (is_everyones row.who && is_mark w) ≡ false
        → (bytes_eq w (codes "+") || here w) ≡ true → known w ≡ true
    is_known w e h = at (is_wildcard w) refl
      where
        plus : (b : Bool) → bytes_eq w (codes "+") ≡ b → (b || here w) ≡ true → here w ≡ true
        plus true i j = or_left (is_wildcard w) (is_literal_in w ws)
            (or_left (bytes_eq w (codes "+")) (bytes_eq w (codes "#")) i)
        plus false i j = j

        at : (b : Bool) → is_wildcard w ≡ b → known w ≡ true
        at true i = or_left (is_wildcard w) (named w) i
        at false i = or_right (is_wildcard w) (named w)
            (or_false (named w) (sym (ap (λ b. named w || b) e)
            ∙ k.levels_known w
            (sym (ap (λ b. b || is_literal_in w ws) i)
            ∙ plus (bytes_eq w (codes "+")) refl h)))
          where
            or_false : (b : Bool) → (b || false) ≡ true → b ≡ true
            or_false true j = refl
            or_false false j = j

    mark_here : (w mark : List ℕ) → bytes_eq w mark ≡ true → is_wildcard mark ≡ false
        → (bytes_eq w (codes "+") || here w) ≡ true → is_literal_in mark ws ≡ true
    mark_here w mark e n h =
        sym (λ i. (plain i || (wild i || is_literal_in (text_is w mark e i) ws))) ∙ h
      where
        wild : is_wildcard w ≡ false
        wild = ap is_wildcard (text_is w mark e) ∙ n

        plain : bytes_eq w (codes "+") ≡ false
        plain = (or_parts (bytes_eq w (codes "+")) (bytes_eq w (codes "#")) wild).0

    level_same : (who : Who) → row.who ≡ who → (w l : List ℕ)
        → (bytes_eq w (codes "+") || here w) ≡ true → can_be_level l ≡ true
        → row_level_matches who c u w l ≡ row_level_matches who d v w (f l)
    level_same Anonymous o w l h g =
        plain_same w l (is_known w (ap (λ q. is_everyones q && is_mark w) o) h) g
    level_same (Named user) o w l h g =
        plain_same w l (is_known w (ap (λ q. is_everyones q && is_mark w) o) h) g
    level_same Everyone o w l h g =
        at (bytes_eq w (codes "%c")) (bytes_eq w (codes "%u")) refl refl
      where
        asked : bytes_eq w (codes "%c") ≡ true → (b : Bool) → asks ≡ b
            → bytes_eq l c ≡ bytes_eq (f l) d
        asked e true i = sym (m.client i l g)
        asked e false i = absurd (let q : false ≡ true =
            sym (k.client i) ∙ ap (λ q. is_everyones q
            && list_any (bytes_eq (codes "%c")) ws) o
            ∙ literal_has (codes "%c") ws (mark_here w (codes "%c") e refl h) in cc)

        at : (a b : Bool) → bytes_eq w (codes "%c") ≡ a → bytes_eq w (codes "%u") ≡ b
            → cond a (bytes_eq l c) (cond b (is_user l u) (level_matches w l))
            ≡ cond a (bytes_eq (f l) d) (cond b (is_user (f l) v) (level_matches w (f l)))
        at true b i j = asked i asks refl
        at false true i j = sym (m.user l g)
        at false false i j = plain_same w l
            (is_known w ((λ q. is_everyones (o q) && (i q || j q))) h) g

    pub concerns_moved : (name : List ℕ) → is_name name ≡ true
        → concerns c u name row ≡ concerns d v (moved f name) row
    concerns_moved name h =
        let matched = match_same (row_level_matches row.who c u) (row_level_matches row.who d v) f
        here can_be_level (λ w l e g. level_same row.who refl w l e g) ws (levels name)
        (all_here ws (λ t e. e)) (name_is name h).can
        ∙ ap (levels_match_by (row_level_matches row.who d v) ws) (sym (name_levels name h)) in
        (λ i. k.applies_known i
        && ((not (sym (name_dollar name h) i) || begins_with_dollar row.filter) && matched i))
