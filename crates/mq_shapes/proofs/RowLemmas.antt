-- Rows with the texts of a client in the places of their marks.
use Rattle.std.proofs.Common.{◌≡◌, ◌∙◌, ◌&&◌, ◌||◌, ◌==◌, ℕ, Bool, true, false, not, List, [], ◌∷◌, ◌++◌}
use Rattle.std.proofs.Common.{Global, IfNone, IfSome, String, string_bytes, Option, Some, None, ap, arith, bytes_eq, codes, length, map, refl, sym}
use Rattle.std.specs.List.{list_all, list_any}
use Rattle.std.specs.Option.{unwrap_or}
use Rattle.std.proofs.lemmas.Bool.{and_from, and_parts}
use Rattle.std.proofs.lemmas.List.Folds.{list_all-map}
use Rattle.mq_topic.specs.Levels.{levels}
use Rattle.mq_topic.specs.Texts.{contains_byte}
use Rattle.mq_acl.specs.Lines.{is_pattern_level}
use Rattle.mq_acl.specs.Rows.{AclRow}
use Rattle.mq_acl.specs.RowsByOwner.{is_everyones}
use Rattle.mq_cover.specs.Names.{are_others, is_choice}
use Rattle.mq_cover.specs.Remainders.{fits}
use Rattle.mq_cover.specs.declared.others.Others.{Others}
use Rattle.mq_cover.specs.declared.start.Start.{Start}
use Rattle.mq_unify.specs.Clients.{made, made_levels, user_passes}
use Rattle.mq_unify.specs.Rows.{rows_fit}
use Rattle.mq_unify.proofs.FilterLemmas.{all_lack, levels_lack, none_left, single}
use Rattle.mq_unify.proofs.MadeLemmas.{client_made, none_in, unmarked, user_made}
use Rattle.mq_shapes.specs.Filled.{row_levels}
use Rattle.mq_shapes.specs.Found.{HasNone, IsMatched, IsTopic, MatchesNone, all_fit, filter_hits}
use Rattle.mq_shapes.specs.Found.{has_whole_marks, row_hits}
use Rattle.mq_shapes.proofs.FilledLemmas.{single_levels}
use Rattle.mq_shapes.proofs.LeftLemmas.{matching}

pub any-map : {X Y : Type 0} (p : Y → Bool) (f : X → Y) (xs : List X)
    → list_any p (map f xs) ≡ list_any (λ x. p (f x)) xs
any-map p f [] = refl
any-map p f (x ∷ xs) = ap (λ b. p (f x) || b) (any-map p f xs)

-- rows hit what their filters for the client do
pub rows_hit : (client : List ℕ) (user : Option (List ℕ)) (ls : List (List ℕ))
    (must cover : List AclRow) → row_hits client user ls must cover
    ≡ filter_hits ls (map (row_levels client (unwrap_or user [])) must)
    (map (row_levels client (unwrap_or user [])) cover)
rows_hit client user ls must cover = λ i.
    sym (list_all-map (matching ls) (row_levels client (unwrap_or user [])) must) i
    && not (sym (any-map (matching ls) (row_levels client (unwrap_or user [])) cover) i)

module _ (p : List ℕ → Bool) (client user : List ℕ)
    (client_fits : list_all p (levels client) ≡ true)
    (user_fits : list_all p (levels user) ≡ true) where
  all_more : (xs ys : List (List ℕ)) → list_all p xs ≡ true → fits p ys ≡ true
      → fits p (xs ++ ys) ≡ true
  all_more [] ys h k = k
  all_more (x ∷ xs) ys h k =
      let both = and_parts (p x) (list_all p xs) h in
      let more = all_more xs ys both.1 k in grind (arith, more, both)

  plain_level : (l : List ℕ) → is_pattern_level l ≡ true → bytes_eq l (codes "%c") ≡ false
      → bytes_eq l (codes "%u") ≡ false → not (contains_byte 47 l) ≡ true
      → made true client user l ≡ l ∷ []
  plain_level l w c u s =
      let none = none_in l w c u in
      ap levels (unmarked client user l none.0 none.1) ∙ single l s

  levels_fit : (ls : List (List ℕ)) → all_lack ls ≡ true → list_all is_pattern_level ls ≡ true
      → fits p ls ≡ true → fits p (made_levels true client user ls) ≡ true
  levels_fit [] s w h = refl
  levels_fit (l ∷ ls) s w h =
      let slashes = and_parts (not (contains_byte 47 l)) (all_lack ls) s in
      let whole = and_parts (is_pattern_level l) (list_all is_pattern_level ls) w in
      let parts = and_parts (bytes_eq l (codes "+")
      || (bytes_eq l (codes "#") && (length ls == 0)) || p l) (fits p ls) h in
      by slashes.0 whole.0 parts.0 (levels_fit ls slashes.1 whole.1 parts.1)
      (bytes_eq l (codes "%c")) refl (bytes_eq l (codes "%u")) refl
    where
      by : not (contains_byte 47 l) ≡ true → is_pattern_level l ≡ true
          → (bytes_eq l (codes "+") || (bytes_eq l (codes "#") && (length ls == 0)) || p l) ≡ true
          → fits p (made_levels true client user ls) ≡ true
          → (c : Bool) → bytes_eq l (codes "%c") ≡ c → (u : Bool) → bytes_eq l (codes "%u") ≡ u
          → fits p (made true client user l ++ made_levels true client user ls) ≡ true
      by slash is fit rest true c u e =
          ap (λ m. fits p (m ++ made_levels true client user ls)) (client_made client user l c)
          ∙ all_more (levels client) (made_levels true client user ls) client_fits rest
      by slash is fit rest false c true e =
          ap (λ m. fits p (m ++ made_levels true client user ls)) (user_made client user l e)
          ∙ all_more (levels user) (made_levels true client user ls) user_fits rest
      by slash is fit rest false c false e =
          ap (λ m. fits p (m ++ made_levels true client user ls)) (plain_level l is c e slash)
          ∙ ap (λ b. (bytes_eq l (codes "+") || (bytes_eq l (codes "#") && b) || p l)
          && fits p (made_levels true client user ls)) (none_left true client user ls)
          ∙ and_from (bytes_eq l (codes "+") || (bytes_eq l (codes "#") && (length ls == 0)) || p l)
          (fits p (made_levels true client user ls)) fit rest

  row_fits : (row : AclRow) → has_whole_marks row ≡ true → fits p (levels row.filter) ≡ true
      → fits p (row_levels client user row) ≡ true
  row_fits row w h = by (is_everyones row.who) w
    where
      by : (pattern : Bool)
          → (not pattern || list_all is_pattern_level (levels row.filter)) ≡ true
          → fits p (made_levels pattern client user (levels row.filter)) ≡ true
      by true w = levels_fit (levels row.filter) (levels_lack row.filter) w h
      by false w = ap (fits p) (sym (single_levels (levels row.filter))) ∙ h

  pub filled_fit : (rows : List AclRow) → list_all has_whole_marks rows ≡ true
      → rows_fit p rows ≡ true → all_fit p (map (row_levels client user) rows) ≡ true
  filled_fit [] w h = refl
  filled_fit (row ∷ rows) w h =
      let whole = and_parts (has_whole_marks row) (list_all has_whole_marks rows) w in
      let fit = and_parts (fits p (levels row.filter)) (rows_fit p rows) h in
      and_from (fits p (row_levels client user row)) (all_fit p (map (row_levels client user) rows))
      (row_fits row whole.0 fit.0) (filled_fit rows whole.1 fit.1)

-- the empty text stands for no other
pub empty_choice : (others : Others) → are_others others ≡ true → is_choice others [] ≡ true
empty_choice others h = grind arith

pub user_levels_fit : (p : List ℕ → Bool) (user : Option (List ℕ)) → p [] ≡ true
    → user_passes p user ≡ true → list_all p (levels (unwrap_or user [])) ≡ true
user_levels_fit p None e h = and_from (p []) true e refl
user_levels_fit p (Some user) e h = h

-- filters for names that are those of a client are those for the client
pub as_client : (name client other user : List ℕ) (rows : List AclRow) → name ≡ client
    → other ≡ user → (filters : List (List (List ℕ))) → filters ≡ map (row_levels name other) rows
    → filters ≡ map (row_levels client user) rows
as_client name client other user rows e f filters is =
    is ∙ (λ i. map (row_levels (e i) (f i)) rows)

-- ---- what is said of filters is said of the rows
module _ (start : Start) (must cover : List AclRow) (client : List ℕ) (user : Option (List ℕ))
    (firsts others : List (List (List ℕ)))
    (m : firsts ≡ map (row_levels client (unwrap_or user [])) must)
    (c : others ≡ map (row_levels client (unwrap_or user [])) cover) where
  hits_are : (ls : List (List ℕ))
      → row_hits client user ls must cover ≡ filter_hits ls firsts others
  hits_are ls = rows_hit client user ls must cover ∙ (λ i. filter_hits ls (sym m i) (sym c i))

  pub none_of_rows : (topic : Option (String Global))
      → IfNone topic (MatchesNone start firsts others)
      → IfNone topic (HasNone start must cover client user)
  none_of_rows None h = λ ls suitable few. hits_are ls ∙ h ls suitable few
  none_of_rows (Some topic) h = h

  pub topic_of_rows : (topic : Option (String Global))
      → IfSome topic (λ topic. IsMatched start firsts others (string_bytes topic))
      → IfSome topic (λ topic. IsTopic start must cover client user (string_bytes topic))
  topic_of_rows None h = h
  topic_of_rows (Some topic) h = record {
    suitable = h.suitable;
    few = h.few;
    valid = h.valid;
    hit = hits_are (levels (string_bytes topic)) ∙ h.hit;
  }
