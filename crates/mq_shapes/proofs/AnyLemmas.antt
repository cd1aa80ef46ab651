-- Where the first rows have no `%c`, one level is as good as more for a client id; and so with `%u` for a user name.
use Rattle.std.proofs.Common.{◌≡◌, ◌∙◌, ◌&&◌, ◌||◌, ◌==◌, ◌+◌, ◌<◌, ℕ, Bool, true, false, not, List, []}
use Rattle.std.proofs.Common.{◌∷◌, ◌++◌, Bor, Option, Some, None, ap, arith, bytes_eq, codes, length, refl, replicate}
use Rattle.std.proofs.Common.{inl, inr, length-append, suc, sym, zero, ◌⊎◌}
use Rattle.std.specs.List.{flat_map, list_all, list_any}
use Rattle.std.specs.Option.{unwrap_or}
use Rattle.std.proofs.lemmas.List.{length-replicate}
use Rattle.mq_cover.specs.declared.start.Start.{Start}
use Rattle.std.proofs.Math.Bool.{and-false}
use Rattle.std.proofs.lemmas.Bool.{and_from, and_parts, or_parts}
use Rattle.mq_topic.proofs.ByteLemmas.{text_is}
use Rattle.mq_topic.specs.Levels.{levels}
use Rattle.mq_topic.specs.Matching.{level_matches, levels_match_by}
use Rattle.mq_topic.specs.Texts.{contains_byte, is_plain}
use Rattle.mq_acl.proofs.FilledLemmas.{plain_levels}
use Rattle.mq_acl.specs.Lines.{is_pattern_level}
use Rattle.mq_acl.specs.Rows.{AclRow}
use Rattle.mq_acl.specs.RowsByOwner.{is_everyones}
use Rattle.mq_unify.specs.Clients.{HasShape, HasUser, IsMade, goes_along, made, made_levels}
use Rattle.mq_unify.specs.Clients.{are_plain, mark_plain}
use Rattle.mq_unify.specs.Clients.{values_from}
use Rattle.mq_unify.specs.Rows.{AllMade, row_matches}
use Rattle.mq_unify.specs.declared.shape.UserShape.{UserShape}
use Rattle.mq_unify.specs.declared.shape.UserShape.TheVariants.{Absent, Known, Levels}
use Rattle.mq_unify.proofs.FilterLemmas.{all_lack, along_one, along_plain, levels_lack}
use Rattle.mq_unify.proofs.FilterLemmas.{single}
use Rattle.mq_unify.proofs.MadeLemmas.{client_made, none_in, unmarked, user_made}
use Rattle.mq_shapes.specs.Every.{has_client_mark, with_levels}
use Rattle.mq_shapes.specs.Found.{FindsNone, is_empty_name, row_hits}

-- ---- a text that is none of some levels
abbrev pub total : List (List ℕ) → ℕ
total [] = 0
total (l ∷ ls) = length l + total ls

-- `x` as often as they have bytes, and once more
abbrev pub longer : List (List ℕ) → List ℕ
longer ls = replicate (total ls + 1) 120

none_longer : (ls : List (List ℕ)) (text : List ℕ) → total ls < length text
    → list_any (bytes_eq text) ls ≡ false
none_longer [] text h = refl
none_longer (l ∷ ls) text h =
    let rest = none_longer ls text (omega (arith, h)) in
    (λ i. apart (bytes_eq text l) refl i || rest i)
  where
    apart : (b : Bool) → bytes_eq text l ≡ b → bytes_eq text l ≡ false
    apart false e = e
    apart true e =
        let same : length text ≡ length l = ap length (text_is text l e) in
        absurd (omega (arith, same, h))

plain_replicated : (n b : ℕ) → (120 == b) ≡ false → contains_byte b (replicate n 120) ≡ false
plain_replicated zero b e = refl
plain_replicated (suc n) b e = (λ i. e i || plain_replicated n b e i)

-- ---- levels that two clients make alike
module _ (make other : List ℕ → List (List ℕ)) (mark : List ℕ → Bool)
    (same : (l : List ℕ) → not (contains_byte 47 l) ≡ true → is_pattern_level l ≡ true
    → mark l ≡ false → make l ≡ other l) where
  pub same_levels : (ls : List (List ℕ)) → all_lack ls ≡ true → list_all is_pattern_level ls ≡ true
      → list_any mark ls ≡ false → flat_map make ls ≡ flat_map other ls
  same_levels [] s w c = refl
  same_levels (l ∷ ls) s w c =
      let slash = and_parts (not (contains_byte 47 l)) (all_lack ls) s in
      let whole = and_parts (is_pattern_level l) (list_all is_pattern_level ls) w in
      let none = or_parts (mark l) (list_any mark ls) c in
      (λ i. same l slash.0 whole.0 none.0 i ++ same_levels ls slash.1 whole.1 none.1 i)

-- those of a row
pub same_filled : (client user other name : List ℕ) (mark : List ℕ → Bool)
    → ((l : List ℕ) → not (contains_byte 47 l) ≡ true → is_pattern_level l ≡ true
    → mark l ≡ false → made true client user l ≡ made true other name l)
    → (pattern : Bool) (ls : List (List ℕ)) → all_lack ls ≡ true
    → (pattern ≡ true → list_all is_pattern_level ls ≡ true)
    → (pattern && list_any mark ls) ≡ false
    → made_levels pattern client user ls ≡ made_levels pattern other name ls
same_filled client user other name mark same true ls s w c =
    same_levels (made true client user) (made true other name) mark same ls s (w refl) c
same_filled client user other name mark same false ls s w c = refl

-- ---- a text that stands in the place of a mark, and isn't among the levels of a name
module _ (make : List ℕ → List (List ℕ)) (mark : List ℕ → Bool) (text : List ℕ)
    (plus : bytes_eq text (codes "+") ≡ false) (hash : bytes_eq text (codes "#") ≡ false)
    (marked : (l : List ℕ) → mark l ≡ true → make l ≡ text ∷ [])
    (unmarked_is : (l : List ℕ) → not (contains_byte 47 l) ≡ true → is_pattern_level l ≡ true
    → mark l ≡ false → (make l ≡ l ∷ []) ⊎ (are_plain (make l) ≡ true)) where
  along_false : (ws : List (List ℕ)) (behind : List (List ℕ) → Bool)
      → ((ls : List (List ℕ)) → list_any (bytes_eq text) ls ≡ false → behind ls ≡ false)
      → (ls : List (List ℕ)) → list_any (bytes_eq text) ls ≡ false
      → goes_along ws behind ls ≡ false
  along_false [] behind none ls h = none ls h
  along_false (w ∷ ws) behind none [] h = refl
  along_false (w ∷ ws) behind none (l ∷ ls) h =
      let both = or_parts (bytes_eq text l) (list_any (bytes_eq text) ls) h in
      ap (λ b. level_matches w l && b) (along_false ws behind none ls both.1)
      ∙ and-false (level_matches w l)

  -- the text is no level of the name
  text_false : (rest : List (List ℕ)) (ls : List (List ℕ)) → list_any (bytes_eq text) ls ≡ false
      → levels_match_by level_matches (text ∷ rest) ls ≡ false
  text_false rest [] h = along_one text rest [] (ap (λ b. b && (length rest == 0)) hash)
  text_false rest (l ∷ ls) h =
      let both = or_parts (bytes_eq text l) (list_any (bytes_eq text) ls) h in
      along_one text rest (l ∷ ls) (ap (λ b. b && (length rest == 0)) hash)
      ∙ (λ i. (plus i || both.0 i) && levels_match_by level_matches rest ls)

  -- some level is made where the mark is
  some_levels : (fs : List (List ℕ)) → list_any mark fs ≡ true
      → (length (flat_map make fs) == 0) ≡ false
  some_levels [] h = absurd (let k : false ≡ true = h in cc)
  some_levels (f ∷ fs) h = by (some_levels fs) (mark f) refl
    where
      by : (list_any mark fs ≡ true → (length (flat_map make fs) == 0) ≡ false)
          → (b : Bool) → mark f ≡ b → (length (make f ++ flat_map make fs) == 0) ≡ false
      by next true e =
          let long : length (text ∷ flat_map make fs) ≡ suc (length (flat_map make fs)) = refl in
          let full : (length (text ∷ flat_map make fs) == 0) ≡ false = grind (arith, long) in
          ap (λ m. length (m ++ flat_map make fs) == 0) (marked f e) ∙ full
      by next false e =
          let more = next (sym (ap (λ b. b || list_any mark fs) e) ∙ h) in
          let long = length-append (make f) (flat_map make fs) in grind (arith, long, more)

  pub misses : (fs : List (List ℕ)) → all_lack fs ≡ true → list_all is_pattern_level fs ≡ true
      → list_any mark fs ≡ true → (ls : List (List ℕ)) → list_any (bytes_eq text) ls ≡ false
      → levels_match_by level_matches (flat_map make fs) ls ≡ false
  misses [] s w c ls h = absurd (let k : false ≡ true = c in cc)
  misses (f ∷ fs) s w c ls h =
      let slash = and_parts (not (contains_byte 47 f)) (all_lack fs) s in
      let whole = and_parts (is_pattern_level f) (list_all is_pattern_level fs) w in
      by slash.0 whole.0 (misses fs slash.1 whole.1) (mark f) refl
    where
      other : list_any mark fs ≡ true → ((ls : List (List ℕ)) → list_any (bytes_eq text) ls ≡ false
          → levels_match_by level_matches (flat_map make fs) ls ≡ false)
          → (make f ≡ f ∷ []) ⊎ (are_plain (make f) ≡ true)
          → levels_match_by level_matches (make f ++ flat_map make fs) ls ≡ false
      other more next (inl is) =
          ap (λ m. levels_match_by level_matches (m ++ flat_map make fs) ls) is
          ∙ along_one f (flat_map make fs) ls (ap (λ b. bytes_eq f (codes "#") && b) (some_levels fs more)
          ∙ and-false (bytes_eq f (codes "#")))
          ∙ along_false (f ∷ []) (λ k. levels_match_by level_matches (flat_map make fs) k) next ls h
      other more next (inr plain) =
          along_plain (make f) (flat_map make fs) ls plain
          ∙ along_false (make f) (λ k. levels_match_by level_matches (flat_map make fs) k) next ls h

      by : not (contains_byte 47 f) ≡ true → is_pattern_level f ≡ true
          → (list_any mark fs ≡ true → (ls : List (List ℕ))
          → list_any (bytes_eq text) ls ≡ false
          → levels_match_by level_matches (flat_map make fs) ls ≡ false)
          → (b : Bool) → mark f ≡ b
          → levels_match_by level_matches (make f ++ flat_map make fs) ls ≡ false
      by slash is next true e =
          ap (λ m. levels_match_by level_matches (m ++ flat_map make fs) ls) (marked f e)
          ∙ text_false (flat_map make fs) ls h
      by slash is next false e =
          let more : list_any mark fs ≡ true = sym (ap (λ b. b || list_any mark fs) e) ∙ c in
          other more (next more) (unmarked_is f slash is e)

-- the texts of a client
module _ (client user : List ℕ) where
  pub single_made : (l : List ℕ) → not (contains_byte 47 l) ≡ true → is_pattern_level l ≡ true
      → bytes_eq l (codes "%c") ≡ false → bytes_eq l (codes "%u") ≡ false
      → made true client user l ≡ l ∷ []
  single_made l s is c u =
      let none = none_in l is c u in
      ap levels (unmarked client user l none.0 none.1) ∙ single l s

  -- a level that isn't `%c`
  pub beside_client : is_plain user ≡ true → (l : List ℕ) → not (contains_byte 47 l) ≡ true
      → is_pattern_level l ≡ true → bytes_eq l (codes "%c") ≡ false
      → (made true client user l ≡ l ∷ []) ⊎ (are_plain (made true client user l) ≡ true)
  beside_client plain l s is c = by (bytes_eq l (codes "%u")) refl
    where
      by : (b : Bool) → bytes_eq l (codes "%u") ≡ b
          → (made true client user l ≡ l ∷ []) ⊎ (are_plain (made true client user l) ≡ true)
      by true u = inr (ap are_plain (user_made client user l u) ∙ plain_levels user plain)
      by false u = inl (single_made l s is c u)

  -- and one that isn't `%u`
  pub beside_user : is_plain client ≡ true → (l : List ℕ) → not (contains_byte 47 l) ≡ true
      → is_pattern_level l ≡ true → bytes_eq l (codes "%u") ≡ false
      → (made true client user l ≡ l ∷ []) ⊎ (are_plain (made true client user l) ≡ true)
  beside_user plain l s is u = by (bytes_eq l (codes "%c")) refl
    where
      by : (b : Bool) → bytes_eq l (codes "%c") ≡ b
          → (made true client user l ≡ l ∷ []) ⊎ (are_plain (made true client user l) ≡ true)
      by true c = inr (ap are_plain (client_made client user l c) ∙ plain_levels client plain)
      by false c = inl (single_made l s is c u)

-- a level without `%c` is alike for two ids
pub same_beside_client : (client other user : List ℕ) (l : List ℕ)
    → not (contains_byte 47 l) ≡ true → is_pattern_level l ≡ true
    → bytes_eq l (codes "%c") ≡ false → made true client user l ≡ made true other user l
same_beside_client client other user l s w c = by (bytes_eq l (codes "%u")) refl
  where
    by : (b : Bool) → bytes_eq l (codes "%u") ≡ b
        → made true client user l ≡ made true other user l
    by true u = user_made client user l u ∙ sym (user_made other user l u)
    by false u = single_made client user l s w c u ∙ sym (single_made other user l s w c u)

-- and one without `%u` for two user names
pub same_beside_user : (client user other : List ℕ) (l : List ℕ)
    → not (contains_byte 47 l) ≡ true → is_pattern_level l ≡ true
    → bytes_eq l (codes "%u") ≡ false → made true client user l ≡ made true client other l
same_beside_user client user other l s w u = by (bytes_eq l (codes "%c")) refl
  where
    by : (b : Bool) → bytes_eq l (codes "%c") ≡ b
        → made true client user l ≡ made true client other l
    by true c = client_made client user l c ∙ sym (client_made client other l c)
    by false c = single_made client user l s w c u ∙ sym (single_made client other l s w c u)

-- ---- clients whose ids have any number of levels
-- the values of a client with another id, of one level
abbrev pub one_value : List ℕ → (ℕ → List ℕ) → (count : ℕ) → ℕ → List ℕ
one_value id values count zero = id
one_value id values count (suc i) = values (i + count)

shifted : (id : List ℕ) (values : ℕ → List ℕ) (count first n : ℕ)
    → values_from (one_value id values count) (suc first) n ≡ values_from values (first + count) n
shifted id values count first zero = refl
shifted id values count first (suc n) =
    ap (λ l. values (first + count) ∷ l) (shifted id values count (suc first) n
    ∙ ap (λ k. values_from values k n) (omega arith))

one_user : (id : List ℕ) (values : ℕ → List ℕ) (count : ℕ) (of : UserShape)
    (user : Option (List ℕ)) → HasUser values count of user
    → HasUser (one_value id values count) 1 of user
one_user id values count Absent user h = h
one_user id values count (Known name) user h = h
one_user id values count (Levels n) None h = h
one_user id values count (Levels n) (Some user) h =
    h ∙ sym (shifted id values count 0 n ∙ ap (λ k. values_from values k n) (omega arith))

module _ (of : UserShape) (count : ℕ) (values : ℕ → List ℕ) (client : List ℕ)
    (user : Option (List ℕ)) (id : List ℕ) (alone : levels id ≡ id ∷ [])
    (plain : is_plain id ≡ true) where
  one_shaped : HasShape (with_levels count of) values client user
      → HasShape (with_levels 1 of) (one_value id values count) id user
  one_shaped h = record {
    client_is = alone;
    user_is = one_user id values count of user h.user_is;
  }

  one_made : (pattern : Bool) (ls : List (List ℕ))
      → IsMade (with_levels count of) pattern values client user ls
      → IsMade (with_levels 1 of) pattern (one_value id values count) id user ls
  one_made pattern ls m = record {
    shaped = one_shaped m.shaped;
    client_plain = λ e. plain;
    user_plain = m.user_plain;
    user_there = m.user_there;
    whole = m.whole;
  }

  all_one_made : (rows : List AclRow) → AllMade (with_levels count of) values client user rows
      → AllMade (with_levels 1 of) (one_value id values count) id user rows
  all_one_made [] m = m
  all_one_made (row ∷ rows) m =
      (one_made (is_everyones row.who) (levels row.filter) m.0, all_one_made rows m.1)

  -- what a row without `%c` matches, it matches for both
  same_row : (row : AclRow) → has_client_mark row ≡ false
      → IsMade (with_levels count of) (is_everyones row.who) values client user (levels row.filter)
      → (ls : List (List ℕ)) → row_matches id user ls row ≡ row_matches client user ls row
  same_row row c m ls =
      ap (λ fs. levels_match_by level_matches fs ls)
      (same_filled id (unwrap_or user []) client (unwrap_or user []) (λ l. bytes_eq l (codes "%c"))
      (same_beside_client id client (unwrap_or user [])) (is_everyones row.who) (levels row.filter)
      (levels_lack row.filter) m.whole c)

  all_same : (rows : List AclRow) → list_any has_client_mark rows ≡ false
      → AllMade (with_levels count of) values client user rows → (ls : List (List ℕ))
      → list_all (row_matches id user ls) rows ≡ list_all (row_matches client user ls) rows
  all_same [] c m ls = refl
  all_same (row ∷ rows) c m ls =
      let both = or_parts (has_client_mark row) (list_any has_client_mark rows) c in
      (λ i. same_row row both.0 m.0 ls i && all_same rows both.1 m.1 ls i)

  -- and one with `%c` matches none for a client whose id is no level of it
  module _ (ls : List (List ℕ)) (absent : list_any (bytes_eq id) ls ≡ false)
      (plus : bytes_eq id (codes "+") ≡ false) (hash : bytes_eq id (codes "#") ≡ false) where
    marked_row : (row : AclRow) → has_client_mark row ≡ true
        → IsMade (with_levels count of) (is_everyones row.who) values client user
        (levels row.filter)
        → row_matches id user ls row ≡ false
    marked_row row c m =
        let both = and_parts (is_everyones row.who)
        (list_any (λ l. bytes_eq l (codes "%c")) (levels row.filter)) c in
        ap (λ p. levels_match_by level_matches
        (made_levels p id (unwrap_or user []) (levels row.filter)) ls) both.0
        ∙ misses (made true id (unwrap_or user [])) (λ l. bytes_eq l (codes "%c")) id plus hash
        (λ l e. client_made id (unwrap_or user []) l e ∙ alone)
        (beside_client id (unwrap_or user []) (user_plain user (m.user_plain both.0)))
        (levels row.filter) (levels_lack row.filter) (m.whole both.0) both.1 ls absent
      where
        user_plain : (user : Option (List ℕ)) → mark_plain user ≡ true
            → is_plain (unwrap_or user []) ≡ true
        user_plain None h = refl
        user_plain (Some user) h = h

    no_more : (rows : List AclRow) → AllMade (with_levels count of) values client user rows
        → list_any (row_matches client user ls) rows ≡ false
        → list_any (row_matches id user ls) rows ≡ false
    no_more [] m h = refl
    no_more (row ∷ rows) m h =
        let both = or_parts (row_matches client user ls row)
        (list_any (row_matches client user ls) rows) h in
        let rest = no_more rows m.1 both.1 in
        (λ i. here both.0 (has_client_mark row) refl i || rest i)
      where
        here : row_matches client user ls row ≡ false → (b : Bool) → has_client_mark row ≡ b
            → row_matches id user ls row ≡ false
        here none true c = marked_row row c m.0
        here none false c = same_row row c m.0 ls ∙ none

pub longer_parts : (ls : List (List ℕ)) → (list_any (bytes_eq (longer ls)) ls ≡ false)
    × (levels (longer ls) ≡ longer ls ∷ []) × (is_plain (longer ls) ≡ true)
    × (bytes_eq (longer ls) (codes "+") ≡ false) × (bytes_eq (longer ls) (codes "#") ≡ false)
longer_parts ls =
    let n = total ls in
    let long = length-replicate {A = ℕ} (n + 1) 120 in
    let text = longer ls in
    let has = λ (b : ℕ) (e : (120 == b) ≡ false). plain_replicated (n + 1) b e in (
      none_longer ls text (omega (arith, long)),
      single text (ap not (has 47 refl)),
      and_from (not (contains_byte 43 text)) (not (contains_byte 35 text)) (ap not (has 43 refl))
          (ap not (has 35 refl)),
      other_first n 43 refl,
      other_first n 35 refl,
    )
  where
    other_first : (n b : ℕ) → (120 == b) ≡ false
        → bytes_eq (replicate (n + 1) 120) (b ∷ []) ≡ false
    other_first n b e = grind (arith, e)

pub longer_full : (ls : List (List ℕ)) → not (length (longer ls) == 0) ≡ true
longer_full ls = let long = length-replicate {A = ℕ} (total ls + 1) 120 in grind (arith, long)

-- where the first rows have no `%c`, and no client with an id of one level has such a topic, none has
pub none_of_any_id : (start : Start) (of : UserShape) (users : List (Bor (List ℕ)))
    (must cover : List AclRow) → list_any has_client_mark must ≡ false
    → FindsNone start (with_levels 1 of) users must cover → (count : ℕ)
    → FindsNone start (with_levels count of) users must cover
none_of_any_id start of users must cover unmarked none count values client user ls has m c u t s n =
    by (list_all (row_matches client user ls) must) refl
    (list_any (row_matches client user ls) cover) refl
  where
    by : (a : Bool) → list_all (row_matches client user ls) must ≡ a
        → (b : Bool) → list_any (row_matches client user ls) cover ≡ b
        → row_hits client user ls must cover ≡ false
    by false e b f = (λ i. e i && not (list_any (row_matches client user ls) cover))
    by true e true f = (λ i. e i && not (f i))
    by true e false f =
        let id = longer ls in
        let parts = longer_parts ls in
        let value = one_value id values count in
        let nothing = none value id user ls
        (one_shaped of count values client user id parts.1 parts.2 has)
        (all_one_made of count values client user id parts.1 parts.2 must m)
        (all_one_made of count values client user id parts.1 parts.2 cover c) u
        (and_from (not (length id == 0)) (not (is_empty_name user)) (longer_full ls)
        (and_parts (not (length client == 0)) (not (is_empty_name user)) t).1) s n in
        let all = all_same of count values client user id parts.1 parts.2 must unmarked m ls ∙ e in
        let no_cover = no_more of count values client user id parts.1 parts.2 ls parts.0 parts.3
        parts.4 cover c f in
        absurd (let k : false ≡ true = sym nothing ∙ (λ i. all i && not (no_cover i)) in cc)
