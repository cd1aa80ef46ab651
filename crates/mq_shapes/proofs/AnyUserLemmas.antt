-- Where the first rows have no `%u`, one level is as good as more for a user name.
use Rattle.std.proofs.Common.{◌≡◌, ◌∙◌, ◌&&◌, ◌||◌, ◌==◌, ◌+◌, ◌≤◌, ℕ, Bool, true, false, not, List, []}
use Rattle.std.proofs.Common.{◌∷◌, ◌++◌, Bor, Some, None, ap, arith, bytes_eq, codes, map, refl, suc}
use Rattle.std.proofs.Common.{if◌then◌else◌, length, sym, zero}
use Rattle.std.specs.List.{list_all, list_any}
use Rattle.std.proofs.lemmas.Bool.{and_from, and_parts, or_parts}
use Rattle.mq_topic.specs.Levels.{levels}
use Rattle.mq_topic.specs.Matching.{level_matches, levels_match_by}
use Rattle.mq_topic.specs.Texts.{is_plain}
use Rattle.mq_acl.specs.Rows.{AclRow}
use Rattle.mq_acl.specs.RowsByOwner.{is_everyones}
use Rattle.mq_cover.specs.declared.start.Start.{Start}
use Rattle.mq_unify.specs.Clients.{HasShape, IsMade, made, made_levels, values_from}
use Rattle.mq_unify.specs.Rows.{AllMade, row_matches}
use Rattle.mq_unify.specs.declared.shape.UserShape.TheVariants.{Levels}
use Rattle.mq_unify.proofs.FilterLemmas.{levels_lack}
use Rattle.mq_unify.proofs.MadeLemmas.{user_made}
use Rattle.mq_shapes.specs.Found.{FindsNone, has_name, row_hits}
use Rattle.mq_shapes.proofs.AnyLemmas.{beside_user, longer, longer_parts, misses, same_beside_user}
use Rattle.mq_shapes.proofs.AnyLemmas.{longer_full, same_filled}
use Rattle.mq_shapes.specs.Every.{has_user_mark, with_levels}

-- the values of a client with another user name, of one level
abbrev pub user_value : List ℕ → (ℕ → List ℕ) → (count : ℕ) → ℕ → List ℕ
user_value name values count i = if i == count then name else values i

kept : (name : List ℕ) (values : ℕ → List ℕ) (count first n : ℕ) → first + n ≤ count
    → values_from (user_value name values count) first n ≡ values_from values first n
kept name values count first zero h = refl
kept name values count first (suc n) h =
    let before : (first == count) ≡ false = grind (arith, h) in
    (λ i. (if before i then name else values first) ∷ kept name values count (suc first) n
    (omega (arith, h)) i)

own_value : (name : List ℕ) (values : ℕ → List ℕ) (count : ℕ)
    → user_value name values count count ≡ name
own_value name values count =
    let same : (count == count) ≡ true = grind arith in
    ap (λ b. if b then name else values count) same

module _ (count most : ℕ) (values : ℕ → List ℕ) (client user name : List ℕ)
    (alone : levels name ≡ name ∷ []) (plain : is_plain name ≡ true) where
  one_shaped : HasShape (with_levels count (Levels most)) values client (Some user)
      → HasShape (with_levels count (Levels 1)) (user_value name values count) client (Some name)
  one_shaped h = record {
    client_is = h.client_is ∙ sym (kept name values count 0 count (omega arith));
    user_is = alone ∙ ap (λ l. l ∷ []) (sym (own_value name values count));
  }

  one_made : (pattern : Bool) (ls : List (List ℕ))
      → IsMade (with_levels count (Levels most)) pattern values client (Some user) ls
      → IsMade (with_levels count (Levels 1)) pattern (user_value name values count) client
      (Some name) ls
  one_made pattern ls m = record {
    shaped = one_shaped m.shaped;
    client_plain = m.client_plain;
    user_plain = λ e. plain;
    user_there = λ e n. absurd (let k : Some name ≡ None = n in cc);
    whole = m.whole;
  }

  all_one_made : (rows : List AclRow)
      → AllMade (with_levels count (Levels most)) values client (Some user) rows
      → AllMade (with_levels count (Levels 1)) (user_value name values count) client
      (Some name) rows
  all_one_made [] m = m
  all_one_made (row ∷ rows) m =
      (one_made (is_everyones row.who) (levels row.filter) m.0, all_one_made rows m.1)

  same_row : (row : AclRow) → has_user_mark row ≡ false
      → IsMade (with_levels count (Levels most)) (is_everyones row.who) values client (Some user)
      (levels row.filter)
      → (ls : List (List ℕ)) → row_matches client (Some name) ls row
      ≡ row_matches client (Some user) ls row
  same_row row c m ls =
      ap (λ fs. levels_match_by level_matches fs ls)
      (same_filled client name client user (λ l. bytes_eq l (codes "%u"))
      (same_beside_user client name user) (is_everyones row.who) (levels row.filter)
      (levels_lack row.filter) m.whole c)

  all_same : (rows : List AclRow) → list_any has_user_mark rows ≡ false
      → AllMade (with_levels count (Levels most)) values client (Some user) rows
      → (ls : List (List ℕ)) → list_all (row_matches client (Some name) ls) rows
      ≡ list_all (row_matches client (Some user) ls) rows
  all_same [] c m ls = refl
  all_same (row ∷ rows) c m ls =
      let both = or_parts (has_user_mark row) (list_any has_user_mark rows) c in
      (λ i. same_row row both.0 m.0 ls i && all_same rows both.1 m.1 ls i)

  module _ (ls : List (List ℕ)) (absent : list_any (bytes_eq name) ls ≡ false)
      (plus : bytes_eq name (codes "+") ≡ false) (hash : bytes_eq name (codes "#") ≡ false) where
    marked_row : (row : AclRow) → has_user_mark row ≡ true
        → IsMade (with_levels count (Levels most)) (is_everyones row.who) values client
        (Some user) (levels row.filter)
        → row_matches client (Some name) ls row ≡ false
    marked_row row c m =
        let both = and_parts (is_everyones row.who)
        (list_any (λ l. bytes_eq l (codes "%u")) (levels row.filter)) c in
        ap (λ p. levels_match_by level_matches
        (made_levels p client name (levels row.filter)) ls) both.0
        ∙ misses (made true client name) (λ l. bytes_eq l (codes "%u")) name plus hash
        (λ l e. user_made client name l e ∙ alone)
        (beside_user client name (m.client_plain both.0))
        (levels row.filter) (levels_lack row.filter) (m.whole both.0) both.1 ls absent

    no_more : (rows : List AclRow)
        → AllMade (with_levels count (Levels most)) values client (Some user) rows
        → list_any (row_matches client (Some user) ls) rows ≡ false
        → list_any (row_matches client (Some name) ls) rows ≡ false
    no_more [] m h = refl
    no_more (row ∷ rows) m h =
        let both = or_parts (row_matches client (Some user) ls row)
        (list_any (row_matches client (Some user) ls) rows) h in
        let rest = no_more rows m.1 both.1 in
        (λ i. here both.0 (has_user_mark row) refl i || rest i)
      where
        here : row_matches client (Some user) ls row ≡ false → (b : Bool) → has_user_mark row ≡ b
            → row_matches client (Some name) ls row ≡ false
        here none true c = marked_row row c m.0
        here none false c = same_row row c m.0 ls ∙ none

-- ---- a text that is neither a level of a name nor a listed user name
listed_in : (users : List (Bor (List ℕ))) (name : List ℕ)
    → list_any (bytes_eq name) (map (λ name. name.now) users) ≡ has_name users name
listed_in [] name = refl
listed_in (u ∷ users) name = ap (λ b. bytes_eq name u.now || b) (listed_in users name)

any_parts : (text : List ℕ) (xs ys : List (List ℕ)) → list_any (bytes_eq text) (xs ++ ys) ≡ false
    → (list_any (bytes_eq text) xs ≡ false) × (list_any (bytes_eq text) ys ≡ false)
any_parts text [] ys h = (refl, h)
any_parts text (x ∷ xs) ys h =
    let both = or_parts (bytes_eq text x) (list_any (bytes_eq text) (xs ++ ys)) h in
    let rest = any_parts text xs ys both.1 in
    ((λ i. both.0 i || rest.0 i), rest.1)

-- where the first rows have no `%u`, and no client with a user name of one level has such a topic, none with more has
pub none_of_any_user : (start : Start) (count : ℕ) (users : List (Bor (List ℕ)))
    (must cover : List AclRow) → list_any has_user_mark must ≡ false
    → FindsNone start (with_levels count (Levels 1)) users must cover → (most : ℕ)
    → FindsNone start (with_levels count (Levels most)) users must cover
none_of_any_user start count users must cover bare none most values client None ls has m c u t s n =
    absurd has.user_is
none_of_any_user start count users must cover bare none most values client (Some user) ls has m c u
    t s n =
    by (list_all (row_matches client (Some user) ls) must) refl
    (list_any (row_matches client (Some user) ls) cover) refl
  where
    by : (a : Bool) → list_all (row_matches client (Some user) ls) must ≡ a
        → (b : Bool) → list_any (row_matches client (Some user) ls) cover ≡ b
        → row_hits client (Some user) ls must cover ≡ false
    by false e b f = (λ i. e i && not (list_any (row_matches client (Some user) ls) cover))
    by true e true f = (λ i. e i && not (f i))
    by true e false f =
        let taken = ls ++ map (λ (name : Bor (List ℕ)). name.now) users in
        let name = longer taken in
        let parts = longer_parts taken in
        let apart = any_parts name ls (map (λ (name : Bor (List ℕ)). name.now) users) parts.0 in
        let value = user_value name values count in
        let nothing = none value client (Some name) ls
        (one_shaped count most values client user name parts.1 parts.2 has)
        (all_one_made count most values client user name parts.1 parts.2 must m)
        (all_one_made count most values client user name parts.1 parts.2 cover c)
        (sym (listed_in users name) ∙ apart.1)
        (and_from (not (length client == 0)) (not (length name == 0))
        (and_parts (not (length client == 0)) (not (length user == 0)) t).0 (longer_full taken)) s n in
        let all = all_same count most values client user name parts.1 parts.2 must bare m ls ∙ e in
        let no_cover = no_more count most values client user name parts.1 parts.2 ls apart.0 parts.3
        parts.4 cover c f in
        absurd (let k : false ≡ true = sym nothing ∙ (λ i. all i && not (no_cover i)) in cc)
