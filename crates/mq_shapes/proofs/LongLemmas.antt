-- Where one of the first rows has `%c`, no client whose id has more levels than their topics has one; and so with `%u`.
use Rattle.std.proofs.Common.{◌≡◌, ◌∙◌, ◌&&◌, ◌||◌, ◌==◌, ◌+◌, ◌≤◌, ◌<◌, ◌⊎◌, ℕ, Bool, true, false, not, List, []}
use Rattle.std.proofs.Common.{◌∷◌, ◌++◌, Bor, Option, Some, None, ap, arith, bytes_eq, codes, inl, inr, length}
use Rattle.std.proofs.Common.{length-append, refl, sym}
use Rattle.std.specs.List.{flat_map, list_all, list_any}
use Rattle.std.specs.Option.{unwrap_or}
use Rattle.std.proofs.Math.Bool.{and-false}
use Rattle.std.proofs.lemmas.Bool.{and_parts}
use Rattle.mq_topic.specs.Levels.{levels}
use Rattle.mq_topic.specs.Matching.{level_matches, levels_match_by}
use Rattle.mq_topic.specs.Texts.{contains_byte, is_plain}
use Rattle.mq_acl.proofs.FilledLemmas.{plain_levels}
use Rattle.mq_acl.specs.Lines.{is_pattern_level}
use Rattle.mq_acl.specs.Rows.{AclRow}
use Rattle.mq_acl.specs.RowsByOwner.{is_everyones}
use Rattle.mq_cover.specs.declared.start.Start.{Start}
use Rattle.mq_unify.specs.Clients.{IsMade, are_plain, goes_along, made, made_levels}
use Rattle.mq_unify.specs.Clients.{mark_plain}
use Rattle.mq_unify.specs.Rows.{AllMade, row_matches}
use Rattle.mq_unify.specs.declared.shape.UserShape.{UserShape}
use Rattle.mq_unify.specs.declared.shape.UserShape.TheVariants.{Levels}
use Rattle.mq_unify.proofs.FilterLemmas.{all_lack, along_one, along_plain, levels_lack}
use Rattle.mq_unify.proofs.JoinLemmas.{length-values}
use Rattle.mq_unify.proofs.MadeLemmas.{client_made, user_made}
use Rattle.mq_shapes.specs.Found.{FindsNone, row_hits}
use Rattle.mq_shapes.specs.Every.{has_client_mark, has_user_mark, with_levels}
use Rattle.mq_shapes.specs.Total.{HaveAtMost}
use Rattle.mq_shapes.proofs.AnyLemmas.{beside_client, beside_user}

-- what goes along with levels has as many, and goes on behind them
along_more : (ws : List (List ℕ)) (behind : List (List ℕ) → Bool) (ls : List (List ℕ))
    → goes_along ws behind ls ≡ true
    → (rest : List (List ℕ)) × (behind rest ≡ true) × (length ws + length rest ≡ length ls)
along_more [] behind ls h = (ls, h, omega arith)
along_more (w ∷ ws) behind [] h = absurd (let k : false ≡ true = h in cc)
along_more (w ∷ ws) behind (l ∷ ls) h =
    let both = and_parts (level_matches w l) (goes_along ws behind ls) h in
    let more = along_more ws behind ls both.1 in
    (more.0, more.1, omega (arith, more.2))

module _ (make : List ℕ → List (List ℕ)) (mark : List ℕ → Bool) (count : ℕ) (some : 0 < count)
    (marked : (l : List ℕ) → mark l ≡ true
    → (are_plain (make l) ≡ true) × (length (make l) ≡ count))
    (unmarked_is : (l : List ℕ) → not (contains_byte 47 l) ≡ true → is_pattern_level l ≡ true
    → mark l ≡ false → (make l ≡ l ∷ []) ⊎ (are_plain (make l) ≡ true)) where
  some_levels : (fs : List (List ℕ)) → list_any mark fs ≡ true
      → (length (flat_map make fs) == 0) ≡ false
  some_levels [] h = absurd (let k : false ≡ true = h in cc)
  some_levels (f ∷ fs) h = by (some_levels fs) (mark f) refl
    where
      by : (list_any mark fs ≡ true → (length (flat_map make fs) == 0) ≡ false)
          → (b : Bool) → mark f ≡ b → (length (make f ++ flat_map make fs) == 0) ≡ false
      by next true e =
          let full = (marked f e).1 in
          let long = length-append (make f) (flat_map make fs) in grind (arith, long, full, some)
      by next false e =
          let more = next (sym (ap (λ b. b || list_any mark fs) e) ∙ h) in
          let long = length-append (make f) (flat_map make fs) in grind (arith, long, more)

  -- a name that such a filter matches has as many levels as the mark makes
  long_name : (fs : List (List ℕ)) → all_lack fs ≡ true → list_all is_pattern_level fs ≡ true
      → list_any mark fs ≡ true → (ls : List (List ℕ))
      → levels_match_by level_matches (flat_map make fs) ls ≡ true → count ≤ length ls
  long_name [] s w c ls h = absurd (let k : false ≡ true = c in cc)
  long_name (f ∷ fs) s w c ls h =
      let slash = and_parts (not (contains_byte 47 f)) (all_lack fs) s in
      let whole = and_parts (is_pattern_level f) (list_all is_pattern_level fs) w in
      by slash.0 whole.0 (long_name fs slash.1 whole.1) (mark f) refl
    where
      other : list_any mark fs ≡ true → ((ls : List (List ℕ))
          → levels_match_by level_matches (flat_map make fs) ls ≡ true → count ≤ length ls)
          → (make f ≡ f ∷ []) ⊎ (are_plain (make f) ≡ true) → count ≤ length ls
      other more next (inl is) =
          let along = sym (ap (λ m. levels_match_by level_matches (m ++ flat_map make fs) ls) is
          ∙ along_one f (flat_map make fs) ls
          (ap (λ b. bytes_eq f (codes "#") && b) (some_levels fs more)
          ∙ and-false (bytes_eq f (codes "#")))) ∙ h in
          let behind = along_more (f ∷ [])
          (λ k. levels_match_by level_matches (flat_map make fs) k) ls along in
          let rest = next behind.0 behind.1 in omega (arith, rest, behind.2)
      other more next (inr plain) =
          let along = sym (along_plain (make f) (flat_map make fs) ls plain) ∙ h in
          let behind = along_more (make f)
          (λ k. levels_match_by level_matches (flat_map make fs) k) ls along in
          let rest = next behind.0 behind.1 in omega (arith, rest, behind.2)

      by : not (contains_byte 47 f) ≡ true → is_pattern_level f ≡ true
          → (list_any mark fs ≡ true → (ls : List (List ℕ))
          → levels_match_by level_matches (flat_map make fs) ls ≡ true → count ≤ length ls)
          → (b : Bool) → mark f ≡ b → count ≤ length ls
      by slash is next true e =
          let made_so = marked f e in
          let along = sym (along_plain (make f) (flat_map make fs) ls made_so.0) ∙ h in
          let behind = along_more (make f)
          (λ k. levels_match_by level_matches (flat_map make fs) k) ls along in
          let long = made_so.1 in omega (arith, long, behind.2)
      by slash is next false e =
          let more : list_any mark fs ≡ true = sym (ap (λ b. b || list_any mark fs) e) ∙ c in
          other more (next more) (unmarked_is f slash is e)

-- ---- rows
user_is_plain : (user : Option (List ℕ)) → mark_plain user ≡ true
    → is_plain (unwrap_or user []) ≡ true
user_is_plain None h = refl
user_is_plain (Some user) h = h

client_row : (of : UserShape) (count : ℕ) (values : ℕ → List ℕ) (client : List ℕ)
    (user : Option (List ℕ)) (ls : List (List ℕ)) (row : AclRow) → 0 < count
    → has_client_mark row ≡ true
    → IsMade (with_levels count of) (is_everyones row.who) values client user (levels row.filter)
    → row_matches client user ls row ≡ true → count ≤ length ls
client_row of count values client user ls row some c m h =
    let both = and_parts (is_everyones row.who)
    (list_any (λ l. bytes_eq l (codes "%c")) (levels row.filter)) c in
    let name = unwrap_or user [] in
    let made_so = ap (λ p. levels_match_by level_matches
    (made_levels p client name (levels row.filter)) ls) (sym both.0) ∙ h in
    long_name (made true client name) (λ l. bytes_eq l (codes "%c")) count some
    (λ l e. (
      ap are_plain (client_made client name l e)
          ∙ plain_levels client (m.client_plain both.0),
      ap length (client_made client name l e ∙ m.shaped.client_is) ∙ length-values values 0 count,
    ))
    (beside_client client name (user_is_plain user (m.user_plain both.0)))
    (levels row.filter) (levels_lack row.filter) (m.whole both.0) both.1 ls made_so

user_row : (count most : ℕ) (values : ℕ → List ℕ) (client user : List ℕ) (ls : List (List ℕ))
    (row : AclRow) → 0 < most → has_user_mark row ≡ true
    → IsMade (with_levels count (Levels most)) (is_everyones row.who) values client (Some user)
    (levels row.filter)
    → row_matches client (Some user) ls row ≡ true → most ≤ length ls
user_row count most values client user ls row some c m h =
    let both = and_parts (is_everyones row.who)
    (list_any (λ l. bytes_eq l (codes "%u")) (levels row.filter)) c in
    let made_so = ap (λ p. levels_match_by level_matches
    (made_levels p client user (levels row.filter)) ls) (sym both.0) ∙ h in
    long_name (made true client user) (λ l. bytes_eq l (codes "%u")) most some
    (λ l e. (
      ap are_plain (user_made client user l e)
          ∙ plain_levels user (m.user_plain both.0),
      ap length (user_made client user l e ∙ m.shaped.user_is) ∙ length-values values count most,
    ))
    (beside_user client user (m.client_plain both.0))
    (levels row.filter) (levels_lack row.filter) (m.whole both.0) both.1 ls made_so

pub no_long_ids : (start : Start) (of : UserShape) (users : List (Bor (List ℕ)))
    (must cover : List AclRow) → list_any has_client_mark must ≡ true → (most : ℕ)
    → HaveAtMost must most → (count : ℕ) → most < count
    → FindsNone start (with_levels count of) users must cover
no_long_ids start of users must cover marked most have count long values client user ls has m c u t s n =
    by (list_all (row_matches client user ls) must) refl
  where
    reaches : (rows : List AclRow) → list_any has_client_mark rows ≡ true
        → AllMade (with_levels count of) values client user rows
        → list_all (row_matches client user ls) rows ≡ true → count ≤ length ls
    reaches [] e m h = absurd (let k : false ≡ true = e in cc)
    reaches (row ∷ rows) e m h =
        let both = and_parts (row_matches client user ls row)
        (list_all (row_matches client user ls) rows) h in
        at (reaches rows) both.0 both.1 (has_client_mark row) refl
      where
        at : (list_any has_client_mark rows ≡ true
            → AllMade (with_levels count of) values client user rows
            → list_all (row_matches client user ls) rows ≡ true → count ≤ length ls)
            → row_matches client user ls row ≡ true
            → list_all (row_matches client user ls) rows ≡ true
            → (b : Bool) → has_client_mark row ≡ b → count ≤ length ls
        at next one all true f =
            client_row of count values client user ls row (omega (arith, long)) f m.0 one
        at next one all false f = next (sym (ap (λ b. b || list_any has_client_mark rows) f) ∙ e) m.1
            all

    by : (a : Bool) → list_all (row_matches client user ls) must ≡ a
        → row_hits client user ls must cover ≡ false
    by false e = (λ i. e i && not (list_any (row_matches client user ls) cover))
    by true e = absurd (let k = reaches must marked m e in let few = have client user ls n e in
        omega (arith, k, few, long))

pub no_long_users : (start : Start) (count : ℕ) (users : List (Bor (List ℕ)))
    (must cover : List AclRow) → list_any has_user_mark must ≡ true → (limit : ℕ)
    → HaveAtMost must limit → (most : ℕ) → limit < most
    → FindsNone start (with_levels count (Levels most)) users must cover
no_long_users start count users must cover marked limit have most long values client None ls has m
    c u t s n =
    absurd has.user_is
no_long_users start count users must cover marked limit have most long values client (Some user) ls
    has m c u t s n =
    by (list_all (row_matches client (Some user) ls) must) refl
  where
    reaches : (rows : List AclRow) → list_any has_user_mark rows ≡ true
        → AllMade (with_levels count (Levels most)) values client (Some user) rows
        → list_all (row_matches client (Some user) ls) rows ≡ true → most ≤ length ls
    reaches [] e m h = absurd (let k : false ≡ true = e in cc)
    reaches (row ∷ rows) e m h =
        let both = and_parts (row_matches client (Some user) ls row)
        (list_all (row_matches client (Some user) ls) rows) h in
        at (reaches rows) both.0 both.1 (has_user_mark row) refl
      where
        at : (list_any has_user_mark rows ≡ true
            → AllMade (with_levels count (Levels most)) values client (Some user) rows
            → list_all (row_matches client (Some user) ls) rows ≡ true → most ≤ length ls)
            → row_matches client (Some user) ls row ≡ true
            → list_all (row_matches client (Some user) ls) rows ≡ true
            → (b : Bool) → has_user_mark row ≡ b → most ≤ length ls
        at next one all true f =
            user_row count most values client user ls row (omega (arith, long)) f m.0 one
        at next one all false f = next (sym (ap (λ b. b || list_any has_user_mark rows) f) ∙ e) m.1
            all

    by : (a : Bool) → list_all (row_matches client (Some user) ls) must ≡ a
        → row_hits client (Some user) ls must cover ≡ false
    by false e = (λ i. e i && not (list_any (row_matches client (Some user) ls) cover))
    by true e = absurd (let k = reaches must marked m e in
        let few = have client (Some user) ls n e in omega (arith, k, few, long))
