-- The rows that have to do with a question, one by one.
use Rattle.std.proofs.Common.{◌≡◌, ℕ, Bool, true, false, not, ◌&&◌, ◌||◌, List, [], ◌∷◌, ◌++◌}
use Rattle.std.proofs.Common.{length, Option, Some, refl, ap, sym, ◌∙◌, ◌<◌, ◌+◌, get_or, drop, Bor}
use Rattle.std.proofs.Common.{arith, subst}
use Rattle.std.specs.List.{list_all, list_any}
use Rattle.std.proofs.lemmas.List.{drop_more}
use Rattle.std.proofs.lemmas.List.Folds.{list_any-append, list_all-append}
use Rattle.std.proofs.lemmas.Bool.{and_from, and_left, and_parts, and_right}
use Rattle.std.proofs.Math.Bool.{and-true}
use Rattle.mq_topic.specs.Levels.{levels}
use Rattle.mq_topic.specs.Matching.{level_matches, levels_match_by}
use Rattle.mq_acl.specs.Access.{applies, begins_with_dollar}
use Rattle.mq_acl.specs.Refused.{is_state, state_filter}
use Rattle.mq_acl.specs.Rows.{AclRow}
use Rattle.mq_acl.specs.Views.{row_view}
use Rattle.mq_acl.specs.declared.row.Row.{Row}
use Rattle.mq_cover.specs.Remainders.{MarkLevels, covers, fits, hits, remainder_fits}
use Rattle.mq_cover.specs.Remainders.{remainders_fit}
use Rattle.mq_cover.specs.declared.remainder.Remainder.{Remainder}
use Rattle.mq_witness.specs.Decided.{concerns_in, decides_in}
use Rattle.mq_witness.specs.Names.{are_begun, are_states, is_right, names_fit}
use Rattle.mq_witness.specs.Roots.{all_begin, alike, left_begins, marks_of, rows_fit, same}
use Rattle.mq_witness.specs.Roots.{AreCover, AreMust, NoneConcerned}
use Rattle.mq_witness.specs.Rows.{lent_rows}
use Rattle.mq_witness.specs.declared.names.Names.{Names}

-- ---- the rows that are left
-- the first of them
pub left_first : (rows : List (Bor Row)) (i : ℕ) (x : Bor Row) → i < length rows
    → x ≡ get_or rows i x
    → lent_rows (drop i rows) ≡ row_view x.now ∷ lent_rows (drop (i + 1) rows)
left_first rows i x h e =
    ap lent_rows (drop_more rows i x h)
    ∙ ap (λ y. row_view y.now ∷ lent_rows (drop (i + 1) rows)) (sym e)

-- tests that are the same say the same
same_is : (a b : Bool) → same a b ≡ true → a ≡ b
same_is a b e = grind arith

alike_parts : (other user : Option (List ℕ)) (x : AclRow) (behind : List AclRow)
    → alike other user (x ∷ behind) ≡ true
    → (applies other x.who ≡ applies user x.who) × (alike other user behind ≡ true)
alike_parts other user x behind h =
    let parts = and_parts (same (applies other x.who) (applies user x.who)) _ h in
    (same_is _ _ parts.0, parts.1)

module _ (front : Bool) (user : Option (List ℕ)) (dollar : Bool) where
  -- such a remainder covers what the row concerns
  pub record IsRoot (row : AclRow) (r : Remainder) : Type 0 where
    pub covers : (client name : List ℕ) (other : Option (List ℕ))
        → applies other row.who ≡ applies user row.who → begins_with_dollar name ≡ dollar
        → covers (marks_of client other) (levels name) r ≡ concerns_in front client other name row
    pub fits : (p : List ℕ → Bool) → remainder_fits p r ≡ fits p (levels row.filter)
    pub begins : (not front && dollar) ≡ true → left_begins r.rest ≡ true

  -- the row concerns no such name
  abbrev pub HasNoRoot : AclRow → Type 0
  HasNoRoot row = (client name : List ℕ) (other : Option (List ℕ))
      → applies other row.who ≡ applies user row.who → begins_with_dollar name ≡ dollar
      → concerns_in front client other name row ≡ false

  -- ---- rows of which each has to concern a name
  pub record IsMustSoFar (rows left : List AclRow) (rs : List Remainder) : Type 0 where
    pub covers : (client name : List ℕ) (other : Option (List ℕ)) → alike other user rows ≡ true
        → begins_with_dollar name ≡ dollar
        → (list_all (covers (marks_of client other) (levels name)) rs
        && list_all (concerns_in front client other name) left)
        ≡ list_all (concerns_in front client other name) rows
    pub alike_left : (other : Option (List ℕ)) → alike other user rows ≡ true
        → alike other user left ≡ true
    pub fit : (p : List ℕ → Bool) → rows_fit p rows ≡ true
        → (remainders_fit p rs ≡ true) × (rows_fit p left ≡ true)
    pub begin : (not (not front && dollar) || all_begin rs) ≡ true

  -- ---- rows of which none may concern it
  pub record IsCoverSoFar (must : List Remainder) (rows left : List AclRow) (rs : List Remainder) :
      Type 0 where
    pub covers : (client name : List ℕ) (other : Option (List ℕ)) → alike other user rows ≡ true
        → begins_with_dollar name ≡ dollar
        → list_all (covers (marks_of client other) (levels name)) must ≡ true
        → (list_any (covers (marks_of client other) (levels name)) rs
        || list_any (concerns_in front client other name) left)
        ≡ list_any (concerns_in front client other name) rows
    pub alike_left : (other : Option (List ℕ)) → alike other user rows ≡ true
        → alike other user left ≡ true
    pub fit : (p : List ℕ → Bool) → rows_fit p rows ≡ true
        → (remainders_fit p rs ≡ true) × (rows_fit p left ≡ true)

-- ---- one row more
fit_more : (p : List ℕ → Bool) (rs : List Remainder) (r : Remainder)
    → remainders_fit p rs ≡ true → remainder_fits p r ≡ true
    → remainders_fit p (rs ++ r ∷ []) ≡ true
fit_more p rs r g h =
    list_all-append (remainder_fits p) rs (r ∷ []) ∙ and_from _ _ g (and_from _ _ h refl)

begin_more : (b : Bool) (rs : List Remainder) (r : Remainder)
    → (b ≡ true → left_begins r.rest ≡ true) → (not b || all_begin rs) ≡ true
    → (not b || all_begin (rs ++ r ∷ [])) ≡ true
begin_more false rs r g h = refl
begin_more true rs r g h = list_all-append (λ r. left_begins r.rest) rs (r ∷ [])
    ∙ and_from _ _ h (and_from _ _ (g refl) refl)

module _ {front : Bool} {user : Option (List ℕ)} {dollar : Bool} where
  pub must_more : {rows left behind : List AclRow} {x : AclRow} {rs next : List Remainder}
      {r : Remainder} → left ≡ x ∷ behind → next ≡ rs ++ r ∷ [] → IsRoot front user dollar x r
      → IsMustSoFar front user dollar rows left rs → IsMustSoFar front user dollar rows behind next
  must_more e g root before =
      grind (arith, alike_parts, list_all-append, and_parts, fit_more, begin_more)

  pub must_none : {rows left behind : List AclRow} {x : AclRow} {rs : List Remainder}
      → left ≡ x ∷ behind → HasNoRoot front user dollar x
      → IsMustSoFar front user dollar rows left rs
      → NoneConcerned front rows user dollar
  must_none {rows} {behind = behind} {x} {rs} e none before client name other like d =
      let so = subst (λ l. IsMustSoFar front user dollar rows l rs) e before in
      let parts = alike_parts other user x behind (so.alike_left other like) in
      sym (so.covers client name other like d)
      ∙ and_right (list_all (covers (marks_of client other) (levels name)) rs) _
      (and_left _ _ (none client name other parts.0 d))

  pub cover_more : {must : List Remainder} {rows left behind : List AclRow} {x : AclRow}
      {rs next : List Remainder} {r : Remainder} → left ≡ x ∷ behind → next ≡ rs ++ r ∷ []
      → IsRoot front user dollar x r → IsCoverSoFar front user dollar must rows left rs
      → IsCoverSoFar front user dollar must rows behind next
  cover_more e g root before =
      grind (arith, alike_parts, list_any-append, and_parts, fit_more)

  -- a row that concerns no name that all of `must` cover is passed over
  pub cover_skip : {must : List Remainder} {rows left behind : List AclRow} {x : AclRow}
      {rs : List Remainder} → left ≡ x ∷ behind
      → ((client name : List ℕ) (other : Option (List ℕ))
      → applies other x.who ≡ applies user x.who → begins_with_dollar name ≡ dollar
      → list_all (covers (marks_of client other) (levels name)) must ≡ true
      → concerns_in front client other name x ≡ false)
      → IsCoverSoFar front user dollar must rows left rs
      → IsCoverSoFar front user dollar must rows behind rs
  cover_skip e none before = grind (arith, alike_parts)

-- ---- the filter that names match
states_cover : (marks : MarkLevels) (name : List ℕ) (text : Bor (List ℕ)) → text.now ≡ state_filter
    → covers marks (levels name) (record { pattern = false; rest = Some text }) ≡ is_state name
states_cover marks name text e =
    ap (λ f. levels_match_by level_matches (levels f) (levels name)) e

-- with a root of it the roots cover each name that matches it
pub states_right : (names : Names) (marks : MarkLevels) (name : List ℕ) (text : Bor (List ℕ))
    (rs all : List Remainder) → text.now ≡ state_filter → are_states names ≡ true
    → all ≡ rs ++ record { pattern = false; rest = Some text } ∷ []
    → list_all (covers marks (levels name)) all
    ≡ (is_right names name && list_all (covers marks (levels name)) rs)
states_right names marks name text rs all e are is =
    ap (list_all (covers marks (levels name))) is
    ∙ list_all-append (covers marks (levels name)) rs
    (record { pattern = false; rest = Some text } ∷ [])
    ∙ swapped (list_all (covers marks (levels name)) rs)
    (covers marks (levels name) (record { pattern = false; rest = Some text }))
    (states_cover marks name text e)
    ∙ (λ i. (not (sym are i) || is_state name) && list_all (covers marks (levels name)) rs)
  where
    swapped : (b s : Bool) → s ≡ is_state name → (b && (s && true)) ≡ (is_state name && b)
    swapped b s h = grind arith

pub states_fit_too : (names : Names) (p : List ℕ → Bool) (text : Bor (List ℕ))
    (rs all : List Remainder) → text.now ≡ state_filter → are_states names ≡ true
    → all ≡ rs ++ record { pattern = false; rest = Some text } ∷ []
    → remainders_fit p all ≡ (names_fit p names && remainders_fit p rs)
states_fit_too names p text rs all e are is =
    ap (remainders_fit p) is
    ∙ list_all-append (remainder_fits p) rs (record { pattern = false; rest = Some text } ∷ [])
    ∙ swapped (remainders_fit p rs) (fits p (levels text.now))
    ∙ (λ i. (not (sym are i) || fits p (levels (e i))) && remainders_fit p rs)
  where
    swapped : (b s : Bool) → (b && (s && true)) ≡ (s && b)
    swapped b s = grind arith

state_begins : begins_with_dollar state_filter ≡ true
unfolding state_filter
state_begins = refl

pub states_begin : (text : Bor (List ℕ)) (rs all : List Remainder) → text.now ≡ state_filter
    → all ≡ rs ++ record { pattern = false; rest = Some text } ∷ [] → all_begin all ≡ all_begin rs
states_begin text rs all e is =
    ap all_begin is
    ∙ list_all-append (λ r. left_begins r.rest) rs (record { pattern = false; rest = Some text } ∷ [])
    ∙ (λ i. all_begin rs && ((ap begins_with_dollar e ∙ state_begins) i && true))
    ∙ and-true (all_begin rs)

-- ---- what is asked of the roots is what is asked of the rows
pub roots_decide : (front : Bool) (user : Option (List ℕ)) (names : Names)
    (must cover : List AclRow) (rs all ks : List Remainder)
    → AreMust front must user (are_begun names) rs
    → ((marks : MarkLevels) (name : List ℕ) → list_all (covers marks (levels name)) all
    ≡ (is_right names name && list_all (covers marks (levels name)) rs))
    → AreCover front cover user (are_begun names) all ks → (client name : List ℕ)
    (other : Option (List ℕ)) → alike other user must ≡ true → alike other user cover ≡ true
    → begins_with_dollar name ≡ are_begun names
    → hits (marks_of client other) (levels name) all ks
    ≡ (is_right names name && decides_in front client other name must cover)
roots_decide front user names must cover rs all ks m a k client name other like alike_cover kind =
    decided (list_all (covers (marks_of client other) (levels name)) all)
    (list_any (covers (marks_of client other) (levels name)) ks) _ _ _
    (a (marks_of client other) name
    ∙ ap (λ b. is_right names name && b) (m.covers client name other like kind))
    (k.covers client name other alike_cover kind)
  where
    decided : (all some right must cover : Bool) → all ≡ (right && must)
        → (all ≡ true → some ≡ cover) → (all && not some) ≡ (right && (must && not cover))
    decided true some true true cover e f = ap not (f refl)
    decided true some true false cover e f = absurd (let n : true ≡ false = e in cc)
    decided true some false must cover e f = absurd (let n : true ≡ false = e in cc)
    decided false some true true cover e f = absurd (let n : false ≡ true = e in cc)
    decided false some true false cover e f = refl
    decided false some false must cover e f = refl
