-- The rows that are asked about are rows of the lists.
use Rattle.std.proofs.Common.{◌≡◌, ℕ, ◌==◌, List, [], ◌∷◌, ◌++◌, All, Contains}
use Rattle.std.proofs.Common.{Option, Some, None, ◌&&◌, refl, sym, ◌∙◌, subst, Bor}
use Rattle.std.specs.Option.{option_map}
use Rattle.std.proofs.lemmas.List.Elements.{All-append, All-contains_itself, All-cons, All-filter}
use Rattle.std.proofs.lemmas.List.Elements.{All-map, All-nil, Contains-append_left}
use Rattle.std.proofs.lemmas.List.Elements.{All-weaker, Contains-append_right}
use Rattle.mq_acl.specs.Rows.{AclRow}
use Rattle.mq_acl.specs.Views.{line_views, owner_view, row_view, row_views}
use Rattle.mq_acl.specs.declared.access.Direction.{Direction}
use Rattle.mq_acl.specs.declared.rules.Rules.{Rules}
use Rattle.mq_shapes.specs.declared.clients.Clients.{Clients}
use Rattle.mq_acl.specs.declared.row.Row.{Row}
use Rattle.mq_differences.specs.ByOwner.{is_for}
use Rattle.mq_differences.specs.Faults.{rows_of as rows_on}
use Rattle.mq_differences.specs.Marks.{rows_of, views_of}
use Rattle.mq_differences.specs.Questions.{AreJudges, IsBefore, IsGain, IsQuestion, IsSplit}
use Rattle.mq_differences.specs.Questions.{asked_in}
use Rattle.mq_differences.specs.Questions.{gain_cover, gain_must, must_of, rows_for, rows_with}
use Rattle.mq_differences.specs.Questions.{rows_without, rules_in, side_with}
use Rattle.mq_differences.specs.Ranks.{is_judge, judges, rank, ranked}
use Rattle.mq_differences.specs.declared.gains.Gain.{Gain}
use Rattle.mq_differences.specs.declared.gains.Question.{Question}
use Rattle.mq_differences.specs.declared.judges.Judges.{Judges}
use Rattle.mq_differences.specs.declared.marks.Marked.{Marked}
use Rattle.mq_differences.specs.declared.way.Way.{Way}
use Rattle.mq_differences.specs.declared.way.Way.TheVariants.{Gained, Lost}
use Rattle.mq_differences.proofs.FirstLemmas.{All-before, All-behind, All-unmap}
use Rattle.mq_differences.proofs.GainLemmas.{both_ways}

-- ---- what is contained
-- the rows may be asked about
abbrev pub Asks : List AclRow → List Row → Type 0
Asks asked rows = All (λ (r : Row). Contains asked (row_view r)) rows

asks_both : (asked : List AclRow) (old new : List Row) → asked ≡ row_views old ++ row_views new
    → Asks asked old × Asks asked new
asks_both asked old new e = (
  subst (λ a. Asks a old) (sym e)
      (All-unmap (Contains (row_views old ++ row_views new)) row_view old
      (All-weaker (Contains (row_views old)) (Contains (row_views old ++ row_views new))
      (λ x c. Contains-append_left (row_views old) (row_views new) x c) (row_views old)
      (All-contains_itself (row_views old)))),
  subst (λ a. Asks a new) (sym e)
      (All-unmap (Contains (row_views old ++ row_views new)) row_view new
      (All-weaker (Contains (row_views new)) (Contains (row_views old ++ row_views new))
      (λ x c. Contains-append_right (row_views old) (row_views new) x c) (row_views new)
      (All-contains_itself (row_views new)))),
)

-- so may those that decide
all_judges : (P : Row → Type 0) (rules : Rules) (direction : Direction) (c : Clients)
    (rows : List Row) → All P rows → All P (judges rules direction (rows_for c rows))
all_judges P rules direction c rows h =
    let for : All P (rows_for c rows) =
    All-filter (λ (r : Row). is_for c (owner_view r.owner)) P rows h in
    let at = (λ (place : ℕ). All-filter (λ (r : Row). is_judge direction (row_view r)
    && (rank rules (row_view r) == place)) P (rows_for c rows) for) in
    All-append P (ranked rules direction 0 (rows_for c rows)) _ (at 0)
    (All-append P (ranked rules direction 1 (rows_for c rows)) _ (at 1)
    (All-append P (ranked rules direction 2 (rows_for c rows)) _ (at 2) (at 3)))

judges_ask : (asked : List AclRow) (rules : Rules) (rows others : List Row) (c : Clients)
    (direction : Direction) (all : Judges) → AreJudges rules rows others c direction all
    → Asks asked rows → Asks asked (rows_of all.rows.items)
judges_ask asked rules rows others c direction all j h =
    subst (Asks asked) (sym j.are)
    (all_judges (λ (r : Row). Contains asked (row_view r)) rules direction c rows h)

asks_views : (asked : List AclRow) (ms : List Marked) → Asks asked (rows_of ms)
    → All (Contains asked) (views_of ms)
asks_views asked ms h = All-map (Contains asked) row_view (rows_of ms) h

asks_before : (asked : List AclRow) (ms before : List Marked) (row : Row)
    → IsSplit ms before row → Asks asked (rows_of ms) → Asks asked (rows_of before)
asks_before asked ms before row s h =
    All-before (λ (r : Row). Contains asked (row_view r)) (rows_of before) (row ∷ s.after)
    (subst (Asks asked) s.is h)

asks_row : (asked : List AclRow) (ms before : List Marked) (row : Row)
    → IsSplit ms before row → Asks asked (rows_of ms) → Contains asked (row_view row)
asks_row asked ms before row s h =
    All-behind (λ (r : Row). Contains asked (row_view r)) (rows_of before) row s.after
    (subst (Asks asked) s.is h)

-- the rows of the first list that are to concern a topic, and those that are not
from_asks : (asked : List AclRow) (from judging : List Marked) (deny : Option (Bor Row))
    (grant : AclRow) → IsBefore from judging (option_map (λ r. r.now) deny)
    → Asks asked (rows_of from) → Contains asked grant
    → All (Contains asked) (must_of (option_map (λ r. row_view r.now) deny) grant)
    × All (Contains asked) (views_of judging)
from_asks asked from judging None grant b h g = (
  All-cons (Contains asked) grant [] g (All-nil (Contains asked)),
  subst (λ ms. All (Contains asked) (views_of ms)) (sym b) (asks_views asked from h),
)
from_asks asked from judging (Some deny) grant b h g = (
  All-cons (Contains asked) (row_view deny.now) (grant ∷ [])
      (asks_row asked from judging deny.now b.0 h)
      (All-cons (Contains asked) grant [] g (All-nil (Contains asked))),
  asks_views asked judging (asks_before asked from judging deny.now b.0 h),
)

-- both questions of a gain ask about rows of the lists
pub gain_asks : (q : Question) (gain : Gain) → IsQuestion q → IsGain q gain
    → All (Contains (asked_in q).rows) (gain_must gain)
    × All (Contains (asked_in q).rows) (gain_cover gain)
gain_asks q gain k g =
    let asked = (asked_in q).rows in
    let old = q.lists.now.old.now in
    let new = q.lists.now.new.now in
    let asks = asks_both asked old new k.asked in
    let lists = both_ways (Asks asked) q.way old new asks.0 asks.1 in
    let from = judges_ask asked (rules_in q) (rows_without q.way old new) (rows_with q.way old new)
    q.clients q.direction q.from.now k.from lists.0 in
    let to = judges_ask asked (rules_in q) (rows_with q.way old new) (rows_without q.way old new)
    q.clients q.direction q.to.now k.to lists.1 in
    let parts = from_asks asked q.from.now.rows.items gain.judging.now gain.deny
    (row_view gain.grant.now) g.from from
    (asks_row asked q.to.now.rows.items gain.before.now gain.grant.now g.grant to) in (
      parts.0,
      All-append (Contains asked) (views_of gain.judging.now) (views_of gain.before.now) parts.1
          (asks_views asked gain.before.now (asks_before asked q.to.now.rows.items gain.before.now
          gain.grant.now g.grant to)),
    )

-- ---- the line that is shown
pub line_contained : (q : Question) (before : List Marked) (row : Row) → IsQuestion q
    → IsSplit q.to.now.rows.items before row
    → Contains (line_views (rows_with q.way q.lists.now.old.now q.lists.now.new.now)) row.line
line_contained q before row k s =
    let rows = rows_with q.way q.lists.now.old.now q.lists.now.new.now in
    let has : Row → Type 0 = (λ (r : Row). Contains (line_views rows) r.line) in
    All-behind has (rows_of before) row s.after
    (subst (All has) (sym k.to.are ∙ s.is)
    (all_judges has (rules_in q) q.direction q.clients rows
    (All-unmap (Contains (line_views rows)) (λ (r : Row). r.line) rows
    (All-contains_itself (line_views rows)))))

-- the side that a way leads to
pub side_rows : (way : Way) (old new : List Row)
    → rows_with way old new ≡ rows_on old new (side_with way)
side_rows Gained old new = refl
side_rows Lost old new = refl
