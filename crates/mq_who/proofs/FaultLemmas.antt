-- What is said where a list can't be compared with one that was made of a filter.
use Rattle.std.proofs.Common.{◌≡◌, ◌<◌, ◌≤◌, ◌+◌, ◌*◌, ℕ, Bool, true, false, not, List, []}
use Rattle.std.proofs.Common.{◌∷◌, ◌++◌, Option, Some, None, All, Contains, length, refl, ap, sym, ◌∙◌}
use Rattle.std.proofs.Common.{arith, get_or, mul-le-mul, subst}
use Rattle.std.specs.List.{list_all}
use Rattle.std.specs.Option.{option_map}
use Rattle.std.specs.Prelude.{find}
use Rattle.std.proofs.lemmas.Bool.{and_from, and_parts, false≢true, not-true, or_parts}
use Rattle.std.proofs.lemmas.Bool.{true_from_ne_false}
use Rattle.std.proofs.lemmas.List.Elements.{All-contains, All-map, Contains-append_left}
use Rattle.std.proofs.lemmas.List.Elements.{Contains-append_right}
use Rattle.std.proofs.lemmas.List.Folds.{list_any_none}
use Rattle.mq_topic.specs.Levels.{levels}
use Rattle.mq_acl.specs.Lines.{is_pattern_level}
use Rattle.mq_acl.specs.Rows.{Who, Anonymous, Named, Everyone}
use Rattle.mq_acl.specs.RowsByOwner.{is_everyones}
use Rattle.mq_acl.specs.Views.{line_views, row_view, row_views}
use Rattle.mq_acl.specs.declared.row.Row.{Row}
use Rattle.mq_acl.specs.declared.rules.Rules.{Rules}
use Rattle.mq_acl.specs.declared.rules.Rules.TheVariants.{Own, Mosquitto}
use Rattle.mq_witness.specs.Limits.{has_short_levels, is_short_row, long_line, marked_line, short_who}
use Rattle.mq_witness.specs.Ruled.{has_whole_marks}
use Rattle.mq_differences.specs.Faults.{IsComparisonFault}
use Rattle.mq_differences.specs.Steps.{enough_steps, square}
use Rattle.mq_differences.specs.declared.fault.ComparisonFault.{ComparisonFault}
use Rattle.mq_differences.specs.declared.fault.ComparisonFault.TheVariants as comparison
use Rattle.mq_differences.specs.declared.fault.Side.TheVariants.{Old, New}
use Rattle.mq_differences.proofs.FirstLemmas.{find_none}
use Rattle.mq_who.specs.Faults.{IsWhoFault, fault_of}
use Rattle.mq_who.specs.Made.{IsMade, IsMadeRow, is_made_for, most_made}
use Rattle.mq_who.proofs.AskedLemmas.{made_for}
use Rattle.mq_who.proofs.ClaimLemmas.{found, found_none}
use Rattle.mq_who.proofs.NamedLemmas.{made_user, named_row}

-- ---- steps
square_most : (a b : ℕ) → a ≤ b → square a ≤ square b
square_most a b h = mul-le-mul h h

pub steps_most : (a b : ℕ) → a ≤ b → enough_steps a ≤ enough_steps b
steps_most a b h =
    square_most (square (32 * (a + 2))) (square (32 * (b + 2)))
    (square_most (32 * (a + 2)) (32 * (b + 2)) (omega arith))

-- ---- lines
no_line : (found : Option Row) → option_map (λ (r : Row). r.line) found ≡ None → found ≡ None
no_line None e = refl
no_line (Some row) e = absurd (cc)

module _ (rules : Rules) (allows : Bool) (rows : List Row) (wanted : List ℕ) (made : List Row)
    (m : IsMade rules allows rows wanted made) where
  -- its rows are of no line of a text
  line_of : (line : ℕ) → Contains (line_views made) line
      → Contains (line_views rows ++ (0 ∷ [])) line
  line_of line c =
      Contains-append_right (line_views rows) (0 ∷ []) line
      (subst (λ n. Contains (0 ∷ []) n) (sym (All-contains (λ (n : ℕ). n ≡ 0) (line_views made) line
      (All-map (λ (n : ℕ). n ≡ 0) (λ (r : Row). r.line) made
      (λ k d low. (m.rows k d low).line)) c)) (0, omega arith, refl))

  -- none is too long where none of the list is
  short_user : long_line rows ≡ None → (who : Who)
      → is_made_for rules allows (row_views rows) wanted who ≡ true → short_who who ≡ true
  short_user short Anonymous has = refl
  short_user short Everyone has = refl
  short_user short (Named user) has =
      let row = named_row user rows (made_user rules allows rows wanted made m user has) in
      let none = found_none (λ (r : Row). not (is_short_row (row_view r))) rows
      (no_line (find (λ (r : Row). not (is_short_row (row_view r))) rows) short) in
      let is : is_short_row (row_view row.row) ≡ true =
      true_from_ne_false (is_short_row (row_view row.row))
      (λ e. false≢true (sym none
      ∙ row.passes (λ (r : Row). not (is_short_row (row_view r))) (ap not e))) in
      sym (ap short_who row.who)
      ∙ (and_parts (has_short_levels (row_view row.row).filter) (short_who (row_view row.row).who)
      is).1

  short_rows : long_line rows ≡ None → has_short_levels wanted ≡ true
      → All (λ (r : Row). not (is_short_row (row_view r)) ≡ false) made
  short_rows short levels_short k d low =
      let row : Row = get_or made k d in
      ap not (and_from (has_short_levels (row_view row).filter) (short_who (row_view row).who)
      (ap has_short_levels (m.rows k d low).filter ∙ levels_short)
      (short_user short (row_view row).who
      (made_for rules allows rows made wanted m k d low)))

  not_long : long_line rows ≡ None → has_short_levels wanted ≡ true → (line : ℕ)
      → long_line made ≡ Some line → ⊥
  not_long short levels_short line e =
      let q : None ≡ Some line =
      sym (ap (option_map (λ (r : Row). r.line))
      (find_none (λ (r : Row). not (is_short_row (row_view r))) made
      (list_any_none (λ (r : Row). not (is_short_row (row_view r))) made
      (short_rows short levels_short)))) ∙ e in cc

  -- where a mark isn't whole, it is one of the filter
  marked_in : (found_row : Option Row)
      → find (λ (r : Row). not (has_whole_marks (row_view r))) made ≡ found_row → (line : ℕ)
      → option_map (λ (r : Row). r.line) found_row ≡ Some line
      → list_all is_pattern_level (levels wanted) ≡ false
  marked_in None e line h = absurd (cc)
  marked_in (Some row) e line h =
      let is = found (λ (r : Row). not (has_whole_marks (row_view r))) (IsMadeRow allows wanted)
      made row e m.rows in
      sym (ap (λ t. list_all is_pattern_level (levels t)) is.1.filter)
      ∙ (or_parts (not (is_everyones (row_view row).who))
      (list_all is_pattern_level (levels (row_view row).filter))
      (not-true (has_whole_marks (row_view row)) is.0)).1

  marked : (r : Rules) (line : ℕ) → marked_line r made ≡ Some line
      → (r ≡ Mosquitto) × (list_all is_pattern_level (levels wanted) ≡ false)
  marked Own line e = absurd (let q : None ≡ Some line = e in cc)
  marked Mosquitto line e = (
    refl,
    marked_in (find (λ (r : Row). not (has_whole_marks (row_view r))) made) refl line e,
  )

  -- the steps that are enough
  few_steps : (steps : ℕ) → steps < enough_steps (length rows + length made)
      → steps < enough_steps (length rows + most_made rules (length rows))
  few_steps steps h =
      let few : length made ≤ most_made rules (length rows) = m.few in
      let most : enough_steps (length rows + length made)
      ≤ enough_steps (length rows + most_made rules (length rows)) =
      steps_most (length rows + length made) (length rows + most_made rules (length rows))
      (omega arith) in
      before steps (enough_steps (length rows + length made))
      (enough_steps (length rows + most_made rules (length rows))) h most
    where
      before : (a b d : ℕ) → a < b → b ≤ d → a < d
      before a b d h k = omega arith

  pub fault_is : (steps : ℕ) (fault : ComparisonFault) → long_line rows ≡ None
      → has_short_levels wanted ≡ true → IsComparisonFault rules rows made steps fault
      → IsWhoFault rules rows wanted steps (fault_of fault)
  fault_is steps comparison.Memory short levels_short f = f
  fault_is steps (comparison.OldLine line) short levels_short f = f
  fault_is steps (comparison.NewLine line) short levels_short f =
      absurd (not_long short levels_short line f)
  fault_is steps (comparison.OldMark line) short levels_short f = f
  fault_is steps (comparison.NewMark line) short levels_short f = marked rules line f
  fault_is steps (comparison.GaveUp Old line others) short levels_short f =
      (Contains-append_left (line_views rows) (0 ∷ []) line f.0, few_steps steps f.1)
  fault_is steps (comparison.GaveUp New line others) short levels_short f =
      (line_of line f.0, few_steps steps f.1)
