-- The rows that may decide about a region's topics.
use Rattle.std.proofs.Common.{◌≡◌, ◌<◌, ◌+◌, ℕ, Bool, true, false, not, ◌&&◌, ◌||◌}
use Rattle.std.proofs.Common.{List, [], ◌∷◌, ◌++◌, length, get_or, take, refl, ap, sym, subst, ◌∙◌}
use Rattle.std.proofs.Common.{Option, Some, None, Bor, Result, Ok, Err}
use Rattle.std.specs.Prelude.{IfOk}
use Rattle.std.specs.Option.{option_or}
use Rattle.std.specs.declared.alloc.AllocError.{AllocError}
use Rattle.std.proofs.lemmas.Bool.{and_parts, or_from, or_parts}
use Rattle.std.proofs.lemmas.List.{take_more}
use Rattle.mq_topic.specs.Levels.{levels}
use Rattle.mq_topic.specs.Matching.{levels_match_by, matches}
use Rattle.mq_topic.specs.Texts.{is_name}
use Rattle.mq_acl.specs.Access.{applies, begins_with_dollar, concerns, covers, row_level_matches}
use Rattle.mq_acl.specs.Rows.{AclRow, Who, Anonymous, Named, Everyone}
use Rattle.mq_acl.specs.RowsByOwner.{is_everyones}
use Rattle.mq_acl.specs.Views.{owner_view, row_view, row_views}
use Rattle.mq_acl.specs.declared.row.Row.{Row}
use Rattle.mq_rename.specs.Lists.{texts}
use Rattle.mq_rename.specs.Meets.{matches_if_any}
use Rattle.mq_rename.specs.Renames.{Renaming, new_name}
use Rattle.mq_rename.specs.declared.fault.MeetFault.{MeetFault}
use Rattle.mq_regions.specs.Deciding.{first_line}
use Rattle.mq_regions.specs.Limits.{has_long_row, is_long_row}
use Rattle.mq_regions.specs.Regions.{in_kind, is_taken, kind_name}
use Rattle.mq_regions.specs.declared.region.Region.{Region}
use Rattle.mq_regions.specs.declared.region.RegionKind.{RegionKind}
use Rattle.mq_regions.specs.declared.region.RegionKind.TheVariants.{Kept, Renamed}
use Rattle.mq_through.specs.Made.{Asks}
use Rattle.mq_through.specs.Needed.{IsNeededOf, IsUnmatched, IsUnneeded, asks_in}
use Rattle.mq_through.specs.declared.needed.Side.{Side}
use Rattle.mq_through.specs.declared.needed.Side.TheVariants.{New, Old}
use Rattle.mq_through.proofs.RowLemmas.{any_views, covered, first_append, first_none, one_line}

-- ---- one row
-- a filter that meets none of a kind matches none of its topics
met_none : (kind filter : List ℕ) (r : Result (Option (List ℕ)) MeetFault)
    → IfOk r (λ met. (n : List ℕ) → is_name n ≡ true → matches_if_any met n
    ≡ (matches (levels kind) (levels n) && matches (levels filter) (levels n)))
    → r ≡ Ok None → (n : List ℕ) → is_name n ≡ true → matches (levels kind) (levels n) ≡ true
    → matches (levels filter) (levels n) ≡ false
met_none kind filter (Ok None) same e n h g =
    ap (λ b. b && matches (levels filter) (levels n)) (sym g) ∙ sym (same n h)
met_none kind filter (Ok (Some met)) same e n h g =
    let two : Ok (Some met) ≡ Ok None = e in absurd (cc)
met_none kind filter (Err fault) same e n h g = let two : Err fault ≡ Ok None = e in absurd (cc)

back_none : (rule : Renaming) (filter : List ℕ) (r : Result (Option (List ℕ)) MeetFault)
    → IfOk r (λ back. (n m : List ℕ) → is_name n ≡ true → new_name rule n ≡ Some m
    → matches_if_any back n ≡ matches (levels filter) (levels m))
    → r ≡ Ok None → (n m : List ℕ) → is_name n ≡ true → new_name rule n ≡ Some m
    → matches (levels filter) (levels m) ≡ false
back_none rule filter (Ok None) same e n m h g = sym (same n m h g)
back_none rule filter (Ok (Some back)) same e n m h g =
    let two : Ok (Some back) ≡ Ok None = e in absurd (cc)
back_none rule filter (Err fault) same e n m h g =
    let two : Err fault ≡ Ok None = e in absurd (cc)

-- a row of a `topic` line concerns only what its filter matches
topic_silent : (row : AclRow) (client m : List ℕ) (user : Option (List ℕ))
    → is_everyones row.who ≡ false
    → matches (levels row.filter) (levels m) ≡ false → concerns client user m row ≡ false
topic_silent row client m user own h = at (concerns client user m row) refl
  where
    cover : (w : Who) → is_everyones w ≡ false
        → ((not (begins_with_dollar m) || begins_with_dollar row.filter)
        && levels_match_by (row_level_matches w client user) (levels row.filter) (levels m)) ≡ true
        → matches (levels row.filter) (levels m) ≡ true
    cover Anonymous n k = covered m row.filter k
    cover (Named name) n k = covered m row.filter k
    cover Everyone n k = absurd (let q : true ≡ false = n in cc)

    at : (b : Bool) → concerns client user m row ≡ b → b ≡ false
    at false k = refl
    at true k = absurd (let q : true ≡ false = sym (cover row.who own
        (and_parts (applies user row.who) (covers client user m row) k).1) ∙ h in cc)

pub silent : (side : Side) (region : Region) (row : Row)
    → is_everyones (owner_view row.owner) ≡ false → IsUnmatched side region.kind row.filter
    → IsUnneeded region (asks_in side region.kind) row
silent side region row own none n m client user h g e =
    topic_silent (row_view row) client m user own (none n m h
    (and_parts (not (is_taken (texts region.taken.items) n)) (in_kind region.kind n) g).1 e)

-- ---- what a list asks about topics of a kind
module _ (kind : RegionKind) (filter : List ℕ) (r : Result (Option (List ℕ)) MeetFault)
    (may : Result Bool AllocError) (none : IfOk may (λ b. b ≡ false → r ≡ Ok None)) where
  pub kept_unmatched : (side : Side) (kept : Bor (List ℕ)) → kind ≡ Kept kept
      → IfOk r (λ met. (n : List ℕ) → is_name n ≡ true → matches_if_any met n
      ≡ (matches (levels kept.now) (levels n) && matches (levels filter) (levels n)))
      → IfOk may (λ b. b ≡ false → IsUnmatched side kind filter)
  kept_unmatched side kept is same = at may none
    where
      own : (s : Side) (n m : List ℕ) → asks_in s (Kept kept) n ≡ Some m → n ≡ m
      own Old n m e = let both : Some n ≡ Some m = e in cc
      own New n m e = let both : Some n ≡ Some m = e in cc

      at : (b : Result Bool AllocError) → IfOk b (λ b. b ≡ false → r ≡ Ok None)
          → IfOk b (λ b. b ≡ false → IsUnmatched side kind filter)
      at (Err fault) f = tt
      at (Ok b) f = λ no n m h k e.
          ap (λ t. matches (levels filter) (levels t))
          (sym (own side n m (ap (λ t. asks_in side t n) (sym is) ∙ e)))
          ∙ met_none kept.now filter r same (f no) n h (ap (λ t. in_kind t n) (sym is) ∙ k)

  pub cut_unmatched : (side : Side) (rule : Bor Renaming) → kind ≡ Renamed rule → side ≡ Old
      → IfOk r (λ met. (n : List ℕ) → is_name n ≡ true → matches_if_any met n
      ≡ (matches (levels rule.now.left) (levels n) && matches (levels filter) (levels n)))
      → IfOk may (λ b. b ≡ false → IsUnmatched side kind filter)
  cut_unmatched side rule is old same = at may none
    where
      at : (b : Result Bool AllocError) → IfOk b (λ b. b ≡ false → r ≡ Ok None)
          → IfOk b (λ b. b ≡ false → IsUnmatched side kind filter)
      at (Err fault) f = tt
      at (Ok b) f = λ no n m h k e.
          let both : Some n ≡ Some m = ap (λ s. asks_in s kind n) (sym old) ∙ e in
          let one : n ≡ m = cc in
          ap (λ t. matches (levels filter) (levels t)) (sym one)
          ∙ met_none rule.now.left filter r same (f no) n h (ap (λ t. in_kind t n) (sym is) ∙ k)

  pub back_unmatched : (side : Side) (rule : Bor Renaming) → kind ≡ Renamed rule → side ≡ New
      → IfOk r (λ back. (n m : List ℕ) → is_name n ≡ true → new_name rule.now n ≡ Some m
      → matches_if_any back n ≡ matches (levels filter) (levels m))
      → IfOk may (λ b. b ≡ false → IsUnmatched side kind filter)
  back_unmatched side rule is new same = at may none
    where
      at : (b : Result Bool AllocError) → IfOk b (λ b. b ≡ false → r ≡ Ok None)
          → IfOk b (λ b. b ≡ false → IsUnmatched side kind filter)
      at (Err fault) f = tt
      at (Ok b) f = λ no n m h k e.
          back_none rule.now filter r same (f no) n m h
          (ap (λ t. kind_name t n) (sym is) ∙ ap (λ s. asks_in s kind n) (sym new) ∙ e)

-- ---- one row after the other
module _ (region : Region) (asks : Asks) where
  pub needed_none : IsNeededOf region asks [] []
  needed_none = record { same = λ n m c u p h g e. refl; short = λ h. refl }

  -- a row that may decide is kept
  pub needed_more : (rows kept : List Row) (row copy : Row) → copy.line ≡ row.line
      → row_view copy ≡ row_view row → IsNeededOf region asks rows kept
      → IsNeededOf region asks (rows ++ (row ∷ [])) (kept ++ (copy ∷ []))
  needed_more rows kept row copy line view is = record {
    same = λ n m c u p h g e.
        first_append p c u m kept (copy ∷ [])
        ∙ (λ i. option_or (is.same n m c u p h g e i) (one_line p c u m copy row line view i))
        ∙ sym (first_append p c u m rows (row ∷ []));
    short = λ h.
        let both = or_parts (has_long_row (row_views rows)) (is_long_row (row_view row) || false)
        (sym (any_views is_long_row rows (row ∷ [])) ∙ h) in
        any_views is_long_row kept (copy ∷ [])
        ∙ or_from (has_long_row (row_views kept)) (is_long_row (row_view copy) || false)
        (is.short both.0) (ap (λ v. is_long_row v || false) view ∙ both.1);
  }

  -- one that can't is left out
  pub needed_less : (rows kept : List Row) (row : Row) → IsUnneeded region asks row
      → IsNeededOf region asks rows kept → IsNeededOf region asks (rows ++ (row ∷ [])) kept
  needed_less rows kept row silent is = record {
    same = λ n m c u p h g e.
        is.same n m c u p h g e
        ∙ sym (first_append p c u m rows (row ∷ [])
        ∙ ap (option_or (first_line p c u m rows))
        (first_none p c u m (row ∷ []) (or_from (concerns c u m (row_view row)) false
        (silent n m c u h g e) refl))
        ∙ or_none (first_line p c u m rows));
    short = λ h. is.short (or_parts (has_long_row (row_views rows))
        (is_long_row (row_view row) || false)
        (sym (any_views is_long_row rows (row ∷ [])) ∙ h)).0;
  }
    where
      or_none : (o : Option ℕ) → option_or o None ≡ o
      or_none None = refl
      or_none (Some l) = refl

-- the same, at a place of the list
pub kept_step : (region : Region) (asks : Asks) (rows kept more : List Row) (i : ℕ)
    (row copy : Row) → i < length rows → row ≡ get_or rows i row → more ≡ kept ++ (copy ∷ [])
    → copy.line ≡ row.line → row_view copy ≡ row_view row
    → IsNeededOf region asks (take i rows) kept → IsNeededOf region asks (take (i + 1) rows) more
kept_step region asks rows kept more i row copy h is e line view before =
    subst (IsNeededOf region asks (take (i + 1) rows)) (sym e)
    (subst (λ rs. IsNeededOf region asks rs (kept ++ (copy ∷ [])))
    (sym (take_more rows i row h ∙ ap (λ r. take i rows ++ r ∷ []) (sym is)))
    (needed_more region asks (take i rows) kept row copy line view before))

pub left_step : (region : Region) (asks : Asks) (rows kept : List Row) (i : ℕ) (row : Row)
    → i < length rows → row ≡ get_or rows i row → IsUnneeded region asks row
    → IsNeededOf region asks (take i rows) kept
    → IsNeededOf region asks (take (i + 1) rows) kept
left_step region asks rows kept i row h is silent before =
    subst (λ rs. IsNeededOf region asks rs kept)
    (sym (take_more rows i row h ∙ ap (λ r. take i rows ++ r ∷ []) (sym is)))
    (needed_less region asks (take i rows) kept row silent before)
