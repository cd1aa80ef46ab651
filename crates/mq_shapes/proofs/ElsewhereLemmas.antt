-- Rows that cover no name that begins as those that are looked for.
use Rattle.std.proofs.Common.{◌≡◌, ◌∙◌, ◌&&◌, ◌||◌, ◌==◌, ℕ, Bool, true, false, not, List, [], ◌∷◌}
use Rattle.std.proofs.Common.{ap, bytes_eq, codes, length, refl, sym}
use Rattle.std.specs.List.{list_all}
use Rattle.std.specs.Option.{unwrap_or}
use Rattle.std.proofs.lemmas.Bool.{and_parts, not-true}
use Rattle.mq_topic.proofs.ByteLemmas.{text_is}
use Rattle.mq_topic.specs.Levels.{levels}
use Rattle.mq_topic.specs.Matching.{level_matches}
use Rattle.mq_acl.specs.Access.{begins_with_dollar}
use Rattle.mq_acl.specs.Refused.{begins_own, begins_shared}
use Rattle.mq_acl.specs.Rows.{AclRow}
use Rattle.mq_acl.specs.RowsByOwner.{is_everyones}
use Rattle.mq_cover.specs.Names.{behind, fits_start, suits}
use Rattle.mq_cover.specs.declared.start.Start.{Start}
use Rattle.mq_cover.specs.declared.start.Start.TheVariants as starts
use Rattle.mq_unify.specs.Clients.{goes_along, made_levels}
use Rattle.mq_unify.specs.Rows.{row_matches}
use Rattle.mq_unify.proofs.FilterLemmas.{match_rest}
use Rattle.mq_shapes.specs.Covered.{is_filled}
use Rattle.mq_shapes.specs.Ruled.{AreElsewhere, IsElsewhere, has_dollar, is_front}
use Rattle.mq_shapes.proofs.ApartLemmas.{along_level}
use Rattle.mq_shapes.proofs.CoveredLemmas.{slash_free}

-- a level that such names begin with begins with `$`, or doesn't
pub fits_dollar : (start : Start) (l : List ℕ) → is_front start ≡ true
    → fits_start start l ≡ true → begins_with_dollar l ≡ has_dollar start
fits_dollar starts.Plain l f s = not-true (begins_with_dollar l) s
fits_dollar starts.Dollar l f s = s
fits_dollar starts.Readable l f s = (and_parts (begins_with_dollar l) (not (begins_shared l)) s).0
fits_dollar starts.Writable l f s = (and_parts (begins_with_dollar l)
    (not (begins_shared l) && not (begins_own l)) s).0
fits_dollar starts.Slash l f s = absurd (let n : false ≡ true = f in cc)
fits_dollar starts.Inside l f s = absurd (let n : false ≡ true = f in cc)

-- a row with another level there covers no such name
pub level_elsewhere : (start : Start) (row : AclRow) (l : List ℕ) (ls : List (List ℕ))
    → levels row.filter ≡ l ∷ ls → bytes_eq l (codes "+") ≡ false
    → bytes_eq l (codes "#") ≡ false → is_filled (is_everyones row.who) l ≡ false
    → fits_start start l ≡ false → IsElsewhere start row
level_elsewhere start row l ls e plus hash unfilled d = λ client user names s.
    let pattern = is_everyones row.who in
    let name = unwrap_or user [] in
    ap (λ fs. match_rest (made_levels pattern client name fs) names) e
    ∙ along_level pattern client name l ls names (slash_free row.filter l ls e)
    (λ i. not (hash i && (length ls == 0)) && not (unfilled i))
    ∙ by (match_rest (made_levels pattern client name ls)) names s
  where
    at : (behind : List (List ℕ) → Bool) (x : List ℕ) (names : List (List ℕ))
        → fits_start start x ≡ true → (b : Bool) → level_matches l x ≡ b
        → goes_along (l ∷ []) behind (x ∷ names) ≡ false
    at behind x names s true h =
        let same = text_is l x (sym (ap (λ b. b || bytes_eq l x) plus) ∙ h) in
        absurd (let n : false ≡ true = sym d ∙ ap (fits_start start) same ∙ s in cc)
    at behind x names s false h = ap (λ b. b && behind names) h

    by : (rest : List (List ℕ) → Bool) (names : List (List ℕ)) → suits start names ≡ true
        → goes_along (l ∷ []) rest names ≡ false
    by rest [] s = refl
    by rest (x ∷ names) s = at rest x names
        (and_parts (fits_start start x) (suits (behind start x) names) s).0
        (level_matches l x) refl

-- ---- lists of rows
-- one of them is enough
pub one_elsewhere : (start : Start) (row : AclRow) (rows : List AclRow) → IsElsewhere start row
    → ((p : AclRow → Bool) → p row ≡ false → list_all p rows ≡ false) → AreElsewhere start rows
one_elsewhere start row rows h among = λ client user ls s.
    among (row_matches client user ls) (h client user ls s)
