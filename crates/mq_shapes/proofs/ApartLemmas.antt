-- Rows that have no topic in common with others.
use Rattle.std.proofs.Common.{◌≡◌, ◌∙◌, ◌&&◌, ◌||◌, ◌==◌, ℕ, Bool, true, false, not, List, [], ◌∷◌, ◌++◌}
use Rattle.std.proofs.Common.{Option, ap, bytes_eq, codes, length, refl, sym}
use Rattle.std.specs.List.{list_all, list_any}
use Rattle.std.proofs.Math.Bool.{and-false}
use Rattle.std.proofs.lemmas.Bool.{and_parts, not-true, or_parts}
use Rattle.mq_topic.proofs.ByteLemmas.{text_is}
use Rattle.mq_topic.specs.Levels.{levels}
use Rattle.mq_topic.specs.Matching.{level_matches}
use Rattle.mq_topic.specs.Texts.{contains_byte}
use Rattle.mq_acl.specs.Rows.{AclRow}
use Rattle.mq_cover.specs.Choices.{other_at}
use Rattle.mq_cover.specs.Names.{is_choice}
use Rattle.mq_cover.specs.Remainders.{fits}
use Rattle.mq_cover.specs.declared.others.Others.{Others}
use Rattle.mq_cover.specs.declared.start.Start.{Start}
use Rattle.mq_unify.specs.General.{is_sound}
use Rattle.mq_unify.specs.Clients.{goes_along, made, made_levels}
use Rattle.mq_unify.specs.Rows.{row_matches}
use Rattle.mq_unify.proofs.FilterLemmas.{along_one, match_rest, none_left}
use Rattle.mq_shapes.specs.Covered.{AreEnough, CoverNone, IsApart, IsOutside, LevelsApart, is_filled}
use Rattle.mq_shapes.specs.Found.{AreReady, HasNone, IsTopic, has_whole_marks, row_hits}
use Rattle.mq_shapes.proofs.CoveredLemmas.{single_made}

-- ---- filters
-- one level of a name goes with this level, and is followed by what is left
abbrev pub is_one : Bool → List ℕ → List (List ℕ) → Bool
is_one pattern w ws =
    not (bytes_eq w (codes "#") && (length ws == 0)) && not (is_filled pattern w)

pub unfilled : (pattern : Bool) (client user w : List ℕ) → not (contains_byte 47 w) ≡ true
    → is_filled pattern w ≡ false → made pattern client user w ≡ w ∷ []
unfilled false client user w s f = refl
unfilled true client user w s f = single_made true client user w s f

pub along_level : (pattern : Bool) (client user w : List ℕ) (ws ls : List (List ℕ))
    → not (contains_byte 47 w) ≡ true → is_one pattern w ws ≡ true
    → match_rest (made_levels pattern client user (w ∷ ws)) ls
    ≡ goes_along (w ∷ []) (match_rest (made_levels pattern client user ws)) ls
along_level pattern client user w ws ls s h =
    let both = and_parts (not (bytes_eq w (codes "#") && (length ws == 0)))
    (not (is_filled pattern w)) h in
    ap (λ m. match_rest (m ++ made_levels pattern client user ws) ls)
    (unfilled pattern client user w s (not-true (is_filled pattern w) both.1))
    ∙ along_one w (made_levels pattern client user ws) ls
    (ap (λ b. bytes_eq w (codes "#") && b) (none_left pattern client user ws)
    ∙ not-true (bytes_eq w (codes "#") && (length ws == 0)) both.0)

module _ (this that : Bool) (w l : List ℕ) (ws ms all every : List (List ℕ)) (e : all ≡ w ∷ ws)
    (f : every ≡ l ∷ ms) (s : not (contains_byte 47 w) ≡ true)
    (r : not (contains_byte 47 l) ≡ true) (n : is_one this w ws ≡ true)
    (k : is_one that l ms ≡ true) where
  other_along : (client user : List ℕ) (ls : List (List ℕ))
      → match_rest (made_levels this client user all) ls
      ≡ goes_along (w ∷ []) (match_rest (made_levels this client user ws)) ls
  other_along client user ls = ap (λ fs. match_rest (made_levels this client user fs) ls) e
      ∙ along_level this client user w ws ls s n

  one_along : (client user : List ℕ) (ls : List (List ℕ))
      → match_rest (made_levels that client user every) ls ≡ true
      → goes_along (l ∷ []) (match_rest (made_levels that client user ms)) ls ≡ true
  one_along client user ls h = sym (ap (λ fs. match_rest (made_levels that client user fs) ls) f
      ∙ along_level that client user l ms ls r k) ∙ h

  -- levels that differ
  pub differ_apart : (bytes_eq w (codes "+") || bytes_eq l (codes "+") || bytes_eq w l) ≡ false
      → LevelsApart this that all every
  differ_apart d = λ client user ls h. other_along client user ls
      ∙ by (match_rest (made_levels this client user ws))
      (match_rest (made_levels that client user ms)) ls (one_along client user ls h)
    where
      by : (behind rest : List (List ℕ) → Bool) (ls : List (List ℕ))
          → goes_along (l ∷ []) rest ls ≡ true → goes_along (w ∷ []) behind ls ≡ false
      by behind rest [] h = refl
      by behind rest (x ∷ ls) h =
          let parts = or_parts (bytes_eq w (codes "+") || bytes_eq l (codes "+")) (bytes_eq w l) d in
          let pluses = or_parts (bytes_eq w (codes "+")) (bytes_eq l (codes "+")) parts.0 in
          let goes = (and_parts (level_matches l x) (rest ls) h).0 in
          let same = text_is l x (sym (ap (λ b. b || bytes_eq l x) pluses.1) ∙ goes) in
          (λ i. (pluses.0 i || bytes_eq w (sym same i)) && behind ls)
          ∙ ap (λ b. b && behind ls) parts.1

  -- filters that differ behind them
  pub more_apart : LevelsApart this that ws ms → LevelsApart this that all every
  more_apart rest = λ client user ls h. other_along client user ls
      ∙ by (match_rest (made_levels this client user ws))
      (match_rest (made_levels that client user ms)) (rest client user) ls
      (one_along client user ls h)
    where
      by : (behind more : List (List ℕ) → Bool)
          → ((ls : List (List ℕ)) → more ls ≡ true → behind ls ≡ false) → (ls : List (List ℕ))
          → goes_along (l ∷ []) more ls ≡ true → goes_along (w ∷ []) behind ls ≡ false
      by behind more so [] h = refl
      by behind more so (x ∷ ls) h =
          ap (λ b. level_matches w x && b) (so ls (and_parts (level_matches l x) (more ls) h).1)
          ∙ and-false (level_matches w x)

-- ---- rows
pub outside_one : (row one : AclRow) (must : List AclRow) → IsApart row one
    → ((p : AclRow → Bool) → p one ≡ false → list_all p must ≡ false) → IsOutside must row
outside_one row one must apart among = λ client user ls h.
    by client user ls h (row_matches client user ls one) refl
  where
    by : (client : List ℕ) (user : Option (List ℕ)) (ls : List (List ℕ))
        → list_all (row_matches client user ls) must ≡ true
        → (b : Bool) → row_matches client user ls one ≡ b → row_matches client user ls row ≡ false
    by client user ls h true e = apart client user ls e
    by client user ls h false e =
        absurd (let n : false ≡ true = sym (among (row_matches client user ls) e) ∙ h in cc)

-- where one of these covers no name that all cover, they cover none
pub outside_all : (row : AclRow) (rows : List AclRow) → IsOutside rows row
    → ((p : AclRow → Bool) → p row ≡ false → list_all p rows ≡ false) → CoverNone rows
outside_all row rows out among = λ client user ls.
    by (row_matches client user ls) (out client user ls) (list_all (row_matches client user ls) rows)
    refl
  where
    by : (p : AclRow → Bool) → (list_all p rows ≡ true → p row ≡ false) → (b : Bool)
        → list_all p rows ≡ b → list_all p rows ≡ false
    by p so true e = among p (so e)
    by p so false e = e

-- rows that are enough hit the same
pub hits_same : (must cover rows : List AclRow) → AreEnough must cover rows → (client : List ℕ)
    (user : Option (List ℕ)) (ls : List (List ℕ))
    → row_hits client user ls must rows ≡ row_hits client user ls must cover
hits_same must cover rows are client user ls =
    by (list_all (row_matches client user ls) must) refl
  where
    p : AclRow → Bool
    p row = row_matches client user ls row

    by : (b : Bool) → list_all p must ≡ b
        → (list_all p must && not (list_any p rows)) ≡ (list_all p must && not (list_any p cover))
    by true e = ap (λ b. list_all p must && not b) (are.same client user ls e)
    by false e = ap (λ b. b && not (list_any p rows)) e
        ∙ sym (ap (λ b. b && not (list_any p cover)) e)

-- and can be asked as all of them
module _ (start : Start) (must cover rows : List AclRow) (are : AreEnough must cover rows) where
  pub enough_ready : (o : Others) → AreReady o start cover → AreReady o start rows
  enough_ready o ready = record {
    sound = are.among (λ row. fits (is_sound (other_at start o)) (levels row.filter)) ready.sound;
    choice = are.among (λ row. fits (is_choice o) (levels row.filter)) ready.choice;
    whole = are.among has_whole_marks ready.whole;
  }

  pub enough_none : (client : List ℕ) (user : Option (List ℕ))
      → HasNone start must rows client user → HasNone start must cover client user
  enough_none client user h = λ ls s few.
      sym (hits_same must cover rows are client user ls) ∙ h ls s few

  pub enough_topic : (client : List ℕ) (user : Option (List ℕ)) (topic : List ℕ)
      → IsTopic start must rows client user topic → IsTopic start must cover client user topic
  enough_topic client user topic is = record {
    suitable = is.suitable;
    few = is.few;
    valid = is.valid;
    hit = sym (hits_same must cover rows are client user (levels topic)) ∙ is.hit;
  }
