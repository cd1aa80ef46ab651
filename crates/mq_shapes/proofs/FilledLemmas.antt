-- Texts with the names of a client in the places of marks.
use Rattle.std.proofs.Common.{◌≡◌, ◌≢◌, ◌==◌, ℕ, Bool, true, false, List, [], ◌∷◌, ◌++◌, refl, ap, sym, ◌∙◌}
use Rattle.std.proofs.Common.{arith, drop, length, suc, take, ◌<◌, ◌+◌}
use Rattle.std.specs.List.{after_first, before_first, position_or_len}
use Rattle.std.specs.List.{flat_map}
use Rattle.mq_topic.specs.Levels.{levels}
use Rattle.mq_acl.specs.Filled.{filled}
use Rattle.mq_acl.specs.Rows.{AclRow}
use Rattle.mq_acl.specs.RowsByOwner.{is_everyones}
use Rattle.mq_acl.proofs.FilledLemmas.{levels_filled}
use Rattle.mq_shapes.specs.Filled.{row_levels}
use Rattle.mq_unify.specs.Clients.{made_levels}

-- a `%` that no `c` and no `u` follows stands for itself
pub percent_stays : (client user behind : List ℕ) → ((rest : List ℕ) → behind ≢ 99 ∷ rest)
    → ((rest : List ℕ) → behind ≢ 117 ∷ rest)
    → filled client user (37 ∷ behind) ≡ 37 ∷ filled client user behind
percent_stays client user [] c u = refl
percent_stays client user (b ∷ rest) c u = at (b == 99) refl (b == 117) refl
  where
    at : (d : Bool) → (b == 99) ≡ d → (e : Bool) → (b == 117) ≡ e
        → filled client user (37 ∷ b ∷ rest) ≡ 37 ∷ filled client user (b ∷ rest)
    at true d e f = let is : b ≡ 99 = grind (arith, d) in absurd (c rest (ap (λ n. n ∷ rest) is))
    at false d true f =
        let is : b ≡ 117 = grind (arith, f) in absurd (u rest (ap (λ n. n ∷ rest) is))
    at false d false f = grind (arith, d, f)

-- ---- what stands before the first `%`
abbrev pub is_percent : ℕ → Bool
is_percent b = b == 37

-- a byte that is no `%` stands for itself
other_stays : (client user : List ℕ) (b : ℕ) (rest : List ℕ) → (b == 37) ≡ false
    → filled client user (b ∷ rest) ≡ b ∷ filled client user rest
other_stays client user b [] e = refl
other_stays client user b (d ∷ rest) e = rw e refl

pub filled_front : (client user bs : List ℕ) → position_or_len is_percent bs < length bs
    → filled client user bs ≡ before_first is_percent bs
    ++ filled client user (37 ∷ after_first is_percent bs)
filled_front client user [] h = absurd (omega arith)
filled_front client user (b ∷ rest) h =
    by (filled_front client user rest) (b == 37) refl
  where
    by : (position_or_len is_percent rest < length rest → filled client user rest
        ≡ before_first is_percent rest
        ++ filled client user (37 ∷ after_first is_percent rest))
        → (t : Bool) → (b == 37) ≡ t → filled client user (b ∷ rest)
        ≡ before_first is_percent (b ∷ rest)
        ++ filled client user (37 ∷ after_first is_percent (b ∷ rest))
    by next true e =
        let is : b ≡ 37 = grind (arith, e) in
        let at : position_or_len is_percent (b ∷ rest) ≡ 0 = grind (arith, e) in
        ap (λ n. filled client user (n ∷ rest)) is
        ∙ sym (ap (λ k. take k (b ∷ rest) ++ filled client user (37 ∷ drop (k + 1) (b ∷ rest))) at)
    by next false e =
        let at : position_or_len is_percent (b ∷ rest) ≡ suc (position_or_len is_percent rest) =
        grind (arith, e) in
        let n = position_or_len is_percent rest in
        let behind : suc n + 1 ≡ suc (n + 1) = omega arith in
        other_stays client user b rest e
        ∙ ap (λ l. b ∷ l) (next (omega (arith, h, at)))
        ∙ sym (ap (λ k. take (suc n) (b ∷ rest) ++ filled client user (37 ∷ drop k (b ∷ rest)))
        behind)
        ∙ sym (ap (λ k. take k (b ∷ rest) ++ filled client user (37 ∷ drop (k + 1) (b ∷ rest))) at)

pub filled_whole : (client user bs : List ℕ) → position_or_len is_percent bs ≡ length bs
    → filled client user bs ≡ bs
filled_whole client user [] h = refl
filled_whole client user (b ∷ rest) h = by (filled_whole client user rest) (b == 37) refl
  where
    by : (position_or_len is_percent rest ≡ length rest → filled client user rest ≡ rest)
        → (t : Bool) → (b == 37) ≡ t → filled client user (b ∷ rest) ≡ b ∷ rest
    by next true e = absurd (grind (arith, e))
    by next false e =
        other_stays client user b rest e ∙ ap (λ l. b ∷ l) (next (grind (arith, e)))

-- ---- the levels of rows
pub single_levels : (ls : List (List ℕ)) → ls ≡ flat_map (λ l. l ∷ []) ls
single_levels [] = refl
single_levels (l ∷ ls) = ap (λ k. l ∷ k) (single_levels ls)

pub pattern_levels : (client user : List ℕ) (row : AclRow) → is_everyones row.who ≡ true
    → levels (filled client user row.filter) ≡ row_levels client user row
pattern_levels client user row e =
    levels_filled client user row.filter
    ∙ ap (λ p. made_levels p client user (levels row.filter)) (sym e)

pub plain_levels : (client user : List ℕ) (row : AclRow) → is_everyones row.who ≡ false
    → levels row.filter ≡ row_levels client user row
plain_levels client user row e =
    single_levels (levels row.filter)
    ∙ ap (λ p. made_levels p client user (levels row.filter)) (sym e)
