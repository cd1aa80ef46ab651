-- The levels that two filters have in common match the names that both match, `$` and all.
use Rattle.std.proofs.Common.{◌≡◌, ◌==◌, ℕ, ◌<◌, Bool, true, false, cond, not, ◌&&◌, ◌||◌, List, []}
use Rattle.std.proofs.Common.{◌∷◌, length, refl, ap, sym, ◌∙◌, arith, ◌⊎◌, inl, inr}
use Rattle.std.specs.Prelude.{Option, Some, None}
use Rattle.mq_topic.specs.Levels.{levels}
use Rattle.mq_topic.specs.Texts.{is_filter}
use Rattle.mq_topic.proofs.Walk.{levels-nonempty}
use Rattle.mq_topic.specs.Matching.{is_hidden, is_wildcard, level_at, matches}
use Rattle.mq_rename.specs.declared.fault.MeetFault.{MeetFault}
use Rattle.mq_rename.specs.declared.fault.MeetFault.TheVariants.{Memory, TooLong}
use Rattle.mq_rename.specs.Lists.{IsFault, are_fit, has_long, is_last_hash, levels_match}
use Rattle.mq_rename.specs.Meets.{behind, met_level, met_levels}
use Rattle.mq_rename.proofs.FitLemmas.{filter_is_fit}
use Rattle.mq_rename.proofs.MatchLemmas.{dollar_is_text, front_is, has_dollar}
use Rattle.mq_rename.proofs.MeetLemmas.{BeginIfAny, all_match_if_any, and_comm, fit_if_any}
use Rattle.mq_rename.proofs.MeetLemmas.{long_if_any, long_of, match_if_any, met_fit, met_level_by}
use Rattle.mq_rename.proofs.MeetLemmas.{met_match, met_short}

-- ---- how they begin
met_front : (x y : List ℕ) (xs ys : List (List ℕ))
    → BeginIfAny x y (met_levels (x ∷ xs) (y ∷ ys))
met_front x y xs ys = at (is_last_hash x xs) (is_last_hash y ys)
  where
    left : (t : Option (List (List ℕ))) → BeginIfAny x y (behind (Some x) t)
    left None = tt
    left (Some ls) = inl refl

    right : (t : Option (List (List ℕ))) → BeginIfAny x y (behind (Some y) t)
    right None = tt
    right (Some ls) = inr refl

    at : (a b : Bool) → BeginIfAny x y (cond a (Some (y ∷ ys)) (cond b (Some (x ∷ xs))
        (behind (met_level x y) (met_levels xs ys))))
    at true b = inr refl
    at false true = inl refl
    at false false = met_level_by (λ o. BeginIfAny x y (behind o (met_levels xs ys))) x y tt
        (left (met_levels xs ys)) (right (met_levels xs ys))

-- of two filters that match a name that begins with `$`, both begin with a wildcard or neither does
fronts_agree : (x y m : List ℕ) (xs ys ms : List (List ℕ)) → is_hidden (x ∷ xs) (y ∷ ys) ≡ false
    → is_hidden (y ∷ ys) (x ∷ xs) ≡ false → levels_match (x ∷ xs) (m ∷ ms) ≡ true
    → levels_match (y ∷ ys) (m ∷ ms) ≡ true
    → (has_dollar m && is_wildcard y) ≡ (has_dollar m && is_wildcard x)
fronts_agree x y m xs ys ms h k f g =
    agree (has_dollar m) (is_wildcard x) (is_wildcard y) (has_dollar x) (has_dollar y) h k
    (λ e. ap has_dollar (front_is x m xs ms e f)) (λ e. ap has_dollar (front_is y m ys ms e g))
  where
    -- one that begins with the name's level is hidden from one that begins with a wildcard
    agree : (d a b p q : Bool) → (q && a) ≡ false → (p && b) ≡ false → (a ≡ false → p ≡ d)
        → (b ≡ false → q ≡ d) → (d && b) ≡ (d && a)
    agree d a b p q h k f g = grind arith

-- levels that match what two filters match and begin as one of them are their meeting
same_met : (x y : List ℕ) (xs ys : List (List ℕ)) (o : Option (List (List ℕ)))
    → BeginIfAny x y o → is_hidden (x ∷ xs) (y ∷ ys) ≡ false
    → is_hidden (y ∷ ys) (x ∷ xs) ≡ false → (n : List (List ℕ))
    → match_if_any o n ≡ (levels_match (x ∷ xs) n && levels_match (y ∷ ys) n)
    → all_match_if_any o n ≡ (matches (x ∷ xs) n && matches (y ∷ ys) n)
same_met x y xs ys None front h k n e =
    not_met (not (length n == 0) && not (is_hidden (x ∷ xs) n)) _
    (not (length n == 0) && not (is_hidden (y ∷ ys) n)) _ e
  where
    not_met : (p a q b : Bool) → false ≡ (a && b) → false ≡ ((p && a) && (q && b))
    not_met p a q b e = grind arith
same_met x y xs ys (Some ls) front h k [] e = refl
same_met x y xs ys (Some ls) front h k (m ∷ ms) e =
    are_met (not (length (m ∷ ms) == 0)) (has_dollar m) (is_wildcard (level_at ls 0))
    (is_wildcard x) (is_wildcard y) _ _ _ (begins front) (fronts_agree x y m xs ys ms h k) e
  where
    begins : (level_at ls 0 ≡ x) ⊎ (level_at ls 0 ≡ y)
        → (is_wildcard (level_at ls 0) ≡ is_wildcard x)
        ⊎ (is_wildcard (level_at ls 0) ≡ is_wildcard y)
    begins (inl l) = inl (ap is_wildcard l)
    begins (inr l) = inr (ap is_wildcard l)

    are_met : (s d v p q l a b : Bool) → (v ≡ p) ⊎ (v ≡ q)
        → (a ≡ true → b ≡ true → (d && q) ≡ (d && p)) → l ≡ (a && b)
        → ((s && not (d && v)) && l) ≡ (((s && not (d && p)) && a) && ((s && not (d && q)) && b))
    are_met s d v p q l a b w f e = grind arith

-- the levels that two filters have in common match the names that both match, if neither is hidden
-- from the other
pub met_same : (xs ys : List (List ℕ)) → 0 < length xs → 0 < length ys → are_fit xs ≡ true
    → are_fit ys ≡ true → is_hidden xs ys ≡ false → is_hidden ys xs ≡ false
    → (n : List (List ℕ)) → all_match_if_any (met_levels xs ys) n ≡ (matches xs n && matches ys n)
met_same [] ys p q f g h k n = absurd (omega arith)
met_same (x ∷ xs) [] p q f g h k n = absurd (omega arith)
met_same (x ∷ xs) (y ∷ ys) p q f g h k n =
    same_met x y xs ys (met_levels (x ∷ xs) (y ∷ ys)) (met_front x y xs ys) h k n
    (met_match (x ∷ xs) (y ∷ ys) f g n)

-- no name is matched by two filters if one is hidden from the other
pub met_hidden : (xs ys : List (List ℕ)) → 0 < length xs → 0 < length ys → is_hidden xs ys ≡ true
    → (n : List (List ℕ)) → (matches xs n && matches ys n) ≡ false
met_hidden [] ys p q h n = absurd (omega arith)
met_hidden (x ∷ xs) [] p q h n = absurd (omega arith)
met_hidden (x ∷ xs) (y ∷ ys) p q h [] = refl
met_hidden (x ∷ xs) (y ∷ ys) p q h (m ∷ ms) =
    never (not (length (m ∷ ms) == 0)) (has_dollar m) (is_wildcard x) (is_wildcard y)
    (has_dollar y) _ _ h (dollar_is_text y) (λ b w. ap has_dollar (front_is y m ys ms w b))
  where
    never : (s d v w c a b : Bool) → (c && v) ≡ true → (c ≡ true → w ≡ false)
        → (b ≡ true → w ≡ false → c ≡ d)
        → (((s && not (d && v)) && a) && ((s && not (d && w)) && b)) ≡ false
    never s d v w c a b h f g = grind arith

-- ---- two filters
-- the levels are those that two filters have in common, neither of which is hidden from the other
pub record IsMet (a b : List ℕ) (o : Option (List (List ℕ))) : Type 0 where
  pub left : is_filter a ≡ true
  pub right : is_filter b ≡ true
  pub shown : is_hidden (levels a) (levels b) ≡ false
  pub seen : is_hidden (levels b) (levels a) ≡ false
  pub are : o ≡ met_levels (levels a) (levels b)

pub met_is_same : (a b : List ℕ) (o : Option (List (List ℕ))) → IsMet a b o → (n : List (List ℕ))
    → all_match_if_any o n ≡ (matches (levels a) n && matches (levels b) n)
met_is_same a b o is n =
    ap (λ t. all_match_if_any t n) is.are
    ∙ met_same (levels a) (levels b) (levels-nonempty a) (levels-nonempty b)
    (filter_is_fit a is.left) (filter_is_fit b is.right) is.shown is.seen n

pub met_is_fit : (a b : List ℕ) (o : Option (List (List ℕ))) → IsMet a b o → fit_if_any o ≡ true
met_is_fit a b o is = grind (arith, fit_if_any, met_fit, filter_is_fit)

-- what is long among them is so in one of the two
pub met_is_long : (a b : List ℕ) (o : Option (List (List ℕ))) → IsMet a b o
    → long_if_any o ≡ true → (has_long (levels a) || has_long (levels b)) ≡ true
met_is_long a b o is h = grind (arith, long_of, long_if_any, met_short)

pub met_is_hidden : (a b : List ℕ)
    → (is_hidden (levels a) (levels b) ≡ true) ⊎ (is_hidden (levels b) (levels a) ≡ true)
    → (n : List (List ℕ)) → false ≡ (matches (levels a) n && matches (levels b) n)
met_is_hidden a b (inl h) n =
    sym (met_hidden (levels a) (levels b) (levels-nonempty a) (levels-nonempty b) h n)
met_is_hidden a b (inr h) n = grind (arith, and_comm, met_hidden, levels-nonempty)

-- ---- faults
-- what is shown holds of more
pub fault_by : (f : MeetFault) (a b : Bool) → (a ≡ true → b ≡ true) → IsFault f a → IsFault f b
fault_by Memory a b g h = tt
fault_by TooLong a b g h = g h
