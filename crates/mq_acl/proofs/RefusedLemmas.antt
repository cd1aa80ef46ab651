-- What the broker refuses.
use Rattle.std.proofs.Common.{◌≡◌, ◌∙◌, ◌==◌, ◌-◌, ℕ, Bool, true, false, List, [], ◌∷◌, ◌&&◌, ◌||◌}
use Rattle.std.proofs.Common.{ap, codes, cond, length, not, refl, sym, take}
use Rattle.std.specs.Prelude.{nat_eq}
use Rattle.std.specs.Cmp.Lexicographic.{pointwise}
use Rattle.std.specs.List.{list_all, onto_first, starts_with}
use Rattle.std.proofs.lemmas.Bool.{and_parts, cond_both, eqb-true, false_from_ne_true, not-true, or_parts}
use Rattle.mq_topic.proofs.ByteLemmas.{text_is}
use Rattle.mq_topic.specs.Levels.{is_slash, levels}
use Rattle.mq_topic.specs.Matching.{ends_with_hash, level_at, level_matches, levels_match_by}
use Rattle.mq_topic.specs.Texts.{parents}
use Rattle.std.specs.Str.{bytes_eq}
use Rattle.mq_acl.specs.Access.{begins_with_dollar}
use Rattle.mq_acl.specs.Refused.{begins_own, begins_shared, is_kept, is_refused, is_state}
use Rattle.mq_acl.specs.Refused.{state_filter}
use Rattle.mq_acl.specs.declared.access.Direction.{Direction}
use Rattle.mq_acl.specs.declared.access.Direction.TheVariants.{Reading, Writing}

-- to write what isn't for shared subscriptions is, where it is kept
pub writing_is : (direction : Direction) (name : List ℕ) → direction ≡ Writing
    → begins_shared name ≡ false → is_refused direction name ≡ is_kept name
unfolding is_refused
writing_is direction name e f =
    ap (λ d. is_refused d name) e ∙ ap (λ b. b || is_kept name) f

pub writing_parts : (name : List ℕ) → is_refused Writing name ≡ false
    → (begins_shared name ≡ false) × (is_kept name ≡ false)
unfolding is_refused
writing_parts name h = or_parts (begins_shared name) (is_kept name) h

pub reading_is : (name : List ℕ) → is_refused Reading name ≡ begins_shared name
unfolding is_refused
reading_is name = refl

-- ---- the first level
first_onto : (b x : ℕ) (bs : List ℕ) (parts : List (List ℕ))
    → starts_with nat_eq (level_at (onto_first x parts) 0) (b ∷ bs)
    ≡ ((b == x) && starts_with nat_eq (level_at parts 0) bs)
first_onto b x bs [] = refl
first_onto b x bs (p ∷ parts) = refl

-- a text without a slash is what a name begins with where its first level does
first_begins : (wanted name : List ℕ) → list_all (λ b. not (b == 47)) wanted ≡ true
    → starts_with nat_eq name wanted ≡ starts_with nat_eq (level_at (levels name) 0) wanted
first_begins [] name h = refl
first_begins (b ∷ bs) [] h = refl
first_begins (b ∷ bs) (x ∷ xs) h =
    cond_both (is_slash x) ([] ∷ levels xs) (onto_first x (levels xs))
    (λ ls. starts_with nat_eq (x ∷ xs) (b ∷ bs) ≡ starts_with nat_eq (level_at ls 0) (b ∷ bs))
    (λ e. ap (λ t. (b == t) && pointwise nat_eq bs (take (length bs) xs)) (eqb-true x 47 e)
    ∙ ap (λ v. v && pointwise nat_eq bs (take (length bs) xs))
    (not-true (b == 47) (and_parts _ _ h).0))
    (λ e. ap (λ v. (b == x) && v) (first_begins bs xs (and_parts _ _ h).1)
    ∙ sym (first_onto b x bs (levels xs)))

pub first_shared : (name : List ℕ) → begins_shared name ≡ begins_shared (level_at (levels name) 0)
unfolding begins_shared
first_shared name = first_begins (codes "$share") name refl

pub first_own : (name : List ℕ) → begins_own name ≡ begins_own (level_at (levels name) 0)
unfolding begins_own
first_own name = first_begins (codes "$SYS") name refl

-- ---- texts that begin otherwise
pub other_shared : (b : ℕ) (more : List ℕ) → (115 == b) ≡ false
    → begins_shared (36 ∷ (b ∷ more)) ≡ false
unfolding begins_shared
other_shared b more e =
    ap (λ t. t && pointwise nat_eq (codes "hare") (take 4 more)) e

pub other_own : (b : ℕ) (more : List ℕ) → (83 == b) ≡ false
    → begins_own (36 ∷ (b ∷ more)) ≡ false
unfolding begins_own
other_own b more e = ap (λ t. t && pointwise nat_eq (codes "YS") (take 2 more)) e

-- what begins so begins with `$`
shared_begins : (name : List ℕ) → begins_shared name ≡ true → begins_with_dollar name ≡ true
unfolding begins_shared
shared_begins [] h = h
shared_begins (x ∷ xs) h =
    sym (ap (λ t. t == 36) (eqb-true 36 x (and_parts _ _ h).0))

own_begins : (name : List ℕ) → begins_own name ≡ true → begins_with_dollar name ≡ true
unfolding begins_own
own_begins [] h = h
own_begins (x ∷ xs) h = sym (ap (λ t. t == 36) (eqb-true 36 x (and_parts _ _ h).0))

plain_shared : (name : List ℕ) → begins_with_dollar name ≡ false → begins_shared name ≡ false
plain_shared name e = false_from_ne_true _ (λ h.
    let n : true ≡ false = sym (shared_begins name h) ∙ e in cc)

plain_own : (name : List ℕ) → begins_with_dollar name ≡ false → begins_own name ≡ false
plain_own name e = false_from_ne_true _ (λ h.
    let n : true ≡ false = sym (own_begins name h) ∙ e in cc)

-- what begins with no `$` is not refused
pub plain_taken : (direction : Direction) (name : List ℕ) → begins_with_dollar name ≡ false
    → is_refused direction name ≡ false
unfolding is_refused
plain_taken Reading name e = plain_shared name e
plain_taken Writing name e = λ i. plain_shared name e i
    || (plain_own name e i && not (is_state name))

-- what is neither for shared subscriptions nor the broker's own isn't
pub free_taken : (name : List ℕ) → begins_shared name ≡ false → begins_own name ≡ false
    → is_refused Writing name ≡ false
unfolding is_refused
free_taken name e f = λ i. e i || (f i && not (is_state name))

-- ---- the states of bridges
-- a name that is matched begins with the first level of the filter, where that is no wildcard
first_matched : (w : List ℕ) (ws ls : List (List ℕ)) → ends_with_hash (w ∷ ws) ≡ false
    → bytes_eq w (codes "+") ≡ false → levels_match_by level_matches (w ∷ ws) ls ≡ true
    → level_at ls 0 ≡ w
first_matched w ws ls whole plain h = at ls (sym (ap (λ b. cond b
    (pointwise level_matches (parents (w ∷ ws)) (take (length (w ∷ ws) - 1) ls))
    (pointwise level_matches (w ∷ ws) ls)) whole) ∙ h)
  where
    at : (ns : List (List ℕ)) → pointwise level_matches (w ∷ ws) ns ≡ true → level_at ns 0 ≡ w
    at [] k = absurd (let n : false ≡ true = k in cc)
    at (n ∷ ns) k = sym (text_is w n (sym (ap (λ b. b || bytes_eq w n) plain)
        ∙ (and_parts (level_matches w n) (pointwise level_matches ws ns) k).0))

pub state_levels : levels state_filter ≡ codes "$SYS"
    ∷ (codes "broker" ∷ (codes "connection" ∷ (codes "+" ∷ (codes "state" ∷ []))))
unfolding state_filter
state_levels = refl

state_first : (name : List ℕ) → is_state name ≡ true → level_at (levels name) 0 ≡ codes "$SYS"
state_first name e = first_matched (codes "$SYS")
    (codes "broker" ∷ (codes "connection" ∷ (codes "+" ∷ (codes "state" ∷ [])))) (levels name) refl
    refl (sym (ap (λ ws. levels_match_by level_matches ws (levels name)) state_levels) ∙ e)

pub state_taken : (name : List ℕ) → is_state name ≡ true → is_refused Writing name ≡ false
unfolding is_refused
state_taken name e =
    let shared = first_shared name ∙ ap begins_shared (state_first name e)
    ∙ other_shared 83 (codes "YS") refl in
    (λ i. shared i || (begins_own name && not (e i)))
    ∙ and_false (begins_own name)
  where
    and_false : (b : Bool) → (b && false) ≡ false
    and_false true = refl
    and_false false = refl
