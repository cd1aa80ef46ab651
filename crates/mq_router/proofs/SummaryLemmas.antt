-- Summaries of options.
use Rattle.std.proofs.Common.{◌≡◌, ℕ, Bool, true, false, not, ◌==◌, List, [], ◌∷◌, ◌++◌, map, max}
use Rattle.std.proofs.Common.{length, Some, None, refl, sym, arith}
use Rattle.std.specs.List.{filter_map}
use Rattle.mq_world.specs.Lists.{greatest}
use Rattle.mq_world.specs.World.{SubscriptionOptions}
use Rattle.mq_router.specs.delivery.Summaries.{Summary, summary_of, summary_for, together}
use Rattle.mq_world.proofs.ListLemmas.{any-append}
use Rattle.mq_world.proofs.SameLemmas.{some_pass}
use Rattle.mq_world.proofs.Splits.{some_same, none_some}

-- ## Of options

same_summary : (q q' : ℕ) (r r' : Bool) (ids ids' : List ℕ) → q ≡ q' → r ≡ r' → ids ≡ ids'
    → ◌≡◌ {A = Summary} (record { qos = q; retain_as_published = r; identifiers = ids })
    (record { qos = q'; retain_as_published = r'; identifiers = ids' })
same_summary q q' r r' ids ids' e1 e2 e3 = rw (e1, e2, e3) refl

greatest-both : (xs ys : List SubscriptionOptions)
    → greatest (map (λ o. o.qos) (xs ++ ys))
    ≡ max (greatest (map (λ o. o.qos) xs)) (greatest (map (λ o. o.qos) ys))
greatest-both [] ys = omega arith
greatest-both (x ∷ xs) ys = grind (arith, greatest-both xs ys)

identifiers-both : (xs ys : List SubscriptionOptions)
    → filter_map (λ o. o.identifier) (xs ++ ys) ≡ filter_map (λ o. o.identifier) xs
    ++ filter_map (λ o. o.identifier) ys
identifiers-both [] ys = refl
identifiers-both (x ∷ xs) ys = grind (arith, identifiers-both xs ys)

-- the summary of two lists of options is made of those of each
pub summary_of-append : (xs ys : List SubscriptionOptions)
    → summary_of (xs ++ ys) ≡ together (summary_of xs) (summary_of ys)
summary_of-append xs ys = same_summary _ _ _ _ _ _ (greatest-both xs ys)
    (any-append (λ (o : SubscriptionOptions). o.retain_as_published) xs ys) (identifiers-both xs ys)

-- who has a summary has options
pub summarized : (os : List SubscriptionOptions) (s : Summary) → summary_for os ≡ Some s
    → (not (length os == 0) ≡ true) × (s ≡ summary_of os)
summarized [] s h = absurd (none_some h)
summarized (o ∷ os) s h = (sym (some_pass (length os)), sym (some_same h))

-- who has no summary has no options
pub unsummarized : (os : List SubscriptionOptions) → summary_for os ≡ None
    → not (length os == 0) ≡ false
unsummarized [] h = refl
unsummarized (o ∷ os) h = absurd (none_some (sym h))
