-- The copies of a message, and those that begin to wait, are the same whatever order the subscriptions stand in.
use Rattle.std.proofs.Common.{◌≡◌, ℕ, ◌==◌, Bool, ◌&&◌, not, List, [], ◌∷◌, map, Option, Some, None}
use Rattle.std.proofs.Common.{length, if◌then◌else◌, refl, ◌∙◌, ap, arith}
use Rattle.std.specs.List.{filter, filter_map, list_any}
use Rattle.mq_acl.specs.AccessLists.{AccessList, allowed}
use Rattle.mq_acl.specs.declared.access.Direction.TheVariants.{Reading}
use Rattle.mq_world.specs.Lists.{SameElements, Text, greatest, ascending}
use Rattle.mq_world.specs.World.{Session, Subscription, SubscriptionOptions, Message}
use Rattle.mq_world.specs.Copies.{takes_part, options_for, copy_by, unshared_copy, unshared_copies}
use Rattle.mq_world.specs.Waiting.{waiting_copy, waiting_after, begins_to_wait}
use Rattle.mq_world.proofs.ListLemmas.{list_any-same, map-same}
use Rattle.mq_world.proofs.SameLemmas.{SameElements-filter, SameElements-map, length-SameElements}
use Rattle.mq_world.proofs.SameLemmas.{SameElements-filter_map, list_any-SameElements}
use Rattle.mq_world.proofs.SameLemmas.{greatest-SameElements, ascending-SameElements}

unshared_copy-same : (access : Option AccessList) (xs ys : List Subscription) (m : Message)
    (id : Text) (user : Option Text) → SameElements xs ys
    → unshared_copy access xs m id user ≡ unshared_copy access ys m id user
unshared_copy-same access xs ys m id user same =
    let part : Subscription → Bool = takes_part m id in
    let ox : List SubscriptionOptions = options_for xs m id in
    let oy : List SubscriptionOptions = options_for ys m id in
    let options : SameElements ox oy =
    SameElements-map (λ (x : Subscription). x.options) (filter part xs) (filter part ys)
    (SameElements-filter part xs ys same) in
    let able : Bool = allowed access id user m.topic Reading in
    let qos : greatest (map (λ o. o.qos) ox) ≡ greatest (map (λ o. o.qos) oy) =
    greatest-SameElements _ _
    (SameElements-map (λ (o : SubscriptionOptions). o.qos) ox oy options) in
    let ids : ascending (filter_map (λ o. o.identifier) ox)
    ≡ ascending (filter_map (λ o. o.identifier) oy) =
    ascending-SameElements _ _
    (SameElements-filter_map (λ (o : SubscriptionOptions). o.identifier) ox oy options) in
    let keeps : list_any (λ o. o.retain_as_published) ox
    ≡ list_any (λ o. o.retain_as_published) oy =
    list_any-SameElements (λ (o : SubscriptionOptions). o.retain_as_published) ox oy options in
    let copy : copy_by id None m ox ≡ copy_by id None m oy = rw (qos, keeps, ids) refl in
    ap (λ n. if not (n == 0) && able then Some (copy_by id None m ox) else None)
    (length-SameElements ox oy options)
    ∙ ap (λ k. if not (length oy == 0) && able then Some k else None) copy

-- the copies for clients in their own name don't depend on the order of subscriptions
pub unshared_copies-same : (access : Option AccessList) (sessions : List Session)
    (xs ys : List Subscription) (m : Message) → SameElements xs ys
    → unshared_copies access sessions xs m ≡ unshared_copies access sessions ys m
unfolding unshared_copies
unshared_copies-same access [] xs ys m same = refl
unshared_copies-same access (c ∷ cs) xs ys m same =
    grind (arith, unshared_copies-same access cs xs ys m same, unshared_copy-same)

waiting_copy-same : (limit : ℕ) (access : Option AccessList) (xs ys : List Subscription)
    (m : Message) (s : Session) → SameElements xs ys
    → waiting_copy limit access xs m s ≡ waiting_copy limit access ys m s
waiting_copy-same limit access xs ys m s same = grind (arith, unshared_copy-same)

-- whether a copy begins to wait doesn't depend on the order of subscriptions
pub begins_to_wait-same : (limit : ℕ) (access : Option AccessList) (sessions : List Session)
    (xs ys : List Subscription) (m : Message) → SameElements xs ys
    → begins_to_wait limit access sessions xs m ≡ begins_to_wait limit access sessions ys m
unfolding begins_to_wait
begins_to_wait-same limit access sessions xs ys m same =
    grind (arith, list_any-same, waiting_copy-same)

-- the sessions after a publish don't depend on the order of subscriptions
pub waiting_after-same : (limit : ℕ) (access : Option AccessList) (sessions : List Session)
    (xs ys : List Subscription) (now : ℕ) (m : Message) → SameElements xs ys
    → map (waiting_after limit access xs now m) sessions
    ≡ map (waiting_after limit access ys now m) sessions
waiting_after-same limit access sessions xs ys now m same =
    grind (arith, map-same, waiting_copy-same)
