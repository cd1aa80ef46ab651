-- Subscriptions that take part in a message, by client.
use Rattle.std.proofs.Common.{◌≡◌, ℕ, ◌+◌, ◌<◌, Bool, true, false, cond, not, ◌&&◌, ◌||◌, List, []}
use Rattle.std.proofs.Common.{◌∷◌, ◌++◌, map, length, take, get_or, append_assoc, if◌then◌else◌, ap}
use Rattle.std.proofs.Common.{Option, Some, None, refl, sym, ◌∙◌, subst, arith}
use Rattle.std.specs.declared.cmp.Ordering.TheVariants.{Less}
use Rattle.std.specs.Ordering.{is_eq}
use Rattle.std.specs.Rc.{rc_str_bytes}
use Rattle.std.specs.Cmp.Lexicographic.{nat_list_cmp_total}
use Rattle.std.specs.List.{filter, cons_option, list_any, AllByRecursion, IsChunkByPrefix}
use Rattle.std.specs.List.Sorted.{IsStrictlySortedBy}
use Rattle.std.specs.Map.{lookup, keys_of}
use Rattle.std.specs.Fn.{ComputesOnPairs}
use Rattle.std.specs.Slice.Iter.{chunk_by_rest, chunk_by_callee, chunk_by_steps}
use Rattle.std.specs.Option.{option_to_list}
use Rattle.std.specs.declared.slice.ChunkBy.{ChunkBy}
use denote.Ref.{Bor}
use denote.Param.Members.{Mut}
use Rattle.std.proofs.lemmas.Grind.{common_steps}
use Rattle.mq_acl.specs.AccessLists.{AccessList, allowed}
use Rattle.mq_acl.specs.declared.access.Direction.TheVariants.{Reading}
use Rattle.mq_world.specs.Sessions.{is_reader, user_of}
use Rattle.mq_sessions.specs.Queue.{QueueItem, room_for}
use Rattle.mq_sessions.specs.Fates.{is_sent, waits}
use Rattle.mq_sessions.specs.declared.sessions.session.Fate.{Fate}
use Rattle.mq_router.proofs.SummaryLemmas.{summary_of-append}
use Rattle.std.proofs.lemmas.List.{map-append, append-nil}
use Rattle.std.proofs.lemmas.List.Elements.{filter-append}
use Rattle.std.proofs.lemmas.Simd.{map-map}
use Rattle.std.proofs.Math.Bool.{and-true, and-false}
use Rattle.mq_world.specs.Lists.{Text, same_text, text_cmp, in_order}
use Rattle.mq_world.specs.World.{SubscriptionOptions, Session, Subscription, Message, Copy}
use Rattle.mq_subscriptions.specs.Filters.{is_text, is_empty}
use Rattle.mq_world.specs.Views.{options_of}
use Rattle.mq_router.specs.delivery.Summaries.{Summary, summary_of, summary_for, together}
use Rattle.mq_router.specs.delivery.Summaries.{copy_from}
use Rattle.mq_router.specs.delivery.Copies.{gives, gives_options, copy_for, copies_by, by_client}
use Rattle.mq_router.specs.delivery.Copies.{queue_item_for, queue_items_by, sent_by_fate}
use Rattle.mq_router.specs.delivery.Copies.{queued_by_fate}
use Rattle.mq_subscriptions.specs.Matches.{is_unshared_match, unshared_matches, match_views}
use Rattle.mq_subscriptions.specs.Matches.{clients_of, options_among, AreAscending, AreByClient}
use Rattle.mq_world.proofs.BoolLemmas.{pick}
use Rattle.mq_world.proofs.OrderLemmas.{text_flip, same_text-is, same_text-itself}
use Rattle.mq_world.proofs.SortedLemmas.{sorted-in_order, any-in_order}
use Rattle.mq_subscriptions.proofs.TextMaps.{is_text-is, key_text}
use Rattle.mq_subscriptions.specs.declared.subscriptions.matches.Match.{Match}
use Rattle.mq_subscriptions.proofs.AscendingLemmas.{same, first-run, least-first, all-in_order}

-- ## Sorted by client

-- ## By client

-- the summaries stand under the clients of the subscriptions, each once and in order
pub keys-by_client : (xs : List (Text × SubscriptionOptions))
    → keys_of (by_client xs) ≡ in_order text_cmp (clients_of xs)
keys-by_client xs = keyed (in_order text_cmp (clients_of xs))
  where
    keyed : (ids : List Text) → keys_of (map (λ id. (id, summary_of (options_among id xs))) ids)
        ≡ ids
    keyed [] = refl
    keyed (id ∷ ids) = ap (λ l. id ∷ l) (keyed ids)

-- the clients of the summaries are sorted, and none stands twice
pub sorted-by_client : (xs : List (Text × SubscriptionOptions))
    → IsStrictlySortedBy text_cmp (keys_of (by_client xs))
sorted-by_client xs = subst (IsStrictlySortedBy text_cmp) (sym (keys-by_client xs))
    (sorted-in_order text_cmp nat_list_cmp_total (clients_of xs))

among-any : (id : Text) (xs : List (Text × SubscriptionOptions))
    → list_any (is_text id) (clients_of xs) ≡ not (is_empty (options_among id xs))
among-any id [] = refl
among-any id (x ∷ xs) = grind (arith, among-any id xs, is_text-is, text_flip)

-- under a client stands the summary of its options, or nothing if it has none
pub lookup-by_client : (id : Text) (xs : List (Text × SubscriptionOptions))
    → lookup (is_text id) (by_client xs) ≡ summary_for (options_among id xs)
lookup-by_client id xs =
    looked (in_order text_cmp (clients_of xs))
    ∙ ap (λ b. cond b (Some (given id)) None)
    (any-in_order text_cmp nat_list_cmp_total key_text id (clients_of xs) ∙ among-any id xs)
    ∙ some (options_among id xs)
  where
    given : Text → Summary
    given k = summary_of (options_among k xs)

    looked : (ids : List Text) → lookup (is_text id) (map (λ k. (k, given k)) ids)
        ≡ cond (list_any (is_text id) ids) (Some (given id)) None
    looked [] = refl
    looked (k ∷ ids) =
        pick (is_text id k)
        (λ t. ap (λ b. cond b (Some (given k)) (lookup (is_text id) (map (λ k. (k, given k)) ids)))
        t ∙ ap (λ v. Some (given v)) (sym (key_text id k t))
        ∙ sym (ap (λ b. cond (b || list_any (is_text id) ids) (Some (given id)) None) t))
        (λ f. ap (λ b. cond b (Some (given k)) (lookup (is_text id) (map (λ k. (k, given k)) ids)))
        f ∙ looked ids
        ∙ sym (ap (λ b. cond (b || list_any (is_text id) ids) (Some (given id)) None) f))

    some : (os : List SubscriptionOptions) → cond (not (is_empty os)) (Some (summary_of os)) None
        ≡ summary_for os
    some [] = refl
    some (o ∷ os) = refl

-- the subscriptions of one client, before those of greater ones
module _ (c : Text) where
  all-own : (own : List (Text × SubscriptionOptions)) → AllByRecursion (λ u. u ≡ c) (clients_of own)
      → filter (λ x. same_text x.0 c) own ≡ own
  all-own [] h = refl
  all-own (x ∷ own) h = grind (arith, all-own own h.1, same_text-itself)

  less-apart : (u : Text) → text_cmp c u ≡ Less → same_text c u ≡ false
  less-apart u less = sym (is_text-is c u) ∙ ap is_eq less

  none-own : (rest : List (Text × SubscriptionOptions))
      → AllByRecursion (λ u. text_cmp c u ≡ Less) (clients_of rest)
      → filter (λ x. same_text x.0 c) rest ≡ []
  none-own [] h = refl
  none-own (x ∷ rest) h = grind (arith, none-own rest h.1, text_flip, less-apart)

  none-other : (id : Text) → text_cmp c id ≡ Less → (own : List (Text × SubscriptionOptions))
      → AllByRecursion (λ u. u ≡ c) (clients_of own) → filter (λ x. same_text x.0 id) own ≡ []
  none-other id less [] h = refl
  none-other id less (x ∷ own) h = grind (arith, none-other id less own h.1, less-apart)

  pub first-client : (x : Text × SubscriptionOptions) (own rest : List (Text × SubscriptionOptions))
      → AllByRecursion (λ u. u ≡ c) (clients_of (x ∷ own))
      → AllByRecursion (λ u. text_cmp c u ≡ Less) (clients_of rest)
      → by_client ((x ∷ own) ++ rest) ≡ (c, summary_of (map (λ y. y.1) (x ∷ own))) ∷ by_client rest
  first-client x own rest mine far =
      let all : List (Text × SubscriptionOptions) = (x ∷ own) ++ rest in
      let summed : Text → Text × Summary = λ id. (id, summary_of (options_among id all)) in
      ap (map summed)
      (ap (in_order text_cmp) (map-append (λ (y : Text × SubscriptionOptions). y.0) (x ∷ own) rest)
      ∙ least-first c x.0 (clients_of own) (clients_of rest) mine far)
      ∙ ap (λ os. with_first os (map summed (in_order text_cmp (clients_of rest))))
      (ap (map (λ (y : Text × SubscriptionOptions). y.1))
      (filter-append (λ y. same_text y.0 c) (x ∷ own) rest
      ∙ ap (λ l. filter (λ y. same_text y.0 c) (x ∷ own) ++ l) (none-own rest far)
      ∙ append-nil (filter (λ y. same_text y.0 c) (x ∷ own)) ∙ all-own (x ∷ own) mine))
      ∙ ap (with_first (map (λ y. y.1) (x ∷ own)))
      (others (in_order text_cmp (clients_of rest))
      (all-in_order (λ u. text_cmp c u ≡ Less) (clients_of rest) far))
    where
      with_first : List SubscriptionOptions → List (Text × Summary) → List (Text × Summary)
      with_first os l = (c, summary_of os) ∷ l

      summed_in : List (Text × SubscriptionOptions) → Text → Text × Summary
      summed_in ys id = (id, summary_of (options_among id ys))

      others : (ids : List Text) → AllByRecursion (λ u. text_cmp c u ≡ Less) ids
          → map (summed_in ((x ∷ own) ++ rest)) ids ≡ map (summed_in rest) ids
      others [] h = refl
      others (id ∷ ids) h =
          let one : List (Text × SubscriptionOptions) → Text × Summary =
          λ os. (id, summary_of (map (λ y. y.1) os)) in
          ap (λ os. one os ∷ map (summed_in ((x ∷ own) ++ rest)) ids)
          (filter-append (λ y. same_text y.0 id) (x ∷ own) rest
          ∙ ap (λ l. l ++ filter (λ y. same_text y.0 id) rest)
          (none-other id h.0 (x ∷ own) mine))
          ∙ ap (λ l. summed_in rest id ∷ l) (others ids h.1)

-- ## What takes part

-- a client's options among all that take part are those of its own subscriptions that do
pub options-unshared : (m : Message) (id : Text) (rows : List Subscription)
    → options_among id (unshared_matches m rows) ≡ gives_options m id rows
options-unshared m id [] = refl
options-unshared m id (s ∷ rows) =
    let kept : List Subscription = filter (is_unshared_match m) rows in
    let P : Bool → Bool → Type 0 = λ a b. options_among id
    (map (λ (s : Subscription). (s.client, s.options)) (cond a (s ∷ kept) kept))
    ≡ map (λ (s : Subscription). s.options)
    (cond b (s ∷ filter (gives m id) rows) (filter (gives m id) rows)) in
    let rest : P false false = options-unshared m id rows in
    pick (same_text s.client id)
    (λ t. (let one : s.client ≡ id = same_text-is s.client id t in
    subst (λ b. P (is_unshared_match m s) b) (sym (mine t one))
    (elim (is_unshared_match m s) as (λ a. P a a) [
      | true ↦ ap (λ b. map (λ (x : Text × SubscriptionOptions). x.1)
          (cond b ((s.client, s.options) ∷ filter (λ x. same_text x.0 id) (unshared_matches m rows))
          (filter (λ x. same_text x.0 id) (unshared_matches m rows)))) t
          ∙ ap (λ l. s.options ∷ l) rest
      | false ↦ rest
    ])))
    (λ f. subst (λ b. P (is_unshared_match m s) b) (sym (other f))
    (elim (is_unshared_match m s) as (λ a. P a false) [
      | true ↦ ap (λ b. map (λ (x : Text × SubscriptionOptions). x.1)
          (cond b ((s.client, s.options) ∷ filter (λ x. same_text x.0 id) (unshared_matches m rows))
          (filter (λ x. same_text x.0 id) (unshared_matches m rows)))) f
          ∙ rest
      | false ↦ rest
    ]))
  where
    mine : same_text s.client id ≡ true → s.client ≡ id → gives m id s ≡ is_unshared_match m s
    mine t one = grind (arith, and-true)

    other : same_text s.client id ≡ false → gives m id s ≡ false
    other f = grind (arith, and-false)

-- ## One more

-- the summary of the first ones, taken with the options of the next, is that of one more
pub summary-more : (xs : List Match) (i : ℕ) (d : Match) (old new : Summary) → i < length xs
    → old ≡ summary_of (map (λ x. options_of x.options) (take i xs))
    → new ≡ together old (summary_of (options_of (get_or xs i d).options ∷ []))
    → new ≡ summary_of (map (λ x. options_of x.options) (take (i + 1) xs))
summary-more xs i d old new h start sum = grind (arith, common_steps, summary_of-append)

-- the subscriptions of the first client, in order: what they come to, and the others
pub next-client : {F : Type 0} (g : Mut F (Bor Match × (Bor Match × Unit {0})) Bool)
    (s t : ChunkBy Match F) (r : Option (Bor (List Match))) (own : Bor (List Match)) (d : Match)
    → r ≡ Some own → chunk_by_steps g s r t
    → ComputesOnPairs g (same (λ (x : Match). rc_str_bytes x.client.now)) (chunk_by_callee s)
    → AreByClient (match_views (chunk_by_rest s))
    → AreByClient (match_views (chunk_by_rest t))
    × (by_client (match_views (chunk_by_rest s))
    ≡ (
      rc_str_bytes (get_or own.now 0 d).client.now,
      summary_of (map (λ x. options_of x.options) own.now),
    )
    ∷ by_client (match_views (chunk_by_rest t)))
next-client g s t r own d is steps computes up =
    let step = subst (λ (o : Option (Bor (List Match))). chunk_by_steps g s o t) is steps in
    cut own.now (chunk_by_rest t) (chunk_by_rest s) step.0 step.1
    (step.2 (same (λ (x : Match). rc_str_bytes x.client.now)) computes).1 up
  where
    pair : Match → Text × SubscriptionOptions
    pair x = (rc_str_bytes x.client.now, options_of x.options)

    clients : (xs : List Match)
        → clients_of (match_views xs) ≡ map (λ x. rc_str_bytes x.client.now) xs
    clients xs = map-map (λ (x : Text × SubscriptionOptions). x.0) pair xs

    behind : (xs ys : List Text) → AreAscending (xs ++ ys) → AreAscending ys
    behind [] ys h = h
    behind (x ∷ xs) ys h = behind xs ys h.1

    cut : (own rest all : List Match) → all ≡ own ++ rest → 0 < length own
        → IsChunkByPrefix (same (λ (x : Match). rc_str_bytes x.client.now)) all (length own)
        → AreByClient (match_views all)
        → AreByClient (match_views rest)
        × (by_client (match_views all)
        ≡ (
          rc_str_bytes (get_or own 0 d).client.now,
          summary_of (map (λ x. options_of x.options) own),
        ) ∷ by_client (match_views rest))
    cut [] rest all e p prefix up = absurd (omega arith)
    cut (x ∷ own) rest all e p prefix up =
        let c : Text = rc_str_bytes x.client.now in
        let up_keys : AreAscending
        (map (λ (x : Match). rc_str_bytes x.client.now) (x ∷ own ++ rest)) =
        subst AreAscending (clients all ∙ ap (map (λ (x : Match). rc_str_bytes x.client.now)) e)
        up in
        let parts = first-run (λ (x : Match). rc_str_bytes x.client.now) x own rest
        (subst (λ (l : List Match). IsChunkByPrefix
        (same (λ (x : Match). rc_str_bytes x.client.now)) l (length (x ∷ own))) e prefix)
        up_keys in (
          subst AreAscending (sym (clients rest))
              (behind (map (λ (x : Match). rc_str_bytes x.client.now) (x ∷ own))
              (map (λ (x : Match). rc_str_bytes x.client.now) rest)
              (subst AreAscending (map-append (λ (x : Match). rc_str_bytes x.client.now) (x ∷ own)
              rest) up_keys)),
          ap (λ l. by_client (match_views l)) e
              ∙ ap by_client (map-append pair (x ∷ own) rest)
              ∙ first-client c (pair x) (match_views own) (match_views rest)
              (subst (AllByRecursion (λ u. u ≡ c)) (sym (clients (x ∷ own))) parts.0)
              (subst (AllByRecursion (λ u. text_cmp c u ≡ Less)) (sym (clients rest)) parts.1)
              ∙ ap (λ os. summed_first c os (by_client (match_views rest)))
              (map-map (λ (y : Text × SubscriptionOptions). y.1) pair (x ∷ own)),
        )
      where
        summed_first : Text → List SubscriptionOptions → List (Text × Summary)
            → List (Text × Summary)
        summed_first c os l = (c, summary_of os) ∷ l

-- ## Where a copy goes

onto : {Y : Type 0} (ys : List Y) (o : Option Y) (rest : List Y)
    → (ys ++ option_to_list o) ++ rest ≡ ys ++ cons_option o rest
onto ys None rest = ap (λ l. l ++ rest) (append-nil ys)
onto ys (Some y) rest = append_assoc ys (y ∷ []) rest

module _ (limit : ℕ) (access : Option AccessList) (sessions : List Session) (m : Message)
    (deadline : Option ℕ) (l : Text × Summary) (w : Fate)
    (sent : is_sent w ≡ is_reader access sessions m.topic l.0)
    (waiting : waits w ≡ (room_for limit sessions l.0
    && allowed access l.0 (user_of sessions l.0) m.topic Reading)) where
  copy-by_way : copy_for access sessions m l
      ≡ sent_by_fate w (copy_from l.0 None m l.1)
  copy-by_way = ap (λ b. if b then Some (copy_from l.0 None m l.1) else None) (sym sent)

  begin-by_way : queue_item_for limit access sessions m deadline l
      ≡ queued_by_fate w deadline (copy_from l.0 None m l.1)
  begin-by_way = grind arith

  pub copies-first : (copies : List Copy) (L all : List (Text × Summary)) → all ≡ l ∷ L
      → (copies ++ option_to_list (sent_by_fate w (copy_from l.0 None m l.1)))
      ++ copies_by access sessions m L ≡ copies ++ copies_by access sessions m all
  copies-first copies L all e = grind (arith, onto, copy-by_way)

  pub begins-first : (queued : List QueueItem) (L all : List (Text × Summary)) → all ≡ l ∷ L
      → (queued ++ option_to_list (queued_by_fate w deadline (copy_from l.0 None m l.1)))
      ++ queue_items_by limit access sessions m deadline L
      ≡ queued ++ queue_items_by limit access sessions m deadline all
  begins-first queued L all e = grind (arith, onto, begin-by_way)
