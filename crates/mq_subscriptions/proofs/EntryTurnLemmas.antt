-- The members in turn at one filter.
use Rattle.std.proofs.Common.{◌≡◌, Bool, true, false, cond, List, [], ◌∷◌, ◌++◌, map, Option, Some}
use Rattle.std.proofs.Common.{if◌then◌else◌, refl, sym, ◌∙◌, ap, append_assoc, option_map, filter}
use Rattle.std.proofs.Common.{flat_map, find, Less, is_eq, append-nil}
use Rattle.std.specs.Rc.{rc_str_bytes}
use Rattle.std.specs.List.{AllByRecursion}
use Rattle.std.specs.List.Sorted.{IsStrictlySortedBy}
use Rattle.std.specs.Map.{keys_of}
use Rattle.std.proofs.lemmas.List.{map-append}
use Rattle.std.proofs.lemmas.List.Elements.{filter-append}
use Rattle.mq_world.specs.Lists.{Text, same_text, text_cmp}
use Rattle.mq_world.specs.World.{Subscription, Group, is_in_group}
use Rattle.mq_subscriptions.specs.Turns.{next_by, turn_of, turns_listed, turns_of}
use Rattle.mq_subscriptions.specs.Filters.{Member, row, unshared_rows, group_rows}
use Rattle.mq_subscriptions.proofs.TextMaps.{is_text-is}
use Rattle.mq_world.proofs.BoolLemmas.{pick}
use Rattle.mq_world.proofs.OrderLemmas.{same_text-is, same_text-itself, text_flip}
use Rattle.mq_subscriptions.specs.declared.subscriptions.turn.Turn.{Turn}
use Rattle.mq_world.specs.declared.options.SubscriptionOptions.{SubscriptionOptions}

-- the first member of a group whose client passes
abbrev pub turn_in : (Text → Bool) → Text → Text × List Member → Option Subscription
turn_in passes f g = option_map (row (Some g.0) f) (find (λ m. passes m.0) g.1)

abbrev pub turn_for : (Text → Bool) → Text → Text → Text × List Member → List Subscription
turn_for passes f share g = if same_text g.0 share then turns_of (turn_in passes f g) else []

-- the members in turn of the groups of a share name
abbrev pub turns_left : (Text → Bool) → Text → Text → List (Text × List Member) → List Subscription
turns_left passes f share gs = flat_map (turn_for passes f share) gs

module _ (passes : Text → Bool) (f share : Text) where
  abbrev here : Group
  here = record { share = share; filter = f }

  abbrev may : Subscription → Bool
  may x = passes x.client

  find-members : (k : Text) (ms : List Member)
      → find may (map (row (Some k) f) ms) ≡ option_map (row (Some k) f) (find (λ m. passes m.0) ms)
  find-members k [] = refl
  find-members k (m ∷ ms) = pick (passes m.0) (λ t. rw t) (λ n. rw n (find-members k ms))

  -- of the members of one group all are in it, or none is
  alike : (k : Text) (b : Bool) → same_text k share ≡ b → (ms : List Member)
      → filter (is_in_group here) (map (row (Some k) f) ms) ≡ cond b (map (row (Some k) f) ms) []
  alike k true e [] = refl
  alike k false e [] = refl
  alike k true e (m ∷ ms) =
      rw (e, same_text-itself f) (ap (λ t. row (Some k) f m ∷ t) (alike k true e ms))
  alike k false e (m ∷ ms) = rw e (alike k false e ms)

  no_unshared : (ms : List Member) → filter (is_in_group here) (unshared_rows f ms) ≡ []
  no_unshared [] = refl
  no_unshared (m ∷ ms) = no_unshared ms

  abbrev Away : List (Text × List Member) → Type 0
  Away gs = AllByRecursion (λ (g : Text × List Member). same_text g.0 share ≡ false) gs

  no_members : (gs : List (Text × List Member)) → Away gs
      → filter (is_in_group here) (group_rows f gs) ≡ []
  no_members [] h = refl
  no_members (g ∷ gs) h =
      rw (filter-append (is_in_group here) (map (row (Some g.0) f) g.1) (group_rows f gs))
      (rw (alike g.0 false h.0 g.1) (no_members gs h.1))

  no_turns : (gs : List (Text × List Member)) → Away gs → turns_left passes f share gs ≡ []
  no_turns [] h = refl
  no_turns (g ∷ gs) h = rw h.0 (no_turns gs h.1)

  behind : (k : Text) → same_text k share ≡ true → (gs : List (Text × List Member))
      → AllByRecursion (λ y. text_cmp k y ≡ Less) (keys_of gs) → Away gs
  behind k t [] h = tt
  behind k t (g ∷ gs) h = (
    rw (← same_text-is k share t) (text_flip g.0 k ∙ sym (is_text-is k g.0) ∙ ap is_eq h.0),
    behind k t gs h.1,
  )

  -- keys are apart: the turns of a share name are the one of its group
  pub turns-group : (gs : List (Text × List Member)) → IsStrictlySortedBy text_cmp (keys_of gs)
      → turns_left passes f share gs
      ≡ turns_of (find may (filter (is_in_group here) (group_rows f gs)))
  unfolding IsStrictlySortedBy
  turns-group [] s = refl
  turns-group (g ∷ gs) s =
      let mine : List Subscription = map (row (Some g.0) f) g.1 in
      pick (same_text g.0 share) (λ t. (let away : Away gs = behind g.0 t gs s.0 in
      rw (t, no_turns gs away, filter-append (is_in_group here) mine (group_rows f gs))
      (rw (alike g.0 true t g.1, no_members gs away, append-nil mine)
      (append-nil (turns_of (turn_in passes f g)) ∙ ap turns_of (sym (find-members g.0 g.1))))))
      (λ n. rw (n, filter-append (is_in_group here) mine (group_rows f gs), alike g.0 false n g.1)
      (turns-group gs s.1))

  -- a subscription in its client's own name is in no group
  pub next-at : (ds : List Member) (gs : List (Text × List Member))
      → next_by passes (group_rows f gs) here
      ≡ next_by passes (unshared_rows f ds ++ group_rows f gs) here
  next-at ds gs =
      rw (filter-append (is_in_group here) (unshared_rows f ds) (group_rows f gs), no_unshared ds)

-- ## One more

-- with the turn of the next group added, the turns so far and those to come make the same list
pub turns-more : (passes : Text → Bool) (f share : Text)
    (old new : List Turn) (t : Turn) (g : Text × List Member) (gs : List (Text × List Member))
    → new ≡ old ++ t ∷ [] → rc_str_bytes t.share ≡ g.0 → turn_in passes f g ≡ Some (turn_of t)
    → turns_listed share new ++ turns_left passes f share gs ≡ turns_listed share old
    ++ turns_left passes f share (g ∷ gs)
turns-more passes f share old new t g gs e named is =
    let here : Turn → Bool = λ x. same_text (rc_str_bytes x.share) share in
    let own : filter here (t ∷ []) ≡ (if same_text g.0 share then t ∷ [] else []) =
    ap (λ (k : Text). if same_text k share then t ∷ [] else []) named in
    rw (e, is, filter-append here old (t ∷ []), own, map-append, append_assoc)
    (pick (same_text g.0 share) (λ u. rw u) (λ n. rw n))

-- equal clients, share names and filters make the same row, with the same options
pub same_turn : (client client' : Text) (share share' f f' : Text) (o : SubscriptionOptions)
    → client ≡ client' → share ≡ share' → f ≡ f'
    → row (Some share) f (client, o) ≡ row (Some share') f' (client', o)
same_turn client client' share share' f f' o e1 e2 e3 = rw (e1, e2, e3) refl
