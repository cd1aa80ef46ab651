-- The copies that begin to wait, put behind those that wait one client after the other.
use Rattle.std.proofs.Common.{◌≡◌, ℕ, ◌==◌, true, false, not, List, [], ◌∷◌, map, length, Option}
use Rattle.std.proofs.Common.{Some, None, refl, sym, ◌∙◌, ap, arith}
use Rattle.std.specs.declared.cmp.Ordering.TheVariants.{Less}
use Rattle.std.specs.Ordering.{is_eq}
use Rattle.std.specs.Option.{option_map, option_map_or}
use Rattle.std.specs.List.{filter_map, cons_option, AllByRecursion}
use Rattle.std.specs.List.Sorted.{IsStrictlySortedBy}
use Rattle.std.proofs.lemmas.Map.Text.{is_eq-slice_cmp}
use Rattle.std.proofs.lemmas.Slice.Eq.{bytes_eq-Decides}
use Rattle.mq_acl.specs.AccessLists.{AccessList}
use Rattle.mq_world.specs.Lists.{same_text}
use Rattle.mq_world.specs.World.{Session, Subscription, Waiting, Message, Copy, session_cmp}
use Rattle.mq_world.specs.Clock.{deadline_of}
use Rattle.mq_world.specs.Waiting.{has_place, with_waiting, waiting_copy, waiting_after}
use Rattle.mq_world.specs.Waiting.{begins_to_wait}
use Rattle.mq_sessions.specs.Queue.{QueueItem, queue_item, queue_copies, edit_session, queue_one}
use Rattle.mq_sessions.specs.Queue.{queue_all}
use Rattle.mq_router.specs.delivery.Copies.{begins}
use Rattle.mq_world.proofs.SameLemmas.{some_pass}
use Rattle.mq_world.proofs.OrderLemmas.{text_flip}

module _ (limit : ℕ) (access : Option AccessList) (subs : List Subscription) where
  -- only where there is a place does a copy begin to wait
  placed : (m : Message) (s : Session) (copy : Copy)
      → waiting_copy limit access subs m s ≡ Some copy → has_place limit s ≡ true
  placed m s copy h = grind arith

  apart_below : (s x : Session) → session_cmp s x ≡ Less → same_text s.id x.id ≡ false
  apart_below s x less = sym (is_eq-slice_cmp s.id x.id) ∙ ap is_eq less

  -- what begins to wait for later clients is not for this one
  begins_apart : (m : Message) (deadline : Option ℕ) (s : Session) (ss : List Session)
      → AllByRecursion (λ x. session_cmp s x ≡ Less) ss
      → AllByRecursion (λ b. same_text s.id b.0 ≡ false)
      (filter_map (begins limit access subs m deadline) ss)
  begins_apart m deadline s [] h = tt
  begins_apart m deadline s (x ∷ xs) h =
      grind (arith, begins_apart m deadline s xs h.1, apart_below)

  queued_apart : (bs : List QueueItem) (s : Session) (ss : List Session)
      → AllByRecursion (λ b. same_text s.id b.0 ≡ false) bs
      → queue_all limit bs (s ∷ ss) ≡ s ∷ queue_all limit bs ss
  queued_apart [] s ss h = refl
  queued_apart (b ∷ bs) s ss h = rw h.0 (queued_apart bs s (queue_one limit b ss) h.1)

  others_stay : (s : Session) (ws : List Waiting) (ss : List Session)
      → AllByRecursion (λ x. session_cmp s x ≡ Less) ss → queue_one limit (s.id, ws) ss ≡ ss
  others_stay s ws [] h = refl
  others_stay s ws (x ∷ xs) h = grind (arith, others_stay s ws xs h.1, text_flip, apart_below)

  pub queued-is : (now : ℕ) (m : Message) (sessions : List Session)
      → IsStrictlySortedBy session_cmp sessions
      → queue_all limit (filter_map (begins limit access subs m (deadline_of now m.expiry))
      sessions) sessions ≡ map (waiting_after limit access subs now m) sessions
  unfolding IsStrictlySortedBy
  queued-is now m [] sorted = refl
  queued-is now m (s ∷ ss) sorted =
      let deadline : Option ℕ = deadline_of now m.expiry in
      let bs : List QueueItem = filter_map (begins limit access subs m deadline) ss in
      let rest : queue_all limit bs ss ≡ map (waiting_after limit access subs now m) ss =
      queued-is now m ss sorted.1 in
      let P : Option Copy → Type 0 = λ o. waiting_copy limit access subs m s ≡ o
      → queue_all limit (cons_option (option_map (queue_item s.id deadline) o) bs) (s ∷ ss)
      ≡ option_map_or (λ copy. with_waiting s
      (record { copy = copy; deadline = deadline } ∷ [])) o s
      ∷ map (waiting_after limit access subs now m) ss in
      (elim (waiting_copy limit access subs m s) as P [
        | None ↦ λ e. queued_apart bs s ss (begins_apart m deadline s ss sorted.0)
            ∙ ap (λ l. s ∷ l) rest
        | Some copy ↦ λ e. (
            let ws : List Waiting = record { copy = copy; deadline = deadline } ∷ [] in
            let own : same_text s.id s.id ≡ true = (bytes_eq-Decides s.id s.id).1 refl in
            let place : has_place limit s ≡ true = placed m s copy e in
            let here : edit_session (queue_copies limit ws) s.id s ≡ with_waiting s ws =
            rw (own, place) refl in
            ap (λ l. queue_all limit bs (edit_session (queue_copies limit ws) s.id s ∷ l))
            (others_stay s ws ss sorted.0)
            ∙ ap (λ x. queue_all limit bs (x ∷ ss)) here
            ∙ queued_apart bs (with_waiting s ws) ss (begins_apart m deadline s ss sorted.0)
            ∙ ap (λ l. with_waiting s ws ∷ l) rest)
      ]) refl

  -- one begins to wait where there is one to join
  pub waits-is : (m : Message) (deadline : Option ℕ) (sessions : List Session)
      → not (length (filter_map (begins limit access subs m deadline) sessions) == 0)
      ≡ begins_to_wait limit access sessions subs m
  unfolding begins_to_wait
  waits-is m deadline [] = refl
  waits-is m deadline (s ∷ ss) = grind (arith, waits-is m deadline ss, some_pass)
