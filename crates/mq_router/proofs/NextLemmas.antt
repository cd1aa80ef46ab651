-- The next world is one: each list has one row for a key, in the order of the keys, and each stamp was given out.
use Rattle.std.proofs.Common.{◌≡◌, ◌<◌, ℕ, ◌+◌, Bool, true, false, not, List, [], ◌∷◌, Option, map}
use Rattle.std.proofs.Common.{if◌then◌else◌, subst, arith}
use Rattle.std.specs.Option.{option_map_or}
use Rattle.std.specs.List.{filter, find, AllByRecursion}
use Rattle.std.specs.List.Sorted.{IsStrictlySortedBy}
use Rattle.std.proofs.lemmas.List.Kept.{IsStrictlySortedBy-filter}
use Rattle.mq_topic.specs.Texts.{share_of, filter_part}
use Rattle.mq_acl.specs.AccessLists.{AccessList}
use Rattle.mq_world.specs.Lists.{Text, same_text, with_row}
use Rattle.mq_world.specs.World.{World, IsWorld, Session, Subscription, Row, Retained, Message}
use Rattle.mq_world.specs.World.{Request, Connect, Disconnect, Subscribe, Unsubscribe, Publish}
use Rattle.mq_world.specs.World.{SetAcl, Advance, Stat, subscription_of, session_cmp, row_cmp}
use Rattle.mq_world.specs.World.{retained_cmp, has_id, has_key, same_key, is_in_group, rows_in}
use Rattle.mq_world.specs.World.{subscriptions_of}
use Rattle.mq_world.specs.Clock.{is_over}
use Rattle.mq_world.specs.Sessions.{new_session, outlives, resumes, left_by, has_ended}
use Rattle.mq_world.specs.Waiting.{waiting_after}
use Rattle.mq_world.specs.Groups.{served_by}
use Rattle.mq_world.specs.Retained.{retained_after, is_stored, retained_of, has_topic}
use Rattle.mq_world.specs.After.{after, kept_stamp, without_client}
use Rattle.mq_router.specs.router.Effects.{lasts}
use Rattle.mq_world.proofs.OrderLemmas.{session_total, row_total, retained_total, sorted-with_row}
use Rattle.mq_world.proofs.OrderLemmas.{all-with_row, all_weaker, all_filtered}
use Rattle.mq_world.proofs.SameLemmas.{filter-swap}
use Rattle.mq_subscriptions.proofs.JoinTurn.{AreApart, apart-joined, apart-filter, apart-from}
use Rattle.mq_subscriptions.proofs.JoinTurn.{apart-to}
use Rattle.mq_router.proofs.ServeTurn.{served-apart, restamped-sorted, restamped-below}
use Rattle.mq_sessions.proofs.SessionLemmas.{sorted-map}

-- the world after a disconnect, by whether the session stays
abbrev pub gone : World → Text → Bool → World
gone w id stays =
    record (if stays
    then record w { sessions = map (left_by w.moment id) w.sessions }
    else record w {
      sessions = filter (λ session. not (has_id id session)) w.sessions;
      rows =
          without_client id w.rows;
    }) { accepted = w.accepted + 1 }

-- no edit of sessions changes an id
left-id : (now : ℕ) (id : Text) (s : Session) → (left_by now id s).id ≡ s.id
left-id now id s = grind arith

waiting-id : (limit : ℕ) (access : Option AccessList) (subs : List Subscription) (now : ℕ)
    (m : Message) (s : Session) → (waiting_after limit access subs now m s).id ≡ s.id
waiting-id limit access subs now m s = grind arith

stamp_below : (n : ℕ) (rows : List Row) → AllByRecursion (λ row. row.stamp < n) rows
    → AllByRecursion (λ row. row.stamp < n + 1) rows
stamp_below n rows h = all_weaker (λ (row : Row). row.stamp < n) (λ row. row.stamp < n + 1)
    (λ row e. omega arith) rows h

found_below : (p : Row → Bool) (n : ℕ) (rows : List Row)
    → AllByRecursion (λ row. row.stamp < n) rows
    → option_map_or (λ row. row.stamp) (find p rows) n < n + 1
found_below p n [] h = omega arith
found_below p n (row ∷ rows) h = grind (arith, found_below p n rows h.1)

-- rows of which some are kept
fewer : (q : Row → Bool) (w : World) → IsWorld w → (sessions : List Session)
    → IsStrictlySortedBy session_cmp sessions
    → IsWorld (record w { sessions = sessions; rows = filter q w.rows; accepted = w.accepted + 1 })
fewer q w h sessions s = record {
  sessions = s;
  rows = IsStrictlySortedBy-filter row_cmp q w.rows h.rows;
  retained = h.retained;
  stamps = all_filtered (λ row. row.stamp < w.accepted + 1) q w.rows
      (stamp_below w.accepted w.rows h.stamps);
  apart = λ g. apart-to (rows_in g (filter q w.rows))
      (subst (λ (l : List Row). AreApart l)
      (filter-swap q (λ r. is_in_group g r.subscription) w.rows)
      (apart-filter q (rows_in g w.rows) (apart-from (rows_in g w.rows) (h.apart g))));
}

sorted-after : (now : ℕ) (retained : List Retained) (m : Message)
    → IsStrictlySortedBy retained_cmp retained
    → IsStrictlySortedBy retained_cmp (retained_after now retained m)
unfolding retained_after
sorted-after now retained m s =
    let new : Retained = retained_of now m in
    let rest : List Retained = filter (λ kept. not (has_topic m.topic kept)) retained in
    elim (not m.retain) as (λ r. IsStrictlySortedBy retained_cmp
    (if r then retained else if is_stored m then
    with_row retained_cmp new retained else rest)) [
      | true ↦ s
      | false ↦ elim (is_stored m)
          as (λ k. IsStrictlySortedBy retained_cmp
          (if k then with_row retained_cmp new retained else rest)) [
            | true ↦ sorted-with_row retained_cmp retained_total new retained s
            | false ↦ IsStrictlySortedBy-filter retained_cmp (λ kept. not (has_topic m.topic kept))
                retained s
          ]
    ]

-- what a request makes of a world is a world too
pub after-is_world : (w : World) → IsWorld w → (request : Request) → IsWorld (after w request)
unfolding after
after-is_world w h (Connect id user clean interval) =
    let sessions : List Session = with_row session_cmp (new_session id user interval) w.sessions in
    let sorted : IsStrictlySortedBy session_cmp sessions =
    sorted-with_row session_cmp session_total (new_session id user interval) w.sessions
    h.sessions in
    let stamps = stamp_below w.accepted w.rows h.stamps in
    elim (resumes w.sessions id clean)
    as (λ b. IsWorld
    (record w {
      sessions = sessions;
      rows = if b then w.rows else without_client id w.rows;
      accepted = w.accepted + 1;
    })) [
      | true ↦ grind (arith, sorted, stamps)
      | false ↦ fewer (λ row. not (same_text row.subscription.client id)) w h _ sorted
    ]
after-is_world w h (Disconnect id) =
    let sorted = sorted-map (left_by w.moment id) (left-id w.moment id) w.sessions h.sessions in
    let stamps = stamp_below w.accepted w.rows h.stamps in
    elim (outlives w.sessions id) as (λ b. IsWorld (gone w id b)) [
      | true ↦ grind (arith, sorted, stamps)
      | false ↦ fewer (λ row. not (same_text row.subscription.client id)) w h _
          (IsStrictlySortedBy-filter session_cmp (λ session. not (has_id id session)) w.sessions
          h.sessions)
    ]
after-is_world w h (Subscribe id text options) =
    let s : Subscription = subscription_of id text options in
    record {
      sessions = h.sessions;
      rows = sorted-with_row row_cmp row_total (record { subscription = s; stamp = kept_stamp w s })
          w.rows h.rows;
      retained = h.retained;
      stamps = all-with_row row_cmp row_total (λ row. row.stamp < w.accepted + 1)
          (record { subscription = s; stamp = kept_stamp w s }) w.rows
          (found_below (λ row. same_key s row.subscription) w.accepted w.rows h.stamps)
          (stamp_below w.accepted w.rows h.stamps);
      apart = λ g. apart-to _ (apart-joined s w h g);
    }
after-is_world w h (Unsubscribe id text) =
    fewer (λ row. not (has_key id (share_of text) (filter_part text) row.subscription)) w h _
    h.sessions
after-is_world w h (Publish m) = record {
  sessions = sorted-map (waiting_after w.limits.queued w.access (subscriptions_of w) w.moment m)
      (waiting-id w.limits.queued w.access (subscriptions_of w) w.moment m) w.sessions h.sessions;
  rows = restamped-sorted w.accepted (served_by w m) w.rows h.rows;
  retained = sorted-after w.moment w.retained m h.retained;
  stamps = restamped-below w.accepted (served_by w m) w.rows h.stamps;
  apart = served-apart w h m;
}
after-is_world w h (SetAcl text) = grind (arith, stamp_below)
after-is_world w h (Advance seconds) =
    let now : ℕ = w.moment + seconds in
    let rest = fewer (λ row. lasts now w.sessions row.subscription) w h _
    (IsStrictlySortedBy-filter session_cmp (λ session. not (has_ended now session)) w.sessions
    h.sessions) in
    let kept = IsStrictlySortedBy-filter retained_cmp (λ kept. not (is_over now kept.deadline))
    w.retained h.retained in
    grind (arith, rest, kept)
after-is_world w h Stat = grind (arith, stamp_below)
