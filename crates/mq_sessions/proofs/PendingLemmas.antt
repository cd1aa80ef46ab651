-- Copies that begin to wait, by client id, beside a walk over the sessions.
use Rattle.std.proofs.Common.{◌≡◌, ℕ, Bool, true, false, cond, List, [], ◌∷◌, map, Option, Some}
use Rattle.std.proofs.Common.{None}
use Rattle.std.proofs.Common.{refl, sym, ◌∙◌, ap, subst, drop, length, suc, arith, ◌++◌, ◌-◌, ◌≤◌}
use Rattle.std.proofs.Common.{◌<◌, true≢false}
use Rattle.std.proofs.Common.{is_ge, get_or, take}
use Rattle.std.proofs.lemmas.List.{map-id, take_all}
use Rattle.std.specs.declared.cmp.Ordering.{Ordering}
use denote.Ref.{Bor}
use Rattle.std.specs.Cmp.Lexicographic.{nat_list_cmp_total}
use Rattle.std.specs.List.{filter, find, AllByRecursion}
use Rattle.std.specs.List.Sorted.{IsStrictlySortedBy}
use Rattle.std.specs.Map.{keys_of}
use Rattle.std.specs.Map.Calls.{RetainsPairs}
use Rattle.std.specs.Ordering.{is_eq, is_lt, ordering_reverse}
use Rattle.std.specs.Option.{IfSome, option_to_list}
use Rattle.std.specs.Rc.{rc_str_bytes}
use Rattle.std.specs.Slice.{IsItemAt}
use Rattle.std.specs.declared.cmp.Ordering.TheVariants.{Less, Equal, Greater}
use Rattle.std.proofs.lemmas.List.Kept.{IsStrictlySortedBy-filter}
use Rattle.std.proofs.lemmas.Map.Text.{is_eq-slice_cmp}
use Rattle.mq_world.specs.Keys.{Key, key_cmp}
use Rattle.mq_world.specs.Lists.{Text, same_text, text_cmp}
use Rattle.mq_world.specs.World.{Session}
use Rattle.mq_world.specs.Waiting.{has_place, with_waiting}
use Rattle.mq_world.proofs.OrderLemmas.{all_weaker, same_text-is, text_flip}
use Rattle.mq_sessions.specs.Ends.{AreIndexed, Entry, KeepIds}
use Rattle.mq_sessions.specs.Pending.{AreAscending, Joins, is_beyond, is_for, item_cmp, joined}
use Rattle.mq_sessions.specs.Queue.{QueueItem, edit_session, queue_all, queue_copies, queue_one}
use Rattle.mq_sessions.specs.Views.{queue_item_of, session_in, view_of}
use Rattle.mq_sessions.specs.declared.sessions.index.Index.{Index}
use Rattle.mq_sessions.specs.declared.sessions.queued.QueuedCopy.{QueuedCopy}
use Rattle.mq_sessions.specs.declared.sessions.session.Session as code
use Rattle.mq_sessions.proofs.EndLemmas.{indexed-queued}
use Rattle.mq_sessions.proofs.QueueLemmas.{queued-id}
use Rattle.mq_sessions.proofs.SessionLemmas.{sorted-is}
use Rattle.mq_sessions.proofs.WalkLemmas.{lower_differs}

-- one before the first of those that ascend is before all of them
pub led : (a b : QueueItem) (items : List QueueItem) → item_cmp a b ≡ Less
    → AreAscending (b ∷ items) → AreAscending (a ∷ b ∷ items)
unfolding IsStrictlySortedBy
led a b items less s = (
  (
    less,
    all_weaker (λ t. item_cmp b t ≡ Less) (λ t. item_cmp a t ≡ Less)
        (λ t k. nat_list_cmp_total.trans a.0 b.0 t.0 less k) items s.0,
  ),
  s,
)

less_from_ge : (r : Ordering) → is_ge r ≡ false → r ≡ Less
less_from_ge Less h = refl
less_from_ge Equal h = cc
less_from_ge Greater h = cc

-- of a list whose first one is before its second one the whole ascends, if the rest does
pub first_led : (xs : List QueuedCopy) (a b d e : QueuedCopy) → 2 ≤ length xs
    → a ≡ get_or xs 0 d → b ≡ get_or xs 1 e
    → is_ge (text_cmp (rc_str_bytes a.client) (rc_str_bytes b.client)) ≡ false
    → AreAscending (map queue_item_of (take (length xs - 1) (drop 1 xs)))
    → AreAscending (map queue_item_of xs)
first_led [] a b d e some first second less s = absurd (omega (arith, some))
first_led (x ∷ []) a b d e some first second less s = absurd (omega (arith, some))
first_led (x ∷ y ∷ ys) a b d e some first second less s =
    led (queue_item_of x) (queue_item_of y) (map queue_item_of ys)
    (ap (λ z. text_cmp (rc_str_bytes z.client) (rc_str_bytes y.client)) (sym first)
    ∙ ap (λ z. text_cmp (rc_str_bytes a.client) (rc_str_bytes z.client)) (sym second)
    ∙ less_from_ge _ less)
    (subst (λ l. AreAscending (map queue_item_of l)) (take_all _ (y ∷ ys) (omega arith)) s)

-- none or one ascends
pub few_ascend : (xs : List QueuedCopy) → length xs < 2 → AreAscending (map queue_item_of xs)
unfolding IsStrictlySortedBy
few_ascend [] few = tt
few_ascend (x ∷ []) few = (tt, tt)
few_ascend (x ∷ y ∷ ys) few = absurd (omega (arith, few))

pub ascending_rest : (b : QueueItem) (items : List QueueItem) → AreAscending (b ∷ items)
    → AreAscending items
unfolding IsStrictlySortedBy
ascending_rest b items s = s.1

-- ## A client is passed

-- the first one leads the others
pub at_front : {X : Type 0} (xs : List X) (first : Bor X) → IsItemAt xs 0 (Some first)
    → xs ≡ first.now ∷ drop 1 xs
at_front [] first h = cc
at_front (x ∷ xs) first h = ap (λ y. y ∷ xs) (sym h.1)

-- what is taken out before the rest is the first one
pub popped_front : {X : Type 0} {xs rest : List X} {x : X} {r : Option X} → xs ≡ x ∷ rest
    → xs ≡ option_to_list r ++ rest → r ≡ Some x
popped_front {X} {xs} {rest} {x} {r} is taken = by r (sym is ∙ taken)
  where
    by : (o : Option X) → x ∷ rest ≡ option_to_list o ++ rest → o ≡ Some x
    by None e = absurd (longer (ap length e))
      where
        longer : suc (length rest) ≡ length rest → ⊥
        longer e = omega (arith, e)
    by (Some y) e = cc

-- where there is no first one there is none
pub no_front : {X : Type 0} (xs : List X) → IsItemAt xs 0 None → xs ≡ []
no_front [] h = refl
no_front (x ∷ xs) h = absurd (omega (arith, h.3))

all_stay : (p : QueueItem → Bool) (items : List QueueItem)
    → AllByRecursion (λ b. p b ≡ true) items → filter p items ≡ items
all_stay p [] h = refl
all_stay p (b ∷ items) h = rw h.0 (ap (λ l. b ∷ l) (all_stay p items h.1))

none_found : (p : QueueItem → Bool) (items : List QueueItem)
    → AllByRecursion (λ b. p b ≡ false) items → find p items ≡ None
none_found p [] h = refl
none_found p (b ∷ items) h = rw h.0 (none_found p items h.1)

-- what is found for a client among these, and what is left of them behind it
abbrev pub Passes : Text → List QueueItem → Option QueueItem → List QueueItem → Type 0
Passes id items found left = (find (is_for id) items ≡ found) × (filter (is_beyond id) items ≡ left)

pub passed_before : (id : Text) (b : QueueItem) (items : List QueueItem) → text_cmp b.0 id ≡ Less
    → Passes id (b ∷ items) (find (is_for id) items) (filter (is_beyond id) items)
passed_before id b items h =
    let other : is_for id b ≡ false = text_flip id b.0 ∙ lower_differs b.0 id h in
    let here : is_beyond id b ≡ false =
    ap is_lt (nat_list_cmp_total.antisymm id b.0 ∙ ap ordering_reverse h) in
    (rw other refl, rw here refl)

pub passed_here : (id : Text) (b : QueueItem) (items : List QueueItem) → text_cmp b.0 id ≡ Equal
    → AreAscending (b ∷ items) → Passes id (b ∷ items) (Some b) items
unfolding IsStrictlySortedBy
passed_here id b items h s =
    let same : same_text b.0 id ≡ true = sym (is_eq-slice_cmp b.0 id) ∙ ap is_eq h in
    let text : b.0 ≡ id = same_text-is b.0 id same in
    let own : is_for id b ≡ true = text_flip id b.0 ∙ same in
    let here : is_beyond id b ≡ false =
    ap is_lt (nat_list_cmp_total.antisymm id b.0 ∙ ap ordering_reverse h) in (
      rw own refl,
      rw here (all_stay (is_beyond id) items
          (all_weaker (λ t. item_cmp b t ≡ Less) (λ t. is_beyond id t ≡ true)
          (λ t k. ap (λ u. is_lt (text_cmp u t.0)) (sym text) ∙ ap is_lt k) items s.0)),
    )

pub passed_beyond : (id : Text) (b : QueueItem) (items : List QueueItem)
    → text_cmp b.0 id ≡ Greater → AreAscending (b ∷ items)
    → Passes id (b ∷ items) None (b ∷ items)
unfolding IsStrictlySortedBy
passed_beyond id b items h s =
    let less : text_cmp id b.0 ≡ Less =
    nat_list_cmp_total.antisymm id b.0 ∙ ap ordering_reverse h in
    let all : AllByRecursion (λ t. text_cmp id t.0 ≡ Less) (b ∷ items) = (
      less,
      all_weaker (λ t. item_cmp b t ≡ Less) (λ t. text_cmp id t.0 ≡ Less)
          (λ t k. nat_list_cmp_total.trans id b.0 t.0 less k) items s.0,
    ) in (
      none_found (is_for id) (b ∷ items) (all_weaker (λ t. text_cmp id t.0 ≡ Less)
          (λ t. is_for id t ≡ false) (λ t k. lower_differs id t.0 k) (b ∷ items) all),
      all_stay (is_beyond id) (b ∷ items) (all_weaker (λ t. text_cmp id t.0 ≡ Less)
          (λ t. is_beyond id t ≡ true) (λ t k. ap is_lt k) (b ∷ items) all),
    )

-- ## What joins a session

-- the session as all of them change it, one after the other
abbrev edited : ℕ → List QueueItem → Session → Session
edited limit [] s = s
edited limit (b ∷ items) s = edited limit items (edit_session (queue_copies limit b.1) b.0 s)

map_each : (f g h : Session → Session) → ((s : Session) → f (g s) ≡ h s) → (ss : List Session)
    → map f (map g ss) ≡ map h ss
map_each f g h same [] = refl
map_each f g h same (s ∷ ss) = rw (same s, map_each f g h same ss) refl

queued_each : (limit : ℕ) (items : List QueueItem) (ss : List Session)
    → queue_all limit items ss ≡ map (edited limit items) ss
queued_each limit [] ss = sym (map-id ss)
queued_each limit (b ∷ items) ss =
    queued_each limit items (queue_one limit b ss)
    ∙ map_each (edited limit items) (edit_session (queue_copies limit b.1) b.0)
    (edited limit (b ∷ items)) (λ s. refl) ss

same_id : (limit : ℕ) (b : QueueItem) (s : Session) → (queue_copies limit b.1 s).id ≡ s.id
same_id limit b s =
    elim (has_place limit s) as (λ p. (cond p (with_waiting s b.1) s).id ≡ s.id)
    [ true ↦ refl | false ↦ refl ]

-- of copies by client id, those for the client of a session alone join it
edited_is : (limit : ℕ) (items : List QueueItem) (s : Session) → AreAscending items
    → edited limit items s ≡ joined limit (find (is_for s.id) items) s
unfolding IsStrictlySortedBy
edited_is limit [] s asc = refl
edited_is limit (b ∷ items) s asc =
    by (is_for s.id b) refl (λ t. edited_is limit items t asc.1)
  where
    by : (p : Bool) → is_for s.id b ≡ p
        → ((t : Session) → edited limit items t ≡ joined limit (find (is_for t.id) items) t)
        → edited limit items (cond p (queue_copies limit b.1 s) s)
        ≡ joined limit (cond p (Some b) (find (is_for s.id) items)) s
    by true own later =
        let t : Session = queue_copies limit b.1 s in
        let id : t.id ≡ b.0 = same_id limit b s ∙ same_text-is s.id b.0 own in
        later t
        ∙ ap (λ o. joined limit o t) (none_found (is_for t.id) items
        (all_weaker (λ x. item_cmp b x ≡ Less) (λ x. is_for t.id x ≡ false)
        (λ x k. ap (λ u. same_text u x.0) id ∙ lower_differs b.0 x.0 k) items asc.0))
    by false other later = later s

joined_id : (limit : ℕ) (id : Text) (o : Option QueueItem) (s : Session)
    → ◌≡◌ {A = Session} (record (joined limit o s) { id = id })
    (joined limit o (record s { id = id }))
joined_id limit id None s = refl
joined_id limit id (Some b) s = queued-id limit id b.1 s

find_left : (p q : QueueItem → Bool) → ((b : QueueItem) → p b ≡ true → q b ≡ true)
    → (items : List QueueItem) → find p (filter q items) ≡ find p items
find_left p q h [] = refl
find_left p q h (b ∷ items) = by (p b) (q b) refl refl (find_left p q h items)
  where
    by : (x y : Bool) → p b ≡ x → q b ≡ y → find p (filter q items) ≡ find p items
        → find p (cond y (b ∷ filter q items) (filter q items)) ≡ cond x (Some b) (find p items)
    by true true e f later = rw e refl
    by false true e f later = rw e later
    by false false e f later = later
    by true false e f later = absurd (true≢false (sym (h b e) ∙ f))

-- sessions behind a client get the same of what is left behind it
left_same : (limit : ℕ) (id : Text) (items : List QueueItem) → AreAscending items
    → (ss : List Session) → AllByRecursion (λ s. text_cmp id s.id ≡ Less) ss
    → map (edited limit (filter (is_beyond id) items)) ss ≡ map (edited limit items) ss
left_same limit id items asc [] h = refl
left_same limit id items asc (s ∷ ss) h =
    let here : edited limit (filter (is_beyond id) items) s ≡ edited limit items s =
    edited_is limit (filter (is_beyond id) items) s
    (IsStrictlySortedBy-filter item_cmp (is_beyond id) items asc)
    ∙ ap (λ o. joined limit o s) (find_left (is_for s.id) (is_beyond id)
    (λ b own. ap (λ u. is_lt (text_cmp id u)) (sym (same_text-is s.id b.0 own)) ∙ ap is_lt h.0)
    items)
    ∙ sym (edited_is limit items s asc) in
    rw (here, left_same limit id items asc ss h.1) refl

-- ## The walk

abbrev Calls : Type 0 → Type 1
Calls F = F → Key → code.Session → Bool → code.Session → F → Type 0

-- each call lets what begins to wait for its client join, within the limit, of what is left
abbrev pub JoinInTurn : {F : Type 0} → Calls F → (F → ℕ) → (F → List QueueItem) → Type 0
JoinInTurn {F} T limit left = (f : F) (k : Key) (v : code.Session) (b : Bool) (w : code.Session)
    (f' : F)
    → T f k v b w f'
    → Joins (limit f) (left f) (rc_str_bytes k) b v w (left f') × (limit f' ≡ limit f)

module _ {F : Type 0} (T : Calls F) (limit : F → ℕ) (left : F → List QueueItem)
    (joins : JoinInTurn T limit left) where
  walked : (f : F) (es kept : List Entry) → RetainsPairs T f es kept
      → IsStrictlySortedBy key_cmp (keys_of es) → AreAscending (left f)
      → map session_in kept ≡ map (edited (limit f) (left f)) (map session_in es)
  unfolding IsStrictlySortedBy
  walked f [] kept r sorted asc = rw r refl
  walked f (e ∷ es) kept r sorted asc =
      let call = joins f e.0 e.1 r.0 r.1 r.2 r.4 in
      let j = call.0 in
      let id : Text = rc_str_bytes e.0 in
      let here : session_in (e.0, r.1) ≡ edited (limit f) (left f) (session_in e) =
      ap (λ (s : Session). record s { id = id }) j.2
      ∙ joined_id (limit f) id (find (is_for id) (left f)) (view_of e.1)
      ∙ sym (edited_is (limit f) (left f) (session_in e) asc) in
      let asc_left : AreAscending (left r.2) = subst AreAscending (sym j.3)
      (IsStrictlySortedBy-filter item_cmp (is_beyond id) (left f) asc) in
      let behind : map session_in r.3 ≡ map (edited (limit f) (left f)) (map session_in es) =
      walked r.2 es r.3 r.5 sorted.1 asc_left
      ∙ ap (λ n. map (edited n (left r.2)) (map session_in es)) call.1
      ∙ ap (λ l. map (edited (limit f) l) (map session_in es)) j.3
      ∙ left_same (limit f) id (left f) asc (map session_in es) (sorted-is (e ∷ es) sorted).0 in
      rw (r.6, j.0, here, behind) refl

  -- a walk leaves the sessions as if the copies had begun to wait one after the other
  pub walked_all : (f : F) (es kept : List Entry) → RetainsPairs T f es kept
      → IsStrictlySortedBy key_cmp (keys_of es) → AreAscending (left f)
      → map session_in kept ≡ queue_all (limit f) (left f) (map session_in es)
  walked_all f es kept r sorted asc =
      walked f es kept r sorted asc ∙ sym (queued_each (limit f) (left f) (map session_in es))

  -- and each session keeps the id that it kept
  pub walked_ids : (f : F) (es kept : List Entry) → RetainsPairs T f es kept → KeepIds es
      → KeepIds kept
  walked_ids f [] kept r keep = rw r tt
  walked_ids f (e ∷ es) kept r keep =
      let j = (joins f e.0 e.1 r.0 r.1 r.2 r.4).0 in
      rw (r.6, j.0) (
        subst (λ o. IfSome o (λ id. id ≡ rc_str_bytes e.0)) (sym j.1) keep.0,
        walked_ids r.2 es r.3 r.5 keep.1,
      )

-- copies that begin to wait change nothing that the index of ends keeps
pub indexed_all : (limit : ℕ) (items : List QueueItem) (index : Index) (ss : List Session)
    → AreIndexed index ss → AreIndexed index (queue_all limit items ss)
indexed_all limit [] index ss h = h
indexed_all limit (b ∷ items) index ss h =
    indexed_all limit items index (queue_one limit b ss) (indexed-queued limit b index ss h)
