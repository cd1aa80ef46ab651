-- The index of the ends of sessions.
use Rattle.std.proofs.Common.{◌≡◌, ℕ, ◌+◌, ◌*◌, ◌==◌, nat_le, Bool, true, false, true≢false}
use Rattle.std.proofs.Common.{cond, ◌||◌, ◌&&◌, not, List, [], ◌∷◌, length, Option, Some, None}
use Rattle.std.proofs.Common.{refl, sym, ◌∙◌, ap, subst, arith}
use Rattle.std.proofs.Common.{if◌then◌else◌}
use Rattle.std.specs.Option.{option_eq, option_map_or, IfSome}
use Rattle.std.specs.List.{filter, list_any, AllByRecursion}
use Rattle.std.specs.List.Sorted.{IsStrictlySortedBy}
use Rattle.std.specs.Map.{lookup, keys_of}
use borrow.Author.Tests.{eqb-true}
use Rattle.std.proofs.lemmas.Bool.Decides.{nat_tests}
use Rattle.std.proofs.lemmas.Bool.{and_parts, and_right}
use Rattle.std.proofs.lemmas.List.{length-map}
use Rattle.std.proofs.Math.Bool.{or-true, or-false, and-true}
use Rattle.mq_sessions.specs.Dues.{Due, first_of, same_due, is_in, AreWith, AreRest}
use Rattle.mq_world.specs.Keys.{key_cmp}
use Rattle.mq_world.specs.World.{Session, Connected, Away, has_id, session_cmp}
use Rattle.mq_world.specs.Lists.{Text, same_text, with_row}
use Rattle.mq_world.specs.Clock.{is_over}
use Rattle.mq_world.specs.Sessions.{has_ended}
use Rattle.mq_world.specs.Waiting.{has_place, with_waiting}
use Rattle.mq_world.proofs.BoolLemmas.{pick}
use Rattle.mq_world.proofs.ListLemmas.{none-any, none_again}
use Rattle.mq_world.proofs.OrderLemmas.{all_weaker, all_filtered, all-with_row, session_total}
use Rattle.mq_world.proofs.OrderLemmas.{same_text-itself}
use Rattle.mq_sessions.specs.Queue.{QueueItem, queue_copies, edit_session, queue_one}
use Rattle.mq_sessions.specs.Ends.{end_of, has_end, is_ending, ending, IsListed, AreListed}
use Rattle.mq_sessions.specs.Ends.{AreIndexed, HasRoom}
use Rattle.mq_sessions.specs.Ends.{Entry, views_of}
use Rattle.mq_sessions.specs.Views.{session_in, view_of}
use Rattle.mq_sessions.specs.declared.sessions.index.Index.{Index}
use Rattle.mq_sessions.specs.declared.sessions.session.Session as code
use Rattle.mq_world.proofs.TextKeys.{apart, finds, finds-is}
use Rattle.mq_sessions.proofs.ReachedLemmas.{all_mapped}

-- ## Tests

-- one of two tests passes, and the first does not
pub or_right : (a b : Bool) → a ≡ false → (a || b) ≡ true → b ≡ true
or_right a b fails h = sym (ap (λ c. c || b) fails) ∙ h

all_both : {X : Type 0} (P Q : X → Type 0) (xs : List X) → AllByRecursion P xs
    → AllByRecursion Q xs → AllByRecursion (λ x. P x × Q x) xs
all_both P Q [] h k = tt
all_both P Q (x ∷ xs) h k = ((h.0, k.0), all_both P Q xs h.1 k.1)

-- ## Whose end it is

-- an end of one client is not that of another client's session
pub ends-other : (due : Due) (s : Session) → has_id due.1 s ≡ false → has_end due s ≡ false
ends-other due s h =
    elim (end_of s) as (λ o. option_map_or (λ end. same_due (end, s.id) due) o false ≡ false) [
      | None ↦ refl
      | Some end ↦ and_right (end == due.0) (has_id due.1 s) h
    ]

ends-own : (due : Due) (s : Session) → has_id due.1 s ≡ true
    → has_end due s ≡ option_map_or (λ end. end == due.0) (end_of s) false
ends-own due s h =
    elim (end_of s) as (λ o. option_map_or (λ end. same_due (end, s.id) due) o false
    ≡ option_map_or (λ end. end == due.0) o false) [
      | None ↦ refl
      | Some end ↦ ap (λ b. (end == due.0) && b) h ∙ and-true (end == due.0)
    ]

-- a session that ends as the index has it is of the client that the index names
pub ends-id : (due : Due) (s : Session) → has_end due s ≡ true → has_id due.1 s ≡ true
ends-id due s h = pick (has_id due.1 s) (λ t. t)
    (λ f. absurd (true≢false (sym h ∙ ends-other due s f)))

-- a session whose end in the index has come has ended
pub ends-moment : (moment : ℕ) (due : Due) (s : Session) → nat_le due.0 moment ≡ true
    → has_end due s ≡ true → has_ended moment s ≡ true
ends-moment moment due s h =
    elim s.presence as (λ p. option_map_or (λ end. same_due (end, s.id) due)
    (elim p [ Connected ↦ None | Away end ↦ end ]) false ≡ true
    → elim p [ Connected ↦ false | Away end ↦ is_over moment end ] ≡ true) [
      | Connected ↦ λ k. absurd (true≢false (sym k))
      | Away end ↦ elim end as (λ o. option_map_or (λ end. same_due (end, s.id) due) o false
          ≡ true → is_over moment o ≡ true) [
            | None ↦ λ k. absurd (true≢false (sym k))
            | Some e ↦ λ k. ap (λ n. nat_le n moment)
                (eqb-true e due.0 (and_parts (e == due.0) _ k).0) ∙ h
          ]
    ]

-- the two ways to test whether an end, if there is one, is this one agree
pub same-end : (o : Option ℕ) (end : ℕ)
    → option_eq (λ a b. a == b) o (Some end) ≡ option_map_or (λ e. e == end) o false
same-end None end = refl
same-end (Some e) end = refl

none-found : (end : ℕ) (bs : Text) (es : List Entry)
    → AllByRecursion (λ k. finds bs k ≡ false) (keys_of es)
    → list_any (has_end (end, bs)) (views_of es) ≡ false
none-found end bs [] h = refl
none-found end bs (e ∷ es) h =
    ap (λ b. b || list_any (has_end (end, bs)) (views_of es))
    (ends-other (end, bs) (session_in e) (sym (finds-is bs e.0) ∙ h.0))
    ∙ none-found end bs es h.1

abbrev pub ends_then : ℕ → code.Session → Bool
ends_then end u = option_map_or (λ e. e == end) (end_of (view_of u)) false

-- a look-up shows whether a session ends so
pub any-found : (end : ℕ) (bs : Text) (es : List Entry)
    → IsStrictlySortedBy key_cmp (keys_of es)
    → list_any (has_end (end, bs)) (views_of es)
    ≡ option_map_or (ends_then end) (lookup (finds bs) es) false
unfolding IsStrictlySortedBy
any-found end bs [] s = refl
any-found end bs (e ∷ es) s =
    let any : Bool = list_any (has_end (end, bs)) (views_of es) in
    let P : Bool → Type 0 = λ b. finds bs e.0 ≡ b → (has_end (end, bs) (session_in e) || any)
    ≡ option_map_or (ends_then end) (cond b (Some e.1) (lookup (finds bs) es)) false in
    (elim (finds bs e.0) as P [
      | true ↦ λ h. (
          ap (λ b. b || any)
          (ends-own (end, bs) (session_in e) (sym (finds-is bs e.0) ∙ h))
          ∙ ap (λ b. ends_then end e.1 || b)
          (none-found end bs es (none_again key_cmp (finds bs) (apart bs) e.0 h es s.0))
          ∙ or-false (ends_then end e.1))
      | false ↦ λ h. (
          ap (λ b. b || any)
          (ends-other (end, bs) (session_in e) (sym (finds-is bs e.0) ∙ h))
          ∙ any-found end bs es s.1)
    ]) refl

-- ## What is listed

listed-step : (dues more : List Due) → ((d : Due) → is_in d dues ≡ true → is_in d more ≡ true)
    → (s : Session) → IsListed dues s → IsListed more s
listed-step dues more h s = elim (end_of s)
    as (λ o. IfSome o (λ end. is_in (end, s.id) dues ≡ true)
    → IfSome o (λ end. is_in (end, s.id) more ≡ true)) [
      | None ↦ λ k. k
      | Some end ↦ λ k. h (end, s.id) k
    ]

-- sessions whose ends are listed stay so in an index with more ends
pub listed-more : (dues more : List Due) → ((d : Due) → is_in d dues ≡ true → is_in d more ≡ true)
    → (ss : List Session) → AreListed dues ss → AreListed more ss
listed-more dues more h ss listed =
    all_weaker (IsListed dues) (IsListed more) (listed-step dues more h) ss listed

-- an end that was in the index is in it still after another joins
pub with-old : (due : Due) (dues more : List Due) → AreWith due dues more
    → (d : Due) → is_in d dues ≡ true → is_in d more ≡ true
with-old due dues more h d k =
    h.tests (same_due d) ∙ ap (λ b. same_due d due || b) k ∙ or-true (same_due d due)

-- an end that joins the index is in it
pub with-new : (due : Due) (dues more : List Due) → AreWith due dues more
    → is_in due more ≡ true
with-new due dues more h =
    h.tests (same_due due) ∙ ap (λ b. b || is_in due dues) itself
  where
    number : (due.0 == due.0) ≡ true
    number = grind (arith, nat_tests)

    itself : same_due due due ≡ true
    itself = ap (λ b. b && same_text due.1 due.1) number ∙ same_text-itself due.1

some_due : (x y : Due) → ◌≡◌ {A = Option Due} (Some x) (Some y) → x ≡ y
some_due x y h = cc

-- an end that is no session's is taken out
pub listed-without : (d : Due) (dues rest : List Due) (ss : List Session) → AreWith d rest dues
    → list_any (has_end d) ss ≡ false → AreListed dues ss → AreListed rest ss
listed-without d dues rest ss left none listed =
    all_weaker (λ s. (has_end d s ≡ false) × IsListed dues s) (IsListed rest) step ss
    (all_both (λ s. has_end d s ≡ false) (IsListed dues) ss (none-any (has_end d) ss none) listed)
  where
    step : (s : Session) → (has_end d s ≡ false) × IsListed dues s → IsListed rest s
    step s h = (elim (end_of s)
        as (λ o. option_map_or (λ end. same_due (end, s.id) d) o false ≡ false
        → IfSome o (λ end. is_in (end, s.id) dues ≡ true)
        → IfSome o (λ end. is_in (end, s.id) rest ≡ true)) [
          | None ↦ λ fails k. k
          | Some end ↦ λ fails k. or_right (same_due (end, s.id) d) (is_in (end, s.id) rest) fails
              (sym (left.tests (same_due (end, s.id))) ∙ k)
        ]) h.0 h.1

-- a first end that is no session's is taken out
pub listed-rest : (f : Due) (dues rest : List Due) (ss : List Session) → Some f ≡ first_of dues
    → AreRest dues rest → list_any (has_end f) ss ≡ false → AreListed dues ss → AreListed rest ss
listed-rest f [] rest ss first left none listed = cc
listed-rest f (d ∷ ds) rest ss first left none listed =
    listed-without d (d ∷ ds) rest ss left
    (subst (λ x. list_any (has_end x) ss ≡ false) (some_due f d first) none) listed

-- an index without its first end is shorter by one
pub shorter : (f : Due) (dues rest : List Due) → Some f ≡ first_of dues → AreRest dues rest
    → length rest + 1 ≡ length dues
shorter f [] rest first left = cc
shorter f (d ∷ ds) rest first left = sym left.count

-- its client's sessions go with it
pub listed-taken : (f : Due) (dues rest : List Due) (ss : List Session) → Some f ≡ first_of dues
    → AreRest dues rest → AreListed dues ss
    → AreListed rest (filter (λ s. not (has_id f.1 s)) ss)
listed-taken f dues rest ss first left listed =
    listed-rest f dues rest (filter (λ s. not (has_id f.1 s)) ss) first left (none ss)
    (all_filtered (IsListed dues) (λ s. not (has_id f.1 s)) ss listed)
  where
    none : (xs : List Session)
        → list_any (has_end f) (filter (λ s. not (has_id f.1 s)) xs) ≡ false
    none [] = refl
    none (x ∷ xs) =
        let others : List Session = filter (λ s. not (has_id f.1 s)) xs in
        let P : Bool → Type 0 = λ b. has_id f.1 x ≡ b
        → list_any (has_end f) (cond (not b) (x ∷ others) others) ≡ false in
        (elim (has_id f.1 x) as P [
          | true ↦ λ h. none xs
          | false ↦ λ h. ap (λ b. b || list_any (has_end f) others) (ends-other f x h) ∙ none xs
        ]) refl

-- a session without an end needs none in the index
pub no-end : (dues : List Due) (s : Session) → None ≡ end_of s → IsListed dues s
no-end dues s h =
    subst (λ (o : Option ℕ). IfSome o (λ end. is_in (end, s.id) dues ≡ true)) h tt

-- nor does one that is put among those whose ends are listed
pub listed-put : (dues : List Due) (s : Session) (ss : List Session) → None ≡ end_of s
    → AreListed dues ss → AreListed dues (with_row session_cmp s ss)
listed-put dues s ss h listed =
    all-with_row session_cmp session_total (IsListed dues) s ss (no-end dues s h) listed

-- a session is listed if its end, with its id, is in the index
pub one-end : (end : ℕ) (id : Text) (dues : List Due) (s : Session) → Some end ≡ end_of s
    → id ≡ s.id → is_in (end, id) dues ≡ true → IsListed dues s
one-end end id dues s h same there =
    subst (λ (o : Option ℕ). IfSome o (λ end. is_in (end, s.id) dues ≡ true)) h
    (subst (λ i. is_in (end, i) dues ≡ true) same there)

-- once the ends of the rest are added, those of all are there
abbrev pub Lists : List Due → List Entry → List Entry → Type 0
Lists now rest all = (dues : List Due) → ((due : Due) → is_in due now ≡ true
    → is_in due dues ≡ true) → AreListed dues (views_of rest) → AreListed dues (views_of all)

-- a step of the loop: the end of one more entry is listed, and those of the rest are left to do
pub lists-more : (x : Entry) (rest now all : List Entry) (old new : List Due) → now ≡ x ∷ rest
    → ((d : Due) → is_in d old ≡ true → is_in d new ≡ true) → IsListed new (session_in x)
    → Lists old now all → Lists new rest all
lists-more x rest now all old new left more here so_far = λ dues within others.
    so_far dues (λ d k. within d (more d k))
    (subst (λ es. AreListed dues (views_of es)) (sym left)
    (listed-step new dues within (session_in x) here, others))

-- the loop is done: with no entry left, the ends of all are listed
pub lists-all : (now all : List Entry) (dues : List Due) → now ≡ [] → Lists dues now all
    → AreListed dues (views_of all)
lists-all now all dues done so_far =
    so_far dues (λ d k. k) (subst (λ es. AreListed dues (views_of es)) (sym done) tt)

-- ## Copies begin to wait

queued-as : (limit : ℕ) (b : QueueItem) (P : Session → Type 0)
    → ((s : Session) → P s → P (with_waiting s b.1)) → (s : Session) → P s
    → P (edit_session (queue_copies limit b.1) b.0 s)
queued-as limit b P step s h =
    elim (has_id b.0 s) as (λ v. P (if v then queue_copies limit b.1 s else s)) [
      | true ↦ elim (has_place limit s) as (λ v. P (if v then with_waiting s b.1 else s))
          [ true ↦ step s h | false ↦ h ]
      | false ↦ h
    ]

-- copies that begin to wait change nothing that the index of ends keeps
pub indexed-queued : (limit : ℕ) (b : QueueItem) (index : Index) (ss : List Session)
    → AreIndexed index ss → AreIndexed index (queue_one limit b ss)
indexed-queued limit b index ss h =
    let same = count ss in
    let long : length (queue_one limit b ss) ≡ length ss = length-map ss f in
    record {
      kept = record {
        listed = all_mapped (IsListed index.ends.entries) f
            (λ s k. queued-as limit b (IsListed index.ends.entries) (λ t i. i) s k) ss
            h.kept.listed;
        empty = h.kept.empty;
        fits = h.kept.fits;
        room = subst (λ n. HasRoom (2 * n) index) (sym long) h.kept.room;
      };
      count = h.count ∙ sym same;
      few = omega (arith, h.few, same);
    }
  where
    f : Session → Session
    f = edit_session (queue_copies limit b.1) b.0

    count : (xs : List Session)
        → length (ending (queue_one limit b xs)) ≡ length (ending xs)
    count [] = refl
    count (x ∷ xs) =
        let rest : List Session = ending xs in
        let queued_rest : List Session = ending (queue_one limit b xs) in
        let same : length queued_rest ≡ length rest = count xs in
        let here : is_ending (f x) ≡ is_ending x =
        queued-as limit b (λ t. is_ending t ≡ is_ending x) (λ t i. i) x refl in
        ap (λ v. length (cond v (f x ∷ queued_rest) queued_rest)) here
        ∙ (elim (is_ending x) as (λ v. length (cond v (f x ∷ queued_rest) queued_rest)
        ≡ length (cond v (x ∷ rest) rest)) [
          | true ↦ omega arith
          | false ↦ same
        ])
