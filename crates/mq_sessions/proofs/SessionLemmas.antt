-- The sessions as a map from ids.
use Rattle.std.proofs.Common.{◌≡◌, ℕ, Bool, true, false, not, List, [], ◌∷◌, map, cond, Option, Some, None}
use Rattle.std.proofs.Common.{refl, sym, ◌∙◌, ap}
use Rattle.std.specs.Rc.{rc_str_bytes}
use Rattle.std.specs.declared.cmp.Ordering.TheVariants.{Less, Equal}
use Rattle.std.specs.Ordering.{is_eq, nat_cmp}
use Rattle.std.specs.Option.{option_map}
use Rattle.std.specs.Cmp.Lexicographic.{slice_cmp, on_texts}
use Rattle.std.specs.List.{filter, find, AllByRecursion}
use Rattle.std.specs.List.Sorted.{IsStrictlySortedBy}
use Rattle.std.specs.Map.{lookup, remove_entry, set_value, keys_of}
use Rattle.std.specs.BTreeMap.{insert_entry}
use Rattle.std.proofs.lemmas.Map.Text.{is_eq-slice_cmp}
use Rattle.std.proofs.lemmas.Slice.Eq.{bytes_eq-Decides}
use Rattle.mq_world.specs.Keys.{Key, key_cmp}
use Rattle.mq_world.specs.Lists.{with_row}
use Rattle.mq_world.specs.World as world
use Rattle.mq_world.specs.World.{has_id, session_cmp}
use Rattle.mq_world.specs.Sessions.{session_of}
use Rattle.mq_sessions.specs.Queue.{edit_session}
use Rattle.mq_sessions.specs.Views.{session_at, session_in}
use Rattle.mq_sessions.specs.declared.sessions.session.Session.{Session}
use Rattle.mq_world.proofs.TextKeys.{finds, finds-is, key-is, apart}
use Rattle.mq_world.proofs.ListLemmas.{filter-same, map-filter, map-insert_entry}
use Rattle.mq_world.proofs.ListLemmas.{remove_entry-filter, none_again}

abbrev Entry : Type 0
Entry = Key × Session

-- the session in the entry that a look-up finds
pub found-is : (bs : List ℕ) (es : List Entry)
    → option_map (session_at bs) (lookup (finds bs) es) ≡ session_of (map session_in es) bs
found-is bs [] = refl
found-is bs (e ∷ es) =
    let P : Bool → Type 0 = λ b. finds bs e.0 ≡ b
    → option_map (session_at bs) (cond b (Some e.1) (lookup (finds bs) es))
    ≡ cond (has_id bs (session_in e)) (Some (session_in e))
    (find (has_id bs) (map session_in es)) in
    (elim (finds bs e.0) as P [
      | true ↦ λ h. (
          let here : has_id bs (session_in e) ≡ true = sym (finds-is bs e.0) ∙ h in
          rw here (ap (λ t. Some (session_at t e.1)) (sym (key-is bs e.0 h))))
      | false ↦ λ h. (
          let other : has_id bs (session_in e) ≡ false = sym (finds-is bs e.0) ∙ h in
          rw other (found-is bs es))
    ]) refl

-- a look-up finds the session of that client among all
pub looked-up : (bs id : List ℕ) (found : Option Session) (es : List Entry)
    (ss : List world.Session) → found ≡ lookup (finds bs) es → bs ≡ id → map session_in es ≡ ss
    → option_map (session_at id) found ≡ session_of ss id
looked-up bs id found es ss value is seen =
    ap (option_map (session_at id)) (value ∙ ap (λ t. lookup (finds t) es) is)
    ∙ found-is id es ∙ ap (λ (l : List world.Session). session_of l id) seen

-- to remove the entry that bytes find is to leave out the session of that client
pub removed-is : (bs : List ℕ) (es : List Entry) → IsStrictlySortedBy key_cmp (keys_of es)
    → map session_in (remove_entry (finds bs) es)
    ≡ filter (λ session. not (has_id bs session)) (map session_in es)
removed-is bs es s =
    ap (map session_in) (remove_entry-filter key_cmp (finds bs) (apart bs) es s
    ∙ filter-same (λ e. not (finds bs e.0)) (λ e. not (has_id bs (session_in e)))
    (λ e. ap not (finds-is bs e.0)) es)
    ∙ map-filter session_in (λ session. not (has_id bs session)) es

same_view : (k e : Key) (v : Session) → key_cmp k e ≡ Equal → session_in (e, v) ≡ session_in (k, v)
same_view k e v h =
    let same : rc_str_bytes k ≡ rc_str_bytes e =
    (bytes_eq-Decides (rc_str_bytes k) (rc_str_bytes e)).0
    (sym (is_eq-slice_cmp (rc_str_bytes k) (rc_str_bytes e)) ∙ ap is_eq h) in
    ap (λ bs. session_at bs v) (sym same)

-- to put an entry is to put the session among the others by id
pub put-is : (k : Key) (v : Session) (es : List Entry) → IsStrictlySortedBy key_cmp (keys_of es)
    → map session_in (insert_entry key_cmp es k v)
    ≡ with_row session_cmp (session_in (k, v)) (map session_in es)
put-is k v es s = map-insert_entry key_cmp (on_texts rc_str_bytes) session_in session_cmp
    (λ e d. refl) same_view k v es s

-- ## The order

all_above : (e : Entry) (es : List Entry) → AllByRecursion (λ k. key_cmp e.0 k ≡ Less) (keys_of es)
    → AllByRecursion (λ s. session_cmp (session_in e) s ≡ Less) (map session_in es)
all_above e [] h = tt
all_above e (d ∷ es) h = (h.0, all_above e es h.1)

-- entries in the order of their keys are sessions in the order of their ids
pub sorted-is : (es : List Entry) → IsStrictlySortedBy key_cmp (keys_of es)
    → IsStrictlySortedBy session_cmp (map session_in es)
unfolding IsStrictlySortedBy
sorted-is [] s = tt
sorted-is (e ∷ es) s = (all_above e es s.0, sorted-is es s.1)

-- a change that keeps each session's id keeps their order
pub sorted-map : (f : world.Session → world.Session) → ((s : world.Session) → (f s).id ≡ s.id)
    → (sessions : List world.Session) → IsStrictlySortedBy session_cmp sessions
    → IsStrictlySortedBy session_cmp (map f sessions)
unfolding IsStrictlySortedBy
sorted-map f h [] s = tt
sorted-map f h (x ∷ xs) s = (above xs s.0, sorted-map f h xs s.1)
  where
    above : (ys : List world.Session) → AllByRecursion (λ y. session_cmp x y ≡ Less) ys
        → AllByRecursion (λ y. session_cmp (f x) y ≡ Less) (map f ys)
    above [] a = tt
    above (y ∷ ys) a = (
      ap (λ t. slice_cmp nat_cmp t (f y).id) (h x) ∙ ap (λ t. slice_cmp nat_cmp x.id t) (h y) ∙ a.0,
      above ys a.1,
    )

-- ## One session is edited

-- no session of the rest is the client's
rest_stays : (bs : List ℕ) (f : world.Session → world.Session) (es : List Entry)
    → AllByRecursion (λ k. finds bs k ≡ false) (keys_of es)
    → map (edit_session f bs) (map session_in es) ≡ map session_in es
rest_stays bs f [] h = refl
rest_stays bs f (e ∷ es) h =
    let other : has_id bs (session_in e) ≡ false = sym (finds-is bs e.0) ∙ h.0 in
    rw (other, rest_stays bs f es h.1) refl

-- to set the value that a look-up finds is to edit the session of that client
pub edited-is : (bs : List ℕ) (f : world.Session → world.Session) (u v : Session) (es : List Entry)
    → lookup (finds bs) es ≡ Some u → session_at bs v ≡ f (session_at bs u)
    → IsStrictlySortedBy key_cmp (keys_of es)
    → map session_in (set_value (finds bs) es v) ≡ map (edit_session f bs) (map session_in es)
unfolding IsStrictlySortedBy
edited-is bs f u v [] l same s = refl
edited-is bs f u v (e ∷ es) l same s =
    let P : Bool → Type 0 = λ b. finds bs e.0 ≡ b
    → cond b (Some e.1) (lookup (finds bs) es) ≡ Some u
    → map session_in (cond b ((e.0, v) ∷ es) (e ∷ set_value (finds bs) es v))
    ≡ edit_session f bs (session_in e) ∷ map (edit_session f bs) (map session_in es) in
    (elim (finds bs e.0) as P [
      | true ↦ λ h k. (
          let text : rc_str_bytes e.0 ≡ bs = key-is bs e.0 h in
          let here : has_id bs (session_in e) ≡ true = sym (finds-is bs e.0) ∙ h in
          let value : e.1 ≡ u = cc in
          let changed : session_at (rc_str_bytes e.0) v ≡ f (session_in e) =
          ap (λ t. session_at t v) text ∙ same ∙ ap (λ w. f (session_at bs w)) (sym value)
          ∙ ap (λ t. f (session_at t e.1)) (sym text) in
          rw here (ap (λ x. x ∷ map session_in es) changed
          ∙ ap (λ l. f (session_in e) ∷ l)
          (sym (rest_stays bs f es (none_again key_cmp (finds bs) (apart bs) e.0 h es s.0)))))
      | false ↦ λ h k. (
          let other : has_id bs (session_in e) ≡ false = sym (finds-is bs e.0) ∙ h in
          rw other (ap (λ l. session_in e ∷ l) (edited-is bs f u v es k same s.1)))
    ]) refl l

-- where a look-up finds nothing, an edit of the client's session changes nothing
pub nobody-edited : (bs : List ℕ) (f : world.Session → world.Session) (es : List Entry)
    → lookup (finds bs) es ≡ None → map session_in es ≡ map (edit_session f bs) (map session_in es)
nobody-edited bs f [] l = refl
nobody-edited bs f (e ∷ es) l =
    let P : Bool → Type 0 = λ b. finds bs e.0 ≡ b → cond b (Some e.1) (lookup (finds bs) es) ≡ None
    → map session_in (e ∷ es) ≡ edit_session f bs (session_in e)
    ∷ map (edit_session f bs) (map session_in es) in
    (elim (finds bs e.0) as P [
      | true ↦ λ h k. cc
      | false ↦ λ h k. (
          let other : has_id bs (session_in e) ≡ false = sym (finds-is bs e.0) ∙ h in
          rw other (ap (λ l. session_in e ∷ l) (nobody-edited bs f es k)))
    ]) refl l
