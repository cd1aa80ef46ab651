-- What is true of each entry of the sessions, as one is put, edited or taken out.
use Rattle.std.proofs.Common.{◌≡◌, ℕ, ◌+◌, ◌≤◌, Bool, true, false, cond, List, [], ◌∷◌, length}
use Rattle.std.proofs.Common.{Option, Some, None, refl, sym, ◌∙◌, ap, subst, arith}
use Rattle.std.specs.Option.{IfSome, option_map, option_map_or}
use Rattle.std.specs.List.{AllByRecursion}
use Rattle.std.specs.Map.{keys_of, lookup, set_value, remove_entry}
use Rattle.std.specs.List.Sorted.{IsStrictlySortedBy}
use Rattle.std.specs.Cmp.Lexicographic.{nat_list_cmp_total}
use Rattle.std.specs.BTreeMap.{insert_entry}
use Rattle.std.specs.Ordering.{is_eq, match_ordering}
use Rattle.std.specs.Rc.{rc_str_bytes}
use Rattle.std.specs.declared.cmp.Ordering.{Ordering}
use Rattle.std.specs.declared.cmp.Ordering.TheVariants.{Less, Equal, Greater}
use Rattle.std.proofs.lemmas.Map.Text.{is_eq-slice_cmp}
use Rattle.std.proofs.lemmas.Slice.Eq.{bytes_eq-Decides}
use Rattle.mq_sessions.specs.Dues.{Due, is_in}
use Rattle.mq_world.specs.Keys.{Key, key_cmp}
use Rattle.mq_world.specs.Lists.{Text}
use Rattle.mq_world.specs.World as world
use Rattle.mq_world.specs.World.{Session}
use Rattle.mq_world.specs.Sessions.{connected, is_connected, is_present}
use Rattle.mq_world.proofs.OrderLemmas.{all_weaker}
use Rattle.mq_world.proofs.Splits.{some_same}
use Rattle.mq_sessions.specs.Ends.{Entry, end_of, IsListed, AreListed, KeepsId, KeepIds, views_of}
use Rattle.mq_sessions.specs.Views.{kept_id, presence_of, session_at, session_in, view_of}
use Rattle.mq_sessions.specs.declared.sessions.session.Presence.{Presence}
use Rattle.mq_sessions.specs.declared.sessions.session.Presence.TheVariants.{Connected, Away}
use Rattle.mq_sessions.specs.declared.sessions.session.Session as code
use Rattle.mq_sessions.proofs.SessionLemmas.{found-is}
use Rattle.mq_world.proofs.TextKeys.{finds}

-- keys that tie have the same text
pub key-same : (k y : Key) → key_cmp k y ≡ Equal → rc_str_bytes k ≡ rc_str_bytes y
key-same k y h =
    (bytes_eq-Decides (rc_str_bytes k) (rc_str_bytes y)).0
    (sym (is_eq-slice_cmp (rc_str_bytes k) (rc_str_bytes y)) ∙ ap is_eq h)

none_below : (k : Key) (es : List Entry)
    → AllByRecursion (λ x. key_cmp k x ≡ Less) (keys_of es)
    → lookup (finds (rc_str_bytes k)) es ≡ None
none_below k [] h = refl
none_below k (e ∷ es) h =
    ap (λ b. cond b (Some e.1) (lookup (finds (rc_str_bytes k)) es)) (ap is_eq h.0)
    ∙ none_below k es h.1

-- nor where a key that comes before all of them is looked up
pub none_less : (k : Key) (e : Entry) (es : List Entry) → key_cmp k e.0 ≡ Less
    → IsStrictlySortedBy key_cmp (keys_of (e ∷ es))
    → lookup (finds (rc_str_bytes k)) es ≡ None
unfolding IsStrictlySortedBy
none_less k e es r sorted =
    none_below k es (all_weaker (λ x. key_cmp e.0 x ≡ Less) (λ x. key_cmp k x ≡ Less)
    (λ x h. nat_list_cmp_total.trans (rc_str_bytes k) (rc_str_bytes e.0) (rc_str_bytes x) r h)
    (keys_of es) sorted.0)

put_set : (k : Key) (u v : code.Session) (es : List Entry)
    → IsStrictlySortedBy key_cmp (keys_of es) → lookup (finds (rc_str_bytes k)) es ≡ Some u
    → set_value (finds (rc_str_bytes k)) es v ≡ insert_entry key_cmp es k v
unfolding IsStrictlySortedBy
put_set k u v [] sorted found = cc
put_set k u v (e ∷ es) sorted found =
    let old : Option code.Session = lookup (finds (rc_str_bytes k)) es in
    let set : List Entry = set_value (finds (rc_str_bytes k)) es v in
    let P : Ordering → Type 0 = λ r. key_cmp k e.0 ≡ r → cond (is_eq r) (Some e.1) old ≡ Some u
    → cond (is_eq r) ((e.0, v) ∷ es) (e ∷ set)
    ≡ match_ordering r ((k, v) ∷ e ∷ es) ((e.0, v) ∷ es) (e ∷ insert_entry key_cmp es k v) in
    (elim (key_cmp k e.0) as P [
      | Less ↦ λ r f. (
          let none : old ≡ None = none_less k e es r sorted in
          cc)
      | Equal ↦ λ r f. refl
      | Greater ↦ λ r f. ap (λ l. e ∷ l) (put_set k u v es sorted.1 f)
    ]) refl found

-- to set the value that a look-up finds is to put it at its key
pub entries-put : (bs : Text) (k : Key) (u v : code.Session) (es after : List Entry)
    → bs ≡ rc_str_bytes k → after ≡ set_value (finds bs) es v → Some u ≡ lookup (finds bs) es
    → IsStrictlySortedBy key_cmp (keys_of es) → after ≡ insert_entry key_cmp es k v
entries-put bs k u v es after text set found sorted =
    set ∙ ap (λ t. set_value (finds t) es v) text
    ∙ put_set k u v es sorted (sym (found ∙ ap (λ t. lookup (finds t) es) text))

-- the one that a look-up finds is edited
all-edited : (P Q : Entry → Type 0) (test : Key → Bool) (u v : code.Session) (es : List Entry)
    → lookup test es ≡ Some u
    → ((k : Key) → test k ≡ true → P (k, u) → Q (k, v)) → ((e : Entry) → P e → Q e)
    → AllByRecursion P es → AllByRecursion Q (set_value test es v)
all-edited P Q test u v [] found here rest h = tt
all-edited P Q test u v (e ∷ es) found here rest h =
    let R : Bool → Type 0 = λ b. test e.0 ≡ b → cond b (Some e.1) (lookup test es) ≡ Some u
    → AllByRecursion Q (cond b ((e.0, v) ∷ es) (e ∷ set_value test es v)) in
    (elim (test e.0) as R [
      | true ↦ λ t f. (
        here e.0 t (subst (λ w. P (e.0, w)) (some_same f) h.0),
        all_weaker P Q rest es h.1,
      )
      | false ↦ λ t f. (rest e h.0, all-edited P Q test u v es f here rest h.1)
    ]) refl found

all-removed : (P : Entry → Type 0) (test : Key → Bool) (es : List Entry) → AllByRecursion P es
    → AllByRecursion P (remove_entry test es)
all-removed P test [] h = tt
all-removed P test (e ∷ es) h =
    elim (test e.0) as (λ b. AllByRecursion P (cond b es (e ∷ remove_entry test es)))
    [ true ↦ h.1 | false ↦ (h.0, all-removed P test es h.1) ]

all-inserted : (P : Entry → Type 0) (k : Key) (v : code.Session) → P (k, v)
    → ((y : Key) → key_cmp k y ≡ Equal → P (y, v)) → (es : List Entry) → AllByRecursion P es
    → AllByRecursion P (insert_entry key_cmp es k v)
all-inserted P k v here same [] h = (here, tt)
all-inserted P k v here same (e ∷ es) h =
    let R : Ordering → Type 0 = λ r. key_cmp k e.0 ≡ r
    → AllByRecursion P (match_ordering r ((k, v) ∷ e ∷ es) ((e.0, v) ∷ es)
    (e ∷ insert_entry key_cmp es k v)) in
    (elim (key_cmp k e.0) as R [
      | Less ↦ λ r. (here, h)
      | Equal ↦ λ r. (same e.0 r, h.1)
      | Greater ↦ λ r. (h.0, all-inserted P k v here same es h.1)
    ]) refl

-- ## The ids that are kept

-- an entry that keeps its client's id joins those that do
pub ids-put : (k : Key) (v : code.Session) (es : List Entry) → KeepsId (k, v) → KeepIds es
    → KeepIds (insert_entry key_cmp es k v)
ids-put k v es here h =
    all-inserted KeepsId k v here
    (λ y same. subst (λ t. IfSome (kept_id v) (λ id. id ≡ t)) (key-same k y same) here) es h

-- the entries that stay when one is removed keep their clients' ids
pub ids-removed : (test : Key → Bool) (es : List Entry) → KeepIds es
    → KeepIds (remove_entry test es)
ids-removed test es h = all-removed KeepsId test es h

-- an edit of a session that leaves its kept id as it was
pub ids-edited : (test : Key → Bool) (u v : code.Session) (es : List Entry)
    → lookup test es ≡ Some u → kept_id v ≡ kept_id u → KeepIds es
    → KeepIds (set_value test es v)
ids-edited test u v es found same h =
    all-edited KeepsId KeepsId test u v es found
    (λ k t keeps. subst (λ o. IfSome o (λ id. id ≡ rc_str_bytes k)) (sym same) keeps)
    (λ e keeps. keeps) h

-- an edit after which a session keeps no id, as when its client leaves
pub ids-left : (test : Key → Bool) (u v : code.Session) (es : List Entry)
    → lookup test es ≡ Some u → kept_id v ≡ None → KeepIds es → KeepIds (set_value test es v)
ids-left test u v es found gone h =
    all-edited KeepsId KeepsId test u v es found
    (λ k t keeps. subst (λ (o : Option Text). IfSome o (λ id. id ≡ rc_str_bytes k)) (sym gone) tt)
    (λ e keeps. keeps) h

-- ## A connection ends

all_of_shown : (P : Session → Type 0) (es : List Entry) → AllByRecursion P (views_of es)
    → AllByRecursion (λ e. P (session_in e)) es
all_of_shown P [] h = tt
all_of_shown P (e ∷ es) h = (h.0, all_of_shown P es h.1)

all_shown : (P : Session → Type 0) (es : List Entry) → AllByRecursion (λ e. P (session_in e)) es
    → AllByRecursion P (views_of es)
all_shown P [] h = tt
all_shown P (e ∷ es) h = (h.0, all_shown P es h.1)

both : (P Q : Entry → Type 0) (es : List Entry) → AllByRecursion P es → AllByRecursion Q es
    → AllByRecursion (λ e. P e × Q e) es
both P Q [] h k = tt
both P Q (e ∷ es) h k = ((h.0, k.0), both P Q es h.1 k.1)

abbrev id_in : Presence → Option Text
id_in p = elim p [ Connected i ↦ Some (rc_str_bytes i) | Away end ↦ None ]

abbrev is_present_in : Presence → Bool
is_present_in p = elim (presence_of p) [ world.Connected ↦ true | world.Away end ↦ false ]

-- the id that was kept is that of the client
kept-is : (id : Text) (k : Key) (u : code.Session) → Some id ≡ kept_id u → KeepsId (k, u)
    → id ≡ rc_str_bytes k
kept-is id k u is keeps =
    let P : Option Text → Type 0 = λ o. IfSome o (λ i. i ≡ rc_str_bytes k) in
    subst P (sym is) keeps

-- the session that a look-up finds, whose client has this id and leaves, and when it ends then
pub record IsLeft (test : Key → Bool) (u v : code.Session) (es : List Entry) (id : Text)
    (end : Option ℕ) : Type 0 where
  pub found : lookup test es ≡ Some u
  pub id_is : Some id ≡ kept_id u
  pub end_is : end ≡ end_of (view_of v)

-- a connection ends: once the session's end, if it has one, is in the index, the ends of all are
pub listed-left : (test : Key → Bool) (u v : code.Session) (es : List Entry) (id : Text)
    (end : Option ℕ) (dues : List Due) → IsLeft test u v es id end → KeepIds es
    → AreListed dues (views_of es) → IfSome end (λ at. is_in (at, id) dues ≡ true)
    → AreListed dues (views_of (set_value test es v))
listed-left test u v es id end dues left keep listed there =
    all_shown (IsListed dues) (set_value test es v)
    (all-edited (λ e. KeepsId e × IsListed dues (session_in e)) (λ e. IsListed dues (session_in e))
    test u v es left.found
    (λ k t h. subst (λ o. IfSome o (λ at. is_in (at, rc_str_bytes k) dues ≡ true)) left.end_is
    (subst (λ i. IfSome end (λ at. is_in (at, i) dues ≡ true)) (kept-is id k u left.id_is h.0)
    there))
    (λ e h. h.1)
    (both KeepsId (λ e. IsListed dues (session_in e)) es keep
    (all_of_shown (IsListed dues) es listed)))

-- a session that keeps an id is of a client that is connected
pub present-kept : (id : Text) (u : code.Session) → Some id ≡ kept_id u
    → is_present (view_of u) ≡ true
present-kept id u =
    elim u.presence as (λ p. Some id ≡ id_in p → is_present_in p ≡ true) [
      | Connected i ↦ λ h. refl
      | Away end ↦ λ h. cc
    ]

-- a session that keeps no id is of a client that is away
pub absent-kept : (u : code.Session) → None ≡ kept_id u → is_present (view_of u) ≡ false
absent-kept u =
    elim u.presence as (λ p. None ≡ id_in p → is_present_in p ≡ false) [
      | Connected i ↦ λ h. cc
      | Away end ↦ λ h. refl
    ]

-- a client is connected if the session that a look-up finds says so
pub connected-found : (id : Text) (u : code.Session) (es : List Entry)
    → lookup (finds id) es ≡ Some u → is_connected (views_of es) id ≡ is_present (view_of u)
connected-found id u es found =
    ap (λ s. option_map_or is_present s false)
    (sym (found-is id es) ∙ ap (option_map (session_at id)) found)

-- one is connected no more
pub connected-left : (test : Key → Bool) (u v : code.Session) (es : List Entry)
    → lookup test es ≡ Some u → is_present (view_of u) ≡ true → is_present (view_of v) ≡ false
    → length (connected (views_of (set_value test es v))) + 1 ≡ length (connected (views_of es))
connected-left test u v [] found here gone = cc
connected-left test u v (e ∷ es) found here gone =
    let rest : List Session = connected (views_of es) in
    let R : Bool → Type 0 = λ b. cond b (Some e.1) (lookup test es) ≡ Some u
    → length (connected (views_of (cond b ((e.0, v) ∷ es) (e ∷ set_value test es v)))) + 1
    ≡ length (connected (views_of (e ∷ es))) in
    (elim (test e.0) as R [
      | true ↦ λ f. (
          let before : is_present (session_in e) ≡ true =
          ap (λ w. is_present (view_of w)) (some_same f) ∙ here in
          ap (λ b. length (cond b (session_in (e.0, v) ∷ rest) rest) + 1) gone
          ∙ longer (session_in e) rest
          ∙ sym (ap (λ b. length (cond b (session_in e ∷ rest) rest)) before))
      | false ↦ λ f. (
          let after : List Session = connected (views_of (set_value test es v)) in
          let less : length after + 1 ≡ length rest = connected-left test u v es f here gone in
          elim (is_present (session_in e))
          as (λ b. length (cond b (session_in e ∷ after) after) + 1
          ≡ length (cond b (session_in e ∷ rest) rest)) [
            | true ↦ omega arith
            | false ↦ less
          ])
    ]) found
  where
    longer : (s : Session) (ss : List Session) → length ss + 1 ≡ length (s ∷ ss)
    longer s ss = omega arith

-- an entry that is put makes at most one more
pub length-put : (k : Key) (v : code.Session) (es : List Entry)
    → length (insert_entry key_cmp es k v) ≤ length es + 1
length-put k v [] = omega arith
length-put k v (e ∷ es) =
    let rest = length-put k v es in
    elim (key_cmp k e.0)
    as (λ r. length (match_ordering r ((k, v) ∷ e ∷ es) ((e.0, v) ∷ es)
    (e ∷ insert_entry key_cmp es k v)) ≤ length (e ∷ es) + 1) [
      | Less ↦ omega arith
      | Equal ↦ omega arith
      | Greater ↦ omega arith
    ]
