-- How many sessions are away and end, as the sessions change.
use Rattle.std.proofs.Common.{◌≡◌, ℕ, ◌+◌, ◌≤◌, Bool, true, false, cond, List, [], ◌∷◌, length}
use Rattle.std.proofs.Common.{Option, Some, None, refl, sym, ◌∙◌, ap, arith, is_some}
use Rattle.std.specs.Option.{option_map_or}
use Rattle.std.specs.Map.{keys_of, lookup, set_value, remove_entry}
use Rattle.std.specs.List.Sorted.{IsStrictlySortedBy}
use Rattle.std.specs.BTreeMap.{insert_entry}
use Rattle.std.specs.Ordering.{is_eq, match_ordering}
use Rattle.std.specs.Rc.{rc_str_bytes}
use Rattle.std.specs.declared.cmp.Ordering.{Ordering}
use Rattle.std.specs.declared.cmp.Ordering.TheVariants.{Less, Equal, Greater}
use Rattle.mq_world.specs.Keys.{Key, key_cmp}
use Rattle.mq_world.specs.Lists.{Text}
use Rattle.mq_world.specs.World.{Session, Connected, Away}
use Rattle.mq_world.specs.Sessions.{connected}
use Rattle.mq_world.proofs.Splits.{some_same}
use Rattle.mq_world.proofs.TextKeys.{finds}
use Rattle.mq_sessions.specs.Ends.{Entry, ending, end_of, is_ending, one_if, views_of}
use Rattle.mq_sessions.specs.Views.{kept_id, presence_of, session_in, view_of}
use Rattle.mq_sessions.specs.declared.sessions.session.Presence.TheVariants as in_code
use Rattle.mq_sessions.specs.declared.sessions.session.Session as code
use Rattle.mq_sessions.proofs.EntryLemmas.{none_less}

-- 1 for a session that is away and ends
abbrev pub one : code.Session → ℕ
one u = one_if (is_ending (view_of u))

abbrev pub one_of : Option code.Session → ℕ
one_of o = one_if (option_map_or (λ u. is_ending (view_of u)) o false)

pub ending-more : (s : Session) (ss : List Session)
    → length (ending (s ∷ ss)) ≡ length (ending ss) + one_if (is_ending s)
ending-more s ss =
    elim (is_ending s) as (λ b. length (cond b (s ∷ ending ss) (ending ss))
    ≡ length (ending ss) + one_if b) [ true ↦ omega arith | false ↦ omega arith ]

-- one session takes the place of another
pub ending-set : (test : Key → Bool) (u v : code.Session) (es : List Entry)
    → lookup test es ≡ Some u
    → length (ending (views_of (set_value test es v))) + one u
    ≡ length (ending (views_of es)) + one v
ending-set test u v [] found = cc
ending-set test u v (e ∷ es) found =
    let before = ending-more (session_in e) (views_of es) in
    let R : Bool → Type 0 = λ b. cond b (Some e.1) (lookup test es) ≡ Some u
    → length (ending (views_of (cond b ((e.0, v) ∷ es) (e ∷ set_value test es v)))) + one u
    ≡ length (ending (views_of (e ∷ es))) + one v in
    (elim (test e.0) as R [
      | true ↦ λ f. (
          let after = ending-more (session_in (e.0, v)) (views_of es) in
          let same : one e.1 ≡ one u = ap one (some_same f) in
          omega (arith, before, after, same))
      | false ↦ λ f. (
          let after = ending-more (session_in e) (views_of (set_value test es v)) in
          omega (arith, before, after, ending-set test u v es f))
    ]) found

-- a session is taken out, if there is one
pub ending-removed : (test : Key → Bool) (es : List Entry)
    → length (ending (views_of es))
    ≡ length (ending (views_of (remove_entry test es))) + one_of (lookup test es)
ending-removed test [] = refl
ending-removed test (e ∷ es) =
    let before = ending-more (session_in e) (views_of es) in
    let R : Bool → Type 0 = λ b. length (ending (views_of (e ∷ es)))
    ≡ length (ending (views_of (cond b es (e ∷ remove_entry test es))))
    + one_of (cond b (Some e.1) (lookup test es)) in
    elim (test e.0) as R [
      | true ↦ before
      | false ↦ (
          let after = ending-more (session_in e) (views_of (remove_entry test es)) in
          omega (arith, before, after, ending-removed test es))
    ]

-- a session is put, in the place of an older one if there is one
pub ending-put : (k : Key) (v : code.Session) (es : List Entry)
    → IsStrictlySortedBy key_cmp (keys_of es)
    → length (ending (views_of (insert_entry key_cmp es k v)))
    + one_of (lookup (finds (rc_str_bytes k)) es)
    ≡ length (ending (views_of es)) + one v
unfolding IsStrictlySortedBy
ending-put k v [] sorted = omega (arith, ending-more (session_in (k, v)) [])
ending-put k v (e ∷ es) sorted =
    let old : Option code.Session = lookup (finds (rc_str_bytes k)) es in
    let before = ending-more (session_in e) (views_of es) in
    let P : Ordering → Type 0 = λ r. key_cmp k e.0 ≡ r
    → length (ending (views_of (match_ordering r ((k, v) ∷ e ∷ es) ((e.0, v) ∷ es)
    (e ∷ insert_entry key_cmp es k v)))) + one_of (cond (is_eq r) (Some e.1) old)
    ≡ length (ending (views_of (e ∷ es))) + one v in
    (elim (key_cmp k e.0) as P [
      | Less ↦ λ r. (
          let none : one_of old ≡ 0 = ap one_of (none_less k e es r sorted) in
          omega (arith, ending-more (session_in (k, v)) (views_of (e ∷ es)), none))
      | Equal ↦ λ r. omega (arith, before, ending-more (session_in (e.0, v)) (views_of es))
      | Greater ↦ λ r. (
          let after = ending-more (session_in e) (views_of (insert_entry key_cmp es k v)) in
          omega (arith, before, after, ending-put k v es sorted.1))
    ]) refl

-- no session is both connected and away
pub ending-others : (ss : List Session)
    → length (ending ss) + length (connected ss) ≤ length ss
ending-others [] = omega arith
ending-others (s ∷ ss) =
    let rest : length (ending ss) + length (connected ss) ≤ length ss = ending-others ss in
    elim s.presence as (λ p. length (cond (is_some (elim p [ Connected ↦ None | Away end ↦ end ]))
    (s ∷ ending ss) (ending ss)) + length (cond (elim p [ Connected ↦ true | Away end ↦ false ])
    (s ∷ connected ss) (connected ss)) ≤ length (s ∷ ss)) [
      | Connected ↦ omega (arith, rest)
      | Away end ↦ elim end as (λ o. length (cond (is_some o) (s ∷ ending ss) (ending ss))
          + length (connected ss) ≤ length (s ∷ ss)) [
            | None ↦ omega (arith, rest)
            | Some at ↦ omega (arith, rest)
          ]
    ]

-- ## What is counted before a sweep

-- a session was taken out, if there was one
pub count-removed : (test : Key → Bool) (es after : List Entry) (removed : Option code.Session)
    (gone : Bool) (count : ℕ) → after ≡ remove_entry test es → removed ≡ lookup test es
    → gone ≡ option_map_or (λ u. is_ending (view_of u)) removed false
    → count ≡ length (ending (views_of es))
    → count ≡ length (ending (views_of after)) + one_if gone
count-removed test es after removed gone count is value said h =
    let left = ap (λ l. length (ending (views_of l))) is in
    let one_less : one_if gone ≡ one_of (lookup test es) = ap one_if said ∙ ap one_of value in
    omega (arith, h, left, one_less, ending-removed test es)

-- a session whose client is connected was put, in the place of an older one if there was one
pub count-put : (k : Key) (v : code.Session) (es after : List Entry) (older : Option code.Session)
    (gone : Bool) (count : ℕ) → IsStrictlySortedBy key_cmp (keys_of es)
    → after ≡ insert_entry key_cmp es k v → older ≡ lookup (finds (rc_str_bytes k)) es
    → gone ≡ option_map_or (λ u. is_ending (view_of u)) older false
    → None ≡ end_of (view_of v) → count ≡ length (ending (views_of es))
    → count ≡ length (ending (views_of after)) + one_if gone
count-put k v es after older gone count sorted is value said none h =
    let put = ap (λ l. length (ending (views_of l))) is in
    let one_less : one_if gone ≡ one_of (lookup (finds (rc_str_bytes k)) es) =
    ap one_if said ∙ ap one_of value in
    let no_more : one v ≡ 0 = ap (λ o. one_if (is_some o)) (sym none) in
    omega (arith, h, put, one_less, no_more, ending-put k v es sorted)

-- one came back
pub count-back : (test : Key → Bool) (u v : code.Session) (es after : List Entry)
    (gone : Bool) (count : ℕ) → after ≡ set_value test es v → Some u ≡ lookup test es
    → gone ≡ is_ending (view_of u) → None ≡ end_of (view_of v)
    → count ≡ length (ending (views_of es))
    → count ≡ length (ending (views_of after)) + one_if gone
count-back test u v es after gone count is found said none h =
    let put = ap (λ l. length (ending (views_of l))) is in
    let one_less : one_if gone ≡ one u = ap one_if said in
    let no_more : one v ≡ 0 = ap (λ o. one_if (is_some o)) (sym none) in
    omega (arith, h, put, one_less, no_more, ending-set test u v es (sym found))

-- ## A connection ends

-- a session that keeps an id is of a client that is connected, and so has no end
kept_none : (id : Text) (u : code.Session) → Some id ≡ kept_id u → one u ≡ 0
kept_none id u =
    elim u.presence as (λ p. Some id ≡ (elim p [
      | in_code.Connected i ↦ Some (rc_str_bytes i)
      | in_code.Away end ↦ None
    ]) → one_if (is_some (elim (presence_of p) [ Connected ↦ None | Away end ↦ end ])) ≡ 0) [
      | in_code.Connected i ↦ λ h. refl
      | in_code.Away end ↦ λ h. cc
    ]

-- one that was connected is away, and maybe ends
pub ending-left : (test : Key → Bool) (u v : code.Session) (es after : List Entry) (id : Text)
    (end : Option ℕ) → after ≡ set_value test es v → Some u ≡ lookup test es
    → Some id ≡ kept_id u → end ≡ end_of (view_of v)
    → length (ending (views_of after)) ≡ length (ending (views_of es)) + one_if (is_some end)
ending-left test u v es after id end is found kept ends =
    let put = ap (λ l. length (ending (views_of l))) is in
    let more : one_if (is_some end) ≡ one v = ap (λ o. one_if (is_some o)) ends in
    omega (arith, put, more, kept_none id u kept, ending-set test u v es (sym found))

pub one-most : (b : Bool) → one_if b ≤ 1
one-most true = omega arith
one-most false = omega arith
