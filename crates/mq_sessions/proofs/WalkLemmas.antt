-- A walk over the sessions beside ids that ascend.
use Rattle.std.proofs.Common.{◌≡◌, Bool, true, false, List, [], ◌∷◌, cond, Option, Some, None}
use Rattle.std.proofs.Common.{refl, sym, ◌∙◌, ap, subst}
use denote.Ref.{Bor}
use Rattle.std.specs.Rc.{rc_str_bytes}
use Rattle.std.specs.declared.cmp.Ordering.TheVariants.{Less, Equal, Greater}
use Rattle.std.specs.Ordering.{is_eq, is_lt, ordering_reverse}
use Rattle.std.specs.Cmp.Lexicographic.{nat_list_eq_equiv, nat_list_cmp_total}
use Rattle.std.specs.List.{AllByRecursion}
use Rattle.std.specs.Map.Iter.{TakesFirst, deref_pair}
use Rattle.std.specs.List.Sorted.{IsStrictlySortedBy}
use Rattle.std.proofs.lemmas.Map.Text.{is_eq-slice_cmp}
use Rattle.std.proofs.lemmas.Slice.Eq.{bytes_eq-Decides}
use Rattle.mq_world.specs.Keys.{Key}
use Rattle.mq_world.specs.Lists.{Text, same_text, text_cmp}
use Rattle.mq_world.specs.World as world
use Rattle.mq_world.specs.World.{session_cmp}
use Rattle.mq_world.specs.Sessions.{session_of}
use Rattle.mq_world.proofs.OrderLemmas.{all_weaker, less_from}
use Rattle.mq_sessions.specs.Walks.{AreLeft, entries_left, is_past}
use Rattle.mq_sessions.specs.declared.sessions.session.Session.{Session}

pub lower_differs : (a b : Text) → text_cmp a b ≡ Less → same_text a b ≡ false
lower_differs a b h = sym (is_eq-slice_cmp a b) ∙ ap is_eq h

-- none of the sessions behind the id has it
none_beyond : (id : Text) (left : List world.Session)
    → AllByRecursion (λ s. text_cmp id s.id ≡ Less) left → session_of left id ≡ None
none_beyond id [] h = refl
none_beyond id (s ∷ left) h =
    rw (nat_list_eq_equiv.symm s.id id ∙ lower_differs id s.id h.0) (none_beyond id left h.1)

-- where a walk over all of them begins
pub begun : (sessions left : List world.Session) → IsStrictlySortedBy session_cmp sessions
    → left ≡ sessions → AreLeft sessions None left
begun sessions left sorted same = record {
  in_order = subst (IsStrictlySortedBy session_cmp) (sym same) sorted;
  beyond = all left;
  finds = λ id h. ap (λ l. session_of l id) (sym same);
}
  where
    all : (l : List world.Session) → AllByRecursion (λ s. is_past None s.id ≡ true) l
    all [] = tt
    all (s ∷ l) = (refl, all l)

module _ (sessions : List world.Session) (past : Option (Bor Key)) where
  past_behind : (id next : Text) → is_past past id ≡ true → text_cmp id next ≡ Less
      → is_past past next ≡ true
  past_behind id next h less = at past h
    where
      at : (p : Option (Bor Key)) → is_past p id ≡ true → is_past p next ≡ true
      at None k = refl
      at (Some key) k = ap is_lt (nat_list_cmp_total.trans (rc_str_bytes key.now) id next
          (less_from _ k) less)

  -- what the walk has passed, or none of those that are left
  pub found_none : (left : List world.Session) (id : Text) → AreLeft sessions past left
      → AllByRecursion (λ s. text_cmp id s.id ≡ Less) left
      → cond (is_past past id) None (session_of sessions id) ≡ session_of sessions id
  found_none left id are h = by (is_past past id) refl
    where
      by : (b : Bool) → is_past past id ≡ b
          → cond b None (session_of sessions id) ≡ session_of sessions id
      by true e = sym (are.finds id e ∙ none_beyond id left h)
      by false e = refl

  module _ (s : world.Session) (left : List world.Session) (are : AreLeft sessions past (s ∷ left))
    where
      pub found_here : (id : Text) → text_cmp s.id id ≡ Equal
          → (Some s ≡ session_of sessions id) × (s.id ≡ id)
      found_here id h =
          let same : same_text s.id id ≡ true = sym (is_eq-slice_cmp s.id id) ∙ ap is_eq h in
          let text : s.id ≡ id = (bytes_eq-Decides s.id id).0 same in
          let at : is_past past id ≡ true = subst (λ t. is_past past t ≡ true) text are.beyond.0 in
          (sym (are.finds id at ∙ rw same refl), text)

      pub found_past : (id : Text) → text_cmp s.id id ≡ Greater
          → cond (is_past past id) None (session_of sessions id) ≡ session_of sessions id
      unfolding IsStrictlySortedBy
      found_past id h =
          let less : text_cmp id s.id ≡ Less =
          nat_list_cmp_total.antisymm id s.id ∙ ap ordering_reverse h in
          found_none (s ∷ left) id are (
            less,
            all_weaker (λ t. session_cmp s t ≡ Less)
                (λ t. text_cmp id t.id ≡ Less)
                (λ t k. nat_list_cmp_total.trans id s.id t.id less k) left are.in_order.0,
          )

      pub walked_on : (key : Bor Key) → s.id ≡ rc_str_bytes key.now
          → AreLeft sessions (Some key) left
      unfolding IsStrictlySortedBy
      walked_on key id_is = record {
        in_order = are.in_order.1;
        beyond = all_weaker (λ t. session_cmp s t ≡ Less) (λ t. is_past (Some key) t.id ≡ true)
            (λ t k. ap (λ u. is_lt (text_cmp u t.id)) (sym id_is) ∙ ap is_lt k) left are.in_order.0;
        finds = λ id h. (
            let less : text_cmp s.id id ≡ Less =
            less_from _ (ap (λ t. is_lt (text_cmp t id)) id_is ∙ h) in
            are.finds id (past_behind s.id id are.beyond.0 less)
            ∙ rw (lower_differs s.id id less) refl);
      }

-- what is left after a step is what was left behind the entry ahead
pub stepped : (ahead : Option (Bor Key × Bor Session)) (before after : List (Key × Session))
    → TakesFirst deref_pair before ahead after → before ≡ entries_left ahead after
stepped None before after h = h.0
stepped (Some entry) before after h = h
