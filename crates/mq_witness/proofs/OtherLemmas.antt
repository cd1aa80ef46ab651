-- Where no user name that is tried has a name, none that isn't listed has.
use Rattle.std.proofs.Common.{◌≡◌, ℕ, Bool, true, false, cond, not, ◌&&◌, List, arith, Option, Some}
use Rattle.std.proofs.Common.{None, codes, bytes_eq, ap, refl, sym, ◌∙◌, subst, if◌then◌else◌}
use Rattle.std.proofs.lemmas.Bool.{and_parts, and_from, or_left, or_right, not-true}
use Rattle.std.proofs.lemmas.Bool.{false_from_ne_true, cond_both}
use Rattle.mq_topic.proofs.ByteLemmas.{text_is, text_itself, text_flip}
use Rattle.mq_acl.specs.Access.{is_user}
use Rattle.mq_cover.specs.Names.{is_choice}
use Rattle.mq_cover.specs.Remainders.{hits, mark_passes, FindsNothing}
use Rattle.mq_cover.specs.declared.remainder.Remainder.{Remainder}
use Rattle.mq_witness.specs.Clients.{can_be_id}
use Rattle.mq_witness.specs.Fresh.{is_literal}
use Rattle.mq_witness.specs.Literals.{has_mark, is_literal_of, is_named}
use Rattle.mq_witness.specs.Names.{start_at}
use Rattle.mq_witness.specs.Ready.{CanAsk}
use Rattle.mq_witness.specs.Roots.{marks_of}
use Rattle.mq_witness.specs.Texts.{level_of}
use Rattle.mq_witness.specs.Tried.{is_tried_client, is_tried_user}
use Rattle.mq_witness.specs.declared.fresh.Fresh.{Fresh}
use Rattle.mq_witness.specs.declared.literals.Literals.{Literals}
use Rattle.mq_witness.specs.declared.names.Names.{Names}
use Rattle.mq_witness.proofs.FreshMoves.{move, CanMove, literal_is_choice, move_keep, moved_kept}
use Rattle.mq_witness.proofs.FreshMoves.{moved_user, moved_by, no}
use Rattle.mq_witness.proofs.LiteralLemmas.{literals_pass}
use Rattle.mq_witness.proofs.MoveLemmas.{Moves}
use Rattle.mq_witness.proofs.TriedLemmas.{client_back, client_forth, client_test, user_test}
use Rattle.mq_witness.proofs.TriedLemmas.{fresh_can_be_id, level_known, level_of_choice, moved_hit}
use Rattle.mq_witness.proofs.TriedLemmas.{new_client}

-- the user name in the place of another, as a level, where levels are moved so
abbrev pub new_user : Fresh → List Remainder → (List ℕ → List ℕ) → Option (List ℕ) → List ℕ
new_user f must g None = f.user.now
new_user f must g (Some user) = if has_mark (codes "%u") must then g user else f.user.now

-- it is a user name that isn't listed
abbrev pub is_other : Literals → List ℕ → Bool
is_other users user = can_be_id user && not (is_named user users)

-- how levels are moved
abbrev named : List Remainder → List ℕ → Bool
named must l = is_literal_of l must

abbrev moved : Fresh → List Remainder → List ℕ → Option (List ℕ) → List ℕ → List ℕ
moved f must c u = move f (named must) (user_test must u) (client_test must c)

can_move : {f : Fresh} {names : Names} {must cover : List Remainder} → CanAsk f names must cover
    → (c : List ℕ) (u : Option (List ℕ))
    → CanMove f (named must) (user_test must u) (client_test must c)
can_move {f} {names} {must} {cover} ask c u = record {
  fresh = ask.fresh;
  kept = literals_pass (is_literal f) must ask.must_fits;
  one_user = λ a b e g. one u a b (and_parts _ _ e).1 (and_parts _ _ g).1;
}
  where
    one : (m : Option (List ℕ)) (a b : List ℕ) → is_user a m ≡ true → is_user b m ≡ true → a ≡ b
    one None a b e g = absurd (let n : false ≡ true = e in cc)
    one (Some x) a b e g = text_is a x e ∙ sym (text_is b x g)

module _ (f : Fresh) (must : List Remainder) (c : List ℕ) where
  user_forth : (u : Option (List ℕ)) → has_mark (codes "%u") must ≡ true → (l : List ℕ)
      → is_user l u ≡ true
      → is_user (moved f must c u l) (Some (new_user f must (moved f must c u) u)) ≡ true
  user_forth None m l e = absurd (let n : false ≡ true = e in cc)
  user_forth (Some x) m l e =
      ap (λ b. bytes_eq (moved f must c (Some x) l)
      (cond b (moved f must c (Some x) x) f.user.now)) m
      ∙ ap (λ t. bytes_eq (moved f must c (Some x) t) (moved f must c (Some x) x)) (text_is l x e)
      ∙ text_itself (moved f must c (Some x) x)

  user_back : (u : Option (List ℕ))
      → CanMove f (named must) (user_test must u) (client_test must c) → (l : List ℕ)
      → is_user (moved f must c u l) (Some (new_user f must (moved f must c u) u)) ≡ true
      → is_user l u ≡ true
  user_back None can l e = (and_parts (has_mark (codes "%u") must) _ (moved_user can l e)).1
  user_back (Some x) can l e =
      grind (arith, text_itself, text_flip, moved_kept can, moved_user can)

  -- ---- the new user name is one that is tried
  record IsNewUser (users : Literals) (v : List ℕ) : Type 0 where
    pub tried : is_tried_user f must v ≡ true
    pub unlisted : is_named v users ≡ false
    pub choice : is_choice f.others v ≡ true
    pub id : can_be_id v ≡ true

module _ (f : Fresh) (names : Names) (must cover : List Remainder)
    (ask : CanAsk f names must cover) (users : Literals)
    (unlisted : is_named f.user.now users ≡ false) (c : List ℕ) where
  fresh_user : IsNewUser f must c users f.user.now
  fresh_user = record {
    tried = or_left _ _ (text_itself f.user.now);
    unlisted = unlisted;
    choice = ask.fresh.user.choice;
    id = fresh_can_be_id f f.user.now ask.fresh.user;
  }

  new_user_is : (u : Option (List ℕ)) → mark_passes (is_other users) u ≡ true
      → IsNewUser f must c users (new_user f must (moved f must c u) u)
  new_user_is None other = fresh_user
  new_user_is (Some x) other =
      cond_both (has_mark (codes "%u") must) _ _ (IsNewUser f must c users)
      (λ m.
      let itself = and_from (has_mark (codes "%u") must) (bytes_eq x x) m (text_itself x) in
      moved_by can (IsNewUser f must c users) x (λ k. kept m k) (λ n u. fresh_user)
      (λ n. no n itself) (λ n. no n itself))
      (λ m. fresh_user)
    where
      can : CanMove f (named must) (user_test must (Some x)) (client_test must c)
      can = can_move ask c (Some x)

      kept : has_mark (codes "%u") must ≡ true → named must x ≡ true → IsNewUser f must c users x
      kept m k =
          let parts = and_parts (can_be_id x) _ other in
          record {
            tried = or_right (bytes_eq x f.user.now) _ (and_from _ _ (and_from _ _ m k) parts.0);
            unlisted = not-true _ parts.1;
            choice = literal_is_choice f x (can.kept x k);
            id = parts.0;
          }

  -- ---- and so is the new client id
  new_client_is : (u : Option (List ℕ)) → can_be_id c ≡ true
      → is_tried_client f (Some (new_user f must (moved f must c u) u)) must
      (new_client f must (moved f must c u) c) ≡ true
  new_client_is u id = cond_both (has_mark (codes "%c") must) (moved f must c u c) f.client.now
      IsTried (λ m. moved_by can (λ t. t ≡ moved f must c u c → IsTried t) c
      (λ k e. or_right _ _ (and_from _ _ (and_from _ _ m (or_right _ _ k)) id))
      (λ n k e. or_right _ _ (and_from _ _ (and_from _ _ m (or_left _ _ (theirs k e)))
      (fresh_can_be_id f f.user.now ask.fresh.user)))
      (λ n k e. fresh) (λ n k. no k (and_from _ _ m (text_itself c))) refl) (λ m. fresh)
    where
      can : CanMove f (named must) (user_test must u) (client_test must c)
      can = can_move ask c u

      new : Option (List ℕ)
      new = Some (new_user f must (moved f must c u) u)

      IsTried : List ℕ → Type 0
      IsTried t = is_tried_client f new must t ≡ true

      fresh : IsTried f.client.now
      fresh = or_left _ _ (text_itself f.client.now)

      theirs : user_test must u c ≡ true → f.user.now ≡ moved f must c u c
          → is_user f.user.now new ≡ true
      theirs k e =
          let parts = and_parts (has_mark (codes "%u") must) _ k in
          ap (λ t. is_user t new) e ∙ user_forth f must c u parts.0 c parts.1

  others_move : (u : Option (List ℕ))
      → Moves (is_literal f) (moved f must c u) (marks_of c u)
      (marks_of (new_client f must (moved f must c u) c)
      (Some (new_user f must (moved f must c u) u))) must
  others_move u =
      let can = can_move ask c u in
      record {
        kept = move_keep can;
        client = client_forth must c can;
        user = user_forth f must c u;
        back = λ w l h e. (moved_kept can w l h e).1;
        client_back = client_back must c can;
        user_back = user_back f must c u can;
      }

  -- where no user name that is tried has a name, none that isn't listed has one, as far as it is a
  -- level
  others_level : (u : Option (List ℕ)) → mark_passes (is_other users) u ≡ true
      → can_be_id c ≡ true
      → ((w : List ℕ) → is_tried_user f must w ≡ true → is_named w users ≡ false
      → (t : List ℕ) → is_tried_client f (level_of (Some w)) must t ≡ true
      → FindsNothing (start_at names) 200 (marks_of t (level_of (Some w))) must cover)
      → FindsNothing (start_at names) 200 (marks_of c u) must cover
  others_level u other id none ls s few =
      let w = new_user f must (moved f must c u) u in
      let is = new_user_is u other in
      let level = level_of_choice f w is.choice in
      let t = new_client f must (moved f must c u) c in
      let miss = subst (λ m. FindsNothing (start_at names) 200 (marks_of t m) must cover) level
      (none w is.tried is.unlisted t
      (subst (λ m. is_tried_client f m must t ≡ true) (sym level) (new_client_is u id))) in
      false_from_ne_true (hits (marks_of c u) ls must cover)
      (moved_hit ask c (can_move ask c u) (λ m h. h)
      (λ e l. ap (λ m. has_mark (codes "%u") m && is_user l u) e) u (Some w) (others_move u) miss
      ls s few)

  pub others_none : (x : List ℕ) → is_other users x ≡ true → can_be_id c ≡ true
      → ((w : List ℕ) → is_tried_user f must w ≡ true → is_named w users ≡ false
      → (t : List ℕ) → is_tried_client f (level_of (Some w)) must t ≡ true
      → FindsNothing (start_at names) 200 (marks_of t (level_of (Some w))) must cover)
      → FindsNothing (start_at names) 200 (marks_of c (level_of (Some x))) must cover
  others_none x other id none =
      others_level (level_of (Some x)) (level_known (is_other users) (Some x) other) id none
