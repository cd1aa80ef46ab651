-- What a comparison with a list that was made of a filter says of the list.
use Rattle.std.proofs.Common.{◌≡◌, ℕ, Bool, true, false, not, ◌&&◌, ◌||◌, cond, List, []}
use Rattle.std.proofs.Common.{◌∷◌, Option, Some, None, All, refl, ap, sym, ◌∙◌, subst}
use Rattle.std.proofs.Common.{arith, bytes_eq, string_bytes, get_or}
use Rattle.std.specs.Prelude.{AllPairs}
use Rattle.std.specs.List.{filter, list_any}
use Rattle.std.proofs.lemmas.Bool.{and_parts, eq-eqb}
use Rattle.std.proofs.lemmas.List.Elements.{All-cons, All-filter, All-head, All-nil, All-tail}
use Rattle.std.proofs.lemmas.List.Kept.{AllPairs-filter}
use Rattle.mq_acl.specs.AccessLists.{allow_by}
use Rattle.mq_acl.specs.Refused.{refuses}
use Rattle.mq_acl.specs.Views.{row_views}
use Rattle.mq_acl.specs.declared.access.Direction.{Direction}
use Rattle.mq_acl.specs.declared.row.Row.{Row}
use Rattle.mq_acl.specs.declared.rules.Rules.{Rules}
use Rattle.mq_acl.specs.declared.rules.Rules.TheVariants.{Own, Mosquitto}
use Rattle.mq_shapes.specs.Swaps.{swap_levels}
use Rattle.mq_shapes.specs.Swaps as leveled
use Rattle.mq_witness.specs.Asked.{AskedRows}
use Rattle.mq_witness.specs.Roots.{same}
use Rattle.mq_witness.specs.Ruled.{names_by}
use Rattle.mq_witness.specs.Swaps.{swap, swap_user, swap_name}
use Rattle.mq_differences.specs.Classes.{is_in, user_of}
use Rattle.mq_differences.specs.Differences.{AreUnnamed, IsKnown, IsMarked, ShowsAll, is_shown_of}
use Rattle.mq_differences.specs.Differences.{same_way}
use Rattle.mq_differences.specs.Differences.{same_class, same_direction, same_reason, same_start}
use Rattle.mq_differences.specs.Differences as differences
use Rattle.mq_differences.specs.Reasons.{reason_of}
use Rattle.mq_differences.specs.declared.class.Class.{Class}
use Rattle.mq_differences.specs.declared.class.Class.TheVariants as classes
use Rattle.mq_differences.specs.declared.difference.Difference.{Difference}
use Rattle.mq_differences.specs.declared.reason.Reason.{Reason}
use Rattle.mq_differences.specs.declared.reason.Reason.TheVariants.{Broker, Deny, Grant, NoGrant}
use Rattle.mq_differences.specs.declared.way.Way.{Way}
use Rattle.mq_differences.specs.declared.way.Way.TheVariants.{Gained, Lost}
use Rattle.mq_who.specs.Made.{IsMade, is_decided}
use Rattle.mq_who.specs.Who.{AreMarked, IsListing, IsReal, Shows, ShowsOthers}
use Rattle.mq_who.specs.Who.{is_asked, is_like, is_listed_in, is_member}
use Rattle.mq_who.proofs.AskedLemmas.{asked_found}
use Rattle.mq_who.proofs.MadeLemmas.{case_changes, change_is, decides, way_of}
use Rattle.mq_who.proofs.NamedLemmas.{names_are, users_are}

-- ---- those that a row of the made list decides
way_itself : (way : Way) → same_way way way ≡ true
way_itself Gained = refl
way_itself Lost = refl

reason_itself : (reason : Reason) → same_reason reason reason ≡ true
reason_itself (Deny line) = eq-eqb line line refl
reason_itself (Grant line) = eq-eqb line line refl
reason_itself NoGrant = refl
reason_itself Broker = refl

same_decided : (allows : Bool) (reason : Reason) → same_reason (decides allows) reason ≡ true
    → is_decided reason ≡ true
same_decided allows (Deny line) e = refl
same_decided allows (Grant line) e = refl
same_decided true NoGrant e = absurd (let q : false ≡ true = e in cc)
same_decided false NoGrant e = absurd (let q : false ≡ true = e in cc)
same_decided true Broker e = absurd (let q : false ≡ true = e in cc)
same_decided false Broker e = absurd (let q : false ≡ true = e in cc)

-- what all have, those that are kept have
all_kept : {X : Type 0} (P Q : X → Type 0) (f : X → Bool)
    → ((x : X) → f x ≡ true → P x → Q x) → (xs : List X) → All P xs → All Q (filter f xs)
all_kept P Q f step [] h = All-nil Q
all_kept P Q f step (x ∷ xs) h =
    at (f x) refl (All-head P x xs h) (all_kept P Q f step xs (All-tail P x xs h))
  where
    at : (b : Bool) → f x ≡ b → P x → All Q (filter f xs)
        → All Q (cond b (x ∷ filter f xs) (filter f xs))
    at true e p q = All-cons Q x (filter f xs) (step x e p) q
    at false e p q = q

-- what passes is kept, and passes the other test
pub any_kept : {X : Type 0} (p q f : X → Bool)
    → ((x : X) → p x ≡ true → (q x ≡ true) × (f x ≡ true)) → (xs : List X)
    → list_any p xs ≡ true → list_any q (filter f xs) ≡ true
any_kept p q f step [] h = absurd (let r : false ≡ true = h in cc)
any_kept p q f step (x ∷ xs) h = at (p x) (f x) refl refl h (any_kept p q f step xs)
  where
    second : (a b : Bool) → b ≡ true → (a || b) ≡ true
    second true b e = refl
    second false b e = e

    at : (a b : Bool) → p x ≡ a → f x ≡ b → (a || list_any p xs) ≡ true
        → (list_any p xs ≡ true → list_any q (filter f xs) ≡ true)
        → list_any q (cond b (x ∷ filter f xs) (filter f xs)) ≡ true
    at true true e g h k = rw (step x e).0 refl
    at true false e g h k = absurd (let r : true ≡ false = sym (step x e).1 ∙ g in cc)
    at false true e g h k = second (q x) (list_any q (filter f xs)) (k h)
    at false false e g h k = k h

-- of this way, and decided so in the list that was made
abbrev IsOf : (allows : Bool) → Difference → Type 0
IsOf allows d = (d.way ≡ way_of allows) × (d.new_reason ≡ decides allows)

module _ (rules : Rules) (allows : Bool) (rows : List Row) (wanted : List ℕ) (made : List Row)
    (m : IsMade rules allows rows wanted made) where
  abbrev kept : Difference → Bool
  kept d = is_decided d.new_reason

  -- ---- the classes
  member_is : (user : Option (List ℕ)) (class : Class)
      → is_in (row_views rows) (row_views made) user class
      ≡ is_member (row_views rows) user class
  member_is None classes.Anonymous = refl
  member_is None (classes.User name) = refl
  member_is None (classes.Others name) = refl
  member_is (Some user) classes.Anonymous = refl
  member_is (Some user) (classes.User name) =
      ap (λ b. bytes_eq user (string_bytes name) && b)
      (users_are rules allows rows wanted made m user)
  member_is (Some user) (classes.Others name) =
      ap not (users_are rules allows rows wanted made m user)

  -- ---- what is listed
  -- what changes, and is decided by a row of it, is what is asked
  asked_of : (d : Difference) (client : List ℕ) (user : Option (List ℕ)) (topic : List ℕ)
      → kept d ≡ true → differences.Shows rules rows made d client user topic
      → Shows rules allows rows wanted d client user topic × IsOf allows d
  asked_of d client user topic k s =
      let is = change_is rules allows rows wanted made m d.way client user topic d.direction
      s.change (sym (ap is_decided s.new_reason) ∙ k) in (
        record {
          client_fits = s.client_fits;
          user_fits = s.user_fits;
          valid = s.valid;
          member = sym (member_is user d.class) ∙ s.class;
          case = is.0;
          reason = s.old_reason;
        },
        (is.1.0, s.new_reason ∙ is.1.1),
      )

  listed : (direction : Direction) (client : List ℕ) (user : Option (List ℕ)) (topic : List ℕ)
      → reason_of rules made client user topic direction ≡ decides allows → (d : Difference)
      → is_shown_of rules rows made (way_of allows) direction client user topic d ≡ true
      → (is_listed_in rules rows direction client user topic d ≡ true) × (kept d ≡ true)
  listed direction client user topic r d e =
      let both = parts (is_in (row_views rows) (row_views made) user d.class)
      (is_member (row_views rows) user d.class) (same_direction direction d.direction)
      (same_way (way_of allows) d.way) (same_start topic d.topic)
      (same_reason (reason_of rules rows client user topic direction) d.old_reason)
      (same_reason (reason_of rules made client user topic direction) d.new_reason)
      (member_is user d.class) e in (
        both.0,
        same_decided allows d.new_reason (sym (ap (λ t. same_reason t d.new_reason) r) ∙ both.1),
      )
    where
      parts : (i j dir w s o n : Bool) → i ≡ j → (i && dir && w && s && (o && n)) ≡ true
          → ((j && dir && s && o) ≡ true) × (n ≡ true)
      parts true j true true true true true same e = (rw (sym same) refl, refl)
      parts true j true true true true false same e = absurd (let q : false ≡ true = e in cc)
      parts true j true true true false n same e = absurd (let q : false ≡ true = e in cc)
      parts true j true true false o n same e = absurd (let q : false ≡ true = e in cc)
      parts true j true false s o n same e = absurd (let q : false ≡ true = e in cc)
      parts true j false w s o n same e = absurd (let q : false ≡ true = e in cc)
      parts false j dir w s o n same e = absurd (let q : false ≡ true = e in cc)

  shows_by : (r : Rules) → rules ≡ r → (d : Difference) (client : List ℕ) (user : Option (List ℕ))
      (topic : List ℕ) → kept d ≡ true → differences.Shows r rows made d client user topic
      → Shows r allows rows wanted d client user topic
  shows_by r e d client user topic k =
      subst (λ (x : Rules). differences.Shows x rows made d client user topic
      → Shows x allows rows wanted d client user topic) e
      (λ s. (asked_of d client user topic k s).0)

  stands_so : (r : Rules) → rules ≡ r → (asked : AskedRows) (d : Difference) → kept d ≡ true
      → differences.ShowsOthers r rows made asked d → ShowsOthers r allows rows wanted asked d
  stands_so Own e asked d k s = λ text other stands valid taken.
      shows_by Own e d (swap text other (string_bytes d.client))
      (swap_user text other (user_of d.class)) (swap_name text other d.topic) k
      (s text other stands valid taken)
  stands_so Mosquitto e asked d k s = λ level other stands client user valid taken.
      shows_by Mosquitto e d (swap_levels level other (string_bytes d.client))
      (leveled.swap_user level other (user_of d.class)) (swap_levels level other d.topic) k
      (s level other stands client user valid taken)

  marked_are : (all : List Difference) → differences.AreMarked rules rows made all
      → AreMarked rules allows rows wanted (filter kept all)
  marked_are all a = record {
    asked = a.asked;
    rules_are = a.rules_are;
    names = λ text. ap (names_by a.asked.rules text) a.rows
        ∙ names_are rules allows rows wanted made m a.asked.rules text;
    marked = All-filter kept (IsMarked a.asked) all a.marked;
    unnamed = All-filter kept (AreUnnamed a.asked) all a.unnamed;
    known = All-filter kept (IsKnown a.asked) all a.known;
    stands = all_kept (differences.ShowsOthers rules rows made a.asked)
        (ShowsOthers rules allows rows wanted a.asked) kept (stands_so rules refl a.asked) all
        a.stands;
  }

  -- no two that are kept are alike
  apart : (all : List Difference) → All (differences.IsReal rules rows made) all
      → differences.AreApart all → AllPairs (λ d e. is_like d e ≡ false) (filter kept all)
  apart all real once i j d low in_range =
      both (get_or (filter kept all) i d) (get_or (filter kept all) j d) (are i d (omega arith))
      (are j d in_range)
      (AllPairs-filter (λ d e. differences.is_like d e ≡ false) kept all once i j d low in_range)
    where
      are : All (IsOf allows) (filter kept all)
      are = all_kept (differences.IsReal rules rows made) (IsOf allows) kept
          (λ d k s. (asked_of d (string_bytes d.client) (user_of d.class) d.topic k s).1) all real

      both : (d e : Difference) → IsOf allows d → IsOf allows e
          → differences.is_like d e ≡ false
          → is_like d e ≡ false
      both d e k l n =
          let same : same_way d.way e.way ≡ true =
          (λ i. same_way (k.0 i) (l.0 i)) ∙ way_itself (way_of allows) in
          let decided : same_reason d.new_reason e.new_reason ≡ true =
          (λ i. same_reason (k.1 i) (l.1 i)) ∙ reason_itself (decides allows) in
          parts (same_class d.class e.class) (same_direction d.direction e.direction)
          (same_way d.way e.way) (same_start d.topic e.topic)
          (same_reason d.old_reason e.old_reason) (same_reason d.new_reason e.new_reason) same
          decided n
        where
          parts : (c dir w s o n : Bool) → w ≡ true → n ≡ true
              → (c && dir && w && s && (o && n)) ≡ false → (c && dir && s && o) ≡ false
          parts true true w true true n x y e = rw (x, y) at e
          parts true true w true false n x y e = refl
          parts true true w false o n x y e = refl
          parts true false w s o n x y e = refl
          parts false dir w s o n x y e = refl

  pub listing : (all : List Difference) → ShowsAll rules rows made all
      → All (differences.IsReal rules rows made) all → differences.AreApart all
      → differences.AreMarked rules rows made all
      → IsListing rules allows rows wanted (filter kept all)
  listing all t r o a = record {
    lists = λ direction client topic user c u q v e.
        let parts = and_parts (not (refuses rules direction topic)
        && is_asked rules wanted client user topic)
        (same allows (allow_by rules (row_views rows) client user topic direction)) e in
        let is = case_changes rules allows rows wanted made m client user topic direction e
        (asked_found rules allows rows made wanted m client topic user direction u q parts.1
        (and_parts (not (refuses rules direction topic)) (is_asked rules wanted client user topic)
        parts.0).1) in
        any_kept (is_shown_of rules rows made (way_of allows) direction client user topic)
        (is_listed_in rules rows direction client user topic) kept
        (listed direction client user topic is.1) all
        (t (way_of allows) direction client topic user c u v is.0);
    real = all_kept (differences.IsReal rules rows made) (IsReal rules allows rows wanted) kept
        (λ d k s. (asked_of d (string_bytes d.client) (user_of d.class) d.topic k s).0) all r;
    once = apart all r o;
    marked = marked_are all a;
  }
