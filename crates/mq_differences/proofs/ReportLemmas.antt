-- Differences that are shown.
use Rattle.std.proofs.Common.{◌≡◌, ◌==◌, ◌<◌, ℕ, Bool, true, false, not, ◌&&◌, ◌||◌, List, []}
use Rattle.std.proofs.Common.{◌∷◌, ◌++◌, Option, Some, None, refl, ap, sym, ◌∙◌, subst, arith}
use Rattle.std.proofs.Common.{bytes_eq, string_bytes, length, get_or, take, ltb, ◌+◌, ◌≤◌, zero, suc}
use Rattle.std.specs.Prelude.{if◌then◌else◌}
use Rattle.std.specs.List.{list_any}
use Rattle.std.proofs.lemmas.Bool.{and_parts, ltb-true, ltb-false}
use Rattle.std.proofs.lemmas.Bool.Decides.{nat_tests}
use Rattle.std.proofs.lemmas.List.Elements.{All-contains, All-push}
use Rattle.std.proofs.lemmas.List.Quantifiers.{all_pairs_push}
use Rattle.mq_topic.proofs.ByteLemmas.{text_is}
use Rattle.mq_acl.specs.Access.{begins_with_dollar, is_deny}
use Rattle.mq_acl.specs.Rows.{AclRow}
use Rattle.mq_acl.specs.Views.{row_view, row_views}
use Rattle.mq_acl.specs.declared.access.Direction.{Direction}
use Rattle.mq_acl.specs.declared.access.Direction.TheVariants.{Reading, Writing}
use Rattle.mq_acl.specs.declared.row.Row.{Row}
use Rattle.mq_acl.specs.declared.rules.Rules.{Rules}
use Rattle.mq_witness.specs.Asked.{AskedRows}
use Rattle.mq_differences.specs.Classes.{is_in, is_listed}
use Rattle.mq_differences.specs.Differences.{is_like, is_shown_of, same_class, same_direction}
use Rattle.mq_differences.specs.Differences.{same_reason, same_reasons, same_start, same_way}
use Rattle.mq_differences.specs.Questions.{AreShown, AreShownBy, AreShownOf, HasDenies, IsDeniedAt}
use Rattle.mq_differences.specs.Questions.{asked_in, denied_cover}
use Rattle.mq_differences.specs.Questions.{denied_must, granted_cover, is_shown}
use Rattle.mq_differences.specs.Questions.{must_of}
use Rattle.mq_differences.specs.Reasons.{reason_of}
use Rattle.mq_differences.specs.Reports.{Grows, IsSound, added}
use Rattle.mq_differences.specs.declared.class.Class.{Class}
use Rattle.mq_differences.specs.declared.class.Class.TheVariants as classes
use Rattle.mq_differences.specs.declared.difference.Difference.{Difference}
use Rattle.mq_differences.specs.declared.gains.Question.{Question}
use Rattle.mq_differences.specs.declared.marks.Marked.{Marked}
use Rattle.mq_differences.specs.declared.reason.Reason.{Reason}
use Rattle.mq_differences.specs.declared.reason.Reason.TheVariants.{Broker, Deny, Grant, NoGrant}
use Rattle.mq_differences.specs.declared.way.Way.{Way}
use Rattle.mq_differences.specs.declared.way.Way.TheVariants.{Gained, Lost}
use Rattle.mq_differences.proofs.AnyLemmas.{any_kept, any_last}
use Rattle.mq_differences.proofs.FirstLemmas.{none_at}
use Rattle.mq_differences.proofs.MarkLemmas.{get_same}

-- ---- what is the same
pub way_is : (a b : Way) → same_way a b ≡ true → a ≡ b
way_is Gained Gained e = refl
way_is Gained Lost e = absurd (let k : false ≡ true = e in cc)
way_is Lost Gained e = absurd (let k : false ≡ true = e in cc)
way_is Lost Lost e = refl

pub direction_is : (a b : Direction) → same_direction a b ≡ true → a ≡ b
direction_is Reading Reading e = refl
direction_is Reading Writing e = absurd (let k : false ≡ true = e in cc)
direction_is Writing Reading e = absurd (let k : false ≡ true = e in cc)
direction_is Writing Writing e = refl

line_is : (a b : ℕ) → (a == b) ≡ true → a ≡ b
line_is a b e = grind (arith, nat_tests)

pub reason_is : (a b : Reason) → same_reason a b ≡ true → a ≡ b
reason_is (Deny line) (Deny other) e = ap Deny (line_is line other e)
reason_is (Deny line) (Grant other) e = absurd (let k : false ≡ true = e in cc)
reason_is (Deny line) NoGrant e = absurd (let k : false ≡ true = e in cc)
reason_is (Deny line) Broker e = absurd (let k : false ≡ true = e in cc)
reason_is (Grant line) (Deny other) e = absurd (let k : false ≡ true = e in cc)
reason_is (Grant line) (Grant other) e = ap Grant (line_is line other e)
reason_is (Grant line) NoGrant e = absurd (let k : false ≡ true = e in cc)
reason_is (Grant line) Broker e = absurd (let k : false ≡ true = e in cc)
reason_is NoGrant (Deny line) e = absurd (let k : false ≡ true = e in cc)
reason_is NoGrant (Grant line) e = absurd (let k : false ≡ true = e in cc)
reason_is NoGrant NoGrant e = refl
reason_is NoGrant Broker e = absurd (let k : false ≡ true = e in cc)
reason_is Broker (Deny line) e = absurd (let k : false ≡ true = e in cc)
reason_is Broker (Grant line) e = absurd (let k : false ≡ true = e in cc)
reason_is Broker NoGrant e = absurd (let k : false ≡ true = e in cc)
reason_is Broker Broker e = refl

start_is : (a b : List ℕ) → same_start a b ≡ true → begins_with_dollar a ≡ begins_with_dollar b
start_is a b e = at (begins_with_dollar a) (begins_with_dollar b) e
  where
    at : (x y : Bool) → (if x then y else not y) ≡ true → x ≡ y
    at true true e = refl
    at true false e = absurd (let k : false ≡ true = e in cc)
    at false true e = absurd (let k : false ≡ true = e in cc)
    at false false e = refl

-- one class has whom the other has
class_like : (old new : List AclRow) (user : Option (List ℕ)) (a b : Class)
    → same_class a b ≡ true → is_in old new user b ≡ true → is_in old new user a ≡ true
class_like old new user classes.Anonymous classes.Anonymous f e = e
class_like old new user classes.Anonymous (classes.User name) f e =
    absurd (let k : false ≡ true = f in cc)
class_like old new user classes.Anonymous (classes.Others name) f e =
    absurd (let k : false ≡ true = f in cc)
class_like old new user (classes.User name) classes.Anonymous f e =
    absurd (let k : false ≡ true = f in cc)
class_like old new None (classes.User name) (classes.User other) f e =
    absurd (let k : false ≡ true = e in cc)
class_like old new (Some user) (classes.User name) (classes.User other) f e =
    subst (λ t. (bytes_eq user t && is_listed old new user) ≡ true)
    (sym (text_is (string_bytes name) (string_bytes other) f)) e
class_like old new user (classes.User name) (classes.Others other) f e =
    absurd (let k : false ≡ true = f in cc)
class_like old new user (classes.Others name) classes.Anonymous f e =
    absurd (let k : false ≡ true = f in cc)
class_like old new user (classes.Others name) (classes.User other) f e =
    absurd (let k : false ≡ true = f in cc)
class_like old new None (classes.Others name) (classes.Others other) f e = e
class_like old new (Some user) (classes.Others name) (classes.Others other) f e = e

-- what two differences have in common, part by part
record AreAlike (d e : Difference) : Type 0 where
  class : same_class d.class e.class ≡ true
  direction : d.direction ≡ e.direction
  way : d.way ≡ e.way
  start : begins_with_dollar d.topic ≡ begins_with_dollar e.topic
  old_reason : d.old_reason ≡ e.old_reason
  new_reason : d.new_reason ≡ e.new_reason

alike : (d e : Difference) → is_like d e ≡ true → AreAlike d e
alike d e h =
    let four = and_parts (same_class d.class e.class && same_direction d.direction e.direction
    && same_way d.way e.way && same_start d.topic e.topic) (same_reasons d e) h in
    let three = and_parts (same_class d.class e.class && same_direction d.direction e.direction
    && same_way d.way e.way) (same_start d.topic e.topic) four.0 in
    let two = and_parts (same_class d.class e.class && same_direction d.direction e.direction)
    (same_way d.way e.way) three.0 in
    let one = and_parts (same_class d.class e.class) (same_direction d.direction e.direction)
    two.0 in
    let reasons = and_parts (same_reason d.old_reason e.old_reason)
    (same_reason d.new_reason e.new_reason) four.1 in
    record {
      class = one.0;
      direction = direction_is d.direction e.direction one.1;
      way = way_is d.way e.way two.1;
      start = start_is d.topic e.topic three.1;
      old_reason = reason_is d.old_reason e.old_reason reasons.0;
      new_reason = reason_is d.new_reason e.new_reason reasons.1;
    }

-- what is shown by a difference is shown by one that is like it
pub shown_like : (rules : Rules) (old new : List Row) (way : Way) (direction : Direction) (client : List ℕ)
    (user : Option (List ℕ)) (topic : List ℕ) (d e : Difference) → is_like d e ≡ true
    → is_shown_of rules old new way direction client user topic e ≡ true
    → is_shown_of rules old new way direction client user topic d ≡ true
shown_like rules old new way direction client user topic d e h t =
    let like = alike d e h in
    let four = and_parts (is_in (row_views old) (row_views new) user e.class
    && same_direction direction e.direction && same_way way e.way && same_start topic e.topic)
    (same_reason (reason_of rules old client user topic direction) e.old_reason
    && same_reason (reason_of rules new client user topic direction) e.new_reason) t in
    let three = and_parts (is_in (row_views old) (row_views new) user e.class
    && same_direction direction e.direction && same_way way e.way) (same_start topic e.topic)
    four.0 in
    let two = and_parts (is_in (row_views old) (row_views new) user e.class
    && same_direction direction e.direction) (same_way way e.way) three.0 in
    let one = and_parts (is_in (row_views old) (row_views new) user e.class)
    (same_direction direction e.direction) two.0 in
    let reasons = and_parts (same_reason (reason_of rules old client user topic direction) e.old_reason)
    (same_reason (reason_of rules new client user topic direction) e.new_reason) four.1 in
    rw (
      class_like (row_views old) (row_views new) user d.class e.class like.class one.0,
      ap (same_direction direction) like.direction ∙ one.1,
      ap (same_way way) like.way ∙ two.1,
      ap (λ b. if begins_with_dollar topic then b else not b) like.start ∙ three.1,
      ap (same_reason (reason_of rules old client user topic direction)) like.old_reason ∙ reasons.0,
      ap (same_reason (reason_of rules new client user topic direction)) like.new_reason ∙ reasons.1,
    ) refl

-- so it is by one of those that are shown
pub shown_there : (rules : Rules) (old new : List Row) (way : Way) (direction : Direction) (client : List ℕ)
    (user : Option (List ℕ)) (topic : List ℕ) (d : Difference) (shown : List Difference)
    → list_any (λ e. is_like e d) shown ≡ true
    → is_shown_of rules old new way direction client user topic d ≡ true
    → list_any (is_shown_of rules old new way direction client user topic) shown ≡ true
shown_there rules old new way direction client user topic d [] h t = absurd (let k : false ≡ true = h in cc)
shown_there rules old new way direction client user topic d (e ∷ shown) h t =
    at (is_like e d) (list_any (λ e. is_like e d) shown)
    (is_shown_of rules old new way direction client user topic e)
    (list_any (is_shown_of rules old new way direction client user topic) shown) h
    (λ k. shown_like rules old new way direction client user topic e d k t)
    (λ k. shown_there rules old new way direction client user topic d shown k t)
  where
    at : (p q r s : Bool) → (p || q) ≡ true → (p ≡ true → r ≡ true) → (q ≡ true → s ≡ true)
        → (r || s) ≡ true
    at true q r s h f g = rw (f refl) refl
    at false q true s h f g = refl
    at false q false s h f g = g h

-- ---- one more
pub added_shown : (rules : Rules) (old new : List Row) (way : Way) (direction : Direction) (client : List ℕ)
    (user : Option (List ℕ)) (topic : List ℕ) (d : Difference) (before after : List Difference)
    → after ≡ added before d → is_shown_of rules old new way direction client user topic d ≡ true
    → list_any (is_shown_of rules old new way direction client user topic) after ≡ true
added_shown rules old new way direction client user topic d before after e t =
    at (list_any (λ e. is_like e d) before) refl e
  where
    at : (b : Bool) → list_any (λ e. is_like e d) before ≡ b
        → after ≡ (if b then before else before ++ d ∷ [])
        → list_any (is_shown_of rules old new way direction client user topic) after ≡ true
    at true h f = ap (list_any (is_shown_of rules old new way direction client user topic)) f
        ∙ shown_there rules old new way direction client user topic d before h t
    at false h f =
        any_last (is_shown_of rules old new way direction client user topic) before after d f t

pub added_grows : (old new : List Row) (asked : AskedRows) (d : Difference)
    (before after : List Difference) → after ≡ added before d → IsSound old new asked d
    → Grows old new asked before after
added_grows old new asked d before after e s =
    at (list_any (λ e. is_like e d) before) refl e
  where
    at : (b : Bool) → list_any (λ e. is_like e d) before ≡ b
        → after ≡ (if b then before else before ++ d ∷ []) → Grows old new asked before after
    at true h f = subst (Grows old new asked before) (sym f)
        (record { report = λ r. r; kept = λ p k. k })
    at false h f = subst (Grows old new asked before) (sym f) (record {
      report = λ r. record {
        sound = All-push (IsSound old new asked) before d r.sound s;
        apart = all_pairs_push (λ e f. is_like e f ≡ false) before d r.apart
            (none_at (λ e. is_like e d) before h);
      };
      kept = λ p k. any_kept p before (d ∷ []) (before ++ d ∷ []) refl k;
    })

-- ---- step by step
pub grows_none : (old new : List Row) (asked : AskedRows) (shown : List Difference)
    → Grows old new asked shown shown
grows_none old new asked shown = record { report = λ r. r; kept = λ p k. k }

pub grows_both : (old new : List Row) (asked : AskedRows) (a b c : List Difference)
    → Grows old new asked a b → Grows old new asked b c → Grows old new asked a c
grows_both old new asked a b c f g = record {
  report = λ r. g.report (f.report r);
  kept = λ p k. g.kept p (f.kept p k);
}

-- what is shown of a question stays shown
abbrev pub GrowsFor : Question → (before after : List Difference) → Type 0
GrowsFor q before after =
    Grows q.lists.now.old.now q.lists.now.new.now (asked_in q) before after

pub grows_twice : (q : Question) (a b c : List Difference) → GrowsFor q a b → GrowsFor q b c
    → GrowsFor q a c
grows_twice q a b c f g =
    grows_both q.lists.now.old.now q.lists.now.new.now (asked_in q) a b c f g

pub shown_kept : (q : Question) (must cover : List AclRow) (before after : List Difference)
    → GrowsFor q before after → AreShown q must cover before → AreShown q must cover after
shown_kept q must cover before after g t client topic user p e =
    g.kept (is_shown q client user topic) (t client topic user p e)

pub kind_kept : (dollar : Bool) (q : Question) (must cover : List AclRow)
    (before after : List Difference) → GrowsFor q before after
    → AreShownOf dollar q must cover before → AreShownOf dollar q must cover after
kind_kept dollar q must cover before after g t client topic user p kind e =
    g.kept (is_shown q client user topic) (t client topic user p kind e)

denied_kept : (q : Question) (before : List Marked) (grant : Marked) (place : ℕ)
    (shown more : List Difference) → GrowsFor q shown more → IsDeniedAt q before grant place shown
    → IsDeniedAt q before grant place more
denied_kept q before grant place shown more g t d low deny =
    shown_kept q (denied_must q place d grant) (denied_cover q place before) shown more g (t d low deny)

-- ---- a row that grants
-- of these places of rows that deny, the first are done
pub record IsDoneTo (q : Question) (before : List Marked) (grant : Marked) (places : List ℕ) (n : ℕ)
    (first shown : List Difference) : Type 0 where
  pub grows : GrowsFor q first shown
  pub granted : AreShown q (must_of None (row_view grant.row.now)) (granted_cover q before) shown
  pub denied : (k d : ℕ) → k < n → k < length places
      → IsDeniedAt q before grant (get_or places k d) shown

pub get_number : (xs : List ℕ) (k a b : ℕ) → k < length xs → get_or xs k a ≡ get_or xs k b
get_number [] k a b h = absurd (omega arith)
get_number (x ∷ xs) zero a b h = refl
get_number (x ∷ xs) (suc k) a b h = get_number xs k a b (omega arith)

pub done_one : (q : Question) (before : List Marked) (grant : Marked) (places : List ℕ) (n : ℕ)
    (place : ℕ) (first shown more : List Difference) → n < length places
    → place ≡ get_or places n place → GrowsFor q shown more → IsDeniedAt q before grant place more
    → IsDoneTo q before grant places n first shown → IsDoneTo q before grant places (n + 1) first more
done_one q before grant places n place first shown more low is g here s = record {
  grows = grows_twice q first shown more s.grows g;
  granted = shown_kept q (must_of None (row_view grant.row.now))
      (granted_cover q before) shown more g
      s.granted;
  denied = λ k d below in_range. at k d below in_range (ltb k n) refl;
}
  where
    at : (k d : ℕ) → k < n + 1 → k < length places → (b : Bool) → ltb k n ≡ b
        → IsDeniedAt q before grant (get_or places k d) more
    at k d below in_range true e =
        denied_kept q before grant (get_or places k d) shown more g
        (s.denied k d (ltb-true k n e) in_range)
    at k d below in_range false e =
        let above = ltb-false k n e in
        let same : n ≡ k = omega arith in
        subst (λ j. IsDeniedAt q before grant (get_or places j d) more) same
        (subst (λ j. IsDeniedAt q before grant j more) (is ∙ get_number places n place d low) here)

pub done_all : (q : Question) (before : List Marked) (grant : Marked) (places : List ℕ) (n : ℕ)
    (first shown : List Difference) → length places ≤ n
    → HasDenies q.from.now.rows.items places
    → IsDoneTo q before grant places n first shown → AreShownBy q before grant shown
done_all q before grant places n first shown end has s = record {
  granted = s.granted;
  denied = λ place d low deny.
      All-contains (λ k. IsDeniedAt q before grant k shown) places place
      (λ k e in_range. s.denied k e (omega arith) in_range) (has place d low deny) d low deny;
}

-- ---- all that grant
-- of the rows that decide, what the first of them grant is shown
pub record AreDoneTo (q : Question) (n : ℕ) (first shown : List Difference) : Type 0 where
  pub grows : GrowsFor q first shown
  pub granted : (place : ℕ) (d : Marked) → place < n → place < length q.to.now.rows.items
      → is_deny (row_view (get_or q.to.now.rows.items place d).row.now).access ≡ false
      → AreShownBy q (take place q.to.now.rows.items) (get_or q.to.now.rows.items place d) shown

shown_by_kept : (q : Question) (done : List Marked) (grant : Marked)
    (before after : List Difference)
    → GrowsFor q before after → AreShownBy q done grant before → AreShownBy q done grant after
shown_by_kept q done grant before after g t = record {
  granted = shown_kept q (must_of None (row_view grant.row.now)) (granted_cover q done) before after g
      t.granted;
  denied = λ place. denied_kept q done grant place before after g (t.denied place);
}

pub are_done_none : (q : Question) (shown : List Difference) → AreDoneTo q 0 shown shown
are_done_none q shown = record {
  grows = grows_none q.lists.now.old.now q.lists.now.new.now (asked_in q) shown;
  granted = λ place d low. absurd (omega arith);
}

pub are_done_one : (q : Question) (n : ℕ) (grant : Marked) (first shown more : List Difference)
    → n < length q.to.now.rows.items → grant ≡ get_or q.to.now.rows.items n grant
    → GrowsFor q shown more
    → (is_deny (row_view grant.row.now).access ≡ false
    → AreShownBy q (take n q.to.now.rows.items) grant more)
    → AreDoneTo q n first shown → AreDoneTo q (n + 1) first more
are_done_one q n grant first shown more low is g here s = record {
  grows = grows_twice q first shown more s.grows g;
  granted = λ place d below in_range. at place d below in_range (ltb place n) refl;
}
  where
    at : (place : ℕ) (d : Marked) → place < n + 1 → place < length q.to.now.rows.items
        → (b : Bool) → ltb place n ≡ b
        → is_deny (row_view (get_or q.to.now.rows.items place d).row.now).access ≡ false
        → AreShownBy q (take place q.to.now.rows.items) (get_or q.to.now.rows.items place d) more
    at place d below in_range true e deny =
        shown_by_kept q (take place q.to.now.rows.items) (get_or q.to.now.rows.items place d)
        shown more g (s.granted place d (ltb-true place n e) in_range deny)
    at place d below in_range false e deny =
        let above = ltb-false place n e in
        let same : n ≡ place = omega arith in
        let one : grant ≡ get_or q.to.now.rows.items place d =
        is ∙ get_same q.to.now.rows.items n grant d low
        ∙ ap (λ k. get_or q.to.now.rows.items k d) same in
        subst (λ k. AreShownBy q (take k q.to.now.rows.items) (get_or q.to.now.rows.items place d)
        more) same
        (subst (λ m. AreShownBy q (take n q.to.now.rows.items) m more) one
        (here (ap (λ (m : Marked). is_deny (row_view m.row.now).access) one ∙ deny)))
