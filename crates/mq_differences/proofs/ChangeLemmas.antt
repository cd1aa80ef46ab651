-- All that changes from one list to another.
use Rattle.std.proofs.Common.{◌≡◌, ◌+◌, ◌<◌, ◌≤◌, ◌==◌, ℕ, Bool, true, false, not, ◌&&◌, cond, List}
use Rattle.std.proofs.Common.{[], ◌∷◌, ◌++◌, Option, Some, None, All, length, get_or, ltb, refl, ap}
use Rattle.std.proofs.Common.{sym, ◌∙◌, subst, arith, Bor, bytes_eq, zero, suc, Contains}
use Rattle.std.specs.List.{filter, list_any}
use Rattle.std.proofs.lemmas.Bool.{and_parts, ltb-true, ltb-false}
use Rattle.std.proofs.lemmas.List.Elements.{All-append, All-filter, All-nil, All-weaker}
use Rattle.std.proofs.lemmas.List.Folds.{list_any_at}
use Rattle.mq_topic.proofs.ByteLemmas.{text_is, text_itself}
use Rattle.mq_topic.specs.Texts.{is_name}
use Rattle.mq_acl.specs.AccessLists.{allow_by}
use Rattle.mq_acl.specs.Refused.{refuses}
use Rattle.mq_acl.specs.Rows.{AclRow}
use Rattle.mq_acl.specs.declared.rules.Rules.{Rules}
use Rattle.mq_acl.specs.Views.{line_views, owner_view, row_view, row_views}
use Rattle.mq_acl.specs.declared.access.Direction.{Direction}
use Rattle.mq_acl.specs.declared.access.Direction.TheVariants.{Reading, Writing}
use Rattle.mq_acl.specs.declared.row.Row.{Row}
use Rattle.mq_witness.specs.Asked.{AskedRows, is_client_of}
use Rattle.mq_witness.specs.Clients.{can_be_id}
use Rattle.mq_witness.specs.Literals.{is_among}
use Rattle.mq_witness.specs.Rows.{is_user_of}
use Rattle.mq_shapes.specs.declared.clients.Clients.{Clients}
use Rattle.mq_shapes.specs.declared.clients.Clients.TheVariants as clients
use Rattle.mq_witness.specs.declared.topics.Topics.TheVariants.{Open}
use Rattle.mq_differences.specs.ByOwner.{IsGrouped, is_for}
use Rattle.mq_differences.specs.Changes.{ShowsChangesIn, ShowsChangesOf}
use Rattle.mq_differences.specs.Faults.{IsComparisonFault}
use Rattle.mq_differences.specs.Steps.{enough_steps}
use Rattle.mq_differences.specs.declared.fault.ComparisonFault.{ComparisonFault}
use Rattle.mq_differences.specs.declared.fault.ComparisonFault.TheVariants as comparison
use Rattle.mq_differences.specs.declared.fault.Side.TheVariants.{Old, New}
use Rattle.mq_differences.specs.Classes.{can_be_user}
use Rattle.mq_differences.specs.Differences.{AreMarked, AreUnnamed, IsKnown, IsMarked, IsReal}
use Rattle.mq_differences.specs.Differences.{ShowsOthers, ShowsAll, is_change}
use Rattle.mq_differences.specs.Differences.{is_shown_of}
use Rattle.mq_differences.specs.Marks.{ArePlaced, IsKept, rows_of}
use Rattle.mq_differences.specs.Questions.{AreJudges, AreRowsFor, HasDenies, IsList, IsPoint}
use Rattle.mq_differences.specs.Questions.{IsStop, judging}
use Rattle.mq_differences.specs.Questions.{ranked_marks}
use Rattle.mq_differences.specs.Ranks.{is_judge, judges as judges_in, rank, ranked}
use Rattle.mq_differences.specs.Reports.{Grows, IsReport, IsSound}
use Rattle.mq_differences.specs.declared.by_owner.ByOwner.{ByOwner}
use Rattle.mq_differences.specs.declared.difference.Difference.{Difference}
use Rattle.mq_differences.specs.declared.judges.Judges.{Judges}
use Rattle.mq_differences.specs.declared.lists.Lists.{Lists}
use Rattle.mq_differences.specs.declared.marks.Marked.{Marked}
use Rattle.mq_differences.specs.declared.way.Way.{Way}
use Rattle.mq_differences.specs.declared.way.Way.TheVariants.{Gained, Lost}
use Rattle.mq_differences.proofs.DeciderLemmas.{allowed_open}
use Rattle.mq_differences.proofs.FirstLemmas.{first_place}
use Rattle.mq_differences.proofs.ReportLemmas.{grows_both}

-- ---- rows that are filtered
filter_rows : (p : Row → Bool) (ms : List Marked)
    → rows_of (filter (λ m. p m.row.now) ms) ≡ filter p (rows_of ms)
filter_rows p [] = refl
filter_rows p (m ∷ ms) = at (p m.row.now) (filter_rows p ms)
  where
    at : (b : Bool) → rows_of (filter (λ m. p m.row.now) ms) ≡ filter p (rows_of ms)
        → rows_of (cond b (m ∷ filter (λ m. p m.row.now) ms) (filter (λ m. p m.row.now) ms))
        ≡ cond b (m.row.now ∷ filter p (rows_of ms)) (filter p (rows_of ms))
    at true e = ap (λ l. m.row.now ∷ l) e
    at false e = e

-- the rows of a list for some clients
pub rows_for : (rows others : List Row) (by_owner : ByOwner) (c : Clients) (all : List Marked)
    → IsList rows others by_owner
    → ((marked : List Marked) → IsGrouped marked by_owner → ArePlaced marked
    → all ≡ filter (λ m. is_for c (row_view m.row.now).who) marked)
    → AreRowsFor rows others c all
rows_for rows others by_owner c all l f =
    let is = f l.all l.grouped l.placed in
    record {
      are = ap rows_of is ∙ filter_rows (λ (r : Row). is_for c (owner_view r.owner)) l.all
          ∙ ap (filter (λ (r : Row). is_for c (owner_view r.owner))) l.are;
      kept = subst (All (IsKept (row_views others))) (sym is)
          (All-filter (λ (m : Marked). is_for c (row_view m.row.now).who)
          (IsKept (row_views others)) l.all l.kept);
    }

-- those of them that decide
pub judges_of : (rules : Rules) (rows others : List Row) (c : Clients) (direction : Direction)
    (all : List Marked) (judges : Judges) → AreRowsFor rows others c all
    → judges.rows.items ≡ judging rules direction all
    → HasDenies judges.rows.items judges.denies.items
    → AreJudges rules rows others c direction judges
judges_of rules rows others c direction all judges a is denies = record {
  are = ap rows_of is ∙ four ∙ ap (judges_in rules direction) a.are;
  kept = subst (All (IsKept (row_views others))) (sym is)
      (All-append (IsKept (row_views others)) (ranked_marks rules direction 0 all) _ (at 0)
      (All-append (IsKept (row_views others)) (ranked_marks rules direction 1 all) _ (at 1)
      (All-append (IsKept (row_views others)) (ranked_marks rules direction 2 all) _ (at 2) (at 3))));
  denies = denies;
}
  where
    at : (place : ℕ) → All (IsKept (row_views others)) (ranked_marks rules direction place all)
    at place = All-filter (λ (m : Marked). is_judge direction (row_view m.row.now)
        && (rank rules (row_view m.row.now) == place)) (IsKept (row_views others)) all a.kept

    rows_both : (xs ys : List Marked) → rows_of (xs ++ ys) ≡ rows_of xs ++ rows_of ys
    rows_both [] ys = refl
    rows_both (x ∷ xs) ys = ap (λ l. x.row.now ∷ l) (rows_both xs ys)

    of_rank : (place : ℕ) → rows_of (ranked_marks rules direction place all)
        ≡ ranked rules direction place (rows_of all)
    of_rank place = filter_rows (λ (r : Row). is_judge direction (row_view r)
        && (rank rules (row_view r) == place)) all

    four : rows_of (judging rules direction all) ≡ judges_in rules direction (rows_of all)
    four =
        rows_both (ranked_marks rules direction 0 all) _
        ∙ (λ i. of_rank 0 i ++ (rows_both (ranked_marks rules direction 1 all) _
        ∙ (λ i. of_rank 1 i ++ (rows_both (ranked_marks rules direction 2 all) _
        ∙ (λ i. of_rank 2 i ++ of_rank 3 i)) i)) i)

-- ---- what was shown stays shown
pub shows_kept : (lists : Lists) (c : Clients) (way : Way) (direction : Direction)
    (before after : List Difference)
    → Grows lists.old.now lists.new.now lists.asked before after
    → ShowsChangesIn lists c way direction before → ShowsChangesIn lists c way direction after
shows_kept lists c way direction before after g t client topic user p e =
    g.kept (is_shown_of lists.asked.rules lists.old.now lists.new.now way direction client user topic)
    (t client topic user p e)

user_kept : (lists : Lists) (user : Option (List ℕ)) (before after : List Difference)
    → Grows lists.old.now lists.new.now lists.asked before after
    → ShowsChangesOf lists user before → ShowsChangesOf lists user after
user_kept lists user before after g t way direction client topic c u v e =
    g.kept (is_shown_of lists.asked.rules lists.old.now lists.new.now way direction client user topic)
    (t way direction client topic c u v e)

-- both ways, and both directions
pub shows_ways : (lists : Lists) (c : Clients) (direction : Direction) (shown : List Difference)
    → ShowsChangesIn lists c Gained direction shown → ShowsChangesIn lists c Lost direction shown
    → (way : Way) → ShowsChangesIn lists c way direction shown
shows_ways lists c direction shown g l Gained = g
shows_ways lists c direction shown g l Lost = l

pub shows_directions : (lists : Lists) (c : Clients) (shown : List Difference)
    → ((way : Way) → ShowsChangesIn lists c way Reading shown)
    → ((way : Way) → ShowsChangesIn lists c way Writing shown)
    → (way : Way) (direction : Direction) → ShowsChangesIn lists c way direction shown
shows_directions lists c shown r w way Reading = r way
shows_directions lists c shown r w way Writing = w way

-- what changes the broker doesn't refuse by itself
pub changed_open : (rules : Rules) (way : Way) (old new : List AclRow) (client : List ℕ)
    (user : Option (List ℕ)) (topic : List ℕ) (direction : Direction)
    → is_change rules way old new client user topic direction ≡ true
    → refuses rules direction topic ≡ false
changed_open rules Gained old new client user topic direction e =
    allowed_open rules new client user topic direction
    (and_parts (allow_by rules new client user topic direction) _ e).0
changed_open rules Lost old new client user topic direction e =
    allowed_open rules old client user topic direction
    (and_parts (allow_by rules old client user topic direction) _ e).0

-- ---- the clients
-- a client that a broker can have is one that questions are about
point : (lists : Lists) {c : Clients} (way : Way) (direction : Direction) (client : List ℕ)
    (user : Option (List ℕ)) (topic : List ℕ) → lists.asked.rows ≡ row_views lists.old.now ++ row_views lists.new.now
    → can_be_id client ≡ true → is_client_of lists.asked c user ≡ true
    → is_name topic ≡ true
    → is_change lists.asked.rules way (row_views lists.old.now) (row_views lists.new.now) client
    user topic direction ≡ true → IsPoint (Open direction) lists.asked c client user topic
point lists way direction client user topic is c u v e = record {
  is_asked = record {
    client_fits = c;
    user_fits = u;
  };
  valid = v;
  taken = changed_open lists.asked.rules way (row_views lists.old.now) (row_views lists.new.now)
      client user topic direction e;
}

-- ---- the clients of each user name
-- all is shown of the clients of the first names
pub record AreUsersDone (lists : Lists) (names : List (Bor (List ℕ))) (n : ℕ)
    (first shown : List Difference) : Type 0 where
  pub grows : Grows lists.old.now lists.new.now lists.asked first shown
  pub users : (place : ℕ) (d : Bor (List ℕ)) → place < n → place < length names
      → ShowsChangesOf lists (Some (get_or names place d).now) shown

pub same_name : (names : List (Bor (List ℕ))) (k : ℕ) (a b : Bor (List ℕ)) → k < length names
    → get_or names k a ≡ get_or names k b
same_name [] k a b h = absurd (omega arith)
same_name (r ∷ rs) zero a b h = refl
same_name (r ∷ rs) (suc k) a b h = same_name rs k a b (omega arith)

-- what is shown of the clients of a user name is shown of each with that name
pub shows_user : (lists : Lists) (name : Bor (List ℕ)) (shown : List Difference)
    → lists.asked.rows ≡ row_views lists.old.now ++ row_views lists.new.now
    → ((way : Way) (direction : Direction)
    → ShowsChangesIn lists (clients.Named name) way direction shown)
    → ShowsChangesOf lists (Some name.now) shown
shows_user lists name shown is t way direction client topic c u v e =
    t way direction client topic (Some name.now)
    (point lists way direction client (Some name.now) topic is c (rw (text_itself name.now, u) refl)
    v e) e

pub users_one : (lists : Lists) (names : List (Bor (List ℕ))) (n : ℕ) (name : Bor (List ℕ))
    (first shown more : List Difference) → n < length names → name ≡ get_or names n name
    → Grows lists.old.now lists.new.now lists.asked shown more
    → ShowsChangesOf lists (Some name.now) more → AreUsersDone lists names n first shown
    → AreUsersDone lists names (n + 1) first more
users_one lists names n name first shown more low is g here s = record {
  grows = grows_both lists.old.now lists.new.now lists.asked first shown more s.grows g;
  users = λ place d below in_range. at place d below in_range (ltb place n) refl;
}
  where
    at : (place : ℕ) (d : Bor (List ℕ)) → place < n + 1 → place < length names
        → (b : Bool) → ltb place n ≡ b
        → ShowsChangesOf lists (Some (get_or names place d).now) more
    at place d below in_range true e =
        user_kept lists (Some (get_or names place d).now) shown more g
        (s.users place d (ltb-true place n e) in_range)
    at place d below in_range false e =
        let above = ltb-false place n e in
        let same : n ≡ place = omega arith in
        subst (λ k. ShowsChangesOf lists (Some (get_or names k d).now) more) same
        (subst (λ m. ShowsChangesOf lists (Some m.now) more)
        (is ∙ same_name names n name d low) here)

-- a name of the list is one that a row names
pub name_listed : (asked : AskedRows) (names : List (Bor (List ℕ))) (n : ℕ) (name : Bor (List ℕ))
    → n < length names → name ≡ get_or names n name
    → ((user : List ℕ) → is_among user names ≡ is_user_of user asked.rows)
    → is_user_of name.now asked.rows ≡ true
name_listed asked names n name low is all =
    sym (all name.now)
    ∙ list_any_at (λ (other : Bor (List ℕ)). bytes_eq name.now other.now) names n name low
    (ap (λ (other : Bor (List ℕ)). bytes_eq name.now other.now) (sym is) ∙ text_itself name.now)

-- all that a row names are among them
pub users_all : (lists : Lists) (names : List (Bor (List ℕ))) (n : ℕ)
    (first shown : List Difference) → length names ≤ n
    → ((user : List ℕ) → is_among user names ≡ is_user_of user lists.asked.rows)
    → AreUsersDone lists names n first shown
    → (user : List ℕ) → is_user_of user lists.asked.rows ≡ true
    → ShowsChangesOf lists (Some user) shown
users_all lists names n first shown end all s user listed =
    let at = first_place (λ (other : Bor (List ℕ)). bytes_eq user other.now) names
    (all user ∙ listed) in
    let low = at.in_range in
    subst (λ t. ShowsChangesOf lists (Some t) shown)
    (sym (text_is user (get_or names at.place at.item).now (at.here at.item)))
    (s.users at.place at.item (omega arith) low)

-- ---- all clients
pub shows_all_clients : (lists : Lists) (anonymous users shown : List Difference)
    → lists.asked.rows ≡ row_views lists.old.now ++ row_views lists.new.now
    → Grows lists.old.now lists.new.now lists.asked anonymous users
    → Grows lists.old.now lists.new.now lists.asked users shown
    → ((way : Way) (direction : Direction)
    → ShowsChangesIn lists clients.Anonymous way direction anonymous)
    → ((user : List ℕ) → is_user_of user lists.asked.rows ≡ true
    → ShowsChangesOf lists (Some user) users)
    → ((way : Way) (direction : Direction)
    → ShowsChangesIn lists clients.Others way direction shown)
    → ShowsAll lists.asked.rules lists.old.now lists.new.now shown
shows_all_clients lists anonymous users shown is g h n u o way direction client topic None c f v e =
    let p = is_shown_of lists.asked.rules lists.old.now lists.new.now way direction client None
    topic
    in
    h.kept p (g.kept p (n way direction client topic None
    (point lists way direction client None topic is c refl v e) e))
shows_all_clients lists anonymous users shown is g h n u o way direction client topic
    (Some name) c f v e =
    at (is_user_of name lists.asked.rows) refl
  where
    at : (b : Bool) → is_user_of name lists.asked.rows ≡ b
        → list_any (is_shown_of lists.asked.rules lists.old.now lists.new.now way direction client
        (Some name) topic) shown ≡ true
    at true k =
        h.kept (is_shown_of lists.asked.rules lists.old.now lists.new.now way direction client
        (Some name) topic) (u name k way direction client topic c f v e)
    at false k =
        o way direction client topic (Some name)
        (point lists way direction client (Some name) topic is c (rw (f, k) refl) v e) e

-- ---- the answer
pub report_none : (old new : List Row) (asked : AskedRows) (shown : List Difference) → shown ≡ []
    → IsReport old new asked shown
report_none old new asked shown e =
    subst (IsReport old new asked) (sym e)
    (record {
      sound = All-nil (IsSound old new asked);
      apart = λ i j d low in_range. absurd (omega arith);
    })

pub report_marked : (old new : List Row) (asked : AskedRows) (shown : List Difference)
    → asked.rows ≡ row_views old ++ row_views new → IsReport old new asked shown
    → AreMarked asked.rules old new shown
report_marked old new asked shown is r = record {
  asked = asked;
  rules_are = refl;
  rows = is;
  marked = All-weaker (IsSound old new asked) (IsMarked asked) (λ d s. s.marked) shown r.sound;
  unnamed = All-weaker (IsSound old new asked) (AreUnnamed asked) (λ d s. s.unnamed) shown r.sound;
  known = All-weaker (IsSound old new asked) (IsKnown asked) (λ d s. s.known) shown r.sound;
  stands = All-weaker (IsSound old new asked) (ShowsOthers asked.rules old new asked) (λ d s. s.stands) shown
      r.sound;
}

pub report_real : (old new : List Row) (asked : AskedRows) (shown : List Difference)
    → IsReport old new asked shown → All (IsReal asked.rules old new) shown
report_real old new asked shown r =
    All-weaker (IsSound old new asked) (IsReal asked.rules old new) (λ d s. s.real) shown r.sound

-- where nothing is shown, nothing changed
pub same_allowed : (rules : Rules) (old new : List Row) (shown : List Difference)
    → ShowsAll rules old new shown → shown ≡ [] → (client topic : List ℕ) (user : Option (List ℕ))
    (direction : Direction) → can_be_id client ≡ true → can_be_user user ≡ true
    → is_name topic ≡ true
    → allow_by rules (row_views old) client user topic direction
    ≡ allow_by rules (row_views new) client user topic direction
same_allowed rules old new shown t e client topic user direction c f v =
    let none = subst (ShowsAll rules old new) e t in
    at (allow_by rules (row_views old) client user topic direction)
    (allow_by rules (row_views new) client user topic direction)
    (none Gained direction client topic user c f v)
    (none Lost direction client topic user c f v)
  where
    at : (a b : Bool) → ((b && not a) ≡ true → false ≡ true) → ((a && not b) ≡ true → false ≡ true)
        → a ≡ b
    at true true f g = refl
    at true false f g = absurd (let q = g refl in cc)
    at false true f g = absurd (let q = f refl in cc)
    at false false f g = refl

-- where the comparison stops
pub stop_fault : (rules : Rules) (lists : Lists) (old new : List Row) (steps : ℕ)
    → lists.old.now ≡ old → lists.new.now ≡ new
    → (lists.limited ≡ true → steps < enough_steps (length old + length new))
    → (f : ComparisonFault) → IsStop lists f → IsComparisonFault rules old new steps f
stop_fault rules lists old new steps o n l comparison.Memory s = s
stop_fault rules lists old new steps o n l (comparison.OldLine _) s = elim s [ ]
stop_fault rules lists old new steps o n l (comparison.NewLine _) s = elim s [ ]
stop_fault rules lists old new steps o n l (comparison.OldMark _) s = elim s [ ]
stop_fault rules lists old new steps o n l (comparison.NewMark _) s = elim s [ ]
stop_fault rules lists old new steps o n l (comparison.GaveUp Old line others) s =
    (subst (λ rows. Contains (line_views rows) line) o s.0, l s.1)
stop_fault rules lists old new steps o n l (comparison.GaveUp New line others) s =
    (subst (λ rows. Contains (line_views rows) line) n s.0, l s.1)

-- what is so of the lists that are asked is so of those that are given
pub carried : (P : Rules → (old new : List Row) → List Difference → Type 0) → {r s : Rules}
    → {old old2 new new2 : List Row} → {shown told2 : List Difference} → r ≡ s → old ≡ old2
    → new ≡ new2 → told2 ≡ shown → P r old new shown → P s old2 new2 told2
carried P {s = s} {old = old} {old2 = old2} {new = new} {new2 = new2} {shown = shown} er eo en et
    x =
    subst (λ t. P s old2 new2 t) (sym et)
    (subst (λ n. P s old2 n shown) en
    (subst (λ o. P s o new shown) eo (subst (λ r. P r old new shown) er x)))
