-- What is gained by a row that grants.
use Rattle.std.proofs.Common.{◌≡◌, ℕ, Bool, true, false, not, ◌&&◌, ◌||◌, List, ◌++◌}
use Rattle.std.proofs.Common.{Option, Some, None, refl, ap, sym, ◌∙◌, Bor}
use Rattle.std.specs.List.{list_any, list_all}
use Rattle.std.specs.Option.{option_map}
use Rattle.std.proofs.lemmas.Bool.{and_parts}
use Rattle.std.proofs.lemmas.List.Folds.{list_any-append}
use Rattle.mq_acl.specs.AccessLists.{concerns_by, user_by}
use Rattle.mq_acl.specs.Refused.{refuses}
use Rattle.mq_acl.specs.Rows.{AclRow}
use Rattle.mq_acl.specs.Views.{row_view, row_views}
use Rattle.mq_acl.specs.declared.access.Direction.{Direction}
use Rattle.mq_acl.specs.declared.row.Row.{Row}
use Rattle.mq_acl.specs.declared.rules.Rules.{Rules}
use Rattle.mq_witness.specs.Ruled.{decides_by}
use Rattle.mq_shapes.specs.declared.clients.Clients.{Clients}
use Rattle.mq_differences.specs.Differences.{is_change, is_gained}
use Rattle.mq_differences.specs.Marks.{views_of}
use Rattle.mq_differences.specs.Questions.{AreJudges, IsBefore, IsGain, IsPoint, IsQuestion}
use Rattle.mq_differences.specs.Questions.{asked_in, open_in}
use Rattle.mq_differences.specs.Questions.{gain_cover, gain_must, gain_reasons, must_of, refused}
use Rattle.mq_differences.specs.Questions.{rows_with, rows_without, rules_in}
use Rattle.mq_differences.specs.Reasons.{is_grant, reason_of}
use Rattle.mq_differences.specs.declared.gains.Gain.{Gain}
use Rattle.mq_differences.specs.declared.gains.Question.{Question}
use Rattle.mq_differences.specs.declared.judges.Judges.{Judges}
use Rattle.mq_differences.specs.declared.marks.Marked.{Marked}
use Rattle.mq_differences.specs.declared.reason.Reason.TheVariants.{Grant}
use Rattle.mq_differences.specs.declared.way.Way.{Way}
use Rattle.mq_differences.specs.declared.way.Way.TheVariants.{Gained, Lost}
use Rattle.mq_differences.proofs.DeciderLemmas.{allowed_is}
use Rattle.mq_differences.proofs.JudgeLemmas.{AreFor, reason_denied, reason_granted, reason_none}
use Rattle.mq_differences.proofs.PointLemmas.{client_user, concerned_for, user_as_it_is}

-- ---- what is asked, part by part
or_none : (a b : Bool) → (a || b) ≡ false → (a ≡ false) × (b ≡ false)
or_none true b e = absurd (let q : true ≡ false = e in cc)
or_none false b e = (refl, e)

pub none_of : (p : AclRow → Bool) (xs ys : List AclRow) → list_any p (xs ++ ys) ≡ false
    → (list_any p xs ≡ false) × (list_any p ys ≡ false)
none_of p xs ys e =
    or_none (list_any p xs) (list_any p ys) (sym (list_any-append p xs ys) ∙ e)

pub none_in : (p : AclRow → Bool) (xs ys : List AclRow) → list_any p xs ≡ false
    → list_any p ys ≡ false → list_any p (xs ++ ys) ≡ false
none_in p xs ys e f = list_any-append p xs ys ∙ (λ i. e i || f i)

-- all of the first rows are to concern it, and none of the others
pub decided_parts : (p : AclRow → Bool) (must cover : List AclRow)
    → (list_all p must && not (list_any p cover)) ≡ true
    → (list_all p must ≡ true) × (list_any p cover ≡ false)
decided_parts p must cover e =
    let parts = and_parts (list_all p must) (not (list_any p cover)) e in
    (parts.0, at (list_any p cover) parts.1)
  where
    at : (b : Bool) → not b ≡ true → b ≡ false
    at true f = absurd (let q : false ≡ true = f in cc)
    at false f = refl

-- the grant is one of those that are to concern it
must_grant : (p : AclRow → Bool) (deny : Option AclRow) (grant : AclRow)
    → list_all p (must_of deny grant) ≡ true → p grant ≡ true
must_grant p None grant e = (and_parts (p grant) true e).0
must_grant p (Some deny) grant e =
    (and_parts (p grant) true (and_parts (p deny) (p grant && true) e).1).0

-- ---- why the first list doesn't allow it
refusal : (rules : Rules) (rows others : List Row) (c : Clients) (direction : Direction)
    (all : Judges) (client : List ℕ) (user : Option (List ℕ)) (name : List ℕ)
    (judging : List Marked) (deny : Option (Bor Row)) (grant : AclRow)
    → user_by rules user ≡ user → AreJudges rules rows others c direction all
    → AreFor c (concerns_by rules client user name) rows
    → IsBefore all.rows.items judging (option_map (λ r. r.now) deny)
    → list_all (concerns_by rules client user name)
    (must_of (option_map (λ r. row_view r.now) deny) grant) ≡ true
    → list_any (concerns_by rules client user name) (views_of judging) ≡ false
    → refuses rules direction name ≡ false
    → reason_of rules rows client user name direction ≡ refused (option_map (λ r. r.now) deny)
refusal rules rows others c direction all client user name judging None grant u j h b must n taken =
    reason_none rules rows others c direction all client user name u j h
    (ap (λ ms. list_any (concerns_by rules client user name) (views_of ms)) (sym b) ∙ n) taken
refusal rules rows others c direction all client user name judging (Some deny) grant u j h b must n
    taken =
    reason_denied rules rows others c direction all client user name u j h judging deny.now b.0 b.1 n
    (and_parts (concerns_by rules client user name (row_view deny.now))
    (concerns_by rules client user name grant && true) must).0 taken

refused_not : (deny : Option Row) → is_grant (refused deny) ≡ false
refused_not None = refl
refused_not (Some deny) = refl

-- ---- both lists
abbrev pub from_rows : Question → List Row
from_rows q = rows_without q.way q.lists.now.old.now q.lists.now.new.now

abbrev pub to_rows : Question → List Row
to_rows q = rows_with q.way q.lists.now.old.now q.lists.now.new.now

-- what both lists have, each of them has, whichever way
pub both_ways : (P : List Row → Type 0) (way : Way) (old new : List Row) → P old → P new
    → P (rows_without way old new) × P (rows_with way old new)
both_ways P Gained old new o n = (o, n)
both_ways P Lost old new o n = (n, o)

-- what is known of a client that is asked about
pub record IsFor (q : Question) (client : List ℕ) (user : Option (List ℕ)) (name : List ℕ) : Type 0
  where
    pub from : AreFor q.clients (concerns_by (rules_in q) client user name) (from_rows q)
    pub to : AreFor q.clients (concerns_by (rules_in q) client user name) (to_rows q)
    pub user_is : user_by (rules_in q) user ≡ user

pub question_for : (q : Question) (client : List ℕ) (user : Option (List ℕ)) (name : List ℕ)
    → IsQuestion q → IsPoint (open_in q) (asked_in q) q.clients client user name → IsFor q client user name
question_for q client user name k p =
    let both = concerned_for (rules_in q) (asked_in q) q.lists.now.old.now q.lists.now.new.now
    q.clients client name user k.asked p.is_asked.user_fits in
    let ways = both_ways (AreFor q.clients (concerns_by (rules_in q) client user name)) q.way
    q.lists.now.old.now q.lists.now.new.now both.0 both.1 in
    record {
      from = ways.0;
      to = ways.1;
      user_is = user_as_it_is (rules_in q) user
          (client_user (asked_in q) q.clients user p.is_asked.user_fits);
    }

-- what decides where the rows of a gain do
pub record IsGainedBy (q : Question) (gain : Gain) (client : List ℕ) (user : Option (List ℕ))
    (name : List ℕ) : Type 0 where
  pub from : reason_of (rules_in q) (from_rows q) client user name q.direction
      ≡ refused (option_map (λ r. r.now) gain.deny)
  pub to : reason_of (rules_in q) (to_rows q) client user name q.direction
      ≡ Grant gain.grant.now.line

pub gain_decides : (q : Question) (gain : Gain) (client : List ℕ) (user : Option (List ℕ))
    (name : List ℕ) → IsQuestion q → IsGain q gain
    → IsPoint (open_in q) (asked_in q) q.clients client user name
    → decides_by (rules_in q) client user name (gain_must gain) (gain_cover gain) ≡ true
    → IsGainedBy q gain client user name
gain_decides q gain client user name k g p e =
    let c = concerns_by (rules_in q) client user name in
    let parts = decided_parts c (gain_must gain) (gain_cover gain) e in
    let none = none_of c (views_of gain.judging.now) (views_of gain.before.now) parts.1 in
    let for = question_for q client user name k p in
    let here = must_grant c (option_map (λ r. row_view r.now) gain.deny)
    (row_view gain.grant.now) parts.0 in
    record {
      from = refusal (rules_in q) (from_rows q) (to_rows q) q.clients q.direction q.from.now client
          user name gain.judging.now gain.deny (row_view gain.grant.now) for.user_is k.from for.from
          g.from parts.0 none.0 p.taken;
      to = reason_granted (rules_in q) (to_rows q) (from_rows q) q.clients q.direction q.to.now client
          user name for.user_is k.to for.to gain.before.now gain.grant.now g.grant g.grants none.1
          here p.taken;
    }

-- ---- the old list and the new one
gained_by : (rules : Rules) (from to : List Row) (client : List ℕ) (user : Option (List ℕ))
    (name : List ℕ) (direction : Direction) (refusal : Option Row) (line : ℕ)
    → reason_of rules from client user name direction ≡ refused refusal
    → reason_of rules to client user name direction ≡ Grant line
    → is_gained rules (row_views from) (row_views to) client user name direction ≡ true
gained_by rules from to client user name direction refusal line e f =
    rw (
      allowed_is rules to client user name direction ∙ ap is_grant f,
      allowed_is rules from client user name direction ∙ ap is_grant e ∙ refused_not refusal,
    ) refl

pub change_by : (rules : Rules) (way : Way) (old new : List Row) (client : List ℕ)
    (user : Option (List ℕ)) (name : List ℕ) (direction : Direction) (refusal : Option Row)
    (line : ℕ)
    → reason_of rules (rows_without way old new) client user name direction ≡ refused refusal
    → reason_of rules (rows_with way old new) client user name direction ≡ Grant line
    → is_change rules way (row_views old) (row_views new) client user name direction ≡ true
change_by rules Gained old new client user name direction refusal line e f =
    gained_by rules old new client user name direction refusal line e f
change_by rules Lost old new client user name direction refusal line e f =
    gained_by rules new old client user name direction refusal line e f

pub reasons_by : (rules : Rules) (way : Way) (old new : List Row) (client : List ℕ)
    (user : Option (List ℕ)) (name : List ℕ) (direction : Direction) (gain : Gain)
    → reason_of rules (rows_without way old new) client user name direction
    ≡ refused (option_map (λ r. r.now) gain.deny)
    → reason_of rules (rows_with way old new) client user name direction
    ≡ Grant gain.grant.now.line
    → ((gain_reasons way gain).0 ≡ reason_of rules old client user name direction)
    × ((gain_reasons way gain).1 ≡ reason_of rules new client user name direction)
reasons_by rules Gained old new client user name direction gain e f = (sym e, sym f)
reasons_by rules Lost old new client user name direction gain e f = (sym f, sym e)
