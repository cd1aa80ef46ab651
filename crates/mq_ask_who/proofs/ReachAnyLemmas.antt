-- Whether a client with any id may.
use Rattle.std.proofs.Common.{◌≡◌, ℕ, true, false, not, ◌&&◌, List, Option, Some, None, refl, ap}
use Rattle.std.proofs.Common.{subst, string_bytes}
use Rattle.std.specs.List.{list_any}
use Rattle.std.proofs.lemmas.Bool.{and_parts}
use Rattle.mq_topic.proofs.ByteLemmas.{text_is, text_itself}
use Rattle.mq_acl.specs.Access.{grants}
use Rattle.mq_acl.specs.Lines.{Read}
use Rattle.mq_acl.specs.Rows.{AclRow}
use Rattle.mq_acl.specs.Views.{row_views}
use Rattle.mq_acl.specs.declared.access.Direction.{Direction}
use Rattle.mq_acl.specs.declared.access.Direction.TheVariants.{Reading, Writing}
use Rattle.mq_acl.specs.declared.row.Row.{Row}
use Rattle.mq_acl.specs.declared.rules.Rules.{Rules}
use Rattle.mq_differences.specs.Classes.{can_be_user, user_of}
use Rattle.mq_differences.specs.declared.difference.Difference.{Difference}
use Rattle.mq_expect.specs.Expectations.{excepted}
use Rattle.mq_who.specs.Claims.{IsAgainst, KeepsTo, is_claimed, is_one}
use Rattle.mq_who.specs.Who.{is_case}
use Rattle.mq_ask_who.specs.ReachAny.{AnyMayRead, NoneMayRead, claim_about, whom_for}

-- it is claimed of each of them
claimed : (rows : List AclRow) (user : Option (List ℕ)) (wanted : List ℕ)
    → is_claimed rows (claim_about user wanted) user Reading ≡ true
claimed rows None wanted = refl
claimed rows (Some name) wanted = ap (λ b. b && true && true) (text_itself name)

pub none_may : (rules : Rules) (rows : List Row) (user : Option (List ℕ)) (wanted : List ℕ)
    → KeepsTo rules false rows (claim_about user wanted)
    → NoneMayRead rules (row_views rows) user wanted
none_may rules rows user wanted keeps = λ client topic c u n asked.
    keeps Reading client topic user c u refl n refl (claimed (row_views rows) user wanted) asked

is_reading : (d : Direction) → grants d Read ≡ true → d ≡ Reading
is_reading Reading e = refl
is_reading Writing e = absurd (let q : false ≡ true = e in cc)

-- and of no others
same_user : (rows : List AclRow) (user other : Option (List ℕ))
    → is_one rows other (whom_for user) ≡ true → other ≡ user
same_user rows None None e = refl
same_user rows None (Some other) e = absurd (let q : false ≡ true = e in cc)
same_user rows (Some name) None e = absurd (let q : false ≡ true = e in cc)
same_user rows (Some name) (Some other) e = ap Some (text_is other name e)

pub some_may : (rules : Rules) (rows : List Row) (user : Option (List ℕ)) (wanted : List ℕ)
    (d : Difference) → IsAgainst rules true rows (claim_about user wanted) d
    → AnyMayRead rules (row_views rows) user wanted
some_may rules rows user wanted d against =
    let views = row_views rows in
    let is_one_of = is_one views (user_of d.class) in
    let both = and_parts (is_one_of (whom_for user)
    && not (list_any is_one_of (excepted (claim_about user wanted).except)))
    (grants d.direction Read) against.claimed in
    let first = and_parts (is_one_of (whom_for user))
    (not (list_any is_one_of (excepted (claim_about user wanted).except))) both.0 in
    let same = same_user views user (user_of d.class) first.0 in
    let real = against.real in
    record {
      client = string_bytes d.client;
      topic = d.topic;
      client_fits = real.client_fits;
      user_fits = subst (λ (u : Option (List ℕ)). can_be_user u ≡ true) same real.user_fits;
      valid = real.valid;
      case = subst (λ (u : Option (List ℕ)).
          is_case rules true views wanted (string_bytes d.client) u d.topic Reading ≡ true) same
          (subst (λ (x : Direction). is_case rules true views wanted (string_bytes d.client)
          (user_of d.class) d.topic x ≡ true) (is_reading d.direction both.1) real.case);
    }
