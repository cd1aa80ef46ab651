-- Whether anybody else may.
use Rattle.std.proofs.Common.{◌≡◌, ◌∙◌, ℕ, Bool, true, false, not, ◌&&◌, ◌||◌, List, [], ◌∷◌, Option}
use Rattle.std.proofs.Common.{Some, None, get_or, refl, ap, sym, subst, bytes_eq, string_bytes, cond}
use Rattle.std.specs.List.{list_any}
use Rattle.std.proofs.lemmas.Bool.{and_parts, false_from_ne_true, not-true}
use Rattle.mq_topic.proofs.ByteLemmas.{text_is}
use Rattle.mq_acl.specs.AccessLists.{allow_by}
use Rattle.mq_acl.specs.Rows.{AclRow}
use Rattle.mq_acl.specs.Views.{row_views}
use Rattle.mq_acl.specs.declared.access.Direction.{Direction}
use Rattle.mq_acl.specs.declared.row.Row.{Row}
use Rattle.mq_acl.specs.declared.rules.Rules.{Rules}
use Rattle.mq_witness.specs.Rows.{is_user_of}
use Rattle.mq_differences.specs.Classes.{is_listed, user_of}
use Rattle.mq_differences.specs.Differences.{same_direction, same_reason, same_start}
use Rattle.mq_differences.specs.Reasons.{reason_of}
use Rattle.mq_differences.specs.declared.class.Class.{Class}
use Rattle.mq_differences.specs.declared.class.Class.TheVariants as classes
use Rattle.mq_differences.specs.declared.difference.Difference.{Difference}
use Rattle.mq_differences.proofs.DeciderLemmas.{allowed_open}
use Rattle.mq_differences.proofs.FirstLemmas.{first_place}
use Rattle.mq_who.specs.Who.{IsListing, is_listed_in, is_member}
use Rattle.mq_who.proofs.ExtentLemmas.{any_weaker, direction_is}
use Rattle.mq_ask_who.specs.Who.{NoOtherMay, OthersMay, SaysWhetherOthers, has_word, is_kept}
use Rattle.mq_ask_who.specs.Who.{is_other, is_star, is_shown, is_wanted, means, names}
use Rattle.mq_ask_who.specs.Who.{words_in}
use Rattle.mq_ask.specs.declared.outcome.Outcome.TheVariants.{Clear, Remark}

-- ---- a client and its class
or_off : (b : Bool) → (b || false) ≡ b
or_off true = refl
or_off false = refl

listed_is : (rows : List AclRow) (user : List ℕ) → is_listed rows [] user ≡ is_user_of user rows
listed_is rows user = or_off (is_user_of user rows)

-- a word means the client just where it means the clients of its class
means_is : (rows : List AclRow) (user : Option (List ℕ)) (class : Class) (word : List ℕ)
    → is_member rows user class ≡ true → means rows word user ≡ has_word class word
means_is rows None classes.Anonymous word m = refl
means_is rows None (classes.User name) word m = absurd (let q : false ≡ true = m in cc)
means_is rows None (classes.Others name) word m = absurd (let q : false ≡ true = m in cc)
means_is rows (Some user) classes.Anonymous word m = absurd (let q : false ≡ true = m in cc)
means_is rows (Some user) (classes.User name) word m =
    let parts = and_parts (bytes_eq user (string_bytes name)) (is_listed rows [] user) m in
    ap (λ b. cond b (names word user) (is_star word)) (sym (listed_is rows user) ∙ parts.1)
    ∙ ap (names word) (text_is user (string_bytes name) parts.0)
means_is rows (Some user) (classes.Others name) word m =
    ap (λ b. cond b (names word user) (is_star word))
    (sym (listed_is rows user) ∙ not-true (is_listed rows [] user) m)

any_means : (rows : List AclRow) (user : Option (List ℕ)) (class : Class) (words : List (List ℕ))
    → is_member rows user class ≡ true
    → list_any (λ word. means rows word user) words ≡ list_any (has_word class) words
any_means rows user class [] m = refl
any_means rows user class (w ∷ ws) m =
    (λ i. means_is rows user class w m i || any_means rows user class ws m i)

other_is : (rows : List AclRow) (only user : Option (List ℕ)) (class : Class)
    → is_member rows user class ≡ true → is_other rows only user ≡ is_kept only class
other_is rows None user class m = refl
other_is rows (Some only) user class m = ap not (any_means rows user class (words_in only) m)

-- ---- what is listed
-- one that is listed for a client that isn't left out is shown of
shown_listed : (rules : Rules) (rows : List Row) (access : Option Direction)
    (only : Option (List ℕ)) (direction : Direction) (client : List ℕ) (user : Option (List ℕ))
    (topic : List ℕ) (d : Difference) → is_wanted access direction ≡ true
    → is_other (row_views rows) only user ≡ true
    → is_listed_in rules rows direction client user topic d ≡ true → is_shown access only d ≡ true
shown_listed rules rows access only direction client user topic d w o e =
    let front = and_parts (is_member (row_views rows) user d.class
    && same_direction direction d.direction && same_start topic d.topic)
    (same_reason (reason_of rules rows client user topic direction) d.old_reason) e in
    let both = and_parts (is_member (row_views rows) user d.class
    && same_direction direction d.direction) (same_start topic d.topic) front.0 in
    let parts = and_parts (is_member (row_views rows) user d.class)
    (same_direction direction d.direction) both.0 in
    let wanted = ap (is_wanted access) (direction_is direction d.direction parts.1) ∙ w in
    let kept = sym (other_is (row_views rows) only user d.class parts.0) ∙ o in
    (λ i. wanted i && kept i)

-- where none is shown of, no other may
pub no_other : (rules : Rules) (rows : List Row) (wanted : List ℕ) (access : Option Direction)
    (only : Option (List ℕ)) (all : List Difference) → IsListing rules true rows wanted all
    → list_any (is_shown access only) all ≡ false
    → NoOtherMay rules (row_views rows) wanted access only
no_other rules rows wanted access only all l none direction client topic user w c u v o a =
    false_from_ne_true (allow_by rules (row_views rows) client user topic direction)
    (λ e. let some = any_weaker (is_listed_in rules rows direction client user topic)
    (is_shown access only)
    (λ d t. shown_listed rules rows access only direction client user topic d w o t) all
    (l.lists direction client topic user c u refl v
    (λ i. not (allowed_open rules (row_views rows) client user topic direction e i) && a i && e i))
    in
    let bad : false ≡ true = sym none ∙ some in cc)

-- and where one is, it may
pub others_may : (rules : Rules) (rows : List Row) (wanted : List ℕ) (access : Option Direction)
    (only : Option (List ℕ)) (all : List Difference) → IsListing rules true rows wanted all
    → list_any (is_shown access only) all ≡ true
    → OthersMay rules (row_views rows) wanted access only
others_may rules rows wanted access only all l some =
    let at = first_place (is_shown access only) all some in
    let d = get_or all at.place at.item in
    let real = l.real at.place at.item at.in_range in
    let parts = and_parts (is_wanted access d.direction) (is_kept only d.class) (at.here at.item) in
    record {
      direction = d.direction;
      client = string_bytes d.client;
      user = user_of d.class;
      topic = d.topic;
      asked = parts.0;
      client_fits = real.client_fits;
      user_fits = real.user_fits;
      valid = real.valid;
      other = other_is (row_views rows) only (user_of d.class) d.class real.member ∙ parts.1;
      case = real.case;
    }

-- ---- what is shown
pub shown_none : (rules : Rules) (rows : List Row) (wanted : List ℕ) (access : Option Direction)
    (given : Option (List ℕ)) (only : List ℕ) (all : List Difference) → given ≡ Some only
    → IsListing rules true rows wanted all → list_any (is_shown access given) all ≡ false
    → SaysWhetherOthers rules (row_views rows) wanted access given Clear
shown_none rules rows wanted access given only all e l none =
    subst (λ (o : Option (List ℕ)). SaysWhetherOthers rules (row_views rows) wanted access o Clear)
    (sym e)
    (no_other rules rows wanted access (Some only) all l
    (ap (λ (o : Option (List ℕ)). list_any (is_shown access o) all) (sym e) ∙ none))

pub shown_some : (rules : Rules) (rows : List Row) (wanted : List ℕ) (access : Option Direction)
    (given : Option (List ℕ)) (only : List ℕ) (all : List Difference) → given ≡ Some only
    → IsListing rules true rows wanted all → list_any (is_shown access given) all ≡ true
    → SaysWhetherOthers rules (row_views rows) wanted access given Remark
shown_some rules rows wanted access given only all e l some =
    subst (λ (o : Option (List ℕ)). SaysWhetherOthers rules (row_views rows) wanted access o Remark)
    (sym e)
    (others_may rules rows wanted access (Some only) all l
    (ap (λ (o : Option (List ℕ)). list_any (is_shown access o) all) (sym e) ∙ some))
