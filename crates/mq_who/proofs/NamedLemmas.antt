-- What a list names that is made of a filter: the filter's levels, and users that the other list
-- names.
use Rattle.std.proofs.Common.{◌≡◌, ◌++◌, ℕ, Bool, true, false, not, ◌||◌, List, [], get_or}
use Rattle.std.proofs.Common.{refl, ap, sym, ◌∙◌}
use Rattle.std.specs.List.{list_any}
use Rattle.std.proofs.lemmas.Bool.{and_parts, or_left, or_right}
use Rattle.std.proofs.lemmas.List.Folds.{list_any-append, list_any_at}
use Rattle.mq_topic.specs.Levels.{levels}
use Rattle.mq_topic.specs.Texts.{is_plain}
use Rattle.mq_acl.specs.Rows.{AclRow, Who, Anonymous, Named, Everyone}
use Rattle.mq_acl.specs.Views.{row_view, row_views}
use Rattle.mq_acl.specs.declared.row.Row.{Row}
use Rattle.mq_acl.specs.declared.rules.Rules.{Rules}
use Rattle.mq_acl.specs.declared.rules.Rules.TheVariants.{Own, Mosquitto}
use Rattle.mq_witness.specs.Leveled.{owner_names}
use Rattle.mq_witness.specs.Literals.{is_literal_in}
use Rattle.mq_witness.specs.Rows.{is_name_of, is_user_of}
use Rattle.mq_witness.specs.Ruled.{names_by}
use Rattle.mq_differences.specs.Classes.{is_listed}
use Rattle.mq_differences.specs.Marks.{same_who}
use Rattle.mq_differences.proofs.DeciderLemmas.{any_same}
use Rattle.mq_differences.proofs.FirstLemmas.{first_place}
use Rattle.mq_differences.proofs.JudgeLemmas.{any_views}
use Rattle.mq_differences.proofs.TwinLemmas.{who_is}
use Rattle.mq_who.specs.Made.{IsMade, has_own, is_made_for, wants_own}
use Rattle.mq_who.proofs.AskedLemmas.{made_for}

-- a row for the clients of a user name
name_is : (user : List ℕ) (who : Who) → is_name_of user who ≡ same_who (Named user) who
name_is user Anonymous = refl
name_is user (Named name) = refl
name_is user Everyone = refl

-- one test follows from another
pub same_bool : (a b : Bool) → (a ≡ true → b ≡ true) → (b ≡ true → a ≡ true) → a ≡ b
same_bool true b f g = sym (f refl)
same_bool false true f g = absurd (let q : false ≡ true = g refl in cc)
same_bool false false f g = refl

-- some row of a list is for the user
pub record IsNamed (user : List ℕ) (rows : List Row) : Type 0 where
  pub row : Row
  pub who : (row_view row).who ≡ Named user
  pub passes : (p : Row → Bool) → p row ≡ true → list_any p rows ≡ true

pub named_row : (user : List ℕ) (rows : List Row) → is_user_of user (row_views rows) ≡ true
    → IsNamed user rows
named_row user rows e =
    let at = first_place (λ (r : Row). is_name_of user (row_view r).who) rows
    (sym (any_views (λ (row : AclRow). is_name_of user row.who) rows) ∙ e) in
    record {
      row = get_or rows at.place at.item;
      who = sym (who_is (Named user) (row_view (get_or rows at.place at.item)).who
          (sym (name_is user (row_view (get_or rows at.place at.item)).who) ∙ at.here at.item));
      passes = λ p h. list_any_at p rows at.place at.item at.in_range h;
    }

module _ (rules : Rules) (allows : Bool) (rows : List Row) (wanted : List ℕ) (made : List Row)
    (m : IsMade rules allows rows wanted made) where
  -- it is made for users that the list names
  pub made_user : (user : List ℕ)
      → is_made_for rules allows (row_views rows) wanted (Named user) ≡ true
      → is_user_of user (row_views rows) ≡ true
  made_user user e =
      (and_parts (is_user_of user (row_views rows)) (allows || not (is_plain user))
      (and_parts (wants_own rules wanted) (has_own allows (row_views rows) (Named user)) e).1).0

  user_made : (user : List ℕ) → is_user_of user (row_views made) ≡ true
      → is_user_of user (row_views rows) ≡ true
  user_made user e =
      made_user user (sym (m.owners (Named user))
      ∙ sym (any_same (λ (r : AclRow). is_name_of user r.who)
      (λ (r : AclRow). same_who (Named user) r.who)
      (λ r. name_is user r.who) (row_views made)) ∙ e)

  pub users_are : (user : List ℕ)
      → is_listed (row_views rows) (row_views made) user ≡ is_listed (row_views rows) [] user
  users_are user =
      at (is_user_of user (row_views rows)) (is_user_of user (row_views made)) (user_made user)
    where
      at : (a b : Bool) → (b ≡ true → a ≡ true) → (a || b) ≡ (a || false)
      at true b f = refl
      at false true f = absurd (let q : false ≡ true = f refl in cc)
      at false false f = refl

  -- ---- the texts
  module _ (ls : List (List ℕ) → Bool) (owner : Who → Bool) (anonymous : owner Anonymous ≡ false)
      (everyone : owner Everyone ≡ false) where
    abbrev names : AclRow → Bool
    names row = ls (levels row.filter) || owner row.who

    by_filter : ls (levels wanted) ≡ true → list_any names (row_views made) ≡ true
    by_filter h =
        let at = first_place (λ (r : Row). same_who Everyone (row_view r).who) made
        (sym (any_views (λ (r : AclRow). same_who Everyone r.who) made) ∙ m.owners Everyone) in
        any_views names made
        ∙ list_any_at (λ (r : Row). names (row_view r)) made at.place at.item at.in_range
        (or_left (ls (levels (row_view (get_or made at.place at.item)).filter))
        (owner (row_view (get_or made at.place at.item)).who)
        (ap (λ t. ls (levels t)) (m.rows at.place at.item at.in_range).filter ∙ h))

    by_owner : (who : Who) → is_made_for rules allows (row_views rows) wanted who ≡ true
        → owner who ≡ true → list_any names (row_views rows) ≡ true
    by_owner Anonymous has h = absurd (let q : false ≡ true = sym anonymous ∙ h in cc)
    by_owner Everyone has h = absurd (let q : false ≡ true = sym everyone ∙ h in cc)
    by_owner (Named user) has h =
        let row = named_row user rows (made_user user has) in
        any_views names rows
        ∙ row.passes (λ (r : Row). names (row_view r))
        (or_right (ls (levels (row_view row.row).filter)) (owner (row_view row.row).who)
        (ap owner row.who ∙ h))

    by_made : list_any names (row_views made) ≡ true
        → (list_any names (row_views rows) || ls (levels wanted)) ≡ true
    by_made h =
        let at = first_place (λ (r : Row). names (row_view r)) made
        (sym (any_views names made) ∙ h) in
        let row : Row = get_or made at.place at.item in
        cases (row_view row).who (ls (levels (row_view row).filter))
        (made_for rules allows rows made wanted m at.place at.item at.in_range)
        (ap (λ t. ls (levels t)) (m.rows at.place at.item at.in_range).filter) (at.here at.item)
      where
        cases : (who : Who) (l : Bool) → is_made_for rules allows (row_views rows) wanted who ≡ true
            → l ≡ ls (levels wanted) → (l || owner who) ≡ true
            → (list_any names (row_views rows) || ls (levels wanted)) ≡ true
        cases who true has same e =
            or_right (list_any names (row_views rows)) (ls (levels wanted)) (sym same)
        cases who false has same e =
            or_left (list_any names (row_views rows)) (ls (levels wanted)) (by_owner who has e)

    names_both : list_any names (row_views rows ++ row_views made)
        ≡ (list_any names (row_views rows) || ls (levels wanted))
    names_both =
        list_any-append names (row_views rows) (row_views made)
        ∙ at (list_any names (row_views rows)) (list_any names (row_views made))
        (ls (levels wanted)) by_made by_filter
      where
        at : (a b l : Bool) → (b ≡ true → (a || l) ≡ true) → (l ≡ true → b ≡ true)
            → (a || b) ≡ (a || l)
        at true b l f g = refl
        at false b l f g = same_bool b l f g

  pub names_are : (named : Rules) (text : List ℕ)
      → names_by named text (row_views rows ++ row_views made)
      ≡ (names_by named text (row_views rows) || is_literal_in text (levels wanted))
  names_are Own text = names_both (is_literal_in text) (is_name_of text) refl refl
  names_are Mosquitto text = names_both (is_literal_in text) (owner_names text) refl refl
