-- Every client has a shape.
use Rattle.std.proofs.Common.{◌≡◌, ◌≤◌, ◌∙◌, ◌&&◌, ◌||◌, ◌+◌, ℕ, true, false, not, List, []}
use Rattle.std.proofs.Common.{◌∷◌, Bor, Option, Some, None, ap, arith, bytes_eq, codes, get_or, length, refl, suc}
use Rattle.std.proofs.Common.{IfNone, IfSome, sym, zero}
use Rattle.std.specs.List.{list_all, list_any}
use Rattle.std.proofs.lemmas.Bool.{and_parts, or_parts}
use Rattle.mq_topic.specs.Levels.{levels}
use Rattle.mq_topic.specs.Texts.{is_plain}
use Rattle.mq_topic.proofs.Walk.{levels-nonempty}
use Rattle.mq_acl.specs.Lines.{is_pattern_level}
use Rattle.mq_acl.specs.Rows.{AclRow}
use Rattle.mq_acl.specs.RowsByOwner.{is_everyones}
use Rattle.mq_cover.specs.Names.{can_be_level}
use Rattle.mq_cover.specs.declared.start.Start.{Start}
use Rattle.mq_unify.specs.Clients.{HasShape, mark_plain, values_from}
use Rattle.mq_unify.proofs.JoinLemmas.{length-values}
use Rattle.mq_unify.specs.Rows.{AllMade}
use Rattle.mq_unify.specs.declared.shape.UserShape.{UserShape}
use Rattle.mq_unify.specs.declared.shape.UserShape.TheVariants.{Absent, Known, Levels}
use Rattle.mq_shapes.specs.Every.{FindsNoneOfOthers, FindsNoneWith, HasNoneNamed, HasNoneOfOthers}
use Rattle.mq_shapes.specs.Every.{HasNoneUnnamed, IsFoundWith, IsOfOthers, IsOfUser, has_user_mark}
use Rattle.mq_shapes.specs.Every.{with_levels}
use Rattle.mq_shapes.proofs.ShapeLemmas.{plain_client, plain_text, values_fit}
use Rattle.mq_shapes.specs.Found.{has_whole_marks, is_listed}

-- the levels of two texts, one behind the other
abbrev pub values_of : (client user : List (List ℕ)) → ℕ → List ℕ
values_of [] user i = get_or user i []
values_of (l ∷ client) user zero = l
values_of (l ∷ client) user (suc i) = values_of client user i

first_values : (client user : List (List ℕ)) (first : ℕ) (all : ℕ → List ℕ)
    → ((i : ℕ) → all (first + i) ≡ values_of client user i)
    → values_from all first (length client) ≡ client
first_values [] user first all same = refl
first_values (l ∷ client) user first all same =
    (λ i. head i ∷ first_values client user (suc first) all
    (λ n. ap all (omega arith) ∙ same (suc n)) i)
  where
    head : all first ≡ l
    head = ap all (omega arith) ∙ same zero

own_values : (user : List (List ℕ)) (first : ℕ) (all : ℕ → List ℕ)
    → ((i : ℕ) → all (first + i) ≡ get_or user i []) → values_from all first (length user) ≡ user
own_values [] first all same = refl
own_values (l ∷ user) first all same =
    (λ i. head i ∷ own_values user (suc first) all (λ n. ap all (omega arith) ∙ same (suc n)) i)
  where
    head : all first ≡ l
    head = ap all (omega arith) ∙ same zero

behind_values : (client user : List (List ℕ)) (first : ℕ) (all : ℕ → List ℕ)
    → ((i : ℕ) → all (first + i) ≡ values_of client user i)
    → values_from all (first + length client) (length user) ≡ user
behind_values [] user first all same =
    ap (λ n. values_from all n (length user)) (omega arith) ∙ own_values user first all same
behind_values (l ∷ client) user first all same =
    ap (λ n. values_from all n (length user)) (omega arith)
    ∙ behind_values client user (suc first) all (λ n. ap all (omega arith) ∙ same (suc n))

-- a client is one of those with as many levels
abbrev pub texts : List ℕ → List ℕ → ℕ → List ℕ
texts client user = values_of (levels client) (levels user)

client_is : (client user : List ℕ)
    → levels client ≡ values_from (texts client user) 0 (length (levels client))
client_is client user =
    sym (first_values (levels client) (levels user) 0 (texts client user)
    (λ n. ap (texts client user) (omega arith)))

pub text_shape : (client user : List ℕ)
    → HasShape (with_levels (length (levels client)) (Levels (length (levels user))))
    (texts client user) client (Some user)
text_shape client user = record {
  client_is = client_is client user;
  user_is = sym (behind_values (levels client) (levels user) 0 (texts client user)
      (λ n. ap (texts client user) (omega arith)))
      ∙ ap (λ n. values_from (texts client user) n (length (levels user))) (omega arith);
}

pub named_shape : (client : List ℕ) (name : Bor (List ℕ))
    → HasShape (with_levels (length (levels client)) (Known name)) (texts client []) client
    (Some name.now)
named_shape client name = record { client_is = client_is client []; user_is = refl }

pub bare_shape : (client : List ℕ)
    → HasShape (with_levels (length (levels client)) Absent) (texts client []) client None
bare_shape client = record { client_is = client_is client []; user_is = refl }

-- ---- rows are asked for it
whole_pattern : (row : AclRow) → has_whole_marks row ≡ true → is_everyones row.who ≡ true
    → list_all is_pattern_level (levels row.filter) ≡ true
whole_pattern row w e =
    sym (ap (λ b. not b || list_all is_pattern_level (levels row.filter)) e) ∙ w

no_marks : (ls : List (List ℕ)) → list_any (λ l. bytes_eq l (codes "%u")) ls ≡ false
    → list_all (λ l. not (bytes_eq l (codes "%u"))) ls ≡ true
no_marks [] h = refl
no_marks (l ∷ ls) h =
    let both = or_parts (bytes_eq l (codes "%u")) (list_any (λ l. bytes_eq l (codes "%u")) ls) h in
    (λ i. not (both.0 i) && no_marks ls both.1 i)

-- without a user name no `pattern` row with `%u` is
abbrev pub MarksFit : Option (List ℕ) → List AclRow → Type 0
MarksFit user rows = user ≡ None → list_any has_user_mark rows ≡ false

module _ (shape : UserShape) (count : ℕ) (values : ℕ → List ℕ) (client : List ℕ)
    (user : Option (List ℕ)) (has : HasShape (with_levels count shape) values client user)
    (plain : is_plain client ≡ true) (named : mark_plain user ≡ true) where
  pub made_rows : (rows : List AclRow) → list_all has_whole_marks rows ≡ true
      → MarksFit user rows → AllMade (with_levels count shape) values client user rows
  made_rows [] w f = tt
  made_rows (row ∷ rows) w f =
      let both = and_parts (has_whole_marks row) (list_all has_whole_marks rows) w in
      let parts = λ (n : user ≡ None). or_parts (has_user_mark row)
      (list_any has_user_mark rows) (f n) in (
        record {
          shaped = has;
          client_plain = λ e. plain;
          user_plain = λ e. named;
          user_there = λ e n. no_marks (levels row.filter)
              (sym (ap (λ b. b && list_any (λ l. bytes_eq l (codes "%u")) (levels row.filter)) e)
              ∙ (parts n).0);
          whole = λ e. whole_pattern row both.0 e;
        },
        made_rows rows both.1 (λ n. (parts n).1),
      )

-- ---- what no shape has, no client has
module _ (start : Start) (users : List (Bor (List ℕ))) (must cover : List AclRow)
    (must_whole : list_all has_whole_marks must ≡ true)
    (cover_whole : list_all has_whole_marks cover ≡ true) where
  pub none_of_others : FindsNoneOfOthers start users must cover
      → HasNoneOfOthers start users must cover
  none_of_others none client user plain named unlisted some ls s n =
      let has = text_shape client user in
      let made = made_rows (Levels (length (levels user))) (length (levels client))
      (texts client user) client (Some user) has plain named in
      none (length (levels user)) (levels-nonempty user) (length (levels client))
      (levels-nonempty client) (texts client user) client (Some user) ls has
      (made must must_whole (λ e. absurd (let k : Some user ≡ None = e in cc)))
      (made cover cover_whole (λ e. absurd (let k : Some user ≡ None = e in cc))) unlisted some s n

  pub none_of_named : (name : Bor (List ℕ)) → is_listed users (Some name.now) ≡ false
      → FindsNoneWith start (Known name) users must cover
      → HasNoneNamed start name.now must cover
  none_of_named name unlisted none client plain named some ls s n =
      let has = named_shape client name in
      let made = made_rows (Known name) (length (levels client)) (texts client []) client
      (Some name.now) has plain named in
      none (length (levels client)) (levels-nonempty client) (texts client []) client
      (Some name.now) ls has
      (made must must_whole (λ e. absurd (let k : Some name.now ≡ None = e in cc)))
      (made cover cover_whole (λ e. absurd (let k : Some name.now ≡ None = e in cc))) unlisted some s n

  pub none_unnamed : list_any has_user_mark must ≡ false → list_any has_user_mark cover ≡ false
      → FindsNoneWith start Absent users must cover → HasNoneUnnamed start must cover
  none_unnamed must_bare cover_bare none client plain some ls s n =
      let has = bare_shape client in
      let made = made_rows Absent (length (levels client)) (texts client []) client None has plain
      refl in
      none (length (levels client)) (levels-nonempty client) (texts client []) client None ls has
      (made must must_whole (λ e. must_bare)) (made cover cover_whole (λ e. cover_bare)) refl some s n

-- ---- what is found
module _ (start : Start) (users : List (Bor (List ℕ))) (must cover : List AclRow)
    (client : List ℕ) (user : Option (List ℕ)) (topic : List ℕ) where
  client_count : {of : UserShape} (found : IsFoundWith start of users must cover client user topic)
      → length (levels client) ≤ 200
  client_count found =
      let long = ap length found.is.shaped.client_is ∙ length-values found.is.values 0 found.count in
      let few = found.few in omega (arith, long, few)

  pub found_of_others : (most : ℕ) → most ≤ 200
      → IsFoundWith start (Levels most) users must cover client user topic
      → IsOfOthers start users must cover client user topic
  found_of_others most low found = by user found (client_count found)
    where
      by : (user : Option (List ℕ))
          → IsFoundWith start (Levels most) users must cover client user topic
          → length (levels client) ≤ 200 → IsOfOthers start users must cover client user topic
      by None found few = absurd found.is.shaped.user_is
      by (Some name) found few = record {
        name = name;
        user_is = refl;
        client_plain = plain_client (with_levels found.count (Levels most)) found.is.values client
            (Some name) found.is.shaped found.is.fit;
        user_plain = plain_text name (ap (list_all can_be_level) found.is.shaped.user_is
            ∙ values_fit found.is.values found.is.fit found.count most);
        unlisted = found.is.unlisted;
        texts = found.is.texts;
        client_few = few;
        user_few =
            let long = ap length found.is.shaped.user_is ∙ length-values found.is.values found.count most in
            omega (arith, long, low);
        is = found.is.is;
      }

  pub found_named : (name : Bor (List ℕ)) → IsFoundWith start (Known name) users must cover client
      user topic
      → IsOfUser start (Some name.now) must cover client user topic
  found_named name found = record {
    user_is = found.is.shaped.user_is;
    client_plain = plain_client (with_levels found.count (Known name)) found.is.values client user
        found.is.shaped found.is.fit;
    texts = found.is.texts;
    client_few = client_count found;
    is = found.is.is;
  }

  pub found_unnamed : IsFoundWith start Absent users must cover client user topic
      → IsOfUser start None must cover client user topic
  found_unnamed found = record {
    user_is = found.is.shaped.user_is;
    client_plain = plain_client (with_levels found.count Absent) found.is.values client user
        found.is.shaped found.is.fit;
    texts = found.is.texts;
    client_few = client_count found;
    is = found.is.is;
  }

-- ---- what is said of what is found
pub if_none : {X : Type 0} {P Q : Type 0} → (P → Q) → (found : Option X) → IfNone found P
    → IfNone found Q
if_none so None h = so h
if_none so (Some x) h = h

pub if_some : {X : Type 0} {P Q : X → Type 0} → ((x : X) → P x → Q x) → (found : Option X)
    → IfSome found P → IfSome found Q
if_some so None h = h
if_some so (Some x) h = so x h
