-- The classes of clients that a row is for, and the rows for them.
use Rattle.std.proofs.Common.{◌≡◌, ℕ, Bool, true, false, not, ◌&&◌, ◌||◌, cond, List, [], ◌∷◌}
use Rattle.std.proofs.Common.{Option, Some, None, All, Bor, get_or, refl, ap, sym, ◌∙◌}
use Rattle.std.proofs.Common.{subst, append-nil}
use Rattle.std.specs.Prelude.{map}
use Rattle.std.specs.List.{filter, list_all, list_any}
use Rattle.std.specs.Str.{bytes_eq}
use Rattle.std.proofs.lemmas.Bool.{and_from}
use Rattle.std.proofs.lemmas.List.Elements.{All-head, All-tail}
use Rattle.std.proofs.lemmas.List.Folds.{list_any_at}
use Rattle.mq_topic.proofs.ByteLemmas.{text_itself}
use Rattle.mq_acl.specs.Access.{applies}
use Rattle.mq_acl.specs.Rows.{AclRow, Who}
use Rattle.mq_acl.specs.Rows as rows
use Rattle.mq_acl.specs.RowsByOwner.{is_everyones}
use Rattle.mq_acl.specs.Views.{row_view, row_views}
use Rattle.mq_acl.specs.declared.row.Row.{Row}
use Rattle.mq_acl.specs.declared.rules.Rules.{Rules}
use Rattle.mq_witness.specs.Asked.{AskedRows, is_client_of}
use Rattle.mq_witness.specs.Clients.{can_be_id, name_passes}
use Rattle.mq_witness.specs.Literals.{is_among}
use Rattle.mq_witness.specs.Rows.{all_rows, is_name_of, is_user_of}
use Rattle.mq_shapes.specs.declared.clients.Clients.{Clients}
use Rattle.mq_shapes.specs.declared.clients.Clients.TheVariants.{Anonymous, Named, Others}
use Rattle.mq_differences.specs.ByOwner.{everyones, is_own, own_rows}
use Rattle.mq_differences.specs.Classes.{can_be_user}
use Rattle.mq_differences.specs.Marks.{views_of}
use Rattle.mq_differences.specs.Questions.{IsList}
use Rattle.mq_differences.specs.declared.by_owner.ByOwner.{ByOwner}
use Rattle.mq_differences.specs.declared.marks.Marked.{Marked}
use Rattle.mq_lint.specs.Cases.{AreClasses, IsLint, has_row}
use Rattle.mq_lint.proofs.CalledLemmas.{all_marked, some_marked}
use Rattle.mq_lint.proofs.SameLemmas.{has_any}

-- ---- one class
pub class_named : (asked : AskedRows) (row : AclRow) (name : Bor (List ℕ)) (text : List ℕ)
    → row.who ≡ rows.Named text → name.now ≡ text → has_row row asked.rows ≡ true
    → AreClasses asked (rows.Named text) (Named name ∷ [])
class_named asked row name text who is inside = record { covers = covers; listed = listed }
  where
    covers : (user : Option (List ℕ)) → can_be_user user ≡ true
        → applies user (rows.Named text) ≡ true
        → list_any (λ c. is_client_of asked c user) (Named name ∷ []) ≡ true
    covers None f a = absurd (let q : false ≡ true = a in cc)
    covers (Some user) f a = rw (ap (bytes_eq user) is ∙ a, f) refl

    listed : list_all (name_passes (λ u. is_user_of u asked.rows)) (Named name ∷ []) ≡ true
    listed = rw (ap (λ u. is_user_of u asked.rows) is
        ∙ has_any (λ r. is_name_of text r.who) row asked.rows inside
        (ap (is_name_of text) who ∙ text_itself text)) refl

-- ---- all classes
named_covers : (asked : AskedRows) (user : List ℕ) (users : List (Bor (List ℕ)))
    → can_be_id user ≡ true → is_among user users ≡ true
    → list_any (λ c. is_client_of asked c (Some user)) (map (λ u. Named u) users) ≡ true
named_covers asked user [] f h = absurd (let q : false ≡ true = h in cc)
named_covers asked user (u ∷ us) f h =
    at (bytes_eq user u.now) h (λ k. named_covers asked user us f k)
  where
    at : (b : Bool) → (b || is_among user us) ≡ true
        → (is_among user us ≡ true
        → list_any (λ c. is_client_of asked c (Some user)) (map (λ u. Named u) us) ≡ true)
        → ((b && can_be_id user)
        || list_any (λ c. is_client_of asked c (Some user)) (map (λ u. Named u) us)) ≡ true
    at true k g = rw f refl
    at false k g = g k

users_pass : (t : List ℕ → Bool) (users : List (Bor (List ℕ)))
    → All (λ (u : Bor (List ℕ)). t u.now ≡ true) users
    → list_all (name_passes t) (map (λ u. Named u) users) ≡ true
users_pass t [] h = refl
users_pass t (u ∷ us) h =
    and_from (t u.now) (list_all (name_passes t) (map (λ u. Named u) us))
    (All-head (λ (u : Bor (List ℕ)). t u.now ≡ true) u us h)
    (users_pass t us (All-tail (λ (u : Bor (List ℕ)). t u.now ≡ true) u us h))

pub class_everyone : (asked : AskedRows) (users : List (Bor (List ℕ))) (all : List Clients)
    → all ≡ Others ∷ (Anonymous ∷ map (λ u. Named u) users)
    → ((user : List ℕ) → is_among user users ≡ is_user_of user asked.rows)
    → AreClasses asked rows.Everyone all
class_everyone asked users all is named =
    subst (AreClasses asked rows.Everyone) (sym is) (record {
      covers = covers;
      listed = users_pass (λ u. is_user_of u asked.rows) users (λ k d low.
          sym (named (get_or users k d).now)
          ∙ list_any_at (λ (u : Bor (List ℕ)). bytes_eq (get_or users k d).now u.now) users k d low
          (text_itself (get_or users k d).now));
    })
  where
    covers : (user : Option (List ℕ)) → can_be_user user ≡ true
        → applies user rows.Everyone ≡ true
        → list_any (λ c. is_client_of asked c user)
        (Others ∷ (Anonymous ∷ map (λ u. Named u) users)) ≡ true
    covers None f a = refl
    covers (Some user) f a = at (is_user_of user asked.rows) refl
      where
        at : (b : Bool) → is_user_of user asked.rows ≡ b
            → ((can_be_id user && not b)
            || list_any (λ c. is_client_of asked c (Some user)) (map (λ u. Named u) users)) ≡ true
        at true e = rw (f, named_covers asked user users f (named user ∙ e)) refl
        at false e = rw f refl

-- ---- the rows for them
views_filter : (t : AclRow → Bool) (ms : List Marked)
    → views_of (filter (λ (m : Marked). t (row_view m.row.now)) ms) ≡ filter t (views_of ms)
views_filter t [] = refl
views_filter t (m ∷ ms) = at (t (row_view m.row.now)) (views_filter t ms)
  where
    at : (b : Bool)
        → views_of (filter (λ (m : Marked). t (row_view m.row.now)) ms) ≡ filter t (views_of ms)
        → views_of (cond b (m ∷ filter (λ (m : Marked). t (row_view m.row.now)) ms)
        (filter (λ (m : Marked). t (row_view m.row.now)) ms))
        ≡ cond b (row_view m.row.now ∷ filter t (views_of ms)) (filter t (views_of ms))
    at true h = ap (λ l. row_view m.row.now ∷ l) h
    at false h = h

-- what is known of a list
pub lint_is : (rules : Rules) (list : List Row) (lists : List (Bor (List Row))) (one : Bor (List Row))
    (asked : AskedRows) (by_owner : ByOwner) (users : List (Bor (List ℕ)))
    (classes : List Clients) → lists ≡ one ∷ [] → one.now ≡ list
    → asked.rows ≡ all_rows lists → IsList list [] by_owner
    → classes ≡ Others ∷ (Anonymous ∷ map (λ u. Named u) users)
    → ((user : List ℕ) → is_among user users ≡ is_user_of user asked.rows)
    → rules ≡ asked.rules → IsLint rules list asked by_owner classes
lint_is rules list lists one asked by_owner users classes is now rows_are grouped all named same_rules =
    let same : asked.rows ≡ row_views list =
    rows_are ∙ ap all_rows is ∙ append-nil (row_views one.now) ∙ ap row_views now in
    let viewed : views_of grouped.all ≡ asked.rows = ap row_views grouped.are ∙ sym same in
    record {
      rules_are = same_rules;
      rows_are = same;
      classes_are = class_everyone asked users classes all named;
      everyones_are = ap views_of grouped.grouped.everyone
          ∙ views_filter (λ r. is_everyones r.who) grouped.all
          ∙ ap (filter (λ r. is_everyones r.who)) viewed;
      own_are = λ c. ap views_of (grouped.grouped.own c)
          ∙ views_filter (λ r. is_own c r.who) grouped.all
          ∙ ap (filter (λ r. is_own c r.who)) viewed;
      everyones_marked = some_marked list grouped.all (everyones by_owner)
          (λ m. is_everyones (row_view m.row.now).who) grouped.grouped.everyone
          (all_marked list grouped.all grouped.are grouped.placed);
      own_marked = λ c. some_marked list grouped.all (own_rows c by_owner)
          (λ m. is_own c (row_view m.row.now).who) (grouped.grouped.own c)
          (all_marked list grouped.all grouped.are grouped.placed);
    }
