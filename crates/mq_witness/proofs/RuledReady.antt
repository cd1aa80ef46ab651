-- Lists that can be asked by mosquitto's rules.
use Rattle.std.proofs.Common.{◌≡◌, ◌∙◌, ◌&&◌, ◌||◌, ◌==◌, ◌++◌, ◌∷◌, ℕ, Bool, true, false, List, [], All, Bor, Contains}
use Rattle.std.proofs.Common.{ap, arith, bytes_eq, length, refl, string_bytes, subst, sym}
use Rattle.std.specs.List.{list_all, list_any}
use Rattle.std.proofs.lemmas.Bool.{and_from, and_parts, or_left, or_parts, or_right}
use Rattle.std.proofs.lemmas.List.Elements.{All-contains_itself, All-weaker, Contains-append_left}
use Rattle.std.proofs.lemmas.List.Elements.{Contains-append_right, Contains-push}
use Rattle.std.proofs.lemmas.List.Folds.{list_all-append, list_any-append}
use Rattle.mq_topic.proofs.ByteLemmas.{text_is, text_itself}
use Rattle.mq_acl.specs.Rows.{AclRow, Who}
use Rattle.mq_acl.specs.Rows as rows
use Rattle.mq_acl.specs.declared.rules.Rules.TheVariants.{Mosquitto}
use Rattle.mq_cover.specs.declared.others.Others.{Others}
use Rattle.mq_shapes.specs.Found.{has_name, has_whole_marks}
use Rattle.mq_shapes.specs.Prefix.{ArePrefixes, CanBeAsked, IsPadded, IsPrefix, begins, is_name_of, is_usable}
use Rattle.mq_shapes.specs.Prefix.{is_user_of, some_begins}
use Rattle.mq_shapes.specs.Ruled.{all_listed, names_listed}
use Rattle.mq_shapes.proofs.PrefixLemmas.{are_short}
use Rattle.mq_witness.specs.Asked.{AskedRows}
use Rattle.mq_witness.specs.Ruled.{are_whole}
use Rattle.mq_witness.specs.RuledSearch.{CanBeRuled, state_row}
use Rattle.mq_witness.specs.RuledTexts.{IsRuledFor}
use Rattle.mq_witness.specs.declared.ruled_texts.RuledTexts.{RuledTexts}
use Rattle.mq_witness.proofs.RuledSearchLemmas.{can_be_ruled, states_usable}

-- each mark of rows that are asked by mosquitto's rules is a whole level
pub whole_is : {s t : AskedRows} → s ≡ t → t.rules ≡ Mosquitto → are_whole s.rules s.rows ≡ true
    → list_all has_whole_marks t.rows ≡ true
whole_is {t = t} e is h = ap (λ r. are_whole r t.rows) (sym is)
    ∙ subst (λ (a : AskedRows). are_whole a.rules a.rows ≡ true) e h

pub ruled_is : {s t : AskedRows} → s ≡ t → (texts : RuledTexts) → IsRuledFor s.rows texts
    → IsRuledFor t.rows texts
ruled_is e texts h = subst (λ (a : AskedRows). IsRuledFor a.rows texts) e h

-- ---- user names
users_are : (all : List AclRow) (users : List (Bor (List ℕ)))
    → ((user : List ℕ) → has_name users user ≡ true → is_user_of user all ≡ true)
    → list_all (λ name. is_user_of name.now all) users ≡ true
users_are all [] h = refl
users_are all (user ∷ users) h =
    and_from (is_user_of user.now all) (list_all (λ name. is_user_of name.now all) users)
    (h user.now (or_left (bytes_eq user.now user.now) (has_name users user.now) (text_itself user.now)))
    (users_are all users (λ name e. h name (or_right (bytes_eq name user.now) (has_name users name) e)))

all_are_listed : (users : List (Bor (List ℕ))) (all : List AclRow)
    → ((user : List ℕ) → is_user_of user all ≡ true → has_name users user ≡ true)
    → all_listed users all ≡ true
all_are_listed users [] h = refl
all_are_listed users (row ∷ all) h =
    and_from (names_listed users row.who) (all_listed users all) (by row.who refl)
    (all_are_listed users all
    (λ user e. h user (or_right (is_name_of user row.who) (is_user_of user all) e)))
  where
    by : (who : Who) → row.who ≡ who → names_listed users who ≡ true
    by rows.Anonymous e = refl
    by (rows.Named name) e = h name (or_left (is_name_of name row.who) (is_user_of name all)
        (ap (is_name_of name) e ∙ text_itself name))
    by rows.Everyone e = refl

-- ---- the rows, and the states of bridges behind them
abbrev pub with_states : List AclRow → List AclRow
with_states all = all ++ state_row ∷ []

module _ (all : List AclRow) (usable : list_all is_usable all ≡ true) where
  pub all_usable : list_all is_usable (with_states all) ≡ true
  all_usable = list_all-append is_usable all (state_row ∷ [])
      ∙ and_from (list_all is_usable all) (list_all is_usable (state_row ∷ [])) usable
      (and_from (is_usable state_row) true states_usable refl)

  -- no level of the rows begins so
  pub unlike_is : (prefix : List ℕ)
      → ((short : list_all is_usable (with_states all) ≡ true)
      → some_begins prefix (with_states all) ≡ false)
      → some_begins prefix all ≡ false
  unlike_is prefix h =
      (or_parts (some_begins prefix all) (some_begins prefix (state_row ∷ []))
      (sym (list_any-append _ all (state_row ∷ [])) ∙ h all_usable)).0

  module _ (whole : list_all has_whole_marks all ≡ true) (texts : RuledTexts)
      (is : IsRuledFor all texts) (o : Others)
      (plain : o.plain.now ≡ string_bytes texts.prefixes.plain)
      (dollar : o.dollar.now ≡ string_bytes texts.prefixes.dollar) (users : List (Bor (List ℕ)))
      (users_is : users ≡ texts.users.items) (states must cover : List AclRow)
      (states_is : states ≡ state_row ∷ []) (must_in : All (Contains all) must)
      (cover_in : All (Contains all) cover) where
    named : (user : List ℕ) → has_name users user ≡ is_user_of user all
    named user = ap (λ us. has_name us user) users_is ∙ is.users user

    more : (user : List ℕ) → is_user_of user (with_states all) ≡ (is_user_of user all || false)
    more user = list_any-append (λ row. is_name_of user row.who) all (state_row ∷ [])

    pub ruled_ready : CanBeRuled o users states must cover
    ruled_ready = can_be_ruled o (with_states all)
        (subst (λ p. ArePrefixes (with_states all) p o.dollar.now) (sym plain)
        (subst (λ d. ArePrefixes (with_states all) (string_bytes texts.prefixes.plain) d) (sym dollar)
        is.prefixes))
        (record {
          usable = all_usable;
          whole = list_all-append has_whole_marks all (state_row ∷ [])
              ∙ and_from (list_all has_whole_marks all) true whole refl;
        })
        users (users_are (with_states all) users (λ user h. more user
        ∙ or_left (is_user_of user all) false (sym (named user) ∙ h)))
        (list_all-append (λ row. names_listed users row.who) all (state_row ∷ [])
        ∙ and_from (all_listed users all) true
        (all_are_listed users all (λ user h. named user ∙ h)) refl)
        states must cover states_is
        (subst (λ s. All (Contains (with_states all)) s) (sym states_is)
        (All-weaker (Contains (state_row ∷ [])) (Contains (with_states all))
        (Contains-append_right all (state_row ∷ [])) (state_row ∷ [])
        (All-contains_itself (state_row ∷ []))))
        (All-weaker (Contains all) (Contains (with_states all))
        (Contains-append_left all (state_row ∷ [])) must must_in)
        (All-weaker (Contains all) (Contains (with_states all))
        (Contains-append_left all (state_row ∷ [])) cover cover_in)

-- what stands for others is no empty text
pub padded_some : (base text : List ℕ) → (length base == 0) ≡ false → IsPadded base text
    → (length text == 0) ≡ false
padded_some [] text h made = absurd (let n : true ≡ false = h in cc)
padded_some (x ∷ xs) text h made = ap (λ t. length t == 0) made.is ∙ grind arith

-- nor does one of the rows with the states of bridges begin so
pub are_unlike : (all : List AclRow) (base text : List ℕ) {prefix : List ℕ} → text ≡ prefix
    → IsPrefix base (with_states all) text → list_all is_usable (with_states all) ≡ true
    → some_begins prefix (with_states all) ≡ false
are_unlike all base text e is usable =
    ap (λ p. some_begins p (with_states all)) (sym e) ∙ is.unlike (are_short (with_states all) usable)
