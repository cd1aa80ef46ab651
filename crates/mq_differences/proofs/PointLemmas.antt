-- Clients of a class, and the rows for them.
use Rattle.std.proofs.Common.{◌≡◌, ℕ, Bool, true, false, not, ◌||◌, List, [], ◌∷◌, ◌++◌}
use Rattle.std.proofs.Common.{Option, Some, None, All, refl, ap, sym, ◌∙◌, subst, bytes_eq, Bor}
use Rattle.std.proofs.Common.{String, Global, string_bytes, get_or, length, ◌==◌, cond}
use Rattle.std.specs.Prelude.{nat_lt, if◌then◌else◌}
use Rattle.std.proofs.Math.Dec.{eqb-suc-zero}
use Rattle.std.proofs.lemmas.Bool.{and_parts}
use Rattle.std.proofs.lemmas.List.Folds.{list_any-append}
use Rattle.std.proofs.lemmas.List.Elements.{All-nil, All-cons}
use Rattle.mq_topic.proofs.ByteLemmas.{text_is}
use Rattle.mq_acl.specs.Access.{applies, covers}
use Rattle.mq_acl.specs.AccessLists.{concerns_by, user_by}
use Rattle.mq_acl.specs.Mosquitto.{row_covers}
use Rattle.mq_acl.specs.Rows.{Who, AclRow}
use Rattle.mq_acl.specs.Rows as rows
use Rattle.mq_acl.specs.Views.{row_view, row_views, owner_view}
use Rattle.mq_acl.specs.declared.row.Row.{Row}
use Rattle.mq_acl.specs.declared.rules.Rules.{Rules}
use Rattle.mq_acl.specs.declared.rules.Rules.TheVariants.{Own, Mosquitto}
use Rattle.mq_witness.specs.Asked.{AskedRows, IsListed, is_client_of, user_view}
use Rattle.mq_witness.specs.Clients.{can_be_id}
use Rattle.mq_witness.specs.Rows.{is_name_of, is_user_of}
use Rattle.mq_shapes.specs.declared.clients.Clients.{Clients}
use Rattle.mq_shapes.specs.declared.clients.Clients.TheVariants as clients
use Rattle.mq_differences.specs.ByOwner.{is_for}
use Rattle.mq_differences.specs.Classes.{can_be_user, is_in, is_listed, user_of}
use Rattle.mq_differences.specs.Questions.{class_of}
use Rattle.mq_differences.specs.declared.class.Class.TheVariants as classes
use Rattle.mq_differences.proofs.JudgeLemmas.{AreFor}

-- ---- rows that apply to a client are for the class
others_apply : (user : List ℕ) (who : Who) → is_name_of user who ≡ false
    → applies (Some user) who ≡ true → is_for clients.Others who ≡ true
others_apply user rows.Anonymous n h = absurd (let q : false ≡ true = h in cc)
others_apply user (rows.Named name) n h = absurd (let q : true ≡ false = sym h ∙ n in cc)
others_apply user rows.Everyone n h = refl

named_apply : (name : Bor (List ℕ)) (user : List ℕ) (who : Who) → bytes_eq user name.now ≡ true
    → applies (Some user) who ≡ true → is_for (clients.Named name) who ≡ true
named_apply name user rows.Anonymous e h = absurd (let q : false ≡ true = h in cc)
named_apply name user (rows.Named other) e h =
    subst (λ t. bytes_eq t other ≡ true) (text_is user name.now e) h
named_apply name user rows.Everyone e h = refl

anonymous_apply : (who : Who) → applies None who ≡ true → is_for clients.Anonymous who ≡ true
anonymous_apply rows.Anonymous h = refl
anonymous_apply (rows.Named name) h = absurd (let q : false ≡ true = h in cc)
anonymous_apply rows.Everyone h = refl

-- a row that applies to a client that is asked about is for the class
pub applies_for : (asked : AskedRows) (c : Clients) (user : Option (List ℕ)) (row : AclRow)
    → is_client_of asked c user ≡ true
    → ((u : List ℕ) → is_user_of u asked.rows ≡ false → is_name_of u row.who ≡ false)
    → applies user row.who ≡ true → is_for c row.who ≡ true
applies_for asked clients.Anonymous None row e n h = anonymous_apply row.who h
applies_for asked clients.Anonymous (Some u) row e n h =
    absurd (let q : false ≡ true = e in cc)
applies_for asked (clients.Named name) None row e n h = absurd (let q : false ≡ true = e in cc)
applies_for asked (clients.Named name) (Some u) row e n h =
    named_apply name u row.who (and_parts (bytes_eq u name.now) (can_be_id u) e).0 h
applies_for asked clients.Others None row e n h = absurd (let q : false ≡ true = e in cc)
applies_for asked clients.Others (Some u) row e n h =
    at (is_user_of u asked.rows) refl (and_parts (can_be_id u) (not (is_user_of u asked.rows)) e).1
  where
    at : (b : Bool) → is_user_of u asked.rows ≡ b → not b ≡ true → is_for clients.Others row.who
        ≡ true
    at true f g = absurd (let q : false ≡ true = g in cc)
    at false f g = others_apply u row.who (n u f) h

-- no row of a list that is asked about is for a user name that no row is for
pub unlisted_in : (asked more less : List AclRow) (u : List ℕ) → asked ≡ more ++ less
    → is_user_of u asked ≡ false
    → (is_user_of u more ≡ false) × (is_user_of u less ≡ false)
unlisted_in asked more less u e h =
    at (is_user_of u more) (is_user_of u less)
    (sym (list_any-append (λ (row : AclRow). is_name_of u row.who) more less)
    ∙ ap (is_user_of u) (sym e) ∙ h)
  where
    at : (a b : Bool) → (a || b) ≡ false → (a ≡ false) × (b ≡ false)
    at true b q = absurd (let k : true ≡ false = q in cc)
    at false b q = (refl, q)

-- a user name that rows of both lists name is listed
listed_is : (asked : AskedRows) (old new : List AclRow) (u : List ℕ) → asked.rows ≡ old ++ new
    → is_listed old new u ≡ is_user_of u asked.rows
listed_is asked old new u e =
    sym (list_any-append (λ (row : AclRow). is_name_of u row.who) old new)
    ∙ ap (is_user_of u) (sym e)

unnamed : (u : List ℕ) (rs : List Row) → is_user_of u (row_views rs) ≡ false
    → All (λ (r : Row). is_name_of u (row_view r).who ≡ false) rs
unnamed u [] h = All-nil (λ (r : Row). is_name_of u (row_view r).who ≡ false)
unnamed u (r ∷ rs) h = at (is_name_of u (row_view r).who) refl h (unnamed u rs)
  where
    at : (b : Bool) → is_name_of u (row_view r).who ≡ b → (b || is_user_of u (row_views rs)) ≡ false
        → (is_user_of u (row_views rs) ≡ false
        → All (λ (r : Row). is_name_of u (row_view r).who ≡ false) rs)
        → All (λ (r : Row). is_name_of u (row_view r).who ≡ false) (r ∷ rs)
    at true e h f = absurd (let q : true ≡ false = h in cc)
    at false e h f = All-cons (λ (r : Row). is_name_of u (row_view r).who ≡ false) r rs e (f h)

-- a row that concerns a topic applies
pub concerned_applies : (rules : Rules) (client name : List ℕ) (user : Option (List ℕ)) (row : AclRow)
    → concerns_by rules client user name row ≡ true → applies user row.who ≡ true
concerned_applies Own client name user row h =
    (and_parts (applies user row.who) (covers client user name row) h).0
concerned_applies Mosquitto client name user row h =
    (and_parts (applies user row.who) (row_covers client user name row) h).0

-- each row that concerns a topic for a client of the class is for the class
pub concerned_for : (rules : Rules) (asked : AskedRows) (old new : List Row) (c : Clients)
    (client name : List ℕ) (user : Option (List ℕ))
    → asked.rows ≡ row_views old ++ row_views new → is_client_of asked c user ≡ true
    → AreFor c (concerns_by rules client user name) old
    × AreFor c (concerns_by rules client user name) new
concerned_for rules asked old new c client name user is fits = (
  each old (λ u h. (unlisted_in asked.rows (row_views old) (row_views new) u is h).0),
  each new (λ u h. (unlisted_in asked.rows (row_views old) (row_views new) u is h).1),
)
  where
    one : (r : Row) → ((u : List ℕ) → is_user_of u asked.rows ≡ false
        → is_name_of u (row_view r).who ≡ false)
        → concerns_by rules client user name (row_view r) ≡ true
        → is_for c (owner_view r.owner) ≡ true
    one r n h = applies_for asked c user (row_view r) fits n (concerned_applies rules client name user
        (row_view r) h)

    each : (rs : List Row) → ((u : List ℕ) → is_user_of u asked.rows ≡ false
        → is_user_of u (row_views rs) ≡ false)
        → AreFor c (concerns_by rules client user name) rs
    each rs h = λ k d low. one (get_or rs k d) (λ u f. unnamed u rs (h u f) k d low)

-- ---- the class of a witness
is_in_user : (old new : List AclRow) (name : Bor (List ℕ)) (text : String Global) (user : List ℕ)
    → bytes_eq (string_bytes text) name.now ≡ true → is_listed old new name.now ≡ true
    → bytes_eq user name.now ≡ true → is_in old new (Some user) (classes.User text) ≡ true
is_in_user old new name text user t listed e =
    let named = text_is user name.now e in
    rw (
      ap (bytes_eq user) (text_is (string_bytes text) name.now t) ∙ e,
      ap (is_listed old new) named ∙ listed,
    ) refl

-- a client that is asked about is in the class of a witness of the same question
pub class_has : (asked : AskedRows) (old new : List AclRow) (c : Clients)
    (shown : Option (String Global)) (user : Option (List ℕ)) → asked.rows ≡ old ++ new
    → IsListed asked c → is_client_of asked c (user_view shown) ≡ true
    → is_client_of asked c user ≡ true → is_in old new user (class_of c shown) ≡ true
class_has asked old new clients.Anonymous shown None is listed s e = refl
class_has asked old new clients.Anonymous shown (Some user) is listed s e =
    absurd (let q : false ≡ true = e in cc)
class_has asked old new (clients.Named name) None user is listed s e =
    absurd (let q : false ≡ true = s in cc)
class_has asked old new (clients.Named name) (Some text) None is listed s e =
    absurd (let q : false ≡ true = e in cc)
class_has asked old new (clients.Named name) (Some text) (Some user) is listed s e =
    is_in_user old new name text user
    (and_parts (bytes_eq (string_bytes text) name.now) (can_be_id (string_bytes text)) s).0
    (listed_is asked old new name.now is ∙ listed)
    (and_parts (bytes_eq user name.now) (can_be_id user) e).0
class_has asked old new clients.Others None user is listed s e =
    absurd (let q : false ≡ true = s in cc)
class_has asked old new clients.Others (Some text) None is listed s e =
    absurd (let q : false ≡ true = e in cc)
class_has asked old new clients.Others (Some text) (Some user) is listed s e =
    ap not (listed_is asked old new user is)
    ∙ (and_parts (can_be_id user) (not (is_user_of user asked.rows)) e).1

-- its user name is the class's
pub class_user : (asked : AskedRows) (c : Clients) (shown : Option (String Global))
    → is_client_of asked c (user_view shown) ≡ true → user_of (class_of c shown) ≡ user_view shown
class_user asked clients.Anonymous None s = refl
class_user asked clients.Anonymous (Some text) s = absurd (let q : false ≡ true = s in cc)
class_user asked (clients.Named name) None s = absurd (let q : false ≡ true = s in cc)
class_user asked (clients.Named name) (Some text) s = refl
class_user asked clients.Others None s = absurd (let q : false ≡ true = s in cc)
class_user asked clients.Others (Some text) s = refl

-- a broker can have the user name of a client that is asked about
pub client_user : (asked : AskedRows) (c : Clients) (user : Option (List ℕ))
    → is_client_of asked c user ≡ true → can_be_user user ≡ true
client_user asked c None e = refl
client_user asked clients.Anonymous (Some user) e = absurd (let q : false ≡ true = e in cc)
client_user asked (clients.Named name) (Some user) e =
    (and_parts (bytes_eq user name.now) (can_be_id user) e).1
client_user asked clients.Others (Some user) e =
    (and_parts (can_be_id user) (not (is_user_of user asked.rows)) e).0

-- a broker asks about such a client by its user name as it is
pub user_as_it_is : (rules : Rules) (user : Option (List ℕ)) → can_be_user user ≡ true
    → user_by rules user ≡ user
user_as_it_is Own user h = refl
user_as_it_is Mosquitto None h = refl
user_as_it_is Mosquitto (Some u) h = at u (and_parts _ _ (and_parts _ _ h).0).0
  where
    at : (t : List ℕ) → nat_lt 0 (length t) ≡ true
        → (if length t == 0 then None else Some t) ≡ Some t
    at [] e = absurd (let n : false ≡ true = e in cc)
    at (b ∷ t) e = ap (λ k. cond k None (Some (b ∷ t))) (eqb-suc-zero (length t))
