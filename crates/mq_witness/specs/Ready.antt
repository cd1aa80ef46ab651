-- What is known of lists that can be asked, and of a search.
use Rattle.std.specs.Prelude.{◌≡◌, ℕ, Bool, true, false, List, ◌||◌, not, Option, Some, None}
use Rattle.std.specs.Prelude.{string_bytes}
use Rattle.std.specs.List.{list_all, list_any}
use Rattle.std.specs.Str.{bytes_eq}
use Rattle.mq_acl.specs.Access.{begins_with_dollar}
use Rattle.mq_acl.specs.Rows.{Who, AclRow}
use Rattle.mq_acl.specs.Rows as rows
use Rattle.mq_cover.specs.Names.{fits_start}
use Rattle.mq_cover.specs.Remainders.{mark_passes, remainders_fit}
use Rattle.mq_cover.specs.declared.remainder.Remainder.{Remainder}
use Rattle.mq_cover.specs.declared.start.Start.TheVariants.{Writable}
use Rattle.mq_witness.specs.Clients.{can_be_id}
use Rattle.mq_witness.specs.Fresh.{is_literal, AreFresh, BeginSo}
use Rattle.mq_witness.specs.FreshTexts.{AreLonger, IsSeen, fresh_texts}
use Rattle.mq_witness.specs.Limits.{usable}
use Rattle.mq_witness.specs.Literals.{is_named}
use Rattle.mq_witness.specs.Names.{are_begun}
use Rattle.mq_witness.specs.Roots.{all_begin, rows_fit}
use Rattle.mq_witness.specs.Rows.{is_user_of, rows_name}
use Rattle.mq_witness.specs.Texts.{level_of}
use Rattle.mq_shapes.specs.declared.clients.Clients.{Clients}
use Rattle.mq_shapes.specs.declared.clients.Clients.TheVariants.{Anonymous, Named, Others}
use Rattle.mq_witness.specs.declared.fresh.BothFresh.{BothFresh}
use Rattle.mq_witness.specs.declared.fresh.Fresh.{Fresh}
use Rattle.mq_witness.specs.declared.literals.Literals.{Literals}
use Rattle.mq_witness.specs.declared.names.Names.{Names}
use Rattle.mq_witness.specs.declared.texts.FreshTexts.{FreshTexts}

-- ---- lists that can be asked
-- the texts that stand for others are named by no row, and the names are the user names of the rows
pub record CanBeAsked (asked : List AclRow) (texts : FreshTexts) (users : Literals) : Type 0 where
  pub fresh : (f : Fresh) → IsSeen texts f → AreFresh f
  pub fits : (f : Fresh) → IsSeen texts f → rows_fit (is_literal f) asked ≡ true
  pub named : (user : List ℕ) → is_named user users ≡ is_user_of user asked
  pub level : (f : Fresh) → IsSeen texts f → (user : List ℕ) → is_named user users ≡ true
      → mark_passes (is_literal f) (level_of (Some user)) ≡ true
  pub unnamed : (text : List ℕ) → list_any (bytes_eq text) (fresh_texts texts) ≡ true
      → rows_name text asked ≡ false

-- and with longer texts they can be asked about one client
pub record CanAnswer (asked : List AclRow) (texts dollar longest : FreshTexts) (users : Literals) :
    Type 0 where
  pub asked_can : CanBeAsked asked texts users
  pub dollar_can : CanBeAsked asked dollar users
  pub begin : begins_with_dollar (string_bytes texts.client) ≡ false
  pub dollar_begin : fits_start Writable (string_bytes dollar.client) ≡ true
  pub all_usable : list_all usable asked ≡ true
  pub longer : AreLonger longest

-- ---- a search
abbrev pub is_listed : Literals → Who → Bool
is_listed users rows.Anonymous = true
is_listed users (rows.Named name) = is_named name users
is_listed users rows.Everyone = true

abbrev pub all_listed : Literals → List AclRow → Bool
all_listed users all = list_all (λ row. is_listed users row.who) all

-- the level that the user name is, if there is one, is none that stands for others
abbrev pub clients_fit : Fresh → Clients → Bool
clients_fit f Anonymous = true
clients_fit f (Named name) = mark_passes (is_literal f) (level_of (Some name.now))
clients_fit f Others = true

-- a user name that the rows apply to as to all that are asked about
abbrev pub stand_in : Fresh → Clients → Option (List ℕ)
stand_in f Anonymous = None
stand_in f (Named name) = Some name.now
stand_in f Others = Some f.user.now

-- no client can have the user name that is asked about
abbrev pub is_nobody : Clients → Bool
is_nobody Anonymous = false
is_nobody (Named name) = not (can_be_id name.now)
is_nobody Others = false

-- the texts that stand for others are named by no row
pub record NamesNone (f : Fresh) (must cover : List AclRow) : Type 0 where
  pub fresh : AreFresh f
  pub must_fits : rows_fit (is_literal f) must ≡ true
  pub cover_fits : rows_fit (is_literal f) cover ≡ true

-- and the user names of the rows are listed
pub record IsReady (f : Fresh) (users : Literals) (clients : Clients) (must cover : List AclRow) :
    Type 0 where
  pub names_none : NamesNone f must cover
  pub must_listed : all_listed users must ≡ true
  pub cover_listed : all_listed users cover ≡ true
  pub unlisted : is_named f.user.now users ≡ false
  pub user_fits : clients_fit f clients ≡ true

-- with either ids
pub record AreReady (front : Bool) (both : BothFresh) (users : Literals) (clients : Clients)
    (must cover : List AclRow) : Type 0 where
  pub plain : IsReady both.plain users clients must cover
  pub dollar : IsReady both.dollar users clients must cover
  pub begin : BeginSo front both

-- ---- a question
-- the ids that stand for others begin with `$` just where the names do, and then as no name that the broker refuses
-- does; or all of the first rows begin with `$`
abbrev pub is_front : Fresh → Bool → List Remainder → Bool
is_front f true must = fits_start Writable f.client.now || all_begin must
is_front f false must = not (begins_with_dollar f.client.now)

-- no row names one of the texts that stand for others
pub record CanAsk (f : Fresh) (names : Names) (must cover : List Remainder) : Type 0 where
  pub fresh : AreFresh f
  pub must_fits : remainders_fit (is_literal f) must ≡ true
  pub cover_fits : remainders_fit (is_literal f) cover ≡ true
  pub begin : is_front f (are_begun names) must ≡ true
