-- What is found for all clients of a row.
use Rattle.std.proofs.Common.{◌≡◌, ◌<◌, ℕ, zero, suc, Bool, true, false, not, ◌&&◌}
use Rattle.std.proofs.Common.{List, [], ◌∷◌, Option, All, Contains, length, get_or}
use Rattle.std.proofs.Common.{refl, ap, sym, ◌∙◌, subst, arith}
use Rattle.std.proofs.lemmas.Bool.{and_parts, both_ways}
use Rattle.std.proofs.lemmas.List.Elements.{All-contains, All-contains_itself}
use Rattle.std.proofs.lemmas.List.Folds.{list_any_at}
use Rattle.mq_acl.specs.AccessLists.{allow_by, concerns_by}
use Rattle.mq_acl.specs.declared.rules.Rules.{Rules}
use Rattle.mq_acl.specs.Access.{is_deny}
use Rattle.mq_acl.specs.Rows.{AclRow}
use Rattle.mq_acl.specs.Views.{row_view, row_views}
use Rattle.mq_acl.specs.declared.row.Row.{Row}
use Rattle.mq_witness.specs.Asked.{AskedRows, is_client_of}
use Rattle.mq_witness.specs.Clients.{can_be_id}
use Rattle.mq_witness.specs.Ruled.{decides_by}
use Rattle.mq_shapes.specs.declared.clients.Clients.{Clients}
use Rattle.mq_witness.specs.declared.topics.Topics.TheVariants as topics
use Rattle.mq_differences.specs.ByOwner.{is_for}
use Rattle.mq_differences.specs.Classes.{can_be_user}
use Rattle.mq_differences.proofs.FirstLemmas.{All-unmap, IsFirst, first_place}
use Rattle.mq_differences.proofs.PointLemmas.{concerned_applies}
use Rattle.mq_lint.specs.Needless.{AllowSame, DeniesNone, Meet, same_row, without}
use Rattle.mq_lint.specs.Cases.{AreClasses, Finds, FindsNone, IsNeedlessTo, MeetsGrant, NoneMeets}
use Rattle.mq_lint.specs.Cases.{has_row, others_of, permits}
use Rattle.mq_lint.proofs.CaseLemmas.{both, point_asked}
use Rattle.mq_lint.proofs.PointLemmas.{any_others, for_clients, same_allowed, unconcerned}
use Rattle.mq_lint.proofs.PointLemmas.{unless_refused}
use Rattle.mq_lint.proofs.SameLemmas.{any_kept, row_contained, row_is, row_itself}

-- ---- the class of a client
abbrev pub IsClassOf : AskedRows → Option (List ℕ) → List Clients → Type 0
IsClassOf asked user classes = IsFirst (λ c. is_client_of asked c user) classes

pub class_of : (asked : AskedRows) (row : AclRow) (classes : List Clients) (client : List ℕ)
    (user : Option (List ℕ)) (name : List ℕ) → AreClasses asked row.who classes
    → can_be_user user ≡ true → concerns_by asked.rules client user name row ≡ true
    → IsClassOf asked user classes
class_of asked row classes client user name are fits here =
    first_place (λ c. is_client_of asked c user) classes
    (are.covers user fits (concerned_applies asked.rules client name user row here))

-- ---- a row that no client needs
pub needless_all : (asked : AskedRows) (rows : List AclRow) (row : AclRow) (classes : List Clients)
    → has_row row rows ≡ true → AreClasses asked row.who classes
    → All (λ c. IsNeedlessTo asked rows c row) classes
    → AllowSame asked.rules rows (without row rows)
needless_all asked rows row classes h are each client name user direction a v =
    at (concerns_by asked.rules client user name row) refl
  where
    at : (b : Bool) → concerns_by asked.rules client user name row ≡ b
        → allow_by asked.rules rows client user name direction
        ≡ allow_by asked.rules (without row rows) client user name direction
    at true e =
        let fits = and_parts (can_be_id client) (can_be_user user) a in
        let class = class_of asked row classes client user name are fits.1 e in
        unless_refused asked.rules client user name direction rows (without row rows)
        (λ taken. each class.place class.item class.in_range direction client name user
        (record {
          is_asked = record {
            client_fits = fits.0;
            user_fits = class.here class.item;
          };
          valid = v;
          taken = taken;
        }))
    at false e = same_allowed asked.rules client user name direction rows (without row rows)
        (unconcerned asked.rules client user name direction row rows
        (and_parts (can_be_id client) (can_be_user user) a).1 h e)

-- ---- a row that denies nothing
denies_apart : (a b : AclRow) → is_deny a.access ≡ false → is_deny b.access ≡ true
    → same_row a b ≡ false
denies_apart a b permits so = at (same_row a b) refl
  where
    at : (s : Bool) → same_row a b ≡ s → s ≡ false
    at true e = absurd (both_ways (is_deny a.access) permits
        (ap (λ r. is_deny r.access) (row_is a b e) ∙ so))
    at false e = refl

-- another row of the list that is for these clients is among the others
others_have : (c : Clients) (row other : AclRow) (rows : List AclRow) → Contains rows other
    → is_for c other.who ≡ true → same_row other row ≡ false
    → Contains (others_of c row rows) other
others_have c row other rows inside for apart =
    row_contained other (others_of c row rows)
    (any_others (λ r. same_row r other) c row rows
    (λ k d low e. ap (λ r. is_for c r.who) (row_is (get_or rows k d) other e) ∙ for)
    ∙ any_kept (λ r. same_row r other) (λ r. not (same_row r row)) rows
    ∙ list_any_at (λ r. not (same_row r row) && same_row r other) rows inside.0 other inside.1
    (ap (λ r. not (same_row r row) && same_row r other) inside.2
    ∙ rw (apart, row_itself other) refl))

viewed : (rows : List Row) → All (λ (r : Row). Contains (row_views rows) (row_view r)) rows
viewed rows = All-unmap (Contains (row_views rows)) row_view rows
    (All-contains_itself (row_views rows))

-- a row of the list can be asked about
pub row_inside : (rows : List Row) (asked : AskedRows) (n : ℕ) (row : Row)
    → asked.rows ≡ row_views rows → n < length rows → row ≡ get_or rows n row
    → Contains asked.rows (row_view row)
row_inside rows asked n row is low here =
    subst (λ (r : Row). Contains asked.rows (row_view r)) (sym here)
    (subst (λ rs. Contains rs (row_view (get_or rows n row))) (sym is) (viewed rows n row low))

meets : (rules : Rules) (client : List ℕ) (user : Option (List ℕ)) (name : List ℕ)
    (row other : AclRow) → concerns_by rules client user name row ≡ true
    → concerns_by rules client user name other ≡ true
    → decides_by rules client user name (row ∷ (other ∷ [])) [] ≡ true
meets rules client user name row other e f = rw (e, f) refl

-- no row that grants meets it
pub denies_none : (rows : List Row) (asked : AskedRows) (row : AclRow) (classes : List Clients)
    → asked.rows ≡ row_views rows → is_deny row.access ≡ true → AreClasses asked row.who classes
    → All (λ c. NoneMeets topics.All asked c row permits [] (others_of c row asked.rows)) classes
    → DeniesNone asked.rules rows row
denies_none rows asked row classes is so are each = record {
  denies = so;
  meets_none = λ place d low permits m. never (row_view (get_or rows place d))
      (subst (λ rs. Contains rs (row_view (get_or rows place d))) (sym is)
      (viewed rows place d low)) permits m;
}
  where
    never : (other : AclRow) → Contains asked.rows other → is_deny other.access ≡ false
        → Meet asked.rules row other → ⊥
    never other inside grants_it m =
        let fits = and_parts (can_be_id m.client) (can_be_user m.user) m.fits in
        let class = class_of asked row classes m.client m.user m.name are fits.1 m.first in
        let c = get_or classes class.place class.item in
        let of_class = class.here class.item in
        let for : is_for c other.who ≡ true =
        All-contains (λ r. concerns_by asked.rules m.client m.user m.name r ≡ true
        → is_for c r.who ≡ true)
        asked.rows other (for_clients asked c m.client m.name m.user of_class) inside m.second in
        let kept = others_have c row other asked.rows inside for
        (denies_apart other row grants_it so) in
        both_ways (decides_by asked.rules m.client m.user m.name (row ∷ (other ∷ [])) [])
        (All-contains (λ r. permits r ≡ true → FindsNone topics.All asked c (row ∷ (r ∷ [])) [])
        (others_of c row asked.rows) other (each class.place class.item class.in_range) kept
        (ap not grants_it) m.client m.name m.user
        (record {
          is_asked = record {
            client_fits = fits.0;
            user_fits = of_class;
          };
          valid = m.valid;
          taken = refl;
        }))
        (meets asked.rules m.client m.user m.name row other m.first m.second)

-- one does
pub meets_grant : (asked : AskedRows) (c : Clients) (row other : AclRow)
    → is_deny other.access ≡ false → Contains asked.rows other
    → Finds topics.All asked c (row ∷ (other ∷ [])) [] → MeetsGrant asked.rules asked.rows row
meets_grant asked c row other grants_it inside f =
    let says = both asked.rules f.client f.user f.name row other [] f.shown.decided in
    record {
      other = other;
      inside = inside;
      grants_it = grants_it;
      meets = record {
        client = f.client;
        user = f.user;
        name = f.name;
        fits = point_asked asked c f.client f.user f.shown.is_asked;
        valid = f.shown.valid;
        first = says.here;
        second = says.there;
      };
    }

at_view : (rows : List Row) (k : ℕ) (x : AclRow) (d : Row) → k < length (row_views rows)
    → (k < length rows) × (get_or (row_views rows) k x ≡ row_view (get_or rows k d))
at_view [] k x d low = absurd (omega arith)
at_view (r ∷ rs) zero x d low = (omega arith, refl)
at_view (r ∷ rs) (suc k) x d low =
    let rest = at_view rs k x d (omega arith) in
    let below = rest.0 in (omega arith, rest.1)

pub denies_some : (rows : List Row) (asked : AskedRows) (row : AclRow) (d : Row)
    → asked.rows ≡ row_views rows → MeetsGrant asked.rules asked.rows row
    → DeniesNone asked.rules rows row → ⊥
denies_some rows asked row d is m none =
    let inside = subst (λ rs. Contains rs m.other) is m.inside in
    let place = at_view rows inside.0 m.other d inside.1 in
    let same : row_view (get_or rows inside.0 d) ≡ m.other = sym place.1 ∙ inside.2 in
    none.meets_none inside.0 d place.0
    (ap (λ r. is_deny r.access) same ∙ m.grants_it)
    (subst (Meet asked.rules row) (sym same) m.meets)
