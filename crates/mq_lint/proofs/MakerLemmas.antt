-- Rows that make another needless.
use Rattle.std.proofs.Common.{◌≡◌, ◌==◌, ap, ◌<◌, ◌+◌, ℕ, Bool, true, false, not, ◌&&◌, ◌||◌, List, []}
use Rattle.std.proofs.Common.{Option, All, Contains, length, get_or, ltb, refl, sym}
use Rattle.std.proofs.Common.{◌∙◌, subst, arith, cond, ◌∷◌}
use Rattle.std.specs.List.{list_any}
use Rattle.std.proofs.lemmas.Bool.{and_left, and_parts, both_ways, ltb-true, ltb-false}
use Rattle.std.proofs.lemmas.Bool.{not-true, or_parts}
use Rattle.std.proofs.lemmas.List.Elements.{All-contains}
use Rattle.mq_acl.specs.AccessLists.{concerns_by, grant_by}
use Rattle.mq_acl.specs.Refused.{begins_shared, is_kept, is_refused, refuses}
use Rattle.mq_acl.specs.declared.rules.Rules.{Rules}
use Rattle.mq_acl.specs.declared.rules.Rules.TheVariants.{Own, Mosquitto}
use Rattle.mq_acl.specs.Access.{grants, is_deny}
use Rattle.mq_acl.specs.RowsByOwner.{is_everyones}
use Rattle.mq_acl.specs.Lines.{Access, Read, Write, ReadWrite, Deny}
use Rattle.mq_acl.specs.Rows.{AclRow}
use Rattle.mq_acl.specs.Views.{row_view}
use Rattle.mq_acl.specs.declared.row.Row.{Row}
use Rattle.mq_acl.specs.declared.access.Direction.{Direction}
use Rattle.mq_acl.specs.declared.access.Direction.TheVariants.{Reading, Writing}
use Rattle.mq_witness.specs.Asked.{AskedRows}
use Rattle.mq_witness.specs.Clients.{can_be_id}
use Rattle.mq_witness.specs.Ruled.{decides_by}
use Rattle.mq_shapes.specs.declared.clients.Clients.{Clients}
use Rattle.mq_witness.specs.declared.topics.Topics.{Topics}
use Rattle.mq_witness.specs.declared.topics.Topics.TheVariants.{Open}
use Rattle.mq_differences.specs.ByOwner.{is_for}
use Rattle.mq_differences.specs.Classes.{can_be_user}
use Rattle.mq_differences.specs.Ranks.{is_judge, rank, rank_of}
use Rattle.mq_differences.proofs.DeciderLemmas.{open_allows}
use Rattle.mq_differences.proofs.PointLemmas.{client_user}
use Rattle.mq_lint.specs.Needless.{AllowsNothing, MakesNeedless, MakesNone, as_grant}
use Rattle.mq_lint.specs.Needless.{granted_access}
use Rattle.mq_lint.specs.Needless.{is_among, may_make}
use Rattle.mq_lint.specs.Cases.{AddsIn, AddsNone, AddsNoneIn, AreClasses, Finds, FindsNone, MissesRow}
use Rattle.mq_lint.specs.Cases.{granted_in, is_at, maker_cover, would_grant}
use Rattle.mq_lint.proofs.CaseLemmas.{point_asked}
use Rattle.mq_lint.proofs.KindLemmas.{same_item}
use Rattle.mq_lint.proofs.ListLemmas.{class_of}
use Rattle.mq_lint.proofs.PointLemmas.{allows, decided, for_clients, same_allowed, unless_refused}

-- ---- what rows that grant allow
never_denies : (access : Access) → is_deny (granted_access access) ≡ false
never_denies Read = refl
never_denies Write = refl
never_denies ReadWrite = refl
never_denies Deny = refl

-- rows that grant are of the ranks 1 and 3
module _ (e y g c : Bool) (f : y ≡ false) where
  never_first : ((((y || g) && (rank_of e y == 0)) && c)) ≡ false
  never_first = at e y g f
    where
      at : (e y g : Bool) → y ≡ false → (((y || g) && (rank_of e y == 0)) && c) ≡ false
      at e true g f = absurd (let q : true ≡ false = f in cc)
      at true false true f = refl
      at true false false f = refl
      at false false true f = refl
      at false false false f = refl

  never_third : (((y || g) && (rank_of e y == 2)) && c) ≡ false
  never_third = at e y g f
    where
      at : (e y g : Bool) → y ≡ false → (((y || g) && (rank_of e y == 2)) && c) ≡ false
      at e true g f = absurd (let q : true ≡ false = f in cc)
      at true false true f = refl
      at true false false f = refl
      at false false true f = refl
      at false false false f = refl

  ranks_of_grant : ((((y || g) && (rank_of e y == 1)) && c) || (((y || g) && (rank_of e y == 3)) && c))
      ≡ (c && g)
  ranks_of_grant = at e y g c f
    where
      at : (e y g c : Bool) → y ≡ false → ((((y || g) && (rank_of e y == 1)) && c)
          || (((y || g) && (rank_of e y == 3)) && c)) ≡ (c && g)
      at e true g c f = absurd (let q : true ≡ false = f in cc)
      at true false true true f = refl
      at true false true false f = refl
      at true false false true f = refl
      at true false false false f = refl
      at false false true true f = refl
      at false false true false f = refl
      at false false false true f = refl
      at false false false false f = refl

or_as_if : (b d : Bool) → decided false b false d ≡ (b || d)
or_as_if true d = refl
or_as_if false d = refl

paired : (a b c d : Bool) → ((a || (b || false)) || (c || (d || false))) ≡ ((a || c) || (b || d))
paired true b c d = refl
paired false true true d = refl
paired false true false d = refl
paired false false true d = refl
paired false false false true = refl
paired false false false false = refl

ends : (a c : Bool) → ((a || false) || (c || false)) ≡ (a || c)
ends true c = refl
ends false true = refl
ends false false = refl

-- the rank of a row that grants
abbrev behind : Rules → AclRow → Bool
behind Own row = false
behind Mosquitto row = is_everyones row.who

rank_is : (rules : Rules) (row : AclRow)
    → rank rules row ≡ rank_of (behind rules row) (is_deny row.access)
rank_is Own row = refl
rank_is Mosquitto row = refl

same_concern : (rules : Rules) (client : List ℕ) (user : Option (List ℕ)) (name : List ℕ)
    (row : AclRow) → concerns_by rules client user name (as_grant row)
    ≡ concerns_by rules client user name row
same_concern Own client user name row = refl
same_concern Mosquitto client user name row = refl

module _ (rules : Rules) (client : List ℕ) (user : Option (List ℕ)) (name : List ℕ)
    (direction : Direction) where
  abbrev here : AclRow → Bool
  here row = concerns_by rules client user name row

  abbrev at : ℕ → AclRow → Bool
  at place row = is_at rules direction place row && here row

  abbrev seen : ℕ → AclRow → Bool
  seen place row = ((is_deny row.access || grants direction row.access)
      && (rank_of (behind rules row) (is_deny row.access) == place)) && here row

  at_is : (place : ℕ) (row : AclRow) → at place row ≡ seen place row
  at_is place row = ap (λ v. (is_judge direction row && (v == place)) && here row)
      (rank_is rules row)

  -- the grant that a row is taken for
  grant_0 : (row : AclRow) → at 0 (as_grant row) ≡ false
  grant_0 row = at_is 0 (as_grant row) ∙ never_first (behind rules (as_grant row))
      (is_deny (granted_access row.access)) (grants direction (granted_access row.access))
      (here (as_grant row)) (never_denies row.access)

  grant_2 : (row : AclRow) → at 2 (as_grant row) ≡ false
  grant_2 row = at_is 2 (as_grant row) ∙ never_third (behind rules (as_grant row))
      (is_deny (granted_access row.access)) (grants direction (granted_access row.access))
      (here (as_grant row)) (never_denies row.access)

  grant_13 : (row : AclRow) → (at 1 (as_grant row) || at 3 (as_grant row))
      ≡ (here row && grants direction (granted_access row.access))
  grant_13 row = (λ i. at_is 1 (as_grant row) i || at_is 3 (as_grant row) i)
      ∙ (ranks_of_grant (behind rules (as_grant row))
      (is_deny (granted_access row.access)) (grants direction (granted_access row.access))
      (here (as_grant row)) (never_denies row.access)
      ∙ ap (λ p. p && grants direction (granted_access row.access))
      (same_concern rules client user name row))

  alone_allows : (other : AclRow) → can_be_user user ≡ true
      → grant_by rules (as_grant other ∷ []) client user name direction
      ≡ (here other && grants direction (granted_access other.access))
  alone_allows other fits =
      let g = as_grant other in
      allows rules client user name direction (g ∷ []) fits
      ∙ ((λ i. decided (grant_0 other i || false) (at 1 g || false) (grant_2 other i || false)
      (at 3 g || false))
      ∙ (or_as_if (at 1 g || false) (at 3 g || false) ∙ (ends (at 1 g) (at 3 g)
      ∙ grant_13 other)))

  both_allow : (row other : AclRow) → can_be_user user ≡ true
      → grant_by rules (as_grant row ∷ (as_grant other ∷ [])) client user name direction
      ≡ ((here row && grants direction (granted_access row.access))
      || (here other && grants direction (granted_access other.access)))
  both_allow row other fits =
      let r = as_grant row in
      let g = as_grant other in
      allows rules client user name direction (r ∷ (g ∷ [])) fits
      ∙ ((λ i. decided (grant_0 row i || (grant_0 other i || false)) (at 1 r || (at 1 g || false))
      (grant_2 row i || (grant_2 other i || false)) (at 3 r || (at 3 g || false)))
      ∙ (or_as_if (at 1 r || (at 1 g || false)) (at 3 r || (at 3 g || false))
      ∙ (paired (at 1 r) (at 1 g) (at 3 r) (at 3 g)
      ∙ (λ i. grant_13 row i || grant_13 other i))))

-- ---- the direction that a row is taken to grant
grants_there : (access : Access) → would_grant (granted_in access) access ≡ true
grants_there Read = refl
grants_there Write = refl
grants_there ReadWrite = refl
grants_there Deny = refl

-- ---- the other makes it needless
adds_none : (p a q : Bool) → (p ≡ true → a ≡ true → q ≡ true) → ((p && a) || q) ≡ q
adds_none true true true f = refl
adds_none true true false f = absurd (let q = f refl refl in cc)
adds_none true false q f = refl
adds_none false a q f = refl

-- where the row concerns a topic, so does a row of the cover
concerned : (o c p : Bool) → p ≡ true → c ≡ true → ((p && true) && not (o || false)) ≡ false
    → o ≡ true
concerned true c p e g f = refl
concerned false c true e g f = absurd (let q : true ≡ false = f in cc)
concerned false c false e g f = absurd (let q : false ≡ true = e in cc)

covers_it : (rules : Rules) (row other : AclRow) (client : List ℕ) (user : Option (List ℕ))
    (name : List ℕ) (b : Bool) → concerns_by rules client user name row ≡ true
    → decides_by rules client user name (row ∷ []) (cond b (other ∷ []) []) ≡ false
    → (b ≡ true) × (concerns_by rules client user name other ≡ true)
covers_it rules row other client user name true here f = (
  refl,
  concerned (concerns_by rules client user name other) true (concerns_by rules client user name row)
      here refl f,
)
covers_it rules row other client user name false here f =
    absurd (both_ways ((concerns_by rules client user name row && true) && true) f (rw here refl))

granted_at : (rules : Rules) (row other : AclRow) (client : List ℕ) (user : Option (List ℕ))
    (name : List ℕ) (direction : Direction) → concerns_by rules client user name row ≡ true
    → decides_by rules client user name (row ∷ []) (maker_cover direction other) ≡ false
    → (concerns_by rules client user name other && would_grant direction other.access) ≡ true
granted_at rules row other client user name direction here f =
    let both = covers_it rules row other client user name (would_grant direction other.access) here f
    in
    rw (both.1, both.0) refl

pub makes_needless : (asked : AskedRows) (row other : AclRow) (classes : List Clients)
    → AreClasses asked row.who classes → may_make asked.rules other row ≡ true
    → All (AddsNone asked row other) classes → MakesNeedless asked.rules other row
makes_needless asked row other classes are kind each = record {
  kind = kind;
  same = λ client name user direction a v.
      let fits = and_parts (can_be_id client) (can_be_user user) a in
      let here : AclRow → Bool = concerns_by asked.rules client user name in
      unless_refused asked.rules client user name direction
      (as_grant row ∷ (as_grant other ∷ [])) (as_grant other ∷ [])
      (λ taken. same_allowed asked.rules client user name direction
      (as_grant row ∷ (as_grant other ∷ [])) (as_grant other ∷ [])
      (both_allow asked.rules client user name direction row other fits.1
      ∙ adds_none (here row) (would_grant direction row.access)
      (here other && would_grant direction other.access)
      (λ e so. let class = class_of asked row classes client user name are fits.1 e in
      granted_at asked.rules row other client user name direction e
      (each class.place class.item class.in_range direction so client name user
      (record {
        is_asked = record {
          client_fits = fits.0;
          user_fits = class.here class.item;
        };
        valid = v;
        taken = taken;
      })))
      ∙ sym (alone_allows asked.rules client user name direction other fits.1)));
}

pub adds_neither : (asked : AskedRows) (c : Clients) (row other : AclRow)
    → AddsNoneIn asked c row other Reading → AddsNoneIn asked c row other Writing
    → AddsNone asked row other c
adds_neither asked c row other r w Reading = r
adds_neither asked c row other r w Writing = w

-- ---- it doesn't
-- a client to whom the row grants what the other doesn't
gained : (asked : AskedRows) (c : Clients) (row other : AclRow) (cover : List AclRow)
    (direction : Direction) (f : Finds (Open direction) asked c (row ∷ []) cover)
    → concerns_by asked.rules f.client f.user f.name row ≡ true
    → would_grant direction row.access ≡ true
    → (concerns_by asked.rules f.client f.user f.name other && would_grant direction other.access)
    ≡ false → MakesNeedless asked.rules other row → ⊥
gained asked c row other cover direction f here so permits m =
    both_ways
    (concerns_by asked.rules f.client f.user f.name other && would_grant direction other.access)
    permits
    (sym (alone_allows asked.rules f.client f.user f.name direction other fits)
    ∙ sym (open_allows asked.rules (as_grant other ∷ []) f.client f.user f.name direction
    f.shown.taken)
    ∙ sym (m.same f.client f.name f.user direction
    (point_asked asked c f.client f.user f.shown.is_asked) f.shown.valid)
    ∙ open_allows asked.rules (as_grant row ∷ (as_grant other ∷ [])) f.client f.user f.name direction
    f.shown.taken
    ∙ both_allow asked.rules f.client f.user f.name direction row other fits
    ∙ rw (here, so) refl)
  where
    fits : can_be_user f.user ≡ true
    fits = client_user asked c f.user f.shown.is_asked.user_fits

concerned_by : (topics : Topics) (asked : AskedRows) (c : Clients) (row : AclRow)
    (cover : List AclRow) (f : Finds topics asked c (row ∷ []) cover)
    → (concerns_by asked.rules f.client f.user f.name row ≡ true)
    × (list_any (concerns_by asked.rules f.client f.user f.name) cover ≡ false)
concerned_by topics asked c row cover f =
    let p = concerns_by asked.rules f.client f.user f.name row in
    let any = list_any (concerns_by asked.rules f.client f.user f.name) cover in
    let parts = and_parts (p && true) (not any) f.shown.decided in
    ((and_parts p true parts.0).0, not-true any parts.1)

-- where one row that isn't to concern it doesn't, or doesn't grant the direction, it isn't granted
not_granted : (p : AclRow → Bool) (other : AclRow) (b : Bool)
    → list_any p (cond b (other ∷ []) []) ≡ false → (p other && b) ≡ false
not_granted p other true e = at (p other) e
  where
    at : (a : Bool) → (a || false) ≡ false → (a && true) ≡ false
    at true k = absurd (let q : true ≡ false = k in cc)
    at false k = refl
not_granted p other false e = at (p other)
  where
    at : (a : Bool) → (a && false) ≡ false
    at true = refl
    at false = refl

pub makes_nothing : (asked : AskedRows) (c : Clients) (row other : AclRow) (direction : Direction)
    → AddsIn asked c row other direction → MakesNeedless asked.rules other row → ⊥
makes_nothing asked c row other direction w =
    let f = w.finds in
    let says = concerned_by (Open direction) asked c row (maker_cover direction other) f in
    gained asked c row other (maker_cover direction other) direction f says.0 w.grants_it
    (not_granted (concerns_by asked.rules f.client f.user f.name) other
    (would_grant direction other.access) says.1)

-- nor does a row that isn't for clients whom the row concerns
abbrev pub IsConcerned : AskedRows → AclRow → Clients → Type 0
IsConcerned asked row c = Finds (Open (granted_in row.access)) asked c (row ∷ []) []

pub others_make_nothing : (asked : AskedRows) (c : Clients) (row other : AclRow)
    → Contains asked.rows other → is_for c other.who ≡ false → IsConcerned asked row c
    → MakesNeedless asked.rules other row → ⊥
others_make_nothing asked c row other inside elsewhere f =
    let direction = granted_in row.access in
    let p = concerns_by asked.rules f.client f.user f.name other in
    gained asked c row other [] direction f (concerned_by (Open direction) asked c row [] f).0
    (grants_there row.access) (and_left p (would_grant direction other.access) (at p refl))
  where
    at : (b : Bool) → concerns_by asked.rules f.client f.user f.name other ≡ b → b ≡ false
    at true e = absurd (both_ways (is_for c other.who) elsewhere
        (All-contains
        (λ r. concerns_by asked.rules f.client f.user f.name r ≡ true → is_for c r.who ≡ true)
        asked.rows other (for_clients asked c f.client f.name f.user f.shown.is_asked.user_fits) inside e))
    at false e = refl

-- nor does one that concerns nothing that the row does
misses_own : (rules : Rules) (row other : AclRow) → MissesRow rules row other
    → (client name : List ℕ) (user : Option (List ℕ))
    → concerns_by rules client user name row ≡ true
    → concerns_by rules client user name other ≡ false
misses_own Own row other apart client name user e = apart client name user e
misses_own Mosquitto row other apart client name user e = absurd apart

pub misses : (asked : AskedRows) (c : Clients) (row other : AclRow) → IsConcerned asked row c
    → MissesRow asked.rules row other → MakesNeedless asked.rules other row → ⊥
misses asked c row other f apart =
    let direction = granted_in row.access in
    let here = (concerned_by (Open direction) asked c row [] f).0 in
    gained asked c row other [] direction f here (grants_there row.access)
    (and_left (concerns_by asked.rules f.client f.user f.name other)
    (would_grant direction other.access)
    (misses_own asked.rules row other apart f.client f.name f.user here))

-- ---- what the row allows by itself
-- where it concerns a topic that the broker takes, something
pub allows_some : (asked : AskedRows) (c : Clients) (row : AclRow) → IsConcerned asked row c
    → AllowsNothing asked.rules row → ⊥
allows_some asked c row f none =
    let direction = granted_in row.access in
    let fits = client_user asked c f.user f.shown.is_asked.user_fits in
    let here = (concerned_by (Open direction) asked c row [] f).0 in
    both_ways (grant_by asked.rules [] f.client f.user f.name direction)
    (allows asked.rules f.client f.user f.name direction [] fits)
    (sym (open_allows asked.rules [] f.client f.user f.name direction f.shown.taken)
    ∙ sym (none f.client f.name f.user direction
    (point_asked asked c f.client f.user f.shown.is_asked) f.shown.valid)
    ∙ open_allows asked.rules (as_grant row ∷ []) f.client f.user f.name direction f.shown.taken
    ∙ alone_allows asked.rules f.client f.user f.name direction row fits
    ∙ rw (here, grants_there row.access) refl)

-- what clients may write by the broker they may read
open_to_read : (rules : Rules) (name : List ℕ) → refuses rules Writing name ≡ false
    → refuses rules Reading name ≡ false
unfolding is_refused
open_to_read Own name e = refl
open_to_read Mosquitto name e = (or_parts (begins_shared name) (is_kept name) e).0

open_there : (rules : Rules) (access : Access) (direction : Direction) (name : List ℕ)
    → would_grant direction access ≡ true → refuses rules direction name ≡ false
    → refuses rules (granted_in access) name ≡ false
open_there rules Read Reading name so e = e
open_there rules Read Writing name so e = absurd (let q : false ≡ true = so in cc)
open_there rules Write Reading name so e = absurd (let q : false ≡ true = so in cc)
open_there rules Write Writing name so e = e
open_there rules ReadWrite Reading name so e = e
open_there rules ReadWrite Writing name so e = open_to_read rules name e
open_there rules Deny Reading name so e = e
open_there rules Deny Writing name so e = open_to_read rules name e

neither_way : (h g : Bool) → (h ≡ true → g ≡ true → ⊥) → (h && g) ≡ false
neither_way true true f = absurd (f refl refl)
neither_way true false f = refl
neither_way false g f = refl

-- where it concerns none, nothing
pub allows_nothing : (asked : AskedRows) (row : AclRow) (classes : List Clients)
    → AreClasses asked row.who classes
    → All (λ c. FindsNone (Open (granted_in row.access)) asked c (row ∷ []) []) classes
    → AllowsNothing asked.rules row
allows_nothing asked row classes are each client name user direction a v =
    let fits = and_parts (can_be_id client) (can_be_user user) a in
    let here : AclRow → Bool = concerns_by asked.rules client user name in
    unless_refused asked.rules client user name direction (as_grant row ∷ []) []
    (λ taken. same_allowed asked.rules client user name direction (as_grant row ∷ []) []
    (alone_allows asked.rules client user name direction row fits.1
    ∙ neither_way (here row) (would_grant direction row.access)
    (λ e so. let class = class_of asked row classes client user name are fits.1 e in
    both_ways ((here row && true) && true)
    (each class.place class.item class.in_range client name user
    (record {
      is_asked = record {
        client_fits = fits.0;
        user_fits = class.here class.item;
      };
      valid = v;
      taken = open_there asked.rules row.access direction name so taken;
    }))
    (rw e refl))
    ∙ sym (allows asked.rules client user name direction [] fits.1)))

-- ---- row by row
pub makes_none_more : (rules : Rules) (rows : List Row) (called : List AclRow) (row : AclRow) (n : ℕ)
    (other : Row) → n < length rows → other ≡ get_or rows n other
    → (is_among called (row_view other) ≡ false
    → MakesNeedless rules (row_view other) row → ⊥)
    → MakesNone rules rows called row n → MakesNone rules rows called row (n + 1)
makes_none_more rules rows called row n other low is here before place d below in_range =
    at (ltb place n) refl
  where
    at : (b : Bool) → ltb place n ≡ b
        → is_among called (row_view (get_or rows place d)) ≡ false
        → MakesNeedless rules (row_view (get_or rows place d)) row → ⊥
    at true e = before place d (ltb-true place n e) in_range
    at false e =
        let above = ltb-false place n e in
        let same : n ≡ place = omega arith in
        subst (λ k. is_among called (row_view (get_or rows k d)) ≡ false
        → MakesNeedless rules (row_view (get_or rows k d)) row → ⊥) same
        (subst (λ m. is_among called (row_view m) ≡ false
        → MakesNeedless rules (row_view m) row → ⊥)
        (is ∙ same_item rows n other d low) here)
