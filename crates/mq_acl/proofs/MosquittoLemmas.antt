-- What rows decide by the rules of mosquitto.
use Rattle.std.proofs.Common.{◌≡◌, ℕ, Bool, true, false, not, ◌&&◌, ◌||◌, if◌then◌else◌, List, []}
use Rattle.std.proofs.Common.{Option, refl, ap, sym, ◌∙◌}
use Rattle.std.specs.List.{filter, list_any}
use Rattle.std.specs.Option.{option_or, unwrap_or}
use Rattle.mq_topic.specs.Levels.{levels}
use Rattle.mq_topic.specs.Matching.{matches}
use Rattle.mq_acl.specs.Access.{is_deny, grants}
use Rattle.mq_acl.specs.Filled.{filled}
use Rattle.mq_acl.specs.Mosquitto.{decided, decision, is_asked, known_user, mosquitto_allows}
use Rattle.mq_acl.specs.Mosquitto.{row_covers, verdict}
use Rattle.mq_acl.specs.Rows.{AclRow, Everyone}
use Rattle.mq_acl.specs.RowsByOwner.{is_everyones, is_own}
use Rattle.mq_acl.specs.Views.{access_view, row_view, row_views}
use Rattle.mq_acl.specs.declared.access.Direction.{Direction}
use Rattle.mq_acl.specs.declared.row.Row.{Row}
use Rattle.mq_acl.proofs.AccessLemmas.{any_viewed, grants_only}
use Rattle.mq_acl.proofs.ByOwnerLemmas.{any_kept}

-- a row of a `pattern` line covers what its filter does, its marks replaced
pub pattern_covers : (client : List ℕ) (user : Option (List ℕ)) (name : List ℕ) (row : AclRow)
    → row.who ≡ Everyone → is_asked client user row.filter ≡ true
    → matches (levels (filled client (unwrap_or user []) row.filter)) (levels name)
    ≡ row_covers client user name row
pattern_covers client user name row e f =
    sym (ap (λ w. (not (is_everyones w) || is_asked client user row.filter)
    && matches (levels (if is_everyones w then filled client (unwrap_or user []) row.filter
    else row.filter)) (levels name)) e
    ∙ ap (λ b. b && matches (levels (filled client (unwrap_or user []) row.filter)) (levels name)) f)

denied_kept : (keep covers deny : Bool) → (deny && (keep && covers)) ≡ (keep && (covers && deny))
denied_kept true true true = refl
denied_kept true true false = refl
denied_kept true false true = refl
denied_kept true false false = refl
denied_kept false covers true = refl
denied_kept false covers false = refl

granted_kept : (keep covers grants other : Bool) → grants ≡ (grants && other)
    → (other && (keep && (grants && covers))) ≡ (keep && (covers && grants))
granted_kept k c g o e = ordered k c g o ∙ ap (λ b. k && (c && b)) (sym e)
  where
    ordered : (k c g o : Bool) → (o && (k && (g && c))) ≡ (k && (c && (g && o)))
    ordered true true true true = refl
    ordered true true true false = refl
    ordered true true false true = refl
    ordered true true false false = refl
    ordered true false true true = refl
    ordered true false true false = refl
    ordered true false false true = refl
    ordered true false false false = refl
    ordered false c g true = refl
    ordered false c g false = refl

-- the rows of these that are kept decide as those of them that deny and those that grant
pub verdict_of : (client : List ℕ) (user : Option (List ℕ)) (name : List ℕ) (direction : Direction)
    (keep : AclRow → Bool) (rows denies granting : List Row)
    → denies ≡ filter (λ row. keep (row_view row))
    (filter (λ row. is_deny (access_view row.access)) rows)
    → granting ≡ filter (λ row. keep (row_view row))
    (filter (λ row. not (is_deny (access_view row.access))) rows)
    → decision (list_any (λ row. row_covers client user name (row_view row)) denies)
    (list_any (λ row. grants direction (access_view row.access)
    && row_covers client user name (row_view row)) granting)
    ≡ verdict client user name direction (filter keep (row_views rows))
verdict_of client user name direction keep rows denies granting d g =
    (λ i. decision (denied i) (granted i))
  where
    kept : Row → Bool
    kept row = keep (row_view row)

    cov : Row → Bool
    cov row = row_covers client user name (row_view row)

    deny : Row → Bool
    deny row = is_deny (access_view row.access)

    grant : Row → Bool
    grant row = grants direction (access_view row.access)

    denied : list_any cov denies
        ≡ list_any (λ row. row_covers client user name row && is_deny row.access)
        (filter keep (row_views rows))
    denied =
        ap (list_any cov) d ∙ any_kept cov kept (filter deny rows)
        ∙ any_kept (λ row. kept row && cov row) deny rows
        ∙ (λ i. list_any (λ row. denied_kept (kept row) (cov row) (deny row) i) rows)
        ∙ any_viewed (λ row. keep row
        && (row_covers client user name row && is_deny row.access)) rows
        ∙ sym (any_kept (λ row. row_covers client user name row && is_deny row.access) keep
        (row_views rows))

    granted : list_any (λ row. grant row && cov row) granting
        ≡ list_any (λ row. row_covers client user name row && grants direction row.access)
        (filter keep (row_views rows))
    granted =
        ap (list_any (λ row. grant row && cov row)) g
        ∙ any_kept (λ row. grant row && cov row) kept (filter (λ row. not (deny row)) rows)
        ∙ any_kept (λ row. kept row && (grant row && cov row)) (λ row. not (deny row)) rows
        ∙ (λ i. list_any (λ row. granted_kept (kept row) (cov row) (grant row) (not (deny row))
        (grants_only direction (access_view row.access)) i) rows)
        ∙ any_viewed (λ row. keep row
        && (row_covers client user name row && grants direction row.access)) rows
        ∙ sym (any_kept (λ row. row_covers client user name row && grants direction row.access) keep
        (row_views rows))

-- the client's own rows decide, and where none of them covers the name those for all clients
pub allowed_in_turn : (client : List ℕ) (user known : Option (List ℕ)) (name : List ℕ)
    (direction : Direction) (rows : List AclRow) (own everyone : Option Bool)
    → known ≡ known_user user
    → own ≡ verdict client known name direction (filter (λ row. is_own known row.who) rows)
    → everyone ≡ verdict client known name direction (filter (λ row. is_everyones row.who) rows)
    → unwrap_or (option_or own everyone) false ≡ mosquitto_allows rows client user name direction
allowed_in_turn client user known name direction rows own everyone k o e =
    (λ i. unwrap_or (option_or (o i) (e i)) false)
    ∙ (λ i. unwrap_or (decided rows client (k i) name direction) false)
