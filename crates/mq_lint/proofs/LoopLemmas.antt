-- What loops have done.
use Rattle.std.proofs.Common.{◌≡◌, ◌<◌, ◌≤◌, ◌+◌, ℕ, Bool, true, false, List}
use Rattle.std.proofs.Common.{[], ◌∷◌, All, Bor, length, take, get_or, ap}
use Rattle.std.proofs.Common.{◌∙◌, subst}
use Rattle.std.proofs.lemmas.Bool.{both_ways}
use Rattle.std.proofs.lemmas.List.{take_all}
use Rattle.std.proofs.lemmas.List.Elements.{All-map, All-more}
use Rattle.mq_acl.specs.Rows.{AclRow}
use Rattle.mq_acl.specs.Views.{row_view}
use Rattle.mq_acl.specs.declared.row.Row.{Row}
use Rattle.mq_witness.specs.Asked.{AskedRows}
use Rattle.mq_witness.specs.Rows.{lent_rows}
use Rattle.mq_shapes.specs.declared.clients.Clients.{Clients}
use Rattle.mq_witness.specs.declared.topics.Topics.{Topics}
use Rattle.mq_lint.specs.Cases.{FindsNone, NoneMeets, others_of}

-- ---- the first of a list
-- one more of them
pub all_more : {X : Type 0} (P : X → Type 0) (xs : List X) (n : ℕ) (x : X) → n < length xs
    → x ≡ get_or xs n x → P x → All P (take n xs) → All P (take (n + 1) xs)
all_more P xs n x low is here h = All-more P xs n x low h (subst P is here)

-- all of them
pub all_done : {X : Type 0} (P : X → Type 0) (xs : List X) (n : ℕ) → length xs ≤ n
    → All P (take n xs) → All P xs
all_done P xs n end h = subst (All P) (take_all n xs end) h

-- ---- rows that are lent
abbrev pub NoneMet : Topics → AskedRows → Clients → AclRow → (AclRow → Bool) → (cover : List AclRow)
    → Bor Row → Type 0
NoneMet topics asked c row test cover other = test (row_view other.now) ≡ true
    → FindsNone topics asked c (row ∷ (row_view other.now ∷ [])) cover

pub passed_met : (topics : Topics) (asked : AskedRows) (c : Clients) (row : AclRow) (test : AclRow → Bool)
    (cover : List AclRow) (other : Bor Row) → test (row_view other.now) ≡ false
    → NoneMet topics asked c row test cover other
passed_met topics asked c row test cover other fails e =
    absurd (both_ways (test (row_view other.now)) fails e)

pub none_met : (topics : Topics) (asked : AskedRows) (c : Clients) (row : AclRow) (test : AclRow → Bool)
    (cover : List AclRow) (others : List (Bor Row)) (n : ℕ) → length others ≤ n
    → All (NoneMet topics asked c row test cover) (take n others)
    → NoneMeets topics asked c row test cover (lent_rows others)
none_met topics asked c row test cover others n end h =
    All-map (λ r. test r ≡ true → FindsNone topics asked c (row ∷ (r ∷ [])) cover)
    (λ (other : Bor Row). row_view other.now) others
    (all_done (NoneMet topics asked c row test cover) others n end h)

pub met_others : (topics : Topics) (asked : AskedRows) (c : Clients) (row : AclRow) (test : AclRow → Bool)
    (cover rows : List AclRow) (others items : List (Bor Row))
    → lent_rows others ≡ others_of c row rows → items ≡ others
    → NoneMeets topics asked c row test cover (lent_rows items)
    → NoneMeets topics asked c row test cover (others_of c row rows)
met_others topics asked c row test cover rows others items are same h =
    subst (NoneMeets topics asked c row test cover)
    (ap (λ (l : List (Bor Row)). lent_rows l) same ∙ are) h
