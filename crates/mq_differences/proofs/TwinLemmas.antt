-- Rows that do as much as others.
use Rattle.std.proofs.Common.{◌≡◌, ℕ, ◌==◌, Bool, true, false, ◌&&◌, ◌||◌, List, [], ◌∷◌, Option, refl}
use Rattle.std.proofs.Common.{ap, sym, ◌∙◌, bytes_eq}
use Rattle.std.specs.List.{list_any}
use Rattle.std.proofs.lemmas.Bool.{and_parts}
use Rattle.mq_topic.proofs.ByteLemmas.{text_is}
use Rattle.mq_acl.specs.Access.{is_deny, grants}
use Rattle.mq_acl.specs.AccessLists.{concerns_by}
use Rattle.mq_acl.specs.Lines.{Access, Read, Write, ReadWrite, Deny}
use Rattle.mq_acl.specs.Rows.{Who, Anonymous, Named, Everyone, AclRow}
use Rattle.mq_acl.specs.declared.access.Direction.{Direction}
use Rattle.mq_acl.specs.declared.access.Direction.TheVariants.{Reading, Writing}
use Rattle.mq_acl.specs.RowsByOwner.{is_everyones}
use Rattle.mq_acl.specs.declared.rules.Rules.{Rules}
use Rattle.mq_acl.specs.declared.rules.Rules.TheVariants.{Own, Mosquitto}
use Rattle.mq_differences.specs.Marks.{does_as_much, grants_all, has_twin, same_who}
use Rattle.mq_differences.specs.Ranks.{is_judge, rank, rank_of}
use Rattle.std.proofs.lemmas.Bool.Decides.{Decides-eqb}

-- for the same clients
pub who_is : (a b : Who) → same_who a b ≡ true → a ≡ b
who_is Anonymous Anonymous e = refl
who_is Anonymous (Named name) e = absurd (let q : false ≡ true = e in cc)
who_is Anonymous Everyone e = absurd (let q : false ≡ true = e in cc)
who_is (Named name) Anonymous e = absurd (let q : false ≡ true = e in cc)
who_is (Named name) (Named other) e = ap Named (text_is name other e)
who_is (Named name) Everyone e = absurd (let q : false ≡ true = e in cc)
who_is Everyone Anonymous e = absurd (let q : false ≡ true = e in cc)
who_is Everyone (Named name) e = absurd (let q : false ≡ true = e in cc)
who_is Everyone Everyone e = refl

abbrev of : Who → Access → List ℕ → AclRow
of who access filter = record { who = who; access = access; filter = filter }

-- what concerns a topic has nothing of the access
pub concerns_same : (rules : Rules) (client : List ℕ) (user : Option (List ℕ)) (name : List ℕ)
    (a b : AclRow) → a.who ≡ b.who → a.filter ≡ b.filter
    → concerns_by rules client user name a ≡ concerns_by rules client user name b
concerns_same Own client user name a b w f =
    (λ i. concerns_by Own client user name (of (w i) a.access (f i)))
concerns_same Mosquitto client user name a b w f =
    (λ i. concerns_by Mosquitto client user name (of (w i) a.access (f i)))

-- it denies just where the other does
deny_same : (a b : Access) → grants_all a b ≡ true → is_deny a ≡ is_deny b
deny_same Deny Deny g = refl
deny_same Deny Read g = absurd (let q : false ≡ true = g in cc)
deny_same Deny Write g = absurd (let q : false ≡ true = g in cc)
deny_same Deny ReadWrite g = absurd (let q : false ≡ true = g in cc)
deny_same Read Deny g = absurd (let q : false ≡ true = g in cc)
deny_same Read Read g = refl
deny_same Read Write g = refl
deny_same Read ReadWrite g = refl
deny_same Write Deny g = absurd (let q : false ≡ true = g in cc)
deny_same Write Read g = refl
deny_same Write Write g = refl
deny_same Write ReadWrite g = refl
deny_same ReadWrite Deny g = absurd (let q : false ≡ true = g in cc)
deny_same ReadWrite Read g = refl
deny_same ReadWrite Write g = refl
deny_same ReadWrite ReadWrite g = refl

grants_both : (d : Direction) (a b : Access) → grants_all a b ≡ true → grants d a ≡ true
    → grants d b ≡ true
grants_both Reading Read Read g e = refl
grants_both Reading Read Write g e = g
grants_both Reading Read ReadWrite g e = refl
grants_both Reading Read Deny g e = g
grants_both Reading ReadWrite ReadWrite g e = refl
grants_both Reading ReadWrite Read g e = refl
grants_both Reading ReadWrite Write g e = g
grants_both Reading ReadWrite Deny g e = g
grants_both Reading Write b g e = absurd (let q : false ≡ true = e in cc)
grants_both Reading Deny b g e = absurd (let q : false ≡ true = e in cc)
grants_both Writing Write Write g e = refl
grants_both Writing Write Read g e = g
grants_both Writing Write ReadWrite g e = refl
grants_both Writing Write Deny g e = g
grants_both Writing ReadWrite ReadWrite g e = refl
grants_both Writing ReadWrite Read g e = g
grants_both Writing ReadWrite Write g e = refl
grants_both Writing ReadWrite Deny g e = g
grants_both Writing Read b g e = absurd (let q : false ≡ true = e in cc)
grants_both Writing Deny b g e = absurd (let q : false ≡ true = e in cc)

judges_both : (d : Direction) (a b : Access) → grants_all a b ≡ true
    → (is_deny a || grants d a) ≡ true → (is_deny b || grants d b) ≡ true
judges_both d a b g h = at (is_deny a) refl h
  where
    at : (k : Bool) → is_deny a ≡ k → (k || grants d a) ≡ true → (is_deny b || grants d b) ≡ true
    at true e h = rw (sym (deny_same a b g) ∙ e) refl
    at false e h = rw (sym (deny_same a b g) ∙ e) (grants_both d a b g h)

same_rank : (rules : Rules) (a b : AclRow) → a.who ≡ b.who → grants_all a.access b.access ≡ true
    → rank rules a ≡ rank rules b
same_rank Own a b w g = ap (rank_of false) (deny_same a.access b.access g)
same_rank Mosquitto a b w g =
    (λ i. rank_of (is_everyones (w i)) (deny_same a.access b.access g i))

-- where a row that may decide does as much as one that concerns a topic, one of the others of its rank concerns it, and may
-- decide
pub twin_any : (rules : Rules) (direction : Direction) (client : List ℕ) (user : Option (List ℕ))
    (name : List ℕ) (row : AclRow) (others : List AclRow) → is_judge direction row ≡ true
    → has_twin others row ≡ true → concerns_by rules client user name row ≡ true
    → list_any (λ other. (is_judge direction other && (rank rules other == rank rules row))
    && concerns_by rules client user name other) others ≡ true
twin_any rules direction client user name row [] j h c = h
twin_any rules direction client user name row (other ∷ others) j h c =
    at (does_as_much row other) refl h
    (λ k. twin_any rules direction client user name row others j k c)
  where
    same : does_as_much row other ≡ true → ((is_judge direction other
        && (rank rules other == rank rules row)) && concerns_by rules client user name other) ≡ true
    same e =
        let first = and_parts (same_who row.who other.who && grants_all row.access other.access)
        (bytes_eq row.filter other.filter) e in
        let front = and_parts (same_who row.who other.who) (grants_all row.access other.access)
        first.0 in
        let who = who_is row.who other.who front.0 in
        rw (
          judges_both direction row.access other.access front.1 j,
          (Decides-eqb (rank rules other) (rank rules row)).1
              (sym (same_rank rules row other who front.1)),
          sym (concerns_same rules client user name row other who
              (text_is row.filter other.filter first.1)) ∙ c,
        ) refl

    right : (p q : Bool) → q ≡ true → (p || q) ≡ true
    right true q e = refl
    right false q e = e

    at : (b : Bool) → does_as_much row other ≡ b → (b || has_twin others row) ≡ true
        → (has_twin others row ≡ true → list_any (λ o. (is_judge direction o
        && (rank rules o == rank rules row)) && concerns_by rules client user name o) others ≡ true)
        → (((is_judge direction other && (rank rules other == rank rules row))
        && concerns_by rules client user name other) || list_any (λ o. (is_judge direction o
        && (rank rules o == rank rules row)) && concerns_by rules client user name o) others) ≡ true
    at true e h f = ap (λ b. b || list_any (λ o. (is_judge direction o
        && (rank rules o == rank rules row)) && concerns_by rules client user name o) others) (same e)
    at false e h f = right ((is_judge direction other && (rank rules other == rank rules row))
        && concerns_by rules client user name other) _ (f h)
