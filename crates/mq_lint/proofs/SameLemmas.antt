-- Rows that say the same.
use Rattle.std.proofs.Common.{◌≡◌, ℕ, suc, Bool, true, false, not, ◌&&◌, ◌||◌, cond, List, []}
use Rattle.std.proofs.Common.{◌∷◌, ◌++◌, Contains, refl, ap, sym, ◌∙◌, subst, arith}
use Rattle.std.specs.Str.{bytes_eq}
use Rattle.std.specs.List.{filter, list_any}
use Rattle.std.proofs.lemmas.Bool.{and_parts}
use Rattle.std.proofs.lemmas.List.Folds.{list_any-append, list_any_at}
use Rattle.mq_topic.proofs.ByteLemmas.{text_is, text_itself}
use Rattle.mq_acl.specs.Lines.{Access, Read, Write, ReadWrite, Deny}
use Rattle.mq_acl.specs.Rows.{Who, Anonymous, Named, Everyone, AclRow}
use Rattle.mq_differences.specs.Marks.{same_who}
use Rattle.mq_differences.proofs.TwinLemmas.{who_is}
use Rattle.mq_lint.specs.Needless.{is_among, same_access, same_row, without, without_all}
use Rattle.mq_lint.specs.Cases.{has_row}

-- ---- they are equal
access_is : (a b : Access) → same_access a b ≡ true → a ≡ b
access_is Read Read e = refl
access_is Read Write e = absurd (let q : false ≡ true = e in cc)
access_is Read ReadWrite e = absurd (let q : false ≡ true = e in cc)
access_is Read Deny e = absurd (let q : false ≡ true = e in cc)
access_is Write Read e = absurd (let q : false ≡ true = e in cc)
access_is Write Write e = refl
access_is Write ReadWrite e = absurd (let q : false ≡ true = e in cc)
access_is Write Deny e = absurd (let q : false ≡ true = e in cc)
access_is ReadWrite Read e = absurd (let q : false ≡ true = e in cc)
access_is ReadWrite Write e = absurd (let q : false ≡ true = e in cc)
access_is ReadWrite ReadWrite e = refl
access_is ReadWrite Deny e = absurd (let q : false ≡ true = e in cc)
access_is Deny Read e = absurd (let q : false ≡ true = e in cc)
access_is Deny Write e = absurd (let q : false ≡ true = e in cc)
access_is Deny ReadWrite e = absurd (let q : false ≡ true = e in cc)
access_is Deny Deny e = refl

abbrev of : Who → Access → List ℕ → AclRow
of who access filter = record { who = who; access = access; filter = filter }

pub row_is : (a b : AclRow) → same_row a b ≡ true → a ≡ b
row_is a b e =
    let parts = and_parts (same_who a.who b.who && same_access a.access b.access)
    (bytes_eq a.filter b.filter) e in
    let both = and_parts (same_who a.who b.who) (same_access a.access b.access) parts.0 in
    (λ i. of (who_is a.who b.who both.0 i) (access_is a.access b.access both.1 i)
    (text_is a.filter b.filter parts.1 i))

-- a row says the same as itself
who_itself : (who : Who) → same_who who who ≡ true
who_itself Anonymous = refl
who_itself (Named name) = text_itself name
who_itself Everyone = refl

access_itself : (access : Access) → same_access access access ≡ true
access_itself Read = refl
access_itself Write = refl
access_itself ReadWrite = refl
access_itself Deny = refl

pub row_itself : (row : AclRow) → same_row row row ≡ true
row_itself row = rw (who_itself row.who, access_itself row.access, text_itself row.filter) refl

-- ---- in a list
-- what the row passes, a row of the list passes
pub has_any : (t : AclRow → Bool) (row : AclRow) (rows : List AclRow) → has_row row rows ≡ true
    → t row ≡ true → list_any t rows ≡ true
has_any t row [] h e = absurd (let q : false ≡ true = h in cc)
has_any t row (r ∷ rs) h e = at (same_row r row) refl h (λ k. has_any t row rs k e)
  where
    second : (a b : Bool) → b ≡ true → (a || b) ≡ true
    second true b e = refl
    second false b e = e

    at : (b : Bool) → same_row r row ≡ b → (b || has_row row rs) ≡ true
        → (has_row row rs ≡ true → list_any t rs ≡ true) → (t r || list_any t rs) ≡ true
    at true s h f = rw (ap t (row_is r row s) ∙ e) refl
    at false s h f = second (t r) (list_any t rs) (f h)

others_any : (t : AclRow → Bool) (row : AclRow) (rows : List AclRow)
    → (list_any t rows || t row) ≡ (list_any t (without row rows) || t row)
others_any t row [] = refl
others_any t row (r ∷ rs) = at (same_row r row) refl (others_any t row rs)
  where
    drops : (a b c : Bool) → (b || a) ≡ (c || a) → ((a || b) || a) ≡ (c || a)
    drops true true true e = refl
    drops true true false e = refl
    drops true false true e = refl
    drops true false false e = refl
    drops false b c e = e

    keeps : (x a b c : Bool) → (b || a) ≡ (c || a) → ((x || b) || a) ≡ ((x || c) || a)
    keeps true a b c e = refl
    keeps false a b c e = e

    at : (b : Bool) → same_row r row ≡ b
        → (list_any t rs || t row) ≡ (list_any t (without row rs) || t row)
        → ((t r || list_any t rs) || t row)
        ≡ (list_any t (cond (not b) (r ∷ without row rs) (without row rs)) || t row)
    at true s h =
        subst (λ x. ((x || list_any t rs) || t row) ≡ (list_any t (without row rs) || t row))
        (sym (ap t (row_is r row s)))
        (drops (t row) (list_any t rs) (list_any t (without row rs)) h)
    at false s h = keeps (t r) (t row) (list_any t rs) (list_any t (without row rs)) h

absorbed : (a b : Bool) → (b ≡ true → a ≡ true) → (a || b) ≡ a
absorbed true b f = refl
absorbed false true f = absurd (let q = f refl in cc)
absorbed false false f = refl

-- what a list has that passes is the row, or one of those that don't say the same
pub any_with : (t : AclRow → Bool) (row : AclRow) (rows : List AclRow) → has_row row rows ≡ true
    → list_any t rows ≡ (list_any t (without row rows) || t row)
any_with t row rows h =
    sym (absorbed (list_any t rows) (t row) (has_any t row rows h)) ∙ others_any t row rows

-- a row of the list is in it
pub row_contained : (row : AclRow) (rows : List AclRow) → has_row row rows ≡ true
    → Contains rows row
row_contained row [] h = absurd (let q : false ≡ true = h in cc)
row_contained row (r ∷ rs) h = at (same_row r row) refl h (row_contained row rs)
  where
    at : (b : Bool) → same_row r row ≡ b → (b || has_row row rs) ≡ true
        → (has_row row rs ≡ true → Contains rs row) → Contains (r ∷ rs) row
    at true s h f = (0, omega arith, row_is r row s)
    at false s h f = let c = f h in let low = c.1 in (suc c.0, omega arith, c.2)

-- and the other way round
pub has_contained : (row : AclRow) (rows : List AclRow) → Contains rows row
    → has_row row rows ≡ true
has_contained row rows c =
    list_any_at (λ r. same_row r row) rows c.0 row c.1
    (ap (λ r. same_row r row) c.2 ∙ row_itself row)

-- ---- filters
pub any_kept : (q n : AclRow → Bool) (rows : List AclRow)
    → list_any q (filter n rows) ≡ list_any (λ r. n r && q r) rows
any_kept q n [] = refl
any_kept q n (r ∷ rs) = at (n r) (any_kept q n rs)
  where
    at : (b : Bool) → list_any q (filter n rs) ≡ list_any (λ r. n r && q r) rs
        → list_any q (cond b (r ∷ filter n rs) (filter n rs))
        ≡ ((b && q r) || list_any (λ r. n r && q r) rs)
    at true h = ap (λ b. q r || b) h
    at false h = h

pub swapped_filters : (p q : AclRow → Bool) (rows : List AclRow)
    → filter p (filter q rows) ≡ filter q (filter p rows)
swapped_filters p q [] = refl
swapped_filters p q (r ∷ rs) = at (p r) (q r) refl refl (swapped_filters p q rs)
  where
    at : (a b : Bool) → p r ≡ a → q r ≡ b → filter p (filter q rs) ≡ filter q (filter p rs)
        → filter p (cond b (r ∷ filter q rs) (filter q rs))
        ≡ filter q (cond a (r ∷ filter p rs) (filter p rs))
    at true true e f h = rw (e, f) (ap (λ l. r ∷ l) h)
    at true false e f h = rw f h
    at false true e f h = rw e h
    at false false e f h = h

-- ---- without some rows
pub without_none : (rows : List AclRow) → without_all [] rows ≡ rows
without_none [] = refl
without_none (r ∷ rs) = ap (λ l. r ∷ l) (without_none rs)

-- one row more
pub without_more : (some : List AclRow) (row : AclRow) (rows : List AclRow)
    → without row (without_all some rows) ≡ without_all (some ++ row ∷ []) rows
without_more some row [] = refl
without_more some row (r ∷ rs) =
    outer (is_among some r) (without_more some row rs)
    ∙ ap (λ b. cond (not b) (r ∷ without_all (some ++ row ∷ []) rs)
    (without_all (some ++ row ∷ []) rs))
    (sym (list_any-append (λ one. same_row r one) some (row ∷ [])))
  where
    inner : (s : Bool) → without row (without_all some rs) ≡ without_all (some ++ row ∷ []) rs
        → cond (not s) (r ∷ without row (without_all some rs)) (without row (without_all some rs))
        ≡ cond (not (s || false)) (r ∷ without_all (some ++ row ∷ []) rs)
        (without_all (some ++ row ∷ []) rs)
    inner true h = h
    inner false h = ap (λ l. r ∷ l) h

    outer : (a : Bool) → without row (without_all some rs) ≡ without_all (some ++ row ∷ []) rs
        → without row (cond (not a) (r ∷ without_all some rs) (without_all some rs))
        ≡ cond (not (a || (same_row r row || false))) (r ∷ without_all (some ++ row ∷ []) rs)
        (without_all (some ++ row ∷ []) rs)
    outer true h = h
    outer false h = inner (same_row r row) h

-- a row that is among them isn't left
pub among_gone : (some : List AclRow) (row : AclRow) (rows : List AclRow)
    → is_among some row ≡ true → has_row row (without_all some rows) ≡ false
among_gone some row [] e = refl
among_gone some row (r ∷ rs) e = at (is_among some r) refl (among_gone some row rs e)
  where
    other : (s : Bool) → same_row r row ≡ s → is_among some r ≡ false → s ≡ false
    other true same f = absurd (let q : false ≡ true = sym f ∙ (ap (is_among some)
        (row_is r row same) ∙ e) in cc)
    other false same f = refl

    at : (a : Bool) → is_among some r ≡ a → has_row row (without_all some rs) ≡ false
        → has_row row (cond (not a) (r ∷ without_all some rs) (without_all some rs)) ≡ false
    at true f h = h
    at false f h = ap (λ s. s || has_row row (without_all some rs))
        (other (same_row r row) refl f) ∙ h

-- nor is it missed
pub gone_already : (row : AclRow) (rows : List AclRow) → has_row row rows ≡ false
    → without row rows ≡ rows
gone_already row [] e = refl
gone_already row (r ∷ rs) e = at (same_row r row) e (gone_already row rs)
  where
    at : (s : Bool) → (s || has_row row rs) ≡ false
        → (has_row row rs ≡ false → without row rs ≡ rs)
        → cond (not s) (r ∷ without row rs) (without row rs) ≡ r ∷ rs
    at true e h = absurd (let q : true ≡ false = e in cc)
    at false e h = ap (λ l. r ∷ l) (h e)

-- one that isn't among them is left
pub has_left : (some : List AclRow) (row : AclRow) (rows : List AclRow)
    → is_among some row ≡ false → has_row row rows ≡ true
    → has_row row (without_all some rows) ≡ true
has_left some row [] f h = absurd (let q : false ≡ true = h in cc)
has_left some row (r ∷ rs) f h = at (same_row r row) refl (is_among some r) refl h
    (has_left some row rs f)
  where
    second : (a b : Bool) → b ≡ true → (a || b) ≡ true
    second true b e = refl
    second false b e = e

    at : (s : Bool) → same_row r row ≡ s → (a : Bool) → is_among some r ≡ a
        → (s || has_row row rs) ≡ true
        → (has_row row rs ≡ true → has_row row (without_all some rs) ≡ true)
        → has_row row (cond (not a) (r ∷ without_all some rs) (without_all some rs)) ≡ true
    at true same true there h g = absurd (let q : false ≡ true =
        sym f ∙ (ap (is_among some) (sym (row_is r row same)) ∙ there) in cc)
    at true same false there h g =
        ap (λ s. s || has_row row (without_all some rs)) same
    at false same true there h g = g h
    at false same false there h g =
        second (same_row r row) (has_row row (without_all some rs)) (g h)

-- one that is left is one of them
pub has_kept : (some : List AclRow) (row : AclRow) (rows : List AclRow)
    → has_row row (without_all some rows) ≡ true → has_row row rows ≡ true
has_kept some row [] h = h
has_kept some row (r ∷ rs) h = at (is_among some r) h (has_kept some row rs)
  where
    second : (a b : Bool) → b ≡ true → (a || b) ≡ true
    second true b e = refl
    second false b e = e

    either : (a b c : Bool) → (a || b) ≡ true → (b ≡ true → c ≡ true) → (a || c) ≡ true
    either true b c h g = refl
    either false b c h g = g h

    at : (a : Bool)
        → has_row row (cond (not a) (r ∷ without_all some rs) (without_all some rs)) ≡ true
        → (has_row row (without_all some rs) ≡ true → has_row row rs ≡ true)
        → (same_row r row || has_row row rs) ≡ true
    at true h g = second (same_row r row) (has_row row rs) (g h)
    at false h g = either (same_row r row) (has_row row (without_all some rs)) (has_row row rs) h g
