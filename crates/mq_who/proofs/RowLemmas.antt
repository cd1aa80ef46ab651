-- How a list grows that is made of a filter.
use Rattle.std.proofs.Common.{◌≡◌, ◌<◌, ◌≤◌, ◌+◌, ℕ, Bool, true, false, not, ◌&&◌, ◌||◌, List, [], ◌∷◌}
use Rattle.std.proofs.Common.{◌++◌, Bor, get_or, length, take, refl, ap, sym, ◌∙◌, arith, bytes_eq}
use Rattle.std.specs.BTreeSet.{BTreeSet}
use Rattle.std.specs.BTreeMap.{is_at}
use Rattle.std.specs.Cmp.Lexicographic.{slice_cmp}
use Rattle.std.specs.List.{list_any}
use Rattle.std.specs.Ordering.{nat_cmp}
use Rattle.std.proofs.lemmas.List.{map-append, take_all, take_more}
use Rattle.std.proofs.lemmas.List.Elements.{All-nil, All-same}
use Rattle.std.proofs.lemmas.List.Folds.{list_any-append, list_any_more}
use Rattle.std.proofs.lemmas.Map.Text.{is_eq-slice_cmp}
use Rattle.mq_topic.specs.Texts.{is_plain}
use Rattle.mq_acl.specs.Rows.{AclRow, Who, Anonymous, Named, Everyone}
use Rattle.mq_acl.specs.RowsByOwner.{is_everyones}
use Rattle.mq_acl.specs.Views.{owner_view, row_view, row_views}
use Rattle.mq_acl.specs.declared.row.Row.{Row}
use Rattle.mq_acl.specs.declared.rules.Rules.{Rules}
use Rattle.mq_acl.specs.declared.rules.Rules.TheVariants.{Own, Mosquitto}
use Rattle.mq_witness.specs.Literals.{is_among}
use Rattle.mq_witness.specs.Rows.{is_name_of, is_user_of}
use Rattle.mq_differences.specs.Marks.{same_who}
use Rattle.mq_who.specs.Made.{AreMadeFor, IsMade, IsMadeRow, has_own, has_row_for, has_user}
use Rattle.mq_who.specs.Made.{is_made_for, is_named_in, is_own_of, most_made, wants_own}

-- ---- one more row
any_more : (p : AclRow → Bool) (rows : List Row) (row : Row)
    → list_any p (row_views (rows ++ row ∷ [])) ≡ (list_any p (row_views rows) || p (row_view row))
any_more p rows row =
    ap (list_any p) (map-append row_view rows (row ∷ []))
    ∙ list_any-append p (row_views rows) (row_view row ∷ [])
    ∙ ap (λ b. list_any p (row_views rows) || b) (or_off (p (row_view row)))
  where
    or_off : (b : Bool) → (b || false) ≡ b
    or_off true = refl
    or_off false = refl

module _ (allows : Bool) (wanted : List ℕ) where
  pub none_made : (made : List Row) → made ≡ []
      → AreMadeFor allows wanted (λ who. false) 0 made
  none_made made e = record {
    owners = λ who. ap (λ rows. has_row_for rows who) e;
    rows = All-same (IsMadeRow allows wanted) made [] e (All-nil (IsMadeRow allows wanted));
    few = let none : length made ≡ 0 = ap length e in omega arith;
  }

  pub made_same : (whom other : Who → Bool) (most more : ℕ) (made : List Row)
      → ((who : Who) → whom who ≡ other who) → most ≤ more
      → AreMadeFor allows wanted whom most made → AreMadeFor allows wanted other more made
  made_same whom other most more made same grows m = record {
    owners = λ who. m.owners who ∙ same who;
    rows = m.rows;
    few = let few : length made ≤ most = m.few in omega arith;
  }

-- ---- the rows of users
or_assoc : (a b c : Bool) → ((a || b) || c) ≡ (a || (b || c))
or_assoc true b c = refl
or_assoc false b c = refl

-- one more of them
pub users_more : (whom : Who → Bool) (users : List (Bor (List ℕ))) (i : ℕ) (d : Bor (List ℕ))
    (name : List ℕ) → i < length users → (get_or users i d).now ≡ name → (who : Who)
    → ((whom who || is_named_in (take i users) who) || same_who who (Named name))
    ≡ (whom who || is_named_in (take (i + 1) users) who)
users_more whom users i d name low is Anonymous = or_assoc (whom Anonymous) false false
users_more whom users i d name low is Everyone = or_assoc (whom Everyone) false false
users_more whom users i d name low is (Named user) =
    or_assoc (whom (Named user)) (is_among user (take i users)) (bytes_eq user name)
    ∙ ap (λ b. whom (Named user) || b)
    (ap (λ t. is_among user (take i users) || bytes_eq user t) (sym is)
    ∙ sym (list_any_more (λ (other : Bor (List ℕ)). bytes_eq user other.now) users i d low))

-- all of them
pub users_all : (allows : Bool) (wanted : List ℕ) (whom : Who → Bool) (most : ℕ)
    (users : List (Bor (List ℕ))) (i : ℕ) (made : List Row) → i ≤ length users → length users ≤ i
    → AreMadeFor allows wanted (λ who. whom who || is_named_in (take i users) who) (most + i) made
    → AreMadeFor allows wanted (λ who. whom who || is_named_in users who) (most + length users) made
users_all allows wanted whom most users i made low high =
    made_same allows wanted (λ who. whom who || is_named_in (take i users) who)
    (λ who. whom who || is_named_in users who) (most + i) (most + length users) made
    (λ who. ap (λ some. whom who || is_named_in some who) (take_all i users high)) (omega arith)

-- ---- the users of a list
-- one more row
pub own_more : (allows : Bool) (rows : List Row) (i : ℕ) (row : Row) (user : List ℕ)
    → i < length rows → row ≡ get_or rows i row
    → list_any (λ (r : AclRow). is_own_of allows user r.who) (row_views (take (i + 1) rows))
    ≡ (list_any (λ (r : AclRow). is_own_of allows user r.who) (row_views (take i rows))
    || is_own_of allows user (owner_view row.owner))
own_more allows rows i row user low is =
    ap (λ all. list_any (λ (r : AclRow). is_own_of allows user r.who) (row_views all))
    (take_more rows i row low ∙ ap (λ r. take i rows ++ r ∷ []) (sym is))
    ∙ any_more (λ (r : AclRow). is_own_of allows user r.who) (take i rows) row

own_parted : (allows : Bool) (rows : List AclRow) (user : List ℕ)
    → list_any (λ (r : AclRow). is_own_of allows user r.who) rows
    ≡ has_own allows rows (Named user)
own_parted allows [] user = refl
own_parted allows (row ∷ rows) user =
    ap (λ b. is_own_of allows user row.who || b) (own_parted allows rows user)
    ∙ at (is_name_of user row.who) (is_user_of user rows) (allows || not (is_plain user))
  where
    at : (a b c : Bool) → ((a && c) || (b && c)) ≡ ((a || b) && c)
    at true b true = refl
    at true true false = refl
    at true false false = refl
    at false b c = refl

keys_are : (user : List ℕ) (keys : List (Bor (List ℕ)))
    → list_any (is_at (λ k. slice_cmp nat_cmp user k.now)) keys ≡ is_among user keys
keys_are user [] = refl
keys_are user (k ∷ ks) = (λ i. is_eq-slice_cmp user k.now i || keys_are user ks i)

-- those that are collected
pub users_are : (allows : Bool) (rows : List Row) (users : BTreeSet (Bor (List ℕ)))
    (i : ℕ) (all : List (Bor (List ℕ))) (user : List ℕ) → all ≡ users.keys → length rows ≤ i
    → has_user users user
    ≡ list_any (λ (r : AclRow). is_own_of allows user r.who) (row_views (take i rows))
    → is_among user all ≡ has_own allows (row_views rows) (Named user)
users_are allows rows users i all user e high h =
    ap (is_among user) e ∙ sym (keys_are user users.keys) ∙ h
    ∙ ap (λ some. list_any (λ (r : AclRow). is_own_of allows user r.who) (row_views some))
    (take_all i rows high)
    ∙ own_parted allows (row_views rows) user

-- ---- the whole list
-- of those that have a row of their own
own_same : (allows : Bool) (rows : List AclRow) (users : List (Bor (List ℕ)))
    → ((user : List ℕ) → is_among user users ≡ has_own allows rows (Named user))
    → (whom : Who → Bool) (who : Who)
    → ((whom who || (allows && same_who who Anonymous)) || is_named_in users who)
    ≡ (whom who || has_own allows rows who)
own_same allows rows users is whom who =
    or_assoc (whom who) (allows && same_who who Anonymous) (is_named_in users who)
    ∙ ap (λ b. whom who || b) (at who)
  where
    at : (w : Who) → ((allows && same_who w Anonymous) || is_named_in users w)
        ≡ has_own allows rows w
    at Anonymous = one allows
      where
        one : (b : Bool) → ((b && true) || false) ≡ b
        one true = refl
        one false = refl
    at (Named user) = none allows (is_among user users) ∙ is user
      where
        none : (b n : Bool) → ((b && false) || n) ≡ n
        none true n = refl
        none false n = refl
    at Everyone = off allows
      where
        off : (b : Bool) → ((b && false) || false) ≡ false
        off true = refl
        off false = refl

pub own_made : (allows : Bool) (wanted : List ℕ) (rows : List Row) (users all : List (Bor (List ℕ)))
    (made : List Row) → users ≡ all
    → ((user : List ℕ) → is_among user all ≡ has_own allows (row_views rows) (Named user))
    → length all ≤ length rows → (whom : Who → Bool) (most : ℕ)
    → AreMadeFor allows wanted
    (λ who. (whom who || (allows && same_who who Anonymous)) || is_named_in users who)
    ((most + 1) + length users) made
    → AreMadeFor allows wanted (λ who. whom who || has_own allows (row_views rows) who)
    (most + (length rows + 1)) made
own_made allows wanted rows users all made e is few whom most =
    let short : length users ≡ length all = ap length e in
    made_same allows wanted
    (λ who. (whom who || (allows && same_who who Anonymous)) || is_named_in users who)
    (λ who. whom who || has_own allows (row_views rows) who) ((most + 1) + length users)
    (most + (length rows + 1)) made
    (own_same allows (row_views rows) users (λ user. ap (is_among user) e ∙ is user) whom)
    (omega arith)

every_is : (who : Who) → same_who who Everyone ≡ is_everyones who
every_is Anonymous = refl
every_is (Named user) = refl
every_is Everyone = refl

-- those of all clients alone, and the others besides
pub alone_made : (rules : Rules) (allows : Bool) (rows : List Row) (wanted : List ℕ)
    (made : List Row) → wants_own rules wanted ≡ false
    → AreMadeFor allows wanted (λ who. false || same_who who Everyone) (0 + 1) made
    → IsMade rules allows rows wanted made
alone_made rules allows rows wanted made none =
    made_same allows wanted (λ who. false || same_who who Everyone)
    (is_made_for rules allows (row_views rows) wanted) (0 + 1) (most_made rules (length rows)) made
    (λ who. every_is who ∙ or_none (is_everyones who)
    ∙ ap (λ b. is_everyones who || (b && has_own allows (row_views rows) who)) (sym none))
    (least rules)
  where
    or_none : (b : Bool) → b ≡ (b || false)
    or_none true = refl
    or_none false = refl

    least : (r : Rules) → 0 + 1 ≤ most_made r (length rows)
    least Own = omega arith
    least Mosquitto = omega arith

pub all_made : (rules : Rules) (allows : Bool) (rows : List Row) (wanted : List ℕ)
    (made : List Row) → wants_own rules wanted ≡ true
    → AreMadeFor allows wanted
    (λ who. (false || same_who who Everyone) || has_own allows (row_views rows) who)
    ((0 + 1) + (length rows + 1)) made
    → IsMade rules allows rows wanted made
all_made Own allows rows wanted made some m = absurd (let q : false ≡ true = some in cc)
all_made Mosquitto allows rows wanted made some m =
    made_same allows wanted
    (λ who. (false || same_who who Everyone) || has_own allows (row_views rows) who)
    (is_made_for Mosquitto allows (row_views rows) wanted) ((0 + 1) + (length rows + 1))
    (length rows + 2) made
    (λ who. (λ i. every_is who i || (sym some i && has_own allows (row_views rows) who)))
    (omega arith) m
