-- Lists without long rows.
use Rattle.std.proofs.Common.{◌≡◌, ℕ, Bool, true, false, cond, not, ◌&&◌, ◌||◌}
use Rattle.std.proofs.Common.{List, [], ◌∷◌, length, refl, ap, sym, ◌∙◌, Some, None}
use Rattle.std.specs.Prelude.{find, nat_le, nat_lt}
use Rattle.std.specs.List.{list_all}
use Rattle.std.specs.Option.{option_map}
use Rattle.std.proofs.lemmas.Bool.{le-ltb, leb-false, leb-true, lt-ltb, or_from, or_parts}
use Rattle.mq_topic.specs.Levels.{levels}
use Rattle.mq_topic.proofs.ByteLemmas.{text_is}
use Rattle.mq_acl.specs.Rows.{Who, Anonymous, Named, Everyone, AclRow}
use Rattle.mq_acl.specs.Views.{row_view, row_views}
use Rattle.mq_acl.specs.declared.row.Row.{Row}
use Rattle.mq_rename.specs.Lists.{has_long, is_long}
use Rattle.mq_witness.specs.Limits.{is_short, is_short_row, long_line, short_who}
use Rattle.mq_witness.specs.Rows.{is_name_of, is_user_of}
use Rattle.mq_regions.specs.Limits.{has_long_filter, has_long_row, is_long_row, is_long_who}

long_not : (a b : ℕ) → nat_lt a b ≡ not (nat_le b a)
long_not a b = at (nat_le b a) refl
  where
    at : (t : Bool) → nat_le b a ≡ t → nat_lt a b ≡ not t
    at true e = le-ltb a b (leb-true b a e)
    at false e = lt-ltb a b (leb-false b a e)

any_long : (ls : List (List ℕ)) → has_long ls ≡ not (list_all is_short ls)
any_long [] = refl
any_long (l ∷ ls) =
    (λ i. long_not 300 (length l) i || any_long ls i)
    ∙ or_not (is_short l) (list_all is_short ls)
  where
    or_not : (a b : Bool) → (not a || not b) ≡ not (a && b)
    or_not true b = refl
    or_not false b = refl

who_long : (w : Who) → is_long_who w ≡ not (short_who w)
who_long Anonymous = refl
who_long (Named name) = long_not 300 (length name)
who_long Everyone = refl

row_long : (row : AclRow) → is_long_row row ≡ not (is_short_row row)
row_long row =
    (λ i. any_long (levels row.filter) i || who_long row.who i)
    ∙ or_not (list_all is_short (levels row.filter)) (short_who row.who)
  where
    or_not : (a b : Bool) → (not a || not b) ≡ not (a && b)
    or_not true b = refl
    or_not false b = refl

pub none_long : (rows : List Row) → long_line rows ≡ None → has_long_row (row_views rows) ≡ false
none_long [] h = refl
none_long (row ∷ rows) h =
    ap (λ b. b || has_long_row (row_views rows)) (row_long (row_view row))
    ∙ at (not (is_short_row (row_view row))) h (none_long rows)
  where
    at : (b : Bool) → option_map (λ (r : Row). r.line) (cond b (Some row)
        (find (λ r. not (is_short_row (row_view r))) rows)) ≡ None
        → (long_line rows ≡ None → has_long_row (row_views rows) ≡ false)
        → (b || has_long_row (row_views rows)) ≡ false
    at true h f = absurd (let q : Some row.line ≡ None = h in cc)
    at false h f = f h

pub long_none : (rows : List Row) → has_long_row (row_views rows) ≡ false → long_line rows ≡ None
long_none [] h = refl
long_none (row ∷ rows) h =
    at (not (is_short_row (row_view row)))
    (sym (ap (λ b. b || has_long_row (row_views rows)) (row_long (row_view row))) ∙ h)
    (long_none rows)
  where
    at : (b : Bool) → (b || has_long_row (row_views rows)) ≡ false
        → (has_long_row (row_views rows) ≡ false → long_line rows ≡ None)
        → option_map (λ (r : Row). r.line) (cond b (Some row)
        (find (λ r. not (is_short_row (row_view r))) rows)) ≡ None
    at true h f = absurd (let q : true ≡ false = h in cc)
    at false h f = f h

pub short_filters : (rows : List Row) → has_long_row (row_views rows) ≡ false
    → has_long_filter rows ≡ false
short_filters [] h = refl
short_filters (row ∷ rows) h =
    let both = or_parts (is_long_row (row_view row)) (has_long_row (row_views rows)) h in
    let own = or_parts (has_long (levels row.filter)) (is_long_who (row_view row).who) both.0 in
    or_from (has_long (levels row.filter)) (has_long_filter rows) own.0
    (short_filters rows both.1)

-- the user name of a row is short
pub short_user : (user : List ℕ) (rows : List AclRow) → has_long_row rows ≡ false
    → is_user_of user rows ≡ true → is_long user ≡ false
short_user user [] h k = absurd (let q : false ≡ true = k in cc)
short_user user (row ∷ rows) h k =
    let both = or_parts (is_long_row row) (has_long_row rows) h in
    let own = or_parts (has_long (levels row.filter)) (is_long_who row.who) both.0 in
    at (is_name_of user row.who) refl k (of_who row.who own.1)
    (λ j. short_user user rows both.1 j)
  where
    of_who : (w : Who) → is_long_who w ≡ false → is_name_of user w ≡ true → is_long user ≡ false
    of_who Anonymous h k = absurd (let q : false ≡ true = k in cc)
    of_who (Named name) h k = ap is_long (text_is user name k) ∙ h
    of_who Everyone h k = absurd (let q : false ≡ true = k in cc)

    at : (b : Bool) → is_name_of user row.who ≡ b → (b || is_user_of user rows) ≡ true
        → (is_name_of user row.who ≡ true → is_long user ≡ false)
        → (is_user_of user rows ≡ true → is_long user ≡ false) → is_long user ≡ false
    at true e k f g = f e
    at false e k f g = g k
