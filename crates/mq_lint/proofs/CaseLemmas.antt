-- What is found for clients of one class.
use Rattle.std.proofs.Common.{◌≡◌, ◌≢◌, ◌==◌, ◌+◌, ◌<◌, ℕ, Bool, true, false, not, ◌&&◌, List, [], ◌∷◌, Option, Some, None}
use Rattle.std.proofs.Common.{All, Contains, Bor, length, get_or, refl, ap, sym, ◌∙◌}
use Rattle.std.proofs.Common.{subst, cond}
use Rattle.std.specs.Prelude.{IfSome, is_some, string_bytes}
use Rattle.std.specs.List.{filter, list_any}
use Rattle.std.proofs.lemmas.Bool.{and_parts, both_ways, not-true}
use Rattle.std.proofs.lemmas.List.Elements.{All-append, All-cons, All-contains}
use Rattle.std.proofs.lemmas.List.Elements.{All-contains_itself, All-filter, All-nil}
use Rattle.std.proofs.lemmas.List.Folds.{list_any_at, list_any_none}
use Rattle.mq_acl.specs.Access.{begins_with_dollar, is_deny}
use Rattle.mq_acl.specs.AccessLists.{allow_by, concerns_by}
use Rattle.mq_acl.specs.Rows.{AclRow}
use Rattle.mq_acl.specs.Views.{row_view}
use Rattle.mq_acl.specs.declared.row.Row.{Row}
use Rattle.mq_acl.specs.RowsByOwner.{is_everyones}
use Rattle.mq_acl.specs.declared.access.Direction.{Direction}
use Rattle.mq_acl.specs.declared.access.Direction.TheVariants.{Reading, Writing}
use Rattle.mq_acl.specs.declared.rules.Rules.{Rules}
use Rattle.mq_acl.specs.declared.rules.Rules.TheVariants.{Own, Mosquitto}
use Rattle.mq_witness.specs.Asked.{AskedRows, user_view}
use Rattle.mq_witness.specs.declared.witness.Witness.{Witness}
use Rattle.mq_witness.specs.Rows.{lent_rows}
use Rattle.mq_witness.specs.Ruled.{FindsNoneBy, IsAskedOf, ShowsBy, decides_by}
use Rattle.mq_shapes.specs.declared.clients.Clients.{Clients}
use Rattle.mq_witness.specs.declared.topics.Topics.{Topics}
use Rattle.mq_witness.specs.declared.topics.Topics.TheVariants.{Open}
use Rattle.mq_differences.specs.ByOwner.{is_for, is_own}
use Rattle.mq_differences.proofs.FirstLemmas.{All-unmap}
use Rattle.mq_differences.specs.Classes.{can_be_user}
use Rattle.mq_differences.specs.Questions.{IsPoint}
use Rattle.mq_differences.specs.Ranks.{is_judge, rank, rank_of}
use Rattle.mq_differences.proofs.DeciderLemmas.{some_at}
use Rattle.mq_differences.proofs.PointLemmas.{client_user}
use Rattle.mq_lint.specs.Needless.{is_client, same_row, without}
use Rattle.mq_lint.specs.Cases.{CanAsk, Finds, FindsNone, GrantsAlone, GrantsNone, IsNeeded}
use Rattle.mq_lint.specs.Cases.{IsNeedlessIn, IsNeedlessTo, NoneAt, Precedes, before, has_row}
use Rattle.mq_lint.specs.Cases.{is_at, is_before, others_of}
use Rattle.mq_lint.proofs.PointLemmas.{AreFor, any_others, any_tested, below_1, below_2, below_3}
use Rattle.mq_lint.proofs.PointLemmas.{below_4, for_clients, no_4, no_5, no_6, other_01, other_03, other_1}
use Rattle.mq_lint.proofs.PointLemmas.{other_12, other_23, other_3, same_0, same_1, same_2, same_3}
use Rattle.mq_lint.proofs.PointLemmas.{other_allowed, same_allowed, seen_other, seen_same}
use Rattle.mq_lint.proofs.PointLemmas.{unconcerned, undecided}
use Rattle.mq_lint.proofs.SameLemmas.{row_contained}

-- ---- what can be asked
pub others_contained : (c : Clients) (row : AclRow) (rows : List AclRow)
    → All (Contains rows) (others_of c row rows)
others_contained c row rows =
    All-append (Contains rows) (without row (filter (λ r. is_everyones r.who) rows))
    (without row (filter (λ r. is_own c r.who) rows))
    (part (λ r. is_everyones r.who)) (part (λ r. is_own c r.who))
  where
    part : (t : AclRow → Bool) → All (Contains rows) (without row (filter t rows))
    part t =
        All-filter (λ r. not (same_row r row)) (Contains rows) (filter t rows)
        (All-filter t (Contains rows) rows (All-contains_itself rows))

others_within : (c : Clients) (row : AclRow) (rows all : List AclRow) → All (Contains all) rows
    → All (Contains all) (others_of c row rows)
others_within c row rows all within = λ k d low.
    All-contains (Contains all) rows (get_or (others_of c row rows) k d) within
    (others_contained c row rows k d low)

pub row_asked : (rules : Rules) (asked : AskedRows) (c : Clients) (row : AclRow)
    → CanAsk rules asked c row
    → All (Contains asked.rows) (row ∷ [])
row_asked rules asked c row can =
    All-cons (Contains asked.rows) row [] (row_contained row asked.rows can.inside)
    (All-nil (Contains asked.rows))

pub pair_asked : (rules : Rules) (asked : AskedRows) (c : Clients) (row other : AclRow)
    → CanAsk rules asked c row
    → Contains asked.rows other → All (Contains asked.rows) (row ∷ (other ∷ []))
pair_asked rules asked c row other can inside =
    All-cons (Contains asked.rows) row (other ∷ []) (row_contained row asked.rows can.inside)
    (All-cons (Contains asked.rows) other [] inside (All-nil (Contains asked.rows)))

-- ---- the other rows, as they are lent
pub lent_filter : (t : AclRow → Bool) (rows : List (Bor Row))
    → lent_rows (filter (λ (r : Bor Row). t (row_view r.now)) rows) ≡ filter t (lent_rows rows)
lent_filter t [] = refl
lent_filter t (r ∷ rs) = at (t (row_view r.now)) (lent_filter t rs)
  where
    at : (b : Bool)
        → lent_rows (filter (λ (r : Bor Row). t (row_view r.now)) rs) ≡ filter t (lent_rows rs)
        → lent_rows (cond b (r ∷ filter (λ (r : Bor Row). t (row_view r.now)) rs)
        (filter (λ (r : Bor Row). t (row_view r.now)) rs))
        ≡ cond b (row_view r.now ∷ filter t (lent_rows rs)) (filter t (lent_rows rs))
    at true h = ap (λ l. row_view r.now ∷ l) h
    at false h = h

-- those that pass a test
pub lent_others : (t : AclRow → Bool) (c : Clients) (row : AclRow) (rows : List AclRow)
    (others all kept : List (Bor Row)) → lent_rows others ≡ others_of c row rows → all ≡ others
    → kept ≡ filter (λ (r : Bor Row). t (row_view r.now)) all
    → lent_rows kept ≡ filter t (others_of c row rows)
lent_others t c row rows others all kept are same is =
    ap (λ (l : List (Bor Row)). lent_rows l) is ∙ lent_filter t all
    ∙ ap (λ (l : List (Bor Row)). filter t (lent_rows l)) same ∙ ap (filter t) are

pub kept_contained : (t : AclRow → Bool) (c : Clients) (row : AclRow) (rows all : List AclRow)
    → All (Contains all) rows → (kept : List AclRow) → kept ≡ filter t (others_of c row rows)
    → All (Contains all) kept
kept_contained t c row rows all within kept is =
    subst (All (Contains all)) (sym is)
    (All-filter t (Contains all) (others_of c row rows) (others_within c row rows all within))

-- one of them
pub other_among : (c : Clients) (row : AclRow) (rows : List AclRow)
    (others items : List (Bor Row)) (n : ℕ) (other : Bor Row)
    → lent_rows others ≡ others_of c row rows → items ≡ others → n < length items
    → other ≡ get_or items n other → Contains (others_of c row rows) (row_view other.now)
other_among c row rows others items n other are same low is =
    subst (λ l. Contains l (row_view other.now))
    (ap (λ (l : List (Bor Row)). lent_rows l) same ∙ are)
    (subst (λ (r : Bor Row). Contains (lent_rows items) (row_view r.now)) (sym is)
    (All-unmap (Contains (lent_rows items)) (λ (r : Bor Row). row_view r.now) items
    (All-contains_itself (lent_rows items)) n other low))

pub other_inside : (c : Clients) (row : AclRow) (rows all : List AclRow) → All (Contains all) rows
    → (others items : List (Bor Row)) (n : ℕ) (other : Bor Row)
    → lent_rows others ≡ others_of c row rows → items ≡ others → n < length items
    → other ≡ get_or items n other → Contains all (row_view other.now)
other_inside c row rows all within others items n other are same low is =
    All-contains (Contains all) (others_of c row rows) (row_view other.now)
    (others_within c row rows all within)
    (other_among c row rows others items n other are same low is)

-- ---- who is asked about
pub point_asked : (asked : AskedRows) (c : Clients) (client : List ℕ) (user : Option (List ℕ))
    → IsAskedOf asked c client user → is_client client user ≡ true
point_asked asked c client user p =
    rw (p.client_fits, client_user asked c user p.user_fits) refl

-- topics that begin with `$`, and the others
pub none_of_both : (topics : Topics) (asked : AskedRows) (c : Clients) (must cover : List AclRow)
    → FindsNoneBy false topics asked c must cover → FindsNoneBy true topics asked c must cover
    → FindsNone topics asked c must cover
none_of_both topics asked c must cover f g client name user p = at (begins_with_dollar name) refl
  where
    at : (b : Bool) → begins_with_dollar name ≡ b
        → decides_by asked.rules client user name must cover ≡ false
    at true e = g client name user p.is_asked p.valid e p.taken
    at false e = f client name user p.is_asked p.valid e p.taken

-- what was found shows it
pub found_by : (topics : Topics) (asked : AskedRows) (c : Clients) (must cover : List AclRow)
    (found : Option Witness) → is_some found ≡ true
    → IfSome found (ShowsBy topics asked c must cover) → Finds topics asked c must cover
found_by topics asked c must cover None e s = absurd (let q : false ≡ true = e in cc)
found_by topics asked c must cover (Some w) e s = record {
  client = string_bytes w.client;
  user = user_view w.user;
  name = w.name;
  shown = s;
}

-- ---- two rows that concern a topic
pub record Both (rules : Rules) (client : List ℕ) (user : Option (List ℕ)) (name : List ℕ)
    (row other : AclRow) (cover : List AclRow) : Type 0 where
  pub here : concerns_by rules client user name row ≡ true
  pub there : concerns_by rules client user name other ≡ true
  pub covered : list_any (concerns_by rules client user name) cover ≡ false

pub both : (rules : Rules) (client : List ℕ) (user : Option (List ℕ)) (name : List ℕ)
    (row other : AclRow) (cover : List AclRow)
    → decides_by rules client user name (row ∷ (other ∷ [])) cover ≡ true
    → Both rules client user name row other cover
both rules client user name row other cover e =
    let c : AclRow → Bool = concerns_by rules client user name in
    let parts = and_parts (c row && (c other && true)) (not (list_any c cover)) e in
    let pair = and_parts (c row) (c other && true) parts.0 in
    record {
      here = pair.0;
      there = (and_parts (c other) true pair.1).0;
      covered = not-true (list_any c cover) parts.1;
    }

-- ---- the rows of a rank
module _ (asked : AskedRows) (rows : List AclRow) (within : All (Contains asked.rows) rows)
    (clients : Clients) (row : AclRow) (direction : Direction) (client name : List ℕ)
    (user : Option (List ℕ)) (p : IsPoint (Open direction) asked clients client user name) where
  abbrev c : AclRow → Bool
  c r = concerns_by asked.rules client user name r

  abbrev others : List AclRow
  others = others_of clients row rows

  abbrev left : List AclRow
  left = without row rows

  abbrev some : ℕ → Bool
  some place = some_at asked.rules direction c place left

  user_fits : can_be_user user ≡ true
  user_fits = client_user asked clients user p.is_asked.user_fits

  fits_all : AreFor c clients rows
  fits_all = λ k d low.
      All-contains (λ r. c r ≡ true → is_for clients r.who ≡ true) asked.rows (get_or rows k d)
      (for_clients asked clients client name user p.is_asked.user_fits) (within k d low)

  -- a row of the cover concerns it where one of all rows does that comes before
  covered_is : (place : ℕ) → list_any c (before asked.rules direction place others)
      ≡ list_any (λ r. c r && is_before asked.rules direction place r) left
  covered_is place =
      any_tested c (is_before asked.rules direction place) clients row rows fits_all

  at_for : (place : ℕ) → AreFor (λ r. is_at asked.rules direction place r && c r) clients rows
  at_for place = λ k d low e.
      fits_all k d low (and_parts (is_at asked.rules direction place (get_or rows k d))
      (c (get_or rows k d)) e).1

  none_with : (a b d t : Bool) → a ≡ true → d ≡ false
      → (t ≡ true → ((a && (b && true)) && not d) ≡ false) → (t && b) ≡ false
  none_with a b d false e f h = refl
  none_with true true d true e f h = absurd (both_ways (not d) (h refl) (rw f refl))
  none_with true false d true e f h = refl
  none_with false b d true e f h = absurd (let q : false ≡ true = e in cc)

  -- where one of this rank would decide, one before it does
  reached : (place : ℕ) → c row ≡ true → NoneAt asked rows clients row direction place
      → some place ≡ true
      → list_any (λ r. c r && is_before asked.rules direction place r) left ≡ true
  reached place here none found =
      at (list_any c (before asked.rules direction place others)) refl
    where
      at : (b : Bool) → list_any c (before asked.rules direction place others) ≡ b
          → list_any (λ r. c r && is_before asked.rules direction place r) left ≡ true
      at true e = sym (covered_is place) ∙ e
      at false e = absurd (both_ways
          (list_any (λ r. is_at asked.rules direction place r && c r) others)
          (list_any_none (λ r. is_at asked.rules direction place r && c r) others
          (λ k d low. none_with (c row) (c (get_or others k d))
          (list_any c (before asked.rules direction place others))
          (is_at asked.rules direction place (get_or others k d)) here e
          (λ t. none k d low t client name user p)))
          (any_others (λ r. is_at asked.rules direction place r && c r) clients row rows
          (at_for place) ∙ found))

  alone : (b d : Bool) → b ≡ true → ((b && true) && not d) ≡ false → d ≡ true
  alone true true e f = refl
  alone true false e f = absurd (let q : true ≡ false = f in cc)
  alone false d e f = absurd (let q : false ≡ true = e in cc)

  -- some row decides
  decided_there : c row ≡ true → is_deny row.access ≡ false
      → GrantsNone asked rows clients row direction
      → list_any (λ r. c r && is_before asked.rules direction 4 r) left ≡ true
  decided_there here permits none =
      sym (covered_is 4)
      ∙ alone (c row) (list_any c (before asked.rules direction 4 others)) here
      (none permits client name user p)

  -- a row that decides before no other one that says the opposite, nor alone
  same_by : (e d : Bool) → rank asked.rules row ≡ rank_of e d → is_deny row.access ≡ d
      → has_row row rows ≡ true → is_judge direction row ≡ true → c row ≡ true
      → NoneAt asked rows clients row direction (rank_of e d + 1)
      → NoneAt asked rows clients row direction (rank_of e d + 3)
      → GrantsNone asked rows clients row direction
      → allow_by asked.rules rows client user name direction
      ≡ allow_by asked.rules left client user name direction
  same_by false true v so h j here next last none =
      same_allowed asked.rules client user name direction rows left
      (seen_same asked.rules client user name direction row rows 0 user_fits h j here v
      (same_0 (some 0) (some 1) (some 2) (some 3)
      (λ e. sym (below_1 asked.rules direction c left) ∙ reached 1 here next e)
      (λ e. sym (below_3 asked.rules direction c left) ∙ reached 3 here last e)))
  same_by false false v so h j here next last none =
      same_allowed asked.rules client user name direction rows left
      (seen_same asked.rules client user name direction row rows 1 user_fits h j here v
      (same_1 (some 0) (some 1) (some 2) (some 3)
      (λ e. sym (below_2 asked.rules direction c left) ∙ reached 2 here next e)
      (sym (below_4 asked.rules direction c left) ∙ decided_there here so none)))
  same_by true true v so h j here next last none =
      same_allowed asked.rules client user name direction rows left
      (seen_same asked.rules client user name direction row rows 2 user_fits h j here v
      (same_2 (some 0) (some 1) (some 2) (some 3)
      (λ e. sym (below_3 asked.rules direction c left) ∙ reached 3 here next e)))
  same_by true false v so h j here next last none =
      same_allowed asked.rules client user name direction rows left
      (seen_same asked.rules client user name direction row rows 3 user_fits h j here v
      (same_3 (some 0) (some 1) (some 2) (some 3)
      (sym (below_4 asked.rules direction c left) ∙ decided_there here so none)))

  -- ---- where one does, the row is needed
  -- a row of the rank is among those that are left
  some_left : (place : ℕ) (other : AclRow) → Contains others other
      → is_at asked.rules direction place other ≡ true → c other ≡ true → some place ≡ true
  some_left place other inside is there =
      sym (any_others (λ r. is_at asked.rules direction place r && c r) clients row rows
      (at_for place))
      ∙ list_any_at (λ r. is_at asked.rules direction place r && c r) others inside.0 other inside.1
      (ap (λ r. is_at asked.rules direction place r && c r) inside.2 ∙ rw (is, there) refl)

  none_there : (place : ℕ) (other : AclRow) → (rank asked.rules other == place) ≡ false
      → is_at asked.rules direction place other ≡ true → ⊥
  none_there place other e is = both_ways (rank asked.rules other == place) e
      (and_parts (is_judge direction other) (rank asked.rules other == place) is).1

  abbrev IsOther : Type 0
  IsOther = allow_by asked.rules rows client user name direction
      ≢ allow_by asked.rules left client user name direction

  next_differs : (e d : Bool) → rank asked.rules row ≡ rank_of e d → has_row row rows ≡ true
      → is_judge direction row ≡ true → c row ≡ true → (other : AclRow) → Contains others other
      → is_at asked.rules direction (rank_of e d + 1) other ≡ true → c other ≡ true
      → list_any c (before asked.rules direction (rank_of e d + 1) others) ≡ false → IsOther
  next_differs false true v h j here other inside is there none =
      other_allowed asked.rules client user name direction rows left p.taken
      (seen_other asked.rules client user name direction row rows 0 user_fits h j here v
      (other_01 (some 0) (some 1) (some 2) (some 3)
      (sym (below_1 asked.rules direction c left) ∙ (sym (covered_is 1) ∙ none))
      (some_left 1 other inside is there)))
  next_differs false false v h j here other inside is there none =
      other_allowed asked.rules client user name direction rows left p.taken
      (seen_other asked.rules client user name direction row rows 1 user_fits h j here v
      (other_12 (some 0) (some 1) (some 2) (some 3)
      (sym (below_2 asked.rules direction c left) ∙ (sym (covered_is 2) ∙ none))
      (some_left 2 other inside is there)))
  next_differs true true v h j here other inside is there none =
      other_allowed asked.rules client user name direction rows left p.taken
      (seen_other asked.rules client user name direction row rows 2 user_fits h j here v
      (other_23 (some 0) (some 1) (some 2) (some 3)
      (sym (below_3 asked.rules direction c left) ∙ (sym (covered_is 3) ∙ none))
      (some_left 3 other inside is there)))
  next_differs true false v h j here other inside is there none =
      absurd (none_there 4 other (no_4 asked.rules other) is)

  last_differs : (e d : Bool) → rank asked.rules row ≡ rank_of e d → has_row row rows ≡ true
      → is_judge direction row ≡ true → c row ≡ true → (other : AclRow) → Contains others other
      → is_at asked.rules direction (rank_of e d + 3) other ≡ true → c other ≡ true
      → list_any c (before asked.rules direction (rank_of e d + 3) others) ≡ false → IsOther
  last_differs false true v h j here other inside is there none =
      other_allowed asked.rules client user name direction rows left p.taken
      (seen_other asked.rules client user name direction row rows 0 user_fits h j here v
      (other_03 (some 0) (some 1) (some 2) (some 3)
      (sym (below_3 asked.rules direction c left) ∙ (sym (covered_is 3) ∙ none))
      (some_left 3 other inside is there)))
  last_differs false false v h j here other inside is there none =
      absurd (none_there 4 other (no_4 asked.rules other) is)
  last_differs true true v h j here other inside is there none =
      absurd (none_there 5 other (no_5 asked.rules other) is)
  last_differs true false v h j here other inside is there none =
      absurd (none_there 6 other (no_6 asked.rules other) is)

  alone_differs : (e d : Bool) → rank asked.rules row ≡ rank_of e d → is_deny row.access ≡ d
      → is_deny row.access ≡ false → has_row row rows ≡ true
      → is_judge direction row ≡ true → c row ≡ true
      → list_any c (before asked.rules direction 4 others) ≡ false → IsOther
  alone_differs e true v so permits h j here none =
      absurd (both_ways (is_deny row.access) permits so)
  alone_differs false false v so permits h j here none =
      other_allowed asked.rules client user name direction rows left p.taken
      (seen_other asked.rules client user name direction row rows 1 user_fits h j here v
      (other_1 (some 0) (some 1) (some 2) (some 3)
      (sym (below_4 asked.rules direction c left) ∙ (sym (covered_is 4) ∙ none))))
  alone_differs true false v so permits h j here none =
      other_allowed asked.rules client user name direction rows left p.taken
      (seen_other asked.rules client user name direction row rows 3 user_fits h j here v
      (other_3 (some 0) (some 1) (some 2) (some 3)
      (sym (below_4 asked.rules direction c left) ∙ (sym (covered_is 4) ∙ none))))

-- ---- what a case says
ranked_as : (rules : Rules) (row : AclRow) → (e : Bool) × (rank rules row ≡ rank_of e (is_deny row.access))
ranked_as Own row = (false, refl)
ranked_as Mosquitto row = (is_everyones row.who, refl)

abbrev found_point : (topics : Topics) (asked : AskedRows) (c : Clients) (must cover : List AclRow)
    (f : Finds topics asked c must cover) → IsPoint topics asked c f.client f.user f.name
found_point topics asked c must cover f = record {
  is_asked = f.shown.is_asked;
  valid = f.shown.valid;
  taken = f.shown.taken;
}

found_needed : (asked : AskedRows) (rows : List AclRow) (c : Clients) (row : AclRow)
    (direction : Direction) (must cover : List AclRow) (f : Finds (Open direction) asked c must cover)
    → allow_by asked.rules rows f.client f.user f.name direction
    ≢ allow_by asked.rules (without row rows) f.client f.user f.name direction
    → IsNeeded asked rows row
found_needed asked rows c row direction must cover f differs = record {
  client = f.client;
  user = f.user;
  name = f.name;
  direction = direction;
  fits = point_asked asked c f.client f.user f.shown.is_asked;
  valid = f.shown.valid;
  differs = differs;
}

pub next_needed : (asked : AskedRows) (rows : List AclRow) (within : All (Contains asked.rows) rows)
    (c : Clients) (row : AclRow) (direction : Direction)
    → has_row row rows ≡ true → is_judge direction row ≡ true
    → Precedes asked rows c row direction (rank asked.rules row + 1) → IsNeeded asked rows row
next_needed asked rows within c row direction h j w =
    let v = ranked_as asked.rules row in
    at v.0 v.1 (subst (λ n. Precedes asked rows c row direction (n + 1)) v.1 w)
  where
    at : (e : Bool) → rank asked.rules row ≡ rank_of e (is_deny row.access)
        → Precedes asked rows c row direction (rank_of e (is_deny row.access) + 1) → IsNeeded asked rows row
    at e v w =
        let f = w.finds in
        let cover = before asked.rules direction (rank_of e (is_deny row.access) + 1)
        (others_of c row rows) in
        let says = both asked.rules f.client f.user f.name row w.other cover f.shown.decided in
        found_needed asked rows c row direction (row ∷ (w.other ∷ [])) cover f
        (next_differs asked rows within c row direction f.client f.name f.user
        (found_point (Open direction) asked c (row ∷ (w.other ∷ [])) cover f) e (is_deny row.access) v h j says.here
        w.other w.inside w.is_of says.there says.covered)

pub last_needed : (asked : AskedRows) (rows : List AclRow) (within : All (Contains asked.rows) rows)
    (c : Clients) (row : AclRow) (direction : Direction)
    → has_row row rows ≡ true → is_judge direction row ≡ true
    → Precedes asked rows c row direction (rank asked.rules row + 3) → IsNeeded asked rows row
last_needed asked rows within c row direction h j w =
    let v = ranked_as asked.rules row in
    at v.0 v.1 (subst (λ n. Precedes asked rows c row direction (n + 3)) v.1 w)
  where
    at : (e : Bool) → rank asked.rules row ≡ rank_of e (is_deny row.access)
        → Precedes asked rows c row direction (rank_of e (is_deny row.access) + 3) → IsNeeded asked rows row
    at e v w =
        let f = w.finds in
        let cover = before asked.rules direction (rank_of e (is_deny row.access) + 3)
        (others_of c row rows) in
        let says = both asked.rules f.client f.user f.name row w.other cover f.shown.decided in
        found_needed asked rows c row direction (row ∷ (w.other ∷ [])) cover f
        (last_differs asked rows within c row direction f.client f.name f.user
        (found_point (Open direction) asked c (row ∷ (w.other ∷ [])) cover f) e (is_deny row.access) v h j says.here
        w.other w.inside w.is_of says.there says.covered)

pub alone_needed : (asked : AskedRows) (rows : List AclRow) (within : All (Contains asked.rows) rows)
    (c : Clients) (row : AclRow) (direction : Direction)
    → has_row row rows ≡ true → is_judge direction row ≡ true
    → GrantsAlone asked rows c row direction → IsNeeded asked rows row
alone_needed asked rows within c row direction h j w =
    let f = w.finds in
    let cover = before asked.rules direction 4 (others_of c row rows) in
    let v = ranked_as asked.rules row in
    let here : AclRow → Bool = concerns_by asked.rules f.client f.user f.name in
    let says = and_parts (here row && true) (not (list_any here cover)) f.shown.decided in
    found_needed asked rows c row direction (row ∷ []) cover f
    (alone_differs asked rows within c row direction f.client f.name f.user
    (found_point (Open direction) asked c (row ∷ []) cover f) v.0 (is_deny row.access) v.1 refl w.grants_it h j
    (and_parts (here row) true says.0).0 (not-true (list_any here cover) says.1))

pub needless_in : (asked : AskedRows) (rows : List AclRow) (within : All (Contains asked.rows) rows)
    (c : Clients) (row : AclRow) (direction : Direction)
    → has_row row rows ≡ true → is_judge direction row ≡ true
    → NoneAt asked rows c row direction (rank asked.rules row + 1)
    → NoneAt asked rows c row direction (rank asked.rules row + 3)
    → GrantsNone asked rows c row direction → IsNeedlessIn asked rows c row direction
needless_in asked rows within c row direction h j next last none client name user p =
    at (concerns_by asked.rules client user name row) refl
  where
    at : (b : Bool) → concerns_by asked.rules client user name row ≡ b
        → allow_by asked.rules rows client user name direction
        ≡ allow_by asked.rules (without row rows) client user name direction
    at true e =
        let v = ranked_as asked.rules row in
        same_by asked rows within c row direction client name user p v.0 (is_deny row.access) v.1 refl h j e
        (subst (λ n. NoneAt asked rows c row direction (n + 1)) v.1 next)
        (subst (λ n. NoneAt asked rows c row direction (n + 3)) v.1 last) none
    at false e = same_allowed asked.rules client user name direction rows (without row rows)
        (unconcerned asked.rules client user name direction row rows
        (client_user asked c user p.is_asked.user_fits) h e)

-- a row that may not decide about the direction
pub needless_elsewhere : (asked : AskedRows) (rows : List AclRow) (within : All (Contains asked.rows) rows)
    (c : Clients) (row : AclRow) (direction : Direction)
    → has_row row rows ≡ true → is_judge direction row ≡ false
    → IsNeedlessIn asked rows c row direction
needless_elsewhere asked rows within c row direction h j client name user p =
    same_allowed asked.rules client user name direction rows (without row rows)
    (undecided asked.rules client user name direction row rows
    (client_user asked c user p.is_asked.user_fits) h j)

-- in both directions
pub needless_to : (asked : AskedRows) (rows : List AclRow) (c : Clients) (row : AclRow)
    → IsNeedlessIn asked rows c row Reading → IsNeedlessIn asked rows c row Writing
    → IsNeedlessTo asked rows c row
needless_to asked rows c row r w Reading = r
needless_to asked rows c row r w Writing = w
