-- Where no client with an id of few levels has a topic, none with an id of more has one.
use Rattle.std.proofs.Common.{◌≡◌, ◌∙◌, ◌&&◌, ◌||◌, ◌==◌, ◌+◌, ◌-◌, ◌≤◌, ◌<◌, ℕ, Bool, true, false, not, List, []}
use Rattle.std.proofs.Common.{◌∷◌, ◌++◌, Bor, Option, Some, None, ap, arith, drop, length}
use Rattle.std.proofs.Common.{IfSome, length-append, refl, subst, sym, take}
use Rattle.std.specs.List.{list_all, list_any}
use Rattle.std.specs.Option.{unwrap_or}
use Rattle.std.proofs.Math.Dec.{eqb-suc-zero}
use Rattle.std.proofs.lemmas.Bool.{and_from, and_parts, not-true}
use Rattle.std.proofs.lemmas.List.{length-drop, length-take-le}
use Rattle.std.proofs.lemmas.List.Folds.{list_all-append}
use Rattle.mq_topic.specs.Levels.{levels}
use Rattle.mq_topic.specs.Texts.{contains_byte, is_plain}
use Rattle.mq_acl.proofs.FilledLemmas.{plain_levels}
use Rattle.mq_acl.specs.Rows.{AclRow}
use Rattle.mq_acl.specs.RowsByOwner.{is_everyones}
use Rattle.mq_cover.specs.Names.{suits}
use Rattle.mq_cover.specs.declared.start.Start.{Start}
use Rattle.mq_unify.specs.Clients.{HasShape, HasUser, IsMade, goes_along, made_levels}
use Rattle.mq_unify.specs.Joined.{join_levels}
use Rattle.mq_unify.specs.Rows.{AllMade, row_matches}
use Rattle.mq_unify.specs.declared.shape.UserShape.{UserShape}
use Rattle.mq_unify.specs.declared.shape.UserShape.TheVariants.{Absent, Known, Levels}
use Rattle.mq_unify.proofs.FilterLemmas.{levels_lack, match_rest}
use Rattle.mq_unify.proofs.JoinLemmas.{length-values, levels_joined}
use Rattle.mq_shapes.specs.Every.{FindsNoneWith, has_client_mark, with_levels}
use Rattle.mq_shapes.specs.Few.{AreFew, ArePlaced, AreWithin, IsPlaced, known_count}
use Rattle.mq_shapes.specs.Found.{FindsNone, is_empty_name, is_listed, row_hits}
use Rattle.mq_shapes.proofs.AnyLemmas.{longer, longer_parts}
use Rattle.mq_shapes.proofs.CountLemmas.{within_less}
use Rattle.mq_shapes.proofs.EveryLemmas.{either}
use Rattle.mq_shapes.proofs.FewLemmas.{cut, own_cut, same_suits}
use Rattle.mq_shapes.proofs.FewIdLemmas.{all_take, all_too, lack, levels_without, made_for, none_too}
use Rattle.mq_shapes.proofs.FewIdLemmas.{other_is, shape_of, whole_is}
use Rattle.mq_shapes.proofs.MarkLemmas.{is_client_mark, row_along}
use Rattle.mq_shapes.proofs.ShapeLemmas.{lacks}

-- ---- the new id
module _ (client f : List ℕ) (few : ℕ) (alone : levels f ≡ f ∷ []) (plain : is_plain f ≡ true)
    (client_plain : is_plain client ≡ true) (longer_id : few < length (levels client)) where
  abbrev pub begun_levels : List (List ℕ)
  begun_levels = take few (levels client) ++ f ∷ []

  abbrev pub short_id : List ℕ
  short_id = join_levels begun_levels

  levels_too : (p : List ℕ → Bool) → list_all p (levels client) ≡ true
      → list_all p (levels f) ≡ true → list_all p begun_levels ≡ true
  levels_too p h k = list_all-append p (take few (levels client)) (f ∷ [])
      ∙ and_from (list_all p (take few (levels client))) (list_all p (f ∷ []))
      (all_take p few (levels client) h) (sym (ap (list_all p) alone) ∙ k)

  pub short_length : length begun_levels ≡ few + 1
  short_length = length-append (take few (levels client)) (f ∷ [])
      ∙ ap (λ n. n + 1) (length-take-le few (levels client) (omega (arith, longer_id)))

  pub short_levels : levels short_id ≡ begun_levels
  short_levels = levels_joined begun_levels (let n = short_length in omega (arith, n))
      (levels_too (λ l. not (contains_byte 47 l)) (levels_lack client) (levels_lack f))

  lacks_too : (b : ℕ) → (47 == b) ≡ false → not (contains_byte b client) ≡ true
      → not (contains_byte b f) ≡ true → not (contains_byte b short_id) ≡ true
  lacks_too b n h k = ap not (lacks b short_id n (ap (lack b) short_levels
      ∙ levels_too (λ l. not (contains_byte b l)) (levels_without b client (not-true _ h))
      (levels_without b f (not-true _ k))))

  pub short_plain : is_plain short_id ≡ true
  short_plain =
      let c = and_parts (not (contains_byte 43 client)) (not (contains_byte 35 client)) client_plain in
      let g = and_parts (not (contains_byte 43 f)) (not (contains_byte 35 f)) plain in
      and_from (not (contains_byte 43 short_id)) (not (contains_byte 35 short_id))
      (lacks_too 43 refl c.0 g.0) (lacks_too 35 refl c.1 g.1)

  pub short_some : 0 < few → not (length short_id == 0) ≡ true
  short_some some = by short_id (ap length short_levels ∙ short_length)
    where
      by : (id : List ℕ) → length (levels id) ≡ few + 1 → not (length id == 0) ≡ true
      by [] e = let one : length (levels []) ≡ 1 = refl in absurd (omega (arith, e, one, some))
      by (b ∷ id) e = ap not (eqb-suc-zero (length id))

known_is : (of : UserShape) (values : ℕ → List ℕ) (first : ℕ) (user : Option (List ℕ))
    → HasUser values first of user → length (levels (unwrap_or user [])) ≡ known_count of
known_is Absent values first user h = ap (λ u. length (levels (unwrap_or u []))) h
known_is (Known name) values first user h = ap (λ u. length (levels (unwrap_or u []))) h
known_is (Levels n) values first None h = absurd h
known_is (Levels n) values first (Some user) h = ap length h ∙ length-values values first n

suits_too : (start : Start) (front left : List (List ℕ)) (f : List ℕ) (back : List (List ℕ))
    → 0 < length front → 0 < length left
    → suits start (front ++ (left ++ back)) ≡ true → suits start (front ++ f ∷ back) ≡ true
suits_too start [] left f back n m h = absurd (omega arith)
suits_too start (l ∷ front) [] f back n m h = absurd (omega arith)
suits_too start (l ∷ front) (x ∷ left) f back n m h =
    same_suits start l front f x back (left ++ back) ∙ h

-- a row with `%c`, among those that all cover the name
record IsFirst (of : UserShape) (count : ℕ) (values : ℕ → List ℕ) (client : List ℕ)
    (user : Option (List ℕ)) (ls : List (List ℕ)) (known place : ℕ) : Type 0 where
  pub row : AclRow
  pub marked : has_client_mark row ≡ true
  pub at : IsPlaced known (levels row.filter) place
  pub made : IsMade (with_levels count of) (is_everyones row.who) values client user
      (levels row.filter)
  pub hit : row_matches client user ls row ≡ true

first_row : (of : UserShape) (count : ℕ) (values : ℕ → List ℕ) (client : List ℕ)
    (user : Option (List ℕ)) (ls : List (List ℕ)) (known place : ℕ) (rows : List AclRow)
    → list_any has_client_mark rows ≡ true → AllMade (with_levels count of) values client user rows
    → ArePlaced known place rows → list_all (row_matches client user ls) rows ≡ true
    → IsFirst of count values client user ls known place
first_row of count values client user ls known place [] c m p h =
    absurd (let n : false ≡ true = c in cc)
first_row of count values client user ls known place (row ∷ rows) c m p h =
    by (λ k. first_row of count values client user ls known place rows k m.1 p.1 both.1) both.0
    (has_client_mark row) refl
  where
    both : (row_matches client user ls row ≡ true)
        × (list_all (row_matches client user ls) rows ≡ true)
    both = and_parts (row_matches client user ls row) (list_all (row_matches client user ls) rows) h

    by : (list_any has_client_mark rows ≡ true → IsFirst of count values client user ls known place)
        → row_matches client user ls row ≡ true → (b : Bool) → has_client_mark row ≡ b
        → IsFirst of count values client user ls known place
    by next one true e =
        record { row = row; marked = e; at = p.0 e; made = m.0; hit = one }
    by next one false e = next (sym (ap (λ b. b || list_any has_client_mark rows) e) ∙ c)

-- the levels of the id in the name, and what is round them
record Round (client : List ℕ) (ls : List (List ℕ)) (place : ℕ) : Type 0 where
  pub front : List (List ℕ)
  pub back : List (List ℕ)
  pub is : ls ≡ front ++ (levels client ++ back)
  pub long : length front ≡ place
  pub plain : is_plain client ≡ true

round_of : (of : UserShape) (count : ℕ) (values : ℕ → List ℕ) (client : List ℕ)
    (user : Option (List ℕ)) (ls : List (List ℕ)) (known place : ℕ)
    → length (levels (unwrap_or user [])) ≡ known
    → IsFirst of count values client user ls known place → Round client ls place
round_of of count values client user ls known place k one =
    let name = unwrap_or user [] in
    let everyone : is_everyones one.row.who ≡ true = (and_parts (is_everyones one.row.who)
    (list_any is_client_mark (levels one.row.filter)) one.marked).0 in
    let plain : is_plain client ≡ true = one.made.client_plain everyone in
    let rest = match_rest (made_levels true client name one.at.after) in
    let first = cut (made_levels true client name one.at.before)
    (goes_along (levels client) rest) ls
    (sym (row_along (with_levels count of) values client user one.row one.at.before one.at.after
    one.at.is everyone one.made ls) ∙ one.hit) in
    let own = own_cut (levels client) rest first.rest (plain_levels client plain) first.goes in
    record {
      front = first.front;
      back = own.rest;
      is = first.is ∙ ap (λ k. first.front ++ k) own.is;
      long = first.long ∙ one.at.long client name k;
      plain = plain;
    }

module _ (start : Start) (of : UserShape) (users : List (Bor (List ℕ))) (must cover : List AclRow)
    (place few : ℕ) (some : 0 < few) (p : ArePlaced (known_count of) place must)
    (w : AreWithin (known_count of) (place + few) must)
    (v : AreWithin (known_count of) (place + few) cover)
    (none : FindsNone start (with_levels (few + 1) of) users must cover) (count : ℕ)
    (values : ℕ → List ℕ) (client : List ℕ) (user : Option (List ℕ))
    (has : HasShape (with_levels count of) values client user)
    (m : AllMade (with_levels count of) values client user must)
    (c : AllMade (with_levels count of) values client user cover)
    (u : is_listed users user ≡ false) (named : not (is_empty_name user) ≡ true)
    (front back : List (List ℕ)) (long : length front ≡ place) (plain : is_plain client ≡ true)
    (more : few < length (levels client))
    (s : suits start (front ++ (levels client ++ back)) ≡ true)
    (n : length (front ++ (levels client ++ back)) ≤ 200) where
  abbrev whole : List (List ℕ)
  whole = front ++ (levels client ++ back)

  abbrev text : List ℕ
  text = longer whole

  id : List ℕ
  id = short_id client text few (longer_parts whole).1 (longer_parts whole).2 plain more

  id_is : levels id ≡ take few (levels client) ++ text ∷ []
  unfolding id
  id_is = short_levels client text few (longer_parts whole).1 (longer_parts whole).2 plain more

  id_plain : is_plain id ≡ true
  unfolding id
  id_plain = short_plain client text few (longer_parts whole).1 (longer_parts whole).2 plain more

  id_long : length (levels id) ≡ few + 1
  id_long = ap length id_is
      ∙ short_length client text few (longer_parts whole).1 (longer_parts whole).2 plain more

  id_some : not (length id == 0) ≡ true
  unfolding id
  id_some = short_some client text few (longer_parts whole).1 (longer_parts whole).2 plain more some

  fresh : (fresh : ℕ → List ℕ) × HasShape (with_levels (length (levels id)) of) fresh id user
  fresh = shape_of of count values client id user has

  begun_long : length (front ++ take few (levels client)) ≡ place + few
  begun_long = length-append front (take few (levels client))
      ∙ (λ i. long i + length-take-le few (levels client) (omega (arith, more)) i)

  abbrev other : List (List ℕ)
  other = front ++ (levels id ++ back)

  other_few : length other ≤ 200
  other_few =
      let a = length-append front (levels id ++ back) in
      let b = length-append (levels id) back in
      let d = length-append front (levels client ++ back) in
      let e = length-append (levels client) back in
      let f = id_long in omega (arith, a, b, d, e, f, more, n)

  other_suits : suits start other ≡ true
  other_suits =
      ap (suits start) (other_is of count values fresh.0 client id user few text front back id_is
      id_plain more (longer_parts whole).0)
      ∙ suits_too start (front ++ take few (levels client)) (drop few (levels client)) text back
      (let k = begun_long in omega (arith, k, some))
      (let k = length-drop few (levels client) in omega (arith, k, more))
      (ap (suits start) (sym (whole_is of count values fresh.0 client id user few text front back
      id_is id_plain more (longer_parts whole).0)) ∙ s)

  nothing : row_hits id user other must cover ≡ false
  nothing = subst (λ n. FindsNone start (with_levels n of) users must cover) (sym id_long) none
      fresh.0 id user other fresh.1
      (made_for of count values fresh.0 client id user fresh.1 id_plain must m)
      (made_for of count values fresh.0 client id user fresh.1 id_plain cover c) u
      (and_from (not (length id == 0)) (not (is_empty_name user)) id_some named)
      other_suits other_few

  short_hit : list_all (row_matches client user whole) must ≡ true
      → list_any (row_matches client user whole) cover ≡ false → ⊥
  short_hit e f =
      let known = known_is of values count user has.user_is in
      let all = all_too of count values fresh.0 client id user few text front back id_is id_plain more
      (longer_parts whole).0 (with_levels count of) (with_levels (length (levels id)) of)
      (known_count of) place known long begun_long must m
      (made_for of count values fresh.0 client id user fresh.1 id_plain must m) p w e in
      let no_cover = none_too of count values fresh.0 client id user few text front back id_is id_plain
      more (longer_parts whole).0 (with_levels count of) (with_levels (length (levels id)) of)
      (known_count of) place known long begun_long cover c
      (made_for of count values fresh.0 client id user fresh.1 id_plain cover c) v f in
      let k : false ≡ true = sym nothing ∙ (λ i. all i && not (no_cover i)) in absurd (cc)

pub few_ids : (start : Start) (of : UserShape) (users : List (Bor (List ℕ)))
    (must cover : List AclRow) (place few : ℕ) → 0 < few
    → list_any has_client_mark must ≡ true → ArePlaced (known_count of) place must
    → AreWithin (known_count of) (place + few) must
    → AreWithin (known_count of) (place + few) cover
    → FindsNone start (with_levels (few + 1) of) users must cover → (count : ℕ) → few < count
    → FindsNone start (with_levels count of) users must cover
few_ids start of users must cover place few some marked p w v none count long values client user ls
    has m c u t s n =
    by (list_all (row_matches client user ls) must) refl
    (list_any (row_matches client user ls) cover) refl
  where
    more : few < length (levels client)
    more =
        let e = ap length has.client_is ∙ length-values values 0 count in omega (arith, e, long)

    hit : Round client ls place → list_all (row_matches client user ls) must ≡ true
        → list_any (row_matches client user ls) cover ≡ false → ⊥
    hit r e f = short_hit start of users must cover place few some p w v none count values client user
        has m c u (and_parts (not (length client == 0)) (not (is_empty_name user)) t).1 r.front r.back
        r.long r.plain more (ap (suits start) (sym r.is) ∙ s)
        (let k = ap length r.is in omega (arith, k, n))
        (ap (λ k. list_all (row_matches client user k) must) (sym r.is) ∙ e)
        (ap (λ k. list_any (row_matches client user k) cover) (sym r.is) ∙ f)

    by : (a : Bool) → list_all (row_matches client user ls) must ≡ a
        → (b : Bool) → list_any (row_matches client user ls) cover ≡ b
        → row_hits client user ls must cover ≡ false
    by false e b f = (λ i. e i && not (list_any (row_matches client user ls) cover))
    by true e true f = (λ i. e i && not (f i))
    by true e false f = absurd (hit
        (round_of of count values client user ls (known_count of) place
        (known_is of values count user has.user_is)
        (first_row of count values client user ls (known_count of) place must marked m p e)) e f)

-- so many as reach behind the other rows
pub few_enough : (of : UserShape) (must cover : List AclRow) (place most_must most_cover : ℕ)
    → list_any has_client_mark must ≡ true → ArePlaced (known_count of) place must
    → AreWithin (known_count of) most_must must → AreWithin (known_count of) most_cover cover
    → (result : Option ℕ) → IfSome result (λ few. 1 < few)
    → IfSome result (λ few. most_must < place + few)
    → IfSome result (λ few. most_cover < place + few)
    → IfSome result (λ few. AreFew of must cover few)
few_enough of must cover place most_must most_cover marked p w v None a b d = a
few_enough of must cover place most_must most_cover marked p w v (Some few) a b d =
    λ start users none count long.
    let same : few ≡ few - 1 + 1 = omega (arith, a) in
    few_ids start of users must cover place (few - 1) (omega (arith, a)) marked p
    (within_less (known_count of) most_must (place + (few - 1)) must (omega (arith, a, b)) w)
    (within_less (known_count of) most_cover (place + (few - 1)) cover (omega (arith, a, d)) v)
    (subst (λ n. FindsNone start (with_levels n of) users must cover) same none) count
    (omega (arith, a, long))

-- with as many as were found to be enough
pub every_few : (start : Start) (of : UserShape) (users : List (Bor (List ℕ)))
    (must cover : List AclRow) (few : ℕ) → 0 < few → AreFew of must cover few
    → ((count : ℕ) → 0 < count → count ≤ few
    → FindsNone start (with_levels count of) users must cover)
    → FindsNoneWith start of users must cover
every_few start of users must cover few some enough none = either
    (λ n. 0 < n → FindsNone start (with_levels n of) users must cover) few (λ n low s. none n s low)
    (λ n long s. enough start users (none few some (omega arith)) n long)
