-- Entries of a map before, at and after a key.
use Rattle.std.proofs.Common.{◌≡◌, Bool, true, false, cond, List, [], ◌∷◌, ◌++◌, Option, Some, None}
use Rattle.std.proofs.Common.{refl, sym, ◌∙◌, ap}
use Rattle.std.specs.declared.cmp.Ordering.{Ordering}
use Rattle.std.specs.declared.cmp.Ordering.TheVariants.{Less, Equal, Greater}
use Rattle.std.specs.Ordering.{is_eq, match_ordering}
use Rattle.std.specs.Cmp.{IsTotalOrder}
use Rattle.std.specs.List.{flat_map, AllByRecursion}
use Rattle.std.specs.List.Sorted.{IsStrictlySortedBy}
use Rattle.std.specs.Map.{lookup, set_value, remove_entry, keys_of}
use Rattle.std.specs.BTreeMap.{insert_entry}

-- where two options with values are equal, so are the values
pub some_same : {A : Type 0} {x y : A} → ◌≡◌ {A = Option A} (Some x) (Some y) → x ≡ y
some_same h = cc

-- an option without a value is not equal to one with a value
pub none_some : {A : Type 0} {x : A} → ◌≡◌ {A = Option A} None (Some x) → ⊥
none_some h = cc

some_none : {A : Type 0} {x : A} → ◌≡◌ {A = Option A} (Some x) None → ⊥
some_none h = cc

-- the entries, cut at the one that passes
pub record Split {K X : Type 0} (test : K → Bool) (es : List (K × X)) (v : X) : Type 0 where
  pub front : List (K × X)
  pub key : K
  pub back : List (K × X)
  pub is : es ≡ front ++ (key, v) ∷ back
  pub passes : test key ≡ true
  pub before : AllByRecursion (λ (e : K × X). test e.0 ≡ false) front
  pub behind : AllByRecursion (λ (e : K × X). test e.0 ≡ false) back
  pub set : (w : X) → set_value test es w ≡ front ++ (key, w) ∷ back
  pub out : (w : X) → remove_entry test (set_value test es w) ≡ front ++ back

-- the entries, cut where none passes
pub record Gap {K X : Type 0} (test : K → Bool) (es : List (K × X)) : Type 0 where
  pub front : List (K × X)
  pub back : List (K × X)
  pub is : es ≡ front ++ back
  pub before : AllByRecursion (λ (e : K × X). test e.0 ≡ false) front
  pub behind : AllByRecursion (λ (e : K × X). test e.0 ≡ false) back

-- only one key passes
abbrev pub IsApart : {K : Type 0} → (K → K → Ordering) → (K → Bool) → Type 0
IsApart {K} cmp test = (x y : K) → test x ≡ true → cmp x y ≡ Less → test y ≡ false

module _ {K X : Type 0} (cmp : K → K → Ordering) (test : K → Bool) where
  none_behind : IsApart cmp test → (k : K) → test k ≡ true → (es : List (K × X))
      → AllByRecursion (λ y. cmp k y ≡ Less) (keys_of es)
      → AllByRecursion (λ (e : K × X). test e.0 ≡ false) es
  none_behind apart k t [] h = tt
  none_behind apart k t (e ∷ es) h = (apart k e.0 t h.0, none_behind apart k t es h.1)

  pub split : IsApart cmp test → (es : List (K × X)) (v : X) → IsStrictlySortedBy cmp (keys_of es)
      → lookup test es ≡ Some v → Split test es v
  unfolding IsStrictlySortedBy
  split apart [] v s h = absurd (none_some h)
  split apart (e ∷ es) v s h =
      let P : Bool → Type 0 = λ b. test e.0 ≡ b → cond b (Some e.1) (lookup test es) ≡ Some v
      → Split test (e ∷ es) v in
      (elim (test e.0) as P [
        | true ↦ λ t g. record {
          front = [];
          key = e.0;
          back = es;
          is = ap (λ x. (e.0, x) ∷ es) (some_same g);
          passes = t;
          before = tt;
          behind = none_behind apart e.0 t es s.0;
          set = λ w. ap (λ b. cond b ((e.0, w) ∷ es) (e ∷ set_value test es w)) t;
          out = λ w. ap (λ b. remove_entry test (cond b ((e.0, w) ∷ es) (e ∷ set_value test es w)))
              t ∙ ap (λ b. cond b es ((e.0, w) ∷ remove_entry test es)) t;
        }
        | false ↦ λ t g. (let rest : Split test es v = split apart es v s.1 g in
            record {
              front = e ∷ rest.front;
              key = rest.key;
              back = rest.back;
              is = ap (λ l. e ∷ l) rest.is;
              passes = rest.passes;
              before = (t, rest.before);
              behind = rest.behind;
              set = λ w. ap (λ b. cond b ((e.0, w) ∷ es) (e ∷ set_value test es w)) t
                  ∙ ap (λ l. e ∷ l) (rest.set w);
              out = λ w.
                  ap (λ b. remove_entry test (cond b ((e.0, w) ∷ es) (e ∷ set_value test es w))) t
                  ∙ ap (λ b. cond b (set_value test es w)
                  (e ∷ remove_entry test (set_value test es w))) t
                  ∙ ap (λ l. e ∷ l) (rest.out w);
            })
      ]) refl h

-- where a look-up finds nothing, all keys fail its test
pub none_passes : {K X : Type 0} (test : K → Bool) (es : List (K × X)) → lookup test es ≡ None
    → AllByRecursion (λ (e : K × X). test e.0 ≡ false) es
none_passes test [] h = tt
none_passes test (e ∷ es) h =
    let P : Bool → Type 0 = λ b. test e.0 ≡ b → cond b (Some e.1) (lookup test es) ≡ None
    → AllByRecursion (λ d. test d.0 ≡ false) (e ∷ es) in
    (elim (test e.0) as P [
      | true ↦ λ t g. absurd (some_none g)
      | false ↦ λ t g.
          (t, none_passes test es g)
    ]) refl h

-- a look-up among entries with one more, or another, in the middle
module _ {K X : Type 0} (test : K → Bool) where
  pub lookup-more : (front back : List (K × X)) (k : K) (v : X) → test k ≡ false
      → lookup test (front ++ (k, v) ∷ back) ≡ lookup test (front ++ back)
  lookup-more [] back k v h = ap (λ b. cond b (Some v) (lookup test back)) h
  lookup-more (e ∷ front) back k v h =
      ap (cond (test e.0) (Some e.1)) (lookup-more front back k v h)

  pub lookup-at : (front back : List (K × X)) (k : K) (v : X)
      → AllByRecursion (λ (e : K × X). test e.0 ≡ false) front → test k ≡ true
      → lookup test (front ++ (k, v) ∷ back) ≡ Some v
  lookup-at [] back k v none h = ap (λ b. cond b (Some v) (lookup test back)) h
  lookup-at (e ∷ front) back k v none h =
      ap (λ b. cond b (Some e.1) (lookup test (front ++ (k, v) ∷ back))) none.0
      ∙ lookup-at front back k v none.1 h

-- where a key is put that is not there
pub record Put {K X : Type 0} (cmp : K → K → Ordering) (k : K) (es : List (K × X)) : Type 0 where
  pub gap : Gap (λ y. is_eq (cmp k y)) es
  pub put : (v : X) → insert_entry cmp es k v ≡ gap.front ++ (k, v) ∷ gap.back

-- where a look-up finds no key that ties with k, there is a gap among the entries where k is put
pub put_gap : {K X : Type 0} (cmp : K → K → Ordering) (k : K) (es : List (K × X))
    → lookup (λ y. is_eq (cmp k y)) es ≡ None → Put cmp k es
put_gap cmp k [] h =
    record {
      gap = record { front = []; back = []; is = refl; before = tt; behind = tt };
      put =
          λ v. refl;
    }
put_gap {K} {X} cmp k (e ∷ es) h =
    let all : AllByRecursion (λ (d : K × X). is_eq (cmp k d.0) ≡ false) (e ∷ es) =
    none_passes (λ y. is_eq (cmp k y)) (e ∷ es) h in
    let P : Ordering → Type 0 = λ r. cmp k e.0 ≡ r
    → cond (is_eq r) (Some e.1) (lookup (λ y. is_eq (cmp k y)) es) ≡ None
    → Put cmp k (e ∷ es) in
    (elim (cmp k e.0) as P [
      | Less ↦ λ r g. record {
        gap = record { front = []; back = e ∷ es; is = refl; before = tt; behind = all };
        put = λ v. ap (λ o. match_ordering o ((k, v) ∷ e ∷ es) ((e.0, v) ∷ es)
            (e ∷ insert_entry cmp es k v)) r;
      }
      | Equal ↦ λ r g. absurd (some_none g)
      | Greater ↦ λ r g. (let rest : Put cmp k es = put_gap cmp k es g in
          record {
            gap = record {
              front = e ∷ rest.gap.front;
              back = rest.gap.back;
              is =
                  ap (λ l. e ∷ l) rest.gap.is;
              before = (all.0, rest.gap.before);
              behind =
                  rest.gap.behind;
            };
            put = λ v. ap (λ o. match_ordering o ((k, v) ∷ e ∷ es) ((e.0, v) ∷ es)
                (e ∷ insert_entry cmp es k v)) r ∙ ap (λ l. e ∷ l) (rest.put v);
          })
    ]) refl h

-- a key that is there keeps its place
pub put_found : {K X : Type 0} (cmp : K → K → Ordering) → IsTotalOrder cmp
    → (k : K) (es : List (K × X)) (v w : X) → IsStrictlySortedBy cmp (keys_of es)
    → lookup (λ y. is_eq (cmp k y)) es ≡ Some v
    → insert_entry cmp es k w ≡ set_value (λ y. is_eq (cmp k y)) es w
unfolding IsStrictlySortedBy
put_found {K} {X} cmp o k [] v w s h = absurd (none_some h)
put_found {K} {X} cmp o k (e ∷ es) v w s h =
    let test : K → Bool = λ y. is_eq (cmp k y) in
    let P : Ordering → Type 0 = λ r. cmp k e.0 ≡ r
    → cond (is_eq r) (Some e.1) (lookup test es) ≡ Some v
    → match_ordering r ((k, w) ∷ e ∷ es) ((e.0, w) ∷ es) (e ∷ insert_entry cmp es k w)
    ≡ cond (is_eq r) ((e.0, w) ∷ es) (e ∷ set_value test es w) in
    (elim (cmp k e.0) as P [
      | Less ↦ λ r g. absurd (none_some (sym (absent es (below es r s.0)) ∙ g))
      | Equal ↦ λ r g. refl
      | Greater ↦ λ r g. ap (λ l. e ∷ l) (put_found cmp o k es v w s.1 g)
    ]) refl h
  where
    below : (ds : List (K × X)) → cmp k e.0 ≡ Less
        → AllByRecursion (λ y. cmp e.0 y ≡ Less) (keys_of ds)
        → AllByRecursion (λ y. cmp k y ≡ Less) (keys_of ds)
    below [] r h = tt
    below (d ∷ ds) r h = (o.trans k e.0 d.0 r h.0, below ds r h.1)

    absent : (ds : List (K × X)) → AllByRecursion (λ y. cmp k y ≡ Less) (keys_of ds)
        → lookup (λ y. is_eq (cmp k y)) ds ≡ None
    absent [] h = refl
    absent (d ∷ ds) h = ap (λ r. cond (is_eq r) (Some d.1) (lookup (λ y. is_eq (cmp k y)) ds)) h.0
        ∙ absent ds h.1

-- what is listed of the entries, cut as they are
pub flat_map-cut : {A B : Type 0} (f : A → List B) (xs : List A) (y : A) (zs : List A)
    → flat_map f (xs ++ y ∷ zs) ≡ flat_map f xs ++ (f y ++ flat_map f zs)
flat_map-cut {A} {B} f [] y zs = refl
flat_map-cut {A} {B} f (x ∷ xs) y zs = ap (λ l. f x ++ l) (flat_map-cut f xs y zs)
    ∙ sym (append_again (f x) (flat_map f xs) (f y ++ flat_map f zs))
  where
    append_again : (us bs cs : List B) → (us ++ bs) ++ cs ≡ us ++ (bs ++ cs)
    append_again [] bs cs = refl
    append_again (a ∷ us) bs cs = ap (λ l. a ∷ l) (append_again us bs cs)
