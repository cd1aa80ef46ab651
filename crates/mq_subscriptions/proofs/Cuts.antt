-- Subscriptions kept in a map: what becomes of all of them where those at one key change.
use Rattle.std.proofs.Common.{◌≡◌, Bool, false, List, [], ◌∷◌, ◌++◌, ◌∙◌, ap, Ordering, is_eq}
use Rattle.std.proofs.Common.{flat_map}
use Rattle.std.specs.List.{list_any, AllByRecursion}
use Rattle.std.specs.Map.{set_value, remove_entry}
use Rattle.std.specs.BTreeMap.{insert_entry}
use Rattle.std.proofs.lemmas.Grind.{flat_map-append}
use Rattle.mq_world.specs.World.{Subscription, same_key}
use Rattle.mq_world.proofs.Splits.{Split, Put, flat_map-cut}
use Rattle.mq_world.proofs.OrderLemmas.{all_append}
use Rattle.mq_world.proofs.ListLemmas.{any-none}
use Rattle.mq_subscriptions.proofs.InTurn.{Unlike, LocalEdit, none_same, any-among}

-- what is true of each in two lists together is true of each in either
pub all_parts : {X : Type 0} (P : X → Type 0) (xs ys : List X) → AllByRecursion P (xs ++ ys)
    → AllByRecursion P xs × AllByRecursion P ys
all_parts P [] ys h = (tt, h)
all_parts P (x ∷ xs) ys h = let rest = all_parts P xs ys h.1 in ((h.0, rest.0), rest.1)

-- ## What is true of each entry

module _ {K X : Type 0} (Live : K × X → Type 0) (test : K → Bool) (es : List (K × X))
    (live : AllByRecursion Live es) (v : X) (cut : Split test es v) where
  parts : AllByRecursion Live cut.front × AllByRecursion Live ((cut.key, v) ∷ cut.back)
  parts = all_parts Live cut.front ((cut.key, v) ∷ cut.back) (rw cut.is at live)

  pub live_at : Live (cut.key, v)
  live_at = parts.1.0

  pub live-set : (w : X) → Live (cut.key, w) → AllByRecursion Live (set_value test es w)
  live-set w h = rw (cut.set w) (all_append Live cut.front ((cut.key, w) ∷ cut.back) parts.0
      (h, parts.1.1))

  pub live-out : (w : X) → AllByRecursion Live (remove_entry test (set_value test es w))
  live-out w = rw (cut.out w) (all_append Live cut.front cut.back parts.0 parts.1.1)

module _ {K X : Type 0} (Live : K × X → Type 0) (cmp : K → K → Ordering) (k : K)
    (es : List (K × X)) (live : AllByRecursion Live es) (gap : Put cmp k es) where
  both : AllByRecursion Live gap.gap.front × AllByRecursion Live gap.gap.back
  both = all_parts Live gap.gap.front gap.gap.back (rw gap.gap.is at live)

  pub live-put : (v : X) → Live (k, v) → AllByRecursion Live (insert_entry cmp es k v)
  live-put v h = rw (gap.put v) (all_append Live gap.gap.front ((k, v) ∷ gap.gap.back) both.0
      (h, both.1))

-- ## What becomes of all

module _ {K X : Type 0} (rows : K × X → List Subscription) (test : K → Bool)
    (s : Subscription) where
  -- what stands at another key has rows that are unlike the subscription
  abbrev pub Away : List (K × X) → Type 0
  Away es = AllByRecursion (λ (e : K × X). test e.0 ≡ false → AllByRecursion (Unlike s) (rows e)) es

  others : (es : List (K × X)) → Away es → AllByRecursion (λ (e : K × X). test e.0 ≡ false) es
      → AllByRecursion (Unlike s) (flat_map rows es)
  others [] a n = tt
  others (e ∷ es) a n = all_append (Unlike s) (rows e) (flat_map rows es) (a.0 n.0)
      (others es a.1 n.1)

  module _ (es : List (K × X)) (away : Away es) (v : X) (cut : Split test es v) where
    around : Away cut.front × Away ((cut.key, v) ∷ cut.back)
    around = all_parts (λ (e : K × X). test e.0 ≡ false → AllByRecursion (Unlike s) (rows e))
        cut.front ((cut.key, v) ∷ cut.back) (rw cut.is at away)

    front_unlike : AllByRecursion (Unlike s) (flat_map rows cut.front)
    front_unlike = others cut.front around.0 cut.before

    back_unlike : AllByRecursion (Unlike s) (flat_map rows cut.back)
    back_unlike = others cut.back around.1.1 cut.behind

    all_is : flat_map rows es
        ≡ flat_map rows cut.front ++ (rows (cut.key, v) ++ flat_map rows cut.back)
    all_is = ap (flat_map rows) cut.is ∙ flat_map-cut rows cut.front (cut.key, v) cut.back

    set_is : (w : X) → flat_map rows (set_value test es w)
        ≡ flat_map rows cut.front ++ (rows (cut.key, w) ++ flat_map rows cut.back)
    set_is w = ap (flat_map rows) (cut.set w) ∙ flat_map-cut rows cut.front (cut.key, w) cut.back

    module _ (e : LocalEdit s) (w : X) where
      pub cut-edited : e.same (rows (cut.key, w)) (e.edit (rows (cut.key, v)))
          → e.same (flat_map rows (set_value test es w)) (e.edit (flat_map rows es))
      cut-edited h = rw (set_is w, all_is) (e.local (flat_map rows cut.front) (rows (cut.key, v))
          (rows (cut.key, w)) (flat_map rows cut.back) front_unlike back_unlike h)

      pub cut-out : e.same [] (e.edit (rows (cut.key, v)))
          → e.same (flat_map rows (remove_entry test (set_value test es w)))
          (e.edit (flat_map rows es))
      cut-out h = rw (cut.out w, flat_map-append rows cut.front cut.back, all_is)
          (e.local (flat_map rows cut.front) (rows (cut.key, v)) [] (flat_map rows cut.back)
          front_unlike back_unlike h)

    -- no other passes the test for the key
    pub cut-any : list_any (same_key s) (flat_map rows es)
        ≡ list_any (same_key s) (rows (cut.key, v))
    cut-any = rw all_is (any-among (same_key s) _ _ _ (none_same s _ front_unlike)
        (none_same s _ back_unlike))

  -- where nothing is at the key
  module _ (es : List (K × X)) (away : Away es)
      (none : AllByRecursion (λ (e : K × X). test e.0 ≡ false) es) where
    pub absent-any : list_any (same_key s) (flat_map rows es) ≡ false
    absent-any = any-none (same_key s) (flat_map rows es) (none_same s _ (others es away none))

    pub absent-edited : (e : LocalEdit s) → e.same [] (e.edit [])
        → e.same (flat_map rows es) (e.edit (flat_map rows es))
    absent-edited e h = e.local [] [] [] (flat_map rows es) tt (others es away none) h

module _ {K X : Type 0} (rows : K × X → List Subscription) (cmp : K → K → Ordering) (k : K)
    (s : Subscription) (es : List (K × X)) (away : Away rows (λ y. is_eq (cmp k y)) s es)
    (gap : Put cmp k es) where
  pub put-edited : (e : LocalEdit s) (v : X) → e.same (rows (k, v)) (e.edit [])
      → e.same (flat_map rows (insert_entry cmp es k v)) (e.edit (flat_map rows es))
  put-edited e v h =
      let new = ap (flat_map rows) (gap.put v)
      ∙ flat_map-cut rows gap.gap.front (k, v) gap.gap.back in
      let old = ap (flat_map rows) gap.gap.is ∙ flat_map-append rows gap.gap.front gap.gap.back in
      let around = all_parts (λ (d : K × X). is_eq (cmp k d.0) ≡ false
      → AllByRecursion (Unlike s) (rows d)) gap.gap.front gap.gap.back (rw gap.gap.is at away) in
      let unlike = others rows (λ y. is_eq (cmp k y)) s in
      rw (new, old) (e.local (flat_map rows gap.gap.front) [] (rows (k, v))
      (flat_map rows gap.gap.back) (unlike gap.gap.front around.0 gap.gap.before)
      (unlike gap.gap.back around.1 gap.gap.behind) h)
