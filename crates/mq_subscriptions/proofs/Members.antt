-- The members of a group: a map in the order in which keys came, seen by the bytes of its keys.
use Rattle.std.proofs.Common.{◌≡◌, ℕ, suc, ◌+◌, ◌-◌, ◌<◌, arith, length, remove, slice_get}
use Rattle.std.proofs.Common.{position, Bool, true, false, not, List, [], ◌∷◌, map, Some, None}
use Rattle.std.proofs.Common.{if◌then◌else◌, is_some, refl, sym, ap, ◌∙◌, filter, append-nil}
use Rattle.std.specs.Rc.{rc_str_bytes}
use Rattle.std.specs.List.{list_any, AllByRecursion, IsDistinct, position_or_len}
use Rattle.std.proofs.lemmas.Map.{none_passes_from_lookup}
use Rattle.std.specs.Cmp.Lexicographic.{nat_list_eq_equiv}
use Rattle.indexmap.proofs.MapLemmas.{Found-position, Missing-position}
use Rattle.indexmap.proofs.RemoveLemmas.{moved_last}
use Rattle.std.specs.Map.{lookup, remove_entry, keys_of}
use Rattle.std.proofs.lemmas.Map.Keys.{IsDistinct-head, IsDistinct-tail}
use Rattle.std.proofs.lemmas.Slice.Eq.{bytes_eq-Decides}
use Rattle.mq_world.specs.Keys.{Key, key_eq}
use Rattle.mq_world.specs.Lists.{Text, same_text}
use Rattle.mq_subscriptions.specs.Turns.{with_one, put_last}
use Rattle.mq_subscriptions.specs.Views.{texts}
use Rattle.mq_subscriptions.proofs.InTurn.{map-put_last}
use Rattle.mq_world.proofs.ListLemmas.{map-filter, filter-same, is_some-lookup, list_any-map}
use Rattle.mq_world.proofs.ListLemmas.{list_any-same, filter-kept, filter-none}
use Rattle.mq_world.proofs.BoolLemmas.{pick}
use Rattle.mq_world.proofs.OrderLemmas.{all_weaker}
use Rattle.indexmap.specs.IndexMap as ordered

module _ {K X : Type 0} (eq : K → K → Bool) (test : K → Bool)
    (one : (x y : K) → test x ≡ true → test y ≡ eq x y) where
  away : (x : K) → test x ≡ true → (es : List (K × X))
      → AllByRecursion (λ y. eq x y ≡ false) (keys_of es)
      → AllByRecursion (λ (e : K × X). test e.0 ≡ false) es
  away x t [] h = tt
  away x t (e ∷ es) h = (one x e.0 t ∙ h.0, away x t es h.1)

  -- keys are apart: taking out the first is taking out all
  remove_entry-filter : (es : List (K × X)) → IsDistinct eq (keys_of es)
      → remove_entry test es ≡ filter (λ e. not (test e.0)) es
  remove_entry-filter [] d = refl
  remove_entry-filter (e ∷ es) d =
      pick (test e.0) (λ t. rw t (sym (filter-kept (λ (e : K × X). test e.0) es
      (away e.0 t es (IsDistinct-head eq e.0 (keys_of es) d)))))
      (λ n. rw (n, remove_entry-filter es (IsDistinct-tail eq e.0 (keys_of es) d)))

  -- the entry at a place is the one that passes
  abbrev Placed : List (K × X) → ℕ → Type 0
  Placed es i = (x : K × X) × (slice_get es i ≡ Some x)
      × (remove es i ≡ filter (λ e. not (test e.0)) es) × (filter (λ e. test e.0) es ≡ x ∷ [])

  placed : (es : List (K × X)) (i : ℕ) → position_or_len test (keys_of es) ≡ i → i < length es
      → IsDistinct eq (keys_of es) → Placed es i
  placed [] i o w d = absurd (omega arith)
  placed (e ∷ es) i o w d =
      let hit : K × X → Bool = λ y. test y.0 in
      pick (test e.0) (λ t. (let others = away e.0 t es (IsDistinct-head eq e.0 (keys_of es) d) in
      let here : 0 ≡ i = rw t at o in
      rw (← here, t)
      (e, refl, sym (filter-kept hit es others), ap (λ l. e ∷ l) (filter-none hit es others))))
      (λ n. (let j = position_or_len test (keys_of es) in
      let up : 1 + j ≡ i = rw n at o in
      let later : suc j ≡ i = omega arith in
      let rest : Placed es j = placed es j refl (omega arith)
      (IsDistinct-tail eq e.0 (keys_of es) d) in
      rw (← later, n) (rest.0, rest.1, ap (λ l. e ∷ l) rest.2, rest.3)))

-- ## By text

same-one : (bs : Text) (x y : Key) → same_text bs (rc_str_bytes x) ≡ true
    → same_text bs (rc_str_bytes y) ≡ key_eq x y
same-one bs x y h = let e : bs ≡ rc_str_bytes x = (bytes_eq-Decides bs (rc_str_bytes x)).0 h in
    ap (λ t. same_text t (rc_str_bytes y)) e

module _ {X : Type 0} where
  abbrev shown : Key × X → Text × X
  shown e = (rc_str_bytes e.0, e.1)

  turned-seen : (bs : Text) (es : List (Key × X))
      → texts (put_last (λ e. same_text bs (rc_str_bytes e.0)) es)
      ≡ put_last (λ m. same_text m.0 bs) (texts es)
  turned-seen bs es = map-put_last shown (λ e. same_text bs (rc_str_bytes e.0))
      (λ m. same_text m.0 bs) (λ e. nat_list_eq_equiv.symm (rc_str_bytes e.0) bs) es

  pub removed-texts : (bs : Text) (es : List (Key × X)) → IsDistinct key_eq (keys_of es)
      → texts (remove_entry (λ k. same_text bs (rc_str_bytes k)) es)
      ≡ filter (λ m. not (same_text m.0 bs)) (texts es)
  removed-texts bs es d =
      rw (remove_entry-filter key_eq (λ k. same_text bs (rc_str_bytes k)) (same-one bs) es d)
      (rw (filter-same (λ e. not (same_text bs (rc_str_bytes e.0)))
      (λ e. not (same_text (rc_str_bytes e.0) bs))
      (λ e. ap not (nat_list_eq_equiv.symm bs (rc_str_bytes e.0))) es)
      (map-filter shown (λ m. not (same_text m.0 bs)) es))

  pub turned-texts : (bs : Text) (es : List (Key × X)) (i n : ℕ) → IsDistinct key_eq (keys_of es)
      → position (λ k. same_text bs (rc_str_bytes k)) (keys_of es) ≡ Some i → n ≡ length es
      → texts (ordered.move_index es i (n - 1)) ≡ put_last (λ m. same_text m.0 bs) (texts es)
  turned-texts bs es i n d p size =
      let test : Key → Bool = λ k. same_text bs (rc_str_bytes k) in
      let found = Found-position test es i p in
      let spot : Placed key_eq test (same-one bs) es i =
      placed key_eq test (same-one bs) es i found.or_len found.within d in
      rw (size, moved_last es i spot.0 spot.1, ← turned-seen bs es, spot.2, spot.3)

  pub turned-none : (bs : Text) (es : List (Key × X))
      → position (λ k. same_text bs (rc_str_bytes k)) (keys_of es) ≡ None
      → texts es ≡ put_last (λ m. same_text m.0 bs) (texts es)
  turned-none bs es p =
      let test : Key → Bool = λ k. same_text bs (rc_str_bytes k) in
      let none = none_passes_from_lookup test es (Missing-position test es p).value in
      let hit : Key × X → Bool = λ e. test e.0 in
      rw (← turned-seen bs es, filter-kept hit es none, filter-none hit es none)
      (ap texts (sym (append-nil es)))

  kept : (bs : Text) (v : X) (k : Key) → rc_str_bytes k ≡ bs → (es : List (Key × X))
      → AllByRecursion (λ y. key_eq k y ≡ false) (keys_of es)
      → map (λ (y : Text × X). if same_text y.0 bs then (bs, v) else y) (texts es) ≡ texts es
  kept bs v k named [] h = refl
  kept bs v k named (e ∷ es) h =
      let no : same_text (rc_str_bytes e.0) bs ≡ false =
      rw (nat_list_eq_equiv.symm (rc_str_bytes e.0) bs, ← named) h.0 in
      rw (no, kept bs v k named es h.1)

  -- a key that is there keeps its place, and a new one goes last
  pub joined-texts : (es : List (Key × X)) (k : Key) (v : X) → IsDistinct key_eq (keys_of es)
      → texts (ordered.insert_entry key_eq es k v)
      ≡ with_one (λ m. same_text m.0 (rc_str_bytes k)) (rc_str_bytes k, v) (texts es)
  joined-texts [] k v d = refl
  joined-texts (e ∷ es) k v d =
      let bs = rc_str_bytes k in
      rw (nat_list_eq_equiv.symm (rc_str_bytes e.0) bs) (pick (key_eq k e.0)
      (λ t. (let is : bs ≡ rc_str_bytes e.0 = (bytes_eq-Decides bs (rc_str_bytes e.0)).0 t in
      let none : AllByRecursion (λ y. key_eq k y ≡ false) (keys_of es) =
      all_weaker (λ y. key_eq e.0 y ≡ false) (λ y. key_eq k y ≡ false) (λ y n. rw is n) (keys_of es)
      (IsDistinct-head key_eq e.0 (keys_of es) d) in
      rw (t, ← is, kept bs v k refl es none) (ap (λ l. (bs, v) ∷ l) (sym (append-nil (texts es))))))
      (λ n. rw (n, joined-texts es k v (IsDistinct-tail key_eq e.0 (keys_of es) d))))

  pub contains-texts : (bs : Text) (es : List (Key × X))
      → is_some (lookup (λ k. same_text bs (rc_str_bytes k)) es)
      ≡ list_any (λ m. same_text m.0 bs) (texts es)
  contains-texts bs es =
      rw (is_some-lookup (λ k. same_text bs (rc_str_bytes k)) es)
      (rw (list_any-map shown (λ m. same_text m.0 bs) es)
      (list_any-same (λ e. same_text bs (rc_str_bytes e.0)) (λ e. same_text (rc_str_bytes e.0) bs)
      (λ e. nat_list_eq_equiv.symm bs (rc_str_bytes e.0)) es))
