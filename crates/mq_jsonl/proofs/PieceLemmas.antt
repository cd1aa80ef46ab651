-- The pieces of a script that grows.
use Rattle.std.proofs.Common.{◌≡◌, ◌≤◌, ◌<◌, ◌-◌, ℕ, suc, List, [], ◌∷◌, ◌++◌, Bool, true, false}
use Rattle.std.proofs.Common.{cond, ◌+◌, length, length-take, length-drop, drop-drop, take}
use Rattle.std.proofs.Common.{drop, drop-cons, take-append-drop, get_or, Option, Some, None, refl}
use Rattle.std.proofs.Common.{sym, ap, ◌∙◌, arith, append_assoc, append-nil, nat_lt}
use Rattle.std.specs.Prelude.{unwrap_or, position, option_map}
use Rattle.std.specs.List.{onto_first, last_or, list_any, position_or_len}
use Rattle.std.proofs.lemmas.Bool.Decides.{nat_tests, Decides-eqb}
use Rattle.std.proofs.lemmas.List.{get_or-take, take_all}
use Rattle.std.proofs.lemmas.List.Splits.{slice_split_none}
use Rattle.std.proofs.lemmas.List.Sums.{prefix_len-le-length}
use Rattle.std.proofs.lemmas.List.Quantifiers.{position-Some}
use Rattle.std.proofs.lemmas.Bool.{or_parts}
use Rattle.mq_topic.proofs.LevelLemmas.{slice_split_whole}
use Rattle.mq_jsonl.specs.Lines.{is_feed, pieces, all_but_last, whole_lines, last_piece}

-- ## All but the last, and the last

-- before the last of two lists are all of the first, and those before the second's last
pub all_but_last-append : {X : Type 0} (xs : List X) (y : X) (ys : List X)
    → all_but_last (xs ++ y ∷ ys) ≡ xs ++ all_but_last (y ∷ ys)
all_but_last-append [] y ys = refl
all_but_last-append (x ∷ []) y ys = refl
all_but_last-append (x ∷ z ∷ xs) y ys = ap (λ l. x ∷ l) (all_but_last-append (z ∷ xs) y ys)

-- the last of two lists is the last of the second
pub last_or-append : {X : Type 0} (o : Option X) (xs : List X) (y : X) (ys : List X)
    → last_or o (xs ++ y ∷ ys) ≡ last_or (Some y) ys
last_or-append o [] y ys = refl
last_or-append o (x ∷ xs) y ys = last_or-append (Some x) xs y ys

abbrev last_of : List (List ℕ) → List ℕ
last_of ps = unwrap_or (last_or None ps) []

-- ## Two texts, one after the other

abbrev onto_last : List ℕ → List (List ℕ) → List (List ℕ)
onto_last l [] = l ∷ []
onto_last l (q ∷ qs) = (l ++ q) ∷ qs

-- the first of the other pieces goes on with the last one
abbrev joined : List (List ℕ) → List (List ℕ) → List (List ℕ)
joined [] qs = qs
joined (p ∷ []) qs = onto_last p qs
joined (p ∷ r ∷ ps) qs = p ∷ joined (r ∷ ps) qs

cut : (t : Bool) (x : ℕ) (p : List ℕ) (ps qs : List (List ℕ))
    → cond t ([] ∷ joined (p ∷ ps) qs) (onto_first x (joined (p ∷ ps) qs))
    ≡ joined (cond t ([] ∷ p ∷ ps) (onto_first x (p ∷ ps))) qs
cut true x p ps qs = refl
cut false x p [] [] = refl
cut false x p [] (q ∷ qs) = refl
cut false x p (r ∷ ps) qs = refl

-- there is a first piece
pub pieces-cons : (s : List ℕ) → (q : List ℕ) × (qs : List (List ℕ)) × (pieces s ≡ q ∷ qs)
pieces-cons [] = ([], [], refl)
pieces-cons (x ∷ xs) = by_test (is_feed x) (pieces xs)
  where
    by_test : (t : Bool) (ps : List (List ℕ)) → (q : List ℕ) × (qs : List (List ℕ))
        × (cond t ([] ∷ ps) (onto_first x ps) ≡ q ∷ qs)
    by_test true ps = ([], ps, refl)
    by_test false [] = (x ∷ [], [], refl)
    by_test false (p ∷ ps) = (x ∷ p, ps, refl)

pieces-joined : (g s : List ℕ) → pieces (g ++ s) ≡ joined (pieces g) (pieces s)
pieces-joined [] s = let some = pieces-cons s in rw some.2 refl
pieces-joined (x ∷ xs) s =
    let some = pieces-cons xs in
    let more : pieces (xs ++ s) ≡ joined (some.0 ∷ some.1) (pieces s) = pieces-joined xs s
    ∙ ap (λ ps. joined ps (pieces s)) some.2 in
    ap (λ ps. cond (is_feed x) ([] ∷ ps) (onto_first x ps)) more
    ∙ cut (is_feed x) x some.0 some.1 (pieces s)
    ∙ ap (λ ps. joined (cond (is_feed x) ([] ∷ ps) (onto_first x ps)) (pieces s)) (sym some.2)

joined-parts : (p : List ℕ) (ps : List (List ℕ)) (q : List ℕ) (qs : List (List ℕ))
    → joined (p ∷ ps) (q ∷ qs) ≡ all_but_last (p ∷ ps) ++ (last_of (p ∷ ps) ++ q) ∷ qs
joined-parts p [] q qs = refl
joined-parts p (r ∷ ps) q qs = ap (λ l. p ∷ l) (joined-parts r ps q qs)

-- the whole lines, the last piece with the first one that follows, and the others
pub pieces-append : (g s q : List ℕ) (qs : List (List ℕ)) → pieces s ≡ q ∷ qs
    → pieces (g ++ s) ≡ whole_lines g ++ (last_piece g ++ q) ∷ qs
pieces-append g s q qs e =
    let some = pieces-cons g in
    pieces-joined g s ∙ ap (λ ps. joined (pieces g) ps) e ∙ ap (λ ps. joined ps (q ∷ qs)) some.2
    ∙ joined-parts some.0 some.1 q qs
    ∙ ap (λ ps. all_but_last ps ++ (last_of ps ++ q) ∷ qs) (sym some.2)

-- ## A line feed, and a text without one

-- a line feed makes the last piece a whole line
pub whole_lines-feed : (g : List ℕ) → whole_lines (g ++ 10 ∷ []) ≡ whole_lines g ++ last_piece g
    ∷ []
whole_lines-feed g =
    ap all_but_last (pieces-append g (10 ∷ []) [] ([] ∷ []) refl)
    ∙ all_but_last-append (whole_lines g) (last_piece g ++ []) ([] ∷ [])
    ∙ ap (λ l. whole_lines g ++ l ∷ []) (append-nil (last_piece g))

-- nothing follows a line feed that was given last
pub last_piece-feed : (g : List ℕ) → last_piece (g ++ 10 ∷ []) ≡ []
last_piece-feed g = ap last_of (pieces-append g (10 ∷ []) [] ([] ∷ []) refl)
    ∙ ap (λ o. unwrap_or o []) (last_or-append None (whole_lines g) (last_piece g ++ []) ([] ∷ []))

-- a text without a line feed adds no whole line
pub whole_lines-text : (g xs : List ℕ) → pieces xs ≡ xs ∷ [] → whole_lines (g ++ xs) ≡ whole_lines g
whole_lines-text g xs e =
    ap all_but_last (pieces-append g xs xs [] e)
    ∙ all_but_last-append (whole_lines g) (last_piece g ++ xs) [] ∙ append-nil (whole_lines g)

-- a text without a line feed goes on with the last piece
pub last_piece-text : (g xs : List ℕ) → pieces xs ≡ xs ∷ []
    → last_piece (g ++ xs) ≡ last_piece g ++ xs
last_piece-text g xs e = ap last_of (pieces-append g xs xs [] e)
    ∙ ap (λ o. unwrap_or o []) (last_or-append None (whole_lines g) (last_piece g ++ xs) [])

-- what comes later adds whole lines
pub whole_lines-grown : (g ys : List ℕ) → (zs : List (List ℕ))
    × (whole_lines (g ++ ys) ≡ whole_lines g ++ zs)
whole_lines-grown g ys =
    let some = pieces-cons ys in (
      all_but_last ((last_piece g ++ some.0) ∷ some.1),
      ap all_but_last (pieces-append g ys some.0 some.1 some.2)
          ∙ all_but_last-append (whole_lines g) (last_piece g ++ some.0) some.1,
    )

-- ## Where the first line feed stands

no_feed_at : (t : Bool) (n m : ℕ) → nat_lt n m ≡ t → cond t (Some n) None ≡ None → n ≤ m → n ≡ m
no_feed_at true n m e h within = absurd (let bad : Some n ≡ None = h in cc)
no_feed_at false n m e h within = grind (arith, nat_tests)

-- bytes among which no line feed is found are one piece
pub no_feed : (xs : List ℕ) → position is_feed xs ≡ None → pieces xs ≡ xs ∷ []
no_feed xs e =
    slice_split_whole is_feed xs
    (no_feed_at (nat_lt (position_or_len is_feed xs) (length xs)) (position_or_len is_feed xs)
    (length xs) refl e (prefix_len-le-length _ xs))

found : (t : Bool) (n m k : ℕ) → nat_lt n m ≡ t → cond t (Some n) None ≡ Some k → (n ≡ k) × (n < m)
found true n m k e h = (let same : Some n ≡ Some k = h in cc, grind (arith, nat_tests))
found false n m k e h = absurd (let bad : None ≡ Some k = h in cc)

-- the bytes are those before it, a line feed and the rest
pub feed_found : (xs : List ℕ) (n : ℕ) → position is_feed xs ≡ Some n → (n < length xs)
    × (xs ≡ (take n xs ++ 10 ∷ []) ++ drop (suc n) xs) × (pieces (take n xs) ≡ take n xs ∷ [])
feed_found xs n e =
    let at = position-Some is_feed xs n 0 e in
    let feed : get_or xs n 0 ≡ 10 = (Decides-eqb (get_or xs n 0) 10).0 at.1 in (
      at.0,
      sym (take-append-drop n xs) ∙ ap (λ l. take n xs ++ l) (drop-cons xs n 0 at.0)
          ∙ ap (λ x. take n xs ++ x ∷ drop (suc n) xs) feed
          ∙ sym (append_assoc (take n xs) (10 ∷ []) (drop (suc n) xs)),
      slice_split_none is_feed (take n xs) (λ k d h.
          let below : k < n = let e = length-take n xs in omega arith in
          rw get_or-take ((position-Some is_feed xs n d e).2 k below)),
    )

-- ## The search goes on behind bytes without a line feed

-- behind elements none of which passes, the search goes on
pub position_or_len-later : {X : Type 0} (p : X → Bool) (xs ys : List X) → list_any p xs ≡ false
    → position_or_len p (xs ++ ys) ≡ length xs + position_or_len p ys
position_or_len-later p [] ys e = omega arith
position_or_len-later p (x ∷ xs) ys e =
    let here = (or_parts (p x) (list_any p xs) e).0 in
    let later = position_or_len-later p xs ys (or_parts (p x) (list_any p xs) e).1 in
    rw (here, later) (omega arith)

shifted : (s t : Bool) (i a b : ℕ) → nat_lt a b ≡ s → nat_lt (i + a) (i + b) ≡ t
    → cond t (Some (i + a)) None ≡ option_map (λ (n : ℕ). i + n) (cond s (Some a) None)
shifted true true i a b p q = refl
shifted false false i a b p q = refl
shifted true false i a b p q = absurd (grind (arith, nat_tests))
shifted false true i a b p q = absurd (grind (arith, nat_tests))

-- where none of the first i passes, the position is i more than that in the rest
pub position-later : {X : Type 0} (p : X → Bool) (xs : List X) (i : ℕ) → i ≤ length xs
    → position_or_len p xs ≡ i + position_or_len p (drop i xs)
    → position p xs ≡ option_map (λ (n : ℕ). i + n) (position p (drop i xs))
position-later p xs i within e =
    let whole : length xs ≡ i + length (drop i xs) = simp length-drop (omega arith) in
    rw (e, whole) (shifted _ _ i (position_or_len p (drop i xs)) (length (drop i xs)) refl refl)

-- a chunk without a line feed is passed
pub chunk_passed : {X : Type 0} (p : X → Bool) (xs : List X) (i k : ℕ) → i + k ≤ length xs
    → list_any p (take k (drop i xs)) ≡ false
    → position_or_len p xs ≡ i + position_or_len p (drop i xs)
    → position_or_len p xs ≡ i + k + position_or_len p (drop (i + k) xs)
chunk_passed p xs i k within none e =
    let whole : take k (drop i xs) ++ drop k (drop i xs) ≡ drop i xs =
    take-append-drop k (drop i xs) in
    let len : length (take k (drop i xs)) ≡ k =
    (let a = length-take k (drop i xs) in let b = length-drop i xs in omega arith) in
    let same : drop k (drop i xs) ≡ drop (i + k) xs = drop-drop k i xs in
    let rest : position_or_len p (drop i xs) ≡ k + position_or_len p (drop (i + k) xs) =
    rw (whole, len, same) at (position_or_len-later p (take k (drop i xs)) (drop k (drop i xs))
    none) in
    omega arith

-- ## Parts of bytes

-- as many bytes as are left are all the rest
pub rest_whole : (i : ℕ) (t : List ℕ) → take (length t - i) (drop i t) ≡ drop i t
rest_whole i t = take_all (length t - i) (drop i t) (simp length-drop (omega arith))

-- the bytes are those that are taken, the next line and what follows
pub parted : (bytes done rest line others : List ℕ) → bytes ≡ done ++ rest → rest ≡ line ++ others
    → bytes ≡ (done ++ line) ++ others
parted bytes done rest line others e f = e ∙ ap (λ l. done ++ l) f
    ∙ sym (append_assoc done line others)
