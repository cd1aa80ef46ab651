-- The levels of a filter whose marks are replaced.
use Rattle.std.proofs.Common.{◌≡◌, ◌<◌, ℕ, ◌==◌, Bool, true, false, not, ◌&&◌, ◌||◌, if◌then◌else◌}
use Rattle.std.proofs.Common.{List, [], ◌∷◌, ◌++◌, ◌-◌, length, take, append_assoc, refl, ap, sym, ◌∙◌, cond}
use Rattle.std.proofs.Common.{arith, suc, drop, ◌+◌, Option, Some, None}
use Rattle.std.specs.Prelude.{nat_lt, is_none, is_some}
use Rattle.std.specs.Prelude.{codes}
use Rattle.std.specs.List.{onto_first, flat_map, list_all, join_with_byte}
use Rattle.std.specs.List.{position, position_or_len, before_first}
use Rattle.std.specs.Str.{bytes_eq}
use Rattle.std.proofs.lemmas.List.Splits.{join_with_byte-slice_split, slice_split_first}
use Rattle.std.proofs.lemmas.List.Sums.{prefix_len-le-length}
use denote.Ref.{Bor}
use Rattle.std.proofs.lemmas.List.{append-nil, take_all, take-append-drop}
use Rattle.std.proofs.Math.Seq.{take-append_seam}
use Rattle.std.proofs.lemmas.Bool.{and_parts, and_left, and_from, or_left, or_parts, or_right, not-true, ltb-true, ltb-false}
use Rattle.std.proofs.lemmas.Bool.Decides.{Decides-eqb, nat_tests}
use Rattle.mq_topic.specs.Levels.{levels, levels_left, is_slash}
use Rattle.mq_topic.proofs.LevelLemmas.{slice_split_whole}
use Rattle.mq_topic.specs.Texts.{contains_byte, is_plain, is_level, parents, wildcards_fit}
use Rattle.mq_topic.specs.Matching.{is_hidden, is_wildcard, level_at, level_matches, levels_match_by}
use Rattle.std.specs.Prelude.{slice_index}
use Rattle.mq_topic.proofs.Walk.{levels-nonempty, levels_match_cons, levels_match_end}
use Rattle.mq_topic.proofs.ByteLemmas.{text_is, text_itself}
use Rattle.mq_acl.specs.Filled.{filled}

-- ---- the levels of the text

-- the levels of a text are those before a slash and those behind it
pub levels_at_slash : (before after : List ℕ)
    → levels (before ++ 47 ∷ after) ≡ levels before ++ levels after
levels_at_slash [] after = refl
levels_at_slash (b ∷ before) after =
    elim (is_slash b)
    as (λ s. cond s ([] ∷ levels (before ++ 47 ∷ after)) (onto_first b (levels (before ++ 47 ∷ after)))
    ≡ cond s ([] ∷ levels before) (onto_first b (levels before)) ++ levels after) [
      | true ↦ ap (λ ls. [] ∷ ls) (levels_at_slash before after)
      | false ↦ ap (onto_first b) (levels_at_slash before after)
          ∙ moved (levels before) (levels-nonempty before)
    ]
  where
    moved : (ls : List (List ℕ)) → 0 < length ls
        → onto_first b (ls ++ levels after) ≡ onto_first b ls ++ levels after
    moved [] h = absurd (omega arith)
    moved (l ∷ ls) h = refl

-- no mark goes over a slash
pub filled_at_slash : (client user before after : List ℕ)
    → filled client user (before ++ 47 ∷ after)
    ≡ filled client user before ++ 47 ∷ filled client user after
filled_at_slash client user [] [] = refl
filled_at_slash client user [] (y ∷ ys) = refl
filled_at_slash client user (a ∷ []) after =
    elim (a == 37)
    as (λ t. (if t && false then client ++ filled client user after
    else (if t && false then user ++ filled client user after
    else a ∷ filled client user (47 ∷ after)))
    ≡ a ∷ 47 ∷ filled client user after) [
      | true ↦ ap (λ l. a ∷ l) (filled_at_slash client user [] after)
      | false ↦ ap (λ l. a ∷ l) (filled_at_slash client user [] after)
    ]
filled_at_slash client user (a ∷ b ∷ rest) after =
    at (a == 37 && b == 99) (a == 37 && b == 117) (filled_at_slash client user rest after)
    (filled_at_slash client user (b ∷ rest) after)
  where
    at : (c u : Bool) → filled client user (rest ++ 47 ∷ after)
        ≡ filled client user rest ++ 47 ∷ filled client user after
        → filled client user (b ∷ (rest ++ 47 ∷ after))
        ≡ filled client user (b ∷ rest) ++ 47 ∷ filled client user after
        → (if c then client ++ filled client user (rest ++ 47 ∷ after)
        else (if u then user ++ filled client user (rest ++ 47 ∷ after)
        else a ∷ filled client user (b ∷ (rest ++ 47 ∷ after))))
        ≡ (if c then client ++ filled client user rest
        else (if u then user ++ filled client user rest
        else a ∷ filled client user (b ∷ rest))) ++ 47 ∷ filled client user after
    at true u far near = ap (λ l. client ++ l) far
        ∙ sym (append_assoc client (filled client user rest) (47 ∷ filled client user after))
    at false true far near = ap (λ l. user ++ l) far
        ∙ sym (append_assoc user (filled client user rest) (47 ∷ filled client user after))
    at false false far near = ap (λ l. a ∷ l) near

filled_parts : (client user : List ℕ) (parts : List (List ℕ)) → 0 < length parts
    → levels (filled client user (join_with_byte 47 parts))
    ≡ flat_map (λ part. levels (filled client user part)) parts
filled_parts client user [] h = absurd (omega arith)
filled_parts client user (w ∷ []) h = sym (append-nil (levels (filled client user w)))
filled_parts client user (w ∷ v ∷ parts) h =
    ap levels (filled_at_slash client user w (join_with_byte 47 (v ∷ parts)))
    ∙ levels_at_slash (filled client user w) (filled client user (join_with_byte 47 (v ∷ parts)))
    ∙ ap (λ ls. levels (filled client user w) ++ ls)
    (filled_parts client user (v ∷ parts) (omega arith))

-- the levels of the text are those of its levels, one behind the other
pub levels_filled : (client user text : List ℕ) → levels (filled client user text)
    ≡ flat_map (λ level. levels (filled client user level)) (levels text)
levels_filled client user text =
    ap (λ t. levels (filled client user t)) (sym (join_with_byte-slice_split 47 text))
    ∙ filled_parts client user (levels text) (levels-nonempty text)

-- ---- texts whose levels begin with those of another

is_47 : (b : ℕ) → is_slash b ≡ true → b ≡ 47
is_47 b e = (Decides-eqb b 47).0 e

-- it ends with the other, or goes on behind it with a slash
pub data GoesOn (text whole : List ℕ) (after : List (List ℕ)) : Type 0 where
  Ends : whole ≡ text → after ≡ [] → GoesOn text whole after
  Slash : (left : List ℕ) → whole ≡ text ++ 47 ∷ left → after ≡ levels left
      → GoesOn text whole after

abbrev head : List (List ℕ) → List ℕ
head [] = []
head (l ∷ ls) = l

abbrev tail : List (List ℕ) → List (List ℕ)
tail [] = []
tail (l ∷ ls) = ls

-- a byte that is no slash stands in front of the first level
longer : (x : ℕ) (parts : List (List ℕ)) → 0 < length parts
    → onto_first x parts ≡ (x ∷ head parts) ∷ tail parts
longer x [] h = absurd (omega arith)
longer x (p ∷ parts) h = refl

whole_parts : (parts : List (List ℕ)) → 0 < length parts → parts ≡ head parts ∷ tail parts
whole_parts [] h = absurd (omega arith)
whole_parts (p ∷ parts) h = refl

-- what follows the level that a text begins with
pub begins : (text whole : List ℕ) (after : List (List ℕ)) → levels whole ≡ levels text ++ after
    → GoesOn text whole after
begins [] [] after e = Ends refl (sym (ap tail e))
begins [] (x ∷ whole) after e = at (is_slash x) refl e
  where
    at : (s : Bool) → is_slash x ≡ s
        → cond s ([] ∷ levels whole) (onto_first x (levels whole)) ≡ [] ∷ after
        → GoesOn [] (x ∷ whole) after
    at true s e = Slash whole (ap (λ b. b ∷ whole) (is_47 x s)) (sym (ap tail e))
    at false s e =
        let f : x ∷ head (levels whole) ≡ [] =
        ap head (sym (longer x (levels whole) (levels-nonempty whole)) ∙ e) in
        absurd (cc)
begins (a ∷ text) [] after e = at (is_slash a) refl e
  where
    at : (s : Bool) → is_slash a ≡ s
        → [] ∷ [] ≡ cond s ([] ∷ levels text) (onto_first a (levels text)) ++ after
        → GoesOn (a ∷ text) [] after
    at true s e =
        let f : [] ≡ levels text ++ after = ap tail e in
        let g : [] ≡ (head (levels text) ∷ tail (levels text)) ++ after =
        f ∙ ap (λ ls. ls ++ after) (whole_parts (levels text) (levels-nonempty text)) in
        absurd (cc)
    at false s e =
        let f : [] ≡ a ∷ head (levels text) =
        ap head (e ∙ ap (λ ls. ls ++ after) (longer a (levels text) (levels-nonempty text))) in
        absurd (cc)
begins (a ∷ text) (x ∷ whole) after e =
    at (is_slash a) (is_slash x) refl refl (λ f. begins text whole after f) e
  where
    on : x ≡ a → GoesOn text whole after → GoesOn (a ∷ text) (x ∷ whole) after
    on b (Ends e n) = Ends (λ i. b i ∷ e i) n
    on b (Slash left e n) = Slash left (λ i. b i ∷ e i) n

    at : (s t : Bool) → is_slash a ≡ s → is_slash x ≡ t
        → (levels whole ≡ levels text ++ after → GoesOn text whole after)
        → cond t ([] ∷ levels whole) (onto_first x (levels whole))
        ≡ cond s ([] ∷ levels text) (onto_first a (levels text)) ++ after
        → GoesOn (a ∷ text) (x ∷ whole) after
    at true true s t later e = on (is_47 x t ∙ sym (is_47 a s)) (later (ap tail e))
    at true false s t later e =
        let f : x ∷ head (levels whole) ≡ [] =
        ap head (sym (longer x (levels whole) (levels-nonempty whole)) ∙ e) in
        absurd (cc)
    at false true s t later e =
        let f : [] ≡ a ∷ head (levels text) =
        ap head (e ∙ ap (λ ls. ls ++ after) (longer a (levels text) (levels-nonempty text))) in
        absurd (cc)
    at false false s t later e =
        let f : (x ∷ head (levels whole)) ∷ tail (levels whole)
        ≡ (a ∷ head (levels text)) ∷ (tail (levels text) ++ after) =
        sym (longer x (levels whole) (levels-nonempty whole)) ∙ e
        ∙ ap (λ ls. ls ++ after) (longer a (levels text) (levels-nonempty text)) in
        let g : head (levels whole) ∷ tail (levels whole)
        ≡ head (levels text) ∷ (tail (levels text) ++ after) = cc in
        let b : x ≡ a = cc in
        on b (later (whole_parts (levels whole) (levels-nonempty whole) ∙ g
        ∙ sym (ap (λ ls. ls ++ after) (whole_parts (levels text) (levels-nonempty text)))))

-- ---- levels without wildcards

abbrev pub are_plain : List (List ℕ) → Bool
are_plain ls = list_all (λ l. not (is_wildcard l)) ls

no_hash : (p : List ℕ) (rest : List (List ℕ)) → not (is_wildcard p) ≡ true
    → (bytes_eq p (codes "#") && (length rest == 0)) ≡ false
no_hash p rest h = and_left (bytes_eq p (codes "#")) (length rest == 0)
    (or_parts (bytes_eq p (codes "+")) (bytes_eq p (codes "#")) (not-true (is_wildcard p) h)).1

itself : (p : List ℕ) → level_matches p p ≡ true
itself p = or_right (bytes_eq p (codes "+")) (bytes_eq p p) (text_itself p)

same : (p n : List ℕ) → not (is_wildcard p) ≡ true → level_matches p n ≡ true → n ≡ p
same p n h m =
    let plain = (or_parts (bytes_eq p (codes "+")) (bytes_eq p (codes "#"))
    (not-true (is_wildcard p) h)).0 in
    sym (text_is p n (sym (ap (λ b. b || bytes_eq p n) plain) ∙ m))

-- levels without wildcards match those of the same texts, and what follows decides
pub plain_same : (ps fs ns : List (List ℕ)) → are_plain ps ≡ true
    → levels_match_by level_matches (ps ++ fs) (ps ++ ns) ≡ levels_match_by level_matches fs ns
plain_same [] fs ns h = refl
plain_same (p ∷ ps) fs ns h =
    let both = and_parts (not (is_wildcard p)) (are_plain ps) h in
    levels_match_cons level_matches p p (ps ++ fs) (ps ++ ns) (no_hash p (ps ++ fs) both.0)
    ∙ ap (λ b. b && levels_match_by level_matches (ps ++ fs) (ps ++ ns)) (itself p)
    ∙ plain_same ps fs ns both.1

-- and no others
pub plain_only : (ps fs ns : List (List ℕ)) → are_plain ps ≡ true
    → levels_match_by level_matches (ps ++ fs) ns ≡ true
    → (after : List (List ℕ)) × (ns ≡ ps ++ after)
plain_only [] fs ns h m = (ns, refl)
plain_only (p ∷ ps) fs [] h m =
    let both = and_parts (not (is_wildcard p)) (are_plain ps) h in
    absurd (let f : false ≡ true =
    sym (levels_match_end level_matches p (ps ++ fs) (no_hash p (ps ++ fs) both.0)) ∙ m in cc)
plain_only (p ∷ ps) fs (n ∷ ns) h m =
    let both = and_parts (not (is_wildcard p)) (are_plain ps) h in
    let first = and_parts (level_matches p n) (levels_match_by level_matches (ps ++ fs) ns)
    (sym (levels_match_cons level_matches p n (ps ++ fs) ns (no_hash p (ps ++ fs) both.0)) ∙ m)
    in
    let later = plain_only ps fs ns both.1 first.1 in
    (later.0, λ i. same p n both.0 first.0 i ∷ later.1 i)

-- ---- the levels of a text without wildcards

lacks : (b : ℕ) (l : List ℕ) → contains_byte b l ≡ false → bytes_eq l (b ∷ []) ≡ false
lacks b l h = at (bytes_eq l (b ∷ [])) refl
  where
    at : (e : Bool) → bytes_eq l (b ∷ []) ≡ e → e ≡ false
    at false e = refl
    at true e =
        let has : contains_byte b (b ∷ []) ≡ false =
        ap (contains_byte b) (sym (text_is l (b ∷ []) e)) ∙ h in
        let k : contains_byte b (b ∷ []) ≡ true = or_left (b == b) false ((Decides-eqb b b).1 refl) in
        absurd (let f : true ≡ false = sym k ∙ has in cc)

abbrev all_lack : ℕ → List (List ℕ) → Bool
all_lack b ls = list_all (λ l. not (contains_byte b l)) ls

parts_lack : (b : ℕ) (text : List ℕ) → contains_byte b text ≡ false
    → all_lack b (levels text) ≡ true
parts_lack b [] h = refl
parts_lack b (x ∷ text) h =
    let both = or_parts (x == b) (contains_byte b text) h in
    at (is_slash x) both.0 (parts_lack b text both.1)
  where
    longer_lack : (ls : List (List ℕ)) → (x == b) ≡ false → all_lack b ls ≡ true
        → all_lack b (onto_first x ls) ≡ true
    longer_lack [] e all = ap (λ t. not (t || false) && true) e
    longer_lack (l ∷ ls) e all = ap (λ t. not (t || contains_byte b l) && all_lack b ls) e ∙ all

    at : (s : Bool) → (x == b) ≡ false → all_lack b (levels text) ≡ true
        → all_lack b (cond s ([] ∷ levels text) (onto_first x (levels text))) ≡ true
    at true e all = all
    at false e all = longer_lack (levels text) e all

both_lack : (ls : List (List ℕ)) → all_lack 43 ls ≡ true → all_lack 35 ls ≡ true
    → are_plain ls ≡ true
both_lack [] p h = refl
both_lack (l ∷ ls) p h =
    let plus = and_parts (not (contains_byte 43 l)) (all_lack 43 ls) p in
    let hash = and_parts (not (contains_byte 35 l)) (all_lack 35 ls) h in
    and_from (not (is_wildcard l)) (are_plain ls)
    (ap not (λ i. lacks 43 l (not-true _ plus.0) i || lacks 35 l (not-true _ hash.0) i))
    (both_lack ls plus.1 hash.1)

-- no level of a text without `+` and `#` is one of them
pub plain_levels : (text : List ℕ) → is_plain text ≡ true → are_plain (levels text) ≡ true
plain_levels text h =
    let both = and_parts (not (contains_byte 43 text)) (not (contains_byte 35 text)) h in
    both_lack (levels text) (parts_lack 43 text (not-true _ both.0))
    (parts_lack 35 text (not-true _ both.1))

lacks_append : (b : ℕ) (xs ys : List ℕ) → contains_byte b xs ≡ false → contains_byte b ys ≡ false
    → contains_byte b (xs ++ ys) ≡ false
lacks_append b [] ys h k = k
lacks_append b (x ∷ xs) ys h k =
    let both = or_parts (x == b) (contains_byte b xs) h in
    ap (λ t. t || contains_byte b (xs ++ ys)) both.0 ∙ lacks_append b xs ys both.1 k

filled_lacks : (b : ℕ) (client user text : List ℕ) → contains_byte b client ≡ false
    → contains_byte b user ≡ false → contains_byte b text ≡ false
    → contains_byte b (filled client user text) ≡ false
filled_lacks b client user [] c u t = refl
filled_lacks b client user (x ∷ []) c u t = t
filled_lacks b client user (x ∷ y ∷ text) c u t =
    let first = or_parts (x == b) (contains_byte b (y ∷ text)) t in
    let second = or_parts (y == b) (contains_byte b text) first.1 in
    at (x == 37 && y == 99) (x == 37 && y == 117) first.0
    (filled_lacks b client user text c u second.1) (filled_lacks b client user (y ∷ text) c u first.1)
  where
    at : (p q : Bool) → (x == b) ≡ false → contains_byte b (filled client user text) ≡ false
        → contains_byte b (filled client user (y ∷ text)) ≡ false
        → contains_byte b (if p then client ++ filled client user text
        else (if q then user ++ filled client user text
        else x ∷ filled client user (y ∷ text))) ≡ false
    at true q e far near = lacks_append b client (filled client user text) c far
    at false true e far near = lacks_append b user (filled client user text) u far
    at false false e far near = ap (λ t. t || contains_byte b (filled client user (y ∷ text))) e ∙ near

-- where neither the text nor what takes the place of its marks has a wildcard, no level of what comes of it is one
pub filled_plain : (client user text : List ℕ) → is_plain client ≡ true → is_plain user ≡ true
    → is_plain text ≡ true → are_plain (levels (filled client user text)) ≡ true
filled_plain client user text c u t =
    let cs = and_parts (not (contains_byte 43 client)) (not (contains_byte 35 client)) c in
    let us = and_parts (not (contains_byte 43 user)) (not (contains_byte 35 user)) u in
    let ts = and_parts (not (contains_byte 43 text)) (not (contains_byte 35 text)) t in
    both_lack (levels (filled client user text))
    (parts_lack 43 (filled client user text) (filled_lacks 43 client user text
    (not-true _ cs.0) (not-true _ us.0) (not-true _ ts.0)))
    (parts_lack 35 (filled client user text) (filled_lacks 35 client user text
    (not-true _ cs.1) (not-true _ us.1) (not-true _ ts.1)))

-- ---- the walk over a filter and a name

abbrev pub filled_levels : (client user : List ℕ) → List (List ℕ) → List (List ℕ)
filled_levels client user ls = flat_map (λ l. levels (filled client user l)) ls

-- a level of a valid filter that isn't a last `#` is `+`, or has no wildcard
pub fit_level : (w : List ℕ) (ws : List (List ℕ)) → wildcards_fit (w ∷ ws) ≡ true
    → (bytes_eq w (codes "#") && (length ws == 0)) ≡ false
    → (bytes_eq w (codes "+") || is_plain w) ≡ true
fit_level w [] h n =
    let level = and_parts (is_level w && true) true h in
    let parts = and_parts (not (contains_byte 43 w) || bytes_eq w (codes "+"))
    (not (contains_byte 35 w) || bytes_eq w (codes "#"))
    (and_parts (is_level w) true level.0).0 in
    fits (contains_byte 43 w) (contains_byte 35 w) (bytes_eq w (codes "+"))
    (bytes_eq w (codes "#")) parts.0 parts.1 n
  where
    fits : (p h e f : Bool) → (not p || e) ≡ true → (not h || f) ≡ true → (f && true) ≡ false
        → (e || (not p && not h)) ≡ true
    fits p h true f a b n = refl
    fits false false false f a b n = refl
    fits false true false true a b n = sym n
    fits false true false false a b n = b
    fits true h false f a b n = a
fit_level w (v ∷ ws) h n =
    let parts = and_parts (list_all is_level (w ∷ v ∷ ws))
    (list_all (λ l. not (contains_byte 35 l)) (parents (w ∷ v ∷ ws))) h in
    let level = and_parts (not (contains_byte 43 w) || bytes_eq w (codes "+"))
    (not (contains_byte 35 w) || bytes_eq w (codes "#"))
    (and_parts (is_level w) (list_all is_level (v ∷ ws)) parts.0).0 in
    let more : length (w ∷ v ∷ ws) - 1 ≡ suc (length ws) = omega arith in
    let before = ap (λ k. list_all (λ l. not (contains_byte 35 l)) (take k (w ∷ v ∷ ws))) (sym more)
    ∙ parts.1 in
    let hash = and_parts (not (contains_byte 35 w))
    (list_all (λ l. not (contains_byte 35 l)) (take (length ws) (v ∷ ws))) before in
    fits (contains_byte 43 w) (not (contains_byte 35 w)) (bytes_eq w (codes "+")) level.0 hash.0
  where
    fits : (p h e : Bool) → (not p || e) ≡ true → h ≡ true → (e || (not p && h)) ≡ true
    fits p h true a b = refl
    fits false h false a b = b
    fits true h false a b = a

-- and the levels behind it are those of one
pub fit_rest : (w : List ℕ) (ws : List (List ℕ)) → wildcards_fit (w ∷ ws) ≡ true
    → wildcards_fit ws ≡ true
fit_rest w [] h = refl
fit_rest w (v ∷ ws) h =
    let parts = and_parts (list_all is_level (w ∷ v ∷ ws))
    (list_all (λ l. not (contains_byte 35 l)) (parents (w ∷ v ∷ ws))) h in
    let more : length (w ∷ v ∷ ws) - 1 ≡ suc (length ws) = omega arith in
    let less : length (v ∷ ws) - 1 ≡ length ws = omega arith in
    let before = ap (λ k. list_all (λ l. not (contains_byte 35 l)) (take k (w ∷ v ∷ ws))) (sym more)
    ∙ parts.1 in
    and_from (list_all is_level (v ∷ ws))
    (list_all (λ l. not (contains_byte 35 l)) (parents (v ∷ ws)))
    (and_parts (is_level w) (list_all is_level (v ∷ ws)) parts.0).1
    (ap (λ k. list_all (λ l. not (contains_byte 35 l)) (take k (v ∷ ws))) less
    ∙ (and_parts (not (contains_byte 35 w))
    (list_all (λ l. not (contains_byte 35 l)) (take (length ws) (v ∷ ws))) before).1)

-- a level that has no wildcard, filled, has none
pub filled_level : (client user w : List ℕ) → is_plain client ≡ true → is_plain user ≡ true
    → bytes_eq w (codes "+") ≡ false → (bytes_eq w (codes "+") || is_plain w) ≡ true
    → are_plain (levels (filled client user w)) ≡ true
filled_level client user w c u n h =
    filled_plain client user w c u (sym (ap (λ b. b || is_plain w) n) ∙ h)

-- no name is left for a level of the filter
pub short_name : (client user w : List ℕ) (ws : List (List ℕ)) → is_plain client ≡ true
    → is_plain user ≡ true → (bytes_eq w (codes "+") || is_plain w) ≡ true
    → levels_match_by level_matches (filled_levels client user (w ∷ ws)) [] ≡ false
short_name client user w ws c u h = at (bytes_eq w (codes "+")) refl
  where
    none : (ps fs : List (List ℕ)) → 0 < length ps → are_plain ps ≡ true
        → levels_match_by level_matches (ps ++ fs) [] ≡ false
    none [] fs n p = absurd (omega arith)
    none (p ∷ ps) fs n k =
        levels_match_end level_matches p (ps ++ fs)
        (no_hash p (ps ++ fs) (and_parts (not (is_wildcard p)) (are_plain ps) k).0)

    at : (b : Bool) → bytes_eq w (codes "+") ≡ b
        → levels_match_by level_matches (filled_levels client user (w ∷ ws)) [] ≡ false
    at true e =
        ap (λ t. levels_match_by level_matches
        (levels (filled client user t) ++ filled_levels client user ws) []) (text_is w (codes "+") e)
        ∙ levels_match_end level_matches (codes "+") (filled_levels client user ws) refl
    at false e = none (levels (filled client user w)) (filled_levels client user ws)
        (levels-nonempty (filled client user w)) (filled_level client user w c u e h)

-- a last `#` matches whatever is left
pub last_hash : (client user w : List ℕ) (ws ns : List (List ℕ))
    → (bytes_eq w (codes "#") && (length ws == 0)) ≡ true
    → levels_match_by level_matches (filled_levels client user (w ∷ ws)) ns ≡ true
last_hash client user w [] ns h =
    let e = text_is w (codes "#") (and_parts (bytes_eq w (codes "#")) true h).0 in
    ap (λ t. levels_match_by level_matches (levels (filled client user t) ++ []) ns) e
last_hash client user w (v ∷ ws) ns h =
    let more : (length (v ∷ ws) == 0) ≡ false = grind (arith, nat_tests) in
    let f : true ≡ false = sym (and_parts (bytes_eq w (codes "#")) (length (v ∷ ws) == 0) h).1 ∙ more
    in
    absurd (cc)

-- ---- a level and what a name begins with

module _ (text whole : List ℕ) (after : List (List ℕ)) where
  -- the name ends with the text
  pub matches_end : are_plain (levels text) ≡ true → whole ≡ text
      → levels_match_by level_matches (levels text ++ after) (levels whole)
      ≡ levels_match_by level_matches after []
  matches_end h e =
      ap (λ t. levels_match_by level_matches (levels text ++ after) (levels t)) e
      ∙ ap (λ ns. levels_match_by level_matches (levels text ++ after) ns)
      (sym (append-nil (levels text)))
      ∙ plain_same (levels text) after [] h

  -- it goes on behind a slash
  pub matches_slash : (left : List ℕ) → are_plain (levels text) ≡ true → whole ≡ text ++ 47 ∷ left
      → levels_match_by level_matches (levels text ++ after) (levels whole)
      ≡ levels_match_by level_matches after (levels left)
  matches_slash left h e =
      ap (λ t. levels_match_by level_matches (levels text ++ after) (levels t)) e
      ∙ ap (λ ns. levels_match_by level_matches (levels text ++ after) ns) (levels_at_slash text left)
      ∙ plain_same (levels text) after (levels left) h

  -- it does neither
  pub matches_not : are_plain (levels text) ≡ true → (whole ≡ text → ⊥)
      → ((left : List ℕ) → whole ≡ text ++ 47 ∷ left → ⊥)
      → levels_match_by level_matches (levels text ++ after) (levels whole) ≡ false
  matches_not h ends slash =
      at (levels_match_by level_matches (levels text ++ after) (levels whole)) refl
    where
      found : (ns : List (List ℕ)) → GoesOn text whole ns → ⊥
      found ns (Ends e n) = ends e
      found ns (Slash left e n) = slash left e

      at : (b : Bool)
          → levels_match_by level_matches (levels text ++ after) (levels whole) ≡ b → b ≡ false
      at false e = refl
      at true e =
          let ns = plain_only (levels text) after (levels whole) h e in
          absurd (found ns.0 (begins text whole ns.0 ns.1))

-- `+` matches the first level of a name
pub plus_first : (name first : List ℕ) (rest : Option (Bor (List ℕ))) (after : List (List ℕ))
    → levels name ≡ first ∷ levels_left rest
    → levels_match_by level_matches (codes "+" ∷ after) (levels name)
    ≡ levels_match_by level_matches after (levels_left rest)
plus_first name first rest after e =
    ap (λ ns. levels_match_by level_matches (codes "+" ∷ after) ns) e
    ∙ levels_match_cons level_matches (codes "+") first after (levels_left rest) refl

-- the first level of a text, where a slash follows it, and where none does
pub first_level : (name : List ℕ) (n : ℕ) → position is_slash name ≡ Some n
    → levels name ≡ before_first is_slash name ∷ levels (drop (n + 1) name)
first_level name n e = at (nat_lt (position_or_len is_slash name) (length name)) refl e
  where
    at : (b : Bool) → nat_lt (position_or_len is_slash name) (length name) ≡ b
        → cond b (Some (position_or_len is_slash name)) None ≡ Some n
        → levels name ≡ before_first is_slash name ∷ levels (drop (n + 1) name)
    at false l e = absurd (cc)
    at true l e =
        let is : position_or_len is_slash name ≡ n = cc in
        slice_split_first is_slash name 0 (ltb-true _ _ l)
        ∙ ap (λ k. before_first is_slash name ∷ levels (drop (k + 1) name)) is

pub only_level : (name : List ℕ) → position is_slash name ≡ None
    → levels name ≡ before_first is_slash name ∷ []
only_level name e = at (nat_lt (position_or_len is_slash name) (length name)) refl e
  where
    at : (b : Bool) → nat_lt (position_or_len is_slash name) (length name) ≡ b
        → cond b (Some (position_or_len is_slash name)) None ≡ None
        → levels name ≡ before_first is_slash name ∷ []
    at true l e = absurd (cc)
    at false l e =
        let le = prefix_len-le-length (λ b. not (is_slash b)) name in
        let ge = ltb-false _ _ l in
        let is : position_or_len is_slash name ≡ length name = omega arith in
        slice_split_whole is_slash name is
        ∙ ap (λ t. t ∷ []) (sym (take_all (position_or_len is_slash name) name (omega arith)))

-- ---- texts cut into pieces

pub cut_on : (all taken rest piece after name left left2 : List ℕ)
    → all ≡ taken ++ rest → name ≡ taken ++ left → rest ≡ piece ++ after → left ≡ piece ++ left2
    → (t : List ℕ) × (all ≡ t ++ after) × (name ≡ t ++ left2)
cut_on all taken rest piece after name left left2 a n r l = (
  taken ++ piece,
  a ∙ ap (λ t. taken ++ t) r ∙ sym (append_assoc taken piece after),
  n ∙ ap (λ t. taken ++ t) l ∙ sym (append_assoc taken piece left2),
)

-- what two texts have in common is the same
pub same_front : (taken xs ys : List ℕ) → taken ++ xs ≡ taken ++ ys → xs ≡ ys
same_front [] xs ys e = e
same_front (t ∷ taken) xs ys e = same_front taken xs ys (cc)

-- a text whose front is the piece is the piece and what follows it
pub front : (piece left : List ℕ) → bytes_eq (take (length piece) left) piece ≡ true
    → left ≡ piece ++ drop (length piece) left
front piece left h =
    sym (take-append-drop (length piece) left)
    ∙ ap (λ t. t ++ drop (length piece) left) (text_is (take (length piece) left) piece h)

-- and where it isn't, the text doesn't begin with the piece
pub no_front : (piece left later : List ℕ) → bytes_eq (take (length piece) left) piece ≡ false
    → left ≡ piece ++ later → ⊥
no_front piece left later h e =
    let f : bytes_eq (take (length piece) left) piece ≡ true =
    ap (λ t. bytes_eq (take (length piece) t) piece) e
    ∙ ap (λ t. bytes_eq t piece) (take-append_seam piece later) ∙ text_itself piece in
    let g : true ≡ false = sym f ∙ h in
    absurd (cc)

-- where what is left of the name doesn't begin with the next piece of the text, the name doesn't begin with the text
pub no_start : (whole taken rest piece after name left : List ℕ)
    → whole ≡ taken ++ rest → name ≡ taken ++ left → rest ≡ piece ++ after
    → bytes_eq (take (length piece) left) piece ≡ false
    → (later : List ℕ) → name ≡ whole ++ later → ⊥
no_start whole taken rest piece after name left w n r h later e =
    let f : taken ++ left ≡ taken ++ (piece ++ (after ++ later)) =
    sym n ∙ e ∙ ap (λ t. t ++ later) w ∙ append_assoc taken rest later
    ∙ ap (λ t. taken ++ (t ++ later)) r
    ∙ ap (λ t. taken ++ t) (append_assoc piece after later) in
    no_front piece left (after ++ later) h (same_front taken left (piece ++ (after ++ later)) f)

pub is_empty : (xs : List ℕ) → length xs ≡ 0 → xs ≡ []
is_empty [] e = refl
is_empty (x ∷ xs) e = absurd (omega (arith, e))

-- a name that goes on behind the text isn't the text
pub goes_on : (text : List ℕ) (first : ℕ) (rest name : List ℕ) → name ≡ text ++ first ∷ rest
    → name ≡ text → ⊥
goes_on text first rest name is e =
    let f : text ++ first ∷ rest ≡ text ++ [] = sym is ∙ e ∙ sym (append-nil text) in
    let g : first ∷ rest ≡ [] = same_front text (first ∷ rest) [] f in
    absurd (cc)

-- what follows the text begins with the same byte
pub same_first : (text : List ℕ) (first : ℕ) (rest left name : List ℕ)
    → name ≡ text ++ first ∷ rest → name ≡ text ++ 47 ∷ left → first ≡ 47
same_first text first rest left name is e =
    let f : first ∷ rest ≡ 47 ∷ left = same_front text (first ∷ rest) (47 ∷ left) (sym is ∙ e) in cc

pub none_left : (left : Option (Bor (List ℕ))) (b : Bool) → is_some left ≡ not b → b ≡ is_none left
none_left None true e = refl
none_left None false e = let f : false ≡ true = e in cc
none_left (Some text) true e = let f : true ≡ false = e in cc
none_left (Some text) false e = refl

-- ---- names that begin with `$`

or_false : (p q : Bool) → q ≡ false → (p || q) ≡ true → p ≡ true
or_false true q e k = refl
or_false false q e k = absurd (let f : true ≡ false = sym k ∙ e in cc)

plain_level : (w : List ℕ) → is_plain w ≡ true → is_wildcard w ≡ false
plain_level w p =
    let both = and_parts (not (contains_byte 43 w)) (not (contains_byte 35 w)) p in
    λ i. lacks 43 w (not-true _ both.0) i || lacks 35 w (not-true _ both.1) i

plain_first : (ls : List (List ℕ)) → 0 < length ls → are_plain ls ≡ true
    → is_wildcard (level_at ls 0) ≡ false
plain_first [] n p = absurd (omega arith)
plain_first (l ∷ ls) n p = not-true _ (and_parts (not (is_wildcard l)) (are_plain ls) p).0

module _ (client user : List ℕ) (c : is_plain client ≡ true) (u : is_plain user ≡ true) where
  level_wildcard : (w : List ℕ) → is_level w ≡ true
      → is_wildcard (level_at (levels (filled client user w)) 0) ≡ is_wildcard w
  level_wildcard w l = cases (bytes_eq w (codes "+")) (bytes_eq w (codes "#")) refl refl
    where
      cases : (p q : Bool) → bytes_eq w (codes "+") ≡ p → bytes_eq w (codes "#") ≡ q
          → is_wildcard (level_at (levels (filled client user w)) 0) ≡ is_wildcard w
      cases true q e f =
          let is = text_is w (codes "+") e in
          ap (λ t. is_wildcard (level_at (levels (filled client user t)) 0)) is
          ∙ sym (ap is_wildcard is)
      cases false true e f =
          let is = text_is w (codes "#") f in
          ap (λ t. is_wildcard (level_at (levels (filled client user t)) 0)) is
          ∙ sym (ap is_wildcard is)
      cases false false e f =
          let parts = and_parts (not (contains_byte 43 w) || bytes_eq w (codes "+"))
          (not (contains_byte 35 w) || bytes_eq w (codes "#")) l in
          let plus = or_false (not (contains_byte 43 w)) _ e parts.0 in
          let hash = or_false (not (contains_byte 35 w)) _ f parts.1 in
          let p = and_from (not (contains_byte 43 w)) (not (contains_byte 35 w)) plus hash in
          plain_first (levels (filled client user w)) (levels-nonempty (filled client user w))
          (filled_plain client user w c u p)
          ∙ sym (plain_level w p)

  filled_wildcard : (ls : List (List ℕ)) → 0 < length ls → wildcards_fit ls ≡ true
      → is_wildcard (level_at (filled_levels client user ls) 0) ≡ is_wildcard (level_at ls 0)
  filled_wildcard [] n fit = absurd (omega arith)
  filled_wildcard (w ∷ ws) n fit =
      ap is_wildcard (first (levels (filled client user w)) (filled_levels client user ws)
      (levels-nonempty (filled client user w)))
      ∙ level_wildcard w (and_parts (is_level w) (list_all is_level ws)
      (and_parts (list_all is_level (w ∷ ws))
      (list_all (λ l. not (contains_byte 35 l)) (parents (w ∷ ws))) fit).0).0
    where
      first : (ls rest : List (List ℕ)) → 0 < length ls → level_at (ls ++ rest) 0 ≡ level_at ls 0
      first [] rest n = absurd (omega arith)
      first (l ∷ ls) rest n = refl

-- the first level is a wildcard just where that of the filter is one
first_wildcard : (client user filter : List ℕ) → is_plain client ≡ true → is_plain user ≡ true
    → wildcards_fit (levels filter) ≡ true
    → is_wildcard (level_at (levels (filled client user filter)) 0)
    ≡ is_wildcard (level_at (levels filter) 0)
first_wildcard client user filter c u h =
    ap (λ ls. is_wildcard (level_at ls 0)) (levels_filled client user filter)
    ∙ filled_wildcard client user c u (levels filter) (levels-nonempty filter) h

-- and so the same names are hidden from both
pub same_hidden : (client user filter : List ℕ) (name : List (List ℕ)) → is_plain client ≡ true
    → is_plain user ≡ true → wildcards_fit (levels filter) ≡ true
    → is_hidden (levels (filled client user filter)) name ≡ is_hidden (levels filter) name
same_hidden client user filter name c u fit =
    ap (λ w. slice_index (level_at name 0) 0 == 36 && w) (first_wildcard client user filter c u fit)
