-- Filters with a text in the place of a mark.
use Rattle.std.proofs.Common.{◌≡◌, ◌<◌, ℕ, Bool, true, false, cond, not, ◌&&◌, ◌||◌, List, [], ◌∷◌}
use Rattle.std.proofs.Common.{length, refl, ap, sym, ◌∙◌, arith, Option, Some, None, inl, inr, ◌==◌}
use Rattle.std.specs.Prelude.{codes, nat_le}
use Rattle.std.specs.List.{list_any}
use Rattle.std.specs.Str.{bytes_eq}
use Rattle.std.proofs.Math.Bool.{or-false, or-true}
use Rattle.std.proofs.lemmas.Bool.{and_parts, and_from, cond_both, false_from_ne_true, not-true}
use Rattle.std.proofs.lemmas.Bool.{not_from_false, or_cases, or_from, or_parts, leb-true}
use Rattle.std.proofs.lemmas.Bool.{true_from_ne_false}
use Rattle.std.proofs.lemmas.List.{length-map}
use Rattle.std.proofs.lemmas.List.Splits.{join_with_byte-slice_split}
use Rattle.mq_topic.specs.Levels.{levels}
use Rattle.mq_topic.specs.Matching.{level_at, level_matches, levels_match_by, matches}
use Rattle.mq_topic.specs.Texts.{contains_byte, is_name, is_filter}
use Rattle.mq_topic.proofs.ByteLemmas.{text_flip, text_is}
use Rattle.mq_topic.proofs.Walk.{levels-nonempty, levels_match_cons}
use Rattle.mq_acl.specs.Access.{begins_with_dollar, pattern_level_matches}
use Rattle.mq_rename.specs.Lists.{has_long, is_hash, is_last_hash, is_plus, are_fit, is_long}
use Rattle.mq_rename.proofs.FitLemmas.{all_lack, lacks_hash, no_last, filter_is_fit, fit_from}
use Rattle.mq_rename.proofs.FitLemmas.{fit_parts}
use Rattle.mq_rename.proofs.JoinLemmas.{joined, joined_some}
use Rattle.mq_rename.proofs.MatchLemmas.{has_dollar}
use Rattle.mq_rename.proofs.ReachLemmas.{name_some, levels_of_text, no_filter_is_long}
use Rattle.mq_regions.specs.Filled.{IsFilled, IsFilledIfAny, fill_level, fill_levels, has_level}
use Rattle.mq_regions.specs.Filled.{is_name_level}
use Rattle.mq_regions.specs.Regions.{is_mark}
use Rattle.mq_regions.proofs.CoverLemmas.{cover_is, dollar_is, pattern_covers}
use Rattle.mq_regions.proofs.StandLemmas.{plain_read, mark_by, mark_dollar}
use Rattle.mq_regions.proofs.NameLemmas.{name_text}
use Rattle.mq_regions.proofs.ReadLemmas.{alike, any_or, levels_step, passes_on, replaced}
use Rattle.mq_regions.proofs.ReadLemmas.{some_passes}

-- ---- marks and levels
mark_hash : (w : List ℕ) → is_mark w ≡ true → is_hash w ≡ false
mark_hash w h = mark_by (λ w. is_hash w ≡ false) refl refl w h

-- what a level of a name lacks
pub record IsNameLevel (l : List ℕ) : Type 0 where
  pub plus : contains_byte 43 l ≡ false
  pub hash : contains_byte 35 l ≡ false
  pub nul : contains_byte 0 l ≡ false
  pub slash : contains_byte 47 l ≡ false

pub name_level : (l : List ℕ) → is_name_level l ≡ true → IsNameLevel l
name_level l h =
    let three = and_parts _ _ h in
    let two = and_parts _ _ three.0 in
    let one = and_parts (not (contains_byte 43 l)) _ two.0 in
    record {
      plus = not-true _ one.0;
      hash = not-true _ one.1;
      nul = not-true _ two.1;
      slash = not-true _ three.1;
    }

no_plus : (l : List ℕ) → contains_byte 43 l ≡ false → is_plus l ≡ false
no_plus l h = false_from_ne_true _ (λ e.
    let k : false ≡ true = sym h ∙ ap (contains_byte 43) (text_is l (codes "+") e) in cc)

-- such a level matches itself alone
matches_itself : (text l : List ℕ) → is_name_level text ≡ true
    → level_matches text l ≡ bytes_eq l text
matches_itself text l h =
    ap (λ b. b || bytes_eq text l) (no_plus text (name_level text h).plus) ∙ text_flip text l

-- ---- what a filter covers that is filled
pub fill_at : (mark text w : List ℕ) (P : List ℕ → Type 0)
    → (bytes_eq w mark ≡ true → P text) → (bytes_eq w mark ≡ false → P w)
    → P (fill_level mark text w)
fill_at mark text w P f g = cond_both (bytes_eq w mark) text w P f g

-- no level is the mark
fill_not : (mark text : List ℕ) (ls : List (List ℕ)) → has_level mark ls ≡ false
    → ls ≡ fill_levels mark text ls
fill_not mark text [] h = refl
fill_not mark text (w ∷ ws) h = grind (arith, fill_not mark text ws, or_parts)

-- read by tests that agree but for the mark, the text in whose place one takes as the other does
filled_same : (s t : List ℕ → List ℕ → Bool) (bad : List ℕ → Bool) (mark text filter made : List ℕ)
    (ns : List (List ℕ)) → is_mark mark ≡ true → IsFilled mark text filter made
    → ((w l : List ℕ) → bad w ≡ false → bytes_eq w mark ≡ false → s w l ≡ t w l)
    → ((l : List ℕ) → is_name_level text ≡ true → s text l ≡ t mark l)
    → list_any bad (levels filter) ≡ false
    → levels_match_by s (levels made) ns ≡ levels_match_by t (levels filter) ns
filled_same s t bad mark text filter made ns k is other same none =
    ap (λ ls. levels_match_by s ls ns) is.are
    ∙ at (has_level mark (levels filter)) refl
  where
    at : (b : Bool) → has_level mark (levels filter) ≡ b
        → levels_match_by s (fill_levels mark text (levels filter)) ns
        ≡ levels_match_by t (levels filter) ns
    at true e =
        let fits = is.fits e in
        replaced s t bad (fill_level mark text)
        (λ w l b. fill_at mark text w (λ v. s v l ≡ t w l)
        (λ f. same l fits ∙ ap (λ v. t v l) (sym (text_is w mark f))) (other w l b))
        (λ w b. fill_at mark text w (λ v. is_hash v ≡ is_hash w)
        (λ f. lacks_hash text (name_level text fits).hash
        ∙ sym (ap is_hash (text_is w mark f) ∙ mark_hash mark k)) (λ f. refl))
        (levels filter) ns none
    at false e =
        ap (λ ls. levels_match_by s ls ns) (sym (fill_not mark text (levels filter) e))
        ∙ alike s t (λ w. bad w || bytes_eq w mark)
        (λ w l b. let parts = or_parts _ _ b in other w l parts.0 parts.1)
        (levels filter) ns (any_or bad (λ w. bytes_eq w mark) (levels filter) none e)

-- for the client whose id is put in
pub client_same : (c : List ℕ) (u : Option (List ℕ)) (m filter made : List ℕ) → is_mark c ≡ false
    → IsFilled (codes "%c") c filter made
    → pattern_covers c u m made ≡ pattern_covers c u m filter
client_same c u m filter made h is =
    (λ i. (not (begins_with_dollar m) || is.dollar i)
    && filled_same (pattern_level_matches c u) (pattern_level_matches c u) (λ w. false)
    (codes "%c") c filter made (levels m) refl is (λ w l b f. refl)
    (λ l fits. plain_read c u c l h ∙ matches_itself c l fits) (none (levels filter)) i)
  where
    none : (ls : List (List ℕ)) → list_any (λ w. false) ls ≡ false
    none [] = refl
    none (l ∷ ls) = none ls

-- and no mark is left for it
pub no_client_left : (c filter made : List ℕ) → is_mark c ≡ false
    → IsFilled (codes "%c") c filter made → has_level (codes "%c") (levels made) ≡ false
no_client_left c filter made h is =
    ap (has_level (codes "%c")) is.are ∙ left (levels filter)
  where
    left : (ls : List (List ℕ)) → has_level (codes "%c") (fill_levels (codes "%c") c ls) ≡ false
    left [] = refl
    left (w ∷ ws) =
        or_from _ _ (fill_at (codes "%c") c w (λ v. bytes_eq v (codes "%c") ≡ false)
        (λ e. (or_parts _ _ h).0) (λ e. e)) (left ws)

-- for the user whose name is put in, as plain text
pub named_same : (c text m filter made : List ℕ) → has_level (codes "%c") (levels filter) ≡ false
    → IsFilled (codes "%u") text filter made
    → matches (levels made) (levels m) ≡ pattern_covers c (Some text) m filter
named_same c text m filter made h is =
    grind (arith, cover_is, filled_same, matches_itself, plain_read)

-- ---- where nothing is filled
-- a text that is a level of a name is one that a name can have
level_lacks : (b : ℕ) (text : List ℕ) (ls : List (List ℕ)) → all_lack b ls ≡ true
    → list_any (λ l. bytes_eq l text) ls ≡ true → contains_byte b text ≡ false
level_lacks b text [] h s = absurd (let k : false ≡ true = s in cc)
level_lacks b text (l ∷ ls) h s =
    let both = and_parts (not (contains_byte b l)) (all_lack b ls) h in
    elim (or_cases _ _ s) [
      | inl e ↦ ap (contains_byte b) (sym (text_is l text e)) ∙ not-true _ both.0
      | inr t ↦ level_lacks b text ls both.1 t
    ]

found_level : (text m : List ℕ) → is_name m ≡ true
    → list_any (λ l. bytes_eq l text) (levels m) ≡ true → is_name_level text ≡ true
found_level text m h s =
    let has = name_text m h in
    let lacks : (b : ℕ) → all_lack b (levels m) ≡ true → not (contains_byte b text) ≡ true =
    λ b k. not_from_false _ (level_lacks b text (levels m) k s) in
    and_from _ _ (and_from _ _ (and_from _ _ (lacks 43 has.plus) (lacks 35 has.hash))
    (lacks 0 has.nul)) (lacks 47 has.slash)

-- ---- what `fill` answers
-- the filter itself, where it has no such mark
pub fill_none : (mark text filter : List ℕ) → has_level mark (levels filter) ≡ false
    → has_long (levels filter) ≡ false → IsFilled mark text filter filter
fill_none mark text filter h k = record {
  are = fill_not mark text (levels filter) h;
  fits = λ e. absurd (let b : false ≡ true = sym h ∙ e in cc);
  dollar = refl;
  short = k;
}

not_both : (a b : Bool) → (b ≡ true → a ≡ true → ⊥) → (a && b) ≡ false
not_both a b f = grind arith

-- the mark's text passes where it stands
mark_passes : (test : List ℕ → List ℕ → Bool) (mark text : List ℕ)
    → ((l : List ℕ) → test mark l ≡ bytes_eq l text)
    → (w l : List ℕ) → bytes_eq w mark ≡ true → test w l ≡ true → bytes_eq l text ≡ true
mark_passes test mark text f w l e m =
    sym (f l) ∙ ap (λ v. test v l) (sym (text_is w mark e)) ∙ m

-- nothing, where no name has the text as a level
pub fill_unfit : (mark text filter : List ℕ) → is_mark mark ≡ true
    → has_level mark (levels filter) ≡ true → is_name_level text ≡ false
    → IsFilledIfAny mark text filter None
fill_unfit mark text filter k h n = λ test m name f.
    not_both _ _ (λ e d.
    let found = some_passes test (λ w. bytes_eq w mark) (λ l. bytes_eq l text)
    (mark_passes test mark text f)
    (λ w g. false_from_ne_true _ (λ e.
    let b : false ≡ true = sym (mark_hash mark k) ∙ ap is_hash (sym (text_is w mark e)) ∙ g in cc))
    (levels filter) (levels m) h e in
    let b : false ≡ true = sym n ∙ found_level text m name found in
    cc)

-- the first level of a name, where the filter begins with the mark
first_is : (test : List ℕ → List ℕ → Bool) (mark text : List ℕ) (fs ns : List (List ℕ))
    → 0 < length fs → 0 < length ns → is_mark mark ≡ true
    → ((l : List ℕ) → test mark l ≡ bytes_eq l text)
    → bytes_eq (level_at fs 0) mark ≡ true → levels_match_by test fs ns ≡ true
    → level_at ns 0 ≡ text
first_is test mark text [] ns p q k f e m = absurd (omega arith)
first_is test mark text (w ∷ ws) [] p q k f e m = absurd (omega arith)
first_is test mark text (w ∷ ws) (l ∷ ls) p q k f e m =
    grind (arith, text_is, mark_hash, mark_passes, levels_match_cons, no_last)

-- nothing, where the text would make it begin with `$`
pub fill_hidden : (mark text filter : List ℕ) → is_mark mark ≡ true
    → (bytes_eq (level_at (levels filter) 0) mark && begins_with_dollar text) ≡ true
    → IsFilledIfAny mark text filter None
fill_hidden mark text filter k h = λ test m name f.
    let both = and_parts _ _ h in
    not_both _ _ (λ e d.
    let first = first_is test mark text (levels filter) (levels m) (levels-nonempty filter)
    (levels-nonempty m) k f both.0 e in
    let begins : begins_with_dollar m ≡ true = dollar_is m ∙ ap has_dollar first ∙ both.1 in
    let mark_first : begins_with_dollar filter ≡ false =
    dollar_is filter ∙ ap has_dollar (text_is (level_at (levels filter) 0) mark both.0)
    ∙ mark_dollar mark k in
    let b : false ≡ true = sym (λ i. not (begins i) || mark_first i) ∙ d in
    cc)

-- nothing, where the text would be empty
only_level : (ls : List (List ℕ)) → 0 < length ls → length (joined ls) ≡ 0 → ls ≡ [] ∷ []
only_level [] p e = absurd (omega arith)
only_level ([] ∷ []) p e = refl
only_level ((x ∷ xs) ∷ []) p e = absurd (omega arith)
only_level (l ∷ k ∷ ls) p e = absurd (let some = joined_some l k ls in omega arith)

alone_is : (test : List ℕ → List ℕ → Bool) (mark text : List ℕ) (fs ns : List (List ℕ))
    → is_mark mark ≡ true → ((l : List ℕ) → test mark l ≡ bytes_eq l text)
    → has_level mark fs ≡ true → fill_levels mark text fs ≡ [] ∷ []
    → levels_match_by test fs ns ≡ true → ns ≡ [] ∷ []
alone_is test mark text [] ns k f h e m = absurd (let b : false ≡ true = h in cc)
alone_is test mark text (w ∷ v ∷ ws) ns k f h e m = absurd (let size = ap length e in omega arith)
alone_is test mark text (w ∷ []) ns k f h e m =
    at ns (sym (ap (λ b. b || passes_on test w [] ns) inner) ∙ sym (levels_step test w [] ns) ∙ m)
  where
    is : bytes_eq w mark ≡ true
    is = sym (or-false (bytes_eq w mark)) ∙ h

    empty : text ≡ []
    empty = let first : fill_level mark text w ≡ [] = cc in
        sym (ap (λ b. cond b text w) is) ∙ first

    inner : is_last_hash w [] ≡ false
    inner = no_last w [] (ap is_hash (text_is w mark is) ∙ mark_hash mark k)

    at : (ns : List (List ℕ)) → passes_on test w [] ns ≡ true → ns ≡ [] ∷ []
    at [] m = absurd (let b : false ≡ true = m in cc)
    at (n ∷ []) m =
        let own = mark_passes test mark text f w n is (and_parts (test w n) true m).0 in
        ap (λ t. t ∷ []) (text_is n text own ∙ empty)
    at (n ∷ o ∷ ns) m = absurd (let b : false ≡ true = (and_parts (test w n) false m).1 in cc)

pub fill_empty : (mark text filter : List ℕ) → is_mark mark ≡ true
    → has_level mark (levels filter) ≡ true
    → length (joined (fill_levels mark text (levels filter))) ≡ 0
    → IsFilledIfAny mark text filter None
fill_empty mark text filter k h z = λ test m name f.
    not_both _ _ (λ e d.
    let size = length-map (levels filter) (fill_level mark text) in
    let some = levels-nonempty filter in
    let only = only_level (fill_levels mark text (levels filter)) (omega arith) z in
    let alone = alone_is test mark text (levels filter) (levels m) k f h only e in
    let text_of : m ≡ [] = sym (join_with_byte-slice_split 47 m) ∙ ap joined alone in
    let none = ap length text_of in
    let more = name_some m name in
    absurd (omega arith))

-- ---- The text of a filter with another text in the place of a mark.
-- ---- its levels
fit_fill : (mark text : List ℕ) (ls : List (List ℕ)) → is_name_level text ≡ true
    → are_fit ls ≡ true → are_fit (fill_levels mark text ls) ≡ true
fit_fill mark text [] h f = refl
fit_fill mark text (l ∷ ls) h f =
    let is = fit_parts l ls f in
    let has = name_level text h in
    let size = length-map ls (fill_level mark text) in
    let after = fit_fill mark text ls h is.after in
    fill_at mark text l (λ v. are_fit (v ∷ fill_levels mark text ls) ≡ true)
    (λ e. fit_from text (fill_levels mark text ls) (record {
      nul = not_from_false _ has.nul;
      slash = not_from_false _ has.slash;
      level = (λ i. (not (has.plus i) || bytes_eq text (codes "+"))
          && (not (has.hash i) || bytes_eq text (codes "#")));
      hash = (λ i. (length (fill_levels mark text ls) == 0) || not (has.hash i))
          ∙ or-true (length (fill_levels mark text ls) == 0);
      after = after;
    }))
    (λ e. fit_from l (fill_levels mark text ls) (record {
      nul = is.nul;
      slash = is.slash;
      level = is.level;
      hash = ap (λ n. (n == 0) || not (contains_byte 35 l)) size ∙ is.hash;
      after = after;
    }))

short_fill : (mark text : List ℕ) (ls : List (List ℕ)) → is_long text ≡ false
    → has_long ls ≡ false → has_long (fill_levels mark text ls) ≡ false
short_fill mark text [] h k = refl
short_fill mark text (l ∷ ls) h k = grind (arith, short_fill mark text ls h, fill_at)

dollar_fill : (mark text : List ℕ) (ls : List (List ℕ)) → 0 < length ls → is_mark mark ≡ true
    → (bytes_eq (level_at ls 0) mark && begins_with_dollar text) ≡ false
    → has_dollar (level_at (fill_levels mark text ls) 0) ≡ has_dollar (level_at ls 0)
dollar_fill mark text [] p k h = absurd (omega arith)
dollar_fill mark text (l ∷ ls) p k h = grind (arith, fill_at, has_dollar, text_is, mark_dollar)

-- ---- the filter
-- what is filled, and with what
pub record IsFillable (mark text filter : List ℕ) : Type 0 where
  pub mark_is : is_mark mark ≡ true
  pub valid : is_filter filter ≡ true
  pub fits : is_name_level text ≡ true
  pub dollar : (bytes_eq (level_at (levels filter) 0) mark && begins_with_dollar text) ≡ false
  pub short : has_long (levels filter) ≡ false
  pub short_text : is_long text ≡ false
  pub some : 0 < length (joined (fill_levels mark text (levels filter)))

fills_fit : (mark text filter : List ℕ) → IsFillable mark text filter
    → are_fit (fill_levels mark text (levels filter)) ≡ true
fills_fit mark text filter is =
    fit_fill mark text (levels filter) is.fits (filter_is_fit filter is.valid)

pub fill_made : (mark text filter made : List ℕ) → IsFillable mark text filter
    → made ≡ joined (fill_levels mark text (levels filter)) → IsFilled mark text filter made
fill_made mark text filter made is e =
    let fills = fill_levels mark text (levels filter) in
    let are = ap levels e ∙ levels_of_text fills (fills_fit mark text filter is) is.some in
    record {
      are = are;
      fits = λ h. is.fits;
      dollar = dollar_is made ∙ ap (λ ls. has_dollar (level_at ls 0)) are
          ∙ dollar_fill mark text (levels filter) (levels-nonempty filter) is.mark_is is.dollar
          ∙ sym (dollar_is filter);
      short = ap has_long are ∙ short_fill mark text (levels filter) is.short_text is.short;
    }

-- its text is a filter's
pub fill_valid : (mark text filter : List ℕ) → IsFillable mark text filter
    → is_filter (joined (fill_levels mark text (levels filter))) ≡ true
fill_valid mark text filter is =
    let fills = fill_levels mark text (levels filter) in
    let size = length-map (levels filter) (fill_level mark text) in
    let few = leb-true (length (levels filter)) 200
    (and_parts _ (nat_le (length (levels filter)) 200) is.valid).1 in
    true_from_ne_false _ (λ e.
    let long = no_filter_is_long fills (fills_fit mark text filter is) is.some (omega arith) e in
    let b : true ≡ false =
    sym long ∙ short_fill mark text (levels filter) is.short_text is.short in
    cc)
