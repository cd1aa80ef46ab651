-- The terms of a filter, level by level.
use Rattle.std.proofs.Common.{◌≡◌, ◌<◌, ◌==◌, ℕ, Bool, true, false, not, ◌&&◌, ◌||◌, List, [], ◌∷◌, ◌++◌}
use Rattle.std.proofs.Common.{length, refl, ap, sym, ◌∙◌, subst, bytes_eq, codes, arith, Option, Some, None}
use Rattle.std.specs.List.{list_all, onto_first}
use Rattle.std.specs.Option.{unwrap_or}
use Rattle.std.proofs.Math.Bool.{and-false, and-true}
use Rattle.std.proofs.Math.Dec.{eqb-suc-zero}
use Rattle.std.proofs.lemmas.Bool.{and_left, and_parts, not-true, or_parts}
use Rattle.mq_topic.proofs.Walk.{levels-nonempty, levels_match_cons, levels_match_end}
use Rattle.mq_topic.specs.Levels.{levels, is_slash}
use Rattle.mq_topic.specs.Matching.{is_wildcard, level_matches, levels_match_by}
use Rattle.mq_topic.specs.Texts.{contains_byte}
use Rattle.mq_topic.proofs.ByteLemmas.{text_is}
use Rattle.mq_acl.specs.Filled.{filled}
use Rattle.mq_acl.specs.Lines.{is_pattern_level}
use Rattle.mq_acl.proofs.FilledLemmas.{plain_levels}
use Rattle.mq_unify.specs.Clients.{IsMade, IsMadeOf, are_plain, goes_along, user_fits, made}
use Rattle.mq_unify.specs.Clients.{made_levels, mark_plain}
use Rattle.mq_cover.specs.Remainders.{fits}
use Rattle.mq_unify.specs.Terms.{terms_fit, goes_by, may_follow}
use Rattle.mq_unify.specs.declared.shape.ClientShape.{ClientShape}
use Rattle.mq_unify.specs.declared.term.Term.{Term}
use Rattle.mq_unify.proofs.MadeLemmas.{client_made, plain_made, user_made}
use Rattle.mq_unify.proofs.TermLemmas.{goes_alike}

-- ---- levels that no `#` ends
-- what the rest of the name has to match
abbrev pub match_rest : List (List ℕ) → List (List ℕ) → Bool
match_rest filter ls = levels_match_by level_matches filter ls

no_hash : (w : List ℕ) (b : Bool) → not (is_wildcard w) ≡ true
    → (bytes_eq w (codes "#") && b) ≡ false
no_hash w b h = and_left (bytes_eq w (codes "#")) b
    (or_parts (bytes_eq w (codes "+")) (bytes_eq w (codes "#")) (not-true (is_wildcard w) h)).1

pub along_plain : (ws rest ls : List (List ℕ)) → are_plain ws ≡ true
    → match_rest (ws ++ rest) ls ≡ goes_along ws (match_rest rest) ls
along_plain [] rest ls h = refl
along_plain (w ∷ ws) rest [] h =
    let both = and_parts (not (is_wildcard w)) (are_plain ws) h in
    levels_match_end level_matches w (ws ++ rest) (no_hash w _ both.0)
along_plain (w ∷ ws) rest (l ∷ ls) h =
    let both = and_parts (not (is_wildcard w)) (are_plain ws) h in
    levels_match_cons level_matches w l (ws ++ rest) ls (no_hash w _ both.0)
    ∙ ap (λ b. level_matches w l && b) (along_plain ws rest ls both.1)

pub along_one : (w : List ℕ) (rest ls : List (List ℕ))
    → (bytes_eq w (codes "#") && (length rest == 0)) ≡ false
    → match_rest (w ∷ rest) ls ≡ goes_along (w ∷ []) (match_rest rest) ls
along_one w rest [] h = levels_match_end level_matches w rest h
along_one w rest (l ∷ ls) h = levels_match_cons level_matches w l rest ls h

-- ---- each level of a filter makes some
some_made : (pattern : Bool) (client user w : List ℕ) → 0 < length (made pattern client user w)
some_made false client user w = omega arith
some_made true client user w = levels-nonempty (filled client user w)

pub none_left : (pattern : Bool) (client user : List ℕ) (ws : List (List ℕ))
    → (length (made_levels pattern client user ws) == 0) ≡ (length ws == 0)
none_left pattern client user [] = refl
none_left pattern client user (w ∷ ws) =
    by (made pattern client user w) (some_made pattern client user w)
    ∙ sym (eqb-suc-zero (length ws))
  where
    by : (vs : List (List ℕ)) → 0 < length vs
        → (length (vs ++ made_levels pattern client user ws) == 0) ≡ false
    by [] h = absurd (omega arith)
    by (v ∷ vs) h = eqb-suc-zero (length (vs ++ made_levels pattern client user ws))

user_is_plain : (user : Option (List ℕ)) → mark_plain user ≡ true
    → are_plain (levels (unwrap_or user [])) ≡ true
user_is_plain None h = refl
user_is_plain (Some u) h = plain_levels u h

-- a name goes along what a level makes, and then what is left does
pub along_made : (shape : ClientShape) (pattern : Bool) (values : ℕ → List ℕ)
    (client : List ℕ) (user : Option (List ℕ)) (w : List ℕ) (ws ls : List (List ℕ))
    → IsMadeOf shape pattern values client user w
    → (bytes_eq w (codes "#") && (length ws == 0)) ≡ false
    → match_rest (made_levels pattern client (unwrap_or user []) (w ∷ ws)) ls
    ≡ goes_along (made pattern client (unwrap_or user []) w)
    (match_rest (made_levels pattern client (unwrap_or user []) ws)) ls
along_made shape pattern values client user w ws ls is h =
    at_client (pattern && bytes_eq w (codes "%c")) refl
  where
    name : List ℕ
    name = unwrap_or user []

    rest : List (List ℕ)
    rest = made_levels pattern client name ws

    plainly : are_plain (made pattern client name w) ≡ true
        → match_rest (made pattern client name w ++ rest) ls
        ≡ goes_along (made pattern client name w) (match_rest rest) ls
    plainly p = along_plain (made pattern client name w) rest ls p

    client_is : (p : Bool) → p ≡ pattern → (p && bytes_eq w (codes "%c")) ≡ true
        → are_plain (made p client name w) ≡ true
    client_is false e c = absurd (let k : false ≡ true = c in cc)
    client_is true e c = ap are_plain (client_made client name w c)
        ∙ plain_levels client (is.client_plain (sym e))

    user_is : (p : Bool) → p ≡ pattern → (p && bytes_eq w (codes "%u")) ≡ true
        → are_plain (made p client name w) ≡ true
    user_is false e u = absurd (let k : false ≡ true = u in cc)
    user_is true e u = ap are_plain (user_made client name w u)
        ∙ user_is_plain user (is.user_plain (sym e))

    one : made pattern client name w ≡ w ∷ []
        → match_rest (made pattern client name w ++ rest) ls
        ≡ goes_along (made pattern client name w) (match_rest rest) ls
    one e = ap (λ vs. match_rest (vs ++ rest) ls) e
        ∙ along_one w rest ls (ap (λ b. bytes_eq w (codes "#") && b)
        (none_left pattern client name ws) ∙ h)
        ∙ ap (λ vs. goes_along vs (match_rest rest) ls) (sym e)

    at_user : (pattern && bytes_eq w (codes "%c")) ≡ false → (b : Bool)
        → (pattern && bytes_eq w (codes "%u")) ≡ b
        → match_rest (made pattern client name w ++ rest) ls
        ≡ goes_along (made pattern client name w) (match_rest rest) ls
    at_user c true u = plainly (user_is pattern refl u)
    at_user c false u = one (plain_made shape pattern values client user w is c u)

    at_client : (b : Bool) → (pattern && bytes_eq w (codes "%c")) ≡ b
        → match_rest (made pattern client name w ++ rest) ls
        ≡ goes_along (made pattern client name w) (match_rest rest) ls
    at_client true c = plainly (client_is pattern refl c)
    at_client false c = at_user c (pattern && bytes_eq w (codes "%u")) refl

-- ---- a level of a filter has no `/`
abbrev pub all_lack : List (List ℕ) → Bool
all_lack ls = list_all (λ l. not (contains_byte 47 l)) ls

pub single : (l : List ℕ) → not (contains_byte 47 l) ≡ true → levels l ≡ l ∷ []
single [] h = refl
single (x ∷ xs) h = grind (arith, single xs, or_parts, not-true)

slash_onto : (x : ℕ) (ls : List (List ℕ)) → is_slash x ≡ false → all_lack ls ≡ true
    → all_lack (onto_first x ls) ≡ true
slash_onto x [] n h = rw n refl
slash_onto x (l ∷ ls) n h = rw n h

pub levels_lack : (text : List ℕ) → all_lack (levels text) ≡ true
levels_lack [] = refl
levels_lack (x ∷ xs) = grind (arith, levels_lack xs, slash_onto)

-- ---- the terms so far
pub record IsTermsOf (shape : ClientShape) (pattern : Bool) (all left : List (List ℕ))
    (terms : List Term) : Type 0 where
  pub goes : (values : ℕ → List ℕ) (client : List ℕ) (user : Option (List ℕ))
      (ls : List (List ℕ)) → IsMade shape pattern values client user all
      → IsMade shape pattern values client user left × (goes_by values terms
      (match_rest (made_levels pattern client (unwrap_or user []) left)) ls
      ≡ match_rest (made_levels pattern client (unwrap_or user []) all) ls)
  pub lack : all_lack left ≡ true
  pub unlike : (test : List ℕ → Bool) → fits test all ≡ true → user_fits test shape.user ≡ true
      → (fits test left ≡ true) × (terms_fit test terms ≡ true)

pub terms_start : (shape : ClientShape) (pattern : Bool) (text : List ℕ) (terms : List Term)
    → terms ≡ [] → IsTermsOf shape pattern (levels text) (levels text) terms
terms_start shape pattern text (x ∷ xs) e = absurd (let k : x ∷ xs ≡ [] = e in cc)
terms_start shape pattern text [] e = record {
  goes = λ values client user ls is. (is, refl);
  lack = levels_lack text;
  unlike = λ test u v. (u, refl);
}

pub first_made : (shape : ClientShape) (pattern : Bool) (values : ℕ → List ℕ) (client : List ℕ)
    (user : Option (List ℕ)) (w : List ℕ) (ws : List (List ℕ)) → all_lack (w ∷ ws) ≡ true
    → IsMade shape pattern values client user (w ∷ ws)
    → IsMadeOf shape pattern values client user w × IsMade shape pattern values client user ws
first_made shape pattern values client user w ws lack is = (
  record {
    shaped = is.shaped;
    client_plain = is.client_plain;
    user_plain = is.user_plain;
    user_there = λ p n. not-true _ (and_parts (not (bytes_eq w (codes "%u")))
        (list_all (λ l. not (bytes_eq l (codes "%u"))) ws) (is.user_there p n)).0;
    whole = λ p. (and_parts (is_pattern_level w) (list_all is_pattern_level ws) (is.whole p)).0;
    single = single w (and_parts (not (contains_byte 47 w)) (all_lack ws) lack).0;
  },
  record {
    shaped = is.shaped;
    client_plain = is.client_plain;
    user_plain = is.user_plain;
    user_there = λ p n. (and_parts (not (bytes_eq w (codes "%u")))
        (list_all (λ l. not (bytes_eq l (codes "%u"))) ws) (is.user_there p n)).1;
    whole = λ p. (and_parts (is_pattern_level w) (list_all is_pattern_level ws) (is.whole p)).1;
  },
)

-- where it is no last `#`
no_last : (p t : Bool) {b : Bool} → b ≡ false → (p || b || t) ≡ (p || t)
no_last true t h = refl
no_last false t h = ap (λ c. c || t) h

-- one more level
pub terms_more : (shape : ClientShape) (pattern : Bool) (all left ws : List (List ℕ)) (w : List ℕ)
    (terms more : List Term) → left ≡ w ∷ ws
    → (bytes_eq w (codes "#") && (length ws == 0)) ≡ false
    → ((values : ℕ → List ℕ) (client : List ℕ) (user : Option (List ℕ))
    (behind : List (List ℕ) → Bool) (ls : List (List ℕ))
    → IsMadeOf shape pattern values client user w
    → goes_by values more behind ls ≡ goes_by values terms
    (goes_along (made pattern client (unwrap_or user []) w) behind) ls)
    → ((test : List ℕ → Bool) → (bytes_eq w (codes "+") || test w) ≡ true
    → user_fits test shape.user ≡ true
    → terms_fit test terms ≡ true → terms_fit test more ≡ true)
    → IsTermsOf shape pattern all left terms → IsTermsOf shape pattern all ws more
terms_more shape pattern all left ws w terms more e h goes unlike so_far = record {
  goes = λ values client user ls is.
      let now = so_far.goes values client user ls is in
      let both = first_made shape pattern values client user w ws (ap all_lack (sym e) ∙ so_far.lack)
      (subst (IsMade shape pattern values client user) e now.0) in
      let name = unwrap_or user [] in (
        both.1,
        goes values client user (match_rest (made_levels pattern client name ws)) ls both.0
            ∙ goes_alike values terms _ _
            (λ k. sym (along_made shape pattern values client user w ws k both.0 h)
            ∙ ap (λ l. match_rest (made_levels pattern client name l) k) (sym e)) ls
            ∙ now.1,
      );
  lack = (and_parts (not (contains_byte 47 w)) (all_lack ws)
      (ap all_lack (sym e) ∙ so_far.lack)).1;
  unlike = λ test u v.
      let now = so_far.unlike test u v in
      let both = and_parts
      (bytes_eq w (codes "+") || (bytes_eq w (codes "#") && (length ws == 0)) || test w)
      (fits test ws) (ap (fits test) (sym e) ∙ now.0) in (
        both.1,
        unlike test (sym (no_last (bytes_eq w (codes "+")) (test w) h) ∙ both.0) v now.1,
      );
}

-- nothing is left
pub terms_end : (shape : ClientShape) (pattern : Bool) (all left : List (List ℕ))
    (terms : List Term) → left ≡ [] → IsTermsOf shape pattern all left terms
    → (values : ℕ → List ℕ) (client : List ℕ) (user : Option (List ℕ)) (ls : List (List ℕ))
    → IsMade shape pattern values client user all
    → goes_by values terms (may_follow false) ls
    ≡ match_rest (made_levels pattern client (unwrap_or user []) all) ls
terms_end shape pattern all left terms e so_far values client user ls is =
    let now = so_far.goes values client user ls is in
    goes_alike values terms _ _
    (λ k. ended k ∙ ap (λ l. match_rest (made_levels pattern client (unwrap_or user []) l) k) (sym e)) ls
    ∙ now.1
  where
    ended : (k : List (List ℕ)) → may_follow false k ≡ match_rest [] k
    ended [] = refl
    ended (l ∷ k) = refl

-- a last `#` matches what is left
pub rest_hash : (pattern : Bool) (client user w : List ℕ) (ws k : List (List ℕ))
    → (bytes_eq w (codes "#") && (length ws == 0)) ≡ true
    → match_rest (made_levels pattern client user (w ∷ ws)) k ≡ true
rest_hash pattern client user w [] k h =
    ap (λ v. match_rest (made_levels pattern client user (v ∷ [])) k)
    (text_is w (codes "#") (sym (and-true (bytes_eq w (codes "#"))) ∙ h))
    ∙ any_rest pattern
  where
    any_rest : (p : Bool) → match_rest (made_levels p client user (codes "#" ∷ [])) k ≡ true
    any_rest true = refl
    any_rest false = refl
rest_hash pattern client user w (v ∷ ws) k h =
    absurd (let n : false ≡ true = sym (ap (λ b. bytes_eq w (codes "#") && b)
    (eqb-suc-zero (length ws)) ∙ and-false (bytes_eq w (codes "#"))) ∙ h in cc)

-- a `#` is
pub terms_hash : (shape : ClientShape) (pattern : Bool) (all left ws : List (List ℕ)) (w : List ℕ)
    (terms : List Term) → left ≡ w ∷ ws
    → (bytes_eq w (codes "#") && (length ws == 0)) ≡ true → IsTermsOf shape pattern all left terms
    → (values : ℕ → List ℕ) (client : List ℕ) (user : Option (List ℕ)) (ls : List (List ℕ))
    → IsMade shape pattern values client user all
    → goes_by values terms (may_follow true) ls
    ≡ match_rest (made_levels pattern client (unwrap_or user []) all) ls
terms_hash shape pattern all left ws w terms e h so_far values client user ls is =
    let now = so_far.goes values client user ls is in
    goes_alike values terms _ _
    (λ k. follows k ∙ sym (rest_hash pattern client (unwrap_or user []) w ws k h)
    ∙ ap (λ l. match_rest (made_levels pattern client (unwrap_or user []) l) k) (sym e)) ls
    ∙ now.1
  where
    follows : (k : List (List ℕ)) → may_follow true k ≡ true
    follows [] = refl
    follows (l ∷ k) = refl
