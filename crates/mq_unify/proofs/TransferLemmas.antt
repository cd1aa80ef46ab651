-- What covers the topic of the most general client covers the one that it stands for.
use Rattle.std.proofs.Common.{◌≡◌, ◌==◌, ℕ, zero, suc, Bool, true, false, not, ◌&&◌, ◌||◌, List, [], ◌∷◌}
use Rattle.std.proofs.Common.{length, Option, Some, None, refl, ap, sym, ◌∙◌, subst, bytes_eq, codes}
use Rattle.std.specs.List.{list_all}
use Rattle.std.specs.Option.{unwrap_or}
use Rattle.std.proofs.lemmas.Bool.{and_from, and_parts, not-true, or_parts, or_right}
use Rattle.mq_topic.proofs.ByteLemmas.{text_is, text_itself}
use Rattle.mq_topic.specs.Levels.{levels}
use Rattle.mq_topic.specs.Matching.{is_wildcard, level_matches}
use Rattle.mq_acl.proofs.FilledLemmas.{plain_levels}
use Rattle.mq_cover.specs.Remainders.{fits}
use Rattle.mq_unify.specs.Clients.{HasUser, IsMade, IsMadeOf, are_plain, goes_along, made}
use Rattle.mq_unify.specs.Clients.{made_levels, mark_plain, user_fits, values_from}
use Rattle.mq_unify.specs.Unlike.{is_unlike}
use Rattle.mq_unify.specs.declared.shape.ClientShape.{ClientShape}
use Rattle.mq_unify.specs.declared.shape.UserShape.{UserShape}
use Rattle.mq_unify.specs.declared.shape.UserShape.TheVariants.{Absent, Known, Levels}
use Rattle.mq_unify.proofs.FilterLemmas.{all_lack, along_made, first_made, match_rest, rest_hash}
use Rattle.mq_unify.proofs.GeneralLemmas.{AreFor, IsFor, IsGeneral}
use Rattle.mq_unify.proofs.MadeLemmas.{client_made, plain_made, user_made}

or_false : (p q : Bool) → (p || false || q) ≡ (p || q)
or_false true q = refl
or_false false q = refl

module _ (prefix : List ℕ) (g a : ℕ → List ℕ) (is : IsGeneral prefix g a) where
  -- a level of a filter for the one client, and that for the other
  abbrev Follows : List ℕ → List ℕ → Type 0
  Follows w v = (level of : List ℕ) → IsFor prefix g a level of → level_matches w level ≡ true
      → level_matches v of ≡ true

  abbrev AllFollow : List (List ℕ) → List (List ℕ) → Type 0
  AllFollow [] [] = Unit {0}
  AllFollow [] (v ∷ vs) = ⊥
  AllFollow (w ∷ ws) [] = ⊥
  AllFollow (w ∷ ws) (v ∷ vs) = Follows w v × AllFollow ws vs

  -- a level that isn't a wildcard is matched by itself alone
  only_itself : (w level : List ℕ) → not (is_wildcard w) ≡ true → level_matches w level ≡ true
      → level ≡ w
  only_itself w level h m =
      let plus = (or_parts (bytes_eq w (codes "+")) (bytes_eq w (codes "#"))
      (not-true (is_wildcard w) h)).0 in
      sym (text_is w level (sym (ap (λ b. b || bytes_eq w level) plus) ∙ m))

  matches_itself : (w level : List ℕ) → level ≡ w → level_matches w level ≡ true
  matches_itself w level e = ap (level_matches w) e
      ∙ or_right (bytes_eq w (codes "+")) (bytes_eq w w) (text_itself w)

  value_follows : (i : ℕ) → not (is_wildcard (g i)) ≡ true → Follows (g i) (a i)
  value_follows i h level of for m =
      matches_itself (a i) of (for.variable i (only_itself (g i) level h m))

  values_follow : (first count : ℕ) → are_plain (values_from g first count) ≡ true
      → AllFollow (values_from g first count) (values_from a first count)
  values_follow first zero h = tt
  values_follow first (suc count) h =
      let both = and_parts (not (is_wildcard (g first)))
      (are_plain (values_from g (suc first) count)) h in
      (value_follows first both.0, values_follow (suc first) count both.1)

  -- a text that begins as no level that stands for others does
  text_follows : (t : List ℕ) → (bytes_eq t (codes "+") || is_unlike prefix t) ≡ true → Follows t t
  text_follows t u level of for m = by (bytes_eq t (codes "+")) refl u
    where
      by : (b : Bool) → bytes_eq t (codes "+") ≡ b → (b || is_unlike prefix t) ≡ true
          → level_matches t of ≡ true
      by true e h = ap (λ b. b || bytes_eq t of) e
      by false e h =
          let same = text_is t level (sym (ap (λ b. b || bytes_eq t level) e) ∙ m) in
          matches_itself t of (for.text t h (sym same))

  texts_follow : (ws : List (List ℕ)) → list_all (is_unlike prefix) ws ≡ true → AllFollow ws ws
  texts_follow [] h = tt
  texts_follow (w ∷ ws) h =
      let both = and_parts (is_unlike prefix w) (list_all (is_unlike prefix) ws) h in (
        text_follows w (or_right (bytes_eq w (codes "+")) (is_unlike prefix w) both.0),
        texts_follow ws both.1,
      )

  -- what goes along the ones goes along the others
  along_follows : (ws vs : List (List ℕ)) (b c : List (List ℕ) → Bool) (ls os : List (List ℕ))
      → AllFollow ws vs → AreFor prefix g a ls os
      → ((ms ns : List (List ℕ)) → AreFor prefix g a ms ns → b ms ≡ true → c ns ≡ true)
      → goes_along ws b ls ≡ true → goes_along vs c os ≡ true
  along_follows [] [] b c ls os all for rest h = rest ls os for h
  along_follows [] (v ∷ vs) b c ls os all for rest h = absurd all
  along_follows (w ∷ ws) [] b c ls os all for rest h = absurd all
  along_follows (w ∷ ws) (v ∷ vs) b c [] os all for rest h = absurd (let k : false ≡ true = h in cc)
  along_follows (w ∷ ws) (v ∷ vs) b c (l ∷ ls) [] all for rest h = absurd for
  along_follows (w ∷ ws) (v ∷ vs) b c (l ∷ ls) (o ∷ os) all for rest h =
      let both = and_parts (level_matches w l) (goes_along ws b ls) h in
      and_from (level_matches v o) (goes_along vs c os) (all.0 l o for.0 both.0)
      (along_follows ws vs b c ls os all.1 for.1 rest both.1)

  -- ---- what a level of a filter makes for both clients
  module _ (shape : ClientShape) (unlike : user_fits (is_unlike prefix) shape.user ≡ true) where
    user_follows : (shaped : UserShape) (first : ℕ) (m n : Option (List ℕ))
        → user_fits (is_unlike prefix) shaped ≡ true → HasUser g first shaped m
        → HasUser a first shaped n → mark_plain m ≡ true → (m ≡ None → ⊥)
        → AllFollow (levels (unwrap_or m [])) (levels (unwrap_or n []))
    user_follows Absent first m n u e f p some = absurd (some e)
    user_follows (Known name) first m n u e f p some =
        subst (λ (k : Option (List ℕ)). AllFollow (levels (unwrap_or k [])) (levels (unwrap_or n [])))
        (sym e)
        (subst (λ (k : Option (List ℕ)). AllFollow (levels name.now) (levels (unwrap_or k [])))
        (sym f) (texts_follow (levels name.now) u))
    user_follows (Levels count) first None n u e f p some = absurd e
    user_follows (Levels count) first (Some m) None u e f p some = absurd f
    user_follows (Levels count) first (Some m) (Some n) u e f p some =
        subst (λ ls. AllFollow ls (levels n)) (sym e)
        (subst (λ ls. AllFollow (values_from g first count) ls) (sym f)
        (values_follow first count (ap are_plain (sym e) ∙ plain_levels m p)))

    made_follows : (pattern : Bool) (cg ca : List ℕ) (ug ua : Option (List ℕ)) (w : List ℕ)
        → IsMadeOf shape pattern g cg ug w → IsMadeOf shape pattern a ca ua w
        → (bytes_eq w (codes "+") || is_unlike prefix w) ≡ true
        → AllFollow (made pattern cg (unwrap_or ug []) w) (made pattern ca (unwrap_or ua []) w)
    made_follows pattern cg ca ug ua w gs is_a fit =
        at_client (pattern && bytes_eq w (codes "%c")) refl
      where
        both : (xs ys vs us : List (List ℕ)) → xs ≡ vs → ys ≡ us → AllFollow vs us
            → AllFollow xs ys
        both xs ys vs us e f all =
            subst (λ l. AllFollow l ys) (sym e) (subst (AllFollow vs) (sym f) all)

        client_is : (p : Bool) → p ≡ pattern → (p && bytes_eq w (codes "%c")) ≡ true
            → AllFollow (made p cg (unwrap_or ug []) w) (made p ca (unwrap_or ua []) w)
        client_is false e c = absurd (let k : false ≡ true = c in cc)
        client_is true e c = both _ _ (values_from g 0 shape.levels) (values_from a 0 shape.levels)
            (client_made cg (unwrap_or ug []) w c ∙ gs.shaped.client_is)
            (client_made ca (unwrap_or ua []) w c ∙ is_a.shaped.client_is)
            (values_follow 0 shape.levels (ap are_plain (sym gs.shaped.client_is)
            ∙ plain_levels cg (gs.client_plain (sym e))))

        user_is : (p : Bool) → p ≡ pattern → (p && bytes_eq w (codes "%u")) ≡ true
            → AllFollow (made p cg (unwrap_or ug []) w) (made p ca (unwrap_or ua []) w)
        user_is false e u = absurd (let k : false ≡ true = u in cc)
        user_is true e u = both _ _ (levels (unwrap_or ug [])) (levels (unwrap_or ua []))
            (user_made cg (unwrap_or ug []) w u) (user_made ca (unwrap_or ua []) w u)
            (user_follows shape.user shape.levels ug ua unlike gs.shaped.user_is is_a.shaped.user_is
            (gs.user_plain (sym e))
            (λ n. let k : false ≡ true = sym (gs.user_there (sym e) n) ∙ u in cc))

        at_user : (pattern && bytes_eq w (codes "%c")) ≡ false → (b : Bool)
            → (pattern && bytes_eq w (codes "%u")) ≡ b
            → AllFollow (made pattern cg (unwrap_or ug []) w) (made pattern ca (unwrap_or ua []) w)
        at_user c true u = user_is pattern refl u
        at_user c false u = both _ _ (w ∷ []) (w ∷ [])
            (plain_made shape pattern g cg ug w gs c u) (plain_made shape pattern a ca ua w is_a c u)
            (text_follows w fit, tt)

        at_client : (b : Bool) → (pattern && bytes_eq w (codes "%c")) ≡ b
            → AllFollow (made pattern cg (unwrap_or ug []) w) (made pattern ca (unwrap_or ua []) w)
        at_client true c = client_is pattern refl c
        at_client false c = at_user c (pattern && bytes_eq w (codes "%u")) refl

    -- what the filter for the general client matches, that for the other does
    pub rest_follows : (pattern : Bool) (cg ca : List ℕ) (ug ua : Option (List ℕ))
        (ws ls os : List (List ℕ)) → IsMade shape pattern g cg ug ws
        → IsMade shape pattern a ca ua ws → all_lack ws ≡ true → fits (is_unlike prefix) ws ≡ true
        → AreFor prefix g a ls os
        → match_rest (made_levels pattern cg (unwrap_or ug []) ws) ls ≡ true
        → match_rest (made_levels pattern ca (unwrap_or ua []) ws) os ≡ true
    rest_follows pattern cg ca ug ua [] [] [] gs is_a lack fit for h = h
    rest_follows pattern cg ca ug ua [] [] (o ∷ os) gs is_a lack fit for h = absurd for
    rest_follows pattern cg ca ug ua [] (l ∷ ls) os gs is_a lack fit for h =
        absurd (let k : false ≡ true = h in cc)
    rest_follows pattern cg ca ug ua (w ∷ ws) ls os gs is_a lack fit for h =
        at_hash (bytes_eq w (codes "#") && (length ws == 0)) refl
        (λ ms ns mg ma lacks rest f k.
        rest_follows pattern cg ca ug ua ws ms ns mg ma lacks rest f k)
      where
        at_hash : (b : Bool) → (bytes_eq w (codes "#") && (length ws == 0)) ≡ b
            → ((ms ns : List (List ℕ)) → IsMade shape pattern g cg ug ws
            → IsMade shape pattern a ca ua ws → all_lack ws ≡ true
            → fits (is_unlike prefix) ws ≡ true → AreFor prefix g a ms ns
            → match_rest (made_levels pattern cg (unwrap_or ug []) ws) ms ≡ true
            → match_rest (made_levels pattern ca (unwrap_or ua []) ws) ns ≡ true)
            → match_rest (made_levels pattern ca (unwrap_or ua []) (w ∷ ws)) os ≡ true
        at_hash true e behind = rest_hash pattern ca (unwrap_or ua []) w ws os e
        at_hash false e behind =
            let mg = first_made shape pattern g cg ug w ws lack gs in
            let ma = first_made shape pattern a ca ua w ws lack is_a in
            let fit_parts = and_parts
            (bytes_eq w (codes "+") || (bytes_eq w (codes "#") && (length ws == 0))
            || is_unlike prefix w) (fits (is_unlike prefix) ws) fit in
            let level : (bytes_eq w (codes "+") || is_unlike prefix w) ≡ true =
            sym (ap (λ c. bytes_eq w (codes "+") || c || is_unlike prefix w) e
            ∙ or_false (bytes_eq w (codes "+")) (is_unlike prefix w)) ∙ fit_parts.0 in
            let lacks = (and_parts _ (all_lack ws) lack).1 in
            along_made shape pattern a ca ua w ws os ma.0 e
            ∙ along_follows (made pattern cg (unwrap_or ug []) w) (made pattern ca (unwrap_or ua []) w)
            (match_rest (made_levels pattern cg (unwrap_or ug []) ws))
            (match_rest (made_levels pattern ca (unwrap_or ua []) ws)) ls os
            (made_follows pattern cg ca ug ua w mg.0 ma.0 level) for
            (λ ms ns f k. behind ms ns mg.1 ma.1 lacks fit_parts.1 f k)
            (sym (along_made shape pattern g cg ug w ws ls mg.0 e) ∙ h)
