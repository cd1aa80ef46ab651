-- The most general client stands for each other.
use Rattle.std.proofs.Common.{◌≡◌, inl, inr, ◌+◌, ◌<◌, ◌==◌, ℕ, zero, suc, Bool, true, false, not, ◌&&◌, ◌||◌}
use Rattle.std.proofs.Common.{List, [], ◌∷◌, ◌++◌, map, Option, Some, None, refl, ap, sym, ◌∙◌, subst, arith}
use Rattle.std.specs.List.{list_all}
use Rattle.std.specs.Option.{unwrap_or}
use Rattle.std.specs.Int.Digits.{digits_of}
use Rattle.std.proofs.lemmas.Bool.{and_from, and_parts, not-true, or_parts}
use Rattle.mq_topic.specs.Levels.{levels}
use Rattle.mq_topic.specs.Texts.{contains_byte, is_plain}
use Rattle.mq_acl.specs.Rows.{AclRow}
use Rattle.mq_acl.specs.RowsByOwner.{is_everyones}
use Rattle.mq_cover.specs.Names.{can_be_level}
use Rattle.mq_cover.specs.Remainders.{fits}
use Rattle.mq_unify.specs.Bindings.{Holds, IsNormal, bindings_fit, bound, general_text, level_fits}
use Rattle.mq_unify.specs.Bindings.{text_of}
use Rattle.mq_unify.specs.Clients.{HasShape, HasUser, user_fits, user_passes, user_values_fit}
use Rattle.mq_unify.specs.Clients.{values_from}
use Rattle.mq_unify.specs.General.{AreAlike, IsMostGeneral, IsSound, StandsFor, is_sound}
use Rattle.mq_unify.specs.Joined.{HasLevels, IsUserOf, join_levels, user_made}
use Rattle.mq_unify.specs.Lengths.{AreApart}
use Rattle.mq_unify.specs.Rows.{AllMade, all_matched, row_matches, rows_fit}
use Rattle.mq_unify.specs.Terms.{Shape, agree_all, agree_with, all_agree, all_fit, goes_by, matched}
use Rattle.mq_unify.specs.Terms.{may_follow, shape_of, term_fits, terms_fit}
use Rattle.mq_unify.specs.Unifying.{IsUnified}
use Rattle.mq_unify.specs.Unlike.{FreshPass, fresh_text, is_unlike}
use Rattle.mq_unify.specs.declared.binding.Binding.{Binding}
use Rattle.mq_unify.specs.declared.binding.Level.{Level}
use Rattle.mq_unify.specs.declared.binding.Level.TheVariants.{Free, Known}
use Rattle.mq_unify.specs.declared.shape.ClientShape.{ClientShape}
use Rattle.mq_unify.specs.declared.shape.UserShape.{UserShape}
use Rattle.mq_unify.specs.declared.shape.UserShape.TheVariants.{Absent, Known as Named, Levels}
use Rattle.mq_unify.specs.declared.term.Term.{Term}
use Rattle.mq_unify.specs.declared.term.Term.TheVariants.{Any, Text, Variable}
use Rattle.mq_unify.specs.declared.term.Terms.{Terms}
use Rattle.mq_unify.proofs.FilterLemmas.{all_lack, levels_lack}
use Rattle.mq_unify.proofs.GeneralLemmas.{AreFor, IsIn, behind_first, head_text}
use Rattle.mq_unify.proofs.GeneralLemmas.{demanded, general, general_for, left_of, matched_agree}
use Rattle.mq_unify.proofs.GeneralLemmas.{wanted_matched}
use Rattle.mq_unify.proofs.JoinLemmas.{levels_joined, length-values}
use Rattle.mq_unify.proofs.MostGeneral.{bound_fits, general_holds, most_general}
use Rattle.mq_unify.proofs.TransferLemmas.{rest_follows}
use Rattle.mq_unify.proofs.UnlikeLemmas.{figures}

-- ---- filters that match one name agree
module _ (values : ℕ → List ℕ) (ls : List (List ℕ)) where
  matched_with : (terms : List Term) (rest : Bool) (all : List Terms)
      → goes_by values terms (may_follow rest) ls ≡ true → all_matched values ls all ≡ true
      → agree_with values terms all ≡ true
  matched_with terms rest [] h k = refl
  matched_with terms rest (t ∷ ts) h k =
      let both = and_parts (matched values ls (shape_of t)) (all_matched values ls ts) k in
      and_from (all_agree values t.fixed.items terms) (agree_with values terms ts)
      (matched_agree values t.fixed.items terms t.has_rest rest ls both.0 h)
      (matched_with terms rest ts h both.1)

  pub matched_all : (some all : List Terms) → all_matched values ls some ≡ true
      → all_matched values ls all ≡ true → agree_all values some all ≡ true
  matched_all [] all h k = refl
  matched_all (t ∷ ts) all h k =
      let both = and_parts (matched values ls (shape_of t)) (all_matched values ls ts) h in
      and_from (agree_with values t.fixed.items all) (agree_all values ts all)
      (matched_with t.fixed.items t.has_rest all both.0 k) (matched_all ts all both.1 k)

-- ---- lists of terms, and of what is seen of them
list_all-map : {A B : Type 0} (f : A → B) (p : B → Bool) (xs : List A)
    → list_all p (map f xs) ≡ list_all (λ x. p (f x)) xs
list_all-map f p [] = refl
list_all-map f p (x ∷ xs) = ap (λ b. p (f x) && b) (list_all-map f p xs)

abbrev shapes_of : List Terms → List Shape
shapes_of terms = map shape_of terms

-- where all filters agree, the general name is matched by each
all_wanted : (g a : ℕ → List ℕ) (other : List ℕ) (ls : List (List ℕ)) (all some : List Terms)
    → ((t : Terms) → IsIn (shape_of t) (shapes_of some) → IsIn (shape_of t) (shapes_of all))
    → agree_all g some all ≡ true → all_matched a ls some ≡ true
    → all_matched g (general g other (shapes_of all) ls) some ≡ true
all_wanted g a other ls all [] sub agrees h = refl
all_wanted g a other ls all (t ∷ ts) sub agrees h =
    let both = and_parts (matched a ls (shape_of t)) (all_matched a ls ts) h in
    let agree = and_parts (agree_with g t.fixed.items all) (agree_all g ts all) agrees in
    and_from (matched g (general g other (shapes_of all) ls) (shape_of t))
    (all_matched g (general g other (shapes_of all) ls) ts)
    (wanted_matched g other a (shapes_of all) (shape_of t) ls (sub t (inl refl))
    (list_all-map shape_of (λ s. all_agree g s.fixed t.fixed.items) all ∙ agree.0) both.0)
    (all_wanted g a other ls all ts (λ u h. sub u (inr h)) agree.1 both.1)

-- a test that all levels that may be demanded pass
module _ (test : List ℕ → Bool) (g : ℕ → List ℕ) (other : List ℕ) (o : test other ≡ true)
    (v : (i : ℕ) → test (g i) ≡ true) where
  demanded_passes : (shapes : List Shape) → list_all (λ s. terms_fit test s.fixed) shapes ≡ true
      → test (demanded g other shapes) ≡ true
  demanded_passes [] h = o
  demanded_passes (s ∷ ss) h =
      let both = and_parts (terms_fit test s.fixed) (list_all (λ s. terms_fit test s.fixed) ss) h in
      by s.fixed both.0 (demanded_passes ss both.1)
    where
      by : (terms : List Term) → terms_fit test terms ≡ true → test (demanded g other ss) ≡ true
          → test (unwrap_or (head_text g terms) (demanded g other ss)) ≡ true
      by [] h others = others
      by (Any ∷ xs) h others = others
      by (Text t ∷ xs) h others = (and_parts (test t.now) (terms_fit test xs) h).0
      by (Variable i ∷ xs) h others = v i

  left_fit : (terms : List Term) → terms_fit test terms ≡ true
      → terms_fit test (behind_first terms) ≡ true
  left_fit [] h = refl
  left_fit (x ∷ xs) h = (and_parts (term_fits test x) (terms_fit test xs) h).1

  all_left_fit : (shapes : List Shape) → list_all (λ s. terms_fit test s.fixed) shapes ≡ true
      → list_all (λ s. terms_fit test s.fixed) (map left_of shapes) ≡ true
  all_left_fit [] h = refl
  all_left_fit (s ∷ ss) h =
      let both = and_parts (terms_fit test s.fixed) (list_all (λ s. terms_fit test s.fixed) ss) h in
      and_from (terms_fit test (behind_first s.fixed))
      (list_all (λ s. terms_fit test s.fixed) (map left_of ss))
      (left_fit s.fixed both.0) (all_left_fit ss both.1)

  general_passes : (shapes : List Shape) (ls : List (List ℕ))
      → list_all (λ s. terms_fit test s.fixed) shapes ≡ true
      → list_all test (general g other shapes ls) ≡ true
  general_passes shapes [] h = refl
  general_passes shapes (l ∷ ls) h =
      and_from (test (demanded g other shapes))
      (list_all test (general g other (map left_of shapes) ls))
      (demanded_passes shapes h) (general_passes (map left_of shapes) ls (all_left_fit shapes h))

-- what stands for a level is it, or begins with the prefix
alike_of : (prefix : List ℕ) (g a : ℕ → List ℕ) (topic ls : List (List ℕ))
    → AreFor prefix g a topic ls → AreAlike prefix topic ls
alike_of prefix g a [] [] for = tt
alike_of prefix g a [] (l ∷ ls) for = for
alike_of prefix g a (t ∷ ts) [] for = for
alike_of prefix g a (t ∷ ts) (l ∷ ls) for =
    (λ u. for.0.text t u refl, alike_of prefix g a ts ls for.1)

-- ---- the texts of the general client
figures_lack : (b : ℕ) → b < 48 → (ds : List ℕ) → contains_byte b (map (λ d. 48 + d) ds) ≡ false
figures_lack b h [] = refl
figures_lack b h (d ∷ ds) = grind (arith, figures_lack b h ds)

lack-append : (b : ℕ) (xs ys : List ℕ) → contains_byte b xs ≡ false → contains_byte b ys ≡ false
    → contains_byte b (xs ++ ys) ≡ false
lack-append b [] ys h k = k
lack-append b (x ∷ xs) ys h k =
    let both = or_parts (x == b) (contains_byte b xs) h in
    ap (λ t. t || contains_byte b (xs ++ ys)) both.0 ∙ lack-append b xs ys both.1 k

plain_parts : (l : List ℕ) → can_be_level l ≡ true → (contains_byte 43 l ≡ false)
    × (contains_byte 35 l ≡ false) × (contains_byte 0 l ≡ false) × (contains_byte 47 l ≡ false)
plain_parts l h =
    let slash = and_parts (is_plain l && not (contains_byte 0 l)) (not (contains_byte 47 l)) h in
    let nul = and_parts (is_plain l) (not (contains_byte 0 l)) slash.0 in
    let plain = and_parts (not (contains_byte 43 l)) (not (contains_byte 35 l)) nul.0 in
    (not-true _ plain.0, not-true _ plain.1, not-true _ nul.1, not-true _ slash.1)

level_lacking : (l : List ℕ) → contains_byte 43 l ≡ false → contains_byte 35 l ≡ false
    → contains_byte 0 l ≡ false → contains_byte 47 l ≡ false → can_be_level l ≡ true
level_lacking l p h n s =
    and_from (is_plain l && not (contains_byte 0 l)) (not (contains_byte 47 l))
    (and_from (is_plain l) (not (contains_byte 0 l))
    (and_from (not (contains_byte 43 l)) (not (contains_byte 35 l)) (ap not p) (ap not h))
    (ap not n)) (ap not s)

-- a text that no row names can be a level
pub fresh_level : (prefix : List ℕ) (n : ℕ) → can_be_level prefix ≡ true
    → can_be_level (fresh_text prefix n) ≡ true
fresh_level prefix n h =
    let parts = plain_parts prefix h in
    let figures_of = digits_of 10 (n + 1) in
    level_lacking (fresh_text prefix n)
    (lack-append 43 prefix (figures (n + 1)) parts.0 (figures_lack 43 (omega arith) figures_of))
    (lack-append 35 prefix (figures (n + 1)) parts.1 (figures_lack 35 (omega arith) figures_of))
    (lack-append 0 prefix (figures (n + 1)) parts.2 (figures_lack 0 (omega arith) figures_of))
    (lack-append 47 prefix (figures (n + 1)) parts.3 (figures_lack 47 (omega arith) figures_of))

module _ (prefix : List ℕ) (bs : List Binding) (p : can_be_level prefix ≡ true)
    (fit : bindings_fit (is_sound prefix) bs ≡ true) where
  -- each can be a level
  general_level : (i : ℕ) → can_be_level (general_text prefix bs i) ≡ true
  general_level i = by (bound bs (Free i)) (bound_fits (is_sound prefix) bs (Free i) fit refl)
    where
      by : (level : Level) → level_fits (is_sound prefix) level ≡ true
          → can_be_level (text_of (fresh_text prefix) level) ≡ true
      by (Free n) h = fresh_level prefix n p
      by (Known t) h = (and_parts (is_unlike prefix t.now) (can_be_level t.now) h).1

  values_lack : (first count : ℕ)
      → all_lack (values_from (general_text prefix bs) first count) ≡ true
  values_lack first zero = refl
  values_lack first (suc count) =
      and_from (not (contains_byte 47 (general_text prefix bs first)))
      (all_lack (values_from (general_text prefix bs) (suc first) count))
      (ap not (plain_parts (general_text prefix bs first) (general_level first)).3)
      (values_lack (suc first) count)

  values_joined : (first count : ℕ) → 0 < count
      → levels (join_levels (values_from (general_text prefix bs) first count))
      ≡ values_from (general_text prefix bs) first count
  values_joined first count h =
      let n = length-values (general_text prefix bs) first count in
      levels_joined (values_from (general_text prefix bs) first count) (omega (arith, n))
      (values_lack first count)

  has_user : (shape : UserShape) (first : ℕ) (user : Option (List ℕ)) → HasLevels shape
      → user ≡ user_made shape first (general_text prefix bs)
      → HasUser (general_text prefix bs) first shape user
  has_user Absent first user some e = e
  has_user (Named name) first user some e = e
  has_user (Levels count) first user some e =
      subst (HasUser (general_text prefix bs) first (Levels count)) (sym e)
      (values_joined first count some)

  -- it is one of these clients
  has_shape : (shape : ClientShape) (client : List ℕ) (user : Option (List ℕ)) → 0 < shape.levels
      → HasLevels shape.user
      → client ≡ join_levels (values_from (general_text prefix bs) 0 shape.levels)
      → IsUserOf shape (general_text prefix bs) user
      → HasShape shape (general_text prefix bs) client user
  has_shape shape client user some levels_some e f = record {
    client_is = ap levels e ∙ values_joined 0 shape.levels some;
    user_is = has_user shape.user shape.levels user levels_some f;
  }

-- ---- what the function answers
holds_first : (values : ℕ → List ℕ) (bs : List Binding) → bs ≡ [] → Holds values bs
holds_first values [] e = λ i. refl
holds_first values (b ∷ bs) e = absurd (let k : b ∷ bs ≡ [] = e in cc)

-- the terms of the rows
pub record AreTerms (shape : ClientShape) (must : List AclRow) (terms : List Terms) : Type 0 where
  pub matched : (values : ℕ → List ℕ) (client : List ℕ) (user : Option (List ℕ))
      (ls : List (List ℕ)) → AllMade shape values client user must
      → all_matched values ls terms ≡ list_all (row_matches client user ls) must
  pub unlike : (test : List ℕ → Bool) → rows_fit test must ≡ true
      → user_fits test shape.user ≡ true → all_fit test terms ≡ true

-- the same of the terms that are lent
pub lent_terms : (shape : ClientShape) (must : List AclRow) (terms lent : List Terms)
    → lent ≡ terms → AreTerms shape must terms → AreTerms shape must lent
lent_terms shape must terms lent e are = subst (AreTerms shape must) (sym e) are

-- where one demands more levels than another leaves, no name is matched by all rows
pub none_apart : (shape : ClientShape) (must : List AclRow) (terms : List Terms)
    → AreTerms shape must terms → AreApart terms terms
    → (values : ℕ → List ℕ) (client : List ℕ) (user : Option (List ℕ)) (ls : List (List ℕ))
    → AllMade shape values client user must
    → list_all (row_matches client user ls) must ≡ false
none_apart shape must terms are apart values client user ls made =
    sym (are.matched values client user ls made) ∙ by (all_matched values ls terms) refl
  where
    by : (b : Bool) → all_matched values ls terms ≡ b → all_matched values ls terms ≡ false
    by false e = e
    by true e = apart values ls e

module _ (shape : ClientShape) (must : List AclRow) (terms : List Terms)
    (are : AreTerms shape must terms) (first : List Binding) (none : first ≡ []) where
  -- where the terms can't agree, no name is matched by all rows
  pub no_general : ((values : ℕ → List ℕ) → Holds values first
      → agree_all values terms terms ≡ false)
      → (values : ℕ → List ℕ) (client : List ℕ) (user : Option (List ℕ)) (ls : List (List ℕ))
      → AllMade shape values client user must
      → list_all (row_matches client user ls) must ≡ false
  no_general apart values client user ls made =
      sym (are.matched values client user ls made) ∙ by (all_matched values ls terms) refl
    where
      by : (b : Bool) → all_matched values ls terms ≡ b → all_matched values ls terms ≡ false
      by false e = e
      by true e = absurd (let k : false ≡ true =
          sym (apart values (holds_first values first none))
          ∙ matched_all values ls terms terms e e in cc)

  module _ (prefix : List ℕ) (bs : List Binding) (normal : IsNormal bs)
      (unified : IsUnified first bs (λ values. agree_all values terms terms)
      (λ test. all_fit test terms && all_fit test terms))
      (sound : IsSound prefix shape must) where
    bound_sound : (test : List ℕ → Bool) → rows_fit test must ≡ true
        → user_fits test shape.user ≡ true → bindings_fit test bs ≡ true
    bound_sound test r u =
        let all = are.unlike test r u in
        unified.unlike test (and_from (all_fit test terms) (all_fit test terms) all all)
        (ap (bindings_fit test) none)

    unlike_rows : rows_fit (is_unlike prefix) must ≡ true
    unlike_rows = weaker must sound.rows_sound
      where
        levels_weaker : (ls : List (List ℕ)) → fits (is_sound prefix) ls ≡ true
            → fits (is_unlike prefix) ls ≡ true
        levels_weaker [] h = refl
        levels_weaker (l ∷ ls) h = grind (arith, levels_weaker ls)

        weaker : (rows : List AclRow) → rows_fit (is_sound prefix) rows ≡ true
            → rows_fit (is_unlike prefix) rows ≡ true
        weaker [] h = refl
        weaker (r ∷ rs) h =
            let both = and_parts (fits (is_sound prefix) (levels r.filter))
            (rows_fit (is_sound prefix) rs) h in
            and_from (fits (is_unlike prefix) (levels r.filter)) (rows_fit (is_unlike prefix) rs)
            (levels_weaker (levels r.filter) both.0) (weaker rs both.1)

    unlike_user : user_fits (is_unlike prefix) shape.user ≡ true
    unlike_user = by shape.user sound.user_sound
      where
        weaker : (ls : List (List ℕ)) → list_all (is_sound prefix) ls ≡ true
            → list_all (is_unlike prefix) ls ≡ true
        weaker [] h = refl
        weaker (l ∷ ls) h = grind (arith, weaker ls)

        by : (user : UserShape) → user_fits (is_sound prefix) user ≡ true
            → user_fits (is_unlike prefix) user ≡ true
        by Absent h = refl
        by (Named name) h = weaker (levels name.now) h
        by (Levels count) h = refl

    stands : (client : List ℕ) (user : Option (List ℕ)) (others : ℕ → List ℕ) (other : List ℕ)
        (other_user : Option (List ℕ)) (ls : List (List ℕ))
        → AllMade shape others other other_user must
        → AllMade shape (general_text prefix bs) client user must
        → list_all (row_matches other other_user ls) must ≡ true
        → StandsFor prefix shape must (general_text prefix bs) client user others other other_user
        ls
    stands client user others other other_user ls made_other made_general h =
        let m = are.matched others other other_user ls made_other ∙ h in
        let holds = (unified.forth others (holds_first others first none)
        (matched_all others ls terms terms m m)).0 in
        let is = most_general prefix bs others
        (bound_sound (is_unlike prefix) unlike_rows unlike_user) holds in
        let agrees =
        (unified.back (general_text prefix bs) (general_holds prefix bs normal) refl).1 in
        let topic = general (general_text prefix bs) prefix (shapes_of terms) ls in
        let for = general_for prefix (general_text prefix bs) others is (shapes_of terms) ls
        (list_all-map shape_of (λ s. terms_fit (is_unlike prefix) s.fixed) terms
        ∙ are.unlike (is_unlike prefix) unlike_rows unlike_user)
        (list_all-map shape_of (matched others ls) terms ∙ m) in
        record {
          topic = topic;
          matched = sym (are.matched (general_text prefix bs) client user topic made_general)
              ∙ all_wanted (general_text prefix bs) others prefix ls terms terms (λ t i. i) agrees
              m;
          follows = λ row mg mo fit k.
              rest_follows prefix (general_text prefix bs) others is shape unlike_user
              (is_everyones row.who) client other user other_user (levels row.filter) topic ls mg mo
              (levels_lack row.filter) fit for k;
          alike = alike_of prefix (general_text prefix bs) others topic ls for;
          known = λ i u. is.known i (general_text prefix bs i) u refl;
          pass = λ test o v r u. general_passes test (general_text prefix bs) prefix o v
              (shapes_of terms) ls
              (list_all-map shape_of (λ s. terms_fit test s.fixed) terms ∙ are.unlike test r u);
        }

    user_passing : (test : List ℕ → Bool) (values : ℕ → List ℕ) (first : ℕ) (of : UserShape)
        (user : Option (List ℕ)) → HasUser values first of user
        → user_values_fit test of values first ≡ true → user_passes test user ≡ true
    user_passing test values first Absent user has h = ap (user_passes test) has
    user_passing test values first (Named name) user has h = ap (user_passes test) has ∙ h
    user_passing test values first (Levels count) None has h = absurd has
    user_passing test values first (Levels count) (Some user) has h = ap (list_all test) has ∙ h

    pub is_most_general : (client : List ℕ) (user : Option (List ℕ))
        → (0 < shape.levels
        → client ≡ join_levels (values_from (general_text prefix bs) 0 shape.levels))
        → (HasLevels shape.user → IsUserOf shape (general_text prefix bs) user)
        → ((test : List ℕ → Bool) → FreshPass prefix test → bindings_fit test bs ≡ true
        → list_all test (values_from (general_text prefix bs) 0 shape.levels) ≡ true)
        → ((test : List ℕ → Bool) → FreshPass prefix test → bindings_fit test bs ≡ true
        → user_fits test shape.user ≡ true
        → user_values_fit test shape.user (general_text prefix bs) shape.levels ≡ true)
        → IsMostGeneral prefix shape must client user
    is_most_general client user e f client_pass user_pass =
        let fit = bound_sound (is_sound prefix) sound.rows_sound sound.user_sound in
        let shaped = has_shape prefix bs sound.prefix_is fit shape client user sound.client_some
        sound.user_some (e sound.client_some) (f sound.user_some) in
        record {
          values = general_text prefix bs;
          shaped = shaped;
          pass = λ test fresh r u. (
            ap (list_all test) shaped.client_is ∙ client_pass test fresh (bound_sound test r u),
            user_passing test (general_text prefix bs) shape.levels shape.user user shaped.user_is
                (user_pass test fresh (bound_sound test r u) u),
          );
          are_levels = general_level prefix bs sound.prefix_is fit;
          stands = stands client user;
        }
