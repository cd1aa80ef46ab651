-- The topic of the most general client.
use Rattle.std.proofs.Common.{◌≡◌, ℕ, Bool, true, false, List, [], ◌∷◌, length}
use Rattle.std.proofs.Common.{◌⊎◌, inl, inr, suc, Option, Some, None, refl, ap, sym, ◌∙◌, subst, bytes_eq, map}
use Rattle.std.specs.List.{list_all}
use Rattle.std.specs.Option.{unwrap_or}
use Rattle.std.proofs.lemmas.Bool.{and_parts, and_from}
use Rattle.mq_topic.proofs.ByteLemmas.{text_is, text_itself}
use Rattle.mq_unify.specs.Unlike.{is_unlike}
use Rattle.mq_unify.specs.Terms.{Shape, agree, all_agree, are_equal, terms_fit, goes_by, is_text}
use Rattle.mq_unify.specs.Terms.{term_fits, matched, may_follow, passes, term_text}
use Rattle.mq_unify.specs.declared.term.Term.{Term}
use Rattle.mq_unify.specs.declared.term.Term.TheVariants.{Any, Text, Variable}

-- the first level that a filter stands for, if it stands for one
abbrev pub head_text : (ℕ → List ℕ) → List Term → Option (List ℕ)
head_text values [] = None
head_text values (term ∷ terms) = term_text values term

abbrev pub behind_first : List Term → List Term
behind_first [] = []
behind_first (term ∷ terms) = terms

abbrev pub left_of : Shape → Shape
left_of shape = record { fixed = behind_first shape.fixed; has_rest = shape.has_rest }

-- the level that the first of these filters demands; if none does, that one
abbrev pub demanded : (ℕ → List ℕ) → List ℕ → List Shape → List ℕ
demanded values other [] = other
demanded values other (shape ∷ shapes) =
    unwrap_or (head_text values shape.fixed) (demanded values other shapes)

-- a name of as many levels, each as it is demanded
abbrev pub general : (ℕ → List ℕ) → List ℕ → List Shape → List (List ℕ) → List (List ℕ)
general values other shapes [] = []
general values other shapes (level ∷ levels) =
    demanded values other shapes ∷ general values other (map left_of shapes) levels

pub length-general : (values : ℕ → List ℕ) (other : List ℕ) (shapes : List Shape)
    (levels : List (List ℕ)) → length (general values other shapes levels) ≡ length levels
length-general values other shapes [] = refl
length-general values other shapes (l ∷ ls) =
    ap (λ n. suc n) (length-general values other (map left_of shapes) ls)

-- ---- what a general level stands for

-- where the general client has this level, another has that one
pub record IsFor (prefix : List ℕ) (g a : ℕ → List ℕ) (level of : List ℕ) : Type 0 where
  pub text : (t : List ℕ) → is_unlike prefix t ≡ true → level ≡ t → of ≡ t
  pub variable : (i : ℕ) → level ≡ g i → of ≡ a i

abbrev pub AreFor : List ℕ → (g a : ℕ → List ℕ) → (levels of : List (List ℕ)) → Type 0
AreFor prefix g a [] [] = Unit {0}
AreFor prefix g a [] (o ∷ os) = ⊥
AreFor prefix g a (l ∷ ls) [] = ⊥
AreFor prefix g a (l ∷ ls) (o ∷ os) = IsFor prefix g a l o × AreFor prefix g a ls os

-- levels that the general client has in common, or that begin otherwise than those that stand for others, are so of each
pub record IsGeneral (prefix : List ℕ) (g a : ℕ → List ℕ) : Type 0 where
  pub same : (i j : ℕ) → g i ≡ g j → a i ≡ a j
  pub known : (i : ℕ) (t : List ℕ) → is_unlike prefix t ≡ true → g i ≡ t → a i ≡ t
  pub apart : (i : ℕ) → g i ≡ prefix → ⊥
  pub unlike : is_unlike prefix prefix ≡ false

module _ (prefix : List ℕ) (g a : ℕ → List ℕ) (is : IsGeneral prefix g a) where
  variable_for : (i : ℕ) → IsFor prefix g a (g i) (a i)
  variable_for i = record {
    text = λ t unlike e. is.known i t unlike e;
    variable = λ j e. is.same i j e;
  }

  text_for : (t : List ℕ) → is_unlike prefix t ≡ true → IsFor prefix g a t t
  text_for t unlike = record {
    text = λ u v e. e;
    variable = λ j e. sym (is.known j t unlike (sym e));
  }

  other_for : (level : List ℕ) → IsFor prefix g a prefix level
  other_for level = record {
    text = λ t unlike e. absurd (let k : false ≡ true = sym is.unlike ∙ ap (is_unlike prefix) e ∙ unlike in cc);
    variable = λ j e. absurd (is.apart j (sym e));
  }

  -- a term that the general level passes is passed by the one that it stands for
  term_passes : (term : Term) (level of : List ℕ) → term_fits (is_unlike prefix) term ≡ true
      → IsFor prefix g a level of → passes g term level ≡ true → passes a term of ≡ true
  term_passes Any level of unlike for h = refl
  term_passes (Text t) level of unlike for h =
      let e = text_is t.now level h in
      ap (λ l. bytes_eq t.now l) (for.text t.now unlike (sym e)) ∙ text_itself t.now
  term_passes (Variable i) level of unlike for h =
      let e = text_is (g i) level h in
      ap (λ l. bytes_eq (a i) l) (for.variable i (sym e)) ∙ text_itself (a i)

  -- what the general name is matched by, each that it stands for is
  pub stays_matched : (terms : List Term) (rest : Bool) (levels of : List (List ℕ))
      → terms_fit (is_unlike prefix) terms ≡ true → AreFor prefix g a levels of
      → goes_by g terms (may_follow rest) levels ≡ true
      → goes_by a terms (may_follow rest) of ≡ true
  stays_matched [] rest [] [] unlike for h = h
  stays_matched [] rest [] (o ∷ os) unlike for h = absurd for
  stays_matched [] rest (l ∷ ls) [] unlike for h = absurd for
  stays_matched [] rest (l ∷ ls) (o ∷ os) unlike for h = h
  stays_matched (x ∷ xs) rest [] of unlike for h = absurd (let k : false ≡ true = h in cc)
  stays_matched (x ∷ xs) rest (l ∷ ls) [] unlike for h = absurd for
  stays_matched (x ∷ xs) rest (l ∷ ls) (o ∷ os) unlike for h =
      let both = and_parts (passes g x l) (goes_by g xs (may_follow rest) ls) h in
      let fit = and_parts (term_fits (is_unlike prefix) x) (terms_fit (is_unlike prefix) xs) unlike in
      and_from (passes a x o) (goes_by a xs (may_follow rest) os)
      (term_passes x l o fit.0 for.0 both.0)
      (stays_matched xs rest ls os fit.1 for.1 both.1)

  -- ---- the name that is made of what filters demand
  left_matched : (level : List ℕ) (levels : List (List ℕ)) (terms : List Term) (rest : Bool)
      → goes_by a terms (may_follow rest) (level ∷ levels) ≡ true
      → goes_by a (behind_first terms) (may_follow rest) levels ≡ true
  left_matched l [] [] rest h = refl
  left_matched l (k ∷ ls) [] rest h = h
  left_matched l ls (x ∷ xs) rest h =
      (and_parts (passes a x l) (goes_by a xs (may_follow rest) ls) h).1

  all_left_matched : (level : List ℕ) (levels : List (List ℕ)) (shapes : List Shape)
      → list_all (matched a (level ∷ levels)) shapes ≡ true
      → list_all (matched a levels) (map left_of shapes) ≡ true
  all_left_matched l ls [] h = refl
  all_left_matched l ls (s ∷ ss) h =
      let both = and_parts (matched a (l ∷ ls) s) (list_all (matched a (l ∷ ls)) ss) h in
      and_from (matched a ls (left_of s)) (list_all (matched a ls) (map left_of ss))
      (left_matched l ls s.fixed s.has_rest both.0) (all_left_matched l ls ss both.1)

  left_unlike : (terms : List Term) → terms_fit (is_unlike prefix) terms ≡ true
      → terms_fit (is_unlike prefix) (behind_first terms) ≡ true
  left_unlike [] h = refl
  left_unlike (x ∷ xs) h = (and_parts (term_fits (is_unlike prefix) x) (terms_fit (is_unlike prefix) xs) h).1

  all_left_unlike : (shapes : List Shape)
      → list_all (λ s. terms_fit (is_unlike prefix) s.fixed) shapes ≡ true
      → list_all (λ s. terms_fit (is_unlike prefix) s.fixed) (map left_of shapes) ≡ true
  all_left_unlike [] h = refl
  all_left_unlike (s ∷ ss) h =
      let both = and_parts (terms_fit (is_unlike prefix) s.fixed)
      (list_all (λ s. terms_fit (is_unlike prefix) s.fixed) ss) h in
      and_from (terms_fit (is_unlike prefix) (left_of s).fixed)
      (list_all (λ s. terms_fit (is_unlike prefix) s.fixed) (map left_of ss))
      (left_unlike s.fixed both.0) (all_left_unlike ss both.1)

  demanded_for : (level : List ℕ) (levels : List (List ℕ)) (shapes : List Shape)
      → list_all (λ s. terms_fit (is_unlike prefix) s.fixed) shapes ≡ true
      → list_all (matched a (level ∷ levels)) shapes ≡ true
      → IsFor prefix g a (demanded g prefix shapes) level
  demanded_for l ls [] u h = other_for l
  demanded_for l ls (s ∷ ss) u h =
      let fit = and_parts (terms_fit (is_unlike prefix) s.fixed)
      (list_all (λ s. terms_fit (is_unlike prefix) s.fixed) ss) u in
      let both = and_parts (matched a (l ∷ ls) s) (list_all (matched a (l ∷ ls)) ss) h in
      by s.fixed fit.0 both.0 (demanded_for l ls ss fit.1 both.1)
    where
      by : (terms : List Term) → terms_fit (is_unlike prefix) terms ≡ true
          → goes_by a terms (may_follow s.has_rest) (l ∷ ls) ≡ true
          → IsFor prefix g a (demanded g prefix ss) l
          → IsFor prefix g a (unwrap_or (head_text g terms) (demanded g prefix ss)) l
      by [] fit pass others = others
      by (Any ∷ xs) fit pass others = others
      by (Text t ∷ xs) fit pass others =
          let e = text_is t.now l (and_parts _ (goes_by a xs (may_follow s.has_rest) ls) pass).0 in
          let unlike = (and_parts (is_unlike prefix t.now) (terms_fit (is_unlike prefix) xs) fit).0 in
          subst (IsFor prefix g a t.now) e (text_for t.now unlike)
      by (Variable i ∷ xs) fit pass others =
          let e = text_is (a i) l (and_parts _ (goes_by a xs (may_follow s.has_rest) ls) pass).0 in
          subst (IsFor prefix g a (g i)) e (variable_for i)

  pub general_for : (shapes : List Shape) (levels : List (List ℕ))
      → list_all (λ s. terms_fit (is_unlike prefix) s.fixed) shapes ≡ true
      → list_all (matched a levels) shapes ≡ true
      → AreFor prefix g a (general g prefix shapes levels) levels
  general_for ss [] u h = tt
  general_for ss (l ∷ ls) u h = (
    demanded_for l ls ss u h,
    general_for (map left_of ss) ls (all_left_unlike ss u) (all_left_matched l ls ss h),
  )

-- ---- the filters that all have to match
abbrev pub AllAgree : (ℕ → List ℕ) → List Term → List Shape → Type 0
AllAgree g terms shapes = list_all (λ s. all_agree g s.fixed terms) shapes ≡ true

abbrev pub IsIn : Shape → List Shape → Type 0
IsIn s [] = ⊥
IsIn s (q ∷ qs) = (s ≡ q) ⊎ IsIn s qs

left_in : (s : Shape) (shapes : List Shape) → IsIn s shapes → IsIn (left_of s) (map left_of shapes)
left_in s [] h = h
left_in s (q ∷ qs) (inl e) = inl (ap left_of e)
left_in s (q ∷ qs) (inr h) = inr (left_in s qs h)

module _ (g : ℕ → List ℕ) (other : List ℕ) where
  left_agree : (terms : List Term) (term : Term) (others : List Term)
      → all_agree g terms (term ∷ others) ≡ true → all_agree g (behind_first terms) others ≡ true
  left_agree [] x xs h = refl
  left_agree (y ∷ ys) x xs h = (and_parts (agree g y x) (all_agree g ys xs) h).1

  all_left_agree : (shapes : List Shape) (term : Term) (others : List Term)
      → AllAgree g (term ∷ others) shapes → AllAgree g others (map left_of shapes)
  all_left_agree [] x xs h = refl
  all_left_agree (q ∷ qs) x xs h =
      let both = and_parts (all_agree g q.fixed (x ∷ xs))
      (list_all (λ s. all_agree g s.fixed (x ∷ xs)) qs) h in
      and_from (all_agree g (left_of q).fixed xs)
      (list_all (λ s. all_agree g s.fixed xs) (map left_of qs))
      (left_agree q.fixed x xs both.0) (all_left_agree qs x xs both.1)

  -- what one of the filters demands is demanded
  demanded_is : (shapes : List Shape) (s : Shape) (x : Term) (xs : List Term) (t : List ℕ)
      → s.fixed ≡ x ∷ xs → IsIn s shapes → AllAgree g (x ∷ xs) shapes → term_text g x ≡ Some t
      → demanded g other shapes ≡ t
  demanded_is [] s x xs t e h all is = absurd h
  demanded_is (q ∷ qs) s x xs t e h all is =
      let both = and_parts (all_agree g q.fixed (x ∷ xs))
      (list_all (λ s. all_agree g s.fixed (x ∷ xs)) qs) all in
      by q.fixed refl both.0 h (λ k. demanded_is qs s x xs t e k both.1 is)
    where
      here : (m n : Option (List ℕ)) → m ≡ Some t → are_equal n m ≡ true
          → (n ≡ None → demanded g other qs ≡ t)
          → unwrap_or n (demanded g other qs) ≡ t
      here m None e f later = later refl
      here m (Some u) e f later = sym (text_is t u (sym (ap (are_equal (Some u)) e) ∙ f))

      by : (terms : List Term) → q.fixed ≡ terms → all_agree g terms (x ∷ xs) ≡ true
          → (s ≡ q) ⊎ IsIn s qs → (IsIn s qs → demanded g other qs ≡ t)
          → unwrap_or (head_text g terms) (demanded g other qs) ≡ t
      by [] f agrees (inl k) later =
          absurd (let n : [] ≡ x ∷ xs = sym f ∙ sym (ap (λ (r : Shape). r.fixed) k) ∙ e in cc)
      by [] f agrees (inr k) later = later k
      by (y ∷ ys) f agrees (inr k) later =
          here (term_text g x) (term_text g y) is
          (and_parts (agree g y x) (all_agree g ys xs) agrees).0 (λ n. later k)
      by (y ∷ ys) f agrees (inl k) later =
          let same : y ≡ x = let n : y ∷ ys ≡ x ∷ xs = sym f ∙ sym (ap (λ (r : Shape). r.fixed) k) ∙ e in cc in
          here (term_text g x) (term_text g y) is
          (and_parts (agree g y x) (all_agree g ys xs) agrees).0
          (λ n. absurd (let m : None ≡ Some t = sym n ∙ ap (term_text g) same ∙ is in cc))

  -- a filter that the name of another client matches is matched by the general one's
  pub wanted_matched : (a : ℕ → List ℕ) (shapes : List Shape) (s : Shape) (levels : List (List ℕ))
      → IsIn s shapes → AllAgree g s.fixed shapes → matched a levels s ≡ true
      → matched g (general g other shapes levels) s ≡ true
  wanted_matched a shapes s levels has all h = by shapes s.fixed levels has all h
    where
      passed : (m : Option (List ℕ)) (level : List ℕ)
          → ((t : List ℕ) → m ≡ Some t → level ≡ t) → is_text level m ≡ true
      passed None level f = refl
      passed (Some t) level f = ap (λ l. bytes_eq t l) (f t refl) ∙ text_itself t

      by : (shapes : List Shape) (terms : List Term) (ls : List (List ℕ))
          → IsIn (record { fixed = terms; has_rest = s.has_rest }) shapes
          → AllAgree g terms shapes → goes_by a terms (may_follow s.has_rest) ls ≡ true
          → goes_by g terms (may_follow s.has_rest) (general g other shapes ls) ≡ true
      by shapes [] [] has all h = h
      by shapes [] (l ∷ ls) has all h = h
      by shapes (x ∷ xs) [] has all h = h
      by shapes (x ∷ xs) (l ∷ ls) has all h =
          let both = and_parts (passes a x l) (goes_by a xs (may_follow s.has_rest) ls) h in
          and_from (passes g x (demanded g other shapes))
          (goes_by g xs (may_follow s.has_rest) (general g other (map left_of shapes) ls))
          (passed (term_text g x) (demanded g other shapes)
          (λ t e. demanded_is shapes _ x xs t refl has all e))
          (by (map left_of shapes) xs ls (left_in _ shapes has) (all_left_agree shapes x xs all)
          both.1)

-- ---- filters that match one name
-- agree about each level that both demand
pub matched_agree : (a : ℕ → List ℕ) (xs ys : List Term) (p q : Bool) (levels : List (List ℕ))
    → goes_by a xs (may_follow p) levels ≡ true → goes_by a ys (may_follow q) levels ≡ true
    → all_agree a xs ys ≡ true
matched_agree a [] ys p q ls h k = refl
matched_agree a (x ∷ xs) [] p q ls h k = refl
matched_agree a (x ∷ xs) (y ∷ ys) p q [] h k = absurd (let e : false ≡ true = h in cc)
matched_agree a (x ∷ xs) (y ∷ ys) p q (l ∷ ls) h k =
    let one = and_parts (passes a x l) (goes_by a xs (may_follow p) ls) h in
    let two = and_parts (passes a y l) (goes_by a ys (may_follow q) ls) k in
    and_from (agree a x y) (all_agree a xs ys)
    (level (term_text a x) (term_text a y) one.0 two.0)
    (matched_agree a xs ys p q ls one.1 two.1)
  where
    level : (m n : Option (List ℕ)) → is_text l m ≡ true → is_text l n ≡ true
        → are_equal m n ≡ true
    level None n e f = refl
    level (Some t) None e f = refl
    level (Some t) (Some u) e f =
        ap (λ v. bytes_eq v t) (text_is u l f ∙ sym (text_is t l e)) ∙ text_itself t
