-- What filters match of two names that begin alike, and go on with a text in one place.
use Rattle.std.proofs.Common.{◌≡◌, ◌∙◌, ◌&&◌, ◌||◌, ◌==◌, ◌≤◌, ℕ, Bool, true, false, not, List, []}
use Rattle.std.proofs.Common.{◌∷◌, ◌++◌, ap, arith, bytes_eq, codes, length, if◌then◌else◌, refl, suc, sym}
use Rattle.std.specs.List.{list_any}
use Rattle.std.proofs.lemmas.Bool.{and_parts, not-true, or_parts}
use Rattle.std.proofs.lemmas.List.Folds.{list_any-append}
use Rattle.mq_topic.proofs.ByteLemmas.{text_is, text_itself}
use Rattle.mq_topic.specs.Matching.{is_wildcard, level_matches}
use Rattle.mq_cover.proofs.RemainderLemmas.{covers_cons, covers_hash}
use Rattle.mq_cover.specs.Names.{behind, fits_start, suits}
use Rattle.mq_cover.specs.declared.start.Start.{Start}
use Rattle.mq_cover.specs.declared.start.Start.TheVariants as starts
use Rattle.mq_unify.specs.Clients.{are_plain, goes_along}
use Rattle.mq_unify.proofs.FilterLemmas.{match_rest}

-- ---- names that begin alike
-- a filter of no more levels than both have in front doesn't tell them apart
pub same_front : (fs front : List (List ℕ)) (u v : List ℕ) (us vs : List (List ℕ))
    → length fs ≤ length front
    → match_rest fs (front ++ u ∷ us) ≡ match_rest fs (front ++ v ∷ vs)
same_front [] [] u v us vs h = refl
same_front [] (l ∷ front) u v us vs h = refl
same_front (f ∷ fs) [] u v us vs h = absurd (omega arith)
same_front (f ∷ fs) (l ∷ front) u v us vs h =
    by (same_front fs front u v us vs (omega (arith, h))) (bytes_eq f (codes "#") && (length fs == 0))
    refl
  where
    by : match_rest fs (front ++ u ∷ us) ≡ match_rest fs (front ++ v ∷ vs)
        → (b : Bool) → (bytes_eq f (codes "#") && (length fs == 0)) ≡ b
        → match_rest (f ∷ fs) (l ∷ front ++ u ∷ us) ≡ match_rest (f ∷ fs) (l ∷ front ++ v ∷ vs)
    by rest true e = covers_hash level_matches f fs (l ∷ front ++ u ∷ us) e
        ∙ sym (covers_hash level_matches f fs (l ∷ front ++ v ∷ vs) e)
    by rest false e = covers_cons level_matches f l fs (front ++ u ∷ us) e
        ∙ ap (λ b. level_matches f l && b) rest
        ∙ sym (covers_cons level_matches f l fs (front ++ v ∷ vs) e)

-- and both begin as they are to
pub same_suits : (start : Start) (l : List ℕ) (front : List (List ℕ)) (u v : List ℕ)
    (us vs : List (List ℕ))
    → suits start (l ∷ front ++ u ∷ us) ≡ suits start (l ∷ front ++ v ∷ vs)
same_suits start l front u v us vs =
    ap (λ b. fits_start start l && b) (by (behind start l) front (kinds start l))
  where
    IsLater : Start → Type 0
    IsLater starts.Slash = Unit {0}
    IsLater starts.Inside = Unit {0}
    IsLater start = ⊥

    kinds : (start : Start) (l : List ℕ) → IsLater (behind start l)
    kinds starts.Plain l = at (length l == 0)
      where
        at : (b : Bool) → IsLater (if b then starts.Slash else starts.Inside)
        at true = tt
        at false = tt
    kinds starts.Dollar l = tt
    kinds starts.Readable l = tt
    kinds starts.Writable l = tt
    kinds starts.Slash l = tt
    kinds starts.Inside l = tt

    inside : (ls : List (List ℕ)) → suits starts.Inside ls ≡ true
    inside [] = refl
    inside (l ∷ ls) = inside ls

    later : (start : Start) (x : List ℕ) (xs : List (List ℕ)) → IsLater start
        → suits start (x ∷ xs) ≡ true
    later starts.Slash x xs h = inside xs
    later starts.Inside x xs h = inside xs
    later starts.Plain x xs h = absurd h
    later starts.Dollar x xs h = absurd h
    later starts.Readable x xs h = absurd h
    later starts.Writable x xs h = absurd h

    by : (start : Start) (front : List (List ℕ)) → IsLater start
        → suits start (front ++ u ∷ us) ≡ suits start (front ++ v ∷ vs)
    by start [] h = later start u us h ∙ sym (later start v vs h)
    by start (x ∷ front) h =
        later start x (front ++ u ∷ us) h ∙ sym (later start x (front ++ v ∷ vs) h)

-- ---- a level that stands in one place
pub in_later : (f : List ℕ) (us vs : List (List ℕ)) → list_any (bytes_eq f) (us ++ f ∷ vs) ≡ true
in_later f us vs = list_any-append (bytes_eq f) us (f ∷ vs)
    ∙ ap (λ b. list_any (bytes_eq f) us || (b || list_any (bytes_eq f) vs)) (text_itself f)
    ∙ or_true (list_any (bytes_eq f) us)
  where
    or_true : (b : Bool) → (b || true) ≡ true
    or_true true = refl
    or_true false = refl

pub one_place : (f : List ℕ) (xs ys us vs : List (List ℕ)) → list_any (bytes_eq f) xs ≡ false
    → list_any (bytes_eq f) ys ≡ false → xs ++ f ∷ ys ≡ us ++ f ∷ vs → (xs ≡ us) × (ys ≡ vs)
one_place f [] ys [] vs x y e = (refl, (cc))
one_place f [] ys (u ∷ us) vs x y e =
    let tails : ys ≡ us ++ f ∷ vs = cc in
    absurd (let n : false ≡ true = sym y ∙ ap (list_any (bytes_eq f)) tails ∙ in_later f us vs in cc)
one_place f (l ∷ xs) ys [] vs x y e =
    let heads : l ≡ f = cc in
    absurd (let n : false ≡ true = sym (or_parts (bytes_eq f l) (list_any (bytes_eq f) xs) x).0
    ∙ ap (bytes_eq f) heads ∙ text_itself f in cc)
one_place f (l ∷ xs) ys (u ∷ us) vs x y e =
    let heads : l ≡ u = cc in
    let tails : xs ++ f ∷ ys ≡ us ++ f ∷ vs = cc in
    let rest = one_place f xs ys us vs (or_parts (bytes_eq f l) (list_any (bytes_eq f) xs) x).1 y
    tails in ((λ i. heads i ∷ rest.0 i), rest.1)

-- ---- names that go along levels
-- the front that these levels match, and what is behind it
pub record Cut (ws : List (List ℕ)) (behind : List (List ℕ) → Bool) (ls : List (List ℕ)) : Type 0
  where
    pub front : List (List ℕ)
    pub rest : List (List ℕ)
    pub is : ls ≡ front ++ rest
    pub long : length front ≡ length ws
    pub goes : behind rest ≡ true
    pub again : (other : List (List ℕ) → Bool) (ks : List (List ℕ))
        → goes_along ws other (front ++ ks) ≡ other ks

pub cut : (ws : List (List ℕ)) (behind : List (List ℕ) → Bool) (ls : List (List ℕ))
    → goes_along ws behind ls ≡ true → Cut ws behind ls
cut [] behind ls h = record {
  front = [];
  rest = ls;
  is = refl;
  long = refl;
  goes = h;
  again = λ other ks. refl;
}
cut (w ∷ ws) behind [] h = absurd (let n : false ≡ true = h in cc)
cut (w ∷ ws) behind (l ∷ ls) h =
    let both = and_parts (level_matches w l) (goes_along ws behind ls) h in
    let more = cut ws behind ls both.1 in
    record {
      front = l ∷ more.front;
      rest = more.rest;
      is = ap (λ k. l ∷ k) more.is;
      long = ap suc more.long;
      goes = more.goes;
      again = λ other ks.
          ap (λ b. b && goes_along ws other (more.front ++ ks)) both.0 ∙ more.again other ks;
    }

-- levels without wildcards go along themselves alone
pub own_along : (ws : List (List ℕ)) (behind : List (List ℕ) → Bool) (ls : List (List ℕ))
    → goes_along ws behind (ws ++ ls) ≡ behind ls
own_along [] behind ls = refl
own_along (w ∷ ws) behind ls =
    ap (λ b. (bytes_eq w (codes "+") || b) && goes_along ws behind (ws ++ ls)) (text_itself w)
    ∙ ap (λ b. b && goes_along ws behind (ws ++ ls)) (or_true (bytes_eq w (codes "+")))
    ∙ own_along ws behind ls
  where
    or_true : (b : Bool) → (b || true) ≡ true
    or_true true = refl
    or_true false = refl

pub record OwnCut (ws : List (List ℕ)) (behind : List (List ℕ) → Bool) (ls : List (List ℕ)) : Type 0
  where
    pub rest : List (List ℕ)
    pub is : ls ≡ ws ++ rest
    pub goes : behind rest ≡ true

pub own_cut : (ws : List (List ℕ)) (behind : List (List ℕ) → Bool) (ls : List (List ℕ))
    → are_plain ws ≡ true → goes_along ws behind ls ≡ true → OwnCut ws behind ls
own_cut [] behind ls p h = record { rest = ls; is = refl; goes = h }
own_cut (w ∷ ws) behind [] p h = absurd (let n : false ≡ true = h in cc)
own_cut (w ∷ ws) behind (l ∷ ls) p h =
    let plain = and_parts (not (is_wildcard w)) (are_plain ws) p in
    let both = and_parts (level_matches w l) (goes_along ws behind ls) h in
    let more = own_cut ws behind ls plain.1 both.1 in
    let wild = or_parts (bytes_eq w (codes "+")) (bytes_eq w (codes "#"))
    (not-true (is_wildcard w) plain.0) in
    let same = text_is w l (sym (ap (λ b. b || bytes_eq w l) wild.0) ∙ both.0) in
    record {
      rest = more.rest;
      is = (λ i. sym same i ∷ more.is i);
      goes = more.goes;
    }

pub goes-append : (ws vs : List (List ℕ)) (behind : List (List ℕ) → Bool) (ls : List (List ℕ))
    → goes_along (ws ++ vs) behind ls ≡ goes_along ws (goes_along vs behind) ls
goes-append [] vs behind ls = refl
goes-append (w ∷ ws) vs behind [] = refl
goes-append (w ∷ ws) vs behind (l ∷ ls) =
    ap (λ b. level_matches w l && b) (goes-append ws vs behind ls)
