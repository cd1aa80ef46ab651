-- A subscription text has its share name and its filter, and no other text has them.
use Rattle.std.proofs.Common.{◌≡◌, ◌<◌, ◌+◌, ℕ, true, false, not, cond, ◌&&◌, ◌||◌, List, ◌∷◌, ◌++◌}
use Rattle.std.proofs.Common.{length, take, drop, get_or, Option, Some, None, refl, ap, sym, ◌∙◌}
use Rattle.std.proofs.Common.{arith, length-drop, take-append-drop}
use Rattle.std.specs.Prelude.{codes, nat_lt}
use Rattle.std.specs.List.{before_first, after_first, position_or_len}
use Rattle.std.proofs.lemmas.List.Sums.{split_at_first, passes_at_first}
use Rattle.std.proofs.lemmas.Slice.Eq.{bytes_eq-Decides}
use Rattle.std.proofs.lemmas.Bool.{eqb-true, and_parts}
use Rattle.std.proofs.lemmas.Bool.Decides.{nat_tests}
use Rattle.mq_topic.specs.Levels.{is_slash}
use Rattle.mq_topic.specs.Texts.{is_text, is_plain, is_filter, is_shared, share_name, filter_part}
use Rattle.mq_topic.specs.Texts.{share_of, share_fits, is_subscription}

-- the text with these parts
abbrev rebuilt : Option (List ℕ) → List ℕ → List ℕ
rebuilt None filter = filter
rebuilt (Some share) filter = codes "$share/" ++ (share ++ (47 ∷ filter))

-- where something follows the first slash
cut_at_slash : (xs : List ℕ) → nat_lt 0 (length (after_first is_slash xs)) ≡ true
    → xs ≡ before_first is_slash xs ++ (47 ∷ after_first is_slash xs)
cut_at_slash xs some =
    let size = length-drop (position_or_len is_slash xs + 1) xs in
    let inside : position_or_len is_slash xs < length xs = grind (arith, nat_tests) in
    let slash : get_or xs (position_or_len is_slash xs) 0 ≡ 47 =
    eqb-true _ _ (passes_at_first is_slash xs 0 inside) in
    split_at_first is_slash xs 0 inside
    ∙ ap (λ b. before_first is_slash xs ++ (b ∷ after_first is_slash xs)) slash

front_is : (text : List ℕ) → is_shared text ≡ true → text ≡ codes "$share/" ++ drop 7 text
front_is text h = sym (take-append-drop 7 text)
    ∙ ap (λ front. front ++ drop 7 text)
    (sym ((bytes_eq-Decides (codes "$share/") (take 7 text)).0 h))

whole : (text : List ℕ) → is_subscription text ≡ true
    → text ≡ rebuilt (share_of text) (filter_part text)
whole text valid =
    let fits : (not (is_shared text) || share_fits (share_name text) (filter_part text)) ≡ true =
    (and_parts (is_text text) (not (is_shared text)
    || share_fits (share_name text) (filter_part text))
    (and_parts (is_text text
    && (not (is_shared text) || share_fits (share_name text) (filter_part text)))
    (is_filter (filter_part text)) valid).0).1 in
    (elim (is_shared text) as (λ s. is_shared text ≡ s
    → (not s || share_fits (share_name text)
    (cond s (after_first is_slash (drop 7 text)) text)) ≡ true
    → text ≡ rebuilt (cond s (Some (share_name text)) None)
    (cond s (after_first is_slash (drop 7 text)) text)) [
      | true ↦ λ h f. front_is text h ∙ ap (λ rest. codes "$share/" ++ rest)
          (cut_at_slash (drop 7 text)
          (and_parts (nat_lt 0 (length (share_name text)) && is_plain (share_name text))
          (nat_lt 0 (length (after_first is_slash (drop 7 text)))) f).1)
      | false ↦ λ h f. refl
    ]) refl fits

-- a subscription is given by its share and its filter
pub same_parts : (a b : List ℕ) → is_subscription a ≡ true → is_subscription b ≡ true
    → share_of a ≡ share_of b → filter_part a ≡ filter_part b → a ≡ b
same_parts a b left right share filter =
    whole a left ∙ ap (λ s. rebuilt s (filter_part a)) share ∙ ap (rebuilt (share_of b)) filter
    ∙ sym (whole b right)
