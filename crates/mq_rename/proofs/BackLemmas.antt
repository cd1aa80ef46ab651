-- Back from new names to those that get them.
use Rattle.std.proofs.Common.{◌≡◌, ℕ, ◌<◌, Bool, true, false, cond, not, ◌&&◌, List, [], ◌∷◌}
use Rattle.std.proofs.Common.{length, drop, refl, ap, sym, ◌∙◌, arith, zero, suc}
use Rattle.std.specs.Prelude.{Some, None}
use Rattle.std.specs.List.{zip}
use Rattle.std.proofs.lemmas.Bool.{and_parts}
use Rattle.std.proofs.lemmas.List.Folds.{list_all-append}
use Rattle.std.proofs.lemmas.Slice.Zip.{firsts-zip}
use Rattle.mq_topic.specs.Levels.{levels}
use Rattle.mq_topic.specs.Matching.{is_hidden, is_wildcard, level_at, matches}
use Rattle.mq_topic.specs.Texts.{contains_byte, is_name}
use Rattle.mq_topic.proofs.Walk.{hidden, levels-nonempty, shown}
use Rattle.mq_rename.specs.Bounds.{IsBound, IsBoundIfAny}
use Rattle.mq_rename.specs.Lists.{is_hash, is_plus, levels_match}
use Rattle.mq_rename.specs.Renames.{Renaming, becomes, is_rename, new_levels, new_name, new_text}
use Rattle.mq_rename.proofs.FitLemmas.{all_lack, levels_without}
use Rattle.mq_rename.proofs.JoinLemmas.{joined, levels-joined}
use Rattle.mq_rename.proofs.MatchLemmas.{has_dollar, matches_not, matches_parts, no_hash, no_plus}
use Rattle.mq_rename.proofs.BindLemmas.{firsts, head, made, made_head}
use Rattle.mq_rename.proofs.BoundLemmas.{IsRule, rule_is}

-- ---- no level of a new name has a slash
level_lacks : (ls : List (List ℕ)) (p : ℕ) → all_lack 47 ls ≡ true
    → not (contains_byte 47 (level_at ls p)) ≡ true
level_lacks [] p h = refl
level_lacks (x ∷ xs) zero h = (and_parts _ _ h).0
level_lacks (x ∷ xs) (suc p) h = level_lacks xs p (and_parts _ _ h).1

drop_lacks : (k : ℕ) (ls : List (List ℕ)) → all_lack 47 ls ≡ true → all_lack 47 (drop k ls) ≡ true
drop_lacks zero ls h = h
drop_lacks (suc k) [] h = refl
drop_lacks (suc k) (x ∷ xs) h = drop_lacks k xs (and_parts _ _ h).1

becomes_lacks : (front : ℕ) (n : List (List ℕ)) (q : List ℕ × ℕ) → all_lack 47 n ≡ true
    → not (contains_byte 47 q.0) ≡ true → all_lack 47 (becomes front n q) ≡ true
becomes_lacks front n q h k = at (is_plus q.0) (is_hash q.0)
  where
    at : (a b : Bool) → all_lack 47
        (cond a (level_at n q.1 ∷ []) (cond b (drop front n) (q.0 ∷ []))) ≡ true
    at true b = ap (λ t. t && true) (level_lacks n q.1 h)
    at false true = drop_lacks front n h
    at false false = ap (λ t. t && true) k

made_lacks : (left n : List (List ℕ)) (qs : List (List ℕ × ℕ)) → all_lack 47 n ≡ true
    → all_lack 47 (firsts qs) ≡ true → all_lack 47 (made left n qs) ≡ true
made_lacks left n [] h k = refl
made_lacks left n (q ∷ qs) h k =
    grind (arith, made_lacks left n qs h, list_all-append, becomes_lacks)

-- ---- the levels of a new name
-- the text has these levels, and begins with this one
record IsText (text : List ℕ) (ls : List (List ℕ)) (first : List ℕ) : Type 0 where
  pub are : levels text ≡ ls
  pub begins : level_at (levels text) 0 ≡ first

made_text : (left right : List (List ℕ)) (places : List ℕ) (n : List (List ℕ))
    → IsRule left right places → 0 < length right → all_lack 47 right ≡ true
    → all_lack 47 n ≡ true
    → IsText (joined (new_levels left right places n)) (new_levels left right places n)
    (level_at right 0)
made_text left [] places n is some h k = absurd (omega arith)
made_text left (r ∷ rs) [] n is some h k = absurd (let count = is.count in omega arith)
made_text left (r ∷ rs) (p ∷ ps) n is some h k =
    let q : List ℕ × ℕ = (r, p) in
    let qs = zip rs ps in
    let sides : firsts (q ∷ qs) ≡ r ∷ rs = firsts-zip (r ∷ rs) (p ∷ ps) (sym is.count) in
    let lacks = made_lacks left n (q ∷ qs) k (ap (all_lack 47) sides ∙ h) in
    let first = made_head left n q qs (no_hash r is.own) in
    let are = ap (λ ls. levels (joined ls)) first
    ∙ levels-joined (head n q) (made left n qs) (sym (ap (all_lack 47) first) ∙ lacks) in
    record {
      are = are ∙ sym first;
      begins = ap (λ ls. level_at ls 0) are
          ∙ ap (λ b. cond b (level_at n p) r) (no_plus r is.own);
    }

-- what is known of a new name
pub record IsNewName (r : Renaming) (n m : List ℕ) : Type 0 where
  pub renamed : matches (levels r.left) (levels n) ≡ true
  pub are : levels m ≡ new_levels (levels r.left) (levels r.right) r.places (levels n)
  pub begins : level_at (levels m) 0 ≡ level_at (levels r.right) 0

pub new_name_is : (r : Renaming) (n m : List ℕ) → is_rename r.left r.right r.places ≡ true
    → new_name r n ≡ Some m → IsNewName r n m
new_name_is r n m h e =
    at (matches (levels r.left) (levels n) && is_name (new_text r n)) refl e
  where
    text : IsText (new_text r n) (new_levels (levels r.left) (levels r.right) r.places (levels n))
        (level_at (levels r.right) 0)
    text = made_text (levels r.left) (levels r.right) r.places (levels n)
        (rule_is r.left r.right r.places h) (levels-nonempty r.right) (levels_without r.right)
        (levels_without n)

    at : (b : Bool) → (matches (levels r.left) (levels n) && is_name (new_text r n)) ≡ b
        → cond b (Some (new_text r n)) None ≡ Some m → IsNewName r n m
    at false f g = absurd (let k : None ≡ Some m = g in cc)
    at true f g =
        let same : new_text r n ≡ m = let k : Some (new_text r n) ≡ Some m = g in cc in
        record {
          renamed = (and_parts _ _ f).0;
          are = ap levels (sym same) ∙ text.are;
          begins = ap (λ t. level_at (levels t) 0) (sym same) ∙ text.begins;
        }

-- ---- which new names a filter matches
hidden_new : (r : Renaming) (n m : List ℕ) (filter : List (List ℕ)) → IsNewName r n m
    → is_hidden filter (levels m) ≡ is_hidden filter (levels r.right)
hidden_new r n m filter is =
    ap (λ l. has_dollar l && is_wildcard (level_at filter 0)) is.begins

-- none, if the right side is hidden from it
pub back_hidden : (r : Renaming) (n m : List ℕ) (filter : List (List ℕ)) → IsNewName r n m
    → is_hidden filter (levels r.right) ≡ true → matches filter (levels m) ≡ false
back_hidden r n m filter is h =
    hidden filter (levels m) (hidden_new r n m filter is ∙ h)

-- none, if the left side can't be bound
pub back_none : (r : Renaming) (n m : List ℕ) (filter : List (List ℕ)) → IsNewName r n m
    → IsBoundIfAny (levels r.left) (levels r.right) r.places filter None
    → matches filter (levels m) ≡ false
back_none r n m filter is none = grind (arith, matches_not, matches_parts)

-- those of the names that are bound
pub back_bound : (r : Renaming) (n m : List ℕ) (filter bound : List (List ℕ)) → IsNewName r n m
    → is_hidden filter (levels r.right) ≡ false
    → IsBound (levels r.left) (levels r.right) r.places filter bound
    → matches bound (levels n) ≡ matches filter (levels m)
back_bound r n m filter bound is h b =
    let left = matches_parts (levels r.left) (levels n) is.renamed in
    shown bound n
    (seen (has_dollar (level_at (levels n) 0)) (is_wildcard (level_at bound 0))
    (is_wildcard (level_at (levels r.left) 0)) b.front left.0)
    ∙ sym (ap (levels_match filter) is.are ∙ b.same (levels n) left.1)
    ∙ sym (shown filter m (hidden_new r n m filter is ∙ h))
  where
    seen : (d v w : Bool) → (v ≡ true → w ≡ true) → (d && w) ≡ false → (d && v) ≡ false
    seen d v w f e = grind arith
