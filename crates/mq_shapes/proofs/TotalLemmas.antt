-- How many levels names have that filters match.
use Rattle.std.proofs.Common.{◌≡◌, ◌∙◌, ◌+◌, ℕ, Bool, true, false, not, List, []}
use Rattle.std.proofs.Common.{◌∷◌, ap, arith, length, refl, sym}
use Rattle.std.specs.List.{list_all}
use Rattle.std.proofs.lemmas.Bool.{and_parts}
use Rattle.mq_topic.specs.Matching.{level_matches}
use Rattle.mq_topic.specs.Texts.{contains_byte}
use Rattle.mq_acl.specs.Rows.{AclRow}
use Rattle.mq_unify.specs.Clients.{goes_along, made_levels}
use Rattle.mq_unify.specs.Rows.{row_matches}
use Rattle.mq_unify.proofs.FilterLemmas.{match_rest}
use Rattle.mq_shapes.specs.Total.{HaveAtMost, IsLess, IsTotal}
use Rattle.mq_shapes.proofs.ApartLemmas.{along_level, is_one}

pub none_total : (pattern : Bool) → IsTotal pattern [] 0
none_total pattern = λ client user ls h. by ls h
  where
    by : (ls : List (List ℕ)) → match_rest [] ls ≡ true → length ls ≡ 0
    by [] h = refl
    by (l ∷ ls) h = absurd (let n : false ≡ true = h in cc)

-- one level more
pub more_total : (pattern : Bool) (w : List ℕ) (ws all : List (List ℕ)) (total : ℕ) → all ≡ w ∷ ws
    → not (contains_byte 47 w) ≡ true → is_one pattern w ws ≡ true → IsTotal pattern ws total
    → IsTotal pattern all (total + 1)
more_total pattern w ws all total e s one rest = λ client user ls h.
    by (match_rest (made_levels pattern client user ws)) (rest client user) ls
    (sym (ap (λ fs. match_rest (made_levels pattern client user fs) ls) e
    ∙ along_level pattern client user w ws ls s one) ∙ h)
  where
    by : (behind : List (List ℕ) → Bool)
        → ((ls : List (List ℕ)) → behind ls ≡ true → length ls ≡ total) → (ls : List (List ℕ))
        → goes_along (w ∷ []) behind ls ≡ true → length ls ≡ total + 1
    by behind so [] h = absurd (let n : false ≡ true = h in cc)
    by behind so (l ∷ ls) h =
        let e = so ls (and_parts (level_matches w l) (behind ls) h).1 in omega (arith, e)

-- a row that has fewer is among them
pub fewer : (rows : List AclRow) (row : AclRow) (most least : ℕ) → HaveAtMost rows most
    → IsLess row most least → ((p : AclRow → Bool) → p row ≡ false → list_all p rows ≡ false)
    → HaveAtMost rows least
fewer rows row most least have less among = λ client user ls n h.
    less client user ls (by (row_matches client user ls) h (row_matches client user ls row) refl)
    (have client user ls n h)
  where
    by : (p : AclRow → Bool) → list_all p rows ≡ true → (b : Bool) → p row ≡ b → p row ≡ true
    by p h true e = e
    by p h false e = absurd (let n : false ≡ true = sym (among p e) ∙ h in cc)
