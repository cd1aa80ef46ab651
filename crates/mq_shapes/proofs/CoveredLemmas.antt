-- Rows that cover all that another does.
use Rattle.std.proofs.Common.{◌≡◌, ◌∙◌, ◌&&◌, ◌||◌, ◌==◌, ◌<◌, ℕ, Bool, true, false, not, List, [], ◌∷◌, ◌++◌}
use Rattle.std.proofs.Common.{Bor, Option, ap, bytes_eq, codes, get_or, length, refl, sym}
use Rattle.std.specs.List.{list_all, list_any}
use Rattle.std.proofs.Math.Bool.{and-false}
use Rattle.std.proofs.Math.Dec.{eqb-suc-zero}
use Rattle.std.proofs.lemmas.Bool.{and_from, and_parts, or_parts}
use Rattle.std.proofs.lemmas.List.Folds.{list_all-map, list_all_at, list_any_at}
use Rattle.mq_topic.proofs.ByteLemmas.{text_is}
use Rattle.mq_topic.specs.Levels.{levels}
use Rattle.mq_topic.specs.Matching.{level_matches}
use Rattle.mq_topic.specs.Texts.{contains_byte, is_plain, wildcards_fit}
use Rattle.mq_acl.specs.Rows.{AclRow}
use Rattle.mq_acl.specs.Views.{row_view}
use Rattle.mq_acl.specs.declared.row.Row.{Row}
use Rattle.mq_acl.specs.Words.{occurs_in}
use Rattle.mq_acl.proofs.FilledLemmas.{filled_level, fit_level, fit_rest}
use Rattle.mq_unify.specs.Clients.{goes_along, made, made_levels}
use Rattle.mq_unify.specs.Rows.{lent_rows, row_matches}
use Rattle.mq_unify.proofs.FilterLemmas.{all_lack, along_one, along_plain, levels_lack, match_rest}
use Rattle.mq_unify.proofs.FilterLemmas.{none_left, single}
use Rattle.mq_unify.proofs.MadeLemmas.{unmarked}
use Rattle.mq_shapes.specs.Covered.{CoversAll, HitsNone, LevelCovers, LevelsCover}
use Rattle.mq_shapes.specs.Found.{row_hits}
use Rattle.mq_shapes.proofs.RowLemmas.{any-map}

-- ---- levels that no client's text changes
pub single_made : (pattern : Bool) (client user l : List ℕ) → not (contains_byte 47 l) ≡ true
    → (occurs_in (codes "%c") l || occurs_in (codes "%u") l) ≡ false
    → made pattern client user l ≡ l ∷ []
single_made false client user l s m = refl
single_made true client user l s m =
    let none = or_parts (occurs_in (codes "%c") l) (occurs_in (codes "%u") l) m in
    ap levels (unmarked client user l none.0 none.1) ∙ single l s

-- what goes along with levels goes on with all that is known to go on
goes_more : (ws : List (List ℕ)) (all behind : List (List ℕ) → Bool)
    → ((ls : List (List ℕ)) → behind ls ≡ true → all ls ≡ true) → (ls : List (List ℕ))
    → goes_along ws behind ls ≡ true → goes_along ws all ls ≡ true
goes_more [] all behind more ls h = more ls h
goes_more (w ∷ ws) all behind more [] h = h
goes_more (w ∷ ws) all behind more (l ∷ ls) h =
    let both = and_parts (level_matches w l) (goes_along ws behind ls) h in
    and_from (level_matches w l) (goes_along ws all ls) both.0
    (goes_more ws all behind more ls both.1)

-- where both levels make the same
level_alike : (wide narrow : Bool) (w l : List ℕ)
    → ((client user : List ℕ) → made wide client user w ≡ made narrow client user l)
    → LevelCovers wide narrow w l
level_alike wide narrow w l same = λ client user all behind more ls h.
    ap (λ ws. goes_along ws all ls) (same client user)
    ∙ goes_more (made narrow client user l) all behind more ls h

-- the same level of rows of one kind
pub level_itself : (wide narrow : Bool) (w l : List ℕ) → wide ≡ narrow → w ≡ l
    → LevelCovers wide narrow w l
level_itself wide narrow w l e f =
    level_alike wide narrow w l (λ client user. (λ i. made (e i) client user (f i)))

-- of any rows, where it has no mark
pub level_same : (wide narrow : Bool) (w l : List ℕ) → not (contains_byte 47 l) ≡ true
    → (occurs_in (codes "%c") l || occurs_in (codes "%u") l) ≡ false → w ≡ l
    → LevelCovers wide narrow w l
level_same wide narrow w l s m e = level_alike wide narrow w l (λ client user.
    ap (made wide client user) e ∙ single_made wide client user l s m
    ∙ sym (single_made narrow client user l s m))

-- `+` for one without a mark
pub level_any : (wide narrow : Bool) (w l : List ℕ) → not (contains_byte 47 l) ≡ true
    → (occurs_in (codes "%c") l || occurs_in (codes "%u") l) ≡ false → w ≡ codes "+"
    → LevelCovers wide narrow w l
level_any wide narrow w l s m e = λ client user all behind more ls h.
    ap (λ ws. goes_along ws all ls)
    (ap (made wide client user) e ∙ single_made wide client user (codes "+") refl refl)
    ∙ by all behind more ls (sym (ap (λ ws. goes_along ws behind ls)
    (single_made narrow client user l s m)) ∙ h)
  where
    by : (all behind : List (List ℕ) → Bool)
        → ((ls : List (List ℕ)) → behind ls ≡ true → all ls ≡ true) → (ls : List (List ℕ))
        → goes_along (l ∷ []) behind ls ≡ true → goes_along (codes "+" ∷ []) all ls ≡ true
    by all behind more [] h = h
    by all behind more (x ∷ ls) h = more ls (and_parts (level_matches l x) (behind ls) h).1

-- ---- filters
-- a name goes along what a level makes, and then what is left does
pub along : (pattern : Bool) (client user w : List ℕ) (ws ls : List (List ℕ))
    → is_plain client ≡ true → is_plain user ≡ true → wildcards_fit (w ∷ ws) ≡ true
    → (bytes_eq w (codes "#") && (length ws == 0)) ≡ false
    → match_rest (made_levels pattern client user (w ∷ ws)) ls
    ≡ goes_along (made pattern client user w) (match_rest (made_levels pattern client user ws)) ls
along false client user w ws ls c u fit h =
    along_one w (made_levels false client user ws) ls
    (ap (λ b. bytes_eq w (codes "#") && b) (none_left false client user ws) ∙ h)
along true client user w ws ls c u fit h = by (bytes_eq w (codes "+")) refl
  where
    rest : List (List ℕ)
    rest = made_levels true client user ws

    by : (b : Bool) → bytes_eq w (codes "+") ≡ b
        → match_rest (made true client user w ++ rest) ls
        ≡ goes_along (made true client user w) (match_rest rest) ls
    by true e =
        let is : w ≡ codes "+" = text_is w (codes "+") e in
        ap (λ v. match_rest (made true client user v ++ rest) ls) is
        ∙ along_one (codes "+") rest ls refl
        ∙ sym (ap (λ v. goes_along (made true client user v) (match_rest rest) ls) is)
    by false e = along_plain (made true client user w) rest ls
        (filled_level client user w c u e (fit_level w ws fit h))

-- a last `#` covers all
hash_made : (pattern : Bool) (client user : List ℕ) (ls : List (List ℕ))
    → match_rest (made_levels pattern client user (codes "#" ∷ [])) ls ≡ true
hash_made false client user ls = refl
hash_made true client user ls = refl

pub hash_covers : (wide narrow : Bool) (w : List ℕ) (ws ms all : List (List ℕ)) → all ≡ w ∷ ws
    → (bytes_eq w (codes "#") && (length ws == 0)) ≡ true → LevelsCover wide narrow all ms
hash_covers wide narrow w [] ms all e h = λ client user ls c u m.
    ap (λ fs. match_rest (made_levels wide client user fs) ls)
    (e ∙ ap (λ v. v ∷ []) (text_is w (codes "#") (and_parts (bytes_eq w (codes "#")) true h).0))
    ∙ hash_made wide client user ls
hash_covers wide narrow w (v ∷ ws) ms all e h =
    absurd (let n : false ≡ true = sym (ap (λ b. bytes_eq w (codes "#") && b)
    (eqb-suc-zero (length ws)) ∙ and-false (bytes_eq w (codes "#"))) ∙ h in cc)

-- one level, and those behind it
pub more_cover : (wide narrow : Bool) (w l : List ℕ) (ws ms all every : List (List ℕ))
    → all ≡ w ∷ ws → every ≡ l ∷ ms → wildcards_fit all ≡ true → wildcards_fit every ≡ true
    → (bytes_eq w (codes "#") && (length ws == 0)) ≡ false
    → (bytes_eq l (codes "#") && (length ms == 0)) ≡ false
    → LevelCovers wide narrow w l → LevelsCover wide narrow ws ms
    → LevelsCover wide narrow all every
more_cover wide narrow w l ws ms all every e f fit fits n k level rest = λ client user ls c u h.
    ap (λ fs. match_rest (made_levels wide client user fs) ls) e
    ∙ along wide client user w ws ls c u (ap wildcards_fit (sym e) ∙ fit) n
    ∙ level client user (match_rest (made_levels wide client user ws))
    (match_rest (made_levels narrow client user ms)) (λ rs. rest client user rs c u) ls
    (sym (along narrow client user l ms ls c u (ap wildcards_fit (sym f) ∙ fits) k)
    ∙ sym (ap (λ fs. match_rest (made_levels narrow client user fs) ls) f) ∙ h)

pub slash_free : (text l : List ℕ) (ms : List (List ℕ)) → levels text ≡ l ∷ ms
    → not (contains_byte 47 l) ≡ true
slash_free text l ms e = (and_parts (not (contains_byte 47 l)) (all_lack ms)
    (sym (ap all_lack e) ∙ levels_lack text)).0

pub fit_behind : (w : List ℕ) (ws all : List (List ℕ)) → all ≡ w ∷ ws → wildcards_fit all ≡ true
    → wildcards_fit ws ≡ true
fit_behind w ws all e fit = fit_rest w ws (ap wildcards_fit (sym e) ∙ fit)

-- ---- rows
-- a row that is lent settles what some row does, and what all do
pub among_any : (rows : List (Bor Row)) (i : ℕ) (row : Bor Row) → i < length rows
    → row ≡ get_or rows i row → (p : AclRow → Bool) → p (row_view row.now) ≡ true
    → list_any p (lent_rows rows) ≡ true
among_any rows i row h e p is = any-map p (λ r. row_view r.now) rows
    ∙ list_any_at (λ r. p (row_view r.now)) rows i row h
    (ap (λ r. p (row_view r.now)) (sym e) ∙ is)

pub among_all : (rows : List (Bor Row)) (i : ℕ) (row : Bor Row) → i < length rows
    → row ≡ get_or rows i row → (p : AclRow → Bool) → p (row_view row.now) ≡ false
    → list_all p (lent_rows rows) ≡ false
among_all rows i row h e p is = list_all-map p (λ r. row_view r.now) rows
    ∙ list_all_at (λ r. p (row_view r.now)) rows i row h
    (ap (λ r. p (row_view r.now)) (sym e) ∙ is)

-- some row covers what the one does
pub hits_one : (other one : AclRow) (cover : List AclRow) → CoversAll other one
    → ((p : AclRow → Bool) → p other ≡ true → list_any p cover ≡ true)
    → HitsNone (one ∷ []) cover
hits_one other one cover covers among = λ client user ls c u.
    by client user ls (covers client user ls c u) (row_matches client user ls one) refl
  where
    by : (client : List ℕ) (user : Option (List ℕ)) (ls : List (List ℕ))
        → (row_matches client user ls one ≡ true → row_matches client user ls other ≡ true)
        → (b : Bool) → row_matches client user ls one ≡ b
        → row_hits client user ls (one ∷ []) cover ≡ false
    by client user ls so true e =
        ap (λ b. (row_matches client user ls one && true) && not b)
        (among (row_matches client user ls) (so e))
        ∙ and-false (row_matches client user ls one && true)
    by client user ls so false e =
        ap (λ b. (b && true) && not (list_any (row_matches client user ls) cover)) e

-- where none is hit of one of the first rows, none is of all
pub hits_all : (one : AclRow) (must cover : List AclRow) → HitsNone (one ∷ []) cover
    → ((p : AclRow → Bool) → p one ≡ false → list_all p must ≡ false) → HitsNone must cover
hits_all one must cover none among = λ client user ls c u.
    by client user ls (none client user ls c u) (row_matches client user ls one) refl
  where
    by : (client : List ℕ) (user : Option (List ℕ)) (ls : List (List ℕ))
        → row_hits client user ls (one ∷ []) cover ≡ false
        → (b : Bool) → row_matches client user ls one ≡ b
        → row_hits client user ls must cover ≡ false
    by client user ls so true e =
        ap (λ b. list_all (row_matches client user ls) must && b)
        (sym (ap (λ b. (b && true) && not (list_any (row_matches client user ls) cover)) e) ∙ so)
        ∙ and-false (list_all (row_matches client user ls) must)
    by client user ls so false e =
        ap (λ b. b && not (list_any (row_matches client user ls) cover))
        (among (row_matches client user ls) e)
