-- Rows that keep to the limit.
use Rattle.std.proofs.Common.{◌≡◌, ℕ, Bool, true, false, not, ◌&&◌, ◌||◌, List, [], ◌∷◌, length}
use Rattle.std.proofs.Common.{refl, sym, arith, ◌≤◌, subst}
use Rattle.std.specs.Prelude.{nat_le}
use Rattle.std.specs.List.{list_all}
use Rattle.std.proofs.lemmas.Bool.{and_from, and_parts, leb-true, or_right}
use Rattle.mq_topic.proofs.ByteLemmas.{text_is}
use Rattle.mq_topic.specs.Levels.{levels}
use Rattle.mq_topic.specs.Texts.{contains_byte, is_level, parents, is_filter}
use Rattle.mq_topic.proofs.TextLemmas.{levels_lack}
use Rattle.mq_acl.specs.Rows.{Who, Anonymous, Named, Everyone, AclRow}
use Rattle.mq_cover.specs.Remainders.{fits}
use Rattle.mq_witness.specs.Literals.{is_literal_in}
use Rattle.mq_witness.specs.Rows.{is_name_of, is_user_of, row_names, rows_name}
use Rattle.mq_witness.specs.Limits.{is_short_level, short_who, usable, has_short_levels}
use Rattle.mq_witness.specs.Limits.{is_short_row}
use Rattle.mq_witness.proofs.NameLemmas.{levels_without}
use Rattle.mq_witness.proofs.LiteralLemmas.{literal_passes}
use Rattle.mq_witness.proofs.TestLemmas.{any_by}

-- ---- a filter's levels
-- a level, by the bytes that it has, whether it is a wildcard, and its length, fits where it is the last one or has no `#`
part_fits : (plus hash nul slash p h last short : Bool)
    → ((not plus || p) && (not hash || h)) ≡ true → not nul ≡ true → not slash ≡ true
    → short ≡ true → (last || not hash) ≡ true
    → (p || (h && last) || (not plus && not hash && not nul && not slash && short)) ≡ true
part_fits plus hash nul slash p h last short a b c d e = grind arith

abbrev all_lack : ℕ → List (List ℕ) → Bool
all_lack b ls = list_all (λ l. not (contains_byte b l)) ls

abbrev all_short : List (List ℕ) → Bool
all_short ls = list_all (λ l. nat_le (length l) 300) ls

parents-cons : (l m : List ℕ) (ms : List (List ℕ)) → parents (l ∷ m ∷ ms) ≡ l ∷ parents (m ∷ ms)
parents-cons l m ms = grind arith

-- the levels of a valid filter that keeps to the limit
levels_fit : (ls : List (List ℕ)) → list_all is_level ls ≡ true → all_lack 35 (parents ls) ≡ true
    → all_lack 0 ls ≡ true → all_lack 47 ls ≡ true → all_short ls ≡ true
    → fits is_short_level ls ≡ true
levels_fit [] a b c d e = refl
levels_fit (l ∷ []) a b c d e = grind (arith, part_fits)
levels_fit (l ∷ m ∷ ms) a b c d e =
    grind (arith, levels_fit (m ∷ ms), and_parts, parents-cons, and_from, part_fits, or_right)

-- a valid filter that keeps to the limit has short levels that can be a name's, but for wildcards
pub filter_usable : (text : List ℕ) → is_filter text ≡ true → all_short (levels text) ≡ true
    → fits is_short_level (levels text) ≡ true
filter_usable text h s = grind (arith, levels_fit, levels_lack, levels_without)

-- a row with such a filter, and a user name that keeps to the limit too, is usable
pub row_usable : (row : AclRow) → is_filter row.filter ≡ true → is_short_row row ≡ true
    → usable row ≡ true
row_usable row h s =
    let parts = and_parts (has_short_levels row.filter) _ s in
    and_from _ _ (filter_usable row.filter h parts.0) parts.1

-- ---- what rows that keep to the limit name
name_short : (l : List ℕ) (who : Who) → short_who who ≡ true → is_name_of l who ≡ true
    → length l ≤ 300
name_short l Anonymous s h = absurd (let n : false ≡ true = h in cc)
name_short l (Named name) s h = subst (λ t. length t ≤ 300) (sym (text_is l name h))
    (leb-true (length name) 300 s)
name_short l Everyone s h = absurd (let n : false ≡ true = h in cc)

-- a level that usable rows name has at most 300 bytes
pub names_short : (rows : List AclRow) → list_all usable rows ≡ true → (l : List ℕ)
    → rows_name l rows ≡ true → length l ≤ 300
names_short [] u l h = absurd (let n : false ≡ true = h in cc)
names_short (row ∷ rows) u l h =
    grind (arith, names_short rows, leb-true, literal_passes, name_short)

-- a level that rows name for a user is one that they name
pub user_is_named : (rows : List AclRow) (l : List ℕ) → is_user_of l rows ≡ true
    → rows_name l rows ≡ true
user_is_named rows l = any_by (λ row. is_name_of l row.who) (row_names l)
    (λ row e. or_right (is_literal_in l (levels row.filter)) _ e) rows
