-- When lists can be asked, and what a search of them knows.
use Rattle.std.proofs.Common.{◌≡◌, ℕ, Bool, true, List, [], ◌∷◌, length, Some, refl, ap, sym, ◌∙◌}
use Rattle.std.proofs.Common.{arith, subst}
use Rattle.std.specs.Prelude.{All, Contains}
use Rattle.std.specs.List.{list_all}
use Rattle.std.proofs.lemmas.Bool.{cond_both, and_parts, and_from, le-leb, leb-true}
use Rattle.std.proofs.lemmas.List.Elements.{All-contains, All-weaker}
use Rattle.std.proofs.lemmas.List.Sums.{AllPass-from_list_all, list_all-from_AllPass}
use Rattle.mq_topic.proofs.ByteLemmas.{text_itself}
use Rattle.mq_topic.specs.Levels.{levels}
use Rattle.mq_acl.specs.Rows.{AclRow}
use Rattle.mq_cover.specs.Names.{can_be_level, is_name_level}
use Rattle.mq_cover.specs.Remainders.{fits, mark_passes}
use Rattle.mq_cover.proofs.TextLemmas.{false_is}
use Rattle.mq_witness.specs.Asked.{AskedRows, IsListed}
use Rattle.mq_witness.specs.Fresh.{is_literal}
use Rattle.mq_witness.specs.FreshTexts.{AreNew, AreShort, IsSeen}
use Rattle.mq_witness.specs.Limits.{is_short_level, usable}
use Rattle.mq_witness.specs.Literals.{is_named}
use Rattle.mq_witness.specs.Ready.{CanAnswer, CanBeAsked, IsReady, all_listed, clients_fit}
use Rattle.mq_witness.specs.Ready.{is_listed}
use Rattle.mq_witness.specs.Roots.{rows_fit}
use Rattle.mq_witness.specs.Rows.{is_user_of, rows_name}
use Rattle.mq_shapes.specs.declared.clients.Clients.{Clients}
use Rattle.mq_shapes.specs.declared.clients.Clients.TheVariants.{Anonymous, Named, Others}
use Rattle.mq_witness.specs.declared.fresh.Fresh.{Fresh}
use Rattle.mq_witness.specs.declared.literals.Literals.{Literals}
use Rattle.mq_witness.specs.declared.texts.FreshTexts.{FreshTexts}
use Rattle.mq_witness.proofs.FreshLemmas.{user_among, made_unnamed, named_is_literal, seen_fresh}
use Rattle.mq_witness.proofs.LimitLemmas.{names_short, user_is_named}
use Rattle.mq_witness.proofs.LiteralLemmas.{level_is_no_wildcard, rows_named}
use Rattle.mq_witness.proofs.TestLemmas.{all_by}
use Rattle.mq_witness.specs.Texts.{level_of}

-- ---- rows that name no text that stands for others
pub short_is_name : (w : List ℕ) → is_short_level w ≡ true → is_name_level w ≡ true
short_is_name w h =
    let parts = and_parts (can_be_level w) _ h in
    let short = leb-true (length w) 300 parts.1 in
    and_from _ _ parts.0 (le-leb (length w) 321 (omega arith))

rows_literal : (f : Fresh) (all : List AclRow) → list_all usable all ≡ true
    → ((l : List ℕ) → is_name_level l ≡ true → rows_name l all ≡ true → is_literal f l ≡ true)
    → rows_fit (is_literal f) all ≡ true
rows_literal f all u h =
    rows_named is_short_level (is_literal f) (λ w k. level_is_no_wildcard w (short_is_name w k)) all
    (all_by usable (λ row. fits is_short_level (levels row.filter)) (λ row k. (and_parts _ _ k).0)
    all u)
    (λ l k. h l (short_is_name l k))

-- what the names in rows are, and which rows they are
pub record AreNames (all : List AclRow) (names users : Literals) : Type 0 where
  pub named : (l : List ℕ) → is_named l names ≡ rows_name l all
  pub users_named : (l : List ℕ) → is_named l users ≡ is_user_of l all
  pub all_usable : list_all usable all ≡ true

-- rows that keep to the limit can be asked, with texts that are new to all that they name
pub can_be_asked : (d : Bool) {all : List AclRow} {texts : FreshTexts} {names users : Literals}
    → AreNames all names users → AreNew d texts (λ l. is_named l names)
    → CanBeAsked all texts users
can_be_asked d {all} {texts} {names} are new = record {
  fresh = λ f seen. seen_fresh d texts f (λ l. is_named l names) new seen;
  fits = λ f seen. rows_literal f all are.all_usable (λ l level h. literal f seen l level h);
  named = are.users_named;
  level = λ f seen user h. level f seen user (sym (are.users_named user) ∙ h);
  unnamed = λ text h. sym (are.named text)
      ∙ made_unnamed d texts (λ l. is_named l names) short new text h;
}
  where
    short : AreShort (λ l. is_named l names)
    short l h = names_short all are.all_usable l (sym (are.named l) ∙ h)

    literal : (f : Fresh) → IsSeen texts f → (l : List ℕ) → is_name_level l ≡ true
        → rows_name l all ≡ true → is_literal f l ≡ true
    literal f seen l level h = named_is_literal d texts f (λ l. is_named l names)
        (λ l h. names_short all are.all_usable l (sym (are.named l) ∙ h)) new seen l level
        (are.named l ∙ h)

    level : (f : Fresh) → IsSeen texts f → (user : List ℕ) → is_user_of user all ≡ true
        → mark_passes (is_literal f) (level_of (Some user)) ≡ true
    level f seen user h =
        let name = user_is_named all user h in
        let size = names_short all are.all_usable user name in
        cond_both (can_be_level user) _ _ (λ m. mark_passes (is_literal f) m ≡ true)
        (λ e. named_is_literal d texts f (λ l. is_named l names)
        (λ l h. names_short all are.all_usable l (sym (are.named l) ∙ h)) new seen user
        (and_from _ _ e (le-leb (length user) 321 (omega arith))) (are.named user ∙ name))
        (λ e. refl)

-- ---- a search of them
-- what is known of rows is known of those that are the same
pub can_answer : {s t : AskedRows} {texts dollar longest : FreshTexts} {users : Literals} → s ≡ t
    → CanAnswer s.rows texts dollar longest users → CanAnswer t.rows texts dollar longest users
can_answer {texts = texts} {dollar} {longest} {users} e =
    subst (λ (a : AskedRows). CanAnswer a.rows texts dollar longest users) e

-- rows that stand in a list pass what all of the list do
pub all_contained : (p : AclRow → Bool) (all some : List AclRow) → list_all p all ≡ true
    → All (Contains all) some → list_all p some ≡ true
all_contained p all some h c =
    list_all-from_AllPass p some
    (All-weaker (Contains all) (λ row. p row ≡ true)
    (λ row k. All-contains (λ row. p row ≡ true) all row (AllPass-from_list_all p all h) k) some c)

-- the user names of rows are listed
rows_listed : (users : Literals) (all : List AclRow)
    → ((l : List ℕ) → is_user_of l all ≡ true → is_named l users ≡ true)
    → all_listed users all ≡ true
rows_listed users [] h = refl
rows_listed users (row ∷ all) h = grind (arith, rows_listed users all, text_itself, h)

-- what is asked of rows that can be asked can be searched
pub search_ready : (asked : AskedRows) {texts : FreshTexts} {users : Literals} {f : Fresh}
    {clients : Clients} {must cover : List AclRow} → CanBeAsked asked.rows texts users
    → IsSeen texts f → IsListed asked clients → All (Contains asked.rows) must
    → All (Contains asked.rows) cover → IsReady f users clients must cover
search_ready asked {texts} {users} {f} {clients} {must} {cover} can seen listed must_in cover_in =
    let fit = can.fits f seen in
    let all = rows_listed users asked.rows (λ l e. can.named l ∙ e) in
    record {
      names_none = record {
        fresh = can.fresh f seen;
        must_fits = all_contained (λ row. fits (is_literal f) (levels row.filter)) asked.rows must
            fit must_in;
        cover_fits = all_contained (λ row. fits (is_literal f) (levels row.filter)) asked.rows
            cover fit cover_in;
      };
      must_listed = all_contained (λ row. is_listed users row.who) asked.rows must all must_in;
      cover_listed = all_contained (λ row. is_listed users row.who) asked.rows cover all cover_in;
      unlisted = can.named f.user.now ∙ false_is _ (rows_name f.user.now asked.rows)
          (user_is_named asked.rows f.user.now)
          (ap (λ l. rows_name l asked.rows) seen.user ∙ can.unnamed _ (user_among texts));
      user_fits = by clients listed;
    }
  where
    by : (k : Clients) → IsListed asked k → clients_fit f k ≡ true
    by Anonymous e = refl
    by (Named name) e = can.level f seen name.now (can.named name.now ∙ e)
    by Others e = refl
