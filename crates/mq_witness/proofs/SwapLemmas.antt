-- Two texts that no row names can stand in each other's place.
use Rattle.std.proofs.Common.{◌≡◌, ℕ, ◌==◌, ◌<◌, Bool, true, false, not, ◌&&◌, ◌||◌, List, [], ◌∷◌}
use Rattle.std.proofs.Common.{length, Option, Some, None, codes, bytes_eq, refl, ap, sym, ◌∙◌}
use Rattle.std.proofs.Common.{arith, map, subst, string_bytes, ◌++◌, Bor}
use Rattle.std.specs.Prelude.{All, Contains}
use Rattle.std.specs.List.{list_all, list_any}
use Rattle.std.specs.Cmp.{both_ways}
use Rattle.std.proofs.lemmas.Bool.{and_from, and_parts, cond-true, cond_both, false_from_ne_true}
use Rattle.std.proofs.lemmas.Bool.{not-true}
use Rattle.std.proofs.lemmas.List.{length-map}
use Rattle.std.proofs.lemmas.List.Folds.{list_all-map, list_any-append}
use Rattle.mq_topic.proofs.ByteLemmas.{text_is, text_itself}
use Rattle.mq_topic.proofs.Walk.{levels-nonempty}
use Rattle.mq_topic.specs.Levels.{levels}
use Rattle.mq_topic.specs.Matching.{level_matches, levels_match_by}
use Rattle.mq_topic.specs.Texts.{contains_byte}
use Rattle.mq_acl.specs.Access.{applies, begins_with_dollar, is_user, row_level_matches}
use Rattle.mq_acl.specs.Rows.{AclRow, Who}
use Rattle.mq_acl.specs.Rows as rows
use Rattle.mq_cover.specs.Names.{is_name_level, suits}
use Rattle.mq_cover.specs.Remainders.{fits}
use Rattle.mq_cover.specs.declared.start.Start.TheVariants.{Dollar}
use Rattle.mq_cover.proofs.NameLemmas.{choice_is_level, suits_inside}
use Rattle.mq_cover.proofs.TextLemmas.{false_is, or_cases}
use Rattle.mq_witness.specs.Asked.{AskedRows, IsListed, IsShownIn, ShowsOthersIn, is_placeholder}
use Rattle.mq_witness.specs.Clients.{can_be_id, is_of}
use Rattle.mq_witness.specs.Decided.{concerns_in, decides_in, may_begin}
use Rattle.mq_witness.specs.Fresh.{is_literal, AreFresh}
use Rattle.mq_witness.specs.FreshTexts.{IsSeen, fresh_texts}
use Rattle.mq_witness.specs.Ready.{CanAnswer}
use Rattle.mq_witness.specs.Roots.{rows_fit}
use Rattle.mq_witness.specs.Rows.{is_user_of, row_names, rows_name}
use Rattle.mq_witness.specs.Swaps.{is_apart, swap, swap_name, swap_user}
use Rattle.mq_shapes.specs.declared.clients.Clients.{Clients}
use Rattle.mq_shapes.specs.declared.clients.Clients.TheVariants.{Anonymous, Named, Others}
use Rattle.mq_witness.specs.declared.fresh.Fresh.{Fresh}
use Rattle.mq_witness.specs.declared.literals.Literals.{Literals}
use Rattle.mq_witness.specs.declared.texts.FreshTexts.{FreshTexts}
use Rattle.mq_witness.proofs.FreshLemmas.{one_of}
use Rattle.mq_witness.proofs.FreshMoves.{OthersAre, others_are}
use Rattle.mq_witness.proofs.LimitLemmas.{user_is_named}
use Rattle.mq_witness.proofs.LiteralLemmas.{fits_named}
use Rattle.mq_witness.proofs.MoveLemmas.{match_same}
use Rattle.mq_witness.proofs.TestLemmas.{all_by, all_pass, all_same, any_same}
use Rattle.mq_witness.proofs.NameLemmas.{dollar_suits, joined_lacking, levels_without, no_slash}
use Rattle.mq_witness.proofs.ReadyLemmas.{all_contained}
use Rattle.mq_witness.proofs.TriedLemmas.{level_can_be_id, literal_is_no_wildcard}

-- ---- the swap
swap_first : (a b : List ℕ) → swap a b a ≡ b
swap_first a b = cond-true (bytes_eq a a) _ _ (text_itself a)

swap_other : (a b l : List ℕ) → bytes_eq l a ≡ false → bytes_eq l b ≡ false → swap a b l ≡ l
swap_other a b l e f = rw (e, f) refl

swap_second : (a b : List ℕ) → swap a b b ≡ a
swap_second a b = cond_both (bytes_eq b a) b _ (λ t. t ≡ a) (text_is b a)
    (λ e. cond-true (bytes_eq b b) _ _ (text_itself b))

-- what holds of both, and of a text that is neither, holds of the swapped text
pub swap_cases : (a b l : List ℕ) (P : List ℕ → Type 0) → P a → P b → P l → P (swap a b l)
swap_cases a b l P pa pb pl = cond_both (bytes_eq l a) _ _ P (λ e. pb)
    (λ e. cond_both (bytes_eq l b) _ _ P (λ f. pa) (λ f. pl))

swap_twice : (a b l : List ℕ) → swap a b (swap a b l) ≡ l
swap_twice a b l = cond_both (bytes_eq l a) _ _ (λ t. swap a b t ≡ l)
    (λ e. swap_second a b ∙ sym (text_is l a e))
    (λ e. cond_both (bytes_eq l b) _ _ (λ t. swap a b t ≡ l)
    (λ f. swap_first a b ∙ sym (text_is l b f)) (λ f. swap_other a b l e f))

swap_eq : (a b l m : List ℕ) → bytes_eq (swap a b l) (swap a b m) ≡ bytes_eq l m
swap_eq a b l m = both_ways (bytes_eq (swap a b l) (swap a b m)) (bytes_eq l m)
    (λ e. ap (λ k. bytes_eq k m) (sym (swap_twice a b l)
    ∙ ap (swap a b) (text_is (swap a b l) (swap a b m) e) ∙ swap_twice a b m) ∙ text_itself m)
    (λ e. ap (λ k. bytes_eq (swap a b k) (swap a b m)) (text_is l m e) ∙ text_itself (swap a b m))

-- a swap leaves a text that is apart from both
swap_apart : (a b l : List ℕ) → is_apart a b l ≡ true → swap a b l ≡ l
swap_apart a b l h =
    let parts = and_parts (not (bytes_eq l a)) _ h in
    swap_other a b l (not-true _ parts.0) (not-true _ parts.1)

-- a text that is apart is a swapped one just where it is the text
swap_same : (a b l w : List ℕ) → is_apart a b w ≡ true → bytes_eq w (swap a b l) ≡ bytes_eq w l
swap_same a b l w h = ap (λ k. bytes_eq k (swap a b l)) (sym (swap_apart a b w h))
    ∙ swap_eq a b w l

-- ---- rows that name neither
abbrev who_apart : List ℕ → List ℕ → Who → Bool
who_apart a b rows.Anonymous = true
who_apart a b (rows.Named name) = is_apart a b name
who_apart a b rows.Everyone = true

abbrev row_apart : List ℕ → List ℕ → AclRow → Bool
row_apart a b row = fits (is_apart a b) (levels row.filter) && who_apart a b row.who

module _ (a b : List ℕ) where
  applies_swapped : (user : Option (List ℕ)) (who : Who) → who_apart a b who ≡ true
      → applies user who ≡ applies (swap_user a b user) who
  applies_swapped None rows.Anonymous h = refl
  applies_swapped (Some u) rows.Anonymous h = refl
  applies_swapped None (rows.Named n) h = refl
  applies_swapped (Some u) (rows.Named n) h =
      sym (swap_eq a b u n) ∙ ap (bytes_eq (swap a b u)) (swap_apart a b n h)
  applies_swapped None rows.Everyone h = refl
  applies_swapped (Some u) rows.Everyone h = refl

  user_swapped : (l : List ℕ) (user : Option (List ℕ))
      → is_user l user ≡ is_user (swap a b l) (swap_user a b user)
  user_swapped l None = refl
  user_swapped l (Some u) = sym (swap_eq a b l u)

  matches_swapped : (w l : List ℕ) → (bytes_eq w (codes "+") || is_apart a b w) ≡ true
      → level_matches w l ≡ level_matches w (swap a b l)
  matches_swapped w l h = grind (arith, swap_same)

  level_swapped : (who : Who) (client : List ℕ) (user : Option (List ℕ)) (w l : List ℕ)
      → (bytes_eq w (codes "+") || is_apart a b w) ≡ true
      → row_level_matches who client user w l
      ≡ row_level_matches who (swap a b client) (swap_user a b user) w (swap a b l)
  level_swapped rows.Anonymous client user w l h = matches_swapped w l h
  level_swapped (rows.Named n) client user w l h = matches_swapped w l h
  level_swapped rows.Everyone client user w l h =
      grind (arith, swap_eq, user_swapped, matches_swapped)

-- two texts, both without `/`, that begin with `$` or both don't
record AreAlike (a b : List ℕ) : Type 0 where
  pub dollar : begins_with_dollar b ≡ begins_with_dollar a
  pub slash : not (contains_byte 47 a) ≡ true
  pub other_slash : not (contains_byte 47 b) ≡ true

module _ (front : Bool) (a b : List ℕ) (alike : AreAlike a b) where
  lacks : (l : List ℕ) → not (contains_byte 47 l) ≡ true
      → not (contains_byte 47 (swap a b l)) ≡ true
  lacks l = swap_cases a b l (λ t. not (contains_byte 47 t) ≡ true) alike.slash alike.other_slash

  -- the levels of a name that is swapped are its levels, swapped
  levels_swapped : (name : List ℕ) → levels (swap_name a b name) ≡ map (swap a b) (levels name)
  levels_swapped name = joined_lacking (map (swap a b) (levels name))
      (subst (λ n. 0 < n) (sym (length-map (levels name) (swap a b))) (levels-nonempty name))
      (list_all-map (λ l. not (contains_byte 47 l)) (swap a b) (levels name)
      ∙ all_by (λ l. not (contains_byte 47 l)) (λ l. not (contains_byte 47 (swap a b l))) lacks
      (levels name) (levels_without name))

  begins_swapped : (l : List ℕ) → begins_with_dollar (swap a b l) ≡ begins_with_dollar l
  begins_swapped l =
      cond_both (bytes_eq l a) _ _ (λ t. begins_with_dollar t ≡ begins_with_dollar l)
      (λ e. alike.dollar ∙ ap begins_with_dollar (sym (text_is l a e)))
      (λ e. cond_both (bytes_eq l b) _ _ (λ t. begins_with_dollar t ≡ begins_with_dollar l)
      (λ g. sym alike.dollar ∙ ap begins_with_dollar (sym (text_is l b g))) (λ g. refl))

  suits_swapped : (ls : List (List ℕ)) → suits Dollar (map (swap a b) ls) ≡ suits Dollar ls
  suits_swapped [] = refl
  suits_swapped (l ∷ ls) = (λ i. begins_swapped l i
      && (suits_inside (map (swap a b) ls) ∙ sym (suits_inside ls)) i)

  dollar_swapped : (name : List ℕ)
      → begins_with_dollar name ≡ begins_with_dollar (swap_name a b name)
  dollar_swapped name = sym (dollar_suits name) ∙ sym (suits_swapped (levels name))
      ∙ ap (suits Dollar) (sym (levels_swapped name)) ∙ dollar_suits (swap_name a b name)

  concerns_swapped : (client name : List ℕ) (user : Option (List ℕ)) (row : AclRow)
      → row_apart a b row ≡ true → concerns_in front client user name row
      ≡ concerns_in front (swap a b client) (swap_user a b user) (swap_name a b name) row
  concerns_swapped client name user row h =
      let parts = and_parts (fits (is_apart a b) (levels row.filter)) _ h in
      let matched = match_same (row_level_matches row.who client user)
      (row_level_matches row.who (swap a b client) (swap_user a b user)) (swap a b) (is_apart a b)
      (λ l. true) (λ w l e k. level_swapped a b row.who client user w l e) (levels row.filter)
      (levels name) parts.0 (all_pass (levels name))
      ∙ ap (levels_match_by (row_level_matches row.who (swap a b client) (swap_user a b user))
      (levels row.filter)) (sym (levels_swapped name)) in
      (λ i. applies_swapped a b user row.who parts.1 i
      && ((not (dollar_swapped name i) || may_begin front row) && matched i))

  decides_swapped : (client name : List ℕ) (user : Option (List ℕ)) (must cover : List AclRow)
      → list_all (row_apart a b) must ≡ true → list_all (row_apart a b) cover ≡ true
      → decides_in front client user name must cover
      ≡ decides_in front (swap a b client) (swap_user a b user) (swap_name a b name) must cover
  decides_swapped client name user must cover h g =
      λ i. all_same (row_apart a b) _ _ (concerns_swapped client name user) must h i
      && not (any_same (row_apart a b) _ _ (concerns_swapped client name user) cover g i)

-- ---- texts that no row names
unnamed_differs : (all : List AclRow) (a l : List ℕ) → rows_name a all ≡ false
    → rows_name l all ≡ true → not (bytes_eq l a) ≡ true
unnamed_differs all a l n h = ap not (false_from_ne_true _ (λ e. let k : true ≡ false =
    sym h ∙ ap (λ t. rows_name t all) (text_is l a e) ∙ n in cc))

module _ (f : Fresh) (a b : List ℕ) where
  one_apart : (row : AclRow) → fits (is_literal f) (levels row.filter) ≡ true
      → ((l : List ℕ) → row_names l row ≡ true → is_apart a b l ≡ true)
      → row_apart a b row ≡ true
  one_apart row fit h = grind (arith, fits_named, literal_is_no_wildcard, text_itself)

  all_apart : (all : List AclRow) → rows_fit (is_literal f) all ≡ true
      → ((l : List ℕ) → rows_name l all ≡ true → is_apart a b l ≡ true)
      → list_all (row_apart a b) all ≡ true
  all_apart [] fit h = refl
  all_apart (row ∷ all) fit h = grind (arith, all_apart all, one_apart)

-- ---- placeholders
-- a placeholder can be a level, and is not empty
pub record IsPlaceholder (text : List ℕ) : Type 0 where
  pub level : is_name_level text ≡ true
  pub id : can_be_id text ≡ true

placeholder_is : (t : FreshTexts) (f : Fresh) → AreFresh f → IsSeen t f → (text : List ℕ)
    → list_any (bytes_eq text) (fresh_texts t) ≡ true → IsPlaceholder text
placeholder_is t f fresh seen text =
    one_of t text IsPlaceholder
    (same f.others.plain.now seen.plain others.plain_level others.plain_some)
    (same f.others.dollar.now seen.dollar others.dollar_level others.dollar_some)
    (same f.client.now seen.client (choice_is_level f.others f.client.now fresh.client.choice)
    fresh.client.some)
    (same f.user.now seen.user (choice_is_level f.others f.user.now fresh.user.choice)
    fresh.user.some)
  where
    others : OthersAre f
    others = others_are f fresh

    same : (id : List ℕ) {s : List ℕ} → id ≡ s → is_name_level id ≡ true
        → (length id == 0) ≡ false → IsPlaceholder s
    same id is level some =
        subst IsPlaceholder is (record { level = level; id = level_can_be_id id level some })

-- each placeholder is among those of the one kind or the other, and no row names it
pub both_made : (asked : AskedRows) {texts dollar longest : FreshTexts} {users : Literals}
    {plain begin : Fresh} → CanAnswer asked.rows texts dollar longest users
    → asked.placeholders ≡ fresh_texts texts ++ fresh_texts dollar → IsSeen texts plain
    → IsSeen dollar begin → (text : List ℕ) → is_placeholder text asked ≡ true
    → IsPlaceholder text × (rows_name text asked.rows ≡ false)
both_made asked {texts} {dollar} {longest} {users} {plain} {begin} can made seen begun text h =
    or_cases (list_any (bytes_eq text) (fresh_texts texts)) _
    (sym (ap (list_any (bytes_eq text)) made
    ∙ list_any-append (bytes_eq text) (fresh_texts texts) (fresh_texts dollar)) ∙ h)
    (λ e. (
      placeholder_is texts plain (can.asked_can.fresh plain seen) seen text e,
      can.asked_can.unnamed text e,
    ))
    (λ e. (
      placeholder_is dollar begin (can.dollar_can.fresh begin begun) begun text e,
      can.dollar_can.unnamed text e,
    ))

-- texts, as they are lent
abbrev lent : List ℕ → Bor (List ℕ)
lent text = record { ref_ptr = (0, 0); now = text }

abbrev lent_texts : FreshTexts → Fresh
lent_texts t = record {
  others = record { plain = lent (string_bytes t.plain); dollar = lent (string_bytes t.dollar) };
  client = lent (string_bytes t.client);
  user = lent (string_bytes t.user);
}

texts_seen : (t : FreshTexts) → IsSeen t (lent_texts t)
texts_seen t = record { plain = refl; dollar = refl; client = refl; user = refl }

pub all_made : (asked : AskedRows) {texts dollar longest : FreshTexts} {users : Literals}
    → CanAnswer asked.rows texts dollar longest users
    → asked.placeholders ≡ fresh_texts texts ++ fresh_texts dollar → (text : List ℕ)
    → is_placeholder text asked ≡ true → IsPlaceholder text × (rows_name text asked.rows ≡ false)
all_made asked {texts} {dollar} can made =
    both_made asked can made (texts_seen texts) (texts_seen dollar)

-- ---- whoever is asked about
swapped_client : (asked : AskedRows) (clients : Clients) (a b : List ℕ) (user : Option (List ℕ))
    → rows_name a asked.rows ≡ false → rows_name b asked.rows ≡ false → can_be_id a ≡ true
    → can_be_id b ≡ true → IsListed asked clients
    → is_of (λ u. is_user_of u asked.rows) clients user ≡ true
    → is_of (λ u. is_user_of u asked.rows) clients (swap_user a b user) ≡ true
swapped_client asked Anonymous a b None na nb ia ib listed h = h
swapped_client asked Anonymous a b (Some u) na nb ia ib listed h = h
swapped_client asked (Named name) a b None na nb ia ib listed h = h
swapped_client asked (Named name) a b (Some u) na nb ia ib listed h =
    let is = text_is u name.now (and_parts _ _ h).0 in
    let named = ap (λ t. rows_name t asked.rows) is ∙ user_is_named asked.rows name.now listed in
    ap (λ t. bytes_eq t name.now && can_be_id t)
    (swap_apart a b u (and_from _ _
    (unnamed_differs asked.rows a u na named) (unnamed_differs asked.rows b u nb named))) ∙ h
swapped_client asked Others a b None na nb ia ib listed h = h
swapped_client asked Others a b (Some u) na nb ia ib listed h =
    grind (arith, swap_cases, false_is, user_is_named)

-- what is shown is shown with any text in the place of one that stands for it
pub shows_others : (asked : AskedRows) (f : Fresh) {clients : Clients} {must cover : List AclRow}
    {front : Bool} {client : List ℕ} {user : Option (List ℕ)} {name : List ℕ}
    → rows_fit (is_literal f) asked.rows ≡ true
    → ((text : List ℕ) → is_placeholder text asked ≡ true
    → IsPlaceholder text × (rows_name text asked.rows ≡ false))
    → IsListed asked clients → All (Contains asked.rows) must → All (Contains asked.rows) cover
    → IsShownIn front asked clients must cover client user name
    → ShowsOthersIn front asked clients must cover client user name
shows_others asked f {clients} {must} {cover} {front} {client} {user} {name} fit made listed must_in
    cover_in shown a b stands valid =
    let first = (made a stands.placeholder).0 in
    let unnamed = (made a stands.placeholder).1 in
    let alike : AreAlike a b = record {
      dollar = stands.dollar;
      slash = no_slash a (and_parts _ _ first.level).0;
      other_slash = no_slash b stands.level;
    } in
    let apart = all_apart f a b asked.rows fit
    (λ l i. and_from _ _ (unnamed_differs asked.rows a l unnamed i)
    (unnamed_differs asked.rows b l stands.unnamed i)) in
    record {
      client_fits = swap_cases a b client (λ t. can_be_id t ≡ true) first.id stands.id
          shown.client_fits;
      user_fits = swapped_client asked clients a b user unnamed stands.unnamed first.id stands.id
          listed shown.user_fits;
      valid = valid;
      decided = sym (decides_swapped front a b alike client name user must cover
          (all_contained (row_apart a b) asked.rows must apart must_in)
          (all_contained (row_apart a b) asked.rows cover apart cover_in)) ∙ shown.decided;
    }
