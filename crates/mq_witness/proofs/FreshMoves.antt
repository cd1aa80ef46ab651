-- The levels that no row names, in the place of a name's.
use Rattle.std.proofs.Common.{◌≡◌, ℕ, ◌==◌, Bool, true, false, cond, not, ◌&&◌, List, [], ◌∷◌, length}
use Rattle.std.proofs.Common.{bytes_eq, refl, ap, sym, ◌∙◌, map, if◌then◌else◌, ◌⊎◌, inl, inr}
use Rattle.std.proofs.Common.{arith}
use Rattle.std.proofs.lemmas.Bool.{and_from, and_parts, cond-true, cond_both, not-true}
use Rattle.mq_topic.proofs.ByteLemmas.{text_flip}
use Rattle.mq_acl.specs.Access.{begins_with_dollar}
use Rattle.mq_cover.specs.Names.{fits_start, is_choice, is_name_level, suits}
use Rattle.mq_cover.specs.declared.start.Start.TheVariants as starts
use Rattle.mq_cover.specs.declared.start.Start.TheVariants.{Slash, Inside}
use Rattle.mq_cover.proofs.NameLemmas.{no_dollar, suits_inside}
use Rattle.mq_witness.specs.Fresh.{is_literal, AreFresh, IsFreshId}
use Rattle.mq_witness.specs.Names.{are_begun, has_front, start_at}
use Rattle.mq_witness.specs.declared.fresh.Fresh.{Fresh}
use Rattle.mq_witness.specs.declared.names.Names.{Names}
use Rattle.mq_witness.specs.declared.names.Names.TheVariants.{Plain, Dollar, Readable, Writable}
use Rattle.mq_witness.specs.declared.names.Names.TheVariants.{States}
use Rattle.mq_witness.proofs.FrontLemmas.{front_begun, plain_front, writable_front}

-- the level that stands for all that no row names, at the front of a name too
abbrev pub other_of : Fresh → List ℕ → List ℕ
other_of f l = if begins_with_dollar l then f.others.dollar.now else f.others.plain.now

-- what stands for a level: itself where it is kept, the id that stands for others where it is the
-- user's or the client's, and else the level that does
abbrev pub move : Fresh → (keep user client : List ℕ → Bool) → List ℕ → List ℕ
move f keep user client l = if keep l then l else (if user l then f.user.now
    else (if client l then f.client.now else other_of f l))

-- ---- what a level that a row may name isn't
pub record IsApart (f : Fresh) (w : List ℕ) : Type 0 where
  pub level : is_name_level w ≡ true
  pub plain : bytes_eq w f.others.plain.now ≡ false
  pub dollar : bytes_eq w f.others.dollar.now ≡ false
  pub client : bytes_eq w f.client.now ≡ false
  pub user : bytes_eq w f.user.now ≡ false

-- a level that a row may name is apart from all texts that stand for others
pub literal_is : (f : Fresh) (w : List ℕ) → is_literal f w ≡ true → IsApart f w
literal_is f w h = grind arith

-- it may be chosen
pub literal_is_choice : (f : Fresh) (w : List ℕ) → is_literal f w ≡ true
    → is_choice f.others w ≡ true
literal_is_choice f w h = (and_parts _ _ (and_parts _ _ h).0).0

-- an id that stands for others is no level that does
pub record IsNoOther (f : Fresh) (id : List ℕ) : Type 0 where
  pub plain : bytes_eq f.others.plain.now id ≡ false
  pub dollar : bytes_eq f.others.dollar.now id ≡ false

pub id_is : (f : Fresh) (id : List ℕ) → IsFreshId f id → IsNoOther f id
id_is f id h = grind (arith, text_flip)

-- levels are moved so, and all that are kept are such as a row may name
pub record CanMove (f : Fresh) (keep user client : List ℕ → Bool) : Type 0 where
  pub fresh : AreFresh f
  pub kept : (l : List ℕ) → keep l ≡ true → is_literal f l ≡ true
  pub one_user : (a b : List ℕ) → user a ≡ true → user b ≡ true → a ≡ b

-- what is known of the levels that stand for others
pub record OthersAre (f : Fresh) : Type 0 where
  pub plain_level : is_name_level f.others.plain.now ≡ true
  pub dollar_level : is_name_level f.others.dollar.now ≡ true
  pub plain_some : (length f.others.plain.now == 0) ≡ false
  pub dollar_some : (length f.others.dollar.now == 0) ≡ false
  pub plain : begins_with_dollar f.others.plain.now ≡ false
  pub dollar : begins_with_dollar f.others.dollar.now ≡ true
  pub front : fits_start starts.Writable f.others.dollar.now ≡ true

pub others_are : (f : Fresh) → AreFresh f → OthersAre f
others_are f fresh =
    let all = and_parts _ (is_name_level f.others.dollar.now) fresh.others in
    let four = and_parts _ (fits_start starts.Writable f.others.dollar.now) all.0 in
    let three = and_parts _ (is_name_level f.others.plain.now) four.0 in
    let two = and_parts (not (length f.others.plain.now == 0)) _ three.0 in
    let begins = (and_parts (begins_with_dollar f.others.dollar.now) _ four.1).0 in
    record {
      plain_level = three.1;
      dollar_level = all.1;
      plain_some = not-true _ two.0;
      dollar_some = no_dollar f.others.dollar.now begins;
      plain = not-true _ two.1;
      dollar = begins;
      front = four.1;
    }

-- the ids begin as no name that the broker refuses does, or with no `$`
abbrev pub has_ids : Fresh → Bool → Bool
has_ids f true = fits_start starts.Writable f.client.now
has_ids f false = not (begins_with_dollar f.client.now)

ids_front : (names : Names) (f : Fresh) → AreFresh f → has_ids f (are_begun names) ≡ true
    → (has_front names f.client.now ≡ true) × (has_front names f.user.now ≡ true)
ids_front Plain f fresh h = (h, ap not fresh.begin ∙ h)
ids_front Dollar f fresh h = (
  writable_front Dollar f.client.now refl h,
  writable_front Dollar f.user.now refl (fresh.front ∙ h),
)
ids_front Readable f fresh h = (
  writable_front Readable f.client.now refl h,
  writable_front Readable f.user.now refl (fresh.front ∙ h),
)
ids_front Writable f fresh h = (h, fresh.front ∙ h)
ids_front States f fresh h = (
  writable_front States f.client.now refl h,
  writable_front States f.user.now refl (fresh.front ∙ h),
)

-- two texts that differ don't pass the test
pub no : {A : Type 0} {b : Bool} → b ≡ false → b ≡ true → A
no e h = absurd (let n : false ≡ true = sym e ∙ h in cc)

module _ {f : Fresh} {keep user client : List ℕ → Bool} (can : CanMove f keep user client) where
  -- what holds of each text that may stand for a level holds of the one that does
  pub moved_by : (P : List ℕ → Type 0) (l : List ℕ) → (keep l ≡ true → P l)
      → (keep l ≡ false → user l ≡ true → P f.user.now)
      → (user l ≡ false → client l ≡ true → P f.client.now)
      → (user l ≡ false → client l ≡ false → P (other_of f l)) → P (move f keep user client l)
  moved_by P l k u c o = cond_both (keep l) _ _ P k (λ e. cond_both (user l) _ _ P (u e)
      (λ n. cond_both (client l) _ _ P (c n) (o n)))

  other_by : (P : List ℕ → Type 0) (l : List ℕ)
      → (begins_with_dollar l ≡ true → P f.others.dollar.now)
      → (begins_with_dollar l ≡ false → P f.others.plain.now) → P (other_of f l)
  other_by P l d p = cond_both (begins_with_dollar l) _ _ P d p

  -- only a level that is kept becomes one that a row may name
  pub moved_kept : (w l : List ℕ) → is_literal f w ≡ true
      → bytes_eq w (move f keep user client l) ≡ true
      → (keep l ≡ true) × (bytes_eq w l ≡ true)
  moved_kept w l h =
      let apart = literal_is f w h in
      let P : List ℕ → Type 0 = λ t. bytes_eq w t ≡ true → (keep l ≡ true) × (bytes_eq w l ≡ true)
      in
      moved_by P l (λ k e. (k, e)) (λ n u. no apart.user) (λ n c. no apart.client)
      (λ n m. other_by P l (λ d. no apart.dollar) (λ d. no apart.plain))

  -- only the user's becomes the user name that stands for others
  pub moved_user : (l : List ℕ) → bytes_eq (move f keep user client l) f.user.now ≡ true
      → user l ≡ true
  moved_user l =
      let none = id_is f f.user.now can.fresh.user in
      let P : List ℕ → Type 0 = λ t. bytes_eq t f.user.now ≡ true → user l ≡ true in
      moved_by P l (λ k. no (literal_is f l (can.kept l k)).user) (λ n u e. u)
      (λ n c. no (text_flip f.client.now f.user.now ∙ can.fresh.apart))
      (λ n m. other_by P l (λ d. no none.dollar) (λ d. no none.plain))

  -- only the client's becomes the client id that stands for others
  pub moved_client : (l : List ℕ) → bytes_eq (move f keep user client l) f.client.now ≡ true
      → client l ≡ true
  moved_client l =
      let none = id_is f f.client.now can.fresh.client in
      let P : List ℕ → Type 0 = λ t. bytes_eq t f.client.now ≡ true → client l ≡ true in
      moved_by P l (λ k. no (literal_is f l (can.kept l k)).client) (λ n u. no can.fresh.apart)
      (λ n c e. c)
      (λ n m. other_by P l (λ d. no none.dollar) (λ d. no none.plain))

  -- what is kept stays
  pub move_keep : (l : List ℕ) → keep l ≡ true → move f keep user client l ≡ l
  move_keep l k = cond-true (keep l) _ _ k

  -- ---- names
  -- only what stays is empty
  moved_some : (l : List ℕ) → (length (move f keep user client l) == 0) ≡ true
      → move f keep user client l ≡ l
  moved_some l =
      let others = others_are f can.fresh in
      let P : List ℕ → Type 0 = λ t. (length t == 0) ≡ true → t ≡ l in
      moved_by P l (λ k e. refl)
      (λ n u. no can.fresh.user.some) (λ n c. no can.fresh.client.some)
      (λ n m. other_by P l (λ d. no others.dollar_some) (λ d. no others.plain_some))

  -- at the front of a name a level is kept, or nobody's, or the ids begin as the names do
  abbrev pub StaysAtFront : Names → List ℕ → Type 0
  StaysAtFront names l = (keep l ≡ true)
      ⊎ (((user l ≡ false) × (client l ≡ false)) ⊎ (has_ids f (are_begun names) ≡ true))

  moved_front : (names : Names) (l : List ℕ) → StaysAtFront names l
      → has_front names l ≡ true → has_front names (move f keep user client l) ≡ true
  moved_front names l stays e = at stays
    where
      others : OthersAre f
      others = others_are f can.fresh

      by : (user l ≡ true → has_front names f.user.now ≡ true)
          → (client l ≡ true → has_front names f.client.now ≡ true)
          → has_front names (move f keep user client l) ≡ true
      by u c = moved_by (λ t. has_front names t ≡ true) l (λ k. e) (λ n. u) (λ n. c)
          (λ n m. other_by (λ t. has_front names t ≡ true) l
          (λ d. writable_front names f.others.dollar.now (sym (front_begun names l e) ∙ d)
          others.front)
          (λ d. plain_front names f.others.plain.now (sym (front_begun names l e) ∙ d)
          others.plain))

      at : StaysAtFront names l → has_front names (move f keep user client l) ≡ true
      at (inl k) = ap (has_front names) (move_keep l k) ∙ e
      at (inr (inl n)) = by (no n.0) (no n.1)
      at (inr (inr ids)) = by (λ u. (ids_front names f can.fresh ids).1)
          (λ c. (ids_front names f can.fresh ids).0)

  slash_suits : (g : List ℕ → List ℕ) (ls : List (List ℕ)) → suits Slash ls ≡ true
      → suits Slash (map g ls) ≡ true
  slash_suits g [] s = s
  slash_suits g (l ∷ ls) s = suits_inside (map g ls)

  begun_moved : (names : Names) (l : List ℕ) (ls : List (List ℕ)) → StaysAtFront names l
      → has_front names l ≡ true
      → (has_front names (move f keep user client l)
      && suits Inside (map (move f keep user client) ls)) ≡ true
  begun_moved names l ls stays e = and_from _ _ (moved_front names l stays e)
      (suits_inside (map (move f keep user client) ls))

  -- a name with its levels moved is one of the same kind
  pub suits_moved : (names : Names) (l : List ℕ) (ls : List (List ℕ)) → StaysAtFront names l
      → suits (start_at names) (l ∷ ls) ≡ true
      → suits (start_at names) (map (move f keep user client) (l ∷ ls)) ≡ true
  suits_moved Dollar l ls stays s = begun_moved Dollar l ls stays (and_parts _ _ s).0
  suits_moved Readable l ls stays s =
      begun_moved Readable l ls stays (and_parts (has_front Readable l) _ s).0
  suits_moved Writable l ls stays s =
      begun_moved Writable l ls stays (and_parts (has_front Writable l) _ s).0
  suits_moved States l ls stays s = begun_moved States l ls stays (and_parts _ _ s).0
  suits_moved Plain l ls stays s =
      let parts = and_parts (not (begins_with_dollar l)) _ s in
      and_from _ _ (moved_front Plain l stays parts.0)
      (cond_both (length (move f keep user client l) == 0) Slash Inside
      (λ t. suits t (map (move f keep user client) ls) ≡ true)
      (λ e. slash_suits (move f keep user client) ls
      (sym (ap (λ b. suits (cond b Slash Inside) ls)
      (ap (λ t. length t == 0) (sym (moved_some l e)) ∙ e)) ∙ parts.1))
      (λ e. suits_inside (map (move f keep user client) ls)))
