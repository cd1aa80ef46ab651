-- Tests that what is found passes.
use Rattle.std.proofs.Common.{◌≡◌, ◌∙◌, ◌||◌, ℕ, Bool, true, false, not, List, [], ◌∷◌, Option, Some, None}
use Rattle.std.proofs.Common.{Bor, Err, IfOk, IfSome, Ok, Result, ap, bytes_eq, codes, map, refl, sym}
use Rattle.std.specs.List.{list_all, list_any}
use Rattle.std.specs.Option.{unwrap_or}
use Rattle.std.proofs.lemmas.Bool.{and_parts, or_parts}
use Rattle.mq_topic.specs.Levels.{levels}
use Rattle.mq_acl.specs.Lines.{is_pattern_level}
use Rattle.mq_acl.specs.Rows.{AclRow}
use Rattle.mq_acl.specs.RowsByOwner.{is_everyones}
use Rattle.mq_unify.specs.Clients.{user_passes}
use Rattle.mq_unify.specs.Rows.{rows_fit}
use Rattle.mq_unify.proofs.FilterLemmas.{levels_lack}
use Rattle.mq_shapes.specs.Every.{has_user_mark}
use Rattle.mq_shapes.specs.Filled.{row_levels}
use Rattle.mq_shapes.specs.Found.{all_fit, has_whole_marks}
use Rattle.mq_shapes.specs.Passed.{IsAsked, Passes, ShapePasses}
use Rattle.mq_cover.specs.declared.others.Others.{Others}
use Rattle.mq_unify.specs.declared.shape.UserShape.TheVariants.{Absent, Known, Levels}
use Rattle.mq_shapes.proofs.AnyLemmas.{same_beside_user, same_filled}
use Rattle.mq_shapes.proofs.RowLemmas.{filled_fit}

-- rows without `%u` are the same for any user name
module _ (client user other : List ℕ) where
  same_row : (row : AclRow) → has_whole_marks row ≡ true → has_user_mark row ≡ false
      → row_levels client user row ≡ row_levels client other row
  same_row row w h =
      same_filled client user client other (λ l. bytes_eq l (codes "%u"))
      (same_beside_user client user other) (is_everyones row.who) (levels row.filter)
      (levels_lack row.filter) (λ e. whole (is_everyones row.who) e w) h
    where
      whole : (pattern : Bool) → pattern ≡ true
          → (not pattern || list_all is_pattern_level (levels row.filter)) ≡ true
          → list_all is_pattern_level (levels row.filter) ≡ true
      whole true e w = w
      whole false e w = absurd (let k : false ≡ true = e in cc)

  same_rows : (rows : List AclRow) → list_all has_whole_marks rows ≡ true
      → list_any has_user_mark rows ≡ false
      → map (row_levels client user) rows ≡ map (row_levels client other) rows
  same_rows [] w h = refl
  same_rows (row ∷ rows) w h =
      let whole = and_parts (has_whole_marks row) (list_all has_whole_marks rows) w in
      let bare = or_parts (has_user_mark row) (list_any has_user_mark rows) h in
      (λ i. same_row row whole.0 bare.0 i ∷ same_rows rows whole.1 bare.1 i)

-- the levels of a client's rows pass a test that those of the rows and of the client pass
pub client_fit : (p : List ℕ → Bool) (client : List ℕ) (user : Option (List ℕ))
    (rows : List AclRow) → list_all has_whole_marks rows ≡ true → rows_fit p rows ≡ true
    → list_all p (levels client) ≡ true → user_passes p user ≡ true → IsAsked user rows
    → all_fit p (map (row_levels client (unwrap_or user [])) rows) ≡ true
client_fit p client None rows w f c u asked =
    ap (all_fit p) (same_rows client [] client rows w (asked refl))
    ∙ filled_fit p client client c c rows w f
client_fit p client (Some user) rows w f c u asked = filled_fit p client user c u rows w f

-- ---- by the kinds of user names
module _ (o : Others) (prefix : List ℕ) (must : List AclRow) (client : List ℕ)
    (user : Option (List ℕ)) (topic : List ℕ) where
  pub passes_others : (most : ℕ) (name : List ℕ) → user ≡ Some name
      → ShapePasses o prefix (Levels most) must client user topic
      → Passes o prefix [] must client user topic
  passes_others most name e so test p d f r k =
      so test p d f r refl (λ n. absurd (let no : Some name ≡ None = sym e ∙ n in cc))

  pub passes_named : (name : Bor (List ℕ)) → user ≡ Some name.now
      → ShapePasses o prefix (Known name) must client user topic
      → Passes o prefix (levels name.now) must client user topic
  passes_named name e so test p d f r k =
      so test p d f r k (λ n. absurd (let no : Some name.now ≡ None = sym e ∙ n in cc))

  pub passes_unnamed : list_any has_user_mark must ≡ false
      → ShapePasses o prefix Absent must client user topic
      → Passes o prefix [] must client user topic
  passes_unnamed bare so test p d f r k = so test p d f r refl (λ n. bare)

-- what follows from two things that are said of what is found
pub if_both : {X E : Type 0} {P Q R : X → Type 0} → ((x : X) → P x → Q x → R x)
    → (r : Result (Option X) E) → IfOk r (λ f. IfSome f P) → IfOk r (λ f. IfSome f Q)
    → IfOk r (λ f. IfSome f R)
if_both so (Err e) p q = tt
if_both so (Ok None) p q = p
if_both so (Ok (Some x)) p q = so x p q
