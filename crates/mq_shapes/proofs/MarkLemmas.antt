-- Filters with `%c`, and names along them.
use Rattle.std.proofs.Common.{◌≡◌, ◌∙◌, ◌&&◌, ◌||◌, ◌==◌, ℕ, Bool, true, false, not, List, []}
use Rattle.std.proofs.Common.{◌∷◌, ◌++◌, Option, ap, bytes_eq, codes, length, refl, subst, sym}
use Rattle.std.specs.List.{list_any}
use Rattle.std.specs.Option.{unwrap_or}
use Rattle.std.proofs.Math.Bool.{and-false}
use Rattle.std.proofs.Math.Dec.{eqb-suc-zero}
use Rattle.std.proofs.lemmas.Bool.{and_parts}
use Rattle.mq_topic.proofs.ByteLemmas.{text_is}
use Rattle.mq_topic.specs.Levels.{levels}
use Rattle.mq_topic.specs.Texts.{contains_byte}
use Rattle.mq_acl.specs.Rows.{AclRow}
use Rattle.mq_acl.specs.RowsByOwner.{is_everyones}
use Rattle.mq_unify.specs.Rows.{row_matches}
use Rattle.mq_unify.specs.Clients.{IsMade, goes_along, made, made_levels}
use Rattle.mq_unify.specs.declared.shape.ClientShape.{ClientShape}
use Rattle.mq_unify.proofs.FilterLemmas.{all_lack, along_made, first_made, levels_lack, match_rest}
use Rattle.mq_unify.proofs.MadeLemmas.{client_made}
use Rattle.mq_shapes.proofs.FewLemmas.{goes-append}

abbrev pub is_client_mark : List ℕ → Bool
is_client_mark l = bytes_eq l (codes "%c")

-- the first `%c`, and the levels round it
pub record IsSplit (ls : List (List ℕ)) : Type 0 where
  pub before : List (List ℕ)
  pub after : List (List ℕ)
  pub is : ls ≡ before ++ codes "%c" ∷ after
  pub none : list_any is_client_mark before ≡ false

pub split_mark : (ls : List (List ℕ)) → list_any is_client_mark ls ≡ true → IsSplit ls
split_mark [] h = absurd (let n : false ≡ true = h in cc)
split_mark (l ∷ ls) h = by (split_mark ls) (is_client_mark l) refl
  where
    by : (list_any is_client_mark ls ≡ true → IsSplit ls) → (b : Bool) → is_client_mark l ≡ b
        → IsSplit (l ∷ ls)
    by next true e = record {
      before = [];
      after = ls;
      is = ap (λ k. k ∷ ls) (text_is l (codes "%c") e);
      none = refl;
    }
    by next false e =
        let more = next (sym (ap (λ b. b || list_any is_client_mark ls) e) ∙ h) in
        record {
          before = l ∷ more.before;
          after = more.after;
          is = ap (λ k. l ∷ k) more.is;
          none = (λ i. e i || more.none i);
        }

some_behind : (before after : List (List ℕ))
    → (length (before ++ codes "%c" ∷ after) == 0) ≡ false
some_behind [] after = eqb-suc-zero (length after)
some_behind (w ∷ before) after = eqb-suc-zero (length (before ++ codes "%c" ∷ after))

-- a name goes along the levels before `%c`, those of the id, and what is behind it
pub mark_along : (shape : ClientShape) (values : ℕ → List ℕ) (client : List ℕ)
    (user : Option (List ℕ)) (before after : List (List ℕ))
    → all_lack (before ++ codes "%c" ∷ after) ≡ true
    → IsMade shape true values client user (before ++ codes "%c" ∷ after) → (ls : List (List ℕ))
    → match_rest (made_levels true client (unwrap_or user []) (before ++ codes "%c" ∷ after)) ls
    ≡ goes_along (made_levels true client (unwrap_or user []) before) (goes_along (levels client)
    (match_rest (made_levels true client (unwrap_or user []) after))) ls
mark_along shape values client user [] after lack m ls =
    let both = first_made shape true values client user (codes "%c") after lack m in
    along_made shape true values client user (codes "%c") after ls both.0 refl
    ∙ ap (λ ws. goes_along ws (match_rest (made_levels true client (unwrap_or user []) after)) ls)
    (client_made client (unwrap_or user []) (codes "%c") refl)
mark_along shape values client user (w ∷ before) after lack m ls =
    let name = unwrap_or user [] in
    let behind = before ++ codes "%c" ∷ after in
    let both = first_made shape true values client user w behind lack m in
    let rest = mark_along shape values client user before after
    (and_parts (not (contains_byte 47 w)) (all_lack behind) lack).1 both.1 in
    along_made shape true values client user w behind ls both.0
    (ap (λ b. bytes_eq w (codes "#") && b) (some_behind before after)
    ∙ and-false (bytes_eq w (codes "#")))
    ∙ (λ i. goes_along (made true client name w) (λ k. rest k i) ls)
    ∙ sym (goes-append (made true client name w) (made_levels true client name before)
    (goes_along (levels client) (match_rest (made_levels true client name after))) ls)

-- the levels behind it are asked as all of them
pub made_after : (shape : ClientShape) (values : ℕ → List ℕ) (client : List ℕ)
    (user : Option (List ℕ)) (before after : List (List ℕ))
    → all_lack (before ++ codes "%c" ∷ after) ≡ true
    → IsMade shape true values client user (before ++ codes "%c" ∷ after)
    → IsMade shape true values client user after
made_after shape values client user [] after lack m =
    (first_made shape true values client user (codes "%c") after lack m).1
made_after shape values client user (w ∷ before) after lack m =
    let behind = before ++ codes "%c" ∷ after in
    made_after shape values client user before after
    (and_parts (not (contains_byte 47 w)) (all_lack behind) lack).1
    (first_made shape true values client user w behind lack m).1

-- of a row that has it
pub as_pattern : (shape : ClientShape) (values : ℕ → List ℕ) (client : List ℕ)
    (user : Option (List ℕ)) (row : AclRow) (ls : List (List ℕ)) → levels row.filter ≡ ls
    → is_everyones row.who ≡ true
    → IsMade shape (is_everyones row.who) values client user (levels row.filter)
    → IsMade shape true values client user ls
as_pattern shape values client user row ls is e m =
    subst (IsMade shape true values client user) is
    (subst (λ b. IsMade shape b values client user (levels row.filter)) e m)

pub row_along : (shape : ClientShape) (values : ℕ → List ℕ) (client : List ℕ)
    (user : Option (List ℕ)) (row : AclRow) (before after : List (List ℕ))
    → levels row.filter ≡ before ++ codes "%c" ∷ after → is_everyones row.who ≡ true
    → IsMade shape (is_everyones row.who) values client user (levels row.filter)
    → (ls : List (List ℕ)) → row_matches client user ls row
    ≡ goes_along (made_levels true client (unwrap_or user []) before) (goes_along (levels client)
    (match_rest (made_levels true client (unwrap_or user []) after))) ls
row_along shape values client user row before after is e m ls =
    ap (λ b. match_rest (made_levels b client (unwrap_or user []) (levels row.filter)) ls) e
    ∙ ap (λ fs. match_rest (made_levels true client (unwrap_or user []) fs) ls) is
    ∙ mark_along shape values client user before after
    (ap all_lack (sym is) ∙ levels_lack row.filter)
    (as_pattern shape values client user row (before ++ codes "%c" ∷ after) is e m) ls
