-- The levels that stand in the places of marks.
use Rattle.std.proofs.Common.{◌≡◌, ◌==◌, ℕ, zero, suc, Bool, true, false, ◌&&◌, List, [], ◌∷◌, ◌++◌}
use Rattle.std.proofs.Common.{refl, ap, sym, ◌∙◌, subst, bytes_eq, codes, Bor, arith, Option, Some, None, nat_eq}
use Rattle.std.specs.List.{starts_with}
use Rattle.std.specs.Option.{unwrap_or}
use Rattle.std.proofs.lemmas.List.{append-nil}
use Rattle.mq_topic.proofs.ByteLemmas.{text_is}
use Rattle.mq_topic.specs.Levels.{levels}
use Rattle.mq_topic.specs.Texts.{is_plain}
use Rattle.mq_acl.specs.Filled.{filled}
use Rattle.mq_acl.specs.Lines.{is_pattern_level}
use Rattle.mq_acl.specs.Words.{occurs_in}
use Rattle.mq_acl.proofs.FilledLemmas.{plain_levels}
use Rattle.mq_unify.specs.Clients.{HasShape, HasUser, IsMadeOf, are_plain, goes_along, made}
use Rattle.mq_unify.specs.Clients.{values_from}
use Rattle.mq_unify.specs.Terms.{terms_fit, goes_by, variables}
use Rattle.mq_unify.specs.declared.shape.ClientShape.{ClientShape}
use Rattle.mq_unify.specs.declared.shape.UserShape.{UserShape}
use Rattle.mq_unify.specs.declared.shape.UserShape.TheVariants.{Known, Levels}
use Rattle.mq_unify.specs.declared.term.Term.{Term}
use Rattle.mq_unify.proofs.TermLemmas.{goes-append, goes_alike, goes_variables, fit-append}

-- ---- variables
variables_fit : (test : List ℕ → Bool) (first count : ℕ)
    → terms_fit test (variables first count) ≡ true
variables_fit test first zero = refl
variables_fit test first (suc count) = variables_fit test (suc first) count

pub more_fit : (test : List ℕ → Bool) (first count : ℕ) (older terms : List Term)
    → terms ≡ older ++ variables first count → terms_fit test older ≡ true
    → terms_fit test terms ≡ true
more_fit test first count older terms e h = ap (terms_fit test) e
    ∙ fit-append test older (variables first count) h (variables_fit test first count)

pub client_goes : (shape : ClientShape) (values : ℕ → List ℕ) (client : List ℕ)
    (user : Option (List ℕ)) (behind : List (List ℕ) → Bool) (ls : List (List ℕ))
    (older terms : List Term) → terms ≡ older ++ variables 0 shape.levels
    → HasShape shape values client user → is_plain client ≡ true
    → goes_by values terms behind ls ≡ goes_by values older (goes_along (levels client) behind) ls
client_goes shape values client user behind ls older terms e is p =
    ap (λ ts. goes_by values ts behind ls) e
    ∙ goes-append values older (variables 0 shape.levels) behind ls
    ∙ goes_alike values older _ _
    (λ k. goes_variables values 0 shape.levels behind k
    (ap are_plain (sym is.client_is) ∙ plain_levels client p)
    ∙ ap (λ ws. goes_along ws behind k) (sym is.client_is)) ls

pub user_goes : (shape : ClientShape) (count : ℕ) (values : ℕ → List ℕ) (client user : List ℕ)
    (behind : List (List ℕ) → Bool) (ls : List (List ℕ)) (older terms : List Term)
    → shape.user ≡ Levels count → terms ≡ older ++ variables shape.levels count
    → HasShape shape values client (Some user) → is_plain user ≡ true
    → goes_by values terms behind ls ≡ goes_by values older (goes_along (levels user) behind) ls
user_goes shape count values client user behind ls older terms s e is p =
    let same : levels user ≡ values_from values shape.levels count =
    subst (λ (u : UserShape). HasUser values shape.levels u (Some user)) s is.user_is in
    ap (λ ts. goes_by values ts behind ls) e
    ∙ goes-append values older (variables shape.levels count) behind ls
    ∙ goes_alike values older _ _
    (λ k. goes_variables values shape.levels count behind k
    (ap are_plain (sym same) ∙ plain_levels user p)
    ∙ ap (λ ws. goes_along ws behind k) (sym same)) ls

-- ---- a level that is no mark
no_mark_here : (x a b : ℕ) (rest : List ℕ)
    → starts_with nat_eq (a ∷ b ∷ rest) (37 ∷ x ∷ []) ≡ false → (a == 37 && b == x) ≡ false
no_mark_here x a b rest h = grind arith

pub unmarked : (client user w : List ℕ) → occurs_in (codes "%c") w ≡ false
    → occurs_in (codes "%u") w ≡ false → filled client user w ≡ w
unmarked client user [] c u = refl
unmarked client user (a ∷ []) c u = refl
unmarked client user (a ∷ b ∷ rest) c u =
    grind (arith, unmarked client user (b ∷ rest), no_mark_here)

pub none_in : (w : List ℕ) → is_pattern_level w ≡ true → bytes_eq w (codes "%c") ≡ false
    → bytes_eq w (codes "%u") ≡ false
    → (occurs_in (codes "%c") w ≡ false) × (occurs_in (codes "%u") w ≡ false)
none_in w p e f = grind arith

pub plain_made : (shape : ClientShape) (pattern : Bool) (values : ℕ → List ℕ) (client : List ℕ)
    (user : Option (List ℕ)) (level : List ℕ) → IsMadeOf shape pattern values client user level
    → (pattern && bytes_eq level (codes "%c")) ≡ false
    → (pattern && bytes_eq level (codes "%u")) ≡ false
    → made pattern client (unwrap_or user []) level ≡ level ∷ []
plain_made shape false values client user level is e f = refl
plain_made shape true values client user level is e f =
    let none = none_in level (is.whole refl) e f in
    ap levels (unmarked client (unwrap_or user []) level none.0 none.1) ∙ is.single

pub client_made : (client user level : List ℕ) → bytes_eq level (codes "%c") ≡ true
    → made true client user level ≡ levels client
client_made client user level e =
    ap (made true client user) (text_is level (codes "%c") e) ∙ ap levels (append-nil client)

pub user_made : (client user level : List ℕ) → bytes_eq level (codes "%u") ≡ true
    → made true client user level ≡ levels user
user_made client user level e =
    ap (made true client user) (text_is level (codes "%u") e) ∙ ap levels (append-nil user)

-- a known user name is the client's
pub known_goes : (shape : ClientShape) (name : Bor (List ℕ)) (values : ℕ → List ℕ)
    (client user : List ℕ) (behind : List (List ℕ) → Bool) (ls : List (List ℕ))
    (older terms : List Term) → shape.user ≡ Known name
    → ((values : ℕ → List ℕ) (behind : List (List ℕ) → Bool) (ls : List (List ℕ))
    → are_plain (levels name.now) ≡ true → goes_by values terms behind ls
    ≡ goes_by values older (goes_along (levels name.now) behind) ls)
    → HasShape shape values client (Some user) → is_plain user ≡ true
    → goes_by values terms behind ls ≡ goes_by values older (goes_along (levels user) behind) ls
known_goes shape name values client user behind ls older terms s goes is p =
    let k : Some user ≡ Some name.now =
    subst (λ (u : UserShape). HasUser values shape.levels u (Some user)) s is.user_is in
    let same : user ≡ name.now = cc in
    goes values behind ls (plain_levels name.now (ap is_plain (sym same) ∙ p))
    ∙ ap (λ t. goes_by values older (goes_along (levels t) behind) ls) (sym same)

-- ---- any level
module _ (shape : ClientShape) (values : ℕ → List ℕ) (client : List ℕ) (user : Option (List ℕ))
    (level : List ℕ) (older terms : List Term) (behind : List (List ℕ) → Bool)
    (ls : List (List ℕ)) where
  pub as_plain : (pattern : Bool) → IsMadeOf shape pattern values client user level
      → (pattern && bytes_eq level (codes "%c")) ≡ false
      → (pattern && bytes_eq level (codes "%u")) ≡ false
      → goes_by values terms behind ls
      ≡ goes_by values older (goes_along (level ∷ []) behind) ls
      → goes_by values terms behind ls ≡ goes_by values older
      (goes_along (made pattern client (unwrap_or user []) level) behind) ls
  as_plain pattern is c u e = e
      ∙ ap (λ ws. goes_by values older (goes_along ws behind) ls)
      (sym (plain_made shape pattern values client user level is c u))

  pub as_client : (pattern : Bool) → IsMadeOf shape pattern values client user level
      → (pattern && bytes_eq level (codes "%c")) ≡ true
      → (HasShape shape values client user → is_plain client ≡ true
      → goes_by values terms behind ls
      ≡ goes_by values older (goes_along (levels client) behind) ls)
      → goes_by values terms behind ls ≡ goes_by values older
      (goes_along (made pattern client (unwrap_or user []) level) behind) ls
  as_client false is c e = absurd (let k : false ≡ true = c in cc)
  as_client true is c e = e is.shaped (is.client_plain refl)
      ∙ ap (λ ws. goes_by values older (goes_along ws behind) ls)
      (sym (client_made client (unwrap_or user []) level c))

pub as_user : (shape : ClientShape) (values : ℕ → List ℕ) (client : List ℕ)
    (user : Option (List ℕ)) (level : List ℕ) (older terms : List Term)
    (behind : List (List ℕ) → Bool) (ls : List (List ℕ)) (pattern : Bool)
    → IsMadeOf shape pattern values client user level
    → (pattern && bytes_eq level (codes "%u")) ≡ true
    → ((values : ℕ → List ℕ) (client name : List ℕ) (behind : List (List ℕ) → Bool)
    (ls : List (List ℕ)) → HasShape shape values client (Some name) → is_plain name ≡ true
    → goes_by values terms behind ls
    ≡ goes_by values older (goes_along (levels name) behind) ls)
    → goes_by values terms behind ls ≡ goes_by values older
    (goes_along (made pattern client (unwrap_or user []) level) behind) ls
as_user shape values client user level older terms behind ls false is u e =
    absurd (let k : false ≡ true = u in cc)
as_user shape values client None level older terms behind ls true is u e =
    absurd (let k : false ≡ true = sym (is.user_there refl refl) ∙ u in cc)
as_user shape values client (Some name) level older terms behind ls true is u e =
    e values client name behind ls is.shaped (is.user_plain refl)
    ∙ ap (λ ws. goes_by values older (goes_along ws behind) ls)
    (sym (user_made client name level u))
