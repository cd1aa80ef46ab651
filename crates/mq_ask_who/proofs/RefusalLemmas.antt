-- What isn't allowed, by what it is looked up by.
use Rattle.std.proofs.Common.{◌≡◌, ◌++◌, ◌∙◌, ◌&&◌, ℕ, Bool, List, [], ◌∷◌, refl}
use Rattle.std.proofs.Common.{ap, bytes_eq, filter, if◌then◌else◌, sym}
use Rattle.std.proofs.lemmas.List.Elements.{filter-append}
use Rattle.mq_acl.specs.declared.access.Direction.{Direction}
use Rattle.mq_acl.specs.declared.access.Direction.TheVariants.{Reading, Writing}
use Rattle.mq_ask.specs.Words.{access_text}
use Rattle.mq_ask_who.specs.Refusals.{class_key, key}
use Rattle.mq_ask_who.specs.WhoShown.{beside}
use Rattle.mq_differences.specs.Differences.{same_class, same_direction}
use Rattle.mq_differences.specs.declared.class.Class.{Class}
use Rattle.mq_differences.specs.declared.class.Class.TheVariants.{Anonymous, Others, User}
use Rattle.mq_differences.specs.declared.difference.Difference.{Difference}

-- texts are the same just for the same class and direction
same_key : (a b : Direction) (c k : Class)
    → bytes_eq (access_text a ++ class_key c) (access_text b ++ class_key k)
    ≡ (same_direction a b && same_class c k)
same_key Reading Writing c k = refl
same_key Writing Reading c k = refl
same_key Reading Reading Anonymous Anonymous = refl
same_key Reading Reading Anonymous (User other) = refl
same_key Reading Reading Anonymous (Others other) = refl
same_key Reading Reading (User name) Anonymous = refl
same_key Reading Reading (User name) (User other) = refl
same_key Reading Reading (User name) (Others other) = refl
same_key Reading Reading (Others name) Anonymous = refl
same_key Reading Reading (Others name) (User other) = refl
same_key Reading Reading (Others name) (Others other) = refl
same_key Writing Writing Anonymous Anonymous = refl
same_key Writing Writing Anonymous (User other) = refl
same_key Writing Writing Anonymous (Others other) = refl
same_key Writing Writing (User name) Anonymous = refl
same_key Writing Writing (User name) (User other) = refl
same_key Writing Writing (User name) (Others other) = refl
same_key Writing Writing (Others name) Anonymous = refl
same_key Writing Writing (Others name) (User other) = refl
same_key Writing Writing (Others name) (Others other) = refl

-- so what is kept under a text is what is beside
pub kept_beside : (refused : List Difference) (d : Difference)
    → filter (λ e. bytes_eq (key d) (key e)) refused ≡ beside refused d
kept_beside refused d = ap (λ (test : Difference → Bool). filter test refused)
    (λ i e. same_key d.direction e.direction d.class e.class i)

-- one more is kept
pub kept_more : (text : List ℕ) (refused : List Difference) (d : Difference) (its_key : List ℕ)
    → its_key ≡ key d → (all : List Difference)
    → all ≡ filter (λ e. bytes_eq text (key e)) refused
    → all ++ (if bytes_eq text its_key then d ∷ [] else [])
    ≡ filter (λ e. bytes_eq text (key e)) (refused ++ d ∷ [])
kept_more text refused d its_key is all so_far =
    let has = λ (e : Difference). bytes_eq text (key e) in
    ap (λ (front : List Difference). front ++ (if bytes_eq text its_key then d ∷ [] else [])) so_far
    ∙ ap (λ (k : List ℕ). filter has refused ++ (if bytes_eq text k then d ∷ [] else [])) is
    ∙ sym (filter-append has refused (d ∷ []))
