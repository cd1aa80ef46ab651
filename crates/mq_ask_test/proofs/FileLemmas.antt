-- The files that lines name, one after the other.
use Rattle.std.proofs.Common.{◌≡◌, ◌++◌, ◌∷◌, ◌+◌, ◌<◌, ◌||◌, ◌∙◌, ℕ, Bool, List, [], take, length, get_or}
use Rattle.std.proofs.Common.{Option, Some, None, ap, refl, sym, arith, bytes_eq, false}
use Rattle.std.specs.Prelude.{fold, if◌then◌else◌}
use Rattle.std.specs.List.{cons_option, filter_map, list_any}
use Rattle.std.specs.Option.{option_to_list}
use Rattle.std.proofs.lemmas.Grind.{common_steps}
use Rattle.std.proofs.lemmas.List.{map_push}
use Rattle.std.proofs.lemmas.List.Elements.{filter_map-append}
use Rattle.std.proofs.lemmas.List.Sums.{fold-append}
use denote.Ref.{Bor}
use Rattle.mq_expect.specs.Files.{numbered_views, says_view}
use Rattle.mq_expect.specs.declared.expectation.Numbered.{Numbered}
use Rattle.mq_ask_test.specs.Files.{added, file_named, texts}

pub any_texts : (file : List ℕ) (files : List (Bor (List ℕ)))
    → list_any (bytes_eq file) (texts files) ≡ list_any (λ other. bytes_eq file other.now) files
any_texts file [] = refl
any_texts file (other ∷ more) = ap (λ b. bytes_eq file other.now || b) (any_texts file more)

-- one that isn't there
pub added_new : (files : List (Bor (List ℕ))) (file : Bor (List ℕ))
    → list_any (λ other. bytes_eq file.now other.now) files ≡ false
    → texts (files ++ (file ∷ [])) ≡ added (texts files) file.now
added_new files file e = map_push (λ f. f.now) files file
    ∙ sym (ap (λ b. if b then texts files else texts files ++ (file.now ∷ []))
    (any_texts file.now files ∙ e))

single : {A B : Type 0} (f : A → Option B) (x : A) → filter_map f (x ∷ []) ≡ option_to_list (f x)
single {B = B} f x = at (f x)
  where
    at : (o : Option B) → cons_option o [] ≡ option_to_list o
    at None = refl
    at (Some y) = refl

-- one more line
pub named_more : (given : Bool) (files : List (List ℕ)) (lines : List Numbered) (i : ℕ)
    (line : Numbered) → i < length lines → line ≡ get_or lines i line
    → fold added files (filter_map (λ l. file_named given l.1) (numbered_views (take (i + 1) lines)))
    ≡ fold added (fold added files
    (filter_map (λ l. file_named given l.1) (numbered_views (take i lines))))
    (option_to_list (file_named given (says_view line.says)))
named_more given files lines i line h e = grind (arith, common_steps, filter_map-append, fold-append)
