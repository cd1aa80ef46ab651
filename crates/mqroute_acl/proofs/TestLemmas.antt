-- The texts of lists, of those that the command line gives and of those that expectations name.
use Rattle.std.proofs.Common.{◌≡◌, ◌≢◌, ◌∙◌, ◌<◌, ◌≤◌, ◌++◌, ◌∷◌, ℕ, List, [], Option, IfSome, All, true, false}
use Rattle.std.proofs.Common.{ap, bytes_eq, get_or, length, string_bytes, subst, sym, take}
use Rattle.std.specs.Borrow.{Bor}
use Rattle.std.specs.List.{list_any}
use Rattle.std.proofs.lemmas.List.Elements.{All-push, All-weaker}
use Rattle.mq_acl.specs.declared.rules.Rules.{Rules}
use Rattle.mq_expect.specs.Files.{expectations_of, numbered_views}
use Rattle.mq_expect.specs.declared.expectation.Numbered.{Numbered}
use Rattle.mq_ask.specs.declared.outcome.Outcome.{Outcome}
use Rattle.mq_acl_args.specs.Files.{input_count, is_input}
use Rattle.mqroute_acl.specs.Files.{IsTextOf}
use Rattle.mq_ask_test.proofs.FileLemmas.{any_texts}
use Rattle.mq_ask_test.specs.Questions.{questions}
use Rattle.mq_ask_test.specs.declared.list.ReadList.{ReadList}
use Rattle.mqroute_acl.specs.Test.{AreNamed, AreRead, IsGiven, IsNamed, IsTested}
use Rattle.mq_ask_test.specs.Tested.{ShowsTested}
use Rattle.mqroute_acl.specs.declared.test.ListFile.{ListFile}
use Rattle.mqroute_acl.proofs.FilesLemmas.{first_is_none, next_input, some_input, texts}

-- one more text that is of its file
pub given_more : (known start before : Option (List ℕ)) (files : List (Bor (List ℕ))) (i : ℕ)
    (d : Bor (List ℕ)) (lists : List ListFile) (l : ListFile) → i < length files
    → input_count (texts files) ≤ 1
    → (input_count (texts (take i files)) ≡ 0 → before ≡ start)
    → (1 ≤ input_count (texts files) → known ≡ start) → l.file ≡ get_or files i d
    → IsTextOf before (get_or files i d).now (string_bytes l.text)
    → All (IsGiven known) lists → All (IsGiven known) (lists ++ l ∷ [])
given_more known start before files i d lists l low once so_far is_known same is all =
    All-push (IsGiven known) lists l all
    (subst (λ (f : Bor (List ℕ)). is_input f.now ≡ true
    → IfSome known (λ bytes. string_bytes l.text ≡ bytes)) (sym same)
    (λ e. subst (λ (k : Option (List ℕ)). IfSome k (λ bytes. string_bytes l.text ≡ bytes))
    (so_far (next_input files i d low once e) ∙ sym (is_known (some_input files i d low e)))
    (is e)))

-- and one that the command line doesn't give
pub named_more : (input : Option (List ℕ)) (given : List (Bor (List ℕ))) (lists : List ListFile)
    (l : ListFile) → list_any (λ other. bytes_eq l.file.now other.now) given ≡ false
    → All (IsNamed input (texts given)) lists
    → All (IsNamed input (texts given)) (lists ++ l ∷ [])
named_more input given lists l none all =
    All-push (IsNamed input (texts given)) lists l all (λ among.
    absurd (let bad : false ≡ true = sym none ∙ sym (any_texts l.file.now given) ∙ among in cc))

-- of lists that were read so, what is said of the lines
pub tested_of : (rules : Rules) (known : Option (List ℕ)) (text : List ℕ)
    (given : List (List ℕ)) (first named texts : List ListFile) (read lists : List ReadList)
    (said lines : List Numbered) (outcome : Outcome)
    → All (IsGiven known) first → (AreNamed known given first → AreNamed known given named)
    → texts ≡ named → (AreNamed known given texts → AreRead rules known given read)
    → lists ≡ read → lines ≡ said → numbered_views said ≡ expectations_of text
    → ShowsTested rules lists (questions given (numbered_views lines)) outcome
    → questions given (numbered_views lines) ≢ []
    → IsTested rules known text given outcome
tested_of rules known text given first named texts read lists said lines outcome are_given more
    same reads same_lists same_lines entries shown some = record {
      lists = read;
      read = reads (subst (AreNamed known given) (sym same) (more (All-weaker (IsGiven known)
          (IsNamed known given) (λ l is among. is) first are_given)));
      some = subst (λ all. questions given all ≢ []) (ap numbered_views same_lines ∙ entries) some;
      shown = subst (λ (all : List ReadList). ShowsTested rules all
          (questions given (expectations_of text)) outcome) same_lists
          (subst (λ all. ShowsTested rules lists (questions given all) outcome)
          (ap numbered_views same_lines ∙ entries) shown);
    }

-- the text of the expectations was read before those of the lists
pub answer_of : (rules : Rules) (known after : Option (List ℕ)) (expected : List ℕ)
    (given names : List (List ℕ)) (text read : List ℕ) (outcome shown : Outcome)
    → input_count (expected ∷ given) ≤ 1 → (is_input expected ≡ false → after ≡ known)
    → names ≡ given → read ≡ text → IsTextOf known expected text
    → ((k : Option (List ℕ)) → (1 ≤ input_count names → k ≡ after)
    → IsTested rules k read names shown)
    → outcome ≡ shown
    → (t : List ℕ) × IsTextOf known expected t × IsTested rules known t given outcome
answer_of rules known after expected given names text read outcome shown once kept same_names
    same_text is tests same = (
      text,
      is,
      subst (λ (o : Outcome). IsTested rules known text given o) (sym same)
          (subst (λ (t : List ℕ). IsTested rules known t given shown) same_text
          (subst (λ (files : List (List ℕ)). IsTested rules known read files shown) same_names
          (tests known (λ some. sym (kept (first_is_none expected given once
          (subst (λ (files : List (List ℕ)). 1 ≤ input_count files) same_names some))))))),
    )
