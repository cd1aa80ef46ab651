-- The texts of files, of which one at most is standard input.
use Rattle.std.proofs.Common.{◌≡◌, ◌∙◌, ◌+◌, ◌<◌, ◌≤◌, ℕ, Bool, true, false, cond, List, [], ◌∷◌}
use Rattle.std.proofs.Common.{◌++◌, Option, Some, None, IfSome, ap, arith, drop, get_or, length}
use Rattle.std.proofs.Common.{length-append, map, refl, subst, sym, take}
use Rattle.std.specs.Borrow.{Bor}
use Rattle.std.proofs.lemmas.List.{get_or_append_left, map-append, take-append-drop, take_all}
use Rattle.std.proofs.lemmas.List.{take_more}
use Rattle.std.proofs.lemmas.List.Elements.{All-nil, All-push}
use Rattle.std.proofs.lemmas.List.Quantifiers.{Any-push}
use Rattle.std.proofs.lemmas.List.Sums.{sum_by-append}
use Rattle.mq_acl.specs.declared.rules.Rules.{Rules}
use Rattle.mq_acl_args.specs.Files.{input_count, is_input}
use Rattle.mqroute_acl.specs.Files.{IsTextOf}
use Rattle.mqroute_acl.specs.Lint.{AreLinted, IsLintedFile, IsLintedText, SaysWhetherAllTaken}
use Rattle.mqroute_acl.specs.Lint.{first_refused}
use Rattle.mq_ask.specs.Lists.{IsTaken}
use Rattle.mq_ask_lint.specs.Lint.{IsRefused, SaysWhetherTaken}
use Rattle.mq_ask_lint.specs.declared.lint.Linted.{Linted}
use Rattle.mq_ask.specs.Statuses.{worse}
use Rattle.mq_ask.specs.declared.outcome.Outcome.{Outcome}
use Rattle.mq_ask.specs.declared.outcome.Outcome.TheVariants.{Clear, Remark}

-- 1 for a file that is standard input
abbrev one_if : Bool → ℕ
one_if b = cond b 1 0

is_none : (b : Bool) → one_if b ≡ 0 → b ≡ false
is_none false e = refl
is_none true e = absurd (let bad : one_if true ≡ 0 = e in omega arith)

abbrev pub texts : List (Bor (List ℕ)) → List (List ℕ)
texts files = map (λ file. file.now) files

longer : (files : List (List ℕ)) (file : List ℕ) (i : ℕ) → i < length files
    → i < length (files ++ file ∷ [])
longer files file i low = simp length-append (omega arith)

-- one more file
AreLinted-push : (rules : Rules) (known : Option (List ℕ)) (files : List (List ℕ)) (file : List ℕ)
    (outcome next : Outcome) → AreLinted rules known files outcome → IsLintedText rules known file next
    → AreLinted rules known (files ++ file ∷ []) (worse outcome next)
AreLinted-push rules known files file Clear Clear all is =
    All-push (λ f. IsLintedText rules known f Clear) files file all is
AreLinted-push rules known files file Clear Remark all is =
    Any-push (λ f. IsLintedText rules known f Remark) files file is
AreLinted-push rules known files file Remark next some is = (
  some.0,
  some.1,
  longer files file some.0 some.2,
  get_or_append_left files (file ∷ []) some.1 some.0 some.2 ∙ some.3,
  some.4,
)

texts_of_more : (files : List (Bor (List ℕ))) (i : ℕ) (d : Bor (List ℕ)) → i < length files
    → texts (take (i + 1) files) ≡ texts (take i files) ++ (get_or files i d).now ∷ []
texts_of_more files i d low =
    ap texts (take_more files i d low)
    ∙ map-append (λ file. file.now) (take i files) (get_or files i d ∷ [])

texts_more : (files : List (Bor (List ℕ))) (i : ℕ) (d : Bor (List ℕ)) → i < length files
    → input_count (texts (take (i + 1) files))
    ≡ input_count (texts (take i files)) + (0 + one_if (is_input (get_or files i d).now))
texts_more files i d low =
    ap input_count (texts_of_more files i d low)
    ∙ sum_by-append (λ file. one_if (is_input file)) (texts (take i files))
    ((get_or files i d).now ∷ [])

texts_parted : (files : List (Bor (List ℕ))) (i : ℕ)
    → input_count (texts (take i files)) + input_count (texts (drop i files))
    ≡ input_count (texts files)
texts_parted files i =
    sym (sum_by-append (λ file. one_if (is_input file)) (texts (take i files))
    (texts (drop i files)))
    ∙ ap input_count (sym (map-append (λ file. file.now) (take i files) (drop i files))
    ∙ ap texts (take-append-drop i files))

-- of files of which one at most is standard input the next is so where no earlier one is
pub next_input : (files : List (Bor (List ℕ))) (i : ℕ) (d : Bor (List ℕ)) → i < length files
    → input_count (texts files) ≤ 1 → is_input (get_or files i d).now ≡ true
    → input_count (texts (take i files)) ≡ 0
next_input files i d low once e =
    let here : ℕ = one_if (is_input (get_or files i d).now) in
    let parts : input_count (texts (take (i + 1) files))
    ≡ input_count (texts (take i files)) + (0 + here) =
    texts_more files i d low in
    let one : here ≡ 1 = ap one_if e in
    let all : input_count (texts (take (i + 1) files)) + input_count (texts (drop (i + 1) files))
    ≡ input_count (texts files) = texts_parted files (i + 1) in
    omega arith

-- where a file is standard input, some is
pub some_input : (files : List (Bor (List ℕ))) (i : ℕ) (d : Bor (List ℕ)) → i < length files
    → is_input (get_or files i d).now ≡ true → 1 ≤ input_count (texts files)
some_input files i d low e =
    let here : ℕ = one_if (is_input (get_or files i d).now) in
    let parts : input_count (texts (take (i + 1) files))
    ≡ input_count (texts (take i files)) + (0 + here) =
    texts_more files i d low in
    let one : here ≡ 1 = ap one_if e in
    let all : input_count (texts (take (i + 1) files)) + input_count (texts (drop (i + 1) files))
    ≡ input_count (texts files) = texts_parted files (i + 1) in
    omega arith

-- where one of the files behind it is standard input, a file isn't, if one at most is
pub first_is_none : (file : List ℕ) (files : List (List ℕ)) → input_count (file ∷ files) ≤ 1
    → 1 ≤ input_count files → is_input file ≡ false
first_is_none file files once some =
    let here : ℕ = one_if (is_input file) in
    let all : input_count (file ∷ files) ≡ (0 + here) + input_count files =
    sum_by-append (λ f. one_if (is_input f)) (file ∷ []) files in
    is_none (is_input file) (omega arith)

-- a file that is standard input counts
pub counts_first : (file : List ℕ) (files : List (List ℕ)) → is_input file ≡ true
    → 1 ≤ input_count (file ∷ files)
counts_first file files e =
    let here : ℕ = one_if (is_input file) in
    let one : here ≡ 1 = ap one_if e in
    let all : input_count (file ∷ files) ≡ (0 + here) + input_count files =
    sum_by-append (λ f. one_if (is_input f)) (file ∷ []) files in
    omega arith

-- those behind a file count no more than with it
pub counts_behind : (file : List ℕ) (files : List (List ℕ))
    → input_count files ≤ input_count (file ∷ files)
counts_behind file files =
    let here : ℕ = one_if (is_input file) in
    let all : input_count (file ∷ files) ≡ (0 + here) + input_count files =
    sum_by-append (λ f. one_if (is_input f)) (file ∷ []) files in
    omega arith

-- what is read of a file is so of what standard input held at first, if it was left alone before
pub text_behind : (known before : Option (List ℕ)) (file text : List ℕ)
    → (is_input file ≡ true → before ≡ known) → IsTextOf before file text
    → IsTextOf known file text
text_behind known before file text same is = λ e.
    subst (λ (k : Option (List ℕ)). IfSome k (λ bytes. text ≡ bytes)) (same e) (is e)

-- where none of the files so far is standard input, it is left alone
pub kept_more : {X : Type 0} (start before after : X)
    (files : List (Bor (List ℕ))) (i : ℕ) (d : Bor (List ℕ)) → i < length files
    → (input_count (texts (take i files)) ≡ 0 → before ≡ start)
    → (is_input (get_or files i d).now ≡ false → after ≡ before)
    → input_count (texts (take (i + 1) files)) ≡ 0 → after ≡ start
kept_more start before after files i d low so_far kept none =
    let here : ℕ = one_if (is_input (get_or files i d).now) in
    let parts : input_count (texts (take (i + 1) files))
    ≡ input_count (texts (take i files)) + (0 + here) =
    texts_more files i d low in
    let earlier : input_count (texts (take i files)) ≡ 0 = omega arith in
    let not_here : here ≡ 0 = omega arith in
    kept (is_none (is_input (get_or files i d).now) not_here) ∙ so_far earlier

pub kept_among : {X : Type 0} (start before after : X)
    (files : List (Bor (List ℕ))) (i : ℕ) (d : Bor (List ℕ)) → i < length files
    → (input_count (texts (take i files)) ≡ 0 → before ≡ start)
    → (is_input (get_or files i d).now ≡ false → after ≡ before)
    → input_count (texts files) ≡ 0 → after ≡ start
kept_among start before after files i d low so_far kept none =
    let all : input_count (texts (take (i + 1) files)) + input_count (texts (drop (i + 1) files))
    ≡ input_count (texts files) = texts_parted files (i + 1) in
    kept_more start before after files i d low so_far kept (omega arith)

-- a text that is of the next file with what is left of the input is so with all that it held
next_text : (known before : Option (List ℕ)) (files : List (Bor (List ℕ))) (i : ℕ)
    (d : Bor (List ℕ)) (text : List ℕ) → i < length files → input_count (texts files) ≤ 1
    → (input_count (texts (take i files)) ≡ 0 → before ≡ known)
    → IsTextOf before (get_or files i d).now text → IsTextOf known (get_or files i d).now text
next_text known before files i d text low once so_far is = λ e.
    subst (λ (k : Option (List ℕ)). IfSome k (λ bytes. text ≡ bytes))
    (so_far (next_input files i d low once e)) (is e)

-- and what is shown of the files so far holds with the next one too
pub linted_more : (rules : Rules) (known before : Option (List ℕ)) (files : List (Bor (List ℕ))) (i : ℕ)
    (d : Bor (List ℕ)) (outcome : Outcome) (next : Linted) → i < length files
    → input_count (texts files) ≤ 1
    → (input_count (texts (take i files)) ≡ 0 → before ≡ known)
    → AreLinted rules known (texts (take i files)) outcome
    → IsLintedFile rules before (get_or files i d).now next
    → AreLinted rules known (texts (take (i + 1) files)) (worse outcome next.outcome)
linted_more rules known before files i d outcome next low once so_far are is =
    subst (λ (all : List (List ℕ)). AreLinted rules known all (worse outcome next.outcome))
    (sym (texts_of_more files i d low))
    (AreLinted-push rules known (texts (take i files)) (get_or files i d).now outcome next.outcome
    are (is.0, next_text known before files i d is.0 low once so_far is.1, is.2))

pub linted_none : (rules : Rules) (known : Option (List ℕ)) → AreLinted rules known [] Clear
linted_none rules known = All-nil (λ file. IsLintedText rules known file Clear)

-- ---- whether mosquitto takes the lists
abbrev IsTakenText : Option (List ℕ) → List ℕ → Type 0
IsTakenText known file = (text : List ℕ) × IsTextOf known file text × IsTaken text

abbrev IsRefusedText : Option (List ℕ) → List ℕ → Type 0
IsRefusedText known file = (text : List ℕ) × IsTextOf known file text × IsRefused text

SaysTaken-push : (known : Option (List ℕ)) (files : List (List ℕ)) (file : Bor (List ℕ))
    (before : Option (Bor (List ℕ))) (is_taken : Bool) → SaysWhetherAllTaken known files before
    → (text : List ℕ) × IsTextOf known file.now text × SaysWhetherTaken text is_taken
    → SaysWhetherAllTaken known (files ++ file.now ∷ []) (first_refused before file is_taken)
SaysTaken-push known files file None true all is = All-push (IsTakenText known) files file.now all is
SaysTaken-push known files file None false all is = Any-push (IsRefusedText known) files file.now is
SaysTaken-push known files file (Some first) is_taken some is = (
  some.0,
  some.1,
  longer files file.now some.0 some.2,
  get_or_append_left files (file.now ∷ []) some.1 some.0 some.2 ∙ some.3,
  some.4,
)

pub taken_more : (rules : Rules) (known before : Option (List ℕ)) (files : List (Bor (List ℕ)))
    (i : ℕ) (d : Bor (List ℕ)) (refused : Option (Bor (List ℕ))) (next : Linted) → i < length files
    → input_count (texts files) ≤ 1
    → (input_count (texts (take i files)) ≡ 0 → before ≡ known)
    → SaysWhetherAllTaken known (texts (take i files)) refused
    → IsLintedFile rules before (get_or files i d).now next
    → SaysWhetherAllTaken known (texts (take (i + 1) files))
    (first_refused refused (get_or files i d) next.is_taken)
taken_more rules known before files i d refused next low once so_far are is =
    subst (λ (all : List (List ℕ)). SaysWhetherAllTaken known all
    (first_refused refused (get_or files i d) next.is_taken)) (sym (texts_of_more files i d low))
    (SaysTaken-push known (texts (take i files)) (get_or files i d) refused next.is_taken are
    (is.0, next_text known before files i d is.0 low once so_far is.1, is.3))

pub taken_none : (known : Option (List ℕ)) → SaysWhetherAllTaken known [] None
taken_none known = All-nil (IsTakenText known)

pub taken_all : (known : Option (List ℕ)) (files : List (Bor (List ℕ))) (i : ℕ)
    (refused : Option (Bor (List ℕ))) → length files ≤ i
    → SaysWhetherAllTaken known (texts (take i files)) refused
    → SaysWhetherAllTaken known (texts files) refused
taken_all known files i refused past are =
    subst (λ (all : List (Bor (List ℕ))). SaysWhetherAllTaken known (texts all) refused)
    (take_all i files past) are

pub linted_all : (rules : Rules) (known : Option (List ℕ)) (files : List (Bor (List ℕ))) (i : ℕ)
    (outcome : Outcome) → length files ≤ i → AreLinted rules known (texts (take i files)) outcome
    → AreLinted rules known (texts files) outcome
linted_all rules known files i outcome past are =
    subst (λ (all : List (Bor (List ℕ))). AreLinted rules known (texts all) outcome)
    (take_all i files past) are
