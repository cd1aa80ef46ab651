-- Whom differences concern.
use Rattle.std.proofs.Common.{◌≡◌, ◌++◌, ◌∙◌, ◌+◌, ◌<◌, ◌||◌, ℕ, Bool, true, false, List, [], ◌∷◌, Bor}
use Rattle.std.proofs.Common.{ap, append-nil, codes, get_or, if◌then◌else◌, length}
use Rattle.std.proofs.Common.{map, refl, sym, take}
use Rattle.std.specs.List.{join_by, list_any}
use Rattle.std.proofs.lemmas.List.{map-append, take_more}
use Rattle.std.proofs.lemmas.List.Elements.{filter_map-append}
use Rattle.mq_ask_cases.specs.Clients.{named_user, none_part, others_part, user_names, users_part}
use Rattle.mq_ask_cases.specs.Clients.{is_of_none, is_of_others, who_parts, who_words, with_part}
use Rattle.mq_ask_cases.specs.Clients.{more_words, with_parts}
use Rattle.mq_ask_cases.proofs.PartLemmas.{parts_behind}
use Rattle.mq_differences.specs.declared.difference.Difference.{Difference}

-- what differences lie behind these borrows
abbrev pub lent : List (Bor Difference) → List Difference
lent all = map (λ d. d.now) all

-- one more
pub lent_more : (all : List (Bor Difference)) (i : ℕ) (one : Bor Difference) → i < length all
    → one ≡ get_or all i one → lent (take (i + 1) all) ≡ lent (take i all) ++ one.now ∷ []
lent_more all i one low here =
    ap lent (take_more all i one low
    ∙ ap (λ (d : Bor Difference). take i all ++ d ∷ []) (sym here))
    ∙ map-append (λ (d : Bor Difference). d.now) (take i all) (one ∷ [])

-- the user names of one more
pub names_more : (all : List (Bor Difference)) (i : ℕ) (one : Bor Difference)
    (before after : List (List ℕ)) → i < length all → one ≡ get_or all i one
    → before ≡ user_names (lent (take i all)) → after ≡ before ++ user_names (one.now ∷ [])
    → after ≡ user_names (lent (take (i + 1) all))
names_more all i one before after low here so_far added =
    added ∙ ap (λ (t : List (List ℕ)). t ++ user_names (one.now ∷ [])) so_far
    ∙ sym (ap user_names (lent_more all i one low here)
    ∙ filter_map-append named_user (lent (take i all)) (one.now ∷ []))

-- a test of what is lent
pub any_lent : (test : Difference → Bool) (all : List (Bor Difference))
    → list_any (λ (d : Bor Difference). test d.now) all ≡ list_any test (lent all)
any_lent test [] = refl
any_lent test (d ∷ ds) = ap (λ (b : Bool). test d.now || b) (any_lent test ds)

-- whether some are of clients without a user name
pub none_is : (all : List (Bor Difference)) (some : Bool) (text : List ℕ)
    → some ≡ list_any (λ (d : Bor Difference). is_of_none d.now) all
    → with_parts text (none_part (lent all))
    ≡ (if some then with_part text (codes "no user name") else text)
none_is all true text is = ap (λ (b : Bool). with_parts text
    (if b then codes "no user name" ∷ [] else [])) (sym (is ∙ any_lent is_of_none all))
none_is all false text is = ap (λ (b : Bool). with_parts text
    (if b then codes "no user name" ∷ [] else [])) (sym (is ∙ any_lent is_of_none all))

-- whether some are of all others
pub others_are : (all : List (Bor Difference)) (some : Bool) (text : List ℕ)
    → some ≡ list_any (λ (d : Bor Difference). is_of_others d.now) all
    → with_parts text (others_part (lent all))
    ≡ (if some then with_part text (codes "other users") else text)
others_are all true text is = ap (λ (b : Bool). with_parts text
    (if b then codes "other users" ∷ [] else [])) (sym (is ∙ any_lent is_of_others all))
others_are all false text is = ap (λ (b : Bool). with_parts text
    (if b then codes "other users" ∷ [] else [])) (sym (is ∙ any_lent is_of_others all))

-- parts behind parts
pub parts_more : (text : List ℕ) (some more : List (List ℕ))
    → with_parts (with_parts text some) more ≡ with_parts text (some ++ more)
parts_more text [] more = refl
parts_more text (part ∷ parts) more = parts_more (with_part text part) parts more

-- three kinds of parts
pub parts_of : (ds : List Difference) (text none users others : List ℕ)
    → none ≡ with_parts text (none_part ds) → users ≡ with_parts none (users_part (user_names ds))
    → others ≡ with_parts users (others_part ds) → others ≡ with_parts text (who_parts ds)
parts_of ds text none users others first second third =
    third ∙ ap (λ (t : List ℕ). with_parts t (others_part ds))
    (second ∙ ap (λ (t : List ℕ). with_parts t (users_part (user_names ds))) first
    ∙ parts_more text (none_part ds) (users_part (user_names ds)))
    ∙ parts_more text (none_part ds ++ users_part (user_names ds)) (others_part ds)

-- no part is empty
parts_joined : (none others : Bool) (names : List (List ℕ))
    → let parts = (if none then codes "no user name" ∷ [] else []) ++ users_part names
    ++ (if others then codes "other users" ∷ [] else []) in
    with_parts [] parts ≡ join_by (λ (part : List ℕ). part) (codes "; ") parts
parts_joined true others names =
    parts_behind 110 (codes "o user name")
    (users_part names ++ (if others then codes "other users" ∷ [] else []))
parts_joined false true [] = sym (append-nil (codes "other users"))
parts_joined false false [] = refl
parts_joined false others (name ∷ []) =
    parts_behind 117 (codes "ser " ++ name) (if others then codes "other users" ∷ [] else [])
parts_joined false others (name ∷ next ∷ names) =
    let all = name ∷ next ∷ names in
    parts_behind 117 (codes "sers " ++ join_by (λ (n : List ℕ). n) (codes ", ") (take 4 all)
    ++ more_words (length all)) (if others then codes "other users" ∷ [] else [])

-- so the text is that of all of them, with `; ` between
pub words_are : (ds : List Difference) → with_parts [] (who_parts ds) ≡ who_words ds
words_are ds = parts_joined (list_any is_of_none ds) (list_any is_of_others ds) (user_names ds)
