-- Whom differences concern, in words.
use Rattle.std.specs.Fmt.{decimal}
use Rattle.std.specs.List.{filter_map, fold, join_by, list_any}
use Rattle.std.specs.Prelude.{ℕ, Bool, true, false, List, [], ◌∷◌, ◌++◌, ◌-◌, Option, None, length}
use Rattle.std.specs.Prelude.{codes, if◌then◌else◌, nat_lt, string_bytes, take}
use Rattle.mq_ask_cases.specs.Placeholders.{has_placeholder}
use Rattle.mq_differences.specs.Classes.{user_of}
use Rattle.mq_differences.specs.declared.class.Class.{Class}
use Rattle.mq_differences.specs.declared.class.Class.TheVariants.{Anonymous, Others, User}
use Rattle.mq_differences.specs.declared.difference.Difference.{Difference}
use Rattle.mq_differences.specs.declared.group.Group.{Group}
use Rattle.mq_print.specs.Shown.{shown}
use Rattle.mq_print.specs.declared.escape.Escape.TheVariants.{Words}

abbrev pub is_anonymous : Class → Bool
is_anonymous Anonymous = true
is_anonymous (User name) = false
is_anonymous (Others name) = false

-- it is of clients without a user name
abbrev pub is_of_none : Difference → Bool
is_of_none d = is_anonymous d.class

abbrev pub stands_for_others : Difference → Class → Bool
stands_for_others d Anonymous = false
stands_for_others d (User name) = false
stands_for_others d (Others name) = has_placeholder d (string_bytes name)

-- it is of all user names that no line is for
abbrev pub is_of_others : Difference → Bool
is_of_others d = stands_for_others d d.class

-- the one user name that it is of
abbrev pub named_user : Difference → Option (List ℕ)
named_user d = if is_of_others d then None else user_of d.class

-- the user names of which each is for itself
abbrev pub user_names : List Difference → List (List ℕ)
user_names ds = filter_map named_user ds

-- how many there are beside the four that are shown
abbrev pub more_words : (count : ℕ) → List ℕ
more_words count =
    if nat_lt 4 count then codes " and " ++ decimal (count - 4) ++ codes " more" else []

-- the first four of them, and how many more there are
abbrev pub users_words : List (List ℕ) → List ℕ
users_words (name ∷ []) = codes "user " ++ name
users_words names =
    codes "users " ++ join_by (λ name. name) (codes ", ") (take 4 names)
    ++ more_words (length names)

abbrev pub users_part : List (List ℕ) → List (List ℕ)
users_part [] = []
users_part (name ∷ names) = users_words (name ∷ names) ∷ []

abbrev pub none_part : List Difference → List (List ℕ)
none_part ds = if list_any is_of_none ds then codes "no user name" ∷ [] else []

abbrev pub others_part : List Difference → List (List ℕ)
others_part ds = if list_any is_of_others ds then codes "other users" ∷ [] else []

-- those without a user name, those of user names, and all others
abbrev pub who_parts : List Difference → List (List ℕ)
who_parts ds = none_part ds ++ users_part (user_names ds) ++ others_part ds

abbrev pub who_words : List Difference → List ℕ
who_words ds = join_by (λ part. part) (codes "; ") (who_parts ds)

-- a part behind others
abbrev pub with_part : (text part : List ℕ) → List ℕ
with_part [] part = part
with_part (c ∷ cs) part = (c ∷ cs) ++ (codes "; " ++ part)

-- these parts behind others
abbrev pub with_parts : List ℕ → List (List ℕ) → List ℕ
with_parts text parts = fold with_part text parts

-- the clients of these, as they are shown
abbrev pub who_text : List Difference → List ℕ
who_text ds = shown true Words (who_words ds)

abbrev pub group_text : Group → List ℕ
group_text group = who_text (group.first ∷ group.others.items)
