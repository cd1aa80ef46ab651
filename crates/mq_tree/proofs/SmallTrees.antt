-- What look-ups count on small trees, by the definitions alone: a check of the definitions.
use Rattle.std.proofs.Common.{◌≡◌, ℕ, List, [], ◌∷◌, length, refl}
use Rattle.std.specs.Prelude.{codes}
use Rattle.mq_topic.specs.Levels.{levels}
use Rattle.mq_topic.specs.Prefixes.{prefixes, met_by_name, met_by_filter}

-- how many nodes a look-up enters, where these keys are stored
abbrev by_name : List ℕ → List (List (List ℕ)) → ℕ
by_name name keys = length (met_by_name (levels name) (prefixes keys))

abbrev by_filter : List ℕ → List (List (List ℕ)) → ℕ
by_filter topic_filter keys = length (met_by_filter (levels topic_filter) (prefixes keys))

-- ---- filters: `#`, `+`, `a`, `a/#`
abbrev filters : List (List (List ℕ))
filters = levels (codes "#") ∷ levels (codes "+") ∷ levels (codes "a") ∷ levels (codes "a/#") ∷ []

-- a node for each of the four filters, and no more: `a/#` stands below `a`
pub filters_have : length (prefixes filters) ≡ 4
filters_have = refl

-- the name `a` enters all four nodes
pub name_a : by_name (codes "a") filters ≡ 4
name_a = refl

-- with `/x`, whose first level is empty
pub more_have : length (prefixes (levels (codes "/x") ∷ filters)) ≡ 6
more_have = refl

-- the name `/x` enters `#`, `+`, and the two nodes of its own key
pub name_slash_x : by_name (codes "/x") (levels (codes "/x") ∷ filters) ≡ 4
name_slash_x = refl

-- ---- names: `$x`, `a`, `a/b`, `c`
abbrev names : List (List (List ℕ))
names = levels (codes "$x") ∷ levels (codes "a") ∷ levels (codes "a/b") ∷ levels (codes "c") ∷ []

-- `#` enters each node but `$x`
pub filter_hash : by_filter (codes "#") names ≡ 3
filter_hash = refl

-- `a/#` enters `a` and `a/b`
pub filter_a_hash : by_filter (codes "a/#") names ≡ 2
filter_a_hash = refl

-- `+` enters `a` and `c`, but not `$x`
pub filter_plus : by_filter (codes "+") names ≡ 2
filter_plus = refl

-- `$x` enters its own node alone
pub filter_dollar_x : by_filter (codes "$x") names ≡ 1
filter_dollar_x = refl

-- ---- wildcards beside `$`: `#`, `$SYS/+`, `+/x`, `a/+`
abbrev wildcards : List (List (List ℕ))
wildcards = levels (codes "#") ∷ levels (codes "$SYS/+") ∷ levels (codes "+/x")
    ∷ levels (codes "a/+") ∷ []

-- `$SYS/x` enters `$SYS` and `$SYS/+`, but neither `#` nor `+`
pub name_dollar_sys_x : by_name (codes "$SYS/x") wildcards ≡ 2
name_dollar_sys_x = refl

-- a `$` after the first level hides nothing: `a/$x` enters `#`, `+`, `a` and `a/+`
pub name_a_dollar_x : by_name (codes "a/$x") wildcards ≡ 4
name_a_dollar_x = refl
