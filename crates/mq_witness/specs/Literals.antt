-- The levels that filters name.
use Rattle.std.specs.Prelude.{ℕ, Bool, List, ◌&&◌, not}
use denote.Ref.{Bor}
use Rattle.std.specs.List.{list_any}
use Rattle.std.specs.Str.{bytes_eq}
use Rattle.std.specs.Ordering.{nat_cmp}
use Rattle.std.specs.BTreeSet.{contains_by}
use Rattle.std.specs.Cmp.Lexicographic.{slice_cmp}
use Rattle.mq_topic.specs.Levels.{levels_left}
use Rattle.mq_topic.specs.Matching.{is_wildcard}
use Rattle.mq_cover.specs.declared.remainder.Remainder.{Remainder}
use Rattle.mq_witness.specs.declared.literals.Literals.{Literals}

abbrev pub is_among : List ℕ → List (Bor (List ℕ)) → Bool
is_among text texts = list_any (λ other. bytes_eq text other.now) texts

abbrev pub is_named : List ℕ → Literals → Bool
is_named text literals = contains_by (λ k. slice_cmp nat_cmp text k.now) literals.texts

-- one of these levels, and no wildcard
abbrev pub is_literal_in : List ℕ → List (List ℕ) → Bool
is_literal_in level ls = list_any (λ w. bytes_eq level w && not (is_wildcard w)) ls

-- one of the levels that are left, and no wildcard
abbrev pub is_literal_of : List ℕ → List Remainder → Bool
is_literal_of level rs = list_any (λ r. is_literal_in level (levels_left r.rest)) rs

-- some `pattern` row has the mark as a level
abbrev pub has_mark : List ℕ → List Remainder → Bool
has_mark mark rs =
    list_any (λ r. r.pattern && list_any (λ w. bytes_eq w mark) (levels_left r.rest)) rs
