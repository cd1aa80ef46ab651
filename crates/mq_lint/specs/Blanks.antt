-- Blanks in the line of an access list, as mosquitto 2.0 sees them.
use Rattle.std.specs.Prelude.{ℕ, Bool, List, ◌==◌, ◌&&◌, ◌||◌, not, length, take, drop, codes}
use Rattle.std.specs.Prelude.{slice_index}
use Rattle.std.specs.List.{prefix_len, position_or_len, list_any}
use Rattle.std.specs.Str.{bytes_eq}
use Rattle.mq_acl.specs.Words.{is_blank, trimmed, first_word, after_word}

abbrev pub is_comment : List ℕ → Bool
is_comment text = slice_index text 0 == 35

-- blanks stand before the `#` of a comment
abbrev pub is_indented_comment : List ℕ → Bool
is_indented_comment line = is_comment (trimmed line) && not (is_comment line)

-- there is a tab among the blanks that the text begins with
abbrev pub begins_with_tab : List ℕ → Bool
begins_with_tab text = list_any (λ b. b == 9) (take (prefix_len is_blank text) text)

-- what stands behind the first word, with its blanks
abbrev pub behind_word : List ℕ → List ℕ
behind_word text = drop (position_or_len is_blank text) text

-- an access may stand behind this keyword
abbrev pub takes_access : List ℕ → Bool
takes_access word = bytes_eq word (codes "topic") || bytes_eq word (codes "pattern")

-- there is a tab among the blanks behind the keyword or, where an access may stand there, behind
-- the next word
abbrev pub has_tab_inside : List ℕ → Bool
has_tab_inside text =
    begins_with_tab (behind_word text)
    || (takes_access (first_word text) && begins_with_tab (behind_word (after_word text)))

-- there is one, or one before the keyword, in a line that is neither blank nor a comment
abbrev pub is_tabbed : List ℕ → Bool
is_tabbed line =
    not (length (trimmed line) == 0) && not (is_comment (trimmed line))
    && (begins_with_tab line || has_tab_inside (trimmed line))
