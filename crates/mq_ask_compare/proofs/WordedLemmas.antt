-- The differences in words.
use Rattle.std.proofs.Common.{◌≡◌, ◌++◌, ◌∙◌, ◌+◌, ◌<◌, ◌==◌, ℕ, Bool, true, false, List, [], ◌∷◌}
use Rattle.std.proofs.Common.{Option, ap, append_assoc, arith, codes, get_or, length}
use Rattle.std.proofs.Common.{map, refl, subst, sym, take, true≢false}
use Rattle.std.proofs.lemmas.Bool.Decides.{nat_tests}
use Rattle.std.proofs.lemmas.List.{map-append, take_more}
use Rattle.mq_acl.specs.declared.rules.Rules.{Rules}
use Rattle.mq_ask_cases.specs.ChangeRows.{ChangeView, change_view}
use Rattle.mq_ask_cases.specs.declared.change_rows.ChangeRow.{ChangeRow}
use Rattle.mq_ask_compare.specs.Worded.{AreRowsOf, IsRow, IsWorded, SaysSame, ScopeView}
use Rattle.mq_ask_compare.specs.Worded.{ShowsDifferences, ShowsGroups, every_word, extent_words}
use Rattle.mq_ask_compare.specs.Worded.{nothing_words}
use Rattle.mq_differences.specs.declared.difference.Difference.{Difference}
use Rattle.mq_differences.specs.declared.group.Group.{Group}
use Rattle.mq_differences.specs.declared.way.Way.{Way}
use Rattle.mq_print.specs.Lists.{ListView}

-- ---- the rows
-- a row of one more group
one_more : (script : Option (List ℕ)) (old new : ListView) (groups : List Group)
    (rows : List ChangeView) (group : Group) (row : ChangeView)
    → AreRowsOf script old new groups rows → IsRow script old new group row
    → AreRowsOf script old new (groups ++ group ∷ []) (rows ++ row ∷ [])
one_more script old new [] [] group row are is = (is, tt)
one_more script old new [] (r ∷ rows) group row are is = absurd are
one_more script old new (g ∷ groups) [] group row are is = absurd are
one_more script old new (g ∷ groups) (r ∷ rows) group row are is =
    (are.0, one_more script old new groups rows group row are.1 is)

-- the next row
pub rows_more : (script : Option (List ℕ)) (old new : ListView) (groups : List Group) (i : ℕ)
    (group : Group) (rows more : List ChangeRow) (row : ChangeRow) → i < length groups
    → group ≡ get_or groups i group → more ≡ rows ++ row ∷ []
    → AreRowsOf script old new (take i groups) (map change_view rows)
    → IsRow script old new group (change_view row)
    → AreRowsOf script old new (take (i + 1) groups) (map change_view more)
rows_more script old new groups i group rows more row low here added are is =
    let split : take (i + 1) groups ≡ take i groups ++ group ∷ [] =
    take_more groups i group low ∙ ap (λ (g : Group). take i groups ++ g ∷ []) (sym here) in
    let views : map change_view more ≡ map change_view rows ++ change_view row ∷ [] =
    ap (map change_view) added ∙ map-append change_view rows (row ∷ []) in
    subst (λ (gs : List Group). AreRowsOf script old new gs (map change_view more)) (sym split)
    (subst (λ (rs : List ChangeView). AreRowsOf script old new (take i groups ++ group ∷ []) rs)
    (sym views) (one_more script old new (take i groups) (map change_view rows) group
    (change_view row) are is))

-- ---- that nothing differs
-- a sentence in parts
pub allows_nothing : (text one other after : List ℕ)
    → after ≡ text ++ (one ++ (codes " allows nothing that " ++ (other ++ codes " doesn't")))
    → after ≡ text ++ nothing_words one other
allows_nothing text one other after added = simp append_assoc added

pub extent_is : (text every after : List ℕ) (only : Option Way) → every ≡ every_word only
    → after ≡ text ++ (codes ", on " ++ (every ++ (codes " topic, to " ++ (every
    ++ codes " client id and user name a broker can have"))))
    → after ≡ text ++ extent_words (every_word only)
extent_is text every after only all added =
    subst (λ (w : List ℕ). after ≡ text ++ extent_words w) all (simp append_assoc added)

-- ---- all of it
-- so many are none, or some
none_are : (ds : List Difference) (count : ℕ) → count ≡ length ds → (count == 0) ≡ true → ds ≡ []
none_are [] count is none = refl
none_are (d ∷ ds) count is none =
    absurd (let low : 0 < count = omega (arith, is) in grind (arith, nat_tests))

pub same_worded : (scope : ScopeView) (old new : ListView) (ds : List Difference) (count : ℕ)
    (text : List ℕ) → count ≡ length ds → (count == 0) ≡ true
    → SaysSame scope old.file new.file text → IsWorded scope old new ds text
same_worded scope old new ds count text is none says =
    subst (λ (all : List Difference). IsWorded scope old new all text)
    (sym (none_are ds count is none)) says

pub differences_worded : (scope : ScopeView) (old new : ListView) (ds : List Difference)
    (count : ℕ) (text : List ℕ) → count ≡ length ds → (count == 0) ≡ false
    → ShowsDifferences scope old new ds text → IsWorded scope old new ds text
differences_worded scope old new [] count text is some shows =
    absurd (true≢false (sym (ap (λ (n : ℕ). n == 0) is) ∙ some))
differences_worded scope old new (d ∷ ds) count text is some shows = shows

-- it is that of lists with the same lines
pub groups_same : (scope : ScopeView) (old new : ListView) (old_lines new_lines : List (List ℕ))
    (groups gs : List Group) (text : List ℕ) → old_lines ≡ old.lines → new_lines ≡ new.lines
    → groups ≡ gs
    → ShowsGroups scope (record { file = old.file; lines = old_lines })
    (record { file = new.file; lines = new_lines }) groups text → ShowsGroups scope old new gs text
groups_same scope old new old_lines new_lines groups gs text olds news same shows =
    subst (λ (ls : List (List ℕ)). ShowsGroups scope (record { file = old.file; lines = ls }) new gs
    text) olds
    (subst (λ (ls : List (List ℕ)). ShowsGroups scope
    (record { file = old.file; lines = old_lines }) (record { file = new.file; lines = ls }) gs
    text) news
    (subst (λ (all : List Group). ShowsGroups scope
    (record { file = old.file; lines = old_lines }) (record { file = new.file; lines = new_lines })
    all text) same shows))

-- and of the same scope
pub scope_same : (rules : Rules) (only : Option Way) (script file : Option (List ℕ))
    (coloured : Bool) (old new : ListView) (ds es : List Difference) (text : List ℕ)
    → script ≡ file → ds ≡ es
    → IsWorded (record {
      rules = rules;
      only = only;
      script = script;
      coloured = coloured;
    }) old new ds text → IsWorded (record {
      rules = rules;
      only = only;
      script = file;
      coloured = coloured;
    }) old new es text
scope_same rules only script file coloured old new ds es text named same worded =
    rw (← named, ← same) worded
