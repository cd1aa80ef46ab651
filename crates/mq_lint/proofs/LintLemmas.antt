-- Remarks on lines.
use Rattle.std.proofs.Common.{◌≡◌, ◌≢◌, ◌⊎◌, ⊎_elim, ℕ, ◌+◌, ◌<◌, Bool, true, false, not, ◌||◌}
use Rattle.std.proofs.Common.{◌==◌, cond, List, [], ◌∷◌, ◌++◌, length, drop, get_or, Option, Some}
use Rattle.std.proofs.Common.{None, Result, Ok, Err, All, refl, ap, sym, ◌∙◌, subst, append-nil}
use Rattle.std.proofs.Common.{append_assoc}
use Rattle.std.specs.List.{list_any, slice_split, onto_first, filter_map, cons_option}
use Rattle.std.specs.List.{enumerate_from}
use Rattle.std.specs.Option.{option_to_list}
use Rattle.std.specs.Result.{result_ok}
use Rattle.std.proofs.lemmas.List.{at_drop_more}
use Rattle.std.proofs.lemmas.List.Elements.{All-cons, All-nil, All-head, All-tail, All-get_or}
use Rattle.std.proofs.lemmas.List.Elements.{filter_map-append}
use Rattle.std.proofs.lemmas.List.Splits.{slice_split-cons_no}
use Rattle.mq_acl.specs.Lines.{Entry, Skipped, User, Topic, Pattern, lines}
use Rattle.mq_acl.specs.Rows.{AclRow, entries_by, entry_by, fault_at, faults_by, out_of_memory}
use Rattle.mq_acl.specs.Rows.{rows_by, rows_in, unless_faulty}
use Rattle.mq_acl.specs.Views.{row_view, row_views}
use Rattle.mq_acl.specs.declared.fault.AclFault.{AclFault}
use Rattle.mq_acl.specs.declared.fault.AclKind.{AclKind}
use Rattle.mq_acl.specs.declared.fault.AclKind.TheVariants as kinds
use Rattle.mq_acl.specs.declared.row.Row.{Row}
use Rattle.mq_acl.specs.declared.rules.Rules.{Rules}
use Rattle.mq_lint.specs.Blanks.{is_indented_comment, is_tabbed}
use Rattle.mq_lint.specs.Hidden.{is_obscure}
use Rattle.mq_lint.specs.Remarks.{has_mark, is_odd_by, is_unmarked, entry_kind, kind_if}
use Rattle.mq_lint.specs.Remarks.{odd_remarks, remark_on}
use Rattle.mq_lint.specs.Remarks.{line_remarks, remarks_from, fault_by, faults_shown}
use Rattle.mq_lint.specs.declared.remark.Remark.{Remark}
use Rattle.mq_lint.specs.declared.remark.RemarkKind.{RemarkKind}
use Rattle.mq_lint.specs.declared.remark.RemarkKind.TheVariants.{Fault, NoMark, IndentedComment}
use Rattle.mq_lint.specs.declared.remark.RemarkKind.TheVariants.{Hidden, Tab}

-- ---- a line alone is a text
abbrev IsAlone : {X : Type 0} → (X → Bool) → List X → Type 0
IsAlone p l = slice_split p l ≡ l ∷ []

onto : {X : Type 0} (p : X → Bool) (x : X) (ls : List (List X)) → p x ≡ false
    → All (IsAlone p) ls → All (IsAlone p) (onto_first x ls)
onto p x [] e h = All-cons (IsAlone p) (x ∷ []) [] (slice_split-cons_no p x [] e)
    (All-nil (IsAlone p))
onto p x (part ∷ parts) e h =
    All-cons (IsAlone p) (x ∷ part) parts (slice_split-cons_no p x part e
    ∙ ap (onto_first x) (All-head (IsAlone p) part parts h))
    (All-tail (IsAlone p) part parts h)

pieces_alone : {X : Type 0} (p : X → Bool) (xs : List X) → All (IsAlone p) (slice_split p xs)
pieces_alone p [] = All-cons (IsAlone p) [] [] refl (All-nil (IsAlone p))
pieces_alone p (x ∷ xs) = at (p x) refl (pieces_alone p xs)
  where
    at : (b : Bool) → p x ≡ b → All (IsAlone p) (slice_split p xs)
        → All (IsAlone p) (cond b ([] ∷ slice_split p xs) (onto_first x (slice_split p xs)))
    at true e h = All-cons (IsAlone p) [] (slice_split p xs) refl h
    at false e h = onto p x (slice_split p xs) e h

-- a line of a text, taken by itself, is a text of one line
pub line_alone : (text : List ℕ) (i : ℕ) (line : List ℕ) → i < length (lines text)
    → line ≡ get_or (lines text) i line → lines line ≡ line ∷ []
line_alone text i line h e =
    subst (λ l. lines l ≡ l ∷ []) (sym e)
    (All-get_or (λ l. lines l ≡ l ∷ []) (lines text) i line h
    (pieces_alone (λ b. b == 10) text))

-- ---- what a line alone says
viewed : (p : AclRow → Bool) (rows : List Row)
    → list_any (λ row. p (row_view row)) rows ≡ list_any p (row_views rows)
viewed p [] = refl
viewed p (row ∷ rows) = ap (λ b. p (row_view row) || b) (viewed p rows)

unmarked_is : (b : Bool) → kind_if (b || false) NoMark ≡ kind_if b NoMark
unmarked_is true = refl
unmarked_is false = refl

says : (e : Result Entry AclKind) (rows : List AclRow)
    → unless_faulty (cons_option (fault_at 1 e) []) (rows_in (cons_option (result_ok e) []))
    ≡ Ok rows
    → kind_if (list_any is_unmarked rows) NoMark ≡ entry_kind e
says (Err kind) rows h = absurd (cc)
says (Ok Skipped) rows h =
    (let e : [] ≡ rows = cc in subst (λ l. kind_if (list_any is_unmarked l) NoMark ≡ None) e refl)
says (Ok (User name)) rows h =
    (let e : [] ≡ rows = cc in subst (λ l. kind_if (list_any is_unmarked l) NoMark ≡ None) e refl)
says (Ok (Topic access topic)) rows h =
    (let e : rows_in (Topic access topic ∷ []) ≡ rows = cc in
    subst (λ l. kind_if (list_any is_unmarked l) NoMark ≡ None) e refl)
says (Ok (Pattern access topic)) rows h =
    (let e : rows_in (Pattern access topic ∷ []) ≡ rows = cc in
    subst (λ l. kind_if (list_any is_unmarked l) NoMark ≡ kind_if (not (has_mark topic)) NoMark) e
    (unmarked_is (not (has_mark topic))))

fails : (e : Result Entry AclKind) (rows : List AclRow) (fault : AclFault)
    → unless_faulty (cons_option (fault_at 1 e) []) rows ≡ Err fault
    → Some (Fault fault.kind) ≡ entry_kind e
fails (Ok entry) rows fault h = absurd (cc)
fails (Err kind) rows fault h =
    (let e : record { line = 1; kind = kind } ≡ fault = cc in ap (λ f. Some (Fault f.kind)) (sym e))

-- where a single line is read without a fault, its rows show what is odd about what it says
pub line_says : (rules : Rules) (line : List ℕ) (rows : List Row) → lines line ≡ line ∷ []
    → rows_by rules line ≡ Ok (row_views rows)
    → kind_if (list_any (λ row. is_unmarked (row_view row)) rows) NoMark
    ≡ entry_kind (entry_by rules line)
line_says rules line rows alone h =
    ap (λ b. kind_if b NoMark) (viewed is_unmarked rows)
    ∙ says (entry_by rules line) (row_views rows)
    (ap (λ ls. unless_faulty (faults_by rules ls) (rows_in (entries_by rules ls))) (sym alone) ∙ h)

-- where a single line is faulty, and memory was not lacking, its fault is what is odd about it
pub line_fails : (rules : Rules) (line : List ℕ) (fault : AclFault) → lines line ≡ line ∷ []
    → fault.kind ≢ kinds.Memory → (fault ≡ out_of_memory) ⊎ (rows_by rules line ≡ Err fault)
    → Some (Fault fault.kind) ≡ entry_kind (entry_by rules line)
line_fails rules line fault alone own h =
    ⊎_elim (λ same. absurd (own (ap (λ f. f.kind) same)))
    (λ e. fails (entry_by rules line) (rows_in (entries_by rules (line ∷ []))) fault
    (ap (λ ls. unless_faulty (faults_by rules ls) (rows_in (entries_by rules ls))) (sym alone) ∙ e)) h

-- ---- line by line
pub remarks_step : (rules : Rules) (all : List (List ℕ)) (number : ℕ) (line : List ℕ) → number < length all
    → line ≡ get_or all number line
    → remarks_from rules (number + 1) (drop number all)
    ≡ line_remarks rules (number + 1) line ++ remarks_from rules (number + 1 + 1) (drop (number + 1) all)
remarks_step rules all number line h e =
    at_drop_more (remarks_from rules (number + 1)) all number line h
    ∙ ap (λ l. line_remarks rules (number + 1) l ++ remarks_from rules (number + 1 + 1) (drop (number + 1) all))
    (sym e)

-- ---- the faults among the remarks

abbrev shown : Remark → Option AclFault
shown remark = fault_by remark.line remark.kind

no_fault : (number : ℕ) (b : Bool) (kind : RemarkKind) → fault_by number kind ≡ None
    → faults_shown (remark_on number (kind_if b kind)) ≡ []
no_fault number true kind e = ap (λ o. cons_option o []) e
no_fault number false kind e = refl

entry_fault : (number : ℕ) (e : Result Entry AclKind)
    → faults_shown (remark_on number (entry_kind e)) ≡ option_to_list (fault_at number e)
entry_fault number (Err kind) = refl
entry_fault number (Ok Skipped) = refl
entry_fault number (Ok (User name)) = refl
entry_fault number (Ok (Topic access topic)) = refl
entry_fault number (Ok (Pattern access topic)) = no_fault number (not (has_mark topic)) NoMark refl

odd_fault : (rules : Rules) (number : ℕ) (line : List ℕ)
    → faults_shown (odd_remarks rules number line) ≡ option_to_list (fault_at number (entry_by rules line))
odd_fault rules number line =
    let entry = remark_on number (entry_kind (entry_by rules line)) in
    let comment = remark_on number (kind_if (is_odd_by rules (is_indented_comment line)) IndentedComment) in
    let tab = remark_on number (kind_if (is_odd_by rules (is_tabbed line)) Tab) in
    filter_map-append shown (entry ++ comment) tab
    ∙ ap (λ l. l ++ faults_shown tab) (filter_map-append shown entry comment)
    ∙ ap (λ l. (faults_shown entry ++ faults_shown comment) ++ l)
    (no_fault number (is_odd_by rules (is_tabbed line)) Tab refl)
    ∙ append-nil (faults_shown entry ++ faults_shown comment)
    ∙ ap (λ l. faults_shown entry ++ l)
    (no_fault number (is_odd_by rules (is_indented_comment line)) IndentedComment refl)
    ∙ append-nil (faults_shown entry)
    ∙ entry_fault number (entry_by rules line)

line_fault : (rules : Rules) (number : ℕ) (line : List ℕ)
    → faults_shown (line_remarks rules number line) ≡ option_to_list (fault_at number (entry_by rules line))
line_fault rules number line =
    filter_map-append shown (odd_remarks rules number line)
    (remark_on number (kind_if (is_obscure line) Hidden))
    ∙ ap (λ l. faults_shown (odd_remarks rules number line) ++ l)
    (no_fault number (is_obscure line) Hidden refl)
    ∙ append-nil (faults_shown (odd_remarks rules number line))
    ∙ odd_fault rules number line

listed : {X : Type 0} (o : Option X) (xs : List X) → option_to_list o ++ xs ≡ cons_option o xs
listed None xs = refl
listed (Some x) xs = refl

-- the faults among the remarks on lines are those of the lines, with their numbers
pub faults_from : (rules : Rules) (number : ℕ) (all : List (List ℕ))
    → faults_shown (remarks_from rules number all)
    ≡ filter_map (λ numbered. fault_at numbered.0 (entry_by rules numbered.1)) (enumerate_from number all)
faults_from rules number [] = refl
faults_from rules number (line ∷ all) =
    filter_map-append shown (line_remarks rules number line) (remarks_from rules (number + 1) all)
    ∙ (λ i. line_fault rules number line i ++ faults_from rules (number + 1) all i)
    ∙ listed (fault_at number (entry_by rules line))
    (filter_map (λ numbered. fault_at numbered.0 (entry_by rules numbered.1))
    (enumerate_from (number + 1) all))

-- ---- one line
-- what is added for a line, one after the other, is all that is odd about it
odd_added : (rules : Rules) (number : ℕ) (line : List ℕ) (a b c d : List Remark)
    (entry comment tab : Option RemarkKind) → b ≡ a ++ remark_on number entry
    → c ≡ b ++ remark_on number comment → d ≡ c ++ remark_on number tab
    → entry ≡ entry_kind (entry_by rules line)
    → comment ≡ kind_if (is_odd_by rules (is_indented_comment line)) IndentedComment
    → tab ≡ kind_if (is_odd_by rules (is_tabbed line)) Tab → d ≡ a ++ odd_remarks rules number line
odd_added rules number line a b c d entry comment tab first second third e f g =
    third
    ∙ ap (λ l. l ++ remark_on number tab) (second ∙ ap (λ l. l ++ remark_on number comment) first
    ∙ append_assoc a (remark_on number entry) (remark_on number comment))
    ∙ append_assoc a (remark_on number entry ++ remark_on number comment) (remark_on number tab)
    ∙ (λ i. a ++ ((remark_on number (e i) ++ remark_on number (f i)) ++ remark_on number (g i)))

pub line_added : (rules : Rules) (number : ℕ) (line : List ℕ) (a b c d all : List Remark)
    (entry comment tab hidden : Option RemarkKind) → b ≡ a ++ remark_on number entry
    → c ≡ b ++ remark_on number comment → d ≡ c ++ remark_on number tab
    → all ≡ d ++ remark_on number hidden → entry ≡ entry_kind (entry_by rules line)
    → comment ≡ kind_if (is_odd_by rules (is_indented_comment line)) IndentedComment
    → tab ≡ kind_if (is_odd_by rules (is_tabbed line)) Tab
    → hidden ≡ kind_if (is_obscure line) Hidden → all ≡ a ++ line_remarks rules number line
line_added rules number line a b c d all entry comment tab hidden first second third fourth e f g h =
    fourth
    ∙ ap (λ l. l ++ remark_on number hidden)
    (odd_added rules number line a b c d entry comment tab first second third e f g)
    ∙ append_assoc a (odd_remarks rules number line) (remark_on number hidden)
    ∙ ap (λ kind. a ++ (odd_remarks rules number line ++ remark_on number kind)) h
