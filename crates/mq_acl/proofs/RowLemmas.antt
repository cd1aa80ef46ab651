-- The rows of a text, line by line.
use Rattle.std.proofs.Common.{◌≡◌, ℕ, ◌+◌, ◌≤◌, List, [], ◌∷◌, ◌++◌, length, take, Option, Some}
use Rattle.std.proofs.Common.{None, Ok, Err, refl, ap, sym, ◌∙◌, arith, append_assoc, append-nil}
use Rattle.std.proofs.Common.{length-append}
use Rattle.std.specs.List.{filter_map, cons_option, last_or, enumerate_from}
use Rattle.std.specs.Option.{option_to_list}
use Rattle.std.specs.Result.{result_ok}
use Rattle.std.proofs.lemmas.List.{take-append-le, take_all}
use Rattle.std.proofs.lemmas.List.Elements.{filter_map-append}
use Rattle.mq_acl.specs.Lines.{Entry, Skipped, User, Topic, Pattern}
use Rattle.mq_acl.specs.Rows.{Who, AclRow, user_name, who_of, who_after, row_of, rows_in}
use Rattle.mq_acl.specs.Rows.{entry_by, entries_by, row_line, fault_at, faults_by, unless_faulty}
use Rattle.mq_acl.specs.declared.rules.Rules.{Rules}
use Rattle.mq_acl.specs.Views.{who_then, IsAdded}
use Rattle.mq_acl.specs.declared.fault.AclFault.{AclFault}

last_or_push : {A : Type 0} (o : Option A) (xs : List A) (y : A) → last_or o (xs ++ y ∷ []) ≡ Some y
last_or_push o [] y = refl
last_or_push o (x ∷ xs) y = last_or_push (Some x) xs y

who_after_push : (before : List Entry) (entry : Entry)
    → who_after (before ++ entry ∷ []) ≡ who_then (who_after before) entry
who_after_push before entry =
    ap (λ names. who_of (last_or None names)) (filter_map-append user_name before (entry ∷ []))
    ∙ at entry
  where
    same : who_of (last_or None (filter_map user_name before ++ [])) ≡ who_after before
    same = ap (λ names. who_of (last_or None names)) (append-nil (filter_map user_name before))

    at : (e : Entry)
        → who_of (last_or None (filter_map user_name before ++ filter_map user_name (e ∷ [])))
        ≡ who_then (who_after before) e
    at Skipped = same
    at (User name) = ap who_of (last_or_push None (filter_map user_name before) name)
    at (Topic access topic) = same
    at (Pattern access topic) = same

enumerate_from-append : {X : Type 0} (n : ℕ) (xs ys : List X)
    → enumerate_from n (xs ++ ys) ≡ enumerate_from n xs ++ enumerate_from (n + length xs) ys
enumerate_from-append n [] ys = ap (λ k. enumerate_from k ys) (let e : n ≡ n + 0 = omega arith in e)
enumerate_from-append n (x ∷ xs) ys =
    ap (λ l. (n, x) ∷ l) (enumerate_from-append (n + 1) xs ys
    ∙ ap (λ k. enumerate_from (n + 1) xs ++ enumerate_from k ys)
    (let e : n + 1 + length xs ≡ n + length (x ∷ xs) = omega arith in e))

cons_option-nil : {X : Type 0} (o : Option X) → cons_option o [] ≡ option_to_list o
cons_option-nil None = refl
cons_option-nil (Some x) = refl

-- the row of the entry at a place
abbrev row_at : List Entry → ℕ × Entry → Option AclRow
row_at all placed = row_of (who_after (take placed.0 all)) placed.1

-- what follows is nothing to the rows before it
rows_before : (all more part : List Entry) (n : ℕ) → n + length part ≤ length all
    → filter_map (row_at (all ++ more)) (enumerate_from n part)
    ≡ filter_map (row_at all) (enumerate_from n part)
rows_before all more [] n h = refl
rows_before all more (entry ∷ part) n h =
    (λ i. cons_option (row_of (who_after (take-append-le n all more (omega arith) i)) entry)
    (filter_map (row_at (all ++ more)) (enumerate_from (n + 1) part)))
    ∙ ap (cons_option (row_at all (n, entry))) (rows_before all more part (n + 1) (omega arith))

rows_push : (before : List Entry) (entry : Entry)
    → rows_in (before ++ entry ∷ []) ≡ rows_in before
    ++ option_to_list (row_of (who_after before) entry)
rows_push before entry =
    let all = before ++ entry ∷ [] in
    let up_to : take (length before) all ≡ before =
    take-append-le (length before) before (entry ∷ []) (omega arith)
    ∙ take_all (length before) before (omega arith) in
    ap (filter_map (row_at all)) (enumerate_from-append 0 before (entry ∷ []))
    ∙ ap (λ k. filter_map (row_at all) (enumerate_from 0 before ++ enumerate_from k (entry ∷ [])))
    (let e : 0 + length before ≡ length before = omega arith in e)
    ∙ filter_map-append (row_at all) (enumerate_from 0 before)
    (enumerate_from (length before) (entry ∷ []))
    ∙ ap (λ l. l ++ filter_map (row_at all) (enumerate_from (length before) (entry ∷ [])))
    (rows_before before (entry ∷ []) before 0 (omega arith))
    ∙ ap (λ l. rows_in before ++ l) (cons_option-nil (row_at all (length before, entry))
    ∙ ap (λ es. option_to_list (row_of (who_after es) entry)) up_to)

module _ (rules : Rules) where
  entries_push : (done : List (List ℕ)) (line : List ℕ) (entry : Entry)
      → entry_by rules line ≡ Ok entry
      → entries_by rules (done ++ line ∷ []) ≡ entries_by rules done ++ entry ∷ []
  entries_push done line entry e =
      filter_map-append (λ l. result_ok (entry_by rules l)) done (line ∷ [])
      ∙ ap (λ r. entries_by rules done ++ cons_option (result_ok r) []) e

  abbrev fault_of_line : ℕ × List ℕ → Option AclFault
  fault_of_line numbered = fault_at numbered.0 (entry_by rules numbered.1)

  faults_append : (done more : List (List ℕ)) → faults_by rules done ≡ []
      → faults_by rules (done ++ more)
      ≡ filter_map fault_of_line (enumerate_from (1 + length done) more)
  faults_append done more e =
      ap (filter_map fault_of_line) (enumerate_from-append 1 done more)
      ∙ filter_map-append fault_of_line (enumerate_from 1 done)
      (enumerate_from (1 + length done) more)
      ∙ ap (λ l. l ++ filter_map fault_of_line (enumerate_from (1 + length done) more)) e

  -- the number of each of the lines that says a row
  abbrev row_lines_of : List (List ℕ) → List ℕ
  row_lines_of ls = filter_map (λ numbered. row_line numbered.0 (entry_by rules numbered.1))
      (enumerate_from 1 ls)

  row_lines_push : (done : List (List ℕ)) (line : List ℕ) (entry : Entry)
      → entry_by rules line ≡ Ok entry
      → row_lines_of (done ++ line ∷ []) ≡ row_lines_of done
      ++ option_to_list (row_line (1 + length done) (Ok entry))
  row_lines_push done line entry e =
      let number : ℕ × List ℕ → Option ℕ = (λ numbered. row_line numbered.0 (entry_by rules numbered.1)) in
      ap (filter_map number) (enumerate_from-append 1 done (line ∷ []))
      ∙ filter_map-append number (enumerate_from 1 done)
      (enumerate_from (1 + length done) (line ∷ []))
      ∙ ap (λ l. row_lines_of done ++ l) (cons_option-nil (row_line (1 + length done) (entry_by rules line))
      ∙ ap (λ r. option_to_list (row_line (1 + length done) r)) e)

  -- the first n lines are read, and have given these rows and their numbers; the next ones are left
  pub record IsReadTo (all left : List (List ℕ)) (n : ℕ) (who : Who) (rows : List AclRow)
      (numbers : List ℕ) : Type 0 where
    pub done : List (List ℕ)
    pub count : length done ≡ n
    pub parts : done ++ left ≡ all
    pub faultless : faults_by rules done ≡ []
    pub rows_are : rows ≡ rows_in (entries_by rules done)
    pub who_is : who ≡ who_after (entries_by rules done)
    pub numbers_are : numbers ≡ row_lines_of done

  -- one more line is read, with the rows that it adds
  pub read_step : (all left more : List (List ℕ)) (line : List ℕ) (n : ℕ) (who next : Who)
      (rows now : List AclRow) (numbers numbers_now : List ℕ)
      → IsReadTo all left n who rows numbers → left ≡ line ∷ more
      → IsAdded rules line (n + 1) who next rows numbers now numbers_now
      → IsReadTo all more (n + 1) next now numbers_now
  read_step all left more line n who next rows now numbers numbers_now s cut a =
      let entries = entries_by rules s.done in
      let push = sym (entries_push s.done line a.entry a.says) in
      record {
        done = s.done ++ line ∷ [];
        count = (let e = length-append s.done (line ∷ []) in let c = s.count in omega arith);
        parts = append_assoc s.done (line ∷ []) more ∙ ap (λ l. s.done ++ l) (sym cut) ∙ s.parts;
        faultless = faults_append s.done (line ∷ []) s.faultless
            ∙ ap (λ r. cons_option (fault_at (1 + length s.done) r) []) a.says;
        rows_are = a.added ∙ (λ i. s.rows_are i ++ option_to_list (row_of (s.who_is i) a.entry))
            ∙ sym (rows_push entries a.entry) ∙ ap rows_in push;
        who_is = a.user ∙ ap (λ w. who_then w a.entry) s.who_is ∙ sym (who_after_push entries a.entry)
            ∙ ap who_after push;
        numbers_are =
            a.numbered ∙ (λ i. s.numbers_are i ++ option_to_list (row_line (n + 1) (Ok a.entry)))
            ∙ ap (λ k. row_lines_of s.done ++ option_to_list (row_line k (Ok a.entry)))
            (let c = s.count in let e : n + 1 ≡ 1 + length s.done = omega arith in e)
            ∙ sym (row_lines_push s.done line a.entry a.says);
      }

  -- a fault in the next line is what the whole list gives
  pub read_fault : (all left more : List (List ℕ)) (line : List ℕ) (n : ℕ) (who : Who)
      (rows : List AclRow) (numbers : List ℕ) (fault : AclFault)
      → IsReadTo all left n who rows numbers → left ≡ line ∷ more
      → fault_at (n + 1) (entry_by rules line) ≡ Some fault
      → unless_faulty (faults_by rules all) (rows_in (entries_by rules all)) ≡ Err fault
  read_fault all left more line n who rows numbers fault s cut f =
      let later = filter_map fault_of_line (enumerate_from (1 + length s.done + 1) more) in
      let number : 1 + length s.done ≡ n + 1 = (let c = s.count in omega arith) in
      let first : faults_by rules all ≡ fault ∷ later =
      ap (faults_by rules) (sym s.parts)
      ∙ faults_append s.done left s.faultless
      ∙ ap (λ l. filter_map fault_of_line (enumerate_from (1 + length s.done) l)) cut
      ∙ ap (λ k. cons_option (fault_at k (entry_by rules line)) later) number
      ∙ ap (λ o. cons_option o later) f in
      ap (λ faults. unless_faulty faults (rows_in (entries_by rules all))) first

  -- once no line is left, the numbers are those of the lines with rows
  pub read_lines : (all left : List (List ℕ)) (n : ℕ) (who : Who) (rows : List AclRow)
      (numbers : List ℕ) → IsReadTo all left n who rows numbers → left ≡ []
      → numbers ≡ row_lines_of all
  read_lines all left n who rows numbers s cut =
      s.numbers_are ∙ ap row_lines_of
      (sym (sym s.parts ∙ ap (λ l. s.done ++ l) cut ∙ append-nil s.done))

  -- the lines read and the lines left are all the lines
  pub read_count : (all left : List (List ℕ)) (n : ℕ) (who : Who) (rows : List AclRow)
      (numbers : List ℕ) → IsReadTo all left n who rows numbers → n + length left ≡ length all
  read_count all left n who rows numbers s =
      let parts = ap length s.parts in
      let both = length-append s.done left in
      let count = s.count in
      omega arith
