-- Objects that are added one after the other.
use Rattle.std.proofs.Common.{◌≡◌, ◌++◌, ◌∙◌, ◌+◌, ◌<◌, ◌≤◌, ◌==◌, ℕ, true, false, List, [], ◌∷◌}
use Rattle.std.proofs.Common.{arith, append-nil, append_assoc, ap, map, length, take, not}
use Rattle.std.proofs.Common.{codes, flat_map, get_or, refl, subst, sym, true≢false}
use Rattle.std.specs.List.{filter}
use Rattle.std.proofs.lemmas.List.{map-append, take_all, take_more}
use Rattle.std.proofs.lemmas.List.Concat.{flat_map-append}
use Rattle.std.proofs.lemmas.Grind.{common_steps}
use Rattle.std.proofs.lemmas.List.Elements.{filter-append}
use Rattle.mq_ask_lint.specs.Objects.{AddsObjects, Said, all_refused, all_said, empty_said, is_remarked}
use Rattle.mq_ask_lint.specs.Objects.{refused_lines, refused_said, remark_said, said_text, unremarked}
use Rattle.mq_ask_lint.specs.Objects.{whole_said}
use Rattle.mq_ask_lint.specs.declared.lint.Remarks.{Remarks}
use Rattle.mq_lint.specs.declared.remark.Remark.{Remark}
use Rattle.mq_print.specs.Lists.{ListView}

pub adds_none : (list : ListView) (before after : List ℕ) → after ≡ before
    → AddsObjects list [] before after
adds_none list before after same = record {
  worded = [];
  of_all = refl;
  text_is = same ∙ sym (append-nil before);
}

pub adds_one : (list : ListView) (said : Said) (words before after : List ℕ)
    → after ≡ before ++ said_text list said words → AddsObjects list (said ∷ []) before after
adds_one list said words before after added = record {
  worded = (said, words) ∷ [];
  of_all = refl;
  text_is = added ∙ ap (λ t. before ++ t) (sym (append-nil (said_text list said words)));
}

pub adds_both : (list : ListView) (some more : List Said) (before between after : List ℕ)
    → AddsObjects list some before between → AddsObjects list more between after
    → AddsObjects list (some ++ more) before after
adds_both list some more before between after a b =
    let text = λ (it : Said × List ℕ). said_text list it.0 it.1 in
    record {
      worded = a.worded ++ b.worded;
      of_all = map-append (λ it. it.0) a.worded b.worded
          ∙ ap (λ l. l ++ map (λ it. it.0) b.worded) a.of_all ∙ ap (λ l. some ++ l) b.of_all;
      text_is = b.text_is ∙ ap (λ t. t ++ flat_map text b.worded) a.text_is
          ∙ append_assoc before (flat_map text a.worded) (flat_map text b.worded)
          ∙ ap (λ t. before ++ t) (sym (flat_map-append text a.worded b.worded));
    }

-- it is the same of a list with the same lines
pub adds_in : (list : ListView) (lines : List (List ℕ)) (all : List Said) (before after : List ℕ)
    → lines ≡ list.lines
    → AddsObjects (record { file = list.file; lines = lines }) all before after
    → AddsObjects list all before after
adds_in list lines all before after same adds =
    subst (λ ls. AddsObjects (record { file = list.file; lines = ls }) all before after) same adds

-- one more of these remarks
pub adds_more : (list : ListView) (said : Remark → Said) (rs : List Remark) (i : ℕ) (r : Remark)
    (before between after : List ℕ) → i < length rs → r ≡ get_or rs i r
    → AddsObjects list (map said (take i rs)) before between
    → AddsObjects list (said r ∷ []) between after
    → AddsObjects list (map said (take (i + 1) rs)) before after
adds_more list said rs i r before between after low is some one =
    let more : map said (take (i + 1) rs) ≡ map said (take i rs) ++ said r ∷ [] =
    ap (map said) (take_more rs i r low ∙ ap (λ it. take i rs ++ it ∷ []) (sym is))
    ∙ map-append said (take i rs) (r ∷ []) in
    subst (λ all. AddsObjects list all before after) (sym more)
    (adds_both list (map said (take i rs)) (said r ∷ []) before between after some one)

-- ---- lines that mosquitto doesn't take
pub refused_one : (list : ListView) (odd : List Remark) (r : Remark) (words before after : List ℕ)
    → is_remarked odd r.line ≡ false
    → after ≡ before ++ said_text list (refused_said r) words
    → AddsObjects list (map refused_said (unremarked odd (r ∷ []))) before after
refused_one list odd r words before after none added =
    rw none (adds_one list (refused_said r) words before after added)

pub refused_none : (list : ListView) (odd : List Remark) (r : Remark) (before after : List ℕ)
    → is_remarked odd r.line ≡ true → after ≡ before
    → AddsObjects list (map refused_said (unremarked odd (r ∷ []))) before after
refused_none list odd r before after some same = rw some (adds_none list before after same)

pub refused_more : (list : ListView) (odd rs : List Remark) (i : ℕ) (r : Remark)
    (before between after : List ℕ) → i < length rs → r ≡ get_or rs i r
    → AddsObjects list (map refused_said (unremarked odd (take i rs))) before between
    → AddsObjects list (map refused_said (unremarked odd (r ∷ []))) between after
    → AddsObjects list (map refused_said (unremarked odd (take (i + 1) rs))) before after
refused_more list odd rs i r before between after low is some one =
    let p = λ (it : Remark). not (is_remarked odd it.line) in
    let more : map refused_said (unremarked odd (take (i + 1) rs))
    ≡ map refused_said (unremarked odd (take i rs)) ++ map refused_said (unremarked odd (r ∷ [])) =
    ap (λ l. map refused_said (filter p l))
    (take_more rs i r low ∙ ap (λ it. take i rs ++ it ∷ []) (sym is))
    ∙ ap (map refused_said) (filter-append p (take i rs) (r ∷ []))
    ∙ map-append refused_said (filter p (take i rs)) (filter p (r ∷ [])) in
    subst (λ all. AddsObjects list all before after) (sym more)
    (adds_both list (map refused_said (unremarked odd (take i rs)))
    (map refused_said (unremarked odd (r ∷ []))) before between after some one)

none_of : (rs : List Remark) → (length rs == 0) ≡ true → rs ≡ []
none_of [] none = refl
none_of (r ∷ rs) none = grind (arith, common_steps)

-- none of a list that mosquitto takes
pub refused_nothing : (list : ListView) (odd rs : List Remark) (before after : List ℕ)
    → (length rs == 0) ≡ true → after ≡ before → AddsObjects list (all_refused odd rs) before after
refused_nothing list odd rs before after none same =
    rw (none_of rs none) (adds_none list before after same)

-- each line of another, and then what is said of the list
pub refused_all : (list : ListView) (odd rs : List Remark) (i : ℕ) (before between after : List ℕ)
    → (length rs == 0) ≡ false → length rs ≤ i
    → AddsObjects list (map refused_said (unremarked odd (take i rs))) before between
    → AddsObjects list (whole_said (codes "not taken") ∷ []) between after
    → AddsObjects list (all_refused odd rs) before after
refused_all list odd [] i before between after some end lines whole = absurd (true≢false some)
refused_all list odd (r ∷ rs) i before between after some end lines whole =
    adds_both list (map refused_said (unremarked odd (r ∷ rs))) (whole_said (codes "not taken") ∷ [])
    before between after
    (subst (λ all. AddsObjects list (map refused_said (unremarked odd all)) before between)
    (take_all i (r ∷ rs) end) lines) whole

-- ---- all that is said of a list, one after the other
pub all_added : (list : ListView) (text : List ℕ) (r : Remarks)
    (odd needless again refused : List Remark) (before behind between after : List ℕ)
    → odd ≡ r.odd.items → needless ≡ r.needless.items → again ≡ r.odd.items
    → refused ≡ refused_lines text
    → AddsObjects list (map remark_said odd ++ map remark_said needless) before behind
    → AddsObjects list (all_refused again refused) behind between
    → AddsObjects list (empty_said r.is_empty) between after
    → AddsObjects list (all_said text r) before after
all_added list text r odd needless again refused before behind between after odds needlesses agains
    refuseds remarks lines whole =
    let said = map remark_said r.odd.items ++ map remark_said r.needless.items in
    adds_both list (said ++ all_refused r.odd.items (refused_lines text)) (empty_said r.is_empty)
    before between after
    (adds_both list said (all_refused r.odd.items (refused_lines text)) before behind between
    (rw (odds, needlesses) at remarks) (rw (agains, refuseds) at lines)) whole
