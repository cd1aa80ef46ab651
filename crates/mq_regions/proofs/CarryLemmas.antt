-- Filters that a rule carries.
use Rattle.std.proofs.Common.{◌≡◌, ℕ, true, ◌&&◌, ◌||◌, List, ◌++◌, Bor, refl, ap, sym, ◌∙◌, arith}
use Rattle.std.proofs.Common.{Option, Some, None, Result, Ok, Err}
use Rattle.std.specs.Prelude.{IfOk, IfSome}
use Rattle.std.proofs.lemmas.Bool.{and_parts}
use Rattle.std.proofs.lemmas.List.Folds.{list_any-append}
use Rattle.mq_topic.specs.Levels.{levels}
use Rattle.mq_topic.specs.Matching.{matches}
use Rattle.mq_topic.specs.Texts.{is_name}
use Rattle.mq_rename.specs.Lists.{has_long}
use Rattle.mq_rename.specs.Meets.{matches_if_any}
use Rattle.mq_rename.specs.Renames.{Renaming, is_rename, new_name}
use Rattle.mq_rename.specs.declared.fault.MeetFault.{MeetFault}
use Rattle.mq_regions.specs.Carried.{IsCarriedIfAny}
use Rattle.mq_regions.specs.declared.region.RegionKind.TheVariants.{Renamed}
use Rattle.mq_regions.specs.declared.side.Side.TheVariants.{Old, New}

-- a long level of a rule's left side is one of the rule's
long_left : (rule : Bor Renaming) (filter : List ℕ)
    → (has_long (levels rule.now.left) || has_long (levels filter)) ≡ true
    → (has_long (levels rule.now.left ++ levels rule.now.right) || has_long (levels filter)) ≡ true
long_left rule filter h = grind (arith, list_any-append)

abbrev LongIfAny : Bor Renaming → List ℕ → Option (List ℕ) → Type 0
LongIfAny rule filter found = IfSome found (λ f. has_long (levels f) ≡ true
    → (has_long (levels rule.now.left) || has_long (levels filter)) ≡ true)

-- ---- rows of the old list
abbrev IsCut : Bor Renaming → List ℕ → Option (List ℕ) → Type 0
IsCut rule filter found = (n : List ℕ) → is_name n ≡ true → matches_if_any found n
    ≡ (matches (levels rule.now.left) (levels n) && matches (levels filter) (levels n))

cut_carried : (rule : Bor Renaming) (filter : List ℕ) (found : Option (List ℕ))
    → IsCut rule filter found → LongIfAny rule filter found
    → IsCarriedIfAny Old (Renamed rule) filter found
cut_carried rule filter None same long = record {
  none = λ n m h g e.
      let is : n ≡ m = cc in
      ap (λ t. matches (levels filter) (levels t)) (sym is)
      ∙ ap (λ b. b && matches (levels filter) (levels n)) (sym g) ∙ sym (same n h);
  rule = refl;
}
cut_carried rule filter (Some cut) same long = record {
  same = λ n m h g e.
      let is : n ≡ m = cc in
      same n h ∙ ap (λ b. b && matches (levels filter) (levels n)) g
      ∙ ap (λ t. matches (levels filter) (levels t)) is;
  inside = λ n h e.
      (and_parts (matches (levels rule.now.left) (levels n)) _ (sym (same n h) ∙ e)).0;
  rule = refl;
  long = λ h. long_left rule filter (long h);
}

pub cut_ok : (rule : Bor Renaming) (filter : List ℕ) (r : Result (Option (List ℕ)) MeetFault)
    → IfOk r (IsCut rule filter) → IfOk r (LongIfAny rule filter)
    → IfOk r (IsCarriedIfAny Old (Renamed rule) filter)
cut_ok rule filter (Ok found) same long = cut_carried rule filter found same long
cut_ok rule filter (Err fault) same long = tt

-- ---- rows of the new list
abbrev IsBack : Bor Renaming → List ℕ → Option (List ℕ) → Type 0
IsBack rule filter found = (n m : List ℕ) → is_name n ≡ true → new_name rule.now n ≡ Some m
    → matches_if_any found n ≡ matches (levels filter) (levels m)

abbrev IsRenamed : Bor Renaming → Option (List ℕ) → Type 0
IsRenamed rule found = (n : List ℕ) → is_name n ≡ true → matches_if_any found n ≡ true
    → matches (levels rule.now.left) (levels n) ≡ true

back_carried : (rule : Bor Renaming) (filter : List ℕ) (found : Option (List ℕ))
    → is_rename rule.now.left rule.now.right rule.now.places ≡ true → IsBack rule filter found
    → IsRenamed rule found → LongIfAny rule filter found
    → IsCarriedIfAny New (Renamed rule) filter found
back_carried rule filter None whole same inside long = record {
  none = λ n m h g e. sym (same n m h e);
  rule = whole;
}
back_carried rule filter (Some back) whole same inside long = record {
  same = λ n m h g e. same n m h e;
  inside = λ n h e. inside n h e;
  rule = whole;
  long = λ h. long_left rule filter (long h);
}

pub back_ok : (rule : Bor Renaming) (filter : List ℕ) (r : Result (Option (List ℕ)) MeetFault)
    → is_rename rule.now.left rule.now.right rule.now.places ≡ true
    → IfOk r (IsBack rule filter) → IfOk r (IsRenamed rule) → IfOk r (LongIfAny rule filter)
    → IfOk r (IsCarriedIfAny New (Renamed rule) filter)
back_ok rule filter (Ok found) whole same inside long =
    back_carried rule filter found whole same inside long
back_ok rule filter (Err fault) whole same inside long = tt
