-- An object whose names ascend, read from the next member alone.
use Rattle.std.proofs.Common.{◌≡◌, ℕ, List, [], ◌∷◌, Bool, true, false, ◌&&◌, Some, None}
use Rattle.std.proofs.Common.{Ordering, Less, Equal, Greater, String, Global, string_bytes}
use Rattle.std.proofs.Common.{string_cmp, nat_cmp, is_eq, bytes_eq, true≢false, refl, sym, ap, ◌∙◌}
use Rattle.std.proofs.lemmas.Cmp.{nat_list_cmp_total}
use Rattle.std.proofs.lemmas.Map.Text.{is_eq-slice_cmp}
use Rattle.std.specs.Cmp.Lexicographic.{slice_cmp}
use Rattle.std.specs.List.{AllByRecursion, list_all}
use Rattle.std.specs.List.Sorted.{IsStrictlySortedBy}
use Rattle.std.specs.Map.{keys_of}
use Rattle.std.specs.Ordering.{match_ordering, ordering_reverse, is_lt}
use Rattle.mq_world.proofs.OrderLemmas.{equal_from, less_from}
use Rattle.serde_json.specs.Data.{Data, Members, no_members, member}
use Rattle.serde_json.specs.Find.{get, get_member}
use Rattle.serde_json.specs.View.{members_view}
use Rattle.serde_json.specs.declared.value.Value.{Value}
use Rattle.mq_jsonl.specs.Objects.{names_of}
use Rattle.mq_jsonl.specs.Fields.{is_among, all_among}
use Rattle.mq_jsonl.specs.Ahead.{Above, Ascends, ahead}

abbrev pub text_cmp : List ℕ → List ℕ → Ordering
text_cmp = slice_cmp nat_cmp

above_keys : (k : String Global) (es : List (String Global × Value))
    → AllByRecursion (λ l. string_cmp k l ≡ Less) (keys_of es)
    → Above (string_bytes k) (names_of (members_view es))
above_keys k [] h = tt
above_keys k (e ∷ es) h = (h.0, above_keys k es h.1)

-- the keys of a map are sorted, so the names of its members ascend
pub ascends_keys : (es : List (String Global × Value)) → IsStrictlySortedBy string_cmp (keys_of es)
    → Ascends (names_of (members_view es))
unfolding IsStrictlySortedBy
ascends_keys [] h = tt
ascends_keys (e ∷ es) h = (above_keys e.0 es h.0, ascends_keys es h.1)

-- ## One name and names above it

-- the order of two names, from the other side
pub turned : (n k : List ℕ) (o : Ordering) → text_cmp n k ≡ o → text_cmp k n ≡ ordering_reverse o
turned n k o h = nat_list_cmp_total.antisymm k n ∙ ap ordering_reverse h

pub apart : (n k : List ℕ) → text_cmp n k ≡ Less → bytes_eq n k ≡ false
apart n k h = sym (is_eq-slice_cmp n k) ∙ ap is_eq h

pub apart_from : (n k : List ℕ) → text_cmp n k ≡ Less → bytes_eq k n ≡ false
apart_from n k h = sym (is_eq-slice_cmp k n) ∙ ap is_eq (turned n k Less h)

pub above_later : (n k : List ℕ) (names : List (List ℕ)) → text_cmp n k ≡ Less → Above k names
    → Above n names
above_later n k [] h above = tt
above_later n k (m ∷ names) h above =
    (nat_list_cmp_total.trans n k m h above.0, above_later n k names h above.1)

-- a name below all others is none of theirs
pub unfound : (n : List ℕ) (ms : Members) → Above n (names_of ms) → get_member n ms ≡ None
unfound n no_members h = refl
unfound n (member k d ms) h = rw h.0 (unfound n ms h.1)

pub not_among : (k : List ℕ) (names : List (List ℕ)) → Above k names → is_among names k ≡ false
not_among k [] above = refl
not_among k (n ∷ names) above = rw (apart_from k n above.0) (not_among k names above.1)

-- a name below all members isn't needed
pub unneeded : (n : List ℕ) (names : List (List ℕ)) (ms : Members) → Above n (names_of ms)
    → all_among (n ∷ names) ms ≡ all_among names ms
unneeded n names no_members h = refl
unneeded n names (member k d ms) h = rw (apart n k h.0, unneeded n names ms h.1)

-- ## The next member alone

-- it has no name but its own
pub other_ahead : (n k : List ℕ) (d : Data) (ms : Members) → bytes_eq n k ≡ false
    → get n (ahead (member k d ms)) ≡ None
other_ahead n k d ms h = untied (text_cmp n k) (is_eq-slice_cmp n k ∙ h)
  where
    untied : (o : Ordering) → is_eq o ≡ false → match_ordering o None (Some d) None ≡ None
    untied Less h = refl
    untied Equal h = absurd (true≢false h)
    untied Greater h = refl

-- it has its value under its own name
pub found_ahead : (n k : List ℕ) (d : Data) (ms : Members) → bytes_eq n k ≡ true
    → get n (ahead (member k d ms)) ≡ Some d
found_ahead n k d ms h = rw (equal_from (text_cmp n k) (is_eq-slice_cmp n k ∙ h))

-- ## A test of literal names

abbrev pub is_ascending : List (List ℕ) → Bool
is_ascending [] = true
is_ascending (n ∷ names) = list_all (λ m. is_lt (text_cmp n m)) names && is_ascending names

first : (a b : Bool) → a && b ≡ true → a ≡ true
first true b h = refl
first false b h = h

second : (a b : Bool) → a && b ≡ true → b ≡ true
second true b h = h
second false b h = absurd (true≢false (sym h))

all_less : (n : List ℕ) (names : List (List ℕ)) → list_all (λ m. is_lt (text_cmp n m)) names ≡ true
    → Above n names
all_less n [] h = tt
all_less n (m ∷ names) h = (less_from (text_cmp n m) (first _ _ h), all_less n names (second _ _ h))

-- names that pass it ascend
pub ascends : (names : List (List ℕ)) → is_ascending names ≡ true → Ascends names
ascends [] h = tt
ascends (n ∷ names) h = (all_less n names (first _ _ h), ascends names (second _ _ h))
