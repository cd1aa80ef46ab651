-- The lines that are judged, one after the other.
use Rattle.std.proofs.Common.{◌≡◌, ◌++◌, ◌∷◌, ◌+◌, ◌<◌, ℕ, List, [], map, take, length, get_or}
use Rattle.std.proofs.Common.{Bool, true, false, ◌&&◌, All, Contains, ap, refl, sym, subst, ◌∙◌, inr, arith}
use Rattle.std.proofs.lemmas.Grind.{common_steps}
use Rattle.std.proofs.lemmas.List.{get_or-map, length-map}
use Rattle.std.specs.List.{list_all}
use Rattle.std.proofs.lemmas.List.Elements.{All-cons, All-head, All-nil, All-push, All-tail}
use Rattle.std.proofs.lemmas.List.Elements.{Contains-append_right, Contains-get_or}
use Rattle.mq_acl.specs.declared.rules.Rules.{Rules}
use Rattle.mq_ask_test.specs.Faults.{IsFaultOf, IsTestFault}
use Rattle.mq_ask_test.specs.Findings.{IsFinding, IsVerdict, SaysWhetherAll, is_holds}
use Rattle.mq_ask_test.specs.Questions.{Question, asked_view, asked_views}
use Rattle.mq_ask_test.specs.declared.asked.Asked.{Asked}
use Rattle.mq_ask_test.specs.declared.fault.TestFault.{TestFault}
use Rattle.mq_ask_test.specs.declared.finding.Finding.{Finding}
use Rattle.mq_ask_test.specs.declared.finding.Finding.TheVariants as found
use Rattle.mq_ask_test.specs.declared.list.ReadList.{ReadList}
use Rattle.mq_ask_test.specs.declared.verdicts.Verdict.{Verdict}

-- one more line is judged
pub asked_more : (all : List Verdict) (lines : List Asked) (i : ℕ) (a : Asked) (f : Finding)
    → i < length lines → a ≡ get_or lines i a
    → map (λ v. asked_view v.asked) all ≡ asked_views (take i lines)
    → map (λ v. asked_view v.asked) (all ++ (record { asked = a; finding = f } ∷ []))
    ≡ asked_views (take (i + 1) lines)
asked_more all lines i a f h e k = grind (arith, common_steps)

pub verdicts_more : (rules : Rules) (lists : List ReadList) (all : List Verdict) (a : Asked)
    (f : Finding) → All (IsVerdict rules lists) all → IsFinding rules lists (asked_view a) f
    → All (IsVerdict rules lists) (all ++ (record { asked = a; finding = f } ∷ []))
verdicts_more rules lists all a f h is =
    All-push (IsVerdict rules lists) all (record { asked = a; finding = f }) h is

map_contains : {A B : Type 0} (f : A → B) (xs : List A) (x : A) → Contains xs x
    → Contains (map f xs) (f x)
map_contains f xs x (k, h, e) =
    (k, simp length-map h, get_or-map f xs k x (f x) h ∙ ap f e)

-- what isn't known of one of the lines
pub fault_at : (rules : Rules) (lists : List ReadList) (steps : ℕ) (lines : List Asked)
    (all : List Question) (i : ℕ) (a : Asked) (f : TestFault) → asked_views lines ≡ all
    → i < length lines → a ≡ get_or lines i a → IsFaultOf rules lists steps (asked_view a) f
    → IsTestFault rules lists steps all f
fault_at rules lists steps lines all i a f e h k is = inr (
  asked_view a,
  subst (λ (qs : List Question). Contains qs (asked_view a)) e
      (map_contains asked_view lines a (subst (Contains lines) (sym k) (Contains-get_or lines i a h))),
  is,
)

-- ---- whether all hold
holds_is : (f : Finding) → is_holds f ≡ true → f ≡ found.Holds
holds_is found.Holds e = refl
holds_is (found.Fails d) e = absurd (let q : false ≡ true = e in cc)
holds_is (found.Differs d) e = absurd (let q : false ≡ true = e in cc)
holds_is (found.NoneMay direction) e = absurd (let q : false ≡ true = e in cc)
holds_is (found.Unnamed user) e = absurd (let q : false ≡ true = e in cc)
holds_is (found.Refused direction) e = absurd (let q : false ≡ true = e in cc)
holds_is (found.Fault kind) e = absurd (let q : false ≡ true = e in cc)
holds_is found.LongLevel e = absurd (let q : false ≡ true = e in cc)
holds_is found.PartMark e = absurd (let q : false ≡ true = e in cc)
holds_is found.NoList e = absurd (let q : false ≡ true = e in cc)

-- one more line
one_shown : (rules : Rules) (lists : List ReadList) (q : Question) (f : Finding)
    (all : List Question) (b r : Bool) → is_holds f ≡ b → IsFinding rules lists q f
    → SaysWhetherAll rules lists all r → SaysWhetherAll rules lists (q ∷ all) (b && r)
one_shown rules lists q f all true true e is k =
    All-cons (λ p. IsFinding rules lists p found.Holds) q all
    (subst (IsFinding rules lists q) (holds_is f e) is) k
one_shown rules lists q f all true false e is k = record {
  question = k.question;
  asked = Contains-append_right (q ∷ []) all k.question k.asked;
  finding = k.finding;
  fails = k.fails;
  is = k.is;
}
one_shown rules lists q f all false r e is k = record {
  question = q;
  asked = (0, omega arith, refl);
  finding = f;
  fails = e;
  is = is;
}

pub all_shown : (rules : Rules) (lists : List ReadList) (all : List Verdict)
    → All (IsVerdict rules lists) all
    → SaysWhetherAll rules lists (map (λ v. asked_view v.asked) all)
    (list_all (λ v. is_holds v.finding) all)
all_shown rules lists [] h = All-nil (λ q. IsFinding rules lists q found.Holds)
all_shown rules lists (v ∷ more) h =
    one_shown rules lists (asked_view v.asked) v.finding (map (λ v. asked_view v.asked) more)
    (is_holds v.finding) (list_all (λ v. is_holds v.finding) more) refl
    (All-head (IsVerdict rules lists) v more h)
    (all_shown rules lists more (All-tail (IsVerdict rules lists) v more h))
