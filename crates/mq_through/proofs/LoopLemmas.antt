-- One rule, client or region more.
use Rattle.std.proofs.Common.{◌≡◌, ◌<◌, ◌≤◌, ◌+◌, ℕ, suc, Bool, true, false}
use Rattle.std.proofs.Common.{◌||◌, List, [], ◌∷◌, ◌++◌, length, take, drop, get_or, refl, ap, sym}
use Rattle.std.proofs.Common.{◌∙◌, All, Option, Some, None, Bor, append_assoc}
use Rattle.std.specs.Prelude.{find}
use Rattle.std.specs.List.{cons_option, list_any}
use Rattle.std.specs.Option.{option_map, option_to_list}
use Rattle.std.specs.Str.{bytes_eq}
use Rattle.std.proofs.lemmas.List.{take_more, take_all}
use Rattle.std.proofs.lemmas.List.Elements.{filter_map-append}
use Rattle.std.proofs.lemmas.List.Folds.{list_any-append}
use Rattle.mq_acl.specs.declared.row.Row.{Row}
use Rattle.mq_rename.specs.Renames.{Renaming}
use Rattle.mq_plan.specs.Names.{decided_name, name_by, new_name, rename_of, takes}
use Rattle.mq_plan.specs.declared.rule.PlanRule.{PlanRule}
use Rattle.mq_regions.specs.Regions.{in_region}
use Rattle.mq_regions.specs.declared.region.Region.{Region}
use Rattle.mq_differences.specs.declared.way.Way.{Way}
use Rattle.mq_differences.proofs.FirstLemmas.{find_behind, parts_at}
use Rattle.mq_witness.specs.Literals.{is_among}
use Rattle.mq_topic.proofs.ByteLemmas.{text_is}
use Rattle.mq_through.specs.Parts.{AreParts, IsPart, Widens, in_parts, rights_of}
use Rattle.mq_through.specs.Through.{AreApart, IsQuestion, IsReal}
use Rattle.mq_through.specs.Through.{Question, is_changed, is_shown_of}
use Rattle.mq_through.specs.Tried.{Grows, ShowsChangesIn, ShowsTried, ShowsTriedIn}
use Rattle.mq_through.specs.declared.renamed.Renamed.{Renamed}
use Rattle.mq_through.proofs.ShownLemmas.{grows_both}

-- ---- rules
-- the regions of the first rules
pub record ArePartsTo (plan : List PlanRule) (place : ℕ) (regions : List Region) : Type 0 where
  pub parts : All (IsPart plan) regions
  pub has : (topic name : List ℕ) → list_any (takes topic) (take place plan) ≡ true
      → new_name plan topic ≡ Some name → in_parts regions topic ≡ true

-- the rule that decides is the first that is about the topic
first_name : (plan : List PlanRule) (place : ℕ) (d : PlanRule) (topic : List ℕ)
    → place < length plan → list_any (takes topic) (take place plan) ≡ false
    → takes topic (get_or plan place d) ≡ true
    → new_name plan topic ≡ name_by (get_or plan place d) topic
first_name plan place d topic h n e =
    ap (λ o. decided_name o plan topic)
    (ap (find (takes topic)) (parts_at plan place d h)
    ∙ find_behind (takes topic) (take place plan) (get_or plan place d) (drop (suc place) plan) n e)

pub parts_more : (plan : List PlanRule) (place : ℕ) (d : PlanRule) (parts more : List Region)
    → place < length plan → Widens plan parts more
    → ((topic name : List ℕ) → list_any (takes topic) (take place plan) ≡ false
    → takes topic (get_or plan place d) ≡ true
    → name_by (get_or plan place d) topic ≡ Some name → in_parts more topic ≡ true)
    → ArePartsTo plan place parts → ArePartsTo plan (place + 1) more
parts_more plan place d parts more h w has f = record {
  parts = w.parts f.parts;
  has = λ topic name k e.
      at topic name e (list_any (takes topic) (take place plan))
      (takes topic (get_or plan place d)) refl refl
      (sym (ap (list_any (takes topic)) (take_more plan place d h)
      ∙ list_any-append (takes topic) (take place plan) (get_or plan place d ∷ [])) ∙ k);
}
  where
    at : (topic name : List ℕ) → new_name plan topic ≡ Some name → (a b : Bool)
        → list_any (takes topic) (take place plan) ≡ a
        → takes topic (get_or plan place d) ≡ b → (a || (b || false)) ≡ true
        → in_parts more topic ≡ true
    at topic name e true b i j k = w.kept topic (f.has topic name i e)
    at topic name e false true i j k =
        has topic name i j (sym (first_name plan place d topic h i j) ∙ e)
    at topic name e false false i j k = absurd (let z : false ≡ true = k in cc)

pub parts_all : (plan : List PlanRule) (place : ℕ) (parts more : List Region)
    → length plan ≤ place → Widens plan parts more
    → ((topic name : List ℕ) → list_any (takes topic) plan ≡ false
    → new_name plan topic ≡ Some name → in_parts more topic ≡ true)
    → ArePartsTo plan place parts → AreParts plan more
parts_all plan place parts more h w has f = record {
  parts = w.parts f.parts;
  all = λ topic name e. at topic name e (list_any (takes topic) plan) refl;
}
  where
    at : (topic name : List ℕ) → new_name plan topic ≡ Some name → (b : Bool)
        → list_any (takes topic) plan ≡ b → in_parts more topic ≡ true
    at topic name e true k = w.kept topic (f.has topic name
        (ap (list_any (takes topic)) (take_all place plan h) ∙ k) e)
    at topic name e false k = has topic name k e

-- ---- clients
pub record AreClientsDone (plan : List PlanRule) (old new : List Row) (region : Region)
    (clients : List (Bor (List ℕ))) (place : ℕ) (before after : List Renamed) : Type 0 where
  pub grows : Grows plan old new before after
  pub shown : ShowsTriedIn plan old new region (take place clients) after

pub clients_more : (plan : List PlanRule) (old new : List Row) (region : Region)
    (clients : List (Bor (List ℕ))) (place : ℕ) (d : Bor (List ℕ))
    (before after more : List Renamed) → place < length clients
    → Grows plan old new after more
    → ShowsChangesIn plan old new region (get_or clients place d).now more
    → AreClientsDone plan old new region clients place before after
    → AreClientsDone plan old new region clients (place + 1) before more
clients_more plan old new region clients place d before after more h g t f = record {
  grows = grows_both plan old new before after more f.grows g;
  shown = λ way q asked c e k.
      at way q asked e k (is_among q.client (take place clients))
      (bytes_eq q.client (get_or clients place d).now) refl refl
      (sym (ap (is_among q.client) (take_more clients place d h)
      ∙ list_any-append (λ (other : Bor (List ℕ)). bytes_eq q.client other.now)
      (take place clients) (get_or clients place d ∷ [])) ∙ c);
}
  where
    at : (way : Way) (q : Question) → IsQuestion plan q → in_region region q.topic ≡ true
        → is_changed way old new q ≡ true → (a b : Bool)
        → is_among q.client (take place clients) ≡ a
        → bytes_eq q.client (get_or clients place d).now ≡ b → (a || (b || false)) ≡ true
        → list_any (is_shown_of plan old new way q) more ≡ true
    at way q asked e k true b i j c = g.kept way q (f.shown way q asked i e k)
    at way q asked e k false true i j c =
        t way q asked (text_is q.client (get_or clients place d).now j) e k
    at way q asked e k false false i j c = absurd (let z : false ≡ true = c in cc)

-- ---- regions
pub record AreRegionsDone (plan : List PlanRule) (old new : List Row) (regions : List Region)
    (clients : List (Bor (List ℕ))) (place : ℕ) (all : List Renamed) : Type 0 where
  pub real : All (IsReal plan old new) all
  pub apart : AreApart all
  pub shown : (way : Way) (q : Question) → IsQuestion plan q → is_among q.client clients ≡ true
      → in_parts (take place regions) q.topic ≡ true → is_changed way old new q ≡ true
      → list_any (is_shown_of plan old new way q) all ≡ true

pub regions_more : (plan : List PlanRule) (old new : List Row) (regions : List Region)
    (clients : List (Bor (List ℕ))) (place : ℕ) (region : Region) (all more : List Renamed)
    → place < length regions → region ≡ get_or regions place region
    → Grows plan old new all more → ShowsTriedIn plan old new region clients more
    → AreRegionsDone plan old new regions clients place all
    → AreRegionsDone plan old new regions clients (place + 1) more
regions_more plan old new regions clients place region all more h is g t f = record {
  real = g.real f.real;
  apart = g.apart f.apart;
  shown = λ way q asked c e k.
      at way q asked c k (in_parts (take place regions) q.topic) (in_region region q.topic)
      refl refl
      (sym (ap (λ rs. in_parts rs q.topic) (take_more regions place region h)
      ∙ list_any-append (λ (part : Region). in_region part q.topic) (take place regions)
      (get_or regions place region ∷ [])
      ∙ ap (λ r. in_parts (take place regions) q.topic || (in_region r q.topic || false)) (sym is))
      ∙ e);
}
  where
    at : (way : Way) (q : Question) → IsQuestion plan q → is_among q.client clients ≡ true
        → is_changed way old new q ≡ true → (a b : Bool)
        → in_parts (take place regions) q.topic ≡ a → in_region region q.topic ≡ b
        → (a || (b || false)) ≡ true → list_any (is_shown_of plan old new way q) more ≡ true
    at way q asked c k true b i j e = g.kept way q (f.shown way q asked c i k)
    at way q asked c k false true i j e = t way q asked c j k
    at way q asked c k false false i j e = absurd (let z : false ≡ true = e in cc)

pub regions_all : (plan : List PlanRule) (old new : List Row) (regions : List Region)
    (clients : List (Bor (List ℕ))) (place : ℕ) (all : List Renamed)
    → length regions ≤ place → AreParts plan regions
    → AreRegionsDone plan old new regions clients place all
    → ShowsTried plan old new clients all
regions_all plan old new regions clients place all h parts f way q asked c k =
    f.shown way q asked c
    (ap (λ rs. in_parts rs q.topic) (take_all place regions h)
    ∙ parts.all q.topic q.name asked.name) k

-- ---- right sides
pub rights_more : (plan : List PlanRule) (i : ℕ) (rule : PlanRule) (o : Option Renaming)
    (first before after : List (List ℕ)) → i < length plan → rule ≡ get_or plan i rule
    → rename_of rule ≡ o
    → after ≡ before ++ option_to_list (option_map (λ (r : Renaming). r.right) o)
    → before ≡ first ++ rights_of (take i plan)
    → after ≡ first ++ rights_of (take (i + 1) plan)
rights_more plan i rule o first before after h is r e f =
    e ∙ ap (λ b. b ++ option_to_list (option_map (λ (r : Renaming). r.right) o)) f
    ∙ append_assoc first (rights_of (take i plan)) _
    ∙ ap (λ b. first ++ b) (sym more)
  where
    single : (o : Option (List ℕ)) → cons_option o [] ≡ option_to_list o
    single None = refl
    single (Some x) = refl

    more : rights_of (take (i + 1) plan) ≡ rights_of (take i plan)
        ++ option_to_list (option_map (λ (r : Renaming). r.right) o)
    more =
        ap rights_of (take_more plan i rule h)
        ∙ filter_map-append (λ (p : PlanRule). option_map (λ (r : Renaming). r.right) (rename_of p))
        (take i plan) (get_or plan i rule ∷ [])
        ∙ ap (λ (p : PlanRule). rights_of (take i plan)
        ++ cons_option (option_map (λ (r : Renaming). r.right) (rename_of p)) []) (sym is)
        ∙ ap (λ q. rights_of (take i plan)
        ++ cons_option (option_map (λ (r : Renaming). r.right) q) []) r
        ∙ ap (λ l. rights_of (take i plan) ++ l)
        (single (option_map (λ (r : Renaming). r.right) o))
