-- What is shown of one client in one region, one difference after the other.
use Rattle.std.proofs.Common.{◌≡◌, ℕ, Bool, true, false, ◌||◌}
use Rattle.std.proofs.Common.{List, [], ◌∷◌, ◌++◌, ◌<◌, get_or, length, map, refl, ap, sym, ◌∙◌}
use Rattle.std.proofs.Common.{subst, All}
use Rattle.std.proofs.Common.{Option, Some, None, Bor}
use Rattle.std.specs.List.{list_any}
use Rattle.std.proofs.lemmas.List.Folds.{list_any-append}
use Rattle.mq_acl.specs.declared.row.Row.{Row}
use Rattle.mq_acl.specs.declared.rules.Rules.TheVariants.{Own}
use Rattle.mq_differences.specs.Differences as differences
use Rattle.mq_differences.specs.Differences.{is_change, is_of, same_direction, same_reason}
use Rattle.mq_differences.specs.Differences.{same_start}
use Rattle.mq_differences.specs.Differences.{same_reasons, same_way}
use Rattle.mq_differences.specs.declared.difference.Difference.{Difference}
use Rattle.mq_differences.specs.declared.way.Way.{Way}
use Rattle.mq_plan.specs.declared.rule.PlanRule.{PlanRule}
use Rattle.mq_regions.specs.Regions.{in_region}
use Rattle.mq_regions.specs.declared.region.Region.{Region}
use Rattle.mq_through.specs.Made.{IsClient, IsComparison, IsList, IsRenamed}
use Rattle.mq_through.specs.Made.{Names}
use Rattle.mq_through.specs.Made.{asks_new, asks_old}
use Rattle.mq_through.specs.Parts.{IsPart}
use Rattle.mq_through.specs.Through.{IsQuestion, Question, is_shown_of}
use Rattle.mq_through.specs.declared.comparison.Comparison.{Comparison}
use Rattle.mq_through.specs.declared.renamed.Renamed.{Renamed}
use Rattle.mq_through.specs.Tried.{Grows, ShowsChangesIn}
use Rattle.mq_through.proofs.ShownLemmas.{Adds, adds_apart, adds_kept, adds_real, adds_shown}
use Rattle.mq_through.proofs.ItemLemmas.{item_has}
use Rattle.mq_through.proofs.ClientLemmas.{AreMade, changes_made, renamed_real, renamed_shown}

-- ---- a difference among others
pub are_made : (k : Comparison) (region : Region) (client : List ℕ) (made_old made_new : List Row)
    → IsComparison k → IsPart k.plan.now region → IsClient client
    → IsList region asks_old client k.old.now made_old
    → IsList region (asks_new region) client k.new.now made_new → Names k.users.items made_old
    → AreMade k.plan.now k.old.now k.new.now region client k.users.items made_old made_new
are_made k region client made_old made_new is part id o n names = record {
  part = part;
  client_is = id;
  listed = is.users;
  old_list = o;
  new_list = n;
  names = names;
}

pub real_at : (old new mo mn : List Row) (all : List Difference) (i : ℕ) (d : Difference)
    → mo ≡ old → mn ≡ new → All (differences.IsReal Own mo mn) all → i < length all
    → d ≡ get_or all i d → differences.IsReal Own old new d
real_at old new mo mn all i d e f h low is =
    subst (λ (rows : List Row). differences.IsReal Own rows new d) e
    (subst (λ (rows : List Row). differences.IsReal Own mo rows d) f
    (item_has (differences.IsReal Own mo mn) all i d low is h))

-- all of them have come
map_itself : (xs : List Difference) → map (λ (x : Difference). x) xs ≡ xs
map_itself [] = refl
map_itself (x ∷ xs) = ap (λ l. x ∷ l) (map_itself xs)

pub all_seen : (xs ys : List Difference) → map (λ (x : Difference). x) xs ≡ ys → xs ≡ ys
all_seen xs ys e = sym (map_itself xs) ∙ e

-- ---- one after the other
pub record IsAdding (plan : List PlanRule) (old new : List Row) (region : Region)
    (client : List ℕ) (made_old made_new : List Row) (before after : List Renamed)
    (seen : List Difference) : Type 0 where
  pub grows : Grows plan old new before after
  pub shown : (way : Way) (q : Question) → IsQuestion plan q → q.client ≡ client
      → in_region region q.topic ≡ true
      → list_any (differences.is_shown_of Own made_old made_new way q.direction client q.user
      q.topic) seen ≡ true
      → list_any (is_shown_of plan old new way q) after ≡ true

module _ (plan : List PlanRule) (old new : List Row) (region : Region) (client : List ℕ)
    (users : List (Bor (List ℕ))) (made_old made_new : List Row)
    (m : AreMade plan old new region client users made_old made_new) (before : List Renamed) where
  pub adding_more : (after more : List Renamed) (seen : List Difference) (d : Difference)
      (r : Renamed) → differences.IsReal Own made_old made_new d
      → IsRenamed plan old new client users d r → Adds plan old new r after more
      → IsAdding plan old new region client made_old made_new before after seen
      → IsAdding plan old new region client made_old made_new before more (seen ++ (d ∷ []))
  adding_more after more seen d r is n a f = record {
    grows = record {
      kept = λ way q h. adds_kept plan old new r after more a way q (f.grows.kept way q h);
      real = λ all. adds_real plan old new r after more a
          (renamed_real plan old new region client users made_old made_new m d r is n)
          (f.grows.real all);
      apart = λ h. adds_apart plan old new r after more a (f.grows.apart h);
    };
    shown = λ way q asked c e h.
        let p : Difference → Bool = differences.is_shown_of Own made_old made_new way q.direction
        client q.user q.topic in
        at way q asked c e (list_any p seen) (p d) refl refl
        (sym (list_any-append p seen (d ∷ [])) ∙ h);
  }
    where
      at : (way : Way) (q : Question) → IsQuestion plan q → q.client ≡ client
          → in_region region q.topic ≡ true → (a b : Bool)
          → list_any (differences.is_shown_of Own made_old made_new way q.direction client q.user
          q.topic) seen ≡ a
          → differences.is_shown_of Own made_old made_new way q.direction client q.user q.topic d
          ≡ b
          → (a || (b || false)) ≡ true
          → list_any (is_shown_of plan old new way q) more ≡ true
      at way q asked c e true b g h k =
          adds_kept plan old new r after more a way q (f.shown way q asked c e g)
      at way q asked c e false true g h k =
          adds_shown plan old new r after more a way q
          (renamed_shown plan old new region client users made_old made_new m d r is n way q asked c
          e h)
      at way q asked c e false false g h k = absurd (let z : false ≡ true = k in cc)

  pub adding_all : (after : List Renamed) (all : List Difference)
      → differences.ShowsAll Own made_old made_new all
      → IsAdding plan old new region client made_old made_new before after all
      → ShowsChangesIn plan old new region client after
  adding_all after all every f way q asked c e h =
      f.shown way q asked c e
      (every way q.direction client q.topic q.user m.client_is.id asked.user asked.topic
      (changes_made plan old new region client users made_old made_new m way q asked c e h))
