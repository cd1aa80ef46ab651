-- A placeholder and a text that it stands for in each other's place.
use Rattle.std.proofs.Common.{◌≡◌, ◌==◌, ℕ, Bool, true, false, not, ◌&&◌, List, length}
use Rattle.std.proofs.Common.{All, Option, Some, None, get_or, refl, ap, sym, ◌∙◌, string_bytes}
use Rattle.std.specs.Cmp.{both_ways}
use Rattle.std.specs.Str.{bytes_eq}
use Rattle.std.proofs.lemmas.Bool.{and_parts, cond-true, cond_both}
use Rattle.mq_topic.proofs.ByteLemmas.{text_is, text_itself}
use Rattle.mq_acl.specs.Access.{begins_with_dollar, is_user}
use Rattle.mq_acl.specs.declared.row.Row.{Row}
use Rattle.mq_acl.specs.declared.rules.Rules.TheVariants.{Own}
use Rattle.mq_cover.specs.Names.{can_be_level}
use Rattle.mq_plan.specs.declared.rule.PlanRule.{PlanRule}
use Rattle.mq_regions.specs.Regions.{is_mark}
use Rattle.mq_witness.specs.Clients.{can_be_id}
use Rattle.mq_witness.specs.Swaps.{swap, swap_user}
use Rattle.mq_witness.proofs.SwapLemmas.{swap_cases}
use Rattle.mq_differences.specs.Classes.{can_be_user, user_of}
use Rattle.mq_differences.specs.Differences.{is_of}
use Rattle.mq_through.specs.Clients.{StandsFor, ask_client, is_named}
use Rattle.mq_through.specs.Made.{IsComparison}
use Rattle.mq_through.specs.Through.{IsReal, Question, Shows, ShowsOthers}
use Rattle.mq_through.specs.Through.{exchanged, question_of}
use Rattle.mq_through.specs.declared.comparison.Comparison.{Comparison}
use Rattle.mq_through.specs.declared.renamed.Renamed.{Renamed}
use Rattle.mq_through.proofs.EveryLemmas.{changes_alike}
use Rattle.mq_through.proofs.FoundLemmas.{some_text}
use Rattle.mq_through.proofs.MoveLemmas.{IsMove}
use Rattle.mq_through.proofs.QuestionLemmas.{IsUserOf, moved_stands}

module _ (a b : List ℕ) where
  swap_first : swap a b a ≡ b
  swap_first = cond-true (bytes_eq a a) _ _ (text_itself a)

  swap_other : (t : List ℕ) → bytes_eq t a ≡ false → bytes_eq t b ≡ false → swap a b t ≡ t
  swap_other t e f = rw (e, f) refl

  swap_second : swap a b b ≡ a
  swap_second = cond_both (bytes_eq b a) b _ (λ t. t ≡ a) (text_is b a)
      (λ e. cond-true (bytes_eq b b) _ _ (text_itself b))

  swap_twice : (t : List ℕ) → swap a b (swap a b t) ≡ t
  swap_twice t = cond_both (bytes_eq t a) _ _ (λ y. swap a b y ≡ t)
      (λ e. swap_second ∙ sym (text_is t a e))
      (λ e. cond_both (bytes_eq t b) _ _ (λ y. swap a b y ≡ t)
      (λ f. swap_first ∙ sym (text_is t b f)) (λ f. swap_other t e f))

  swap_eq : (s t : List ℕ) → bytes_eq (swap a b s) (swap a b t) ≡ bytes_eq s t
  swap_eq s t = both_ways (bytes_eq (swap a b s) (swap a b t)) (bytes_eq s t)
      (λ e. ap (λ y. bytes_eq y t) (sym (swap_twice s)
      ∙ ap (swap a b) (text_is (swap a b s) (swap a b t) e) ∙ swap_twice t) ∙ text_itself t)
      (λ e. ap (λ y. bytes_eq (swap a b y) (swap a b t)) (text_is s t e)
      ∙ text_itself (swap a b t))

  -- what both have alike each text has as the one that it becomes
  swap_keeps : {X : Type 0} (p : List ℕ → X) → p b ≡ p a → (t : List ℕ)
      → p (swap a b t) ≡ p t
  swap_keeps p e t = cond_both (bytes_eq t a) _ _ (λ y. p y ≡ p t)
      (λ i. e ∙ ap p (sym (text_is t a i)))
      (λ i. cond_both (bytes_eq t b) _ _ (λ y. p y ≡ p t)
      (λ j. sym e ∙ ap p (sym (text_is t b j))) (λ j. refl))

  user_swapped : (t : List ℕ) (u : Option (List ℕ))
      → is_user (swap a b t) (swap_user a b u) ≡ is_user t u
  user_swapped t None = refl
  user_swapped t (Some x) = swap_eq t x

  user_id : (u : Option (List ℕ)) → can_be_id a ≡ true → can_be_id b ≡ true
      → can_be_user u ≡ true → can_be_user (swap_user a b u) ≡ true
  user_id None h g e = refl
  user_id (Some x) h g e = swap_cases a b x (λ y. can_be_id y ≡ true) h g e

  -- ---- both of them unnamed
  module _ (named : List ℕ → Bool) (h : named a ≡ false) (g : named b ≡ false) where
    differs : (t z : List ℕ) → named t ≡ true → named z ≡ false → bytes_eq t z ≡ false
    differs t z e i = at (bytes_eq t z) refl
      where
        at : (n : Bool) → bytes_eq t z ≡ n → n ≡ false
        at true j = absurd (let n : true ≡ false = sym e ∙ ap named (text_is t z j) ∙ i in cc)
        at false j = refl

    swap_kept : (t : List ℕ) → named t ≡ true → swap a b t ≡ t
    swap_kept t e = swap_other t (differs t a e h) (differs t b e g)

    swap_unnamed : (t : List ℕ) → named t ≡ false → named (swap a b t) ≡ false
    swap_unnamed t e = swap_cases a b t (λ y. named y ≡ false) h g e

    swap_moves : (asks : Bool) (c : List ℕ) (u : Option (List ℕ))
        → can_be_level b ≡ can_be_level a → begins_with_dollar b ≡ begins_with_dollar a
        → (length b == 0) ≡ (length a == 0)
        → IsMove named asks c (swap a b c) u (swap_user a b u) (swap a b)
    swap_moves asks c u level dollar some = record {
      kept = swap_kept;
      apart = swap_unnamed;
      client = λ i t e. swap_eq t c;
      user = λ t e. user_swapped t u;
      dollar = swap_keeps begins_with_dollar dollar;
      level = λ t e. swap_keeps can_be_level level t ∙ e;
      some = swap_keeps (λ t. length t == 0) some;
    }

    user_of_it : (u : Option (List ℕ)) → IsUserOf named u (swap_user a b u)
    user_of_it None = tt
    user_of_it (Some x) = (swap_kept x, swap_unnamed x)

-- what is so of a question is so of one that stands for it
shows_alike : (plan : List PlanRule) (old new : List Row) (r : Renamed) (q t : Question)
    → Shows plan old new r q → StandsFor plan old new q t → Shows plan old new r t
shows_alike plan old new r q t is s = record {
  asked = s.asked;
  class = s.users r.difference.class ∙ is.class;
  direction = s.direction ∙ is.direction;
  change = changes_alike plan old new r.difference.way q t s ∙ is.change;
  old_line = is.old_line ∙ sym s.old_same;
  new_line = is.new_line ∙ sym s.new_same;
  rule = is.rule ∙ sym s.rule;
}

module _ (k : Comparison) (is : IsComparison k) (r : Renamed)
    (real : IsReal k.plan.now k.old.now k.new.now r) where
  abbrev named : List ℕ → Bool
  named t = is_named k t && not (is_mark t)

  unnamed : (t : List ℕ) → is_named k t ≡ false → named t ≡ false
  unnamed t e = ap (λ n. n && not (is_mark t)) e

  -- a placeholder is named by nothing
  marked : (t : List ℕ) (p n : Bool) → p ≡ (is_of Own t (string_bytes r.difference.client)
      (user_of r.difference.class) r.difference.topic && not n) → p ≡ true → n ≡ false
  marked t p true e h =
      let both = and_parts (is_of Own t (string_bytes r.difference.client)
      (user_of r.difference.class) r.difference.topic) false (sym e ∙ h) in
      absurd (let z : false ≡ true = both.1 in cc)
  marked t p false e h = refl

  shows_others : ShowsOthers k.plan.now k.old.now k.new.now r
  shows_others text other s topic name =
      let q = question_of r in
      let h = unnamed text (marked text _ (is_named k text) (real.marked text) s.placeholder) in
      let g = unnamed other s.unnamed in
      let some = some_text other s.other_id ∙ sym (some_text text s.id) in
      shows_alike k.plan.now k.old.now k.new.now r q (exchanged text other q) real.shown
      (moved_stands k is q real.shown.asked (swap text other q.client)
      (swap_user text other q.user) (swap text other)
      (swap_moves text other named h g (ask_client k) q.client q.user s.level s.dollar some)
      (user_of_it text other named h g q.user)
      (swap_cases text other q.client (λ y. can_be_id y ≡ true) s.id s.other_id
      real.shown.asked.client)
      (user_id text other q.user s.id s.other_id real.shown.asked.user) topic name)

-- so is each of them
pub all_show_others : (k : Comparison) → IsComparison k → (all : List Renamed)
    → All (IsReal k.plan.now k.old.now k.new.now) all
    → All (ShowsOthers k.plan.now k.old.now k.new.now) all
all_show_others k is all real place r low =
    shows_others k is (get_or all place r) (real place r low)
