-- The names that a question finds.
use Rattle.std.proofs.Common.{◌&&◌, ◌≡◌, ℕ, Bool, true, List, ap, sym, ◌∙◌, arith}
use Rattle.std.specs.List.{list_all}
use Rattle.mq_topic.specs.Levels.{levels}
use Rattle.mq_topic.specs.Texts.{is_memory, is_name}
use Rattle.mq_topic.specs.declared.fault.TopicFault.{TopicFault}
use Rattle.mq_topic.specs.declared.fault.TopicFault.TheVariants.{Memory}
use Rattle.mq_cover.specs.Names.{is_choice, suits}
use Rattle.mq_cover.specs.Choices.{known_pass}
use Rattle.mq_cover.specs.Remainders.{MarkLevels, hits, marks_pass, remainders_fit, IsFound}
use Rattle.mq_cover.specs.declared.remainder.Remainder.{Remainder}
use Rattle.mq_cover.specs.declared.start.Start.{Start}
use Rattle.mq_witness.specs.Answers.{IsHit}
use Rattle.mq_witness.specs.Fresh.{fresh_pass, is_literal}
use Rattle.mq_witness.specs.Names.{are_begun, start_at}
use Rattle.mq_witness.specs.Texts.{join_levels}
use Rattle.mq_witness.specs.declared.fresh.Fresh.{Fresh}
use Rattle.mq_witness.specs.declared.question.Question.{Question}
use Rattle.mq_witness.proofs.FreshMoves.{literal_is_choice}
use Rattle.mq_witness.proofs.LiteralLemmas.{all_fit_mono}
use Rattle.mq_witness.proofs.FrontLemmas.{suits_begun, suits_front}
use Rattle.mq_witness.proofs.NameLemmas.{joined_is_name, levels_of_joined, some_name}
use Rattle.std.proofs.lemmas.Bool.{and_parts, and_from}

-- filters that name no text that stands for others name no level that does
pub choices_fit : (f : Fresh) {rs lent : List Remainder} → lent ≡ rs
    → remainders_fit (is_literal f) rs ≡ true → remainders_fit (is_choice f.others) lent ≡ true
choices_fit f {rs} e h = ap (remainders_fit (is_choice f.others)) e
    ∙ all_fit_mono (is_literal f) (is_choice f.others) rs (literal_is_choice f) h

-- what a walk for a question finds, and the text of its name
pub record IsWalk (q : Question) (start : Start) (must cover : List Remainder) : Type 0 where
  pub start_is : start ≡ start_at q.names
  pub must_is : must ≡ q.must.items
  pub cover_is : cover ≡ q.cover.items

-- the name on a path that is found is valid
pub found_is_name : (q : Question) {start : Start} {must cover : List Remainder}
    {marks : MarkLevels} {ls : List (List ℕ)} → IsWalk q start must cover
    → IsFound start 200 marks must cover ls → is_name (join_levels ls) ≡ true
found_is_name q {ls = ls} w h =
    joined_is_name ls (are_begun q.names) h.valid h.few
    (suits_begun q.names ls (sym (ap (λ s. suits s ls) w.start_is) ∙ h.suitable))

-- each of its levels passes what the levels that a walk is given do
abbrev pub IsKnown : Question → List Remainder → MarkLevels → List (List ℕ) → Type 0
IsKnown q must marks ls = (p : List ℕ → Bool)
    → known_pass p marks q.fresh.others ≡ true → remainders_fit p must ≡ true
    → list_all p ls ≡ true

-- what all texts that stand for others pass, and both marks, the levels that a walk is given do
all_known : (p : List ℕ → Bool) (f : Fresh) (marks : MarkLevels) → fresh_pass p f ≡ true
    → marks_pass p marks ≡ true → known_pass p marks f.others ≡ true
all_known p f marks h m =
    let three = and_parts (p f.others.plain.now && p f.others.dollar.now && p f.client.now) _ h in
    and_from _ _ (and_parts (p f.others.plain.now && p f.others.dollar.now) _ three.0).0 m

-- and the question hits it
pub found_hits : (q : Question) {start : Start} {must cover : List Remainder} {marks : MarkLevels}
    {ls : List (List ℕ)} {name : List ℕ} → IsWalk q start must cover
    → name ≡ join_levels ls → IsFound start 200 marks must cover ls
    → IsKnown q must marks ls → IsHit q marks name
found_hits q {marks = marks} {ls} {name} w e h known =
    let suit = sym (ap (λ s. suits s ls) w.start_is) ∙ h.suitable in
    let same = ap levels e
    ∙ levels_of_joined ls (are_begun q.names) h.valid (suits_begun q.names ls suit) in
    let fit = ap (suits (start_at q.names)) same ∙ suit in
    record {
      valid = ap is_name e ∙ found_is_name q w h;
      kind = sym (suits_front q.names name
          (some_name name (are_begun q.names) (suits_begun q.names (levels name) fit))) ∙ fit;
      hit = ap (λ k. hits marks k q.must.items q.cover.items) same
          ∙ (λ i. hits marks ls (sym w.must_is i) (sym w.cover_is i)) ∙ h.hit;
      known = λ p fresh fit m. ap (list_all p) same
          ∙ known p (all_known p q.fresh marks fresh m)
          (ap (remainders_fit p) w.must_is ∙ fit);
    }

-- a fault of which no text can be shown is want of memory
pub memory_is : (fault : TopicFault) → is_memory fault ≡ true → fault ≡ Memory
memory_is fault e = grind arith
