use Rattle.std.proofs.Common.{◌≡◌, ◌&&◌, List, ℕ, Bor, true, false, Some, None, ap, sym, ◌∙◌, refl}
use Rattle.std.proofs.lemmas.Bool.{and_from, and_right, cond-true, cond-false}
use Rattle.mq_topic.specs.Levels.{levels}
use Rattle.mq_topic.specs.Matching.{matches}
use Rattle.mq_topic.specs.Texts.{is_memory, is_name}
use Rattle.mq_topic.specs.declared.fault.TopicFault.{TopicFault}
use Rattle.mq_topic.specs.declared.fault.TopicFault.TheVariants.{Memory}
use Rattle.mq_rename.specs.Lists.{texts}
use Rattle.mq_rename.specs.Renames.{Renaming, new_levels, new_name, new_text}
use Rattle.mq_rename.proofs.JoinLemmas.{joined, joined_is}
use Rattle.mq_rename.proofs.rename.Rename.new_name.Goals as goal

-- the text of the new name, which is one
is_new : (r : Renaming) (n text : List ℕ) → matches (levels r.left) (levels n) ≡ true
    → text ≡ new_text r n → is_name text ≡ true → Some text ≡ new_name r n
is_new r n text m e h =
    let is = and_from (matches (levels r.left) (levels n)) (is_name (new_text r n)) m
    (sym (ap is_name e) ∙ h) in
    ap (λ t. Some t) e
    ∙ sym (cond-true (matches (levels r.left) (levels n) && is_name (new_text r n))
    (Some (new_text r n)) None is)

-- or is none
is_none_new : (r : Renaming) (n text : List ℕ) → text ≡ new_text r n → is_name text ≡ false
    → None ≡ new_name r n
is_none_new r n text e h =
    sym (cond-false (matches (levels r.left) (levels n) && is_name (new_text r n))
    (Some (new_text r n)) None
    (and_right (matches (levels r.left) (levels n)) (is_name (new_text r n))
    (sym (ap is_name e) ∙ h)))

-- the text that the levels join to
text_is : (r s : Renaming) (n text : List ℕ) (parts lent : List (Bor (List ℕ))) → lent ≡ parts
    → text ≡ joined (texts lent)
    → texts parts ≡ new_levels (levels s.left) (levels s.right) s.places (levels n) → s ≡ r
    → text ≡ new_text r n
text_is r s n text parts lent same e is view =
    e ∙ ap (λ ps. joined (texts ps)) same ∙ ap joined is ∙ ap (λ v. new_text v n) view

not_memory : (f : TopicFault) → (f ≡ Memory → ⊥) → is_memory f ≡ false
not_memory Memory h = absurd (h refl)
not_memory f h = refl

pub returns-in-Ok : goal.returns-in-Ok
returns-in-Ok c =
    let s : List ℕ → Renaming =
    λ ps. record { left = c.self.inside.left; right = c.self.inside.right; places = ps } in
    let text = text_is c.args.self.now (s c.deref.result.now) c.args.name.now c.as_str.result.now
    c.in_ok-levels.levels.items c.deref-2.result.now c.deref-2.ensures.value
    (c.as_str.ensures.value ∙ c.in_ok-text.ensures.ok ∙ joined_is c.deref-2.result.now)
    c.in_ok-levels.ensures (ap s c.deref.ensures.value ∙ c.self.view_is) in
    ap (λ t. Some t) c.in-Ok.ensures.text
    ∙ is_new c.args.self.now c.args.name.now c.as_str.result.now
    (sym c.matches.ensures ∙ c.if-not-matches.false) text (sym c.in-Ok.ensures.valid)

pub returns : goal.returns
returns c =
    let s : List ℕ → Renaming =
    λ ps. record { left = c.self.inside.left; right = c.self.inside.right; places = ps } in
    is_none_new c.args.self.now c.args.name.now c.as_str.result.now
    (text_is c.args.self.now (s c.deref.result.now) c.args.name.now c.as_str.result.now
    c.in_ok-levels.levels.items c.deref-2.result.now c.deref-2.ensures.value
    (c.as_str.ensures.value ∙ c.in_ok-text.ensures.ok ∙ joined_is c.deref-2.result.now)
    c.in_ok-levels.ensures (ap s c.deref.ensures.value ∙ c.self.view_is))
    (sym c.in-Err.ensures.valid ∙ not_memory c.in-Err.fault c.in_default.not-Memory)
