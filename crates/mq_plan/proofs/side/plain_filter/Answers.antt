use Rattle.std.proofs.Common.{◌≡◌, ◌∙◌, List, ℕ, Bor, ap, true, false, refl}
use Rattle.mq_topic.specs.Texts.{is_filter, is_memory}
use Rattle.mq_topic.specs.declared.fault.TopicFault.{TopicFault}
use Rattle.mq_topic.specs.declared.fault.TopicFault.TheVariants.{Memory}
use Rattle.mq_rename.specs.Lists.{texts}
use Rattle.mq_plan.specs.Sides.{plain_levels, plain_text}
use Rattle.mq_rename.proofs.JoinLemmas.{joined, joined_is}
use Rattle.mq_plan.proofs.SideLemmas.{plain_is_filter, side_is}
use Rattle.mq_plan.proofs.side.plain_filter.Goals as goal

-- the text that the levels join to
text_is : (side text : List ℕ) (parts lent : List (Bor (List ℕ))) → lent ≡ parts
    → text ≡ joined (texts lent) → texts parts ≡ plain_levels side → text ≡ plain_text side
text_is side text parts lent same e is =
    e ∙ ap (λ ps. joined (texts ps)) same ∙ ap joined is

only_memory : (fault : TopicFault) → is_memory fault ≡ true → (fault ≡ Memory → ⊥) → ⊥
only_memory Memory e n = n refl
only_memory fault e n = let no : false ≡ true = e in cc

pub returns-in-Ok : goal.returns-in-Ok
returns-in-Ok c =
    c.in-Ok.ensures.text
    ∙ text_is c.args.text.now c.as_str.result.now c.in_ok-levels.levels.items c.deref.result.now
    c.deref.ensures.value
    (c.as_str.ensures.value ∙ c.in_ok-plain.ensures.ok ∙ joined_is c.deref.result.now)
    c.in_ok-levels.ensures

pub unreachable-requires : goal.unreachable-requires
unreachable-requires c =
    let text = text_is c.args.text.now c.as_str.result.now c.in_ok-levels.levels.items
    c.deref.result.now c.deref.ensures.value
    (c.as_str.ensures.value ∙ c.in_ok-plain.ensures.ok ∙ joined_is c.deref.result.now)
    c.in_ok-levels.ensures in
    only_memory c.in-Err.fault
    (c.in-Err.ensures.valid ∙ ap is_filter text
    ∙ plain_is_filter c.args.text.now (side_is c.args.side c.args.text.now c.requires))
    c.in_default.not-Memory
