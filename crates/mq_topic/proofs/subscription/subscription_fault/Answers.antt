use Rattle.std.proofs.Common.{◌≡◌, Bool, true, false, not, cond, ◌&&◌, List, ℕ, Option, Some, None}
use Rattle.std.proofs.Common.{refl, sym, ap, ◌∙◌}
use Rattle.std.specs.Prelude.{is_none}
use Rattle.std.specs.Option.{option_or, option_copied}
use Rattle.mq_topic.specs.Levels.{levels}
use Rattle.mq_topic.specs.Texts.{wildcards_fit, is_deep, is_shared, share_name, share_fits}
use Rattle.mq_topic.specs.Texts.{filter_part, first_fault, subscription_fault}
use Rattle.mq_topic.specs.declared.fault.TopicFault.{TopicFault}
use Rattle.mq_topic.specs.declared.fault.TopicFault.TheVariants.{Share}
use Rattle.mq_topic.proofs.TextLemmas.{subscription_is_none}
use Rattle.mq_topic.proofs.subscription.subscription_fault.Goals as goal

-- the fault of the filter part, if it has one
abbrev part_fault : List ℕ → Option TopicFault
part_fault text =
    first_fault text (wildcards_fit (levels (filter_part text))) (is_deep (filter_part text))

-- the first fault, found by the tests of the part
part_fault_is : (text part : List ℕ) (fit deep : Bool) (fault : Option TopicFault)
    → part ≡ filter_part text → fit ≡ wildcards_fit (levels part) → deep ≡ is_deep part
    → fault ≡ first_fault text fit deep → fault ≡ part_fault text
part_fault_is text part fit deep fault p f d e =
    e ∙ (λ i. first_fault text ((f ∙ ap (λ x. wildcards_fit (levels x)) p) i)
    ((d ∙ ap is_deep p) i))

-- the fault of the share, if it has one
abbrev share_fault : Bool → List ℕ → List ℕ → Option TopicFault
share_fault shared name part = cond (shared && not (share_fits name part)) (Some Share) None

-- the share's fault, found by its test
share_fault_is : (shared fits : Bool) (name share part : List ℕ)
    → Some share ≡ cond shared (Some name) None → fits ≡ share_fits share part
    → cond fits None (Some Share) ≡ share_fault shared name part
share_fault_is true fits name share part e f =
    let same : share ≡ name = cc in
    let given = f ∙ ap (λ s. share_fits s part) same in
    ap (λ b. cond b None (Some Share)) given ∙ turned (share_fits name part)
  where
    turned : (b : Bool) → cond b None (Some Share) ≡ cond (not b) (Some Share) None
    turned true = refl
    turned false = refl
share_fault_is false fits name share part e f = absurd (let g : Some share ≡ None = e in cc)

-- no share has no fault
no_share_fault : (shared : Bool) (name part : List ℕ) → None ≡ cond shared (Some name) None
    → None ≡ share_fault shared name part
no_share_fault true name part e = absurd (let g : None ≡ Some name = e in cc)
no_share_fault false name part e = refl

-- the fault of the part comes first
first_is : (text : List ℕ) (part share : Option TopicFault) → part ≡ part_fault text
    → share ≡ share_fault (is_shared text) (share_name text) (filter_part text)
    → option_or part share ≡ subscription_fault text
first_is text part share p s = λ i. option_or (p i) (s i)

pub returns-in-Some : goal.returns-in-Some
returns-in-Some c =
    let text = c.args.text.now in
    let part = part_fault_is text _ _ _ _ c.parts.ensures.filter c.wildcards_fit.ensures
    c.is_deep.ensures (sym c.in-Some.is ∙ c.first_fault.ensures.first) in
    let first = first_is text _ _ part refl in
    record {
      first = first;
      no_memory = c.in-Some.ensures.no_memory;
      valid = ap is_none first ∙ subscription_is_none text;
    }

pub returns-else-share_fits : goal.returns-else-share_fits
returns-else-share_fits c =
    let text = c.args.text.now in
    let part = part_fault_is text _ _ _ _ c.parts.ensures.filter c.wildcards_fit.ensures
    c.is_deep.ensures (sym c.in_default.is ∙ c.first_fault.ensures.first) in
    let share = share_fault_is (is_shared text) false _ _ _
    (ap option_copied (sym c.in-Some-share.is) ∙ c.parts.ensures.share)
    (sym c.if-share_fits.false ∙ c.share_fits.ensures
    ∙ ap (share_fits c.in-Some-share.share.now) c.parts.ensures.filter) in
    let first = first_is text _ _ part share in
    record {
      first = first;
      no_memory = refl;
      valid = ap is_none first ∙ subscription_is_none text;
    }

pub returns-then-share_fits : goal.returns-then-share_fits
returns-then-share_fits c =
    let text = c.args.text.now in
    let part = part_fault_is text _ _ _ _ c.parts.ensures.filter c.wildcards_fit.ensures
    c.is_deep.ensures (sym c.in_default.is ∙ c.first_fault.ensures.first) in
    let share = share_fault_is (is_shared text) true _ _ _
    (ap option_copied (sym c.in-Some-share.is) ∙ c.parts.ensures.share)
    (sym c.if-share_fits.true ∙ c.share_fits.ensures
    ∙ ap (share_fits c.in-Some-share.share.now) c.parts.ensures.filter) in
    let first = first_is text _ _ part share in
    record {
      first = first;
      no_memory = tt;
      valid = ap is_none first ∙ subscription_is_none text;
    }

pub returns-in_default-share : goal.returns-in_default-share
returns-in_default-share c =
    let text = c.args.text.now in
    let part = part_fault_is text _ _ _ _ c.parts.ensures.filter c.wildcards_fit.ensures
    c.is_deep.ensures (sym c.in_default.is ∙ c.first_fault.ensures.first) in
    let share = no_share_fault (is_shared text) _ _
    (ap option_copied (sym c.in_default-share.is) ∙ c.parts.ensures.share) in
    let first = first_is text _ _ part share in
    record {
      first = first;
      no_memory = tt;
      valid = ap is_none first ∙ subscription_is_none text;
    }
