use Rattle.std.proofs.Common.{◌&&◌, ap, ◌∙◌, refl}
use Rattle.mq_witness.specs.Ruled.{is_stand_in}
use Rattle.mq_differences.specs.Differences.{is_of}
use Rattle.mq_differences.specs.declared.difference.Difference.{Difference}
use Rattle.mq_differences.specs.declared.reason.Reason.{Reason}
use Rattle.mq_differences.proofs.ShownLemmas.{IsOf, sound_of, shown_at}
use Rattle.mq_differences.proofs.gains.difference_of.Goals as goal

abbrev difference : goal.After-result-2-1 → Difference
difference c = record {
  class = c.class_of-class.result;
  direction = c.args.question.now.direction;
  way = c.args.question.now.way;
  client = c.args.witness.client;
  topic = c.args.witness.name;
  placeholders = c.in_ok-placeholders.placeholders;
  old_reason = c.reasons-old_reason.result.0;
  new_reason = c.reasons-old_reason.result.1;
}

is_of_witness : (c : goal.After-result-2-1)
    → IsOf c.args.question.now c.args.gain.now c.args.witness (difference c)
is_of_witness c = record {
  class = c.class_of-class.ensures;
  direction = refl;
  way = refl;
  client = refl;
  topic = refl;
  old_reason = ap (λ (r : Reason × Reason). r.0) c.reasons-old_reason.ensures;
  new_reason = ap (λ (r : Reason × Reason). r.1) c.reasons-old_reason.ensures;
}

pub returns-clause-sound : goal.returns-clause-sound
returns-clause-sound c =
    sound_of c.args.question.now c.args.gain.now c.args.witness (difference c)
    c.requires.question c.requires.gain c.requires.shows c.requires.stands
    c.requires.known (is_of_witness c)
    (λ text. c.in_ok-placeholders.ensures.shown text
    ∙ (λ i. is_of c.args.question.now.lists.now.asked.rules text (c.deref.ensures i)
    (c.user.ensures i) c.args.witness.name
    && is_stand_in c.args.question.now.lists.now.asked text))
    c.in_ok-placeholders.ensures.unnamed

pub returns-clause-shown : goal.returns-clause-shown
returns-clause-shown c =
    shown_at c.args.dollar c.args.question.now c.args.gain.now c.args.witness (difference c)
    c.requires.question c.requires.gain c.requires.shows c.requires.kind (is_of_witness c)
