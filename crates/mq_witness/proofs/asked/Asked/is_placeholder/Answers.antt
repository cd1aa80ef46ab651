use Rattle.std.proofs.Common.{◌≡◌, ◌||◌, ◌∙◌, ap, codes, false, nat_eq, string_bytes, subst, sym}
use Rattle.std.specs.List.{starts_with}
use Rattle.mq_witness.specs.Asked.{AskedRows}
use Rattle.mq_witness.specs.Ruled.{names_by}
use Rattle.mq_witness.proofs.LeveledLemmas.{fresh_unnamed}
use Rattle.mq_witness.proofs.ReadyLemmas.{can_answer}
use Rattle.mq_witness.proofs.RuledReady.{are_unlike, ruled_is, unlike_is}
use Rattle.mq_witness.proofs.asked.Asked.is_placeholder.Goals as goal

pub returns-in-Mosquitto-clause-unnamed : goal.returns-in-Mosquitto-clause-unnamed
returns-in-Mosquitto-clause-unnamed c = λ begun.
    let asked = c.args.self.now in
    let text = c.args.text.now in
    let view = c.self.view_is in
    let usable = (can_answer view c.self.invariant.0).all_usable in
    let is = ruled_is view c.self.inside.ruled c.self.invariant.1.1 in
    let rules = ap (λ (s : AskedRows). s.rules) (sym view) ∙ c.in-Mosquitto.is in
    let plain = ap (λ (s : AskedRows). s.plain) view in
    let dollar = ap (λ (s : AskedRows). s.dollar) view in
    let fresh = (λ i. starts_with nat_eq text (sym plain i) || starts_with nat_eq text (sym dollar i))
    ∙ sym c.begin.ensures ∙ begun in
    subst (λ r. names_by r text asked.rows ≡ false) (sym rules)
    (fresh_unnamed asked
    (unlike_is asked.rows usable asked.plain
    (are_unlike asked.rows (codes "x") _ plain is.prefixes.is_plain))
    (unlike_is asked.rows usable asked.dollar
    (are_unlike asked.rows (codes "$x") _ dollar is.prefixes.is_dollar)) text fresh)
