use Rattle.std.proofs.Common.{◌∙◌, ◌==◌, ap, codes, length, refl, rules, string_bytes, sym, subst}
use Rattle.mq_witness.specs.Asked.{user_view}
use Rattle.mq_witness.specs.Leveled.{AreLevelsKnown, IsHitBy}
use Rattle.mq_acl.specs.Views.{row_views}
use Rattle.mq_witness.specs.Asked.{AskedRows}
use Rattle.mq_witness.specs.Rows.{lent_rows}
use Rattle.mq_witness.proofs.LeveledLemmas.{answer_known, hit_moved}
use Rattle.mq_witness.proofs.ReadyLemmas.{can_answer}
use Rattle.mq_witness.proofs.RuledReady.{are_unlike, padded_some, ruled_is, ruled_ready, unlike_is}
use Rattle.mq_witness.proofs.RuledReady.{whole_is}
use Rattle.mq_witness.proofs.asked.Asked.find_names.Goals as goal

pub invariant_of-search : goal.invariant_of-search
invariant_of-search c =
    let all = c.args.self.now.rows in
    let texts = c.self.inside.ruled in
    let is = ruled_is c.self.view_is texts c.self.invariant.1.1 in
    record {
      ready = ruled_ready all (can_answer c.self.view_is c.self.invariant.0).all_usable
          (whole_is c.self.view_is c.requires.rules c.self.invariant.1.0) texts is c.others.result
          c.others.ensures.plain c.others.ensures.dollar c.deref-2.result.now
          c.deref-2.ensures.value (lent_rows c.deref-3.result.now) (lent_rows c.args.must.now)
          (lent_rows c.args.cover.now)
          (ap lent_rows c.deref-3.ensures.value ∙ c.in_ok-states.ensures
          ∙ ap (λ rows. row_views rows) c.deref.ensures.value ∙ is.states) c.requires.must
          c.requires.cover;
    }

pub returns-in-Some-clause-some : goal.returns-in-Some-clause-some
returns-in-Some-clause-some c = search (rules)

pub returns-in-Some-clause-known : goal.returns-in-Some-clause-known
returns-in-Some-clause-known c =
    let asked = c.args.self.now in
    let usable = (can_answer c.self.view_is c.self.invariant.0).all_usable in
    let w = c.in_ok-witness_of-in-Some.field-0 in
    let found = c.in-Some.found in
    let known = answer_known asked usable c.others.result
    (c.others.ensures.plain ∙ ap (λ (s : AskedRows). s.plain) c.self.view_is)
    (c.others.ensures.dollar ∙ ap (λ (s : AskedRows). s.dollar) c.self.view_is) c.args.names
    c.args.clients c.requires.user (lent_rows c.args.must.now) c.requires.must
    (string_bytes found.client) (string_bytes found.topic) (user_view found.user)
    (rw c.in-Some.is at c.in_ok-found.ensures.pass) in
    rw (
      ← c.in_ok-witness_of-in-Some.ensures.client,
      ← c.in_ok-witness_of-in-Some.ensures.user,
      ← c.in_ok-witness_of-in-Some.ensures.name,
    ) at known

pub returns-in-Some-clause-stands : goal.returns-in-Some-clause-stands
returns-in-Some-clause-stands c = λ level other stands id user_id valid.
    let asked = c.args.self.now in
    let usable = (can_answer c.self.view_is c.self.invariant.0).all_usable in
    let w = c.in_ok-witness_of-in-Some.field-0 in
    let is = ruled_is c.self.view_is c.self.inside.ruled c.self.invariant.1.1 in
    let view = c.self.view_is in
    let plain = ap (λ (s : AskedRows). s.plain) view in
    let dollar = ap (λ (s : AskedRows). s.dollar) view in
    hit_moved asked (whole_is view c.requires.rules c.self.invariant.1.0)
    (unlike_is asked.rows usable asked.plain
    (are_unlike asked.rows (codes "x") _ plain is.prefixes.is_plain))
    (unlike_is asked.rows usable asked.dollar
    (are_unlike asked.rows (codes "$x") _ dollar is.prefixes.is_dollar))
    (ap (λ t. length t == 0) (sym plain) ∙ padded_some (codes "x") _ refl is.prefixes.is_plain.made)
    (ap (λ t. length t == 0) (sym dollar) ∙ padded_some (codes "$x") _ refl is.prefixes.is_dollar.made)
    level other stands c.args.clients (lent_rows c.args.must.now) (lent_rows c.args.cover.now)
    (string_bytes w.client) w.name (user_view w.user) c.requires.user c.requires.must
    c.requires.cover (returns-in-Some-clause-some c) id user_id valid
