use Rattle.std.proofs.Common.{Bor, List, [], ◌∷◌, ◌∙◌, ap, subst, sym}
use Rattle.mq_acl.specs.Views.{row_view}
use Rattle.mq_acl.specs.declared.row.Row.{Row}
use Rattle.mq_acl.specs.declared.rules.Rules.{Rules}
use Rattle.mq_witness.specs.Rows.{lent_rows}
use Rattle.mq_witness.specs.declared.topics.Topics.TheVariants.{Open}
use Rattle.mq_lint.specs.Cases.{Finds, FindsNone, NoneMeets, before, is_at, is_before, others_of}
use Rattle.mq_lint.specs.Left.{left_of}
use Rattle.mq_lint.proofs.LeftLemmas.{left_within}
use Rattle.mq_lint.proofs.CaseLemmas.{kept_contained, lent_others, other_among, other_inside}
use Rattle.mq_lint.proofs.LoopLemmas.{NoneMet, all_more, met_others, none_met, passed_met}
use Rattle.mq_lint.proofs.case.Case.precedes.Goals as goal

pub loop-other-preserved-then-not-is_at : goal.loop-other-preserved-then-not-is_at
loop-other-preserved-then-not-is_at c =
    let q = c.args.self.now.question in
    all_more (NoneMet (Open c.args.direction) q.asked.now q.clients (row_view q.row.now)
    (is_at q.rules c.args.direction c.args.place) (lent_rows c.in_ok-cover.cover.items))
    c.deref-other-items.result.now c.loop-other.other-index c.other-item.result
    c.loop-other-test.true c.other-item.is
    (passed_met (Open c.args.direction) q.asked.now q.clients (row_view q.row.now)
    (is_at q.rules c.args.direction c.args.place) (lent_rows c.in_ok-cover.cover.items)
    c.other-item.result (sym c.is_at.ensures ∙ c.if-not-is_at.true))
    c.loop-other.invariant

pub meets-requires-clause-other : goal.meets-requires-clause-other
meets-requires-clause-other c =
    let q = c.args.self.now.question in
    other_inside q.clients (row_view q.row.now) (left_of q.asked.now c.args.self.now.called.now)
    q.asked.now.rows (left_within q.asked.now c.args.self.now.called.now) c.args.self.now.others.items
    c.deref-other-items.result.now c.loop-other.other-index c.other-item.result
    c.args.self.now.are_others c.deref-other-items.ensures.value c.loop-other-test.true
    c.other-item.is

pub meets-requires-clause-cover : goal.meets-requires-clause-cover
meets-requires-clause-cover c =
    let q = c.args.self.now.question in
    let t = is_before q.rules c.args.direction c.args.place in
    kept_contained t q.clients (row_view q.row.now) (left_of q.asked.now c.args.self.now.called.now)
    q.asked.now.rows (left_within q.asked.now c.args.self.now.called.now)
    (lent_rows c.deref-in-loop-other.result.now)
    (ap (λ (l : List (Bor Row)). lent_rows l) c.deref-in-loop-other.ensures.value
    ∙ lent_others t q.clients (row_view q.row.now) (left_of q.asked.now c.args.self.now.called.now) c.args.self.now.others.items
    c.deref.result.now c.in_ok-cover.cover.items c.args.self.now.are_others c.deref.ensures.value
    c.in_ok-cover.ensures)

pub returns-then-branch-clause-some : goal.returns-then-branch-clause-some
returns-then-branch-clause-some c = λ _.
    let q = c.args.self.now.question in
    let row = row_view q.row.now in
    let other = row_view c.other-item.result.now in
    let t = is_before q.rules c.args.direction c.args.place in
    record {
      other = other;
      inside = other_among q.clients row (left_of q.asked.now c.args.self.now.called.now) c.args.self.now.others.items
          c.deref-other-items.result.now c.loop-other.other-index c.other-item.result
          c.args.self.now.are_others c.deref-other-items.ensures.value c.loop-other-test.true
          c.other-item.is;
      is_of = ap (λ (rules : Rules). is_at rules c.args.direction c.args.place other)
          (sym q.can_ask.rules_are) ∙ (sym c.is_at.ensures ∙ c.if-not-is_at.false);
      finds = subst (λ (rules : Rules). Finds (Open c.args.direction) q.asked.now q.clients (row ∷ (other ∷ []))
          (before rules c.args.direction c.args.place (others_of q.clients row (left_of q.asked.now c.args.self.now.called.now))))
          q.can_ask.rules_are
          (subst (Finds (Open c.args.direction) q.asked.now q.clients (row ∷ (other ∷ [])))
          (ap (λ (l : List (Bor Row)). lent_rows l) c.deref-in-loop-other.ensures.value
          ∙ lent_others t q.clients row (left_of q.asked.now c.args.self.now.called.now) c.args.self.now.others.items
          c.deref.result.now c.in_ok-cover.cover.items c.args.self.now.are_others
          c.deref.ensures.value c.in_ok-cover.ensures)
          (c.in_ok-meets.ensures.found c.if-branch.true));
    }

pub loop-other-preserved : goal.loop-other-preserved
loop-other-preserved c =
    let q = c.args.self.now.question in
    all_more (NoneMet (Open c.args.direction) q.asked.now q.clients (row_view q.row.now)
    (is_at q.rules c.args.direction c.args.place) (lent_rows c.in_ok-cover.cover.items))
    c.deref-other-items.result.now c.loop-other.other-index c.other-item.result
    c.loop-other-test.true c.other-item.is
    (λ _. subst (λ (l : List (Bor Row)). FindsNone (Open c.args.direction) q.asked.now q.clients
    (row_view q.row.now ∷ (row_view c.other-item.result.now ∷ [])) (lent_rows l))
    c.deref-in-loop-other.ensures.value
    (c.in_ok-meets.ensures.none c.if-branch.false))
    c.loop-other.invariant

pub returns-clause-none : goal.returns-clause-none
returns-clause-none c = λ _.
    let q = c.args.self.now.question in
    let row = row_view q.row.now in
    let others = others_of q.clients row (left_of q.asked.now c.args.self.now.called.now) in
    let t = is_before q.rules c.args.direction c.args.place in
    subst (λ (rules : Rules). NoneMeets (Open c.args.direction) q.asked.now q.clients row
    (is_at rules c.args.direction c.args.place)
    (before rules c.args.direction c.args.place others) others) q.can_ask.rules_are
    (subst (λ l. NoneMeets (Open c.args.direction) q.asked.now q.clients row (is_at q.rules c.args.direction c.args.place)
    l others)
    (lent_others t q.clients row (left_of q.asked.now c.args.self.now.called.now) c.args.self.now.others.items c.deref.result.now
    c.in_ok-cover.cover.items c.args.self.now.are_others c.deref.ensures.value
    c.in_ok-cover.ensures)
    (met_others (Open c.args.direction) q.asked.now q.clients row (is_at q.rules c.args.direction c.args.place)
    (lent_rows c.in_ok-cover.cover.items) (left_of q.asked.now c.args.self.now.called.now)
    c.args.self.now.others.items
    c.deref-other-items.result.now c.args.self.now.are_others c.deref-other-items.ensures.value
    (none_met (Open c.args.direction) q.asked.now q.clients row (is_at q.rules c.args.direction c.args.place)
    (lent_rows c.in_ok-cover.cover.items) c.deref-other-items.result.now c.loop-other.other-index
    c.loop-other-test.false c.loop-other.invariant)))
