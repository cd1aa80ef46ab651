use Rattle.std.proofs.Common.{Bor, List, [], ◌∷◌, ◌∙◌, ap, subst, sym}
use Rattle.mq_acl.specs.Views.{row_view}
use Rattle.mq_acl.specs.declared.row.Row.{Row}
use Rattle.mq_acl.specs.declared.rules.Rules.{Rules}
use Rattle.mq_witness.specs.Rows.{lent_rows}
use Rattle.mq_witness.specs.declared.topics.Topics.TheVariants.{Open}
use Rattle.mq_lint.specs.Cases.{Finds, FindsNone, before, is_before, others_of}
use Rattle.mq_lint.specs.Left.{left_of}
use Rattle.mq_lint.proofs.LeftLemmas.{left_within}
use Rattle.mq_lint.proofs.CaseLemmas.{kept_contained, lent_others}
use Rattle.mq_lint.proofs.case.Case.grants_alone.Goals as goal

pub stands_out-requires : goal.stands_out-requires
stands_out-requires c =
    let q = c.args.self.now.question in
    let t = is_before q.rules c.args.direction 4 in
    kept_contained t q.clients (row_view q.row.now) (left_of q.asked.now c.args.self.now.called.now)
    q.asked.now.rows (left_within q.asked.now c.args.self.now.called.now)
    (lent_rows c.deref-2.result.now)
    (ap (λ (l : List (Bor Row)). lent_rows l) c.deref-2.ensures.value
    ∙ lent_others t q.clients (row_view q.row.now) (left_of q.asked.now c.args.self.now.called.now) c.args.self.now.others.items
    c.deref.result.now c.in_ok-cover.cover.items c.args.self.now.are_others c.deref.ensures.value
    c.in_ok-cover.ensures)

pub returns-clause-some : goal.returns-clause-some
returns-clause-some c = λ found.
    let q = c.args.self.now.question in
    let row = row_view q.row.now in
    let t = is_before q.rules c.args.direction 4 in
    record {
      grants_it = sym c.is_deny.ensures ∙ c.if-is_deny.false;
      finds = subst (λ (rules : Rules). Finds (Open c.args.direction) q.asked.now q.clients (row ∷ [])
          (before rules c.args.direction 4 (others_of q.clients row (left_of q.asked.now c.args.self.now.called.now))))
          q.can_ask.rules_are
          (subst (Finds (Open c.args.direction) q.asked.now q.clients (row ∷ []))
          (ap (λ (l : List (Bor Row)). lent_rows l) c.deref-2.ensures.value
          ∙ lent_others t q.clients row (left_of q.asked.now c.args.self.now.called.now) c.args.self.now.others.items
          c.deref.result.now c.in_ok-cover.cover.items c.args.self.now.are_others
          c.deref.ensures.value c.in_ok-cover.ensures)
          (c.in_ok-alone.ensures.found found));
    }

pub returns-clause-none : goal.returns-clause-none
returns-clause-none c = λ none _.
    let q = c.args.self.now.question in
    let row = row_view q.row.now in
    let t = is_before q.rules c.args.direction 4 in
    subst (λ (rules : Rules). FindsNone (Open c.args.direction) q.asked.now q.clients (row ∷ [])
    (before rules c.args.direction 4 (others_of q.clients row (left_of q.asked.now c.args.self.now.called.now))))
    q.can_ask.rules_are
    (subst (FindsNone (Open c.args.direction) q.asked.now q.clients (row ∷ []))
    (ap (λ (l : List (Bor Row)). lent_rows l) c.deref-2.ensures.value
    ∙ lent_others t q.clients row (left_of q.asked.now c.args.self.now.called.now) c.args.self.now.others.items
    c.deref.result.now c.in_ok-cover.cover.items c.args.self.now.are_others
    c.deref.ensures.value c.in_ok-cover.ensures)
    (c.in_ok-alone.ensures.none none))
