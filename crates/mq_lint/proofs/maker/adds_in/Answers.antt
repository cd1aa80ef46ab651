use Rattle.std.proofs.Common.{List, [], ◌∷◌, Bor, ap, subst, sym, true≢false, ◌∙◌}
use Rattle.mq_acl.specs.Views.{row_view}
use Rattle.mq_acl.specs.declared.row.Row.{Row}
use Rattle.mq_witness.specs.Rows.{lent_rows}
use Rattle.mq_witness.specs.declared.topics.Topics.TheVariants.{Open}
use Rattle.mq_lint.specs.Cases.{Finds, FindsNone}
use Rattle.mq_lint.proofs.maker.adds_in.Goals as goal

pub returns-then-not-would_grant-clause-none : goal.returns-then-not-would_grant-clause-none
returns-then-not-would_grant-clause-none c = λ _ grants.
    absurd (true≢false (sym (c.would_grant.ensures ∙ grants) ∙ c.if-not-would_grant.true))

pub returns-clause-some : goal.returns-clause-some
returns-clause-some c = λ found.
    let q = c.args.question.now in
    record {
      grants_it = sym c.would_grant.ensures ∙ c.if-not-would_grant.false;
      finds = subst (Finds (Open c.args.direction) q.asked.now q.clients (row_view q.row.now ∷ []))
          (ap (λ (l : List (Bor Row)). lent_rows l) c.deref.ensures.value ∙ c.in_ok-cover.ensures)
          (c.in_ok-adds.ensures.found found);
    }

pub returns-clause-none : goal.returns-clause-none
returns-clause-none c = λ none _.
    let q = c.args.question.now in
    subst (FindsNone (Open c.args.direction) q.asked.now q.clients (row_view q.row.now ∷ []))
    (ap (λ (l : List (Bor Row)). lent_rows l) c.deref.ensures.value ∙ c.in_ok-cover.ensures)
    (c.in_ok-adds.ensures.none none)
