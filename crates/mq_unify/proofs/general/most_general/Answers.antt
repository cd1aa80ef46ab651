use Rattle.mq_unify.specs.Rows.{lent_rows}
use Rattle.mq_unify.proofs.StandsLemmas.{is_most_general, lent_terms, no_general, none_apart}
use Rattle.mq_unify.proofs.general.most_general.Goals as goal

pub returns-then-are_apart-clause-none : goal.returns-then-are_apart-clause-none
returns-then-are_apart-clause-none c =
    none_apart c.args.shape (lent_rows c.args.must.now) c.as_slice-all.result.now
    (lent_terms c.args.shape (lent_rows c.args.must.now) c.in_ok-terms.terms.items
    c.as_slice-all.result.now c.as_slice-all.ensures.value
    (record { matched = c.in_ok-terms.ensures.matched; unlike = c.in_ok-terms.ensures.unlike }))
    (c.are_apart.ensures c.if-are_apart.true)

pub returns-then-not-branch-clause-none : goal.returns-then-not-branch-clause-none
returns-then-not-branch-clause-none c =
    no_general c.args.shape (lent_rows c.args.must.now) c.as_slice-all.result.now
    (lent_terms c.args.shape (lent_rows c.args.must.now) c.in_ok-terms.terms.items
    c.as_slice-all.result.now c.as_slice-all.ensures.value
    (record { matched = c.in_ok-terms.ensures.matched; unlike = c.in_ok-terms.ensures.unlike }))
    c.new-bindings.result.bindings.items c.new-bindings.ensures
    (c.in_ok-unify_all.ensures.apart c.if-not-branch.true)

pub returns-clause-some : goal.returns-clause-some
returns-clause-some c = λ sound.
    is_most_general c.args.shape (lent_rows c.args.must.now) c.as_slice-all.result.now
    (lent_terms c.args.shape (lent_rows c.args.must.now) c.in_ok-terms.terms.items
    c.as_slice-all.result.now c.as_slice-all.ensures.value
    (record { matched = c.in_ok-terms.ensures.matched; unlike = c.in_ok-terms.ensures.unlike }))
    c.new-bindings.result.bindings.items c.new-bindings.ensures c.args.prefix.now
    c.unify_all.new.bindings.bindings.items c.unify_all.new.bindings.normal
    (c.in_ok-unify_all.ensures.same c.if-not-branch.false) sound _ _
    c.in_ok-client.ensures.text c.in_ok-user.ensures.text c.in_ok-client.ensures.passes
    c.in_ok-user.ensures.passes
