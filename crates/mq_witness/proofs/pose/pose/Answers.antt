use Rattle.std.proofs.Common.{◌≡◌, ◌&&◌, ◌||◌, ap, not, refl, subst, true, ◌∙◌}
use Rattle.std.specs.Option.{option_copied}
use Rattle.std.proofs.lemmas.Bool.{and_from}
use Rattle.mq_cover.specs.Remainders.{remainders_fit}
use Rattle.mq_witness.specs.Fresh.{AreFresh, is_literal}
use Rattle.mq_witness.specs.Ready.{is_front}
use Rattle.mq_witness.specs.Roots.{AreCover, AreMust, NoneConcerned, all_begin}
use Rattle.mq_witness.specs.Rows.{lent_rows}
use Rattle.mq_witness.specs.declared.fresh.Fresh.{Fresh}
use Rattle.mq_witness.proofs.AnswerLemmas.{of_either}
use Rattle.mq_witness.proofs.FrontLemmas.{names_fit_by}
use Rattle.mq_witness.proofs.RootLemmas.{roots_decide}
use Rattle.mq_witness.proofs.TryLemmas.{none_at, some_at}
use Rattle.mq_witness.proofs.pose.pose.Goals as goal

pub returns-in_default-clause-none : goal.returns-in_default-clause-none
returns-in_default-clause-none c =
    subst (NoneConcerned c.args.front (lent_rows c.args.must.now) (option_copied c.args.user))
    c.are_begun-dollar.ensures (none_at c.in_ok-roots.field-0 _ c.in_default.is
    c.in_ok-roots.ensures.none)

pub returns-clause-some : goal.returns-clause-some
returns-clause-some c =
    let front = c.args.front in
    let user = option_copied c.args.user in
    let must = lent_rows c.args.must.now in
    let cover = lent_rows c.args.cover.now in
    let dollar = c.are_begun-dollar.result in
    let roots = some_at c.in_ok-roots.field-0 c.in-Some.roots
    (λ roots. AreMust front must user dollar roots.items) c.in-Some.is
    c.in_ok-roots.ensures.some in
    let covered = subst (λ rs. AreCover front cover user dollar rs c.in_ok-cover.cover.items)
    c.deref.ensures.value c.in_ok-cover.ensures in
    record {
      fresh = c.fresh_for-fresh.ensures.either;
      kind = refl;
      decides = roots_decide front user c.args.names must cover c.in-Some.roots.items
          c.in_ok-must.must.items c.in_ok-cover.cover.items
          (subst (λ d. AreMust front must user d c.in-Some.roots.items)
          c.are_begun-dollar.ensures roots) c.in_ok-must.ensures.covers
          (subst (λ d. AreCover front cover user d c.in_ok-must.must.items
          c.in_ok-cover.cover.items) c.are_begun-dollar.ensures covered);
      fit = λ p fit right. c.in_ok-must.ensures.fit p ∙ and_from _ _ right (roots.fit p fit);
    }

-- the texts that stand for others are those of the one kind or of the other
pub invariant_of-result : goal.invariant_of-result
invariant_of-result c =
    let fresh = c.fresh_for-fresh.result in
    let dollar = c.are_begun-dollar.result in
    let must = c.in_ok-must.must.items in
    let roots = some_at c.in_ok-roots.field-0 c.in-Some.roots
    (λ roots. AreMust c.args.front (lent_rows c.args.must.now) (option_copied c.args.user)
    dollar roots.items) c.in-Some.is c.in_ok-roots.ensures.some in
    let by = λ (P : Fresh → Type 0). of_either P fresh c.args.fresh.plain c.args.fresh.dollar
    c.fresh_for-fresh.ensures.either in
    let fits = λ (f : Fresh) (is : AreFresh f)
    (h : remainders_fit (is_literal f) c.in-Some.roots.items ≡ true).
    c.in_ok-must.ensures.fit (is_literal f)
    ∙ and_from _ _ (names_fit_by (is_literal f) c.args.names is.states) h in
    record {
      can_ask = record {
        fresh = by AreFresh c.requires.plain.fresh c.requires.dollar.fresh;
        must_fits = by (λ f. remainders_fit (is_literal f) must ≡ true)
            (fits c.args.fresh.plain c.requires.plain.fresh
            (roots.fit (is_literal c.args.fresh.plain) c.requires.plain.must_fits))
            (fits c.args.fresh.dollar c.requires.dollar.fresh
            (roots.fit (is_literal c.args.fresh.dollar) c.requires.dollar.must_fits));
        cover_fits = by (λ f. remainders_fit (is_literal f) c.in_ok-cover.cover.items ≡ true)
            (c.in_ok-cover.ensures.fit (is_literal c.args.fresh.plain) c.requires.plain.cover_fits)
            (c.in_ok-cover.ensures.fit (is_literal c.args.fresh.dollar)
            c.requires.dollar.cover_fits);
        begin = subst (λ d. is_front fresh d must ≡ true) c.are_begun-dollar.ensures
            (subst (λ rs. is_front fresh dollar rs ≡ true) c.deref-2.ensures.value
            (c.fresh_for-fresh.ensures.begin c.args.front c.requires.begin
            (ap (λ rs. not (not c.args.front && dollar) || all_begin rs) c.deref-2.ensures.value
            ∙ ap (λ b. not (not c.args.front && dollar) || b) c.in_ok-must.ensures.begin
            ∙ roots.begin)));
      };
    }
