use Rattle.std.proofs.Common.{sym, ◌∙◌, ap, subst}
use Rattle.mq_cover.specs.Remainders.{marks_view}
use Rattle.mq_cover.specs.Names.{fits_start}
use Rattle.mq_cover.specs.Choices.{IsBest}
use Rattle.mq_cover.proofs.ChoiceLemmas.{best_is, none_best}
use Rattle.mq_cover.proofs.choice.best_level.Goals as goal

pub returns-then-fits-clause-best : goal.returns-then-fits-clause-best
returns-then-fits-clause-best c =
    let marks = marks_view c.args.marks in
    let level = c.unwrap_or-level.ensures in
    subst (λ level. IsBest c.args.start marks c.args.others c.args.must.now level.now) (sym level)
    (best_is c.args.start marks c.args.others c.args.must.now c.demanded.result c.at.result
    (record { others = c.requires.others; marks = c.requires.marks; must = c.requires.must })
    (record {
      some = c.demanded.ensures.some;
      none = c.demanded.ensures.none;
      fits = c.demanded.ensures.fits;
    }) c.at.ensures
    (sym (ap (λ level. fits_start c.args.start level.now) level) ∙ sym c.fits.ensures
    ∙ c.if-fits.true))

pub returns-else-fits-clause-best : goal.returns-else-fits-clause-best
returns-else-fits-clause-best c =
    none_best c.args.start (marks_view c.args.marks) c.args.others c.args.must.now
    c.demanded.result c.at.result
    (record { others = c.requires.others; marks = c.requires.marks; must = c.requires.must })
    (record {
      some = c.demanded.ensures.some;
      none = c.demanded.ensures.none;
      fits = c.demanded.ensures.fits;
    }) c.at.ensures
    (sym (ap (λ level. fits_start c.args.start level.now) c.unwrap_or-level.ensures)
    ∙ sym c.fits.ensures ∙ c.if-fits.false)
