use Rattle.std.proofs.Common.{◌∙◌, ◌&&◌, ap, refl, sym, string_bytes}
use Rattle.std.specs.List.{list_all}
use Rattle.std.proofs.lemmas.Bool.{and_from}
use Rattle.mq_cover.specs.Names.{is_choice}
use Rattle.mq_cover.specs.Paths.{levels_of}
use Rattle.mq_shapes.specs.Filled.{text_levels}
use Rattle.mq_shapes.proofs.LeftLemmas.{left_as, left_fit, left_hits, name_levels, name_matched}
use Rattle.mq_shapes.proofs.found.Texts.topic.Goals as goal

pub find-requires-clause-must : goal.find-requires-clause-must
find-requires-clause-must c =
    let texts = c.args.self.now.must.items in
    left_fit (is_choice c.args.others) c.deref-3.result.now c.deref-3.result.now (text_levels texts)
    (λ i. c.deref-3.result.now)
    (left_as c.in_ok-must.must.items c.deref-3.result.now texts c.deref.result.now
    c.deref-3.ensures.value c.deref.ensures.value c.in_ok-must.ensures) c.requires.must

pub find-requires-clause-cover : goal.find-requires-clause-cover
find-requires-clause-cover c =
    let texts = c.args.self.now.cover.items in
    left_fit (is_choice c.args.others) c.deref-4.result.now c.deref-4.result.now (text_levels texts)
    (λ i. c.deref-4.result.now)
    (left_as c.in_ok-cover.cover.items c.deref-4.result.now texts c.deref-2.result.now
    c.deref-4.ensures.value c.deref-2.ensures.value c.in_ok-cover.ensures) c.requires.cover

pub returns-in_default-clause-none : goal.returns-in_default-clause-none
returns-in_default-clause-none c = λ ls suitable few.
    let must = left_as c.in_ok-must.must.items c.deref-3.result.now c.args.self.now.must.items
    c.deref.result.now c.deref-3.ensures.value c.deref.ensures.value c.in_ok-must.ensures in
    let cover = left_as c.in_ok-cover.cover.items c.deref-4.result.now
    c.args.self.now.cover.items c.deref-2.result.now c.deref-4.ensures.value
    c.deref-2.ensures.value c.in_ok-cover.ensures in
    sym (left_hits ls c.deref-3.result.now c.deref-4.result.now _ _ must cover)
    ∙ c.in_ok-path.ensures.none c.in_default.is ls suitable few

pub returns-clause-some : goal.returns-clause-some
returns-clause-some c =
    let must = left_as c.in_ok-must.must.items c.deref-3.result.now c.args.self.now.must.items
    c.deref.result.now c.deref-3.ensures.value c.deref.ensures.value c.in_ok-must.ensures in
    let cover = left_as c.in_ok-cover.cover.items c.deref-4.result.now
    c.args.self.now.cover.items c.deref-2.result.now c.deref-4.ensures.value
    c.deref-2.ensures.value c.in_ok-cover.ensures in
    name_matched c.args.start c.deref-3.result.now c.deref-4.result.now _ _
    (levels_of c.in-Some.path) (string_bytes c.in_ok-text_on.field-0) c.requires.front must cover
    c.in_ok-text_on.ensures (c.in_ok-path.ensures.some c.in-Some.path c.in-Some.is)

pub returns-clause-pass : goal.returns-clause-pass
returns-clause-pass c = λ test plain dollar fit.
    let texts = c.args.self.now.must.items in
    let path = c.in-Some.path in
    let both = and_from (test c.args.others.plain.now) (test c.args.others.dollar.now) plain dollar in
    ap (list_all test) (name_levels c.args.start c.deref-3.result.now c.deref-4.result.now
    (levels_of path) (string_bytes c.in_ok-text_on.field-0) c.requires.front
    c.in_ok-text_on.ensures (c.in_ok-path.ensures.some path c.in-Some.is))
    ∙ c.in_ok-path.ensures.known path c.in-Some.is test
    (and_from (test c.args.others.plain.now && test c.args.others.dollar.now) _ both refl)
    (left_fit test c.deref-3.result.now c.deref-3.result.now (text_levels texts)
    (λ i. c.deref-3.result.now)
    (left_as c.in_ok-must.must.items c.deref-3.result.now texts c.deref.result.now
    c.deref-3.ensures.value c.deref.ensures.value c.in_ok-must.ensures) fit)
