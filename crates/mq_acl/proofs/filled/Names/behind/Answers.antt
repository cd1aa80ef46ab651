use Rattle.std.proofs.Common.{◌∙◌, ◌++◌, ◌∷◌, [], ap, sym, false}
use Rattle.std.specs.Prelude.{codes}
use Rattle.std.specs.Option.{option_map_or}
use Rattle.std.proofs.lemmas.List.{append-nil}
use Rattle.mq_topic.proofs.ByteLemmas.{text_is}
use Rattle.mq_topic.specs.Levels.{levels, levels_left}
use Rattle.mq_topic.specs.Matching.{level_matches, levels_match_by}
use Rattle.mq_acl.specs.Filled.{filled}
use Rattle.mq_acl.proofs.FilledLemmas.{filled_level, matches_end, matches_slash, matches_not, plus_first}
use Rattle.mq_acl.proofs.FilledLemmas.{is_empty, goes_on, same_first}
use Rattle.mq_acl.proofs.filled.Names.behind.Goals as goal

pub returns-then-eq : goal.returns-then-eq
returns-then-eq c after =
    let e = text_is c.args.level.now (codes "+") (sym c.eq.ensures ∙ c.if-eq.true) in
    ap (λ t. levels_match_by level_matches
    (levels (filled c.args.self.client.now c.args.self.user.now t) ++ after)
    (levels c.args.name.now)) e
    ∙ plus_first c.args.name.now _ c.behind_first.result after c.behind_first.ensures

pub returns-in_err-strip : goal.returns-in_err-strip
returns-in_err-strip c after =
    let text = filled c.args.self.client.now c.args.self.user.now c.args.level.now in
    let plain = filled_level c.args.self.client.now c.args.self.user.now c.args.level.now
    c.requires.client c.requires.user (sym c.eq.ensures ∙ c.if-eq.false) c.requires.level in
    matches_not text c.args.name.now after plain
    (λ e. c.in_err-strip.ensures.none [] (e ∙ sym (append-nil text)))
    (λ left e. c.in_err-strip.ensures.none (47 ∷ left) e)
    ∙ ap (λ r. option_map_or (λ rest. levels_match_by level_matches after (levels_left rest)) r false)
    (sym c.from_residual.ensures)

pub returns-in_default : goal.returns-in_default
returns-in_default c after =
    let text = filled c.args.self.client.now c.args.self.user.now c.args.level.now in
    let plain = filled_level c.args.self.client.now c.args.self.user.now c.args.level.now
    c.requires.client c.requires.user (sym c.eq.ensures ∙ c.if-eq.false) c.requires.level in
    matches_end text c.args.name.now after plain
    (c.in_ok-strip.ensures.some
    ∙ ap (λ t. text ++ t) (is_empty c.in_ok-strip.field-0.now c.in_default.ensures.cases)
    ∙ append-nil text)

pub returns-then-first-eq47 : goal.returns-then-first-eq47
returns-then-first-eq47 c after =
    let text = filled c.args.self.client.now c.args.self.user.now c.args.level.now in
    let plain = filled_level c.args.self.client.now c.args.self.user.now c.args.level.now
    c.requires.client c.requires.user (sym c.eq.ensures ∙ c.if-eq.false) c.requires.level in
    matches_slash text c.args.name.now after c.in-Some.rest.now plain
    (c.in_ok-strip.ensures.some ∙ ap (λ t. text ++ t) (c.in-Some.ensures.cases.0
    ∙ ap (λ b. b ∷ c.in-Some.rest.now) c.if-first-eq47.true))

pub returns-else-first-eq47 : goal.returns-else-first-eq47
returns-else-first-eq47 c after =
    let text = filled c.args.self.client.now c.args.self.user.now c.args.level.now in
    let plain = filled_level c.args.self.client.now c.args.self.user.now c.args.level.now
    c.requires.client c.requires.user (sym c.eq.ensures ∙ c.if-eq.false) c.requires.level in
    let is = c.in_ok-strip.ensures.some ∙ ap (λ t. text ++ t) c.in-Some.ensures.cases.0 in
    matches_not text c.args.name.now after plain
    (λ e. goes_on text c.in-Some.first.now c.in-Some.rest.now c.args.name.now is e)
    (λ left e. c.if-first-eq47.false
    (same_first text c.in-Some.first.now c.in-Some.rest.now left c.args.name.now is e))
