use Rattle.std.proofs.Common.{◌≡◌, ◌∙◌, ◌∷◌, ap, sym}
use Rattle.mq_topic.specs.Levels.{levels, levels_left}
use Rattle.mq_topic.specs.Matching.{level_matches, levels_match_by}
use Rattle.mq_topic.specs.Texts.{wildcards_fit}
use Rattle.mq_topic.proofs.Walk.{levels_match_nil}
use Rattle.mq_acl.specs.Filled.{filled}
use Rattle.mq_acl.proofs.FilledLemmas.{filled_levels, levels_filled, fit_level, fit_rest, short_name}
use Rattle.mq_acl.proofs.FilledLemmas.{none_left}
use Rattle.mq_acl.proofs.filled.Names.match_levels.Goals as goal

pub loop-filter_rest-init : goal.loop-filter_rest-init
loop-filter_rest-init c = (
  c.requires.filter,
  ap (λ ls. levels_match_by level_matches ls (levels c.as_bytes.result.now))
      (sym (levels_filled c.args.self.client.now c.args.self.user.now c.args.filter.now))
      ∙ ap (λ t. levels_match_by level_matches
      (levels (filled c.args.self.client.now c.args.self.user.now c.args.filter.now)) (levels t))
      c.as_bytes.ensures.value,
)

pub returns-in_default-name_rest : goal.returns-in_default-name_rest
returns-in_default-name_rest c =
    let client = c.args.self.client.now in
    let user = c.args.self.user.now in
    let wanted = c.split_first.result.0.now in
    let after = levels_left c.split_first.result.1 in
    let left : levels_left c.loop-filter_rest.filter_rest ≡ wanted ∷ after =
    ap levels_left c.in-Some.is ∙ c.split_first.ensures in
    let fits = ap wildcards_fit (sym left) ∙ c.loop-filter_rest.invariant.0 in
    let level = fit_level wanted after fits (sym c.is_last_hash.ensures ∙ c.if-is_last_hash.false) in
    sym (short_name client user wanted after c.requires.client c.requires.user level)
    ∙ (λ i. levels_match_by level_matches (filled_levels client user (sym left i))
    (levels_left (sym c.in_default-name_rest.is i)))
    ∙ c.loop-filter_rest.invariant.1

pub behind-requires-clause-level : goal.behind-requires-clause-level
behind-requires-clause-level c =
    let wanted = c.split_first.result.0.now in
    let after = levels_left c.split_first.result.1 in
    let left : levels_left c.loop-filter_rest.filter_rest ≡ wanted ∷ after =
    ap levels_left c.in-Some.is ∙ c.split_first.ensures in
    let fits = ap wildcards_fit (sym left) ∙ c.loop-filter_rest.invariant.0 in
    fit_level wanted after fits (sym c.is_last_hash.ensures ∙ c.if-is_last_hash.false)

pub returns-in_default-behind : goal.returns-in_default-behind
returns-in_default-behind c =
    let client = c.args.self.client.now in
    let user = c.args.self.user.now in
    let after = levels_left c.split_first.result.1 in
    let left = ap levels_left c.in-Some.is ∙ c.split_first.ensures in
    sym (c.in_default-behind.ensures (filled_levels client user after))
    ∙ (λ i. levels_match_by level_matches (filled_levels client user (sym left i))
    (levels_left (sym c.in-Some-name_rest.is i)))
    ∙ c.loop-filter_rest.invariant.1

pub loop-filter_rest-preserved : goal.loop-filter_rest-preserved
loop-filter_rest-preserved c =
    let client = c.args.self.client.now in
    let user = c.args.self.user.now in
    let wanted = c.split_first.result.0.now in
    let after = levels_left c.split_first.result.1 in
    let left : levels_left c.loop-filter_rest.filter_rest ≡ wanted ∷ after =
    ap levels_left c.in-Some.is ∙ c.split_first.ensures in (
      fit_rest wanted after (ap wildcards_fit (sym left) ∙ c.loop-filter_rest.invariant.0),
      sym (c.in-Some-behind.ensures (filled_levels client user after))
          ∙ (λ i. levels_match_by level_matches (filled_levels client user (sym left i))
          (levels_left (sym c.in-Some-name_rest.is i)))
          ∙ c.loop-filter_rest.invariant.1,
    )

pub returns : goal.returns
returns c =
    none_left c.loop-filter_rest.name_rest c.is_none.result c.is_none.ensures
    ∙ sym (levels_match_nil level_matches c.loop-filter_rest.name_rest)
    ∙ ap (λ f. levels_match_by level_matches
    (filled_levels c.args.self.client.now c.args.self.user.now (levels_left f))
    (levels_left c.loop-filter_rest.name_rest)) (sym c.in_default.is)
    ∙ c.loop-filter_rest.invariant.1
