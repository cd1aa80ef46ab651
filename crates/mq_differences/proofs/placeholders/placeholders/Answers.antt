use Rattle.std.proofs.Common.{◌&&◌, ◌||◌, ℕ, ap, refl, sym, subst, ◌∙◌, All, Global, List, String}
use Rattle.std.specs.List.{list_any}
use Rattle.std.specs.Str.{bytes_eq}
use Rattle.std.proofs.lemmas.List.Elements.{All-nil}
use Rattle.mq_topic.specs.Levels.{levels}
use Rattle.mq_witness.specs.Ruled.{is_stand_in}
use Rattle.mq_differences.specs.Differences.{IsUnnamed, has_text, is_part, is_user_part}
use Rattle.std.specs.Option.{option_copied}
use Rattle.mq_differences.proofs.PlaceholderLemmas.{all_shown}
use Rattle.mq_differences.proofs.placeholders.placeholders.Goals as goal

pub returns-clause-shown : goal.returns-clause-shown
returns-clause-shown c = λ text.
    let asked = c.args.asked.now in
    let made = is_stand_in asked text in
    let id = λ (t : List ℕ). is_part asked.rules text t && made in
    let topic = list_any (bytes_eq text) (levels c.text.result.now) in
    c.in_ok-add_levels.ensures.shown text
    ∙ ap (λ b. b || (topic && made)) (c.in_ok-add_id-2.ensures.shown text
    ∙ ap (λ b. b || id c.unwrap_or.result.now) (c.in_ok-add_id.ensures.shown text
    ∙ ap (λ (texts : List (String Global)). has_text texts text || id c.args.client.now)
    c.new-all.ensures.items))
    ∙ all_shown asked.rules text c.args.client.now c.args.user c.unwrap_or.result c.args.client
    topic made c.unwrap_or.ensures refl
    ∙ ap (λ t. (is_part asked.rules text c.args.client.now
    || is_user_part asked.rules text (option_copied c.args.user)
    || list_any (bytes_eq text) (levels t)) && made) c.text.ensures.text

pub returns-clause-unnamed : goal.returns-clause-unnamed
returns-clause-unnamed c =
    c.in_ok-add_levels.ensures.unnamed (c.in_ok-add_id-2.ensures.unnamed
    (c.in_ok-add_id.ensures.unnamed
    (subst (All (IsUnnamed c.args.asked.now)) (sym c.new-all.ensures.items)
    (All-nil (IsUnnamed c.args.asked.now)))))
