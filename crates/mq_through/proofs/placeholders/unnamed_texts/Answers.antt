use Rattle.std.proofs.Common.{◌&&◌, ◌||◌, ℕ, List, String, Global, ap, ◌∙◌, not, refl}
use Rattle.std.specs.List.{list_any}
use Rattle.std.specs.Option.{option_copied}
use Rattle.std.specs.Str.{bytes_eq}
use Rattle.mq_acl.specs.declared.rules.Rules.TheVariants.{Own}
use Rattle.mq_topic.specs.Levels.{levels}
use Rattle.mq_differences.specs.Differences.{has_text, is_part, is_user_part}
use Rattle.mq_differences.proofs.PlaceholderLemmas.{all_shown}
use Rattle.mq_through.specs.Clients.{is_named}
use Rattle.mq_through.proofs.placeholders.unnamed_texts.Goals as goal

pub returns : goal.returns
returns c = λ text.
    let made = not (is_named c.args.comparison.now text) in
    let id = λ (t : List ℕ). bytes_eq text t && made in
    let topic = list_any (bytes_eq text) (levels c.text.result.now) in
    c.in_ok-add_levels.ensures text
    ∙ ap (λ b. b || (topic && made)) (c.in_ok-add_unnamed-2.ensures text
    ∙ ap (λ b. b || id c.unwrap_or.result.now) (c.in_ok-add_unnamed.ensures text
    ∙ ap (λ (texts : List (String Global)). has_text texts text || id c.args.client.now)
    c.new-all.ensures.items))
    ∙ all_shown Own text c.args.client.now c.args.user c.unwrap_or.result c.args.client
    topic made c.unwrap_or.ensures refl
    ∙ ap (λ t. (is_part Own text c.args.client.now
    || is_user_part Own text (option_copied c.args.user)
    || list_any (bytes_eq text) (levels t)) && made) c.text.ensures.text
