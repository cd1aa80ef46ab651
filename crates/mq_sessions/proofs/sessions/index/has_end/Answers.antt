use Rattle.std.proofs.Common.{false, sym, ap, ◌∙◌, ◌==◌, Some}
use Rattle.std.specs.List.{list_any}
use Rattle.std.specs.Option.{option_eq, option_map_or}
use Rattle.mq_sessions.specs.Ends.{end_of, has_end, views_of}
use Rattle.mq_sessions.specs.Views.{view_of}
use Rattle.mq_sessions.proofs.EndLemmas.{any-found, ends_then, same-end}
use Rattle.mq_sessions.proofs.sessions.index.has_end.Goals as goal

pub returns-in-None : goal.returns-in-None
returns-in-None c =
    let es = c.args.sessions.now.entries in
    ap (λ o. option_map_or (ends_then c.args.end) o false) c.in-None.ensures.value
    ∙ sym (any-found c.args.end c.as_str.result.now es c.len-count.ensures.ordered)
    ∙ ap (λ bs. list_any (has_end (c.args.end, bs)) (views_of es)) c.as_str.ensures.value

pub returns-in-Some : goal.returns-in-Some
returns-in-Some c =
    let es = c.args.sessions.now.entries in
    c.eq.ensures ∙ ap (λ o. option_eq (λ a b. a == b) o (Some c.args.end)) c.end.ensures
    ∙ same-end (end_of (view_of c.in-Some.session.now)) c.args.end
    ∙ ap (λ o. option_map_or (ends_then c.args.end) o false) c.in-Some.ensures.value
    ∙ sym (any-found c.args.end c.as_str.result.now es c.len-count.ensures.ordered)
    ∙ ap (λ bs. list_any (has_end (c.args.end, bs)) (views_of es)) c.as_str.ensures.value
