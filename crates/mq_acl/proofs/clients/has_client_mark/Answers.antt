use Rattle.std.proofs.Common.{lit<, rules, tests, ◌∙◌, ap}
use Rattle.std.specs.List.{list_any}
use Rattle.std.proofs.lemmas.Iterator.Splits.{YieldsList-from_str_split}
use Rattle.std.proofs.lemmas.Iterator.Search.{any_from_yields_List}
use Rattle.mq_acl.specs.Clients.{is_client_mark}
use Rattle.mq_topic.specs.Levels.{levels}
use Rattle.mq_acl.proofs.clients.has_client_mark.Goals as goal

pub returns : goal.returns
returns c = any_from_yields_List is_client_mark _ _ _ c.any.ensures.ran
    (YieldsList-from_str_split 47 c.text.result.now (lit< tt) c.split.ensures.text
    c.split.ensures.has_more c.split.ensures.pattern) (λ x b q k. search (rules, tests))
    ∙ ap (λ text. list_any is_client_mark (levels text)) c.text.ensures.text
