use Rattle.std.proofs.Common.{rules}
use Rattle.std.specs.Rc.{rc_str_bytes}
use Rattle.std.specs.Cmp.Lexicographic.{nat_list_cmp_total}
use Rattle.std.proofs.lemmas.Result.{on_ok_weaker}
use Rattle.std.proofs.lemmas.List.Sorted.{ranks_by, answers_always}
use Rattle.mq_subscriptions.proofs.FoundLemmas.{sorted-matches, stable-matches}
use Rattle.mq_subscriptions.proofs.subscriptions.matches.sort_by_client.Goals as goal

pub returns-clause-sorted : goal.returns-clause-sorted
returns-clause-sorted c =
    on_ok_weaker c.sort_by.result (λ sorted. sorted-matches c.sort_by.new.self.items
    (sorted _ (ranks_by nat_list_cmp_total (λ x. rc_str_bytes x.client.now))
    (answers_always _ _ _ (λ f a r g h. search rules)))) c.sort_by.ensures.sorted

pub returns-clause-stable : goal.returns-clause-stable
returns-clause-stable c =
    stable-matches c.args.matches.now.items c.sort_by.new.self.items
    (c.sort_by.ensures.stable _ (ranks_by nat_list_cmp_total (λ x. rc_str_bytes x.client.now))
    (answers_always _ _ _ (λ f a r g h. search rules)))
