use Rattle.std.proofs.Common.{rules, ap, map}
use Rattle.std.specs.Cmp.Lexicographic.{nat_list_cmp_total}
use Rattle.std.specs.Rc.{rc_str_bytes}
use Rattle.std.proofs.lemmas.Result.{on_ok_weaker}
use Rattle.std.proofs.lemmas.List.Sorted.{ranks_by, answers_always}
use Rattle.mq_subscriptions.specs.Turns.{turn_of}
use Rattle.mq_subscriptions.proofs.AscendingLemmas.{ascending-sorted, stable-kept}
use Rattle.mq_subscriptions.proofs.subscriptions.turn.sort_by_share.Goals as goal

pub returns-clause-sorted : goal.returns-clause-sorted
returns-clause-sorted c =
    on_ok_weaker c.sort_by.result
    (λ sorted. ascending-sorted (λ t. rc_str_bytes t.share) c.sort_by.new.self.items
    (sorted _ (ranks_by nat_list_cmp_total (λ t. rc_str_bytes t.share))
    (answers_always _ _ _ (λ f a r g h. search rules)))) c.sort_by.ensures.sorted

pub returns-clause-stable : goal.returns-clause-stable
returns-clause-stable c =
    λ share. ap (map turn_of)
    (stable-kept (λ t. rc_str_bytes t.share) c.args.turns.now.items c.sort_by.new.self.items
    (c.sort_by.ensures.stable _ (ranks_by nat_list_cmp_total (λ t. rc_str_bytes t.share))
    (answers_always _ _ _ (λ f a r g h. search rules))) share)
