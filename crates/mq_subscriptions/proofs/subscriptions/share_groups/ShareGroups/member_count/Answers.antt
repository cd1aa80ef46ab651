use Rattle.std.proofs.Common.{◌≡◌, ◌∙◌, ◌+◌, ℕ, length, sym, ap, arith, sum_by}
use Rattle.std.specs.Map.{values_of}
use Rattle.std.proofs.lemmas.List.Sums.{sum_by-cons}
use Rattle.mq_topic.specs.Prefixes.{capped}
use Rattle.mq_subscriptions.specs.Filters.{GroupList, group_rows}
use Rattle.mq_subscriptions.proofs.EntryLemmas.{group-number}
use Rattle.mq_subscriptions.proofs.subscriptions.share_groups.ShareGroups.member_count.Goals as goal

pub loop-group-init : goal.loop-group-init
loop-group-init c =
    let is : (n : ℕ) → 0 + n ≡ n = λ n. omega arith in (
      λ f. ap (λ l. capped (0 + sum_by length l))
          (c.into_iter-group-iterator.ensures.into_iter_gives ∙ c.values-group-items.ensures.rest)
          ∙ ap capped (is (sum_by length (values_of c.self.inside.by_share.entries)))
          ∙ ap capped (sym (group-number f c.self.inside.by_share.entries))
          ∙ ap (λ (gs : GroupList). capped (length (group_rows f gs))) c.self.view_is,
      omega arith,
    )

pub loop-group-preserved : goal.loop-group-preserved
loop-group-preserved c =
    let rest = ap (sum_by length) c.in-Some.ensures.steps in
    let first = sum_by-cons length c.in-Some.group.now c.next.new.self in (
      λ f. omega (arith, c.loop-group.invariant.0 f, rest, first),
      omega arith,
    )

pub returns : goal.returns
returns c = λ f.
    omega (arith, c.loop-group.invariant.0 f, ap (sum_by length) c.in-None.ensures.steps.0)
