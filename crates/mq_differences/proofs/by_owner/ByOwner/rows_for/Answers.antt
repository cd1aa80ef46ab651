use Rattle.std.proofs.Common.{◌≡◌, ◌++◌, Bool, ◌∙◌, subst, rules}
use Rattle.std.specs.List.{filter}
use Rattle.std.specs.List.Sorted.{IsPermutation}
use Rattle.std.proofs.lemmas.List.Sorted.{IsNonDecreasingBy-from_sort_by_key}
use Rattle.mq_acl.specs.RowsByOwner.{is_everyones}
use Rattle.mq_acl.specs.Views.{row_view}
use Rattle.mq_differences.specs.ByOwner.{is_own}
use Rattle.mq_differences.specs.declared.marks.Marked.{Marked}
use Rattle.mq_differences.proofs.OrderLemmas.{merged}
use Rattle.mq_differences.proofs.ByOwnerLemmas.{own_apart}
use Rattle.mq_differences.proofs.by_owner.ByOwner.rows_for.Goals as goal

pub returns : goal.returns
returns c = λ rows grouped placed.
    let everyone : Marked → Bool = (λ m. is_everyones (row_view m.row.now).who) in
    let own : Marked → Bool = (λ m. is_own c.args.clients (row_view m.row.now).who) in
    let both : c.extend_from_slice.new.self.items ≡ filter everyone rows ++ filter own rows =
    c.in_ok-extend_from_slice.ensures.items
    ∙ (λ i. (c.in_ok-all.ensures.items ∙ c.everyones.ensures ∙ grouped.everyone) i
    ++ (c.own.ensures ∙ grouped.own c.args.clients) i) in
    merged rows c.sort_by_key.new.self.items everyone own placed
    (λ m. own_apart c.args.clients (row_view m.row.now).who)
    (subst (λ l. IsPermutation l c.sort_by_key.new.self.items) both
    c.in_ok-sort_by_key.ensures.permutation)
    (IsNonDecreasingBy-from_sort_by_key (λ (m : Marked). m.place) c.sort_by_key.new.self.items
    c.in_ok-sort_by_key.ensures.sorted (λ a r q k. search rules))
