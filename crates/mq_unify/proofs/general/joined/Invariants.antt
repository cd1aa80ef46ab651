use Rattle.std.proofs.Common.{◌≡◌, ℕ, Bool, true, List, string_bytes}
use Rattle.std.specs.List.{list_all}
use Rattle.mq_unify.specs.Bindings.{bindings_fit, general_text}
use Rattle.mq_unify.specs.Clients.{values_from}
use Rattle.mq_unify.specs.Joined.{join_levels}
use Rattle.mq_unify.specs.Unlike.{FreshPass}
use Rattle.mq_unify.proofs.general.joined.Given as goal

abbrev pub invariant-loop-place : goal.invariant-loop-place
invariant-loop-place l =
    (string_bytes l.text
    ≡ join_levels (values_from (general_text l.prefix l.bindings.bindings.items) l.first l.place))
    × ((test : List ℕ → Bool) → FreshPass l.prefix test
    → bindings_fit test l.bindings.bindings.items ≡ true
    → list_all test
    (values_from (general_text l.prefix l.bindings.bindings.items) l.first l.place) ≡ true)
