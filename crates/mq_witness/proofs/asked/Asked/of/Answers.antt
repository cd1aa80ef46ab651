use Rattle.std.proofs.Common.{ap, sym, ◌∙◌, false, true}
use Rattle.std.specs.List.{list_all}
use Rattle.mq_witness.specs.Limits.{usable}
use Rattle.mq_witness.specs.Rows.{all_rows, is_user_of, rows_name}
use Rattle.mq_witness.specs.Ruled.{are_whole}
use Rattle.std.proofs.Common.{◌++◌, ◌∷◌, [], string_bytes, subst}
use Rattle.mq_shapes.specs.Prefix.{ArePrefixes}
use Rattle.mq_witness.specs.RuledSearch.{state_row}
use Rattle.mq_witness.proofs.FreshLemmas.{client_begins, client_front}
use Rattle.mq_witness.proofs.ReadyLemmas.{AreNames, can_be_asked}
use Rattle.mq_witness.proofs.TryLemmas.{none_at}
use Rattle.mq_witness.proofs.asked.Asked.of.Goals as goal

pub invariant_of-result : goal.invariant_of-result
invariant_of-result c =
    let all_usable = ap (λ k. list_all usable (all_rows k)) (sym c.deref.ensures.value)
    ∙ c.in_default.ensures.usable in
    let names : AreNames (all_rows c.args.lists.items) c.in_ok-names.names c.in_ok-users.users =
    record {
      named = λ l. c.in_ok-names.ensures l
          ∙ ap (λ k. rows_name l (all_rows k)) c.deref-3.ensures.value;
      users_named = λ l. c.in_ok-users.ensures l
          ∙ ap (λ k. is_user_of l (all_rows k)) c.deref-4.ensures.value;
      all_usable = all_usable;
    } in (
      record {
        asked_can = can_be_asked false names c.in_ok-texts.ensures;
        dollar_can = can_be_asked true names c.in_ok-dollar.ensures;
        begin = client_begins false _ c.in_ok-texts.ensures.client.made;
        dollar_begin = client_front true _ c.in_ok-dollar.ensures.client.made;
        all_usable = all_usable;
        longer = c.in_ok-longest.ensures;
      },
      (
        ap (λ k. are_whole c.args.rules (all_rows k)) (sym c.deref-2.ensures.value)
            ∙ none_at c.marked.result _ c.in_default-marked.is c.marked.ensures.whole,
        record {
          prefixes = subst (λ k. ArePrefixes (all_rows k ++ state_row ∷ [])
              (string_bytes c.in_ok-ruled.ruled.prefixes.plain)
              (string_bytes c.in_ok-ruled.ruled.prefixes.dollar)) c.deref-5.ensures.value
              c.in_ok-ruled.ensures.prefixes;
          users = λ user. c.in_ok-ruled.ensures.users user ∙ names.users_named user;
          states = c.in_ok-ruled.ensures.states;
        },
      ),
    )

pub returns-clause-whole : goal.returns-clause-whole
returns-clause-whole c =
    ap (λ k. are_whole c.args.rules (all_rows k)) (sym c.deref-2.ensures.value)
    ∙ none_at c.marked.result _ c.in_default-marked.is c.marked.ensures.whole
