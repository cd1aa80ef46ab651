use Rattle.std.specs.Option.{option_copied}
use Rattle.std.proofs.Common.{◌∙◌, ap, subst}
use Rattle.std.specs.Io.KnownBytes.{Appends}
use Rattle.std.proofs.lemmas.Result.{IfOk-weaker, on_ok_weaker}
use Rattle.mq_acl.specs.Views.{row_views}
use Rattle.mq_ask_who.specs.AnyShown.{any_text}
use Rattle.mq_ask_who.specs.ReachAny.{IsReachedByAny}
use Rattle.mq_print.specs.Lists.{list_view}
use Rattle.mq_ask_who.proofs.reach_any.show_reach_any.Goals as goal

pub returns-clause-ok : goal.returns-clause-ok
returns-clause-ok g c =
    let found = c.in_ok-found.ensures.ok in
    let rules = c.args.options.rules in
    let user = option_copied c.args.user in
    let is : IsReachedByAny rules c.args.list.text.now user c.args.wanted.now
    c.outcome_of-outcome.result = record {
      rows = row_views found.rows;
      read = found.are_rows.read;
      shown = c.outcome_of-outcome.ensures rules found.rows user c.args.wanted.now found.shown;
    } in
    IfOk-weaker c.print_outcome.result _ _ (λ shown e. rw e is) c.print_outcome.ensures.ok

pub returns-clause-json : goal.returns-clause-json
returns-clause-json g c =
    on_ok_weaker c.print_outcome.result
    (λ written. λ json. record {
      found = c.in_ok-found.found;
      is_found = c.in_ok-found.ensures.ok;
      written = subst (Appends (g.W.Write.contents c.args.out.now)
          (g.W.Write.contents c.print_outcome.new.out))
          (c.in_ok-text.ensures json ∙ ap (any_text (list_view c.args.list)
          (option_copied c.args.user) c.args.wanted.now) c.as_ref.ensures.value) written;
    }) c.print_outcome.ensures.printed
