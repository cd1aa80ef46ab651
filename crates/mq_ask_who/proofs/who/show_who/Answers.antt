use Rattle.std.specs.Option.{option_copied}
use Rattle.std.proofs.Common.{List, subst, sym, true, ap, ◌∙◌, ◌≡◌}
use Rattle.std.proofs.Common.{string_bytes, None, rules, filter, ℕ}
use Rattle.std.proofs.lemmas.Result.{IfOk-weaker, on_ok_weaker}
use Rattle.mq_acl.specs.Views.{row_views}
use Rattle.mq_differences.specs.declared.difference.Difference.{Difference}
use Rattle.mq_who.specs.Who.{IsListing}
use Rattle.mq_ask_who.specs.Who.{IsWho, is_shown}
use Rattle.mq_ask_who.specs.WhoShown.{permissions_text, refused_directions}
use Rattle.mq_ask.proofs.LimitLemmas.{with_limit}
use Rattle.mq_print.specs.Lists.{list_view}
use Rattle.mq_ask_who.proofs.who.show_who.Goals as goal

pub returns-clause-ok : goal.returns-clause-ok
returns-clause-ok g c =
    let found = c.in_ok-permissions.ensures.ok in
    let rules = c.args.options.rules in
    let wanted = c.args.wanted.now in
    let only = option_copied c.args.selection.only in
    let is : IsWho rules c.args.list.text.now wanted c.args.selection.access only
    c.outcome_of-outcome.result = record {
      rows = row_views found.rows;
      read = found.are_rows.read;
      shown = c.outcome_of-outcome.ensures rules found.rows wanted
          (subst (λ (all : List Difference). IsListing rules true found.rows wanted all)
          (sym c.deref.ensures.value) found.granted);
    } in
    IfOk-weaker c.print_outcome.result _ _ (λ shown e. rw e is) c.print_outcome.ensures.ok

pub returns-clause-limited : goal.returns-clause-limited
returns-clause-limited g c =
    on_ok_weaker c.print_outcome.result
    (λ written. λ rules words. (
      string_bytes c.add_limit.new.text,
      written,
      (string_bytes c.in_ok-text.text, c.in_ok-add_limit.ensures.words rules words),
    )) c.print_outcome.ensures.printed

pub returns-clause-json : goal.returns-clause-json
returns-clause-json g c =
    on_ok_weaker c.print_outcome.result
    (λ written. λ json none.
    let rules' = c.args.options.rules in
    let only = option_copied c.args.selection.only in
    let access = c.args.selection.access in
    let permissions = c.in_ok-permissions.permissions in
    let traffic : c.map-traffic.result ≡ None = search (rules) in
    let refused : c.deref-2.result.now ≡ refused_directions rules' c.args.wanted.now access =
    c.deref-2.ensures.value ∙ c.in_ok-refused.ensures
    ∙ ap (λ (w : List ℕ). refused_directions rules' w access) c.in_ok-filter.ensures.ok in
    record {
      permissions = permissions;
      are = c.in_ok-permissions.ensures.ok;
      text = string_bytes c.add_limit.new.text;
      text_is = with_limit rules' _ _ _
          (c.in_ok-text.ensures json traffic ∙ (λ i. permissions_text (list_view c.args.list)
          (refused i) (filter (is_shown access only) permissions.granted.items)
          permissions.refused.items))
          (λ own. ap string_bytes (c.in_ok-add_limit.ensures.own own))
          (λ is. c.in_ok-add_limit.ensures.object is json);
      written = written;
    }) c.print_outcome.ensures.printed
