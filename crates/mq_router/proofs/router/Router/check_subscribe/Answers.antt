use Rattle.std.proofs.Common.{◌≡◌, ◌∙◌, ap, Err, None, Option, Some, String, Global, is_some, refl}
use Rattle.std.proofs.Common.{string_bytes, arith}
use Rattle.std.proofs.lemmas.Result.{err_from_is_err_and}
use Rattle.std.specs.Option.{option_map}
use Rattle.mq_world.specs.Views.{options_of}
use Rattle.mq_router.proofs.RouterLemmas.{refused-as, subscribe-client, subscribe-filter}
use Rattle.mq_router.proofs.RouterLemmas.{subscribe-shared, subscribe-accepted}
use Rattle.mq_router.proofs.router.Router.check_subscribe.Goals as goal

pub returns-in_err-check_client-clause-err : goal.returns-in_err-check_client-clause-err
returns-in_err-check_client-clause-err c =
    grind (arith, err_from_is_err_and, refused-as, subscribe-client)

pub returns-in_err-sub_filter-clause-err : goal.returns-in_err-sub_filter-clause-err
returns-in_err-sub_filter-clause-err c =
    let p = err_from_is_err_and c.from_residual-in_err-sub_filter.result
    c.from_residual-in_err-sub_filter.ensures.1 in
    refused-as _ c.from_residual-in_err-sub_filter.result c.in_err-sub_filter.field-0.0
    (p.1 ∙ ap (λ e. Err e) p.2)
    (subscribe-filter c.args.self.now c.args.client.now c.args.text.now (options_of c.args.options)
    _ c.in_ok-check_client.ensures.refused c.in_err-sub_filter.ensures.err)

some_shown : (o : Option (String Global)) → is_some o ≡ is_some (option_map string_bytes o)
some_shown None = refl
some_shown (Some x) = refl

pub returns-then-is_shared_no_local-clause-err : goal.returns-then-is_shared_no_local-clause-err
returns-then-is_shared_no_local-clause-err c = grind (arith, subscribe-shared, some_shown)

pub returns-clause-ok : goal.returns-clause-ok
returns-clause-ok c = grind (arith, subscribe-accepted, some_shown)
