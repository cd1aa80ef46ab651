use Rattle.std.proofs.Common.{rules, refl, sym, ◌∙◌, subst, arith}
use Rattle.std.specs.Option.{option_copied}
use Rattle.mq_acl.specs.AccessLists.{allowed}
use Rattle.mq_router.specs.delivery.Fates.{IsFound, Receivers}
use Rattle.mq_router.proofs.FoundLemmas.{found_stays}
use Rattle.mq_router.proofs.delivery.fates.Fates.may_read.Goals as goal

pub returns-in_default-clause-value : goal.returns-in_default-clause-value
unfolding allowed
returns-in_default-clause-value c = search rules

pub invariant_of-self-then-self-gt-FEW : goal.invariant_of-self-then-self-gt-FEW
invariant_of-self-then-self-gt-FEW c =
    let asked : IsFound c.self.inside.access.now c.self.inside.name.now (option_copied c.args.user)
    c.may_read-may_read.result =
    λ client. grind (
      arith,
      c.if-is_common.ensures.common refl c.args.client.now client (option_copied c.args.user),
    ) in
    let found : IsFound c.self-2.inside.access.now c.self-2.inside.name.now
    (option_copied c.args.user) c.may_read-may_read.result =
    subst (λ (r : Receivers). IsFound r.access r.topic (option_copied c.args.user)
    c.may_read-may_read.result) (sym (c.self-2.view_is ∙ c.is_common.ensures.same)) asked in (
      record {
        of_last = found;
        of_users = found_stays c.self-2.inside.access.now c.self-2.inside.name.now
            c.self-2.inside.by_user c.insert.new.self c.args.user c.may_read-may_read.result
            c.insert.result found c.insert.ensures.updates c.insert.ensures.err
            c.self-2.invariant.0.of_users;
      },
      c.self-2.invariant.1,
    )
