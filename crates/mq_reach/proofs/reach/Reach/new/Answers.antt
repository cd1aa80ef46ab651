use Rattle.std.proofs.Common.{◌≡◌, true, sym, subst}
use Rattle.std.specs.List.{filter, list_all}
use Rattle.mq_acl.specs.Access.{grants, is_deny}
use Rattle.mq_acl.specs.declared.access.Direction.TheVariants.{Reading}
use Rattle.mq_witness.specs.Limits.{has_short_levels}
use Rattle.mq_reach.specs.ByOwner.{AreGrouped}
use Rattle.mq_reach.proofs.ReachLemmas.{all-short}
use Rattle.mq_reach.proofs.reach.Reach.new.Goals as goal

pub invariant_of-result : goal.invariant_of-result
invariant_of-result c =
    let is = c.in_ok-asked.ensures.rows in
    record {
      grants_grouped = subst (λ l. AreGrouped (filter (λ row. grants Reading row.access) l)
          c.in_ok-granting.field-0) (sym is) c.in_ok-granting.ensures;
      denies_grouped = subst (λ l. AreGrouped (filter (λ row. is_deny row.access) l)
          c.in_ok-denying.field-0) (sym is) c.in_ok-denying.ensures;
      all_short = subst (λ l. list_all (λ row. has_short_levels row.filter) l ≡ true) (sym is)
          (all-short c.args.rows.now c.in_ok-asked.ensures.short);
    }
