use Rattle.std.proofs.Common.{Bool, List, ℕ, None, true, ◌≡◌, subst, sym}
use Rattle.std.proofs.lemmas.Result.{IfErr-weaker}
use Rattle.mq_acl.specs.declared.row.Row.{Row}
use Rattle.mq_witness.specs.Limits.{has_short_levels, long_line}
use Rattle.mq_who.specs.Faults.{IsWhoFault}
use Rattle.mq_who.specs.Made.{IsMade}
use Rattle.mq_who.proofs.permissions.listed.Goals as goal

pub returns-clause-fault : goal.returns-clause-fault
returns-clause-fault c =
    let short : long_line c.args.rows.now ≡ None = cc in
    let made : IsMade c.args.rules c.args.allows c.args.rows.now c.args.wanted.now
    c.deref.result.now =
    subst (λ (l : List Row). IsMade c.args.rules c.args.allows c.args.rows.now c.args.wanted.now l)
    (sym c.deref.ensures.value) c.in_ok-made.ensures in
    IfErr-weaker c.changes.result (λ fault. (allows : Bool) (wanted : List ℕ)
    → IsMade c.args.rules allows c.args.rows.now wanted c.deref.result.now
    → long_line c.args.rows.now ≡ None → has_short_levels wanted ≡ true
    → IsWhoFault c.args.rules c.args.rows.now wanted c.args.steps fault)
    (IsWhoFault c.args.rules c.args.rows.now c.args.wanted.now c.args.steps)
    (λ fault f. f c.args.allows c.args.wanted.now made short c.requires) c.changes.ensures.fault
