use Rattle.std.proofs.Common.{◌≡◌, ◌≢◌, ◌<◌, Err, ⊎_elim, ap, rules}
use Rattle.mq_acl.specs.Rows.{rows_by, out_of_memory}
use Rattle.mq_acl.specs.declared.fault.AclKind.TheVariants as kinds
use Rattle.mq_acl.proofs.FaultLemmas.{text_fault}
use Rattle.mq_acl.proofs.acl.Acl.read_by.Goals as goal

pub returns-in_err-rows-clause-memory : goal.returns-in_err-rows-clause-memory
returns-in_err-rows-clause-memory c =
    let fault = c.in_err-rows.field-0.0 in
    let shown : fault.kind ≡ kinds.Memory → fault ≡ out_of_memory =
    (λ is_memory. ⊎_elim (λ same. same)
    (λ own. absurd ((text_fault c.args.rules c.args.text.now fault own).0 is_memory))
    c.in_err-rows.ensures.rows) in
    search rules

pub returns-in_err-rows-clause-line : goal.returns-in_err-rows-clause-line
returns-in_err-rows-clause-line c =
    let fault = c.in_err-rows.field-0.0 in
    let shown : fault.kind ≢ kinds.Memory → (rows_by c.args.rules c.args.text.now ≡ Err fault)
    × (0 < fault.line) =
    (λ is_own. ⊎_elim (λ same. absurd (is_own (ap (λ f. f.kind) same)))
    (λ own. (own, (text_fault c.args.rules c.args.text.now fault own).1)) c.in_err-rows.ensures.rows) in
    search rules

pub returns-in-Ok-clause-rows : goal.returns-in-Ok-clause-rows
returns-in-Ok-clause-rows c = search rules
