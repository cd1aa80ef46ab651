use Rattle.std.proofs.Common.{◌≡◌, ◌∙◌, Some, None, inl, inr, refl, subst, sym, option_map}
use Rattle.std.proofs.Common.{string_bytes}
use Rattle.mq_world.specs.World.{Limits, fresh_world, ruled, within}
use Rattle.mq_router.specs.StandsFor.{StandsFor}
use Rattle.mq_cli.specs.Program.{limits_by, script_file, IsScript, AnswersScript}
use Rattle.mq_cli.proofs.ProgramLemmas.{IfErr-map, IfOk-begun, IfOk-file, BeginsIn-some}
use Rattle.mq_cli.proofs.ProgramLemmas.{WritesFront-file, WritesFront-none}
use Rattle.mq_cli.proofs.program.run_options.Goals as goal

pub returns-in_err-access-clause-prefix : goal.returns-in_err-access-clause-prefix
returns-in_err-access-clause-prefix g c =
    let given = limits_by c.args.options.now.max_retained c.args.options.now.max_queued in
    let begun = BeginsIn-some c.args.options.now.rules
    (option_map string_bytes c.args.options.now.acl_file) given in
    (begun.0, begun.1, WritesFront-none begun.0 _ _ _)

-- ## The script is in a file

pub returns-in-Some-clause-ok : goal.returns-in-Some-clause-ok
returns-in-Some-clause-ok g c = λ before taken.
    let given = limits_by c.args.options.now.max_retained c.args.options.now.max_queued in
    let w = ruled c.args.options.now.rules (within given (fresh_world c.in_ok-access.access)) in
    let limited = subst (λ (limits : Limits). StandsFor c.with_limits.result
    (within limits (fresh_world c.in_ok-access.access))) c.limits.ensures c.with_limits.ensures in
    let stands = c.with_rules-router.ensures _ limited in
    IfOk-begun c.run_file.result _ _ given w
    (IsScript (script_file (option_map string_bytes c.args.options.now.script))
    (g.S.Source.to_come c.args.input.now))
    (λ v script summary. AnswersScript v script before (g.W.Sink.taken c.run_file.new.out) summary)
    (c.in_ok-access.access, c.in_ok-access.ensures.ok, refl)
    (IfOk-file c.run_file.result c.in-Some.file.now _ _
    (λ script summary. AnswersScript w script before (g.W.Sink.taken c.run_file.new.out) summary)
    c.in-Some.ensures (c.run_file.ensures.ok w before stands taken))

pub returns-in-Some-clause-prefix : goal.returns-in-Some-clause-prefix
returns-in-Some-clause-prefix g c =
    let given = limits_by c.args.options.now.max_retained c.args.options.now.max_queued in
    let w = ruled c.args.options.now.rules (within given (fresh_world c.in_ok-access.access)) in
    let limited = subst (λ (limits : Limits). StandsFor c.with_limits.result
    (within limits (fresh_world c.in_ok-access.access))) c.limits.ensures c.with_limits.ensures in
    let stands = c.with_rules-router.ensures _ limited in (
      w,
      (c.in_ok-access.access, c.in_ok-access.ensures.ok, refl),
      WritesFront-file w c.in-Some.file.now _ _ _ _ c.in-Some.ensures
          (c.run_file.ensures.prefix w stands),
    )

pub returns-in-Some-clause-err : goal.returns-in-Some-clause-err
returns-in-Some-clause-err g c = λ _ none.
    absurd (let bad : Some c.in-Some.file.now ≡ None = c.in-Some.ensures ∙ none in cc)

pub returns-in-Some-clause-unreadable : goal.returns-in-Some-clause-unreadable
returns-in-Some-clause-unreadable g c =
    IfErr-map c.run_file.result _ _ (λ failure shown two. elim shown [
      | inl unopened ↦ (refl, unopened.1)
      | inr three ↦ absurd (let bad : 2 ≡ 3 = sym two ∙ three in cc)
    ]) c.run_file.ensures.err

-- ## The script is the input

pub returns-in-None-clause-ok : goal.returns-in-None-clause-ok
returns-in-None-clause-ok g c = λ before taken.
    let given = limits_by c.args.options.now.max_retained c.args.options.now.max_queued in
    let w = ruled c.args.options.now.rules (within given (fresh_world c.in_ok-access.access)) in
    let limited = subst (λ (limits : Limits). StandsFor c.with_limits.result
    (within limits (fresh_world c.in_ok-access.access))) c.limits.ensures c.with_limits.ensures in
    let stands = c.with_rules-router.ensures _ limited in
    IfOk-begun c.run_source.result _ _ given w
    (IsScript (script_file (option_map string_bytes c.args.options.now.script))
    (g.S.Source.to_come c.args.input.now))
    (λ v script summary. AnswersScript v script before (g.W.Sink.taken c.run_source.new.out)
    summary)
    (c.in_ok-access.access, c.in_ok-access.ensures.ok, refl)
    (rw (sym c.in-None.ensures) (c.run_source.ensures.ok w before stands taken))

pub returns-in-None-clause-prefix : goal.returns-in-None-clause-prefix
returns-in-None-clause-prefix g c =
    let given = limits_by c.args.options.now.max_retained c.args.options.now.max_queued in
    let w = ruled c.args.options.now.rules (within given (fresh_world c.in_ok-access.access)) in
    let limited = subst (λ (limits : Limits). StandsFor c.with_limits.result
    (within limits (fresh_world c.in_ok-access.access))) c.limits.ensures c.with_limits.ensures in
    let stands = c.with_rules-router.ensures _ limited in (
      w,
      (c.in_ok-access.access, c.in_ok-access.ensures.ok, refl),
      rw (sym c.in-None.ensures) (c.run_source.ensures.prefix w stands),
    )

pub returns-in-None-clause-unread : goal.returns-in-None-clause-unread
returns-in-None-clause-unread g c =
    λ file named. absurd (let bad : None ≡ Some file = c.in-None.ensures ∙ named in cc)

pub returns-in-None-clause-unreadable : goal.returns-in-None-clause-unreadable
returns-in-None-clause-unreadable g c =
    IfErr-map c.run_source.result _ _
    (λ failure three two. absurd (let bad : 2 ≡ 3 = sym two ∙ three in cc))
    c.run_source.ensures.err
