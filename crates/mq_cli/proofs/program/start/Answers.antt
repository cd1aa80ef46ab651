use Rattle.std.proofs.Common.{◌∙◌, ◌==◌, ℕ, List, Option, ap, subst, sym, map, string_bytes}
use Rattle.std.proofs.Common.{codes, cond, refl}
use Rattle.mq_world.specs.World.{World}
use Rattle.mq_cli.specs.CommandLine.{faults_in, given, rules_given}
use Rattle.mq_cli.specs.Program.{script_file, limits_given, IsScript}
use Rattle.mq_cli.specs.Program.{WritesFront}
use Rattle.mq_cli.proofs.ProgramLemmas.{memory_only, none_from_map, shown_two, shown_three}
use Rattle.mq_cli.proofs.ProgramLemmas.{shown_unreadable, usage_memory, usage_done, begins_empty}
use Rattle.mq_cli.proofs.ProgramLemmas.{begins_given}
use Rattle.mq_cli.proofs.ProgramLemmas.{script_shown, BeginsIn-some, WritesFront-none, prefix_given}
use Rattle.mq_cli.proofs.program.start.Goals as goal

-- ## The words are not understood, or there was no memory

pub returns-in-Err-clause-with_files : goal.returns-in-Err-clause-with_files
returns-in-Err-clause-with_files g c = λ before understood taken not_unread not_failed.
    let memory = memory_only (faults_in (map string_bytes c.args.words.now)) c.in-Err.fault
    understood c.in-Err.ensures.err in
    absurd (not_failed (usage_memory c.in-Err.fault c.report_usage.result _ _ _
    c.report_usage.ensures.shows memory).0)

pub returns-in-Err-clause-answered : goal.returns-in-Err-clause-answered
returns-in-Err-clause-answered g c = λ script before understood acl file to_come taken not_failed.
    let memory = memory_only (faults_in (map string_bytes c.args.words.now)) c.in-Err.fault
    understood c.in-Err.ensures.err in
    absurd (not_failed (usage_memory c.in-Err.fault c.report_usage.result _ _ _
    c.report_usage.ensures.shows memory).0)

pub returns-in-Err-clause-prefix : goal.returns-in-Err-clause-prefix
returns-in-Err-clause-prefix g c = λ understood.
    let words = map string_bytes c.args.words.now in
    let memory = memory_only (faults_in words) c.in-Err.fault understood c.in-Err.ensures.err
    in
    let untouched =
    (usage_memory c.in-Err.fault c.report_usage.result _ _ _ c.report_usage.ensures.shows
    memory).1 in
    let begun = BeginsIn-some (rules_given words) (given (codes "acl-file") words)
    (limits_given words) in (
      begun.0,
      begun.1,
      subst (WritesFront begun.0 (script_file (given (codes "script") words))
          (g.S.Source.to_come c.args.input.now) (g.W.Sink.taken c.args.out.now)) (sym untouched)
          (WritesFront-none begun.0 _ _ _),
    )

pub returns-in-Err-clause-usage : goal.returns-in-Err-clause-usage
returns-in-Err-clause-usage g c =
    λ faulty. (refl, (c.in-Err.fault, c.in-Err.ensures.err, c.report_usage.ensures.shows))

pub returns-in-Err-clause-flushed : goal.returns-in-Err-clause-flushed
returns-in-Err-clause-flushed g c = λ not_unread not_failed.
    (usage_done c.in-Err.fault c.report_usage.result _ _ _ c.report_usage.ensures.shows not_unread
    not_failed).1

pub returns-in-Err-clause-quiet : goal.returns-in-Err-clause-quiet
returns-in-Err-clause-quiet g c = λ not_unread not_failed.
    c.report_usage.ensures.quiet
    (usage_done c.in-Err.fault c.report_usage.result _ _ _ c.report_usage.ensures.shows
    not_unread not_failed).0

-- ## The script is answered

pub returns-in-Ok-run_options-clause-with_files : goal.returns-in-Ok-run_options-clause-with_files
returns-in-Ok-run_options-clause-with_files g c = λ before understood taken not_unread not_failed.
    let done = c.in-Ok-run_options.ensures.ok before taken in
    let w : World = done.0 in
    let words = map string_bytes c.args.words.now in
    let script : List ℕ = done.2 in (
      w,
      begins_given words c.in-Ok.options w c.in-Ok.ensures.ok done.1,
      script,
      subst (λ (file : Option (List ℕ)). IsScript (script_file file)
          (g.S.Source.to_come c.args.input.now) script) c.in-Ok.ensures.ok.script done.3,
      record {
        written = done.4.written;
        ended = c.exit_status.ensures ∙ ap (λ (n : ℕ). cond {A = ℕ} (n == 0) 0 1)
            done.4.counts.refused;
      },
    )

pub returns-in-Ok-run_options-clause-answered : goal.returns-in-Ok-run_options-clause-answered
returns-in-Ok-run_options-clause-answered g c =
    λ script before understood acl file to_come taken not_failed.
    let done = c.in-Ok-run_options.ensures.ok before taken in
    let words = map string_bytes c.args.words.now in
    let limited = begins_empty (rules_given words) _ (limits_given words) done.0 acl
    (begins_given words c.in-Ok.options done.0 c.in-Ok.ensures.ok done.1) in
    let same = script_shown _ _ done.2 script (ap script_file c.in-Ok.ensures.ok.script ∙ file)
    to_come done.3 in
    rw (sym limited, sym same) (record {
      written = done.4.written;
      ended = c.exit_status.ensures ∙ ap (λ (n : ℕ). cond {A = ℕ} (n == 0) 0 1)
          done.4.counts.refused;
    })

pub returns-in-Ok-run_options-clause-prefix : goal.returns-in-Ok-run_options-clause-prefix
returns-in-Ok-run_options-clause-prefix g c = λ understood.
    prefix_given (map string_bytes c.args.words.now) c.in-Ok.options _ _ _ c.in-Ok.ensures.ok
    c.run_options.ensures.prefix

-- ## The run fails

pub returns-clause-with_files : goal.returns-clause-with_files
returns-clause-with_files g c = λ before understood taken not_unread not_failed.
    absurd (shown_two c.in-Err-run_options.failure c.report.result c.report.ensures.status
    not_unread
    not_failed)

pub returns-clause-answered : goal.returns-clause-answered
returns-clause-answered g c = λ script before understood acl file to_come taken not_failed.
    let no_acl = none_from_map string_bytes c.in-Ok.options.acl_file _ c.in-Ok.ensures.ok.acl_file
    acl in
    let no_file = ap script_file c.in-Ok.ensures.ok.script ∙ file in
    absurd (not_failed (shown_three c.in-Err-run_options.failure c.report.result
    c.report.ensures.status (c.in-Err-run_options.ensures.err no_acl no_file)))

pub returns-clause-prefix : goal.returns-clause-prefix
returns-clause-prefix g c = λ understood.
    prefix_given (map string_bytes c.args.words.now) c.in-Ok.options _ _ _ c.in-Ok.ensures.ok
    c.run_options.ensures.prefix

pub returns-clause-unreadable : goal.returns-clause-unreadable
returns-clause-unreadable g c = λ two.
    c.in-Err-run_options.ensures.unreadable
    (shown_unreadable c.in-Err-run_options.failure c.report.result c.report.ensures.status two)

pub returns-clause-flushed : goal.returns-clause-flushed
returns-clause-flushed g c = λ not_unread not_failed.
    absurd (shown_two c.in-Err-run_options.failure c.report.result c.report.ensures.status
    not_unread
    not_failed)

pub returns-clause-quiet : goal.returns-clause-quiet
returns-clause-quiet g c = λ not_unread not_failed.
    absurd (shown_two c.in-Err-run_options.failure c.report.result c.report.ensures.status
    not_unread
    not_failed)

-- ## What every end says

pub returns-in-Ok-run_options-clause-unread : goal.returns-in-Ok-run_options-clause-unread
returns-in-Ok-run_options-clause-unread g c =
    λ file script. c.run_options.ensures.unread file
    (ap script_file c.in-Ok.ensures.ok.script ∙ script)

pub returns-clause-unread : goal.returns-clause-unread
returns-clause-unread g c =
    λ file script. c.run_options.ensures.unread file
    (ap script_file c.in-Ok.ensures.ok.script ∙ script)

pub returns-in-Ok-run_options-clause-unbuffered : goal.returns-in-Ok-run_options-clause-unbuffered
returns-in-Ok-run_options-clause-unbuffered g c =
    λ asked failed. c.run_options.ensures.unbuffered (c.in-Ok.ensures.ok.unbuffered.1 asked) failed

pub returns-clause-unbuffered : goal.returns-clause-unbuffered
returns-clause-unbuffered g c =
    λ asked failed. c.run_options.ensures.unbuffered (c.in-Ok.ensures.ok.unbuffered.1 asked) failed

pub returns-in-Err-clause-unbuffered : goal.returns-in-Err-clause-unbuffered
returns-in-Err-clause-unbuffered g c = λ _ failed. absurd (failed refl)

pub returns-in-Err-clause-unread : goal.returns-in-Err-clause-unread
returns-in-Err-clause-unread g c = λ _ _. refl

pub returns-in-Ok-run_options-clause-usage : goal.returns-in-Ok-run_options-clause-usage
returns-in-Ok-run_options-clause-usage g c = λ faulty. absurd (faulty c.in-Ok.ensures.no_fault)

pub returns-clause-usage : goal.returns-clause-usage
returns-clause-usage g c = λ faulty. absurd (faulty c.in-Ok.ensures.no_fault)

pub returns-in-Ok-run_options-clause-flushed : goal.returns-in-Ok-run_options-clause-flushed
returns-in-Ok-run_options-clause-flushed g c = λ _ _. c.in-Ok-run_options.ensures.flushed

pub returns-in-Ok-run_options-clause-quiet : goal.returns-in-Ok-run_options-clause-quiet
returns-in-Ok-run_options-clause-quiet g c = λ _ _. refl
