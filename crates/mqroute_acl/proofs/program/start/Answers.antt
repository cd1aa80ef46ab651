use Rattle.std.proofs.Common.{subst}
use Rattle.mq_acl_args.specs.CommandLine.{question_view}
use Rattle.mqroute_acl.specs.Program.{IsAnswer}
use Rattle.mqroute_acl.proofs.program.start.Goals as goal

pub returns-in-Ok-answer-clause-answered : goal.returns-in-Ok-answer-clause-answered
returns-in-Ok-answer-clause-answered g c = λ none read written.
    let question = question_view c.in-Ok.request.question in
    let known = g.I.Read.remaining c.args.input.now in
    let outcome = c.in-Ok-answer.outcome in (
      question,
      outcome,
      c.in-Ok.ensures.ok.asked.question,
      c.in-Ok.ensures.ok.once,
      subst (λ rules. IsAnswer rules known question outcome) c.in-Ok.ensures.ok.asked.rules
          c.in-Ok-answer.ensures.ok,
      c.status.ensures,
    )
